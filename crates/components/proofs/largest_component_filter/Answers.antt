use Rattle.std.proofs.Common.{◌≡◌, List, ℕ}
use Rattle.offsets.specs.Offsets.{places}
use Rattle.view.specs.View.{View, view_at}
use Rattle.marks.specs.Marks.{index_marks}
use Rattle.patches.specs.Patches.{patch_labels}
use Rattle.components.specs.Components.{patch_count, winner_of, others_by, others_of, filter_of}
use Rattle.components.specs.declared.ComponentFilter.{ComponentFilter}
use Rattle.components.proofs.largest_component_filter.Goals as goal

abbrev filter : List ℕ → ℕ → ComponentFilter
filter marks seen = record { marks = marks; components_seen = seen }

-- what the calls give is what the definition gives
composed : (w : View) (sides dropped l o m : List ℕ) (win c : ℕ) → l ≡ patch_labels w sides dropped → win ≡ winner_of w.count l → o ≡ others_by w.count l win → m ≡ index_marks w o → c ≡ patch_count w.count l
    → filter m c ≡ filter_of w sides dropped
unfolding filter_of others_of
composed w sides dropped l o m win c e f g h i = cc

pub returns : goal.returns
returns c xs ys =
    let a = c.args in
    let w = view_at a.sheet.now.lattice.count a.sheet.now.lattice.ranks.now xs ys in
    composed w (places a.sides.now) a.dropped.now _ _ _ _ _ (c.labels.ensures xs ys) c.winner.ensures c.others-outside.ensures (c.by_index.ensures xs ys) c.patches.ensures
