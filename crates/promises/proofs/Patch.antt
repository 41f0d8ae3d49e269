-- Where no index repeats and the largest-patch switch is on, the points without a mark are the winner of the patches. Assumes nothing.
use mathlib.Core.Path.{◌≡◌, refl, sym, ap, ◌∙◌, fun_ext}
use mathlib.Core.Bool.{Bool, true, false, cond, not, ◌&&◌, false≢true, true≢false}
use mathlib.Core.List.{List}
use Prim.Native.Nat.{ℕ, ◌<◌}
use lib.Dec.{eqb, ltb}
use lib.ListN.{length, get_or}
use borrow.Author.Tests.{lt-ltb, ltb-true}
use Rattle.folds.specs.Below.{some, tally}
use Rattle.folds.proofs.Below.{some_at, some-fails, and-under}
use Rattle.folds.proofs.Marked.{bit_is}
use Rattle.offsets.specs.Offsets.{places}
use Rattle.view.specs.View.{View}
use Rattle.cells.specs.Points.{Point, nowhere}
use Rattle.cells.specs.Cell.{cell_of, joined_by}
use Rattle.grid.specs.Views.{view_of}
use Rattle.grid.specs.InOrder.{CellOrder}
use Rattle.grid.proofs.InOrder.{mirrored}
use Rattle.grid.proofs.Alike.{one_index}
use Rattle.grid.proofs.Joined.{touch-joined}
use Rattle.sheet_file.specs.declared.Settings.{Settings}
use Rattle.marks.specs.Marks.{is_set}
use Rattle.marks.proofs.Byte.{not-not}
use Rattle.patches.specs.Patches.{survives, linked, patch_labels}
use Rattle.patches.specs.Reach.{Reach, here, step, Mirrored}
use Rattle.patches.specs.Search.{NearPlaces}
use Rattle.patches.proofs.Surviving.{survives-lt}
use Rattle.patches.proofs.Closure.{reach-to}
use Rattle.patches.proofs.Labelling.{joins}
use Rattle.patches.proofs.Lattices.{square-near, square-paired, square-places}
use Rattle.components.specs.Components.{winner_of, in_patch, in_other_patch, patch_count, filter_of}
use Rattle.components.specs.WholePatches.{KeptPatch, PatchesCounted}
use Rattle.components.proofs.Whole.{winner-kept, labels-counted}
use Rattle.components.proofs.Marking.{mark-distinct, other-not}
use Rattle.drop_set.specs.Filters.{sides_of, component_marked, components_in, patched_of, measured_of, judged_of}
use Rattle.judging.specs.Judging.{judged_for}
use Rattle.promises.specs.Words.{DistinctIndices, has_other, survivor, joined, kept_rank}
use Rattle.promises.proofs.Bits.{dropped, survivor-is, kept-is}
use Rattle.std.proofs.Math.Bool.{and_comm, and_assoc}
use Rattle.std.proofs.lemmas.Bool.{and_from, and_parts, false_from_ne_true, not-false}

same_kept : {alive alive' : ℕ → Bool} {link link' : ℕ → ℕ → Bool} {K K' : ℕ → Bool} (n : ℕ) → alive ≡ alive' → link ≡ link' → K ≡ K' → KeptPatch alive' link' n K' → KeptPatch alive link n K
same_kept n a l k x = rw (a, l, k) x

same-counted : {alive alive' : ℕ → Bool} {link link' : ℕ → ℕ → Bool} {roots : ℕ → Bool} {patch : ℕ → ℕ → Bool} (n : ℕ) → alive ≡ alive' → link ≡ link' → PatchesCounted alive' link' n roots patch → PatchesCounted alive link n roots patch
same-counted n a l x = rw (a, l) x

module _ (s : Settings) (ps : List Point) (o : CellOrder ps) where
  abbrev view : View
  view = view_of ps

  abbrev sides : List ℕ
  sides = places (sides_of s)

  abbrev drops : List ℕ
  drops = dropped s ps

  abbrev labels : List ℕ
  labels = patch_labels view sides drops

  abbrev win : ℕ
  win = winner_of view.count labels

  abbrev alive : ℕ → Bool
  alive = survives view.count drops

  abbrev link : ℕ → ℕ → Bool
  link = linked view.count view.near sides drops

  sides-near : NearPlaces sides
  sides-near = square-places sides refl

  within : (k : ℕ) → k < view.count → k < length ps
  unfolding view_of
  within k h = h

  both-mirrored : Mirrored view.count view.near
  both-mirrored = record { back = λ k j d hk hj hd e. mirrored ps o k j d (within k hk) (within j hj) hd e }

  largest : KeptPatch alive link view.count (in_patch view.count labels win)
  largest = winner-kept view.count view.near sides drops sides-near square-paired both-mirrored

  patches-counted : PatchesCounted alive link view.count (λ (k : ℕ). eqb (get_or labels k 0) k) (in_patch view.count labels)
  patches-counted = labels-counted view.count view.near sides drops sides-near square-paired both-mirrored

  survivors : (k : ℕ) → survivor s ps k ≡ alive k
  unfolding view_of
  survivors k = survivor-is s ps k

  lives-below : (k : ℕ) → survivor s ps k ≡ true → k < length ps
  lives-below k e = ltb-true k (length ps) (and_parts (ltb k (length ps)) (not (has_other s ps k)) e).0

  steps : (a b : ℕ) → joined s ps a b ≡ link a b
  steps a b =
      and-under (survivor s ps a) (λ e. and-under (survivor s ps b) (λ f. sym (touch-joined ps o (sides_of s) square-near a b (lives-below a e) (lives-below b f))))
      ∙ rw (survivors a, survivors b)

  -- a point of the winner survives
  winner-lives : (k : ℕ) → in_patch view.count labels win k ≡ true → alive k ≡ true
  winner-lives k e = go (some alive view.count) refl
    where
      dead : some alive view.count ≡ false → (a : ℕ) → alive a ≡ false
      dead t a = false_from_ne_true (alive a) (λ q. true≢false (sym q ∙ some-fails alive view.count t a (survives-lt view.count drops a q)))

      go : (b : Bool) → some alive view.count ≡ b → alive k ≡ true
      go true t = let a = some_at alive view.count t in reach-to view.count alive link (joins view.count view.near sides drops) ((largest.whole a.0 a.2).inner k e)
      go false t = absurd (false≢true (sym (largest.none (dead t) k) ∙ e))

  module _ (one : DistinctIndices ps) (on : s.apply_largest_component ≡ true) where
    component-is : (k : ℕ) → k < view.count → component_marked s view drops k ≡ in_other_patch view.count labels win k
    unfolding filter_of
    component-is k h =
        ap (λ (b : Bool). b && is_set (filter_of view sides drops).marks k) on
        ∙ ap (λ (x : ℕ). eqb x 1) (mark-distinct view sides drops k h (λ j l e. one j k (within j l) (within k h) (one_index ps j k (within j l) (within k h) e)))
        ∙ bit_is (in_other_patch view.count labels win k)

    -- no mark: a survivor in the winner
    kept-winner : (k : ℕ) → kept_rank s ps k ≡ in_patch view.count labels win k
    unfolding view_of
    kept-winner k =
        kept-is s ps k
        ∙ and-under (ltb k (length ps)) (λ e. and_comm (not (component_marked s view drops k)) (eqb (get_or drops k 0) 0) ∙ ap (λ (b : Bool). eqb (get_or drops k 0) 0 && not b) (component-is k (ltb-true k (length ps) e)))
        ∙ sym (and_assoc (ltb k (length ps)) (eqb (get_or drops k 0) 0) (not (in_other_patch view.count labels win k)))
        ∙ go (alive k) refl
      where
        go : (b : Bool) → alive k ≡ b → b && not (in_other_patch view.count labels win k) ≡ in_patch view.count labels win k
        go true e = ap not (other-not view.count view.near sides drops win k e) ∙ not-not (in_patch view.count labels win k)
        go false e = sym (false_from_ne_true (in_patch view.count labels win k) (λ t. false≢true (sym e ∙ winner-lives k t)))

    pub largest-kept : KeptPatch (survivor s ps) (joined s ps) (length ps) (kept_rank s ps)
    unfolding view_of
    largest-kept = same_kept (length ps) (fun_ext survivors) (fun_ext (λ (a : ℕ). fun_ext (steps a))) (fun_ext kept-winner) largest

  -- the least rank of each whole patch
  abbrev pub roots : ℕ → Bool
  roots k = eqb (get_or labels k 0) k

  abbrev pub patch_of : ℕ → ℕ → Bool
  patch_of = in_patch view.count labels

  pub all-counted : PatchesCounted (survivor s ps) (joined s ps) (length ps) roots patch_of
  unfolding view_of
  all-counted = same-counted (length ps) (fun_ext survivors) (fun_ext (λ (a : ℕ). fun_ext (steps a))) patches-counted

  pub count-on : s.apply_largest_component ≡ true → (judged_for s ps).components ≡ tally roots (length ps)
  unfolding judged_for judged_of measured_of patched_of components_in filter_of patch_count view_of
  count-on on = ap (λ (b : Bool). cond b (patch_count view.count labels) 0) on

pub count-off : (s : Settings) (ps : List Point) → s.apply_largest_component ≡ false → (judged_for s ps).components ≡ 0
unfolding judged_for judged_of patched_of components_in
count-off s ps off = ap (λ (b : Bool). cond b (filter_of (view_of ps) (places (sides_of s)) (dropped s ps)).components_seen 0) off

-- ---- what follows

below : (s : Settings) (ps : List Point) (k : ℕ) → survivor s ps k ≡ true → k < length ps
below s ps k e = ltb-true k (length ps) (and_parts (ltb k (length ps)) (not (has_other s ps k)) e).0

-- what is reached is a point
pub reached-below : (s : Settings) (ps : List Point) {a k : ℕ} → Reach (survivor s ps) (joined s ps) a k → k < length ps
reached-below s ps {a} (here e) = below s ps a e
reached-below s ps {k = c} (step {b} r e) =
    let t = joined_by (sides_of s) (cell_of (get_or ps b nowhere)) (cell_of (get_or ps c nowhere)) in
    below s ps c (and_parts (survivor s ps c) t (and_parts (survivor s ps b) (survivor s ps c && t) e).1).0

module _ (s : Settings) (ps : List Point) where
  pub none_kept : ((k : ℕ) → k < length ps → has_other s ps k ≡ true) → (k : ℕ) → kept_rank s ps k ≡ false
  none_kept f k = false_from_ne_true (kept_rank s ps k) (λ e. go (sym (kept-is s ps k) ∙ e))
    where
      lone : Bool
      lone = not (component_marked s (view_of ps) (dropped s ps) k)

      zero : Bool
      zero = eqb (get_or (dropped s ps) k 0) 0

      go : ltb k (length ps) && (lone && zero) ≡ true → ⊥
      go e =
          let l = (and_parts (ltb k (length ps)) (lone && zero) e).0 in
          let z = (and_parts lone zero (and_parts (ltb k (length ps)) (lone && zero) e).1).1 in
          let v : survivor s ps k ≡ true = survivor-is s ps k ∙ and_from (ltb k (length ps)) zero l z in
          false≢true (ap not (sym (f k (ltb-true k (length ps) l))) ∙ (and_parts (ltb k (length ps)) (not (has_other s ps k)) v).1)

  -- where there is a survivor, its patch or another is kept
  pub all-marked : KeptPatch (survivor s ps) (joined s ps) (length ps) (kept_rank s ps) → ((k : ℕ) → kept_rank s ps k ≡ false) → (k : ℕ) → k < length ps → has_other s ps k ≡ true
  all-marked most f k h =
      not-false (has_other s ps k)
      (false_from_ne_true (not (has_other s ps k)) (λ t. let p = most.whole k (and_from (ltb k (length ps)) (not (has_other s ps k)) (lt-ltb k (length ps) h) t) in false≢true (sym (f p.seed) ∙ p.outer p.seed (here p.survives))))
