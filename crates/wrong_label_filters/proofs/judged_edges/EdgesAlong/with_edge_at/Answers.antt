use Rattle.std.proofs.Common.{◌≡◌, ◌+◌, ◌*◌, ℕ, sym, ap, ◌∙◌}
use borrow.Author.Tests.{eq-eqb, ne_eqb}
use Rattle.offsets.specs.Offsets.{offset_of}
use Rattle.offsets.proofs.Places.{offset-place}
use Rattle.view.specs.View.{View, rank_at}
use Rattle.view.proofs.Found.{not-found, found, found-below}
use Rattle.wrong_label_filters.specs.Judged.{in_window}
use Rattle.wrong_label_filters.specs.Windows.{sheet_in}
use Rattle.wrong_label_filters.proofs.judged_edges.EdgesAlong.with_edge_at.Goals as goal

-- the rank at place j is that at the offset with this place
at_place : (w : View) (k j : ℕ) → rank_at w k (offset_of j) ≡ w.near (25 * k + j)
at_place w k j = ap (λ d. w.near (25 * k + d)) (offset-place j)

pub returns-then-j-place : goal.returns-then-j-place
unfolding in_window
returns-then-j-place c = rw (eq-eqb _ _ (c.if-j-place.true ∙ c.place.ensures.0))

pub returns-in_default : goal.returns-in_default
unfolding in_window
returns-in_default c =
    rw (ne_eqb _ _ (λ e. c.if-j-place.false (e ∙ sym c.place.ensures.0)), at_place (sheet_in c.args.self.now) c.args.k c.args.j, not-found _ _ c.in_default.ensures.value)

pub returns-then-edge : goal.returns-then-edge
unfolding in_window
returns-then-edge c =
    rw (
      ne_eqb _ _ (λ e. c.if-j-place.false (e ∙ sym c.place.ensures.0)),
      at_place (sheet_in c.args.self.now) c.args.k c.args.j,
      found-below _ _ c.in-Some.ensures.value,
      found _ _ c.in-Some.ensures.value,
      ← ap (λ e. e.len) c.at-edge.ensures,
      ← ap (λ e. e.ux) c.at-edge.ensures,
      ← ap (λ e. e.uy) c.at-edge.ensures,
      c.if-edge.true,
    ) c.with_edge.ensures

pub returns : goal.returns
unfolding in_window
returns c =
    rw (
      ne_eqb _ _ (λ e. c.if-j-place.false (e ∙ sym c.place.ensures.0)),
      at_place (sheet_in c.args.self.now) c.args.k c.args.j,
      found-below _ _ c.in-Some.ensures.value,
      found _ _ c.in-Some.ensures.value,
      ← c.at-edge.ensures,
      c.if-edge.false,
    )
