use Rattle.std.proofs.Common.{◌≡◌, ◌∙◌, refl, sym, arith, Bool, true, false, not, ◌&&◌, ◌||◌}
use mathlib.Core.Bool.{true≢false}
use Rattle.offsets.specs.Axes.{forward, back}
use Rattle.view.specs.Seen.{view_in}
use Rattle.wrong_label_filters.specs.Frontier.{kink_at}
use Rattle.wrong_label_filters.specs.Lasts.{line_in, line_mark}
use Rattle.wrong_label_filters.proofs.LineEnds.{last-is}
use Rattle.wrong_label_filters.proofs.frontier.LinesAlong.is_end.Goals as goal

-- a rank that is no end is not marked
inner : (a b x y : Bool) → true ≡ not (a || b) → false ≡ (a && x) || (b && y)
inner true b x y e = absurd (true≢false e)
inner false true x y e = absurd (true≢false e)
inner false false x y e = refl

pub returns-then-is_inner : goal.returns-then-is_inner
unfolding line_mark
returns-then-is_inner c =
    let a = c.args in
    let w = view_in a.self.now.view in
    let last = last-is w (line_in a.self.now) a.lasts.now a.k c.first-first.result c.requires.0 c.first-first.ensures.0 (omega (arith, c.first-first.ensures.1, a.self.now.view.sheet.lattice.few)) in
    rw (← last, ← c.from-last.ensures, ← c.first-first.ensures.0)
    (inner _ _ (kink_at w (forward a.self.now.axis) a.k) (kink_at w (back a.self.now.axis) a.k) (sym c.if-is_inner.true ∙ c.is_inner.ensures))

pub returns-then-end_at : goal.returns-then-end_at
unfolding line_mark
returns-then-end_at c = rw (← c.first-first.ensures.0, ← c.forward.ensures, ← c.end_at.ensures, c.if-end_at.true)

pub returns : goal.returns
unfolding line_mark
returns c =
    let a = c.args in
    let w = view_in a.self.now.view in
    let last = last-is w (line_in a.self.now) a.lasts.now a.k c.first-first.result c.requires.0 c.first-first.ensures.0 (omega (arith, c.first-first.ensures.1, a.self.now.view.sheet.lattice.few)) in
    rw (← last, ← c.from-last.ensures, ← c.first-first.ensures.0, ← c.forward.ensures, ← c.end_at.ensures, c.if-end_at.false, ← c.back.ensures) c.end_at-2.ensures
