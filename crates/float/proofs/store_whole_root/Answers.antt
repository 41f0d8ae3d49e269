use borrow.Author.Rules.{rules}
use mathlib.Core.Path.{◌≡◌}
use native.Mathlib.Omega.{arith}
use lib.IntN.{pos}
use mir.Syntax.{w32}
use mir.Val.{SFits, to_z}
use Rattle.std.proofs.lemmas.Int.{ints, to_z-of_z}
use Rattle.float.proofs.Whole.{root_small}
use Rattle.float.proofs.store_whole_root.Goals as goal
use Rattle.std.proofs.lemmas.Float.{T_from_true}

pub overflow_cast-words : goal.overflow_cast-words
overflow_cast-words c = omega (arith, ints, root_small _ _ (T_from_true _ c.well_formed.0.1) c.whole_root.ensures c.in-Some.r c.in-Some.is)

pub returns-in-Some-clause-words : goal.returns-in-Some-clause-words
returns-in-Some-clause-words c =
    let r = c.in-Some.r in
    let h = root_small _ _ (T_from_true _ c.well_formed.0.1) c.whole_root.ensures r c.in-Some.is in
    let e : to_z w32 r.root ≡ pos r.root = omega (arith, ints, h) in
    let f : SFits w32 r.power = search rules in
    let g : SFits w32 r.remainder = search rules in
    rw (← c.whole_root.ensures, c.in-Some.is, e, to_z-of_z w32 _ f, to_z-of_z w32 _ g)
