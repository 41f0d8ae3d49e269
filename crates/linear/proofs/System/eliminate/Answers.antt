use mathlib.Core.Bool.{false}
use mathlib.Core.List.{List, []}
use mathlib.Core.Path.{◌≡◌, refl, sym, ◌∙◌}
use Prim.Native.Nat.{ℕ, ◌<◌}
use native.Mathlib.Omega.{arith}
use lib.ListN.{length, get_or, set, length-set}
use lib.Ieee.{Float, nan, eq}
use Rattle.std.proofs.Common.{get_or-set_same}
use Rattle.std.proofs.lemmas.List.Edits.{swap_is}
use Rattle.folds.specs.Arith.{◌⊘◌, zero_f}
use Rattle.float.specs.Constants.{one}
use Rattle.linear.specs.Rows.{entry, matrix_row}
use Rattle.linear.specs.declared.System.{System}
use Rattle.linear.specs.Linear.{pivot_row, swap_rows, swap_entries, reduce_rows, eliminate_by, eliminate_column}
use Rattle.linear.proofs.System.eliminate.Goals as goal

cleared : (i k : ℕ) (s : System) {rows : List (List Float)} {right p : List Float} (out : List (List Float)) → k ≡ pivot_row s.rows i → eq (entry s.rows k i) zero_f ≡ false
    → rows ≡ swap_rows s.rows i k → right ≡ swap_entries s.right i k → p ≡ matrix_row s.rows k → out ≡ reduce_rows p i (one ⊘ entry s.rows k i) rows
    → ◌≡◌ {A = System} (record { rows = out; right = right }) (eliminate_column i s)
unfolding eliminate_column eliminate_by
cleared i k s out found e f g q h = rw (← found, e, h, f, g, q)

pub returns : goal.returns
returns c =
    let i = c.args.i in
    let k = c.pivot_row-best.result in
    let s = c.args.self.now in
    let l : k < length s.rows = omega arith in
    let l' : i < length s.rows = omega arith in
    let f = c.swap.ensures.after ∙ sym (swap_is s.rows k i [] l l') in
    let g = c.swap-2.ensures.after ∙ sym (swap_is s.right k i nan (omega arith) (omega arith)) in
    let n : i < length (set s.rows k (get_or s.rows i [])) = omega (arith, length-set {A = List Float}) in
    cleared _ _ _ _ c.pivot_row-best.ensures.1 c.if-pivot.false f g (rw (f, get_or-set_same) refl) c.reduce_rows.ensures
