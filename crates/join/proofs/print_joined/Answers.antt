-- The buffer has room for the text of any two files.
use Rattle.std.proofs.Common.{arith}
use Rattle.standard_output.proofs.Laws.{printable}
use Rattle.joined_listing.proofs.Whole.{joined-whole}
use Rattle.join.proofs.print_joined.Goals as goal

pub print-requires : goal.print-requires
print-requires g c =
    let e = c.list_joined-written.ensures in
    printable e (joined-whole c.args.left.now c.args.right.now _ _ _ _ (λ k. (c.type_inv.left k).fits) (λ k. (c.type_inv.right k).fits) (omega arith) e) (omega arith)
