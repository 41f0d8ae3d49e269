use Prim.Native.Nat.{ℕ, ◌^◌, ◌<◌}
use lib.ListN.{get_or}
use Rattle.map_lines.specs.Page.{part}
use Rattle.map_lines.proofs.Ends.{Ends}
use Rattle.map_lines.proofs.spans.span_along.Given as goal

abbrev pub invariant-loop-key : goal.invariant-loop-key
invariant-loop-key l = (l.most < 2 ^ 32) × Ends (λ (j : ℕ). part l.axis (get_or l.keys j 0)) l.key-index l.least l.most
