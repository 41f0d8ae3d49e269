-- What is left spells the same as the whole.
use Rattle.std.proofs.Common.{◌≡◌, ◌^◌, ◌<◌, drop}
use Rattle.join_arguments.specs.Pattern.{spelled}
use Rattle.join_arguments.proofs.pattern.Given as goal

abbrev pub invariant-loop-c : goal.invariant-loop-c
invariant-loop-c l = (l.bits < 16 ^ l.c-index) × (spelled l.bits (drop l.c-index l.argument) ≡ spelled 0 l.argument)
