-- What one turn more of a loop does, and what its end says. Assumes nothing.
use Rattle.folds.proofs.Run.{run_step, run-done, run-parts, down_step, down-done}
use Rattle.folds.proofs.Below.{some-none, some_more}

pub ruleset turns = (run_step, run-done, run-parts, down_step, down-done)

pub ruleset searched = (some-none, some_more)
