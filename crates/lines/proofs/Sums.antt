-- What one turn more of a sum over ranks adds. Assumes nothing.
use Rattle.std.proofs.lemmas.List.Sums.{fold_more}
use Rattle.std.proofs.lemmas.List.{take_all}

pub ruleset sums = (fold_more, take_all)
