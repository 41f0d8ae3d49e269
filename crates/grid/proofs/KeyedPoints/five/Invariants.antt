use Rattle.std.proofs.Common.{◌≡◌, ℕ, ◌+◌, ◌≤◌, List, length}
use Rattle.view.specs.View.{ranks_size}
use Rattle.grid.specs.Tables.{entry_in, spliced}
use Rattle.grid.specs.Sweep.{standing_from, Reached}
use Rattle.grid.proofs.KeyedPoints.five.Given as goal

-- rank p is the first that does not stand before the next target, and e entries are written
pub record Written (key : ℕ → ℕ) (n target to : ℕ) (ranks₀ ranks : List ℕ) (p e : ℕ) : Type 0 where
  pub most : e ≤ 5
  pub size : length ranks ≡ ranks_size
  pub reached : Reached n key p (target + e)
  pub five : ranks ≡ spliced to e (standing_from n key target) ranks₀

abbrev pub invariant-loop-e : goal.invariant-loop-e
invariant-loop-e l = Written (entry_in l.self.points.keys.now) l.self.points.count l.target l.at l.initial.ranks l.ranks l.p l.e
