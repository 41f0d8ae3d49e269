use Rattle.std.proofs.Common.{ℕ, rules, arith}
use lib.Ieee.{of_bits}
use Rattle.joined.specs.Numbered.{number_at, key_at, index_of, x_of, y_of, strength_of, narrowed}
use Rattle.joined.proofs.Found.{few_numbers, key_inside}
use Rattle.joined.proofs.pair.Joint.table.Goals as goal

pub filled-requires : goal.filled-requires
filled-requires c = let j = c.args.self.now in (omega arith, (few_numbers j, λ k l lives at same range more. (l, key_inside j c.requires k l)))

pub returns : goal.returns
unfolding of_bits
returns c =
    let j = c.args.self.now in
    record {
      keys = c.filled.ensures (λ (r : ℕ). narrowed (key_at j r)) (λ k r h p. search rules);
      indices = c.filled-2.ensures (λ (r : ℕ). index_of j.pair (number_at j r)) (λ k r h p. search rules);
      xs = c.filled-3.ensures (λ (r : ℕ). x_of j.pair (number_at j r)) (λ k r h p. search rules);
      ys = c.filled-4.ensures (λ (r : ℕ). y_of j.pair (number_at j r)) (λ k r h p. search rules);
      strengths = c.filled-5.ensures (λ (r : ℕ). strength_of j.pair (number_at j r)) (λ k r h p. search rules);
    }
