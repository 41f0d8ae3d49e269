use Rattle.std.proofs.Common.{ℕ, ◌∙◌, ◌/◌, get_or, rules}
use lib.Ieee.{nan, of_bits}
use Rattle.cells.specs.Points.{Point, indices_of, xs_of, ys_of, strengths_of}
use Rattle.folds.specs.Arith.{f32}
use Rattle.sort.specs.Packed.{packed_places}
use Rattle.points.specs.Held.{at_rank}
use Rattle.points.proofs.Columns.{key-column, field-column}
use Rattle.points.proofs.accepted.Accepted.table.Goals as goal

pub returns : goal.returns
unfolding indices_of xs_of ys_of strengths_of of_bits
returns c =
    let o = c.args.self.now.order in
    let s = o.points in
    let few = s.fit.records.few in
    record {
      keys-are = c.filled.ensures (λ (r : ℕ). get_or o.entries r 0 / packed_places) (λ k r h p. search rules) ∙ rw c.args.self.now.in_cell_order.ordered (key-column s.file.now s.layout few);
      indices-are = c.filled-2.ensures (λ (r : ℕ). (at_rank o r).index) (λ k r h p. search rules) ∙ rw c.args.self.now.in_cell_order.ordered (field-column s.file.now s.layout few 0 (λ (p : Point). p.index));
      xs-are = c.filled-3.ensures (λ (r : ℕ). f32 (at_rank o r).x) (λ k r h p. search rules) ∙ rw c.args.self.now.in_cell_order.ordered (field-column s.file.now s.layout few nan (λ (p : Point). f32 p.x));
      ys-are = c.filled-4.ensures (λ (r : ℕ). f32 (at_rank o r).y) (λ k r h p. search rules) ∙ rw c.args.self.now.in_cell_order.ordered (field-column s.file.now s.layout few nan (λ (p : Point). f32 p.y));
      strengths-are = c.filled-5.ensures (λ (r : ℕ). f32 (at_rank o r).strength) (λ k r h p. search rules) ∙ rw c.args.self.now.in_cell_order.ordered (field-column s.file.now s.layout few nan (λ (p : Point). f32 p.strength));
    }
