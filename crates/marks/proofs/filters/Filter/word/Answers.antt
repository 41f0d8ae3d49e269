use Rattle.std.proofs.Common.{refl}
use Rattle.marks.proofs.filters.Filter.word.Goals as goal

pub returns-in-Validate : goal.returns-in-Validate
returns-in-Validate c = rw c.in-Validate.is refl

pub returns-in-Orientation : goal.returns-in-Orientation
returns-in-Orientation c = rw c.in-Orientation.is refl

pub returns-in-WrongLabel : goal.returns-in-WrongLabel
returns-in-WrongLabel c = rw c.in-WrongLabel.is refl

pub returns-in-Leaf : goal.returns-in-Leaf
returns-in-Leaf c = rw c.in-Leaf.is refl

pub returns-in-Component : goal.returns-in-Component
returns-in-Component c = rw c.in-Component.is refl
