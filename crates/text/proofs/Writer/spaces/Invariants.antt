use Prim.Native.Nat.{ℕ}
use mathlib.Core.List.{List}
use Rattle.text.specs.Text.{bytes, each}
use Rattle.text.specs.Stored.{Stored}
use Rattle.text.proofs.Writer.spaces.Given as goal

abbrev pub space : ℕ → List ℕ
space k = bytes " "

abbrev pub invariant-loop-k : goal.invariant-loop-k
invariant-loop-k l = Stored l.initial.self (each space l._k) l.self
