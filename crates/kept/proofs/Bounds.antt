-- How large the numbers of an answer are, for every file and buffer. Assumes nothing.
use Rattle.std.specs.List.{list_any}
use mathlib.Core.Path.{◌≡◌, refl}
use mathlib.Core.Bool.{true}
use mathlib.Core.List.{List}
use mathlib.Core.Option.{Option, none, some}
use Rattle.std.proofs.Common.{Ok, Err}
use Prim.Native.Nat.{ℕ, ◌≤◌}
use native.Mathlib.Omega.{arith}
use lib.Dec.{eqb}
use lib.ListN.{get_or}
use Rattle.view.specs.View.{max_points}
use Rattle.sheet_file.specs.Bytes.{Bytes}
use Rattle.ruling.specs.Ruling.{Ruling, refused, accepted, sheet_numbers, ruling_of}
use Rattle.ruling.proofs.Given.{is-given}
use Rattle.ruling.proofs.Answered.{MadeOf, refused-so, accepted-so}
use Rattle.ruling.proofs.Standing.{accepted-file, accepted-order}
use Rattle.judging.specs.Judging.{judged_for}
use Rattle.judging.proofs.Laws.{few-components, few-rounds, few-counted}
use Rattle.kept.specs.Answer.{counts_for, answer_by, tally_by, answer_of, tally_of}
use Rattle.kept.specs.declared.Counts.{Counts}

none-no-some : {t : List ℕ} → ◌≡◌ {A = Option (List ℕ)} none (some t) → ⊥
none-no-some e = let z : ◌≡◌ {A = ℕ} 0 1 = cc in omega arith

-- no more components than points, no more rounds, and no more points than the most of a sheet
pub record Bounded (c : Counts) : Type 0 where
  pub components : c.components ≤ c.points
  pub rounds : c.rounds ≤ c.points
  pub points : c.points ≤ max_points

module _ (file : List ℕ) (room : ℕ) where
  -- what an answer says of the ruling
  pub refused-ruling : {k : ℕ} → answer_of file room ≡ Err k → ruling_of file room ≡ refused k
  unfolding answer_of
  refused-ruling {k} e = refused-so answer_by counts_for (λ k. refl) (λ s ps. refl) (ruling_of file room) k e

  pub accepted-ruling : {c : Counts} → answer_of file room ≡ Ok c → MadeOf counts_for (ruling_of file room) c
  unfolding answer_of
  accepted-ruling {c} e = accepted-so answer_by counts_for (λ k. refl) (λ s ps. refl) (ruling_of file room) c e

  pub counts-bounded : Bytes file → {c : Counts} → answer_of file room ≡ Ok c → Bounded c
  counts-bounded b e =
      let m = accepted-ruling e in
      rw (← m.is)
      (record { components = few-components m.settings m.points; rounds = few-rounds m.settings m.points; points = (accepted-order file room m.settings m.points b m.ruled).few })

  -- the number of a refusal is one of the list
  pub refusal-listed : {k : ℕ} → answer_of file room ≡ Err k → list_any (eqb k) sheet_numbers ≡ true
  refusal-listed {k} e = (is-given file room k (refused-ruling e)).listed

  -- no number of the tally is above the most points of a sheet
  pub tally-bounded : {t : List ℕ} → tally_of file room ≡ some t → (f : ℕ) → get_or t f 0 ≤ max_points
  unfolding tally_of
  tally-bounded {t} e f = go (ruling_of file room) refl e
    where
      go : (r : Ruling) → ruling_of file room ≡ r → tally_by r ≡ some t → get_or t f 0 ≤ max_points
      go (refused k) q e = absurd (none-no-some e)
      go (accepted s ps) q e = let k = accepted-file file room s ps q in let p : (judged_for s ps).tally ≡ t = cc e in rw (← p) (omega (arith, few-counted s ps f, k.few, k.size))
