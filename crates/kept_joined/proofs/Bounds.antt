-- How large the numbers of an answer are, for every two files, every move and every buffer, and which numbers refuse. Assumes nothing.
use mathlib.Core.Path.{◌≡◌, refl}
use mathlib.Core.List.{List}
use Rattle.std.proofs.Common.{Ok, Err}
use Prim.Native.Nat.{ℕ}
use Rattle.sheet_file.specs.Bytes.{Bytes}
use Rattle.ruling.specs.Ruling.{refused}
use Rattle.ruling.proofs.Accepted.{sound-sheet}
use Rattle.ruling.proofs.Answered.{MadeOf, refused-so, accepted-so}
use Rattle.joined.specs.Joined.{joined_ruling}
use Rattle.joined.specs.declared.moves.Move.{Move}
use Rattle.joined.proofs.Accepted.{accepted-join}
use Rattle.judging.proofs.Laws.{few-components, few-rounds}
use Rattle.kept.specs.Answer.{answer_by, counts_for}
use Rattle.kept.specs.declared.Counts.{Counts}
use Rattle.kept.proofs.Bounds.{Bounded}
use Rattle.kept_joined.specs.Answer.{joined_answer_of}

module _ (left right : List ℕ) (m : Move) (room : ℕ) where
  -- what an answer says of the ruling
  pub refused-join : {k : ℕ} → joined_answer_of left right m room ≡ Err k → joined_ruling left right m room ≡ refused k
  unfolding joined_answer_of
  refused-join {k} e = refused-so answer_by counts_for (λ k. refl) (λ s ps. refl) (joined_ruling left right m room) k e

  pub join-counts : {c : Counts} → joined_answer_of left right m room ≡ Ok c → MadeOf counts_for (joined_ruling left right m room) c
  unfolding joined_answer_of
  join-counts {c} e = accepted-so answer_by counts_for (λ k. refl) (λ s ps. refl) (joined_ruling left right m room) c e

  pub join-bounded : Bytes left → Bytes right → {c : Counts} → joined_answer_of left right m room ≡ Ok c → Bounded c
  join-bounded bl br e =
      let k = join-counts e in
      rw (← k.is)
      (record {
        components = few-components k.settings k.points;
        rounds = few-rounds k.settings k.points;
        points = (sound-sheet k.settings k.points (accepted-join left right m room k.settings k.points bl br k.ruled)).order.few;
      })
