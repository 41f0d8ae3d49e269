-- What an answer by the ruling says of it, where a refusal is answered with its number. Assumes nothing.
use mathlib.Core.Path.{◌≡◌, refl, sym, ◌∙◌}
use mathlib.Core.List.{List}
use Prim.Native.Nat.{ℕ}
use Rattle.std.proofs.Common.{Result, Ok, Err}
use Rattle.refusals.proofs.Number.{err-no-ok}
use Rattle.cells.specs.Points.{Point}
use Rattle.sheet_file.specs.declared.Settings.{Settings}
use Rattle.ruling.specs.Ruling.{Ruling, refused, accepted}

-- the ruling accepts, and what is made of its settings and points is a
pub record MadeOf {A : Type 0} (make : Settings → List Point → A) (x : Ruling) (a : A) : Type 0 where
  pub settings : Settings
  pub points : List Point
  pub ruled : x ≡ accepted settings points
  pub is : make settings points ≡ a

module _ {A : Type 0} (answer : Ruling → Result A ℕ) (make : Settings → List Point → A) (refusing : (k : ℕ) → answer (refused k) ≡ Err k)
    (accepting : (s : Settings) (ps : List Point) → answer (accepted s ps) ≡ Ok (make s ps)) where
  pub refused-so : (x : Ruling) (k : ℕ) → answer x ≡ Err k → x ≡ refused k
  refused-so (refused j) k e =
      let q : ◌≡◌ {A = Result A ℕ} (Err j) (Err k) = sym (refusing j) ∙ e in
      cc
  refused-so (accepted s ps) k e = absurd (err-no-ok (sym e ∙ accepting s ps))

  pub accepted-so : (x : Ruling) (a : A) → answer x ≡ Ok a → MadeOf make x a
  accepted-so (refused k) a e = absurd (err-no-ok (sym (refusing k) ∙ e))
  accepted-so (accepted s ps) a e =
      let q : ◌≡◌ {A = Result A ℕ} (Ok (make s ps)) (Ok a) = sym (accepting s ps) ∙ e in
      record { settings = s; points = ps; ruled = refl; is = cc }
