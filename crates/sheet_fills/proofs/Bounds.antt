-- How large the numbers of an answer are, and when 3 is given, for every file and buffer. Assumes nothing.
use Rattle.std.specs.List.{list_any}
use Rattle.std.proofs.Common.{◌≡◌, ℕ, ◌*◌, ◌/◌, ◌<◌, ◌≤◌, Bool, true, false, cond, not, eqb, ltb, List, length, get_or, refl, arith, ltb-false, ltb-true, lt-ltb, Ok, Err}
use Rattle.folds.proofs.Below.{tally-le}
use Rattle.view.specs.View.{max_points}
use Rattle.cells.specs.Points.{Point}
use Rattle.sheet_file.specs.Bytes.{Bytes}
use Rattle.sheet_file.specs.declared.Settings.{Settings}
use Rattle.ruling.specs.Ruling.{refused, sheet_numbers}
use Rattle.ruling.proofs.Given.{is-given}
use Rattle.ruling.proofs.Answered.{refused-so, accepted-so}
use Rattle.ruling.proofs.Standing.{accepted-order}
use Rattle.judging.specs.Judging.{judged_for}
use Rattle.rows.specs.Rows.{row_size}
use Rattle.sheet_fills.specs.Bytes.{fill_size, dropped_count}
use Rattle.sheet_fills.specs.Answer.{as_rows, fill_ruling, fill_answer_by, fill_answer_of}
use Rattle.sheet_fills.specs.declared.FillCounts.{FillCounts}
use Rattle.std.specs.Cmp.{both_ways}

-- Of at most the most points of a sheet: the buffer is shorter than a row for each exactly where it is shorter than 20 bytes for each.
pub short-exactly : (room n : ℕ) → n ≤ max_points → (ltb (as_rows room) (row_size * n)) ≡ ltb room (fill_size * n)
short-exactly room n m = both_ways (ltb (as_rows room) (row_size * n)) (ltb room (fill_size * n)) (λ e. lt-ltb room (fill_size * n) (to (ltb (room / fill_size) max_points) refl (ltb-true (as_rows room) (row_size * n) e))) (λ e. lt-ltb (as_rows room) (row_size * n) (from (ltb (room / fill_size) max_points) refl (ltb-true room (fill_size * n) e)))
  where
    to : (b : Bool) → ltb (room / fill_size) max_points ≡ b → cond b (row_size * (room / fill_size)) (row_size * max_points) < row_size * n → room < fill_size * n
    to true e h = omega arith
    to false e h = absurd (omega arith)

    from : (b : Bool) → ltb (room / fill_size) max_points ≡ b → room < fill_size * n → cond b (row_size * (room / fill_size)) (row_size * max_points) < row_size * n
    from true e h = omega arith
    from false e h = absurd (omega (arith, ltb-false (room / fill_size) max_points e))

-- no more fills than points, and no more points than the most of a sheet
pub record Bounded (c : FillCounts) : Type 0 where
  pub fills : c.fills ≤ c.points
  pub points : c.points ≤ max_points

dropped-few : (marks : List ℕ) (n : ℕ) → dropped_count marks n ≤ n
unfolding dropped_count
dropped-few marks n = tally-le (λ (k : ℕ). not (eqb (get_or marks k 0) 0)) n

-- how many points there are and how many are dropped
abbrev fill_counts_for : Settings → List Point → FillCounts
fill_counts_for s ps = record { points = length ps; fills = dropped_count (judged_for s ps).marks (length ps) }

module _ (file : List ℕ) (room : ℕ) where
  -- what an answer says of the ruling
  pub refused-ruling : {k : ℕ} → fill_answer_of file room ≡ Err k → fill_ruling file room ≡ refused k
  unfolding fill_answer_of
  refused-ruling {k} e = refused-so fill_answer_by fill_counts_for (λ k. refl) (λ s ps. refl) (fill_ruling file room) k e

  pub fills-bounded : Bytes file → {c : FillCounts} → fill_answer_of file room ≡ Ok c → Bounded c
  unfolding fill_answer_of
  fills-bounded b {c} e =
      let m = accepted-so fill_answer_by fill_counts_for (λ k. refl) (λ s ps. refl) (fill_ruling file room) c e in
      rw (← m.is)
      (record { fills = dropped-few (judged_for m.settings m.points).marks (length m.points); points = (accepted-order file (as_rows room) m.settings m.points b m.ruled).few })

  -- the number of a refusal is one of the list
  pub fills-listed : {k : ℕ} → fill_answer_of file room ≡ Err k → list_any (eqb k) sheet_numbers ≡ true
  fills-listed {k} e = (is-given file (as_rows room) k (refused-ruling e)).listed
