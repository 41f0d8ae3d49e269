-- "a sheet that reaches it" (document 02, A.6): what holds of the sheet of n points that the program `worst` writes. Assumes nothing.
use Rattle.std.specs.Prelude.{◌≡◌, false, List, [], ℕ, ◌-◌, ◌*◌, ◌≤◌, ◌<◌, length, Ok}
use Rattle.view.specs.View.{max_points}
use Rattle.text.specs.Text.{decimal}
use Rattle.sheet_file.specs.Bytes.{Bytes}
use Rattle.ruling.specs.Ruling.{accepted, ruling_of}
use Rattle.kept.specs.Answer.{answer_of}
use Rattle.judging.specs.Judging.{judged_for}
use Rattle.worst_sheet.specs.Worst.{worst_points, worst_file, worst_of}
use Rattle.worst_row.specs.Sheet.{worst_settings}
use Rattle.promises.specs.Words.{DistinctIndices, rounds_of}
use Rattle.promises.specs.Longest.{beforehand}

pub record Reaches (n room : ℕ) : Type 0 where
  -- "A program takes n as its one argument, printed like an index, and writes" this sheet
  pub written : worst_of (decimal n) ≡ worst_file n
  -- it is accepted, with n points
  pub bytes : Bytes (worst_file n)
  pub ruling : ruling_of (worst_file n) room ≡ accepted worst_settings (worst_points n)
  pub count : length (worst_points n) ≡ n
  -- it is one of the "sheets without repeated indices where nothing was dropped beforehand"
  pub distinct : DistinctIndices (worst_points n)
  pub undropped : (k : ℕ) → k < n → beforehand worst_settings (worst_points n) k ≡ false
  -- the removing rounds are exactly n − 1, and the answer of the call says so
  pub rounds : rounds_of worst_settings (worst_points n) ≡ n - 1
  pub answer : answer_of (worst_file n) room ≡ Ok (record { points = n; components = (judged_for worst_settings (worst_points n)).components; rounds = n - 1 })

-- "the worst sheet of n points, n from 2 to 2,304", and every buffer with room for its rows
abbrev pub WorstPromise : Type 0
WorstPromise = (n room : ℕ) → 2 ≤ n → n ≤ max_points → 28 * n ≤ room → Reaches n room

-- "For anything else it writes nothing."
abbrev pub NothingElse : Type 0
NothingElse = (argument : List ℕ) → ((n : ℕ) → 2 ≤ n → n ≤ max_points → decimal n ≡ argument → ⊥) → worst_of argument ≡ []
