-- "The words of demand 3", of points ps in cell order with settings s: a point is named by its rank. Assumes nothing.
use Rattle.std.specs.Prelude.{◌≡◌, Bool, not, ◌&&◌, List, ℕ, ◌*◌, ◌<◌, eqb, ltb, length, get_or}
use Rattle.folds.specs.Below.{some}
use Rattle.cells.specs.Points.{Point, nowhere}
use Rattle.cells.specs.Cell.{cell_of, joined_by}
use Rattle.sheet_file.specs.declared.Settings.{Settings}
use Rattle.marks.specs.Filters.{filter_count, component}
use Rattle.marks.specs.Byte.{has_mark}
use Rattle.drop_set.specs.Filters.{sides_of}
use Rattle.judging.specs.Judging.{judged_for}
use Rattle.rows.specs.Rows.{row_size}
use Rattle.kept.specs.Answer.{rows_after}

-- no index repeats
abbrev pub DistinctIndices : List Point → Type 0
DistinctIndices ps = (i j : ℕ) → i < length ps → j < length ps → (get_or ps i nowhere).index ≡ (get_or ps j nowhere).index → i ≡ j

-- a byte of marks has one other than the component mark
abbrev pub other_mark : ℕ → Bool
other_mark m = some (λ (f : ℕ). not (eqb f component) && has_mark f m) filter_count

module _ (s : Settings) (ps : List Point) where
  -- the byte of marks of rank k
  abbrev pub marks_in : ℕ → ℕ
  marks_in k = get_or (judged_for s ps).marks k 0

  -- "the number of rounds that removed something"
  abbrev pub rounds_of : ℕ
  rounds_of = (judged_for s ps).rounds

  -- "A survivor is a point whose index gets no mark under these rules other than the component mark."
  abbrev pub has_other : ℕ → Bool
  has_other k = other_mark (marks_in k)

  abbrev pub survivor : ℕ → Bool
  survivor k = ltb k (length ps) && not (has_other k)

  -- one of the "steps over shared edges, survivor to survivor": by the offsets that join cells on such a sheet
  abbrev pub joined : ℕ → ℕ → Bool
  joined a b = survivor a && (survivor b && joined_by (sides_of s) (cell_of (get_or ps a nowhere)) (cell_of (get_or ps b nowhere)))

  -- "On any accepted sheet the kept patch is the points whose row has no mark."
  abbrev pub kept_rank : ℕ → Bool
  kept_rank k = ltb k (length ps) && eqb (marks_in k) 0

-- the first of the bytes of row k, where these are the rows: "Byte 0: marks"
abbrev pub marks_shown : List ℕ → ℕ → ℕ
marks_shown rows k = get_or rows (row_size * k) 0

-- of the rows that the call leaves in a buffer
abbrev pub marks_byte : List ℕ → List ℕ → ℕ → ℕ
marks_byte file buffer k = marks_shown (rows_after file buffer) k
