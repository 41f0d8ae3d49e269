-- How long a listing is at most. Assumes nothing.
use mathlib.Core.Path.{◌≡◌, refl}
use mathlib.Core.Bool.{Bool, true, false, cond, ◌&&◌}
use mathlib.Core.List.{List, ◌++◌}
use lib.Ieee.{Float, binary32, to_bits}
use Prim.Native.Nat.{ℕ, suc, ◌+◌, ◌-◌, ◌*◌, ◌/◌, ◌%◌, ◌^◌, ◌≤◌, ◌<◌}
use native.Mathlib.Decide.{dec_lt}
use native.Mathlib.Omega.{arith}
use borrow.Author.Tests.{leb-true}
use lib.Dec.{eqb, leb}
use lib.IntN.{pos, ◌-ℤ◌}
use lib.ListN.{length, get_or, length-append}
use Rattle.folds.specs.Below.{every}
use Rattle.folds.proofs.Below.{every-at}
use Rattle.view.specs.View.{max_points}
use Rattle.text.specs.Text.{bytes, each, decimal, whole, digit, hex}
use Rattle.cells.specs.Points.{bias, stride}
use Rattle.cells.specs.Cell.{cell_of_key, cells_at}
use Rattle.float.specs.Remainder.{is_exact}
use Rattle.float.specs.declared.Distance.{Distance}
use Rattle.judged.specs.Shown.{Shown, shown_at}
use Rattle.judged.specs.Judged.{Judged}
use Rattle.edge_shape.specs.Figures.{reason_number}
use Rattle.predict.specs.declared.PredictedPosition.{PredictedPosition}
use Rattle.predict.specs.Predict.{Prediction}
use Rattle.std.specs.Prelude.{None, Some, Option}
use Rattle.marks.specs.Filters.{filter_count, filter_at}
use Rattle.marks.specs.Byte.{has_mark}
use Rattle.listing.specs.Listing.{cell_text, mark_text, marks_text, distance_text, residual_text, shown_text, line_text, line_of, head_text, count_text, tally_text, position_text, prediction_text, fill_text, fill_line, listing_of, line_size, fill_line_size, listing_size}
use Rattle.text.proofs.Numbers.{decimal-length, hex-length, whole_below, whole_from}
use Rattle.text.proofs.Stores.{each-length}

record AtMost (c : ℕ) (t : List ℕ) : Type 0 where
  pub within : length t ≤ c

either : (b : Bool) {c : ℕ} {s t : List ℕ} → AtMost c s → AtMost c t → AtMost c (cond b s t)
either true h g = h
either false h g = g

join : {a b : ℕ} {s t : List ℕ} → AtMost a s → AtMost b t → AtMost (a + b) (s ++ t)
join {a} {b} {s} {t} h g = record { within = omega (arith, h.within, g.within, length-append s t) }

all : (f : ℕ → List ℕ) (c n : ℕ) → ((k : ℕ) → k < n → AtMost c (f k)) → AtMost (c * n) (each f n)
all f c n h = record { within = each-length f c n (λ k l. (h k l).within) }

-- a text that is written out
known : (t : List ℕ) → AtMost (length t) t
known t = record { within = omega arith }

number : (d n : ℕ) → n < 10 ^ suc d → AtMost (suc d) (decimal n)
number d n h = record { within = decimal-length d n h }

-- a cell number
cell-number : (d b : ℕ) → 4 ≤ d → b < 10 ^ suc d → AtMost (suc d) (whole (pos b -ℤ pos bias))
cell-number d b h l = elim (dec_lt b bias) [
  | yes m ↦ rw (whole_below b bias m) (record { within = omega (arith, decimal-length 3 (bias - b) (omega arith)) })
  | no m ↦ rw (whole_from b bias (omega arith)) (number d (b - bias) (omega arith))
]

marks-size : (marks : ℕ) → AtMost filter_count (marks_text marks)
unfolding marks_text every
marks-size marks =
    all (mark_text marks) 1 filter_count
    (λ k l. either (has_mark k marks) (record { within = leb-true (length (bytes (filter_at k).letter)) 1 (every-at (λ k. leb (length (bytes (filter_at k).letter)) 1) filter_count refl k l) }) (known (bytes "-")))

float_size : (x : Float) → AtMost 8 (hex 8 (to_bits binary32 x))
float_size x = record { within = omega (arith, hex-length 8 (to_bits binary32 x)) }

residual-size : (r : Option Distance) → AtMost 9 (residual_text r)
unfolding distance_text
residual-size None = record { within = omega arith }
residual-size (Some d) = join (float_size d.value) (either (is_exact d) (known (bytes "=")) (record { within = omega arith }))

shown-size : (marks reason : ℕ) (r : Option Distance) → AtMost (12 + filter_count) (shown_text marks reason r)
unfolding shown_text
shown-size marks reason r =
    join (join (join (join (marks-size marks) (known (bytes " "))) (either (leb 1 reason && leb reason 3) (known (digit reason)) (known (bytes "-")))) (known (bytes " "))) (residual-size r)

cell-size : (key : ℕ) → key < 2 ^ 32 → AtMost 12 (cell_text (cell_of_key key))
unfolding cell_text
cell-size key h = join (join (cell-number 5 (key / stride) (omega arith) (omega arith)) (known (bytes " "))) (cell-number 4 (key % stride) (omega arith) (omega arith))

line-size : (key index : ℕ) (s : Shown) → key < 2 ^ 32 → index < 2 ^ 32 → AtMost line_size (line_of (cell_of_key key) index s)
unfolding line_text
line-size key index s h g =
    join (join (join (join (join (cell-size key h) (known (bytes " "))) (number 9 index (omega arith))) (known (bytes " "))) (shown-size s.marks (reason_number s.figures.reason) s.residual)) (known (bytes "\n"))

-- a count is at most the number of points
count-size : (count : ℕ) → count ≤ max_points → AtMost 4 (decimal count)
count-size count h = number 3 count (omega arith)

head-size : (n components rounds : ℕ) → n ≤ max_points → components ≤ max_points → rounds ≤ max_points → AtMost 40 (head_text n components rounds)
unfolding head_text
head-size n components rounds h g r =
    join (join (join (join (join (join (known (bytes "points ")) (count-size n h)) (known (bytes " components "))) (count-size components g)) (known (bytes " rounds "))) (count-size rounds r)) (known (bytes "\n"))

word_size : (k : ℕ) → k < filter_count → AtMost 13 (bytes " " ++ bytes (filter_at k).word ++ bytes " ")
unfolding every
word_size k l =
    record { within = leb-true (length (bytes " " ++ bytes (filter_at k).word ++ bytes " ")) 13 (every-at (λ k. leb (length (bytes " " ++ bytes (filter_at k).word ++ bytes " ")) 13) filter_count refl k l) }

tally-size : (counts : List ℕ) → ((f : ℕ) → get_or counts f 0 ≤ max_points) → AtMost (10 + 17 * filter_count) (tally_text counts)
unfolding tally_text
tally-size counts h =
    join (join (join (known (bytes "kept ")) (count-size (get_or counts filter_count 0) (h filter_count)))
    (all (λ k. count_text k (get_or counts k 0)) 17 filter_count
    (λ k l. join (word_size k l) (count-size (get_or counts k 0) (h k)))))
    (known (bytes "\n"))

-- fills with at most nine pairs
abbrev OneDigit : List Prediction → Type 0
OneDigit fills = (k : ℕ) (p : PredictedPosition) → get_or fills k None ≡ Some p → p.n_axis_pairs < 10

prediction-size : (x : Prediction) → ((p : PredictedPosition) → x ≡ Some p → p.n_axis_pairs < 10) → AtMost 19 (prediction_text x)
unfolding position_text
prediction-size None h = record { within = omega arith }
prediction-size (Some p) h =
    join (join (join (join (number 0 p.n_axis_pairs (h p refl)) (known (bytes " "))) (float_size p.x)) (known (bytes " "))) (float_size p.y)

fill-size : (key marks : ℕ) (x : Prediction) → key < 2 ^ 32 → ((p : PredictedPosition) → x ≡ Some p → p.n_axis_pairs < 10) → AtMost fill_line_size (fill_line (cell_of_key key) marks x)
unfolding fill_text
fill-size key marks x h e =
    either (eqb marks 0) (record { within = omega arith }) (join (join (join (cell-size key h) (known (bytes " "))) (prediction-size x e)) (known (bytes "\n")))

-- a buffer of listing_size bytes has room for the listing of any sheet
pub listing-fits : (n : ℕ) (keys idx : List ℕ) (j : Judged) (fills : List Prediction) → n ≤ max_points → j.components ≤ max_points → j.rounds ≤ max_points → ((f : ℕ) → get_or j.tally f 0 ≤ max_points) → ((k : ℕ) → get_or keys k 0 < 2 ^ 32) → ((k : ℕ) → get_or idx k 0 < 2 ^ 32) → OneDigit fills
    → length (listing_of n (cells_at keys) idx j fills) ≤ listing_size
unfolding listing_of
listing-fits n keys idx j fills h g r t f e d =
    let lines = all (λ k. line_of (cells_at keys k) (get_or idx k 0) (shown_at j k)) line_size n (λ k l. line-size (get_or keys k 0) (get_or idx k 0) (shown_at j k) (f k) (e k)) in
    let last = all (λ k. fill_line (cells_at keys k) (get_or j.marks k 0) (get_or fills k None)) fill_line_size n (λ k l. fill-size (get_or keys k 0) (get_or j.marks k 0) (get_or fills k None) (f k) (d k)) in
    let whole = join (join (join (head-size n j.components j.rounds h g r) lines) (tally-size j.tally t)) last in
    omega (arith, whole.within)
