-- "One printed corner, one count": the tallies of small sheets; and of one with a repeated index, where the old count differs. Assumes nothing.
use mathlib.Core.Path.{◌≡◌, refl, sym, ap, ◌∙◌}
use mathlib.Core.List.{List, [], ◌∷◌}
use mathlib.Core.Option as option
use Prim.Native.Nat.{ℕ}
use native.Mathlib.Omega.{arith}
use lib.ListN.{length, get_or}
use Rattle.cells.specs.Points.{Point}
use Rattle.sheet_file.specs.Bytes.{Bytes}
use Rattle.sheet_file.specs.declared.Settings.{Settings}
use Rattle.ruling.specs.Ruling.{accepted, ruling_of}
use Rattle.ruling.proofs.Weights.{bytes-by}
use Rattle.marks.specs.Filters.{filter_count}
use Rattle.marks.specs.Tally.{is_under}
use Rattle.judging.specs.Judging.{judged_for}
use Rattle.kept.specs.Answer.{tally_of}
use Rattle.promises.specs.Words.{marks_in}
use Rattle.promises.specs.Tally.{different, total, points_under, point_counts, any_point, index_in, CountsIndices}
use Rattle.promises.proofs.Theorems.{tally-by-index}
use Rattle.stars.specs.Stars.{rules-compute, settings}
use Rattle.stars.specs.Listed.{file, file-computes}
use Rattle.instances.specs.Files.{point, short_file, five, zero_size, doubled, doubled_file}
use Rattle.instances.proofs.KeptPatch.{five-given}

-- ---- five points with five indices: four are kept, one has the component mark

-- what the numbers of a tally add up to, if there is one
abbrev total_of : option.Option (List ℕ) → ℕ
total_of option.none = 0
total_of (option.some t) = total t

five-tally : CountsIndices settings five
five-tally = tally-by-index settings five

pub five-counted : tally_of file 140 ≡ option.some (0 ∷ 0 ∷ 0 ∷ 0 ∷ 1 ∷ 4 ∷ [])
unfolding tally_of file-computes rules-compute
five-counted = refl

-- the file's tally is that of its settings and points, of which the promise speaks
pub five-indices : different any_point (index_in five) 5 ≡ 5
unfolding total
five-indices = sym five-tally.sum ∙ ap total_of (sym five-given.tally ∙ five-counted)

-- ---- an index at two cells: it is kept, and counted once

pub doubled-bytes : Bytes doubled_file
doubled-bytes = bytes-by doubled_file refl

pub doubled-accepted : ruling_of doubled_file 56 ≡ accepted zero_size doubled
unfolding file-computes rules-compute
doubled-accepted = refl

pub doubled-tally : CountsIndices zero_size doubled
doubled-tally = tally-by-index zero_size doubled

pub doubled-counted : tally_of doubled_file 56 ≡ option.some (0 ∷ 0 ∷ 0 ∷ 0 ∷ 0 ∷ 1 ∷ [])
unfolding tally_of file-computes rules-compute
doubled-counted = refl

counts-of-doubled : (judged_for zero_size doubled).tally ≡ 0 ∷ 0 ∷ 0 ∷ 0 ∷ 0 ∷ 1 ∷ []
unfolding rules-compute
counts-of-doubled = refl

-- what the promise says of it: both cells have the same marks, one index is kept, and there is one in all
pub doubled-shared : marks_in zero_size doubled 0 ≡ marks_in zero_size doubled 1
doubled-shared = doubled-tally.shared 0 1 (omega arith) (omega arith) refl

pub kept-once : different (λ (k : ℕ). is_under filter_count (marks_in zero_size doubled k)) (index_in doubled) 2 ≡ 1
kept-once = sym (doubled-tally.once filter_count (omega arith)) ∙ ap (λ (t : List ℕ). get_or t filter_count 0) counts-of-doubled

pub one-in-all : different any_point (index_in doubled) 2 ≡ 1
unfolding total
one-in-all = sym doubled-tally.sum ∙ ap total counts-of-doubled

-- ---- the old count has two

points-of-doubled : point_counts 2 (judged_for zero_size doubled).marks ≡ 0 ∷ 0 ∷ 0 ∷ 0 ∷ 0 ∷ 2 ∷ []
unfolding point_counts points_under rules-compute
points-of-doubled = refl

-- so the promise that nothing changes needs its condition that no index repeats, of files too
pub distinct-needed-for-tally : ((file : List ℕ) (room : ℕ) (s : Settings) (ps : List Point) → Bytes file → ruling_of file room ≡ accepted s ps
    → (judged_for s ps).tally ≡ point_counts (length ps) (judged_for s ps).marks) → ⊥
distinct-needed-for-tally f =
    let z : ◌≡◌ {A = ℕ} 1 2 = ap (λ (t : List ℕ). get_or t filter_count 0) (sym counts-of-doubled ∙ f doubled_file 56 zero_size doubled doubled-bytes doubled-accepted ∙ points-of-doubled) in
    omega arith

-- ---- at cells that no edge joins, the index has the component mark, and is counted once under it

pub apart-counted : tally_of (short_file 0 (point 0 0 7 0 0 ∷ point 5 5 7 0 0 ∷ [])) 56 ≡ option.some (0 ∷ 0 ∷ 0 ∷ 0 ∷ 1 ∷ 0 ∷ [])
unfolding tally_of file-computes rules-compute
apart-counted = refl
