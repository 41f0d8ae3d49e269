-- "2,304 points pass and 2,305 give refusal 2. .. on longer lists the program still tells 1 from 2": what the call answers and what both
-- programs print, of every file and result buffer. What is ruled stands in ruling/specs/Limit.antt. Assumes nothing.
use Rattle.std.specs.Prelude.{◌≡◌, List, ℕ, ◌≤◌, ◌<◌, Err}
use Rattle.view.specs.View.{max_points}
use Rattle.sheet_file.specs.Bytes.{Bytes}
use Rattle.sheet_file.specs.Grammar.{WellFramed}
use Rattle.ruling.specs.Limit.{point_count, WeightsFit}
use Rattle.text.specs.Text.{refusal_of}
use Rattle.kept.specs.Answer.{answer_of}
use Rattle.sheet_listing.specs.Text.{text_of}
use Rattle.sheet_map.specs.Text.{map_text_of}

-- the call, the listing and the map all refuse with number k
pub record AllRefuse (file : List ℕ) (room k : ℕ) : Type 0 where
  pub answer : answer_of file room ≡ Err k
  pub listing : text_of file ≡ refusal_of k
  pub map : map_text_of file ≡ refusal_of k

-- none of the three does
pub record NoneRefuses (file : List ℕ) (room k : ℕ) : Type 0 where
  pub answer : answer_of file room ≡ Err k → ⊥
  pub listing : text_of file ≡ refusal_of k → ⊥
  pub map : map_text_of file ≡ refusal_of k → ⊥

-- none of them refuses with 1 or with 2
pub record PassesShown (file : List ℕ) (room : ℕ) : Type 0 where
  pub not-one : NoneRefuses file room 1
  pub not-two : NoneRefuses file room 2

-- 1 where the file is not well framed, and only there; 12 where it is well framed and its tag 4 does not fit, and only there; 2 where it is well
-- framed with a tag 4 that fits, or none, and more points than the limit, and only there: whatever else is wrong with the file and however
-- short the buffer. With at most as many points each may still refuse with a later number, the call
-- alone with 3 and the map alone with 10.
pub record LimitShown (file : List ℕ) (room : ℕ) : Type 0 where
  pub one : (WellFramed file → ⊥) → AllRefuse file room 1
  pub one_only : WellFramed file → NoneRefuses file room 1
  pub twelve : (w : WellFramed file) → (WeightsFit w → ⊥) → AllRefuse file room 12
  pub twelve-only : ((w : WellFramed file) → WeightsFit w) → NoneRefuses file room 12
  pub two : (w : WellFramed file) → WeightsFit w → max_points < point_count w → AllRefuse file room 2
  pub two-only : ((w : WellFramed file) → WeightsFit w → ⊥) → NoneRefuses file room 2
  pub passes : (w : WellFramed file) → point_count w ≤ max_points → PassesShown file room

abbrev pub LimitShownPromise : Type 0
LimitShownPromise = (file : List ℕ) (room : ℕ) → Bytes file → LimitShown file room
