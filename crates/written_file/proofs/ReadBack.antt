-- What is read of a written file: the points and the settings that were written, and no refusal of its header. Assumes nothing.
use Rattle.std.specs.Prelude.{None, Some}
use mathlib.Core.Path.{◌≡◌, refl, sym, ap, ◌∙◌}
use mathlib.Core.Bool.{Bool, true, false, cond, true≢false}
use mathlib.Core.Logic.{inl, inr}
use mathlib.Core.List.{List, [], ◌∷◌, ◌++◌}
use Prim.Native.Nat.{ℕ, zero, suc, ◌+◌, ◌*◌, ◌/◌, ◌%◌, ◌^◌, ◌≤◌, ◌<◌}
use native.Mathlib.Omega.{arith}
use lib.ListN.{length, get_or, drop, get_or-append}
use lib.Ieee.{Float, of_bits}
use borrow.Author.Tests.{lt-ltb, le-ltb, eq-eqb}
use Rattle.folds.specs.Arith.{f32}
use Rattle.folds.specs.Lists.{All}
use Rattle.folds.proofs.Lists.{is-list}
use Rattle.view.specs.View.{max_points}
use Rattle.refusals.proofs.Laws.{first-given}
use Rattle.cells.specs.Points.{Point, nowhere}
use Rattle.sheet_file.specs.Frame.{weights_of}
use Rattle.sheet_file.specs.Bytes.{Bytes, le16, le32, little_endian}
use Rattle.sheet_file.specs.Grammar.{field, most_data}
use Rattle.sheet_file.specs.Limit.{outside}
use Rattle.sheet_file.specs.Refusals.{defaults_with, settings_in, edge_shape_of, fraction_in, fraction_of, settings_of, misfit, bad_flag, bad_float, header_refusals}
use Rattle.sheet_file.specs.declared.Fraction.{Fraction}
use Rattle.sheet_file.specs.declared.Fraction.TheVariants.{Missing}
use Rattle.sheet_file.specs.declared.Layout.{Layout}
use Rattle.sheet_file.specs.declared.Settings.{Settings}
use Rattle.sheet_file.proofs.Words.{bytes-join}
use Rattle.points.specs.Records.{point_in, ith_strength, ith_point, points_in}
use Rattle.ruling.specs.Ruling.{refused, ruling_for, points_of, ruling_in, ruling_of}
use Rattle.ruling.proofs.Given.{by-points}
use Rattle.ruling.proofs.Accepted.{by-list}
use Rattle.ruling.proofs.Limit.{more-refused}
use Rattle.ruling.specs.Accepted.{Words}
use Rattle.ruling.proofs.Weights.{bytes-by}
use Rattle.written_file.specs.File.{points_bytes, strength_bytes, weights, spelled_out, weighed_file}
use Rattle.written_file.proofs.Parts.{no_bytes, word_after, point-after, word-there, words-bytes, weighing, records-length, records-there, records-bytes, strengths-length, strengths-there, strengths-none, strengths-bytes}
use Rattle.written_file.proofs.Framed.{SettingsSize, Head, own-head, made, made_layout, made-well, framed}
use Rattle.written_file.proofs.Heads.{settings_with, settings-are, Within, head-length, head-within, Begins, head-settings, head-flags, head-floats}

-- the data of tag 4
abbrev weight_data : ℕ → List Point → List ℕ
weight_data fraction ps = little_endian fraction ++ strength_bytes ps

-- what stands before the data of a field: its tag and length
abbrev head_of : ℕ → List ℕ → List ℕ
head_of tag body = tag ∷ length body % 256 ∷ length body / 256 ∷ []

-- the fraction in a tag 4, if there is one
abbrev pub fraction_for : Bool → ℕ → Fraction
fraction_for weighed fraction = cond weighed (fraction_in (f32 fraction)) Missing

-- without tag 4 the points have no strengths
abbrev pub Strengthless : Bool → List Point → Type 0
Strengthless weighed ps = weighed ≡ false → All (λ (p : Point). p.strength ≡ 0) ps

module _ (head : List ℕ) (h : Head head) (fraction : ℕ) (ps : List Point) where
  abbrev file : Bool → List ℕ
  file weighed = made head weighed fraction ps

  abbrev f : Bool → Layout
  f weighed = made_layout h weighed ps

  -- tag 4, if there is one
  abbrev last : Bool → List ℕ
  last weighed = cond weighed (weights fraction ps) []

  -- ---- the points

  -- the words of tag 4
  weight-word : (at k : ℕ) → at ≡ (weights_of (f true)).at + k → le32 (file true) at ≡ le32 (weight_data fraction ps) k
  weight-word at k e =
      word_after head (field 3 (points_bytes ps) ++ weights fraction ps) at (3 + 20 * length ps + 3 + k) (omega (arith, head-length h))
      ∙ word_after (field 3 (points_bytes ps)) (weights fraction ps) (3 + 20 * length ps + 3 + k) (3 + k) (omega (arith, records-length ps))
      ∙ word_after (head_of 4 (weight_data fraction ps)) (weight_data fraction ps) (3 + k) k refl

  module _ (words : All Words ps) where
    -- the strength of each point, and its record
    strength-read : (weighed : Bool) → Strengthless weighed ps → (i : ℕ) → i < length ps → ith_strength (file weighed) (f weighed) i ≡ (get_or ps i nowhere).strength
    strength-read true bare i l =
        weight-word ((weights_of (f true)).at + 4 + 4 * i) (4 + 4 * i) (omega arith)
        ∙ word_after (little_endian fraction) (strength_bytes ps) (4 + 4 * i) (4 * i) refl ∙ strengths-there ps words i l
    strength-read false bare i l = sym (strengths-none ps (bare refl) i l)

    record-read : (weighed : Bool) (i w : ℕ) → i < length ps → point_in (file weighed) ((f weighed).points + 20 * i) w ≡ weighing (get_or ps i nowhere) w
    record-read weighed i w l =
        point-after head (field 3 (points_bytes ps) ++ last weighed) ((f weighed).points + 20 * i) (3 + 20 * i) w (omega (arith, head-length h))
        ∙ point-after (head_of 3 (points_bytes ps)) (points_bytes ps ++ last weighed) (3 + 20 * i) (20 * i) w refl
        ∙ records-there ps (last weighed) w words i l

    -- the points of the file, as it lists them, by its fields and by its bytes
    pub points-back : (weighed : Bool) → Strengthless weighed ps → points_in (file weighed) (f weighed) ≡ ps
    unfolding points_in
    points-back weighed bare =
        sym (is-list nowhere (length ps) (ith_point (file weighed) (f weighed)) ps refl
        (λ k l. sym (record-read weighed k (ith_strength (file weighed) (f weighed) k) l ∙ ap (weighing (get_or ps k nowhere)) (strength-read weighed bare k l))))

    pub points-read : (weighed : Bool) → Strengthless weighed ps → points_of (file weighed) ≡ ps
    points-read weighed bare = rw (framed head h weighed fraction ps) (points-back weighed bare)

  -- ---- the header

  -- the file begins with the first bytes, and tags 1 and 2 are within them
  begins : (weighed : Bool) → Begins (file weighed) head
  begins weighed k l = get_or-append head (field 3 (points_bytes ps) ++ last weighed) 0 k l

  within : (weighed : Bool) → Within head (f weighed)
  within weighed = head-within h (length ps) weighed (4 + 4 * length ps)

  module _ (small : fraction < 2 ^ 32) where
    -- the fraction, and with it the settings
    fraction-read : (weighed : Bool) → fraction_of (file weighed) (f weighed) ≡ fraction_for weighed fraction
    unfolding fraction_of
    fraction-read true = rw (weight-word (weights_of (f true)).at 0 (omega arith) ∙ word-there fraction (strength_bytes ps) small)
    fraction-read false = refl

    settings-read : (weighed : Bool) → settings_of (file weighed) (f weighed) ≡ settings_with head (f weighed) (fraction_for weighed fraction)
    settings-read weighed = settings-are (file weighed) (f weighed) ∙ rw (fraction-read weighed) (head-settings (file weighed) head (begins weighed) (f weighed) (within weighed) (fraction_for weighed fraction))

    -- tag 4 is 4 bytes and 4 for each point
    fitting : (weighed : Bool) → misfit (f weighed) ≡ false
    fitting true = rw (eq-eqb (4 + 4 * length ps) (4 + 4 * length ps) refl)
    fitting false = refl

    -- the file is ruled as the points that were written, with the settings in its first bytes
    pub ruled-by-points : (weighed : Bool) → All Words ps → Strengthless weighed ps → bad_flag head (f weighed) ≡ false → bad_float head (f weighed) ≡ false
        → (room : ℕ) → ruling_of (file weighed) room ≡ ruling_in room (settings_with head (f weighed) (fraction_for weighed fraction)) ps
    ruled-by-points weighed words bare flags floats room =
        let in-place = framed head h weighed fraction ps in
        let flags-fine = head-flags (file weighed) head (begins weighed) (f weighed) (within weighed) ∙ flags in
        let floats-fine = head-floats (file weighed) head (begins weighed) (f weighed) (within weighed) ∙ floats in
        by-list (file weighed) room (rw in-place) (rw in-place (fitting weighed)) (rw in-place flags-fine) (rw in-place floats-fine)
        ∙ rw (points-read words weighed bare, in-place, settings-read weighed)

-- ---- settings spelled out

module _ (size minimum fraction : ℕ) (ps : List Point) (fits : size < 2 ^ 32) (short : minimum < 65536) where
  abbrev settings : List ℕ
  settings = spelled_out size minimum

  abbrev cell_size : Float
  cell_size = f32 size

  abbrev spelled : Settings
  spelled = defaults_with minimum cell_size None (fraction_in (f32 fraction))

  first_word : le32 (field 1 settings) 3 ≡ size
  first_word = word_after (head_of 1 settings) settings 3 0 refl ∙ word-there size (drop 4 settings) fits

  minimum_read : le16 (field 1 settings) 11 ≡ minimum
  unfolding le16
  minimum_read = omega arith

  spelled-settings : settings_with (field 1 settings) (made_layout (own-head settings (inl refl)) true ps) (fraction_in (f32 fraction)) ≡ spelled
  unfolding settings_in edge_shape_of le32
  spelled-settings = rw (first_word, minimum_read) refl

  -- none of 1, 12, 2, 3, 4 and 5 applies
  pub ruled : (room : ℕ) → length ps ≤ max_points → All Words ps → fraction < 2 ^ 32 → 28 * length ps ≤ room → outside cell_size ≡ false → ruling_of (weighed_file settings fraction ps) room ≡ ruling_for spelled ps
  unfolding ruling_in bad_flag bad_float le32 of_bits
  ruled room few words small enough inside =
      ruled-by-points (field 1 settings) (own-head settings (inl refl)) fraction ps small true words (λ e. absurd (true≢false e)) refl (rw (first_word, inside) refl) room
      ∙ rw (spelled-settings, le-ltb max_points (length ps) few, le-ltb room (28 * length ps) enough)

-- ---- the limits of a list and of a result buffer

-- more points than the limit are refused with 2
pub many-refused : (settings : List ℕ) (fraction : ℕ) (ps : List Point) (room : ℕ) → SettingsSize settings → max_points < length ps → ruling_of (weighed_file settings fraction ps) room ≡ refused 2
many-refused settings fraction ps room size h =
    more-refused (weighed_file settings fraction ps) room (made-well (field 1 settings) (own-head settings size) true fraction ps) (inr (omega (arith, records-length ps, strengths-length ps))) (omega (arith, records-length ps))

-- and fewer in a buffer without room for their rows with 3
pub room-refused : (settings : List ℕ) (fraction : ℕ) (ps : List Point) (room : ℕ) → SettingsSize settings → length ps ≤ max_points → room < 28 * length ps → ruling_of (weighed_file settings fraction ps) room ≡ refused 3
unfolding header_refusals
room-refused settings fraction ps room size few h =
    let file = weighed_file settings fraction ps in
    let f = made_layout (own-head settings size) true ps in
    by-points file room
    ∙ rw (framed (field 1 settings) (own-head settings size) true fraction ps)
    (first-given refused (ruling_for (settings_of file f) (points_in file f)) (header_refusals file room (Some f)) 3 (lt-ltb room (28 * length ps) h) (rw (eq-eqb (4 + 4 * length ps) (4 + 4 * length ps) refl, le-ltb max_points (length ps) few)))

-- ---- bytes

-- a length of two bytes
field-bytes : (tag : ℕ) (body : List ℕ) → tag < 256 → length body < 65536 → Bytes body → Bytes (field tag body)
field-bytes tag body t l h zero = t
field-bytes tag body t l h (suc zero) = omega arith
field-bytes tag body t l h (suc (suc zero)) = omega arith
field-bytes tag body t l h (suc (suc (suc k))) = h k

pub spelled-bytes : (size minimum : ℕ) → Bytes (spelled_out size minimum)
spelled-bytes size minimum =
    words-bytes (size ∷ 0x3E19_999A ∷ []) (minimum % 256 ∷ minimum / 256 % 256 ∷ drop 10 (spelled_out 0 0))
    (bytes-join (minimum % 256 ∷ minimum / 256 % 256 ∷ []) (drop 10 (spelled_out 0 0)) two_bytes (bytes-by (drop 10 (spelled_out 0 0)) refl))
  where
    two_bytes : Bytes (minimum % 256 ∷ minimum / 256 % 256 ∷ [])
    two_bytes zero = omega arith
    two_bytes (suc zero) = omega arith
    two_bytes (suc (suc k)) = no_bytes k

-- with these first bytes, if the length of the points stands in two bytes
pub made-bytes : (head : List ℕ) (weighed : Bool) (fraction : ℕ) (ps : List Point) → Bytes head → 20 * length ps ≤ most_data → Bytes (made head weighed fraction ps)
made-bytes head weighed fraction ps b few =
    bytes-join head (field 3 (points_bytes ps) ++ cond weighed (weights fraction ps) []) b
    (bytes-join (field 3 (points_bytes ps)) (cond weighed (weights fraction ps) []) (field-bytes 3 (points_bytes ps) (omega arith) (omega (arith, records-length ps)) (records-bytes ps)) (last weighed))
  where
    last : (w : Bool) → Bytes (cond w (weights fraction ps) [])
    last true = field-bytes 4 (weight_data fraction ps) (omega arith) (omega (arith, strengths-length ps)) (words-bytes (fraction ∷ []) (strength_bytes ps) (strengths-bytes ps))
    last false = no_bytes

pub bytes_back : (settings : List ℕ) (fraction : ℕ) (ps : List Point) → SettingsSize settings → Bytes settings → length ps ≤ max_points → Bytes (weighed_file settings fraction ps)
bytes_back settings fraction ps size b few = made-bytes (field 1 settings) true fraction ps (field-bytes 1 settings (omega arith) (short size) b) (omega arith)
  where
    short : SettingsSize settings → length settings < 65536
    short (inl e) = omega arith
    short (inr e) = omega arith
