-- What came stands in the buffer after what came before. Assumes nothing.
use Rattle.std.proofs.Common.{◌≡◌, ◌∙◌, ap, ℕ, ◌+◌, ◌≤◌, le_refl, List, ◌++◌, length, take, drop, drop_at, length-take-le}
use Rattle.std.proofs.lemmas.List.{take-append-le}
use Rattle.std.proofs.lemmas.Slice.{take-put_mid_below}
use Rattle.std.proofs.Math.Seq.{take-add}
use borrow.Rule.Slice.PartMut.{put_mid, post_of}

-- the first bytes of the part follow those before it
pub one-after-other : (at k n : ℕ) (file part : List ℕ) → at ≤ length file → n ≤ length part → take (at + n) (put_mid at k file part) ≡ take at file ++ take n part
one-after-other at k n file part inside fits =
    let rest = part ++ post_of at k file in
    let second = ap (take n) (drop_at (take at file) rest at (length-take-le at file inside)) ∙ take-append-le n part (post_of at k file) fits in
    take-add at n (put_mid at k file part) ∙ ap (λ l. l ++ take n (drop at (put_mid at k file part))) (take-put_mid_below at k file part at (le_refl at) inside)
    ∙ ap (λ l. take at file ++ l) second
