-- Each entry holds its point's place and key. Assumes nothing.
use mathlib.Core.Path.{◌≡◌}
use Prim.Native.Nat.{ℕ, ◌/◌, ◌%◌, ◌≤◌, ◌<◌}
use native.Mathlib.Omega.{arith}
use lib.ListN.{get_or}
use Rattle.view.specs.View.{max_points}
use Rattle.sort.specs.Packed.{packed_places, entries_of}
use Rattle.sort.proofs.Packed.{placed_below, placed-key}
use Rattle.sort.proofs.Entries.{entry_at}
use Rattle.points.specs.Entries.{Placed}

module _ (n : ℕ) (key : ℕ → ℕ) (few : n ≤ max_points) where
  pub entries-placed : Placed (entries_of n key) n
  entries-placed r h = rw (entry_at n key r h) (placed_below key n (omega arith) r h)

  pub entry_key : (r : ℕ) → r < n → get_or (entries_of n key) r 0 / packed_places ≡ key (get_or (entries_of n key) r 0 % packed_places)
  entry_key r h = rw (entry_at n key r h) (placed-key key n (omega arith) r h)
