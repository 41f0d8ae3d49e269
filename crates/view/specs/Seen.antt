-- The view that the code's structs give, and the neighbour that a rank has there. Assumes nothing.
use Rattle.std.specs.Prelude.{ℕ, cond, ltb, List, [], Option, Some, None, Float}
use Rattle.view.specs.View.{View, view_at}
use Rattle.view.specs.declared.lattice.Lattice.{Lattice}
use Rattle.view.specs.declared.lattice.SeenLattice.{SeenLattice}
use Rattle.view.specs.declared.lattice.View.{View as Held}

-- the view of a table of ranks, with no positions
abbrev pub lattice_in : Lattice → View
lattice_in l = view_at l.count l.ranks.now [] []

-- and with positions
abbrev pub seen_in : SeenLattice → View
seen_in p = view_at p.lattice.count p.lattice.ranks.now p.seen.x.now p.seen.y.now

-- P is true of the view of a table of ranks, whatever the positions are
abbrev pub WhereverSeen : Lattice → (View → Type 0) → Type 0
WhereverSeen l P = (xs ys : List Float) → P (view_at l.count l.ranks.now xs ys)

-- the view of a sheet
abbrev pub view_in : Held → View
view_in v = view_at v.sheet.lattice.count v.sheet.lattice.ranks.now v.seen.x.now v.seen.y.now

-- the rank r, or nothing if it is none: "a number of count or more is none"
abbrev pub below : ℕ → ℕ → Option ℕ
below n r = cond (ltb r n) (Some r) None
