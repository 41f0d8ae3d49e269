use Rattle.std.proofs.Common.{arith, ◌≡◌, List, ℕ, get_or}
use Rattle.cells.specs.Cell.{cells_at}
use Rattle.judged.specs.Shown.{shown_at}
use Rattle.judged.specs.Judged.{Judged, judged_from}
use Rattle.listing.specs.Listing.{line_of}
use Rattle.text.proofs.Stores.{stored-start, stored_more}
use Rattle.listing.proofs.put_lines.Goals as goal

-- the line of rank k
abbrev line : List ℕ → List ℕ → Judged → ℕ → List ℕ
line keys idx j k = line_of (cells_at keys k) (get_or idx k 0) (shown_at j k)

pub loop-k-init : goal.loop-k-init
loop-k-init g c figures post =
    let a = c.args in stored-start (line a.points.now.keys.now a.points.now.idx.now (judged_from a.j.now figures))

pub loop-k-preserved : goal.loop-k-preserved
unfolding shown_at judged_from
loop-k-preserved g c figures post =
    let a = c.args in
    let e = post c.loop-k.k c.reason.result (omega arith) c.reason.ensures in
    stored_more (line a.points.now.keys.now a.points.now.idx.now (judged_from a.j.now figures)) (c.loop-k.invariant figures post) (rw e at c.put_line.ensures)

pub returns : goal.returns
returns g c figures post =
    let e : c.loop-k.k ≡ c.args.points.now.count = omega arith in rw e at (c.loop-k.invariant figures post)
