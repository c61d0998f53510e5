-- `certificate::copy_out` meets its contract: one of the slices is too short, or both sections are written, the cells after the picks.
use Prim.Native.Nat.{◌+◌, ◌*◌, ◌≤◌}
use native.Mathlib.Omega.{arith}
use lib.ListN.{length}
use Rattle.certificate.proofs.Copying.{Roomy, short_picks, short_cells, short_out, picks_taken, cells_taken, picks_long, cells_long, copied}
use Rattle.certificate.proofs.copy_out.Goals as goal
use Rattle.certificate.proofs.copy_out.Goals.{Else-out-needed}

-- none of the slices is too short
roomy : (c : Else-out-needed) → let a = c.args in 8 + 4 * a.n + 4 * a.count ≤ length a.out.now → Roomy a.n a.count a.picks.now a.cells.now a.out.now
roomy c out_fits = record { picks_fit = c.if-picks-n.false; cells_fit = c.if-cells-count.false; out_fits = out_fits }

pub returns-then-picks-n : goal.returns-then-picks-n
returns-then-picks-n c = short_picks _ _ _ _ _ c.if-picks-n.true

pub returns-then-cells-count : goal.returns-then-cells-count
returns-then-cells-count c = short_cells _ _ _ _ _ c.if-picks-n.false c.if-cells-count.true

pub returns-then-out-needed : goal.returns-then-out-needed
returns-then-out-needed c = short_out _ _ _ _ _ c.if-picks-n.false c.if-cells-count.false c.if-out-needed.true

pub write_section-middle-requires : goal.write_section-middle-requires
write_section-middle-requires c =
    let r = roomy (goal.at.write_section-middle-requires c).Else-out-needed (omega (arith, c.if-out-needed.false)) in
    (omega (arith, picks_long r, r.out_fits), omega (arith, picks_taken r))

pub write_section-requires : goal.write_section-requires
write_section-requires c =
    let w = c.write_section-middle in
    let r = roomy (goal.at.write_section-requires c).Else-out-needed (omega (arith, c.if-out-needed.false)) in
    (omega (arith, picks_long r, cells_long r, r.out_fits, w.ensures.ends, w.auto.out), omega (arith, cells_taken r))

pub returns : goal.returns
returns c =
    let r = roomy (goal.at.returns c).Else-out-needed (omega (arith, c.if-out-needed.false)) in
    copied r _ _ _ _ c.write_section-middle.ensures c.write_section.ensures
