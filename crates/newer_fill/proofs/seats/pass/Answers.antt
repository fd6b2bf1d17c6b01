use native.Mathlib.Omega.{arith}
use Rattle.read_eights.proofs.Passing.{table_long}
use Rattle.newer_fill.proofs.Passing.{begins, begun_run, begun_none, table_whole}
use borrow.Author.Rules.{rules}
use Rattle.newer_fill.proofs.seats.pass.Reads as reads
use Rattle.newer_fill.proofs.seats.pass.Lts as lts
use Rattle.newer_fill.proofs.seats.pass_by.Reads as pass-by-reads
use Rattle.newer_places.proofs.scan.next_seat.Reads as next-seat-reads
use Rattle.newer_fill.proofs.seats.pass.Goals as goal

pub next_seat-at-requires : goal.next_seat-at-requires
next_seat-at-requires c = let h = c.requires in (h.1, record { raw = h.2.known.raw; covers = h.2.known.covers })

pub pass_by-requires : goal.pass_by-requires
pass_by-requires c =
    let h = c.requires in
    let d = begins _ _ _ _ _ c.next_seat-at.ensures h.2 in
    (h.0, h.1, d, h.3, table_long c.next_seat-at.result, table_whole _ _ _ _ _ d c.if-at-stop.true)

pub returns-then-at-stop : goal.returns-then-at-stop
returns-then-at-stop c = λ es x. begun_run _ _ _ _ _ _ c.next_seat-at.ensures _ _ c.pass_by.ensures es x

pub returns-else-at-stop : goal.returns-else-at-stop
returns-else-at-stop c = λ es x. begun_none _ _ _ _ _ _ c.next_seat-at.ensures (omega (arith, c.if-at-stop.false)) _ es x
