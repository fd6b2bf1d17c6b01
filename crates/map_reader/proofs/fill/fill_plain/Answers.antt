-- `map_reader::fill::fill_plain` meets its contract: a text, or a number.
use mathlib.Core.Path.{refl, sym}
use native.Mathlib.Omega.{arith}
use Rattle.wire.proofs.Writers.{wrote_as}
use Rattle.map_reader.proofs.Fills.{plain_text, plain_number, wrote_row}
use Rattle.map_reader.proofs.fill.fill_plain.Goals as goal

pub put_row-requires : goal.put_row-requires
put_row-requires c =
    let p = c.requires in
    let t = plain_text _ _ 0 0 c.byte_at.ensures.0 c.if-byte_at-eq83.true p.0 c.byte_at-n.ensures.0 in
    (p.4, p.2, p.3, omega (arith, t.fits, p.1), omega (arith, t.fits, p.1))

pub returns-then-byte_at-eq83 : goal.returns-then-byte_at-eq83
returns-then-byte_at-eq83 c =
    let t = plain_text _ _ _ _ c.byte_at.ensures.0 c.if-byte_at-eq83.true c.requires.0 c.byte_at-n.ensures.0 in
    (t.stop_is, wrote_as (sym t.row) c.put_row.ensures)

pub returns : goal.returns
returns c =
    let t = plain_number _ _ _ _ c.byte_at.ensures.0 c.if-byte_at-eq83.false c.requires.0 in
    (t.stop_is, wrote_row t.row c.get_be.ensures c.put_row-2.ensures)

pub overflow_add-q : goal.overflow_add-q
overflow_add-q c = record { fits = omega (arith, c.requires.1, (plain_text _ _ 0 0 c.byte_at.ensures.0 c.if-byte_at-eq83.true c.requires.0 refl).fits) }

pub overflow_add-q-then-byte_at-eq83 : goal.overflow_add-q-then-byte_at-eq83
overflow_add-q-then-byte_at-eq83 c = record { fits = omega (arith, c.requires.1, (plain_text _ _ 0 0 c.byte_at.ensures.0 c.if-byte_at-eq83.true c.requires.0 refl).fits) }

pub overflow_add-result : goal.overflow_add-result
overflow_add-result c = record { fits = omega (arith, c.requires.1, (plain_text _ _ 0 0 c.byte_at.ensures.0 c.if-byte_at-eq83.true c.requires.0 refl).fits) }

pub overflow_add-result-then-byte_at-eq83 : goal.overflow_add-result-then-byte_at-eq83
overflow_add-result-then-byte_at-eq83 c =
    record {
      fits = omega (
        arith,
        c.requires.1,
        (plain_text _ _ 0 0 c.byte_at.ensures.0 c.if-byte_at-eq83.true c.requires.0
            c.byte_at-n.ensures.0).fits,
      );
    }

pub overflow_add-q-2 : goal.overflow_add-q-2
overflow_add-q-2 c = record { fits = omega (arith, c.requires.1, (plain_number _ _ 0 0 c.byte_at.ensures.0 c.if-byte_at-eq83.false c.requires.0).fits) }

pub get_be-requires : goal.get_be-requires
get_be-requires c = (omega arith, omega (arith, (plain_number _ _ 0 0 c.byte_at.ensures.0 c.if-byte_at-eq83.false c.requires.0).fits))

pub overflow_add-result-2 : goal.overflow_add-result-2
overflow_add-result-2 c = record { fits = omega (arith, c.requires.1, (plain_number _ _ 0 0 c.byte_at.ensures.0 c.if-byte_at-eq83.false c.requires.0).fits) }
