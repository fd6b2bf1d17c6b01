use mathlib.Core.Path.{refl, ◌∙◌}
use Rattle.map.proofs.Numbers.{some_number}
use native.Mathlib.Omega.{arith}
use Rattle.map_reader.proofs.Steps.{value_text, value_no_text, value_number, value_no_number, value_none, map_deep, map_refused, map_open, map_closed}
use Rattle.map_reader.proofs.Going.{passed_on, told_no, told_yes, told_map_no, told_map_yes, size_text, size_number, size_map, going_start, going_done, going_cut, going_twice, going_bad, going_more, ran_of_lem}
use Rattle.map_reader.proofs.read.+read_map_read_value.Goals as goal

pub read_map-loop-stop-init : goal.read_map-loop-stop-init
read_map-loop-stop-init t c = (omega arith, c.requires, going_start _ _ _)

pub read_map-text_stop-stop-requires : goal.read_map-text_stop-stop-requires
read_map-text_stop-stop-requires t c = c.loop-stop.invariant.1

pub read_map-returns-then-stop-eq0 : goal.read_map-returns-then-stop-eq0
read_map-returns-then-stop-eq0 t c =
    told_map_no c.wrong.ensures (going_cut c.loop-stop.invariant.2 c.loop-stop.invariant.1 c.byte_at.ensures.0 c.loop-stop-test.true
    c.text_stop-stop.ensures.0 c.if-stop-eq0.true)

pub read_map-repeated-requires : goal.read_map-repeated-requires
read_map-repeated-requires t c = ((λ z. c.if-stop-eq0.false (c.text_stop-stop.ensures.0 ∙ z)), ran_of_lem c.loop-stop.invariant.2)

pub read_map-returns-then-repeated : goal.read_map-returns-then-repeated
read_map-returns-then-repeated t c =
    told_map_no c.wrong-then-repeated.ensures (going_twice c.loop-stop.invariant.2 c.loop-stop.invariant.1 c.byte_at.ensures.0 c.loop-stop-test.true
    c.text_stop-stop.ensures.0 c.if-stop-eq0.false c.repeated.ensures c.if-repeated.true)

pub read_map-read_value-requires : goal.read_map-read_value-requires
read_map-read_value-requires t c = (omega (arith, c.decreases), (c.text_stop-stop.ensures.1 (omega (arith, c.if-stop-eq0.false))).1)

pub read_map-returns-in_err-v : goal.read_map-returns-in_err-v
read_map-returns-in_err-v t c =
    told_map_no (passed_on _ c.from_residual.ensures.1) (going_bad c.loop-stop.invariant.2 c.loop-stop.invariant.1 c.byte_at.ensures.0 c.loop-stop-test.true c.text_stop-stop.ensures.0
    c.if-stop-eq0.false c.repeated.ensures c.if-repeated.false c.in_err-v.ensures.0 c.in_err-v.ensures.1 (some_number _))

pub read_map-overflow_add-n : goal.read_map-overflow_add-n
read_map-overflow_add-n t c =
    record {
      fits = omega (
        arith,
        c.well_formed,
        c.loop-stop.invariant.0,
        c.loop-stop.invariant.1,
        c.text_stop-stop.ensures.1 (omega
            (arith, c.if-stop-eq0.false)),
      );
    }

pub read_map-overflow_add-n-in-loop-stop : goal.read_map-overflow_add-n-in-loop-stop
read_map-overflow_add-n-in-loop-stop t c =
    let v = c.in_ok-v.ensures.2 refl in record {
      fits = omega
          (arith, c.well_formed, c.loop-stop.invariant.0, v.0, v.1, c.text_stop-stop.ensures.1 (omega (arith, c.if-stop-eq0.false)));
    }

pub read_map-loop-stop-smaller : goal.read_map-loop-stop-smaller
read_map-loop-stop-smaller t c = let s = c.text_stop-stop.ensures.1 (omega (arith, c.if-stop-eq0.false)) in let v = c.in_ok-v.ensures.2 refl in omega (arith, s.0, v.0, v.1)

pub read_map-loop-stop-preserved : goal.read_map-loop-stop-preserved
read_map-loop-stop-preserved t c =
    let s = c.text_stop-stop.ensures.1 (omega
    (arith, c.if-stop-eq0.false)) in let v = c.in_ok-v.ensures.2 refl in (
      omega (arith, c.loop-stop.invariant.0, s.0, v.0),
      v.1,
      going_more c.loop-stop.invariant.2 c.loop-stop.invariant.1 c.byte_at.ensures.0 c.loop-stop-test.true c.text_stop-stop.ensures.0
          c.if-stop-eq0.false c.repeated.ensures c.if-repeated.false c.in_ok-v.ensures.0 c.in_ok-v.ensures.1 refl (omega (arith, s.0, v.0)) v.2,
    )

pub read_map-returns : goal.read_map-returns
read_map-returns t c = told_map_yes _ _ c.well.ensures (going_done c.loop-stop.invariant.2 c.loop-stop.invariant.1 c.byte_at.ensures.0 c.loop-stop-test.false) c.loop-stop.invariant.0 c.loop-stop.invariant.1

pub read_value-overflow_add-p : goal.read_value-overflow_add-p
read_value-overflow_add-p t c = record { fits = omega (arith, c.well_formed, c.requires) }

pub read_value-text_stop-stop-requires : goal.read_value-text_stop-stop-requires
read_value-text_stop-stop-requires t c = omega (arith, c.byte_at-mark.ensures.1 (omega (arith, c.if-mark-eq83.true)))

pub read_value-overflow_add-p-then-stop-eq0 : goal.read_value-overflow_add-p-then-stop-eq0
read_value-overflow_add-p-then-stop-eq0 t c = record { fits = omega (arith, c.well_formed, c.requires) }

pub read_value-overflow_add-p-then-stop-eq0-2 : goal.read_value-overflow_add-p-then-stop-eq0-2
read_value-overflow_add-p-then-stop-eq0-2 t c = record { fits = omega (arith, c.well_formed, c.requires) }

pub read_value-returns-then-stop-eq0 : goal.read_value-returns-then-stop-eq0
read_value-returns-then-stop-eq0 t c =
    told_no c.wrong.ensures (value_no_text _ _ _ c.byte_at-mark.ensures.0 c.if-mark-eq83.true c.text_stop-stop.ensures.0 c.if-stop-eq0.true
    c.no_text.ensures.0)

pub read_value-returns-then-mark-eq83 : goal.read_value-returns-then-mark-eq83
read_value-returns-then-mark-eq83 t c =
    let s = c.text_stop-stop.ensures.1 (omega (arith, c.if-stop-eq0.false)) in told_yes _ _ c.well.ensures (value_text _ _ _ c.byte_at-mark.ensures.0 c.if-mark-eq83.true
    c.text_stop-stop.ensures.0 c.if-stop-eq0.false) (omega (arith, s.0)) s.1 (size_text _)

pub read_value-overflow_add-p-then-mark-eq108 : goal.read_value-overflow_add-p-then-mark-eq108
read_value-overflow_add-p-then-mark-eq108 t c = record { fits = omega (arith, c.well_formed, c.requires) }

pub read_value-overflow_add-p-then-p-b : goal.read_value-overflow_add-p-then-p-b
read_value-overflow_add-p-then-p-b t c = record { fits = omega (arith, c.well_formed, c.requires) }

pub read_value-returns-then-p-b : goal.read_value-returns-then-p-b
read_value-returns-then-p-b t c = told_yes _ _ c.well-then-p-b.ensures (value_number _ _ _ c.byte_at-mark.ensures.0 c.if-mark-eq83.false c.if-mark-eq108.true c.if-p-b.true) (omega arith) c.if-p-b.true (size_number _)

pub read_value-returns-then-mark-eq108 : goal.read_value-returns-then-mark-eq108
read_value-returns-then-mark-eq108 t c = told_no c.wrong-then-mark-eq108.ensures (value_no_number _ _ _ c.byte_at-mark.ensures.0 c.if-mark-eq83.false c.if-mark-eq108.true c.if-p-b.false)

pub read_value-returns-then-depth-eq0 : goal.read_value-returns-then-depth-eq0
read_value-returns-then-depth-eq0 t c = told_no c.wrong-then-depth-eq0.ensures (map_deep _ _ _ c.byte_at-mark.ensures.0 c.if-mark-eq83.false c.if-mark-eq108.false c.if-mark-eq123.true c.if-depth-eq0.true)

pub read_value-overflow_add-p-then-mark-eq123 : goal.read_value-overflow_add-p-then-mark-eq123
read_value-overflow_add-p-then-mark-eq123 t c = record { fits = omega (arith, c.well_formed, c.requires) }

pub read_value-overflow_sub-depth : goal.read_value-overflow_sub-depth
read_value-overflow_sub-depth t c = omega (arith, c.if-depth-eq0.false)

pub read_value-read_map-requires : goal.read_value-read_map-requires
read_value-read_map-requires t c = (omega (arith, c.if-depth-eq0.false, c.decreases), omega (arith, c.byte_at-mark.ensures.1 (omega (arith, c.if-mark-eq123.true))))

pub read_value-returns-in_err-inner : goal.read_value-returns-in_err-inner
read_value-returns-in_err-inner t c =
    told_no (passed_on _ c.from_residual.ensures.1) (map_refused _ _ _ c.byte_at-mark.ensures.0 c.if-mark-eq83.false c.if-mark-eq108.false c.if-mark-eq123.true
    c.if-depth-eq0.false c.in_err-inner.ensures.0 c.in_err-inner.ensures.1 (some_number _))

pub read_value-overflow_add-inner : goal.read_value-overflow_add-inner
read_value-overflow_add-inner t c = record { fits = omega (arith, c.well_formed, c.in_ok-inner.ensures.2 refl) }

pub read_value-returns-then-byte_at-eq125 : goal.read_value-returns-then-byte_at-eq125
read_value-returns-then-byte_at-eq125 t c =
    let w = c.in_ok-inner.ensures.2 refl in told_yes _ _
    c.well-then-byte_at-eq125.ensures (map_closed _ _ _ c.byte_at-mark.ensures.0 c.if-mark-eq83.false c.if-mark-eq108.false c.if-mark-eq123.true c.if-depth-eq0.false c.in_ok-inner.ensures.0 c.in_ok-inner.ensures.1 refl
    c.byte_at.ensures.0 c.if-byte_at-eq125.true) (omega (arith, w.0)) (omega (arith, c.byte_at.ensures.1 (omega (arith, c.if-byte_at-eq125.true)))) (size_map _ w.2)

pub read_value-returns-then-mark-eq123 : goal.read_value-returns-then-mark-eq123
read_value-returns-then-mark-eq123 t c =
    told_no c.wrong-then-mark-eq123.ensures (map_open _ _ _ c.byte_at-mark.ensures.0 c.if-mark-eq83.false
    c.if-mark-eq108.false c.if-mark-eq123.true c.if-depth-eq0.false c.in_ok-inner.ensures.0 c.in_ok-inner.ensures.1 refl c.byte_at.ensures.0 c.if-byte_at-eq125.false c.other_wrong.ensures.0)

pub read_value-returns : goal.read_value-returns
read_value-returns t c = told_no c.wrong-2.ensures (value_none _ _ _ c.byte_at-mark.ensures.0 c.if-mark-eq83.false c.if-mark-eq108.false c.if-mark-eq123.false)
