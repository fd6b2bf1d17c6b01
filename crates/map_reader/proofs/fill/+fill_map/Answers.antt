use native.Mathlib.Omega.{arith}
use Rattle.wire.proofs.Writers.{wrote_length}
use Rattle.map_reader.proofs.Fills.{filling_start, filling_done, row_of, row_room, plain_ok, plain_again, deep_room, deep_again, deep_far, plain_far}
use Rattle.map_reader.proofs.Passing.{deep_of}
use Rattle.map_reader.proofs.fill.+fill_map.Goals as goal

pub loop-q-init : goal.loop-q-init
loop-q-init t c = filling_start _ _ _ _ _ c.requires.1 c.requires.0

pub text_stop-q-requires : goal.text_stop-q-requires
text_stop-q-requires t c = c.loop-q.invariant.pass.within

pub overflow_add-key : goal.overflow_add-key
overflow_add-key t c =
    let h = row_of (λ j. (c.type_inv.b j).fits) c.loop-q.invariant c.byte_at.ensures.0 c.loop-q-test.true c.text_stop-q.ensures.0 in
    record { fits = omega (arith, h.far, h.within, c.requires.2) }

pub overflow_add-n : goal.overflow_add-n
overflow_add-n t c =
    let h = row_of (λ j. (c.type_inv.b j).fits) c.loop-q.invariant c.byte_at.ensures.0 c.loop-q-test.true c.text_stop-q.ensures.0 in
    record { fits = omega (arith, h.few, h.far, h.within, c.requires.2) }

pub overflow_add-q : goal.overflow_add-q
overflow_add-q t c =
    let h = row_of (λ j. (c.type_inv.b j).fits) c.loop-q.invariant c.byte_at.ensures.0 c.loop-q-test.true
    c.text_stop-q.ensures.0 in
    let y = deep_of _ _ _ c.byte_at-in-loop-q.ensures.0 c.if-byte_at-eq123.true h.value_ok in
    record { fits = omega (arith, y.within, c.requires.2) }

pub overflow_sub-depth : goal.overflow_sub-depth
overflow_sub-depth t c =
    let h = row_of (λ j. (c.type_inv.b j).fits) c.loop-q.invariant c.byte_at.ensures.0 c.loop-q-test.true
    c.text_stop-q.ensures.0 in
    let y = deep_of _ _ _ c.byte_at-in-loop-q.ensures.0 c.if-byte_at-eq123.true h.value_ok in
    y.deep

pub overflow_add-k : goal.overflow_add-k
overflow_add-k t c =
    let h = row_of (λ j. (c.type_inv.b j).fits) c.loop-q.invariant c.byte_at.ensures.0
    c.loop-q-test.true c.text_stop-q.ensures.0 in
    record { fits = omega (arith, row_room h c.requires.3, c.well_formed) }

pub fill_map-inner-requires : goal.fill_map-inner-requires
fill_map-inner-requires t c =
    let h = row_of (λ j. (c.type_inv.b j).fits) c.loop-q.invariant c.byte_at.ensures.0
    c.loop-q-test.true c.text_stop-q.ensures.0 in
    let y = deep_of _ _ _ c.byte_at-in-loop-q.ensures.0 c.if-byte_at-eq123.true h.value_ok in (
      omega (arith, y.deep, c.decreases),
      (
        y.ok,
        y.within,
        c.requires.2,
        deep_room h y
            c.requires.3,
      ),
    )

pub overflow_sub-q : goal.overflow_sub-q
overflow_sub-q t c =
    let h = row_of (λ j. (c.type_inv.b j).fits) c.loop-q.invariant
    c.byte_at.ensures.0 c.loop-q-test.true c.text_stop-q.ensures.0 in
    omega (arith, h.far)

pub put_row-requires : goal.put_row-requires
put_row-requires t c =
    let h = row_of (λ j. (c.type_inv.b j).fits) c.loop-q.invariant
    c.byte_at.ensures.0 c.loop-q-test.true c.text_stop-q.ensures.0 in (
      omega (arith, row_room h c.requires.3, wrote_length c.fill_map-inner.ensures.3),
      omega
          (arith, h.far, h.within, c.requires.2),
      omega
          (arith, h.within, c.requires.2),
      omega
          (arith, c.fill_map-inner.ensures.2, c.requires.2),
      omega arith,
    )

pub overflow_add-p : goal.overflow_add-p
overflow_add-p t c =
    let h = row_of (λ j. (c.type_inv.b j).fits)
    c.loop-q.invariant c.byte_at.ensures.0
    c.loop-q-test.true c.text_stop-q.ensures.0 in
    let y = deep_of _ _ _ c.byte_at-in-loop-q.ensures.0 c.if-byte_at-eq123.true h.value_ok in
    record { fits = omega (arith, y.stop_in, c.fill_map-inner.ensures.0, c.requires.2) }

pub loop-q-smaller-then-byte_at-eq123 : goal.loop-q-smaller-then-byte_at-eq123
loop-q-smaller-then-byte_at-eq123 t c =
    let h = row_of (λ j. (c.type_inv.b j).fits)
    c.loop-q.invariant c.byte_at.ensures.0
    c.loop-q-test.true c.text_stop-q.ensures.0 in
    let y = deep_of _ _ _ c.byte_at-in-loop-q.ensures.0 c.if-byte_at-eq123.true h.value_ok in
    omega (arith, deep_far h y c.fill_map-inner.ensures.0)

pub loop-q-preserved-then-byte_at-eq123 : goal.loop-q-preserved-then-byte_at-eq123
loop-q-preserved-then-byte_at-eq123 t c =
    let h = row_of (λ j. (c.type_inv.b j).fits)
    c.loop-q.invariant c.byte_at.ensures.0
    c.loop-q-test.true c.text_stop-q.ensures.0 in
    let y = deep_of _ _ _ c.byte_at-in-loop-q.ensures.0 c.if-byte_at-eq123.true h.value_ok in
    deep_again h y c.fill_map-inner.ensures.0 c.fill_map-inner.ensures.1 c.fill_map-inner.ensures.3
    c.put_row.ensures

pub overflow_sub-q-else-byte_at-eq123 : goal.overflow_sub-q-else-byte_at-eq123
overflow_sub-q-else-byte_at-eq123 t c =
    let h = row_of (λ j. (c.type_inv.b j).fits) c.loop-q.invariant c.byte_at.ensures.0 c.loop-q-test.true
    c.text_stop-q.ensures.0 in
    omega (arith, h.far)

pub fill_plain-p-requires : goal.fill_plain-p-requires
fill_plain-p-requires t c =
    let h = row_of (λ j. (c.type_inv.b j).fits) c.loop-q.invariant c.byte_at.ensures.0
    c.loop-q-test.true c.text_stop-q.ensures.0 in (
      plain_ok h c.byte_at-in-loop-q.ensures.0 c.if-byte_at-eq123.false,
      c.requires.2,
      omega
          (arith, h.far, h.within, c.requires.2),
      omega (arith, h.within, c.requires.2),
      (row_room h
          c.requires.3).0,
    )

pub overflow_add-k-else-byte_at-eq123 : goal.overflow_add-k-else-byte_at-eq123
overflow_add-k-else-byte_at-eq123 t c =
    let h = row_of (λ j. (c.type_inv.b j).fits) c.loop-q.invariant
    c.byte_at.ensures.0 c.loop-q-test.true c.text_stop-q.ensures.0 in
    record { fits = omega (arith, row_room h c.requires.3, c.well_formed) }

pub loop-q-smaller : goal.loop-q-smaller
loop-q-smaller t c =
    let h = row_of (λ j. (c.type_inv.b j).fits) c.loop-q.invariant
    c.byte_at.ensures.0 c.loop-q-test.true c.text_stop-q.ensures.0 in
    omega (arith, plain_far h c.byte_at-in-loop-q.ensures.0 c.if-byte_at-eq123.false c.fill_plain-p.ensures.0)

pub loop-q-preserved : goal.loop-q-preserved
loop-q-preserved t c =
    let h = row_of (λ j. (c.type_inv.b j).fits) c.loop-q.invariant
    c.byte_at.ensures.0 c.loop-q-test.true c.text_stop-q.ensures.0 in
    plain_again h c.byte_at-in-loop-q.ensures.0 c.if-byte_at-eq123.false (λ j. (c.type_inv.b j).fits)
    c.fill_plain-p.ensures.0 c.fill_plain-p.ensures.1

pub shape_of-rows : goal.shape_of-rows
shape_of-rows t c = c.loop-q.invariant.left.same

pub returns : goal.returns
returns t c = filling_done c.loop-q.invariant c.byte_at.ensures.0 c.loop-q-test.false
