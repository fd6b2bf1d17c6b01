use mathlib.Core.Path.{refl, ap, ◌∙◌}
use Prim.Native.Nat.{◌+◌}
use native.Mathlib.Omega.{arith}
use Rattle.map_reader.proofs.Passing.{text_here, number_here, deep_else, stop_as, passing_start, here_of, passing_done, passing_on}
use Rattle.map_reader.proofs.skip.+skip_map_skip_value.Goals as goal

pub skip_map-loop-p-init : goal.skip_map-loop-p-init
skip_map-loop-p-init t c = (omega arith, passing_start _ _ _ c.requires.1 c.requires.0)

pub skip_map-text_stop-requires : goal.skip_map-text_stop-requires
skip_map-text_stop-requires t c = c.loop-p.invariant.1.within

pub skip_map-skip_value-p-requires : goal.skip_map-skip_value-p-requires
skip_map-skip_value-p-requires t c =
    let h = here_of c.loop-p.invariant.1 (λ j. (c.type_inv.b j).fits) c.byte_at.ensures.0 c.loop-p-test.true
    c.text_stop.ensures.0 in (omega (arith, c.decreases), h.value_ok)

pub skip_map-loop-p-smaller : goal.skip_map-loop-p-smaller
skip_map-loop-p-smaller t c =
    let h = here_of c.loop-p.invariant.1 (λ j. (c.type_inv.b j).fits) c.byte_at.ensures.0 c.loop-p-test.true
    c.text_stop.ensures.0 in omega (arith, h.far, h.within, c.skip_value-p.ensures.1, c.skip_value-p.ensures.2)

pub skip_map-loop-p-preserved : goal.skip_map-loop-p-preserved
skip_map-loop-p-preserved t c =
    let h = here_of c.loop-p.invariant.1 (λ j. (c.type_inv.b j).fits) c.byte_at.ensures.0 c.loop-p-test.true
    c.text_stop.ensures.0 in (omega (arith, c.loop-p.invariant.0, h.far, c.skip_value-p.ensures.1), passing_on h c.skip_value-p.ensures.0)

pub skip_map-returns : goal.skip_map-returns
skip_map-returns t c = let x = passing_done c.loop-p.invariant.1 c.byte_at.ensures.0 c.loop-p-test.false in (x.0, c.loop-p.invariant.0, x.1)

pub skip_value-overflow_add-result : goal.skip_value-overflow_add-result
skip_value-overflow_add-result t c = record { fits = omega (arith, c.well_formed, c.byte_at-mark.ensures.1 (omega (arith, c.if-mark-eq83.true))) }

pub skip_value-overflow_add-p : goal.skip_value-overflow_add-p
skip_value-overflow_add-p t c = record { fits = omega (arith, c.well_formed, c.byte_at-mark.ensures.1 (omega (arith, c.if-mark-eq83.true))) }

pub skip_value-overflow_add-result-then-mark-eq83 : goal.skip_value-overflow_add-result-then-mark-eq83
skip_value-overflow_add-result-then-mark-eq83 t c = record { fits = omega (arith, c.well_formed, c.byte_at-mark.ensures.1 (omega (arith, c.if-mark-eq83.true)), c.wide.ensures.1) }

pub skip_value-returns-then-mark-eq83 : goal.skip_value-returns-then-mark-eq83
skip_value-returns-then-mark-eq83 t c = let t = text_here _ _ _ c.byte_at-mark.ensures.0 c.if-mark-eq83.true c.requires (c.wide.ensures.0 ∙ c.byte_at.ensures.0) in (stop_as t.is refl, omega arith, t.fits)

pub skip_value-overflow_add-result-then-mark-eq108 : goal.skip_value-overflow_add-result-then-mark-eq108
skip_value-overflow_add-result-then-mark-eq108 t c = record { fits = omega (arith, c.well_formed, c.byte_at-mark.ensures.1 (omega (arith, c.if-mark-eq108.true))) }

pub skip_value-returns-then-mark-eq108 : goal.skip_value-returns-then-mark-eq108
skip_value-returns-then-mark-eq108 t c = let t = number_here _ _ _ c.byte_at-mark.ensures.0 c.if-mark-eq83.false c.if-mark-eq108.true c.requires in (stop_as t.is refl, omega arith, t.fits)

pub skip_value-overflow_add-p-2 : goal.skip_value-overflow_add-p-2
skip_value-overflow_add-p-2 t c = let t = deep_else _ _ _ c.byte_at-mark.ensures.0 c.if-mark-eq83.false c.if-mark-eq108.false c.requires in record { fits = omega (arith, c.well_formed, t.within) }

pub skip_value-overflow_sub-depth : goal.skip_value-overflow_sub-depth
skip_value-overflow_sub-depth t c = let t = deep_else _ _ _ c.byte_at-mark.ensures.0 c.if-mark-eq83.false c.if-mark-eq108.false c.requires in t.deep

pub skip_value-skip_map-requires : goal.skip_value-skip_map-requires
skip_value-skip_map-requires t c = let t = deep_else _ _ _ c.byte_at-mark.ensures.0 c.if-mark-eq83.false c.if-mark-eq108.false c.requires in (omega (arith, c.decreases, t.deep), (t.ok, t.within))

pub skip_value-overflow_add-result-2 : goal.skip_value-overflow_add-result-2
skip_value-overflow_add-result-2 t c = let t = deep_else _ _ _ c.byte_at-mark.ensures.0 c.if-mark-eq83.false c.if-mark-eq108.false c.requires in record { fits = omega (arith, c.well_formed, t.stop_in, c.skip_map.ensures.0) }

pub skip_value-returns : goal.skip_value-returns
skip_value-returns t c =
    let t = deep_else _ _ _ c.byte_at-mark.ensures.0 c.if-mark-eq83.false c.if-mark-eq108.false c.requires in let e = c.skip_map.ensures.0 in (
      stop_as t.is (ap
          (λ k. k + 1) e),
      omega (arith, c.skip_map.ensures.1),
      omega (arith, e, t.stop_in),
    )
