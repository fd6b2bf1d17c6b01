use mathlib.Core.Path.{refl}
use native.Mathlib.Omega.{arith}
use Rattle.wire.proofs.Writers.{room_number}
use Rattle.patch.proofs.Patches.{fit_at, numbers_step, numbers_done}
use Rattle.patch.proofs.put_numbers.Goals as goal

pub loop-j-init : goal.loop-j-init
loop-j-init c = (omega arith, refl, refl)

pub overflow_add-p : goal.overflow_add-p
overflow_add-p c = omega (arith, fit_at _ _ _ _ _ c.loop-j.j c.requires (omega arith))

pub bounds-widths-j : goal.bounds-widths-j
bounds-widths-j c = (fit_at _ _ _ _ _ c.loop-j.j c.requires (omega arith)).width

pub bounds-values-j : goal.bounds-values-j
bounds-values-j c = (fit_at _ _ _ _ _ c.loop-j.j c.requires (omega arith)).value

pub put_be-requires : goal.put_be-requires
put_be-requires c =
    let f = fit_at _ _ _ _ _ c.loop-j.j c.requires (omega arith) in
    (f.four, room_number _ _ _ _ (omega (arith, c.loop-j.invariant.1)))

pub loop-j-preserved : goal.loop-j-preserved
loop-j-preserved c =
    let l = c.loop-j in
    let f = fit_at _ _ _ _ _ c.loop-j.j c.requires (omega arith) in (
      omega arith,
      omega (arith, c.put_be.auto.out, l.invariant.1),
      numbers_step _ _ _ _ l.j _ (omega arith) f.width f.value c.put_be.ensures l.invariant.2,
    )

pub shape_of-block : goal.shape_of-block
shape_of-block c = c.loop-j.invariant.1

pub returns : goal.returns
returns c = record { after_is = numbers_done _ _ _ _ c.loop-j.j (omega arith) c.loop-j.invariant.2 }
