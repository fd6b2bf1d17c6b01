use mathlib.Core.Path.{sym, ◌∙◌}
use native.Mathlib.Omega.{arith}
use Rattle.places.proofs.Laws.{seats_start, seats_here, seats_gone, seats_done}
use Rattle.places.proofs.table.seats_in.Goals as goal
use Rattle.places.proofs.table.seats_in.Goals.{then-is_present, else-is_present}

pub loop-k-init : goal.loop-k-init
loop-k-init c = (omega arith, omega arith, seats_start _ _ _)

pub loop-k-preserved : goal.loop-k-preserved
loop-k-preserved c =
    let l = c.loop-k in
    let a = c.args in
    elim c.if-is_present.branch [
      | then-is_present w ↦ (omega arith, omega arith, w.n-is ∙ seats_here a.s a.presence.now a.i l.k l.n l.invariant.2 (sym c.is_present.ensures ∙ w.if-is_present.true))
      | else-is_present w ↦ (omega arith, omega arith, w.n-is ∙ seats_gone a.s a.presence.now a.i l.k l.n l.invariant.2 (sym c.is_present.ensures ∙ w.if-is_present.false))
    ]

pub returns : goal.returns
returns c =
    let l = c.loop-k in
    let a = c.args in
    (seats_done a.s a.presence.now a.i l.k l.n l.invariant.2 l.invariant.0 (omega arith), omega (arith, l.invariant.0, l.invariant.1, c.requires.few))

pub overflow_add-n : goal.overflow_add-n
overflow_add-n c = omega (arith, c.loop-k.invariant.1, c.requires.few)
