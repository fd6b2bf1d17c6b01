use mathlib.Core.Path.{ap}
use mathlib.Core.List.{List}
use Prim.Native.Nat.{ℕ}
use native.Mathlib.Omega.{arith}
use Rattle.game.specs.Frames.{Slot}
use Rattle.events.specs.Length.{players_over}
use Rattle.append.proofs.Lengths.{over_done}
use Rattle.final_rows.proofs.Lengths.{slot_in_lem, slot_out}
use Rattle.final_rows.proofs.sizes.players_in.Goals as goal
use Rattle.final_rows.proofs.sizes.players_in.Goals.{then-is_present, else-is_present}

pub loop-k-init : goal.loop-k-init
loop-k-init c =
    (omega arith, omega arith, c.requires.few, omega arith)

pub loop-k-preserved : goal.loop-k-preserved
loop-k-preserved c =
    let a = c.args in
    let l = c.loop-k in
    elim c.if-is_present.branch [
      | then-is_present w ↦ rw w.n-is (omega arith, omega arith, l.invariant.2, slot_in_lem a.presence.now a.i a.s l.k l.n _ c.loop-k-test.true _ c.is_present.ensures l.invariant.3 w.if-is_present.true)
      | else-is_present w ↦ rw w.n-is (omega arith, omega arith, l.invariant.2, slot_out a.presence.now a.i a.s l.k l.n _ c.loop-k-test.true _ c.is_present.ensures l.invariant.3 w.if-is_present.false)
    ]

pub returns : goal.returns
returns c =
    let players : List Slot → ℕ = λ ss. players_over c.args.presence.now ss c.args.i 1 in
    (omega (arith, c.loop-k.invariant.3, over_done c.args.presence.now c.args.i 1 c.args.s c.loop-k.k (omega arith), ap players c.requires.listed), omega (arith, c.loop-k.invariant))
