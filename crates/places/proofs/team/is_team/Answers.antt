use native.Mathlib.Omega.{arith}
use lib.ListN.{get_or}
use Rattle.places.specs.Inner.{Steady}
use Rattle.places.proofs.Laws.{never, below_step, whole_team}
use Rattle.places.proofs.team.is_team.Goals as goal

pub returns-then-b-i : goal.returns-then-b-i
returns-then-b-i c = λ e. never e

pub returns-then-whole : goal.returns-then-whole
returns-then-whole c = λ e. (omega (arith, c.if-b-i.false), whole_team _ _ _ (c.requires.0 c.if-whole.true))

pub loop-k-init : goal.loop-k-init
loop-k-init c = (omega arith, λ u h. absurd (omega arith))

pub is_steady-requires : goal.is_steady-requires
is_steady-requires c =
    omega (arith, c.requires.2, c.requires.3)

pub loop-k-preserved : goal.loop-k-preserved
loop-k-preserved c =
    let l = c.loop-k in
    let a = c.args in
    (omega arith, below_step (λ u. Steady a.presence.now (get_or a.s.at u 0) (get_or a.s.len u 0) a.i) l.k l.invariant.1 (c.is_steady.ensures c.if-not-is_steady.false))

pub returns-then-not-is_steady : goal.returns-then-not-is_steady
returns-then-not-is_steady c = λ e. never e

pub returns : goal.returns
returns c = λ e. (omega (arith, c.if-b-i.false), record { each = λ k h. c.loop-k.invariant.1 k (omega arith) })

pub overflow_add-i : goal.overflow_add-i
overflow_add-i c = omega (arith, c.requires.2, c.requires.3)
