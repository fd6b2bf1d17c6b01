use mathlib.Core.Path.{◌≡◌, refl}
use Prim.Native.Nat.{◌+◌, ◌*◌, ◌/◌}
use native.Mathlib.Omega.{arith}
use Rattle.players.specs.Presence.{marked, count_from}
use Rattle.players.proofs.PresenceLaws.{count_all, count_most, whole_byte, last_bits, no_bits}
use Rattle.players.proofs.presence.present_in.Goals as goal
use Rattle.players.proofs.presence.present_in.Goals.{After-ones_of-n}

pub returns-then-len-eq0 : goal.returns-then-len-eq0
returns-then-len-eq0 c = count_all _ _ _ _ _ c.if-len-eq0.true

pub loop-i-init : goal.loop-i-init
unfolding count_from
loop-i-init c = (omega arith, c.requires.enough c.if-len-eq0.false, refl)

-- after a whole byte
counted : (c : After-ones_of-n)
    → c.loop-i.n + c.ones_of-n.result
    ≡ count_from (marked c.args.presence.now c.args.at c.args.len) 0 (8 * (c.loop-i.i + 1))
counted c =
    let a = c.args in
    whole_byte _ _ _ c.if-len-eq0.false c.loop-i.i _ _ (c.shared_slice_known-in-loop-i-1.given (a.at + c.loop-i.i)).fits c.ones_of-n.ensures c.loop-i.invariant.2

pub overflow_add-n : goal.overflow_add-n
overflow_add-n c = let a = c.args in omega (arith, counted c, count_most (marked a.presence.now a.at a.len) 0 (8 * (c.loop-i.i + 1)))

pub loop-i-preserved : goal.loop-i-preserved
loop-i-preserved c = (omega arith, c.loop-i.invariant.1, counted c)

pub returns-then-rest-eq0 : goal.returns-then-rest-eq0
returns-then-rest-eq0 c = no_bits _ _ _ c.if-len-eq0.false _ _ _ (omega arith) c.if-rest-eq0.true c.loop-i.invariant.2

pub returns : goal.returns
returns c =
    let full : c.loop-i.i ≡ c.args.frames / 8 = omega arith in
    last_bits _ _ _ c.if-len-eq0.false c.loop-i.i _ _ _ full (rw full c.ones_below.ensures) c.loop-i.invariant.2

pub overflow_add-result : goal.overflow_add-result
overflow_add-result c = let a = c.args in omega (arith, returns c, count_most (marked a.presence.now a.at a.len) 0 a.frames)
