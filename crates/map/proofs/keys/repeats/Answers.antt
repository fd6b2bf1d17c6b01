use native.Mathlib.Omega.{arith}
use Rattle.map.proofs.KeyLaws.{looking_start, looking_away, looking_done, looking_same, looking_more, after_is}
use Rattle.map.proofs.keys.repeats.Goals as goal

pub key_stored-requires : goal.key_stored-requires
key_stored-requires c = c.requires

pub loop-q-init : goal.loop-q-init
loop-q-init c = looking_start _ _ _ _ _

pub returns-then-same_key : goal.returns-then-same_key
returns-then-same_key c = looking_same c.key_stored.ensures c.if-key_stored.true c.loop-q.invariant c.loop-q-test.true c.same_key.ensures c.if-same_key.true

pub loop-q-smaller : goal.loop-q-smaller
loop-q-smaller c = let far = c.skip_rows-q.ensures.2 (omega arith) (omega (arith, c.loop-q-test.true, c.requires)) in omega (arith, far, c.loop-q-test.true)

pub loop-q-preserved : goal.loop-q-preserved
loop-q-preserved c = looking_more c.key_stored.ensures c.if-key_stored.true c.loop-q.invariant c.loop-q-test.true
    c.same_key.ensures c.if-same_key.false (after_is _ _ _ _ (omega (arith, c.loop-q-test.true, c.requires)) c.skip_rows-q.ensures.0)

pub returns-after-loop-q : goal.returns-after-loop-q
returns-after-loop-q c = looking_done c.key_stored.ensures c.if-key_stored.true c.loop-q.invariant c.loop-q-test.false

pub returns-else-key_stored : goal.returns-else-key_stored
returns-else-key_stored c = looking_away _ _ _ _ _ c.key_stored.ensures c.if-key_stored.false
