use mathlib.Core.Path.{◌∙◌}
use Prim.Native.Nat.{◌+◌}
use native.Mathlib.Omega.{arith}
use Rattle.read_leap.proofs.Leaps.{when_on, when_off}
use Rattle.read_leap.proofs.leap.put_ends.Goals as goal

pub overflow_add-next : goal.overflow_add-next
overflow_add-next c = omega (arith, c.requires.0, c.well_formed)

pub put_stepped-requires : goal.put_stepped-requires
put_stepped-requires c = let h = c.requires in (h.1 c.if-e-next.true, h.2, h.3)

pub returns-then-e-next : goal.returns-then-e-next
returns-then-e-next c = (c.put_stepped.ensures ∙ when_on _ _ _ _ c.if-e-next.true, when_on _ _ _ _ c.if-e-next.true)

pub returns : goal.returns
returns c =
    let l = c.args.l in
    (when_off l.end (l.at + l.step) _ _ (omega (arith, c.if-e-next.false)), when_off l.end (l.at + l.step) _ _ (omega (arith, c.if-e-next.false)))
