use Prim.Native.Nat.{ℕ}
use Rattle.frames.proofs.CellLaws.{limit_over, wide_enough}
use Rattle.frames.proofs.stores.run_exceeds.Goals as goal

pub returns-then-width-ge4 : goal.returns-then-width-ge4
returns-then-width-ge4 c = wide_enough _ _ _ _ c.if-width-ge4.true (λ (i : ℕ). (c.shared_slice_known-1.given i).fits)

pub returns : goal.returns
returns c = limit_over _ _ _ _ _ c.if-width-ge4.false c.united-bits.ensures
