use native.Mathlib.Omega.{arith}
use Rattle.read_leap.proofs.leap.leaps_at.Goals as goal

pub returns-then-file-at-ne-FRAME_START : goal.returns-then-file-at-ne-FRAME_START
returns-then-file-at-ne-FRAME_START c = λ h. absurd (omega (arith, h))

pub returns-then-step-lt5 : goal.returns-then-step-lt5
returns-then-step-lt5 c = λ h. absurd (omega (arith, h))

pub returns-then-frames-lt8 : goal.returns-then-frames-lt8
returns-then-frames-lt8 c = λ h. absurd (omega (arith, h))

pub returns-then-frames-s : goal.returns-then-frames-s
returns-then-frames-s c = λ h. absurd (omega (arith, h))

pub returns-then-frames-s-2 : goal.returns-then-frames-s-2
returns-then-frames-s-2 c = λ h. absurd (omega (arith, h))

pub returns-then-s-gt1048576 : goal.returns-then-s-gt1048576
returns-then-s-gt1048576 c = λ h. absurd (omega (arith, h))

pub returns : goal.returns
returns c = λ h. record {
  leapt = c.ends_at.ensures h;
  modest = omega (arith, c.if-s-gt1048576.false);
  starts = omega (arith, c.if-frames-s.false, c.if-frames-lt8.false);
  ends = omega (arith, c.if-frames-s-2.false, c.if-frames-lt8.false);
}
