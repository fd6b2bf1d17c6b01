use native.Mathlib.Omega.{arith}
use Rattle.format.proofs.Versions.{no_way}
use Rattle.read_event.proofs.alike.is_ahead.Goals as goal

pub returns-then-not-start : goal.returns-then-not-start
returns-then-not-start c = λ e. no_way e

pub returns-then-step-z : goal.returns-then-step-z
returns-then-step-z c = λ e. no_way e

pub returns-then-file-stop : goal.returns-then-file-stop
returns-then-file-stop c = λ e. no_way e

pub returns-then-stop-at : goal.returns-then-stop-at
returns-then-stop-at c = λ e. no_way e

pub returns-then-frames-first : goal.returns-then-frames-first
returns-then-frames-first c = λ e. no_way e

pub returns-then-file-at-ne-FRAME_START : goal.returns-then-file-at-ne-FRAME_START
returns-then-file-at-ne-FRAME_START c = λ e. no_way e

pub returns : goal.returns
returns c =
    λ e. record {
      starts = c.if-not-start.false;
      forward = omega (arith, c.if-step-z.false);
      inside = omega (arith, c.if-stop-at.false, c.if-file-stop.false, c.requires);
      whole = omega (arith, c.if-file-stop.false);
      room = omega (arith, c.if-frames-first.false);
      code = c.if-file-at-ne-FRAME_START.false;
      same = c.is_repeated.ensures e;
    }
