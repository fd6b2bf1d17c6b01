use native.Mathlib.Omega.{arith}
use Rattle.read_event.proofs.alike.goes_on.Goals as goal

pub returns-then-is_repeated : goal.returns-then-is_repeated
returns-then-is_repeated c =
    λ h. record { code = c.if-code-eq-FRAME_START.false; size = c.span_of-span.ensures; inside = omega (arith, c.if-next-e.false, c.requires.1); same = c.is_repeated.ensures c.if-is_repeated.true }
