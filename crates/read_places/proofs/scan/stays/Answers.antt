use native.Mathlib.Omega.{arith}
use Rattle.format.proofs.Versions.{no_way}
use Rattle.read_event.proofs.Quiet.{stay_other, stay_same}
use Rattle.read_places.proofs.Scans.{stay_start}
use Rattle.read_places.proofs.scan.stays.Goals as goal

pub returns-then-stop-e : goal.returns-then-stop-e
returns-then-stop-e c = λ e. no_way e

pub returns-then-j-ge16 : goal.returns-then-j-ge16
returns-then-j-ge16 c = λ e. no_way e

pub bounds-file-e : goal.bounds-file-e
bounds-file-e c = omega (arith, c.requires (omega (arith, c.if-stop-e.false)))

pub returns-then-start : goal.returns-then-start
returns-then-start c = λ e. record { before = omega (arith, c.if-stop-e.false); few = omega (arith, c.if-j-ge16.false); inside = stay_start _ _ _ _ _ c.if-start.true e }

pub returns-then-code-ne-FRAME_PRE : goal.returns-then-code-ne-FRAME_PRE
returns-then-code-ne-FRAME_PRE c = λ e. record { before = omega (arith, c.if-stop-e.false); few = omega (arith, c.if-j-ge16.false); inside = stay_other _ _ _ _ _ c.if-start.false c.if-code-ne-FRAME_PRE.true }

pub returns-then-o-eq0 : goal.returns-then-o-eq0
returns-then-o-eq0 c = λ e. no_way e

pub overflow_add-e : goal.overflow_add-e
overflow_add-e c = omega (arith, c.requires (omega (arith, c.if-stop-e.false)), c.well_formed)

pub get_be-requires : goal.get_be-requires
get_be-requires c = (omega arith, omega (arith, c.requires (omega (arith, c.if-stop-e.false))))

pub returns : goal.returns
returns c =
    λ e. record { before = omega (arith, c.if-stop-e.false); few = omega (arith, c.if-j-ge16.false); inside = stay_same _ _ _ _ _ c.if-start.false c.if-code-ne-FRAME_PRE.false c.if-o-eq0.false c.get_be.ensures e }
