use native.Mathlib.Omega.{arith}
use Rattle.format.proofs.Versions.{no_way}
use Rattle.newer_places.proofs.Scans.{not_eq}
use Rattle.newer_places.proofs.scan.stays.Reads as reads
use Rattle.newer_places.proofs.scan.stays.Lts as lts
use Rattle.newer_places.proofs.scan.stays.Goals as goal

pub returns-then-stop-e : goal.returns-then-stop-e
returns-then-stop-e c = λ e. no_way e

pub returns-then-j-ge16 : goal.returns-then-j-ge16
returns-then-j-ge16 c = λ e. no_way e

pub bounds-file-e : goal.bounds-file-e
bounds-file-e c = omega (arith, c.requires (omega (arith, c.if-stop-e.false)))

pub returns : goal.returns
returns c = λ e. record { before = omega (arith, c.if-stop-e.false); few = omega (arith, c.if-j-ge16.false); inside = not_eq _ _ e }
