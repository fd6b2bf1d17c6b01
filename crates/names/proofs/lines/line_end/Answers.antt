use native.Mathlib.Omega.{arith}
use mathlib.Core.Path.{ap}
use Prim.Native.Nat.{◌+◌}
use lib.ListN.{drop, length-drop}
use Rattle.names.proofs.Texts.{rest_all, line_within, end_found, end_missing}
use Rattle.names.proofs.lines.line_end.Goals as goal

pub returns-in-Some : goal.returns-in-Some
returns-in-Some c =
    let line = drop c.args.at c.args.s.now in
    let e = end_found line (rw (rest_all c.args.s.now c.args.at) at c.in-Some.ensures) in
    (ap (λ n. c.args.at + n) e, omega (arith, e, line_within line, length-drop c.args.at c.args.s.now, c.requires))

pub returns-in-None : goal.returns-in-None
returns-in-None c =
    let e = end_missing (drop c.args.at c.args.s.now) (rw (rest_all c.args.s.now c.args.at) at c.in-None.ensures) in
    (omega (arith, e, length-drop c.args.at c.args.s.now, c.requires), omega arith)
