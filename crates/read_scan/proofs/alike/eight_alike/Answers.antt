use native.Mathlib.Omega.{arith}
use Rattle.format.proofs.Versions.{no_way}
use Rattle.read_scan.proofs.Compare.{eight_of}
use Rattle.read_scan.proofs.alike.eight_alike.Goals as goal

pub overflow_sub-step : goal.overflow_sub-step
overflow_sub-step c = omega (arith, c.requires.0)

pub overflow_sub-stop : goal.overflow_sub-stop
overflow_sub-stop c = omega (arith, c.requires.1)

pub bounds-file-last : goal.bounds-file-last
bounds-file-last c = let h = c.requires in omega (arith, h.1, h.2, (c.eight_fit.ensures c.if-eight_fit.true).0)

pub span_of-n-requires : goal.span_of-n-requires
span_of-n-requires c = c.requires.3

pub starts_alike-requires : goal.starts_alike-requires
starts_alike-requires c =
    let h = c.requires in
    let f = c.eight_fit.ensures c.if-eight_fit.true in
    omega (arith, h.0, h.1, h.2, f.1)

pub overflow_add-last : goal.overflow_add-last
overflow_add-last c = omega (arith, c.if-n-step.true, c.requires.0)

pub rest_alike-requires : goal.rest_alike-requires
rest_alike-requires c =
    let h = c.requires in
    let f = c.eight_fit.ensures c.if-eight_fit.true in
    (h.0, omega (arith, h.0, h.1, h.2, f.1), h.3)

pub returns-then-starts_alike : goal.returns-then-starts_alike
returns-then-starts_alike c =
    λ e.
    eight_of c.requires.1 (c.eight_fit.ensures c.if-eight_fit.true) c.if-code-eq-FRAME_START.true (c.starts_alike.ensures c.if-starts_alike.true) c.span_of-n.result
    c.span_of-n.ensures.0 (c.rest_alike.ensures e)

pub returns-else-starts_alike : goal.returns-else-starts_alike
returns-else-starts_alike c = no_way

pub returns-else-n-step : goal.returns-else-n-step
returns-else-n-step c = no_way

pub returns-else-code-eq-FRAME_START : goal.returns-else-code-eq-FRAME_START
returns-else-code-eq-FRAME_START c = no_way

pub returns-else-eight_fit : goal.returns-else-eight_fit
returns-else-eight_fit c = no_way
