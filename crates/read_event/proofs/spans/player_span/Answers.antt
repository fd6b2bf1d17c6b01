use mathlib.Core.Path.{◌≡◌}
use Prim.Native.Nat.{ℕ, ◌≤◌}
use native.Mathlib.Omega.{arith}
use borrow.Author.Tests.{eq-eqb, ne_eqb}
use Rattle.read_event.specs.Inner.{span_by}
use Rattle.read_event.proofs.spans.player_span.Goals as goal

pub returns-then-code-eq-FRAME_PRE : goal.returns-then-code-eq-FRAME_PRE
unfolding span_by
returns-then-code-eq-FRAME_PRE c = rw (eq-eqb c.args.code 0x37 c.if-code-eq-FRAME_PRE.true)

pub returns-then-code-eq-FRAME_POST : goal.returns-then-code-eq-FRAME_POST
unfolding span_by
returns-then-code-eq-FRAME_POST c = rw (ne_eqb c.args.code 0x37 c.if-code-eq-FRAME_PRE.false, eq-eqb c.args.code 0x38 c.if-code-eq-FRAME_POST.true)

-- no other code is below a FrameStart's
pub returns : goal.returns
unfolding span_by
returns c =
    let code = c.args.code in
    let off : (x : ℕ) → 0x3A ≤ x → code ≡ x → ⊥ = λ x g e. omega (arith, c.requires, g, e) in
    let a = off 0x3A (omega arith) in
    let b = off 0x3B (omega arith) in
    let d = off 0x3C (omega arith) in
    let e = off 0x3F (omega arith) in
    let f = off 0x40 (omega arith) in
    let g = off 0x41 (omega arith) in
    rw (ne_eqb code 0x37 c.if-code-eq-FRAME_PRE.false, ne_eqb code 0x38 c.if-code-eq-FRAME_POST.false, ne_eqb code 0x3A a, ne_eqb code 0x3B b, ne_eqb code 0x3C d, ne_eqb code 0x3F e, ne_eqb code 0x40 f, ne_eqb code 0x41 g)
