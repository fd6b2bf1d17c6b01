use native.Mathlib.Omega.{arith}
use borrow.Author.Tests.{eq-eqb, ne_eqb}
use Rattle.grammar.specs.Machine.{family_of}
use Rattle.read_scan.proofs.event.kind_of.Goals as goal

pub returns-then-code-eq-FRAME_PRE : goal.returns-then-code-eq-FRAME_PRE
unfolding family_of
returns-then-code-eq-FRAME_PRE c = let x = c.args.code in rw (eq-eqb x 0x37 (omega arith))

pub returns-then-code-eq-FRAME_POST : goal.returns-then-code-eq-FRAME_POST
unfolding family_of
returns-then-code-eq-FRAME_POST c = let x = c.args.code in rw (ne_eqb x 0x37 (λ e. omega arith), eq-eqb x 0x38 (omega arith))

pub returns-then-code-eq-FRAME_START : goal.returns-then-code-eq-FRAME_START
unfolding family_of
returns-then-code-eq-FRAME_START c = let x = c.args.code in rw (ne_eqb x 0x37 (λ e. omega arith), ne_eqb x 0x38 (λ e. omega arith), eq-eqb x 0x3A (omega arith))

pub returns-then-code-eq-ITEM : goal.returns-then-code-eq-ITEM
unfolding family_of
returns-then-code-eq-ITEM c =
    let x = c.args.code in
    rw (ne_eqb x 0x37 (λ e. omega arith), ne_eqb x 0x38 (λ e. omega arith), ne_eqb x 0x3A (λ e. omega arith), eq-eqb x 0x3B (omega arith))

pub returns-then-code-eq-FRAME_END : goal.returns-then-code-eq-FRAME_END
unfolding family_of
returns-then-code-eq-FRAME_END c =
    let x = c.args.code in
    rw (ne_eqb x 0x37 (λ e. omega arith), ne_eqb x 0x38 (λ e. omega arith), ne_eqb x 0x3A (λ e. omega arith), ne_eqb x 0x3B (λ e. omega arith), eq-eqb x 0x3C (omega arith))

pub returns-then-code-eq-FOD_PLATFORM : goal.returns-then-code-eq-FOD_PLATFORM
unfolding family_of
returns-then-code-eq-FOD_PLATFORM c =
    let x = c.args.code in
    rw (ne_eqb x 0x37 (λ e. omega arith), ne_eqb x 0x38 (λ e. omega arith), ne_eqb x 0x3A (λ e. omega arith), ne_eqb x 0x3B (λ e. omega arith), ne_eqb x 0x3C (λ e. omega arith), eq-eqb x 0x3F (omega arith))

pub returns-then-code-eq-DREAMLAND_WHISPY : goal.returns-then-code-eq-DREAMLAND_WHISPY
unfolding family_of
returns-then-code-eq-DREAMLAND_WHISPY c =
    let x = c.args.code in
    rw (ne_eqb x 0x37 (λ e. omega arith), ne_eqb x 0x38 (λ e. omega arith), ne_eqb x 0x3A (λ e. omega arith), ne_eqb x 0x3B (λ e. omega arith), ne_eqb x 0x3C (λ e. omega arith), ne_eqb x 0x3F (λ e. omega arith), eq-eqb x 0x40 (omega arith))

pub returns-then-code-eq-STADIUM_TRANSFORMATION : goal.returns-then-code-eq-STADIUM_TRANSFORMATION
unfolding family_of
returns-then-code-eq-STADIUM_TRANSFORMATION c =
    let x = c.args.code in
    rw (ne_eqb x 0x37 (λ e. omega arith), ne_eqb x 0x38 (λ e. omega arith), ne_eqb x 0x3A (λ e. omega arith), ne_eqb x 0x3B (λ e. omega arith), ne_eqb x 0x3C (λ e. omega arith), ne_eqb x 0x3F (λ e. omega arith), ne_eqb x 0x40 (λ e. omega arith), eq-eqb x 0x41 (omega arith))

pub returns : goal.returns
unfolding family_of
returns c =
    let x = c.args.code in
    rw (
      ne_eqb x 0x37 c.if-code-eq-FRAME_PRE.false,
      ne_eqb x 0x38 c.if-code-eq-FRAME_POST.false,
      ne_eqb x 0x3A c.if-code-eq-FRAME_START.false,
      ne_eqb x 0x3B
          c.if-code-eq-ITEM.false,
      ne_eqb x 0x3C c.if-code-eq-FRAME_END.false,
      ne_eqb x 0x3F c.if-code-eq-FOD_PLATFORM.false,
      ne_eqb x 0x40
          c.if-code-eq-DREAMLAND_WHISPY.false,
      ne_eqb x 0x41 c.if-code-eq-STADIUM_TRANSFORMATION.false,
    )
