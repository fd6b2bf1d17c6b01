use mathlib.Core.Path.{◌≡◌}
use Prim.Native.Nat.{ℕ, ◌≤◌}
use native.Mathlib.Omega.{arith}
use borrow.Author.Tests.{eq-eqb, ne_eqb}
use Rattle.read_event.specs.Inner.{span_by}
use Rattle.read_event.proofs.spans.span_of.Goals as goal

-- it is no player's
pre-off : (code : ℕ) → 0x3A ≤ code → code ≡ 0x37 → ⊥
pre-off code h e = omega (arith, h, e)

post-off : (code : ℕ) → 0x3A ≤ code → code ≡ 0x38 → ⊥
post-off code h e = omega (arith, h, e)

pub player_span-requires : goal.player_span-requires
player_span-requires c = c.if-code-lt-FRAME_START.true

pub returns-then-code-lt-FRAME_START : goal.returns-then-code-lt-FRAME_START
returns-then-code-lt-FRAME_START c = c.player_span.ensures

pub returns-then-code-eq-FRAME_START : goal.returns-then-code-eq-FRAME_START
unfolding span_by
returns-then-code-eq-FRAME_START c =
    let k = c.args.code in
    let o = c.if-code-lt-FRAME_START.false in
    rw (ne_eqb k 0x37 (pre-off k o), ne_eqb k 0x38 (post-off k o), eq-eqb k 0x3A c.if-code-eq-FRAME_START.true)

pub returns-then-code-eq-ITEM : goal.returns-then-code-eq-ITEM
unfolding span_by
returns-then-code-eq-ITEM c =
    let k = c.args.code in
    let o = c.if-code-lt-FRAME_START.false in
    rw (ne_eqb k 0x37 (pre-off k o), ne_eqb k 0x38 (post-off k o), ne_eqb k 0x3A c.if-code-eq-FRAME_START.false, eq-eqb k 0x3B c.if-code-eq-ITEM.true)

pub returns-then-code-eq-FRAME_END : goal.returns-then-code-eq-FRAME_END
unfolding span_by
returns-then-code-eq-FRAME_END c =
    let k = c.args.code in
    let o = c.if-code-lt-FRAME_START.false in
    rw (ne_eqb k 0x37 (pre-off k o), ne_eqb k 0x38 (post-off k o), ne_eqb k 0x3A c.if-code-eq-FRAME_START.false, ne_eqb k 0x3B c.if-code-eq-ITEM.false, eq-eqb k 0x3C c.if-code-eq-FRAME_END.true)

pub returns-then-code-eq-FOD_PLATFORM : goal.returns-then-code-eq-FOD_PLATFORM
unfolding span_by
returns-then-code-eq-FOD_PLATFORM c =
    let k = c.args.code in
    let o = c.if-code-lt-FRAME_START.false in
    rw (ne_eqb k 0x37 (pre-off k o), ne_eqb k 0x38 (post-off k o), ne_eqb k 0x3A c.if-code-eq-FRAME_START.false, ne_eqb k 0x3B c.if-code-eq-ITEM.false, ne_eqb k 0x3C c.if-code-eq-FRAME_END.false, eq-eqb k 0x3F c.if-code-eq-FOD_PLATFORM.true)

pub returns-then-code-eq-DREAMLAND_WHISPY : goal.returns-then-code-eq-DREAMLAND_WHISPY
unfolding span_by
returns-then-code-eq-DREAMLAND_WHISPY c =
    let k = c.args.code in
    let o = c.if-code-lt-FRAME_START.false in
    rw (ne_eqb k 0x37 (pre-off k o), ne_eqb k 0x38 (post-off k o), ne_eqb k 0x3A c.if-code-eq-FRAME_START.false, ne_eqb k 0x3B c.if-code-eq-ITEM.false, ne_eqb k 0x3C c.if-code-eq-FRAME_END.false, ne_eqb k 0x3F c.if-code-eq-FOD_PLATFORM.false, eq-eqb k 0x40 c.if-code-eq-DREAMLAND_WHISPY.true)

pub returns-then-code-eq-STADIUM_TRANSFORMATION : goal.returns-then-code-eq-STADIUM_TRANSFORMATION
unfolding span_by
returns-then-code-eq-STADIUM_TRANSFORMATION c =
    let k = c.args.code in
    let o = c.if-code-lt-FRAME_START.false in
    rw (ne_eqb k 0x37 (pre-off k o), ne_eqb k 0x38 (post-off k o), ne_eqb k 0x3A c.if-code-eq-FRAME_START.false, ne_eqb k 0x3B c.if-code-eq-ITEM.false, ne_eqb k 0x3C c.if-code-eq-FRAME_END.false, ne_eqb k 0x3F c.if-code-eq-FOD_PLATFORM.false, ne_eqb k 0x40 c.if-code-eq-DREAMLAND_WHISPY.false, eq-eqb k 0x41 c.if-code-eq-STADIUM_TRANSFORMATION.true)

pub returns : goal.returns
unfolding span_by
returns c =
    let k = c.args.code in
    let o = c.if-code-lt-FRAME_START.false in
    rw (ne_eqb k 0x37 (pre-off k o), ne_eqb k 0x38 (post-off k o), ne_eqb k 0x3A c.if-code-eq-FRAME_START.false, ne_eqb k 0x3B c.if-code-eq-ITEM.false, ne_eqb k 0x3C c.if-code-eq-FRAME_END.false, ne_eqb k 0x3F c.if-code-eq-FOD_PLATFORM.false, ne_eqb k 0x40 c.if-code-eq-DREAMLAND_WHISPY.false, ne_eqb k 0x41 c.if-code-eq-STADIUM_TRANSFORMATION.false)
