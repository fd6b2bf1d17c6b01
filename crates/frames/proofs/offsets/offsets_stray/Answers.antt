use mathlib.Core.Path.{refl, sym, ◌∙◌}
use native.Mathlib.Omega.{arith}
use Rattle.format.proofs.Tests.{other, same, one_here, one_skip, one_last}
use Rattle.frames.specs.Judge.{strays}
use Rattle.frames.proofs.offsets.offsets_stray.Goals as goal

pub returns-then-os-frames : goal.returns-then-os-frames
unfolding strays
returns-then-os-frames c = one_here _ _ (other _ _ c.if-os-frames.true)

pub returns-then-os-ne0 : goal.returns-then-os-ne0
unfolding strays
returns-then-os-ne0 c = one_skip _ _ _ (same _ _ c.if-os-frames.false) (one_here _ _ (other _ _ c.if-os-ne0.true))

pub returns-then-one_falls : goal.returns-then-one_falls
unfolding strays
returns-then-one_falls c =
    let two = c in
    one_skip _ _ _ (same _ _ two.if-os-frames.false) (one_skip _ _ _ (same _ _ two.if-os-ne0.false) (one_here _ _ (sym c.one_falls.ensures ∙ c.if-one_falls.true)))

pub overflow_cast-result : goal.overflow_cast-result
overflow_cast-result c = omega (arith, c.shared_slice_known-3-1.given c.args.frames)

pub returns : goal.returns
unfolding strays
returns c =
    let three = c in
    let two = three in
    one_skip _ _ _ (same _ _ two.if-os-frames.false)
    (one_skip _ _ _ (same _ _ two.if-os-ne0.false) (one_skip _ _ _ (sym three.one_falls.ensures ∙ three.if-one_falls.false) (one_last _ _ refl)))
