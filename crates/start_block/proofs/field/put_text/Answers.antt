use mathlib.Core.Path.{sym, ap, ◌∙◌}
use native.Mathlib.Omega.{arith}
use Rattle.patch.proofs.Patches.{patched_one, patched_on, patched_off}
use Rattle.patch.proofs.Viewed.{read_filled}
use Rattle.patch.specs.Field.{read_text}
use Rattle.format.proofs.Versions.{no_way}
use Rattle.start.proofs.Refusals.{clean_text}
use Rattle.start_block.proofs.field.put_text.Goals as goal

pub put_filled-requires : goal.put_filled-requires
put_filled-requires c =
    let fits = c.requires.1 (sym c.reached.ensures ∙ c.if-reached.true) in
    omega (arith, c.requires.0, fits)

pub returns-then-reached : goal.returns-then-reached
returns-then-reached c =
    let asked = c.reached.ensures in
    let w = c.put_filled.ensures in
    (patched_on _ _ asked c.if-reached.true (patched_one w.0), λ on. ap read_text w.1 ∙ read_filled _ _ (clean_text _ _ _ c.requires.2 on))

pub returns-else-reached : goal.returns-else-reached
returns-else-reached c =
    let asked = c.reached.ensures in
    (patched_off _ _ _ _ asked c.if-reached.false, λ on. no_way (sym c.if-reached.false ∙ asked ∙ on))
