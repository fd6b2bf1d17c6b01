use native.Mathlib.Omega.{arith}
use mathlib.Core.Path.{sym, ap, ◌∙◌}
use mathlib.Core.Bool.{not}
use Rattle.format.specs.Event.{signature}
use Rattle.head.proofs.Heads.{starts_same, too_short_lem, signed_is, head_14}
use Rattle.head.proofs.table.parse_head.Goals as goal

pub returns-then-file-lt15 : goal.returns-then-file-lt15
returns-then-file-lt15 c = head_14 _ _ _ c.refused.ensures (too_short_lem _ c.if-file-lt15.true)

pub tabled-requires : goal.tabled-requires
tabled-requires c =
    let i = c in
    let f = i.args.file.now in
    (omega arith, signed_is f (omega arith) ∙ ap not (sym (starts_same signature f) ∙ sym i.starts_with.ensures.value ∙ i.if-starts_with.true), i.requires)

pub returns-else-starts_with : goal.returns-else-starts_with
returns-else-starts_with c =
    let f = c.args.file.now in
    head_14 _ _ f c.refused-else-starts_with.ensures (signed_is f (omega arith) ∙ ap not (sym (starts_same signature f) ∙ sym c.starts_with.ensures.value ∙ c.if-starts_with.false))

pub returns-then-starts_with : goal.returns-then-starts_with
returns-then-starts_with c = c.tabled.ensures
