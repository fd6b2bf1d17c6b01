use mathlib.Core.Path.{sym, ◌∙◌}
use Rattle.map.proofs.KeyLaws.{key_in, keys_as, no_key}
use Rattle.map.proofs.keys.same_key.Goals as goal

pub same_text-requires : goal.same_text-requires
same_text-requires c = (
  key_in _ _ _ c.cell.ensures.0 c.cell-then-key_stored.ensures.0
      (sym c.key_stored.ensures ∙ c.if-key_stored.true),
  key_in _ _ _ c.cell-then-key_stored-2.ensures.0 c.cell-then-key_stored-3.ensures.0
      c.requires.2,
)

pub returns-then-key_stored : goal.returns-then-key_stored
returns-then-key_stored c = keys_as _ _ _ _ c.cell.ensures.0 c.cell-then-key_stored.ensures.0 c.cell-then-key_stored-2.ensures.0 c.cell-then-key_stored-3.ensures.0 c.key_stored.ensures c.if-key_stored.true c.same_text.ensures

pub returns : goal.returns
returns c = no_key _ _ _ _ c.key_stored.ensures c.if-key_stored.false
