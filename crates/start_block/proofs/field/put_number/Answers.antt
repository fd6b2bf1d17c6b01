use mathlib.Core.Path.{sym, ◌∙◌}
use Rattle.wire.proofs.Writers.{room_number}
use Rattle.patch.proofs.Patches.{patched_one, patched_on, patched_off}
use Rattle.start_block.proofs.field.put_number.Goals as goal

pub put_be-requires : goal.put_be-requires
put_be-requires c =
    (c.requires.0, room_number _ _ _ _ (c.requires.1 (sym c.reached.ensures ∙ c.if-reached.true)))

pub returns-then-reached : goal.returns-then-reached
returns-then-reached c = search (patched_on, patched_one)

pub returns-else-reached : goal.returns-else-reached
returns-else-reached c = search patched_off
