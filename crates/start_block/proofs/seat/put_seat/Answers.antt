use mathlib.Core.Path.{refl, sym}
use Rattle.patch.proofs.Patches.{patched_on, patched_off}
use Rattle.format.proofs.Tests.{a_mark, no_mark}
use Rattle.start.proofs.Refusals.{seat_texts}
use Rattle.start_block.proofs.seat.put_seat.Goals as goal

pub put_port-requires : goal.put_port-requires
put_port-requires c =
    let (short, clean) = seat_texts _ _ c.requires.2 (a_mark _ c.if-p-ne0.true) in
    (c.requires.0, c.requires.1, short, clean)

pub returns-then-p-ne0 : goal.returns-then-p-ne0
returns-then-p-ne0 c = patched_on _ _ (sym (a_mark _ c.if-p-ne0.true)) refl c.put_port.ensures

pub returns-else-p-ne0 : goal.returns-else-p-ne0
returns-else-p-ne0 c = patched_off _ _ _ _ (sym (no_mark _ c.if-p-ne0.false)) refl
