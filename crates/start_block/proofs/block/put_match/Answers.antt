use mathlib.Core.Path.{sym, ◌∙◌}
use native.Mathlib.Omega.{arith}
use Rattle.wire.proofs.Writers.{room_number}
use Rattle.start.specs.Gate.{match_from}
use Rattle.start.specs.Block.{match_fields}
use Rattle.start.proofs.Lengths.{long_enough}
use Rattle.patch.proofs.Patches.{patched_then, patched_one, patched_on, patched_off}
use Rattle.start.proofs.Refusals.{short_text, clean_text}
use Rattle.start.proofs.Tails.{tail_as}
use Rattle.start_block.proofs.block.put_match.Goals as goal

pub put_match_id-requires : goal.put_match_id-requires
put_match_id-requires c =
    let on = sym c.reached.ensures ∙ c.if-reached.true in
    let pre = c.requires in
    (short_text _ match_from 50 _ pre.1 on, omega (arith, long_enough _ 0 on), clean_text _ match_from _ pre.2 on)

pub put_match_tail-requires : goal.put_match_tail-requires
put_match_tail-requires c =
    let on = sym c.reached.ensures ∙ c.if-reached.true in
    (short_text _ match_from 50 _ c.requires.1 on, omega (arith, long_enough _ 0 on))

pub put_u32-requires : goal.put_u32-requires
put_u32-requires c =
    let on = sym c.reached.ensures ∙ c.if-reached.true in
    room_number _ _ 4 _ (omega (arith, long_enough _ 0 on))

pub put_u32-requires-then-reached : goal.put_u32-requires-then-reached
put_u32-requires-then-reached c =
    let on = sym c.reached.ensures ∙ c.if-reached.true in
    room_number _ _ 4 _ (omega (arith, long_enough _ 0 on))

pub returns-then-reached : goal.returns-then-reached
unfolding match_fields
returns-then-reached c =
    let tail = c in
    let id = tail in
    patched_on _ _ id.reached.ensures id.if-reached.true
    (patched_then id.put_match_id.ensures.0
    (patched_then (tail_as _ tail.of.ensures tail.put_match_tail.ensures)
    (patched_then (patched_one c.put_u32.ensures) (patched_one c.put_u32-then-reached.ensures))))

pub returns-else-reached : goal.returns-else-reached
unfolding match_fields
returns-else-reached c = patched_off _ _ _ _ c.reached.ensures c.if-reached.false
