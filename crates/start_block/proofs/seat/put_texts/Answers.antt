use lib.Dec.{lit≤}
use native.Mathlib.Omega.{arith}
use Rattle.start.specs.Block.{text_fields}
use Rattle.start.proofs.Lengths.{long_enough}
use Rattle.patch.proofs.Patches.{patched_then}
use Rattle.start.proofs.Refusals.{short_texts, clean_texts}
use Rattle.start_block.proofs.seat.put_texts.Goals as goal

pub put_text-requires : goal.put_text-requires
put_text-requires c =
    let pre = c.requires in
    (lit≤ tt, λ on. omega (arith, long_enough _ 7 on, (short_texts _ _ pre.2).tag on), (clean_texts _ _ pre.3).tag)

pub put_text-requires-2 : goal.put_text-requires-2
put_text-requires-2 c =
    let pre = c.requires in
    (lit≤ tt, λ on. omega (arith, long_enough _ 3 on, (short_texts _ _ pre.2).name on), (clean_texts _ _ pre.3).name)

pub put_text-requires-3 : goal.put_text-requires-3
put_text-requires-3 c =
    let pre = c.requires in
    (lit≤ tt, λ on. omega (arith, long_enough _ 3 on, (short_texts _ _ pre.2).code on), (clean_texts _ _ pre.3).code)

pub put_text-requires-4 : goal.put_text-requires-4
put_text-requires-4 c =
    let pre = c.requires in
    (lit≤ tt, λ on. omega (arith, long_enough _ 2 on, (short_texts _ _ pre.2).suid on), (clean_texts _ _ pre.3).suid)

pub returns : goal.returns
unfolding text_fields
returns c =
    patched_then c.put_text.ensures.0 (patched_then c.put_text-2.ensures.0 (patched_then c.put_text-3.ensures.0 c.put_text-4.ensures.0))
