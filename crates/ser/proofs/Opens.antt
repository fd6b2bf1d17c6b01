-- What a proof opens that computes a game's refusals and its file, named once.
-- Assumes nothing.
use Prim.Native.Nat.{ℕ}
use Rattle.wire.specs.Wire.{splice, ranged}
use Rattle.format.specs.File.{file_of}
use Rattle.frames.proofs.Opens.{opens_table, opens_refusals}
use Rattle.patch.specs.Field.{zero_inside}
use Rattle.patch.specs.Patch.{patched}
use Rattle.start.specs.Length.{length_of, reached}
use Rattle.start.specs.Refusal.{block_wrong, bad_start, bad_seat, missing, too_long, holds_zero}
use Rattle.start.specs.Block.{start_block, fields, game_fields, seats_fields, mode_fields, match_fields}
use Rattle.events.specs.Events.{frames_events}
use Rattle.codes.specs.Blocks.{code_events, codes_wrong}
use Rattle.ending.specs.End.{end_events, end_wrong, initiator_wrong}
use Rattle.ending.specs.Tail.{tail_of}
use Rattle.ser.specs.Write.{events, file, judged}

-- a start block
unfoldable pub opens_block : ℕ
unfolding start_block fields game_fields seats_fields mode_fields match_fields patched splice
opens_block = 0

-- a game's file
unfoldable pub opens_file : ℕ
unfolding opens_table opens_block file events file_of code_events frames_events ranged end_events tail_of
opens_file = 0

-- refusals 8 to 10
unfoldable pub opens_start : ℕ
unfolding block_wrong length_of reached bad_start bad_seat missing too_long holds_zero zero_inside codes_wrong
opens_start = 0

-- a game's refusals
unfoldable pub opens_judged : ℕ
unfolding opens_refusals opens_start judged end_wrong initiator_wrong
opens_judged = 0
