-- What a proof opens that computes a payload table or a judgement of frames, named once: `unfolding opens_table` unfolds all that stands on its line.
-- Assumes nothing.
use Prim.Native.Nat.{ℕ}
use Rattle.wire.specs.Wire.{be, keep, tabulate}
use Rattle.format.specs.Refusal.{lowest, one_of}
use Rattle.format.specs.File.{entries_bytes, table_bytes, events_bytes}
use Rattle.format.specs.Version.{above, gte_of, accepted_of}
use Rattle.layout.specs.Columns.{has_family, columns_of, chosen, sum}
use Rattle.layout.specs.Payloads.{entries_of, listed, payload_size, end_size}
use Rattle.game.specs.Frames.{ports_of, port_slots, port_bytes, slots_from, slots_of}
use Rattle.players.specs.Presence.{uneven, port_uneven, ports_uneven, presence_wrong}
use Rattle.frames.specs.Judge.{refusals, too_many, misfits, stores_misfit, exceeds, columns_exceed, blocks_exceed, cells_exceed, falls, strays, left_over, misleads, offsets_mislead, port_numbers, twice, ports_wrong}

-- which columns a version has
unfoldable pub opens_columns : ℕ
unfolding above gte_of has_family columns_of chosen sum keep
opens_columns = 0

-- a payload table
unfoldable pub opens_table : ℕ
unfolding opens_columns events_bytes table_bytes entries_bytes be entries_of listed payload_size end_size
opens_table = 0

-- the slots of the ports
unfoldable pub opens_slots : ℕ
unfolding tabulate ports_of port_slots port_bytes slots_from slots_of
opens_slots = 0

-- refusals 1 to 7
unfoldable pub opens_refusals : ℕ
unfolding opens_columns opens_slots lowest one_of accepted_of refusals too_many misfits stores_misfit exceeds columns_exceed blocks_exceed cells_exceed falls strays left_over misleads offsets_mislead uneven port_uneven ports_uneven presence_wrong port_numbers twice ports_wrong
opens_refusals = 0
