-- Case 6, 3.18.0 with one frame and an end, 990 bytes: its index, and where frame 0 is found through it.
-- Assumes nothing.
use mathlib.Core.Path.{◌≡◌, refl, ap}
use mathlib.Core.List.{List, [], ◌∷◌}
use Prim.Native.Nat.{ℕ}
use Rattle.wire.specs.Wire.{more, part}
use Rattle.players.specs.Presence.{marked}
use Rattle.record.specs.Record.{cells_bytes}
use Rattle.record.specs.Inner.{head_bytes}
use Rattle.ending.specs.End.{end_of, placements_of, placement_of}
use Rattle.events.specs.Events.{frame_events, one_event, row_events, player_events}
use Rattle.head.specs.Table.{starts_with}
use Rattle.ser.specs.Write.{file}
use Rattle.case_table.specs.Games.{one_frame}
use Rattle.case_table.specs.Table.{short}
use Rattle.index_form.specs.Form.{row_bytes, rows_bytes, index_bytes, bad_index}
use Rattle.index_form.specs.Find.{last_among, moment_in}
use Rattle.index_passes.specs.Rows.{index_rows, index_in}
use Rattle.de.proofs.Opens.{opens_steps}
use Rattle.frames.proofs.Opens.{opens_slots}
use Rattle.ser.proofs.Opens.{opens_file}

-- a table of 10 entries ends at 47, the start's event at 808, which is 3 * 256 + 40
index : List ℕ
index = 0x53 ∷ 0x50 ∷ 0x58 ∷ 0 ∷ 1 ∷ 0 ∷ 0 ∷ 0 ∷ 1 ∷ 0 ∷ 0 ∷ 0 ∷ 0 ∷ 0 ∷ 0 ∷ 3 ∷ 40 ∷ []

index_is : index_in (file short (one_frame [])) ≡ index
unfolding opens_file opens_steps opens_slots index marked end_of placements_of placement_of frame_events one_event row_events player_events cells_bytes head_bytes row_bytes rows_bytes index_bytes index_rows
index_is = refl

found : moment_in (index_in (file short (one_frame []))) 0 ≡ record { refused = 0; row = 0; offset = 808; id = 0 }
unfolding index part more starts_with bad_index last_among moment_in
found = ap (λ (i : List ℕ). moment_in i 0) index_is
