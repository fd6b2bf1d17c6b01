-- The games of the twelve cases against their room, computed; and a game that takes all of its own.
-- Assumes nothing.
use mathlib.Core.Path.{◌≡◌, refl, ◌∙◌}
use mathlib.Core.Bool.{true}
use mathlib.Core.List.{List, [], ◌∷◌, map}
use Prim.Native.Nat.{ℕ, zero, suc, ◌<◌}
use native.Mathlib.Omega.{arith}
use lib.ListN.{length, get_or, replicate}
use Rattle.wire.specs.Wire.{be, keep, tabulate}
use Rattle.format.specs.File.{entries_bytes, table_bytes}
use Rattle.format.specs.Refusal.{lowest, one_of}
use Rattle.format.specs.Version.{version, accepted_of}
use Rattle.layout.specs.Payloads.{end_size, listed, payload_size, entries_of}
use Rattle.game.specs.Frames.{no_slot, ports_of, port_slots, port_bytes, slots_from, slots_of}
use Rattle.game.specs.Stores.{Stores}
use Rattle.game.specs.declared.Game.{Game}
use Rattle.players.specs.Presence.{marked, present_at}
use Rattle.frames.specs.Judge.{too_many}
use Rattle.start.specs.Length.{reached, length_of}
use Rattle.start.specs.Refusal.{block_wrong}
use Rattle.codes.specs.Blocks.{block_count}
use Rattle.ser.specs.Write.{judged, file}
use Rattle.ser.proofs.Outcomes.{Passed, passes}
use Rattle.case_table.specs.Games.{plain_start, plain_end, plain_frames, game_of, block_alone, one_frame}
use Rattle.case_table.specs.Table.{least, short, coded}
use Rattle.room.specs.Room.{how_many, event_room, room_of, room_refusals, reserved}
use Rattle.room.specs.declared.Reserved.{Reserved}
use Rattle.law_room.specs.Fits.{plan_of, Fullest}
use Rattle.law_room.proofs.Enough as enough
use Rattle.frames.proofs.Opens.{opens_columns, opens_slots}
use Rattle.ser.proofs.Opens.{opens_judged}

-- a case's number, its game, and the room of its plan
record Row : Type 0 where
  case : ℕ
  game : Game
  stores : Stores
  answer : Reserved

abbrev row : ℕ → Game → Stores → ℕ → ℕ → Row
row n g s k b = record { case = n; game = g; stores = s; answer = record { refused = k; bytes = b } }

-- case 1 and case 6 take 351 and 990 bytes, the others 2,030, 1,513 and 67,172: what is left over is the second end (at case 1 both), the
-- metadata's twelve bytes, and where no codes are given their two entries of the table
table : List Row
table =
    row 1 least (block_alone (replicate 320 0)) 0 367
    ∷ row 6 short (one_frame []) 0 1015
    ∷ row 7 (coded 513) (one_frame (replicate 1024 0)) 0 2049
    ∷ row 8 (coded 512) (one_frame (replicate 512 0)) 0 1532
    ∷ row 9 (coded 65536) (one_frame (replicate 65536 0)) 0 67191
    ∷ row 11 (game_of (version 3 18 0) 1 1 1 0 0) (one_frame []) 0 1015
    ∷ row 11 (game_of (version 3 18 1) 1 1 1 0 0) (one_frame []) 1 0
    ∷ row 12 least (block_alone (replicate 319 0)) 8 0
    ∷ []

rooms : map (λ (r : Row). reserved (plan_of r.game r.stores)) table ≡ map (λ (r : Row). r.answer) table
unfolding opens_columns opens_slots table room_refusals lowest too_many one_of block_wrong length_of reached accepted_of room_of event_room how_many listed payload_size entries_of end_size table_bytes entries_bytes be
rooms = refl

-- ---- case 8's game with its end doubled and metadata of one byte: the fullest of its counts

abbrev full : Game
full = record {
  frames = plain_frames (version 3 18 0) 1 1;
  start = plain_start;
  end = plain_end 1;
  double_end = 1;
  codes_given = 1;
  metadata_given = 1;
  actual_size = 512;
}

abbrev full_stores : Stores
full_stores = record { lent = (one_frame []).lent; template = replicate 760 0; codes = replicate 512 0; metadata = 0 ∷ [] }

-- computed
full_judged : lowest (judged full full_stores) ≡ 0
unfolding opens_judged block_count
full_judged = refl

full_passed : Passed full full_stores
full_passed = passes full full_stores full_judged

fullest : Fullest full full_stores
unfolding slots_of slots_from ports_of port_slots port_bytes tabulate keep marked
fullest = record { everybody = here; ended = refl; doubled = refl; metadata = refl; codes = λ h. refl }
  where
    here : (k i : ℕ) → k < length (slots_of full.frames) → i < 1 → present_at [] (get_or (slots_of full.frames) k no_slot) i ≡ true
    here zero i h l = refl
    here (suc k) i h l = absurd (omega arith)

full_room : room_of (plan_of full full_stores) ≡ 1533
unfolding opens_columns opens_slots room_of event_room how_many listed payload_size entries_of end_size table_bytes entries_bytes be
full_room = refl

-- its file has as many bytes as its room
pub takes_all_lem : (length (file full full_stores) ≡ 1533) × (room_of (plan_of full full_stores) ≡ 1533)
takes_all_lem = (enough.reached full_passed fullest ∙ full_room, full_room)
