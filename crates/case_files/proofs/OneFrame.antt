-- A file with one frame of one player, an end and metadata, at version 0.1.0: what is read of it, computed.
-- Assumes nothing.
use Prim.Native.Nat.{ℕ, zero, suc, ◌≤◌, ◌<◌}
use mathlib.Core.Path.{◌≡◌, refl, ap, ◌∙◌}
use mathlib.Core.Bool.{true, false}
use mathlib.Core.List.{List, [], ◌∷◌, map}
use native.Mathlib.Omega.{arith}
use lib.Dec.{lit<, lit≤}
use lib.ListN.{replicate}
use Rattle.wire.specs.Wire.{be, more, part, ranged, keep}
use Rattle.format.specs.Refusal.{one_of}
use Rattle.format.specs.File.{entries_bytes, table_bytes, events_bytes, file_of}
use Rattle.format.specs.Version.{version, above, gte_of, accepted_of}
use Rattle.layout.specs.Columns.{has_family, columns_of, chosen, sum}
use Rattle.layout.specs.Payloads.{end_size}
use Rattle.game.specs.Frames.{no_port}
use Rattle.game.specs.Stores.{lent, cells, offsets}
use Rattle.game.specs.declared.start.Seat.{Seat}
use Rattle.frames.specs.Judge.{too_many}
use Rattle.start.specs.Length.{reached, length_of}
use Rattle.read_start.specs.Start.{seat_in, start_in}
use Rattle.ending.specs.Tail.{metadata_of, tail_of}
use Rattle.grammar.specs.Productions.{Player, Frame, Replay, start_event, pre_event, post_event, end_event, codes_events, events_of_frame, events_of_frames, events_of, used_in, codes_bytes}
use Rattle.grammar.specs.WellFormed.{Each, ascending, may_come, InOrder, GoodPlayer, GoodFrame, GoodCodes, WellFormed}
use Rattle.grammar.specs.Readable.{Changing, Alike, seat_type, Readable}
use Rattle.columns.specs.Columns.{holds, ever_in, players_at, port_columns, rows_there, frames_read, cell_columns, slot_row, slots_cells, offsets_read, bits_from, presence_bytes, slots_presence, lent_read}
use Rattle.known.specs.Known.{taken}
use Rattle.read_outline.specs.Listed.{listed_right}
use Rattle.read_outline.specs.End.{initiator_in, placed_in, placements_in, end_in, four_zeros}
use Rattle.head.specs.Table.{starts_with, stop_of, entries_in, table_of}
use Rattle.de.specs.Cut.{events_read}
use Rattle.read_judge.specs.Found.{version_said, version_of, Found, too_big}
use Rattle.newer_judge.specs.Opening.{opening_refusal}
use Rattle.measure.specs.Game.{bare, has_body, tail_kind, places_in, game_read, kept, kept_read, lengths_of}
use Rattle.case_files.proofs.Files.{table, seated}
use Rattle.de.proofs.Opens.{opens_steps}
use Rattle.read_judge.proofs.Opens.{opens_early}
use Rattle.frames.proofs.Opens.{opens_slots}

-- port 0 has a human player
abbrev pub one_seat : List ℕ
one_seat = seated 0 1 0 0

-- a random seed of 7; the character 2 in state 14
abbrev pub one : Player
one = record { port = 0; follower = 0; pre = 0 ∷ 0 ∷ 0 ∷ 7 ∷ replicate 48 0; post = 2 ∷ 0 ∷ 14 ∷ replicate 24 0 }

-- the frame -123
abbrev pub frame : Frame
frame = record { id = 0xffffff85; start = []; players = one ∷ []; fods = []; whispys = []; stadiums = []; items = []; end = [] }

abbrev pub played : Replay
played = record { block = one_seat; codes = []; frames = frame ∷ []; ends = (2 ∷ []) ∷ [] }

-- its events one after another, with metadata of three bytes
abbrev pub file : List ℕ
file = file_of table (start_event one_seat ∷ pre_event 0xffffff85 one ∷ post_event 0xffffff85 one ∷ end_event (2 ∷ []) ∷ []) (tail_of true (0x61 ∷ 0x62 ∷ 0x63 ∷ []))

pub not_refused : opening_refusal file ≡ 0
unfolding opens_early opening_refusal tail_of metadata_of keep
not_refused = refl

pub version_said_lem : version_of file ≡ version 0 1 0
unfolding opens_steps tail_of metadata_of keep events_read version_said
version_said_lem = refl

seats : (n : ℕ) → n < 4 → seat_type one_seat n ≤ 3
seats zero h = lit≤ tt
seats (suc zero) h = lit≤ tt
seats (suc (suc zero)) h = lit≤ tt
seats (suc (suc (suc zero))) h = lit≤ tt
seats (suc (suc (suc (suc n)))) h = absurd (omega arith)

good_one : GoodPlayer (version 0 1 0) one
unfolding gte_of above columns_of chosen sum
good_one = record { port = lit≤ tt; follower = lit≤ tt; pre = refl; post = refl }

pub good_frame : GoodFrame (version 0 1 0) ascending frame
unfolding Each InOrder may_come gte_of above columns_of chosen sum
good_frame = record {
  id = lit< tt;
  start = refl;
  players = (good_one, tt);
  slots = (refl, tt);
  somebody = λ e. lit< tt;
  fods = tt;
  whispys = tt;
  stadiums = tt;
  items = tt;
  end = refl;
}

well : WellFormed (version 0 1 0) ascending played
unfolding Each GoodCodes length_of reached end_size gte_of above
well = record { version = refl; block = lit≤ tt; short = lit< tt; codes = tt; frames = (good_frame, tt); few = lit≤ tt; ends = (refl, tt) }

pub readable : Readable (version 0 1 0) played
unfolding Changing Alike gte_of above
readable = record {
  well = well;
  changing = λ e. tt;
  seats = seats;
  alike = tt;
  initiators = λ e. let z : ◌≡◌ {A = ℕ} 0 1 = cc in absurd (omega arith);
}

-- the file holds that replay
unfoldable pub found : Found file
unfolding opens_steps tail_of metadata_of keep events_read version_said accepted_of taken codes_events events_of_frames events_of_frame events_of has_family listed_right gte_of above used_in
found = record { replay = played; whole = refl; events_are = refl; readable = readable; listed = refl }

pub small_enough : too_big (version 0 1 0) played ≡ false
unfolding too_many one_of frames_read rows_there codes_bytes
small_enough = refl

-- one frame, one port column without a follower, one presence byte
frames : frames_read (version 0 1 0) played.frames ≡ record {
  version = version 0 1 0;
  counts = record { frames = 1; items = 0; fods = 0; whispys = 0; stadiums = 0 };
  ports = record { port = 0; follower = 0; leader_presence = 1; follower_presence = 0 } ∷ replicate 3 no_port;
  port_count = 1;
}
unfolding frames_read rows_there port_columns ranged ever_in holds keep
frames = refl

-- the stores: the id; Pre's 14 columns, the seed first; Post's 11, character and state first; no offsets before 3.0; presence with its lowest bit set
pub stores : kept_read (version 0 1 0) played
    ≡ kept (lent (cells (0xffffff85 ∷ []) [] (7 ∷ replicate 13 0) (2 ∷ 14 ∷ replicate 9 0) [] [] [] [] []) (offsets [] [] [] []) (1 ∷ [])) []
unfolding opens_slots lent_read codes_bytes frames_read rows_there port_columns ranged ever_in holds players_at keep cell_columns columns_of chosen gte_of above more slot_row slots_cells offsets_read has_family slots_presence presence_bytes bits_from
stores = refl

-- so `measure` asks for 1 id, 14 cells of Pre, 11 of Post and 1 presence byte
lengths : lengths_of (kept_read (version 0 1 0) played) ≡ record {
  ids = 1;
  starts = 0;
  pres = 14;
  posts = 11;
  ends = 0;
  items = 0;
  fods = 0;
  whispys = 0;
  stadiums = 0;
  item_offsets = 0;
  fod_offsets = 0;
  whispy_offsets = 0;
  stadium_offsets = 0;
  presence = 1;
  codes = 0;
}
lengths = ap lengths_of stores ∙ refl

-- where its parts stand: the metadata's body behind the data, which ends at 445, and the 11 bytes of its key
places : places_in file played ≡ record { block_at = 30; block_len = 320; tail = 1; metadata_at = 456; metadata_len = 3 }
unfolding file_of table_bytes entries_bytes events_bytes tail_of metadata_of keep be part more starts_with stop_of entries_in table_of tail_kind bare has_body
places = refl

-- a player in the first seat only
seats_taken : map (λ (s : Seat). s.given) (start_in (version 0 1 0) one_seat).seats ≡ 1 ∷ 0 ∷ 0 ∷ 0 ∷ []
unfolding start_in seat_in ranged
seats_taken = refl

-- the end's method is 2; before 2.0 nobody is named
end : (game_read file played).end ≡ record { given = 1; method = 2; initiator = 0xFF; placed = four_zeros; placements = four_zeros }
unfolding opens_steps tail_of metadata_of keep events_read version_said end_in initiator_in placed_in placements_in gte_of above
end = refl

-- one end, no codes, metadata
marks : (game_read file played).double_end ∷ (game_read file played).codes_given ∷ (game_read file played).metadata_given ∷ (game_read file played).actual_size ∷ []
    ≡ 0 ∷ 0 ∷ 1 ∷ 0 ∷ []
unfolding opens_steps tail_of metadata_of keep events_read version_said gte_of above used_in tail_kind bare has_body
marks = refl
