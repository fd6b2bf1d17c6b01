-- A file of version 3.18.0 with a row of every family: two frames of one id, as a rollback leaves them, a leader with a follower who is in the first frame
-- only, a block of codes, and two ends. What is read of it, computed.
-- Assumes nothing.
use Prim.Native.Nat.{ℕ, zero, suc, ◌≤◌, ◌<◌}
use mathlib.Core.Path.{◌≡◌, refl}
use mathlib.Core.Bool.{true, false}
use mathlib.Core.List.{List, [], ◌∷◌, ◌++◌}
use native.Mathlib.Omega.{arith}
use lib.Dec.{lit<, lit≤}
use lib.ListN.{replicate}
use Rattle.wire.specs.Wire.{more, ranged, keep}
use Rattle.format.specs.Refusal.{one_of}
use Rattle.format.specs.File.{file_of}
use Rattle.format.specs.Version.{version, above, gte_of}
use Rattle.format.specs.declared.version.Version.{Version}
use Rattle.layout.specs.Columns.{has_family, columns_of, chosen, sum}
use Rattle.layout.specs.Payloads.{end_size, listed, entries_of}
use Rattle.game.specs.Frames.{no_port}
use Rattle.game.specs.Stores.{lent, cells, offsets}
use Rattle.frames.specs.Judge.{too_many}
use Rattle.start.specs.Length.{reached, length_of}
use Rattle.ending.specs.End.{initiator_wrong}
use Rattle.grammar.specs.Productions.{Player, Frame, Replay, codes_events, events_of_frame, events_of_frames, events_of, used_in, codes_bytes}
use Rattle.grammar.specs.WellFormed.{Each, ascending, may_precede, may_come, InOrder, GoodPlayer, GoodFrame, GoodCodes, WellFormed}
use Rattle.grammar.specs.Readable.{Alike, seat_type, Readable}
use Rattle.columns.specs.Columns.{holds, ever_in, players_at, port_columns, rows_there, frames_read, cell_columns, slot_row, slots_cells, totals, offsets_read, bits_from, presence_bytes, slots_presence, lent_read}
use Rattle.read_outline.specs.Listed.{listed_right}
use Rattle.read_outline.specs.End.{mark_by, value_by, initiator_in, placed_in, placements_in, end_in}
use Rattle.read_judge.specs.Found.{Found, too_big}
use Rattle.newer_judge.specs.Opening.{opening_refusal}
use Rattle.measure.specs.Game.{bare, tail_kind, game_read, kept, kept_read}
use Rattle.case_files.proofs.Files.{brace, seated}
use Rattle.read_judge.proofs.Opens.{opens_early}
use Rattle.frames.proofs.Opens.{opens_slots, opens_table}

abbrev pub newest : Version
newest = version 3 18 0

-- a player of port 1 with a random seed; the character is 10
abbrev player : ℕ → ℕ → Player
player follower seed = record { port = 1; follower = follower; pre = 0 ∷ 0 ∷ 0 ∷ seed ∷ replicate 56 0; post = 10 ∷ replicate 77 0 }

abbrev first : Frame
first = record {
  id = 0xffffff85;
  start = 0 ∷ 0 ∷ 0 ∷ 5 ∷ 0 ∷ 0 ∷ 0 ∷ 6 ∷ [];
  players = player 0 7 ∷ player 1 8 ∷ [];
  fods = (1 ∷ 0 ∷ 0 ∷ 0 ∷ 2 ∷ []) ∷ [];
  whispys = (3 ∷ []) ∷ [];
  stadiums = (0 ∷ 4 ∷ 0 ∷ 5 ∷ []) ∷ [];
  items = (0 ∷ 99 ∷ replicate 38 0) ∷ [];
  end = 0xff ∷ 0xff ∷ 0xff ∷ 0x85 ∷ [];
}

abbrev second : Frame
second = record {
  id = 0xffffff85;
  start = 0 ∷ 0 ∷ 0 ∷ 15 ∷ 0 ∷ 0 ∷ 0 ∷ 16 ∷ [];
  players = player 0 9 ∷ [];
  fods = [];
  whispys = [];
  stadiums = [];
  items = [];
  end = 0xff ∷ 0xff ∷ 0xff ∷ 0x85 ∷ [];
}

-- method 2, port 1 quit, and it is placed second: the others are not placed
abbrev ending : List ℕ
ending = 2 ∷ 1 ∷ 0xff ∷ 1 ∷ 0xff ∷ 0xff ∷ []

abbrev block : List ℕ
block = seated 3 18 0 3 ++ replicate 440 0

abbrev pub full : Replay
full = record {
  block = block;
  codes = record { bytes = replicate 512 0xC2; used = 9 } ∷ [];
  frames = first ∷ second ∷ [];
  ends = ending ∷ ending ∷ [];
}

-- the version's table with codes of 9 bytes listed, the events, a brace
abbrev file : List ℕ
file = file_of (entries_of newest 760 true 9) (events_of newest full) brace

not_refused : opening_refusal file ≡ 0
unfolding opens_early opening_refusal opens_table codes_events events_of_frames events_of_frame events_of
not_refused = refl

good_player : (follower seed : ℕ) → follower ≤ 1 → GoodPlayer newest (player follower seed)
unfolding gte_of above columns_of chosen sum
good_player follower seed h = record { port = lit≤ tt; follower = h; pre = refl; post = refl }

good_first : GoodFrame newest ascending first
unfolding Each InOrder may_come may_precede has_family gte_of above columns_of chosen sum
good_first = record {
  id = lit< tt;
  start = refl;
  players = (good_player 0 7 (lit≤ tt), (good_player 1 8 (lit≤ tt), tt));
  slots = (refl, (refl, tt));
  somebody = λ e. lit< tt;
  fods = (record { has = refl; size = refl }, tt);
  whispys = (record { has = refl; size = refl }, tt);
  stadiums = (record { has = refl; size = refl }, tt);
  items = (record { has = refl; size = refl }, tt);
  end = refl;
}

good_second : GoodFrame newest ascending second
unfolding Each InOrder may_come has_family gte_of above columns_of chosen sum
good_second = record {
  id = lit< tt;
  start = refl;
  players = (good_player 0 9 (lit≤ tt), tt);
  slots = (refl, tt);
  somebody = λ e. lit< tt;
  fods = tt;
  whispys = tt;
  stadiums = tt;
  items = tt;
  end = refl;
}

well : WellFormed newest ascending full
unfolding Each GoodCodes length_of reached end_size gte_of above
well = record {
  version = refl;
  block = lit≤ tt;
  short = lit< tt;
  codes = (refl, refl, lit< tt, lit≤ tt);
  frames = (good_first, (good_second, tt));
  few = lit≤ tt;
  ends = (refl, (refl, tt));
}

seats : (n : ℕ) → n < 4 → seat_type block n ≤ 3
seats zero h = lit≤ tt
seats (suc zero) h = lit≤ tt
seats (suc (suc zero)) h = lit≤ tt
seats (suc (suc (suc zero))) h = lit≤ tt
seats (suc (suc (suc (suc n)))) h = absurd (omega arith)

-- from 2.2 on two neighbouring frames may have one id
readable : Readable newest full
unfolding Alike Each initiator_wrong has_family gte_of above
readable = record {
  well = well;
  changing = λ e. let z : ◌≡◌ {A = ℕ} 0 1 = cc in absurd (omega arith);
  seats = seats;
  alike = (refl, tt);
  initiators = λ e. (refl, (refl, tt));
}

found : Found file
unfolding opens_early opens_table codes_events events_of_frames events_of_frame events_of listed_right used_in
found = record { replay = full; whole = refl; events_are = refl; readable = readable; listed = refl }

small_enough : too_big newest full ≡ false
unfolding too_many one_of frames_read rows_there port_columns ranged ever_in holds keep has_family gte_of above codes_bytes
small_enough = refl

-- two frames, a row of each other family, and a port column with a follower
frames : frames_read newest full.frames ≡ record {
  version = newest;
  counts = record { frames = 2; items = 1; fods = 1; whispys = 1; stadiums = 1 };
  ports = record { port = 1; follower = 1; leader_presence = 1; follower_presence = 1 } ∷ replicate 3 no_port;
  port_count = 1;
}
unfolding frames_read rows_there port_columns ranged ever_in holds keep has_family gte_of above
frames = refl

-- columns one after another: the seeds, then the counters; each slot's Pre has 19 columns of two rows, and zeros where the follower is not
pub stores : kept_read newest full
    ≡ kept
    (lent
    (cells (0xffffff85 ∷ 0xffffff85 ∷ []) (5 ∷ 15 ∷ 6 ∷ 16 ∷ []) ((7 ∷ 9 ∷ replicate 36 0) ++ (8 ∷ 0 ∷ replicate 36 0)) ((10 ∷ 10 ∷ replicate 62 0) ++ (10 ∷ 0 ∷ replicate 62 0))
    (0xffffff85 ∷ 0xffffff85 ∷ []) (99 ∷ replicate 15 0) (1 ∷ 2 ∷ []) (3 ∷ []) (4 ∷ 5 ∷ []))
    (offsets (0 ∷ 1 ∷ 1 ∷ []) (0 ∷ 1 ∷ 1 ∷ []) (0 ∷ 1 ∷ 1 ∷ []) (0 ∷ 1 ∷ 1 ∷ []))
    (3 ∷ 1 ∷ []))
    (replicate 512 0xC2)
unfolding opens_slots frames_read rows_there port_columns ranged ever_in holds keep has_family gte_of above lent_read codes_bytes players_at cell_columns columns_of chosen more slot_row slots_cells offsets_read totals slots_presence presence_bytes bits_from
stores = refl

end : (game_read file full).end ≡ record { given = 1; method = 2; initiator = 1; placed = 0 ∷ 1 ∷ 0 ∷ 0 ∷ []; placements = 0 ∷ 1 ∷ 0 ∷ 0 ∷ [] }
unfolding opens_early opens_table codes_events events_of_frames events_of_frame events_of end_in initiator_in placed_in placements_in mark_by value_by
end = refl

-- the end twice, codes of 9 bytes, no metadata
marks : (game_read file full).double_end ∷ (game_read file full).codes_given ∷ (game_read file full).metadata_given ∷ (game_read file full).actual_size ∷ []
    ≡ 1 ∷ 1 ∷ 0 ∷ 9 ∷ []
unfolding opens_early opens_table codes_events events_of_frames events_of_frame events_of used_in tail_kind bare
marks = refl
