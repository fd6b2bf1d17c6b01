-- The smallest file that holds a replay: version 0.1.0, a start block of zeros with four empty seats, no frame, no end, and one brace behind.
-- Assumes nothing.
use Prim.Native.Nat.{ℕ, zero, suc, ◌≤◌, ◌<◌}
use mathlib.Core.Path.{◌≡◌, refl}
use mathlib.Core.Bool.{false}
use mathlib.Core.List.{List, [], ◌∷◌}
use native.Mathlib.Omega.{arith}
use lib.Dec.{lit<, lit≤}
use lib.ListN.{replicate}
use Rattle.wire.specs.Wire.{be, more, part, ranged, keep, tabulate}
use Rattle.format.specs.Refusal.{one_of}
use Rattle.format.specs.File.{entries_bytes, table_bytes, events_bytes, file_of}
use Rattle.format.specs.Version.{version, above, gte_of, accepted_of}
use Rattle.layout.specs.Columns.{has_family, columns_of, chosen}
use Rattle.game.specs.Frames.{no_port, ports_of, slots_from, slots_of}
use Rattle.game.specs.Stores.{lent, cells, offsets}
use Rattle.game.specs.Zero.{no_seat, no_end}
use Rattle.frames.specs.Judge.{too_many}
use Rattle.start.specs.Length.{reached, length_of}
use Rattle.read_start.specs.Start.{seat_in, start_in}
use Rattle.grammar.specs.Productions.{Replay, codes_events, events_of_frames, events_of, used_in, codes_bytes}
use Rattle.grammar.specs.WellFormed.{Each, ascending, GoodCodes, WellFormed}
use Rattle.grammar.specs.Readable.{Changing, Alike, seat_type, Readable}
use Rattle.columns.specs.Columns.{ever_in, port_columns, rows_there, frames_read, cell_columns, slots_cells, offsets_read, slots_presence, lent_read}
use Rattle.known.specs.Known.{taken}
use Rattle.read_outline.specs.Listed.{listed_right}
use Rattle.head.specs.Table.{stop_of, entries_in, table_of}
use Rattle.de.specs.Cut.{events_read}
use Rattle.read_judge.specs.Found.{version_said, version_of, Found, too_big}
use Rattle.newer_judge.specs.Opening.{opening_refusal}
use Rattle.measure.specs.Game.{bare, tail_kind, places_in, game_read, kept, kept_read}
use Rattle.case_files.proofs.Files.{block, old}
use Rattle.de.proofs.Opens.{opens_steps}
use Rattle.read_judge.proofs.Opens.{opens_early}

abbrev smallest : List ℕ
smallest = old []

abbrev pub empty : Replay
empty = record { block = block; codes = []; frames = []; ends = [] }

-- it is not refused
not_refused : opening_refusal smallest ≡ 0
unfolding opens_early opening_refusal
not_refused = refl

version_said_lem : version_of smallest ≡ version 0 1 0
unfolding opens_steps events_read version_said
version_said_lem = refl

empty_seats : (n : ℕ) → n < 4 → seat_type block n ≤ 3
empty_seats zero h = lit≤ tt
empty_seats (suc zero) h = lit≤ tt
empty_seats (suc (suc zero)) h = lit≤ tt
empty_seats (suc (suc (suc zero))) h = lit≤ tt
empty_seats (suc (suc (suc (suc n)))) h = absurd (omega arith)

empty_well : WellFormed (version 0 1 0) ascending empty
unfolding Each GoodCodes length_of reached gte_of above
empty_well = record { version = refl; block = lit≤ tt; short = lit< tt; codes = tt; frames = tt; few = lit≤ tt; ends = tt }

pub empty_readable : Readable (version 0 1 0) empty
unfolding Changing Alike Each
empty_readable = record { well = empty_well; changing = λ e. tt; seats = empty_seats; alike = tt; initiators = λ e. tt }

-- it holds the empty replay
found : Found smallest
unfolding opens_steps events_read version_said accepted_of taken codes_events events_of_frames events_of listed_right gte_of above used_in
found = record { replay = empty; whole = refl; events_are = refl; readable = empty_readable; listed = refl }

-- no count exceeds its maximum
small_enough : too_big (version 0 1 0) empty ≡ false
unfolding too_many one_of frames_read rows_there port_columns ranged ever_in keep codes_bytes
small_enough = refl

-- where its parts stand: the block of 320 bytes behind the start's code, and no metadata
places : places_in smallest empty ≡ record { block_at = 30; block_len = 320; tail = 0; metadata_at = 0; metadata_len = 0 }
unfolding file_of table_bytes entries_bytes events_bytes be part more stop_of entries_in table_of tail_kind bare
places = refl

-- the game: no frame, no port, no end, no codes, no metadata
frames : (game_read smallest empty).frames ≡ record {
  version = version 0 1 0;
  counts = record { frames = 0; items = 0; fods = 0; whispys = 0; stadiums = 0 };
  ports = replicate 4 no_port;
  port_count = 0;
}
unfolding opens_steps events_read version_said frames_read rows_there port_columns ranged ever_in keep
frames = refl

no_seats : (start_in (version 0 1 0) block).seats ≡ replicate 4 no_seat
unfolding start_in seat_in ranged
no_seats = refl

no_end_lem : (game_read smallest empty).end ≡ no_end
no_end_lem = refl

marks : (game_read smallest empty).double_end ∷ (game_read smallest empty).codes_given ∷ (game_read smallest empty).metadata_given ∷ (game_read smallest empty).actual_size ∷ []
    ≡ 0 ∷ 0 ∷ 0 ∷ 0 ∷ []
unfolding opens_steps events_read version_said gte_of above used_in tail_kind bare
marks = refl

-- nothing goes to its stores
stores : kept_read (version 0 1 0) empty ≡ kept (lent (cells [] [] [] [] [] [] [] [] []) (offsets [] [] [] []) []) []
unfolding lent_read codes_bytes frames_read rows_there port_columns ranged ever_in keep cell_columns columns_of chosen gte_of above slots_cells slots_of slots_from ports_of tabulate offsets_read has_family slots_presence
stores = refl
