-- Codes at version 3.3: a file with one block of them that is read, and 19 for each way in which a block or its listing is wrong.
-- Assumes nothing.
use Prim.Native.Nat.{ℕ, zero, suc, ◌≤◌, ◌<◌}
use mathlib.Core.Path.{◌≡◌, refl}
use mathlib.Core.Bool.{true, false}
use mathlib.Core.List.{List, [], ◌∷◌, ◌++◌}
use native.Mathlib.Omega.{arith}
use lib.Dec.{lit<, lit≤}
use lib.ListN.{replicate}
use Rattle.wire.specs.Wire.{part}
use Rattle.format.specs.File.{Entry, Ev, file_of}
use Rattle.format.specs.Version.{version, above, gte_of}
use Rattle.format.proofs.Versions.{no_way}
use Rattle.start.specs.Length.{length_of, reached}
use Rattle.grammar.specs.Productions.{Block, Replay, start_event, block_event, codes_events, events_of_frames, events_of, used_in, codes_bytes}
use Rattle.grammar.specs.WellFormed.{Each, ascending, GoodCodes, WellFormed}
use Rattle.grammar.specs.Readable.{Changing, Alike, seat_type, Readable}
use Rattle.grammar.specs.Whole.{says_version, is_start, is_block, is_last, is_full, blocks_rest, codes_rest, on_some, is_replay}
use Rattle.read_outline.specs.Listed.{listed_right}
use Rattle.read_judge.specs.Found.{Found}
use Rattle.newer_judge.specs.Opening.{opening_refusal}
use Rattle.measure.specs.Game.{game_read, kept_read}
use Rattle.case_files.proofs.Files.{Nineteen, entry, brace, seated}
use Rattle.case_files.proofs.Taken.{are_bytes, have_bytes, no_replay, lists_right}
use Rattle.read_judge.proofs.Opens.{opens_early}

-- a start of 418 bytes, as 3.3 has it
abbrev block : List ℕ
block = seated 3 3 0 3 ++ replicate 98 0

-- a block of 512 bytes, of which so many are codes
abbrev codes : ℕ → Block
codes used = record { bytes = replicate 512 0xC2; used = used }

-- the table lists codes with their actual size, and their blocks; or the blocks alone
abbrev listing : ℕ → List Entry
listing size = entry 0x36 418 ∷ entry 0x3D size ∷ entry 0x10 516 ∷ []

abbrev unlisting : List Entry
unlisting = entry 0x36 418 ∷ entry 0x10 516 ∷ []

abbrev events : ℕ → ℕ → List Ev
events last used = start_event block ∷ block_event last (codes used) ∷ []

-- ---- one block, of which 9 bytes are codes

abbrev coded : Replay
coded = record { block = block; codes = codes 9 ∷ []; frames = []; ends = [] }

abbrev file : List ℕ
file = file_of (listing 9) (events 1 9) brace

not_refused : opening_refusal file ≡ 0
unfolding opens_early opening_refusal
not_refused = refl

well : WellFormed (version 3 3 0) ascending coded
unfolding Each GoodCodes length_of reached gte_of above
well = record { version = refl; block = lit≤ tt; short = lit< tt; codes = (refl, refl, lit< tt, lit≤ tt); frames = tt; few = lit≤ tt; ends = tt }

seats : (n : ℕ) → n < 4 → seat_type block n ≤ 3
seats zero h = lit≤ tt
seats (suc zero) h = lit≤ tt
seats (suc (suc zero)) h = lit≤ tt
seats (suc (suc (suc zero))) h = lit≤ tt
seats (suc (suc (suc (suc n)))) h = absurd (omega arith)

readable : Readable (version 3 3 0) coded
unfolding Changing Alike Each
readable = record { well = well; changing = λ e. tt; seats = seats; alike = tt; initiators = λ e. tt }

found : Found file
unfolding opens_early codes_events events_of_frames events_of gte_of listed_right used_in
found = record { replay = coded; whole = refl; events_are = refl; readable = readable; listed = refl }

-- codes are given, of 9 bytes; the store has all 512
marks : (game_read file coded).codes_given ∷ (game_read file coded).actual_size ∷ [] ≡ 1 ∷ 9 ∷ []
unfolding opens_early gte_of used_in
marks = refl

store : (kept_read (version 3 3 0) coded).codes ≡ replicate 512 0xC2
unfolding codes_bytes
store = refl

-- ---- a block that is wrong

-- the flag of a last block is 1, and of another 0: 2 is neither
flag_two : Nineteen (file_of (listing 9) (events 2 9) brace)
unfolding opens_early opening_refusal are_bytes have_bytes is_replay is_start says_version codes_rest blocks_rest is_block is_last is_full on_some gte_of length_of reached
flag_two = (refl, no_replay (file_of (listing 9) (events 2 9) brace) (events 2 9) refl refl refl)

-- one block, which is not the last
no_last : Nineteen (file_of (listing 512) (events 0 512) brace)
unfolding opens_early opening_refusal are_bytes have_bytes is_replay is_start says_version codes_rest blocks_rest is_block is_last is_full on_some gte_of length_of reached
no_last = (refl, no_replay (file_of (listing 512) (events 0 512) brace) (events 0 512) refl refl refl)

-- a last block without codes
used_none : Nineteen (file_of (listing 0) (events 1 0) brace)
unfolding opens_early opening_refusal are_bytes have_bytes is_replay is_start says_version codes_rest blocks_rest is_block is_last is_full on_some gte_of length_of reached
used_none = (refl, no_replay (file_of (listing 0) (events 1 0) brace) (events 1 0) refl refl refl)

-- a last block of more codes than bytes
used_over : Nineteen (file_of (listing 513) (events 1 513) brace)
unfolding opens_early opening_refusal are_bytes have_bytes is_replay is_start says_version codes_rest blocks_rest is_block is_last is_full on_some gte_of length_of reached
used_over = (refl, no_replay (file_of (listing 513) (events 1 513) brace) (events 1 513) refl refl refl)

-- a block that is no part of codes
other_part : Nineteen (file_of (listing 9) (start_event block ∷ record { code = 0x10; payload = replicate 512 0xC2 ++ (0 ∷ 9 ∷ 0x3B ∷ 1 ∷ []) } ∷ []) brace)
unfolding opens_early opening_refusal are_bytes have_bytes is_replay is_start says_version codes_rest blocks_rest is_block is_last is_full on_some gte_of length_of reached
other_part = (refl, no_replay (file_of (listing 9) (start_event block ∷ record { code = 0x10; payload = replicate 512 0xC2 ++ (0 ∷ 9 ∷ 0x3B ∷ 1 ∷ []) } ∷ []) brace) (start_event block ∷ record { code = 0x10; payload = replicate 512 0xC2 ++ (0 ∷ 9 ∷ 0x3B ∷ 1 ∷ []) } ∷ []) refl refl refl)

-- a block of 515 bytes
block_short : Nineteen (file_of (entry 0x36 418 ∷ entry 0x3D 9 ∷ entry 0x10 515 ∷ []) (start_event block ∷ record { code = 0x10; payload = replicate 511 0xC2 ++ (0 ∷ 9 ∷ 0x3D ∷ 1 ∷ []) } ∷ []) brace)
unfolding opens_early opening_refusal are_bytes have_bytes is_replay is_start says_version codes_rest blocks_rest is_block is_last is_full on_some gte_of length_of reached
block_short = (
  refl,
  no_replay
      (file_of (entry 0x36 418 ∷ entry 0x3D 9 ∷ entry 0x10 515 ∷ []) (start_event block ∷ record { code = 0x10; payload = replicate 511 0xC2 ++ (0 ∷ 9 ∷ 0x3D ∷ 1 ∷ []) } ∷ []) brace)
      (start_event block ∷ record { code = 0x10; payload = replicate 511 0xC2 ++ (0 ∷ 9 ∷ 0x3D ∷ 1 ∷ []) } ∷ []) refl refl refl,
)

-- ---- a listing that is wrong

-- a block of codes, and 3D is not listed
codes_unlisted : Nineteen (file_of (unlisting) (events 1 9) brace)
unfolding opens_early opening_refusal codes_events events_of_frames events_of gte_of listed_right used_in
codes_unlisted = (refl, λ x. let n : false ≡ true = lists_right (file_of (unlisting) (events 1 9) brace) (version 3 3 0) coded refl well refl x in no_way n)

-- 3D is listed with another size than the codes have
codes_listed_otherwise : Nineteen (file_of (listing 10) (events 1 9) brace)
unfolding opens_early opening_refusal codes_events events_of_frames events_of gte_of listed_right used_in
codes_listed_otherwise = (refl, λ x. let n : false ≡ true = lists_right (file_of (listing 10) (events 1 9) brace) (version 3 3 0) coded refl well refl x in no_way n)

-- codes that are listed with a size, and no block
abbrev bare : Replay
bare = record { block = block; codes = []; frames = []; ends = [] }

bare_well : WellFormed (version 3 3 0) ascending bare
unfolding Each GoodCodes length_of reached gte_of above
bare_well = record { version = refl; block = lit≤ tt; short = lit< tt; codes = tt; frames = tt; few = lit≤ tt; ends = tt }

codes_missing : Nineteen (file_of (listing 9) (start_event block ∷ []) brace)
unfolding opens_early opening_refusal codes_events events_of_frames events_of gte_of listed_right used_in
codes_missing = (refl, λ x. let n : false ≡ true = lists_right (file_of (listing 9) (start_event block ∷ []) brace) (version 3 3 0) bare refl bare_well refl x in no_way n)
