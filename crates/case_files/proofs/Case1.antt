-- Case 1: version 0.1.0 and nothing else, 351 bytes. What is read of its file.
-- Assumes nothing.
use Prim.Native.Nat.{ℕ, zero, suc, ◌≤◌, ◌<◌}
use mathlib.Core.Path.{◌≡◌, refl, ap, subst, ◌∙◌}
use mathlib.Core.Bool.{false}
use mathlib.Core.List.{List, [], ◌∷◌}
use native.Mathlib.Omega.{arith}
use borrow.Author.Tests.{le-ltb}
use lib.Dec.{ltb, lit<, lit≤}
use lib.ListN.{get_or, replicate}
use Rattle.wire.specs.Wire.{be, more, part, splice, ranged, keep, tabulate}
use Rattle.format.specs.Refusal.{one_of}
use Rattle.format.specs.Version.{version, above, accepted_of, gte_of}
use Rattle.layout.specs.Columns.{has_family, columns_of, chosen}
use Rattle.layout.specs.Payloads.{listed, payload_size, entries_of}
use Rattle.game.specs.Zero.{no_end}
use Rattle.game.specs.Frames.{ports_of, slots_from, slots_of}
use Rattle.game.specs.Stores.{stores}
use Rattle.game.specs.declared.Game.{Game}
use Rattle.frames.specs.Judge.{too_many}
use Rattle.patch.specs.Patch.{patched}
use Rattle.start.specs.Block.{game_fields, player_fields, text_fields, port_fields, seats_fields, mode_fields, match_fields, fields, start_block}
use Rattle.start.specs.Length.{reached, length_of}
use Rattle.read_start.specs.Start.{seat_in, start_in}
use Rattle.ending.specs.Tail.{tail_of}
use Rattle.grammar.specs.Productions.{Replay, events_of, used_in, codes_bytes}
use Rattle.grammar.specs.WellFormed.{Each, ascending, GoodCodes, WellFormed}
use Rattle.grammar.specs.Readable.{Changing, Alike, seat_type, Readable}
use Rattle.columns.specs.Columns.{ever_in, port_columns, rows_there, frames_read, cell_columns, slots_cells, offsets_read, slots_presence, lent_read}
use Rattle.read_outline.specs.Listed.{listed_right}
use Rattle.head.specs.Table.{span_of}
use Rattle.read_judge.specs.Found.{opens_wrong, version_said, version_of, Found, too_big}
use Rattle.newer_judge.specs.Opening.{opening_refusal}
use Rattle.measure.specs.Game.{Kept, kept, kept_read, no_lengths, bare, tail_kind, game_read}
use Rattle.measure.specs.Read.{kept_short, kept_over, MeasureOutcome, ReadOutcome}
use Rattle.measure.specs.declared.Places.{Places}
use Rattle.measure.specs.declared.Measured.{Measured}
use Rattle.measure.specs.declared.Opened.{Opened}
use Rattle.measure.proofs.Only.{only_read}
use Rattle.ser.specs.Write.{entries}
use Rattle.ser.specs.Write as write
use Rattle.ser.proofs.Outcomes.{Passed}
use Rattle.ser.proofs.Outcomes as outcomes
use Rattle.law_tree.specs.Tree.{frames_of, blocks_of, ends_of, replay_of}
use Rattle.law_tree.proofs.Same.{same}
use Rattle.law_saved.specs.Again.{stores_read}
use Rattle.case_table.specs.Games.{plain_frames, block_alone}
use Rattle.case_table.specs.Table.{least, cases}
use Rattle.case_table.proofs.Computed.{case_holds}
use Rattle.case_files.proofs.Back.{start_back}
use Rattle.case_files.proofs.Held.{Holds, span_in, mark_of, places_of, measured_of, opened_of}
use Rattle.case_files.proofs.Held as held

abbrev template : List ℕ
template = replicate 320 0

abbrev file : List ℕ
file = write.file least (block_alone template)

-- the template's zeros behind the version, and nothing else
abbrev block : List ℕ
block = 0 ∷ 1 ∷ 0 ∷ replicate 317 0

abbrev tree : Replay
tree = record { block = block; codes = []; frames = []; ends = [] }

passed : Passed least (block_alone template)
unfolding cases
passed = outcomes.not_refused least (block_alone template) 351 (ap (λ (l : List ℕ). get_or l 0 0) (case_holds 0 (lit< tt)))

-- ---- the tree is the game's, and can be read back

tree_is : replay_of least (block_alone template) ≡ tree
unfolding replay_of be splice start_block fields game_fields seats_fields mode_fields match_fields patched keep ranged gte_of above blocks_of frames_of ends_of
tree_is = refl

well : WellFormed (version 0 1 0) ascending tree
unfolding Each GoodCodes length_of reached gte_of above
well = record { version = refl; block = lit≤ tt; short = lit< tt; codes = tt; frames = tt; few = lit≤ tt; ends = tt }

seats : (n : ℕ) → n < 4 → seat_type block n ≤ 3
seats zero h = lit≤ tt
seats (suc zero) h = lit≤ tt
seats (suc (suc zero)) h = lit≤ tt
seats (suc (suc (suc zero))) h = lit≤ tt
seats (suc (suc (suc (suc n)))) h = absurd (omega arith)

readable : Readable (version 0 1 0) tree
unfolding Changing Alike Each
readable = record { well = well; changing = λ e. tt; seats = seats; alike = tt; initiators = λ e. tt }

tree_held : Holds least (block_alone template) tree
unfolding opens_wrong version_said events_of listed_right span_of entries_of chosen listed payload_size has_family gte_of above used_in too_many one_of frames_read rows_there port_columns ranged ever_in keep codes_bytes tail_kind tail_of bare
tree_held = record {
  same = same least (block_alone template) ∙ ap (events_of (version 0 1 0)) tree_is;
  opens = refl;
  said = refl;
  readable = readable;
  listed = refl;
  small = refl;
  plain = refl;
}

not_refused : opening_refusal file ≡ 0
not_refused = held.not_refused passed tree_held

abbrev found : Found file
found = held.found passed tree_held

small_enough : too_big (version_of file) tree ≡ false
small_enough = held.small_enough passed tree_held

-- ---- what comes back

-- the marks of what 0.1.0 lacks were set, and come back unset; no end comes back with an initiator of 0
abbrev game_back : Game
game_back = record {
  frames = plain_frames (version 0 1 0) 0 0;
  start = start_back 0;
  end = no_end;
  double_end = 0;
  codes_given = 0;
  metadata_given = 0;
  actual_size = 0;
}

-- a table of 4 entries ends at 29, and there stands the start's code
abbrev places_back : Places
places_back = record { block_at = 30; block_len = 320; tail = 0; metadata_at = 0; metadata_len = 0 }

abbrev measured_back : Measured
measured_back = record {
  refused = 0;
  partly = 0;
  offset = 0;
  frames = plain_frames (version 0 1 0) 0 0;
  codes_given = 0;
  actual_size = 0;
  lengths = no_lengths;
  places = places_back;
}

abbrev opened_back : Opened
opened_back = record { refused = 0; partly = 0; offset = 0; game = game_back; places = places_back }

-- no store is needed: as nothing was lent
abbrev nothing : Kept
nothing = kept (block_alone []).lent []

stores_are : kept_read (version 0 1 0) tree ≡ nothing
unfolding lent_read codes_bytes frames_read rows_there port_columns ranged ever_in keep cell_columns columns_of chosen gte_of above slots_cells slots_of slots_from ports_of tabulate offsets_read has_family slots_presence
stores_are = refl

measured_is : measured_of (version 0 1 0) (mark_of (version 0 1 0) (span_in least (block_alone template))) (places_of (entries least (block_alone template)) tree) tree ≡ measured_back
unfolding accepted_of frames_read rows_there port_columns ranged ever_in keep gte_of above used_in lent_read codes_bytes cell_columns columns_of chosen slots_cells slots_of slots_from ports_of tabulate offsets_read has_family slots_presence entries_of listed payload_size
measured_is = refl

game_is : held.game_of (version 0 1 0) (mark_of (version 0 1 0) (span_in least (block_alone template))) 0 tree ≡ game_back
unfolding frames_read rows_there port_columns ranged ever_in keep gte_of above used_in start_in seat_in part more
game_is = refl

opened_is : opened_of (version 0 1 0) (mark_of (version 0 1 0) (span_in least (block_alone template))) (places_of (entries least (block_alone template)) tree) tree ≡ opened_back
unfolding accepted_of frames_read rows_there port_columns ranged ever_in keep gte_of above used_in entries_of chosen listed payload_size has_family start_in seat_in part more
opened_is = refl

-- `measure` answers this, and nothing else
measured : MeasureOutcome file measured_back
measured = held.measured passed tree_held measured_is

only_measured : {m : Measured} → MeasureOutcome file m → m ≡ measured_back
only_measured = held.only_measured passed tree_held measured_is

-- `read` takes any stores, and changes nothing there
none_below : (n : ℕ) → ltb n 0 ≡ false
none_below n = le-ltb n 0 (omega arith)

never_short : (given : Kept) → kept_short given nothing ≡ false
unfolding kept_short one_of
never_short given = simp none_below

unchanged : (given : Kept) → kept_over given nothing ≡ given
unfolding kept_over splice
unchanged given = refl

opened : (given : Kept) → ReadOutcome file given opened_back given
opened given = subst (ReadOutcome file given opened_back) (unchanged given) (held.opened passed tree_held opened_is stores_are given (never_short given))

only_opened : (given : Kept) {x : Opened} {after : Kept} → ReadOutcome file given x after → (x ≡ opened_back) × (after ≡ given)
only_opened given o = only_read file given o (opened given)

-- ---- and saved again

tree_again : replay_of game_back (stores nothing.lent block [] []) ≡ tree
unfolding replay_of be splice start_block fields game_fields player_fields text_fields port_fields seats_fields mode_fields match_fields patched keep ranged gte_of above blocks_of frames_of ends_of
tree_again = refl

-- what is read, written again, is the same file
saved_again : write.file (game_read file tree) (stores_read file tree) ≡ file
saved_again = held.saved_again passed tree_held game_is stores_are refl tree_again refl refl
