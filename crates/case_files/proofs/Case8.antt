-- Case 8: as case 6, with codes of 512 bytes in one block, 1,513 bytes. What is read of its file.
-- Assumes nothing.
use mathlib.Core.Path.{◌≡◌, refl, ap}
use mathlib.Core.Bool.{false}
use mathlib.Core.List.{List, [], ◌∷◌}
use Prim.Native.Nat.{ℕ}
use lib.Dec.{lit<, lit≤}
use lib.ListN.{get_or, replicate}
use Rattle.wire.specs.Wire.{part, ranged, keep}
use Rattle.format.specs.Version.{above, gte_of}
use Rattle.layout.specs.Columns.{has_family, chosen}
use Rattle.layout.specs.Payloads.{listed, payload_size, entries_of}
use Rattle.codes.specs.Blocks.{block_count, used}
use Rattle.grammar.specs.Productions.{Block, used_in, codes_bytes}
use Rattle.grammar.specs.WellFormed.{GoodCodes}
use Rattle.read_outline.specs.Listed.{listed_right}
use Rattle.head.specs.Table.{span_of}
use Rattle.read_judge.specs.Found.{version_of, Found, too_big}
use Rattle.newer_judge.specs.Opening.{opening_refusal}
use Rattle.measure.specs.Game.{Kept, kept, game_read}
use Rattle.measure.specs.Read.{kept_short, kept_over, MeasureOutcome, ReadOutcome}
use Rattle.measure.specs.declared.Measured.{Measured}
use Rattle.measure.specs.declared.Opened.{Opened}
use Rattle.ser.specs.Write as write
use Rattle.ser.proofs.Outcomes.{Passed}
use Rattle.ser.proofs.Outcomes as outcomes
use Rattle.law_tree.specs.Tree.{blocks_of}
use Rattle.law_saved.specs.Again.{fronts, stores_read}
use Rattle.case_table.specs.Games.{one_frame}
use Rattle.case_table.specs.Table.{cases}
use Rattle.case_table.specs.Table as table
use Rattle.case_table.proofs.Computed.{case_holds}
use Rattle.case_files.proofs.Frame.{Coded, tree, lent_back, lengths_back, measured_back, opened_back}
use Rattle.case_files.proofs.Frame as frame

abbrev codes : List ℕ
codes = replicate 512 0

abbrev file : List ℕ
file = write.file (table.coded 512) (one_frame codes)

-- one block, full
abbrev blocks : List Block
blocks = record { bytes = replicate 512 0; used = 512 } ∷ []

passed : Passed (table.coded 512) (one_frame codes)
unfolding cases
passed = outcomes.not_refused (table.coded 512) (one_frame codes) 1513 (ap (λ (l : List ℕ). get_or l 0 0) (case_holds 8 (lit< tt)))

-- a table of 12 entries ends at 53, and there stands the start's code
coded : Coded 1 512 512 54 codes blocks
unfolding blocks_of block_count used part ranged keep GoodCodes codes_bytes used_in entries_of chosen listed payload_size has_family gte_of above span_of listed_right
coded = record {
  passed = passed;
  cut = refl;
  good = (refl, refl, lit< tt, lit≤ tt);
  joined = refl;
  used = refl;
  long = refl;
  few = lit≤ tt;
  right = refl;
  mark = refl;
  first = refl;
}

not_refused : opening_refusal file ≡ 0
not_refused = frame.not_refused coded

-- a start, a block of codes, one frame of one leader, an end
abbrev found : Found file
found = frame.found coded

small_enough : too_big (version_of file) (tree blocks) ≡ false
small_enough = frame.small_enough coded

-- `measure` answers this, and nothing else: codes of 512 bytes, in a store of 512
measured : MeasureOutcome file (measured_back 1 512 512 54)
measured = frame.measured coded

only_measured : {m : Measured} → MeasureOutcome file m → m ≡ measured_back 1 512 512 54
only_measured = frame.only_measured coded

-- `read`, into stores that are long enough, gives the game with what was lent, and all 512 bytes of codes
opened : (stores : Kept) → kept_short stores (kept lent_back codes) ≡ false → ReadOutcome file stores (opened_back 1 512 54) (kept_over stores (kept lent_back codes))
opened = frame.opened coded

only_opened : (stores : Kept) → kept_short stores (kept lent_back codes) ≡ false → {x : Opened} {after : Kept} → ReadOutcome file stores x after
    → (x ≡ opened_back 1 512 54) × (after ≡ kept_over stores (kept lent_back codes))
only_opened = frame.only_opened coded

-- their fronts are then what was lent
filled : (stores : Kept) → kept_short stores (kept lent_back codes) ≡ false → fronts (lengths_back 512) (kept_over stores (kept lent_back codes)) ≡ kept lent_back codes
filled = frame.filled coded

-- written again it is the same file
saved_again : write.file (game_read file (tree blocks)) (stores_read file (tree blocks)) ≡ file
saved_again = frame.saved_again coded
