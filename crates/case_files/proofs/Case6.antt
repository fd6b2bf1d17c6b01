-- Case 6, and 11, which has the same game: 3.18.0 with one frame, one leader and an end, 990 bytes. What is read of its file.
-- Assumes nothing.
use mathlib.Core.Path.{◌≡◌, refl}
use mathlib.Core.Bool.{false}
use mathlib.Core.List.{List, []}
use Prim.Native.Nat.{ℕ}
use lib.Dec.{lit≤}
use Rattle.wire.specs.Wire.{keep}
use Rattle.format.specs.Version.{above, gte_of}
use Rattle.layout.specs.Columns.{has_family, chosen}
use Rattle.layout.specs.Payloads.{listed, payload_size, entries_of}
use Rattle.grammar.specs.WellFormed.{GoodCodes}
use Rattle.grammar.specs.Productions.{used_in, codes_bytes}
use Rattle.read_outline.specs.Listed.{listed_right}
use Rattle.head.specs.Table.{span_of}
use Rattle.read_judge.specs.Found.{version_of, Found, too_big}
use Rattle.newer_judge.specs.Opening.{opening_refusal}
use Rattle.measure.specs.Game.{Kept, kept, game_read}
use Rattle.measure.specs.Read.{kept_short, kept_over, MeasureOutcome, ReadOutcome}
use Rattle.measure.specs.declared.Measured.{Measured}
use Rattle.measure.specs.declared.Opened.{Opened}
use Rattle.ser.specs.Write as write
use Rattle.law_tree.specs.Tree.{blocks_of}
use Rattle.law_saved.specs.Again.{fronts, stores_read}
use Rattle.case_table.specs.Games.{one_frame}
use Rattle.case_table.specs.Table.{short}
use Rattle.case_table.proofs.Examples.{passed}
use Rattle.case_files.proofs.Frame.{Coded, tree, lent_back, lengths_back, measured_back, opened_back}
use Rattle.case_files.proofs.Frame as frame

abbrev file : List ℕ
file = write.file short (one_frame [])

-- no codes; a table of 10 entries ends at 47, and there stands the start's code
coded : Coded 0 0 0 48 [] []
unfolding blocks_of keep GoodCodes codes_bytes used_in entries_of chosen listed payload_size has_family gte_of above span_of listed_right
coded = record {
  passed = passed;
  cut = refl;
  good = tt;
  joined = refl;
  used = refl;
  long = refl;
  few = lit≤ tt;
  right = refl;
  mark = refl;
  first = refl;
}

not_refused : opening_refusal file ≡ 0
not_refused = frame.not_refused coded

-- a start, one frame of one leader, an end
abbrev found : Found file
found = frame.found coded

small_enough : too_big (version_of file) (tree []) ≡ false
small_enough = frame.small_enough coded

-- `measure` answers this, and nothing else: no codes, the block behind byte 47
measured : MeasureOutcome file (measured_back 0 0 0 48)
measured = frame.measured coded

only_measured : {m : Measured} → MeasureOutcome file m → m ≡ measured_back 0 0 0 48
only_measured = frame.only_measured coded

-- `read`, into stores that are long enough, gives the game with what was lent
opened : (stores : Kept) → kept_short stores (kept lent_back []) ≡ false → ReadOutcome file stores (opened_back 0 0 48) (kept_over stores (kept lent_back []))
opened = frame.opened coded

only_opened : (stores : Kept) → kept_short stores (kept lent_back []) ≡ false → {x : Opened} {after : Kept} → ReadOutcome file stores x after
    → (x ≡ opened_back 0 0 48) × (after ≡ kept_over stores (kept lent_back []))
only_opened = frame.only_opened coded

-- their fronts are then what was lent
filled : (stores : Kept) → kept_short stores (kept lent_back []) ≡ false → fronts (lengths_back 0) (kept_over stores (kept lent_back [])) ≡ kept lent_back []
filled = frame.filled coded

-- written again it is the same file
saved_again : write.file (game_read file (tree [])) (stores_read file (tree [])) ≡ file
saved_again = frame.saved_again coded
