-- Case 9: as case 6, with codes of 65,536 bytes in 128 blocks, 67,172 bytes; the table has 0 for their size. What is read of its file.
-- Assumes nothing.
use Prim.Native.Nat.{ℕ, zero, suc, ◌+◌, ◌-◌, ◌*◌, ◌≤◌, ◌<◌}
use mathlib.Core.Path.{◌≡◌, refl, sym, ap, subst, ◌∙◌}
use mathlib.Core.Bool.{true, false}
use mathlib.Core.List.{List, [], ◌∷◌}
use native.Mathlib.Decide.{dec_lt}
use native.Mathlib.Nat.{sub-zero, zero-sub, suc-sub-suc}
use native.Mathlib.Omega.{arith}
use borrow.Author.Tests.{lt-ltb, le-ltb}
use lib.Dec.{lit<, lit≤}
use lib.ListN.{get_or, take, drop, replicate, length-replicate}
use Rattle.wire.specs.Wire.{part, ranged, keep}
use Rattle.wire.proofs.Laws.{ranged_same}
use Rattle.format.specs.Version.{above, gte_of}
use Rattle.layout.specs.Columns.{has_family, chosen}
use Rattle.layout.specs.Payloads.{listed, payload_size, entries_of}
use Rattle.patch.proofs.Patches.{take_replicate}
use Rattle.codes.specs.Blocks.{block_count, used}
use Rattle.codes.proofs.Laws.{right_codes}
use Rattle.grammar.specs.Productions.{Block, used_in, codes_bytes}
use Rattle.grammar.specs.WellFormed.{GoodCodes}
use Rattle.read_outline.specs.Listed.{listed_right}
use Rattle.head.specs.Table.{span_of}
use Rattle.read_judge.specs.Found.{version_of, Found, too_big}
use Rattle.newer_judge.specs.Opening.{opening_refusal}
use Rattle.measure.specs.Game.{Kept, kept, game_read}
use Rattle.measure.specs.Read.{kept_short, kept_over, MeasureOutcome, ReadOutcome}
use Rattle.measure.specs.declared.Measured.{Measured}
use Rattle.measure.specs.declared.Opened.{Opened}
use Rattle.ser.specs.Write.{refusal}
use Rattle.ser.specs.Write as write
use Rattle.ser.proofs.Outcomes.{Passed}
use Rattle.ser.proofs.Outcomes as outcomes
use Rattle.law_tree.specs.Tree.{blocks_of}
use Rattle.law_tree.proofs.Good.{codes_good}
use Rattle.law_columns.proofs.Codes.{codes_returned}
use Rattle.law_saved.specs.Again.{fronts, stores_read}
use Rattle.case_table.specs.Games.{one_frame}
use Rattle.case_table.specs.Table.{cases}
use Rattle.case_table.specs.Table as table
use Rattle.case_table.proofs.Computed.{case_holds}
use Rattle.case_files.proofs.Frame.{Coded, newest, tree, lent_back, lengths_back, measured_back, opened_back}
use Rattle.case_files.proofs.Frame as frame

abbrev pub codes : List ℕ
codes = replicate 65536 0

abbrev file : List ℕ
file = write.file (table.coded 65536) (one_frame codes)

-- every block is full
abbrev full : Block
full = record { bytes = replicate 512 0; used = 512 }

abbrev blocks : List Block
blocks = replicate 128 full

pub accepted : refusal (table.coded 65536) (one_frame codes) 67172 ≡ 0
unfolding cases
accepted = ap (λ (l : List ℕ). get_or l 0 0) (case_holds 10 (lit< tt))

passed : Passed (table.coded 65536) (one_frame codes)
passed = outcomes.not_refused (table.coded 65536) (one_frame codes) 67172 accepted

-- ---- the codes are cut into these blocks, by laws over their length

drop_replicate : (k n a : ℕ) → drop k (replicate n a) ≡ replicate (n - k) a
drop_replicate zero n a = ap (λ (m : ℕ). replicate m a) (sym (sub-zero n))
drop_replicate (suc k) zero a = ap (λ (m : ℕ). replicate m a) (sym (zero-sub (suc k)))
drop_replicate (suc k) (suc n) a = drop_replicate k n a ∙ ap (λ (m : ℕ). replicate m a) (sym (suc-sub-suc n k))

part_replicate : (n at k a : ℕ) → at + k ≤ n → part (replicate n a) at k ≡ replicate k a
unfolding part
part_replicate n at k a h = ap (take k) (drop_replicate at n a) ∙ take_replicate k (n - at) a (omega arith)

used_all : (b : ℕ) → b < 128 → used 65536 b ≡ 512
unfolding used
used_all b h = elim (dec_lt 512 (65536 - 512 * b)) [
  | yes l ↦ rw (lt-ltb 512 (65536 - 512 * b) l)
  | no l ↦ rw (le-ltb 512 (65536 - 512 * b) (omega arith)) (omega arith)
]

block_is : (b : ℕ) → b < 128 → ◌≡◌ {A = Block} (record { bytes = part codes (512 * b) 512; used = used 65536 b }) full
block_is b h =
    let p = part_replicate 65536 (512 * b) 512 0 (omega arith) in
    let q = used_all b h in
    λ i. record { bytes = p i; used = q i }

all_alike : ranged (λ b. full ∷ []) 0 128 ≡ blocks
unfolding ranged
all_alike = refl

cut : blocks_of true codes 65536 ≡ blocks
unfolding blocks_of keep block_count
cut = ranged_same _ (λ b. full ∷ []) 0 128 (λ b l m. ap (λ (x : Block). x ∷ []) (block_is b (omega arith))) ∙ all_alike

good : GoodCodes newest blocks
good = subst (GoodCodes newest) cut (codes_good newest true codes 65536 (right_codes newest true codes 65536 passed.coded))

joined : codes_bytes blocks ≡ codes
unfolding keep
joined = ap codes_bytes (sym cut) ∙ (codes_returned newest true codes 65536 passed.coded).0

-- a table of 12 entries ends at 53, and there stands the start's code
coded : Coded 1 65536 65536 54 codes blocks
unfolding used_in entries_of chosen listed payload_size has_family gte_of above span_of listed_right
coded = record {
  passed = passed;
  cut = cut;
  good = good;
  joined = joined;
  used = refl;
  long = length-replicate {A = ℕ} 65536 0;
  few = lit≤ tt;
  right = refl;
  mark = refl;
  first = refl;
}

-- ---- what is read

not_refused : opening_refusal file ≡ 0
not_refused = frame.not_refused coded

-- a start, 128 blocks of codes, one frame of one leader, an end
abbrev found : Found file
found = frame.found coded

small_enough : too_big (version_of file) (tree blocks) ≡ false
small_enough = frame.small_enough coded

-- `measure` answers this, and nothing else: codes of 65,536 bytes, in a store of as many
measured : MeasureOutcome file (measured_back 1 65536 65536 54)
measured = frame.measured coded

only_measured : {m : Measured} → MeasureOutcome file m → m ≡ measured_back 1 65536 65536 54
only_measured = frame.only_measured coded

-- `read`, into stores that are long enough, gives the game with what was lent, and all bytes of codes
opened : (stores : Kept) → kept_short stores (kept lent_back codes) ≡ false → ReadOutcome file stores (opened_back 1 65536 54) (kept_over stores (kept lent_back codes))
opened = frame.opened coded

only_opened : (stores : Kept) → kept_short stores (kept lent_back codes) ≡ false → {x : Opened} {after : Kept} → ReadOutcome file stores x after
    → (x ≡ opened_back 1 65536 54) × (after ≡ kept_over stores (kept lent_back codes))
only_opened = frame.only_opened coded

-- their fronts are then what was lent
filled : (stores : Kept) → kept_short stores (kept lent_back codes) ≡ false → fronts (lengths_back 65536) (kept_over stores (kept lent_back codes)) ≡ kept lent_back codes
filled = frame.filled coded

-- written again it is the same file
saved_again : write.file (game_read file (tree blocks)) (stores_read file (tree blocks)) ≡ file
saved_again = frame.saved_again coded
