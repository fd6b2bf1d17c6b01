-- The blocks of columns of slots, cell by cell; and that a store which has each cell where it belongs has the blocks.
-- Assumes nothing.
use mathlib.Core.Path.{◌≡◌, refl, sym, ap, ◌∙◌}
use mathlib.Core.List.{List, [], ◌∷◌, ◌++◌, map}
use Prim.Native.Nat.{ℕ, zero, suc, ◌+◌, ◌*◌, ◌≤◌, ◌<◌}
use native.Mathlib.Nat.{zero-add, zero-mul, suc-mul, add-mul, mul_assoc}
use native.Mathlib.Decide.{dec_lt}
use native.Mathlib.Omega.{arith}
use lib.Arith.{digits_lt}
use lib.ListN.{length, get_or, length-append, length-map, get_or-append}
use lib.Seq.{get_or-append-add}
use Rattle.wire.specs.Wire.{splice}
use Rattle.format.specs.declared.version.Version.{Version}
use Rattle.layout.specs.Columns.{widths_of}
use Rattle.layout.specs.declared.columns.Family.{Family}
use Rattle.game.specs.Frames.{Slot, no_slot}
use Rattle.grammar.specs.Productions.{Frame}
use Rattle.columns.specs.Columns.{players_at, cell_columns, slot_row, slot_number, slots_cells}
use Rattle.columns.specs.Inner.{column}
use Rattle.columns.proofs.Laws.{columns_length, columns_at, Place, place_of, spliced}

-- the rows of slot k, one for each frame
abbrev pub rows_of_slot : Family → ℕ → List Frame → List (List ℕ)
rows_of_slot family k fs = map (λ f. slot_row family k f.players) fs

pub slot_row_at : (family : Family) (k : ℕ) (fs : List Frame) (i : ℕ) → get_or (rows_of_slot family k fs) i [] ≡ slot_row family k (players_at fs i)
unfolding players_at slot_row
slot_row_at family k [] i = refl
slot_row_at family k (f ∷ fs) zero = refl
slot_row_at family k (f ∷ fs) (suc i) = slot_row_at family k fs i

module _ (v : Version) (family : Family) (fs : List Frame) where
  abbrev ws : List ℕ
  ws = widths_of family v

  abbrev block : Slot → List ℕ
  block s = cell_columns ws (rows_of_slot family (slot_number s) fs)

  -- the row of the k-th slot in frame i
  abbrev pub row_at : List Slot → ℕ → ℕ → List ℕ
  row_at slots k i = slot_row family (slot_number (get_or slots k no_slot)) (players_at fs i)

  length_block : (s : Slot) → length (block s) ≡ length ws * length fs
  length_block s =
      let rows = rows_of_slot family (slot_number s) fs in
      columns_length ws rows ∙ ap (λ (n : ℕ). length ws * n) (length-map fs (λ f. slot_row family (slot_number s) f.players))

  block_at : (s : Slot) (c i : ℕ) → c < length ws → i < length fs → get_or (block s) (c * length fs + i) 0 ≡ column ws (slot_row family (slot_number s) (players_at fs i)) c
  block_at s c i h k =
      let rows = rows_of_slot family (slot_number s) fs in
      let n : length rows ≡ length fs = length-map fs (λ f. slot_row family (slot_number s) f.players) in
      ap (λ (m : ℕ). get_or (block s) (c * m + i) 0) (sym n)
      ∙ columns_at ws rows c i h (omega (arith, n))
      ∙ ap (λ (b : List ℕ). column ws b c) (slot_row_at family (slot_number s) fs i)

  pub slots_length : (slots : List Slot) → length (slots_cells v family fs slots) ≡ length slots * (length ws * length fs)
  unfolding slots_cells
  slots_length [] = sym (zero-mul (length ws * length fs))
  slots_length (s ∷ ss) =
      let e = suc-mul (length ss) (length ws * length fs) in
      length-append (block s) (slots_cells v family fs ss) ∙ omega (arith, length_block s, slots_length ss)

  -- a place in the k-th block
  pub in_block : (k c i : ℕ) → (k * length ws + c) * length fs + i ≡ k * (length ws * length fs) + (c * length fs + i)
  in_block k c i = let e = add-mul (k * length ws) c (length fs) in let m = mul_assoc k (length ws) (length fs) in omega arith

  slots_block : (slots : List Slot) (k q : ℕ) → k < length slots → q < length ws * length fs
      → get_or (slots_cells v family fs slots) (k * (length ws * length fs) + q) 0 ≡ get_or (block (get_or slots k no_slot)) q 0
  unfolding slots_cells
  slots_block [] k q h l = absurd (omega arith)
  slots_block (s ∷ ss) zero q h l =
      let n = length_block s in
      rw (zero-mul (length ws * length fs), zero-add q) (get_or-append (block s) (slots_cells v family fs ss) 0 q (omega (arith, n)))
  slots_block (s ∷ ss) (suc k) q h l =
      let size = length ws * length fs in
      let e : suc k * size + q ≡ length (block s) + (k * size + q) = let m = suc-mul k size in omega (arith, length_block s) in
      ap (λ (j : ℕ). get_or (block s ++ slots_cells v family fs ss) j 0) e
      ∙ get_or-append-add (block s) (slots_cells v family fs ss) (k * size + q) 0
      ∙ slots_block ss k q (omega arith) l

  -- column c of the k-th slot's row of frame i
  pub slots_at_lem : (slots : List Slot) (k c i : ℕ) → k < length slots → c < length ws → i < length fs
      → get_or (slots_cells v family fs slots) ((k * length ws + c) * length fs + i) 0 ≡ column ws (row_at slots k i) c
  slots_at_lem slots k c i h l m =
      ap (λ (j : ℕ). get_or (slots_cells v family fs slots) j 0) (in_block k c i)
      ∙ slots_block slots k (c * length fs + i) h (digits_lt l m)
      ∙ block_at (get_or slots k no_slot) c i l m

  -- a store with each cell where it belongs, in whatever order they came there
  pub slots_into : (slots : List Slot) (new store : List ℕ) → length new ≡ length store
      → ((k c i : ℕ) → k < length slots → c < length ws → i < length fs → (k * length ws + c) * length fs + i < length store
      → get_or new ((k * length ws + c) * length fs + i) 0 ≡ column ws (row_at slots k i) c)
      → ((j : ℕ) → length (slots_cells v family fs slots) ≤ j → j < length store → get_or new j 0 ≡ get_or store j 0)
      → new ≡ splice store 0 (slots_cells v family fs slots)
  slots_into slots new store same inside outside =
      spliced new store 0 (slots_cells v family fs slots) same
      (λ q h l. by_places q (place_of (length slots) (length ws * length fs) q (omega (arith, slots_length slots))) l)
      (λ j l out. outside j (beyond j out) l)
    where
      one : (q k c i : ℕ) → 0 + q ≡ (k * length ws + c) * length fs + i → k < length slots → c < length ws → i < length fs → 0 + q < length store
          → get_or new (0 + q) 0 ≡ get_or (slots_cells v family fs slots) q 0
      one q k c i e h l m room =
          ap (λ (x : ℕ). get_or new x 0) e
          ∙ inside k c i h l m (omega arith)
          ∙ sym (slots_at_lem slots k c i h l m)
          ∙ ap (λ (x : ℕ). get_or (slots_cells v family fs slots) x 0) (sym e ∙ zero-add q)

      by_places : (q : ℕ) → Place (length slots) (length ws * length fs) q → 0 + q < length store → get_or new (0 + q) 0 ≡ get_or (slots_cells v family fs slots) q 0
      by_places q p room =
          let r = place_of (length ws) (length fs) p.row p.row_in in
          one q p.col r.col r.row (omega (arith, in_block p.col r.col r.row, p.is, r.is)) p.col_in r.col_in r.row_in room

      beyond : (j : ℕ) → (0 ≤ j → j < 0 + length (slots_cells v family fs slots) → ⊥) → length (slots_cells v family fs slots) ≤ j
      beyond j out =
          elim (dec_lt j (length (slots_cells v family fs slots))) [
            | yes m ↦ absurd (out (omega arith) (omega arith))
            | no m ↦ omega arith
          ]
