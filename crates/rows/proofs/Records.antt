-- The laws of records: cells are fetched one column at a time, and are within their columns' widths.
-- Assumes nothing.
use mathlib.Core.Path.{◌≡◌, sym, ap, ◌∙◌}
use mathlib.Core.Bool.{cond}
use mathlib.Core.List.{List, map}
use Prim.Native.Nat.{ℕ, zero, suc, ◌+◌, ◌*◌, ◌%◌, ◌^◌, ◌≤◌, ◌<◌}
use native.Mathlib.Nat.{mod-eq_of_lt, mul-le-mul, le_refl, pow-suc}
use native.Mathlib.Omega.{arith}
use native.Mathlib.Decide.{dec_lt}
use borrow.Author.Tests.{lt-ltb, le-ltb}
use mir.Facts.{to_z-of_z}
use mir.Syntax.{w8, w32}
use mir.Val.{to_z, of_z, SFits}
use lib.IntN.{ℤ}
use lib.Arith.{digits_lt}
use lib.Dec.{ltb}
use lib.ListN.{length, get_or, set, replicate, length-set, length-replicate, get_or-replicate, get_or-eq_default}
use lib.Seq.{get_or-take}
use Rattle.wire.specs.Wire.{tabulate}
use Rattle.wire.proofs.Laws.{tabulate_length, tabulate_at, tabulated, stored}
use Rattle.format.specs.declared.version.Version.{Version}
use Rattle.layout.specs.Columns.{columns_of, widths_of}
use Rattle.layout.specs.declared.columns.Column.{Column}
use Rattle.layout.specs.declared.columns.Family.{Family}
use Rattle.layout.proofs.Laws.{few_widths}
use Rattle.layout.proofs.Prefix.{prefix_of}
use Rattle.rows.specs.Cells.{first_cells}
use Rattle.rows.specs.Inner.{width_at, Within}

-- a field that holds a signed number has its bits, of which the number is read back: of one byte, and of a whole cell
pub byte_field : {z : ℤ} (raw : List ℕ) (k : ℕ) → SFits w8 z → z ≡ to_z w8 (get_or raw k 0 % 256) → get_or raw k 0 < 256 → to_z w8 (of_z w8 z) ≡ to_z w8 (get_or raw k 0)
byte_field {z} raw k f e h = to_z-of_z {w = w8} {z = z} f ∙ e ∙ ap (to_z w8) (mod-eq_of_lt h)

pub cell_field : {z : ℤ} (n : ℕ) → SFits w32 z → z ≡ to_z w32 n → to_z w32 (of_z w32 z) ≡ to_z w32 n
cell_field {z} n f e = to_z-of_z {w = w32} {z = z} f ∙ e

-- the place of a cell is in the store
pub cell_below : (block columns k rows row size : ℕ) → k < columns → row < rows → (block + 1) * columns * rows ≤ size → (block * columns + k) * rows + row < size
cell_below block columns k rows row size h l e =
    let column : block * columns + k < (block + 1) * columns = digits_lt (omega arith) h in
    let cell : (block * columns + k) * rows + row < (block + 1) * columns * rows = digits_lt column l in
    omega arith

-- and so are its parts
pub factor_below : (x rows row size : ℕ) → row < rows → x * rows + row < size → x < size
factor_below x rows row size h l =
    let one : x * 1 ≤ x * rows = mul-le-mul (le_refl x) (omega arith) in
    omega arith

pub block_below : (block columns rows row size : ℕ) → row < rows → (block + 1) * columns * rows ≤ size → block * columns ≤ size
block_below block columns rows row size h e =
    let next : block * columns ≤ (block + 1) * columns = mul-le-mul (omega arith) (le_refl columns) in
    let one : (block + 1) * columns * 1 ≤ (block + 1) * columns * rows = mul-le-mul (le_refl ((block + 1) * columns)) (omega arith) in
    omega arith

-- a store that has the block of so many columns has it for an equal number
pub counted_reach : (n m block rows size : ℕ) → n ≡ m → (block + 1) * m * rows ≤ size → (block + 1) * n * rows ≤ size
counted_reach n m block rows size e h = rw e h

module _ (cell : ℕ → ℕ) where
  abbrev at : ℕ → ℕ → ℕ
  at n k = cond (ltb k n) (cell k) 0

  at_in : (n k : ℕ) → k < n → at n k ≡ cell k
  at_in n k h = rw (lt-ltb k n h)

  at_out : (n k : ℕ) → n ≤ k → at n k ≡ 0
  at_out n k h = rw (le-ltb k n h)

  pub first_length : (n : ℕ) → length (first_cells cell n) ≡ 32
  unfolding first_cells
  first_length n = tabulate_length 32 (at n)

  pub first_at_lem : (n k : ℕ) → k < 32 → get_or (first_cells cell n) k 0 ≡ at n k
  unfolding first_cells
  first_at_lem n k h = tabulate_at 0 32 (at n) k h

  pub first_in : (n k : ℕ) → k < n → n ≤ 32 → get_or (first_cells cell n) k 0 ≡ cell k
  first_in n k h l = first_at_lem n k (omega arith) ∙ at_in n k h

  pub first_out : (n k : ℕ) → n ≤ k → get_or (first_cells cell n) k 0 ≡ 0
  first_out n k h =
      elim (dec_lt k 32) [
        | yes l ↦ first_at_lem n k l ∙ at_out n k h
        | no far ↦ get_or-eq_default (first_cells cell n) 0 {n = k} (omega (arith, first_length n))
      ]

  -- so each cell of a record, in whatever column
  pub first_each : (n : ℕ) → n ≤ 32 → (k : ℕ) → get_or (first_cells cell n) k 0 ≡ at n k
  first_each n l k =
      elim (dec_lt k 32) [
        | yes h ↦ first_at_lem n k h
        | no far ↦ first_out n k (omega arith) ∙ sym (at_out n k (omega arith))
      ]

  -- no cell yet, and one more
  pub first_none : replicate 32 0 ≡ first_cells cell 0
  unfolding first_cells
  first_none =
      tabulated 0 (replicate 32 0) 32 (at 0) (length-replicate {A = ℕ} 32 0) (λ k h. get_or-replicate 32 k 0 0 h ∙ sym (at_out 0 k (omega arith)))

  same : (n j : ℕ) → (j ≡ n → ⊥) → at n j ≡ at (n + 1) j
  same n j ne =
      elim (dec_lt j n) [
        | yes l ↦ at_in n j l ∙ sym (at_in (n + 1) j (omega arith))
        | no r ↦ at_out n j (omega arith) ∙ sym (at_out (n + 1) j (omega arith))
      ]

  pub first_more : (n : ℕ) → n < 32 → set (first_cells cell n) n (cell n) ≡ first_cells cell (n + 1)
  unfolding first_cells
  first_more n h =
      tabulated 0 (set (tabulate 32 (at n)) n (cell n)) 32 (at (n + 1)) (simp (length-set, tabulate_length))
      (λ j l.
      stored 0 (tabulate 32 (at n)) n (cell n) (at (n + 1)) j (omega (arith, tabulate_length 32 (at n))) (sym (at_in (n + 1) n (omega arith)))
      (λ ne. tabulate_at 0 32 (at n) j l ∙ same n j ne))

pow_positive : (k : ℕ) → 0 < 256 ^ k
pow_positive zero = omega arith
pow_positive (suc k) = rw pow-suc (omega (arith, pow_positive k))

-- a version's columns are the first of its family's, so their widths are its first widths
pub width_first : (family : Family) (v : Version) (k : ℕ) → k < length (widths_of family v) → get_or (widths_of family v) k 0 ≡ width_at family k
unfolding width_at
width_first family v k h =
    ap (λ (ws : List ℕ). get_or ws k 0) (prefix_of family v)
    ∙ get_or-take (length (widths_of family v)) (map (λ (c : Column). c.width) (columns_of family)) k 0 h

-- so a version's record is within its family's widths: where a cell is fetched by the version's, and elsewhere by being 0
pub within_record : (family : Family) (v : Version) (cell : ℕ → ℕ) → ((k : ℕ) → k < length (widths_of family v) → cell k < 256 ^ get_or (widths_of family v) k 0)
    → Within family (first_cells cell (length (widths_of family v)))
within_record family v cell h k =
    let n = length (widths_of family v) in
    let few = few_widths family v in
    let positive : 0 < 256 ^ width_at family k = pow_positive (width_at family k) in
    elim (dec_lt k n) [
      | yes l ↦ rw (first_in cell n k l few, ← width_first family v k l) (h k l)
      | no r ↦ rw (first_out cell n k (omega arith)) positive
    ]

-- and so is a record of zeros
pub within_none : (family : Family) → Within family (replicate 32 0)
within_none family k =
    let positive : 0 < 256 ^ width_at family k = pow_positive (width_at family k) in
    elim (dec_lt k 32) [
      | yes l ↦ rw (get_or-replicate {A = ℕ} 32 k 0 0 l) positive
      | no far ↦ rw (get_or-eq_default (replicate {A = ℕ} 32 0) 0 {n = k} (omega arith)) positive
    ]
