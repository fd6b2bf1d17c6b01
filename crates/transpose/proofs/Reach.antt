-- The cells of a record that is in a store that was judged.
-- Assumes nothing.
use mathlib.Core.Path.{◌≡◌, ◌∙◌}
use mathlib.Core.Bool.{Bool, true, false}
use mathlib.Core.List.{List}
use Prim.Native.Nat.{ℕ, ◌+◌, ◌*◌, ◌≤◌, ◌<◌}
use native.Mathlib.Nat.{mul_assoc, mul-le-mul_right}
use native.Mathlib.Omega.{arith}
use lib.ListN.{length, get_or}
use Rattle.layout.specs.Columns.{widths_of}
use Rattle.layout.specs.declared.columns.Family.{Family}
use Rattle.game.specs.Frames.{rows_of, slot_blocks}
use Rattle.game.specs.declared.frames.Frames.{Frames}
use Rattle.rows.specs.Cells.{row_cells}
use Rattle.rows.specs.Rows.{no_cells}
use Rattle.rows.proofs.Records.{within_record, within_none}
use Rattle.transpose.specs.Records.{cells_at}
use Rattle.transpose.specs.Inner.{Reachable, Fetched}
use Rattle.transpose.proofs.Shown.{shown_row, shown_none}

module _ {f : Frames} {family : Family} {cells : List ℕ} {block row : ℕ} (h : Reachable f family cells block row) (rows : ℕ) (r : rows ≡ rows_of f family) where
  -- a store has all of the block
  pub reach : (row < rows) × ((block + 1) * length (widths_of family f.version) * rows ≤ length cells)
  reach =
      let next : block + 1 ≤ slot_blocks f family = omega (arith, h.block_in) in (
        omega (arith, h.row_in),
        rw (r, mul_assoc, h.store.size) (mul-le-mul_right (length (widths_of family f.version) * rows_of f family) next),
      )

  pub fetched : {raw : List ℕ} (shown : Bool) → shown ≡ true → raw ≡ row_cells family f.version cells rows block row → Fetched f family cells block row shown raw
  fetched {raw} shown z e =
      let is : raw ≡ cells_at f family cells block row = rw r at e in
      record {
        is = is ∙ shown_row shown _ no_cells z;
        within = rw is
            (within_record family f.version
            (λ (k : ℕ). get_or cells ((block * length (widths_of family f.version) + k) * rows_of f family + row) 0)
            (λ k l. h.store.narrow block k row h.block_in l h.row_in));
      }

-- and where it is not shown
pub fetched_none : (f : Frames) (family : Family) (cells : List ℕ) (block row : ℕ) (shown : Bool) → shown ≡ false → Fetched f family cells block row shown no_cells
fetched_none f family cells block row shown e = record { is = shown_none shown _ no_cells e; within = within_none family }
