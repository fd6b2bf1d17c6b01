-- The float fields of a row that a public call gives have the bits of the lent cells, for each cell that is no NaN's pattern.
-- Assumes nothing.
use mathlib.Core.Path.{◌≡◌}
use mathlib.Core.Bool.{cond}
use mathlib.Core.List.{List, [], ◌∷◌, map}
use Prim.Native.Nat.{ℕ, zero, suc, ◌+◌, ◌*◌, ◌≤◌, ◌<◌}
use native.Mathlib.Nat.{pow-le-pow_right, lt_of_lt_of_le}
use native.Mathlib.Decide.{dec_lt}
use native.Mathlib.Omega.{arith}
use borrow.Author.Tests.{lt-ltb, le-ltb}
use lib.Dec.{ltb, lit<, lit≤}
use lib.ListN.{length, get_or}
use Rattle.layout.specs.Columns.{widths_of}
use Rattle.layout.specs.Inner.{Narrow}
use Rattle.layout.specs.declared.columns.Family.{Family}
use Rattle.layout.specs.declared.columns.Family.TheVariants.{Pre, Post, Item}
use Rattle.layout.proofs.Laws.{few_widths, narrow_of}
use Rattle.game.specs.Frames.{rows_of}
use Rattle.game.specs.Stores.{Lent}
use Rattle.game.specs.declared.frames.Frames.{Frames}
use Rattle.rows.specs.Rows.{pre_of, no_pre, post_of, no_post, item_of, no_item}
use Rattle.rows.proofs.Records.{first_each}
use Rattle.rows.proofs.Exact.{Exact, pre_floats, pre_columns, pre_exact, post_floats, post_columns, post_exact, item_floats, item_columns, item_exact}
use Rattle.transpose.specs.Records.{cells_at, mark_at}
use Rattle.transpose.specs.Inner.{Reachable}
use Rattle.transpose.specs.Answers.{pre_row, post_row, item_row}
use Rattle.transpose.proofs.Judged.{reachable}
use Rattle.transpose.proofs.Shown.{given_row}

-- a lent cell: that of a row of a block in the k-th column, 0 where the version lacks the column
abbrev pub lent_cell : Frames → Family → List ℕ → ℕ → ℕ → ℕ → ℕ
lent_cell f family cells block row k =
    cond (ltb k (length (widths_of family f.version))) (get_or cells ((block * length (widths_of family f.version) + k) * rows_of f family + row) 0) 0

narrow_at : (ws : List ℕ) (k : ℕ) → Narrow ws → get_or ws k 0 ≤ 4
unfolding Narrow
narrow_at [] k n = lit≤ tt
narrow_at (w ∷ ws) zero n = n.0
narrow_at (w ∷ ws) (suc k) n = narrow_at ws k n.1

module _ {f : Frames} {family : Family} {cells : List ℕ} {block row : ℕ} (h : Reachable f family cells block row) where
  cell_fits : (k : ℕ) → lent_cell f family cells block row k < 0x1_0000_0000
  cell_fits k =
      let ws = widths_of family f.version in
      elim (dec_lt k (length ws)) [
        | yes l ↦ rw (lt-ltb k (length ws) l)
            (lt_of_lt_of_le (h.store.narrow block k row h.block_in l h.row_in)
            (pow-le-pow_right {n = 256} (lit< tt) {i = get_or ws k 0} {j = 4} (narrow_at ws k (narrow_of family f.version))))
        | no r ↦ rw (le-ltb k (length ws) (omega arith)) (lit< tt)
      ]

  cell_is : (k : ℕ) → get_or (cells_at f family cells block row) k 0 ≡ lent_cell f family cells block row k
  cell_is k = first_each _ (length (widths_of family f.version)) (few_widths family f.version) k

module _ (f : Frames) (s : Lent) (slot index : ℕ) where
  pub pre_floats_lem : (pre_row f s slot index).refused ≡ 0
      → Exact (pre_floats (pre_row f s slot index).row) (map (lent_cell f Pre s.cells.pres slot index) pre_columns)
  pre_floats_lem e =
      let h = reachable f s Pre slot index e in
      let raw = cells_at f Pre s.cells.pres slot index in
      let mark = mark_at f s.presence slot index in
      rw (← given_row _ (pre_of raw f.version mark) no_pre e) (pre_exact raw (lent_cell f Pre s.cells.pres slot index) (cell_is h) (cell_fits h) f.version mark)

  pub post_floats_lem : (post_row f s slot index).refused ≡ 0
      → Exact (post_floats (post_row f s slot index).row) (map (lent_cell f Post s.cells.posts slot index) post_columns)
  post_floats_lem e =
      let h = reachable f s Post slot index e in
      let raw = cells_at f Post s.cells.posts slot index in
      let mark = mark_at f s.presence slot index in
      rw (← given_row _ (post_of raw f.version mark) no_post e) (post_exact raw (lent_cell f Post s.cells.posts slot index) (cell_is h) (cell_fits h) f.version mark)

module _ (f : Frames) (s : Lent) (index : ℕ) where
  pub item_floats_lem : (item_row f s index).refused ≡ 0
      → Exact (item_floats (item_row f s index).row) (map (lent_cell f Item s.cells.items 0 index) item_columns)
  item_floats_lem e =
      let h = reachable f s Item 0 index e in
      let raw = cells_at f Item s.cells.items 0 index in
      rw (← given_row _ (item_of raw f.version) no_item e) (item_exact raw (lent_cell f Item s.cells.items 0 index) (cell_is h) (cell_fits h) f.version)
