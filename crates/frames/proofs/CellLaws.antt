-- The laws of the cells' widths: many cells as one number, columns of one width as one run, and blocks one after another.
-- Assumes nothing.
use mathlib.Core.Path.{◌≡◌, refl, sym, ap, ◌∙◌}
use mathlib.Core.Bool.{Bool, true, false, not, ◌||◌, or_assoc, or-false}
use mathlib.Core.List.{List, [], ◌∷◌, ◌++◌, map, map-append}
use Prim.Native.Nat.{ℕ, zero, suc, ◌+◌, ◌*◌, ◌-◌, ◌%◌, ◌^◌, ◌≤◌, ◌<◌}
use native.Mathlib.Nat.{add_comm, add_assoc, zero-add, mul_assoc, mul-zero, zero-mul, suc-mul, add-mul, one-mul, mul-le-mul_right, pow-le-pow_right, lt_of_lt_of_le, sub-eq-zero_of_le, add-sub_cancel_left}
use native.Mathlib.Numerals.{add-one}
use native.Mathlib.Omega.{arith}
use borrow.Author.Tests.{le-leb, lt-leb, leb-true, leb-false, eqb-true, not-false}
use lib.Arith.{digits_lt}
use lib.Bits.{bit_or, or_lt, or_add_and, and_le_l, and_le_r}
use lib.Dec.{leb, eqb, lit<}
use lib.ListN.{length, get_or, take, drop, replicate, length-append, length-replicate, length-take, length-drop, drop_of_length-le}
use lib.Pow.{pow_pos, shl_exact}
use lib.Seq.{drop-cons, drop-drop, take-add, get_or-take, get_or-drop, length-take-le}
use Rattle.wire.specs.Wire.{part}
use Rattle.wire.proofs.Laws.{pow_8}
use Rattle.layout.specs.Columns.{widths_of}
use Rattle.layout.specs.Inner.{expand, RunsOf}
use Rattle.layout.specs.declared.columns.Family.{Family}
use Rattle.layout.specs.declared.columns.Family.TheVariants.{Pre, Post, FrameStart, Item, FrameEnd, FodPlatform, DreamlandWhispy, StadiumTransformation}
use Rattle.layout.specs.declared.listing.Runs.{Runs}
use Rattle.format.specs.declared.version.Version.{Version}
use Rattle.format.proofs.Tests.{or_none, one_append, one_passed, rest_each}
use Rattle.game.specs.Frames.{rows_of, slot_blocks}
use Rattle.game.specs.Stores.{Cells, families, cells_of}
use Rattle.format.specs.Refusal.{one_of}
use Rattle.frames.specs.Judge.{misfits, stores_misfit, over, columns_exceed, blocks_exceed, exceeds}
use Rattle.frames.specs.Inner.{Stored, run_widths, Whole}
use Rattle.game.specs.declared.frames.Frames.{Frames}

-- ---- the bits of many cells as one number
or_most : (a b : ℕ) → (a ≤ bit_or a b) × (b ≤ bit_or a b)
or_most a b = (omega (arith, or_add_and a b, and_le_r a b), omega (arith, or_add_and a b, and_le_l a b))

or_leb : (k a b : ℕ) → leb (2 ^ k) (bit_or a b) ≡ (leb (2 ^ k) a || leb (2 ^ k) b)
or_leb k a b = go (leb (2 ^ k) a) refl (leb (2 ^ k) b) refl
  where
    go : (x : Bool) → leb (2 ^ k) a ≡ x → (y : Bool) → leb (2 ^ k) b ≡ y → leb (2 ^ k) (bit_or a b) ≡ (leb (2 ^ k) a || leb (2 ^ k) b)
    go true p y q = rw p (le-leb (2 ^ k) (bit_or a b) (omega (arith, leb-true (2 ^ k) a p, or_most a b)))
    go false p true q = rw (p, q) (le-leb (2 ^ k) (bit_or a b) (omega (arith, leb-true (2 ^ k) b q, or_most a b)))
    go false p false q = rw (p, q) (lt-leb (2 ^ k) (bit_or a b) (or_lt k a b (leb-false (2 ^ k) a p) (leb-false (2 ^ k) b q)))

-- in a loop: what the cells passed have, and those from index i on
module _ (cells : List ℕ) (end : ℕ) where
  abbrev pub United : ℕ → ℕ → Bool → ℕ → Type 0
  United all i r k = (leb (2 ^ k) all || one_of (map (leb (2 ^ k)) (part cells i (end - i)))) ≡ r

  pub unite_start : (at k : ℕ) → United 0 at (one_of (map (leb (2 ^ k)) (part cells at (end - at)))) k
  unite_start at k = rw (lt-leb (2 ^ k) 0 (pow_pos k))

  pub unite_step : (all i : ℕ) (r : Bool) (k : ℕ) → i < end → end ≤ length cells → United all i r k → United (bit_or all (get_or cells i 0)) (i + 1) r k
  unfolding part one_of
  unite_step all i r k h l u =
      let inside : i < length cells = omega arith in
      let left : end - i ≡ suc (end - suc i) = omega arith in
      rw (or_leb, or_assoc, add-one) (rw (drop-cons cells i 0 inside, left) at u)

  pub unite_done : (all i : ℕ) (r : Bool) (k : ℕ) → end ≤ i → United all i r k → leb (2 ^ k) all ≡ r
  unfolding part one_of
  unite_done all i r k h u = sym (or-false (leb (2 ^ k) all)) ∙ rw (sub-eq-zero_of_le h) at u

-- ---- a width's limit, as the code has it
pub limit_over : (w bits at n : ℕ) (cells : List ℕ) → w < 4 → ((k : ℕ) → leb (2 ^ k) bits ≡ one_of (map (leb (2 ^ k)) (part cells at n)))
    → leb (1 * 2 ^ (8 * w) % 4294967296) bits ≡ one_of (map (over w) (part cells at n))
limit_over w bits at n cells h e =
    let limit : 1 * 2 ^ (8 * w) % 4294967296 ≡ 2 ^ (8 * w) = shl_exact 1 (8 * w) 32 (lit< tt) (omega arith) ∙ one-mul (2 ^ (8 * w)) in
    rw limit (e (8 * w) ∙ ap (λ (m : ℕ). one_of (map (leb m) (part cells at n))) (pow_8 w))

none_over : (w : ℕ) (cells : List ℕ) → ((i : ℕ) → i < length cells → get_or cells i 0 < 256 ^ w) → false ≡ one_of (map (over w) cells)
unfolding one_of
none_over w [] h = refl
none_over w (x ∷ xs) h = rw (lt-leb (256 ^ w) x (h 0 (omega arith))) (none_over w xs (λ i l. h (suc i) (omega arith)))

-- four bytes hold every cell
pub wide_enough : (w at n : ℕ) (cells : List ℕ) → 4 ≤ w → ((i : ℕ) → get_or cells i 0 < 2 ^ 32) → false ≡ one_of (map (over w) (part cells at n))
unfolding part
wide_enough w at n cells h e =
    none_over w (take n (drop at cells))
    (λ i l.
    let inside : i < n = omega (arith, length-take n (drop at cells)) in
    let cell : get_or (take n (drop at cells)) i 0 ≡ get_or cells (at + i) 0 = get_or-take n (drop at cells) i 0 inside ∙ get_or-drop at cells i 0 in
    rw cell (lt_of_lt_of_le (e (at + i)) (pow-le-pow_right {n = 256} (lit< tt) {i = 4} {j = w} h)))

-- ---- columns of one width, one after another
columns_run : (n w : ℕ) (ws : List ℕ) (rows : ℕ) (cells : List ℕ)
    → columns_exceed (replicate n w ++ ws) rows cells ≡ (one_of (map (over w) (take (n * rows) cells)) || columns_exceed ws rows (drop (n * rows) cells))
unfolding columns_exceed one_of
columns_run zero w ws rows cells = rw zero-mul
columns_run (suc n) w ws rows cells =
    rw (columns_run n w ws rows (drop rows cells), suc-mul, add_comm (n * rows) rows, take-add, map-append, one_append, or_assoc, drop-drop)

-- the widths of the runs from the k-th on
unfoldable pub runs_from : Runs → ℕ → List ℕ
runs_from p k = expand (drop k (take p.count p.widths)) (drop k (take p.count p.lengths))

runs_step : (p : Runs) → Whole p → (k : ℕ) → k < p.count → runs_from p k ≡ replicate (get_or p.lengths k 0) (get_or p.widths k 0) ++ runs_from p (k + 1)
unfolding runs_from expand
runs_step p e k h =
    let wide : length (take p.count p.widths) ≡ p.count = length-take-le p.count p.widths (omega (arith, e.widths, e.few)) in
    let long : length (take p.count p.lengths) ≡ p.count = length-take-le p.count p.lengths (omega (arith, e.lengths, e.few)) in
    rw
    (drop-cons (take p.count p.widths) k 0 (omega arith), drop-cons (take p.count p.lengths) k 0 (omega arith), get_or-take p.count p.widths k 0 h, get_or-take p.count p.lengths k 0 h, add-one)

pub runs_done : (p : Runs) → Whole p → (k : ℕ) → p.count ≤ k → runs_from p k ≡ []
unfolding runs_from expand
runs_done p e k h =
    rw (drop_of_length-le (take p.count p.widths) {i = k} (omega (arith, length-take p.count p.widths)))

-- in a loop over the runs: the answer r is that of the runs from the k-th on, whose cells begin at index from
module _ (p : Runs) (e : Whole p) (k : ℕ) (h : k < p.count) (rows : ℕ) (cells : List ℕ) where
  abbrev n : ℕ
  n = get_or p.lengths k 0

  abbrev w : ℕ
  w = get_or p.widths k 0

  pub runs_cells : length (runs_from p k) * rows ≡ n * rows + length (runs_from p (k + 1)) * rows
  runs_cells = rw (runs_step p e k h, length-append, length-replicate, add-mul)

  pub runs_here : (r : Bool) (from : ℕ) → one_of (map (over w) (part cells from (from + n * rows - from))) ≡ true
      → r ≡ columns_exceed (runs_from p k) rows (drop from cells) → true ≡ r
  unfolding part
  runs_here r from t q =
      sym (q ∙ rw (runs_step p e k h, columns_run) (rw (rw add-sub_cancel_left at t)))

  pub runs_skip : (r : Bool) (from : ℕ) → one_of (map (over w) (part cells from (from + n * rows - from))) ≡ false
      → r ≡ columns_exceed (runs_from p k) rows (drop from cells) → r ≡ columns_exceed (runs_from p (k + 1)) rows (drop (from + n * rows) cells)
  unfolding part
  runs_skip r from t q =
      q ∙ rw (runs_step p e k h, columns_run) (rw (rw add-sub_cancel_left at t) (rw drop-drop))

pub columns_none : (r : Bool) (ws : List ℕ) (rows : ℕ) (cells : List ℕ) → ws ≡ [] → r ≡ columns_exceed ws rows cells → false ≡ r
unfolding columns_exceed
columns_none r ws rows cells e q = sym (q ∙ rw e)

-- ---- blocks, one after another: the answer r is that of the blocks from the k-th on, which begin at index at
module _ (ws : List ℕ) (columns : ℕ) (e : columns ≡ length ws) (rows : ℕ) (cells : List ℕ) (blocks k : ℕ) where
  pub blocks_cells : k < blocks → (blocks - k) * (length ws * rows) ≡ columns * rows + (blocks - (k + 1)) * (length ws * rows)
  blocks_cells h =
      let left : blocks - k ≡ suc (blocks - (k + 1)) = omega arith in
      rw (left, suc-mul, add_comm ((blocks - (k + 1)) * (length ws * rows)) (length ws * rows), e)

  pub blocks_here : k < blocks → (r : Bool) (at : ℕ) → columns_exceed ws rows (drop at cells) ≡ true → r ≡ blocks_exceed (blocks - k) ws rows (drop at cells) → true ≡ r
  unfolding blocks_exceed
  blocks_here h r at t q =
      let left : blocks - k ≡ suc (blocks - (k + 1)) = omega arith in
      sym (rw (left, t) at q)

  pub blocks_skip : k < blocks → (r : Bool) (at : ℕ) → columns_exceed ws rows (drop at cells) ≡ false → r ≡ blocks_exceed (blocks - k) ws rows (drop at cells)
      → r ≡ blocks_exceed (blocks - (k + 1)) ws rows (drop (at + columns * rows) cells)
  unfolding blocks_exceed
  blocks_skip h r at t q =
      let left : blocks - k ≡ suc (blocks - (k + 1)) = omega arith in
      rw (left, t, drop-drop, ← e) at q

  pub blocks_none : blocks ≤ k → (r : Bool) (at : ℕ) → r ≡ blocks_exceed (blocks - k) ws rows (drop at cells) → false ≡ r
  unfolding blocks_exceed
  blocks_none h r at q = sym (rw (sub-eq-zero_of_le h) at q)

-- ---- a family's store
pub whole_runs : (family : Family) (v : Version) (p : Runs) → RunsOf family v p → Whole p
whole_runs family v p e = record {
  columns = e.columns ∙ ap length (sym e.each);
  few = e.few;
  widths = e.widths_room;
  lengths = e.lengths_room;
}

-- columns without rows have no cell
columns_rowless : (ws cells : List ℕ) → columns_exceed ws 0 cells ≡ false
unfolding columns_exceed one_of
columns_rowless [] cells = refl
columns_rowless (w ∷ ws) cells = columns_rowless ws (drop 0 cells)

blocks_rowless : (n : ℕ) (ws cells : List ℕ) → blocks_exceed n ws 0 cells ≡ false
unfolding blocks_exceed
blocks_rowless zero ws cells = refl
blocks_rowless (suc n) ws cells = rw (columns_rowless ws cells) (blocks_rowless n ws (drop (length ws * 0) cells))

module _ (f : Frames) (family : Family) (store : List ℕ) where
  -- as the code finds it, with the family's own numbers
  pub misfits_as : (blocks columns rows : ℕ) → blocks ≡ slot_blocks f family → columns ≡ length (widths_of family f.version) → rows ≡ rows_of f family
      → not (eqb (length store) (blocks * (columns * rows))) ≡ misfits f family store
  unfolding misfits
  misfits_as blocks columns rows b c r = rw (b, c, r)

  pub fits_as : misfits f family store ≡ false → length store ≡ slot_blocks f family * (length (widths_of family f.version) * rows_of f family)
  unfolding misfits
  fits_as e = eqb-true _ _ (not-false _ e)

  pub fits_with : misfits f family store ≡ false → (blocks rows : ℕ) (p : Runs) → blocks ≡ slot_blocks f family → RunsOf family f.version p → rows ≡ rows_of f family
      → blocks * (length (run_widths p) * rows) ≤ length store
  fits_with e blocks rows p b w r = rw (b, w.each, r) (omega (arith, fits_as e))

  pub exceeds_as : (t : Bool) (blocks rows : ℕ) (p : Runs) → blocks ≡ slot_blocks f family → RunsOf family f.version p → rows ≡ rows_of f family
      → t ≡ blocks_exceed blocks (run_widths p) rows store → t ≡ exceeds f family store
  unfolding exceeds
  exceeds_as t blocks rows p b w r q = rw (b, w.each, r) at q

  -- without rows
  module _ (rows : ℕ) (r : rows ≡ rows_of f family) (z : rows ≡ 0) where
    pub misfits_none : not (eqb (length store) 0) ≡ misfits f family store
    misfits_none =
        let n = slot_blocks f family in
        let k = length (widths_of family f.version) in
        let none : n * (k * rows) ≡ 0 = ap (λ (m : ℕ). n * (k * m)) z ∙ ap (λ (m : ℕ). n * m) (mul-zero k) ∙ mul-zero n in
        ap (λ (m : ℕ). not (eqb (length store) m)) (sym none) ∙ misfits_as n k rows refl refl r

    pub exceeds_none : false ≡ exceeds f family store
    unfolding exceeds
    exceeds_none =
        sym (ap (λ (m : ℕ). blocks_exceed (slot_blocks f family) (widths_of family f.version) m store) (sym r ∙ z)
        ∙ blocks_rowless (slot_blocks f family) (widths_of family f.version) store)

-- ---- all families
pub family_none : (p : Family → Bool) → one_of (map p families) ≡ false → (family : Family) → p family ≡ false
family_none p e FrameStart = rest_each Pre p families e 0 (lit< tt)
family_none p e Pre = rest_each Pre p families e 1 (lit< tt)
family_none p e Post = rest_each Pre p families e 2 (lit< tt)
family_none p e FrameEnd = rest_each Pre p families e 3 (lit< tt)
family_none p e Item = rest_each Pre p families e 4 (lit< tt)
family_none p e FodPlatform = rest_each Pre p families e 5 (lit< tt)
family_none p e DreamlandWhispy = rest_each Pre p families e 6 (lit< tt)
family_none p e StadiumTransformation = rest_each Pre p families e 7 (lit< tt)

module _ (f : Frames) (c : Cells) (e : stores_misfit f c ≡ false) where
  pub ids_fit : length c.ids ≡ f.counts.frames
  unfolding stores_misfit
  ids_fit = eqb-true _ _ (not-false _ (one_passed _ _ e).0)

  pub stores_fit : (family : Family) → misfits f family (cells_of c family) ≡ false
  unfolding stores_misfit
  stores_fit = family_none (λ family. misfits f family (cells_of c family)) (one_passed _ _ e).1

-- ---- where no cell exceeds its width
columns_narrow : (ws : List ℕ) (rows : ℕ) (cells : List ℕ) → columns_exceed ws rows cells ≡ false → length ws * rows ≤ length cells
    → (column row : ℕ) → column < length ws → row < rows → get_or cells (column * rows + row) 0 < 256 ^ get_or ws column 0
unfolding columns_exceed
columns_narrow [] rows cells e s column row h l = absurd (omega arith)
columns_narrow (w ∷ ws) rows cells e s zero row h l =
    let (this, rest) = or_none (one_of (map (over w) (take rows cells))) (columns_exceed ws rows (drop rows cells)) e in
    let size = suc-mul (length ws) rows in
    let inside : row < length (take rows cells) = omega (arith, length-take rows cells) in
    let small = leb-false (256 ^ w) (get_or (take rows cells) row 0) (rest_each 0 (over w) (take rows cells) this row inside) in
    rw (zero-mul, zero-add) (rw (get_or-take rows cells row 0 l) at small)
columns_narrow (w ∷ ws) rows cells e s (suc column) row h l =
    let (this, rest) = or_none (one_of (map (over w) (take rows cells))) (columns_exceed ws rows (drop rows cells)) e in
    let size = suc-mul (length ws) rows in
    let enough : length ws * rows ≤ length (drop rows cells) = simp length-drop (omega arith) in
    let small = columns_narrow ws rows (drop rows cells) rest enough column row (omega arith) l in
    let place : rows + (column * rows + row) ≡ suc column * rows + row = rw suc-mul (omega arith) in
    rw (← place) (rw (get_or-drop rows cells (column * rows + row) 0) at small)

blocks_narrow : (blocks : ℕ) (ws : List ℕ) (rows : ℕ) (cells : List ℕ) → blocks_exceed blocks ws rows cells ≡ false → blocks * (length ws * rows) ≤ length cells
    → (block column row : ℕ) → block < blocks → column < length ws → row < rows → get_or cells (block * (length ws * rows) + (column * rows + row)) 0 < 256 ^ get_or ws column 0
unfolding blocks_exceed
blocks_narrow zero ws rows cells e s block column row b h l = absurd (omega arith)
blocks_narrow (suc n) ws rows cells e s zero column row b h l =
    let (this, rest) = or_none (columns_exceed ws rows cells) (blocks_exceed n ws rows (drop (length ws * rows) cells)) e in
    let size = suc-mul n (length ws * rows) in
    rw (zero-mul, zero-add) (columns_narrow ws rows cells this (omega arith) column row h l)
blocks_narrow (suc n) ws rows cells e s (suc block) column row b h l =
    let (this, rest) = or_none (columns_exceed ws rows cells) (blocks_exceed n ws rows (drop (length ws * rows) cells)) e in
    let size = suc-mul n (length ws * rows) in
    let enough : n * (length ws * rows) ≤ length (drop (length ws * rows) cells) = simp length-drop (omega arith) in
    let small = blocks_narrow n ws rows (drop (length ws * rows) cells) rest enough block column row (omega arith) h l in
    let place : length ws * rows + (block * (length ws * rows) + (column * rows + row)) ≡ suc block * (length ws * rows) + (column * rows + row) = rw suc-mul (omega arith) in
    rw (← place) (rw (get_or-drop (length ws * rows) cells (block * (length ws * rows) + (column * rows + row)) 0) at small)

-- the place of a cell, by its block, column and row
pub cell_place : (block columns column rows row : ℕ) → (block * columns + column) * rows + row ≡ block * (columns * rows) + (column * rows + row)
cell_place block columns column rows row = rw (add-mul, mul_assoc, add_assoc)

pub stored : (f : Frames) (family : Family) (cells : List ℕ) → misfits f family cells ≡ false → exceeds f family cells ≡ false → Stored f family cells
unfolding exceeds
stored f family cells m e =
    let size = fits_as f family cells m in
    record {
      size = size;
      narrow = λ block column row b h l.
          rw (cell_place block (length (widths_of family f.version)) column (rows_of f family) row)
          (blocks_narrow (slot_blocks f family) (widths_of family f.version) (rows_of f family) cells e (omega arith) block column row b h l);
    }

-- ---- where a store's cells stand, for whoever reads them
module _ (f : Frames) (family : Family) (cells : List ℕ) (s : Stored f family cells) where
  abbrev columns : ℕ
  columns = length (widths_of family f.version)

  abbrev rows : ℕ
  rows = rows_of f family

  pub cell_inside : (block column row : ℕ) → block < slot_blocks f family → column < columns → row < rows → (block * columns + column) * rows + row < length cells
  cell_inside block column row b h l =
      rw (cell_place block columns column rows row, s.size) (digits_lt b (digits_lt h l))

  -- a block is a store of one block
  pub block_inside : (block : ℕ) → block < slot_blocks f family → block * (columns * rows) + columns * rows ≤ length cells
  block_inside block b = rw (s.size, ← suc-mul) (mul-le-mul_right (columns * rows) b)

  pub block_size : (block : ℕ) → block < slot_blocks f family → length (part cells (block * (columns * rows)) (columns * rows)) ≡ columns * rows
  unfolding part
  block_size block b = length-take-le (columns * rows) (drop (block * (columns * rows)) cells) (simp length-drop (omega (arith, block_inside block b)))

  pub block_cell : (block column row : ℕ) → column < columns → row < rows
      → get_or (part cells (block * (columns * rows)) (columns * rows)) (column * rows + row) 0 ≡ get_or cells ((block * columns + column) * rows + row) 0
  unfolding part
  block_cell block column row h l =
      get_or-take (columns * rows) (drop (block * (columns * rows)) cells) (column * rows + row) 0 (digits_lt h l)
      ∙ get_or-drop (block * (columns * rows)) cells (column * rows + row) 0
      ∙ ap (λ (i : ℕ). get_or cells i 0) (sym (cell_place block columns column rows row))

  -- a store of one block
  pub single_size : slot_blocks f family ≡ 1 → length cells ≡ columns * rows
  single_size e = s.size ∙ rw (e, one-mul)

  pub single_narrow : slot_blocks f family ≡ 1 → (column row : ℕ) → column < columns → row < rows → get_or cells (column * rows + row) 0 < 256 ^ get_or (widths_of family f.version) column 0
  single_narrow e column row h l = rw (zero-mul, zero-add) at (s.narrow 0 column row (omega arith) h l)
