-- The laws of `gather`: rows that follow each other, read column by column.
-- Assumes nothing.
use mathlib.Core.Path.{◌≡◌, refl, sym, ap, ap₂, ◌∙◌}
use mathlib.Core.List.{List, [], ◌∷◌}
use Prim.Native.Nat.{ℕ, zero, suc, ◌+◌, ◌-◌, ◌%◌, ◌^◌, ◌≤◌, ◌<◌}
use native.Mathlib.Nat.{add_assoc, zero-add}
use native.Mathlib.Numerals.{add-one}
use native.Mathlib.Omega.{arith}
use lib.ListN.{length, get_or, set, take, drop, drop_of_length-le}
use lib.Seq.{drop-cons, drop-drop, set_comm}
use Rattle.wire.specs.Wire.{more, number, part}
use Rattle.record.specs.Record.{read_back}
use Rattle.record.specs.Inner.{InStore}
use Rattle.record.proofs.Laws.{length_read, read_store}
use Rattle.record.proofs.Numbers.{low_is}
use Rattle.gather.specs.Inner.{rows_at, Reach, Eight}

module _ (file places : List ℕ) (i : ℕ) where
  pub length_rows : (ws : List ℕ) (off n : ℕ) (cells : List ℕ) (stride row : ℕ) → length (rows_at ws file places i off n cells stride row) ≡ length cells
  unfolding rows_at
  length_rows ws off zero cells stride row = refl
  length_rows ws off (suc n) cells stride row =
      length_read ws (drop (get_or places (i + n) 0 + off) file) (rows_at ws file places i off n cells stride row) stride (row + n) ∙ length_rows ws off n cells stride row

  -- ---- a column and the columns after it: what a row's later columns are read into stands behind all cells of the first

  set_read : (ws bytes cells : List ℕ) (stride k j v : ℕ) → j < k → read_back ws bytes (set cells j v) stride k ≡ set (read_back ws bytes cells stride k) j v
  unfolding read_back
  set_read [] bytes cells stride k j v h = refl
  set_read (w ∷ ws) bytes cells stride k j v h =
      ap (λ (l : List ℕ). read_back ws (drop w bytes) l stride (k + stride)) (set_comm cells j k v (number (take w bytes)) (λ e. omega arith))
      ∙ set_read ws (drop w bytes) (set cells k (number (take w bytes))) stride (k + stride) j v (omega arith)

  set_rows : (ws : List ℕ) (off n : ℕ) (cells : List ℕ) (stride row j v : ℕ) → j < row → rows_at ws file places i off n (set cells j v) stride row ≡ set (rows_at ws file places i off n cells stride row) j v
  unfolding rows_at
  set_rows ws off zero cells stride row j v h = refl
  set_rows ws off (suc n) cells stride row j v h =
      let b = drop (get_or places (i + n) 0 + off) file in
      ap (λ (l : List ℕ). read_back ws b l stride (row + n)) (set_rows ws off n cells stride row j v h)
      ∙ set_read ws b (rows_at ws file places i off n cells stride row) stride (row + n) j v (omega arith)

  -- rows are their first column, and then the rows of the columns after it
  rows_column : (w : ℕ) (ws : List ℕ) (off n : ℕ) (cells : List ℕ) (stride row : ℕ) → n ≤ stride
      → rows_at (w ∷ ws) file places i off n cells stride row ≡ rows_at ws file places i (off + w) n (rows_at (w ∷ []) file places i off n cells 0 row) stride (row + stride)
  unfolding rows_at read_back
  rows_column w ws off zero cells stride row h = refl
  rows_column w ws off (suc n) cells stride row h =
      let place = get_or places (i + n) 0 in
      let b = drop (place + off) file in
      let v = number (take w b) in
      let one = rows_at (w ∷ []) file places i off n cells 0 row in
      let all = rows_at ws file places i (off + w) n one stride (row + stride) in
      let index : row + n + stride ≡ row + stride + n = omega arith in
      let there : drop w b ≡ drop (place + (off + w)) file = drop-drop w (place + off) file ∙ ap (λ (x : ℕ). drop x file) (add_assoc place off w) in
      ap (λ (l : List ℕ). read_back ws (drop w b) (set l (row + n) v) stride (row + n + stride)) (rows_column w ws off n cells stride row (omega arith))
      ∙ ap (λ (l : List ℕ). read_back ws (drop w b) l stride (row + n + stride)) (sym (set_rows ws (off + w) n one stride (row + stride) (row + n) v (omega arith)))
      ∙ ap₂ (λ (l : List ℕ) (k : ℕ). read_back ws l (rows_at ws file places i (off + w) n (set one (row + n) v) stride (row + stride)) stride k) there index

  -- one cell more of a column
  pub down_step : (w off t : ℕ) (cells now : List ℕ) (first v : ℕ) → now ≡ rows_at (w ∷ []) file places i off t cells 0 first → v ≡ number (part file (get_or places (i + t) 0 + off) w)
      → set now (first + t) v ≡ rows_at (w ∷ []) file places i off (t + 1) cells 0 first
  unfolding rows_at read_back part
  down_step w off t cells now first v e q = rw (add-one t) (ap₂ (λ (l : List ℕ) (x : ℕ). set l (first + t) x) e q)

  pub column_long : (w off t first : ℕ) (cells now : List ℕ) → now ≡ rows_at (w ∷ []) file places i off t cells 0 first → length now ≡ length cells
  column_long w off t first cells now e = ap length e ∙ length_rows (w ∷ []) off t cells 0 first

  pub down_done : (w off t first : ℕ) (cells now : List ℕ) → now ≡ rows_at (w ∷ []) file places i off t cells 0 first → t ≤ 8 → 8 ≤ t → now ≡ rows_at (w ∷ []) file places i off 8 cells 0 first
  down_done w off t first cells now e few all = let q : t ≡ 8 = omega arith in e ∙ ap (λ (n : ℕ). rows_at (w ∷ []) file places i off n cells 0 first) q

  -- a column by its width
  pub column_as : (w v off : ℕ) (cells now : List ℕ) (first : ℕ) → w ≡ v → now ≡ rows_at (v ∷ []) file places i off 8 cells 0 first → now ≡ rows_at (w ∷ []) file places i off 8 cells 0 first
  column_as w v off cells now first e q = q ∙ ap (λ (x : ℕ). rows_at (x ∷ []) file places i off 8 cells 0 first) (sym e)

  pub down_start : (w off : ℕ) (cells : List ℕ) (first : ℕ) → cells ≡ rows_at (w ∷ []) file places i off 0 cells 0 first
  unfolding rows_at
  down_start w off cells first = refl

  -- ---- a loop over the columns, at column k: one turn, and the end
  module _ (ws : List ℕ) (k w : ℕ) (h : k < length ws) (e : w ≡ get_or ws k 0) where
    pub across_step : (off : ℕ) (cells : List ℕ) (stride row : ℕ) → 8 ≤ stride
        → rows_at (drop (k + 1) ws) file places i (off + w) 8 (rows_at (w ∷ []) file places i off 8 cells 0 row) stride (row + stride) ≡ rows_at (drop k ws) file places i off 8 cells stride row
    across_step off cells stride row wide = rw (drop-cons ws k 0 h, add-one k, ← e) (sym (rows_column w (drop (suc k) ws) off 8 cells stride row wide))

    -- the last row's cells are in their store
    pub across_store : (len stride row : ℕ) → InStore (drop k ws) len stride (row + 7) → (w ≤ 4) × (row + 8 ≤ len) × (stride ≤ len) × InStore (drop (k + 1) ws) len stride (row + stride + 7)
    across_store len stride row s =
        let (narrow, inside, few, rest) = read_store ws k w h e len stride (row + 7) s in
        let index : row + 7 + stride ≡ row + stride + 7 = omega arith in
        (narrow, omega arith, few, rw index at rest)

  rows_none : (off n : ℕ) (cells : List ℕ) (stride row : ℕ) → rows_at [] file places i off n cells stride row ≡ cells
  unfolding rows_at read_back
  rows_none off zero cells stride row = refl
  rows_none off (suc n) cells stride row = rows_none off n cells stride row

  pub across_done : (ws : List ℕ) (k off n : ℕ) (cells : List ℕ) (stride row : ℕ) → length ws ≤ k → rows_at (drop k ws) file places i off n cells stride row ≡ cells
  across_done ws k off n cells stride row h = rw (drop_of_length-le ws h) (rows_none off n cells stride row)

-- the cell of w bytes that begin `off` behind a place, from the four bytes that end where it ends
pub low_at : (file : List ℕ) (place off w base : ℕ) → ((i : ℕ) → get_or file i 0 < 256) → w ≤ 4 → 4 ≤ off → place + (off + w) ≤ length file → base ≡ off + w - 4
    → number (part file (place + base) 4) % 256 ^ w ≡ number (part file (place + off) w)
low_at file place off w base bytes narrow room inside e =
    let a : place + base ≡ place + (off + w) - 4 = omega arith in
    let b : place + (off + w) - w ≡ place + off = omega arith in
    ap (λ (x : ℕ). number (part file x 4) % 256 ^ w) a ∙ low_is file (place + (off + w)) w bytes narrow (omega arith) inside ∙ ap (λ (x : ℕ). number (part file x w)) b

-- a cell of one byte is the byte
pub one_at : (file : List ℕ) (at : ℕ) → at < length file → get_or file at 0 ≡ number (part file at 1)
unfolding more part
one_at file at h = rw (drop-cons file at 0 h) (omega arith)

-- ---- eight places by themselves

module _ {places : List ℕ} {i : ℕ} {at : List ℕ} (e : Eight places i at) where
  pub eight_reach : (file : List ℕ) (n : ℕ) → Reach file places i n → Reach file at 0 n
  eight_reach file n h t l = rw (zero-add t, e.each t l) (h t l)

  pub eight_rows : (ws file : List ℕ) (off n : ℕ) (cells : List ℕ) (stride row : ℕ) → n ≤ 8 → rows_at ws file at 0 off n cells stride row ≡ rows_at ws file places i off n cells stride row
  unfolding rows_at
  eight_rows ws file off zero cells stride row h = refl
  eight_rows ws file off (suc n) cells stride row h =
      let here : get_or at (0 + n) 0 ≡ get_or places (i + n) 0 = ap (λ (k : ℕ). get_or at k 0) (zero-add n) ∙ e.each n (omega arith) in
      ap₂ (λ (p : ℕ) (l : List ℕ). read_back ws (drop (p + off) file) l stride (row + n)) here (eight_rows ws file off n cells stride row (omega arith))
