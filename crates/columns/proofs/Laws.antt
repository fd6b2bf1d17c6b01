-- The columns of rows, cell by cell; and that rows written into a store one after another are the columns.
-- Assumes nothing.
use mathlib.Core.Path.{◌≡◌, refl, sym, ap, ◌∙◌}
use mathlib.Core.List.{List, [], ◌∷◌, ◌++◌, map}
use Prim.Native.Nat.{ℕ, zero, suc, ◌+◌, ◌-◌, ◌*◌, ◌/◌, ◌%◌, ◌≤◌, ◌<◌}
use native.Mathlib.Nat.{add-zero, zero-add, zero-mul, mul-zero, suc-mul, mul-le-mul_right, mod-lt, div-add-mod'}
use native.Mathlib.Decide.{dec_lt}
use native.Mathlib.Omega.{arith}
use lib.Arith.{digits_mod, digits_lt}
use lib.ListN.{length, get_or, set, take, drop, length-append, length-map, length-set, get_or-append}
use lib.Seq.{drop-drop, get_or-append-add, get_or-set_same, get_or-set_other, ext_get_or}
use Rattle.wire.specs.Wire.{number, splice}
use Rattle.wire.proofs.Laws.{length_splice}
use Rattle.layout.specs.Columns.{sum}
use Rattle.record.specs.Record.{read_back}
use Rattle.record.proofs.Laws.{length_read}
use Rattle.patch.proofs.Positions.{splice_other}
use Rattle.columns.specs.Columns.{cell_columns}
use Rattle.columns.specs.Inner.{into, column}

-- ---- the columns of rows

pub map_at_lem : {A B : Type 0} (f : A → B) (l : List A) (i : ℕ) (d : A) (e : B) → i < length l → get_or (map f l) i e ≡ f (get_or l i d)
map_at_lem f [] i d e h = absurd (omega arith)
map_at_lem f (x ∷ l) zero d e h = refl
map_at_lem f (x ∷ l) (suc i) d e h = map_at_lem f l i d e (omega arith)

pub column_first : (w : ℕ) (ws b : List ℕ) → column (w ∷ ws) b 0 ≡ number (take w b)
unfolding column sum
column_first w ws b = refl

pub column_next : (w : ℕ) (ws b : List ℕ) (c : ℕ) → column (w ∷ ws) b (suc c) ≡ column ws (drop w b) c
unfolding column sum
column_next w ws b c = ap (λ (l : List ℕ). number (take (get_or ws c 0) l)) (sym (drop-drop (sum (take c ws)) w b))

pub columns_length : (ws : List ℕ) (rows : List (List ℕ)) → length (cell_columns ws rows) ≡ length ws * length rows
unfolding cell_columns
columns_length [] rows = sym (zero-mul (length rows))
columns_length (w ∷ ws) rows =
    let first = map (λ b. number (take w b)) rows in
    let rest = columns_length ws (map (drop w) rows) ∙ ap (λ (n : ℕ). length ws * n) (length-map rows (drop w)) in
    let n : length first ≡ length rows = length-map rows (λ b. number (take w b)) in
    let e = suc-mul (length ws) (length rows) in
    length-append first (cell_columns ws (map (drop w) rows)) ∙ omega (arith, rest, n, e)

-- column c of row i
pub columns_at : (ws : List ℕ) (rows : List (List ℕ)) (c i : ℕ) → c < length ws → i < length rows → get_or (cell_columns ws rows) (c * length rows + i) 0 ≡ column ws (get_or rows i []) c
unfolding cell_columns
columns_at [] rows c i h k = absurd (omega arith)
columns_at (w ∷ ws) rows zero i h k =
    let first = map (λ b. number (take w b)) rows in
    let n : length first ≡ length rows = length-map rows (λ b. number (take w b)) in
    rw (zero-mul (length rows), zero-add i)
    (get_or-append first (cell_columns ws (map (drop w) rows)) 0 i (omega (arith, n))
    ∙ map_at_lem (λ b. number (take w b)) rows i [] 0 k
    ∙ sym (column_first w ws (get_or rows i [])))
columns_at (w ∷ ws) rows (suc c) i h k =
    let first = map (λ b. number (take w b)) rows in
    let others = map (drop w) rows in
    let n : length first ≡ length rows = length-map rows (λ b. number (take w b)) in
    let m : length others ≡ length rows = length-map rows (drop w) in
    let e : suc c * length rows + i ≡ length first + (c * length rows + i) = let s = suc-mul c (length rows) in omega (arith, n) in
    ap (λ (q : ℕ). get_or (first ++ cell_columns ws others) q 0) (e ∙ ap (λ (l : ℕ). length first + (c * l + i)) (sym m))
    ∙ get_or-append-add first (cell_columns ws others) (c * length others + i) 0
    ∙ columns_at ws others c i (omega arith) (omega (arith, m))
    ∙ ap (λ (b : List ℕ). column ws b c) (map_at_lem (drop w) rows i [] [] k)
    ∙ sym (column_next w ws (get_or rows i []) c)

-- ---- one row in a store

further : (stride i k : ℕ) → i + stride + k * stride ≡ i + suc k * stride
further stride i k = let e = suc-mul k stride in omega arith

-- a place has one row
same_row : (s a c i j : ℕ) → a * s + i ≡ c * s + j → i < s → j < s → i ≡ j
same_row s a c i j e h k = sym (digits_mod a h) ∙ ap (λ (n : ℕ). n % s) e ∙ digits_mod c k

pub read_other : (ws b cells : List ℕ) (stride i j : ℕ) → ((c : ℕ) → c < length ws → j ≡ i + c * stride → ⊥) → get_or (read_back ws b cells stride i) j 0 ≡ get_or cells j 0
unfolding read_back
read_other [] b cells stride i j h = refl
read_other (w ∷ ws) b cells stride i j h =
    read_other ws (drop w b) (set cells i (number (take w b))) stride (i + stride) j (λ c l e. h (suc c) (omega arith) (e ∙ further stride i c))
    ∙ get_or-set_other cells i j (number (take w b)) 0 (λ e. h 0 (omega arith) (let z = zero-mul stride in omega arith))

-- inside the row
pub read_at_lem : (ws b cells : List ℕ) (stride i c : ℕ) → 0 < stride → c < length ws → i + c * stride < length cells → get_or (read_back ws b cells stride i) (i + c * stride) 0 ≡ column ws b c
unfolding read_back
read_at_lem [] b cells stride i c p h k = absurd (omega arith)
read_at_lem (w ∷ ws) b cells stride i zero p h k =
    let z = zero-mul stride in
    let e : i + 0 * stride ≡ i = omega arith in
    let x = number (take w b) in
    ap (λ (q : ℕ). get_or (read_back ws (drop w b) (set cells i x) stride (i + stride)) q 0) e
    ∙ read_other ws (drop w b) (set cells i x) stride (i + stride) i (λ c l q. absurd (omega arith))
    ∙ get_or-set_same cells i x 0 (omega arith)
    ∙ sym (column_first w ws b)
read_at_lem (w ∷ ws) b cells stride i (suc c) p h k =
    let x = number (take w b) in
    let e = further stride i c in
    let l = length-set cells i x in
    ap (λ (q : ℕ). get_or (read_back ws (drop w b) (set cells i x) stride (i + stride)) q 0) (sym e)
    ∙ read_at_lem ws (drop w b) (set cells i x) stride (i + stride) c p (omega arith) (omega arith)
    ∙ sym (column_next w ws b c)

-- and outside it: beside it, before all columns, and behind them
pub read_beside : (ws b cells : List ℕ) (stride first i c j : ℕ) → i < stride → j < stride → (j ≡ i → ⊥)
    → get_or (read_back ws b cells stride (first + i)) (first + (c * stride + j)) 0 ≡ get_or cells (first + (c * stride + j)) 0
read_beside ws b cells stride first i c j h k n =
    read_other ws b cells stride (first + i) (first + (c * stride + j)) (λ d l e. n (same_row stride c d j i (omega arith) k h))

pub read_before : (ws b cells : List ℕ) (stride i j : ℕ) → j < i → get_or (read_back ws b cells stride i) j 0 ≡ get_or cells j 0
read_before ws b cells stride i j h = read_other ws b cells stride i j (λ c l e. omega arith)

pub read_behind : (ws b cells : List ℕ) (stride first i j : ℕ) → i < stride → first + length ws * stride ≤ j → get_or (read_back ws b cells stride (first + i)) j 0 ≡ get_or cells j 0
read_behind ws b cells stride first i j h k =
    read_other ws b cells stride (first + i) j (λ c l e. let d = digits_lt {q = c} {m = length ws} l h in omega arith)

-- ---- rows into a store

pub length_into : (ws : List ℕ) (stride : ℕ) (rows : List (List ℕ)) (cells : List ℕ) (row : ℕ) → length (into ws stride rows cells row) ≡ length cells
unfolding into
length_into ws stride [] cells row = refl
length_into ws stride (b ∷ rows) cells row = length_into ws stride rows (read_back ws b cells stride row) (row + 1) ∙ length_read ws b cells stride row

-- some rows, and then the others
pub into_both : (ws : List ℕ) (stride : ℕ) (xs ys : List (List ℕ)) (cells : List ℕ) (row : ℕ)
    → into ws stride (xs ++ ys) cells row ≡ into ws stride ys (into ws stride xs cells row) (row + length xs)
unfolding into
into_both ws stride [] ys cells row = rw add-zero
into_both ws stride (x ∷ xs) ys cells row =
    let e : row + 1 + length xs ≡ row + suc (length xs) = omega arith in
    into_both ws stride xs ys (read_back ws x cells stride row) (row + 1) ∙ ap (λ (n : ℕ). into ws stride ys (into ws stride xs (read_back ws x cells stride row) (row + 1)) n) e

pub into_other : (ws : List ℕ) (stride : ℕ) (rows : List (List ℕ)) (cells : List ℕ) (row j : ℕ)
    → ((r c : ℕ) → r < length rows → c < length ws → j ≡ row + (c * stride + r) → ⊥) → get_or (into ws stride rows cells row) j 0 ≡ get_or cells j 0
unfolding into
into_other ws stride [] cells row j h = refl
into_other ws stride (b ∷ rows) cells row j h =
    into_other ws stride rows (read_back ws b cells stride row) (row + 1) j (λ r c l k e. h (suc r) c (omega arith) k (omega arith))
    ∙ read_other ws b cells stride row j (λ c k e. h 0 c (omega arith) k (omega arith))

-- column c of row r
pub into_at : (ws : List ℕ) (stride : ℕ) (rows : List (List ℕ)) (cells : List ℕ) (row r c : ℕ)
    → length rows ≤ stride → r < length rows → c < length ws → row + (c * stride + r) < length cells
    → get_or (into ws stride rows cells row) (row + (c * stride + r)) 0 ≡ column ws (get_or rows r []) c
unfolding into
into_at ws stride [] cells row r c few h k l = absurd (omega arith)
into_at ws stride (b ∷ rows) cells row zero c few h k l =
    let e : row + (c * stride + 0) ≡ row + c * stride = omega arith in
    into_other ws stride rows (read_back ws b cells stride row) (row + 1) (row + (c * stride + 0))
    (λ r d m n q. let z = same_row stride c d 0 (suc r) (omega arith) (omega arith) (omega arith) in omega arith)
    ∙ ap (λ (j : ℕ). get_or (read_back ws b cells stride row) j 0) e
    ∙ read_at_lem ws b cells stride row c (omega arith) k (omega arith)
into_at ws stride (b ∷ rows) cells row (suc r) c few h k l =
    let e : row + (c * stride + suc r) ≡ row + 1 + (c * stride + r) = omega arith in
    ap (λ (j : ℕ). get_or (into ws stride rows (read_back ws b cells stride row) (row + 1)) j 0) e
    ∙ into_at ws stride rows (read_back ws b cells stride row) (row + 1) r c (omega arith) (omega arith) k (omega (arith, length_read ws b cells stride row))

-- ---- a store that has the columns where they belong, and else is as before

pub splice_inside : (xs : List ℕ) (at : ℕ) (ys : List ℕ) (q : ℕ) → q < length ys → at + q < length xs → get_or (splice xs at ys) (at + q) 0 ≡ get_or ys q 0
unfolding splice
splice_inside xs at [] q h k = absurd (omega arith)
splice_inside xs at (y ∷ ys) zero h k =
    let e : at + 0 ≡ at = omega arith in
    ap (λ (j : ℕ). get_or (splice (set xs at y) (suc at) ys) j 0) e
    ∙ splice_other (set xs at y) (suc at) ys at (λ a b. omega arith)
    ∙ get_or-set_same xs at y 0 (omega arith)
splice_inside xs at (y ∷ ys) (suc q) h k =
    let e : at + suc q ≡ suc at + q = omega arith in
    ap (λ (j : ℕ). get_or (splice (set xs at y) (suc at) ys) j 0) e ∙ splice_inside (set xs at y) (suc at) ys q (omega arith) (omega (arith, length-set xs at y))

pub spliced : (new old : List ℕ) (at : ℕ) (ys : List ℕ) → length new ≡ length old
    → ((q : ℕ) → q < length ys → at + q < length old → get_or new (at + q) 0 ≡ get_or ys q 0)
    → ((j : ℕ) → j < length old → (at ≤ j → j < at + length ys → ⊥) → get_or new j 0 ≡ get_or old j 0)
    → new ≡ splice old at ys
spliced new old at ys same inside outside = ext_get_or 0 new (splice old at ys) (same ∙ sym (length_splice old at ys)) (λ j l. go j (omega arith))
  where
    go : (j : ℕ) → j < length old → get_or new j 0 ≡ get_or (splice old at ys) j 0
    go j l =
        elim (dec_lt j at) [
          | yes b ↦ outside j l (λ m n. omega arith) ∙ sym (splice_other old at ys j (λ m n. omega arith))
          | no b ↦ elim (dec_lt j (at + length ys)) [
            | yes c ↦
                let e : at + (j - at) ≡ j = omega arith in
                ap (λ (k : ℕ). get_or new k 0) (sym e)
                ∙ inside (j - at) (omega arith) (omega arith)
                ∙ sym (splice_inside old at ys (j - at) (omega arith) (omega arith))
                ∙ ap (λ (k : ℕ). get_or (splice old at ys) k 0) e
            | no c ↦ outside j l (λ m n. omega arith) ∙ sym (splice_other old at ys j (λ m n. omega arith))
          ]
        ]

-- a place in n columns of s rows is one column's, and one row's
pub record Place (n s q : ℕ) : Type 0 where
  pub col : ℕ
  pub row : ℕ
  pub col_in : col < n
  pub row_in : row < s
  pub is : q ≡ col * s + row

pub place_of : (n s q : ℕ) → q < n * s → Place n s q
place_of n zero q h = absurd (omega (arith, mul-zero n))
place_of n (suc s) q h =
    let e = div-add-mod' q (suc s) in
    record {
      col = q / suc s;
      row = q % suc s;
      col_in = elim (dec_lt (q / suc s) n) [
        | yes l ↦ l
        | no l ↦ let m : n * suc s ≤ q / suc s * suc s = mul-le-mul_right (suc s) (omega arith) in absurd (omega arith)
      ];
      row_in = mod-lt q (omega arith);
      is = sym e;
    }

-- by columns: what a loop that fills rows in any order has to show
pub rows_filled : (ws : List ℕ) (rows : List (List ℕ)) (new old : List ℕ) (at : ℕ) → length new ≡ length old
    → ((c i : ℕ) → c < length ws → i < length rows → at + (c * length rows + i) < length old → get_or new (at + (c * length rows + i)) 0 ≡ column ws (get_or rows i []) c)
    → ((j : ℕ) → j < length old → (at ≤ j → j < at + length ws * length rows → ⊥) → get_or new j 0 ≡ get_or old j 0)
    → new ≡ splice old at (cell_columns ws rows)
rows_filled ws rows new old at same inside outside =
    let n = columns_length ws rows in
    spliced new old at (cell_columns ws rows) same
    (λ q h k.
    let p = place_of (length ws) (length rows) q (omega arith) in
    let e : q ≡ p.col * length rows + p.row = p.is in
    ap (λ (x : ℕ). get_or new (at + x) 0) e
    ∙ inside p.col p.row p.col_in p.row_in (omega arith)
    ∙ sym (columns_at ws rows p.col p.row p.col_in p.row_in)
    ∙ ap (λ (x : ℕ). get_or (cell_columns ws rows) x 0) (sym e))
    (λ j l out. outside j l (λ a b. out a (omega arith)))

-- rows one after another, as many as a column has
pub rows_into : (ws : List ℕ) (stride : ℕ) (rows : List (List ℕ)) (store : List ℕ) (first : ℕ) → first + length ws * stride ≤ length store → length rows ≡ stride
    → into ws stride rows store first ≡ splice store first (cell_columns ws rows)
rows_into ws stride rows store first room e =
    ap (λ (s : ℕ). into ws s rows store first) (sym e)
    ∙ rows_filled ws rows (into ws (length rows) rows store first) store first (length_into ws (length rows) rows store first)
    (λ c i h k l. into_at ws (length rows) rows store first i c (omega arith) k h l)
    (λ j l out. into_other ws (length rows) rows store first j
    (λ r c h k q. let d = digits_lt {q = c} {m = length ws} k h in out (omega arith) (omega arith)))
