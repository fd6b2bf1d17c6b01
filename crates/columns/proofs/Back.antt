-- Rows and columns back and forth: a row's cells as bytes are the row, and cells read from bytes are the cells; and cells fit their widths.
-- Assumes nothing.
use mathlib.Core.Path.{◌≡◌, refl, sym, ap, ap₂, ◌∙◌}
use mathlib.Core.List.{List, [], ◌∷◌, ◌++◌}
use Prim.Native.Nat.{ℕ, zero, suc, ◌+◌, ◌*◌, ◌^◌, ◌≤◌, ◌<◌}
use native.Mathlib.Nat.{zero-mul, add_comm, suc-mul}
use native.Mathlib.Decide.{dec_lt}
use native.Mathlib.Omega.{arith}
use lib.Arith.{digits_lt}
use lib.Dec.{lit<}
use lib.ListN.{length, get_or, take, drop, length-take, length-drop, take-append-drop, get_or-append, get_or-eq_default}
use lib.Seq.{length-take-le, take_at, drop_at, get_or-take, get_or-drop, get_or-append-add, ext_get_or}
use Rattle.wire.specs.Wire.{be, number, part}
use Rattle.wire.proofs.Laws.{length_be, number_be}
use Rattle.format.specs.declared.version.Version.{Version}
use Rattle.layout.specs.Columns.{sum, widths_of}
use Rattle.layout.specs.declared.columns.Family.{Family}
use Rattle.game.specs.Frames.{Slot}
use Rattle.record.specs.Record.{cells_bytes}
use Rattle.record.specs.Inner.{Fit}
use Rattle.record.proofs.Numbers.{Bytes, bytes_take, bytes_drop, be_number, number_small}
use Rattle.grammar.specs.Productions.{Frame}
use Rattle.grammar.specs.WellFormed.{Each}
use Rattle.grammar.proofs.Each.{each_at}
use Rattle.grammar.proofs.Exactly.{Byte}
use Rattle.columns.specs.Columns.{cell_columns, slots_cells}
use Rattle.columns.specs.Inner.{column}
use Rattle.columns.proofs.Laws.{columns_length, columns_at, column_first, column_next, Place, place_of}
use Rattle.columns.proofs.Slots.{row_at, in_block, slots_at_lem}

-- ---- bytes

pub bytes_of_lem : (b : List ℕ) → Each Byte b → Bytes b
bytes_of_lem b h i = elim (dec_lt i (length b)) [
  | yes l ↦ each_at Byte 0 b h i l
  | no r ↦ rw (get_or-eq_default b 0 {n = i} (omega arith)) (lit< tt)
]

-- ---- cells fit their widths

pub column_narrow : (ws b : List ℕ) (c : ℕ) → Bytes b → column ws b c < 256 ^ get_or ws c 0
unfolding column
column_narrow ws b c h =
    let w = get_or ws c 0 in
    let rest = drop (sum (take c ws)) b in
    number_small w (take w rest) (rw length-take (omega arith)) (bytes_take w rest (bytes_drop (sum (take c ws)) b h))

pub narrow : (ws : List ℕ) (rows : List (List ℕ)) (c i : ℕ) → c < length ws → i < length rows → Bytes (get_or rows i []) → get_or (cell_columns ws rows) (c * length rows + i) 0 < 256 ^ get_or ws c 0
narrow ws rows c i h k l = rw (columns_at ws rows c i h k) (column_narrow ws (get_or rows i []) c l)

-- ---- a row's cells as bytes are the row

-- wherever the cells stand
pub row_of_cells : (ws b cells : List ℕ) (stride first : ℕ) → length b ≡ sum ws → Bytes b
    → ((c : ℕ) → c < length ws → get_or cells (first + c * stride) 0 ≡ column ws b c) → cells_bytes ws cells stride first ≡ b
unfolding cells_bytes sum
row_of_cells [] [] cells stride first e h at = refl
row_of_cells [] (x ∷ b) cells stride first e h at = absurd (omega arith)
row_of_cells (w ∷ ws) b cells stride first e h at =
    let z = zero-mul stride in
    let place : first ≡ first + 0 * stride = omega arith in
    let value : get_or cells first 0 ≡ number (take w b) = ap (λ (j : ℕ). get_or cells j 0) place ∙ at 0 (omega arith) ∙ column_first w ws b in
    let front : be w (get_or cells first 0) ≡ take w b = ap (λ (x : ℕ). be w x) value ∙ be_number w (take w b) (length-take-le w b (omega arith)) (bytes_take w b h) in
    let rest =
    row_of_cells ws (drop w b) cells stride (first + stride) (rw length-drop (omega arith)) (bytes_drop w b h)
    (λ c l. ap (λ (j : ℕ). get_or cells j 0) (further c) ∙ at (suc c) (omega arith) ∙ column_next w ws b c) in
    ap₂ (λ (x y : List ℕ). x ++ y) front rest ∙ take-append-drop w b
  where
    further : (c : ℕ) → first + stride + c * stride ≡ first + suc c * stride
    further c = let e = suc-mul c stride in omega arith

-- among other cells, and alone
pub row_back : (ws : List ℕ) (rows : List (List ℕ)) (pre post : List ℕ) (i : ℕ) → i < length rows → length (get_or rows i []) ≡ sum ws → Bytes (get_or rows i [])
    → cells_bytes ws (pre ++ (cell_columns ws rows ++ post)) (length rows) (length pre + i) ≡ get_or rows i []
row_back ws rows pre post i h e b = row_of_cells ws (get_or rows i []) (pre ++ (cell_columns ws rows ++ post)) (length rows) (length pre + i) e b one
  where
    one : (c : ℕ) → c < length ws → get_or (pre ++ (cell_columns ws rows ++ post)) (length pre + i + c * length rows) 0 ≡ column ws (get_or rows i []) c
    one c l =
        let place : length pre + i + c * length rows ≡ length pre + (c * length rows + i) = omega arith in
        let inside = digits_lt {q = c} {m = length ws} l h in
        ap (λ (j : ℕ). get_or (pre ++ (cell_columns ws rows ++ post)) j 0) place
        ∙ get_or-append-add pre (cell_columns ws rows ++ post) (c * length rows + i) 0
        ∙ get_or-append (cell_columns ws rows) post 0 (c * length rows + i) (omega (arith, columns_length ws rows))
        ∙ columns_at ws rows c i l h

pub row_alone : (ws : List ℕ) (rows : List (List ℕ)) (i : ℕ) → i < length rows → length (get_or rows i []) ≡ sum ws → Bytes (get_or rows i [])
    → cells_bytes ws (cell_columns ws rows) (length rows) i ≡ get_or rows i []
row_alone ws rows i h e b =
    row_of_cells ws (get_or rows i []) (cell_columns ws rows) (length rows) i e b
    (λ c l. ap (λ (j : ℕ). get_or (cell_columns ws rows) j 0) (add_comm i (c * length rows)) ∙ columns_at ws rows c i l h)

-- the k-th slot's row of frame i
pub slot_row_back : (v : Version) (family : Family) (fs : List Frame) (slots : List Slot) (k i : ℕ) → k < length slots → i < length fs
    → length (row_at v family fs slots k i) ≡ sum (widths_of family v) → Bytes (row_at v family fs slots k i)
    → cells_bytes (widths_of family v) (slots_cells v family fs slots) (length fs) (k * (length (widths_of family v) * length fs) + i) ≡ row_at v family fs slots k i
slot_row_back v family fs slots k i h m e b =
    row_of_cells (widths_of family v) (row_at v family fs slots k i) (slots_cells v family fs slots) (length fs) (k * (length (widths_of family v) * length fs) + i) e b
    (λ c l. ap (λ (j : ℕ). get_or (slots_cells v family fs slots) j 0) (place c) ∙ slots_at_lem v family fs slots k c i h l m)
  where
    place : (c : ℕ) → k * (length (widths_of family v) * length fs) + i + c * length fs ≡ (k * length (widths_of family v) + c) * length fs + i
    place c = omega (arith, in_block v family fs k c i)

-- ---- cells read from a row's bytes are the cells

pub column_of_cells : (ws cells : List ℕ) (stride first c : ℕ) → c < length ws → Fit ws cells stride first → column ws (cells_bytes ws cells stride first) c ≡ get_or cells (first + c * stride) 0
unfolding cells_bytes Fit
column_of_cells [] cells stride first c h f = absurd (omega arith)
column_of_cells (w ∷ ws) cells stride first zero h f =
    let x = get_or cells first 0 in
    let rest = cells_bytes ws cells stride (first + stride) in
    let z = zero-mul stride in
    let place : first ≡ first + 0 * stride = omega arith in
    column_first w ws (be w x ++ rest)
    ∙ ap number (take_at (be w x) rest w (length_be w x))
    ∙ number_be w x f.0
    ∙ ap (λ (j : ℕ). get_or cells j 0) place
column_of_cells (w ∷ ws) cells stride first (suc c) h f =
    let x = get_or cells first 0 in
    let rest = cells_bytes ws cells stride (first + stride) in
    let m = suc-mul c stride in
    let place : first + stride + c * stride ≡ first + suc c * stride = omega arith in
    column_next w ws (be w x ++ rest) c
    ∙ ap (λ (b : List ℕ). column ws b c) (drop_at (be w x) rest w (length_be w x))
    ∙ column_of_cells ws cells stride (first + stride) c (omega arith) f.1
    ∙ ap (λ (j : ℕ). get_or cells j 0) place

pub cells_back : (ws : List ℕ) (rows : List (List ℕ)) (cells : List ℕ) (base c i : ℕ) → c < length ws → i < length rows
    → get_or rows i [] ≡ cells_bytes ws cells (length rows) (base + i) → Fit ws cells (length rows) (base + i)
    → get_or (cell_columns ws rows) (c * length rows + i) 0 ≡ get_or cells (base + c * length rows + i) 0
cells_back ws rows cells base c i h k e f =
    let place : base + i + c * length rows ≡ base + c * length rows + i = omega arith in
    columns_at ws rows c i h k
    ∙ ap (λ (b : List ℕ). column ws b c) e
    ∙ column_of_cells ws cells (length rows) (base + i) c h f
    ∙ ap (λ (j : ℕ). get_or cells j 0) place

-- all columns at once
pub columns_back : (ws : List ℕ) (rows : List (List ℕ)) (cells : List ℕ) (base : ℕ) → base + length ws * length rows ≤ length cells
    → ((i : ℕ) → i < length rows → get_or rows i [] ≡ cells_bytes ws cells (length rows) (base + i))
    → ((i : ℕ) → i < length rows → Fit ws cells (length rows) (base + i))
    → cell_columns ws rows ≡ part cells base (length ws * length rows)
unfolding part
columns_back ws rows cells base room are fit =
    ext_get_or 0 (cell_columns ws rows) (take (length ws * length rows) (drop base cells))
    (columns_length ws rows ∙ sym (length-take-le (length ws * length rows) (drop base cells) (rw length-drop (omega arith))))
    (λ q l. one q (omega (arith, columns_length ws rows)) (place_of (length ws) (length rows) q (omega (arith, columns_length ws rows))))
  where
    one : (q : ℕ) → q < length ws * length rows → Place (length ws) (length rows) q → get_or (cell_columns ws rows) q 0 ≡ get_or (take (length ws * length rows) (drop base cells)) q 0
    one q l p =
        let there : base + p.col * length rows + p.row ≡ base + q = omega (arith, p.is) in
        ap (λ (j : ℕ). get_or (cell_columns ws rows) j 0) p.is
        ∙ cells_back ws rows cells base p.col p.row p.col_in p.row_in (are p.row p.row_in) (fit p.row p.row_in)
        ∙ ap (λ (j : ℕ). get_or cells j 0) there
        ∙ sym (get_or-drop base cells q 0)
        ∙ sym (get_or-take (length ws * length rows) (drop base cells) q 0 l)
