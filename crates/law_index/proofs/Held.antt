-- What an index holds: its rows, where they stand, and that it is no bad one.
-- Assumes nothing.
use Prim.Native.Nat.{ℕ, zero, suc, ◌+◌, ◌*◌, ◌^◌, ◌<◌}
use mathlib.Core.Path.{◌≡◌, refl, sym, ap, ◌∙◌}
use mathlib.Core.Bool.{Bool, true, false}
use mathlib.Core.List.{List, [], ◌∷◌, ◌++◌, append_assoc}
use native.Mathlib.Omega.{arith}
use borrow.Author.Tests.{eq-eqb}
use lib.Dec.{eqb}
use lib.ListN.{length, get_or, take, drop, length-append, length-take}
use lib.Seq.{take_at, drop_at, drop-drop}
use Rattle.wire.specs.Wire.{be, number, part, keep}
use Rattle.wire.proofs.Laws.{length_be, number_be}
use Rattle.record.proofs.Numbers.{Bytes, bytes_take, bytes_drop, number_small}
use Rattle.grammar.specs.WellFormed.{Each}
use Rattle.head.specs.Table.{starts_with}
use Rattle.head.specs.declared.Step.{Step}
use Rattle.head.specs.declared.Step.TheVariants.{Event, Ends, Cut, Refused}
use Rattle.index_form.specs.Form.{Row, row_bytes, rows_bytes, index_bytes, index_mark, row_count, bad_index, id_at, offset_at}
use Rattle.index_form.proofs.Laws.{starts_take}
use Rattle.index_passes.specs.Rows.{index_rows, far}
use Rattle.index_passes.proofs.Laws.{length_row, length_rows, near_first}
use Rattle.law_index.specs.Looked.{ids_of, row_offsets}

-- numbers of four bytes
pub record Small (r : Row) : Type 0 where
  pub id_small : r.id < 256 ^ 4
  pub offset_small : r.offset < 256 ^ 4

-- ---- the rows of a file are small

part_small : (f : List ℕ) (at : ℕ) → Bytes f → number (part f at 4) < 256 ^ 4
unfolding part
part_small f at b = number_small 4 (take 4 (drop at f)) (rw length-take (omega arith)) (bytes_take 4 (drop at f) (bytes_drop at f b))

pub rows_small : (f : List ℕ) (ss : List Step) → Bytes f → far (index_rows f ss) ≡ false → Each Small (index_rows f ss)
unfolding index_rows Each keep
rows_small f [] b e = tt
rows_small f (Ends ∷ ss) b e = rows_small f ss b e
rows_small f (Cut ∷ ss) b e = rows_small f ss b e
rows_small f (Refused n o ∷ ss) b e = rows_small f ss b e
rows_small f (Event code at payload len next ∷ ss) b e = go (eqb code 0x3A) e (rows_small f ss b)
  where
    go : (t : Bool) → far (keep t (record { id = number (part f payload 4); offset = at } ∷ []) ++ index_rows f ss) ≡ false → (far (index_rows f ss) ≡ false → Each Small (index_rows f ss))
        → Each Small (keep t (record { id = number (part f payload 4); offset = at } ∷ []) ++ index_rows f ss)
    go false h rest = rest h
    go true h rest =
        let (n, m) = near_first at (number (part f payload 4)) (index_rows f ss) h in
        (record { id_small = part_small f payload b; offset_small = omega (arith, n) }, rest m)

-- ---- where rows stand

module _ (r : Row) (rest : List ℕ) where
  id_first : take 4 (row_bytes r ++ rest) ≡ be 4 r.id
  unfolding row_bytes
  id_first = ap (take 4) (append_assoc (be 4 r.id) (be 4 r.offset) rest) ∙ take_at (be 4 r.id) (be 4 r.offset ++ rest) 4 (length_be 4 r.id)

  offset_next : take 4 (drop 4 (row_bytes r ++ rest)) ≡ be 4 r.offset
  unfolding row_bytes
  offset_next =
      ap (λ (l : List ℕ). take 4 (drop 4 l)) (append_assoc (be 4 r.id) (be 4 r.offset) rest)
      ∙ ap (take 4) (drop_at (be 4 r.id) (be 4 r.offset ++ rest) 4 (length_be 4 r.id))
      ∙ take_at (be 4 r.offset) rest 4 (length_be 4 r.offset)

  past : (n : ℕ) → drop (8 + n) (row_bytes r ++ rest) ≡ drop n rest
  past n = sym (drop-drop n 8 (row_bytes r ++ rest)) ∙ ap (drop n) (drop_at (row_bytes r) rest 8 (length_row r))

-- the id and the offset of row k, from the rows' first byte on
row_at_lem : (rows : List Row) (k : ℕ) → k < length rows
    → (take 4 (drop (8 * k) (rows_bytes rows)) ≡ be 4 (get_or (ids_of rows) k 0)) × (take 4 (drop 4 (drop (8 * k) (rows_bytes rows))) ≡ be 4 (get_or (row_offsets rows) k 0))
unfolding rows_bytes
row_at_lem [] k h = absurd (omega arith)
row_at_lem (r ∷ rows) zero h = (id_first r (rows_bytes rows), offset_next r (rows_bytes rows))
row_at_lem (r ∷ rows) (suc k) h =
    let e : 8 * suc k ≡ 8 + 8 * k = omega arith in
    let (a, b) = row_at_lem rows k (omega arith) in
    rw (e, past r (rows_bytes rows) (8 * k)) (a, b)

small_at : (rows : List Row) (k : ℕ) → k < length rows → Each Small rows → (get_or (ids_of rows) k 0 < 256 ^ 4) × (get_or (row_offsets rows) k 0 < 256 ^ 4)
unfolding Each
small_at [] k h s = absurd (omega arith)
small_at (r ∷ rows) zero h s = (s.0.id_small, s.0.offset_small)
small_at (r ∷ rows) (suc k) h s = small_at rows k (omega arith) s.1

-- ---- in the index

module _ (rows : List Row) where
  front : List ℕ
  front = index_mark ++ be 4 (length rows)

  front_is : index_bytes rows ≡ front ++ rows_bytes rows
  unfolding index_bytes front
  front_is = refl

  length_front : length front ≡ 9
  unfolding front
  length_front = omega (arith, length_be 4 (length rows))

  rows_behind : (n : ℕ) → drop (9 + n) (index_bytes rows) ≡ drop n (rows_bytes rows)
  rows_behind n = ap (drop (9 + n)) front_is ∙ sym (drop-drop n 9 (front ++ rows_bytes rows)) ∙ ap (drop n) (drop_at front (rows_bytes rows) 9 length_front)

  pub length_whole : length (index_bytes rows) ≡ 9 + 8 * length rows
  length_whole = ap length front_is ∙ length-append front (rows_bytes rows) ∙ omega (arith, length_front, length_rows rows)

  pub count_is : length rows < 256 ^ 4 → row_count (index_bytes rows) ≡ length rows
  unfolding index_bytes part
  count_is h = ap number (take_at (be 4 (length rows)) (rows_bytes rows) 4 (length_be 4 (length rows))) ∙ number_be 4 (length rows) h

  pub good : length rows < 256 ^ 4 → bad_index (index_bytes rows) ≡ false
  unfolding bad_index index_bytes
  good h =
      let o : starts_with index_mark (index_bytes rows) ≡ true = opens in
      rw (o, eq-eqb (length (index_bytes rows)) (9 + 8 * row_count (index_bytes rows)) (length_whole ∙ ap (λ (n : ℕ). 9 + 8 * n) (sym (count_is h))))
    where
      opens : starts_with index_mark (index_bytes rows) ≡ true
      opens = starts_take 5 (index_bytes rows)

  module _ (small : Each Small rows) (k : ℕ) (h : k < length rows) where
    pub id_is : id_at (index_bytes rows) k ≡ get_or (ids_of rows) k 0
    unfolding part
    id_is =
        ap (λ (l : List ℕ). number (take 4 l)) (rows_behind (8 * k))
        ∙ ap number (row_at_lem rows k h).0
        ∙ number_be 4 (get_or (ids_of rows) k 0) (small_at rows k h small).0

    pub offset_is : offset_at (index_bytes rows) k ≡ get_or (row_offsets rows) k 0
    unfolding part
    offset_is =
        let e : 13 + 8 * k ≡ 9 + (8 * k + 4) = omega arith in
        ap (λ (n : ℕ). number (take 4 (drop n (index_bytes rows)))) e
        ∙ ap (λ (l : List ℕ). number (take 4 l)) (rows_behind (8 * k + 4) ∙ sym (drop-drop 4 (8 * k) (rows_bytes rows)))
        ∙ ap number (row_at_lem rows k h).1
        ∙ number_be 4 (get_or (row_offsets rows) k 0) (small_at rows k h small).1
