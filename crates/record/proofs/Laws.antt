-- The laws of records: rows of cells as bytes and back, and the room that they take.
-- Assumes nothing.
use mathlib.Core.Path.{◌≡◌, refl, sym, ap, ◌∙◌}
use mathlib.Core.Bool.{Bool, true, false, cond}
use mathlib.Core.Logic.{◌⊎◌, inl, inr}
use mathlib.Core.List.{List, [], ◌∷◌, ◌++◌, append_assoc, append-nil}
use Prim.Native.Nat.{ℕ, zero, suc, ◌+◌, ◌-◌, ◌*◌, ◌≤◌, ◌<◌}
use native.Mathlib.Nat.{add-zero, zero-mul, suc-mul}
use native.Mathlib.Numerals.{add-one, sub-one}
use native.Mathlib.Omega.{arith}
use lib.Dec.{lit≤}
use lib.ListN.{length, get_or, set, take, drop, length-append, length-set, drop_of_length-le}
use lib.Seq.{drop-cons, drop-drop, take-length}
use Rattle.wire.specs.Wire.{be, number, part, keep, Wrote}
use Rattle.wire.proofs.Laws.{length_be}
use Rattle.wire.proofs.Writers.{Behind, behind_start, behind_step}
use Rattle.format.specs.File.{event_bytes}
use Rattle.layout.specs.Columns.{sum}
use Rattle.record.specs.declared.Head.{Head}
use Rattle.record.specs.Record.{cells_bytes, player_bytes, record_of, read_back}
use Rattle.record.specs.Inner.{head_bytes, InStore}

pub length_cells : (ws cells : List ℕ) (stride i : ℕ) → length (cells_bytes ws cells stride i) ≡ sum ws
unfolding cells_bytes sum
length_cells [] cells stride i = refl
length_cells (w ∷ ws) cells stride i = simp (length-append, length_be, length_cells ws cells stride (i + stride))

-- ---- one column, by its number
module _ (stride : ℕ) where
  further : (i k : ℕ) → i + stride + k * stride ≡ i + suc k * stride
  further i k = let e = suc-mul k stride in omega arith

  -- where the k-th column's cell is, and that it is there
  pub in_store_at : (ws : List ℕ) (len i k : ℕ) → InStore ws len stride i → k < length ws → (get_or ws k 0 ≤ 4) × (i + k * stride < len) × (stride ≤ len)
  unfolding InStore
  in_store_at [] len i k s h = absurd (omega arith)
  in_store_at (w ∷ ws) len i zero s h = (s.0, omega (arith, s.1, zero-mul stride), s.2)
  in_store_at (w ∷ ws) len i (suc k) s h = rw (further i k) at (in_store_at ws len (i + stride) k s.3 (omega arith))

  -- what of a row's cells is left before the k-th, and the k-th
  pub cells_snoc : (ws cells : List ℕ) (i k : ℕ) → k < length ws
      → cells_bytes (take (suc k) ws) cells stride i ≡ cells_bytes (take k ws) cells stride i ++ be (get_or ws k 0) (get_or cells (i + k * stride) 0)
  unfolding cells_bytes
  cells_snoc [] cells i k h = absurd (omega arith)
  cells_snoc (w ∷ ws) cells i zero h = rw (zero-mul, add-zero) (append-nil (be w (get_or cells i 0)))
  cells_snoc (w ∷ ws) cells i (suc k) h =
      ap (λ (l : List ℕ). be w (get_or cells i 0) ++ l) (cells_snoc ws cells (i + stride) k (omega arith))
      ∙ rw (further i k) (sym (append_assoc (be w (get_or cells i 0)) (cells_bytes (take k ws) cells stride (i + stride)) (be (get_or ws k 0) (get_or cells (i + suc k * stride) 0))))

  -- the index after the last column, which is never read
  pub in_store_end : (ws : List ℕ) (len i : ℕ) → InStore ws len stride i → (length ws * stride ≡ 0) ⊎ (i + length ws * stride < len + len)
  unfolding InStore
  in_store_end [] len i s = inl (zero-mul stride)
  in_store_end (w ∷ ws) len i s = inr (go (in_store_end ws len (i + stride) s.3))
    where
      go : (length ws * stride ≡ 0) ⊎ (i + stride + length ws * stride < len + len) → i + suc (length ws) * stride < len + len
      go (inl z) = let e = suc-mul (length ws) stride in omega (arith, s.1, s.2)
      go (inr l) = let e = suc-mul (length ws) stride in omega arith

  -- one column back from there
  pub step_back : (i k : ℕ) → 0 < k → (stride ≤ i + k * stride) × (i + k * stride - stride ≡ i + (k - 1) * stride)
  step_back i zero h = absurd (omega arith)
  step_back i (suc k) h = rw sub-one (let e = suc-mul k stride in (omega arith, omega arith))

pub sum_snoc : (ws : List ℕ) (k : ℕ) → k < length ws → sum (take (suc k) ws) ≡ sum (take k ws) + get_or ws k 0
unfolding sum
sum_snoc [] k h = absurd (omega arith)
sum_snoc (w ∷ ws) zero h = omega arith
sum_snoc (w ∷ ws) (suc k) h = let e = sum_snoc ws k (omega arith) in omega arith

sum_take_le : (ws : List ℕ) (k : ℕ) → sum (take k ws) ≤ sum ws
unfolding sum
sum_take_le [] zero = lit≤ tt
sum_take_le [] (suc k) = lit≤ tt
sum_take_le (w ∷ ws) zero = omega arith
sum_take_le (w ∷ ws) (suc k) = let h = sum_take_le ws k in omega arith

-- what a turn of a loop from the last column to the first knows, with k columns left
pub record Turn (ws cells : List ℕ) (stride first k : ℕ) : Type 0 where
  pub narrow : get_or ws (k - 1) 0 ≤ 4
  pub inside : first + (k - 1) * stride < length cells
  pub back : stride ≤ first + k * stride
  pub index : first + k * stride - stride ≡ first + (k - 1) * stride
  pub total : sum (take k ws) ≡ sum (take (k - 1) ws) + get_or ws (k - 1) 0
  pub within : sum (take k ws) ≤ sum ws
  pub bytes : cells_bytes (take k ws) cells stride first ≡ cells_bytes (take (k - 1) ws) cells stride first ++ be (get_or ws (k - 1) 0) (get_or cells (first + (k - 1) * stride) 0)

pub turn : (ws cells : List ℕ) (stride first k : ℕ) → InStore ws (length cells) stride first → 0 < k → k ≤ length ws → Turn ws cells stride first k
turn ws cells stride first k s h l =
    let e : k ≡ suc (k - 1) = omega arith in
    let (narrow, inside, few) = in_store_at stride ws (length cells) first (k - 1) s (omega arith) in
    let (back, index) = step_back stride first k h in
    record {
      narrow = narrow;
      inside = inside;
      back = back;
      index = index;
      total = ap (λ (j : ℕ). sum (take j ws)) e ∙ sum_snoc ws (k - 1) (omega arith);
      within = sum_take_le ws k;
      bytes = ap (λ (j : ℕ). cells_bytes (take j ws) cells stride first) e ∙ cells_snoc stride ws cells first (k - 1) (omega arith);
    }

-- with no column left
pub none_left : (ws cells : List ℕ) (stride first k : ℕ) → k ≤ 0 → (h : List ℕ) → h ++ cells_bytes (take k ws) cells stride first ≡ h
unfolding cells_bytes
none_left ws cells stride first zero l h = append-nil h
none_left ws cells stride first (suc k) l h = absurd (omega arith)

-- ---- a record: its head, and the cells after it

pub head_length_lem : (h : Head) (b : Bool) → h.player ≡ b → length (head_bytes h) ≡ cond b 7 5
unfolding head_bytes keep
head_length_lem h true e = simp (e, length-append, length_be)
head_length_lem h false e = simp (e, length-append, length_be)

pub head_room : (h : Head) → (5 ≤ length (head_bytes h)) × (length (head_bytes h) ≤ 7)
head_room h = go h.player refl
  where
    go : (b : Bool) → h.player ≡ b → (5 ≤ length (head_bytes h)) × (length (head_bytes h) ≤ 7)
    go true e = omega (arith, head_length_lem h true e)
    go false e = omega (arith, head_length_lem h false e)

pub record_parts : (h : Head) (ws cells : List ℕ) (stride i : ℕ) → event_bytes (record_of h ws cells stride i) ≡ head_bytes h ++ cells_bytes ws cells stride i
unfolding head_bytes
record_parts h ws cells stride i = ap (λ (l : List ℕ). h.code ∷ l) (sym (append_assoc (be 4 h.id) (player_bytes h) (cells_bytes ws cells stride i)))

pub length_record : (h : Head) (ws cells : List ℕ) (stride i : ℕ) → length (event_bytes (record_of h ws cells stride i)) ≡ length (head_bytes h) + sum ws
length_record h ws cells stride i =
    ap length (record_parts h ws cells stride i) ∙ length-append (head_bytes h) (cells_bytes ws cells stride i) ∙ ap (λ (n : ℕ). length (head_bytes h) + n) (length_cells ws cells stride i)

-- ---- writing a record from its end: the start, a turn, and room for it
module _ (h : Head) (ws cells : List ℕ) (stride first : ℕ) where
  pub put_start : {out : List ℕ} {at : ℕ} → Behind out at (event_bytes (record_of h ws cells stride first)) out (head_bytes h ++ cells_bytes (take (length ws) ws) cells stride first)
  put_start = rw (take-length, ← record_parts h ws cells stride first) behind_start

  pub put_step : {out now after : List ℕ} {at next : ℕ} (k q w : ℕ) → Turn ws cells stride first k
      → q ≡ at + (length (head_bytes h) + sum (take k ws)) → w ≡ get_or ws (k - 1) 0
      → Behind out at (event_bytes (record_of h ws cells stride first)) now (head_bytes h ++ cells_bytes (take k ws) cells stride first)
      → Wrote now after (q - 4) next (be 4 (get_or cells (first + (k - 1) * stride) 0))
      → Behind out at (event_bytes (record_of h ws cells stride first)) after (head_bytes h ++ cells_bytes (take (k - 1) ws) cells stride first)
  put_step {at = at} k q w t eq ew b x =
      let before = head_bytes h ++ cells_bytes (take (k - 1) ws) cells stride first in
      let v = get_or cells (first + (k - 1) * stride) 0 in
      let room = head_room h in
      let long : length before ≡ length (head_bytes h) + sum (take (k - 1) ws) = simp (length-append, length_cells) in
      behind_step before (head_bytes h ++ cells_bytes (take k ws) cells stride first) w v
      (omega (arith, t.narrow)) (omega arith) (omega (arith, t.total))
      (ap (λ (l : List ℕ). head_bytes h ++ l) (t.bytes ∙ ap (λ (a : ℕ). cells_bytes (take (k - 1) ws) cells stride first ++ be a v) (sym ew))
      ∙ sym (append_assoc (head_bytes h) (cells_bytes (take (k - 1) ws) cells stride first) (be w v)))
      b x

-- ---- reading a row

pub length_read : (ws bytes cells : List ℕ) (stride i : ℕ) → length (read_back ws bytes cells stride i) ≡ length cells
unfolding read_back
length_read [] bytes cells stride i = refl
length_read (w ∷ ws) bytes cells stride i = length_read ws (drop w bytes) (set cells i (number (take w bytes))) stride (i + stride) ∙ length-set cells i (number (take w bytes))

-- a loop over the columns, at column k, which reads at p: one turn, and the end
module _ (ws : List ℕ) (k w : ℕ) (h : k < length ws) (e : w ≡ get_or ws k 0) where
  pub read_step : (s : List ℕ) (p : ℕ) (cells : List ℕ) (stride i v : ℕ) → v ≡ number (part s p w)
      → read_back (drop (k + 1) ws) (drop (p + w) s) (set cells i v) stride (i + stride) ≡ read_back (drop k ws) (drop p s) cells stride i
  unfolding read_back part
  read_step s p cells stride i v q = rw (drop-cons ws k 0 h, add-one k, ← e, q, ← drop-drop w p s)

  pub read_sum : sum (drop k ws) ≡ w + sum (drop (k + 1) ws)
  unfolding sum
  read_sum = rw (drop-cons ws k 0 h, add-one k, e)

  pub read_store : (len stride i : ℕ) → InStore (drop k ws) len stride i → (w ≤ 4) × (i < len) × (stride ≤ len) × InStore (drop (k + 1) ws) len stride (i + stride)
  unfolding InStore
  read_store len stride i s = rw (add-one k, e) (rw (drop-cons ws k 0 h) at s)

pub read_done : (ws s : List ℕ) (k p : ℕ) (cells : List ℕ) (stride i : ℕ) → length ws ≤ k → (read_back (drop k ws) (drop p s) cells stride i ≡ cells) × (sum (drop k ws) ≡ 0)
unfolding read_back sum
read_done ws s k p cells stride i h = rw (drop_of_length-le ws h) (refl, refl)
