-- The laws of single stores: where a row's cells are, and what a store is after one event.
-- Assumes nothing.
use mathlib.Core.Path.{◌≡◌, refl, sym, ap, subst, ◌∙◌}
use mathlib.Core.Bool.{Bool, true, false, not, cond, ◌&&◌, ◌||◌}
use mathlib.Core.List.{List, [], ◌∷◌}
use Prim.Native.Nat.{ℕ, suc, ◌+◌, ◌-◌, ◌*◌, ◌/◌, ◌%◌, ◌^◌, ◌≤◌, ◌<◌}
use native.Mathlib.Nat.{suc-mul, zero-mul, zero-add, mul-le-mul_right}
use native.Mathlib.Numerals.{add-one}
use native.Mathlib.Omega.{arith}
use borrow.Author.Tests.{ltb-true, lt-ltb, le-ltb, eq-eqb, ne_eqb}
use lib.Dec.{eqb, ltb}
use lib.ListN.{length, get_or, set, drop, drop_of_length-le}
use lib.Seq.{set_out, drop-cons}
use Rattle.format.specs.File.{index_of}
use Rattle.format.proofs.Versions.{no_way}
use Rattle.layout.specs.Inner.{Narrow}
use Rattle.record.specs.Record.{read_back}
use Rattle.record.specs.Inner.{InStore}
use Rattle.read_event.specs.Inner.{Told, Roomy, opens, open_after, marked, row_put, row_next, block_of, player_put, bit_put}
use Rattle.read_event.specs.declared.seen.Open.{Open}

-- ---- a row's cells are in their store

in_store_from : (ws : List ℕ) (len rows i : ℕ) → Narrow ws → rows ≤ len → i + length ws * rows < len + rows → InStore ws len rows i
unfolding InStore Narrow
in_store_from [] len rows i n l h = tt
in_store_from (w ∷ ws) len rows i n l h =
    let e = suc-mul (length ws) rows in
    (n.0, omega arith, l, in_store_from ws len rows (i + rows) n.1 l (omega arith))

-- row r of block b
pub in_block : (ws xs : List ℕ) (blocks rows b r : ℕ) → Roomy ws xs blocks rows → b < blocks → r < rows → InStore ws (length xs) rows (b * (length ws * rows) + r)
unfolding InStore
in_block [] xs blocks rows b r q h k = tt
in_block (w ∷ ws) xs blocks rows b r q h k =
    let block = length (w ∷ ws) * rows in
    let one = suc-mul (length ws) rows in
    let more : suc b * block ≤ blocks * block = mul-le-mul_right block h in
    let next = suc-mul b block in
    in_store_from (w ∷ ws) (length xs) rows (b * block + r) q.narrow (omega (arith, q.room)) (omega (arith, q.room))

pub in_only : (ws xs : List ℕ) (rows r : ℕ) → Roomy ws xs 1 rows → r < rows → InStore ws (length xs) rows r
in_only ws xs rows r q k = rw (zero-mul, zero-add) at (in_block ws xs 1 rows 0 r q (omega arith) k)

-- ---- a frame begins

and_no : (a : Bool) → false ≡ (a && false)
and_no true = refl
and_no false = refl

and_yes : (a b : Bool) → b ≡ a → b ≡ (a && true)
and_yes true b e = e
and_yes false b e = e

module _ (start : Bool) (frames : ℕ) (o : Open) (code id : ℕ) where
  pub first_late : frames ≤ o.frames → false ≡ opens start frames o code id
  unfolding opens
  first_late h = rw (le-ltb o.frames frames h) (and_no (cond start (eqb code 0x3A) (eqb code 0x37 && (eqb o.frames 0 || not (eqb o.id id)))))

  pub first_start : o.frames < frames → start ≡ true → eqb code 0x3A ≡ opens start frames o code id
  unfolding opens
  first_start h e = rw (lt-ltb o.frames frames h, e) (and_yes (eqb code 0x3A) _ refl)

  pub first_other : start ≡ false → (code ≡ 0x37 → ⊥) → false ≡ opens start frames o code id
  unfolding opens
  first_other e n = rw (e, ne_eqb code 0x37 n)

  pub first_ever : o.frames < frames → start ≡ false → code ≡ 0x37 → o.frames ≡ 0 → true ≡ opens start frames o code id
  unfolding opens
  first_ever h e c z = rw (lt-ltb o.frames frames h, e, eq-eqb code 0x37 c, eq-eqb o.frames 0 z)

  pub first_changed : o.frames < frames → start ≡ false → code ≡ 0x37 → (o.frames ≡ 0 → ⊥) → not (eqb o.id id) ≡ opens start frames o code id
  unfolding opens
  first_changed h e c z = rw (lt-ltb o.frames frames h, e, eq-eqb code 0x37 c, ne_eqb o.frames 0 z) (and_yes (not (eqb o.id id)) _ refl)

  pub open_room : (r : Bool) → r ≡ opens start frames o code id → r ≡ true → o.frames < frames
  unfolding opens
  open_room r e t = go (ltb o.frames frames) refl (sym t ∙ e)
    where
      go : (b : Bool) → ltb o.frames frames ≡ b → true ≡ (cond start (eqb code 0x3A) (eqb code 0x37 && (eqb o.frames 0 || not (eqb o.id id))) && b) → o.frames < frames
      go true x y = ltb-true o.frames frames x
      go false x y = no_way (sym (y ∙ sym (and_no (cond start (eqb code 0x3A) (eqb code 0x37 && (eqb o.frames 0 || not (eqb o.id id)))))))

pub opened_on : (on : Bool) (id : ℕ) (o : Open) → on ≡ true → record { frames = o.frames + 1; id = id } ≡ open_after on id o
unfolding open_after
opened_on on id o e = rw e

pub opened_off : (on : Bool) (id : ℕ) (o : Open) → on ≡ false → o ≡ open_after on id o
unfolding open_after
opened_off on id o e = rw e

-- ---- a number

module _ (on : Bool) (n x : ℕ) (xs : List ℕ) where
  pub mark_on : on ≡ true → set xs n x ≡ marked on n x xs
  unfolding marked
  mark_on e = rw e

  pub mark_out : on ≡ true → length xs ≤ n → xs ≡ marked on n x xs
  unfolding marked
  mark_out e h = rw e (sym (set_out xs n x h))

  pub mark_off : on ≡ false → xs ≡ marked on n x xs
  unfolding marked
  mark_off e = rw e

-- ---- a row

module _ (on : Bool) (ws bytes : List ℕ) (rows row : ℕ) (xs : List ℕ) where
  pub row_put_lem : on ≡ true → row < rows → read_back ws bytes xs rows row ≡ row_put on ws bytes rows row xs
  unfolding row_put
  row_put_lem e h = rw (e, lt-ltb row rows h)

  pub row_late : on ≡ true → rows ≤ row → xs ≡ row_put on ws bytes rows row xs
  unfolding row_put
  row_late e h = rw (e, le-ltb row rows h)

  pub row_off : on ≡ false → xs ≡ row_put on ws bytes rows row xs
  unfolding row_put
  row_off e = rw e

module _ (on : Bool) (rows row : ℕ) where
  pub next_put : on ≡ true → row < rows → row + 1 ≡ row_next on rows row
  unfolding row_next
  next_put e h = rw (e, lt-ltb row rows h)

  pub next_late : on ≡ true → rows ≤ row → row ≡ row_next on rows row
  unfolding row_next
  next_late e h = rw (e, le-ltb row rows h)

  pub next_off : on ≡ false → row ≡ row_next on rows row
  unfolding row_next
  next_off e = rw e

-- ---- a player

module _ (on : Bool) (ws numbers : List ℕ) (t : Told) (frames n : ℕ) (xs : List ℕ) where
  pub player_put_lem : on ≡ true → 0 < n → n - 1 < frames → {b : ℕ} → b ≡ block_of numbers t → b < length numbers
      → read_back ws t.own xs frames (b * (length ws * frames) + (n - 1)) ≡ player_put on ws numbers t frames n xs
  unfolding player_put
  player_put_lem e h k {b} q l =
      let l' : block_of numbers t < length numbers = subst (λ (x : ℕ). x < length numbers) q l in
      rw (e, lt-ltb 0 n h, lt-ltb (n - 1) frames k, lt-ltb (block_of numbers t) (length numbers) l') (ap (λ (x : ℕ). read_back ws t.own xs frames (x * (length ws * frames) + (n - 1))) q)

  pub player_none : on ≡ true → 0 < n → n - 1 < frames → {b : ℕ} → b ≡ block_of numbers t → length numbers ≤ b → xs ≡ player_put on ws numbers t frames n xs
  unfolding player_put
  player_none e h k {b} q l =
      let l' : length numbers ≤ block_of numbers t = subst (λ (x : ℕ). length numbers ≤ x) q l in
      rw (e, lt-ltb 0 n h, lt-ltb (n - 1) frames k, le-ltb (block_of numbers t) (length numbers) l')

  pub player_late : on ≡ true → 0 < n → frames ≤ n - 1 → xs ≡ player_put on ws numbers t frames n xs
  unfolding player_put
  player_late e h k = rw (e, lt-ltb 0 n h, le-ltb (n - 1) frames k)

  pub player_early : on ≡ true → n ≤ 0 → xs ≡ player_put on ws numbers t frames n xs
  unfolding player_put
  player_early e h = rw (e, le-ltb 0 n h)

  pub player_off : on ≡ false → xs ≡ player_put on ws numbers t frames n xs
  unfolding player_put
  player_off e = rw e

module _ (on : Bool) (numbers : List ℕ) (t : Told) (frames n : ℕ) (xs : List ℕ) where
  pub bit_put_lem : on ≡ true → 0 < n → n - 1 < frames → {b : ℕ} → b ≡ block_of numbers t → b < length numbers → {x : ℕ}
      → x ≡ (get_or xs (b * ((frames + 7) / 8) + (n - 1) / 8) 0 + 2 ^ ((n - 1) % 8)) % 256
      → set xs (b * ((frames + 7) / 8) + (n - 1) / 8) x ≡ bit_put on numbers t frames n xs
  unfolding bit_put
  bit_put_lem e h k {b} q l {x} z =
      let l' : block_of numbers t < length numbers = subst (λ (x : ℕ). x < length numbers) q l in
      rw (e, lt-ltb 0 n h, lt-ltb (n - 1) frames k, lt-ltb (block_of numbers t) (length numbers) l')
      (ap (λ (y : ℕ). set xs (b * ((frames + 7) / 8) + (n - 1) / 8) y) z
      ∙ ap (λ (y : ℕ). set xs (y * ((frames + 7) / 8) + (n - 1) / 8) ((get_or xs (y * ((frames + 7) / 8) + (n - 1) / 8) 0 + 2 ^ ((n - 1) % 8)) % 256)) q)

  pub bit_none : on ≡ true → 0 < n → n - 1 < frames → {b : ℕ} → b ≡ block_of numbers t → length numbers ≤ b → xs ≡ bit_put on numbers t frames n xs
  unfolding bit_put
  bit_none e h k {b} q l =
      let l' : length numbers ≤ block_of numbers t = subst (λ (x : ℕ). length numbers ≤ x) q l in
      rw (e, lt-ltb 0 n h, lt-ltb (n - 1) frames k, le-ltb (block_of numbers t) (length numbers) l')

  pub bit_late : on ≡ true → 0 < n → frames ≤ n - 1 → xs ≡ bit_put on numbers t frames n xs
  unfolding bit_put
  bit_late e h k = rw (e, lt-ltb 0 n h, le-ltb (n - 1) frames k)

  pub bit_early : on ≡ true → n ≤ 0 → xs ≡ bit_put on numbers t frames n xs
  unfolding bit_put
  bit_early e h = rw (e, le-ltb 0 n h)

  pub bit_off : on ≡ false → xs ≡ bit_put on numbers t frames n xs
  unfolding bit_put
  bit_off e = rw e

-- a block is within the store
pub block_in : (blocks m b len : ℕ) → blocks * m ≤ len → b < blocks → b * m + m ≤ len
block_in blocks m b len h l = let r : suc b * m ≤ blocks * m = mul-le-mul_right m l in let e = suc-mul b m in omega arith

-- ---- a loop that looks for a number

pub index_here : (x : ℕ) (xs : List ℕ) (k : ℕ) → k < length xs → get_or xs k 0 ≡ x → index_of x xs ≡ k + index_of x (drop k xs) → k ≡ index_of x xs
unfolding index_of
index_here x xs k h e i =
    let z : index_of x (drop k xs) ≡ 0 = ap (index_of x) (drop-cons xs k 0 h) ∙ rw (eq-eqb (get_or xs k 0) x e) in
    omega arith

pub index_skip : (x : ℕ) (xs : List ℕ) (k : ℕ) → k < length xs → (get_or xs k 0 ≡ x → ⊥) → index_of x xs ≡ k + index_of x (drop k xs) → index_of x xs ≡ k + 1 + index_of x (drop (k + 1) xs)
unfolding index_of
index_skip x xs k h e i =
    let z : index_of x (drop k xs) ≡ suc (index_of x (drop (k + 1) xs)) = ap (index_of x) (drop-cons xs k 0 h) ∙ rw (ne_eqb (get_or xs k 0) x e) (ap (λ (n : ℕ). suc (index_of x (drop n xs))) (sym (add-one k))) in
    omega arith

pub index_none : (x : ℕ) (xs : List ℕ) (k : ℕ) → length xs ≤ k → index_of x xs ≡ k + index_of x (drop k xs) → k ≡ index_of x xs
unfolding index_of
index_none x xs k h i = let z : index_of x (drop k xs) ≡ 0 = ap (index_of x) (drop_of_length-le xs h) in omega arith

pub index_start : (x : ℕ) (xs : List ℕ) (k : ℕ) → k ≡ 0 → index_of x xs ≡ k + index_of x (drop k xs)
index_start x xs k e = rw e (sym (zero-add (index_of x xs)))
