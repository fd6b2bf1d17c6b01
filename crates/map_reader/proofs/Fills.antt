-- Filling rows: a plain value's row, a turn of the loop, and its end.
-- Assumes nothing.
use mathlib.Core.Path.{◌≡◌, refl, sym, ap, ap₂, ◌∙◌}
use mathlib.Core.List.{List, [], ◌∷◌, ◌++◌, append_assoc, append-nil}
use Prim.Native.Nat.{ℕ, suc, ◌+◌, ◌-◌, ◌*◌, ◌≤◌, ◌<◌}
use native.Mathlib.Nat.{add-zero, zero-add}
use native.Mathlib.Omega.{arith}
use native.Mathlib.Decide.{ℕ_discrete}
use borrow.Author.Tests.{ne_eqb}
use lib.ListN.{length, drop, get_or, set, length-append, length-drop}
use Rattle.wire.specs.Wire.{part, splice, number as number_of, Room, Wrote}
use Rattle.wire.proofs.Laws.{splice_behind}
use Rattle.wire.proofs.Writers.{Left, left_step, left_room, left_done, left_start}
use Rattle.map.specs.Map.{Value, text, number, map, Map, empty, entry, text_bytes, value_bytes, fits_value}
use Rattle.map_reader.specs.Read.{Bytes, text_stop, text_of, Seen, SeenValue, value_in, map_read_at, value_read_at}
use Rattle.map_reader.specs.Back.{count_of, kind_of, fourth_of, fifth_of, entry_row, inner_rows, map_rows}
use Rattle.map.proofs.Judging.{length_text}
use Rattle.map_reader.proofs.Places.{Stands}
use Rattle.map_reader.proofs.Sound.{ValueAt, value_sound, inside_sound}
use Rattle.map_reader.proofs.Passing.{text_here, number_here, Deep, deep_else, stop_as, Passing, rest_of, passing_start, Here, here_of, none_left, passing_done}

-- five cells in a row
pub wrote_5 : (xs : List ℕ) (at a b c d e : ℕ) → Wrote xs (set (set (set (set (set xs at a) (at + 1) b) (at + 2) c) (at + 3) d) (at + 4) e) at (at + 5) (a ∷ b ∷ c ∷ d ∷ e ∷ [])
unfolding splice
wrote_5 xs at a b c d e =
    let e1 : at + 1 ≡ suc at = omega arith in
    let e2 : at + 2 ≡ suc (suc at) = omega arith in
    let e3 : at + 3 ≡ suc (suc (suc at)) = omega arith in
    let e4 : at + 4 ≡ suc (suc (suc (suc at))) = omega arith in
    record { next_is = refl; after_is = rw (e1, e2, e3, e4) }

-- ---- a plain value that was accepted
pub record PlainText (b : List ℕ) (q key len n : ℕ) : Type 0 where
  pub fits : q + 3 + n ≤ length b
  pub stop_is : q + 3 + n ≡ (value_read_at b 0 q).stop
  pub row : entry_row key len (value_read_at b 0 q).value q ≡ 0 ∷ key ∷ len ∷ (q + 3) ∷ n ∷ []

pub plain_text : (b : List ℕ) (q key len : ℕ) {mark n : ℕ} → mark ≡ get_or b q 0 → mark ≡ 0x53 → (value_read_at b 0 q).refusal ≡ 0 → n ≡ get_or b (q + 2) 0 → PlainText b q key len n
unfolding kind_of fourth_of fifth_of
plain_text b q key len m e z l =
    let t = text_here b 0 q m e z l in
    record {
      fits = t.fits;
      stop_is = stop_as t.is refl;
      row = ap (λ (w : SeenValue). entry_row key len w.value q) t.is ∙ ap (λ k. 0 ∷ key ∷ len ∷ (q + 3) ∷ k ∷ []) t.long;
    }

pub record PlainNumber (b : List ℕ) (q key len : ℕ) : Type 0 where
  pub fits : q + 5 ≤ length b
  pub stop_is : q + 5 ≡ (value_read_at b 0 q).stop
  pub row : entry_row key len (value_read_at b 0 q).value q ≡ 1 ∷ key ∷ len ∷ number_of (part b (q + 1) 4) ∷ 0 ∷ []

pub plain_number : (b : List ℕ) (q key len : ℕ) {mark : ℕ} → mark ≡ get_or b q 0 → (mark ≡ 0x53 → ⊥) → (value_read_at b 0 q).refusal ≡ 0 → PlainNumber b q key len
unfolding kind_of fourth_of fifth_of
plain_number b q key len {mark} m n1 z = elim (ℕ_discrete mark 0x6c) [
  | no n2 ↦ let y = deep_else b 0 q m n1 n2 z in absurd (omega (arith, y.deep))
  | yes e ↦ let t = number_here b 0 q m n1 e z in record { fits = t.fits; stop_is = stop_as t.is refl; row = ap (λ (w : SeenValue). entry_row key len w.value q) t.is }
]

pub wrote_row : {key len x z at next : ℕ} {rows after ys : List ℕ} → ys ≡ 1 ∷ key ∷ len ∷ z ∷ 0 ∷ [] → x ≡ z → Wrote rows after at next (1 ∷ key ∷ len ∷ x ∷ 0 ∷ []) → Wrote rows after at next ys
wrote_row e f w = rw (e, ← f) w

-- ---- the loop
pub record Filling (b : List ℕ) (d at : ℕ) (first : List ℕ) (i : ℕ) (rows : List ℕ) (p k n : ℕ) : Type 0 where
  pub pass : Passing b d at p
  pub few : n ≤ p
  pub count_is : n + count_of (rest_of pass).map ≡ count_of (map_read_at b d at).map
  pub left : Left first (5 * i) (map_rows (map_read_at b d at).map at) rows (5 * k) (map_rows (rest_of pass).map p)

pub filling_start : (b : List ℕ) (d at : ℕ) (rows : List ℕ) (i : ℕ) → at ≤ length b → (map_read_at b d at).refusal ≡ 0 → Filling b d at rows i rows at i 0
filling_start b d at rows i l z = record { pass = passing_start b d at l z; few = omega arith; count_is = zero-add _; left = left_start }

-- an entry begins at p, and its value at q
pub record Row (b : List ℕ) (d at : ℕ) (first : List ℕ) (i : ℕ) (rows : List ℕ) (p k n q : ℕ) : Type 0 where
  pub few : n ≤ p
  pub far : p + 2 ≤ q
  pub within : q ≤ length b
  pub value : ValueAt b d q (value_read_at b d q)
  pub value_ok : (value_read_at b d q).refusal ≡ 0
  pub next : Passing b d at (value_read_at b d q).stop
  pub count_is : n + 1 + count_of (rest_of next).map ≡ count_of (map_read_at b d at).map
  pub left : Left first (5 * i) (map_rows (map_read_at b d at).map at) rows (5 * k)
      (entry_row (p + 2) (q - (p + 2)) (value_read_at b d q).value q ++ (inner_rows (value_read_at b d q).value q ++ map_rows (rest_of next).map (value_read_at b d q).stop))

left_as : {first all now more other : List ℕ} {at p : ℕ} → more ≡ other → Left first at all now p more → Left first at all now p other
left_as e l = rw e at l

pub stands_length : {b : List ℕ} {p q : ℕ} (xs : List ℕ) → Stands b p xs (drop q b) → q ≤ length b → p + length xs ≡ q
stands_length {b} {p} {q} xs s l =
    let n : length b - p ≡ length xs + (length b - q) = sym (length-drop p b) ∙ ap length s.bytes ∙ length-append xs (drop q b) ∙ ap (λ k. length xs + k) (length-drop q b) in
    omega (arith, s.place)

-- the rows of an entry, by places
entry_rows : (t : List ℕ) (v : Value) (m : Map) (p q r : ℕ) → p + length (text_bytes t) ≡ q → q + length (value_bytes v) ≡ r
    → map_rows (entry t v m) p ≡ entry_row (p + 2) (q - (p + 2)) v q ++ (inner_rows v q ++ map_rows m r)
unfolding map_rows
entry_rows t v m p q r e f =
    let n : length t ≡ q - (p + 2) = omega (arith, length_text t) in
    rw (e, f, n)

row_with : {b : List ℕ} {d at : ℕ} {first : List ℕ} {i : ℕ} {rows : List ℕ} {p k n : ℕ} (f : Filling b d at first i rows p k n) → Here b d at p (text_stop b p) f.pass → Row b d at first i rows p k n (text_stop b p)
unfolding count_of
row_with {b} {d} {at} {first} {i} {rows} {p} {k} {n} f x =
    let q = text_stop b p in
    let places = entry_rows (text_of b p) (value_read_at b d q).value (rest_of x.next).map p q (value_read_at b d q).stop
    (stands_length (text_bytes (text_of b p)) x.key.stands x.key.within) (stands_length (value_bytes (value_read_at b d q).value) x.value.stands x.value.within) in
    record {
      few = f.few;
      far = x.far;
      within = x.within;
      value = x.value;
      value_ok = x.value_ok;
      next = x.next;
      count_is = (let c = ap (λ (w : Seen). count_of w.map) x.is in omega (arith, c, f.count_is));
      left = left_as (ap (λ (w : Seen). map_rows w.map p) x.is ∙ places) f.left;
    }

pub row_of : {b : List ℕ} {d at : ℕ} {first : List ℕ} {i : ℕ} {rows : List ℕ} {p k n mark q : ℕ} → Bytes b → Filling b d at first i rows p k n → mark ≡ get_or b p 0 → mark ≡ 0x55 → q ≡ text_stop b p → Row b d at first i rows p k n q
row_of h f m e eq = rw eq (row_with f (here_of f.pass h m e refl))

nothing : (m : Map) (p : ℕ) → m ≡ empty → (count_of m ≡ 0) × (map_rows m p ≡ [])
unfolding count_of map_rows
nothing m p e = rw e (refl, refl)

pub filling_done : {b : List ℕ} {d at : ℕ} {first : List ℕ} {i : ℕ} {rows : List ℕ} {p k n mark : ℕ} → Filling b d at first i rows p k n → mark ≡ get_or b p 0 → (mark ≡ 0x55 → ⊥)
    → (p ≡ (map_read_at b d at).stop) × (n ≡ count_of (map_read_at b d at).map) × (n ≤ length b) × Wrote first rows (5 * i) (5 * k) (map_rows (map_read_at b d at).map at)
filling_done {b} {d} {at} {first} {i} {rows} {p} {k} {n} f m x =
    let none = nothing (rest_of f.pass).map p (ap (λ (w : Seen). w.map) (none_left f.pass m x)) in
    ((passing_done f.pass m x).0, sym (add-zero n) ∙ ap (λ k. n + k) (sym none.0) ∙ f.count_is, omega (arith, f.pass.within, f.few), left_done f.left none.1)

-- ---- a turn whose value is plain
same_plain : (b : List ℕ) (d q : ℕ) → (get_or b q 0 ≡ 0x7b → ⊥) → value_read_at b d q ≡ value_read_at b 0 q
unfolding value_in
same_plain b d q n = rw (ne_eqb (get_or b q 0) 0x7b n)

no_inner : (v : Value) (q : ℕ) → fits_value v 0 → inner_rows v q ≡ []
unfolding fits_value inner_rows
no_inner (text t) q f = refl
no_inner (number n) q f = refl
no_inner (map m) q f = absurd f

module _ {b : List ℕ} {d at : ℕ} {first : List ℕ} {i : ℕ} {rows : List ℕ} {p k n q mark : ℕ} (x : Row b d at first i rows p k n q) (m : mark ≡ get_or b q 0) (not_map : mark ≡ 0x7b → ⊥) where
  pub plain_ok : (value_read_at b 0 q).refusal ≡ 0
  plain_ok = sym (ap (λ (w : SeenValue). w.refusal) (same_plain b d q (λ e. not_map (m ∙ e)))) ∙ x.value_ok

  plain_as : (v w : SeenValue) → v ≡ w → ValueAt b d q v → ValueAt b 0 q w → {now after : List ℕ} {next : ℕ} {rest : List ℕ}
      → Left first (5 * i) (map_rows (map_read_at b d at).map at) now (5 * k) (entry_row (p + 2) (q - (p + 2)) v.value q ++ (inner_rows v.value q ++ rest))
      → Wrote now after (5 * k) next (entry_row (p + 2) (q - (p + 2)) w.value q)
      → Left first (5 * i) (map_rows (map_read_at b d at).map at) after next rest
  plain_as v w e y z {rest = rest} l wr =
      left_step l (ap (λ (u : SeenValue). entry_row (p + 2) (q - (p + 2)) u.value q ++ (inner_rows u.value q ++ rest)) e ∙ ap (λ (u : List ℕ). entry_row (p + 2) (q - (p + 2)) w.value q ++ (u ++ rest)) (no_inner w.value q z.fit)) wr

  pub plain_again : {after : List ℕ} {r : ℕ} → Bytes b → r ≡ (value_read_at b 0 q).stop → Wrote rows after (5 * k) (5 * k + 5) (entry_row (p + 2) (q - (p + 2)) (value_read_at b 0 q).value q)
      → Filling b d at first i after r (k + 1) (n + 1)
  plain_again {after} {r} h e w =
      let same = same_plain b d q (λ e. not_map (m ∙ e)) in
      let to : r ≡ (value_read_at b d q).stop = e ∙ sym (ap (λ (w : SeenValue). w.stop) same) in
      let v = value_sound b 0 q h (inside_sound b h 0) plain_ok in
      let five : 5 * k + 5 ≡ 5 * (k + 1) = omega arith in
      let w5 : Wrote rows after (5 * k) (5 * (k + 1)) (entry_row (p + 2) (q - (p + 2)) (value_read_at b 0 q).value q) = rw five at w in
      rw to (record {
        pass = x.next;
        few = omega (arith, x.few, x.far, x.value.far);
        count_is = x.count_is;
        left = plain_as (value_read_at b d q) (value_read_at b 0 q) same x.value v x.left w5;
      })

-- ---- a turn whose value is a map
-- a part is written behind another, and then that other
pub wrote_before : {before middle after xs ys : List ℕ} {at mid next end : ℕ} → mid ≡ at + length xs → Wrote before middle mid end ys → Wrote middle after at next xs → Wrote before after at end (xs ++ ys)
wrote_before {before} {middle} {after} {xs} {ys} {at} {mid} {next} {end} e w v = record {
  next_is = omega (arith, w.next_is, e, length-append xs ys);
  after_is =
      v.after_is
      ∙ ap₂ (λ (l m : List ℕ). splice l at m) (w.after_is ∙ ap (λ k. splice before k ys) e) (sym (append-nil xs))
      ∙ splice_behind before at xs [] [] ys refl
      ∙ ap (λ l. splice before at (l ++ ys)) (append-nil xs);
}

room_behind : {first all now : List ℕ} {at p q : ℕ} (xs ys rest : List ℕ) → Left first at all now p (xs ++ (ys ++ rest)) → Room first at all → q ≡ p + length xs → Room now q ys
room_behind xs ys rest l r e = record { fits = omega (arith, l.place, l.same, r.fits, e, length-append xs (ys ++ rest), length-append ys rest) }

module _ {b : List ℕ} {d at : ℕ} {first : List ℕ} {i : ℕ} {rows : List ℕ} {p k n q : ℕ} (x : Row b d at first i rows p k n q) (y : Deep b d q) where
  -- what is left, by the map inside
  deep_left : Left first (5 * i) (map_rows (map_read_at b d at).map at) rows (5 * k)
      ((2 ∷ (p + 2) ∷ (q - (p + 2)) ∷ count_of (map_read_at b (d - 1) (q + 1)).map ∷ 0 ∷ [])
      ++ (map_rows (map_read_at b (d - 1) (q + 1)).map (q + 1) ++ map_rows (rest_of x.next).map (value_read_at b d q).stop))
  unfolding kind_of fourth_of fifth_of inner_rows
  deep_left =
      left_as (ap (λ (v : SeenValue). entry_row (p + 2) (q - (p + 2)) v.value q ++ (inner_rows v.value q ++ map_rows (rest_of x.next).map (value_read_at b d q).stop)) y.is) x.left

  pub deep_room : Room first (5 * i) (map_rows (map_read_at b d at).map at) → Room rows (5 * (k + 1)) (map_rows (map_read_at b (d - 1) (q + 1)).map (q + 1))
  deep_room r = room_behind (2 ∷ (p + 2) ∷ (q - (p + 2)) ∷ count_of (map_read_at b (d - 1) (q + 1)).map ∷ 0 ∷ []) _ _ deep_left r (omega arith)

  pub deep_again : {middle after : List ℕ} {next stop count : ℕ} → stop ≡ (map_read_at b (d - 1) (q + 1)).stop → count ≡ count_of (map_read_at b (d - 1) (q + 1)).map
      → Wrote rows middle (5 * (k + 1)) (5 * next) (map_rows (map_read_at b (d - 1) (q + 1)).map (q + 1))
      → Wrote middle after (5 * k) (5 * k + 5) (2 ∷ (p + 2) ∷ (q - (p + 2)) ∷ count ∷ 0 ∷ [])
      → Filling b d at first i after (stop + 1) next (n + 1)
  deep_again {stop = stop} {count = count} e f w v =
      let to : stop + 1 ≡ (value_read_at b d q).stop = ap (λ k. k + 1) e ∙ sym (ap (λ (w : SeenValue). w.stop) y.is) in
      let both = wrote_before {xs = 2 ∷ (p + 2) ∷ (q - (p + 2)) ∷ count_of (map_read_at b (d - 1) (q + 1)).map ∷ 0 ∷ []} (let five : 5 * (k + 1) ≡ 5 * k + 5 = omega arith in five) w (rw f at v) in
      rw to (record {
        pass = x.next;
        few = omega (arith, x.few, x.far, x.value.far);
        count_is = x.count_is;
        left = left_step deep_left (sym (append_assoc (2 ∷ (p + 2) ∷ (q - (p + 2)) ∷ count_of (map_read_at b (d - 1) (q + 1)).map ∷ 0 ∷ []) (map_rows (map_read_at b (d - 1) (q + 1)).map (q + 1)) _)) both;
      })

-- there is room for the row
pub row_room : {b : List ℕ} {d at : ℕ} {first : List ℕ} {i : ℕ} {rows : List ℕ} {p k n q : ℕ} → Row b d at first i rows p k n q → Room first (5 * i) (map_rows (map_read_at b d at).map at)
    → (5 * k + 5 ≤ length rows) × (length rows ≡ length first)
row_room {b} {d} {p = p} {q = q} x r = ((left_room {x = entry_row (p + 2) (q - (p + 2)) (value_read_at b d q).value q} _ x.left refl r).fits, x.left.same)

-- the place moves on
module _ {b : List ℕ} {d at : ℕ} {first : List ℕ} {i : ℕ} {rows : List ℕ} {p k n q : ℕ} (x : Row b d at first i rows p k n q) where
  pub deep_far : {stop : ℕ} → Deep b d q → stop ≡ (map_read_at b (d - 1) (q + 1)).stop → (p < stop + 1) × (stop + 1 ≤ length b)
  deep_far y e = let to = ap (λ (w : SeenValue). w.stop) y.is in (omega (arith, to, e, x.far, x.value.far), omega (arith, y.stop_in, e))

  pub plain_far : {mark r : ℕ} → mark ≡ get_or b q 0 → (mark ≡ 0x7b → ⊥) → r ≡ (value_read_at b 0 q).stop → (p < r) × (r ≤ length b)
  plain_far m n e = let to = ap (λ (w : SeenValue). w.stop) (same_plain b d q (λ f. n (m ∙ f))) in (omega (arith, to, e, x.far, x.value.far), omega (arith, to, e, x.value.within))
