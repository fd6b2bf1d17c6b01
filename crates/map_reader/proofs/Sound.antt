-- Whatever is read is the body of a map that fits, and the reader stops where no entry begins.
-- Assumes nothing.
use mathlib.Core.Path.{◌≡◌, refl, sym, ap, ◌∙◌}
use mathlib.Core.Bool.{Bool, true, false}
use mathlib.Core.List.{List, [], ◌∷◌, ◌++◌}
use Prim.Native.Nat.{ℕ, zero, suc, ◌+◌, ◌≤◌, ◌<◌}
use native.Mathlib.Omega.{arith}
use native.Mathlib.Decide.{dec_lt, ℕ_discrete}
use borrow.Author.Tests.{eqb-true, eqb-false, leb-true}
use lib.Dec.{eqb, leb, lit<}
use lib.ListN.{length, drop, get_or}
use Rattle.wire.specs.Wire.{part}
use Rattle.map.specs.Map.{map, Map, text_bytes, value_bytes, body_of, fits_value, fits, has, twice_value, twice_in}
use Rattle.map_reader.specs.Read.{Bytes, text_stop, text_of, Seen, SeenValue, refused, stopped, closed_map, joined, map_entries_in, inside, map_read_at, value_read_at}
use Rattle.map.proofs.Laws.{length_part}
use Rattle.map_reader.proofs.Places.{Stands, stands_cons, stands_part, stands_append, there, be_number, part_bytes}
use Rattle.map_reader.proofs.Steps.{value_text, value_no_text, value_number, value_no_number, value_none, value_map, closed_refused, closed_open, closed_yes, text_some, other_some, entries_none, entries_cut, entries_twice, entries_bad, entries_more}

moved : {b : List ℕ} {p q : ℕ} {xs rest : List ℕ} → p ≡ q → Stands b p xs rest → Stands b q xs rest
moved e s = rw e at s

-- a text at p
pub record TextAt (b : List ℕ) (p : ℕ) : Type 0 where
  pub short : length (text_of b p) < 256
  pub far : p + 2 ≤ text_stop b p
  pub within : text_stop b p ≤ length b
  pub stands : Stands b p (text_bytes (text_of b p)) (drop (text_stop b p) b)

pub stop_yes : (b : List ℕ) (p : ℕ) → (text_stop b p ≡ 0 → ⊥) → (get_or b p 0 ≡ 0x55) × (p + 2 + get_or b (p + 1) 0 ≤ length b) × (text_stop b p ≡ p + 2 + get_or b (p + 1) 0)
unfolding text_stop
stop_yes b p n = go (eqb (get_or b p 0) 0x55) refl (leb (p + 2 + get_or b (p + 1) 0) (length b)) refl
  where
    go : (s : Bool) → eqb (get_or b p 0) 0x55 ≡ s → (t : Bool) → leb (p + 2 + get_or b (p + 1) 0) (length b) ≡ t
        → (get_or b p 0 ≡ 0x55) × (p + 2 + get_or b (p + 1) 0 ≤ length b) × (text_stop b p ≡ p + 2 + get_or b (p + 1) 0)
    go true e true f = (eqb-true (get_or b p 0) 0x55 e, leb-true (p + 2 + get_or b (p + 1) 0) (length b) f, rw (e, f))
    go true e false f = absurd (n (rw (e, f)))
    go false e t f = absurd (n (rw e))

pub text_sound : (b : List ℕ) (p : ℕ) → Bytes b → (text_stop b p ≡ 0 → ⊥) → TextAt b p
unfolding text_bytes text_of
text_sound b p h n =
    let (mark, fit, stop) = stop_yes b p n in
    let k = get_or b (p + 1) 0 in
    let len : length (part b (p + 2) k) ≡ k = length_part b (p + 2) k fit in
    record {
      short = rw len (h (p + 1));
      far = omega arith;
      within = omega arith;
      stands = rw stop (stands_cons (omega arith) mark (stands_cons (omega arith) (sym len) (moved (omega arith) (stands_part {p = p + 2} k fit))));
    }

-- what was read at p, of a map and of a value
pub record MapAt (b : List ℕ) (p : ℕ) (F : Map → Type 0) (g : Seen) : Type 0 where
  pub fit : F g.map
  pub far : p ≤ g.stop
  pub within : g.stop ≤ length b
  pub stands : Stands b p (body_of g.map) (drop g.stop b)
  pub ends : get_or b g.stop 0 ≡ 0x55 → ⊥

pub record ValueAt (b : List ℕ) (d p : ℕ) (v : SeenValue) : Type 0 where
  pub fit : fits_value v.value d
  pub once : twice_value v.value ≡ false
  pub far : p < v.stop
  pub within : v.stop ≤ length b
  pub stands : Stands b p (value_bytes v.value) (drop v.stop b)

pub bad_value : {A : Type 0} {v : SeenValue} (n : ℕ) {p : ℕ} → v ≡ refused n p → (n ≡ 0 → ⊥) → v.refusal ≡ 0 → A
bad_value n e h z = absurd (h (sym (ap (λ (w : SeenValue). w.refusal) e) ∙ z))

pub bad_map : {A : Type 0} {g : Seen} (n : ℕ) {p : ℕ} → g ≡ stopped n p → (n ≡ 0 → ⊥) → g.refusal ≡ 0 → A
bad_map n e h z = absurd (h (sym (ap (λ (w : Seen). w.refusal) e) ∙ z))

-- values, by their mark
module _ (b : List ℕ) (d p : ℕ) (h : Bytes b) where
  value_as : (v : SeenValue) → value_read_at b d p ≡ v → ValueAt b d p v → ValueAt b d p (value_read_at b d p)
  value_as v e x = rw e x

  text_value_sound : get_or b p 0 ≡ 0x53 → (value_read_at b d p).refusal ≡ 0 → ValueAt b d p (value_read_at b d p)
  unfolding value_bytes fits_value twice_value
  text_value_sound mark z = elim (ℕ_discrete (text_stop b (p + 1)) 0) [
    | yes e ↦ bad_value _ (value_no_text b d p refl mark refl e refl) (text_some b (p + 1)) z
    | no n ↦
        let t = text_sound b (p + 1) h n in
        value_as _ (value_text b d p refl mark refl n) (record {
          fit = t.short;
          once = refl;
          far = omega (arith, t.far);
          within = t.within;
          stands = stands_cons (there b p mark (lit< tt)) mark t.stands;
        })
  ]

  number_value_sound : get_or b p 0 ≡ 0x6c → (value_read_at b d p).refusal ≡ 0 → ValueAt b d p (value_read_at b d p)
  unfolding value_bytes fits_value twice_value
  number_value_sound mark z = elim (dec_lt (length b) (p + 5)) [
    | yes l ↦ bad_value 23 (value_no_number b d p refl (λ e. eqb-false 0x6c 0x53 refl (sym mark ∙ e)) mark l) (eqb-false 23 0 refl) z
    | no n ↦
        let fit : p + 1 + 4 ≤ length b = omega arith in
        let (same, small) = be_number (part b (p + 1) 4) 4 (length_part b (p + 1) 4 fit) (part_bytes b (p + 1) 4 h) in
        let to : p + 1 + 4 ≡ p + 5 = omega arith in
        value_as _ (value_number b d p refl (λ e. eqb-false 0x6c 0x53 refl (sym mark ∙ e)) mark (omega arith)) (record {
          fit = small;
          once = refl;
          far = omega arith;
          within = omega arith;
          stands = stands_cons (omega arith) mark (rw (same, ← to) (stands_part {p = p + 1} 4 fit));
        })
  ]

  map_value_sound : ((q : ℕ) → q < length b → (inside b d q).refusal ≡ 0 → MapAt b (q + 1) (λ m. fits_value (map m) d × (twice_in [] m ≡ false)) (inside b d q))
      → get_or b p 0 ≡ 0x7b → (value_read_at b d p).refusal ≡ 0 → ValueAt b d p (value_read_at b d p)
  unfolding value_bytes twice_value
  map_value_sound inner mark z =
      let g = inside b d p in
      let e : value_read_at b d p ≡ closed_map b g = value_map b d p refl (λ e. eqb-false 0x7b 0x53 refl (sym mark ∙ e)) (λ e. eqb-false 0x7b 0x6c refl (sym mark ∙ e)) mark in
      elim (ℕ_discrete g.refusal 0) [
        | no n ↦ bad_value g.refusal (e ∙ closed_refused b g refl refl n) n z
        | yes y ↦ elim (ℕ_discrete (get_or b g.stop 0) 0x7d) [
          | no n ↦ bad_value _ (e ∙ closed_open b g refl refl y refl n refl) (other_some b g.stop) z
          | yes w ↦
              let in1 = there b p mark (lit< tt) in
              let in2 = there b g.stop w (lit< tt) in
              let x = inner p in1 y in
              value_as _ (e ∙ closed_yes b g refl refl y refl w) (record {
                fit = x.fit.0;
                once = x.fit.1;
                far = omega (arith, x.far);
                within = omega arith;
                stands = stands_cons in1 mark (stands_append x.stands (stands_cons in2 w (record { place = omega arith; bytes = refl })));
              })
        ]
      ]

-- maps inside a map that may nest d deep are read rightly
abbrev pub Inside : List ℕ → ℕ → Type 0
Inside b d = (q : ℕ) → q < length b → (inside b d q).refusal ≡ 0 → MapAt b (q + 1) (λ m. fits_value (map m) d × (twice_in [] m ≡ false)) (inside b d q)

pub value_sound : (b : List ℕ) (d p : ℕ) → Bytes b → Inside b d → (value_read_at b d p).refusal ≡ 0 → ValueAt b d p (value_read_at b d p)
value_sound b d p h inner z = elim (ℕ_discrete (get_or b p 0) 0x53) [
  | yes e ↦ text_value_sound b d p h e z
  | no n1 ↦ elim (ℕ_discrete (get_or b p 0) 0x6c) [
    | yes e ↦ number_value_sound b d p h e z
    | no n2 ↦ elim (ℕ_discrete (get_or b p 0) 0x7b) [
      | yes e ↦ map_value_sound b d p h inner e z
      | no n3 ↦ bad_value 23 (value_none b d p refl n1 n2 n3) (eqb-false 23 0 refl) z
    ]
  ]
]

map_as : (b : List ℕ) (p : ℕ) (F : Map → Type 0) (g k : Seen) → g ≡ k → MapAt b p F k → MapAt b p F g
map_as b p F g k e x = rw e x

-- entries behind these keys: they fit, and repeat none
abbrev pub Apart : ℕ → List (List ℕ) → Map → Type 0
Apart d keys m = fits m d × (twice_in keys m ≡ false)

entry_sound : (b : List ℕ) (d p most : ℕ) (keys : List (List ℕ)) → Bytes b → Inside b d → get_or b p 0 ≡ 0x55 → (text_stop b p ≡ 0 → ⊥) → has keys (text_of b p) ≡ false → (value_read_at b d (text_stop b p)).refusal ≡ 0
    → (map_entries_in (inside b d) b keys (suc most) p).refusal ≡ 0
    → ((q : ℕ) → q ≤ length b → (map_entries_in (inside b d) b (keys ++ (text_of b p ∷ [])) most q).refusal ≡ 0 → MapAt b q (Apart d (keys ++ (text_of b p ∷ []))) (map_entries_in (inside b d) b (keys ++ (text_of b p ∷ [])) most q))
    → MapAt b p (Apart d keys) (map_entries_in (inside b d) b keys (suc most) p)
unfolding body_of fits twice_in
entry_sound b d p most keys h inner e n f y z others =
    let v = value_read_at b d (text_stop b p) in
    let t = text_sound b p h n in
    let x = value_sound b d (text_stop b p) h inner y in
    let j = entries_more (inside b d) b keys most p e n f y in
    let r = others v.stop x.within (sym (ap (λ (w : Seen). w.refusal) j) ∙ z) in
    map_as b p (Apart d keys) (map_entries_in (inside b d) b keys (suc most) p) (joined (text_of b p) v (map_entries_in (inside b d) b (keys ++ (text_of b p ∷ [])) most v.stop)) j (record {
      fit = ((t.short, x.fit, r.fit.0), rw (f, x.once) r.fit.1);
      far = omega (arith, t.far, x.far, r.far);
      within = r.within;
      stands = stands_append t.stands (stands_append x.stands r.stands);
      ends = r.ends;
    })

key_sound : (b : List ℕ) (d most p : ℕ) (keys : List (List ℕ)) → Bytes b → Inside b d → get_or b p 0 ≡ 0x55 → (text_stop b p ≡ 0 → ⊥) → (map_entries_in (inside b d) b keys (suc most) p).refusal ≡ 0
    → ((q : ℕ) → q ≤ length b → (map_entries_in (inside b d) b (keys ++ (text_of b p ∷ [])) most q).refusal ≡ 0 → MapAt b q (Apart d (keys ++ (text_of b p ∷ []))) (map_entries_in (inside b d) b (keys ++ (text_of b p ∷ [])) most q))
    → MapAt b p (Apart d keys) (map_entries_in (inside b d) b keys (suc most) p)
key_sound b d most p keys h inner e n z others = go (has keys (text_of b p)) refl
  where
    go : (t : Bool) → has keys (text_of b p) ≡ t → MapAt b p (Apart d keys) (map_entries_in (inside b d) b keys (suc most) p)
    go true t = bad_map 22 (entries_twice (inside b d) b keys most p e n t) (eqb-false 22 0 refl) z
    go false f = elim (ℕ_discrete (value_read_at b d (text_stop b p)).refusal 0) [
      | no r ↦ bad_map _ (entries_bad (inside b d) b keys most p e n f r) r z
      | yes y ↦ entry_sound b d p most keys h inner e n f y z others
    ]

pub entries_sound : (b : List ℕ) (d : ℕ) → Bytes b → Inside b d → (most p : ℕ) (keys : List (List ℕ)) → p ≤ length b → (map_entries_in (inside b d) b keys most p).refusal ≡ 0
    → MapAt b p (Apart d keys) (map_entries_in (inside b d) b keys most p)
unfolding map_entries_in body_of fits twice_in
entries_sound b d h inner zero p keys l z = absurd (omega arith)
entries_sound b d h inner (suc most) p keys l z = elim (ℕ_discrete (get_or b p 0) 0x55) [
  | no n ↦ map_as b p _ _ _ (entries_none (inside b d) b keys most p n) (record { fit = (tt, refl); far = omega arith; within = l; stands = record { place = l; bytes = refl }; ends = n })
  | yes e ↦ elim (ℕ_discrete (text_stop b p) 0) [
    | yes y ↦ bad_map 23 (entries_cut (inside b d) b keys most p e y) (eqb-false 23 0 refl) z
    | no n ↦ key_sound b d most p keys h inner e n z (λ q k w. entries_sound b d h inner most q (keys ++ (text_of b p ∷ [])) k w)
  ]
]

pub inside_sound : (b : List ℕ) → Bytes b → (d : ℕ) → Inside b d
unfolding inside fits_value
inside_sound b h zero q l z = absurd (omega arith)
inside_sound b h (suc d) q l z = entries_sound b d h (inside_sound b h d) (suc (length b)) (q + 1) [] (omega arith) z

pub sound : (b : List ℕ) (d p : ℕ) → Bytes b → p ≤ length b → (map_read_at b d p).refusal ≡ 0 → MapAt b p (Apart d []) (map_read_at b d p)
sound b d p h l z = entries_sound b d h (inside_sound b h d) (suc (length b)) p [] l z
