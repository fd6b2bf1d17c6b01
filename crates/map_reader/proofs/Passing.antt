-- Entries that were read, passed one by one: what stands at a value's place, and the entries behind it.
-- Assumes nothing.
use mathlib.Core.Path.{◌≡◌, refl, sym, ap, ◌∙◌}
use mathlib.Core.Bool.{Bool, true, false}
use mathlib.Core.List.{List, [], ◌∷◌, ◌++◌}
use Prim.Native.Nat.{ℕ, zero, suc, ◌+◌, ◌-◌, ◌≤◌, ◌<◌}
use native.Mathlib.Omega.{arith}
use native.Mathlib.Decide.{dec_lt, ℕ_discrete}
use borrow.Author.Tests.{eqb-false}
use lib.Dec.{lit<}
use lib.ListN.{length, get_or}
use Rattle.wire.specs.Wire.{part, number as number_of}
use Rattle.map.specs.Map.{text, number, map, empty, has}
use Rattle.map.proofs.Laws.{length_part}
use Rattle.map_reader.specs.Read.{Bytes, text_stop, text_of, Seen, SeenValue, joined, map_entries_in, inside, map_read_at, value_read_at}
use Rattle.map_reader.proofs.Places.{there}
use Rattle.map_reader.proofs.Steps.{value_text, value_no_text, value_number, value_no_number, value_none, map_here, map_deep, closed_refused, closed_open, closed_yes, text_some, other_some, entries_none, entries_cut, entries_twice, entries_bad, entries_more}
use Rattle.map_reader.proofs.Sound.{stop_yes, bad_value, bad_map, ValueAt, TextAt, text_sound, value_sound, inside_sound}

-- ---- a value that was read
pub record TextHere (b : List ℕ) (d q n : ℕ) : Type 0 where
  pub fits : q + 3 + n ≤ length b
  pub is : value_read_at b d q ≡ record { value = text (text_of b (q + 1)); stop = q + 3 + n; refusal = 0 }
  pub long : length (text_of b (q + 1)) ≡ n

pub text_here : (b : List ℕ) (d q : ℕ) {mark n : ℕ} → mark ≡ get_or b q 0 → mark ≡ 0x53 → (value_read_at b d q).refusal ≡ 0 → n ≡ get_or b (q + 2) 0 → TextHere b d q n
unfolding text_of
text_here b d q {n = n} m e z l = elim (ℕ_discrete (text_stop b (q + 1)) 0) [
  | yes y ↦ bad_value _ (value_no_text b d q m e refl y refl) (text_some b (q + 1)) z
  | no x ↦
      let (mark, fit, stop) = stop_yes b (q + 1) x in
      let same : get_or b (q + 1 + 1) 0 ≡ n = ap (λ k. get_or b k 0) (let two : q + 1 + 1 ≡ q + 2 = omega arith in two) ∙ sym l in
      let to : text_stop b (q + 1) ≡ q + 3 + n = omega arith in
      record { fits = omega arith; is = value_text b d q m e (sym to) (λ k. absurd (omega arith)); long = length_part b (q + 1 + 2) (get_or b (q + 1 + 1) 0) fit ∙ same }
]

pub record NumberHere (b : List ℕ) (d q : ℕ) : Type 0 where
  pub fits : q + 5 ≤ length b
  pub is : value_read_at b d q ≡ record { value = number (number_of (part b (q + 1) 4)); stop = q + 5; refusal = 0 }

pub number_here : (b : List ℕ) (d q : ℕ) {mark : ℕ} → mark ≡ get_or b q 0 → (mark ≡ 0x53 → ⊥) → mark ≡ 0x6c → (value_read_at b d q).refusal ≡ 0 → NumberHere b d q
number_here b d q m n1 e z = elim (dec_lt (length b) (q + 5)) [
  | yes l ↦ bad_value 23 (value_no_number b d q m n1 e l) (eqb-false 23 0 refl) z
  | no r ↦ record { fits = omega arith; is = value_number b d q m n1 e (omega arith) }
]

pub record Deep (b : List ℕ) (d q : ℕ) : Type 0 where
  pub deep : 1 ≤ d
  pub ok : (map_read_at b (d - 1) (q + 1)).refusal ≡ 0
  pub within : q + 1 ≤ length b
  pub stop_in : (map_read_at b (d - 1) (q + 1)).stop + 1 ≤ length b
  pub is : value_read_at b d q ≡ record { value = map (map_read_at b (d - 1) (q + 1)).map; stop = (map_read_at b (d - 1) (q + 1)).stop + 1; refusal = 0 }

pub deep_of : (b : List ℕ) (d q : ℕ) {mark : ℕ} → mark ≡ get_or b q 0 → mark ≡ 0x7b → (value_read_at b d q).refusal ≡ 0 → Deep b d q
deep_of b d q m e z =
    let mk = sym m ∙ e in
    let n1 : get_or b q 0 ≡ 0x53 → ⊥ = λ f. eqb-false 0x7b 0x53 refl (sym mk ∙ f) in
    let n2 : get_or b q 0 ≡ 0x6c → ⊥ = λ f. eqb-false 0x7b 0x6c refl (sym mk ∙ f) in
    elim (ℕ_discrete d 0) [
      | yes y ↦ bad_value 20 (map_deep b d q refl n1 n2 mk y) (eqb-false 20 0 refl) z
      | no deep ↦
          let g = map_read_at b (d - 1) (q + 1) in
          let c = map_here b d q refl n1 n2 mk deep {r = g.refusal} {s = g.stop} refl refl in
          elim (ℕ_discrete g.refusal 0) [
            | no r ↦ bad_value g.refusal (c ∙ closed_refused b g refl refl r) r z
            | yes y ↦ elim (ℕ_discrete (get_or b g.stop 0) 0x7d) [
              | no r ↦ bad_value _ (c ∙ closed_open b g refl refl y refl r refl) (other_some b g.stop) z
              | yes w ↦ record {
                deep = omega arith;
                ok = y;
                within = (let l = there b q mk (lit< tt) in omega arith);
                stop_in = (let l = there b g.stop w (lit< tt) in omega arith);
                is = c ∙ closed_yes b g refl refl y refl w;
              }
            ]
          ]
    ]

-- what is neither a text nor a number is a map
pub deep_else : (b : List ℕ) (d q : ℕ) {mark : ℕ} → mark ≡ get_or b q 0 → (mark ≡ 0x53 → ⊥) → (mark ≡ 0x6c → ⊥) → (value_read_at b d q).refusal ≡ 0 → Deep b d q
deep_else b d q {mark} m n1 n2 z = elim (ℕ_discrete mark 0x7b) [
  | yes e ↦ deep_of b d q m e z
  | no n3 ↦ bad_value 23 (value_none b d q m n1 n2 n3) (eqb-false 23 0 refl) z
]

pub stop_as : {v w : SeenValue} {r : ℕ} → v ≡ w → r ≡ w.stop → r ≡ v.stop
stop_as e f = f ∙ sym (ap (λ (x : SeenValue). x.stop) e)

-- ---- the loop
pub record Passing (b : List ℕ) (d at p : ℕ) : Type 0 where
  pub keys : List (List ℕ)
  pub most : ℕ
  pub within : p ≤ length b
  pub enough : length b < p + most
  pub ok : (map_entries_in (inside b d) b keys most p).refusal ≡ 0
  pub stop_is : (map_entries_in (inside b d) b keys most p).stop ≡ (map_read_at b d at).stop

-- what is left to read
abbrev pub rest_of : {b : List ℕ} {d at p : ℕ} → Passing b d at p → Seen
rest_of {b} {d} {at} {p} g = map_entries_in (inside b d) b g.keys g.most p

abbrev pub passing_start : (b : List ℕ) (d at : ℕ) → at ≤ length b → (map_read_at b d at).refusal ≡ 0 → Passing b d at at
passing_start b d at l z = record { keys = []; most = suc (length b); within = l; enough = omega arith; ok = z; stop_is = refl }

-- an entry begins at p, and its value at q
pub record Here (b : List ℕ) (d at p q : ℕ) (g : Passing b d at p) : Type 0 where
  pub key : TextAt b p
  pub q_is : q ≡ text_stop b p
  pub far : p + 2 ≤ q
  pub within : q ≤ length b
  pub value_ok : (value_read_at b d q).refusal ≡ 0
  pub value : ValueAt b d q (value_read_at b d q)
  pub next : Passing b d at (value_read_at b d q).stop
  pub is : rest_of g ≡ joined (text_of b p) (value_read_at b d q) (rest_of next)

here_key : (b : List ℕ) (d at p : ℕ) (g : Passing b d at p) → Bytes b → get_or b p 0 ≡ 0x55 → (t : Bool) → has g.keys (text_of b p) ≡ t → (most : ℕ)
    → rest_of g ≡ map_entries_in (inside b d) b g.keys (suc most) p → (map_entries_in (inside b d) b g.keys (suc most) p).refusal ≡ 0 → (text_stop b p ≡ 0 → ⊥) → length b ≤ p + most → Here b d at p (text_stop b p) g
here_key b d at p g h e true t most same ok x far = bad_map 22 (entries_twice (inside b d) b g.keys most p e x t) (eqb-false 22 0 refl) ok
here_key b d at p g h e false f most same ok x far = elim (ℕ_discrete (value_read_at b d (text_stop b p)).refusal 0) [
  | no r ↦ bad_map _ (entries_bad (inside b d) b g.keys most p e x f r) r ok
  | yes y ↦
      let t = text_sound b p h x in
      let v = value_sound b d (text_stop b p) h (inside_sound b h d) y in
      let j = entries_more (inside b d) b g.keys most p e x f y in
      record {
        key = t;
        q_is = refl;
        far = t.far;
        within = t.within;
        value_ok = y;
        value = v;
        next = record {
          keys = g.keys ++ (text_of b p ∷ []);
          most = most;
          within = v.within;
          enough = omega (arith, t.far, v.far);
          ok = sym (ap (λ (w : Seen). w.refusal) j) ∙ ok;
          stop_is = sym (ap (λ (w : Seen). w.stop) (same ∙ j)) ∙ g.stop_is;
        };
        is = same ∙ j;
      }
]

here_with : (b : List ℕ) (d at p : ℕ) (g : Passing b d at p) → Bytes b → get_or b p 0 ≡ 0x55 → Here b d at p (text_stop b p) g
here_with b d at p g h e = go g.most refl
  where
    go : (n : ℕ) → g.most ≡ n → Here b d at p (text_stop b p) g
    go zero q = absurd (omega (arith, g.within, g.enough))
    go (suc most) q =
        let same : rest_of g ≡ map_entries_in (inside b d) b g.keys (suc most) p = ap (λ n. map_entries_in (inside b d) b g.keys n p) q in
        let ok = sym (ap (λ (w : Seen). w.refusal) same) ∙ g.ok in
        elim (ℕ_discrete (text_stop b p) 0) [
          | yes y ↦ bad_map 23 (entries_cut (inside b d) b g.keys most p e y) (eqb-false 23 0 refl) ok
          | no x ↦ here_key b d at p g h e (has g.keys (text_of b p)) refl most same ok x (omega (arith, g.enough, q))
        ]

pub here_of : {b : List ℕ} {d at p mark q : ℕ} (g : Passing b d at p) → Bytes b → mark ≡ get_or b p 0 → mark ≡ 0x55 → q ≡ text_stop b p → Here b d at p q g
here_of {b} {d} {at} {p} g h m e eq = rw eq (here_with b d at p g h (sym m ∙ e))

pub none_left : {b : List ℕ} {d at p mark : ℕ} (g : Passing b d at p) → mark ≡ get_or b p 0 → (mark ≡ 0x55 → ⊥) → rest_of g ≡ record { map = empty; stop = p; refusal = 0 }
none_left {b} {d} {at} {p} g m x = go g.most refl
  where
    go : (n : ℕ) → g.most ≡ n → rest_of g ≡ record { map = empty; stop = p; refusal = 0 }
    go zero q = absurd (omega (arith, g.within, g.enough))
    go (suc most) q = ap (λ n. map_entries_in (inside b d) b g.keys n p) q ∙ entries_none (inside b d) b g.keys most p (λ e. x (m ∙ e))

pub passing_done : {b : List ℕ} {d at p mark : ℕ} → Passing b d at p → mark ≡ get_or b p 0 → (mark ≡ 0x55 → ⊥) → (p ≡ (map_read_at b d at).stop) × (p ≤ length b)
passing_done g m x = (sym (ap (λ (w : Seen). w.stop) (none_left g m x)) ∙ g.stop_is, g.within)

pub passing_on : {b : List ℕ} {d at p q r : ℕ} {g : Passing b d at p} → Here b d at p q g → r ≡ (value_read_at b d q).stop → Passing b d at r
passing_on x e = rw e x.next
