-- The first wrong place decides: no body that begins with the same bytes up to that place is wrong before it.
-- Assumes nothing.
use mathlib.Core.Path.{◌≡◌, refl, sym, ap, ap₂, ◌∙◌}
use mathlib.Core.Bool.{Bool, true, false}
use mathlib.Core.List.{List, [], ◌∷◌, ◌++◌}
use Prim.Native.Nat.{ℕ, zero, suc, ◌+◌, ◌-◌, ◌≤◌, ◌<◌}
use native.Mathlib.Omega.{arith}
use native.Mathlib.Decide.{dec_lt, ℕ_discrete}
use lib.ListN.{length, get_or, drop}
use Rattle.wire.specs.Wire.{part}
use Rattle.map.specs.Map.{text_bytes, value_bytes, has}
use Rattle.map.proofs.Laws.{length_part}
use Rattle.map.proofs.KeyLaws.{part_cons, part_none}
use Rattle.map_reader.specs.Read.{Bytes, text_stop, text_of, Seen, SeenValue, refused, closed_map, map_entries_in, inside, map_read_at, value_read_at}
use Rattle.map_reader.specs.Answer.{whole_map}
use Rattle.map_reader.proofs.Places.{Stands, stands_part, part_is, there}
use Rattle.map_reader.proofs.Steps.{value_text, value_no_text, value_number, value_no_number, value_none, value_map, inside_none, inside_is, closed_refused, closed_open, closed_yes, entries_none, entries_cut, entries_twice, entries_bad, entries_more}
use Rattle.map_reader.proofs.Sound.{stop_yes, text_sound, value_sound, inside_sound}
use Rattle.map_reader.proofs.Fills.{stands_length}
use Rattle.map_reader.proofs.Answers.{whole_refused, whole_yes, whole_more}
use Rattle.law_map.specs.Terms.{SameFront}
use Rattle.law_map.proofs.Complete.{text_complete, value_complete}

-- the reader never goes back: from a place on it stops, well or not, at that place or behind it
closed_far : (b : List ℕ) (g : Seen) → g.stop ≤ (closed_map b g).stop
closed_far b g = elim (ℕ_discrete g.refusal 0) [
  | no n ↦ let e = ap (λ (v : SeenValue). v.stop) (closed_refused b g refl refl n) in omega (arith, e)
  | yes z ↦ elim (ℕ_discrete (get_or b g.stop 0) 0x7d) [
    | no n ↦ let e = ap (λ (v : SeenValue). v.stop) (closed_open b g refl refl z refl n refl) in omega (arith, e)
    | yes w ↦ let e = ap (λ (v : SeenValue). v.stop) (closed_yes b g refl refl z refl w) in omega (arith, e)
  ]
]

abbrev pub Forward : List ℕ → ℕ → Type 0
Forward b d = (q : ℕ) → q ≤ (inside b d q).stop

text_far : (b : List ℕ) (d p : ℕ) → get_or b p 0 ≡ 0x53 → p + 1 ≤ (value_read_at b d p).stop
text_far b d p m = elim (ℕ_discrete (text_stop b (p + 1)) 0) [
  | yes z ↦ let e = ap (λ (v : SeenValue). v.stop) (value_no_text b d p refl m refl z refl) in omega (arith, e)
  | no n ↦ let e = ap (λ (v : SeenValue). v.stop) (value_text b d p refl m refl n) in omega (arith, e, (stop_yes b (p + 1) n).2)
]

pub value_far : (b : List ℕ) (d p : ℕ) → Forward b d → p ≤ (value_read_at b d p).stop
value_far b d p inner = elim (ℕ_discrete (get_or b p 0) 0x53) [
  | yes m ↦ omega (arith, text_far b d p m)
  | no n1 ↦ elim (ℕ_discrete (get_or b p 0) 0x6c) [
    | yes m ↦ elim (dec_lt (length b) (p + 5)) [
      | yes l ↦ let e = ap (λ (v : SeenValue). v.stop) (value_no_number b d p refl n1 m l) in omega (arith, e)
      | no l ↦ let e = ap (λ (v : SeenValue). v.stop) (value_number b d p refl n1 m (omega arith)) in omega (arith, e)
    ]
    | no n2 ↦ elim (ℕ_discrete (get_or b p 0) 0x7b) [
      | yes m ↦ let e = ap (λ (v : SeenValue). v.stop) (value_map b d p refl n1 n2 m) in omega (arith, e, closed_far b (inside b d p), inner p)
      | no n3 ↦ let e = ap (λ (v : SeenValue). v.stop) (value_none b d p refl n1 n2 n3) in omega (arith, e)
    ]
  ]
]

none_far : (b : List ℕ) (d p : ℕ) (keys : List (List ℕ)) → (map_entries_in (inside b d) b keys 0 p).stop ≡ p
unfolding map_entries_in
none_far b d p keys = refl

-- an entry's key and value are passed, or the place is its own
data Passed (b : List ℕ) (d : ℕ) (keys : List (List ℕ)) (most p : ℕ) : Type 0 where
  stays : (map_entries_in (inside b d) b keys (suc most) p).stop ≡ p → Passed b d keys most p
  bad : get_or b p 0 ≡ 0x55 → (text_stop b p ≡ 0 → ⊥) → has keys (text_of b p) ≡ false → ((value_read_at b d (text_stop b p)).refusal ≡ 0 → ⊥)
      → (map_entries_in (inside b d) b keys (suc most) p).stop ≡ (value_read_at b d (text_stop b p)).stop → Passed b d keys most p
  goes : get_or b p 0 ≡ 0x55 → (text_stop b p ≡ 0 → ⊥) → has keys (text_of b p) ≡ false → (value_read_at b d (text_stop b p)).refusal ≡ 0
      → (map_entries_in (inside b d) b keys (suc most) p).stop ≡ (map_entries_in (inside b d) b (keys ++ (text_of b p ∷ [])) most (value_read_at b d (text_stop b p)).stop).stop → Passed b d keys most p

key_passed : (b : List ℕ) (d : ℕ) (keys : List (List ℕ)) (most p : ℕ) → get_or b p 0 ≡ 0x55 → (text_stop b p ≡ 0 → ⊥) → (t : Bool) → has keys (text_of b p) ≡ t → Passed b d keys most p
key_passed b d keys most p m n true t = stays (ap (λ (g : Seen). g.stop) (entries_twice (inside b d) b keys most p m n t))
key_passed b d keys most p m n false f = elim (ℕ_discrete (value_read_at b d (text_stop b p)).refusal 0) [
  | no r ↦ bad m n f r (ap (λ (g : Seen). g.stop) (entries_bad (inside b d) b keys most p m n f r))
  | yes z ↦ goes m n f z (ap (λ (g : Seen). g.stop) (entries_more (inside b d) b keys most p m n f z))
]

passed : (b : List ℕ) (d : ℕ) (keys : List (List ℕ)) (most p : ℕ) → Passed b d keys most p
passed b d keys most p = elim (ℕ_discrete (get_or b p 0) 0x55) [
  | no n ↦ stays (ap (λ (g : Seen). g.stop) (entries_none (inside b d) b keys most p n))
  | yes m ↦ elim (ℕ_discrete (text_stop b p) 0) [
    | yes z ↦ stays (ap (λ (g : Seen). g.stop) (entries_cut (inside b d) b keys most p m z))
    | no n ↦ key_passed b d keys most p m n (has keys (text_of b p)) refl
  ]
]

pub entries_far : (b : List ℕ) (d : ℕ) → Forward b d → (most p : ℕ) (keys : List (List ℕ)) → p ≤ (map_entries_in (inside b d) b keys most p).stop
entries_far b d inner zero p keys = let e = none_far b d p keys in omega (arith, e)
entries_far b d inner (suc most) p keys = go (passed b d keys most p) (λ q ks. entries_far b d inner most q ks)
  where
    go : Passed b d keys most p → ((q : ℕ) (ks : List (List ℕ)) → q ≤ (map_entries_in (inside b d) b ks most q).stop) → p ≤ (map_entries_in (inside b d) b keys (suc most) p).stop
    go (stays e) rest = omega (arith, e)
    go (bad m n f r e) rest = omega (arith, e, (stop_yes b p n).2, value_far b d (text_stop b p) inner)
    go (goes m n f z e) rest = let k = rest (value_read_at b d (text_stop b p)).stop (keys ++ (text_of b p ∷ [])) in omega (arith, e, (stop_yes b p n).2, value_far b d (text_stop b p) inner, k)

pub inside_far : (b : List ℕ) (d : ℕ) → Forward b d
inside_far b zero q = let e = ap (λ (g : Seen). g.stop) (inside_none b 0 q refl) in omega (arith, e)
inside_far b (suc d) q =
    let less : suc d - 1 ≡ d = omega arith in
    let e = ap (λ (g : Seen). g.stop) (inside_is b (suc d) q (λ z. absurd (omega arith)) ∙ ap (λ k. map_read_at b k (q + 1)) less) in
    omega (arith, e, entries_far b d (inside_far b d) (suc (length b)) (q + 1) [])

-- ---- two bodies with the same first s bytes
same_part : {b c : List ℕ} {s : ℕ} → SameFront b c s → (n p : ℕ) → p + n ≤ s → part b p n ≡ part c p n
same_part {b} {c} a zero p h = part_none b p ∙ sym (part_none c p)
same_part {b} {c} a (suc n) p h =
    part_cons b p n (omega (arith, a.in_first)) ∙ ap₂ (λ (x : ℕ) (l : List ℕ). x ∷ l) (a.same p (omega arith)) (same_part a n (p + 1) (omega arith)) ∙ sym (part_cons c p n (omega (arith, a.in_second)))

pub stands_there : {b c : List ℕ} {s p q : ℕ} (xs : List ℕ) → SameFront b c s → Stands b p xs (drop q b) → q ≤ s → Stands c p xs (drop q c) × (p + length xs ≡ q)
stands_there {b} {c} {s} {p} {q} xs a st h =
    let e = stands_length {q = q} xs st (omega (arith, a.in_first)) in
    let (is, fit) = part_is xs st in
    let both : part c p (length xs) ≡ xs = sym (same_part a (length xs) p (omega (arith, e))) ∙ is in
    (stands_as both e (stands_part {b = c} {p = p} (length xs) (omega (arith, e, a.in_second))), e)
  where
    stands_as : part c p (length xs) ≡ xs → p + length xs ≡ q → Stands c p (part c p (length xs)) (drop (p + length xs) c) → Stands c p xs (drop q c)
    stands_as e f t = rw (e, f) at t

-- a text and a value that end before s are the same in both
pub record SameText (b c : List ℕ) (p : ℕ) : Type 0 where
  pub mark : get_or c p 0 ≡ 0x55
  pub stop : text_stop c p ≡ text_stop b p
  pub is : text_of c p ≡ text_of b p

text_length : (b : List ℕ) (p : ℕ) → (text_stop b p ≡ 0 → ⊥) → text_stop b p ≡ p + 2 + length (text_of b p)
unfolding text_of
text_length b p n = let (mark, fit, stop) = stop_yes b p n in stop ∙ ap (λ k. p + 2 + k) (sym (length_part b (p + 2) (get_or b (p + 1) 0) fit))

pub same_text : {b c : List ℕ} {s : ℕ} → SameFront b c s → Bytes b → (p : ℕ) → (text_stop b p ≡ 0 → ⊥) → text_stop b p ≤ s → SameText b c p
same_text {b} {c} a h p n l =
    let t = text_sound b p h n in
    let (st, e) = stands_there {q = text_stop b p} (text_bytes (text_of b p)) a t.stands l in
    let x = text_complete c p (text_of b p) _ st in
    record { mark = x.mark; stop = x.stop ∙ sym (text_length b p n); is = x.is }

pub same_value : {b c : List ℕ} {s : ℕ} → SameFront b c s → Bytes b → (d p : ℕ) → (value_read_at b d p).refusal ≡ 0 → (value_read_at b d p).stop ≤ s → ((value_read_at c d p).refusal ≡ 0) × ((value_read_at c d p).stop ≡ (value_read_at b d p).stop)
same_value {b} {c} a h d p z l =
    let v = value_sound b d p h (inside_sound b h d) z in
    let (st, e) = stands_there {q = (value_read_at b d p).stop} (value_bytes (value_read_at b d p).value) a v.stands l in
    let x = value_complete (value_read_at b d p).value c d p _ v.fit v.once st in
    (ap (λ (w : SeenValue). w.refusal) x, ap (λ (w : SeenValue). w.stop) x ∙ e)

pub stop_kept : (b c : List ℕ) (p : ℕ) → (text_stop b p ≡ 0 → ⊥) → text_stop c p ≡ text_stop b p → text_stop c p ≡ 0 → ⊥
stop_kept b c p n e z = n (sym e ∙ z)

closed_stop : (b : List ℕ) (g : Seen) → ((closed_map b g).refusal ≡ 0 → ⊥) → g.stop ≡ (closed_map b g).stop
closed_stop b g r = elim (ℕ_discrete g.refusal 0) [
  | no n ↦ sym (ap (λ (v : SeenValue). v.stop) (closed_refused b g refl refl n))
  | yes z ↦ elim (ℕ_discrete (get_or b g.stop 0) 0x7d) [
    | no n ↦ sym (ap (λ (v : SeenValue). v.stop) (closed_open b g refl refl z refl n refl))
    | yes w ↦ absurd (r (ap (λ (v : SeenValue). v.refusal) (closed_yes b g refl refl z refl w)))
  ]
]

-- an entry whose value goes as far as s
second_bad : (c : List ℕ) (d : ℕ) (keys : List (List ℕ)) (n p : ℕ) → get_or c p 0 ≡ 0x55 → (text_stop c p ≡ 0 → ⊥) → has keys (text_of c p) ≡ false → (s : ℕ) → s ≤ (value_read_at c d (text_stop c p)).stop
    → s ≤ (map_entries_in (inside c d) c keys (suc n) p).stop
second_bad c d keys n p m t f s l = elim (ℕ_discrete (value_read_at c d (text_stop c p)).refusal 0) [
  | no r ↦ let e = ap (λ (g : Seen). g.stop) (entries_bad (inside c d) c keys n p m t f r) in omega (arith, e, l)
  | yes z ↦
      let e = ap (λ (g : Seen). g.stop) (entries_more (inside c d) c keys n p m t f z) in
      omega (arith, e, l, entries_far c d (inside_far c d) n (value_read_at c d (text_stop c p)).stop (keys ++ (text_of c p ∷ [])))
]

-- ---- what is wrong at s in the first is not wrong before s in the second
abbrev Reached : List ℕ → List ℕ → ℕ → ℕ → Type 0
Reached b c s d = (q : ℕ) → q < s → (inside b d q).stop ≡ s → s ≤ (inside c d q).stop

value_reached : {b c : List ℕ} {s : ℕ} → SameFront b c s → (d p : ℕ) → Reached b c s d → p ≤ s → ((value_read_at b d p).refusal ≡ 0 → ⊥) → (value_read_at b d p).stop ≡ s → s ≤ (value_read_at c d p).stop
value_reached {b} {c} {s} a d p inner l r e = elim (ℕ_discrete p s) [
  | yes y ↦ omega (arith, value_far c d p (inside_far c d), y)
  | no n ↦
      let m = a.same p (omega (arith, l, n)) in
      elim (ℕ_discrete (get_or b p 0) 0x53) [
        | yes k ↦ elim (ℕ_discrete (text_stop b (p + 1)) 0) [
          | yes z ↦ let x = ap (λ (v : SeenValue). v.stop) (value_no_text b d p refl k refl z refl) in omega (arith, x, e, text_far c d p (sym m ∙ k))
          | no w ↦ absurd (r (ap (λ (v : SeenValue). v.refusal) (value_text b d p refl k refl w)))
        ]
        | no n1 ↦ elim (ℕ_discrete (get_or b p 0) 0x6c) [
          | yes k ↦ elim (dec_lt (length b) (p + 5)) [
            | yes h ↦ let x = ap (λ (v : SeenValue). v.stop) (value_no_number b d p refl n1 k h) in absurd (n (sym x ∙ e))
            | no h ↦ absurd (r (ap (λ (v : SeenValue). v.refusal) (value_number b d p refl n1 k (omega arith))))
          ]
          | no n2 ↦ elim (ℕ_discrete (get_or b p 0) 0x7b) [
            | no n3 ↦ let x = ap (λ (v : SeenValue). v.stop) (value_none b d p refl n1 n2 n3) in absurd (n (sym x ∙ e))
            | yes k ↦
                let v = value_map b d p refl n1 n2 k in
                let w = value_map c d p refl (λ q. n1 (m ∙ q)) (λ q. n2 (m ∙ q)) (sym m ∙ k) in
                let x = ap (λ (v : SeenValue). v.stop) w in
                omega (arith, x, closed_far c (inside c d p), inner p (omega (arith, l, n)) (closed_stop b (inside b d p) (λ z. r (ap (λ (u : SeenValue). u.refusal) v ∙ z)) ∙ sym (ap (λ (u : SeenValue). u.stop) v) ∙ e))
          ]
        ]
      ]
]

entries_reached : {b c : List ℕ} {s : ℕ} → SameFront b c s → Bytes b → (d : ℕ) → Reached b c s d → (most n p : ℕ) (keys : List (List ℕ)) → p ≤ s → length c < p + n
    → (map_entries_in (inside b d) b keys most p).stop ≡ s → s ≤ (map_entries_in (inside c d) c keys n p).stop
entries_reached {b} {c} {s} a h d inner zero n p keys l k e = let z = none_far b d p keys in omega (arith, z, e, entries_far c d (inside_far c d) n p keys)
entries_reached {b} {c} {s} a h d inner (suc most) zero p keys l k e = absurd (omega (arith, l, k, a.in_second))
entries_reached {b} {c} {s} a h d inner (suc most) (suc n) p keys l k e = go (passed b d keys most p) (λ q ks lq kq eq. entries_reached a h d inner most n q ks lq kq eq)
  where
    go : Passed b d keys most p → ((q : ℕ) (ks : List (List ℕ)) → q ≤ s → length c < q + n → (map_entries_in (inside b d) b ks most q).stop ≡ s → s ≤ (map_entries_in (inside c d) c ks n q).stop)
        → s ≤ (map_entries_in (inside c d) c keys (suc n) p).stop
    go (stays x) rest = omega (arith, x, e, entries_far c d (inside_far c d) (suc n) p keys)
    go (bad m t f r x) rest =
        let q = text_stop b p in
        let far = value_far b d q (inside_far b d) in
        let st = same_text a h p t (omega (arith, far, x, e)) in
        let v = value_reached a d q inner (omega (arith, far, x, e)) r (sym x ∙ e) in
        second_bad c d keys n p st.mark (stop_kept b c p t st.stop) (ap (has keys) st.is ∙ f) s (let y = ap (λ k. (value_read_at c d k).stop) st.stop in omega (arith, v, y))
    go (goes m t f z x) rest =
        let q = text_stop b p in
        let far = value_far b d q (inside_far b d) in
        let later = entries_far b d (inside_far b d) most (value_read_at b d q).stop (keys ++ (text_of b p ∷ [])) in
        let st = same_text a h p t (omega (arith, far, later, x, e)) in
        let (ok, stop) = same_value a h d q z (omega (arith, later, x, e)) in
        let ok2 = ap (λ k. (value_read_at c d k).refusal) st.stop ∙ ok in
        let to = ap (λ k. (value_read_at c d k).stop) st.stop ∙ stop in
        let j = ap (λ (g : Seen). g.stop) (entries_more (inside c d) c keys n p st.mark (stop_kept b c p t st.stop) (ap (has keys) st.is ∙ f) ok2)
        ∙ ap₂ (λ (ks : List ℕ) (i : ℕ). (map_entries_in (inside c d) c (keys ++ (ks ∷ [])) n i).stop) st.is to in
        let w = rest (value_read_at b d q).stop (keys ++ (text_of b p ∷ [])) (omega (arith, later, x, e)) (omega (arith, (stop_yes b p t).2, far, k)) (sym x ∙ e) in
        omega (arith, j, w)

inside_reached : {b c : List ℕ} {s : ℕ} → SameFront b c s → Bytes b → (d : ℕ) → Reached b c s d
inside_reached {b} {c} {s} a h zero q l e = let z = ap (λ (g : Seen). g.stop) (inside_none b 0 q refl) in absurd (omega (arith, z, e, l))
inside_reached {b} {c} {s} a h (suc d) q l e =
    let less : suc d - 1 ≡ d = omega arith in
    let x = ap (λ (g : Seen). g.stop) (inside_is b (suc d) q (λ z. absurd (omega arith)) ∙ ap (λ k. map_read_at b k (q + 1)) less) in
    let y = ap (λ (g : Seen). g.stop) (inside_is c (suc d) q (λ z. absurd (omega arith)) ∙ ap (λ k. map_read_at c k (q + 1)) less) in
    let r = entries_reached a h d (inside_reached a h d) (suc (length b)) (suc (length c)) (q + 1) [] (omega (arith, l)) (omega arith) (sym x ∙ e) in
    omega (arith, y, r)

-- where a whole body is refused, its place is where its entries stopped
whole_stop : (b : List ℕ) → ((whole_map b).refusal ≡ 0 → ⊥) → (whole_map b).stop ≡ (map_read_at b 8 0).stop
whole_stop b n = elim (ℕ_discrete (map_read_at b 8 0).refusal 0) [
  | no r ↦ ap (λ (g : Seen). g.stop) (whole_refused b r)
  | yes z ↦ elim (ℕ_discrete (map_read_at b 8 0).stop (length b)) [
    | yes l ↦ absurd (n (ap (λ (g : Seen). g.refusal) (whole_yes b z l) ∙ z))
    | no l ↦ ap (λ (g : Seen). g.stop) (whole_more b z l)
  ]
]

-- b is wrong at a place; whatever begins with the same bytes up to it is right, or wrong there or later
pub first_wrong : (b c : List ℕ) → Bytes b → ((whole_map b).refusal ≡ 0 → ⊥) → SameFront b c (whole_map b).stop → ((whole_map c).refusal ≡ 0 → ⊥) → (whole_map b).stop ≤ (whole_map c).stop
first_wrong b c h n a m =
    let s = whole_stop b n in
    let t = whole_stop c m in
    let r = entries_reached a h 8 (inside_reached a h 8) (suc (length b)) (suc (length c)) 0 [] (omega arith) (omega arith) (sym s) in
    omega (arith, r, t)
