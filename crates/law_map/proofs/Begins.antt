-- What stands up to and with the first wrong place decides: whatever begins so is wrong at the same place, so that no body of the writer's begins so.
-- Assumes nothing.
use mathlib.Core.Path.{◌≡◌, refl, sym, ap, ap₂, ◌∙◌}
use mathlib.Core.Bool.{Bool, true, false, cond}
use mathlib.Core.List.{List, [], ◌∷◌, ◌++◌}
use Prim.Native.Nat.{ℕ, zero, suc, ◌+◌, ◌-◌, ◌≤◌, ◌<◌}
use native.Mathlib.Nat.{add-zero}
use native.Mathlib.Omega.{arith}
use native.Mathlib.Decide.{dec_lt, ℕ_discrete}
use borrow.Author.Tests.{eq-eqb}
use lib.Dec.{eqb}
use lib.ListN.{length, get_or, drop}
use lib.Seq.{get_or-drop}
use Rattle.map.specs.Map.{Map, body_of, has, Proper}
use Rattle.map_reader.specs.Read.{Bytes, text_stop, text_of, Seen, SeenValue, refused, closed_map, map_entries_in, inside, map_read_at, value_read_at}
use Rattle.map_reader.specs.Answer.{whole_map}
use Rattle.map_reader.proofs.Steps.{text_yes, text_no, text_some, other_some, value_text, value_no_text, value_number, value_no_number, value_none, value_map, inside_none, inside_is, closed_refused, closed_open, closed_yes, entries_none, entries_cut, entries_twice, entries_bad, entries_more}
use Rattle.map_reader.proofs.Sound.{stop_yes, sound}
use Rattle.map_reader.proofs.Answers.{whole_refused, whole_yes, whole_more}
use Rattle.law_map.specs.Terms.{SameFront, extent}
use Rattle.law_map.proofs.Complete.{body_complete, back}
use Rattle.law_map.proofs.First.{value_far, entries_far, inside_far, stands_there, same_text, same_value, stop_kept}

extent_text : (b : List ℕ) (s : ℕ) → get_or b s 0 ≡ 0x55 → extent b s ≡ 2 + get_or b (s + 1) 0
unfolding extent
extent_text b s e = rw (eq-eqb (get_or b s 0) 0x55 e)

extent_number : (b : List ℕ) (s : ℕ) → get_or b s 0 ≡ 0x6c → extent b s ≡ 5
unfolding extent
extent_number b s e = rw (e)

extent_some : (b : List ℕ) (s : ℕ) → 1 ≤ extent b s
unfolding extent
extent_some b s = go (eqb (get_or b s 0) 0x55) (eqb (get_or b s 0) 0x6c)
  where
    go : (t u : Bool) → 1 ≤ cond t (2 + get_or b (s + 1) 0) (cond u 5 1)
    go true u = omega arith
    go false true = omega arith
    go false false = omega arith

agree_less : {b c : List ℕ} {n : ℕ} (m : ℕ) → SameFront b c n → m ≤ n → SameFront b c m
agree_less m a l = record { in_first = omega (arith, a.in_first); in_second = omega (arith, a.in_second); same = λ i h. a.same i (omega arith) }

-- c begins with what b has up to and with s
module _ (b c : List ℕ) (s : ℕ) (h : Bytes b) (a : SameFront b c (s + extent b s)) where
  before : SameFront b c s
  before = agree_less s a (omega arith)

  -- a text that begins at s is whole
  whole_text : get_or b s 0 ≡ 0x55 → text_stop b s ≡ 0 → ⊥
  whole_text m z =
      let e = extent_text b s m in
      let t = text_yes b s (sym m) refl refl (omega (arith, e, a.in_first)) in
      absurd (omega (arith, t, z))

  -- entries that end at s end there in both
  ends_same : (d p : ℕ) → p ≤ length b → (map_read_at b d p).refusal ≡ 0 → (map_read_at b d p).stop ≡ s → ((map_read_at c d p).refusal ≡ 0) × ((map_read_at c d p).stop ≡ s)
  ends_same d p l z e =
      let x = sound b d p h l z in
      let m = (map_read_at b d p).map in
      let (st, to) = stands_there {q = (map_read_at b d p).stop} (body_of m) before x.stands (omega (arith, e)) in
      let mark : get_or (drop (map_read_at b d p).stop c) 0 0 ≡ get_or b (map_read_at b d p).stop 0 =
      get_or-drop (map_read_at b d p).stop c 0 0 ∙ ap (λ k. get_or c k 0) (add-zero (map_read_at b d p).stop) ∙ sym (a.same (map_read_at b d p).stop (omega (arith, e, extent_some b s))) in
      let y = body_complete m c d p (suc (length c)) [] (drop (map_read_at b d p).stop c) x.fit.0 x.fit.1 st (λ k. x.ends (sym mark ∙ k)) (omega arith) in
      (ap (λ (g : Seen). g.refusal) y, ap (λ (g : Seen). g.stop) y ∙ to ∙ e)

  inside_ends : (d q : ℕ) → q < length b → (inside b d q).refusal ≡ 0 → (inside b d q).stop ≡ s → ((inside c d q).refusal ≡ 0) × ((inside c d q).stop ≡ s)
  inside_ends zero q l z e = let w = ap (λ (g : Seen). g.refusal) (inside_none b 0 q refl) in absurd (omega (arith, w, z))
  inside_ends (suc d) q l z e =
      let less : suc d - 1 ≡ d = omega arith in
      let x = inside_is b (suc d) q (λ z. absurd (omega arith)) ∙ ap (λ k. map_read_at b k (q + 1)) less in
      let y = inside_is c (suc d) q (λ z. absurd (omega arith)) ∙ ap (λ k. map_read_at c k (q + 1)) less in
      rw y (ends_same d (q + 1) (omega arith) (sym (ap (λ (g : Seen). g.refusal) x) ∙ z) (sym (ap (λ (g : Seen). g.stop) x) ∙ e))

  -- maps inside that are wrong at s in b are wrong there in c
  abbrev Begins : ℕ → Type 0
  Begins d = (q : ℕ) → q ≤ s → ((inside b d q).refusal ≡ 0 → ⊥) → (inside b d q).stop ≡ s → ((inside c d q).refusal ≡ 0 → ⊥) × ((inside c d q).stop ≡ s)

  -- values
  text_begins : (d p : ℕ) → get_or b p 0 ≡ 0x53 → get_or c p 0 ≡ 0x53 → ((value_read_at b d p).refusal ≡ 0 → ⊥) → (value_read_at b d p).stop ≡ s → ((value_read_at c d p).refusal ≡ 0 → ⊥) × ((value_read_at c d p).stop ≡ s)
  text_begins d p k kc r e = elim (ℕ_discrete (text_stop b (p + 1)) 0) [
    | no w ↦ absurd (r (ap (λ (v : SeenValue). v.refusal) (value_text b d p refl k refl w)))
    | yes z ↦
        let at : p + 1 ≡ s = sym (ap (λ (v : SeenValue). v.stop) (value_no_text b d p refl k refl z refl)) ∙ e in
        let same : get_or b (p + 1) 0 ≡ get_or c (p + 1) 0 = a.same (p + 1) (omega (arith, at, extent_some b s)) in
        let none : get_or b (p + 1) 0 ≡ 0x55 → ⊥ = λ m. whole_text (ap (λ k. get_or b k 0) (sym at) ∙ m) (ap (text_stop b) (sym at) ∙ z) in
        let x = value_no_text c d p refl kc refl (sym (text_no c (p + 1) refl (λ m. none (same ∙ m)))) refl in
        (λ y. text_some c (p + 1) (sym (ap (λ (v : SeenValue). v.refusal) x) ∙ y), ap (λ (v : SeenValue). v.stop) x ∙ at)
  ]

  closed_begins : (d p : ℕ) → Begins d → p ≤ s → p < length b → ((closed_map b (inside b d p)).refusal ≡ 0 → ⊥) → (closed_map b (inside b d p)).stop ≡ s
      → ((closed_map c (inside c d p)).refusal ≡ 0 → ⊥) × ((closed_map c (inside c d p)).stop ≡ s)
  closed_begins d p inner l ll r e =
      let g = inside b d p in
      let f = inside c d p in
      elim (ℕ_discrete g.refusal 0) [
        | no n ↦
            let x = closed_refused b g refl refl n in
            let (bad, at) = inner p l n (sym (ap (λ (v : SeenValue). v.stop) x) ∙ e) in
            let y = closed_refused c f refl refl bad in
            (λ z. bad (sym (ap (λ (v : SeenValue). v.refusal) y) ∙ z), ap (λ (v : SeenValue). v.stop) y ∙ at)
        | yes z ↦ elim (ℕ_discrete (get_or b g.stop 0) 0x7d) [
          | yes w ↦ absurd (r (ap (λ (v : SeenValue). v.refusal) (closed_yes b g refl refl z refl w)))
          | no n ↦
              let stop : g.stop ≡ s = sym (ap (λ (v : SeenValue). v.stop) (closed_open b g refl refl z refl n refl)) ∙ e in
              let (ok, at) = inside_ends d p ll z stop in
              let same : get_or b g.stop 0 ≡ get_or c f.stop 0 = ap (λ k. get_or b k 0) stop ∙ a.same s (omega (arith, extent_some b s)) ∙ ap (λ k. get_or c k 0) (sym at) in
              let y = closed_open c f refl refl ok refl (λ m. n (same ∙ m)) refl in
              (λ q. other_some c f.stop (sym (ap (λ (v : SeenValue). v.refusal) y) ∙ q), ap (λ (v : SeenValue). v.stop) y ∙ at)
        ]
      ]

  value_begins : (d p : ℕ) → Begins d → p ≤ s → ((value_read_at b d p).refusal ≡ 0 → ⊥) → (value_read_at b d p).stop ≡ s → ((value_read_at c d p).refusal ≡ 0 → ⊥) × ((value_read_at c d p).stop ≡ s)
  value_begins d p inner l r e =
      let m = a.same p (omega (arith, l, extent_some b s)) in
      elim (ℕ_discrete (get_or b p 0) 0x53) [
        | yes k ↦ text_begins d p k (sym m ∙ k) r e
        | no n1 ↦ elim (ℕ_discrete (get_or b p 0) 0x6c) [
          | yes k ↦ elim (dec_lt (length b) (p + 5)) [
            | yes h5 ↦
                let at : p ≡ s = sym (ap (λ (v : SeenValue). v.stop) (value_no_number b d p refl n1 k h5)) ∙ e in
                absurd (omega (arith, extent_number b s (ap (λ i. get_or b i 0) (sym at) ∙ k), a.in_first, at, h5))
            | no h5 ↦ absurd (r (ap (λ (v : SeenValue). v.refusal) (value_number b d p refl n1 k (omega arith))))
          ]
          | no n2 ↦ elim (ℕ_discrete (get_or b p 0) 0x7b) [
            | no n3 ↦
                let at : p ≡ s = sym (ap (λ (v : SeenValue). v.stop) (value_none b d p refl n1 n2 n3)) ∙ e in
                let x = value_none c d p refl (λ q. n1 (m ∙ q)) (λ q. n2 (m ∙ q)) (λ q. n3 (m ∙ q)) in
                (λ z. absurd (omega (arith, ap (λ (v : SeenValue). v.refusal) x, z)), ap (λ (v : SeenValue). v.stop) x ∙ at)
            | yes k ↦
                let v = value_map b d p refl n1 n2 k in
                let w = value_map c d p refl (λ q. n1 (m ∙ q)) (λ q. n2 (m ∙ q)) (sym m ∙ k) in
                rw w (closed_begins d p inner l (omega (arith, l, a.in_first, extent_some b s)) (λ z. r (ap (λ (u : SeenValue). u.refusal) v ∙ z)) (sym (ap (λ (u : SeenValue). u.stop) v) ∙ e))
          ]
        ]
      ]

  -- entries
  abbrev Wrong : ℕ → List (List ℕ) → ℕ → ℕ → Type 0
  Wrong d keys n p = ((map_entries_in (inside c d) c keys n p).refusal ≡ 0 → ⊥) × ((map_entries_in (inside c d) c keys n p).stop ≡ s)

  twice_begins : (d : ℕ) (keys : List (List ℕ)) (most n p : ℕ) → get_or b p 0 ≡ 0x55 → (text_stop b p ≡ 0 → ⊥) → has keys (text_of b p) ≡ true
      → (map_entries_in (inside b d) b keys (suc most) p).stop ≡ s → Wrong d keys (suc n) p
  twice_begins d keys most n p m t f e =
      let at : p ≡ s = sym (ap (λ (g : Seen). g.stop) (entries_twice (inside b d) b keys most p m t f)) ∙ e in
      let len = ap (λ k. get_or b (k + 1) 0) at in
      let st = same_text a h p t (omega (arith, (stop_yes b p t).2, extent_text b s (ap (λ k. get_or b k 0) (sym at) ∙ m), at, len)) in
      let x = entries_twice (inside c d) c keys n p st.mark (stop_kept b c p t st.stop) (ap (has keys) st.is ∙ f) in
      (λ z. absurd (omega (arith, ap (λ (g : Seen). g.refusal) x, z)), ap (λ (g : Seen). g.stop) x ∙ at)

  bad_begins : (d : ℕ) → Begins d → (keys : List (List ℕ)) (most n p : ℕ) → get_or b p 0 ≡ 0x55 → (text_stop b p ≡ 0 → ⊥) → has keys (text_of b p) ≡ false
      → ((value_read_at b d (text_stop b p)).refusal ≡ 0 → ⊥) → (map_entries_in (inside b d) b keys (suc most) p).stop ≡ s → Wrong d keys (suc n) p
  bad_begins d inner keys most n p m t f r e =
      let q = text_stop b p in
      let x = sym (ap (λ (g : Seen). g.stop) (entries_bad (inside b d) b keys most p m t f r)) ∙ e in
      let far = value_far b d q (inside_far b d) in
      let st = same_text a h p t (omega (arith, far, x)) in
      let (bad, at) = value_begins d q inner (omega (arith, far, x)) r x in
      let y = entries_bad (inside c d) c keys n p st.mark (stop_kept b c p t st.stop) (ap (has keys) st.is ∙ f) (λ z. bad (ap (λ k. (value_read_at c d k).refusal) (sym st.stop) ∙ z)) in
      (λ z. bad (ap (λ k. (value_read_at c d k).refusal) (sym st.stop) ∙ sym (ap (λ (g : Seen). g.refusal) y) ∙ z), ap (λ (g : Seen). g.stop) y ∙ ap (λ k. (value_read_at c d k).stop) st.stop ∙ at)

  more_begins : (d : ℕ) (keys : List (List ℕ)) (most n p : ℕ) → get_or b p 0 ≡ 0x55 → (text_stop b p ≡ 0 → ⊥) → has keys (text_of b p) ≡ false → (value_read_at b d (text_stop b p)).refusal ≡ 0
      → (value_read_at b d (text_stop b p)).stop ≤ s → Wrong d (keys ++ (text_of b p ∷ [])) n (value_read_at b d (text_stop b p)).stop → Wrong d keys (suc n) p
  more_begins d keys most n p m t f z l (bad, at) =
      let q = text_stop b p in
      let far = value_far b d q (inside_far b d) in
      let st = same_text a h p t (omega (arith, far, l)) in
      let (ok, stop) = same_value before h d q z l in
      let ok2 = ap (λ k. (value_read_at c d k).refusal) st.stop ∙ ok in
      let to = ap (λ k. (value_read_at c d k).stop) st.stop ∙ stop in
      let y = entries_more (inside c d) c keys n p st.mark (stop_kept b c p t st.stop) (ap (has keys) st.is ∙ f) ok2 in
      let rest = ap₂ (λ (k : List ℕ) (i : ℕ). map_entries_in (inside c d) c (keys ++ (k ∷ [])) n i) st.is to in
      (λ w. bad (sym (ap (λ (g : Seen). g.refusal) rest) ∙ sym (ap (λ (g : Seen). g.refusal) y) ∙ w), ap (λ (g : Seen). g.stop) y ∙ ap (λ (g : Seen). g.stop) rest ∙ at)

  entries_begin : (d : ℕ) → Begins d → (most n p : ℕ) (keys : List (List ℕ)) → p ≤ s → length b < p + most → length c < p + n
      → ((map_entries_in (inside b d) b keys most p).refusal ≡ 0 → ⊥) → (map_entries_in (inside b d) b keys most p).stop ≡ s → Wrong d keys n p
  entries_begin d inner zero n p keys l kb kc r e = absurd (omega (arith, l, kb, a.in_first))
  entries_begin d inner (suc most) zero p keys l kb kc r e = absurd (omega (arith, l, kc, a.in_second))
  entries_begin d inner (suc most) (suc n) p keys l kb kc r e = elim (ℕ_discrete (get_or b p 0) 0x55) [
    | no m ↦ absurd (r (ap (λ (g : Seen). g.refusal) (entries_none (inside b d) b keys most p m)))
    | yes m ↦ elim (ℕ_discrete (text_stop b p) 0) [
      | yes z ↦
          let at : p ≡ s = sym (ap (λ (g : Seen). g.stop) (entries_cut (inside b d) b keys most p m z)) ∙ e in
          absurd (whole_text (ap (λ k. get_or b k 0) (sym at) ∙ m) (ap (text_stop b) (sym at) ∙ z))
      | no t ↦ go m t (has keys (text_of b p)) refl (λ q ks. entries_begin d inner most n q ks)
    ]
  ]
    where
      go : get_or b p 0 ≡ 0x55 → (text_stop b p ≡ 0 → ⊥) → (f : Bool) → has keys (text_of b p) ≡ f
          → ((q : ℕ) (ks : List (List ℕ)) → q ≤ s → length b < q + most → length c < q + n → ((map_entries_in (inside b d) b ks most q).refusal ≡ 0 → ⊥) → (map_entries_in (inside b d) b ks most q).stop ≡ s → Wrong d ks n q)
          → Wrong d keys (suc n) p
      go m t true f rest = twice_begins d keys most n p m t f e
      go m t false f rest = elim (ℕ_discrete (value_read_at b d (text_stop b p)).refusal 0) [
        | no x ↦ bad_begins d inner keys most n p m t f x e
        | yes z ↦
            let q = (value_read_at b d (text_stop b p)).stop in
            let y = entries_more (inside b d) b keys most p m t f z in
            let stop = sym (ap (λ (g : Seen). g.stop) y) ∙ e in
            let far = value_far b d (text_stop b p) (inside_far b d) in
            let later = entries_far b d (inside_far b d) most q (keys ++ (text_of b p ∷ [])) in
            let key = (stop_yes b p t).2 in
            more_begins d keys most n p m t f z (omega (arith, later, stop))
            (rest q (keys ++ (text_of b p ∷ [])) (omega (arith, later, stop)) (omega (arith, far, key, kb)) (omega (arith, far, key, kc)) (λ w. r (ap (λ (g : Seen). g.refusal) y ∙ w)) stop)
      ]

  inside_begins : (d : ℕ) → Begins d
  inside_begins zero q l r e =
      let x = inside_none b 0 q refl in
      let y = inside_none c 0 q refl in
      (λ z. absurd (omega (arith, ap (λ (g : Seen). g.refusal) y, z)), ap (λ (g : Seen). g.stop) y ∙ sym (ap (λ (g : Seen). g.stop) x) ∙ e)
  inside_begins (suc d) q l r e =
      let less : suc d - 1 ≡ d = omega arith in
      let x = inside_is b (suc d) q (λ z. absurd (omega arith)) ∙ ap (λ k. map_read_at b k (q + 1)) less in
      let y = inside_is c (suc d) q (λ z. absurd (omega arith)) ∙ ap (λ k. map_read_at c k (q + 1)) less in
      let stop = sym (ap (λ (g : Seen). g.stop) x) ∙ e in
      let far = entries_far b d (inside_far b d) (suc (length b)) (q + 1) [] in
      rw y (entries_begin d (inside_begins d) (suc (length b)) (suc (length c)) (q + 1) [] (omega (arith, far, stop)) (omega arith) (omega arith) (λ z. r (ap (λ (g : Seen). g.refusal) x ∙ z)) stop)

-- b is wrong at a place; whatever begins with what b has up to and with that place is wrong there too
pub same_wrong : (b c : List ℕ) → Bytes b → ((whole_map b).refusal ≡ 0 → ⊥) → SameFront b c ((whole_map b).stop + extent b (whole_map b).stop)
    → ((whole_map c).refusal ≡ 0 → ⊥) × ((whole_map c).stop ≡ (whole_map b).stop)
same_wrong b c h n a = elim (ℕ_discrete (map_read_at b 8 0).refusal 0) [
  | no r ↦
      let x = whole_refused b r in
      let s = (whole_map b).stop in
      let (bad, at) = entries_begin b c s h a 8 (inside_begins b c s h a 8) (suc (length b)) (suc (length c)) 0 [] (omega arith) (omega arith) (omega arith) r (sym (ap (λ (g : Seen). g.stop) x)) in
      let y = whole_refused c bad in
      (λ z. bad (sym (ap (λ (g : Seen). g.refusal) y) ∙ z), ap (λ (g : Seen). g.stop) y ∙ at)
  | yes z ↦ elim (ℕ_discrete (map_read_at b 8 0).stop (length b)) [
    | yes l ↦ absurd (n (ap (λ (g : Seen). g.refusal) (whole_yes b z l) ∙ z))
    | no l ↦
        let x = whole_more b z l in
        let s = (whole_map b).stop in
        let (ok, at) = ends_same b c s h a 8 0 (omega arith) z (sym (ap (λ (g : Seen). g.stop) x)) in
        let y = whole_more c ok (λ e. absurd (omega (arith, at, e, a.in_second, extent_some b s))) in
        (λ w. other_some c (map_read_at c 8 0).stop (sym (ap (λ (g : Seen). g.refusal) y) ∙ w), ap (λ (g : Seen). g.stop) y ∙ at)
  ]
]

-- so that no proper map's body begins so
pub none_begins : (b : List ℕ) (m : Map) → Bytes b → ((whole_map b).refusal ≡ 0 → ⊥) → Proper m → SameFront b (body_of m) ((whole_map b).stop + extent b (whole_map b).stop) → ⊥
none_begins b m h n p a = (same_wrong b (body_of m) h n a).0 (ap (λ (g : Seen). g.refusal) (back m p))
