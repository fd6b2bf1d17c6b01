-- Keys of a body that are looked for before a place.
-- Assumes nothing.
use mathlib.Core.Path.{◌≡◌, refl, sym, ap, ap₂, ◌∙◌}
use mathlib.Core.Bool.{Bool, true, false, ◌||◌}
use mathlib.Core.List.{List, [], ◌∷◌, ◌++◌}
use Prim.Native.Nat.{ℕ, zero, suc, ◌+◌, ◌≤◌, ◌<◌}
use native.Mathlib.Omega.{arith}
use lib.ListN.{length, get_or}
use Rattle.wire.specs.Wire.{part}
use Rattle.map.specs.Map.{same, has}
use Rattle.map_reader.specs.Read.{text_stop, text_of, value_read_at}
use Rattle.map_reader.specs.Inner.{Run, keys_from, Ran, Repeated}
use Rattle.map_reader.proofs.Sound.{stop_yes}

-- the first of the entries from q up to p
pub record First (b : List ℕ) (d q p : ℕ) : Type 0 where
  pub text : text_stop b q ≡ 0 → ⊥
  pub inside : q + 2 + get_or b (q + 1) 0 ≤ length b
  pub value : (value_read_at b d (text_stop b q)).refusal ≡ 0
  pub rest : Ran b d (value_read_at b d (text_stop b q)).stop p

first_with : (b : List ℕ) (d q p n : ℕ) → q < p → Run b d q n p → First b d q p
unfolding Run
first_with b d q p zero h r = absurd (omega (arith, r))
first_with b d q p (suc n) h r = record { text = r.0; inside = (stop_yes b q r.0).1; value = r.1; rest = record { n = n; run = r.3 } }

pub first_of : {b : List ℕ} {d q p : ℕ} → Ran b d q p → q < p → First b d q p
first_of {b} {d} {q} {p} g h = first_with b d q p g.n h g.run

pub stop_positive : (b : List ℕ) (q : ℕ) {s : ℕ} → (text_stop b q ≡ 0 → ⊥) → s ≡ text_stop b q → 0 < s
stop_positive b q h e = omega (arith, (stop_yes b q h).2, e)

pub key_inside : (b : List ℕ) (p : ℕ) {n : ℕ} → (text_stop b p ≡ 0 → ⊥) → n ≡ get_or b (p + 1) 0 → p + 2 + n ≤ length b
key_inside b p h e = omega (arith, (stop_yes b p h).1, e)

pub key_same : (b : List ℕ) (q p : ℕ) {m n : ℕ} {r : Bool} → m ≡ get_or b (q + 1) 0 → n ≡ get_or b (p + 1) 0 → r ≡ same (part b (q + 2) m) (part b (p + 2) n) → r ≡ same (text_of b q) (text_of b p)
unfolding text_of
key_same b q p em en er = er ∙ ap₂ (λ (i j : ℕ). same (part b (q + 2) i) (part b (p + 2) j)) em en

-- what is left to look at, of n entries
pub record Looked (b : List ℕ) (d at p q n : ℕ) : Type 0 where
  pub m : ℕ
  pub run : Run b d q m p
  pub is : has (keys_from b d m q) (text_of b p) ≡ has (keys_from b d n at) (text_of b p)

pub record Looking (b : List ℕ) (d at p q : ℕ) : Type 0 where
  pub ran : Ran b d q p
  pub looked : (n : ℕ) → Run b d at n p → Looked b d at p q n

pub looking_start : {b : List ℕ} {d at p : ℕ} → Ran b d at p → Looking b d at p at
looking_start r = record { ran = r; looked = λ n run. record { m = n; run = run; is = refl } }

none_looked : (b : List ℕ) (d p q m : ℕ) → Run b d q m p → p ≤ q → has (keys_from b d m q) (text_of b p) ≡ false
unfolding Run keys_from has
none_looked b d p q zero r h = refl
none_looked b d p q (suc m) r h = absurd (omega (arith, r.2))

pub looking_done : {b : List ℕ} {d at p q : ℕ} → Looking b d at p q → p ≤ q → Repeated b d at p false
looking_done {b} {d} {at} {p} {q} g h = record { is = λ n r. let l = g.looked n r in sym (none_looked b d p q l.m l.run h) ∙ l.is }

key_here : (b : List ℕ) (d p q m : ℕ) {x : Bool} → q < p → x ≡ same (text_of b q) (text_of b p) → x ≡ true → Run b d q m p → has (keys_from b d m q) (text_of b p) ≡ true
unfolding Run keys_from has
key_here b d p q zero h ex y r = absurd (omega (arith, h, r))
key_here b d p q (suc m) h ex y r = ap (λ t. t || has (keys_from b d m (value_read_at b d (text_stop b q)).stop) (text_of b p)) (sym ex ∙ y)

key_later : (b : List ℕ) (d at p q m n : ℕ) {x : Bool} → q < p → x ≡ same (text_of b q) (text_of b p) → x ≡ false → Run b d q m p
    → has (keys_from b d m q) (text_of b p) ≡ has (keys_from b d n at) (text_of b p) → Looked b d at p (value_read_at b d (text_stop b q)).stop n
unfolding Run keys_from has
key_later b d at p q zero n h ex y r z = absurd (omega (arith, h, r))
key_later b d at p q (suc m) n h ex y r z = record {
  m = m;
  run = r.3;
  is = sym (ap (λ t. t || has (keys_from b d m (value_read_at b d (text_stop b q)).stop) (text_of b p)) (sym ex ∙ y)) ∙ z;
}

module _ {b : List ℕ} {d at p q : ℕ} (g : Looking b d at p q) (h : q < p) {x : Bool} (ex : x ≡ same (text_of b q) (text_of b p)) where
  pub looking_same : x ≡ true → Repeated b d at p true
  looking_same y = record { is = λ n r. let l = g.looked n r in sym (key_here b d p q l.m h ex y l.run) ∙ l.is }

  pub looking_more : {s next : ℕ} → x ≡ false → s ≡ text_stop b q → next ≡ (value_read_at b d s).stop → Looking b d at p next
  looking_more y es en =
      let to = en ∙ ap (λ k. (value_read_at b d k).stop) es in
      rw to (record { ran = (first_of g.ran h).rest; looked = λ n r. let l = g.looked n r in key_later b d at p q l.m n h ex y l.run l.is })

pub value_at_lem : {b : List ℕ} {d q p s : ℕ} → First b d q p → s ≡ text_stop b q → (value_read_at b d s).refusal ≡ 0
value_at_lem {b} {d} f e = ap (λ k. (value_read_at b d k).refusal) e ∙ f.value

-- one entry more
pub run_snoc : (b : List ℕ) (d q n p : ℕ) → Run b d q n p → (text_stop b p ≡ 0 → ⊥) → (value_read_at b d (text_stop b p)).refusal ≡ 0 → p < (value_read_at b d (text_stop b p)).stop
    → Run b d q (suc n) (value_read_at b d (text_stop b p)).stop × (keys_from b d (suc n) q ≡ keys_from b d n q ++ (text_of b p ∷ []))
unfolding Run keys_from
run_snoc b d q zero p r t v far = rw r ((t, v, far, refl), refl)
run_snoc b d q (suc n) p r t v far =
    let (a, e) = run_snoc b d (value_read_at b d (text_stop b q)).stop n p r.3 t v far in
    ((r.0, r.1, omega (arith, r.2), a), ap (λ l. text_of b q ∷ l) e)
