-- The laws of eight frames' places: players who are the same, rows by offsets, and where frames begin.
-- Assumes nothing.
use mathlib.Core.Path.{◌≡◌, refl, sym, ap, ap₂, subst, ◌∙◌}
use mathlib.Core.Bool.{Bool, true, false, cond}
use mathlib.Core.List.{List}
use Prim.Native.Nat.{ℕ, zero, suc, ◌+◌, ◌-◌, ◌*◌, ◌≤◌, ◌<◌}
use native.Mathlib.Nat.{add-zero, zero-mul, mul-zero, mul-le-mul, sub-eq-zero_of_le}
use native.Mathlib.Decide.{dec_lt}
use native.Mathlib.Omega.{arith}
use lib.ListN.{length, get_or, set, length-set}
use lib.Seq.{get_or-set_same, get_or-set_other}
use Rattle.game.specs.Stores.{Offsets}
use Rattle.players.specs.Presence.{marked}
use Rattle.players.specs.Inner.{Ranges}
use Rattle.players.specs.declared.slots.Slots.{Slots}
use Rattle.players.proofs.CountLaws.{rises}
use Rattle.places.specs.Inner.{Steady, Together, Whole, seats_on, rows_long, middle_long, Bare, BareAll, begins_at, Laid}
use Rattle.places.specs.declared.table.Spans.{Spans}

pub never : {A : Type 0} → false ≡ true → A
never e = let z : ◌≡◌ {A = ℕ} 0 1 = cc in absurd (omega arith)

-- what holds below t and at t holds below t + 1
pub below_step : (P : ℕ → Type 0) (t : ℕ) → ((u : ℕ) → u < t → P u) → P t → (u : ℕ) → u < t + 1 → P u
below_step P t h p u l = elim (dec_lt u t) [ yes a ↦ h u a | no b ↦ let e : t ≡ u = omega (arith, b) in subst P e p ]

-- ---- players
pub steady_all : (bits : List ℕ) (at len i : ℕ) → len ≡ 0 → Steady bits at len i
unfolding marked
steady_all bits at len i e = record { mark = λ t h. rw e }

pub whole_team : (s : Slots) (bits : List ℕ) (i : ℕ) → Whole s → Together s bits i
whole_team s bits i w = record { each = λ k h. steady_all bits (get_or s.at k 0) (get_or s.len k 0) i (w.none k h) }

-- ---- the count of the players
seats_step : (s : Slots) (bits : List ℕ) (i k n : ℕ) (b : Bool) → n ≡ seats_on s bits i k → marked bits (get_or s.at k 0) (get_or s.len k 0) i ≡ b → n + cond b 1 0 ≡ seats_on s bits i (k + 1)
unfolding seats_on
seats_step s bits i k n b e h =
    let g : k + 1 ≡ suc k = omega arith in
    ap₂ (λ (a : ℕ) (c : Bool). a + cond c 1 0) e (sym h) ∙ ap (λ (j : ℕ). seats_on s bits i j) (sym g)

module _ (s : Slots) (bits : List ℕ) (i k n : ℕ) (e : n ≡ seats_on s bits i k) where
  pub seats_here : marked bits (get_or s.at k 0) (get_or s.len k 0) i ≡ true → n + 1 ≡ seats_on s bits i (k + 1)
  seats_here h = seats_step s bits i k n true e h

  pub seats_gone : marked bits (get_or s.at k 0) (get_or s.len k 0) i ≡ false → n ≡ seats_on s bits i (k + 1)
  seats_gone h = sym (add-zero n) ∙ seats_step s bits i k n false e h

  pub seats_done : k ≤ s.count → s.count ≤ k → n ≡ seats_on s bits i s.count
  seats_done h l = let g : k ≡ s.count = omega arith in e ∙ ap (λ (j : ℕ). seats_on s bits i j) g

pub seats_start : (s : Slots) (bits : List ℕ) (i : ℕ) → 0 ≡ seats_on s bits i 0
unfolding seats_on
seats_start s bits i = refl

pub seats_same : (s : Slots) (bits : List ℕ) (i t : ℕ) → t < 8 → Together s bits i → (k : ℕ) → k ≤ s.count → seats_on s bits (i + t) k ≡ seats_on s bits i k
unfolding seats_on
seats_same s bits i t h g zero l = refl
seats_same s bits i t h g (suc k) l =
    ap₂ (λ (a : ℕ) (b : Bool). a + cond b 1 0) (seats_same s bits i t h g k (omega arith)) ((g.each k (omega arith)).mark t h)

-- ---- offsets
pub bare_none : (size : ℕ) (offsets : List ℕ) (a b : ℕ) → size ≤ 0 → Bare size offsets a b
bare_none size offsets a b h = let e : size ≡ 0 = omega arith in record { none = λ j l u. rw e (mul-zero (get_or offsets (j + 1) 0 - get_or offsets j 0)) }

pub none_long : (size : ℕ) (offsets : List ℕ) (i : ℕ) → size ≤ 0 → 0 ≡ rows_long size offsets i
none_long size offsets i h = sym ((bare_none size offsets i (i + 1) h).none i (omega arith) (omega arith))

-- where two offsets are equal, so are all between them
pub bare_equal : (size : ℕ) (offsets : List ℕ) (n rows : ℕ) → Ranges n rows offsets → (a b : ℕ) → a ≤ b → b ≤ n → get_or offsets b 0 ≤ get_or offsets a 0 → Bare size offsets a b
bare_equal size offsets n rows r a b h k e = record {
  none = λ j l u.
      let p : a + (j - a) ≡ j = omega arith in
      let q : j + 1 + (b - (j + 1)) ≡ b = omega arith in
      let lo : get_or offsets a 0 ≤ get_or offsets j 0 = rw p at (rises offsets n r.rising a (j - a) (omega arith)) in
      let hi : get_or offsets (j + 1) 0 ≤ get_or offsets b 0 = rw q at (rises offsets n r.rising (j + 1) (b - (j + 1)) (omega arith)) in
      let le : get_or offsets (j + 1) 0 ≤ get_or offsets j 0 = omega arith in
      ap (λ (x : ℕ). x * size) (sub-eq-zero_of_le le) ∙ zero-mul size;
}

pub bare_all : (z : Spans) (o : Offsets) (a b : ℕ)
    → Bare z.item o.items a b → Bare z.fod o.fods a b → Bare z.whispy o.whispys a b → Bare z.stadium o.stadiums a b → BareAll z o a b
unfolding middle_long
bare_all z o a b i f w t = record { none = λ j l u. omega (arith, i.none j l u, f.none j l u, w.none j l u, t.none j l u) }

-- a number of rows is small, and so are their bytes
pub long_small : (n size : ℕ) → n ≤ 4294967295 → size ≤ 133 → n * size ≤ 1099511627776
long_small n size h k = let l : n * size ≤ 4294967295 * 133 = mul-le-mul h k in omega arith

pub middle_is : (z : Spans) (o : Offsets) (i f w t x : ℕ) → f ≡ rows_long z.fod o.fods i → w ≡ rows_long z.whispy o.whispys i → t ≡ rows_long z.stadium o.stadiums i → x ≡ rows_long z.item o.items i
    → f + (w + (t + x)) ≡ middle_long z o i
unfolding middle_long
middle_is z o i f w t x a b c d = rw (a, b, c, d)

-- ---- where frames begin
module _ (z : Spans) (o : Offsets) (i at : ℕ) where
  pub begins_start : at ≡ begins_at z o i at 0
  unfolding begins_at
  begins_start = refl

  pub begins_step : (t : ℕ) → begins_at z o i at (t + 1) ≡ begins_at z o i at t + (z.ahead + middle_long z o (i + t) + z.behind)
  unfolding begins_at
  begins_step t = let e : t + 1 ≡ suc t = omega arith in ap (λ (k : ℕ). begins_at z o i at k) e

  pub begins_rise : (t d : ℕ) → begins_at z o i at t ≤ begins_at z o i at (t + d)
  begins_rise t zero = rw (add-zero t) (omega arith)
  begins_rise t (suc d) = let e : t + suc d ≡ t + d + 1 = omega arith in rw e (omega (arith, begins_rise t d, begins_step (t + d)))

  -- no place is over the last
  pub begins_most : (t : ℕ) → t < 8 → begins_at z o i at t + (z.ahead + middle_long z o (i + t) + z.behind) ≤ begins_at z o i at 8
  begins_most t h =
      let e : t + 1 + (8 - (t + 1)) ≡ 8 = omega arith in
      let r : begins_at z o i at (t + 1) ≤ begins_at z o i at 8 = rw e at (begins_rise (t + 1) (8 - (t + 1))) in
      omega (arith, begins_step t)

-- a loop over the table: the frames before t have their places
pub record Laying (z : Spans) (o : Offsets) (i at : ℕ) (places : List ℕ) (p t : ℕ) : Type 0 where
  pub few : t ≤ 8
  pub long : length places ≡ 16
  pub place : p ≡ begins_at z o i at t
  pub front : (u : ℕ) → u < t → get_or places u 0 ≡ begins_at z o i at u
  pub back : (u : ℕ) → u < t → get_or places (8 + u) 0 ≡ begins_at z o i at u + (z.ahead + middle_long z o (i + u))

module _ {z : Spans} {o : Offsets} {i at : ℕ} {places : List ℕ} where
  pub laying_start : length places ≡ 16 → Laying z o i at places at 0
  laying_start e = record {
    few = omega arith;
    long = e;
    place = begins_start z o i at;
    front = λ u h. absurd (omega arith);
    back = λ u h. absurd (omega arith);
  }

  pub laying_step : {p t : ℕ} (rows : ℕ) → Laying z o i at places p t → t < 8 → rows ≡ middle_long z o (i + t)
      → Laying z o i at (set (set places t p) (8 + t) (p + (z.ahead + rows))) (p + (z.ahead + rows) + z.behind) (t + 1)
  laying_step {p} {t} rows l h e =
      let v = p + (z.ahead + rows) in
      let one = set places t p in
      let first : length one ≡ 16 = length-set places t p ∙ l.long in
      let value : v ≡ begins_at z o i at t + (z.ahead + middle_long z o (i + t)) = omega (arith, l.place) in
      record {
        few = omega arith;
        long = length-set one (8 + t) v ∙ first;
        place = omega (arith, l.place, begins_step z o i at t);
        front = below_step (λ u. get_or (set one (8 + t) v) u 0 ≡ begins_at z o i at u) t
            (λ u k. get_or-set_other one (8 + t) u v 0 (λ x. omega arith) ∙ get_or-set_other places t u p 0 (λ x. omega arith) ∙ l.front u k)
            (get_or-set_other one (8 + t) t v 0 (λ x. omega arith) ∙ get_or-set_same places t p 0 (omega (arith, l.long)) ∙ l.place);
        back = below_step (λ u. get_or (set one (8 + t) v) (8 + u) 0 ≡ begins_at z o i at u + (z.ahead + middle_long z o (i + u))) t
            (λ u k. get_or-set_other one (8 + t) (8 + u) v 0 (λ x. omega arith) ∙ get_or-set_other places t (8 + u) p 0 (λ x. omega arith) ∙ l.back u k)
            (get_or-set_same one (8 + t) v 0 (omega arith) ∙ value);
      }

  pub laying_done : {p t : ℕ} → Laying z o i at places p t → 8 ≤ t → Laid z o i at places p
  laying_done {t = t} l h =
      let e : t ≡ 8 = omega (arith, l.few) in
      record {
        few = l.long;
        front = λ u k. l.front u (omega arith);
        back = λ u k. l.back u (omega arith);
        end_is = l.place ∙ ap (λ (k : ℕ). begins_at z o i at k) e;
      }
