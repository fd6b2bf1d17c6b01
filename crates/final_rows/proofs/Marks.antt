-- The marks of a window: those ids which occur from a row on.
-- Assumes nothing.
use mathlib.Core.Path.{◌≡◌, refl, sym, ap, ap₂, subst, ◌∙◌}
use mathlib.Core.Bool.{Bool, true, false, cond, ◌&&◌, ◌||◌}
use mathlib.Core.List.{List, [], map}
use Prim.Native.Nat.{ℕ, suc, ◌+◌, ◌-◌, ◌*◌, ◌/◌, ◌%◌, ◌^◌, ◌≤◌, ◌<◌}
use native.Mathlib.Decide.{dec_lt, ℕ_discrete}
use native.Mathlib.Omega.{arith}
use borrow.Author.Tests.{le-leb, lt-leb, lt-ltb, le-ltb, eq-eqb, ne_eqb}
use native.Mathlib.Nat.{one-mul}
use lib.Bits.{bit_or}
use lib.Pow.{shl_exact}
use lib.Dec.{eqb, leb, ltb, lit<}
use lib.ListN.{length, get_or, set, drop, replicate, length-replicate, length-set, get_or-replicate, get_or-eq_default}
use lib.Seq.{drop-cons, drop-length}
use Rattle.wire.proofs.Laws.{tabulated, stored}
use Rattle.rollback.specs.Mask.{occurs, place, needed, repeats, mask_of}
use Rattle.rollback.specs.declared.frame.Rollbacks.TheVariants.{ExceptLast}
use Rattle.rollback.proofs.Places.{InPlace, placed_drop, occurs_place, below_needed}
use Rattle.rollback.proofs.Marks.{occurs_cons}
use Rattle.final_rows.specs.Inner.{in_window, bit_at, with_bit, seen_after, is_lost, lost_here, Lost}
use Rattle.final_rows.proofs.Bits.{bit_with, with_length, bit_none}

pub record Seen (ids : List ℕ) (base k : ℕ) (marks : List ℕ) : Type 0 where
  pub long : length marks ≡ 4096
  pub are : (q : ℕ) → q < 32768 → bit_at marks q ≡ occurs (base + q) (map place (drop k ids))

-- a place of the window, or not
window_in : (base p : ℕ) → base ≤ p → p - base < 32768 → in_window base p ≡ true
window_in base p h l = rw (le-leb base p h, lt-ltb (p - base) 32768 l)

window_before : (base p : ℕ) → p < base → in_window base p ≡ false
window_before base p h = rw (lt-leb base p h)

window_after : (base p : ℕ) → base ≤ p → 32768 ≤ p - base → in_window base p ≡ false
window_after base p h l = rw (le-leb base p h, le-ltb (p - base) 32768 l)

pub data Where (base p : ℕ) : Type 0 where
  in_it : base ≤ p → p - base < 32768 → Where base p
  before_it : p < base → Where base p
  after_it : base ≤ p → 32768 ≤ p - base → Where base p

pub where_is : (base p : ℕ) → Where base p
where_is base p =
    elim (dec_lt p base) [
      | yes l ↦ before_it l
      | no r ↦ elim (dec_lt (p - base) 32768) [
        | yes l ↦ in_it (omega (arith, r)) l
        | no q ↦ after_it (omega (arith, r)) (omega (arith, q))
      ]
    ]

none_occur : (t : ℕ) → occurs t [] ≡ false
unfolding occurs
none_occur t = refl

pub seen_none : (ids : List ℕ) (base k : ℕ) (marks : List ℕ) → k ≡ length ids → marks ≡ replicate 4096 0 → Seen ids base k marks
seen_none ids base k marks e m = record {
  long = ap length m ∙ length-replicate {A = ℕ} 4096 0;
  are = λ q l.
      ap (λ (xs : List ℕ). bit_at xs q) m ∙ bit_none 4096 q
      ∙ sym (ap (λ (n : ℕ). occurs (base + q) (map place (drop n ids))) e ∙ ap (λ (xs : List ℕ). occurs (base + q) (map place xs)) (drop-length ids) ∙ none_occur (base + q));
}

module _ {ids : List ℕ} {base k : ℕ} {marks : List ℕ} (s : Seen ids base (suc k) marks) (h : k < length ids) where
  more_occurs : (t : ℕ) → occurs t (map place (drop k ids)) ≡ (eqb t (place (get_or ids k 0)) || occurs t (map place (drop (suc k) ids)))
  more_occurs t = ap (λ (xs : List ℕ). occurs t (map place xs)) (drop-cons ids k 0 h) ∙ occurs_cons t (place (get_or ids k 0)) (map place (drop (suc k) ids))

  -- the row's id is marked, if it is one of the window's
  pub seen_more : (p : ℕ) → p ≡ place (get_or ids k 0) → Seen ids base k (seen_after base p marks)
  unfolding seen_after
  seen_more p e = go (where_is base p)
    where
      go : Where base p → Seen ids base k (cond (in_window base p) (with_bit marks (p - base)) marks)
      go (in_it a b) = rw (window_in base p a b) (record {
        long = with_length marks (p - base) ∙ s.long;
        are = λ q l.
            bit_with marks (p - base) q (omega (arith, s.long))
            ∙ ap₂ (λ (x y : Bool). x || y) (shifted q a) (s.are q l)
            ∙ sym (more_occurs (base + q) ∙ ap (λ (z : ℕ). eqb (base + q) z || occurs (base + q) (map place (drop (suc k) ids))) (sym e));
      })
        where
          shifted : (q : ℕ) → base ≤ p → eqb q (p - base) ≡ eqb (base + q) p
          shifted q a =
              elim (ℕ_discrete q (p - base)) [
                | yes z ↦ let y : base + q ≡ p = omega arith in eq-eqb q (p - base) z ∙ sym (eq-eqb (base + q) p y)
                | no z ↦ ne_eqb q (p - base) z ∙ sym (ne_eqb (base + q) p (λ y. z (omega arith)))
              ]
      go (before_it a) = rw (window_before base p a) (record {
        long = s.long;
        are = λ q l.
            s.are q l ∙ sym (more_occurs (base + q) ∙ ap (λ (z : ℕ). eqb (base + q) z || occurs (base + q) (map place (drop (suc k) ids))) (sym e)
            ∙ ap (λ (b : Bool). b || occurs (base + q) (map place (drop (suc k) ids))) (ne_eqb (base + q) p (λ y. omega arith)));
      })
      go (after_it a b) = rw (window_after base p a b) (record {
        long = s.long;
        are = λ q l.
            s.are q l ∙ sym (more_occurs (base + q) ∙ ap (λ (z : ℕ). eqb (base + q) z || occurs (base + q) (map place (drop (suc k) ids))) (sym e)
            ∙ ap (λ (b : Bool). b || occurs (base + q) (map place (drop (suc k) ids))) (ne_eqb (base + q) p (λ y. omega arith)));
      })

  -- the mark that is read
  pub seen_read : InPlace ids → (p : ℕ) → p ≡ place (get_or ids k 0) → (in_window base p && bit_at marks (p - base)) ≡ lost_here ids base k
  seen_read ok p e = ap (λ (x : ℕ). in_window base x && bit_at marks (x - base)) e ∙ go (where_is base (place (get_or ids k 0)))
    where
      go : Where base (place (get_or ids k 0)) → (in_window base (place (get_or ids k 0)) && bit_at marks (place (get_or ids k 0) - base)) ≡ lost_here ids base k
      go (in_it a b) =
          let there : base + (place (get_or ids k 0) - base) ≡ place (get_or ids k 0) = omega arith in
          ap (λ (x : Bool). in_window base (place (get_or ids k 0)) && x)
          (s.are (place (get_or ids k 0) - base) b
          ∙ ap (λ (t : ℕ). occurs t (map place (drop (suc k) ids))) there
          ∙ occurs_place (get_or ids k 0) (drop (suc k) ids) (ok k) (placed_drop (suc k) ids ok))
      go (before_it a) = rw (window_before base (place (get_or ids k 0)) a)
      go (after_it a b) = rw (window_after base (place (get_or ids k 0)) a b)

-- ---- as the code finds them
module _ (base p : ℕ) (marks : List ℕ) where
  pub before_window : p < base → (false ≡ (in_window base p && bit_at marks (p - base))) × (marks ≡ seen_after base p marks)
  unfolding seen_after
  before_window h = rw (window_before base p h) (refl, refl)

  pub after_window : base ≤ p → 32768 ≤ p - base → (false ≡ (in_window base p && bit_at marks (p - base))) × (marks ≡ seen_after base p marks)
  unfolding seen_after
  after_window h l = rw (window_after base p h l) (refl, refl)

  -- a place of the window
  pub in_window_lem : base ≤ p → p - base < 32768
      → (eqb (get_or marks ((p - base) / 8) 0 / 2 ^ ((p - base) % 8) % 2) 1 ≡ (in_window base p && bit_at marks (p - base)))
      × (set marks ((p - base) / 8) (bit_or (get_or marks ((p - base) / 8) 0) (1 * 2 ^ ((p - base) % 8) % 256)) ≡ seen_after base p marks)
  unfolding seen_after bit_at with_bit
  in_window_lem h l =
      let bit : 1 * 2 ^ ((p - base) % 8) % 256 ≡ 2 ^ ((p - base) % 8) = shl_exact 1 ((p - base) % 8) 8 (lit< tt) (omega arith) ∙ one-mul (2 ^ ((p - base) % 8)) in
      rw (window_in base p h l, bit) (refl, refl)

-- ---- a turn of a sweep: row k - 1, whose id has the place p
module _ {ids : List ℕ} {base k : ℕ} {marks : List ℕ} {p : ℕ} (s : Seen ids base k marks) (h : 0 < k) (l : k ≤ length ids) (here : p ≡ place (get_or ids (k - 1) 0)) where
  last : Seen ids base (suc (k - 1)) marks
  last = let e : k ≡ suc (k - 1) = omega arith in subst (λ (n : ℕ). Seen ids base n marks) e s

  pub turn_seen : {after : List ℕ} → after ≡ seen_after base p marks → Seen ids base (k - 1) after
  turn_seen left = subst (λ (xs : List ℕ). Seen ids base (k - 1) xs) (sym left) (seen_more last (omega arith) p here)

  pub turn_read : {r : Bool} → InPlace ids → r ≡ (in_window base p && bit_at marks (p - base)) → r ≡ lost_here ids base (k - 1)
  turn_read ok told = told ∙ seen_read last (omega arith) ok p here

-- ---- the mask
pub lost_none : (ids : List ℕ) (base : ℕ) (mask : List ℕ) → Lost ids base (length ids) mask mask
lost_none ids base mask = record { long = refl; at = λ i l. rw (lt-leb (length ids) i l) }

module _ {ids : List ℕ} {base k : ℕ} {before after : List ℕ} (s : Lost ids base k before after) (h : 0 < k) where
  -- rows from k - 1 on: row k - 1 itself, or one from k on
  from_here : (i : ℕ) → (i ≡ k - 1 → ⊥) → leb (k - 1) i ≡ leb k i
  from_here i ne =
      elim (dec_lt i k) [
        | yes l ↦ let m : i < k - 1 = omega (arith, ne) in lt-leb (k - 1) i m ∙ sym (lt-leb k i l)
        | no r ↦ le-leb (k - 1) i (omega (arith, r)) ∙ sym (le-leb k i (omega (arith, r)))
      ]

  pub lost_set : k ≤ length after → lost_here ids base (k - 1) ≡ true → Lost ids base (k - 1) before (set after (k - 1) 1)
  lost_set inside lost = record {
    long = length-set after (k - 1) 1 ∙ s.long;
    at = λ i l.
        stored 0 after (k - 1) 1 (λ i. cond (leb (k - 1) i && lost_here ids base i) 1 (get_or before i 0)) i (omega arith)
        (sym (rw (le-leb (k - 1) (k - 1) (omega arith), lost)))
        (λ ne. s.at i l ∙ ap (λ (b : Bool). cond (b && lost_here ids base i) 1 (get_or before i 0)) (sym (from_here i ne)));
  }

  pub lost_skip : lost_here ids base (k - 1) ≡ false → Lost ids base (k - 1) before after
  lost_skip kept = record {
    long = s.long;
    at = λ i l.
        elim (ℕ_discrete i (k - 1)) [
          | yes e ↦
              let lost : lost_here ids base i ≡ false = ap (lost_here ids base) e ∙ kept in
              s.at i l ∙ ap (λ (b : Bool). cond (leb k i && b) 1 (get_or before i 0)) lost ∙ none (leb k i) (leb (k - 1) i) (get_or before i 0)
              ∙ sym (ap (λ (b : Bool). cond (leb (k - 1) i && b) 1 (get_or before i 0)) lost)
          | no n ↦ s.at i l ∙ ap (λ (b : Bool). cond (b && lost_here ids base i) 1 (get_or before i 0)) (sym (from_here i n))
        ];
  }
    where
      none : (a b : Bool) (x : ℕ) → cond (a && false) 1 x ≡ cond (b && false) 1 x
      none true true x = refl
      none true false x = refl
      none false true x = refl
      none false false x = refl

pub lost_long : {ids : List ℕ} {base k : ℕ} {before after : List ℕ} → Lost ids base k before after → length before ≡ length ids → length after ≡ length ids
lost_long s e = s.long ∙ e

-- ---- window after window
pub record Swept (ids : List ℕ) (base : ℕ) (mask : List ℕ) : Type 0 where
  pub long : length mask ≡ length ids
  pub at : (i : ℕ) → i < length ids → get_or mask i 0 ≡ cond (ltb (place (get_or ids i 0)) base && is_lost ids i) 1 0

-- zeros at every place
pub zero_at : (n i : ℕ) → get_or (replicate {A = ℕ} n 0) i 0 ≡ 0
zero_at n i =
    elim (dec_lt i n) [
      | yes l ↦ get_or-replicate n i 0 0 l
      | no r ↦ get_or-eq_default (replicate {A = ℕ} n 0) 0 {n = i} (omega (arith, length-replicate {A = ℕ} n 0, r))
    ]

pub swept_none : {ids mask : List ℕ} → length mask ≡ length ids → ((i : ℕ) → get_or mask i 0 ≡ 0) → Swept ids 0 mask
swept_none {ids} e z = record { long = e; at = λ i l. z i ∙ sym (rw (le-ltb (place (get_or ids i 0)) 0 (omega arith))) }

pub swept_more : {ids mask after : List ℕ} {base : ℕ} → Swept ids base mask → Lost ids base 0 mask after → Swept ids (base + 32768) after
swept_more {ids} {mask} {base = base} s l = record {
  long = l.long ∙ s.long;
  at = λ i h. l.at i h ∙ next i (where_is base (place (get_or ids i 0))) (s.at i h);
}
  where
    next : (i : ℕ) → Where base (place (get_or ids i 0)) → get_or mask i 0 ≡ cond (ltb (place (get_or ids i 0)) base && is_lost ids i) 1 0
        → cond (leb 0 i && lost_here ids base i) 1 (get_or mask i 0) ≡ cond (ltb (place (get_or ids i 0)) (base + 32768) && is_lost ids i) 1 0
    next i (in_it a b) e =
        let m : place (get_or ids i 0) < base + 32768 = omega arith in
        rw (le-leb 0 i (omega arith), window_in base (place (get_or ids i 0)) a b, lt-ltb (place (get_or ids i 0)) (base + 32768) m, e, le-ltb (place (get_or ids i 0)) base a)
    next i (before_it a) e =
        let m : place (get_or ids i 0) < base + 32768 = omega arith in
        rw (le-leb 0 i (omega arith), window_before base (place (get_or ids i 0)) a, lt-ltb (place (get_or ids i 0)) (base + 32768) m, e, lt-ltb (place (get_or ids i 0)) base a)
    next i (after_it a b) e =
        let m : base + 32768 ≤ place (get_or ids i 0) = omega arith in
        rw (le-leb 0 i (omega arith), window_after base (place (get_or ids i 0)) a b, le-ltb (place (get_or ids i 0)) (base + 32768) m, e, le-ltb (place (get_or ids i 0)) base a)

pub swept_all : {ids mask : List ℕ} {base : ℕ} → Swept ids base mask → needed ids ≤ base → mask ≡ mask_of ExceptLast ids
unfolding mask_of
swept_all {ids} {mask} {base} s h =
    tabulated 0 mask (length ids) (repeats ExceptLast ids) s.long
    (λ i l. let below : place (get_or ids i 0) < base = omega (arith, below_needed ids i l) in s.at i l ∙ rw (lt-ltb (place (get_or ids i 0)) base below))
