-- The laws of offsets.
-- Assumes nothing.
use mathlib.Core.Path.{◌≡◌, refl, sym, ap, ◌∙◌}
use mathlib.Core.Bool.{Bool, true, false, not, ◌||◌, or_assoc, or-false}
use mathlib.Core.List.{List, [], ◌∷◌}
use Prim.Native.Nat.{ℕ, zero, suc, ◌+◌, ◌-◌, ◌≤◌, ◌<◌}
use native.Mathlib.Numerals.{add-one}
use native.Mathlib.Omega.{arith}
use borrow.Author.Tests.{ltb-false}
use native.Mathlib.Decide.{dec_lt}
use lib.Dec.{ltb, eqb}
use lib.ListN.{length, get_or, drop, drop_of_length-le}
use lib.Seq.{drop-cons}
use Rattle.format.proofs.Tests.{same_of, or_none, one_or, one_last, one_passed}
use Rattle.layout.specs.Columns.{has_family}
use Rattle.layout.specs.declared.columns.Family.{Family}
use Rattle.game.specs.Frames.{rows_of}
use Rattle.frames.specs.Judge.{falls, strays, left_over, misleads}
use Rattle.players.specs.Inner.{Ranges}
use Rattle.players.proofs.CountLaws.{rises}
use Rattle.frames.specs.Inner.{Placed}
use Rattle.game.specs.declared.frames.Frames.{Frames}

-- ---- a fall, in a loop: one was found, or is left to find from the offset before index i on
falls_step : (os : List ℕ) (j : ℕ) → j + 1 < length os → falls (drop j os) ≡ (ltb (get_or os (j + 1) 0) (get_or os j 0) || falls (drop (j + 1) os))
unfolding falls
falls_step os j h = rw (drop-cons os j 0 (omega arith), ← add-one j, drop-cons os (j + 1) 0 h)

falls_end : (os : List ℕ) (j : ℕ) → length os ≤ j + 1 → falls (drop j os) ≡ false
unfolding falls
falls_end os j h =
    elim (dec_lt j (length os)) [
      | yes l ↦ let past : length os ≤ suc j = omega arith in rw (drop-cons os j 0 l, drop_of_length-le os past)
      | no r ↦ let past : length os ≤ j = omega arith in rw (drop_of_length-le os past)
    ]

module _ (found : Bool) (os : List ℕ) (i : ℕ) (q : (found || falls (drop (i - 1) os)) ≡ falls os) where
  pub falls_more : 1 ≤ i → i < length os → ((found || ltb (get_or os i 0) (get_or os (i - 1) 0)) || falls (drop (i + 1 - 1) os)) ≡ falls os
  falls_more h l =
      let next : i - 1 + 1 ≡ i = omega arith in
      let here : i + 1 - 1 ≡ i = omega arith in
      let step : falls (drop (i - 1) os) ≡ (ltb (get_or os i 0) (get_or os (i - 1) 0) || falls (drop i os)) = falls_step os (i - 1) (omega arith) ∙ rw next in
      rw (here, or_assoc) (rw step at q)

  pub falls_done : length os ≤ i → found ≡ falls os
  falls_done h = sym (or-false found) ∙ rw (falls_end os (i - 1) (omega arith)) at q

-- ---- a family's offsets, as the code finds them
module _ (f : Frames) (family : Family) (os : List ℕ) (t : Bool) (e : t ≡ has_family f.version family) (rows : ℕ) (k : rows ≡ rows_of f family) where
  pub misleads_has : (r : Bool) → t ≡ true → r ≡ strays f.counts.frames rows os → r ≡ misleads f family os
  unfolding misleads
  misleads_has r h q = rw (← e, h, ← k) q

  pub misleads_lacks : t ≡ false → (not (eqb (length os) 0) || not (eqb rows 0)) ≡ misleads f family os
  unfolding misleads left_over
  misleads_lacks h = rw (← e, h, ← k) (one_or _ _ _ _ refl (one_last _ _ refl))

-- ---- where none falls
falls_none_at : (os : List ℕ) → falls os ≡ false → (i : ℕ) → i + 1 < length os → get_or os i 0 ≤ get_or os (i + 1) 0
unfolding falls
falls_none_at [] e i h = absurd (omega arith)
falls_none_at (a ∷ []) e i h = absurd (omega arith)
falls_none_at (a ∷ b ∷ os) e zero h = ltb-false b a (or_none (ltb b a) (falls (b ∷ os)) e).0
falls_none_at (a ∷ b ∷ os) e (suc i) h =
    let step : suc i + 1 ≡ suc (i + 1) = omega arith in
    rw step (falls_none_at (b ∷ os) (or_none (ltb b a) (falls (b ∷ os)) e).1 i (omega arith))

pub ranges : (frames rows : ℕ) (os : List ℕ) → strays frames rows os ≡ false → Ranges frames rows os
unfolding strays
ranges frames rows os e =
    let (count, e1) = one_passed _ _ e in
    let (zeroth, e2) = one_passed _ _ e1 in
    let (flat, e3) = one_passed _ _ e2 in
    let (end, e4) = one_passed _ _ e3 in
    let entries = same_of (length os) (frames + 1) count in
    let last = same_of (get_or os frames 0) rows end in
    let up : (i : ℕ) → i < frames → get_or os i 0 ≤ get_or os (i + 1) 0 = λ i h. falls_none_at os flat i (omega arith) in
    record {
      entries = entries;
      first = same_of (get_or os 0 0) 0 zeroth;
      rising = up;
      inside = λ i h.
          let d : i + (frames - i) ≡ frames = omega arith in
          omega (arith, rises os frames up i (frames - i) (omega arith), ap (λ (j : ℕ). get_or os j 0) d);
      last = last;
    }

pub placed : (f : Frames) (family : Family) (os : List ℕ) → misleads f family os ≡ false → Placed f family os
unfolding misleads left_over
placed f family os e = record {
  has = λ h. ranges f.counts.frames (rows_of f family) os (rw h at e);
  lacks = λ h.
      let (none, e1) = one_passed _ _ (rw h at e) in
      let (rows, e2) = one_passed _ _ e1 in
      (same_of (rows_of f family) 0 rows, same_of (length os) 0 none);
}
