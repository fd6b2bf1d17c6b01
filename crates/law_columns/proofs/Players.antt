-- The players of a frame are those that its slots pick from it.
-- Assumes nothing.
use mathlib.Core.Path.{◌≡◌, refl, sym, ap, ap₂, ◌∙◌}
use mathlib.Core.Bool.{Bool, true, false}
use mathlib.Core.List.{List, [], ◌∷◌, ◌++◌, map}
use Prim.Native.Nat.{ℕ, zero, suc, ◌+◌, ◌/◌, ◌%◌, ◌≤◌, ◌<◌}
use native.Mathlib.Decide.{ℕ_discrete}
use native.Mathlib.Omega.{arith}
use borrow.Author.Tests.{eq-eqb, ne_eqb, ltb-true}
use lib.Dec.{ltb}
use Rattle.wire.specs.Wire.{ranged, keep}
use Rattle.wire.proofs.Laws.{ranged_same}
use Rattle.layout.specs.declared.columns.Family.TheVariants.{Pre, Post}
use Rattle.grammar.specs.Productions.{Player, Frame}
use Rattle.grammar.specs.WellFormed.{Each, ascending, slot_of, may_precede, may_come, InOrder}
use Rattle.grammar.proofs.Tests.{both}
use Rattle.grammar.proofs.Each.{each_so}
use Rattle.law_columns.specs.Slots.{seated, slot_numbers}
use Rattle.law_columns.proofs.Lists.{keep_none, kept, flat, flat_ranged, flat_keep}
use Rattle.law_columns.proofs.Slots.{Rising, rising_from, seated_there}
use Rattle.columns.specs.Columns.{holds, ever_in, slot_row}

may_last : (seen : List ℕ) (k j : ℕ) → may_come ascending (seen ++ (k ∷ [])) j ≡ true → k + 1 ≤ j
unfolding may_come may_precede
may_last [] k j e = omega (arith, ltb-true k j (both (ltb k j) true e).0)
may_last (i ∷ seen) k j e = may_last seen k j (both (ltb i j) (may_come ascending (seen ++ (k ∷ [])) j) e).1

rising_after : (seen : List ℕ) (lo : ℕ) (ks : List ℕ) → ((k : ℕ) → may_come ascending seen k ≡ true → lo ≤ k) → InOrder ascending seen ks → Rising lo ks
unfolding InOrder Rising
rising_after seen lo [] h q = tt
rising_after seen lo (k ∷ ks) h q = (h k q.0, rising_after (seen ++ (k ∷ [])) (k + 1) ks (λ j e. may_last seen k j e) q.1)

pub rises : (ks : List ℕ) → InOrder ascending [] ks → Rising 0 ks
rises ks q = rising_after [] 0 ks (λ k e. omega arith) q

-- the player whom slot k's number and rows give
abbrev pub player_by : ℕ → List Player → Player
player_by k ps = record { port = k / 2; follower = k % 2; pre = slot_row Pre k ps; post = slot_row Post k ps }

abbrev pub picked : List Player → ℕ → List Player
picked ps k = keep (holds k ps) (player_by k ps ∷ [])

not_below : (k lo : ℕ) (ps : List Player) → Rising lo (map slot_of ps) → k < lo → holds k ps ≡ false
unfolding holds Rising
not_below k lo [] h l = refl
not_below k lo (p ∷ ps) h l = rw (ne_eqb (slot_of p) k (λ e. omega (arith, h.0)), not_below k (slot_of p + 1) ps h.1 (omega (arith, h.0)))

passed_by : (k : ℕ) (p : Player) (ps : List Player) → (slot_of p ≡ k → ⊥) → picked (p ∷ ps) k ≡ picked ps k
unfolding holds slot_row
passed_by k p ps n = rw (ne_eqb (slot_of p) k n)

found_by : (k : ℕ) (p : Player) (ps : List Player) → p.follower ≤ 1 → slot_of p ≡ k → picked (p ∷ ps) k ≡ p ∷ []
unfolding holds slot_row keep
found_by k p ps f e =
    let a : k / 2 ≡ p.port = omega arith in
    let b : k % 2 ≡ p.follower = omega arith in
    rw (eq-eqb (slot_of p) k e) (λ i. record { port = a i; follower = b i; pre = p.pre; post = p.post } ∷ [])

none_picked : (k : ℕ) (ps : List Player) → holds k ps ≡ false → picked ps k ≡ []
unfolding keep
none_picked k ps e = rw e

bound_so : (i n : ℕ) (ps : List Player) → Each (λ p. slot_of p < i + suc n) ps → Each (λ p. slot_of p < i + 1 + n) ps
bound_so i n ps = each_so (λ p. slot_of p < i + suc n) (λ p. slot_of p < i + 1 + n) ps (λ p l. omega arith)

-- players in order are those that the slots pick
pub picked_all : (i n : ℕ) (ps : List Player) → Rising i (map slot_of ps) → Each (λ p. p.follower ≤ 1) ps → Each (λ p. slot_of p < i + n) ps → ranged (picked ps) i n ≡ ps
unfolding ranged Rising Each holds keep
picked_all i zero [] r f b = refl
picked_all i zero (p ∷ ps) r f b = absurd (omega (arith, r.0, b.0))
picked_all i (suc n) [] r f b = picked_all (i + 1) n [] tt tt tt
picked_all i (suc n) (p ∷ ps) r f b =
    elim (ℕ_discrete (slot_of p) i) [
      | yes e ↦
          ap₂ (λ (a c : List Player). a ++ c) (found_by i p ps f.0 e)
          (ranged_same (picked (p ∷ ps)) (picked ps) (i + 1) n (λ k l m. passed_by k p ps (λ q. omega arith))
          ∙ picked_all (i + 1) n ps (rising_from (slot_of p + 1) (i + 1) (map slot_of ps) (omega arith) r.1) f.1 (bound_so i n ps b.1))
      | no e ↦
          let above : i + 1 ≤ slot_of p = omega (arith, r.0) in
          ap₂ (λ (a c : List Player). a ++ c) (none_picked i (p ∷ ps) (not_below i (i + 1) (p ∷ ps) (above, r.1) (omega arith)))
          (picked_all (i + 1) n (p ∷ ps) (above, r.1) f (bound_so i n (p ∷ ps) b))
    ]

-- and so they are of the slots that are there, if all of them are
pub picked_seated : (fs : List Frame) (ps : List Player) → ((k : ℕ) → holds k ps ≡ true → ever_in k fs ≡ true) → flat (picked ps) (slot_numbers fs) ≡ ranged (picked ps) 0 8
unfolding slot_numbers
picked_seated fs ps h =
    flat_ranged (picked ps) (λ k. keep (seated k fs) (k ∷ [])) 0 8
    ∙ ranged_same _ (picked ps) 0 8 (λ k l m. flat_keep (picked ps) (seated k fs) k ∙ under k (holds k ps) refl)
  where
    under : (k : ℕ) (b : Bool) → holds k ps ≡ b → keep (seated k fs) (picked ps k) ≡ picked ps k
    under k true e = kept (seated k fs) (picked ps k) (seated_there k fs (h k e))
    under k false e = ap (keep (seated k fs)) (none_picked k ps e) ∙ keep_none (seated k fs) ∙ sym (none_picked k ps e)
