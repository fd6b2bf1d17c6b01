-- The public writer's answers, one law a return.
-- Assumes nothing.
use mathlib.Core.Path.{◌≡◌, refl, sym, ap, ◌∙◌}
use mathlib.Core.Bool.{Bool, true, false, not}
use mathlib.Core.List.{List, [], ◌∷◌}
use Prim.Native.Nat.{ℕ, ◌*◌, ◌≤◌, ◌<◌}
use native.Mathlib.Nat.{zero-add}
use native.Mathlib.Omega.{arith}
use native.Mathlib.Decide.{dec_lt}
use borrow.Author.Tests.{eq-eqb, ne_eqb, lt-ltb, le-ltb, ltb-false}
use lib.Dec.{eqb, ltb}
use lib.ListN.{length}
use Rattle.std.specs.Prelude.{Ok}
use Rattle.wire.specs.Wire.{Room, Wrote}
use Rattle.format.specs.Refusal.{refuse, lowest, one_of}
use Rattle.format.proofs.Refusals.{skip, here, none, passed}
use Rattle.format.proofs.Tests.{other, same, same_of, one_here, one_skip, one_none, one_passed}
use Rattle.map.specs.Map.{body_of}
use Rattle.map.specs.Keys.{doubled_at}
use Rattle.map.specs.Inner.{cap_of}
use Rattle.map.specs.Write.{lent_map, refusal_of, map_written, WriteMapOutcome}
use Rattle.map.proofs.Judging.{cap_over, cap_under}

cap_long : (L bytes : ℕ) → bytes ≡ cap_of L → 65535 < bytes → 65535 < L
cap_long L bytes e h = elim (dec_lt 65535 L) [
  | yes l ↦ l
  | no n ↦ let s = cap_under L (omega arith) in absurd (omega (arith, e, s))
]

cap_short : (L bytes : ℕ) → bytes ≡ cap_of L → bytes ≤ 65535 → bytes ≡ L
cap_short L bytes e h = elim (dec_lt 65535 L) [
  | yes l ↦ let s = cap_over L l in absurd (omega (arith, e, s))
  | no n ↦ e ∙ sym (cap_under L (omega arith))
]

module _ (rows texts : List ℕ) (count room : ℕ) {w : ℕ} (ew : w ≡ (lent_map rows texts count).refusal) where
  is_not : (n : ℕ) → (w ≡ n → ⊥) → eqb (lent_map rows texts count).refusal n ≡ false
  is_not n x = ne_eqb (lent_map rows texts count).refusal n (λ q. x (ew ∙ q))

  pub deep : w ≡ 20 → 20 ≡ refusal_of rows texts count room
  unfolding refusal_of
  deep e = here 20 _ _ (eq-eqb (lent_map rows texts count).refusal 20 (sym ew ∙ e))

  module _ (n1 : w ≡ 20 → ⊥) where
    pub long : w ≡ 21 → 21 ≡ refusal_of rows texts count room
    unfolding refusal_of
    long e = skip 20 21 _ _ (is_not 20 n1) (here 21 _ _ (eq-eqb (lent_map rows texts count).refusal 21 (sym ew ∙ e)))

    module _ (n2 : w ≡ 21 → ⊥) {x : Bool} (ex : x ≡ doubled_at rows texts 8 0 count) where
      pub twice : x ≡ true → 22 ≡ refusal_of rows texts count room
      unfolding refusal_of
      twice t = skip 20 22 _ _ (is_not 20 n1) (skip 21 22 _ _ (is_not 21 n2) (here 22 _ _ (sym ex ∙ t)))

      module _ (f : x ≡ false) where
        after : (r : ℕ)
            → r ≡ lowest (refuse 23 (one_of (not (eqb (lent_map rows texts count).refusal 0) ∷ not (eqb (5 * (lent_map rows texts count).next) (length rows)) ∷ []))
            ∷ refuse 2 (ltb 65535 (length (body_of (lent_map rows texts count).map))) ∷ refuse 12 (ltb room (length (body_of (lent_map rows texts count).map))) ∷ [])
            → r ≡ refusal_of rows texts count room
        unfolding refusal_of
        after r e = skip 20 r _ _ (is_not 20 n1) (skip 21 r _ _ (is_not 21 n2) (skip 22 r _ _ (sym ex ∙ f) e))

        pub no_map : (w ≡ 0 → ⊥) → 23 ≡ refusal_of rows texts count room
        no_map n = after 23 (here 23 _ _ (sym (one_here _ _ (other (lent_map rows texts count).refusal 0 (λ q. n (ew ∙ q))))))

        module _ (z : w ≡ 0) {next : ℕ} (en : next ≡ (lent_map rows texts count).next) where
          sound : not (eqb (lent_map rows texts count).refusal 0) ≡ false
          sound = same (lent_map rows texts count).refusal 0 (sym ew ∙ z)

          pub other_rows : (5 * next ≡ length rows → ⊥) → 23 ≡ refusal_of rows texts count room
          other_rows n = after 23 (here 23 _ _ (sym (one_skip true _ _ sound (one_here _ _ (other (5 * (lent_map rows texts count).next) (length rows) (λ q. n (ap (λ k. 5 * k) en ∙ q)))))))

          module _ (e : 5 * next ≡ length rows) {bytes : ℕ} (eb : bytes ≡ cap_of (length (body_of (lent_map rows texts count).map))) where
            rest : (r : ℕ) → r ≡ lowest (refuse 2 (ltb 65535 (length (body_of (lent_map rows texts count).map))) ∷ refuse 12 (ltb room (length (body_of (lent_map rows texts count).map))) ∷ []) → r ≡ refusal_of rows texts count room
            rest r q = after r (skip 23 r _ _ (sym (one_skip false _ _ sound (one_skip false _ _ (same (5 * (lent_map rows texts count).next) (length rows) (sym (ap (λ k. 5 * k) en) ∙ e)) one_none))) q)

            pub too_long_lem : 65535 < bytes → 2 ≡ refusal_of rows texts count room
            too_long_lem h = rest 2 (here 2 _ _ (lt-ltb 65535 (length (body_of (lent_map rows texts count).map)) (cap_long _ bytes eb h)))

            module _ (h : bytes ≤ 65535) where
              length_is : bytes ≡ length (body_of (lent_map rows texts count).map)
              length_is = cap_short _ bytes eb h

              short : ltb 65535 (length (body_of (lent_map rows texts count).map)) ≡ false
              short = le-ltb 65535 (length (body_of (lent_map rows texts count).map)) (omega (arith, length_is))

              pub no_room : room < bytes → 12 ≡ refusal_of rows texts count room
              no_room r = rest 12 (skip 2 12 _ _ short (here 12 _ _ (lt-ltb room (length (body_of (lent_map rows texts count).map)) (omega (arith, length_is)))))

              pub all_well : bytes ≤ room → 0 ≡ refusal_of rows texts count room
              all_well r = rest 0 (skip 2 0 _ _ short (skip 12 0 _ _ (le-ltb room (length (body_of (lent_map rows texts count).map)) (omega (arith, length_is))) none))

-- what an accepted map is known to be
pub record Accepted (rows texts : List ℕ) (count room : ℕ) : Type 0 where
  pub ok : (lent_map rows texts count).refusal ≡ 0
  pub once : doubled_at rows texts 8 0 count ≡ false
  pub whole : 5 * (lent_map rows texts count).next ≡ length rows
  pub small : length (body_of (lent_map rows texts count).map) ≤ 65535
  pub fits : length (body_of (lent_map rows texts count).map) ≤ room

pub accepted_of_lem : (rows texts : List ℕ) (count room : ℕ) → refusal_of rows texts count room ≡ 0 → Accepted rows texts count room
unfolding refusal_of
accepted_of_lem rows texts count room e =
    let g = lent_map rows texts count in
    let (a, e1) = passed 19 (eqb g.refusal 20) _ e in
    let (b, e2) = passed 20 (eqb g.refusal 21) _ e1 in
    let (c, e3) = passed 21 (doubled_at rows texts 8 0 count) _ e2 in
    let (d, e4) = passed 22 (one_of (not (eqb g.refusal 0) ∷ not (eqb (5 * g.next) (length rows)) ∷ [])) _ e3 in
    let (h, e5) = passed 1 (ltb 65535 (length (body_of g.map))) _ e4 in
    let (i, e6) = passed 11 (ltb room (length (body_of g.map))) [] e5 in
    let (ok, d2) = one_passed (not (eqb g.refusal 0)) _ d in
    let (whole, d3) = one_passed (not (eqb (5 * g.next) (length rows))) [] d2 in
    record {
      ok = same_of g.refusal 0 ok;
      once = c;
      whole = same_of (5 * g.next) (length rows) whole;
      small = ltb-false 65535 (length (body_of g.map)) h;
      fits = ltb-false room (length (body_of g.map)) i;
    }

pub refused_as_lem : (rows texts : List ℕ) (count room : ℕ) → Accepted rows texts count room → 0 ≡ refusal_of rows texts count room
refused_as_lem rows texts count room a =
    all_well rows texts count room refl (λ q. absurd (omega (arith, q, a.ok))) (λ q. absurd (omega (arith, q, a.ok))) refl a.once a.ok refl a.whole refl
    (omega (arith, cap_under (length (body_of (lent_map rows texts count).map)) a.small, a.small)) (omega (arith, cap_under (length (body_of (lent_map rows texts count).map)) a.small, a.fits))

-- the outcome
pub outcome_yes : {before rows texts after : List ℕ} {count at : ℕ} → 0 ≡ refusal_of rows texts count (length before) → Wrote before after 0 at (body_of (lent_map rows texts count).map)
    → WriteMapOutcome before rows texts count after (map_written (Ok at))
outcome_yes e w = record { refusal_is = e; accepted = λ q. (w.next_is ∙ zero-add _, w.after_is); untouched = λ n. absurd (n refl) }

pub put_ok : (before rows texts : List ℕ) (count : ℕ) → 0 ≡ refusal_of rows texts count (length before)
    → ((lent_map rows texts count).refusal ≡ 0) × Room before 0 (body_of (lent_map rows texts count).map)
put_ok before rows texts count e =
    let a = accepted_of_lem rows texts count (length before) (sym e) in
    (a.ok, record { fits = omega (arith, a.fits) })
