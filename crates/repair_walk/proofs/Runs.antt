-- What is counted is what the walk finds.
-- Assumes nothing.
use Prim.Native.Nat.{ℕ, zero, suc, ◌+◌, ◌-◌, ◌≤◌, ◌<◌}
use mathlib.Core.Path.{◌≡◌, refl, sym, ap, subst, ◌∙◌}
use mathlib.Core.Bool.{Bool, true, false, cond, ◌&&◌}
use mathlib.Core.List.{List, [], ◌∷◌}
use native.Mathlib.Decide.{dec_lt, ℕ_discrete}
use native.Mathlib.Omega.{arith}
use borrow.Author.Tests.{lt-ltb, le-ltb, le-leb, lt-leb}
use lib.Dec.{ltb, leb}
use lib.ListN.{length, get_or, drop}
use Rattle.head.specs.Table.{stop_of, all_present, table_of, first_place, span_of, head_refusal}
use Rattle.head.specs.Step.{event_in, step_in, step_of}
use Rattle.head.specs.declared.Step.{Step}
use Rattle.head.specs.declared.Step.TheVariants.{Event, Ends, Cut, Refused}
use Rattle.head.proofs.Steps.{unlisted, fits, overruns, at_end, inside}
use Rattle.de.specs.Walk.{Run, after, turn, run, run_of}
use Rattle.read_judge.specs.Inner.{Bytes}
use Rattle.read_scan.specs.Inner.{span_at}
use Rattle.repair_kept.proofs.Same.{byte_same}
use Rattle.repair_walk.specs.Inner.{pass, is_whole, passed_from}
use Rattle.repair_walk.specs.declared.Passed.{Passed}

-- ---- of files that are the same from their tables on

module _ (f g spans : List ℕ) (same : drop 15 f ≡ drop 15 g) (stop : ℕ) where
  span_same : (at : ℕ) → 15 ≤ at → span_at spans f at ≡ span_at spans g at
  span_same at h = ap (λ (c : ℕ). get_or spans c 0) (byte_same f g same at h)

  whole_same : (at : ℕ) → 15 ≤ at → is_whole f spans stop at ≡ is_whole g spans stop at
  unfolding is_whole
  whole_same at h = λ i. ltb at stop && (ltb 0 (span_same at h i) && leb (at + span_same at h i) stop)

  pub passed_same : (k at n : ℕ) → 15 ≤ at → passed_from f spans stop k at n ≡ passed_from g spans stop k at n
  unfolding passed_from
  passed_same zero at n h = refl
  passed_same (suc k) at n h =
      (λ i. cond (whole_same at h i) (passed_from f spans stop k (at + span_same at h i) (n + 1)) (pass at n))
      ∙ ap (λ (x : Passed). cond (is_whole g spans stop at) x (pass at n)) (passed_same k (at + span_at spans g at) (n + 1) (omega arith))

-- ---- by the walk

module _ (g spans : List ℕ) (accepted : head_refusal g ≡ 0) (bytes : Bytes g) (index : (c : ℕ) → c < 256 → get_or spans c 0 ≡ span_of c (table_of g)) where
  abbrev stop : ℕ
  stop = stop_of g

  abbrev span_here : ℕ → ℕ
  span_here p = span_of (get_or g p 0) (table_of g)

  span_is : (p : ℕ) → span_at spans g p ≡ span_here p
  span_is p = index (get_or g p 0) (bytes p)

  step_here : (p : ℕ) → step_of g p ≡ step_in (first_place (table_of g)) stop (all_present g) p (get_or g p 0) (span_here p)
  unfolding step_of
  step_here p = rw accepted

  -- what the walk makes of a step, counted from c on
  abbrev counted : ℕ → Run → Passed
  counted c r = pass r.place (c + length r.seen)

  nothing_more : (p c : ℕ) → pass p c ≡ pass p (c + 0)
  nothing_more p c = let e : c ≡ c + 0 = omega arith in ap (pass p) e

  module _ (n k p c : ℕ) where
    abbrev Says : Step → Type 0
    Says s = passed_from g spans stop (suc k) p c ≡ counted c (turn s (run n g) p)

    stopped_here : is_whole g spans stop p ≡ false → (s : Step) → counted c (turn s (run n g) p) ≡ pass p (c + 0) → Says s
    unfolding passed_from
    stopped_here e s q = rw e (nothing_more p c ∙ sym q)

    either : (w : Bool) (s t : Step) → Says s → Says t → Says (cond w s t)
    either true s t x y = x
    either false s t x y = y

    by_step : first_place (table_of g) ≤ p → p ≤ stop → ((span_here p ≡ 0 → ⊥) → p + span_here p ≤ stop → Says (Event (get_or g p 0) p (p + 1) (span_here p - 1) (p + span_here p))) → Says (step_of g p)
    unfolding is_whole
    by_step a b event =
        let code = get_or g p 0 in
        let w = all_present g in
        subst Says (sym (step_here p))
        (elim (ℕ_discrete p stop) [
          | yes q ↦
              let e : is_whole g spans stop p ≡ false = rw (le-ltb p stop (omega arith)) in
              subst Says (sym (at_end stop w p code (span_here p) (first_place (table_of g)) a q)) (either w Ends Cut (stopped_here e Ends refl) (stopped_here e Cut refl))
          | no q ↦
              subst Says (sym (inside stop w p code (span_here p) (first_place (table_of g)) a (omega arith)))
              (elim (ℕ_discrete (span_here p) 0) [
                | yes z ↦
                    let e : is_whole g spans stop p ≡ false = rw (lt-ltb p stop (omega arith), span_is p, le-ltb 0 (span_here p) (omega arith)) in
                    subst Says (sym (unlisted stop w p code (span_here p) z)) (stopped_here e (Refused 16 p) refl)
                | no z ↦ elim (dec_lt stop (p + span_here p)) [
                  | yes l ↦
                      let e : is_whole g spans stop p ≡ false = rw (lt-ltb p stop (omega arith), span_is p, lt-ltb 0 (span_here p) (omega arith), lt-leb (p + span_here p) stop l) in
                      subst Says (sym (overruns stop w p code (span_here p) z l)) (either w (Refused 17 p) Cut (stopped_here e (Refused 17 p) refl) (stopped_here e Cut refl))
                  | no l ↦ subst Says (sym (fits stop w p code (span_here p) z (omega arith))) (event z (omega arith))
                ]
              ])
        ])

  whole_there : (p : ℕ) → (span_here p ≡ 0 → ⊥) → p + span_here p ≤ stop → is_whole g spans stop p ≡ true
  unfolding is_whole
  whole_there p z l = rw (lt-ltb p stop (omega arith), span_is p, lt-ltb 0 (span_here p) (omega arith)) (le-leb (p + span_here p) stop l)

  event_more : (n k p c : ℕ) → (span_here p ≡ 0 → ⊥) → p + span_here p ≤ stop
      → passed_from g spans stop k (p + span_here p) (c + 1) ≡ counted (c + 1) (run n g (p + span_here p))
      → Says n k p c (Event (get_or g p 0) p (p + 1) (span_here p - 1) (p + span_here p))
  unfolding passed_from
  event_more n k p c z l more =
      let r = run n g (p + span_here p) in
      let e : c + 1 + length r.seen ≡ c + suc (length r.seen) = omega arith in
      rw (whole_there p z l, span_is p) (more ∙ ap (pass r.place) e)

  -- at the data's end
  last_one : (k p c : ℕ) → first_place (table_of g) ≤ p → stop ≤ p → passed_from g spans stop (suc k) p c ≡ counted c (run zero g p)
  unfolding run passed_from is_whole
  last_one k p c a l = rw (le-ltb p stop l) (nothing_more p c)

  pub run_passed : (n k p c : ℕ) → first_place (table_of g) ≤ p → p ≤ stop → stop ≤ p + n → stop < p + k → passed_from g spans stop k p c ≡ counted c (run n g p)
  unfolding run
  run_passed n zero p c a b few enough = absurd (omega arith)
  run_passed zero (suc k) p c a b few enough = last_one k p c a (omega arith)
  run_passed (suc n) (suc k) p c a b few enough =
      by_step n k p c a b (λ z l. event_more n k p c z l (run_passed n k (p + span_here p) (c + 1) (omega arith) l (omega arith) (omega arith)))
