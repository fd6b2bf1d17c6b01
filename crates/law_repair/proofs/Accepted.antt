-- What `repair` gives is accepted by `read`: the events of a file do not hang on what stands behind them.
-- Assumes nothing.
use Prim.Native.Nat.{ℕ, zero, suc, ◌+◌, ◌-◌, ◌*◌, ◌/◌, ◌%◌, ◌≤◌, ◌<◌}
use mathlib.Core.Path.{◌≡◌, refl, sym, ap, subst, ◌∙◌}
use mathlib.Core.Bool.{true, false, cond, not, ◌||◌}
use mathlib.Core.List.{List, [], ◌∷◌, ◌++◌, map}
use native.Mathlib.Decide.{dec_lt}
use native.Mathlib.Omega.{arith}
use lib.Dec.{eqb, ltb}
use lib.ListN.{length, get_or, take, drop, length-append, get_or-append}
use lib.Seq.{take_at, get_or-take, length-take-le}
use Rattle.wire.specs.Wire.{number, part}
use Rattle.format.specs.Event.{signature}
use Rattle.format.specs.File.{Ev}
use Rattle.format.specs.Refusal.{refuse, lowest}
use Rattle.format.specs.Version.{accepted_of}
use Rattle.head.specs.Table.{starts_with, declared, stop_of, all_present, entries_in, table_of, first_place, span_of, code_twice, table_missing, unsigned, untabled, head_refusal, head_offset}
use Rattle.head.specs.Step.{step_in, step_of}
use Rattle.head.specs.Numbers.{step_numbers}
use Rattle.head.specs.declared.Step.{Step}
use Rattle.head.specs.declared.Step.TheVariants.{Event, Ends, Cut, Refused}
use Rattle.head.proofs.Filled.{whole_data, zero_data, cut_data}
use Rattle.head.proofs.Heads.{signed_is, entries_length}
use Rattle.head.proofs.Steps.{at_end}
use Rattle.de.specs.Walk.{turn, run, run_of, answer_at, walk_of}
use Rattle.de.specs.Numbers.{walk_numbers}
use Rattle.de.specs.Cut.{event_at, events_read}
use Rattle.de.proofs.Runs.{run_stop}
use Rattle.grammar.specs.Productions.{events_of, used_in}
use Rattle.grammar.specs.Readable.{Readable}
use Rattle.known.specs.Known.{taken}
use Rattle.read_outline.specs.Listed.{listed_right}
use Rattle.read_judge.specs.Found.{opens_wrong, version_said, early_refusal, too_big}
use Rattle.read_judge.specs.Inner.{Bytes, WalkDone}
use Rattle.read_judge.proofs.Walked.{stands, event_stands, comes_to_end, event_here, span_here}
use Rattle.de.specs.declared.Walked.{Walked}
use Rattle.de.specs.declared.Walked.TheVariants as walked
use Rattle.read_judge.proofs.Steps.{walk_early}
use Rattle.repair_kept.specs.Kept.{Accepted}
use Rattle.repair_kept.proofs.Field.{starts_take}
use Rattle.repair_kept.proofs.Same.{no_way}
use Rattle.repair_head.proofs.Laws.{take-take, drop_take, entries_take}

-- ---- event data that is whole

pub whole_is : (g : List ℕ) → all_present g ≡ true → (declared g ≡ 0 → ⊥) × (stop_of g ≡ 15 + declared g)
whole_is g w = (filled, (whole_data g filled (go (length g))).0)
  where
    never : {A : Type 0} → all_present g ≡ false → A
    never e = no_way (sym e ∙ w)

    filled : declared g ≡ 0 → ⊥
    filled z = never (zero_data g z).1

    go : (n : ℕ) → 15 + declared g ≤ length g
    go n = elim (dec_lt (length g) (15 + declared g)) [
      | yes l ↦ never (cut_data g filled l).1
      | no k ↦ omega arith
    ]

pub early_done : (g : List ℕ) → early_refusal g ≡ 0 → WalkDone g
early_done g z = go (walk_of g) refl
  where
    go : (w : Walked) → walk_of g ≡ w → (walk_numbers (walk_of g)).kind ≡ 0
    go (walked.Done events stray whole place) e = ap (λ (x : Walked). (walk_numbers x).kind) e
    go (walked.Refused number offset) e = absurd ((walk_early g (walk_of g) number offset refl e).0 z)

-- then the first event alone is asked
pub early_by : (f : List ℕ) → WalkDone f → early_refusal f ≡ lowest (refuse 19 (opens_wrong (events_read f)) ∷ refuse 1 (not (accepted_of (version_said (events_read f)))) ∷ [])
unfolding early_refusal lowest
early_by f k = rw k

-- a walk that is not refused has no refusal where it stops
step_refused : (stop events place : ℕ) (s : Step) → (walk_numbers (answer_at stop events place s)).kind ≡ 0 → (step_numbers s).kind ≡ 3 → ⊥
step_refused stop events place (Event code at payload len next) k e = omega arith
step_refused stop events place Ends k e = omega arith
step_refused stop events place Cut k e = omega arith
step_refused stop events place (Refused number offset) k e = omega arith

pub not_refused : (f : List ℕ) → WalkDone f → (step_numbers (run_of f).last).kind ≡ 3 → ⊥
unfolding walk_of
not_refused f k = step_refused (stop_of f) (length (run_of f).seen) (run_of f).place (run_of f).last k

-- ---- two files that are the same up to the end of their events

module _ (g tail : List ℕ) (p : ℕ) (in_g : p ≤ length g) where
  abbrev h : List ℕ
  h = take p g ++ tail

  front : length (take p g) ≡ p
  front = length-take-le p g in_g

  pub same_front : take p h ≡ take p g
  same_front = take_at (take p g) tail p front

  pub long_h : p ≤ length h
  long_h = omega (arith, length-append (take p g) tail, front)

  byte_h : (i : ℕ) → i < p → get_or h i 0 ≡ get_or g i 0
  byte_h i l = get_or-append (take p g) tail 0 i (omega (arith, front)) ∙ get_or-take p g i 0 l

  part_cut : (x : List ℕ) (a n : ℕ) → a + n ≤ p → part (take p x) a n ≡ part x a n
  unfolding part
  part_cut x a n l =
      let e : a + (p - a) ≡ p = omega arith in
      ap (λ (k : ℕ). take n (drop a (take k x))) (sym e) ∙ ap (take n) (drop_take a (p - a) x) ∙ take-take n (p - a) (drop a x) (omega arith)

  part_h : (a n : ℕ) → a + n ≤ p → part h a n ≡ part g a n
  part_h a n l = sym (part_cut h a n l) ∙ ap (λ (x : List ℕ). part x a n) same_front ∙ part_cut g a n l

  signature_h : 11 ≤ p → starts_with signature h ≡ starts_with signature g
  signature_h l =
      let one : (x : List ℕ) → starts_with signature x ≡ starts_with signature (take 11 (take p x)) = λ x. starts_take signature x ∙ ap (starts_with signature) (sym (take-take 11 p x l)) in
      one h ∙ ap (λ (x : List ℕ). starts_with signature (take 11 x)) same_front ∙ sym (one g)

  entries_cut : (x : List ℕ) (k : ℕ) → 17 + 3 * k ≤ p → entries_in k (drop 17 (take p x)) ≡ entries_in k (drop 17 x)
  entries_cut x k l =
      let e : 17 + (p - 17) ≡ p = omega arith in
      ap (λ (n : ℕ). entries_in k (drop 17 (take n x))) (sym e) ∙ ap (entries_in k) (drop_take 17 (p - 17) x) ∙ entries_take k (p - 17) (drop 17 x) (omega arith)

  module _ (accepted : head_refusal g ≡ 0) (whole : all_present g ≡ true) (stop_g : stop_of g ≡ p) (first_in : first_place (table_of g) ≤ p) where
    low : 17 ≤ p
    low = omega arith

    table_h : table_of h ≡ table_of g
    unfolding table_of
    table_h =
        let k = get_or g 16 0 / 3 in
        let l : 17 + 3 * k ≤ p = omega (arith, first_in, entries_length k (drop 17 g)) in
        ap (λ (n : ℕ). entries_in (n / 3) (drop 17 h)) (byte_h 16 (omega (arith, low)))
        ∙ sym (entries_cut h k l)
        ∙ ap (λ (x : List ℕ). entries_in k (drop 17 x)) same_front
        ∙ entries_cut g k l

    declared_h : declared h ≡ declared g
    declared_h = ap number (part_h 11 4 (omega (arith, low)))

    filled : (declared g ≡ 0 → ⊥) × (15 + declared g ≡ p)
    filled = let (a, b) = whole_is g whole in (a, sym b ∙ stop_g)

    ends_h : (stop_of h ≡ 15 + declared h) × (all_present h ≡ true)
    ends_h = whole_data h (λ z. filled.0 (sym declared_h ∙ z)) (omega (arith, declared_h, filled.1, long_h))

    stop_h : stop_of h ≡ p
    stop_h = ends_h.0 ∙ omega (arith, declared_h, filled.1)

    signed_h : unsigned h ≡ unsigned g
    signed_h = signed_is h (omega (arith, long_h, low)) ∙ ap not (signature_h (omega (arith, low))) ∙ sym (signed_is g (omega (arith, in_g, low)))

    missing_h : table_missing h ≡ table_missing g
    unfolding table_missing
    missing_h =
        let a = stop_h ∙ sym stop_g in
        let b = byte_h 15 (omega (arith, low)) in
        let c = byte_h 16 (omega (arith, low)) in
        λ i. ltb (a i) 17 || not (eqb (b i) 0x35) || not (eqb (c i % 3) 1) || ltb (a i) (16 + c i)

    refusal_h : head_refusal h ≡ head_refusal g
    unfolding head_refusal untabled
    refusal_h = λ i. lowest (refuse 14 (signed_h i) ∷ refuse 15 (missing_h i || code_twice (table_h i)) ∷ [])

    step_h : (q : ℕ) → q < p → step_of h q ≡ step_of g q
    unfolding step_of
    step_h q l =
        let a = stop_h ∙ sym stop_g in
        let w = ends_h.1 ∙ sym whole in
        let b = byte_h q l in
        λ i. cond (eqb (refusal_h i) 0) (step_in (first_place (table_h i)) (a i) (w i) q (b i) (span_of (b i) (table_h i))) (Refused (refusal_h i) (head_offset (refusal_h i)))

    end_h : step_of h p ≡ Ends
    unfolding step_of
    end_h =
        rw (refusal_h ∙ accepted)
        (at_end (stop_of h) (all_present h) p (get_or h p 0) (span_of (get_or h p 0) (table_of h)) (first_place (table_of h)) (omega (arith, ap first_place table_h)) (sym stop_h) ∙ rw ends_h.1)

    -- ---- the walk

    module _ (spans : List ℕ) (index : (c : ℕ) → c < 256 → get_or spans c 0 ≡ span_of c (table_of g)) (bytes : Bytes g) where
      record Same (n q : ℕ) (seen : List Step) : Type 0 where
        events : map (event_at h) (run n h q).seen ≡ map (event_at g) seen
        last : (run n h q).last ≡ Ends

      no_end : {A : Type 0} (s : Step) → ((step_numbers s).kind ≡ 1 → ⊥) → s ≡ Ends → A
      no_end s k e = absurd (k (ap (λ (x : Step). (step_numbers x).kind) e))

      same_end : (n q : ℕ) → q ≡ p → Same n q []
      same_end n q e =
          let r = run_stop n h q Ends (λ z. omega arith) (ap (step_of h) e ∙ end_h) in
          record { events = ap (λ x. map (event_at h) x.seen) r; last = ap (λ x. x.last) r }

      same_event : (n q : ℕ) (seen : List Step) → first_place (table_of g) ≤ q → (span_here g spans accepted bytes index q ≡ 0 → ⊥) → q + span_here g spans accepted bytes index q ≤ p
          → Same n (q + span_here g spans accepted bytes index q) seen → Same (suc n) q (event_here g spans accepted bytes index q ∷ seen)
      unfolding run
      same_event n q seen a z l x =
          let span = span_here g spans accepted bytes index q in
          let event = event_here g spans accepted bytes index q in
          let e = step_h q (omega arith) ∙ event_stands g spans accepted bytes index q a z (omega (arith, stop_g)) in
          let payload = part_h (q + 1) (span - 1) (omega arith) in
          record {
            events =
                ap (λ (s : Step). map (event_at h) (turn s (run n h) q).seen) e
                ∙ (λ i. record { code = get_or g q 0; payload = payload i } ∷ map (event_at h) (run n h (q + span)).seen)
                ∙ ap (λ (es : List Ev). event_at g event ∷ es) x.events;
            last = ap (λ (s : Step). (turn s (run n h) q).last) e ∙ x.last;
          }

      same_run_lem : (m n q : ℕ) → first_place (table_of g) ≤ q → q ≤ p → p ≤ q + n → (run m g q).last ≡ Ends → Same n q (run m g q).seen
      unfolding run
      same_run_lem zero n q a b few =
          stands g spans accepted bytes index (λ s. s ≡ Ends → Same n q []) q a (omega (arith, stop_g)) (λ e k. same_end n q (e ∙ stop_g))
          (λ z l k. no_end (event_here g spans accepted bytes index q) (λ x. omega arith) k) (λ k o e. no_end (Refused k o) (λ x. omega arith) e) (λ t e. no_end Cut (λ x. omega arith) e)
      same_run_lem (suc m) zero q a b few =
          stands g spans accepted bytes index (λ s. (turn s (run m g) q).last ≡ Ends → Same zero q (turn s (run m g) q).seen) q a (omega (arith, stop_g)) (λ e k. same_end zero q (e ∙ stop_g))
          (λ z l k. absurd (omega (arith, stop_g))) (λ k o e. no_end (Refused k o) (λ x. omega arith) e) (λ t e. no_end Cut (λ x. omega arith) e)
      same_run_lem (suc m) (suc n) q a b few =
          stands g spans accepted bytes index (λ s. (turn s (run m g) q).last ≡ Ends → Same (suc n) q (turn s (run m g) q).seen) q a (omega (arith, stop_g)) (λ e k. same_end (suc n) q (e ∙ stop_g))
          (λ z l k. same_event n q (run m g (q + span_here g spans accepted bytes index q)).seen a z (omega (arith, stop_g, l)) (same_run_lem m n (q + span_here g spans accepted bytes index q) (omega arith) (omega (arith, stop_g, l)) (omega arith) k))
          (λ k o e. no_end (Refused k o) (λ x. omega arith) e) (λ t e. no_end Cut (λ x. omega arith) e)

      module _ (x : Accepted g) where
        ends_g : (run_of g).last ≡ Ends
        ends_g = comes_to_end g spans accepted bytes index (omega (arith, stop_g)) whole (not_refused g (early_done g x.early))

        all_same : Same (length h) (first_place (table_of g)) (run_of g).seen
        all_same = same_run_lem (length g) (length h) (first_place (table_of g)) (omega arith) first_in (omega (arith, long_h)) ends_g

        pub events_h : events_read h ≡ events_read g
        unfolding events_read
        events_h = ap (λ (n : ℕ). map (event_at h) (run (length h) h n).seen) (ap first_place table_h) ∙ all_same.events

        done_h : WalkDone h
        unfolding walk_of
        done_h =
            ap (λ (s : Step). (walk_numbers (answer_at (stop_of h) (length (run_of h).seen) (run_of h).place s)).kind)
            (ap (λ (n : ℕ). (run (length h) h n).last) (ap first_place table_h) ∙ all_same.last)

        pub accepted_h : Accepted h
        accepted_h = record {
          early = early_by h done_h ∙ ap (λ (es : List Ev). lowest (refuse 19 (opens_wrong es) ∷ refuse 1 (not (accepted_of (version_said es))) ∷ [])) events_h ∙ sym (early_by g (early_done g x.early)) ∙ x.early;
          found = record {
            replay = x.found.replay;
            whole = ends_h.1;
            events_are = ap (λ (es : List Ev). taken (version_said es) es) events_h ∙ x.found.events_are ∙ ap (λ (es : List Ev). events_of (version_said es) x.found.replay) (sym events_h);
            readable = subst (λ (es : List Ev). Readable (version_said es) x.found.replay) (sym events_h) x.found.readable;
            listed = (λ i. listed_right (version_said (events_h i)) (span_of 0x3D (table_h i)) (length x.found.replay.codes) (used_in x.found.replay.codes)) ∙ x.found.listed;
          };
          small = ap (λ (es : List Ev). too_big (version_said es) x.found.replay) events_h ∙ x.small;
        }
