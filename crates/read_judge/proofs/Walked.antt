-- A walk that comes to the end of its data has found all of it: the bytes of its events are the bytes of the data.
-- Assumes nothing.
use Prim.Native.Nat.{ℕ, zero, suc, ◌+◌, ◌-◌, ◌≤◌, ◌<◌}
use mathlib.Core.Path.{◌≡◌, refl, sym, ap, subst, ◌∙◌}
use mathlib.Core.Bool.{Bool, true, false, cond}
use mathlib.Core.List.{List, [], ◌∷◌, ◌++◌, map, append_assoc}
use native.Mathlib.Decide.{dec_lt, ℕ_discrete}
use native.Mathlib.Omega.{arith}
use lib.ListN.{length, get_or, take, drop, length-append, length-take, length-drop, take-append-drop}
use lib.Seq.{drop-cons, drop-drop}
use Rattle.wire.specs.Wire.{part}
use Rattle.format.specs.File.{Ev, event_bytes, events_bytes}
use Rattle.head.specs.Table.{stop_of, all_present, table_of, first_place, span_of, head_refusal}
use Rattle.head.specs.Step.{step_in, step_of}
use Rattle.head.specs.Numbers.{step_numbers}
use Rattle.head.specs.declared.Step.{Step}
use Rattle.head.specs.declared.Step.TheVariants.{Event, Ends, Cut, Refused}
use Rattle.head.proofs.Steps.{unlisted, fits, overruns, at_end, inside}
use Rattle.head.proofs.Filled.{stop_within}
use Rattle.de.specs.Walk.{turn, run, run_of}
use Rattle.de.specs.Cut.{event_at, events_read}
use Rattle.grammar.specs.WellFormed.{Each}
use Rattle.grammar.proofs.Exactly.{Byte}
use Rattle.read_judge.specs.Inner.{Bytes, Covers}

-- ---- parts of a list of bytes

each_drop : (f : List ℕ) → Bytes f → (n : ℕ) → Bytes (drop n f)
each_drop f b zero = b
each_drop [] b (suc n) = b
each_drop (x ∷ f) b (suc n) = each_drop f (λ i. b (suc i)) n

each_take : (n : ℕ) (f : List ℕ) → Bytes f → Each Byte (take n f)
unfolding Each
each_take zero f b = tt
each_take (suc n) [] b = tt
each_take (suc n) (x ∷ f) b = (b 0, each_take n f (λ i. b (suc i)))

part_bytes : (f : List ℕ) (at n : ℕ) → Bytes f → Each Byte (part f at n)
unfolding part
part_bytes f at n b = each_take n (drop at f) (each_drop f b at)

-- ---- the events of a run

kind_of_lem : (s t : Step) → s ≡ t → (step_numbers s).kind ≡ (step_numbers t).kind
kind_of_lem s t e = ap (λ x. (step_numbers x).kind) e

absent : {b : Bool} → b ≡ true → b ≡ false → ⊥
absent p q = let z : ◌≡◌ {A = ℕ} 0 1 = ap (λ (c : Bool). cond c 0 1) (sym p ∙ q) in omega arith

module _ (f spans : List ℕ) (accepted : head_refusal f ≡ 0) (bytes : Bytes f) (index : (c : ℕ) → c < 256 → get_or spans c 0 ≡ span_of c (table_of f)) where
  abbrev pub stop : ℕ
  stop = stop_of f

  abbrev pub span_here : ℕ → ℕ
  span_here p = span_of (get_or f p 0) (table_of f)

  step_here : (p : ℕ) → step_of f p ≡ step_in (first_place (table_of f)) stop (all_present f) p (get_or f p 0) (span_here p)
  unfolding step_of
  step_here p = rw accepted

  abbrev pub event_here : ℕ → Step
  event_here p = Event (get_or f p 0) p (p + 1) (span_here p - 1) (p + span_here p)

  -- an event's bytes, and what follows them
  event_bytes_lem : (p : ℕ) → (span_here p ≡ 0 → ⊥) → p + span_here p ≤ stop → drop p f ≡ event_bytes (event_at f (event_here p)) ++ drop (p + span_here p) f
  unfolding part
  event_bytes_lem p some le =
      let within = stop_within f in
      let n = span_here p - 1 in
      let next : p + 1 + n ≡ p + span_here p = omega arith in
      let up : suc p ≡ p + 1 = omega arith in
      drop-cons f p 0 (omega arith)
      ∙ ap (λ (l : List ℕ). get_or f p 0 ∷ l)
      (sym (take-append-drop n (drop (suc p) f)) ∙ rw (drop-drop n (suc p) f, up, ← next))

  nothing : (p : ℕ) → p ≡ stop → Covers f spans p stop []
  unfolding events_bytes Each
  nothing p e = record { bytes_are = ap (λ (n : ℕ). drop n f) e; long = omega arith; spanned = tt; bytes = tt }

  -- an event, and those after it
  more : (p : ℕ) (es : List Ev) → (span_here p ≡ 0 → ⊥) → p + span_here p ≤ stop → Covers f spans (p + span_here p) stop es → Covers f spans p stop (event_at f (event_here p) ∷ es)
  unfolding events_bytes Each part
  more p es some le c =
      let within = stop_within f in
      let e = event_at f (event_here p) in
      let len : length (take (span_here p - 1) (drop (p + 1) f)) ≡ span_here p - 1 = length-take (span_here p - 1) (drop (p + 1) f) ∙ omega (arith, length-drop (p + 1) f) in
      record {
        bytes_are =
            event_bytes_lem p some le
            ∙ ap (λ (l : List ℕ). event_bytes e ++ l) c.bytes_are
            ∙ sym (append_assoc (event_bytes e) (events_bytes es) (drop stop f));
        long = omega (arith, len, c.long, length-append (take (span_here p - 1) (drop (p + 1) f)) (events_bytes es));
        spanned = (index (get_or f p 0) (bytes p) ∙ omega (arith, len), c.spanned);
        bytes = (part_bytes f (p + 1) (span_here p - 1) bytes, c.bytes);
      }

  -- what holds of each step that may stand at a place holds of the one that does
  either : (P : Step → Type 0) (b : Bool) (s : Step) → (b ≡ true → P s) → (b ≡ false → P Cut) → P (cond b s Cut)
  either P true s x y = x refl
  either P false s x y = y refl

  pub stands : (P : Step → Type 0) (p : ℕ) → first_place (table_of f) ≤ p → p ≤ stop → (p ≡ stop → P Ends) → ((span_here p ≡ 0 → ⊥) → p + span_here p ≤ stop → P (event_here p))
      → ((k o : ℕ) → P (Refused k o)) → (all_present f ≡ false → P Cut) → P (step_of f p)
  stands P p a b end event refused cut =
      let code = get_or f p 0 in
      let w = all_present f in
      subst P (sym (step_here p))
      (elim (ℕ_discrete p stop) [
        | yes q ↦ subst P (sym (at_end stop w p code (span_here p) (first_place (table_of f)) a q)) (either P w Ends (λ t. end q) cut)
        | no q ↦
            subst P (sym (inside stop w p code (span_here p) (first_place (table_of f)) a (omega arith)))
            (elim (ℕ_discrete (span_here p) 0) [
              | yes z ↦ subst P (sym (unlisted stop w p code (span_here p) z)) (refused 16 p)
              | no z ↦ elim (dec_lt stop (p + span_here p)) [
                | yes l ↦ subst P (sym (overruns stop w p code (span_here p) z l)) (either P w (Refused 17 p) (λ t. refused 17 p) cut)
                | no l ↦ subst P (sym (fits stop w p code (span_here p) z (omega arith))) (event z (omega arith))
              ]
            ])
      ])

  -- an event that is whole before the data's end is what stands there
  pub event_stands : (p : ℕ) → first_place (table_of f) ≤ p → (span_here p ≡ 0 → ⊥) → p + span_here p ≤ stop → step_of f p ≡ event_here p
  event_stands p a z l =
      step_here p
      ∙ inside stop (all_present f) p (get_or f p 0) (span_here p) (first_place (table_of f)) a (omega arith)
      ∙ fits stop (all_present f) p (get_or f p 0) (span_here p) z l

  no_end : (s : Step) → ((step_numbers s).kind ≡ 1 → ⊥) → s ≡ Ends → ⊥
  no_end s h e = h (ap (λ x. (step_numbers x).kind) e)

  covers : (n p : ℕ) → first_place (table_of f) ≤ p → p ≤ stop → (run n f p).last ≡ Ends → Covers f spans p stop (map (event_at f) (run n f p).seen)
  unfolding run
  covers zero p a b =
      stands (λ s. s ≡ Ends → Covers f spans p stop []) p a b (λ q e. nothing p q) (λ z l e. absurd (no_end (event_here p) (λ x. omega arith) e))
      (λ k o e. absurd (no_end (Refused k o) (λ x. omega arith) e)) (λ t e. absurd (no_end Cut (λ x. omega arith) e))
  covers (suc n) p a b =
      stands (λ s. (turn s (run n f) p).last ≡ Ends → Covers f spans p stop (map (event_at f) (turn s (run n f) p).seen)) p a b (λ q e. nothing p q)
      (λ z l e. more p (map (event_at f) (run n f (p + span_here p)).seen) z l (covers n (p + span_here p) (omega arith) l e))
      (λ k o e. absurd (no_end (Refused k o) (λ x. omega arith) e)) (λ t e. absurd (no_end Cut (λ x. omega arith) e))

  -- the events of the whole data
  pub all_read : first_place (table_of f) ≤ stop → (run_of f).last ≡ Ends → Covers f spans (first_place (table_of f)) stop (events_read f)
  unfolding events_read
  all_read a e = covers (length f) (first_place (table_of f)) (omega arith) a e

  -- where all of the data is there, a run that is not refused comes to its end
  comes : (n p : ℕ) → first_place (table_of f) ≤ p → p ≤ stop → stop ≤ p + n → all_present f ≡ true → ((step_numbers (run n f p).last).kind ≡ 3 → ⊥) → (run n f p).last ≡ Ends
  unfolding run
  comes zero p a b few present =
      stands (λ s. ((step_numbers s).kind ≡ 3 → ⊥) → s ≡ Ends) p a b (λ q h. refl) (λ z l h. absurd (omega arith)) (λ k o h. absurd (h refl)) (λ t h. absurd (absent present t))
  comes (suc n) p a b few present =
      stands (λ s. ((step_numbers (turn s (run n f) p).last).kind ≡ 3 → ⊥) → (turn s (run n f) p).last ≡ Ends) p a b (λ q h. refl)
      (λ z l h. comes n (p + span_here p) (omega arith) l (omega arith) present h) (λ k o h. absurd (h refl)) (λ t h. absurd (absent present t))

  pub comes_to_end : first_place (table_of f) ≤ stop → all_present f ≡ true → ((step_numbers (run_of f).last).kind ≡ 3 → ⊥) → (run_of f).last ≡ Ends
  comes_to_end a present h = let within = stop_within f in comes (length f) (first_place (table_of f)) (omega arith) a (omega arith) present h
