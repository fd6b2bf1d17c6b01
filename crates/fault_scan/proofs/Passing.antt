-- The laws of the pass: the events that it goes over are those that the reader finds.
-- Assumes nothing.
use Prim.Native.Nat.{ℕ, zero, suc, ◌+◌, ◌-◌, ◌≤◌, ◌<◌}
use mathlib.Core.Path.{◌≡◌, refl, sym, ap, subst, ◌∙◌}
use mathlib.Core.Bool.{Bool, true, false, cond, ◌&&◌}
use mathlib.Core.List.{List, [], ◌∷◌, map}
use native.Mathlib.Decide.{dec_lt, ℕ_discrete}
use native.Mathlib.Omega.{arith}
use borrow.Author.Tests.{lt-ltb, le-ltb, le-leb, lt-leb, leb-true, leb-false, ltb-true}
use lib.Dec.{ltb, leb}
use lib.ListN.{length, get_or, take, drop}
use Rattle.wire.specs.Wire.{part}
use Rattle.format.specs.Event.{code_of}
use Rattle.format.specs.declared.event.Event.TheVariants.{GeckoCodes}
use Rattle.format.specs.declared.version.Version.{Version}
use Rattle.layout.specs.Payloads.{record_size}
use Rattle.layout.specs.declared.columns.Family.TheVariants.{Pre}
use Rattle.head.specs.Table.{all_present, table_of, first_place, span_of}
use Rattle.head.specs.Step.{step_in, step_of}
use Rattle.head.specs.declared.Step.{Step}
use Rattle.head.specs.declared.Step.TheVariants.{Event, Ends, Cut, Refused}
use Rattle.head.proofs.Steps.{unlisted, fits, overruns, at_end, inside}
use Rattle.de.specs.Walk.{turn, run}
use Rattle.de.specs.Cut.{event_at}
use Rattle.grammar.specs.WellFormed.{ascending}
use Rattle.grammar.proofs.Tests.{both}
use Rattle.read_order.proofs.Steps.{closed_is}
use Rattle.read_scan.specs.Inner.{span_at}
use Rattle.fault_reason.specs.Fault.{coding, stands_next, reason_of, is_done, fault, on_next, fault_from}
use Rattle.fault_reason.specs.Inner.{ev}
use Rattle.fault_scan.specs.Inner.{ev_at, Here, stands_in, Fits, Turns, is_whole, done_at, events_from, Passed}
use Rattle.fault_scan.specs.declared.standing.Standing.{Standing}
use Rattle.fault_scan.specs.declared.standing.Standing.TheVariants.{Coding, Framing, Ending, Over}
use Rattle.fault_scan.specs.declared.standing.Turned.{Turned}
use Rattle.fault_scan.specs.declared.standing.Turned.TheVariants as turned
use Rattle.fault_scan.proofs.Laws.{body_long}

absent : {b : Bool} → b ≡ true → b ≡ false → ⊥
absent p q = let z : ◌≡◌ {A = ℕ} 0 1 = ap (λ (c : Bool). cond c 0 1) (sym p ∙ q) in omega arith

-- ---- whole events

module _ (file spans : List ℕ) (stop at : ℕ) where
  pub record Ahead : Type 0 where
    pub inside : at < stop
    pub on : at < at + span_at spans file at
    pub ends : at + span_at spans file at ≤ stop

  pub past_stop : stop ≤ at → false ≡ is_whole file spans stop at
  unfolding is_whole
  past_stop h = rw (le-ltb at stop h)

  module _ (inside : at < stop) (n : ℕ) (n-is : n ≡ span_at spans file at) where
    pub no_span : n ≤ 0 → false ≡ is_whole file spans stop at
    unfolding is_whole
    no_span h = rw (lt-ltb at stop inside, ← n-is, le-ltb 0 n h)

    pub by_length : 0 < n → leb n (stop - at) ≡ is_whole file spans stop at
    unfolding is_whole
    by_length h = rw (lt-ltb at stop inside, ← n-is, lt-ltb 0 n h) (go (leb n (stop - at)) refl)
      where
        go : (b : Bool) → leb n (stop - at) ≡ b → leb n (stop - at) ≡ leb (at + n) stop
        go true e = e ∙ sym (le-leb (at + n) stop (let z = leb-true n (stop - at) e in omega arith))
        go false e = e ∙ sym (lt-leb (at + n) stop (let z = leb-false n (stop - at) e in omega arith))

  pub ahead : is_whole file spans stop at ≡ true → Ahead
  unfolding is_whole
  ahead e =
      let n = span_at spans file at in
      let (a, r) = both (ltb at stop) (ltb 0 n && leb (at + n) stop) e in
      let (b, c) = both (ltb 0 n) (leb (at + n) stop) r in
      let l = ltb-true 0 n b in
      record { inside = ltb-true at stop a; on = omega arith; ends = leb-true (at + n) stop c }

  -- all three tests
  pub there : at < stop → 0 < span_at spans file at → at + span_at spans file at ≤ stop → is_whole file spans stop at ≡ true
  unfolding is_whole
  there a b c = rw (lt-ltb at stop a, lt-ltb 0 (span_at spans file at) b, le-leb (at + span_at spans file at) stop c)

-- ---- what the reader finds

module _ (f spans : List ℕ) (stop : ℕ) (whole : Bool) (at : ℕ) (p : Passed f spans stop whole at) where
  abbrev span_here : ℕ
  span_here = span_of (get_or f at 0) (table_of f)

  span_is : span_at spans f at ≡ span_here
  span_is = p.index (get_or f at 0) (p.bytes at)

  step_here : step_of f at ≡ step_in (first_place (table_of f)) stop (all_present f) at (get_or f at 0) span_here
  unfolding step_of
  step_here = rw (p.accepted, ← p.stop_is)

  event_step : is_whole f spans stop at ≡ true → step_of f at ≡ Event (get_or f at 0) at (at + 1) (span_here - 1) (at + span_here)
  event_step e =
      let a = ahead f spans stop at e in
      let z = span_is in
      step_here
      ∙ inside stop (all_present f) at (get_or f at 0) span_here (first_place (table_of f)) p.after a.inside
      ∙ fits stop (all_present f) at (get_or f at 0) span_here (omega (arith, a.on)) (omega (arith, a.ends))

  abbrev Nothing : Step → Type 0
  Nothing s = (k : ℕ) → (turn s (run k f) at).seen ≡ []

  either : (w : Bool) (s t : Step) → Nothing s → Nothing t → Nothing (cond w s t)
  either true s t x y = x
  either false s t x y = y

  no_step : is_whole f spans stop at ≡ false → Nothing (step_of f at)
  no_step e =
      let w = all_present f in
      let code = get_or f at 0 in
      let first = first_place (table_of f) in
      let z = span_is in
      subst Nothing (sym step_here)
      (elim (ℕ_discrete at stop) [
        | yes q ↦ subst Nothing (sym (at_end stop w at code span_here first p.after q)) (either w Ends Cut (λ k. refl) (λ k. refl))
        | no q ↦
            subst Nothing (sym (inside stop w at code span_here first p.after (omega (arith, p.under))))
            (elim (ℕ_discrete span_here 0) [
              | yes n ↦ subst Nothing (sym (unlisted stop w at code span_here n)) (λ k. refl)
              | no n ↦ elim (dec_lt stop (at + span_here)) [
                | yes l ↦ subst Nothing (sym (overruns stop w at code span_here n l)) (either w (Refused 17 at) Cut (λ k. refl) (λ k. refl))
                | no l ↦ absurd (absent (there f spans stop at (omega (arith, p.under)) (omega arith) (omega arith)) e)
              ]
            ])
      ])

  none_seen : is_whole f spans stop at ≡ false → (k : ℕ) → (run k f at).seen ≡ []
  unfolding run
  none_seen e zero = refl
  none_seen e (suc k) = no_step e k

  pub no_more : is_whole f spans stop at ≡ false → (n : ℕ) → events_from f at n ≡ []
  no_more e n = ap (map (event_at f)) (none_seen e (length f - n))

  module _ (e : is_whole f spans stop at ≡ true) (next : ℕ) (next_is : next ≡ at + span_at spans f at) where
    pub here_is : (v : Version) (span : ℕ) → span ≡ 1 + record_size Pre v → Here v f spans span stop at next
    here_is v span s =
        let a = ahead f spans stop at e in
        record { later = omega (arith, a.on); ends = omega (arith, a.ends); long = p.within; many = p.many; next_is = next_is; span_is = s }

    pub passed_on : Passed f spans stop whole next
    passed_on =
        let a = ahead f spans stop at e in
        record {
          accepted = p.accepted;
          bytes = p.bytes;
          many = p.many;
          index = p.index;
          stop_is = p.stop_is;
          whole_is = p.whole_is;
          after = omega (arith, p.after, a.on);
          under = omega (arith, a.ends);
          within = p.within;
        }

    one_more : (k : ℕ) → map (event_at f) (run (suc k) f at).seen ≡ ev_at f at next ∷ map (event_at f) (run k f next).seen
    unfolding run part
    one_more k =
        let z = span_is in
        let n : next ≡ at + span_here = omega arith in
        let m : span_here - 1 ≡ next - (at + 1) = omega arith in
        ap (λ (s : Step). map (event_at f) (turn s (run k f) at).seen) (event_step e)
        ∙ (λ i. ev (get_or f at 0) (take (m i) (drop (at + 1) f)) ∷ map (event_at f) (run k f (sym n i)).seen)

    pub first_of : (n : ℕ) → n < length f → events_from f at n ≡ ev_at f at next ∷ events_from f next (n + 1)
    first_of n h =
        let k : length f - n ≡ suc (length f - (n + 1)) = omega arith in
        ap (λ (j : ℕ). map (event_at f) (run j f at).seen) k ∙ one_more (length f - (n + 1))

-- ---- the loop: what is left gives the answer

pub done_is : (v : Version) (file : List ℕ) (span stop g : ℕ) (x : Standing) → is_done v g (stands_in v file span stop x) ≡ done_at v g x
unfolding is_done
done_is v file span stop g (Coding blocks) = refl
done_is v file span stop g (Framing stage tally) = closed_is v ascending file span stage (record { id = 0; port = 0; follower = 0 })
done_is v file span stop g (Ending at) = refl
done_is v file span stop g Over = refl

pub done_as : (v : Version) (g : ℕ) (x y : Standing) → x ≡ y → (r : Bool) → r ≡ done_at v g y → r ≡ done_at v g x
done_as v g x y e r q = q ∙ ap (done_at v g) (sym e)

abbrev pub gecko : List ℕ → ℕ
gecko spans = get_or spans (code_of GeckoCodes) 0

pub record Passing (f spans : List ℕ) (v : Version) (whole : Bool) (first stop span : ℕ) (x : Standing) (at events : ℕ) : Type 0 where
  pub passed : Passed f spans stop whole at
  pub span_is : span ≡ 1 + record_size Pre v
  pub few : events ≤ at
  pub fits : Fits v f span stop x at
  pub same : fault_from v (gecko spans) whole (coding 0) 1 first (events_from f first 1) ≡ fault_from v (gecko spans) whole (stands_in v f span stop x) events at (events_from f at events)

module _ (f spans : List ℕ) (v : Version) (whole : Bool) (first stop span : ℕ) where
  pub passing_first : Passed f spans stop whole first → span ≡ 1 + record_size Pre v → Passing f spans v whole first stop span (Coding 0) first 1
  passing_first p s = record { passed = p; span_is = s; few = omega (arith, p.after); fits = omega arith; same = refl }

  module _ (x : Standing) (at events : ℕ) (p : Passing f spans v whole first stop span x at events) where
    pub passing_done : is_whole f spans stop at ≡ false → (reason : ℕ) → reason ≡ cond (done_at v (gecko spans) x) (cond whole 0 15) 14
        → fault reason events at ≡ fault_from v (gecko spans) whole (coding 0) 1 first (events_from f first 1)
    unfolding fault_from
    passing_done e reason q =
        sym (p.same
        ∙ ap (fault_from v (gecko spans) whole (stands_in v f span stop x) events at) (no_more f spans stop whole at p.passed e events)
        ∙ ap (λ (b : Bool). fault (cond b (cond whole 0 15) 14) events at) (done_is v f span stop (gecko spans) x)
        ∙ ap (λ (r : ℕ). fault r events at) (sym q))

    module _ (e : is_whole f spans stop at ≡ true) (next : ℕ) (next_is : next ≡ at + span_at spans f at) where
      inside_file : events < length f
      inside_file = let a = ahead f spans stop at e in omega (arith, a.inside, p.passed.within, p.few)

      begun : fault_from v (gecko spans) whole (coding 0) 1 first (events_from f first 1)
          ≡ on_next (stands_next v (gecko spans) (stands_in v f span stop x) (ev_at f at next))
          (λ s. fault_from v (gecko spans) whole s (events + 1) (at + (1 + length (ev_at f at next).payload)) (events_from f next (events + 1))) (fault (reason_of v (gecko spans) (stands_in v f span stop x) (ev_at f at next)) events at)
      unfolding fault_from
      begun = p.same ∙ ap (fault_from v (gecko spans) whole (stands_in v f span stop x) events at) (first_of f spans stop whole at p.passed e next next_is events inside_file)

      turn_to : (t r : Turned) → t ≡ r → Turns v f span stop (gecko spans) (stands_in v f span stop x) (ev_at f at next) next t
          → Turns v f span stop (gecko spans) (stands_in v f span stop x) (ev_at f at next) next r
      turn_to t r q h = subst (λ (y : Turned). Turns v f span stop (gecko spans) (stands_in v f span stop x) (ev_at f at next) next y) q h

      pub passing_wrong : (t : Turned) (reason : ℕ) → t ≡ turned.Wrong reason → Turns v f span stop (gecko spans) (stands_in v f span stop x) (ev_at f at next) next t
          → fault reason events at ≡ fault_from v (gecko spans) whole (coding 0) 1 first (events_from f first 1)
      passing_wrong t reason q h = let w = turn_to t (turned.Wrong reason) q h in sym (begun ∙ rw w.0 (ap (λ (r : ℕ). fault r events at) (sym w.1)))

      pub passing_on : (t : Turned) (y : Standing) → t ≡ turned.Goes y → Turns v f span stop (gecko spans) (stands_in v f span stop x) (ev_at f at next) next t
          → Passing f spans v whole first stop span y next (events + 1)
      passing_on t y q h =
          let w = turn_to t (turned.Goes y) q h in
          let i = here_is f spans stop whole at p.passed e next next_is v span p.span_is in
          let n : at + (1 + length (ev_at f at next).payload) ≡ next = omega (arith, body_long v f spans span stop at next i, i.later) in
          record {
            passed = passed_on f spans stop whole at p.passed e next next_is;
            span_is = p.span_is;
            few = omega (arith, p.few, i.later);
            fits = w.1;
            same =
                begun
                ∙ rw w.0 (ap (λ (k : ℕ). fault_from v (gecko spans) whole (stands_in v f span stop y) (events + 1) k (events_from f next (events + 1))) n);
          }
