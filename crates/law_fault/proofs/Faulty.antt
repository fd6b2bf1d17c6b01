-- With the faulty event the events of a file begin no replay that `read` accepts.
-- Assumes nothing.
use Prim.Native.Nat.{ℕ, suc, ◌+◌, ◌<◌}
use mathlib.Core.Path.{◌≡◌, refl, sym, ap, subst, ◌∙◌}
use mathlib.Core.Bool.{Bool, true, false, cond}
use mathlib.Core.List.{List, [], ◌∷◌, ◌++◌}
use mathlib.Core.Option.{Option, none, some}
use native.Mathlib.Omega.{arith}
use borrow.Author.Tests.{le-ltb, le-leb}
use lib.ListN.{length, get_or, take}
use Rattle.format.specs.File.{Ev}
use Rattle.format.specs.Version.{version, accepted_of}
use Rattle.format.specs.declared.version.Version.{Version}
use Rattle.start.specs.Length.{length_of}
use Rattle.start.proofs.Lengths.{at_least}
use Rattle.head.specs.Table.{table_of, first_place, all_present}
use Rattle.de.specs.Cut.{events_read}
use Rattle.grammar.specs.Productions.{Replay, start_event, events_of}
use Rattle.grammar.specs.Readable.{Readable}
use Rattle.read_start.proofs.Types.{types_fit}
use Rattle.read_judge.specs.Found.{opens_wrong, version_said, gecko_span}
use Rattle.read_judge.specs.Inner.{start_fits}
use Rattle.fault_reason.specs.Fault.{Stands, coding, stands_next, on_next, is_done, fault, last_reason, fault_from, fault_in, reason_of}
use Rattle.fault_reason.specs.Reason.{start_reason}
use Rattle.fault_reason.specs.declared.Fault.{Fault}
use Rattle.fault_call.specs.Outcome.{fault_of, FaultOutcome, other, events}
use Rattle.fault_call.specs.declared.Faulted.{Faulted}
use Rattle.law_fault.specs.Begins.{Continues, AtEvent}
use Rattle.law_fault.proofs.Rows.{takes_all, no_way}
use Rattle.law_fault.proofs.Runs.{replay_taken}

-- ---- the machine over the first events

front_taken : (v : Version) (span : ℕ) (xs ys : List Ev) (s : Stands) → takes_all v span s (xs ++ ys) ≡ true → takes_all v span s xs ≡ true
unfolding takes_all
front_taken v span [] ys s q = refl
front_taken v span (e ∷ xs) ys s q = go (stands_next v span s e) q (λ next. front_taken v span xs ys next)
  where
    go : (x : Option Stands) → on_next x (λ next. takes_all v span next (xs ++ ys)) false ≡ true
        → ((next : Stands) → takes_all v span next (xs ++ ys) ≡ true → takes_all v span next xs ≡ true) → on_next x (λ next. takes_all v span next xs) false ≡ true
    go none q more = q
    go (some next) q more = more next q

-- the fault is at the event after k others, which the machine does not take
record Stopped (v : Version) (span : ℕ) (s : Stands) (n : ℕ) (es : List Ev) (x : Fault) : Type 0 where
  k : ℕ
  event_is : x.event ≡ n + k
  there : k < length es
  stops : takes_all v span s (take (suc k) es) ≡ false

module _ (v : Version) (span : ℕ) (whole : Bool) where
  not_last : (s : Stands) → AtEvent (last_reason v span whole s) → ⊥
  not_last s = go (is_done v span s) whole
    where
      go : (d w : Bool) → AtEvent (cond d (cond w 0 15) 14) → ⊥
      go true true h = h.told refl
      go true false h = h.not_cut refl
      go false w h = h.not_unfinished refl

  -- the fault, by where the replay stands after the next event
  abbrev on_fault : Stands → ℕ → ℕ → Ev → List Ev → Option Stands → Fault
  on_fault s n at e es x = on_next x (λ next. fault_from v span whole next (n + 1) (at + (1 + length e.payload)) es) (fault (reason_of v span s e) n at)

  stopped : (es : List Ev) (s : Stands) (n at : ℕ) → AtEvent (fault_from v span whole s n at es).reason → Stopped v span s n es (fault_from v span whole s n at es)
  unfolding fault_from takes_all
  stopped [] s n at h = absurd (not_last s h)
  stopped (e ∷ es) s n at h =
      go (stands_next v span s e) refl h (λ next. stopped es next (n + 1) (at + (1 + length e.payload)))
    where
      go : (x : Option Stands) → stands_next v span s e ≡ x → AtEvent (on_fault s n at e es x).reason
          → ((next : Stands) → AtEvent (fault_from v span whole next (n + 1) (at + (1 + length e.payload)) es).reason
          → Stopped v span next (n + 1) es (fault_from v span whole next (n + 1) (at + (1 + length e.payload)) es))
          → Stopped v span s n (e ∷ es) (on_fault s n at e es x)
      go none q h more = record { k = 0; event_is = omega arith; there = omega arith; stops = rw q }
      go (some next) q h more =
          let m = more next h in
          record { k = suc m.k; event_is = m.event_is ∙ omega arith; there = omega (arith, m.there); stops = rw q m.stops }

-- ---- the start

abbrev head_of : Ev → List Ev → Ev
head_of d [] = d
head_of d (x ∷ xs) = x

abbrev tail_of : List Ev → List Ev
tail_of [] = []
tail_of (x ∷ xs) = xs

said_by_lem : (v : Version) (p : List ℕ) → take 3 p ≡ v.major ∷ v.minor ∷ v.patch ∷ [] → version (get_or p 0 0) (get_or p 1 0) (get_or p 2 0) ≡ v
said_by_lem v [] e = let n = ap length e in absurd (omega arith)
said_by_lem v (a ∷ []) e = let n = ap length e in absurd (omega arith)
said_by_lem v (a ∷ b ∷ []) e = let n = ap length e in absurd (omega arith)
said_by_lem v (a ∷ b ∷ c ∷ p) e =
    let byte : (k : ℕ) → get_or (a ∷ b ∷ c ∷ []) k 0 ≡ get_or (v.major ∷ v.minor ∷ v.patch ∷ []) k 0 = λ k. ap (λ (l : List ℕ). get_or l k 0) e in
    λ i. record { major = byte 0 i; minor = byte 1 i; patch = byte 2 i }

module _ (v : Version) (r : Replay) (h : Readable v r) where
  start_opens : (es : List Ev) → opens_wrong (start_event r.block ∷ es) ≡ false
  unfolding opens_wrong
  start_opens es = rw (le-ltb (length r.block) 4 (omega (arith, h.well.block, at_least v)))

  start_says : (es : List Ev) → version_said (start_event r.block ∷ es) ≡ v
  unfolding version_said
  start_says es = said_by_lem v r.block h.well.version

  start_fits_lem : start_fits v r.block ≡ true
  unfolding start_fits
  start_fits_lem = rw (le-leb (length_of v) (length r.block) h.well.block) ((types_fit r.block).1 h.seats)

-- ---- the events of a file

module _ (span : ℕ) where
  -- the first event is that of the replay
  module _ (e : Ev) (xs : List Ev) (b : Continues span (e ∷ xs)) where
    first_is : e ≡ start_event b.replay.block
    unfolding events_of
    first_is = ap (head_of e) b.events_are

    right_first : (es : List Ev) → opens_wrong (e ∷ es) ≡ false
    right_first es = ap (λ (x : Ev). opens_wrong (x ∷ es)) first_is ∙ start_opens b.version b.replay b.readable es

    version_is : (es : List Ev) → version_said (e ∷ es) ≡ b.version
    version_is es = ap (λ (x : Ev). version_said (x ∷ es)) first_is ∙ start_says b.version b.replay b.readable es

    first_fits : (es : List Ev) → start_fits (version_said (e ∷ es)) e.payload ≡ true
    first_fits es = (λ i. start_fits (version_is es i) (first_is i).payload) ∙ start_fits_lem b.version b.replay b.readable

    all_taken : (es : List Ev) → takes_all (version_said (e ∷ es)) span (coding 0) xs ≡ true
    unfolding events_of
    all_taken es =
        let taken = replay_taken b.version span b.replay b.readable b.listed in
        front_taken (version_said (e ∷ es)) span xs b.more (coding 0)
        ((λ i. takes_all (version_is es i) span (coding 0) (tail_of (b.events_are i))) ∙ taken)

  module _ (whole : Bool) (at : ℕ) where
    -- the fault of the events behind the start
    abbrev later : Ev → List Ev → Fault
    later e es = fault_from (version_said (e ∷ es)) span whole (coding 0) 1 (at + (1 + length e.payload)) es

    pub none_begun : (es : List Ev) → AtEvent (fault_in span whole at es).reason → Continues span (take ((fault_in span whole at es).event + 1) es) → ⊥
    unfolding fault_in
    none_begun [] = λ h b. h.not_unfinished refl
    none_begun (e ∷ es) = go (opens_wrong (e ∷ es)) refl (accepted_of (version_said (e ∷ es))) (start_fits (version_said (e ∷ es)) e.payload) refl
      where
        go : (w : Bool) → opens_wrong (e ∷ es) ≡ w → (a s : Bool) → start_fits (version_said (e ∷ es)) e.payload ≡ s
            → let x = cond w (fault 16 0 at) (cond a (cond s (later e es) (fault (start_reason (version_said (e ∷ es)) e.payload) 0 at)) (fault 0 0 0)) in
            AtEvent x.reason → Continues span (take (x.event + 1) (e ∷ es)) → ⊥
        go true q a s p h b = no_way (sym (right_first e [] b es) ∙ q)
        go false q false s p h b = h.told refl
        go false q true false p h b = no_way (sym p ∙ first_fits e [] b es)
        go false q true true p h b =
            let m = stopped (version_said (e ∷ es)) span whole es (coding 0) 1 (at + (1 + length e.payload)) h in
            let n : (later e es).event + 1 ≡ suc (suc m.k) = ap (λ (k : ℕ). k + 1) m.event_is ∙ omega arith in
            let c : Continues span (e ∷ take (suc m.k) es) = subst (λ (k : ℕ). Continues span (take k (e ∷ es))) n b in
            no_way (sym m.stops ∙ all_taken e (take (suc m.k) es) c es)

    -- and the faulty event is among them
    pub event_there : (es : List Ev) → AtEvent (fault_in span whole at es).reason → (fault_in span whole at es).event < length es
    unfolding fault_in
    event_there [] = λ h. absurd (h.not_unfinished refl)
    event_there (e ∷ es) = go (opens_wrong (e ∷ es)) (accepted_of (version_said (e ∷ es))) (start_fits (version_said (e ∷ es)) e.payload)
      where
        go : (w a s : Bool)
            → let x = cond w (fault 16 0 at) (cond a (cond s (later e es) (fault (start_reason (version_said (e ∷ es)) e.payload) 0 at)) (fault 0 0 0)) in
            AtEvent x.reason → x.event < length (e ∷ es)
        go true a s h = omega arith
        go false false s h = absurd (h.told refl)
        go false true false h = omega arith
        go false true true h =
            let m = stopped (version_said (e ∷ es)) span whole es (coding 0) 1 (at + (1 + length e.payload)) h in
            omega (arith, m.event_is, m.there)

-- ---- the theorem

-- where an event is at fault, it is one of those that the reader finds
pub fault_there : (f : List ℕ) → AtEvent (fault_of f).reason → (fault_of f).event < length (events_read f)
unfolding fault_of
fault_there f = event_there (gecko_span f) (all_present f) (first_place (table_of f)) (events_read f)

-- with the faulty event, the events that the reader finds in a file begin no replay that `read` accepts
pub fault_begins_none : (f : List ℕ) → AtEvent (fault_of f).reason → Continues (gecko_span f) (take ((fault_of f).event + 1) (events_read f)) → ⊥
unfolding fault_of
fault_begins_none f = none_begun (gecko_span f) (all_present f) (first_place (table_of f)) (events_read f)

-- so it is with what `fault` answers
pub answered_none : (f : List ℕ) (r : Faulted) → FaultOutcome f r → AtEvent r.reason → Continues (gecko_span f) (take (r.event + 1) (events_read f)) → ⊥
answered_none f r (other m o n e) h b = h.told (ap (λ (x : Faulted). x.reason) e)
answered_none f r (events m o n e) h b =
    fault_begins_none f (subst (λ (x : Faulted). AtEvent x.reason) e h) (subst (λ (x : Faulted). Continues (gecko_span f) (take (x.event + 1) (events_read f))) e b)
