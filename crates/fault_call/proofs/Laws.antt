-- The fault of a file, by its first event; and that a file with a refused head is not refused with 19.
-- Assumes nothing.
use Prim.Native.Nat.{ℕ, zero, suc, ◌+◌, ◌-◌, ◌≤◌, ◌<◌}
use mathlib.Core.Path.{◌≡◌, refl, sym, ap, subst, ◌∙◌}
use mathlib.Core.Bool.{Bool, true, false, cond, not, ◌&&◌}
use mathlib.Core.List.{List, ◌∷◌, map}
use native.Mathlib.Omega.{arith}
use native.Mathlib.Nat.{sub-zero}
use borrow.Author.Tests.{le-ltb, eq-eqb, eqb-true, leb-true, ltb-true}
use lib.Dec.{ltb, leb, eqb}
use lib.ListN.{length, get_or, take, drop, length-drop}
use lib.Seq.{length-take-le}
use Rattle.wire.specs.Wire.{part}
use Rattle.format.specs.Event.{code_of}
use Rattle.format.specs.File.{Ev}
use Rattle.format.specs.Refusal.{lowest}
use Rattle.format.specs.Version.{accepted_of}
use Rattle.format.specs.declared.event.Event.TheVariants.{GameStart, GeckoCodes}
use Rattle.format.specs.declared.version.Version.{Version}
use Rattle.start.specs.Length.{length_of}
use Rattle.head.specs.Table.{stop_of, table_of, first_place, unsigned, untabled, head_refusal, head_offset}
use Rattle.de.specs.Walk.{run, walk_of}
use Rattle.de.specs.Cut.{event_at, events_read}
use Rattle.de.proofs.Runs.{refused}
use Rattle.grammar.proofs.Tests.{both}
use Rattle.read_scan.specs.Inner.{span_at}
use Rattle.read_judge.specs.Found.{opens_wrong, version_said}
use Rattle.read_judge.specs.Inner.{opens_at, first_at, start_fits, Headed}
use Rattle.read_judge.specs.declared.first.First.{First}
use Rattle.read_judge.specs.declared.first.First.TheVariants.{Opens, Other}
use Rattle.read_judge.proofs.Opening.{FirstSays, first_said}
use Rattle.read_judge.proofs.Steps.{walk_early}
use Rattle.newer_judge.specs.Opening.{opening_refusal}
use Rattle.newer_judge.proofs.Opening.{opening_same}
use Rattle.measure.specs.Read.{MeasureOutcome, early, none, big, found}
use Rattle.measure.specs.declared.Measured.{Measured}
use Rattle.fault_reason.specs.Reason.{start_reason}
use Rattle.fault_reason.specs.Fault.{coding, fault, fault_from, fault_in}
use Rattle.fault_reason.specs.declared.Fault.{Fault}
use Rattle.fault_scan.specs.Inner.{ev_at, is_whole, events_from, Passed}
use Rattle.fault_scan.proofs.Passing.{gecko, there, no_more, first_of, passed_on}
use Rattle.fault_call.specs.Outcome.{fault_of}

-- ---- by the first event

module _ (f spans : List ℕ) (first stop : ℕ) (whole : Bool) (h : Headed f spans first stop whole) where
  passed : Passed f spans stop whole first
  passed = record {
    accepted = h.accepted;
    bytes = h.bytes;
    many = h.many;
    index = h.index;
    stop_is = h.stop_is;
    whole_is = h.whole_is;
    after = omega (arith, h.first_is);
    under = h.starts;
    within = h.within;
  }

  all_events : events_read f ≡ events_from f first 0
  unfolding events_read
  all_events = λ i. map (event_at f) (run (sym (sub-zero (length f)) i) f (sym h.first_is i)).seen

  fault_as : fault_of f ≡ fault_in (gecko spans) whole first (events_read f)
  unfolding fault_of
  fault_as = λ i. fault_in (sym (h.index (code_of GeckoCodes) (omega arith)) i) (sym h.whole_is i) (sym h.first_is i) (events_read f)

  says : FirstSays f spans h.accepted h.bytes h.index (omega (arith, h.first_is, h.stop_is, h.starts)) (first_at f spans (first_place (table_of f)) (stop_of f))
  says = first_said f spans h.accepted h.bytes h.index (omega (arith, h.first_is, h.stop_is, h.starts))

  said_as : (x : First) → first_at f spans first stop ≡ x → FirstSays f spans h.accepted h.bytes h.index (omega (arith, h.first_is, h.stop_is, h.starts)) x
  said_as x e =
      subst (FirstSays f spans h.accepted h.bytes h.index (omega (arith, h.first_is, h.stop_is, h.starts)))
      ((λ i. first_at f spans (sym h.first_is i) (sym h.stop_is i)) ∙ e) says

  -- no event
  pub fault_none : is_whole f spans stop first ≡ false → fault 14 0 first ≡ fault_of f
  unfolding fault_in
  fault_none e = sym (fault_as ∙ ap (fault_in (gecko spans) whole first) (all_events ∙ no_more f spans stop whole first passed e 0))

  wrong_in : (e : Ev) (es : List Ev) → opens_wrong (e ∷ es) ≡ true → fault_in (gecko spans) whole first (e ∷ es) ≡ fault 16 0 first
  unfolding fault_in
  wrong_in e es q = rw q

  -- another than a start
  pub fault_wrong : is_whole f spans stop first ≡ true → first_at f spans first stop ≡ Other → fault 16 0 first ≡ fault_of f
  fault_wrong e q =
      let next = first + span_at spans f first in
      let events = all_events ∙ first_of f spans stop whole first passed e next refl 0 (omega (arith, h.within, h.first_is, h.starts)) in
      let wrong : opens_wrong (ev_at f first next ∷ events_from f next 1) ≡ true = ap opens_wrong (sym events) ∙ said_as Other q in
      sym (fault_as ∙ ap (fault_in (gecko spans) whole first) events ∙ wrong_in (ev_at f first next) (events_from f next 1) wrong)

  -- ---- a start

  module _ (v : Version) (len : ℕ) (opens : first_at f spans first stop ≡ Opens v len) where
    pub record There : Type 0 where
      pub inside : first < stop
      pub code_is : get_or f first 0 ≡ code_of GameStart
      pub long : 5 ≤ get_or spans (code_of GameStart) 0
      pub ends : first + get_or spans (code_of GameStart) 0 ≤ stop
      pub len_is : len ≡ get_or spans (code_of GameStart) 0 - 1

    pub is_there : There
    unfolding first_at opens_at
    is_there = go (opens_at f spans first stop) refl opens
      where
        go : (b : Bool) → opens_at f spans first stop ≡ b
            → cond b (Opens (record { major = get_or f (first + 1) 0; minor = get_or f (first + 2) 0; patch = get_or f (first + 3) 0 }) (get_or spans (code_of GameStart) 0 - 1)) Other ≡ Opens v len → There
        go false q e = let z : ◌≡◌ {A = ℕ} 0 1 = cc in absurd (omega arith)
        go true q e =
            let span = get_or spans (code_of GameStart) 0 in
            let (a, r) = both (ltb first stop) (eqb (get_or f first 0) (code_of GameStart) && (leb 5 span && leb (first + span) stop)) q in
            let (b, r) = both (eqb (get_or f first 0) (code_of GameStart)) (leb 5 span && leb (first + span) stop) r in
            let (c, d) = both (leb 5 span) (leb (first + span) stop) r in
            let n : get_or spans (code_of GameStart) 0 - 1 ≡ len = cc in
            record {
              inside = ltb-true first stop a;
              code_is = eqb-true (get_or f first 0) (code_of GameStart) b;
              long = leb-true 5 span c;
              ends = leb-true (first + span) stop d;
              len_is = sym n;
            }

    abbrev next : ℕ
    next = first + 1 + len

    span_there : span_at spans f first ≡ get_or spans (code_of GameStart) 0
    span_there = ap (λ (c : ℕ). get_or spans c 0) is_there.code_is

    next_is : next ≡ first + span_at spans f first
    next_is = let t = is_there in omega (arith, span_there, t.len_is, t.long)

    whole_there : is_whole f spans stop first ≡ true
    whole_there = let t = is_there in there f spans stop first t.inside (omega (arith, span_there, t.long)) (omega (arith, span_there, t.ends))

    pub passed_start : Passed f spans stop whole next
    passed_start = passed_on f spans stop whole first passed whole_there next next_is

    pub in_file : first + 1 + len ≤ length f
    in_file = let t = is_there in omega (arith, h.within, t.ends, t.len_is, t.long)

    events_are : events_read f ≡ ev_at f first next ∷ events_from f next 1
    events_are = all_events ∙ first_of f spans stop whole first passed whole_there next next_is 0 (omega (arith, in_file))

    body_is : part f (first + 1) len ≡ (ev_at f first next).payload
    unfolding part
    body_is = let n : len ≡ next - (first + 1) = omega arith in ap (λ (k : ℕ). take k (drop (first + 1) f)) n

    body_length : length (ev_at f first next).payload ≡ len
    body_length = let n : next - (first + 1) ≡ len = omega arith in length-take-le (next - (first + 1)) (drop (first + 1) f) (omega (arith, length-drop (first + 1) f, in_file)) ∙ n

    right : opens_wrong (ev_at f first next ∷ events_from f next 1) ≡ false
    unfolding opens_wrong
    right = let t = is_there in rw (eq-eqb (get_or f first 0) (code_of GameStart) t.code_is, body_length, le-ltb len 4 (omega (arith, t.len_is, t.long)))

    said : version_said (ev_at f first next ∷ events_from f next 1) ≡ v
    said = ap version_said (sym events_are) ∙ sym (said_as (Opens v len) opens).version_is

    newer_in : (e : Ev) (es : List Ev) → opens_wrong (e ∷ es) ≡ false → version_said (e ∷ es) ≡ v → accepted_of v ≡ false → fault_in (gecko spans) whole first (e ∷ es) ≡ fault 0 0 0
    unfolding fault_in
    newer_in e es q w a = rw (q, w, a)

    -- a newer recorder's
    pub fault_newer : accepted_of v ≡ false → fault 0 0 0 ≡ fault_of f
    fault_newer a = sym (fault_as ∙ ap (fault_in (gecko spans) whole first) events_are ∙ newer_in (ev_at f first next) (events_from f next 1) right said a)

    start_in_lem : (e : Ev) (es : List Ev) → opens_wrong (e ∷ es) ≡ false → version_said (e ∷ es) ≡ v → accepted_of v ≡ true
        → fault_in (gecko spans) whole first (e ∷ es)
        ≡ cond (start_fits v e.payload) (fault_from v (gecko spans) whole (coding 0) 1 (first + (1 + length e.payload)) es) (fault (start_reason v e.payload) 0 first)
    unfolding fault_in
    start_in_lem e es q w a = rw (q, w, a)

    start_as : accepted_of v ≡ true → fault_of f
        ≡ cond (start_fits v (part f (first + 1) len)) (fault_from v (gecko spans) whole (coding 0) 1 next (events_from f next 1)) (fault (cond (leb (length_of v) len) 9 17) 0 first)
    start_as a =
        let n : first + (1 + length (ev_at f first next).payload) ≡ next = omega (arith, body_length) in
        fault_as
        ∙ ap (fault_in (gecko spans) whole first) events_are
        ∙ start_in_lem (ev_at f first next) (events_from f next 1) right said a
        ∙ (λ i. cond (start_fits v (sym body_is i)) (fault_from v (gecko spans) whole (coding 0) 1 (n i) (events_from f next 1)) (fault (cond (leb (length_of v) (body_length i)) 9 17) 0 first))

    module _ (known : accepted_of v ≡ true) (b : Bool) (b-is : b ≡ start_fits v (part f (first + 1) len)) where
      pub fault_on : b ≡ true → (r : Fault) → r ≡ fault_from v (gecko spans) whole (coding 0) 1 next (events_from f next 1) → r ≡ fault_of f
      fault_on e r q = q ∙ sym (start_as known ∙ rw (sym b-is ∙ e))

      pub fault_start : b ≡ false → (reason : ℕ) → reason ≡ cond (leb (length_of v) len) 9 17 → fault reason 0 first ≡ fault_of f
      fault_start e reason q = ap (λ (n : ℕ). fault n 0 first) q ∙ sym (start_as known ∙ rw (sym b-is ∙ e))

-- ---- the head

-- it is refused with 14 or 15
record Few (n : ℕ) : Type 0 where
  not_version : n ≡ 1 → ⊥
  not_events : n ≡ 19 → ⊥

head_few : (f : List ℕ) → Few (head_refusal f)
unfolding head_refusal lowest
head_few f = go (unsigned f) (untabled f)
  where
    go : (a b : Bool) → Few (cond a 14 (cond b 15 0))
    go true b = record { not_version = λ e. omega arith; not_events = λ e. omega arith }
    go false true = record { not_version = λ e. omega arith; not_events = λ e. omega arith }
    go false false = record { not_version = λ e. omega arith; not_events = λ e. omega arith }

-- and so is the file
head_opening : (f : List ℕ) (n : ℕ) → head_refusal f ≡ suc n → opening_refusal f ≡ head_refusal f
head_opening f n q =
    let (some, is, at) = walk_early f (walk_of f) (suc n) (head_offset (suc n)) refl (refused f n q).0 in
    opening_same f some (λ e. (head_few f).not_version (q ∙ is ∙ e)) ∙ sym (q ∙ is)

pub head_accepted : (f : List ℕ) (m : Measured) → MeasureOutcome f m → m.refused ≡ 19 → head_refusal f ≡ 0
head_accepted f m o e = go (head_refusal f) refl o
  where
    not_zero : (n : ℕ) → head_refusal f ≡ suc n → opening_refusal f ≡ 0 → ⊥
    not_zero n q x = omega (arith, sym (head_opening f n q ∙ q) ∙ x)

    go : (n : ℕ) → head_refusal f ≡ n → MeasureOutcome f m → head_refusal f ≡ 0
    go zero q o = q
    go (suc n) q (early x y) = absurd ((head_few f).not_events (sym (head_opening f n q) ∙ sym (ap (λ z. z.refused) y) ∙ e))
    go (suc n) q (none x y z) = absurd (not_zero n q x)
    go (suc n) q (big x y z w) = absurd (not_zero n q x)
    go (suc n) q (found x y z w) = absurd (not_zero n q x)
