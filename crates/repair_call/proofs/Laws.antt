-- What is known at each step of the calls.
-- Assumes nothing.
use Prim.Native.Nat.{ℕ, zero, suc, ◌+◌, ◌-◌, ◌≤◌, ◌<◌}
use mathlib.Core.Path.{◌≡◌, refl, sym, ap, subst, ◌∙◌}
use mathlib.Core.Bool.{Bool, true, false, cond, not, ◌&&◌, ◌||◌}
use mathlib.Core.List.{List, [], ◌∷◌, ◌++◌, append_assoc, map}
use native.Mathlib.Omega.{arith}
use borrow.Author.Tests.{eq-eqb, ne_eqb, eqb-true}
use lib.Dec.{eqb}
use lib.ListN.{length, take, drop, get_or, length-append, length-take, length-drop, length-map}
use lib.Seq.{length-take-le, take_all}
use Rattle.wire.specs.Wire.{be, number, part, splice, Room, Wrote}
use Rattle.wire.proofs.Writers.{wrote_then, wrote_length}
use Rattle.wire.proofs.Laws.{length_be, splice_is}
use Rattle.format.specs.Refusal.{lowest}
use Rattle.head.specs.Table.{declared, stop_of, table_of, first_place, span_of, head_refusal}
use Rattle.head.proofs.Written.{take_past}
use Rattle.de.specs.Walk.{run, run_of}
use Rattle.de.specs.Cut.{events_read, zeroed, event_at}
use Rattle.grammar.proofs.Tests.{both, Or, left_is, right_is, either}
use Rattle.read_judge.specs.Inner.{Bytes}
use Rattle.measure.specs.Game.{tail_kind}
use Rattle.check_file.specs.Inner.{is_body, is_tail}
use Rattle.repair_kept.specs.Kept.{ending_at, ReplayUpTo, Longest}
use Rattle.repair_kept.proofs.Field.{long_enough, zero_tail, zero_length, zero_stop, ending_tail, ending_table, zero_table, ending_length, ending_bytes, ending_stop, ending_accepted, ending_starts, first_within}
use Rattle.repair_kept.proofs.Accepts.{early_head}
use Rattle.repair_walk.specs.Inner.{passed_from}
use Rattle.repair_walk.specs.declared.Passed.{Passed}
use Rattle.repair_walk.proofs.Runs.{passed_same, run_passed}
use Rattle.repair_judge.specs.Open.{open_refusal}
use Rattle.repair_judge.specs.Inner.{Topped, Judges, early as judged-early, none as judged_none, held}
use Rattle.repair_judge.specs.declared.Judged.{Judged}
use Rattle.repair_judge.proofs.Laws.{zero_bytes, starts_z}
use Rattle.repair_call.specs.Outcome.{dropped, keeps_tail, tail_for, repaired_to, unrepaired, repair_of, RepairMeasured, RepairOutcome, early, none, short, found}
use Rattle.repair_call.specs.Inner.{brace_for, behind_of, Told, front_of, Fits}
use Rattle.repair_call.specs.declared.Repaired.{Repaired}
use Rattle.repair_call.specs.declared.Behind.{Behind}

-- ---- what stands behind

module _ (f : List ℕ) (p : ℕ) where
  pub behind_own : (alone : Bool) → alone ≡ true → (b : Bool) → b ≡ is_tail (drop p f) → b ≡ true → (k : ℕ) → k ≡ tail_kind (drop p f)
      → record { tail = k; len = length f - p; dropped = 0 } ≡ behind_of alone f p
  unfolding behind_of
  behind_own alone a b b-is t k k-is = rw (a, sym b-is ∙ t) (λ i. record { tail = k-is i; len = length f - p; dropped = 0 })

  pub behind_no_tail : (alone : Bool) → alone ≡ true → (b : Bool) → b ≡ is_tail (drop p f) → b ≡ false → (r : Behind) → r ≡ brace_for f p → r ≡ behind_of alone f p
  unfolding behind_of
  behind_no_tail alone a b b-is t r e = rw (a, sym b-is ∙ t) e

  pub behind_events : (alone : Bool) → alone ≡ false → (r : Behind) → r ≡ brace_for f p → r ≡ behind_of alone f p
  unfolding behind_of
  behind_events alone a r e = rw a e

pub room_len : (f : List ℕ) (p : ℕ) → p ≤ length f → (alone : Bool) (b : Behind) → b ≡ behind_of alone f p → b.len ≤ length f + 1
unfolding behind_of
room_len f p l alone b e = go (alone && is_tail (drop p f)) e
  where
    go : (c : Bool) → b ≡ cond c (record { tail = tail_kind (drop p f); len = length f - p; dropped = 0 }) (brace_for f p) → b.len ≤ length f + 1
    go true e = omega (arith, ap (λ (x : Behind). x.len) e)
    go false e = omega (arith, ap (λ (x : Behind). x.len) e)

-- ---- the file that is given

front_is : (f : List ℕ) (p : ℕ) → 15 ≤ p → p ≤ length f → front_of f p ≡ take p (ending_at f p)
unfolding front_of ending_at part
front_is f p h l =
    let w = be 4 (p - 15) in
    let four = length_be 4 (p - 15) in
    let e : 11 + length w ≡ 15 = omega arith in
    let front = take 11 f ++ w in
    let n : length front ≡ 15 = omega (arith, length-append (take 11 f) w, length-take-le 11 f (omega arith)) in
    sym (ap (take p) (splice_is f 11 w (omega arith) ∙ ap (λ (k : ℕ). take 11 f ++ (w ++ drop k f)) e ∙ sym (append_assoc (take 11 f) w (drop 15 f)))
    ∙ take_past front (drop 15 f) 15 p n h
    ∙ append_assoc (take 11 f) w (take (p - 15) (drop 15 f)))

tail_length_lem : (f : List ℕ) (p : ℕ) → length (tail_for f p) ≡ cond (keeps_tail f p) (length f - p) 1
unfolding tail_for
tail_length_lem f p = go (keeps_tail f p)
  where
    go : (b : Bool) → length (cond b (drop p f) (0x7d ∷ [])) ≡ cond b (length f - p) 1
    go true = length-drop p f
    go false = refl

repaired_length : (f : List ℕ) (p : ℕ) → 15 ≤ length f → p ≤ length f → length (repaired_to f p) ≡ p + cond (keeps_tail f p) (length f - p) 1
unfolding repaired_to
repaired_length f p h l =
    let a = length-append (take p (ending_at f p)) (tail_for f p) in
    let b = length-take-le p (ending_at f p) (omega (arith, ending_length f h p)) in
    omega (arith, a, b, tail_length_lem f p)

-- ---- a beginning in numbers

module _ (f spans : List ℕ) (first p : ℕ) (t : Told f spans first p) where
  abbrev long : 15 ≤ length f
  long = long_enough f t.topped.accepted

  abbrev g : List ℕ
  g = ending_at f p

  starts : (17 ≤ first) × (first ≤ length f)
  starts = let (a, b) = first_within f t.topped.accepted in (omega (arith, t.topped.first_is), omega (arith, t.topped.first_is))

  same_first : first_place (table_of g) ≡ first
  same_first = ap first_place (ending_table f long p ∙ sym (zero_table f long)) ∙ sym t.topped.first_is

  stop_g : stop_of g ≡ p
  stop_g = ending_stop f long p t.begins.short (omega (arith, starts.0, t.after)) t.begins.within

  kept_count : (passed_from f spans p (suc p) first 0).events ≡ length (events_read g)
  unfolding events_read
  kept_count =
      let h = ending_accepted f t.topped.accepted p t.begins.short t.begins.within (omega (arith, t.after, t.topped.first_is)) in
      let index : (c : ℕ) → c < 256 → get_or spans c 0 ≡ span_of c (table_of g) = λ c k. t.topped.index.spans_are c k ∙ ap (span_of c) (zero_table f long ∙ sym (ending_table f long p)) in
      let e = run_passed g spans h (ending_bytes f long p t.topped.bytes) index (length g) (suc p) first 0 (omega (arith, same_first)) (omega (arith, stop_g, t.after)) (omega (arith, stop_g, ending_length f long p, t.begins.within)) (omega (arith, stop_g)) in
      let s = passed_same f g spans (ending_tail f long p) p (suc p) first 0 (omega (arith, starts.0)) ∙ ap (λ (k : ℕ). passed_from g spans k (suc p) first 0) (sym stop_g) ∙ e in
      let z : 0 + length (run (length g) g first).seen ≡ length (run (length g) g first).seen = omega arith in
      ap (λ (x : Passed). x.events) s ∙ z ∙ ap (λ (k : ℕ). length (run (length g) g k).seen) (sym same_first) ∙ sym (length-map (run_of g).seen (event_at g))

  rest_count : (passed_from f spans (length f) (suc (length f)) p 0).events ≡ dropped f p
  unfolding dropped
  rest_count =
      let z = zeroed f in
      let stop = zero_stop f long in
      let e = run_passed z spans t.topped.accepted (zero_bytes f spans first t.topped) t.topped.index.spans_are (length f) (suc (length f)) p 0 (omega (arith, t.after, t.topped.first_is)) (omega (arith, stop, t.begins.within)) (omega (arith, stop)) (omega (arith, stop)) in
      let s = passed_same f z spans (zero_tail f long) (length f) (suc (length f)) p 0 (omega (arith, starts.0, t.after)) ∙ ap (λ (k : ℕ). passed_from z spans k (suc (length f)) p 0) (sym stop) ∙ e in
      let q : 0 + length (run (length f) z p).seen ≡ length (run (length f) z p).seen = omega arith in
      ap (λ (x : Passed). x.events) s ∙ q

  record Fields (c : Bool) (b : Behind) : Type 0 where
    tail_is : b.tail ≡ cond c (tail_kind (drop p f)) 2
    len_is : b.len ≡ cond c (length f - p) 1
    dropped_is : b.dropped ≡ cond c 0 (length f - p)

  fields_by : (c : Bool) → Fields c (cond c (record { tail = tail_kind (drop p f); len = length f - p; dropped = 0 }) (record { tail = 2; len = 1; dropped = length f - p }))
  fields_by true = record { tail_is = refl; len_is = refl; dropped_is = refl }
  fields_by false = record { tail_is = refl; len_is = refl; dropped_is = refl }

  fields : Fields (keeps_tail f p) (behind_of (eqb (dropped f p) 0) f p)
  unfolding behind_of keeps_tail
  fields = fields_by (eqb (dropped f p) 0 && is_tail (drop p f))

  pub told_bounds : (15 ≤ p) × (first ≤ p) × (p ≤ length f) × (p < 4294967311) × (15 ≤ length f) × (length spans ≡ 256)
  told_bounds = (omega (arith, starts.0, t.after), t.after, t.begins.within, t.begins.short, long, t.topped.index.many)

  pub described_is : (kept rest : Passed) → kept ≡ passed_from f spans p (suc p) first 0 → rest ≡ passed_from f spans (length f) (suc (length f)) p 0 → (b : Behind) → b ≡ behind_of (eqb rest.events 0) f p
      → (said : ℕ) → said ≡ declared f
      → record {
        refused = 0;
        tail = b.tail;
        said = said;
        length = p - 15;
        bytes = p + b.len;
        events = kept.events;
        event_bytes = p - first;
        dropped_events = rest.events;
        dropped_bytes = b.dropped;
      } ≡ repair_of f p
  described_is kept rest k r b b-is said s =
      let events = ap (λ (x : Passed). x.events) k ∙ kept_count in
      let others = ap (λ (x : Passed). x.events) r ∙ rest_count in
      let x = subst (Fields (keeps_tail f p)) (sym (b-is ∙ ap (λ (n : ℕ). behind_of (eqb n 0) f p) others)) fields in
      let bytes : p + b.len ≡ length (repaired_to f p) = ap (λ (n : ℕ). p + n) x.len_is ∙ sym (repaired_length f p long t.begins.within) in
      λ i. record {
        refused = 0;
        tail = x.tail_is i;
        said = s i;
        length = p - 15;
        bytes = bytes i;
        events = events i;
        event_bytes = p - t.topped.first_is i;
        dropped_events = others i;
        dropped_bytes = x.dropped_is i;
      }

-- ---- the judgement

pub judged_refused : (f spans : List ℕ) (j : Judged) → Judges f spans j → (j.refused ≡ 0 → ⊥) → RepairMeasured f (unrepaired j.refused)
judged_refused f spans j (judged-early n e) m = early n (ap unrepaired e)
judged_refused f spans j (judged_none z n e) m = none z n (ap unrepaired e)
judged_refused f spans j (held z l e t a) m = absurd (m e)

pub judged_told : (f spans : List ℕ) (j : Judged) → Judges f spans j → j.refused ≡ 0 → Told f spans j.first j.stop
judged_told f spans j (judged-early n e) m = absurd (n (sym e ∙ m))
judged_told f spans j (judged_none z n e) m = absurd (omega arith)
judged_told f spans j (held z l e t a) m = record { topped = t; begins = l.begins; after = a }

pub judged_found : (f spans : List ℕ) (j : Judged) → Judges f spans j → j.refused ≡ 0 → (m : Repaired) → m ≡ repair_of f j.stop → RepairMeasured f m
judged_found f spans j (judged-early n e) z m q = absurd (n (sym e ∙ z))
judged_found f spans j (judged_none o n e) z m q = absurd (omega arith)
judged_found f spans j (held o l e t a) z m q = found o j.stop l q

-- ---- the output

pub open_head : (f : List ℕ) → open_refusal f ≡ 0 → head_refusal (zeroed f) ≡ 0
unfolding open_refusal lowest
open_head f e = go (eqb (head_refusal (zeroed f)) 0) refl _ e
  where
    go : (b : Bool) → eqb (head_refusal (zeroed f)) 0 ≡ b → (others : ℕ) → cond (not b) (head_refusal (zeroed f)) others ≡ 0 → head_refusal (zeroed f) ≡ 0
    go true x others e = eqb-true (head_refusal (zeroed f)) 0 x
    go false x others e = e

begins_above : (f : List ℕ) → open_refusal f ≡ 0 → (p : ℕ) → ReplayUpTo f p → (17 ≤ p) × (15 ≤ length f)
begins_above f o p b =
    let h = open_head f o in
    let (x, y) = first_within f h in
    let z = ending_starts f h p b.short b.within (early_head (ending_at f p) b.accepted.early) b.accepted.found.whole in
    (omega arith, long_enough f h)

kind_small : (f : List ℕ) (p : ℕ) → keeps_tail f p ≡ true → tail_kind (drop p f) < 2
unfolding keeps_tail is_tail
kind_small f p e =
    let k = tail_kind (drop p f) in
    let body = is_body (part (drop p f) 11 (length (drop p f) - 13)) in
    go body (either (eqb k 0) (eqb k 1 && body) (both (eqb (dropped f p) 0) (eqb k 0 || (eqb k 1 && body)) e).1)
  where
    go : (b : Bool) → Or (eqb (tail_kind (drop p f)) 0) (eqb (tail_kind (drop p f)) 1 && b) → tail_kind (drop p f) < 2
    go b (left_is x) = let z = eqb-true (tail_kind (drop p f)) 0 x in omega arith
    go b (right_is x) = let z = eqb-true (tail_kind (drop p f)) 1 (both (eqb (tail_kind (drop p f)) 1) b x).0 in omega arith

own_is : (f : List ℕ) (p : ℕ) → not (eqb (cond (keeps_tail f p) (tail_kind (drop p f)) 2) 2) ≡ keeps_tail f p
own_is f p = go (keeps_tail f p) refl
  where
    small : keeps_tail f p ≡ true → tail_kind (drop p f) < 2
    small e = kind_small f p e

    go : (c : Bool) → keeps_tail f p ≡ c → not (eqb (cond c (tail_kind (drop p f)) 2) 2) ≡ c
    go true e = ap not (ne_eqb (tail_kind (drop p f)) 2 (λ z. let l = small e in omega arith))
    go false e = ap not (eq-eqb 2 2 refl)

pub record Held (f given : List ℕ) (m : Repaired) : Type 0 where
  pub place : ℕ
  pub opens : open_refusal f ≡ 0
  pub longest : Longest f place
  pub is : m ≡ repair_of f place

module _ (f given : List ℕ) (m : Repaired) where
  pub outcome_refused : RepairMeasured f m → (m.refused ≡ 0 → ⊥) → RepairOutcome f given m given
  outcome_refused (early n e) z = early n e refl
  outcome_refused (none o n e) z = none o n e refl
  outcome_refused (found o p l e) z = absurd (z (ap (λ (x : Repaired). x.refused) e))

  pub holds : RepairMeasured f m → m.refused ≡ 0 → Held f given m
  holds (early n e) z = absurd (n (sym (ap (λ (x : Repaired). x.refused) e) ∙ z))
  holds (none o n e) z = absurd (omega (arith, ap (λ (x : Repaired). x.refused) e))
  holds (found o p l e) z = record { place = p; opens = o; longest = l; is = e }

  module _ (h : Held f given m) where
    abbrev p : ℕ
    p = h.place

    above : (17 ≤ p) × (15 ≤ length f)
    above = begins_above f h.opens p h.longest.begins

    pub place_is : 15 + m.length ≡ p
    place_is = omega (arith, ap (λ (x : Repaired). x.length) h.is, above.0)

    long_is : m.bytes ≡ length (repaired_to f p)
    long_is = ap (λ (x : Repaired). x.bytes) h.is

    own_so : not (eqb m.tail 2) ≡ keeps_tail f p
    own_so = ap (λ (x : Repaired). not (eqb x.tail 2)) h.is ∙ own_is f p

    pub outcome_short : length given < m.bytes → RepairOutcome f given (unrepaired 12) given
    outcome_short l = short h.opens p h.longest (omega (arith, long_is)) refl refl

    pub room_for : m.bytes ≤ length given → Fits f given (15 + m.length) × (15 + m.length + cond (not (eqb m.tail 2)) (length f - (15 + m.length)) 1 ≤ length given)
    room_for l =
        let b = h.longest.begins in
        let e = place_is in
        let n = repaired_length f p above.1 b.within in
        let r : p + cond (keeps_tail f p) (length f - p) 1 ≤ length given = omega (arith, long_is, n) in (
          record { above = omega (arith, above.0); within = omega (arith, b.within); low = omega (arith, b.short); room = omega arith },
          subst (λ (k : ℕ). k + cond (not (eqb m.tail 2)) (length f - k) 1 ≤ length given) (sym e) (subst (λ (c : Bool). p + cond c (length f - p) 1 ≤ length given) (sym own_so) r),
        )

    pub outcome_found : m.bytes ≤ length given → (left : List ℕ)
        → left ≡ splice given 0 (front_of f (15 + m.length) ++ cond (not (eqb m.tail 2)) (drop (15 + m.length) f) (0x7d ∷ [])) → RepairOutcome f given m left
    unfolding repaired_to tail_for
    outcome_found l left e =
        let b = h.longest.begins in
        let same : front_of f (15 + m.length) ++ cond (not (eqb m.tail 2)) (drop (15 + m.length) f) (0x7d ∷ []) ≡ repaired_to f p =
        (λ i. front_of f (place_is i) ++ cond (own_so i) (drop (place_is i) f) (0x7d ∷ [])) ∙ ap (λ (x : List ℕ). x ++ tail_for f p) (front_is f p (omega (arith, above.0)) b.within) in
        found h.opens p h.longest (omega (arith, long_is)) h.is (e ∙ ap (splice given 0) same)

-- ---- writing it

pub front_room : (f out : List ℕ) (p : ℕ) → Fits f out p → Room out 0 (front_of f p)
front_room f out p h =
    let e = ap length (front_is f p h.above h.within) in
    let n = length-take-le p (ending_at f p) (omega (arith, ending_length f (omega (arith, h.above, h.within)) p, h.within)) in
    record { fits = omega (arith, h.room) }

module _ (f out : List ℕ) (p : ℕ) (own : Bool) (h : Fits f out p) (l : p + cond own (length f - p) 1 ≤ length out) (o1 : List ℕ) (a : ℕ) (w : Wrote out o1 0 a (front_of f p)) where
  all_behind : part f p (length f - p) ≡ drop p f
  unfolding part
  all_behind = take_all (length f - p) (drop p f) (omega (arith, length-drop p f))

  at_is : (a ≡ p) × (length o1 ≡ length out)
  at_is =
      let e = ap length (front_is f p h.above h.within) in
      let n = length-take-le p (ending_at f p) (omega (arith, ending_length f (omega (arith, h.above, h.within)) p, h.within)) in
      (omega (arith, w.next_is), wrote_length w)

  pub own_room : own ≡ true → Room o1 a (part f p (length f - p))
  own_room e =
      let r : p + (length f - p) ≤ length out = subst (λ (c : Bool). p + cond c (length f - p) 1 ≤ length out) e l in
      let (x, y) = at_is in
      record { fits = omega (arith, ap length all_behind, length-drop p f) }

  pub brace_room : own ≡ false → Room o1 a (0x7d ∷ [])
  brace_room e =
      let r : p + 1 ≤ length out = subst (λ (c : Bool). p + cond c (length f - p) 1 ≤ length out) e l in
      let (x, y) = at_is in
      record { fits = omega arith }

  pub own_put : own ≡ true → (o2 : List ℕ) (b : ℕ) → Wrote o1 o2 a b (part f p (length f - p)) → o2 ≡ splice out 0 (front_of f p ++ cond own (drop p f) (0x7d ∷ []))
  own_put e o2 b x = (wrote_then w x).after_is ∙ ap (λ (k : List ℕ). splice out 0 (front_of f p ++ k)) (all_behind ∙ sym (ap (λ (c : Bool). cond c (drop p f) (0x7d ∷ [])) e))

  pub brace_put : own ≡ false → (o2 : List ℕ) (b : ℕ) → Wrote o1 o2 a b (0x7d ∷ []) → o2 ≡ splice out 0 (front_of f p ++ cond own (drop p f) (0x7d ∷ []))
  brace_put e o2 b x = (wrote_then w x).after_is ∙ ap (λ (k : List ℕ). splice out 0 (front_of f p ++ k)) (sym (ap (λ (c : Bool). cond c (drop p f) (0x7d ∷ [])) e))
