-- From the calls: what `repair` gives, `measure` and `read` accept; and nothing of it hangs on the length field.
-- Assumes nothing.
use Prim.Native.Nat.{ℕ, ◌+◌, ◌-◌, ◌≤◌, ◌<◌}
use mathlib.Core.Path.{◌≡◌, refl, sym, ap, subst, ◌∙◌}
use mathlib.Core.Bool.{false, cond, not, ◌&&◌}
use mathlib.Core.List.{List, [], ◌∷◌, ◌++◌}
use native.Mathlib.Omega.{arith}
use lib.Dec.{eqb}
use lib.ListN.{length, get_or, take, drop}
use lib.Seq.{take_at, length-take-le}
use Rattle.wire.specs.Wire.{be, splice, tabulate}
use Rattle.wire.proofs.Laws.{splice_is, length_splice, length_be, tabulate_at}
use Rattle.head.specs.Table.{table_of, first_place, span_of, head_refusal}
use Rattle.de.specs.Walk.{run}
use Rattle.de.specs.Cut.{events_read, zeroed}
use Rattle.format.specs.Refusal.{refuse, lowest}
use Rattle.format.specs.Version.{accepted_of}
use Rattle.read_judge.specs.Found.{opens_wrong, version_said, version_of}
use Rattle.read_judge.specs.Inner.{Bytes}
use Rattle.newer_judge.proofs.Opening.{opening_none}
use Rattle.measure.specs.Game.{Kept, kept_read}
use Rattle.measure.specs.Read.{measured_in, opened_in, kept_short, MeasureOutcome, ReadOutcome}
use Rattle.measure.specs.Read.MeasureOutcome.{found as measure_found}
use Rattle.measure.specs.Read.ReadOutcome.{found as read_found}
use Rattle.measure.specs.declared.Opened.{Opened}
use Rattle.measure.specs.declared.Measured.{Measured}
use Rattle.measure.proofs.Only.{only_measure, only_read}
use Rattle.repair_kept.specs.Kept.{ending_at, Accepted, ReplayUpTo, Longest}
use Rattle.repair_kept.proofs.Field.{long_enough, ending_table, zero_table, ending_length, ending_bytes, ending_stop, ending_starts, first_within, same_tail}
use Rattle.repair_kept.proofs.Same.{drop_same}
use Rattle.repair_kept.proofs.Accepts.{early_head}
use Rattle.check_file.specs.Inner.{is_tail}
use Rattle.repair_judge.specs.Open.{open_refusal}
use Rattle.repair_call.specs.Outcome.{dropped, keeps_tail, tail_for, repaired_to, RepairOutcome, early, none, short, found}
use Rattle.repair_call.specs.declared.Repaired.{Repaired}
use Rattle.repair_call.proofs.Laws.{open_head}
use Rattle.law_repair.proofs.Accepted.{events_h, accepted_h}

-- ---- what is given is accepted

module _ (f : List ℕ) (bytes : Bytes f) where
  -- whatever stands behind a beginning, and its events are the same
  pub beginning_any : head_refusal (zeroed f) ≡ 0 → (p : ℕ) → ReplayUpTo f p → (tail : List ℕ)
      → Accepted (take p (ending_at f p) ++ tail) × (events_read (take p (ending_at f p) ++ tail) ≡ events_read (ending_at f p))
  beginning_any head p b tail =
      let long = long_enough f head in
      let g = ending_at f p in
      let z = early_head g b.accepted.early in
      let start = ending_starts f head p b.short b.within z b.accepted.found.whole in
      let (x, y) = first_within f head in
      let stop = ending_stop f long p b.short (omega arith) b.within in
      let table = ap first_place (ending_table f long p ∙ sym (zero_table f long)) in
      let in_g : p ≤ length g = omega (arith, ending_length f long p, b.within) in
      let starts : first_place (table_of g) ≤ p = omega arith in
      let spans = tabulate 256 (λ c. span_of c (table_of g)) in
      let index : (c : ℕ) → c < 256 → get_or spans c 0 ≡ span_of c (table_of g) = λ c l. tabulate_at 0 256 (λ c. span_of c (table_of g)) c l in
      let own = ending_bytes f long p bytes in
      let whole = b.accepted.found.whole in
      (accepted_h g tail p in_g z whole stop starts spans index own b.accepted, events_h g tail p in_g z whole stop starts spans index own b.accepted)

  pub beginning_accepted : open_refusal f ≡ 0 → (p : ℕ) → ReplayUpTo f p → Accepted (repaired_to f p)
  unfolding repaired_to
  beginning_accepted o p b = (beginning_any (open_head f o) p b (tail_for f p)).0

  -- the bytes that the call left
  pub given_accepted : (given : List ℕ) (r : Repaired) (left : List ℕ) → RepairOutcome f given r left → r.refused ≡ 0 → Accepted (take r.bytes left)
  given_accepted given r left (early n e l) z = absurd (n (sym (ap (λ (x : Repaired). x.refused) e) ∙ z))
  given_accepted given r left (none o n e l) z = absurd (omega (arith, ap (λ (x : Repaired). x.refused) e))
  given_accepted given r left (short o p l n e k) z = absurd (omega (arith, ap (λ (x : Repaired). x.refused) e))
  given_accepted given r left (found o p l n e k) z =
      let file = repaired_to f p in
      let there : take r.bytes left ≡ file =
      (λ i. take (e i).bytes (k i)) ∙ ap (take (length file)) (splice_is given 0 file (omega arith)) ∙ take_at file (drop (0 + length file) given) (length file) refl in
      subst Accepted (sym there) (beginning_accepted o p l.begins)

-- so `measure` answers with what it needs, and `read` gives its game where the stores are long enough
pub measured : (f : List ℕ) (m : Measured) (x : Accepted f) → MeasureOutcome f m → m ≡ measured_in f x.found.replay
measured f m x o = only_measure f o (measure_found (opening_none f x.early) x.found x.small refl)

pub opened : (f : List ℕ) (given : Kept) (r : Opened) (left : Kept) (x : Accepted f) → kept_short given (kept_read (version_of f) x.found.replay) ≡ false → ReadOutcome f given r left
    → r ≡ opened_in f x.found.replay
opened f given r left x enough o = (only_read f given o (read_found (opening_none f x.early) x.found x.small enough refl refl)).0

-- ---- the length field is not looked at

over_again : (xs : List ℕ) (v w : List ℕ) → 15 ≤ length xs → length v ≡ 4 → length w ≡ 4 → splice (splice xs 11 v) 11 w ≡ splice xs 11 w
over_again xs v w l a b =
    let y = splice xs 11 v in
    let n = length_splice xs 11 v in
    let four : 11 + length w ≡ 15 = omega arith in
    let five : 11 + length v ≡ 15 = omega arith in
    let front : take 11 y ≡ take 11 xs = ap (take 11) (splice_is xs 11 v (omega arith)) ∙ take_at (take 11 xs) (v ++ drop (11 + length v) xs) 11 (length-take-le 11 xs (omega arith)) in
    splice_is y 11 w (omega arith)
    ∙ (λ i. front i ++ (w ++ drop (four i) y))
    ∙ ap (λ (k : List ℕ). take 11 xs ++ (w ++ k)) (sym (same_tail xs v l a))
    ∙ sym (splice_is xs 11 w (omega arith) ∙ ap (λ (k : ℕ). take 11 xs ++ (w ++ drop k xs)) four)

module _ (f w : List ℕ) (long : 15 ≤ length f) (four : length w ≡ 4) where
  abbrev other : List ℕ
  other = splice f 11 w

  pub ending_same : (p : ℕ) → ending_at other p ≡ ending_at f p
  unfolding ending_at
  ending_same p = over_again f w (be 4 (p - 15)) long four (length_be 4 (p - 15))

  pub zeroed_same : zeroed other ≡ zeroed f
  unfolding zeroed
  zeroed_same = over_again f w (0 ∷ 0 ∷ 0 ∷ 0 ∷ []) long four refl

  length_same : length other ≡ length f
  length_same = length_splice f 11 w

  pub open_same : open_refusal other ≡ open_refusal f
  unfolding open_refusal
  open_same = λ i. lowest (refuse (head_refusal (zeroed_same i)) (not (eqb (head_refusal (zeroed_same i)) 0)) ∷ refuse 19 (opens_wrong (events_read (zeroed_same i))) ∷ refuse 1 (not (accepted_of (version_said (events_read (zeroed_same i))))) ∷ [])

  pub begins_same : (p : ℕ) → ReplayUpTo other p → ReplayUpTo f p
  begins_same p b = record { within = omega (arith, b.within, length_same); short = b.short; accepted = subst Accepted (ending_same p) b.accepted }

  pub begins_too : (p : ℕ) → ReplayUpTo f p → ReplayUpTo other p
  begins_too p b = record { within = omega (arith, b.within, length_same); short = b.short; accepted = subst Accepted (sym (ending_same p)) b.accepted }

  pub longest_same : (p : ℕ) → Longest f p → Longest other p
  longest_same p l = record { begins = begins_too p l.begins; most = λ q b. l.most q (begins_same q b) }

  pub dropped_same : (p : ℕ) → dropped other p ≡ dropped f p
  unfolding dropped
  dropped_same p = λ i. length (run (length_same i) (zeroed_same i) p).seen

  pub behind_same : (p : ℕ) → 15 ≤ p → drop p other ≡ drop p f
  behind_same p h = sym (drop_same f other (same_tail f w long four) p h)

  pub keeps_same : (p : ℕ) → 15 ≤ p → keeps_tail other p ≡ keeps_tail f p
  unfolding keeps_tail
  keeps_same p h = λ i. eqb (dropped_same p i) 0 && is_tail (behind_same p h i)

  tail_same : (p : ℕ) → 15 ≤ p → tail_for other p ≡ tail_for f p
  unfolding tail_for
  tail_same p h = λ i. cond (keeps_same p h i) (behind_same p h i) (0x7d ∷ [])

  pub repaired_same : (p : ℕ) → 15 ≤ p → repaired_to other p ≡ repaired_to f p
  unfolding repaired_to
  repaired_same p h = λ i. take p (ending_same p i) ++ tail_same p h i
