-- No second outcome: a file holds at most one replay, and what `measure` and `read` answer, and what `read` leaves in the stores, follow from their inputs.
-- Assumes nothing.
use mathlib.Core.Path.{◌≡◌, sym, ap, ◌∙◌}
use mathlib.Core.Bool.{Bool, true, false, cond}
use mathlib.Core.List.{List}
use Prim.Native.Nat.{ℕ}
use Rattle.grammar.specs.Productions.{Replay}
use Rattle.grammar.specs.WellFormed.{ascending}
use Rattle.grammar.proofs.Unique.{unique}
use Rattle.read_judge.specs.Found.{Found, version_of, refusal_offset, too_big}
use Rattle.newer_judge.specs.Opening.{opening_refusal}
use Rattle.measure.specs.Game.{Kept, kept_read}
use Rattle.measure.specs.Read.{unmeasured, measured_in, unopened, opened_in, kept_short, kept_over, MeasureOutcome, ReadOutcome, early, none, big, short, found}
use Rattle.measure.specs.declared.Measured.{Measured}
use Rattle.measure.specs.declared.Opened.{Opened}

-- an answer with the stores after it
pub record Both : Type 0 where
  pub answer : Opened
  pub stores : Kept

abbrev both : Opened → Kept → Both
both r k = record { answer = r; stores = k }

pair : {r s : Opened} {k l : Kept} → r ≡ s → k ≡ l → both r k ≡ both s l
pair e g = λ i. both (e i) (g i)

module _ (f : List ℕ) where
  -- two replays of one file are one
  pub one_found : (x y : Found f) → x.replay ≡ y.replay
  one_found x y = unique (version_of f) ascending ascending x.replay y.replay x.readable.well y.readable.well (sym x.events_are ∙ y.events_are)

  -- ---- measure

  -- the answer of a file that holds a replay
  abbrev measured_of : Replay → Measured
  measured_of r = cond (too_big (version_of f) r) (unmeasured 2 0) (measured_in f r)

  measured_big : (x y : Found f) {m : Measured} → too_big (version_of f) y.replay ≡ true → m ≡ unmeasured 2 0 → m ≡ measured_of x.replay
  measured_big x y large e = e ∙ sym (ap measured_of (one_found x y) ∙ ap (λ (b : Bool). cond b (unmeasured 2 0) (measured_in f y.replay)) large)

  measured_small : (x y : Found f) {m : Measured} → too_big (version_of f) y.replay ≡ false → m ≡ measured_in f y.replay → m ≡ measured_of x.replay
  measured_small x y small e = e ∙ sym (ap measured_of (one_found x y) ∙ ap (λ (b : Bool). cond b (unmeasured 2 0) (measured_in f y.replay)) small)

  measure_early : {m : Measured} → (opening_refusal f ≡ 0 → ⊥) → MeasureOutcome f m → m ≡ unmeasured (opening_refusal f) (refusal_offset f)
  measure_early n (early p e) = e
  measure_early n (none z p e) = absurd (n z)
  measure_early n (big z y p e) = absurd (n z)
  measure_early n (found z y p e) = absurd (n z)

  measure_none : {m : Measured} → opening_refusal f ≡ 0 → (Found f → ⊥) → MeasureOutcome f m → m ≡ unmeasured 19 0
  measure_none z n (early p e) = absurd (p z)
  measure_none z n (none p q e) = e
  measure_none z n (big p y q e) = absurd (n y)
  measure_none z n (found p y q e) = absurd (n y)

  measure_found : {m : Measured} → opening_refusal f ≡ 0 → (x : Found f) → MeasureOutcome f m → m ≡ measured_of x.replay
  measure_found z x (early p e) = absurd (p z)
  measure_found z x (none p q e) = absurd (q x)
  measure_found z x (big p y q e) = measured_big x y q e
  measure_found z x (found p y q e) = measured_small x y q e

  pub only_measure : {m n : Measured} → MeasureOutcome f m → MeasureOutcome f n → m ≡ n
  only_measure (early p e) o = e ∙ sym (measure_early p o)
  only_measure (none z p e) o = e ∙ sym (measure_none z p o)
  only_measure (big z x p e) o = measured_big x x p e ∙ sym (measure_found z x o)
  only_measure (found z x p e) o = measured_small x x p e ∙ sym (measure_found z x o)

  -- ---- read

  module _ (given : Kept) where
    abbrev short_of : Replay → Bool
    short_of r = kept_short given (kept_read (version_of f) r)

    -- the answer of a file that holds a replay, and the stores after it
    abbrev chosen : Replay → Bool → Bool → Both
    chosen r large brief = cond large (both (unopened 2 0) given) (cond brief (both (unopened 12 0) given) (both (opened_in f r) (kept_over given (kept_read (version_of f) r))))

    abbrev opened_of : Replay → Both
    opened_of r = chosen r (too_big (version_of f) r) (short_of r)

    opened_as : (x y : Found f) {r : Opened} {k : Kept} (large brief : Bool) → too_big (version_of f) y.replay ≡ large
        → short_of y.replay ≡ brief → both r k ≡ chosen y.replay large brief → both r k ≡ opened_of x.replay
    opened_as x y large brief a b e = e ∙ sym (ap opened_of (one_found x y) ∙ (λ i. chosen y.replay (a i) (b i)))

    opened_big : (x y : Found f) {r : Opened} {k : Kept} → too_big (version_of f) y.replay ≡ true → both r k ≡ both (unopened 2 0) given → both r k ≡ opened_of x.replay
    opened_big x y a e = e ∙ sym (ap opened_of (one_found x y) ∙ (λ i. chosen y.replay (a i) (short_of y.replay)))

    read_early : {r : Opened} {k : Kept} → (opening_refusal f ≡ 0 → ⊥) → ReadOutcome f given r k → both r k ≡ both (unopened (opening_refusal f) (refusal_offset f)) given
    read_early n (early p e g) = pair e g
    read_early n (none z p e g) = absurd (n z)
    read_early n (big z y p e g) = absurd (n z)
    read_early n (short z y p q e g) = absurd (n z)
    read_early n (found z y p q e g) = absurd (n z)

    read_none : {r : Opened} {k : Kept} → opening_refusal f ≡ 0 → (Found f → ⊥) → ReadOutcome f given r k → both r k ≡ both (unopened 19 0) given
    read_none z n (early p e g) = absurd (p z)
    read_none z n (none p q e g) = pair e g
    read_none z n (big p y q e g) = absurd (n y)
    read_none z n (short p y q s e g) = absurd (n y)
    read_none z n (found p y q s e g) = absurd (n y)

    read_found : {r : Opened} {k : Kept} → opening_refusal f ≡ 0 → (x : Found f) → ReadOutcome f given r k → both r k ≡ opened_of x.replay
    read_found z x (early p e g) = absurd (p z)
    read_found z x (none p q e g) = absurd (q x)
    read_found z x (big p y q e g) = opened_big x y q (pair e g)
    read_found z x (short p y q s e g) = opened_as x y false true q s (pair e g)
    read_found z x (found p y q s e g) = opened_as x y false false q s (pair e g)

    both_same : {r s : Opened} {k l : Kept} → ReadOutcome f given r k → ReadOutcome f given s l → both r k ≡ both s l
    both_same (early p e g) o = pair e g ∙ sym (read_early p o)
    both_same (none z p e g) o = pair e g ∙ sym (read_none z p o)
    both_same (big z x p e g) o = opened_big x x p (pair e g) ∙ sym (read_found z x o)
    both_same (short z x p s e g) o = opened_as x x false true p s (pair e g) ∙ sym (read_found z x o)
    both_same (found z x p s e g) o = opened_as x x false false p s (pair e g) ∙ sym (read_found z x o)

    pub only_read : {r s : Opened} {k l : Kept} → ReadOutcome f given r k → ReadOutcome f given s l → (r ≡ s) × (k ≡ l)
    only_read x y = (ap (λ (b : Both). b.answer) (both_same x y), ap (λ (b : Both). b.stores) (both_same x y))
