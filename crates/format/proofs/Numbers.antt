-- The numbers of refusals: none is 0, and equal numbers are equal refusals.
-- Assumes nothing.
use mathlib.Core.Path.{◌≡◌, refl, sym, ap, ◌∙◌}
use mathlib.Core.List.{List, [], ◌∷◌}
use Prim.Native.Nat.{ℕ, zero, suc, ◌+◌, ◌<◌}
use native.Mathlib.Omega.{arith}
use lib.ListN.{length}
use Rattle.format.specs.Refused.{number_of}
use Rattle.format.specs.declared.refusal.Refusal.{Refusal}
use Rattle.format.specs.declared.refusal.Refusal.TheVariants.{VersionTooNew, TooMany, BadStore, WideCell, BadOffsets, BadPresence, BadPorts, BadBlock, BadStart, BadCodes, BadEnd, ShortOutput, OutOfRange, NotAReplay, BadTable, UnknownEvent, BadPlace, LongInput, BadEvents, TooDeep, LongText, RepeatedKey, BadBody, NoIndex, BadIndex, OtherReplay, NoSuchId}

suc_zero : (k : ℕ) → suc k ≡ 0 → ⊥
suc_zero k e = omega arith

pub not_zero : (r : Refusal) → number_of r ≡ 0 → ⊥
not_zero VersionTooNew e = suc_zero _ e
not_zero TooMany e = suc_zero _ e
not_zero BadStore e = suc_zero _ e
not_zero WideCell e = suc_zero _ e
not_zero BadOffsets e = suc_zero _ e
not_zero BadPresence e = suc_zero _ e
not_zero BadPorts e = suc_zero _ e
not_zero BadBlock e = suc_zero _ e
not_zero BadStart e = suc_zero _ e
not_zero BadCodes e = suc_zero _ e
not_zero BadEnd e = suc_zero _ e
not_zero ShortOutput e = suc_zero _ e
not_zero OutOfRange e = suc_zero _ e
not_zero NotAReplay e = suc_zero _ e
not_zero BadTable e = suc_zero _ e
not_zero UnknownEvent e = suc_zero _ e
not_zero BadPlace e = suc_zero _ e
not_zero LongInput e = suc_zero _ e
not_zero BadEvents e = suc_zero _ e
not_zero TooDeep e = suc_zero _ e
not_zero LongText e = suc_zero _ e
not_zero RepeatedKey e = suc_zero _ e
not_zero BadBody e = suc_zero _ e
not_zero NoIndex e = suc_zero _ e
not_zero BadIndex e = suc_zero _ e
not_zero OtherReplay e = suc_zero _ e
not_zero NoSuchId e = suc_zero _ e

-- ---- the refusal of a number

abbrev listed : List Refusal
listed =
    VersionTooNew ∷ TooMany ∷ BadStore ∷ WideCell ∷ BadOffsets ∷ BadPresence
    ∷ BadPorts ∷ BadBlock ∷ BadStart ∷ BadCodes ∷ BadEnd ∷ ShortOutput
    ∷ OutOfRange ∷ NotAReplay ∷ BadTable ∷ UnknownEvent ∷ BadPlace ∷ LongInput
    ∷ BadEvents ∷ TooDeep ∷ LongText ∷ RepeatedKey ∷ BadBody ∷ NoIndex
    ∷ BadIndex ∷ OtherReplay ∷ NoSuchId ∷ []

abbrev at : List Refusal → ℕ → Refusal
at [] k = NoSuchId
at (r ∷ rs) zero = r
at (r ∷ rs) (suc k) = at rs k

-- a number that no refusal has is taken for the last
abbrev pub refusal_at : ℕ → Refusal
refusal_at zero = NoSuchId
refusal_at (suc k) = at listed k

pub at_number : (r : Refusal) → refusal_at (number_of r) ≡ r
at_number VersionTooNew = refl
at_number TooMany = refl
at_number BadStore = refl
at_number WideCell = refl
at_number BadOffsets = refl
at_number BadPresence = refl
at_number BadPorts = refl
at_number BadBlock = refl
at_number BadStart = refl
at_number BadCodes = refl
at_number BadEnd = refl
at_number ShortOutput = refl
at_number OutOfRange = refl
at_number NotAReplay = refl
at_number BadTable = refl
at_number UnknownEvent = refl
at_number BadPlace = refl
at_number LongInput = refl
at_number BadEvents = refl
at_number TooDeep = refl
at_number LongText = refl
at_number RepeatedKey = refl
at_number BadBody = refl
at_number NoIndex = refl
at_number BadIndex = refl
at_number OtherReplay = refl
at_number NoSuchId = refl

pub same_refusal : (q r : Refusal) → number_of q ≡ number_of r → q ≡ r
same_refusal q r e = sym (at_number q) ∙ ap refusal_at e ∙ at_number r

-- numbered one after the other, from n on
abbrev Ordered : List Refusal → ℕ → Type 0
Ordered [] n = Unit {0}
Ordered (r ∷ rs) n = (number_of r ≡ n) × Ordered rs (suc n)

number_in_order : (rs : List Refusal) (n k : ℕ) → Ordered rs n → k < length rs → number_of (at rs k) ≡ n + k
number_in_order [] n k o l = absurd (omega arith)
number_in_order (r ∷ rs) n zero o l = o.0 ∙ omega arith
number_in_order (r ∷ rs) n (suc k) o l = number_in_order rs (suc n) k o.1 (omega arith) ∙ omega arith

pub number_at : (k : ℕ) → (k ≡ 0 → ⊥) → k < 28 → number_of (refusal_at k) ≡ k
number_at zero h l = absurd (h refl)
number_at (suc k) h l = number_in_order listed 1 k (refl, (refl, (refl, (refl, (refl, (refl, (refl, (refl, (refl, (refl, (refl, (refl, (refl, (refl, (refl, (refl, (refl, (refl, (refl, (refl, (refl, (refl, (refl, (refl, (refl, (refl, (refl, tt))))))))))))))))))))))))))) (omega (arith, l)) ∙ omega arith
