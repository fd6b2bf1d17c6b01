-- Refusals and their numbers: each number is one refusal's, and none is 0.
-- Assumes nothing.
use mathlib.Core.Path.{◌≡◌, refl, sym, ap₂, ◌∙◌}
use mathlib.Core.Bool.{Bool, true, false, true≢false}
use Prim.Native.Nat.{suc}
use native.Mathlib.Omega.{arith}
use borrow.Author.Tests.{eqb-true, eqb-false}
use lib.Dec.{eqb, eqb-suc-suc}
use denote.Enum.Declared.{tag_of}
use Rattle.std.specs.Prelude.{Option, Some, None}
use Rattle.std.specs.Option.{option_eq, is_some}
use Rattle.format.specs.Refused.{number_of}
use Rattle.format.specs.contracts.refusal.Refusal.{the_type}
use Rattle.format.specs.contracts.refusal.RefusalPartialEq.TheImpl.{eq-value}
use Rattle.format.specs.declared.refusal.Refusal.{Refusal}
use Rattle.format.specs.declared.refusal.Refusal.TheVariants.{VersionTooNew, TooMany, BadStore, WideCell, BadOffsets, BadPresence, BadPorts, BadBlock, BadStart, BadCodes, BadEnd, ShortOutput, OutOfRange, NotAReplay, BadTable, UnknownEvent, BadPlace, LongInput, BadEvents, TooDeep, LongText, RepeatedKey, BadBody, NoIndex, BadIndex, OtherReplay, NoSuchId}
use Rattle.map.specs.Inner.{number_if}

number_is : (r : Refusal) → number_of r ≡ suc (tag_of the_type r)
number_is VersionTooNew = refl
number_is TooMany = refl
number_is BadStore = refl
number_is WideCell = refl
number_is BadOffsets = refl
number_is BadPresence = refl
number_is BadPorts = refl
number_is BadBlock = refl
number_is BadStart = refl
number_is BadCodes = refl
number_is BadEnd = refl
number_is ShortOutput = refl
number_is OutOfRange = refl
number_is NotAReplay = refl
number_is BadTable = refl
number_is UnknownEvent = refl
number_is BadPlace = refl
number_is LongInput = refl
number_is BadEvents = refl
number_is TooDeep = refl
number_is LongText = refl
number_is RepeatedKey = refl
number_is BadBody = refl
number_is NoIndex = refl
number_is BadIndex = refl
number_is OtherReplay = refl
number_is NoSuchId = refl

pub some_number : (r : Refusal) → number_of r ≡ 0 → ⊥
some_number r e = absurd (omega (arith, number_is r, e))

same_number : (a b : Refusal) → eq-value.it a b ≡ eqb (number_of a) (number_of b)
same_number a b = sym (ap₂ eqb (number_is a) (number_is b) ∙ eqb-suc-suc (tag_of the_type a) (tag_of the_type b))

-- a test whether there is a refusal
pub some_told : (o : Option Refusal) {b : Bool} → b ≡ is_some o → b ≡ true → number_if o ≡ 0 → ⊥
some_told None e t = absurd (true≢false (sym t ∙ e))
some_told (Some r) e t = some_number r

pub none_told : (o : Option Refusal) {b : Bool} → b ≡ is_some o → b ≡ false → number_if o ≡ 0
none_told None e f = refl
none_told (Some r) e f = absurd (true≢false (sym e ∙ f))

-- a test whether it is this one
pub this_told : (o : Option Refusal) (r : Refusal) {b : Bool} → b ≡ option_eq eq-value.it o (Some r) → b ≡ true → number_if o ≡ number_of r
this_told None r e t = absurd (true≢false (sym t ∙ e))
this_told (Some x) r e t = eqb-true (number_of x) (number_of r) (sym (same_number x r) ∙ sym e ∙ t)

pub other_told : (o : Option Refusal) (r : Refusal) {b : Bool} → b ≡ option_eq eq-value.it o (Some r) → b ≡ false → number_if o ≡ number_of r → ⊥
other_told None r e f = λ q. some_number r (sym q)
other_told (Some x) r e f = eqb-false (number_of x) (number_of r) (sym (same_number x r) ∙ sym e ∙ f)
