-- A refusal's number is not 0, which says that nothing is refused.
-- Assumes nothing.
use mathlib.Core.Path.{◌≡◌}
use Prim.Native.Nat.{ℕ, ◌<◌}
use native.Mathlib.Omega.{arith}
use lib.Dec.{lit<}
use Rattle.format.specs.Refused.{number_of}
use Rattle.format.specs.declared.refusal.Refusal.{Refusal}
use Rattle.format.specs.declared.refusal.Refusal.TheVariants.{VersionTooNew, TooMany, BadStore, WideCell, BadOffsets, BadPresence, BadPorts, BadBlock, BadStart, BadCodes, BadEnd, ShortOutput, OutOfRange, NotAReplay, BadTable, UnknownEvent, BadPlace, LongInput, BadEvents, TooDeep, LongText, RepeatedKey, BadBody, NoIndex, BadIndex, OtherReplay, NoSuchId}

numbered : (r : Refusal) → 0 < number_of r
numbered VersionTooNew = lit< tt
numbered TooMany = lit< tt
numbered BadStore = lit< tt
numbered WideCell = lit< tt
numbered BadOffsets = lit< tt
numbered BadPresence = lit< tt
numbered BadPorts = lit< tt
numbered BadBlock = lit< tt
numbered BadStart = lit< tt
numbered BadCodes = lit< tt
numbered BadEnd = lit< tt
numbered ShortOutput = lit< tt
numbered OutOfRange = lit< tt
numbered NotAReplay = lit< tt
numbered BadTable = lit< tt
numbered UnknownEvent = lit< tt
numbered BadPlace = lit< tt
numbered LongInput = lit< tt
numbered BadEvents = lit< tt
numbered TooDeep = lit< tt
numbered LongText = lit< tt
numbered RepeatedKey = lit< tt
numbered BadBody = lit< tt
numbered NoIndex = lit< tt
numbered BadIndex = lit< tt
numbered OtherReplay = lit< tt
numbered NoSuchId = lit< tt

pub some_number : (r : Refusal) {n : ℕ} → n ≡ number_of r → n ≡ 0 → ⊥
some_number r e z = omega (arith, numbered r, e, z)
