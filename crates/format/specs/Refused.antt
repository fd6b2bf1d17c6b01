-- Refusals by their numbers.
-- Assumes nothing.
use Rattle.std.specs.Prelude.{ℕ, Result, Ok, Err}
use Rattle.format.specs.declared.refusal.Refusal.{Refusal}
use Rattle.format.specs.declared.refusal.Refusal.TheVariants.{VersionTooNew, TooMany, BadStore, WideCell, BadOffsets, BadPresence, BadPorts, BadBlock, BadStart, BadCodes, BadEnd, ShortOutput, OutOfRange, NotAReplay, BadTable, UnknownEvent, BadPlace, LongInput, BadEvents, TooDeep, LongText, RepeatedKey, BadBody, NoIndex, BadIndex, OtherReplay, NoSuchId}

abbrev pub number_of : Refusal → ℕ
number_of VersionTooNew = 1
number_of TooMany = 2
number_of BadStore = 3
number_of WideCell = 4
number_of BadOffsets = 5
number_of BadPresence = 6
number_of BadPorts = 7
number_of BadBlock = 8
number_of BadStart = 9
number_of BadCodes = 10
number_of BadEnd = 11
number_of ShortOutput = 12
number_of OutOfRange = 13
number_of NotAReplay = 14
number_of BadTable = 15
number_of UnknownEvent = 16
number_of BadPlace = 17
number_of LongInput = 18
number_of BadEvents = 19
number_of TooDeep = 20
number_of LongText = 21
number_of RepeatedKey = 22
number_of BadBody = 23
number_of NoIndex = 24
number_of BadIndex = 25
number_of OtherReplay = 26
number_of NoSuchId = 27

-- what a call answers: a value, or why it refuses
abbrev pub Answer : Type 0 → Type 0
Answer A = Result A Refusal

-- the number of an answer's refusal; 0 is none
abbrev pub number_in : {A : Type 0} → Answer A → ℕ
number_in (Ok x) = 0
number_in (Err r) = number_of r
