-- The answers of the calls as structs of numbers.
-- Assumes nothing.
use Rattle.std.specs.Prelude.{ℕ, cond, Result, Ok, Err}
use Rattle.format.specs.Mark.{yes}
use Rattle.rollback.specs.declared.frame.Rollbacks.{Rollbacks}
use Rattle.rollback.specs.declared.frame.Rollbacks.TheVariants.{ExceptFirst, ExceptLast}
use Rattle.head.specs.Numbers.{StepNumbers, step_numbers}
use Rattle.de.specs.Numbers.{WalkNumbers, walk_numbers}
use Rattle.head.specs.declared.Step.{Step}
use Rattle.de.specs.declared.Walked.{Walked}
use Rattle.format.specs.Refused.{number_of}
use Rattle.format.specs.declared.refusal.Refusal.{Refusal}
use Rattle.ser.specs.Write.{WrittenNumbers}
use Rattle.append.specs.Run.{AppendedNumbers}
use Rattle.live.specs.declared.closed.Ends.{Ends}
use Rattle.live.specs.End.{ClosedNumbers}
use Rattle.answers.specs.declared.SlpAppended.{SlpAppended}
use Rattle.answers.specs.declared.SlpClosed.{SlpClosed}
use Rattle.answers.specs.declared.SlpStep.{SlpStep}
use Rattle.answers.specs.declared.SlpWalked.{SlpWalked}
use Rattle.answers.specs.declared.SlpWritten.{SlpWritten}

abbrev pub step_struct : StepNumbers → SlpStep
step_struct n = record { kind = n.kind; refused = n.number; code = n.code; offset = n.offset; at = n.at; payload = n.payload; len = n.len; next = n.next }

abbrev pub stepped : Step → SlpStep
stepped s = step_struct (step_numbers s)

abbrev pub walk_struct : WalkNumbers → SlpWalked
walk_struct n = record { refused = n.number; whole = n.whole; offset = n.offset; events = n.events; stray = n.stray; place = n.place }

abbrev pub walked : Walked → SlpWalked
walked w = walk_struct (walk_numbers w)

-- an answer with its refusal's number
abbrev pub numbered : {A : Type 0} → Result A Refusal → Result A ℕ
numbered (Ok x) = Ok x
numbered (Err r) = Err (number_of r)

abbrev pub written_struct : WrittenNumbers → SlpWritten
written_struct n = record { refused = n.number; len = n.len }

-- of an answer with any number
abbrev pub written : Result ℕ ℕ → SlpWritten
written (Ok n) = written_struct (record { kind = 0; number = 0; len = n })
written (Err k) = written_struct (record { kind = 1; number = k; len = 0 })

abbrev pub appended_struct : AppendedNumbers → SlpAppended
appended_struct n = record { refused = n.number; end = n.end }

abbrev pub appended_as : Result ℕ ℕ → SlpAppended
appended_as (Ok n) = appended_struct (record { kind = 0; number = 0; end = n })
appended_as (Err k) = appended_struct (record { kind = 1; number = k; end = 0 })

-- 0 keeps an id's first frame, every other number its last
abbrev pub keep_of : ℕ → Rollbacks
keep_of keep = cond (yes keep) ExceptLast ExceptFirst

abbrev pub closed_struct : ClosedNumbers → SlpClosed
closed_struct n = record { refused = n.number; events = n.events; end = n.end }

abbrev pub closed_as : Result Ends ℕ → SlpClosed
closed_as (Ok p) = closed_struct (record { kind = 0; number = 0; events = p.events; end = p.end })
closed_as (Err k) = closed_struct (record { kind = 1; number = k; events = 0; end = 0 })

-- 0 where the mask is written, else the refusal's number
abbrev pub masked : Result ℕ ℕ → ℕ
masked (Ok n) = 0
masked (Err k) = k
