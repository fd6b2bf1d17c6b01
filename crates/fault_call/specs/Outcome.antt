-- What `fault` answers: why `measure` gives 19, as a place and a reason; of a newer recorder's file (above 3.18.0) reason, event and offset are 0.
-- Assumes nothing.
use Rattle.std.specs.Prelude.{ℕ, ◌≡◌, List}
use Rattle.head.specs.Table.{all_present, table_of, first_place}
use Rattle.de.specs.Cut.{events_read}
use Rattle.read_judge.specs.Found.{gecko_span}
use Rattle.measure.specs.Read.{MeasureOutcome}
use Rattle.measure.specs.declared.Measured.{Measured}
use Rattle.fault_reason.specs.Fault.{fault, fault_in}
use Rattle.fault_reason.specs.declared.Fault.{Fault}
use Rattle.fault_call.specs.declared.Faulted.{Faulted}

-- the fault of the events that the reader finds in a file
unfoldable pub fault_of : List ℕ → Fault
fault_of f = fault_in (gecko_span f) (all_present f) (first_place (table_of f)) (events_read f)

abbrev pub faulted : ℕ → Fault → Faulted
faulted number x = record { refused = number; reason = x.reason; event = x.event; offset = x.offset }

-- the number that `measure` gives; where it is 19, the fault, else zeros
pub data FaultOutcome (f : List ℕ) (r : Faulted) : Type 0 where
  other : (m : Measured) → MeasureOutcome f m → (m.refused ≡ 19 → ⊥) → r ≡ faulted m.refused (fault 0 0 0) → FaultOutcome f r
  events : (m : Measured) → MeasureOutcome f m → m.refused ≡ 19 → r ≡ faulted 19 (fault_of f) → FaultOutcome f r
