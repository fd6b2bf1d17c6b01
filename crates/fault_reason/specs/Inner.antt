-- What functions promise each other of one event.
-- Assumes nothing.
use Rattle.std.specs.Prelude.{ℕ, cond, List, eqb}
use Rattle.format.specs.File.{Ev}
use Rattle.read_order.specs.Inner.{inside}
use Rattle.read_order.specs.declared.stage.Stage.{Stage}
use Rattle.read_order.specs.declared.stage.Word.{Word}
use Rattle.fault_reason.specs.Reason.{place_reason}

-- an event of a code and a payload
abbrev pub ev : ℕ → List ℕ → Ev
ev code payload = record { code = code; payload = payload }

-- reasons by the numbers of a stage alone
abbrev pub open_at : Stage → ℕ
open_at m = cond (eqb m.due 0) 1 5

abbrev pub last_at : Stage → Word → ℕ
last_at m w = cond (inside m 7 w) 5 (place_reason m.rank 7)
