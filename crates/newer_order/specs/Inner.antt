-- What functions promise each other of a frame's order: the code's numbers as the machine's state.
-- Assumes nothing.
use Rattle.std.specs.Prelude.{ℕ, zero, suc, ◌*◌, ◌/◌, ◌%◌, ◌^◌, ◌≤◌, ◌<◌, ◌≡◌, List, [], ◌∷◌, leb}
use Rattle.format.specs.Version.{version}
use Rattle.format.specs.declared.version.Version.{Version}
use Rattle.layout.specs.declared.columns.Family.{Family}
use Rattle.grammar.specs.WellFormed.{ascending, may_come}
use Rattle.grammar.specs.Machine.{State, state, after}
use Rattle.read_order.specs.Inner.{said_of}
use Rattle.read_order.specs.declared.stage.Word.{Word}
use Rattle.newer_order.specs.declared.stage.Stage.{Stage}

-- the order is that of 3.18.0
abbrev pub newest : Version
newest = version 3 18 0

-- n slots in a number, four bits each, the next one lowest
unfoldable pub slots_in : ℕ → ℕ → List ℕ
slots_in queue zero = []
slots_in queue (suc n) = queue % 16 ∷ slots_in (queue / 16) n

abbrev pub state_of : Stage → State
state_of m = state m.rank m.id (slots_in m.queue m.due)

-- at most eight slots; while Pres come, the least slot that may tells those that may come
pub record Fair (m : Stage) : Type 0 where
  pub few : m.due ≤ 8
  pub small : m.queue < 2 ^ (4 * m.due)
  pub climbs : m.rank ≤ 2 → m.due ≤ m.least
  pub come : m.rank ≤ 2 → (k : ℕ) → may_come ascending (slots_in m.queue m.due) k ≡ leb m.least k

-- the stage after an event
pub record After (m : Stage) (w : Word) (family : Family) (r : Stage) : Type 0 where
  pub state_is : state_of r ≡ after (state_of m) family (said_of w)
  pub fair : Fair r

abbrev pub row_of : ℕ → Word → ℕ → ℕ → ℕ → Stage
row_of rank w queue due least = record { rank = rank; id = w.id; queue = queue; due = due; least = least }
