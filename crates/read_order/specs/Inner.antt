-- What functions promise each other of a frame's order: the code's numbers as the machine's state.
-- Assumes nothing.
use Rattle.std.specs.Prelude.{ℕ, zero, suc, ◌+◌, ◌*◌, ◌^◌, ◌≤◌, ◌<◌, ◌≡◌, Bool, not, ◌&&◌, ◌||◌, List, [], ◌∷◌, leb, eqb, get_or}
use Rattle.format.specs.declared.version.Version.{Version}
use Rattle.layout.specs.Columns.{has_family}
use Rattle.layout.specs.declared.columns.Family.{Family}
use Rattle.layout.specs.declared.columns.Family.TheVariants.{Pre, Post, FrameStart, Item, FrameEnd, FodPlatform, DreamlandWhispy, StadiumTransformation}
use Rattle.grammar.specs.WellFormed.{Order, ascending, anyhow}
use Rattle.grammar.specs.Machine.{Said, slot_said, player, is_next, State, state, after}
use Rattle.read_order.specs.declared.due.PortOrder.{PortOrder}
use Rattle.read_order.specs.declared.due.PortOrder.TheVariants.{Ascending, Anyhow}
use Rattle.read_order.specs.declared.stage.Stage.{Stage}
use Rattle.read_order.specs.declared.stage.Word.{Word}

-- ---- the players whose Post is to come, as they stand in a file

abbrev pub order_of : PortOrder → Order
order_of Ascending = ascending
order_of Anyhow = anyhow

-- the slot that a player's event at a place says: its port is the sixth byte, its follower the seventh
unfoldable pub slot_at : List ℕ → ℕ → ℕ
slot_at file at = 2 * get_or file (at + 5) 0 + get_or file (at + 6) 0

-- the slots of n such events, one after another from a place on
unfoldable pub due_in : List ℕ → ℕ → ℕ → ℕ → List ℕ
due_in file span place zero = []
due_in file span place (suc n) = slot_at file place ∷ due_in file span (place + span) n

-- ---- a stage as a state

abbrev pub said_of : Word → Said
said_of w = record { id = w.id; port = w.port; follower = w.follower }

abbrev pub state_in : List ℕ → ℕ → Stage → State
state_in file span m = state m.rank m.id (due_in file span m.pre m.due)

-- `in_frame` and `closed` of it, by the numbers alone
unfoldable pub inside : Stage → ℕ → Word → Bool
inside m rank w = leb m.rank rank && eqb m.id w.id

unfoldable pub closed_at : Version → Stage → Bool
closed_at v m = eqb m.due 0 && (not (has_family v FrameEnd) || eqb m.rank 8)

-- a Pre may stand here
unfoldable pub stands : Version → Stage → Word → Bool
stands v m w = inside m 2 w || (not (has_family v FrameStart) && closed_at v m)

unfoldable pub next_at : List ℕ → ℕ → Stage → Word → Bool
next_at file span m w = inside m 7 w && (player (said_of w) && is_next (due_in file span m.pre m.due) (slot_said (said_of w)))

unfoldable pub end_at : Stage → Word → Bool
end_at m w = inside m 7 w && eqb m.due 0

-- those whose Post is to come stand before a place, and right before it while Pres come
pub record Held (span : ℕ) (m : Stage) (at : ℕ) : Type 0 where
  pub inside : m.pre + m.due * span ≤ at
  pub joined : m.rank ≤ 2 → (m.due ≡ 0 → ⊥) → m.pre + m.due * span ≡ at

-- a Pre at a place that follows those whose Post is to come, and the next place
pub record JoinedAt (file : List ℕ) (span : ℕ) (m : Stage) (w : Word) (at next : ℕ) : Type 0 where
  pub few : m.due + 1 < 2 ^ 64
  pub follows : (m.due ≡ 0 → ⊥) → m.pre + m.due * span ≡ at
  pub slot : slot_at file at ≡ slot_said (said_of w)
  pub next_is : next ≡ at + span

-- what an event of a family needs
abbrev pub Ready : List ℕ → ℕ → Stage → Word → ℕ → ℕ → Family → Type 0
Ready file span m w at next Pre = JoinedAt file span m w at next
Ready file span m w at next Post = (0 < m.due) × (m.pre + span < 2 ^ 64)
Ready file span m w at next FrameStart = m.due ≡ 0
Ready file span m w at next FodPlatform = Unit {0}
Ready file span m w at next DreamlandWhispy = Unit {0}
Ready file span m w at next StadiumTransformation = Unit {0}
Ready file span m w at next Item = Unit {0}
Ready file span m w at next FrameEnd = Unit {0}

-- the state after an event, before the next place
pub record After (file : List ℕ) (span : ℕ) (m : Stage) (w : Word) (next : ℕ) (family : Family) (r : Stage) : Type 0 where
  pub state_is : state_in file span r ≡ after (state_in file span m) family (said_of w)
  pub held : Held span r next

pub record RowAfter (file : List ℕ) (span : ℕ) (m : Stage) (rank : ℕ) (w : Word) (next : ℕ) (r : Stage) : Type 0 where
  pub state_is : state_in file span r ≡ state rank w.id (due_in file span m.pre m.due)
  pub held : Held span r next
