-- What the functions promise each other once the lent stores were judged.
-- Assumes nothing.
use Rattle.std.specs.Prelude.{ℕ, ◌+◌, ◌<◌, ◌≡◌, Bool, true, false, cond, List, [], ◌∷◌, ltb, length, get_or, Some, None, is_some}
use Rattle.std.specs.Option.{unwrap_or}
use Rattle.format.specs.Refusal.{refuse, lowest}
use Rattle.layout.specs.declared.columns.Family.{Family}
use Rattle.layout.specs.declared.columns.Family.TheVariants as family
use Rattle.game.specs.Frames.{no_port, ports_of, follows, rows_of, slots_of, slot_blocks}
use Rattle.game.specs.Stores.{Offsets}
use Rattle.frames.specs.Inner.{Stored, Placed}
use Rattle.game.specs.declared.frames.Frames.{Frames}
use Rattle.game.specs.declared.frames.PortColumn.{PortColumn}
use Rattle.players.specs.Inner.{Modest}
use Rattle.players.specs.Presence.{slots_before, ports_uneven}
use Rattle.rows.specs.Inner.{Within}
use Rattle.rows.specs.Rows.{no_cells, no_version, pre_of, post_of}
use Rattle.transpose.specs.Judge.{outside}
use Rattle.transpose.specs.Records.{cells_at}
use Rattle.transpose.specs.Ports.{no_port_data}
use Rattle.transpose.specs.Answers.{unless_refused}
use Rattle.transpose.specs.declared.frame.Data.{Data}
use Rattle.transpose.specs.declared.frame.PortData.{PortData}
use Rattle.transpose.specs.declared.ports.Seat.{Seat}

-- a row where it is shown, and none where it is not
unfoldable pub if_shown : {A : Type 0} → Bool → A → A → A
if_shown true row none = row
if_shown false row none = none

-- a store that was judged, and a place in it
pub record Reachable (f : Frames) (family : Family) (cells : List ℕ) (block row : ℕ) : Type 0 where
  pub store : Stored f family cells
  pub block_in : block < slot_blocks f family
  pub row_in : row < rows_of f family

-- a record, or zeros where it is not shown: cells that do not exceed their columns' widths
pub record Fetched (f : Frames) (family : Family) (cells : List ℕ) (block row : ℕ) (shown : Bool) (raw : List ℕ) : Type 0 where
  pub is : raw ≡ if_shown shown (cells_at f family cells block row) no_cells
  pub within : Within family raw

-- presence bytes that were judged, and a slot
pub record Attending (f : Frames) (slot : ℕ) : Type 0 where
  pub modest : Modest f
  pub even : ports_uneven f ≡ false
  pub slot_in : slot < length (slots_of f)

-- zeros beside a mark
abbrev pub nobody : ℕ → Data
nobody mark = record { present = mark; pre = pre_of no_cells no_version mark; post = post_of no_cells no_version mark }

-- stores that were judged, a slot and a frame
pub record Playing (f : Frames) (pres posts : List ℕ) (slot index : ℕ) : Type 0 where
  pub pre : Reachable f family.Pre pres slot index
  pub post : Reachable f family.Post posts slot index

-- the same for any slot
pub record Played (f : Frames) (pres posts : List ℕ) (index : ℕ) : Type 0 where
  pub pre : Stored f family.Pre pres
  pub post : Stored f family.Post posts
  pub frame : index < f.counts.frames
  pub modest : Modest f
  pub even : ports_uneven f ≡ false

-- the number of a refusal, or of the place's
unfoldable pub place_refusal : ℕ → Frames → Family → ℕ → ℕ → ℕ
place_refusal n f family block row = unless_refused n (lowest (refuse 13 (outside f family block row) ∷ [])) n

abbrev pub no_ports : List PortData
no_ports = no_port_data ∷ no_port_data ∷ no_port_data ∷ no_port_data ∷ []

-- where no player is
abbrev pub no_seat : Seat
no_seat = record { port = 0; leader = None; follower = None }

-- where a port column's players are, whose leader has the slot
abbrev pub seat_of : PortColumn → ℕ → Seat
seat_of p slot = record {
  port = p.port;
  leader = Some slot;
  follower = cond (follows p) (Some (slot + 1)) None;
}

unfoldable pub seat_at : Frames → ℕ → Bool → Seat
seat_at f k shown = if_shown shown (cond (ltb k (length (ports_of f))) (seat_of (get_or (ports_of f) k no_port) (slots_before f k)) no_seat) no_seat

-- the k-th port column's, and the slots of the players that are there are slots
pub record Seated (f : Frames) (k : ℕ) (shown : Bool) (s : Seat) : Type 0 where
  pub is : s ≡ seat_at f k shown
  pub leader : is_some s.leader ≡ true → (shown ≡ true) × (unwrap_or s.leader 0 < length (slots_of f))
  pub follower : is_some s.follower ≡ true → (shown ≡ true) × (unwrap_or s.follower 0 < length (slots_of f))

-- stores and offsets that were judged, and a frame
pub record Showable (f : Frames) (ids starts pres posts ends : List ℕ) (o : Offsets) (index : ℕ) : Type 0 where
  pub ids_fit : length ids ≡ f.counts.frames
  pub start : Reachable f family.FrameStart starts 0 index
  pub end : Reachable f family.FrameEnd ends 0 index
  pub players : Played f pres posts index
  pub items : Placed f family.Item o.items
  pub fods : Placed f family.FodPlatform o.fods
  pub whispys : Placed f family.DreamlandWhispy o.whispys
  pub stadiums : Placed f family.StadiumTransformation o.stadiums
