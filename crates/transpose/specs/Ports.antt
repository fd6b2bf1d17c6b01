-- The players of a frame, by their port columns.
-- Assumes nothing.
use Rattle.std.specs.Prelude.{ℕ, ◌+◌, cond, List, [], ◌∷◌, ltb, length, get_or}
use Rattle.layout.specs.declared.columns.Family.TheVariants as family
use Rattle.game.specs.Frames.{no_port, ports_of, follows}
use Rattle.players.specs.Presence.{slots_before}
use Rattle.game.specs.declared.frames.Frames.{Frames}
use Rattle.game.specs.declared.frames.PortColumn.{PortColumn}
use Rattle.rows.specs.Rows.{pre_of, post_of, no_pre, no_post}
use Rattle.transpose.specs.Records.{cells_at, mark_at}
use Rattle.transpose.specs.declared.frame.Data.{Data}
use Rattle.transpose.specs.declared.frame.PortData.{PortData}

abbrev pub no_data : Data
no_data = record { present = 0; pre = no_pre; post = no_post }

-- a slot's player in a frame: the record's values, present or absent
abbrev pub data_of : Frames → List ℕ → List ℕ → ℕ → ℕ → ℕ → Data
data_of f pres posts slot index mark = record {
  present = mark;
  pre = pre_of (cells_at f family.Pre pres slot index) f.version mark;
  post = post_of (cells_at f family.Post posts slot index) f.version mark;
}

abbrev pub data_at : Frames → (pres posts presence : List ℕ) → ℕ → ℕ → Data
data_at f pres posts presence slot index = data_of f pres posts slot index (mark_at f presence slot index)

abbrev pub no_port_data : PortData
no_port_data = record { port = 0; follower_given = 0; leader = no_data; follower = no_data }

-- a port column's players, whose leader has the slot; a follower that it has not is absent, with zeros
abbrev pub port_of : Frames → (pres posts presence : List ℕ) → ℕ → PortColumn → ℕ → PortData
port_of f pres posts presence index p slot = record {
  port = p.port;
  follower_given = cond (follows p) 1 0;
  leader = data_at f pres posts presence slot index;
  follower = cond (follows p) (data_at f pres posts presence (slot + 1) index) no_data;
}

-- the k-th port column's players, or none: the slots of the port columns before it come first
unfoldable pub port_at : Frames → (pres posts presence : List ℕ) → ℕ → ℕ → PortData
port_at f pres posts presence index k =
    cond (ltb k (length (ports_of f))) (port_of f pres posts presence index (get_or (ports_of f) k no_port) (slots_before f k)) no_port_data

abbrev pub ports_at : Frames → (pres posts presence : List ℕ) → ℕ → List PortData
ports_at f pres posts presence index =
    port_at f pres posts presence index 0
    ∷ port_at f pres posts presence index 1
    ∷ port_at f pres posts presence index 2
    ∷ port_at f pres posts presence index 3
    ∷ []
