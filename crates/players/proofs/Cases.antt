-- Computed examples: slots, and players counted.
-- Assumes nothing.
use mathlib.Core.Path.{◌≡◌, refl}
use mathlib.Core.List.{[], ◌∷◌}
use Prim.Native.Nat.{ℕ}
use Rattle.wire.specs.Wire.{keep, tabulate}
use Rattle.format.specs.Version.{version}
use Rattle.game.specs.Frames.{slot, ports_of, port_slots, port_bytes, slots_from, slots_of}
use Rattle.game.specs.declared.frames.PortColumn.{PortColumn}
use Rattle.game.specs.declared.frames.Frames.{Frames}
use Rattle.players.specs.Presence.{marked, count_from, players_present, slots_before}

-- a port column: its port, its mark, and the presence bytes of leader and follower
abbrev column : ℕ → ℕ → ℕ → ℕ → PortColumn
column p mark leader follower = record { port = p; follower = mark; leader_presence = leader; follower_presence = follower }

-- port 1 with a follower, then port 3
abbrev two : Frames
two = record {
  version = version 3 18 0;
  counts = record { frames = 9; items = 0; fods = 0; whispys = 0; stadiums = 0 };
  ports = column 1 1 2 2 ∷ column 3 0 2 0 ∷ column 0 0 0 0 ∷ column 0 0 0 0 ∷ [];
  port_count = 2;
}

-- where the presence bytes of each slot begin, and how many slots come before the second port column
slots_in_order : slots_of two ≡ slot 1 0 0 2 ∷ slot 1 1 2 2 ∷ slot 3 0 4 2 ∷ []
unfolding keep tabulate ports_of port_slots port_bytes slots_from slots_of
slots_in_order = refl

before_second : slots_before two 1 ≡ 2
unfolding keep tabulate ports_of port_slots port_bytes slots_from
before_second = refl

-- nine frames: a leader that is always there, a follower in frames 1 and 8, and seven spare bits that do not count
players : players_present (2 ∷ 255 ∷ []) (slot 0 0 0 0 ∷ slot 0 1 0 2 ∷ []) 9 ≡ 11
unfolding players_present count_from marked
players = refl
