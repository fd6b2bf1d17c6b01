-- Presence: which players a frame has, how many a game has, and refusal 6.
-- Assumes nothing.
use Rattle.std.specs.Prelude.{ℕ, zero, suc, ◌+◌, ◌/◌, ◌%◌, ◌^◌, Bool, true, not, cond, ◌||◌, List, [], ◌∷◌, map, eqb, length, get_or, take}
use Rattle.format.specs.Refusal.{one_of}
use Rattle.layout.specs.Columns.{sum}
use Rattle.game.specs.Frames.{Slot, ports_of, follows, port_bytes, slots_from}
use Rattle.game.specs.declared.frames.PortColumn.{PortColumn}
use Rattle.game.specs.declared.frames.Frames.{Frames}

-- bit i of the len presence bytes from index at on: bit i % 8 of byte i / 8, lowest first; no bytes mean that all are present
unfoldable pub marked : List ℕ → ℕ → ℕ → ℕ → Bool
marked bits at len i = cond (eqb len 0) true (eqb (get_or bits (at + i / 8) 0 / 2 ^ (i % 8) % 2) 1)

-- how many of i, i + 1, .., n of them, pass a test
unfoldable pub count_from : (ℕ → Bool) → ℕ → ℕ → ℕ
count_from p i zero = 0
count_from p i (suc n) = cond (p i) 1 0 + count_from p (i + 1) n

-- a slot's player is in frame i
abbrev pub present_at : List ℕ → Slot → ℕ → Bool
present_at bits s i = marked bits s.at s.len i

-- in how many of the frames it is
abbrev pub present_in : List ℕ → Slot → ℕ → ℕ
present_in bits s frames = count_from (present_at bits s) 0 frames

-- and over all slots
unfoldable pub players_present : List ℕ → List Slot → ℕ → ℕ
players_present bits [] frames = 0
players_present bits (s ∷ ss) frames = present_in bits s frames + players_present bits ss frames

-- how many slots the first k port columns have
abbrev pub slots_before : Frames → ℕ → ℕ
slots_before f k = length (slots_from 0 (take k (ports_of f)))

-- refusal 6: presence bits neither empty nor ceil(frames/8) bytes, a follower's where there is none, or another number of bytes in all
unfoldable pub uneven : ℕ → ℕ → Bool
uneven frames len = not (eqb len 0 || eqb len ((frames + 7) / 8))

-- one port column, then any
unfoldable pub port_uneven : ℕ → PortColumn → Bool
port_uneven frames p =
    one_of
    (uneven frames p.leader_presence
    ∷ cond (follows p) (uneven frames p.follower_presence) (not (eqb p.follower_presence 0))
    ∷ [])

unfoldable pub ports_uneven : Frames → Bool
ports_uneven f = one_of (map (port_uneven f.counts.frames) (ports_of f))

unfoldable pub presence_wrong : Frames → List ℕ → Bool
presence_wrong f bits = one_of (ports_uneven f ∷ not (eqb (length bits) (sum (map port_bytes (ports_of f)))) ∷ [])
