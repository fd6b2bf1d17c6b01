-- Computed examples: two frames of one player at 0.1.0, 93 bytes each (a Pre of 59 and a Post of 34).
-- Assumes nothing.
use mathlib.Core.Path.{◌≡◌, refl, ap, ◌∙◌}
use mathlib.Core.List.{List, [], ◌∷◌, ◌++◌}
use Prim.Native.Nat.{ℕ, ◌+◌}
use native.Mathlib.Omega.{arith}
use lib.Dec.{ltb}
use lib.ListN.{length, get_or, take, drop, replicate}
use Rattle.wire.specs.Wire.{be, splice, ranged}
use Rattle.format.specs.File.{events_bytes}
use Rattle.format.specs.Refusal.{refuse, lowest}
use Rattle.format.specs.Version.{version}
use Rattle.format.specs.declared.version.Version.{Version}
use Rattle.game.specs.Stores.{Lent, cells, offsets, lent}
use Rattle.game.specs.declared.frames.PortColumn.{PortColumn}
use Rattle.game.specs.declared.frames.Frames.{Frames}
use Rattle.players.specs.Presence.{marked}
use Rattle.frames.specs.Judge.{refusals}
use Rattle.record.specs.Record.{cells_bytes}
use Rattle.record.specs.Inner.{head_bytes}
use Rattle.events.specs.Events.{frame_events, one_event, row_events, player_events}
use Rattle.append.specs.Run.{run_events, run_bytes, outside_frames, run_refusal, left_at}
use Rattle.append.proofs.Outcomes.{decided}
use Rattle.append.proofs.Runs.{empty_run}
use Rattle.frames.proofs.Opens.{opens_columns, opens_refusals, opens_slots}

abbrev leader : ℕ → PortColumn
leader p = record { port = p; follower = 0; leader_presence = 0; follower_presence = 0 }

abbrev input : Version → ℕ → Frames
input v n = record {
  version = v;
  counts = record { frames = n; items = 0; fods = 0; whispys = 0; stadiums = 0 };
  ports = leader 0 ∷ leader 0 ∷ leader 0 ∷ leader 0 ∷ [];
  port_count = 1;
}

-- two frames, with ids 5 and 6; the cells of a store are zero but for the first, a random seed
abbrev stored : ℕ → List ℕ → Lent
stored seed posts = lent (cells (5 ∷ 6 ∷ []) [] (seed ∷ replicate 27 0) posts [] [] [] [] []) (offsets [] [] [] []) []

abbrev two : Frames
two = input (version 0 1 0) 2

abbrev good : Lent
good = stored 7 (replicate 22 0)

-- the game is accepted, and these are the lengths of its runs
accepted : lowest (refusals two good 0 0) ≡ 0
unfolding opens_refusals
accepted = refl

lengths : (length (run_bytes two good 0 1) ≡ 93) × (length (run_bytes two good 1 2) ≡ 93) × (length (run_bytes two good 0 2) ≡ 186)
unfolding opens_columns opens_slots run_events events_bytes be ranged frame_events one_event row_events player_events cells_bytes head_bytes marked
lengths = (refl, refl, refl)

none : (a : ℕ) → length (run_bytes two good a a) ≡ 0
none a = ap length (empty_run two good a)

-- the number that is given for a run of len bytes
abbrev number : ℕ → ℕ → ℕ → ℕ → ℕ → ℕ
number a b place room len = lowest (refuse 13 (outside_frames two a b) ∷ refuse 12 (ltb room (place + len)) ∷ [])

given : (a b place room : ℕ) {len : ℕ} → length (run_bytes two good a b) ≡ len → run_refusal two good a b place room ≡ number a b place room len
given a b place room e = decided two good a b place room accepted ∙ ap (number a b place room) e

-- an empty run at every place of an output of two bytes, and at the place beyond it; and in an output of no bytes
empty_runs :
    (run_refusal two good 0 0 0 2 ≡ 0)
    × (run_refusal two good 0 0 1 2 ≡ 0)
    × (run_refusal two good 0 0 2 2 ≡ 0)
    × (run_refusal two good 0 0 3 2 ≡ 12)
    × (run_refusal two good 1 1 2 2 ≡ 0)
    × (run_refusal two good 2 2 2 2 ≡ 0)
    × (run_refusal two good 2 2 3 2 ≡ 12)
    × (run_refusal two good 2 2 0 0 ≡ 0)
    × (run_refusal two good 2 2 1 0 ≡ 12)
unfolding lowest outside_frames
empty_runs =
    (given 0 0 0 2 (none 0), given 0 0 1 2 (none 0), given 0 0 2 2 (none 0), given 0 0 3 2 (none 0), given 1 1 2 2 (none 1), given 2 2 2 2 (none 2), given 2 2 3 2 (none 2), given 2 2 0 0 (none 2), given 2 2 1 0 (none 2))

-- the last frame alone, which just fits, and with one byte less; the first; both
full_runs :
    (run_refusal two good 1 2 0 93 ≡ 0)
    × (run_refusal two good 1 2 0 92 ≡ 12)
    × (run_refusal two good 1 2 7 100 ≡ 0)
    × (run_refusal two good 1 2 7 99 ≡ 12)
    × (run_refusal two good 0 1 7 100 ≡ 0)
    × (run_refusal two good 0 1 8 100 ≡ 12)
    × (run_refusal two good 0 2 4 190 ≡ 0)
    × (run_refusal two good 0 2 4 189 ≡ 12)
    × (run_refusal two good 0 2 190 189 ≡ 12)
unfolding lowest outside_frames
full_runs =
    let (first, last, both) = lengths in
    (given 1 2 0 93 last, given 1 2 0 92 last, given 1 2 7 100 last, given 1 2 7 99 last, given 0 1 7 100 first, given 0 1 8 100 first, given 0 2 4 190 both, given 0 2 4 189 both, given 0 2 190 189 both)

-- reversed, beyond the frames, and both before a short output; frame 2 alone
outside_runs :
    (run_refusal two good 1 0 0 1000 ≡ 13)
    × (run_refusal two good 0 3 0 1000 ≡ 13)
    × (run_refusal two good 2 3 0 1000 ≡ 13)
    × (run_refusal two good 3 3 0 1000 ≡ 13)
    × (run_refusal two good 3 2 0 1000 ≡ 13)
    × (run_refusal two good 1 0 9 0 ≡ 13)
    × (run_refusal two good 0 3 9 0 ≡ 13)
unfolding lowest outside_frames
outside_runs =
    (given 1 0 0 1000 refl, given 0 3 0 1000 refl, given 2 3 0 1000 refl, given 3 3 0 1000 refl, given 3 2 0 1000 refl, given 1 0 9 0 refl, given 0 3 9 0 refl)

-- what is wrong with the game comes first, whatever the range and the place: its version, a store's length, a cell's width
judged_first_lem :
    (run_refusal (input (version 3 18 1) 2) good 1 0 9 0 ≡ 1)
    × (run_refusal (input (version 0 1 0) 1048577) good 1 0 9 0 ≡ 2)
    × (run_refusal two (stored 7 (replicate 21 0)) 1 0 9 0 ≡ 3)
    × (run_refusal two (stored 7 (256 ∷ replicate 21 0)) 1 0 9 0 ≡ 4)
unfolding opens_refusals run_refusal outside_frames run_events events_bytes be ranged frame_events one_event row_events player_events cells_bytes head_bytes marked
judged_first_lem = (refl, refl, refl, refl)

-- the first bytes of each frame's two records: Pre and Post with frame id, port and follower, and a Pre's random seed
heads :
    (take 11 (run_bytes two good 0 1) ≡ 0x37 ∷ 0 ∷ 0 ∷ 0 ∷ 5 ∷ 0 ∷ 0 ∷ 0 ∷ 0 ∷ 0 ∷ 7 ∷ [])
    × (take 11 (run_bytes two good 1 2) ≡ 0x37 ∷ 0 ∷ 0 ∷ 0 ∷ 6 ∷ 0 ∷ 0 ∷ 0 ∷ 0 ∷ 0 ∷ 0 ∷ [])
    × (take 7 (drop 59 (run_bytes two good 1 2)) ≡ 0x38 ∷ 0 ∷ 0 ∷ 0 ∷ 6 ∷ 0 ∷ 0 ∷ [])
unfolding opens_columns opens_slots run_events events_bytes be ranged frame_events one_event row_events player_events cells_bytes head_bytes marked
heads = (refl, refl, refl)

-- the last frame alone between two bytes that stay
between_bytes : left_at 0 (8 ∷ (replicate 93 1 ++ (9 ∷ []))) 1 (run_bytes two good 1 2) ≡ 8 ∷ (run_bytes two good 1 2 ++ (9 ∷ []))
unfolding opens_columns opens_slots splice run_events events_bytes be ranged frame_events one_event row_events player_events cells_bytes head_bytes marked
between_bytes = refl

-- two runs of one length with different bytes
compared :
    (length (run_bytes two good 0 1) ≡ length (run_bytes two good 1 2))
    × (get_or (run_bytes two good 0 1) 4 0 ≡ 5)
    × (get_or (run_bytes two good 1 2) 4 0 ≡ 6)
unfolding opens_columns opens_slots run_events events_bytes be ranged frame_events one_event row_events player_events cells_bytes head_bytes marked
compared = (refl, refl, refl)

pub two_runs : (length (run_bytes two good 0 1) ≡ length (run_bytes two good 1 2)) × (run_bytes two good 0 1 ≡ run_bytes two good 1 2 → ⊥)
two_runs =
    let (same, first, second) = compared in
    (same, λ e. let c = ap (λ (l : List ℕ). get_or l 4 0) e in absurd (omega (arith, first, second, c)))
