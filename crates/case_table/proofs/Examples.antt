-- One of each kind: what the theorems and contracts speak of is there.
-- Assumes nothing.
use mathlib.Core.Path.{◌≡◌, refl, ap}
use mathlib.Core.Bool.{false}
use mathlib.Core.List.{List, [], ◌∷◌, map}
use Prim.Native.Nat.{ℕ}
use native.Mathlib.Omega.{arith}
use lib.Dec.{lit<}
use lib.ListN.{length, get_or, take, replicate}
use Rattle.format.specs.File.{Ev}
use Rattle.format.specs.Version.{version}
use Rattle.players.specs.Presence.{marked}
use Rattle.record.specs.Record.{cells_bytes}
use Rattle.record.specs.Inner.{head_bytes}
use Rattle.ending.specs.End.{end_of, placements_of, placement_of}
use Rattle.events.specs.Events.{frame_events, one_event, row_events, player_events}
use Rattle.de.specs.Walk.{walk_of}
use Rattle.de.specs.Cut.{events_read}
use Rattle.de.specs.declared.Walked.TheVariants.{Done}
use Rattle.rollback.specs.Mask.{answer_of, mask_after}
use Rattle.rollback.specs.declared.frame.Rollbacks.TheVariants.{ExceptFirst}
use Rattle.game.specs.declared.Game.{Game}
use Rattle.ser.specs.Write.{refusal, events, file}
use Rattle.ser.proofs.Outcomes.{Passed, not_refused}
use Rattle.case_table.specs.Games.{game_of, block_alone, one_frame}
use Rattle.case_table.specs.Table.{least, short, four_ids, cases}
use Rattle.case_table.proofs.Computed.{case_holds}
use Rattle.de.proofs.Opens.{opens_steps}
use Rattle.frames.proofs.Opens.{opens_slots}
use Rattle.ser.proofs.Opens.{opens_file}

-- ---- a game that is accepted: 3.18.0 with one frame

pub accepted : refusal short (one_frame []) 990 ≡ 0
unfolding cases
accepted = ap (λ (l : List ℕ). get_or l 0 0) (case_holds 5 (lit< tt))

pub passed : Passed short (one_frame [])
passed = not_refused short (one_frame []) 990 accepted

-- ---- two games with different files of one length: 0.0.0 and 0.1.0, whose start blocks begin at byte 30 with the version

abbrev oldest : Game
oldest = game_of (version 0 0 0) 0 0 0 0 0

abbrev block : List ℕ
block = replicate 320 0

-- their lengths, and the minor numbers in them
computed :
    (length (file oldest (block_alone block)) ≡ length (file least (block_alone block)))
    × (get_or (file oldest (block_alone block)) 31 0 ≡ 0)
    × (get_or (file least (block_alone block)) 31 0 ≡ 1)
unfolding opens_file
computed = (refl, refl, refl)

pub two_files : (length (file oldest (block_alone block)) ≡ length (file least (block_alone block))) × (file oldest (block_alone block) ≡ file least (block_alone block) → ⊥)
two_files =
    let (same, old, new) = computed in
    (same, λ e. let c = ap (λ (l : List ℕ). get_or l 31 0) e in absurd (omega (arith, old, new, c)))

-- ---- a file that is cut, with events before the cut: GameStart, FrameStart and FramePre, and twelve stray bytes

abbrev cut_file : List ℕ
cut_file = take 900 (file short (one_frame []))

pub cut_events : (walk_of cut_file ≡ Done 3 12 false 888) × (map (λ (e : Ev). e.code) (events_read cut_file) ≡ 0x36 ∷ 0x3A ∷ 0x37 ∷ [])
unfolding opens_file opens_steps opens_slots events_read end_of placements_of placement_of frame_events one_event row_events player_events cells_bytes head_bytes marked walk_of
cut_events = (refl, refl)

-- ---- a mask that is written

pub mask_written : (answer_of four_ids 4 3).number ∷ mask_after (answer_of four_ids 4 3) ExceptFirst four_ids (replicate 4 0) ≡ 0 ∷ 0 ∷ 0 ∷ 1 ∷ 0 ∷ []
unfolding cases
mask_written = case_holds 12 (lit< tt)
