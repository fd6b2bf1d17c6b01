-- The run of all frames is the part of the file between codes and ends: of the definition's file, and of what the calls left.
-- Assumes nothing.
use mathlib.Core.Path.{◌≡◌, refl, sym, ap, ap₂, ◌∙◌}
use mathlib.Core.List.{List, ◌++◌, append_assoc}
use Prim.Native.Nat.{ℕ, ◌-◌}
use native.Mathlib.Omega.{arith}
use lib.ListN.{length, take, drop}
use lib.Seq.{drop_at, take-append_seam}
use Rattle.wire.specs.Wire.{be, part}
use Rattle.format.specs.Event.{signature}
use Rattle.format.specs.File.{table_bytes, event_bytes, events_bytes, file_of}
use Rattle.format.specs.Mark.{yes}
use Rattle.format.proofs.Files.{events_cons, events_append}
use Rattle.game.specs.Stores.{Stores}
use Rattle.game.specs.declared.Game.{Game}
use Rattle.codes.specs.Blocks.{code_events}
use Rattle.ending.specs.End.{end_events}
use Rattle.ending.specs.Tail.{tail_of}
use Rattle.ser.specs.Write.{entries, game_start_event, events, file, WriterOutcome}
use Rattle.std.specs.Prelude.{Ok}
use Rattle.ser.proofs.Answered.{written_file}
use Rattle.append.specs.Run.{run_bytes, RunOutcome}
use Rattle.append.proofs.Runs.{run_of_all, run_stands, ran}

module _ (g : Game) (s : Stores) where
  -- what stands before the frames: signature, length, table, start and codes
  abbrev pub before_frames : List ℕ
  before_frames =
      signature
      ++ (be 4 (length (table_bytes (entries g s) ++ events_bytes (events g s)))
      ++ (table_bytes (entries g s)
      ++ (event_bytes (game_start_event g s) ++ events_bytes (code_events (yes g.codes_given) s.codes g.actual_size))))

  -- what stands behind them: the ends and the tail
  abbrev pub after_frames : List ℕ
  after_frames = events_bytes (end_events g.frames.version g.end g.double_end) ++ tail_of (yes g.metadata_given) s.metadata

  -- all frames
  abbrev pub all_frames : List ℕ
  all_frames = run_bytes g.frames s.lent 0 g.frames.counts.frames

  events_parts : events_bytes (events g s)
      ≡ event_bytes (game_start_event g s)
      ++ (events_bytes (code_events (yes g.codes_given) s.codes g.actual_size)
      ++ (all_frames ++ events_bytes (end_events g.frames.version g.end g.double_end)))
  unfolding events
  events_parts =
      events_cons (game_start_event g s) _
      ∙ ap (λ (l : List ℕ). event_bytes (game_start_event g s) ++ l)
      (events_append _ _
      ∙ ap (λ (l : List ℕ). events_bytes (code_events (yes g.codes_given) s.codes g.actual_size) ++ l)
      (events_append _ _ ∙ ap (λ (l : List ℕ). l ++ events_bytes (end_events g.frames.version g.end g.double_end)) (ap events_bytes (sym (run_of_all g.frames s.lent)))))

  pub file_around : file g s ≡ before_frames ++ (all_frames ++ after_frames)
  unfolding file file_of
  file_around =
      let tail = tail_of (yes g.metadata_given) s.metadata in
      let n = length (table_bytes (entries g s) ++ events_bytes (events g s)) in
      ap (λ (l : List ℕ). signature ++ (be 4 n ++ (table_bytes (entries g s) ++ (l ++ tail)))) events_parts ∙ simp append_assoc

  -- so it is the part of the file from there on
  pub run_in_file : part (file g s) (length before_frames) (length all_frames) ≡ all_frames
  unfolding part
  run_in_file =
      ap (λ (l : List ℕ). take (length all_frames) (drop (length before_frames) l)) file_around
      ∙ ap (take (length all_frames)) (drop_at before_frames (all_frames ++ after_frames) (length before_frames) refl)
      ∙ take-append_seam all_frames after_frames

-- of the calls: whatever `write` answered with a file of n bytes, and `write_frames` for all frames of that game with an end place, what the one left behind the codes and before
-- the ends is what the other left from its place up to that end
pub same_bytes_lem : {g : Game} {s : Stores} {out out' to to' : List ℕ} {n place e : ℕ} → WriterOutcome g s out (Ok n) out'
    → RunOutcome g.frames s.lent 0 g.frames.counts.frames place to (Ok e) to'
    → part (take n out') (length (before_frames g s)) (e - place) ≡ part to' place (e - place)
same_bytes_lem {g} {s} {out' = out'} {place = place} {e = e} o r =
    let k : e - place ≡ length (all_frames g s) = omega (arith, (ran r).wrote.next_is) in
    ap₂ (λ (l : List ℕ) (m : ℕ). part l (length (before_frames g s)) m) (written_file o) k ∙ run_in_file g s ∙ sym (run_stands r)
