-- In a file of bytes the events that are found have payloads of bytes, and so have the frames.
-- Assumes nothing.
use Prim.Native.Nat.{ℕ, zero, suc, ◌<◌}
use mathlib.Core.Path.{◌≡◌, subst}
use mathlib.Core.Bool.{true}
use mathlib.Core.List.{List, [], ◌∷◌, ◌++◌, map}
use lib.ListN.{take, drop}
use Rattle.wire.specs.Wire.{part}
use Rattle.format.specs.File.{Ev}
use Rattle.format.specs.Version.{accepted_of}
use Rattle.format.specs.declared.version.Version.{Version}
use Rattle.head.specs.declared.Step.{Step}
use Rattle.head.specs.declared.Step.TheVariants.{Event, Ends, Cut, Refused}
use Rattle.de.specs.Walk.{run_of}
use Rattle.de.specs.Cut.{event_at, events_read}
use Rattle.grammar.specs.Productions.{Replay, codes_events, events_of_frames, events_of}
use Rattle.grammar.specs.WellFormed.{Each, ascending}
use Rattle.grammar.proofs.Each.{each_from, each_drop, each_after}
use Rattle.read_judge.specs.Found.{Found, version_of}
use Rattle.read_judge.specs.Inner.{Bytes}
use Rattle.read_judge.proofs.Accepted.{all_events}
use Rattle.law_columns.specs.Bytes.{AreBytes}
use Rattle.law_columns.proofs.Bytes.{ByteEvent, frames_in_bytes}
use Rattle.law_columns.proofs.Rows.{InBytes}

each_take : (n : ℕ) (b : List ℕ) → AreBytes b → AreBytes (take n b)
unfolding Each
each_take zero b h = tt
each_take (suc n) [] h = tt
each_take (suc n) (x ∷ b) h = (h.0, each_take n b h.1)

each_before : (xs ys : List Ev) → Each ByteEvent (xs ++ ys) → Each ByteEvent xs
unfolding Each
each_before [] ys h = tt
each_before (x ∷ xs) ys h = (h.0, each_before xs ys h.1)

module _ (f : List ℕ) (bytes : AreBytes f) where
  step_bytes : (s : Step) → ByteEvent (event_at f s)
  unfolding Each part
  step_bytes (Event code at payload len next) = each_take len (drop payload f) (each_drop (λ x. x < 256) payload f bytes)
  step_bytes Ends = tt
  step_bytes Cut = tt
  step_bytes (Refused number offset) = tt

  steps_bytes : (ss : List Step) → Each ByteEvent (map (event_at f) ss)
  unfolding Each
  steps_bytes [] = tt
  steps_bytes (s ∷ ss) = (step_bytes s, steps_bytes ss)

  events_bytes_lem : Each ByteEvent (events_read f)
  unfolding events_read
  events_bytes_lem = steps_bytes (run_of f).seen

frames_events_lem : (v : Version) (r : Replay) → Each ByteEvent (events_of v r) → Each ByteEvent (events_of_frames v r.frames)
unfolding events_of Each
frames_events_lem v r h = each_before (events_of_frames v r.frames) _ (each_after ByteEvent (codes_events r.codes) _ h.1)

-- the frames of the replay that it holds, where all of it is known
pub frames_bytes : (f : List ℕ) → Bytes f → accepted_of (version_of f) ≡ true → (x : Found f) → InBytes x.replay.frames
frames_bytes f b new x =
    let all : AreBytes f = each_from (λ n. n < 256) 0 f (λ k l. b k) in
    let events = subst (λ (es : List Ev). Each ByteEvent es) (all_events f new x) (events_bytes_lem f all) in
    frames_in_bytes (version_of f) ascending x.replay.frames x.readable.well.frames (frames_events_lem (version_of f) x.replay events)
