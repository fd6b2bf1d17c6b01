-- What a comparison of frames promises: eight frames that follow one have its events, each with the id of its own frame.
-- Assumes nothing.
use Rattle.std.specs.Prelude.{ℕ, zero, suc, ◌+◌, ◌-◌, ◌*◌, ◌≤◌, ◌<◌, ◌≡◌, List, get_or}
use Rattle.std.proofs.Math.Option.{Option, none, some}
use Rattle.wire.specs.Wire.{number, part}
use Rattle.format.specs.Event.{code_of}
use Rattle.format.specs.declared.event.Event.TheVariants as event
use Rattle.layout.specs.declared.columns.Family.{Family}
use Rattle.layout.specs.declared.columns.Family.TheVariants.{Pre, Post, FrameStart, Item, FrameEnd, FodPlatform, DreamlandWhispy, StadiumTransformation}
use Rattle.grammar.specs.Machine.{family_of}
use Rattle.read_order.specs.declared.stage.Stage.{Stage}
use Rattle.read_scan.specs.Counts.{begun_at}
use Rattle.read_scan.specs.Inner.{span_at}
use Rattle.read_scan.specs.declared.tally.Tally.{Tally}

-- the id that the event at a place says
abbrev pub id_at : List ℕ → ℕ → ℕ
id_at file at = number (part file (at + 1) 4)

-- ---- numbers that tell bytes apart

-- n is four bytes at a place, the lowest first
pub record Four (s : List ℕ) (at n : ℕ) : Type 0 where
  pub sum : n ≡ get_or s at 0 + get_or s (at + 1) 0 * 256 + get_or s (at + 2) 0 * 65536 + get_or s (at + 3) 0 * 16777216
  pub first : get_or s at 0 < 256
  pub second : get_or s (at + 1) 0 < 256
  pub third : get_or s (at + 2) 0 < 256

-- and two
pub record Two (s : List ℕ) (at n : ℕ) : Type 0 where
  pub sum : n ≡ get_or s at 0 + get_or s (at + 1) 0 * 256
  pub first : get_or s at 0 < 256

-- ---- events that are alike

-- n events, one after another by the table, go from e to a place
unfoldable pub Hops : List ℕ → List ℕ → ℕ → ℕ → ℕ → Type 0
Hops file spans zero e at = e ≡ at
Hops file spans (suc n) e at = (e < at) × Hops file spans n (e + span_at spans file e) at

-- d bytes after e stands an event of the same code, with the id of what stands d bytes after last
pub record Head (file : List ℕ) (last e d : ℕ) : Type 0 where
  pub code : get_or file (e + d) 0 ≡ get_or file e 0
  pub id : id_at file (e + d) ≡ id_at file (last + d)

-- of the same player
pub record Seat (file : List ℕ) (e d : ℕ) : Type 0 where
  pub port : get_or file (e + d + 5) 0 ≡ get_or file (e + 5) 0
  pub follower : get_or file (e + d + 6) 0 ≡ get_or file (e + 6) 0

-- only players' events and the frame's end are compared
abbrev pub Who : Option Family → List ℕ → ℕ → ℕ → Type 0
Who none file e d = ⊥
Who (some Pre) file e d = Seat file e d
Who (some Post) file e d = Seat file e d
Who (some FrameStart) file e d = ⊥
Who (some Item) file e d = ⊥
Who (some FrameEnd) file e d = Unit {0}
Who (some FodPlatform) file e d = ⊥
Who (some DreamlandWhispy) file e d = ⊥
Who (some StadiumTransformation) file e d = ⊥

pub record Like (file : List ℕ) (last e d : ℕ) : Type 0 where
  pub head : Head file last e d
  pub who : Who (family_of (get_or file e 0)) file e d

-- n events from e on
unfoldable pub Alike : List ℕ → List ℕ → ℕ → ℕ → ℕ → ℕ → Type 0
Alike file spans last zero e d = Unit {0}
Alike file spans last (suc n) e d = Like file last e d × Alike file spans last n (e + span_at spans file e) d

-- the same in n frames, each a step after the one before it
pub record Starts (file : List ℕ) (last step n : ℕ) : Type 0 where
  pub each : (t : ℕ) → t < n → get_or file (last + suc t * step) 0 ≡ get_or file last 0

pub record Heads (file : List ℕ) (last e step n : ℕ) : Type 0 where
  pub each : (t : ℕ) → t < n → Head file last e (suc t * step)

pub record Seats (file : List ℕ) (e step n : ℕ) : Type 0 where
  pub each : (t : ℕ) → t < n → Seat file e (suc t * step)

pub record Likes (file : List ℕ) (last e step : ℕ) : Type 0 where
  pub each : (t : ℕ) → t < 8 → Like file last e (suc t * step)

-- the events from e up to a place, however many they are
pub record Rest (file spans : List ℕ) (last e at step : ℕ) : Type 0 where
  pub each : (n : ℕ) → Hops file spans n e at → (t : ℕ) → t < 8 → Alike file spans last n e (suc t * step)

-- the frame from last up to a place comes eight times more, whole before stop
pub record Eight (file spans : List ℕ) (last at stop : ℕ) : Type 0 where
  pub start : get_or file last 0 ≡ code_of event.FrameStart
  pub later : last < at
  pub fits : at + (8 * (at - last) + 7) ≤ stop
  pub starts : Starts file last (at - last) 8
  pub rest : Rest file spans last (last + span_at spans file last) at (at - last)

-- where the events begin that may come again: rows other than players' are not compared
abbrev pub begin_of : Family → ℕ → ℕ → ℕ
begin_of Pre last at = last
begin_of Post last at = last
begin_of FrameStart last at = at
begin_of Item last at = at
begin_of FrameEnd last at = last
begin_of FodPlatform last at = at
begin_of DreamlandWhispy last at = at
begin_of StadiumTransformation last at = at

-- ---- what they count

-- the id before frame t of those that begin at a place, each a step after the one before it; old is the id before them all
abbrev pub run_id : List ℕ → ℕ → ℕ → ℕ → ℕ → ℕ
run_id file at step old zero = old
run_id file at step old (suc t) = id_at file (at + t * step)

-- the tally after t of them
unfoldable pub run_tally : List ℕ → ℕ → ℕ → ℕ → Tally → ℕ → Tally
run_tally file at step old y zero = y
run_tally file at step old y (suc t) = begun_at (run_tally file at step old y t) (run_id file at step old t) (id_at file (at + t * step))

-- the place with another id
abbrev pub on_id : Stage → ℕ → Stage
on_id m id = record { rank = m.rank; id = id; pre = m.pre; due = m.due }
