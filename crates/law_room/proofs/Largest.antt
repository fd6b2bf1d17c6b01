-- The largest answer: 1,530,167,375 bytes, which fit 32 bits.
-- Assumes nothing.
use mathlib.Core.Path.{◌≡◌, refl}
use mathlib.Core.Bool.{Bool, true, false, cond}
use Prim.Native.Nat.{ℕ, zero, suc, ◌+◌, ◌*◌, ◌/◌, ◌≤◌}
use native.Mathlib.Nat.{mul-le-mul}
use native.Mathlib.Omega.{arith}
use lib.Dec.{eqb, lit≤}
use Rattle.wire.specs.Wire.{be}
use Rattle.format.specs.File.{entries_bytes, table_bytes}
use Rattle.format.specs.Refusal.{lowest, one_of}
use Rattle.format.specs.Version.{version, above, gte_of, accepted_of}
use Rattle.format.specs.declared.event.Event.TheVariants as event
use Rattle.format.specs.declared.version.Version.{Version}
use Rattle.format.proofs.Files.{length_table}
use Rattle.layout.specs.Columns.{columns_of, chosen, has_family, sum}
use Rattle.layout.specs.Payloads.{end_size, listed, payload_size, entries_of}
use Rattle.layout.specs.declared.columns.Family.TheVariants.{Pre, Post, FrameStart, Item, FrameEnd, FodPlatform, DreamlandWhispy, StadiumTransformation}
use Rattle.layout.proofs.Entries.{few_entries}
use Rattle.frames.specs.Judge.{too_many}
use Rattle.start.specs.Length.{reached, length_of}
use Rattle.start.specs.Refusal.{block_wrong}
use Rattle.ser.proofs.Most.{at_most}
use Rattle.room.specs.Room.{with_frames, how_many, event_room, room_of, room_refusals, room_answer, reserved}
use Rattle.room.specs.Inner.{Bounded, frames_room}
use Rattle.room.specs.declared.Plan.{Plan}
use Rattle.room.proofs.Laws.{bounded, players_few, events_are}

-- the most of everything, at 3.18.0
abbrev pub greatest : Plan
greatest = record {
  version = version 3 18 0;
  block = 65535;
  slots = 8;
  counts = record { frames = 1048576; items = 4194304; fods = 1048576; whispys = 1048576; stadiums = 1048576 };
  codes = 16777216;
  metadata = 65535;
}

-- computed: it is not refused, and this is its room
pub greatest_is : reserved greatest ≡ record { refused = 0; bytes = 1530167375 }
unfolding room_refusals lowest too_many one_of block_wrong length_of reached accepted_of above gte_of room_of event_room how_many sum chosen columns_of has_family listed payload_size entries_of end_size table_bytes entries_bytes be
greatest_is = refl

-- so many of so many bytes each, or none
at_most_each : (b : Bool) {n s m t : ℕ} → n ≤ m → s ≤ t → cond b (n * s) 0 ≤ m * t
at_most_each true h k = mul-le-mul h k
at_most_each false h k = omega arith

rows_few : (p : Plan) (rows m : ℕ) → rows ≤ m → with_frames p rows ≤ m
rows_few p rows m h = go (eqb p.counts.frames 0)
  where
    go : (z : Bool) → cond z 0 rows ≤ m
    go true = omega arith
    go false = h

module _ (p : Plan) (b : Bounded p) where
  abbrev v : Version
  v = p.version

  frames_most : frames_room p ≤ 1513095168
  unfolding event_room how_many listed payload_size
  frames_most =
      let m = b.modest in
      let starts = at_most_each (has_family v FrameStart) m.frames (at_most v FrameStart) in
      let pres = at_most_each (has_family v Pre) (players_few p b) (at_most v Pre) in
      let fods = at_most_each (has_family v FodPlatform) (rows_few p p.counts.fods _ m.fods) (at_most v FodPlatform) in
      let whispys = at_most_each (has_family v DreamlandWhispy) (rows_few p p.counts.whispys _ m.whispys) (at_most v DreamlandWhispy) in
      let stadiums = at_most_each (has_family v StadiumTransformation) (rows_few p p.counts.stadiums _ m.stadiums) (at_most v StadiumTransformation) in
      let items = at_most_each (has_family v Item) (rows_few p p.counts.items _ m.items) (at_most v Item) in
      let posts = at_most_each (has_family v Post) (players_few p b) (at_most v Post) in
      let ends = at_most_each (has_family v FrameEnd) m.frames (at_most v FrameEnd) in
      omega (arith, starts, pres, fods, whispys, stadiums, items, posts, ends)

  others_most : event_room p event.GameStart + (event_room p event.MessageSplitter + event_room p event.GameEnd) ≤ 17006606
  unfolding event_room how_many listed payload_size end_size
  others_most =
      let start : 1 * (1 + p.block) ≤ 1 * 65536 = let k = b.block in omega arith in
      let codes : cond (gte_of v 3 3) (p.codes / 512 * 517) 0 ≤ 32768 * 517 = let k = b.codes in at_most_each (gte_of v 3 3) {m = 32768} {t = 517} (omega arith) (lit≤ tt) in
      let ends : 2 * (1 + cond (gte_of v 3 13) 6 (cond (gte_of v 2 0) 2 1)) ≤ 2 * 7 = let k = six (gte_of v 3 13) (gte_of v 2 0) in omega arith in
      omega (arith, start, codes, ends)
    where
      six : (x y : Bool) → 1 + cond x 6 (cond y 2 1) ≤ 7
      six true y = lit≤ tt
      six false true = lit≤ tt
      six false false = lit≤ tt

  most : room_of p ≤ 1530167375
  unfolding room_of
  most =
      let t = entries_of v p.block true 0 in
      omega (arith, events_are p refl refl refl refl, frames_most, others_most, length_table t, few_entries v p.block true 0, b.metadata)

-- no answer is larger
pub largest : (p : Plan) → lowest (room_refusals p) ≡ 0 → room_of p ≤ 1530167375
largest p e = most p (bounded p e)

pub largest_answer : (p : Plan) → (reserved p).bytes ≤ 1530167375
largest_answer p = go (lowest (room_refusals p)) (largest p)
  where
    go : (k : ℕ) → (k ≡ 0 → room_of p ≤ 1530167375) → (room_answer k (room_of p)).bytes ≤ 1530167375
    go zero h = h refl
    go (suc k) h = lit≤ tt
