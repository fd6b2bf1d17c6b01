-- What the pass into the stores asks, from the parts of an accepted replay and from stores that are long enough.
-- Assumes nothing.
use mathlib.Core.Path.{◌≡◌, refl, sym, ap, subst, ◌∙◌}
use mathlib.Core.Bool.{Bool, true, false}
use mathlib.Core.List.{List, [], ◌∷◌, ◌++◌, map}
use Prim.Native.Nat.{ℕ, ◌+◌, ◌*◌, ◌/◌, ◌≤◌}
use native.Mathlib.Omega.{arith}
use borrow.Author.Tests.{ltb-false}
use lib.ListN.{length, length-map}
use Rattle.wire.specs.Wire.{part, ranged, splice}
use Rattle.format.specs.File.{Ev}
use Rattle.format.proofs.Tests.{one_passed}
use Rattle.layout.specs.Columns.{widths_of}
use Rattle.layout.specs.declared.columns.Family.{Family}
use Rattle.layout.specs.declared.columns.Family.TheVariants.{Pre, Post, FrameStart, Item, FrameEnd, FodPlatform, DreamlandWhispy, StadiumTransformation}
use Rattle.layout.proofs.Laws.{narrow_of}
use Rattle.game.specs.Frames.{Slot, slots_of}
use Rattle.game.specs.Stores.{Lent, lent, cells, offsets}
use Rattle.game.specs.declared.frames.Frames.{Frames}
use Rattle.players.specs.Inner.{Modest}
use Rattle.players.specs.Presence.{ports_uneven}
use Rattle.format.specs.declared.version.Version.{Version}
use Rattle.grammar.specs.Productions.{Frame, Replay, events_of_frames, codes_bytes}
use Rattle.columns.specs.Columns.{frames_read, lent_read, slot_number}
use Rattle.measure.specs.Inner.{store_by, lengths_by, frames_in, lengths_in, short_by}
use Rattle.measure.specs.declared.lengths.Lengths.{Lengths}
use Rattle.read_event.specs.Inner.{plan_of, run, none, cleared, Roomy, Rooms, Stands, Spelled, SomeSpelled}
use Rattle.law_filled.proofs.Standing.{spelled, ids_left, starts_left, ends_left, items_left, fods_left, whispys_left, stadiums_left, item_offsets_left, fod_offsets_left, whispy_offsets_left, stadium_offsets_left}
use Rattle.law_filled.proofs.Players.{pres_left, posts_left}
use Rattle.law_filled.proofs.Bits.{presence_left}
use Rattle.law_filled.proofs.Uneven.{uneven_not}
use Rattle.read_judge.specs.Found.{version_of}
use Rattle.read_judge.specs.Inner.{Accepts}
use Rattle.newer_judge.proofs.Steps.{held_tells}
use Rattle.read_judge.specs.declared.parts.Parts.{Parts}
use Rattle.measure.specs.Game.{Kept, kept, kept_read, lengths_of}
use Rattle.measure.specs.Read.{laid_over, kept_over}
use Rattle.measure.proofs.Answers.{frames_in_lem, small}

module _ (f : List ℕ) (first stop : ℕ) (p : Parts) (a : Accepts f first stop p) where
  abbrev r : Replay
  r = a.holds.found.replay

  stands_read : Stands (frames_read (version_of f) r.frames) f p.frames_at p.ends_at r.frames
  unfolding frames_read
  stands_read =
      let s = a.holds.frames_stand in
      record { rest = s.rest; here = s.bytes_are; long = s.end_is; good = s.good; changing = s.changing; read = refl }

  -- the frames stand where the parts say
  pub stands : Stands (frames_in p) f p.frames_at p.ends_at r.frames
  stands = subst (λ (g : Frames). Stands g f p.frames_at p.ends_at r.frames) (sym (frames_in_lem f first stop p (held_tells f first stop p a))) stands_read

  pub some_spelled : SomeSpelled (plan_of (frames_in p)) f p.frames_at p.ends_at
  some_spelled = record { events = events_of_frames (frames_in p).version r.frames; spelled = spelled (frames_in p) f p.frames_at p.ends_at r.frames stands }

  pub even : ports_uneven (frames_in p) ≡ false
  even = ap ports_uneven (frames_in_lem f first stop p (held_tells f first stop p a)) ∙ uneven_not (version_of f) r.frames

  -- the bytes of the codes
  pub codes_over : (before after : List ℕ) → after ≡ splice before 0 (ranged (λ b. part f (p.codes_at + 517 * b + 1) 512) 0 p.blocks) → after ≡ laid_over before (codes_bytes r.codes)
  codes_over before after e = e ∙ ap (splice before 0) a.holds.codes_are

-- stores that are not too short have room
module _ (g : Frames) (given : Kept) (codes : ℕ) (m : Modest g) (e : short_by (lengths_of given) (lengths_by g codes) ≡ false) where
  one_store : (family : Family) (xs : List ℕ) (blocks rows : ℕ) → blocks * (length (widths_of family g.version) * rows) ≤ length xs → Roomy (widths_of family g.version) xs blocks rows
  one_store family xs blocks rows h = record { narrow = narrow_of family g.version; room = h }

  many : length (map slot_number (slots_of g)) ≡ length (slots_of g)
  many = length-map (slots_of g) slot_number

  slots_store : (family : Family) (xs : List ℕ) → length (slots_of g) * (length (widths_of family g.version) * g.counts.frames) ≤ length xs
      → Roomy (widths_of family g.version) xs (length (map slot_number (slots_of g))) g.counts.frames
  slots_store family xs h = one_store family xs _ _ (subst (λ (n : ℕ). n * (length (widths_of family g.version) * g.counts.frames) ≤ length xs) (sym many) h)

  pub rooms : Rooms (plan_of g) given.lent
  unfolding short_by store_by
  rooms =
      let c = given.lent.cells in
      let (ids, e1) = one_passed _ _ e in
      let (starts, e2) = one_passed _ _ e1 in
      let (pres, e3) = one_passed _ _ e2 in
      let (posts, e4) = one_passed _ _ e3 in
      let (ends, e5) = one_passed _ _ e4 in
      let (items, e6) = one_passed _ _ e5 in
      let (fods, e7) = one_passed _ _ e6 in
      let (whispys, e8) = one_passed _ _ e7 in
      let (stadiums, e9) = one_passed _ _ e8 in
      let (item_offsets, e10) = one_passed _ _ e9 in
      let (fod_offsets, e11) = one_passed _ _ e10 in
      let (whispy_offsets, e12) = one_passed _ _ e11 in
      let (stadium_offsets, e13) = one_passed _ _ e12 in
      let (presence, e14) = one_passed _ _ e13 in
      record {
        starts = one_store FrameStart c.starts 1 g.counts.frames (ltb-false _ _ starts);
        pres = slots_store Pre c.pres (ltb-false _ _ pres);
        posts = slots_store Post c.posts (ltb-false _ _ posts);
        ends = one_store FrameEnd c.ends 1 g.counts.frames (ltb-false _ _ ends);
        items = one_store Item c.items 1 g.counts.items (ltb-false _ _ items);
        fods = one_store FodPlatform c.fods 1 g.counts.fods (ltb-false _ _ fods);
        whispys = one_store DreamlandWhispy c.whispys 1 g.counts.whispys (ltb-false _ _ whispys);
        stadiums = one_store StadiumTransformation c.stadiums 1 g.counts.stadiums (ltb-false _ _ stadiums);
        bits = subst (λ (n : ℕ). n * ((g.counts.frames + 7) / 8) ≤ length given.lent.presence) (sym many) (ltb-false _ _ presence);
        modest = m.frames;
      }

  -- and for the codes
  pub codes_room : codes ≤ length given.codes
  unfolding short_by
  codes_room =
      let (ids, e1) = one_passed _ _ e in
      let (starts, e2) = one_passed _ _ e1 in
      let (pres, e3) = one_passed _ _ e2 in
      let (posts, e4) = one_passed _ _ e3 in
      let (ends, e5) = one_passed _ _ e4 in
      let (items, e6) = one_passed _ _ e5 in
      let (fods, e7) = one_passed _ _ e6 in
      let (whispys, e8) = one_passed _ _ e7 in
      let (stadiums, e9) = one_passed _ _ e8 in
      let (item_offsets, e10) = one_passed _ _ e9 in
      let (fod_offsets, e11) = one_passed _ _ e10 in
      let (whispy_offsets, e12) = one_passed _ _ e11 in
      let (stadium_offsets, e13) = one_passed _ _ e12 in
      let (presence, e14) = one_passed _ _ e13 in
      let (last, e15) = one_passed _ _ e14 in
      ltb-false _ _ last

-- what the pass over the events of frames and the copy of codes leave is what is read, over what was there
pub left_by : (g : Frames) (file : List ℕ) (first stop : ℕ) (fs : List Frame) → Stands g file first stop fs → Modest g → (before after : Lent) (codes codes' bytes : List ℕ)
    → Rooms (plan_of g) before → after ≡ run (plan_of g) (events_of_frames g.version fs) none (cleared g before) → codes' ≡ laid_over codes bytes
    → kept after codes' ≡ kept_over (kept before codes) (kept (lent_read g.version fs) bytes)
unfolding kept_over lent_read
left_by g file first stop fs s m before after codes codes' bytes room ran copied =
    λ i. kept
    (lent
    (cells
    ((ap (λ (l : Lent). l.cells.ids) ran ∙ ids_left g file first stop fs before s room m) i)
    ((ap (λ (l : Lent). l.cells.starts) ran ∙ starts_left g file first stop fs before s room m) i)
    ((ap (λ (l : Lent). l.cells.pres) ran ∙ pres_left g file first stop fs before s room m) i)
    ((ap (λ (l : Lent). l.cells.posts) ran ∙ posts_left g file first stop fs before s room m) i)
    ((ap (λ (l : Lent). l.cells.ends) ran ∙ ends_left g file first stop fs before s room m) i)
    ((ap (λ (l : Lent). l.cells.items) ran ∙ items_left g file first stop fs before s room m) i)
    ((ap (λ (l : Lent). l.cells.fods) ran ∙ fods_left g file first stop fs before s room m) i)
    ((ap (λ (l : Lent). l.cells.whispys) ran ∙ whispys_left g file first stop fs before s room m) i)
    ((ap (λ (l : Lent). l.cells.stadiums) ran ∙ stadiums_left g file first stop fs before s room m) i))
    (offsets
    ((ap (λ (l : Lent). l.offsets.items) ran ∙ item_offsets_left g file first stop fs before s room m) i)
    ((ap (λ (l : Lent). l.offsets.fods) ran ∙ fod_offsets_left g file first stop fs before s room m) i)
    ((ap (λ (l : Lent). l.offsets.whispys) ran ∙ whispy_offsets_left g file first stop fs before s room m) i)
    ((ap (λ (l : Lent). l.offsets.stadiums) ran ∙ stadium_offsets_left g file first stop fs before s room m) i))
    ((ap (λ (l : Lent). l.presence) ran ∙ presence_left g file first stop fs before s room m) i))
    (copied i)

module _ (f : List ℕ) (first stop : ℕ) (p : Parts) (a : Accepts f first stop p) (before after : Lent) (codes codes' : List ℕ) (room : Rooms (plan_of (frames_in p)) before)
    (ran : after ≡ run (plan_of (frames_in p)) (events_of_frames (frames_in p).version a.holds.found.replay.frames) none (cleared (frames_in p) before))
    (copied : codes' ≡ laid_over codes (codes_bytes a.holds.found.replay.codes)) where
  abbrev fs : List Frame
  fs = a.holds.found.replay.frames

  version_is : (frames_in p).version ≡ version_of f
  unfolding frames_read
  version_is = ap (λ (x : Frames). x.version) (frames_in_lem f first stop p (held_tells f first stop p a))

  pub all_left : kept after codes' ≡ kept_over (kept before codes) (kept_read (version_of f) a.holds.found.replay)
  all_left =
      left_by (frames_in p) f p.frames_at p.ends_at fs (stands f first stop p a) (small f first stop p (held_tells f first stop p a)).modest before after codes codes'
      (codes_bytes a.holds.found.replay.codes) room ran copied
      ∙ ap (λ (w : Version). kept_over (kept before codes) (kept (lent_read w fs) (codes_bytes a.holds.found.replay.codes))) version_is

-- ---- as the code asks and learns it: the frame input is worked out first

module _ (f : List ℕ) (first stop : ℕ) (p : Parts) (a : Accepts f first stop p) (given : Kept) (long : short_by (lengths_of given) (lengths_in p) ≡ false) where
  room_for : Rooms (plan_of (frames_in p)) given.lent
  unfolding lengths_in
  room_for = rooms (frames_in p) given (512 * p.blocks) (small f first stop p (held_tells f first stop p a)).modest long

  pub asked : (g : Frames) → g ≡ frames_in p
      → Modest g × (ports_uneven g ≡ false) × SomeSpelled (plan_of g) f p.frames_at p.ends_at × Rooms (plan_of g) given.lent
  asked g e =
      subst (λ (x : Frames). Modest x × (ports_uneven x ≡ false) × SomeSpelled (plan_of x) f p.frames_at p.ends_at × Rooms (plan_of x) given.lent) (sym e)
      ((small f first stop p (held_tells f first stop p a)).modest, even f first stop p a, some_spelled f first stop p a, room_for)

  pub codes_asked : (p.codes_at + 517 * p.blocks ≤ length f) × (512 * p.blocks ≤ length given.codes)
  unfolding lengths_in
  codes_asked = (a.holds.codes_in, codes_room (frames_in p) given (512 * p.blocks) (small f first stop p (held_tells f first stop p a)).modest long)

pub learnt : (f : List ℕ) (first stop : ℕ) (p : Parts) (a : Accepts f first stop p) (given : Kept) → short_by (lengths_of given) (lengths_in p) ≡ false → (after : Lent) (codes' : List ℕ) (g : Frames) → g ≡ frames_in p
    → ((es : List Ev) → Spelled (plan_of g) f p.frames_at p.ends_at es → after ≡ run (plan_of g) es none (cleared g given.lent))
    → codes' ≡ splice given.codes 0 (ranged (λ b. part f (p.codes_at + 517 * b + 1) 512) 0 p.blocks)
    → kept after codes' ≡ kept_over given (kept_read (version_of f) a.holds.found.replay)
learnt f first stop p a given long after codes' g e ran copied =
    let ran' = subst (λ (x : Frames). (es : List Ev) → Spelled (plan_of x) f p.frames_at p.ends_at es → after ≡ run (plan_of x) es none (cleared x given.lent)) e ran in
    all_left f first stop p a given.lent after given.codes codes' (room_for f first stop p a given long)
    (ran' (events_of_frames (frames_in p).version a.holds.found.replay.frames) (spelled (frames_in p) f p.frames_at p.ends_at a.holds.found.replay.frames (stands f first stop p a)))
    (codes_over f first stop p a given.codes codes' copied)

pub long_as : (b : Bool) (have need wanted : Lengths) → b ≡ short_by have need → need ≡ wanted → b ≡ false → short_by have wanted ≡ false
long_as b have need wanted e n f = ap (short_by have) (sym n) ∙ sym e ∙ f
