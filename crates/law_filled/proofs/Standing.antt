-- Frames that stand in a file are events of the sizes of their codes, and the pass leaves their ids, rows and offsets in the stores.
-- Assumes nothing.
use mathlib.Core.Path.{◌≡◌, refl, sym, ap, ◌∙◌}
use mathlib.Core.Bool.{Bool, true, false}
use mathlib.Core.Logic.{inl}
use mathlib.Core.List.{List, [], ◌∷◌, ◌++◌, map}
use Prim.Native.Nat.{ℕ, ◌+◌, ◌≤◌, ◌<◌}
use native.Mathlib.Omega.{arith}
use lib.ListN.{length, length-append}
use Rattle.wire.specs.Wire.{be, keep, splice}
use Rattle.wire.proofs.Laws.{length_be, splice_nil}
use Rattle.format.specs.Event.{code_of}
use Rattle.format.specs.declared.version.Version.{Version}
use Rattle.layout.specs.Columns.{has_family, widths_of, size_of}
use Rattle.layout.specs.Payloads.{event_of}
use Rattle.layout.specs.declared.columns.Family.{Family}
use Rattle.layout.specs.declared.columns.Family.TheVariants.{Pre, Post, FrameStart, Item, FrameEnd, FodPlatform, DreamlandWhispy, StadiumTransformation}
use Rattle.game.specs.Stores.{Lent}
use Rattle.game.specs.declared.frames.Frames.{Frames}
use Rattle.players.specs.Inner.{Modest}
use Rattle.grammar.specs.Productions.{Player, Frame, row_event, pre_event, post_event, events_of_frame, events_of_frames}
use Rattle.grammar.specs.WellFormed.{Each, ascending, GoodPlayer, GoodRow, GoodFrame}
use Rattle.grammar.proofs.Each.{each_both}
use Rattle.columns.specs.Columns.{frames_read, ids_read, rows_here, rows_there, cell_columns, rows_cells, offsets_read, totals}
use Rattle.columns.specs.Inner.{into}
use Rattle.read_event.specs.Inner.{Plan, plan_of, span_by, span_in, Sized, Spelled, Stands, Rooms, Roomy, run, none, cleared}
use Rattle.law_filled.proofs.RowRuns.{Rowed, rowed, row_run, picked, in_order, all_of_frames, filled, picked_start, picked_end, picked_item, picked_fod, picked_whispy, picked_stadium, starts_run, ends_run, items_run, fods_run, whispys_run, stadiums_run}
use Rattle.law_filled.proofs.Opens.{open_at, Fresh, ids_run_lem, ids_frames, off_run, off_frames, off_none, item_offsets_run, fod_offsets_run, whispy_offsets_run, stadium_offsets_run}

-- ---- sizes

sized_of : (p : Plan) (g : Family) (id n : ℕ) (b : List ℕ) → span_in p (code_of (event_of g)) ≡ 5 + n → length b ≡ n → Sized p (row_event g id b)
sized_of p g id n b e h = record { long = omega (arith, e); size = omega (arith, e, length-append (be 4 id) b, length_be 4 id) }

module _ (f : Frames) where
  abbrev v : Version
  v = f.version

  rows_sized : (g : Family) → span_in (plan_of f) (code_of (event_of g)) ≡ 5 + size_of g v → (id : ℕ) (xs : List (List ℕ)) → Each (GoodRow v g) xs → Each (Sized (plan_of f)) (map (row_event g id) xs)
  unfolding Each
  rows_sized g e id [] h = tt
  rows_sized g e id (x ∷ xs) h = (sized_of (plan_of f) g id (size_of g v) x e h.0.size, rows_sized g e id xs h.1)

  pres_sized : (id : ℕ) (xs : List Player) → Each (GoodPlayer v) xs → Each (Sized (plan_of f)) (map (pre_event id) xs)
  unfolding Each span_by
  pres_sized id [] h = tt
  pres_sized id (x ∷ xs) h = (sized_of (plan_of f) Pre id (2 + size_of Pre v) (x.port ∷ x.follower ∷ x.pre) (omega arith) (omega (arith, h.0.pre)), pres_sized id xs h.1)

  posts_sized : (id : ℕ) (xs : List Player) → Each (GoodPlayer v) xs → Each (Sized (plan_of f)) (map (post_event id) xs)
  unfolding Each span_by
  posts_sized id [] h = tt
  posts_sized id (x ∷ xs) h = (sized_of (plan_of f) Post id (2 + size_of Post v) (x.port ∷ x.follower ∷ x.post) (omega arith) (omega (arith, h.0.post)), posts_sized id xs h.1)

  one_sized : (g : Family) → span_in (plan_of f) (code_of (event_of g)) ≡ 5 + size_of g v → (id : ℕ) (b : Bool) (x : List ℕ) → length x ≡ size_of g v → Each (Sized (plan_of f)) (keep b (row_event g id x ∷ []))
  unfolding Each keep
  one_sized g e id true x h = (sized_of (plan_of f) g id (size_of g v) x e h, tt)
  one_sized g e id false x h = tt

  frame_sized : (x : Frame) → GoodFrame v ascending x → Each (Sized (plan_of f)) (events_of_frame v x)
  unfolding events_of_frame span_by
  frame_sized x g =
      let S = Sized (plan_of f) in
      each_both S _ _ (one_sized FrameStart refl x.id (has_family v FrameStart) x.start g.start)
      (each_both S _ _ (pres_sized x.id x.players g.players)
      (each_both S _ _ (rows_sized FodPlatform refl x.id x.fods g.fods)
      (each_both S _ _ (rows_sized DreamlandWhispy refl x.id x.whispys g.whispys)
      (each_both S _ _ (rows_sized StadiumTransformation refl x.id x.stadiums g.stadiums)
      (each_both S _ _ (rows_sized Item refl x.id x.items g.items)
      (each_both S _ _ (posts_sized x.id x.players g.players) (one_sized FrameEnd refl x.id (has_family v FrameEnd) x.end g.end)))))))

  frames_sized : (fs : List Frame) → Each (GoodFrame v ascending) fs → Each (Sized (plan_of f)) (events_of_frames v fs)
  unfolding Each events_of_frames
  frames_sized [] g = tt
  frames_sized (x ∷ fs) g = each_both (Sized (plan_of f)) (events_of_frame v x) (events_of_frames v fs) (frame_sized x g.0) (frames_sized fs g.1)

  pub spelled : (file : List ℕ) (first stop : ℕ) (fs : List Frame) → Stands f file first stop fs → Spelled (plan_of f) file first stop (events_of_frames v fs)
  spelled file first stop fs s = record { rest = s.rest; here = s.here; long = s.long; sized = frames_sized fs s.good }

-- ---- how many rows there are

rows_none : (v : Version) (family : Family) (fs : List Frame) → ((x : Frame) → rows_here v family x ≡ []) → rows_there v family fs ≡ []
unfolding rows_there
rows_none v family [] h = refl
rows_none v family (x ∷ fs) h = ap (λ l. l ++ rows_there v family fs) (h x) ∙ rows_none v family fs h

rows_each : (v : Version) (family : Family) (fs : List Frame) → ((x : Frame) → length (rows_here v family x) ≡ 1) → length (rows_there v family fs) ≡ length fs
unfolding rows_there
rows_each v family [] h = refl
rows_each v family (x ∷ fs) h = omega (arith, length-append (rows_here v family x) (rows_there v family fs), h x, rows_each v family fs h)

columns_none : (ws : List ℕ) → cell_columns ws [] ≡ []
unfolding cell_columns
columns_none [] = refl
columns_none (w ∷ ws) = columns_none ws

module _ (c : ℕ) (ws : List ℕ) (rows : ℕ) where
  -- no rows at all
  filled_none : (v : Version) (family : Family) → ((x : Frame) → picked c ws rows v x in_order ≡ rows_here v family x) → (fs : List Frame) (xs : List ℕ) → rows_there v family fs ≡ []
      → (row_run c ws rows (events_of_frames v fs) (rowed 0 xs)).cells ≡ splice xs 0 (cell_columns ws (rows_there v family fs))
  unfolding into
  filled_none v family pick fs xs e =
      let n : 0 + length (rows_there v family fs) ≤ rows = omega (arith, ap length e) in
      ap (λ (r : Rowed). r.cells) (all_of_frames c ws rows v family pick fs (rowed 0 xs) n)
      ∙ ap (λ (l : List (List ℕ)). into ws rows l xs 0) e
      ∙ sym (ap (λ (l : List (List ℕ)). splice xs 0 (cell_columns ws l)) e ∙ ap (splice xs 0) (columns_none ws) ∙ splice_nil xs 0)

  -- a row a frame, where the version has the family
  filled_one : (v : Version) (family : Family) → ((x : Frame) → picked c ws rows v x in_order ≡ rows_here v family x) → (row : Frame → List ℕ)
      → ((x : Frame) → rows_here v family x ≡ keep (has_family v family) (row x ∷ [])) → (fs : List Frame) (xs : List ℕ) → length fs ≡ rows → Roomy ws xs 1 rows
      → (row_run c ws rows (events_of_frames v fs) (rowed 0 xs)).cells ≡ splice xs 0 (cell_columns ws (rows_there v family fs))
  unfolding keep
  filled_one v family pick row are fs xs n q = go (has_family v family) refl
    where
      go : (b : Bool) → has_family v family ≡ b → (row_run c ws rows (events_of_frames v fs) (rowed 0 xs)).cells ≡ splice xs 0 (cell_columns ws (rows_there v family fs))
      go true e = filled c ws rows v family pick fs xs (rows_each v family fs (λ x. ap length (are x ∙ ap (λ (b : Bool). keep b (row x ∷ [])) e)) ∙ n) q
      go false e = filled_none v family pick fs xs (rows_none v family fs (λ x. are x ∙ ap (λ (b : Bool). keep b (row x ∷ [])) e))

-- ---- what the pass leaves

module _ (f : Frames) (file : List ℕ) (first stop : ℕ) (fs : List Frame) (l : Lent) (s : Stands f file first stop fs) (r : Rooms (plan_of f) l) (m : Modest f) where
  abbrev after : Lent
  after = run (plan_of f) (events_of_frames f.version fs) none (cleared f l)

  frames_are : length fs ≡ f.counts.frames
  unfolding frames_read
  frames_are = sym (ap (λ (x : Frames). x.counts.frames) s.read)

  items_are : length (rows_there f.version Item fs) ≡ f.counts.items
  unfolding frames_read
  items_are = sym (ap (λ (x : Frames). x.counts.items) s.read)

  fods_are : length (rows_there f.version FodPlatform fs) ≡ f.counts.fods
  unfolding frames_read
  fods_are = sym (ap (λ (x : Frames). x.counts.fods) s.read)

  whispys_are : length (rows_there f.version DreamlandWhispy fs) ≡ f.counts.whispys
  unfolding frames_read
  whispys_are = sym (ap (λ (x : Frames). x.counts.whispys) s.read)

  stadiums_are : length (rows_there f.version StadiumTransformation fs) ≡ f.counts.stadiums
  unfolding frames_read
  stadiums_are = sym (ap (λ (x : Frames). x.counts.stadiums) s.read)

  fresh_first : (xs : List Frame) → Fresh (plan_of f) f.version (open_at 0 0) xs
  fresh_first [] = tt
  fresh_first (x ∷ xs) = λ e. inl refl

  pub ids_left : after.cells.ids ≡ splice l.cells.ids 0 (ids_read fs)
  unfolding cleared
  ids_left =
      ids_run_lem (plan_of f) (events_of_frames f.version fs) none (cleared f l)
      ∙ ids_frames (plan_of f) f.version refl fs (open_at 0 0) l.cells.ids s.good s.changing (fresh_first fs) (omega (arith, frames_are))

  pub starts_left : after.cells.starts ≡ splice l.cells.starts 0 (rows_cells f.version FrameStart fs)
  unfolding cleared
  starts_left =
      starts_run (plan_of f) (events_of_frames f.version fs) none (cleared f l)
      ∙ filled_one 0x3A (widths_of FrameStart f.version) f.counts.frames f.version FrameStart
      (λ x. picked_start f.version x (widths_of FrameStart f.version) f.counts.frames) (λ x. x.start) (λ x. refl) fs l.cells.starts frames_are r.starts

  pub ends_left : after.cells.ends ≡ splice l.cells.ends 0 (rows_cells f.version FrameEnd fs)
  unfolding cleared
  ends_left =
      ends_run (plan_of f) (events_of_frames f.version fs) none (cleared f l)
      ∙ filled_one 0x3C (widths_of FrameEnd f.version) f.counts.frames f.version FrameEnd
      (λ x. picked_end f.version x (widths_of FrameEnd f.version) f.counts.frames) (λ x. x.end) (λ x. refl) fs l.cells.ends frames_are r.ends

  pub items_left : after.cells.items ≡ splice l.cells.items 0 (rows_cells f.version Item fs)
  unfolding cleared
  items_left =
      items_run (plan_of f) (events_of_frames f.version fs) none (cleared f l)
      ∙ filled 0x3B (widths_of Item f.version) f.counts.items f.version Item (λ x. picked_item f.version x (widths_of Item f.version) f.counts.items) fs
      l.cells.items items_are r.items

  pub fods_left : after.cells.fods ≡ splice l.cells.fods 0 (rows_cells f.version FodPlatform fs)
  unfolding cleared
  fods_left =
      fods_run (plan_of f) (events_of_frames f.version fs) none (cleared f l)
      ∙ filled 0x3F (widths_of FodPlatform f.version) f.counts.fods f.version FodPlatform (λ x. picked_fod f.version x (widths_of FodPlatform f.version) f.counts.fods) fs
      l.cells.fods fods_are r.fods

  pub whispys_left : after.cells.whispys ≡ splice l.cells.whispys 0 (rows_cells f.version DreamlandWhispy fs)
  unfolding cleared
  whispys_left =
      whispys_run (plan_of f) (events_of_frames f.version fs) none (cleared f l)
      ∙ filled 0x40 (widths_of DreamlandWhispy f.version) f.counts.whispys f.version DreamlandWhispy
      (λ x. picked_whispy f.version x (widths_of DreamlandWhispy f.version) f.counts.whispys) fs l.cells.whispys whispys_are r.whispys

  pub stadiums_left : after.cells.stadiums ≡ splice l.cells.stadiums 0 (rows_cells f.version StadiumTransformation fs)
  unfolding cleared
  stadiums_left =
      stadiums_run (plan_of f) (events_of_frames f.version fs) none (cleared f l)
      ∙ filled 0x41 (widths_of StadiumTransformation f.version) f.counts.stadiums f.version StadiumTransformation
      (λ x. picked_stadium f.version x (widths_of StadiumTransformation f.version) f.counts.stadiums) fs l.cells.stadiums stadiums_are r.stadiums

  -- offsets of a family that the version has or lacks
  offsets_of_lem : (c : ℕ) (ws : List ℕ) (rows : ℕ) (family : Family) (has : Bool) → has ≡ has_family f.version family
      → ((x : Frame) → picked c ws rows f.version x in_order ≡ rows_here f.version family x) → rows < 4294967296 → length (rows_there f.version family fs) ≡ rows → (ys xs : List ℕ)
      → off_run (plan_of f) c ws rows has (events_of_frames f.version fs) (open_at 0 0) (rowed 0 ys) xs ≡ splice xs 0 (offsets_read f.version family fs)
  unfolding offsets_read keep
  offsets_of_lem c ws rows family has e pick small n ys xs = go (has_family f.version family) refl
    where
      go : (b : Bool) → has_family f.version family ≡ b
          → off_run (plan_of f) c ws rows has (events_of_frames f.version fs) (open_at 0 0) (rowed 0 ys) xs
          ≡ splice xs 0 (keep b (totals 0 (map (λ x. length (rows_here f.version family x)) fs)))
      go true h =
          off_frames (plan_of f) c ws rows has f.version family pick refl (e ∙ h) small fs (open_at 0 0) (rowed 0 ys) xs s.good s.changing (fresh_first fs)
          (omega (arith, frames_are)) (omega (arith, n))
      go false h = off_none (plan_of f) c ws rows has (e ∙ h) (events_of_frames f.version fs) (open_at 0 0) (rowed 0 ys) xs ∙ sym (splice_nil xs 0)

  pub item_offsets_left : after.offsets.items ≡ splice l.offsets.items 0 (offsets_read f.version Item fs)
  unfolding cleared
  item_offsets_left =
      item_offsets_run (plan_of f) (events_of_frames f.version fs) none (cleared f l)
      ∙ offsets_of_lem 0x3B (widths_of Item f.version) f.counts.items Item (has_family f.version Item) refl (λ x. picked_item f.version x (widths_of Item f.version) f.counts.items)
      (omega (arith, m.items)) items_are l.cells.items l.offsets.items

  pub fod_offsets_left : after.offsets.fods ≡ splice l.offsets.fods 0 (offsets_read f.version FodPlatform fs)
  unfolding cleared
  fod_offsets_left =
      fod_offsets_run (plan_of f) (events_of_frames f.version fs) none (cleared f l)
      ∙ offsets_of_lem 0x3F (widths_of FodPlatform f.version) f.counts.fods FodPlatform (has_family f.version FodPlatform) refl
      (λ x. picked_fod f.version x (widths_of FodPlatform f.version) f.counts.fods) (omega (arith, m.fods)) fods_are l.cells.fods l.offsets.fods

  pub whispy_offsets_left : after.offsets.whispys ≡ splice l.offsets.whispys 0 (offsets_read f.version DreamlandWhispy fs)
  unfolding cleared has_family
  whispy_offsets_left =
      whispy_offsets_run (plan_of f) (events_of_frames f.version fs) none (cleared f l)
      ∙ offsets_of_lem 0x40 (widths_of DreamlandWhispy f.version) f.counts.whispys DreamlandWhispy (has_family f.version FodPlatform) refl
      (λ x. picked_whispy f.version x (widths_of DreamlandWhispy f.version) f.counts.whispys) (omega (arith, m.whispys)) whispys_are l.cells.whispys l.offsets.whispys

  pub stadium_offsets_left : after.offsets.stadiums ≡ splice l.offsets.stadiums 0 (offsets_read f.version StadiumTransformation fs)
  unfolding cleared has_family
  stadium_offsets_left =
      stadium_offsets_run (plan_of f) (events_of_frames f.version fs) none (cleared f l)
      ∙ offsets_of_lem 0x41 (widths_of StadiumTransformation f.version) f.counts.stadiums StadiumTransformation (has_family f.version FodPlatform) refl
      (λ x. picked_stadium f.version x (widths_of StadiumTransformation f.version) f.counts.stadiums) (omega (arith, m.stadiums)) stadiums_are l.cells.stadiums
      l.offsets.stadiums
