-- One pass over the events of frames puts each family's rows into its store, as the tree says.
-- Assumes nothing.
use mathlib.Core.Path.{◌≡◌, refl, sym, ap, ◌∙◌}
use mathlib.Core.Bool.{Bool, true, false}
use mathlib.Core.List.{List, [], ◌∷◌, ◌++◌, map, append_assoc, append-nil}
use Prim.Native.Nat.{ℕ, suc, ◌+◌, ◌*◌, ◌≤◌, ◌<◌}
use native.Mathlib.Nat.{add-zero, one-mul}
use native.Mathlib.Omega.{arith}
use lib.Dec.{eqb}
use lib.ListN.{length, drop, length-append}
use lib.Seq.{drop_at}
use Rattle.wire.specs.Wire.{be, keep, splice}
use Rattle.wire.proofs.Laws.{length_be}
use Rattle.format.specs.Event.{code_of}
use Rattle.format.specs.File.{Ev}
use Rattle.format.specs.declared.version.Version.{Version}
use Rattle.layout.specs.Columns.{has_family}
use Rattle.layout.specs.Payloads.{event_of}
use Rattle.layout.specs.declared.columns.Family.{Family}
use Rattle.layout.specs.declared.columns.Family.TheVariants.{Pre, Post, FrameStart, Item, FrameEnd, FodPlatform, DreamlandWhispy, StadiumTransformation}
use Rattle.record.specs.Record.{read_back}
use Rattle.game.specs.Stores.{Lent}
use Rattle.grammar.specs.Productions.{Frame, row_event, events_of_frame, events_of_frames}
use Rattle.columns.specs.Columns.{rows_here, rows_there, cell_columns}
use Rattle.columns.specs.Inner.{into}
use Rattle.columns.proofs.Laws.{into_both, rows_into}
use Rattle.read_event.specs.Inner.{Plan, told_by, next_after, seen_after, row_put, row_next, step, run, finish, Roomy}
use Rattle.read_event.specs.declared.seen.Seen.{Seen}
use Rattle.read_event.proofs.Leaves.{row_put_lem, row_off, next_put, next_off}

-- ---- a frame as sections, each of one family

-- a frame's rows of a family, as they stand behind the id
abbrev pub bodies_in : Version → Frame → Family → List (List ℕ)
bodies_in v f FrameStart = keep (has_family v FrameStart) (f.start ∷ [])
bodies_in v f Pre = map (λ p. p.port ∷ p.follower ∷ p.pre) f.players
bodies_in v f FodPlatform = f.fods
bodies_in v f DreamlandWhispy = f.whispys
bodies_in v f StadiumTransformation = f.stadiums
bodies_in v f Item = f.items
bodies_in v f Post = map (λ p. p.port ∷ p.follower ∷ p.post) f.players
bodies_in v f FrameEnd = keep (has_family v FrameEnd) (f.end ∷ [])

abbrev pub in_order : List Family
in_order = FrameStart ∷ Pre ∷ FodPlatform ∷ DreamlandWhispy ∷ StadiumTransformation ∷ Item ∷ Post ∷ FrameEnd ∷ []

unfoldable pub sections : Version → Frame → List Family → List Ev
sections v f [] = []
sections v f (g ∷ gs) = map (row_event g f.id) (bodies_in v f g) ++ sections v f gs

map_map : {A B C : Type 0} (g : B → C) (h : A → B) (xs : List A) → map g (map h xs) ≡ map (λ x. g (h x)) xs
map_map g h [] = refl
map_map g h (x ∷ xs) = ap (λ l. g (h x) ∷ l) (map_map g h xs)

map_keep : {A B : Type 0} (g : A → B) (b : Bool) (xs : List A) → map g (keep b xs) ≡ keep b (map g xs)
unfolding keep
map_keep g true xs = refl
map_keep g false xs = refl

pub frame_is : (v : Version) (f : Frame) → events_of_frame v f ≡ sections v f in_order
unfolding events_of_frame sections
frame_is v f =
    rw (
      map_keep (row_event FrameStart f.id) (has_family v FrameStart) (f.start ∷ []),
      map_keep (row_event FrameEnd f.id) (has_family v FrameEnd) (f.end ∷ []),
      map_map (row_event Pre f.id) (λ p. p.port ∷ p.follower ∷ p.pre) f.players,
      map_map (row_event Post f.id) (λ p. p.port ∷ p.follower ∷ p.post) f.players,
      append-nil (keep (has_family v FrameEnd) (row_event FrameEnd f.id f.end ∷ [])),
    )

-- ---- a family's store and its next row

pub record Rowed : Type 0 where
  pub row : ℕ
  pub cells : List ℕ

abbrev pub rowed : ℕ → List ℕ → Rowed
rowed row xs = record { row = row; cells = xs }

module _ (c : ℕ) (ws : List ℕ) (rows : ℕ) where
  abbrev after_one : Ev → Rowed → Rowed
  after_one e r = rowed (row_next (eqb e.code c) rows r.row) (row_put (eqb e.code c) ws (told_by e).body rows r.row r.cells)

  unfoldable pub row_run : List Ev → Rowed → Rowed
  row_run [] r = r
  row_run (e ∷ es) r = row_run es (after_one e r)

  abbrev pub put : List (List ℕ) → Rowed → Rowed
  put xs r = rowed (r.row + length xs) (into ws rows xs r.cells r.row)

  put_none : (r : Rowed) → r ≡ put [] r
  unfolding into
  put_none r = λ i. rowed (sym (add-zero r.row) i) r.cells

  put_both : (xs ys : List (List ℕ)) (r : Rowed) → put ys (put xs r) ≡ put (xs ++ ys) r
  put_both xs ys r =
      let n : r.row + length xs + length ys ≡ r.row + length (xs ++ ys) = omega (arith, length-append xs ys) in
      let m = sym (into_both ws rows xs ys r.cells r.row) in
      λ i. rowed (n i) (m i)

  abbrev is_of : Family → Bool
  is_of g = eqb (code_of (event_of g)) c

  one_put : (g : Family) (id : ℕ) (x : List ℕ) (r : Rowed) → is_of g ≡ true → r.row < rows → after_one (row_event g id x) r ≡ rowed (r.row + 1) (read_back ws x r.cells rows r.row)
  one_put g id x r e h =
      let n = sym (next_put (is_of g) rows r.row e h) in
      let m = sym (row_put_lem (is_of g) ws (drop 4 (be 4 id ++ x)) rows r.row r.cells e h) ∙ ap (λ (l : List ℕ). read_back ws l r.cells rows r.row) (drop_at (be 4 id) x 4 (length_be 4 id)) in
      λ i. rowed (n i) (m i)

  one_skip : (g : Family) (id : ℕ) (x : List ℕ) (r : Rowed) → is_of g ≡ false → after_one (row_event g id x) r ≡ r
  one_skip g id x r e =
      let n = sym (next_off (is_of g) rows r.row e) in
      let m = sym (row_off (is_of g) ws (drop 4 (be 4 id ++ x)) rows r.row r.cells e) in
      λ i. rowed (n i) (m i)

  one_section : (g : Family) (id : ℕ) (b : Bool) → is_of g ≡ b → (xs : List (List ℕ)) (t : List Ev) (r : Rowed) → r.row + length (keep b xs) ≤ rows
      → row_run (map (row_event g id) xs ++ t) r ≡ row_run t (put (keep b xs) r)
  unfolding row_run keep into
  one_section g id true e [] t r h = ap (row_run t) (put_none r)
  one_section g id false e [] t r h = ap (row_run t) (put_none r)
  one_section g id true e (x ∷ xs) t r h =
      let n : r.row + 1 + length xs ≡ r.row + suc (length xs) = omega arith in
      ap (row_run (map (row_event g id) xs ++ t)) (one_put g id x r e (omega arith))
      ∙ one_section g id true e xs t (rowed (r.row + 1) (read_back ws x r.cells rows r.row)) (omega arith)
      ∙ ap (λ (k : ℕ). row_run t (rowed k (into ws rows xs (read_back ws x r.cells rows r.row) (r.row + 1)))) n
  one_section g id false e (x ∷ xs) t r h = ap (row_run (map (row_event g id) xs ++ t)) (one_skip g id x r e) ∙ one_section g id false e xs t r h

  unfoldable pub picked : Version → Frame → List Family → List (List ℕ)
  picked v f [] = []
  picked v f (g ∷ gs) = keep (is_of g) (bodies_in v f g) ++ picked v f gs

  all_sections : (v : Version) (f : Frame) (gs : List Family) (t : List Ev) (r : Rowed) → r.row + length (picked v f gs) ≤ rows
      → row_run (sections v f gs ++ t) r ≡ row_run t (put (picked v f gs) r)
  unfolding sections picked
  all_sections v f [] t r h = ap (row_run t) (put_none r)
  all_sections v f (g ∷ gs) t r h =
      let xs = keep (is_of g) (bodies_in v f g) in
      let n = length-append xs (picked v f gs) in
      ap (λ (l : List Ev). row_run l r) (append_assoc (map (row_event g f.id) (bodies_in v f g)) (sections v f gs) t)
      ∙ one_section g f.id (is_of g) refl (bodies_in v f g) (sections v f gs ++ t) r (omega arith)
      ∙ all_sections v f gs t (put xs r) (omega arith)
      ∙ ap (row_run t) (put_both xs (picked v f gs) r)

  -- a frame, whose rows of this code are these
  pub one_frame_lem : (v : Version) (f : Frame) (xs : List (List ℕ)) → picked v f in_order ≡ xs → (t : List Ev) (r : Rowed) → r.row + length xs ≤ rows
      → row_run (events_of_frame v f ++ t) r ≡ row_run t (put xs r)
  one_frame_lem v f xs e t r h =
      ap (λ (l : List Ev). row_run (l ++ t) r) (frame_is v f)
      ∙ all_sections v f in_order t r (omega (arith, ap length e))
      ∙ ap (λ (ys : List (List ℕ)). row_run t (put ys r)) e

  -- all frames
  pub all_of_frames : (v : Version) (family : Family) → ((f : Frame) → picked v f in_order ≡ rows_here v family f) → (fs : List Frame) (r : Rowed) → r.row + length (rows_there v family fs) ≤ rows
      → row_run (events_of_frames v fs) r ≡ put (rows_there v family fs) r
  unfolding events_of_frames rows_there row_run
  all_of_frames v family e [] r h = put_none r
  all_of_frames v family e (f ∷ fs) r h =
      let n = length-append (rows_here v family f) (rows_there v family fs) in
      one_frame_lem v f (rows_here v family f) (e f) (events_of_frames v fs) r (omega arith)
      ∙ all_of_frames v family e fs (put (rows_here v family f) r) (omega arith)
      ∙ put_both (rows_here v family f) (rows_there v family fs) r

  -- as columns
  pub filled : (v : Version) (family : Family) → ((f : Frame) → picked v f in_order ≡ rows_here v family f) → (fs : List Frame) (xs : List ℕ) → length (rows_there v family fs) ≡ rows
      → Roomy ws xs 1 rows
      → (row_run (events_of_frames v fs) (rowed 0 xs)).cells ≡ splice xs 0 (cell_columns ws (rows_there v family fs))
  filled v family e fs xs n q =
      ap (λ (r : Rowed). r.cells) (all_of_frames v family e fs (rowed 0 xs) (omega arith))
      ∙ rows_into ws rows (rows_there v family fs) xs 0 (omega (arith, q.room, one-mul (length ws * rows))) n

-- ---- which rows those are

module _ (v : Version) (f : Frame) (ws : List ℕ) (rows : ℕ) where
  pub picked_start : picked 0x3A ws rows v f in_order ≡ rows_here v FrameStart f
  unfolding picked keep
  picked_start = append-nil (rows_here v FrameStart f)

  pub picked_end : picked 0x3C ws rows v f in_order ≡ rows_here v FrameEnd f
  unfolding picked keep
  picked_end = append-nil (rows_here v FrameEnd f)

  pub picked_item : picked 0x3B ws rows v f in_order ≡ rows_here v Item f
  unfolding picked keep
  picked_item = append-nil (rows_here v Item f)

  pub picked_fod : picked 0x3F ws rows v f in_order ≡ rows_here v FodPlatform f
  unfolding picked keep
  picked_fod = append-nil (rows_here v FodPlatform f)

  pub picked_whispy : picked 0x40 ws rows v f in_order ≡ rows_here v DreamlandWhispy f
  unfolding picked keep
  picked_whispy = append-nil (rows_here v DreamlandWhispy f)

  pub picked_stadium : picked 0x41 ws rows v f in_order ≡ rows_here v StadiumTransformation f
  unfolding picked keep
  picked_stadium = append-nil (rows_here v StadiumTransformation f)

-- ---- the pass, a store at a time

module _ (p : Plan) where
  pub starts_run : (es : List Ev) (s : Seen) (l : Lent) → (run p es s l).cells.starts ≡ (row_run 0x3A p.start p.counts.frames es (rowed s.next.starts l.cells.starts)).cells
  unfolding run finish step next_after row_run
  starts_run [] s l = refl
  starts_run (e ∷ es) s l = starts_run es (seen_after p s (told_by e)) (step p s (told_by e) l)

  pub ends_run : (es : List Ev) (s : Seen) (l : Lent) → (run p es s l).cells.ends ≡ (row_run 0x3C p.end p.counts.frames es (rowed s.next.ends l.cells.ends)).cells
  unfolding run finish step next_after row_run
  ends_run [] s l = refl
  ends_run (e ∷ es) s l = ends_run es (seen_after p s (told_by e)) (step p s (told_by e) l)

  pub items_run : (es : List Ev) (s : Seen) (l : Lent) → (run p es s l).cells.items ≡ (row_run 0x3B p.item p.counts.items es (rowed s.next.items l.cells.items)).cells
  unfolding run finish step next_after row_run
  items_run [] s l = refl
  items_run (e ∷ es) s l = items_run es (seen_after p s (told_by e)) (step p s (told_by e) l)

  pub fods_run : (es : List Ev) (s : Seen) (l : Lent) → (run p es s l).cells.fods ≡ (row_run 0x3F p.fod p.counts.fods es (rowed s.next.fods l.cells.fods)).cells
  unfolding run finish step next_after row_run
  fods_run [] s l = refl
  fods_run (e ∷ es) s l = fods_run es (seen_after p s (told_by e)) (step p s (told_by e) l)

  pub whispys_run : (es : List Ev) (s : Seen) (l : Lent) → (run p es s l).cells.whispys ≡ (row_run 0x40 p.whispy p.counts.whispys es (rowed s.next.whispys l.cells.whispys)).cells
  unfolding run finish step next_after row_run
  whispys_run [] s l = refl
  whispys_run (e ∷ es) s l = whispys_run es (seen_after p s (told_by e)) (step p s (told_by e) l)

  pub stadiums_run : (es : List Ev) (s : Seen) (l : Lent) → (run p es s l).cells.stadiums ≡ (row_run 0x41 p.stadium p.counts.stadiums es (rowed s.next.stadiums l.cells.stadiums)).cells
  unfolding run finish step next_after row_run
  stadiums_run [] s l = refl
  stadiums_run (e ∷ es) s l = stadiums_run es (seen_after p s (told_by e)) (step p s (told_by e) l)
