-- The rows made of a run's cells are the rows that the single calls give, at every index.
-- Assumes nothing.
use mathlib.Core.Path.{◌≡◌, refl, sym, ap, ap₂, ◌∙◌}
use mathlib.Core.Bool.{Bool, true, false, cond, ◌||◌}
use mathlib.Core.List.{List, [], ◌∷◌, ◌++◌, append_assoc}
use Prim.Native.Nat.{ℕ, zero, suc, ◌+◌, ◌*◌, ◌-◌, ◌%◌, ◌^◌, ◌≤◌, ◌<◌}
use native.Mathlib.Nat.{mod-eq_of_lt, suc-mul, zero-mul, add-zero}
use native.Mathlib.Decide.{dec_lt}
use native.Mathlib.Omega.{arith}
use borrow.Author.Tests.{lt-ltb, le-ltb, lt-leb}
use lib.Dec.{ltb, leb}
use lib.ListN.{length, get_or, drop, get_or-append}
use lib.Seq.{take_at, drop_at, drop-drop, get_or_at}
use Rattle.format.specs.Mark.{flag_of}
use Rattle.wire.specs.Wire.{ranged, part, splice, tabulate, keep}
use Rattle.wire.proofs.Laws.{splice_is, tabulate_length, tabulate_at, tabulate_ext}
use Rattle.format.specs.Refusal.{refuse}
use Rattle.format.proofs.Refusals.{skip, none, lowest_after}
use Rattle.format.specs.declared.version.Version.{Version}
use Rattle.layout.specs.Columns.{widths_of}
use Rattle.layout.specs.declared.columns.Family.{Family}
use Rattle.layout.specs.declared.columns.Family.TheVariants.{Pre, Post, FrameStart, Item, FrameEnd, FodPlatform, DreamlandWhispy, StadiumTransformation}
use Rattle.game.specs.Frames.{no_slot, slots_of, rows_of, slot_blocks}
use Rattle.game.specs.Stores.{Lent, cells_of}
use Rattle.game.specs.declared.frames.Frames.{Frames}
use Rattle.frames.specs.Judge.{refusals}
use Rattle.frames.proofs.Accepted.{numbered}
use Rattle.players.specs.Presence.{present_at}
use Rattle.rows.specs.Cells.{first_cells}
use Rattle.rows.specs.Rows.{pre_of, post_of, item_of, frame_start_of, frame_end_of, fod_platform_of, dreamland_whispy_of, stadium_transformation_of}
use Rattle.transpose.specs.Judge.{outside, row_refusal}
use Rattle.transpose.specs.Records.{cells_at, mark_at}
use Rattle.transpose.specs.Frame.{frame_at, no_frame}
use Rattle.transpose.specs.Inner.{Reachable}
use Rattle.transpose.specs.Answers.{pre_row, post_row, item_row, fod_platform_row, dreamland_whispy_row, stadium_transformation_row, frame_row}
use Rattle.transpose.specs.declared.frame.Frame.{Frame}
use Rattle.transpose.proofs.Judged.{reachable, showable}
use Rattle.transpose.proofs.Shown.{given_row}
use Rattle.rows_given.specs.Given.{given_cells, pre_given, post_given, item_given, frame_start_given, frame_end_given, fod_platform_given, dreamland_whispy_given, stadium_transformation_given}
use Rattle.rows_run.specs.Run.{family_at, of_players, row_length, run_row, run_cells, rows_run_refusal, RowsOutcome}
use Rattle.rows_run.specs.declared.run.Run.{Run}
use Rattle.rows_run.proofs.Runs.{length_row, length_rows}
use Rattle.rows_run.proofs.Judged.{slot_in, inside, run_first, run_there, run_room}

-- ---- a row among rows of one length
module _ (rows : ℕ → List ℕ) (w : ℕ) (len : (i : ℕ) → length (rows i) ≡ w) where
  row_among : (a n j : ℕ) (rest : List ℕ) → j < n → part (ranged rows a n ++ rest) (j * w) w ≡ rows (a + j)
  unfolding ranged part
  row_among a zero j rest h = absurd (omega arith)
  row_among a (suc n) zero rest h =
      rw (append_assoc (rows a) (ranged rows (a + 1) n) rest, zero-mul w, add-zero a) (take_at (rows a) (ranged rows (a + 1) n ++ rest) w (len a))
  row_among a (suc n) (suc j) rest h =
      let far : suc j * w ≡ w + j * w = suc-mul j w ∙ (omega arith) in
      let next : a + 1 + j ≡ a + suc j = omega arith in
      rw (append_assoc (rows a) (ranged rows (a + 1) n) rest, far, ← drop-drop (j * w) w (rows a ++ (ranged rows (a + 1) n ++ rest)), drop_at (rows a) (ranged rows (a + 1) n ++ rest) w (len a))
      (row_among (a + 1) n j rest (omega arith) ∙ ap rows next)

-- ---- one row
module _ (f : Frames) (family : Family) (cells presence : List ℕ) (slot index : ℕ) where
  abbrev columns : ℕ
  columns = length (widths_of family f.version)

  abbrev cell : ℕ → ℕ
  cell k = get_or cells ((slot * columns + k) * rows_of f family + index) 0

  run_at : (k : ℕ) → k < columns → get_or (run_row f family cells presence slot index) k 0 ≡ cell k
  unfolding run_row
  run_at k h = get_or-append (tabulate columns cell) _ 0 k (omega (arith, h, tabulate_length columns cell)) ∙ tabulate_at 0 columns cell k h

  mark_behind : of_players family ≡ true → get_or (run_row f family cells presence slot index) columns 0 ≡ mark_at f presence slot index
  unfolding run_row keep
  mark_behind e = rw e (get_or_at (tabulate columns cell) (mark_at f presence slot index) [] 0 columns (tabulate_length columns cell))

  mark_kept : flag_of (mark_at f presence slot index) ≡ mark_at f presence slot index
  unfolding mark_at
  mark_kept = go (present_at presence (get_or (slots_of f) slot no_slot) index)
    where
      go : (b : Bool) → flag_of (cond {A = ℕ} b 1 0) ≡ cond {A = ℕ} b 1 0
      go true = refl
      go false = refl

  pub given_mark : of_players family ≡ true → flag_of (get_or (run_row f family cells presence slot index) columns 0) ≡ mark_at f presence slot index
  given_mark e = ap flag_of (mark_behind e) ∙ mark_kept

  -- the cells are the record's: each is within its width, so that its low bytes are all of it
  module _ (h : Reachable f family cells slot index) where
    cell_same : (k : ℕ) → cond (ltb k columns) (get_or (run_row f family cells presence slot index) k 0 % 256 ^ get_or (widths_of family f.version) k 0) 0 ≡ cond (ltb k columns) (cell k) 0
    cell_same k =
        elim (dec_lt k columns) [
          | yes l ↦ rw (lt-ltb k columns l, run_at k l) (mod-eq_of_lt (h.store.narrow slot k index h.block_in l h.row_in))
          | no r ↦ rw (le-ltb k columns (omega arith)) refl
        ]

    pub given_record : given_cells family f.version (run_row f family cells presence slot index) ≡ cells_at f family cells slot index
    unfolding given_cells first_cells
    given_record = tabulate_ext 32 _ _ (λ k _. cell_same k)

-- ---- by the single calls
module _ (f : Frames) (s : Lent) where
  abbrev v : Version
  v = f.version

  abbrev row : Family → ℕ → ℕ → List ℕ
  row k slot index = run_row f k (cells_of s.cells k) s.presence slot index

  abbrev mark : Family → ℕ → ℕ → ℕ
  mark k slot index = get_or (row k slot index) (length (widths_of k v)) 0

  record_of_lem : (k : Family) (slot index : ℕ) → row_refusal f s k slot index ≡ 0 → given_cells k v (row k slot index) ≡ cells_at f k (cells_of s.cells k) slot index
  record_of_lem k slot index e = given_record f k (cells_of s.cells k) s.presence slot index (reachable f s k slot index e)

  pub pre_same : (slot index : ℕ) → (pre_row f s slot index).refused ≡ 0 → pre_given (row Pre slot index) v (mark Pre slot index) ≡ (pre_row f s slot index).row
  pre_same slot index e =
      ap₂ (λ (raw : List ℕ) (m : ℕ). pre_of raw v m) (record_of_lem Pre slot index e) (given_mark f Pre s.cells.pres s.presence slot index refl) ∙ given_row _ _ _ e

  pub post_same : (slot index : ℕ) → (post_row f s slot index).refused ≡ 0 → post_given (row Post slot index) v (mark Post slot index) ≡ (post_row f s slot index).row
  post_same slot index e =
      ap₂ (λ (raw : List ℕ) (m : ℕ). post_of raw v m) (record_of_lem Post slot index e) (given_mark f Post s.cells.posts s.presence slot index refl) ∙ given_row _ _ _ e

  pub item_same : (index : ℕ) → (item_row f s index).refused ≡ 0 → item_given (row Item 0 index) v ≡ (item_row f s index).row
  item_same index e = ap (λ (raw : List ℕ). item_of raw v) (record_of_lem Item 0 index e) ∙ given_row _ _ _ e

  pub fod_platform_same : (index : ℕ) → (fod_platform_row f s index).refused ≡ 0 → fod_platform_given (row FodPlatform 0 index) v ≡ (fod_platform_row f s index).row
  fod_platform_same index e = ap (λ (raw : List ℕ). fod_platform_of raw v) (record_of_lem FodPlatform 0 index e) ∙ given_row _ _ _ e

  pub dreamland_whispy_same : (index : ℕ) → (dreamland_whispy_row f s index).refused ≡ 0 → dreamland_whispy_given (row DreamlandWhispy 0 index) v ≡ (dreamland_whispy_row f s index).row
  dreamland_whispy_same index e = ap (λ (raw : List ℕ). dreamland_whispy_of raw v) (record_of_lem DreamlandWhispy 0 index e) ∙ given_row _ _ _ e

  pub stadium_transformation_same : (index : ℕ) → (stadium_transformation_row f s index).refused ≡ 0
      → stadium_transformation_given (row StadiumTransformation 0 index) v ≡ (stadium_transformation_row f s index).row
  stadium_transformation_same index e = ap (λ (raw : List ℕ). stadium_transformation_of raw v) (record_of_lem StadiumTransformation 0 index e) ∙ given_row _ _ _ e

  -- a frame's start and end are those in the frame's row
  pub frame_start_same : (index : ℕ) → (frame_row f s index).refused ≡ 0 → frame_start_given (row FrameStart 0 index) v ≡ (frame_row f s index).row.start
  frame_start_same index e =
      ap (λ (raw : List ℕ). frame_start_of raw v) (record_of_lem FrameStart 0 index e) ∙ ap (λ (r : Frame). r.start) (given_row _ (frame_at f s index) no_frame e)

  pub frame_end_same : (index : ℕ) → (frame_row f s index).refused ≡ 0 → frame_end_given (row FrameEnd 0 index) v ≡ (frame_row f s index).row.end
  frame_end_same index e =
      ap (λ (raw : List ℕ). frame_end_of raw v) (given_record f FrameEnd s.cells.ends s.presence 0 index (showable f s index e).end)
      ∙ ap (λ (r : Frame). r.end) (given_row _ (frame_at f s index) no_frame e)

-- both are refused alike
end_as_start : (f : Frames) (s : Lent) (index : ℕ) → row_refusal f s FrameEnd 0 index ≡ row_refusal f s FrameStart 0 index
unfolding row_refusal outside
end_as_start f s index = refl

-- ---- what a run leaves in the store
module _ (f : Frames) (s : Lent) (number slot a b : ℕ) (out out' : List ℕ) (r : Run) (o : RowsOutcome f s number slot a b out r out') (given : r.refused ≡ 0) where
  abbrev k : Family
  k = family_at number

  abbrev wide : ℕ
  wide = row_length f.version k

  accepted_run : rows_run_refusal f s number slot a b (length out) ≡ 0
  accepted_run = sym (ap (λ (x : Run). x.refused) o.answer_is) ∙ given

  cells_length : length (run_cells f s k slot a b) ≡ (b - a) * wide
  cells_length = length_rows f k (cells_of s.cells k) s.presence slot a (b - a)

  -- the rows' cells, and then what was there
  pub run_left : out' ≡ run_cells f s k slot a b ++ drop (length (run_cells f s k slot a b)) out
  run_left =
      let all : 0 + length (run_cells f s k slot a b) ≡ length (run_cells f s k slot a b) = omega arith in
      o.out_is ∙ sym (given_row _ (splice out 0 (run_cells f s k slot a b)) out accepted_run)
      ∙ splice_is out 0 (run_cells f s k slot a b) (omega (arith, cells_length, run_room f s number slot a b (length out) accepted_run))
      ∙ ap (λ (n : ℕ). run_cells f s k slot a b ++ drop n out) all

  module _ (i : ℕ) (from : a ≤ i) (to : i < b) where
    -- the cells of row i, and the row of that index
    abbrev pub row_at : List ℕ
    row_at = part out' ((i - a) * wide) wide

    pub row_at_lem : row_at ≡ run_row f k (cells_of s.cells k) s.presence slot i
    row_at_lem =
        let same : a + (i - a) ≡ i = omega (arith, from) in
        rw run_left
        (row_among (run_row f k (cells_of s.cells k) s.presence slot) wide (length_row f k (cells_of s.cells k) s.presence slot) a (b - a) (i - a)
        (drop (length (run_cells f s k slot a b)) out) (omega (arith, from, to))
        ∙ ap (run_row f k (cells_of s.cells k) s.presence slot) same)

    pub not_refused : row_refusal f s k slot i ≡ 0
    unfolding row_refusal outside
    not_refused =
        let there = run_there f s number slot a b (length out) accepted_run in
        let slots = lt-leb (slot_blocks f k) slot (slot_in f number slot a b there) in
        let rows = lt-leb (rows_of f k) i (omega (arith, to, inside f number slot a b there)) in
        lowest_after (refusals f s 0 0) (refuse 13 (leb (slot_blocks f k) slot || leb (rows_of f k) i) ∷ []) (numbered f s 0 0) (run_first f s number slot a b (length out) accepted_run)
        ∙ sym (skip 13 0 (leb (slot_blocks f k) slot || leb (rows_of f k) i) [] (rw (slots, rows) refl) none)

-- ---- so, for an accepted game, at every index: the row made of a run's cells is the single call's
module _ (f : Frames) (s : Lent) (slot a b : ℕ) (out out' : List ℕ) (r : Run) (i : ℕ) (from : a ≤ i) (to : i < b) (given : r.refused ≡ 0) where
  pub pre_of_run : RowsOutcome f s 1 slot a b out r out' → let row = part out' ((i - a) * row_length f.version Pre) (row_length f.version Pre) in
      ((pre_row f s slot i).refused ≡ 0) × (pre_given row f.version (get_or row (length (widths_of Pre f.version)) 0) ≡ (pre_row f s slot i).row)
  pre_of_run o =
      let e = not_refused f s 1 slot a b out out' r o given i from to in
      (e, rw (row_at_lem f s 1 slot a b out out' r o given i from to) (pre_same f s slot i e))

  pub post_of_run : RowsOutcome f s 2 slot a b out r out' → let row = part out' ((i - a) * row_length f.version Post) (row_length f.version Post) in
      ((post_row f s slot i).refused ≡ 0) × (post_given row f.version (get_or row (length (widths_of Post f.version)) 0) ≡ (post_row f s slot i).row)
  post_of_run o =
      let e = not_refused f s 2 slot a b out out' r o given i from to in
      (e, rw (row_at_lem f s 2 slot a b out out' r o given i from to) (post_same f s slot i e))

module _ (f : Frames) (s : Lent) (a b : ℕ) (out out' : List ℕ) (r : Run) (i : ℕ) (from : a ≤ i) (to : i < b) (given : r.refused ≡ 0) where
  pub item_of_run : RowsOutcome f s 4 0 a b out r out'
      → ((item_row f s i).refused ≡ 0) × (item_given (part out' ((i - a) * row_length f.version Item) (row_length f.version Item)) f.version ≡ (item_row f s i).row)
  item_of_run o =
      let e = not_refused f s 4 0 a b out out' r o given i from to in
      (e, rw (row_at_lem f s 4 0 a b out out' r o given i from to) (item_same f s i e))

  pub fod_platform_of_run : RowsOutcome f s 5 0 a b out r out'
      → ((fod_platform_row f s i).refused ≡ 0) × (fod_platform_given (part out' ((i - a) * row_length f.version FodPlatform) (row_length f.version FodPlatform)) f.version ≡ (fod_platform_row f s i).row)
  fod_platform_of_run o =
      let e = not_refused f s 5 0 a b out out' r o given i from to in
      (e, rw (row_at_lem f s 5 0 a b out out' r o given i from to) (fod_platform_same f s i e))

  pub dreamland_whispy_of_run : RowsOutcome f s 6 0 a b out r out'
      → ((dreamland_whispy_row f s i).refused ≡ 0) × (dreamland_whispy_given (part out' ((i - a) * row_length f.version DreamlandWhispy) (row_length f.version DreamlandWhispy)) f.version ≡ (dreamland_whispy_row f s i).row)
  dreamland_whispy_of_run o =
      let e = not_refused f s 6 0 a b out out' r o given i from to in
      (e, rw (row_at_lem f s 6 0 a b out out' r o given i from to) (dreamland_whispy_same f s i e))

  pub stadium_transformation_of_run : RowsOutcome f s 7 0 a b out r out'
      → ((stadium_transformation_row f s i).refused ≡ 0) × (stadium_transformation_given (part out' ((i - a) * row_length f.version StadiumTransformation) (row_length f.version StadiumTransformation)) f.version ≡ (stadium_transformation_row f s i).row)
  stadium_transformation_of_run o =
      let e = not_refused f s 7 0 a b out out' r o given i from to in
      (e, rw (row_at_lem f s 7 0 a b out out' r o given i from to) (stadium_transformation_same f s i e))

  pub frame_start_of_run : RowsOutcome f s 0 0 a b out r out'
      → ((frame_row f s i).refused ≡ 0) × (frame_start_given (part out' ((i - a) * row_length f.version FrameStart) (row_length f.version FrameStart)) f.version ≡ (frame_row f s i).row.start)
  frame_start_of_run o =
      let e = not_refused f s 0 0 a b out out' r o given i from to in
      (e, rw (row_at_lem f s 0 0 a b out out' r o given i from to) (frame_start_same f s i e))

  pub frame_end_of_run : RowsOutcome f s 3 0 a b out r out'
      → ((frame_row f s i).refused ≡ 0) × (frame_end_given (part out' ((i - a) * row_length f.version FrameEnd) (row_length f.version FrameEnd)) f.version ≡ (frame_row f s i).row.end)
  frame_end_of_run o =
      let e = sym (end_as_start f s i) ∙ not_refused f s 3 0 a b out out' r o given i from to in
      (e, rw (row_at_lem f s 3 0 a b out out' r o given i from to) (frame_end_same f s i e))
