-- What is read back of the frames of an accepted input, with no frame left out and ports ascending, is what was given.
-- Assumes nothing.
use mathlib.Core.Path.{◌≡◌, refl, sym, ap, ap₂, ◌∙◌}
use mathlib.Core.Bool.{Bool, true, false, cond, ◌||◌}
use mathlib.Core.List.{List, [], ◌∷◌}
use Prim.Native.Nat.{ℕ, zero, suc, ◌+◌, ◌*◌, ◌/◌, ◌%◌, ◌^◌, ◌≤◌, ◌<◌}
use native.Mathlib.Nat.{add-mul, mul_assoc}
use native.Mathlib.Omega.{arith}
use borrow.Author.Tests.{eqb-true}
use lib.Dec.{eqb}
use lib.ListN.{length, get_or, take}
use lib.Seq.{take-nil, drop-nil}
use Rattle.wire.specs.Wire.{more}
use Rattle.format.specs.Refusal.{lowest}
use Rattle.format.specs.declared.version.Version.{Version}
use Rattle.format.proofs.Versions.{no_way}
use Rattle.layout.specs.Columns.{sum, has_family, widths_of}
use Rattle.layout.specs.declared.columns.Family.{Family}
use Rattle.layout.specs.declared.columns.Family.TheVariants.{Pre, Post, FrameStart, Item, FrameEnd, FodPlatform, DreamlandWhispy, StadiumTransformation}
use Rattle.game.specs.Frames.{Slot, no_port, slots_of, rows_of, slot_blocks, slot_at}
use Rattle.game.specs.Stores.{Lent, cells_of, Stores}
use Rattle.game.specs.declared.Game.{Game}
use Rattle.game.specs.declared.frames.Frames.{Frames}
use Rattle.players.specs.Presence.{present_at}
use Rattle.players.specs.Inner.{Modest}
use Rattle.frames.specs.Inner.{Accepted}
use Rattle.frames.specs.Judge.{refusals}
use Rattle.grammar.specs.Productions.{Player, Frame}
use Rattle.grammar.specs.WellFormed.{ascending, slot_of}
use Rattle.grammar.proofs.Tests.{Or, left_is, right_is, either}
use Rattle.grammar.proofs.Each.{each_at}
use Rattle.columns.specs.Columns.{holds, ever_in, players_at, is_in, presence_len, row_by, slot_row, slot_number, players_cells, slots_presence, frames_read, lent_read}
use Rattle.columns.specs.Inner.{column}
use Rattle.columns.proofs.Slots.{slots_at_lem}
use Rattle.columns.proofs.Back.{column_of_cells}
use Rattle.columns.proofs.Presence.{marked_by_lem, slots_presence_at}
use Rattle.law_tree.specs.Tree.{bytes_of, player_at, players_in, shows, frames_of, replay_of}
use Rattle.law_tree.proofs.Slots.{PortBefore}
use Rattle.law_tree.proofs.Good.{frames_good, Taken}
use Rattle.law_columns.specs.Slots.{seated, slot_numbers}
use Rattle.law_columns.specs.Returned.{in_frame, Appears, Wanted, plays, leads, PlayersReturned, Returned}
use Rattle.law_columns.proofs.Slots.{all_seated}
use Rattle.law_columns.proofs.Rows.{no_frame, Good, InBytes}
use Rattle.law_columns.proofs.Tree.{players_at_lem, slot_count, number_at, slot_is, slot_number_lem, present_back, players_back, tree_back}
use Rattle.law_columns.proofs.Judged.{judged_frames}
use Rattle.law_columns.proofs.Given.{fit_row, in_bytes, frames_count, frame_at}
use Rattle.law_columns.proofs.Stores.{ids_same, starts_same, ends_same, rows_same, cells_same, offsets_same}
use Rattle.law_columns.proofs.Present.{shown_by_lem, row_of, slots_rise}

-- a row that is not there is zeros
column_none : (ws : List ℕ) (c : ℕ) → column ws [] c ≡ 0
unfolding column more
column_none ws c = ap (λ (l : List ℕ). more 0 (take (get_or ws c 0) l)) (drop-nil (sum (take c ws))) ∙ ap (more 0) (take-nil (get_or ws c 0))

no_row : (family : Family) (k : ℕ) (ps : List Player) → holds k ps ≡ false → slot_row family k ps ≡ []
unfolding holds slot_row
no_row family k [] e = refl
no_row family k (p ∷ ps) e = go (eqb (slot_of p) k) e (no_row family k ps)
  where
    go : (b : Bool) → (b || holds k ps) ≡ false → (holds k ps ≡ false → slot_row family k ps ≡ []) → cond b (row_by family p) (slot_row family k ps) ≡ []
    go true q rest = no_way (sym q)
    go false q rest = rest q

-- who is ever there is in some frame, and nobody is behind the last
pub record Seen (k : ℕ) (fs : List Frame) : Type 0 where
  pub frame : ℕ
  pub inside : frame < length fs
  pub there : is_in k fs frame ≡ true

seen : (k : ℕ) (fs : List Frame) → ever_in k fs ≡ true → Seen k fs
unfolding ever_in players_at
seen k [] e = no_way e
seen k (f ∷ fs) e = go (holds k f.players) refl e (seen k fs)
  where
    go : (b : Bool) → holds k f.players ≡ b → (b || ever_in k fs) ≡ true → (ever_in k fs ≡ true → Seen k fs) → Seen k (f ∷ fs)
    go true q z rest = record { frame = 0; inside = omega arith; there = q }
    go false q z rest = let r = rest z in record { frame = suc r.frame; inside = omega (arith, r.inside); there = r.there }

behind : (k : ℕ) (fs : List Frame) (i : ℕ) → length fs ≤ i → is_in k fs i ≡ false
unfolding players_at holds
behind k [] i l = refl
behind k (f ∷ fs) zero l = absurd (omega arith)
behind k (f ∷ fs) (suc i) l = behind k fs i (omega arith)

-- what is asked of an input: accepted, ports ascending, ids of four bytes, no frame left out
pub record Given (f : Frames) (s : Lent) : Type 0 where
  pub accepted : Accepted f s
  pub order : (j k : ℕ) → j < k → k < f.port_count → PortBefore ascending (get_or f.ports j no_port).port (get_or f.ports k no_port).port
  pub ids : (i : ℕ) → get_or s.cells.ids i 0 < 2 ^ 32
  pub shown : (i : ℕ) → i < f.counts.frames → shows f s i ≡ true

module _ (f : Frames) (s : Lent) (h : Given f s) where
  abbrev v : Version
  v = f.version

  abbrev fs : List Frame
  fs = frames_of f s

  abbrev f' : Frames
  f' = frames_read v fs

  abbrev s' : Lent
  s' = lent_read v fs

  pub good : Good v fs
  good = frames_good ascending f s (record { ports = h.accepted.ports; order = h.order; ids = h.ids })

  pub bytes : InBytes fs
  bytes = in_bytes f s h.accepted

  pub count : length fs ≡ f.counts.frames
  count = frames_count f s h.accepted h.shown

  -- ---- who is in which frame

  players_same : (i : ℕ) → i < f.counts.frames → (get_or fs i no_frame).players ≡ players_in f s i
  players_same i l = ap (λ (x : Frame). x.players) (frame_at f s h.accepted h.shown i l)

  in_read : (k i : ℕ) → i < f.counts.frames → is_in k fs i ≡ in_frame f s k i
  in_read k i l = ap (holds k) (players_at_lem fs i ∙ players_same i l) ∙ shown_by_lem f s k i

  present_same : (k i : ℕ) → i < f.counts.frames → in_frame f' s' k i ≡ in_frame f s k i
  present_same k i l =
      sym (shown_by_lem f' s' k i)
      ∙ ap (holds k) (players_back v fs good bytes i (omega (arith, count)) ∙ players_same i l)
      ∙ shown_by_lem f s k i

  -- ---- the rows of players

  -- the place of a cell
  place : (n rows j c i : ℕ) → j * (n * rows) + i + c * rows ≡ (j * n + c) * rows + i
  place n rows j c i = let e = add-mul (j * n) c rows in let m = mul_assoc j n rows in omega arith

  row_given : (family : Family) (j i : ℕ) → j < length (slots_of f) → i < f.counts.frames → present_at s.presence (slot_at f j) i ≡ true
      → slot_row family (slot_number (slot_at f j)) (players_in f s i) ≡ row_by family (player_at f s i j)
  unfolding players_in
  row_given family j i l m e =
      row_of family (slot_number (slot_at f j)) (λ j. present_at s.presence (slot_at f j) i) (player_at f s i) 0 (length (slots_of f)) j (omega arith) (omega arith) e refl
      (λ q a b z. omega (arith, slots_rise f h.accepted.ports h.order q j b l))

  -- of what is read back
  cell_read : (family : Family) (j c i : ℕ) → j < length (slots_of f') → c < length (widths_of family v) → i < f.counts.frames
      → get_or (players_cells v family fs) ((j * length (widths_of family v) + c) * length fs + i) 0 ≡ column (widths_of family v) (slot_row family (slot_number (slot_at f' j)) (players_in f s i)) c
  cell_read family j c i l m k =
      slots_at_lem v family fs (slots_of f') j c i l m (omega (arith, count))
      ∙ ap (λ (ps : List Player). column (widths_of family v) (slot_row family (slot_number (slot_at f' j)) ps) c) (players_at_lem fs i ∙ players_same i k)

  given_cell : (family : Family) (j c i : ℕ) → j < slot_blocks f family → c < length (widths_of family v) → i < rows_of f family
      → column (widths_of family v) (bytes_of f s family j i) c ≡ get_or (cells_of s.cells family) ((j * length (widths_of family v) + c) * rows_of f family + i) 0
  given_cell family j c i l m k =
      let ws = widths_of family v in
      column_of_cells ws (cells_of s.cells family) (rows_of f family) (j * (length ws * rows_of f family) + i) c m (fit_row f s h.accepted family j i l k)
      ∙ ap (λ (n : ℕ). get_or (cells_of s.cells family) n 0) (place (length ws) (rows_of f family) j c i)

  cell_same : (family : Family) (j j' c i : ℕ) → j < length (slots_of f) → j' < length (slots_of f') → c < length (widths_of family v) → i < f.counts.frames
      → slot_number (slot_at f j) ≡ slot_number (slot_at f' j') → present_at s.presence (slot_at f j) i ≡ true
      → get_or (players_cells v family fs) ((j' * length (widths_of family v) + c) * length fs + i) 0 ≡ column (widths_of family v) (row_by family (player_at f s i j)) c
  cell_same family j j' c i l l' m k same e =
      cell_read family j' c i l' m k
      ∙ ap (λ (n : ℕ). column (widths_of family v) (slot_row family n (players_in f s i)) c) (sym same)
      ∙ ap (λ (b : List ℕ). column (widths_of family v) b c) (row_given family j i l k e)

  cell_absent : (family : Family) (j c i : ℕ) → j < length (slots_of f') → c < length (widths_of family v) → i < f.counts.frames
      → present_at s'.presence (slot_at f' j) i ≡ false
      → get_or (players_cells v family fs) ((j * length (widths_of family v) + c) * length fs + i) 0 ≡ 0
  unfolding lent_read
  cell_absent family j c i l m k e =
      let n = slot_number (slot_at f' j) in
      let gone : holds n (players_in f s i) ≡ false =
      ap₂ (λ (x : ℕ) (ps : List Player). holds x ps) (slot_number_lem v fs good bytes j l) (sym (players_same i k))
      ∙ sym (present_back v fs good bytes i (omega (arith, count)) j l)
      ∙ e in
      cell_read family j c i l m k
      ∙ ap (λ (b : List ℕ). column (widths_of family v) b c) (no_row family n (players_in f s i) gone)
      ∙ column_none (widths_of family v) c

  pres_returned : PlayersReturned f s f' s' Pre
  unfolding frames_read lent_read
  pres_returned = record {
    present = λ j j' c i l l' m k same e. cell_same Pre j j' c i l l' m k same e ∙ given_cell Pre j c i l m k;
    absent = λ j c i l m k e. cell_absent Pre j c i l m k e;
  }

  posts_returned : PlayersReturned f s f' s' Post
  unfolding frames_read lent_read
  posts_returned = record {
    present = λ j j' c i l l' m k same e. cell_same Post j j' c i l l' m k same e ∙ given_cell Post j c i l m k;
    absent = λ j c i l m k e. cell_absent Post j c i l m k e;
  }

  -- ---- the slots

  appears : (k : ℕ) → ever_in k fs ≡ true → Appears f s k
  appears k e =
      let r = seen k fs e in
      let l : r.frame < f.counts.frames = omega (arith, r.inside, count) in
      record { frame = r.frame; inside = l; there = sym (in_read k r.frame l) ∙ r.there }

  seated_wanted : (k : ℕ) → seated k fs ≡ true → Wanted f s k
  unfolding seated
  seated_wanted k e = go (eqb (k % 2) 0) refl e
    where
      pair : k % 2 ≡ 0 → Or (ever_in k fs) (ever_in (k + 1) fs) → Wanted f s k
      pair z (left_is a) = plays (appears k a)
      pair z (right_is a) = leads z (appears (k + 1) a)

      go : (b : Bool) → eqb (k % 2) 0 ≡ b → cond b (ever_in k fs || ever_in (k + 1) fs) (ever_in k fs) ≡ true → Wanted f s k
      go true q z = pair (eqb-true (k % 2) 0 q) (either (ever_in k fs) (ever_in (k + 1) fs) z)
      go false q z = plays (appears k z)

  wanted_all : (j : ℕ) → j < length (slots_of f') → Wanted f s (slot_number (slot_at f' j))
  wanted_all j l =
      rw (slot_number_lem v fs good bytes j l)
      (seated_wanted (number_at v fs good bytes j) (each_at (λ k. seated k fs ≡ true) 0 (slot_numbers fs) (all_seated fs) j (omega (arith, slot_count v fs good bytes))))

  len_is : (j : ℕ) → j < length (slots_of f') → (slot_at f' j).len ≡ presence_len fs
  len_is j l = ap (λ (x : Slot). x.len) (slot_is v fs good bytes j l)

  spare_none : (j i : ℕ) → j < length (slots_of f') → f.counts.frames ≤ i → i < 8 * (slot_at f' j).len → present_at s'.presence (slot_at f' j) i ≡ false
  unfolding lent_read
  spare_none j i l m k =
      let n = slot_number (slot_at f' j) in
      ap (λ (x : Slot). present_at (slots_presence fs (slots_of f')) x i) (slot_is v fs good bytes j l)
      ∙ marked_by_lem n fs (slots_presence fs (slots_of f')) (j * presence_len fs) i (omega (arith, len_is j l)) (λ q z. slots_presence_at fs (slots_of f') j q l z)
      ∙ behind n fs i (omega (arith, count))

  -- ---- all of it

  rows_returned : (family : Family) → rows_of f' family ≡ rows_of f family
  unfolding frames_read
  rows_returned FrameStart = count
  rows_returned FrameEnd = count
  rows_returned Pre = count
  rows_returned Post = count
  rows_returned Item = rows_same f s h.accepted h.shown good Item refl (λ i. refl) h.accepted.items
  rows_returned FodPlatform = rows_same f s h.accepted h.shown good FodPlatform refl (λ i. refl) h.accepted.fods
  rows_returned DreamlandWhispy = rows_same f s h.accepted h.shown good DreamlandWhispy refl (λ i. refl) h.accepted.whispys
  rows_returned StadiumTransformation = rows_same f s h.accepted h.shown good StadiumTransformation refl (λ i. refl) h.accepted.stadiums

  offsets_returned : s'.offsets ≡ s.offsets
  unfolding lent_read
  offsets_returned =
      let a = offsets_same f s h.accepted h.shown good Item refl (λ i. refl) h.accepted.items in
      let b = offsets_same f s h.accepted h.shown good FodPlatform refl (λ i. refl) h.accepted.fods in
      let c = offsets_same f s h.accepted h.shown good DreamlandWhispy refl (λ i. refl) h.accepted.whispys in
      let d = offsets_same f s h.accepted h.shown good StadiumTransformation refl (λ i. refl) h.accepted.stadiums in
      λ i. record { items = a i; fods = b i; whispys = c i; stadiums = d i }

  pub returned : Returned f s f' s'
  unfolding frames_read lent_read
  returned = record {
    version = refl;
    frames = count;
    rows = rows_returned;
    ids = ids_same f s h.accepted h.shown good;
    starts = starts_same f s h.accepted h.shown good;
    ends = ends_same f s h.accepted h.shown good;
    items = cells_same f s h.accepted h.shown good Item refl (λ i. refl) h.accepted.items;
    fods = cells_same f s h.accepted h.shown good FodPlatform refl (λ i. refl) h.accepted.fods;
    whispys = cells_same f s h.accepted h.shown good DreamlandWhispy refl (λ i. refl) h.accepted.whispys;
    stadiums = cells_same f s h.accepted h.shown good StadiumTransformation refl (λ i. refl) h.accepted.stadiums;
    offsets = offsets_returned;
    present = present_same;
    pres = pres_returned;
    posts = posts_returned;
    wanted = wanted_all;
    given = λ j l. len_is j l ∙ ap (λ (n : ℕ). (n + 7) / 8) count;
    spare = spare_none;
  }

  -- and it is accepted, and has the same tree
  modest : Modest f'
  modest = record {
    frames = rw returned.frames h.accepted.modest.frames;
    items = rw (rows_returned Item) h.accepted.modest.items;
    fods = rw (rows_returned FodPlatform) h.accepted.modest.fods;
    whispys = rw (rows_returned DreamlandWhispy) h.accepted.modest.whispys;
    stadiums = rw (rows_returned StadiumTransformation) h.accepted.modest.stadiums;
  }

  pub returned_judged : (codes metadata : ℕ) → codes ≤ 16777216 → metadata ≤ 65535 → lowest (refusals f' s' codes metadata) ≡ 0
  returned_judged codes metadata c d = judged_frames v fs good bytes codes metadata h.accepted.version modest c d

  pub returned_tree : frames_of f' s' ≡ frames_of f s
  returned_tree = tree_back v fs good bytes

-- of a game that `write` accepts
pub given_of : (g : Game) (s : Stores) → Taken ascending g s → ((i : ℕ) → i < g.frames.counts.frames → shows g.frames s.lent i ≡ true) → Given g.frames s.lent
given_of g s t shown = record { accepted = t.passed.frames; order = t.order; ids = t.ids; shown = shown }

-- from 2.2 on no frame is left out
pub all_shown : (f : Frames) (s : Lent) → has_family f.version FrameStart ≡ true → (i : ℕ) → i < f.counts.frames → shows f s i ≡ true
unfolding shows
all_shown f s e i l = rw e

pub game_returned : (g : Game) (s : Stores) → Taken ascending g s → ((i : ℕ) → i < g.frames.counts.frames → shows g.frames s.lent i ≡ true)
    → let fs = (replay_of g s).frames in
    Returned g.frames s.lent (frames_read g.frames.version fs) (lent_read g.frames.version fs)
unfolding replay_of
game_returned g s t shown = returned g.frames s.lent (given_of g s t shown)
