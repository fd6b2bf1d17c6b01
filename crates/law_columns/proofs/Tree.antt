-- The frames of what is read back are the frames.
-- Assumes nothing.
use mathlib.Core.Path.{◌≡◌, refl, sym, ap, ap₂, ◌∙◌}
use mathlib.Core.Bool.{Bool, true, false, not, cond, ◌||◌}
use mathlib.Core.List.{List, [], ◌∷◌, map}
use Prim.Native.Nat.{ℕ, zero, suc, ◌+◌, ◌*◌, ◌/◌, ◌%◌, ◌≤◌, ◌<◌}
use native.Mathlib.Nat.{zero-mul, zero-add}
use native.Mathlib.Omega.{arith}
use Rattle.events.specs.Events.{id_of}
use Rattle.format.proofs.Tests.{other}
use Rattle.grammar.proofs.Tests.{or_true}
use lib.Dec.{eqb}
use lib.ListN.{length, get_or, get_or-map}
use Rattle.wire.specs.Wire.{ranged, keep}
use Rattle.wire.proofs.Laws.{ranged_same}
use Rattle.format.specs.declared.version.Version.{Version}
use Rattle.format.proofs.Versions.{no_way}
use Rattle.layout.specs.Columns.{has_family, widths_of, size_of}
use Rattle.layout.specs.declared.columns.Family.TheVariants.{Pre, Post, FrameStart, Item, FrameEnd, FodPlatform, DreamlandWhispy, StadiumTransformation}
use Rattle.game.specs.Frames.{Slot, slot, no_slot, slots_of}
use Rattle.game.specs.Stores.{Lent}
use Rattle.game.specs.declared.frames.Frames.{Frames}
use Rattle.players.specs.Presence.{present_at}
use Rattle.record.specs.Record.{cells_bytes}
use Rattle.grammar.specs.Productions.{Player, Frame}
use Rattle.grammar.specs.WellFormed.{Each, ascending, slot_of, GoodPlayer, GoodFrame}
use Rattle.grammar.proofs.Each.{each_at, each_so}
use Rattle.grammar.proofs.Unique.{no_start_lem, no_end}
use Rattle.columns.specs.Columns.{holds, players_at, presence_len, slot_row, slot_number, players_cells, rows_cells, slots_presence, frames_read, lent_read}
use Rattle.columns.proofs.Slots.{row_at}
use Rattle.columns.proofs.Back.{bytes_of_lem, slot_row_back}
use Rattle.columns.proofs.Presence.{slots_marked}
use Rattle.law_tree.specs.Tree.{bytes_of, rows_in, player_at, players_in, frame_of, shows, frames_of}
use Rattle.law_columns.specs.Bytes.{AreBytes, BytePlayer, ByteFrame}
use Rattle.law_columns.specs.Slots.{slot_numbers}
use Rattle.law_columns.proofs.Lists.{kept, dropped, flat, ranged_flat, ranged_all}
use Rattle.law_columns.proofs.Slots.{slots_are, length_spaced, spaced_at, ever_here}
use Rattle.law_columns.proofs.Players.{rises, player_by, picked, picked_all, picked_seated}
use Rattle.law_columns.proofs.Rows.{no_frame, Good, InBytes, rows_back, one_back}

-- ---- the players of a frame

pub players_at_lem : (fs : List Frame) (i : ℕ) → players_at fs i ≡ (get_or fs i no_frame).players
unfolding players_at
players_at_lem [] i = refl
players_at_lem (f ∷ fs) zero = refl
players_at_lem (f ∷ fs) (suc i) = players_at_lem fs i

-- the row of a slot that somebody has
module _ (v : Version) (k : ℕ) where
  pre_sized : (ps : List Player) → Each (GoodPlayer v) ps → holds k ps ≡ true → length (slot_row Pre k ps) ≡ size_of Pre v
  unfolding holds slot_row Each
  pre_sized [] h e = no_way e
  pre_sized (p ∷ ps) h e = go (eqb (slot_of p) k) e (pre_sized ps h.1)
    where
      go : (b : Bool) → b || holds k ps ≡ true → (holds k ps ≡ true → length (slot_row Pre k ps) ≡ size_of Pre v) → length (cond b p.pre (slot_row Pre k ps)) ≡ size_of Pre v
      go true q rest = h.0.pre
      go false q rest = rest q

  post_sized : (ps : List Player) → Each (GoodPlayer v) ps → holds k ps ≡ true → length (slot_row Post k ps) ≡ size_of Post v
  unfolding holds slot_row Each
  post_sized [] h e = no_way e
  post_sized (p ∷ ps) h e = go (eqb (slot_of p) k) e (post_sized ps h.1)
    where
      go : (b : Bool) → b || holds k ps ≡ true → (holds k ps ≡ true → length (slot_row Post k ps) ≡ size_of Post v) → length (cond b p.post (slot_row Post k ps)) ≡ size_of Post v
      go true q rest = h.0.post
      go false q rest = rest q

pub pre_bytes : (k : ℕ) (ps : List Player) → Each BytePlayer ps → AreBytes (slot_row Pre k ps)
unfolding slot_row Each
pre_bytes k [] h = tt
pre_bytes k (p ∷ ps) h = go (eqb (slot_of p) k) (pre_bytes k ps h.1)
  where
    go : (b : Bool) → AreBytes (slot_row Pre k ps) → AreBytes (cond b p.pre (slot_row Pre k ps))
    go true rest = h.0.pre
    go false rest = rest

pub post_bytes : (k : ℕ) (ps : List Player) → Each BytePlayer ps → AreBytes (slot_row Post k ps)
unfolding slot_row Each
post_bytes k [] h = tt
post_bytes k (p ∷ ps) h = go (eqb (slot_of p) k) (post_bytes k ps h.1)
  where
    go : (b : Bool) → AreBytes (slot_row Post k ps) → AreBytes (cond b p.post (slot_row Post k ps))
    go true rest = h.0.post
    go false rest = rest

module _ (v : Version) (fs : List Frame) (good : Good v fs) (bytes : InBytes fs) where
  -- the j-th slot
  abbrev slots : List Slot
  slots = slots_of (frames_read v fs)

  pub slot_count : length slots ≡ length (slot_numbers fs)
  slot_count = ap length (slots_are v fs) ∙ length_spaced (presence_len fs) 0 (slot_numbers fs)

  abbrev pub number_at : ℕ → ℕ
  number_at j = get_or (slot_numbers fs) j 0

  pub slot_is : (j : ℕ) → j < length slots → get_or slots j no_slot ≡ slot (number_at j / 2) (number_at j % 2) (j * presence_len fs) (presence_len fs)
  slot_is j l =
      ap (λ (ss : List Slot). get_or ss j no_slot) (slots_are v fs)
      ∙ spaced_at (presence_len fs) 0 (slot_numbers fs) j (omega (arith, slot_count))
      ∙ ap (λ (n : ℕ). slot (number_at j / 2) (number_at j % 2) n (presence_len fs)) (zero-add (j * presence_len fs))

  pub slot_number_lem : (j : ℕ) → j < length slots → slot_number (get_or slots j no_slot) ≡ number_at j
  slot_number_lem j l = ap slot_number (slot_is j l) ∙ omega arith

  module _ (i : ℕ) (l : i < length fs) where
    good_at : GoodFrame v ascending (get_or fs i no_frame)
    good_at = each_at (GoodFrame v ascending) no_frame fs good i l

    bytes_at : ByteFrame (get_or fs i no_frame)
    bytes_at = each_at ByteFrame no_frame fs bytes i l

    abbrev ps : List Player
    ps = (get_or fs i no_frame).players

    players_low : Each (λ p. p.follower ≤ 1) ps
    players_low = each_so (GoodPlayer v) (λ p. p.follower ≤ 1) ps (λ p h. h.follower) good_at.players

    players_few : Each (λ p. slot_of p < 0 + 8) ps
    players_few = each_so (GoodPlayer v) (λ p. slot_of p < 0 + 8) ps (λ p h. omega (arith, h.port, h.follower)) good_at.players

    -- all of them are picked by the slots that are there
    pub players_picked : flat (picked ps) (slot_numbers fs) ≡ ps
    players_picked =
        picked_seated fs ps (λ k e. ever_here k fs i (ap (holds k) (players_at_lem fs i) ∙ e))
        ∙ picked_all 0 8 ps (rises (map slot_of ps) good_at.slots) players_low players_few

    -- a row of a slot that is held
    pub pre_back : (j : ℕ) → j < length slots → holds (number_at j) ps ≡ true
        → cells_bytes (widths_of Pre v) (players_cells v Pre fs) (length fs) (j * (length (widths_of Pre v) * length fs) + i) ≡ slot_row Pre (number_at j) ps
    pre_back j m e =
        let q : row_at v Pre fs slots j i ≡ slot_row Pre (number_at j) ps = ap₂ (λ (k : ℕ) (r : List Player). slot_row Pre k r) (slot_number_lem j m) (players_at_lem fs i) in
        slot_row_back v Pre fs slots j i m l
        (ap length q ∙ pre_sized v (number_at j) ps good_at.players e)
        (bytes_of_lem (row_at v Pre fs slots j i) (rw q (pre_bytes (number_at j) ps bytes_at.players)))
        ∙ q

    pub post_back : (j : ℕ) → j < length slots → holds (number_at j) ps ≡ true
        → cells_bytes (widths_of Post v) (players_cells v Post fs) (length fs) (j * (length (widths_of Post v) * length fs) + i) ≡ slot_row Post (number_at j) ps
    post_back j m e =
        let q : row_at v Post fs slots j i ≡ slot_row Post (number_at j) ps = ap₂ (λ (k : ℕ) (r : List Player). slot_row Post k r) (slot_number_lem j m) (players_at_lem fs i) in
        slot_row_back v Post fs slots j i m l
        (ap length q ∙ post_sized v (number_at j) ps good_at.players e)
        (bytes_of_lem (row_at v Post fs slots j i) (rw q (post_bytes (number_at j) ps bytes_at.players)))
        ∙ q

    -- the j-th slot's player is there where the slot is held
    pub present_back : (j : ℕ) → j < length slots → present_at (slots_presence fs slots) (get_or slots j no_slot) i ≡ holds (number_at j) ps
    present_back j m =
        ap (λ (s : Slot). present_at (slots_presence fs slots) s i) (slot_is j m)
        ∙ slots_marked fs slots j i m l
        ∙ ap₂ (λ (k : ℕ) (r : List Player). holds k r) (slot_number_lem j m) (players_at_lem fs i)

    player_back : (j : ℕ) → j < length slots → holds (number_at j) ps ≡ true → player_at (frames_read v fs) (lent_read v fs) i j ≡ player_by (number_at j) ps
    unfolding frames_read lent_read
    player_back j m e =
        let s = slot_is j m in
        let a = pre_back j m e in
        let b = post_back j m e in
        λ t. record { port = (s t).port; follower = (s t).follower; pre = a t; post = b t }

    one_player : (j : ℕ) → j < length slots
        → keep (present_at (lent_read v fs).presence (get_or slots j no_slot) i) (player_at (frames_read v fs) (lent_read v fs) i j ∷ []) ≡ picked ps (number_at j)
    unfolding lent_read
    one_player j m = go (holds (number_at j) ps) refl
      where
        go : (b : Bool) → holds (number_at j) ps ≡ b → keep (present_at (slots_presence fs slots) (get_or slots j no_slot) i) (player_at (frames_read v fs) (lent_read v fs) i j ∷ []) ≡ picked ps (number_at j)
        go true e = ap₂ (λ (c : Bool) (p : Player). keep c (p ∷ [])) (present_back j m) (player_back j m e)
        go false e = dropped _ _ (present_back j m ∙ e) ∙ sym (dropped (holds (number_at j) ps) (player_by (number_at j) ps ∷ []) e)

    pub players_back : players_in (frames_read v fs) (lent_read v fs) i ≡ ps
    unfolding players_in
    players_back =
        ranged_same _ (λ j. picked ps (number_at j)) 0 (length slots) (λ j a b. one_player j (omega arith))
        ∙ ap (λ (n : ℕ). ranged (λ j. picked ps (number_at j)) 0 n) slot_count
        ∙ ranged_flat (picked ps) 0 (slot_numbers fs)
        ∙ players_picked

    -- one row a frame
    start_back_lem : bytes_of (frames_read v fs) (lent_read v fs) FrameStart 0 i ≡ (get_or fs i no_frame).start
    unfolding frames_read lent_read
    start_back_lem =
        let ws = widths_of FrameStart v in
        let place : 0 * (length ws * length fs) + i ≡ i = rw (zero-mul, zero-add) in
        ap (λ (m : ℕ). cells_bytes ws (rows_cells v FrameStart fs) (length fs) m) place
        ∙ one_back v FrameStart (λ f. f.start) (λ f. refl) fs good bytes
        (each_so (GoodFrame v ascending) (λ f. length f.start ≡ size_of FrameStart v) fs (λ f h. h.start) good) (no_start_lem v) i l

    end_back : bytes_of (frames_read v fs) (lent_read v fs) FrameEnd 0 i ≡ (get_or fs i no_frame).end
    unfolding frames_read lent_read
    end_back =
        let ws = widths_of FrameEnd v in
        let place : 0 * (length ws * length fs) + i ≡ i = rw (zero-mul, zero-add) in
        ap (λ (m : ℕ). cells_bytes ws (rows_cells v FrameEnd fs) (length fs) m) place
        ∙ one_back v FrameEnd (λ f. f.end) (λ f. refl) fs good bytes
        (each_so (GoodFrame v ascending) (λ f. length f.end ≡ size_of FrameEnd v) fs (λ f h. h.end) good) (no_end v) i l

    -- rows with offsets
    fods_back : rows_in (frames_read v fs) (lent_read v fs) FodPlatform i ≡ (get_or fs i no_frame).fods
    unfolding frames_read lent_read rows_in
    fods_back = rows_back v FodPlatform fs good bytes i l

    whispys_back : rows_in (frames_read v fs) (lent_read v fs) DreamlandWhispy i ≡ (get_or fs i no_frame).whispys
    unfolding frames_read lent_read rows_in
    whispys_back = rows_back v DreamlandWhispy fs good bytes i l

    stadiums_back : rows_in (frames_read v fs) (lent_read v fs) StadiumTransformation i ≡ (get_or fs i no_frame).stadiums
    unfolding frames_read lent_read rows_in
    stadiums_back = rows_back v StadiumTransformation fs good bytes i l

    items_back : rows_in (frames_read v fs) (lent_read v fs) Item i ≡ (get_or fs i no_frame).items
    unfolding frames_read lent_read rows_in
    items_back = rows_back v Item fs good bytes i l

    id_back : id_of (lent_read v fs) i ≡ (get_or fs i no_frame).id
    unfolding lent_read
    id_back = get_or-map (λ (f : Frame). f.id) fs i no_frame

    pub frame_back : frame_of (frames_read v fs) (lent_read v fs) i ≡ get_or fs i no_frame
    frame_back = λ t. record {
      id = id_back t;
      start = start_back_lem t;
      players = players_back t;
      fods = fods_back t;
      whispys = whispys_back t;
      stadiums = stadiums_back t;
      items = items_back t;
      end = end_back t;
    }

    -- before 2.2 a frame has somebody
    pub shows_back : shows (frames_read v fs) (lent_read v fs) i ≡ true
    unfolding shows frames_read
    shows_back = go (has_family v FrameStart) refl
      where
        go : (b : Bool) → has_family v FrameStart ≡ b → has_family v FrameStart || not (eqb (length (players_in (frames_read v fs) (lent_read v fs) i)) 0) ≡ true
        go true e = rw e
        go false e =
            let n : length (players_in (frames_read v fs) (lent_read v fs) i) ≡ length ps = ap length players_back in
            or_true (has_family v FrameStart) _ (other (length (players_in (frames_read v fs) (lent_read v fs) i)) 0 (λ z. omega (arith, good_at.somebody e)))

  -- the tree of what is read back is the tree that was read
  pub tree_back : frames_of (frames_read v fs) (lent_read v fs) ≡ fs
  unfolding frames_of frames_read
  tree_back =
      ranged_same _ (λ i. get_or fs i no_frame ∷ []) 0 (length fs)
      (λ i a b. kept (shows (frames_read v fs) (lent_read v fs) i) _ (shows_back i (omega arith)) ∙ ap (λ (f : Frame). f ∷ []) (frame_back i (omega arith)))
      ∙ ranged_all no_frame fs

-- so that no two replays are read back as the same: nothing is lost
pub nothing_lost : (v : Version) (fs gs : List Frame) → Good v fs → InBytes fs → Good v gs → InBytes gs → frames_read v fs ≡ frames_read v gs → lent_read v fs ≡ lent_read v gs → fs ≡ gs
nothing_lost v fs gs a b c d e q = sym (tree_back v fs a b) ∙ ap₂ (λ (f : Frames) (s : Lent). frames_of f s) e q ∙ tree_back v gs c d
