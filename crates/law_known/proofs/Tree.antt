-- The payloads in a replay's events are those of its tree: rows in their order, and a player's by frame and slot.
-- Assumes nothing.
use Prim.Native.Nat.{ℕ, zero, suc, ◌+◌}
use mathlib.Core.Path.{◌≡◌, refl, sym, ap, ◌∙◌}
use mathlib.Core.Bool.{Bool, true, false, cond, ◌&&◌}
use mathlib.Core.List.{List, [], ◌∷◌, ◌++◌, map, append_assoc, append-nil}
use native.Mathlib.Omega.{arith}
use borrow.Author.Tests.{eq-eqb}
use lib.Dec.{eqb}
use lib.ListN.{get_or, drop, take}
use lib.Seq.{drop_at, take_at}
use Rattle.wire.specs.Wire.{be, number, keep}
use Rattle.wire.proofs.Laws.{length_be, number_be}
use Rattle.format.specs.Event.{code_of}
use Rattle.format.specs.File.{Ev}
use Rattle.format.specs.declared.version.Version.{Version}
use Rattle.layout.specs.Payloads.{event_of, head_size}
use Rattle.layout.specs.declared.columns.Family.{Family}
use Rattle.layout.specs.declared.columns.Family.TheVariants.{Pre, Post, FrameStart, Item, FrameEnd, FodPlatform, DreamlandWhispy, StadiumTransformation}
use Rattle.grammar.specs.Productions.{Player, Frame, Block, Replay, row_event, pre_event, post_event, events_of_frame, events_of_frames, block_event, codes_events, start_event, end_event, events_of}
use Rattle.grammar.specs.WellFormed.{Each, slot_of, Order, GoodFrame, WellFormed}
use Rattle.grammar.specs.Machine.{slot_said, said_by}
use Rattle.grammar.proofs.Unique.{whole, after_start, after_pres, after_fods, after_whispys, after_stadiums, after_items, after_posts, frame_then}
use Rattle.columns.specs.Columns.{players_at, rows_here, rows_there, row_by, slot_row, ids_read}
use Rattle.known.specs.Known.{is_newer}
use Rattle.known.proofs.Newest.{has_family_lem}
use Rattle.law_known.specs.Shown.{is_of, payloads_of, until_start, frames_in, payload_by}

-- ---- events of other families

abbrev Not : Family → List Ev → Type 0
Not family es = Each (λ e. is_of family e ≡ false) es

not_map : {A : Type 0} (family : Family) (g : A → Ev) → ((a : A) → is_of family (g a) ≡ false) → (xs : List A) → Not family (map g xs)
unfolding Each
not_map family g h [] = tt
not_map family g h (x ∷ xs) = (h x, not_map family g h xs)

-- starts, blocks and ends are of no family
no_start_lem : (family : Family) (bytes : List ℕ) → is_of family (start_event bytes) ≡ false
unfolding is_of
no_start_lem Pre bytes = refl
no_start_lem Post bytes = refl
no_start_lem FrameStart bytes = refl
no_start_lem Item bytes = refl
no_start_lem FrameEnd bytes = refl
no_start_lem FodPlatform bytes = refl
no_start_lem DreamlandWhispy bytes = refl
no_start_lem StadiumTransformation bytes = refl

no_block : (family : Family) (flag : ℕ) (b : Block) → is_of family (block_event flag b) ≡ false
unfolding is_of
no_block Pre flag b = refl
no_block Post flag b = refl
no_block FrameStart flag b = refl
no_block Item flag b = refl
no_block FrameEnd flag b = refl
no_block FodPlatform flag b = refl
no_block DreamlandWhispy flag b = refl
no_block StadiumTransformation flag b = refl

no_end : (family : Family) (bytes : List ℕ) → is_of family (end_event bytes) ≡ false
unfolding is_of
no_end Pre bytes = refl
no_end Post bytes = refl
no_end FrameStart bytes = refl
no_end Item bytes = refl
no_end FrameEnd bytes = refl
no_end FodPlatform bytes = refl
no_end DreamlandWhispy bytes = refl
no_end StadiumTransformation bytes = refl

no_codes : (family : Family) (bs : List Block) → Not family (codes_events bs)
unfolding Each codes_events
no_codes family [] = tt
no_codes family (b ∷ []) = (no_block family 1 b, tt)
no_codes family (b ∷ c ∷ bs) = (no_block family 0 b, no_codes family (c ∷ bs))

-- what stands before the frames, and behind them
abbrev before : Replay → List Ev
before r = start_event r.block ∷ codes_events r.codes

not_before : (family : Family) (r : Replay) → Not family (before r)
unfolding Each
not_before family r = (no_start_lem family r.block, no_codes family r.codes)

abbrev behind : Replay → List Ev
behind r = map end_event r.ends

not_behind : (family : Family) (r : Replay) → Not family (behind r)
not_behind family r = not_map family end_event (no_end family) r.ends

-- ---- rows, without their ids

-- a row of one family is of another: they are the same
abbrev kin : Family → Family → Bool
kin family other = eqb (code_of (event_of other)) (code_of (event_of family))

row_kin : (family other : Family) (id : ℕ) (bytes : List ℕ) → is_of family (row_event other id bytes) ≡ kin family other
unfolding is_of
row_kin family other id bytes = refl

module _ (family : Family) where
  abbrev pub rows_in : List Ev → List (List ℕ)
  rows_in es = map (drop 4) (payloads_of family es)

  rows_one : (e : Ev) (t : List Ev) (b : Bool) → is_of family e ≡ b → rows_in (e ∷ t) ≡ keep b (drop 4 e.payload ∷ []) ++ rows_in t
  unfolding payloads_of keep
  rows_one e t true h = rw h
  rows_one e t false h = rw h

  rows_none : (xs t : List Ev) → Not family xs → rows_in (xs ++ t) ≡ rows_in t
  unfolding Each keep
  rows_none [] t h = refl
  rows_none (x ∷ xs) t h = rows_one x (xs ++ t) false h.0 ∙ rows_none xs t h.1

  rows_skip : {A : Type 0} (g : A → Ev) → ((a : A) → is_of family (g a) ≡ false) → (xs : List A) (t : List Ev) → rows_in (map g xs ++ t) ≡ rows_in t
  rows_skip g h xs t = rows_none (map g xs) t (not_map family g h xs)

  rows_part : (other : Family) (id : ℕ) (b : Bool) → kin family other ≡ b → (rows : List (List ℕ)) (t : List Ev) → rows_in (map (row_event other id) rows ++ t) ≡ keep b rows ++ rows_in t
  unfolding keep
  rows_part other id true k [] t = refl
  rows_part other id true k (b ∷ rows) t =
      rows_one (row_event other id b) (map (row_event other id) rows ++ t) true (row_kin family other id b ∙ k)
      ∙ (λ i. drop_at (be 4 id) b 4 (length_be 4 id) i ∷ rows_part other id true k rows t i)
  rows_part other id false k rows t = rows_skip (row_event other id) (λ b. row_kin family other id b ∙ k) rows t

-- a frame where all families are
frame_whole : (v : Version) → is_newer v ≡ true → (f : Frame) (t : List Ev) → events_of_frame v f ++ t ≡ whole true true f t
frame_whole v newer f t = frame_then v f t ∙ (λ i. whole (has_family_lem v newer FrameStart i) (has_family_lem v newer FrameEnd i) f t)

module _ (v : Version) (newer : is_newer v ≡ true) where
  whole_rows : (family : Family) → kin family Pre ≡ false → kin family Post ≡ false → (f : Frame) (t : List Ev)
      → rows_in family (whole true true f t)
      ≡ keep (kin family FrameStart) (f.start ∷ [])
      ++ (keep (kin family FodPlatform) f.fods
      ++ (keep (kin family DreamlandWhispy) f.whispys
      ++ (keep (kin family StadiumTransformation) f.stadiums
      ++ (keep (kin family Item) f.items ++ (keep (kin family FrameEnd) (f.end ∷ []) ++ rows_in family t)))))
  unfolding keep
  whole_rows family pre post f t =
      let one : (other : Family) (rows : List (List ℕ)) (t : List Ev) → rows_in family (map (row_event other f.id) rows ++ t) ≡ keep (kin family other) rows ++ rows_in family t
      = λ other rows t. rows_part family other f.id (kin family other) refl rows t in
      one FrameStart (f.start ∷ []) (after_start true f t)
      ∙ ap (λ (l : List (List ℕ)). keep (kin family FrameStart) (f.start ∷ []) ++ l)
      (rows_skip family (pre_event f.id) (λ p. row_kin family Pre f.id (p.port ∷ p.follower ∷ p.pre) ∙ pre) f.players (after_pres true f t)
      ∙ one FodPlatform f.fods (after_fods true f t)
      ∙ ap (λ (l : List (List ℕ)). keep (kin family FodPlatform) f.fods ++ l)
      (one DreamlandWhispy f.whispys (after_whispys true f t)
      ∙ ap (λ (l : List (List ℕ)). keep (kin family DreamlandWhispy) f.whispys ++ l)
      (one StadiumTransformation f.stadiums (after_stadiums true f t)
      ∙ ap (λ (l : List (List ℕ)). keep (kin family StadiumTransformation) f.stadiums ++ l)
      (one Item f.items (after_items true f t)
      ∙ ap (λ (l : List (List ℕ)). keep (kin family Item) f.items ++ l)
      (rows_skip family (post_event f.id) (λ p. row_kin family Post f.id (p.port ∷ p.follower ∷ p.post) ∙ post) f.players (after_posts true f t)
      ∙ one FrameEnd (f.end ∷ []) t)))))

  frame_rows : (family : Family) → head_size family ≡ 4 → (f : Frame) (t : List Ev) → rows_in family (whole true true f t) ≡ rows_here v family f ++ rows_in family t
  unfolding keep
  frame_rows Pre four f t = absurd (omega arith)
  frame_rows Post four f t = absurd (omega arith)
  frame_rows FrameStart four f t = whole_rows FrameStart refl refl f t ∙ (λ i. keep (sym (has_family_lem v newer FrameStart) i) (f.start ∷ []) ++ rows_in FrameStart t)
  frame_rows FrameEnd four f t = whole_rows FrameEnd refl refl f t ∙ (λ i. keep (sym (has_family_lem v newer FrameEnd) i) (f.end ∷ []) ++ rows_in FrameEnd t)
  frame_rows FodPlatform four f t = whole_rows FodPlatform refl refl f t
  frame_rows DreamlandWhispy four f t = whole_rows DreamlandWhispy refl refl f t
  frame_rows StadiumTransformation four f t = whole_rows StadiumTransformation refl refl f t
  frame_rows Item four f t = whole_rows Item refl refl f t

  frames_rows : (family : Family) → head_size family ≡ 4 → (fs : List Frame) (t : List Ev) → rows_in family (events_of_frames v fs ++ t) ≡ rows_there v family fs ++ rows_in family t
  unfolding events_of_frames rows_there
  frames_rows family four [] t = refl
  frames_rows family four (f ∷ fs) t =
      ap (rows_in family) (append_assoc (events_of_frame v f) (events_of_frames v fs) t ∙ frame_whole v newer f (events_of_frames v fs ++ t))
      ∙ frame_rows family four f (events_of_frames v fs ++ t)
      ∙ ap (λ (l : List (List ℕ)). rows_here v family f ++ l) (frames_rows family four fs t)
      ∙ sym (append_assoc (rows_here v family f) (rows_there v family fs) (rows_in family t))

  -- of all events, the rows of the tree
  pub tree_rows : (family : Family) → head_size family ≡ 4 → (r : Replay) → rows_in family (events_of v r) ≡ rows_there v family r.frames
  unfolding events_of payloads_of
  tree_rows family four r =
      rows_none family (before r) (events_of_frames v r.frames ++ behind r) (not_before family r)
      ∙ frames_rows family four r.frames (behind r)
      ∙ ap (λ (l : List (List ℕ)). rows_there v family r.frames ++ l) (ap (rows_in family) (sym (append-nil (behind r))) ∙ rows_none family (behind r) [] (not_behind family r))
      ∙ append-nil (rows_there v family r.frames)

-- ---- a player's payload, by frame and slot

until_none : (xs t : List Ev) → Not FrameStart xs → until_start (xs ++ t) ≡ xs ++ until_start t
unfolding Each until_start
until_none [] t h = refl
until_none (x ∷ xs) t h = rw h.0 (ap (λ (l : List Ev). x ∷ l) (until_none xs t h.1))

frames_none : (xs t : List Ev) → Not FrameStart xs → frames_in (xs ++ t) ≡ frames_in t
unfolding Each frames_in keep
frames_none [] t h = refl
frames_none (x ∷ xs) t h = rw h.0 (frames_none xs t h.1)

by_none : (family : Family) (k : ℕ) (xs t : List Ev) → Not family xs → payload_by family k (xs ++ t) ≡ payload_by family k t
unfolding Each payload_by
by_none family k [] t h = refl
by_none family k (x ∷ xs) t h = rw h.0 (by_none family k xs t h.1)

until_skip : {A : Type 0} (g : A → Ev) → ((a : A) → is_of FrameStart (g a) ≡ false) → (xs : List A) (t u : List Ev) → until_start t ≡ u → until_start (map g xs ++ t) ≡ map g xs ++ u
until_skip g h xs t u e = until_none (map g xs) t (not_map FrameStart g h xs) ∙ ap (λ (l : List Ev). map g xs ++ l) e

frames_skip : {A : Type 0} (g : A → Ev) → ((a : A) → is_of FrameStart (g a) ≡ false) → (xs : List A) (t : List Ev) → frames_in (map g xs ++ t) ≡ frames_in t
frames_skip g h xs t = frames_none (map g xs) t (not_map FrameStart g h xs)

-- the row of a player
abbrev player_event : Family → ℕ → Player → Ev
player_event family id p = row_event family id (p.port ∷ p.follower ∷ row_by family p)

said_slot : (family : Family) (id : ℕ) (p : Player) → slot_said (said_by (player_event family id p)) ≡ slot_of p
unfolding be
said_slot family id p = refl

said_row : (family : Family) (id : ℕ) (p : Player) → drop 6 (player_event family id p).payload ≡ row_by family p
unfolding be
said_row family id p = refl

by_first : (family : Family) (id k : ℕ) (p : Player) (t : List Ev)
    → payload_by family k (player_event family id p ∷ t) ≡ cond (eqb (slot_of p) k) (player_event family id p).payload (payload_by family k t)
unfolding payload_by
by_first family id k p t =
    let same = row_kin family family id (p.port ∷ p.follower ∷ row_by family p) ∙ eq-eqb (code_of (event_of family)) (code_of (event_of family)) refl in
    λ i. cond (same i && eqb (said_slot family id p i) k) (player_event family id p).payload (payload_by family k t)

by_skip : {A : Type 0} (family : Family) (k : ℕ) (g : A → Ev) → ((a : A) → is_of family (g a) ≡ false) → (xs : List A) (t : List Ev) → payload_by family k (map g xs ++ t) ≡ payload_by family k t
by_skip family k g h xs t = by_none family k (map g xs) t (not_map family g h xs)

by_own : (family : Family) (id k : ℕ) (t : List Ev) → payload_by family k t ≡ [] → (ps : List Player) → drop 6 (payload_by family k (map (player_event family id) ps ++ t)) ≡ slot_row family k ps
unfolding slot_row
by_own family id k t e [] = ap (drop 6) e
by_own family id k t e (p ∷ ps) = ap (drop 6) (by_first family id k p (map (player_event family id) ps ++ t)) ∙ step (eqb (slot_of p) k) (by_own family id k t e ps)
  where
    rest : List Ev
    rest = map (player_event family id) ps ++ t

    step : (b : Bool) → drop 6 (payload_by family k rest) ≡ slot_row family k ps
        → drop 6 (cond b (player_event family id p).payload (payload_by family k rest)) ≡ cond b (row_by family p) (slot_row family k ps)
    step true ih = said_row family id p
    step false ih = ih

module _ (f : Frame) (k : ℕ) (u : List Ev) where
  -- a player's events of a frame, among those behind its start, with others behind them
  pres_by : payload_by Pre k u ≡ [] → drop 6 (payload_by Pre k (after_start true f u)) ≡ slot_row Pre k f.players
  unfolding is_of keep
  pres_by e =
      by_own Pre f.id k (after_pres true f u)
      (by_skip Pre k (row_event FodPlatform f.id) (λ a. refl) f.fods (after_fods true f u)
      ∙ by_skip Pre k (row_event DreamlandWhispy f.id) (λ a. refl) f.whispys (after_whispys true f u)
      ∙ by_skip Pre k (row_event StadiumTransformation f.id) (λ a. refl) f.stadiums (after_stadiums true f u)
      ∙ by_skip Pre k (row_event Item f.id) (λ a. refl) f.items (after_items true f u)
      ∙ by_skip Pre k (post_event f.id) (λ a. refl) f.players (after_posts true f u)
      ∙ by_skip Pre k (row_event FrameEnd f.id) (λ a. refl) (f.end ∷ []) u
      ∙ e) f.players

  posts_by : payload_by Post k u ≡ [] → drop 6 (payload_by Post k (after_start true f u)) ≡ slot_row Post k f.players
  unfolding is_of keep
  posts_by e =
      ap (drop 6)
      (by_skip Post k (pre_event f.id) (λ a. refl) f.players (after_pres true f u)
      ∙ by_skip Post k (row_event FodPlatform f.id) (λ a. refl) f.fods (after_fods true f u)
      ∙ by_skip Post k (row_event DreamlandWhispy f.id) (λ a. refl) f.whispys (after_whispys true f u)
      ∙ by_skip Post k (row_event StadiumTransformation f.id) (λ a. refl) f.stadiums (after_stadiums true f u)
      ∙ by_skip Post k (row_event Item f.id) (λ a. refl) f.items (after_items true f u))
      ∙ by_own Post f.id k (after_posts true f u) (by_skip Post k (row_event FrameEnd f.id) (λ a. refl) (f.end ∷ []) u ∙ e) f.players

  players_by : (family : Family) → head_size family ≡ 6 → payload_by family k u ≡ [] → drop 6 (payload_by family k (after_start true f u)) ≡ slot_row family k f.players
  players_by Pre six e = pres_by e
  players_by Post six e = posts_by e
  players_by FrameStart six e = absurd (omega arith)
  players_by FrameEnd six e = absurd (omega arith)
  players_by FodPlatform six e = absurd (omega arith)
  players_by DreamlandWhispy six e = absurd (omega arith)
  players_by StadiumTransformation six e = absurd (omega arith)
  players_by Item six e = absurd (omega arith)

  -- up to the next frame
  after_until : until_start (after_start true f u) ≡ after_start true f (until_start u)
  unfolding is_of keep
  after_until =
      until_skip (pre_event f.id) (λ a. refl) f.players (after_pres true f u) (after_pres true f (until_start u))
      (until_skip (row_event FodPlatform f.id) (λ a. refl) f.fods (after_fods true f u) (after_fods true f (until_start u))
      (until_skip (row_event DreamlandWhispy f.id) (λ a. refl) f.whispys (after_whispys true f u) (after_whispys true f (until_start u))
      (until_skip (row_event StadiumTransformation f.id) (λ a. refl) f.stadiums (after_stadiums true f u) (after_stadiums true f (until_start u))
      (until_skip (row_event Item f.id) (λ a. refl) f.items (after_items true f u) (after_items true f (until_start u))
      (until_skip (post_event f.id) (λ a. refl) f.players (after_posts true f u) (after_posts true f (until_start u))
      (until_skip (row_event FrameEnd f.id) (λ a. refl) (f.end ∷ []) u (until_start u) refl))))))

  after_frames_lem : frames_in (after_start true f u) ≡ frames_in u
  unfolding is_of keep
  after_frames_lem =
      frames_skip (pre_event f.id) (λ a. refl) f.players (after_pres true f u)
      ∙ frames_skip (row_event FodPlatform f.id) (λ a. refl) f.fods (after_fods true f u)
      ∙ frames_skip (row_event DreamlandWhispy f.id) (λ a. refl) f.whispys (after_whispys true f u)
      ∙ frames_skip (row_event StadiumTransformation f.id) (λ a. refl) f.stadiums (after_stadiums true f u)
      ∙ frames_skip (row_event Item f.id) (λ a. refl) f.items (after_items true f u)
      ∙ frames_skip (post_event f.id) (λ a. refl) f.players (after_posts true f u)
      ∙ frames_skip (row_event FrameEnd f.id) (λ a. refl) (f.end ∷ []) u

  whole_frames : frames_in (whole true true f u) ≡ after_start true f (until_start u) ∷ frames_in u
  unfolding frames_in is_of keep
  whole_frames = λ i. after_until i ∷ after_frames_lem i

  whole_until : until_start (whole true true f u) ≡ []
  unfolding until_start is_of keep
  whole_until = refl

module _ (v : Version) (newer : is_newer v ≡ true) (t : List Ev) where
  frames_next : (f : Frame) (fs : List Frame) → events_of_frames v (f ∷ fs) ++ t ≡ whole true true f (events_of_frames v fs ++ t)
  unfolding events_of_frames
  frames_next f fs = append_assoc (events_of_frame v f) (events_of_frames v fs) t ∙ frame_whole v newer f (events_of_frames v fs ++ t)

  frames_end : (fs : List Frame) (family : Family) (k : ℕ) → Not FrameStart t → Not family t → payload_by family k (until_start (events_of_frames v fs ++ t)) ≡ []
  unfolding events_of_frames payload_by until_start
  frames_end [] family k start none =
      ap (payload_by family k) (ap until_start (sym (append-nil t)) ∙ until_none t [] start) ∙ by_none family k t [] none
  frames_end (f ∷ fs) family k start none = ap (payload_by family k) (ap until_start (frames_next f fs) ∙ whole_until f k (events_of_frames v fs ++ t))

  frames_over : (family : Family) (k : ℕ) → Not FrameStart t → (i : ℕ) → drop 6 (payload_by family k (get_or (frames_in (events_of_frames v [] ++ t)) i [])) ≡ []
  unfolding events_of_frames frames_in payload_by
  frames_over family k start i = ap (λ (l : List (List Ev)). drop 6 (payload_by family k (get_or l i []))) (ap frames_in (sym (append-nil t)) ∙ frames_none t [] start)

  frames_by_lem : (family : Family) → head_size family ≡ 6 → (k : ℕ) → Not FrameStart t → Not family t → (fs : List Frame) (i : ℕ)
      → drop 6 (payload_by family k (get_or (frames_in (events_of_frames v fs ++ t)) i [])) ≡ slot_row family k (players_at fs i)
  unfolding players_at slot_row
  frames_by_lem family six k start none [] i = frames_over family k start i
  frames_by_lem family six k start none (f ∷ fs) zero =
      ap (λ (es : List Ev). drop 6 (payload_by family k (get_or (frames_in es) 0 []))) (frames_next f fs)
      ∙ ap (λ (l : List (List Ev)). drop 6 (payload_by family k (get_or l 0 []))) (whole_frames f k (events_of_frames v fs ++ t))
      ∙ players_by f k (until_start (events_of_frames v fs ++ t)) family six (frames_end fs family k start none)
  frames_by_lem family six k start none (f ∷ fs) (suc i) =
      ap (λ (es : List Ev). drop 6 (payload_by family k (get_or (frames_in es) (suc i) []))) (frames_next f fs)
      ∙ ap (λ (l : List (List Ev)). drop 6 (payload_by family k (get_or l (suc i) []))) (whole_frames f k (events_of_frames v fs ++ t))
      ∙ frames_by_lem family six k start none fs i

-- of all events, a player's of slot k in frame i
pub tree_player : (v : Version) → is_newer v ≡ true → (family : Family) → head_size family ≡ 6 → (k : ℕ) (r : Replay) (i : ℕ)
    → drop 6 (payload_by family k (get_or (frames_in (events_of v r)) i [])) ≡ slot_row family k (players_at r.frames i)
unfolding events_of
tree_player v newer family six k r i =
    ap (λ (l : List (List Ev)). drop 6 (payload_by family k (get_or l i []))) (frames_none (before r) (events_of_frames v r.frames ++ behind r) (not_before FrameStart r))
    ∙ frames_by_lem v newer (behind r) family six k (not_behind FrameStart r) (not_behind family r) r.frames i

-- ---- the ids of frames stand in their starts

starts_none : (xs t : List Ev) → Not FrameStart xs → payloads_of FrameStart (xs ++ t) ≡ payloads_of FrameStart t
unfolding Each payloads_of keep
starts_none [] t h = refl
starts_none (x ∷ xs) t h = rw h.0 (starts_none xs t h.1)

starts_skip : {A : Type 0} (g : A → Ev) → ((a : A) → is_of FrameStart (g a) ≡ false) → (xs : List A) (t : List Ev) → payloads_of FrameStart (map g xs ++ t) ≡ payloads_of FrameStart t
starts_skip g h xs t = starts_none (map g xs) t (not_map FrameStart g h xs)

whole_starts : (f : Frame) (t : List Ev) → payloads_of FrameStart (whole true true f t) ≡ (row_event FrameStart f.id f.start).payload ∷ payloads_of FrameStart t
unfolding payloads_of is_of keep
whole_starts f t =
    ap (λ (l : List (List ℕ)). (row_event FrameStart f.id f.start).payload ∷ l)
    (starts_skip (pre_event f.id) (λ a. refl) f.players (after_pres true f t)
    ∙ starts_skip (row_event FodPlatform f.id) (λ a. refl) f.fods (after_fods true f t)
    ∙ starts_skip (row_event DreamlandWhispy f.id) (λ a. refl) f.whispys (after_whispys true f t)
    ∙ starts_skip (row_event StadiumTransformation f.id) (λ a. refl) f.stadiums (after_stadiums true f t)
    ∙ starts_skip (row_event Item f.id) (λ a. refl) f.items (after_items true f t)
    ∙ starts_skip (post_event f.id) (λ a. refl) f.players (after_posts true f t)
    ∙ starts_skip (row_event FrameEnd f.id) (λ a. refl) (f.end ∷ []) t)

-- the first four bytes as a number
abbrev pub id_of : List ℕ → ℕ
id_of p = number (take 4 p)

frames_ids : (v : Version) → is_newer v ≡ true → (o : Order) (fs : List Frame) (t : List Ev) → Each (GoodFrame v o) fs
    → map id_of (payloads_of FrameStart (events_of_frames v fs ++ t)) ≡ ids_read fs ++ map id_of (payloads_of FrameStart t)
unfolding Each events_of_frames
frames_ids v newer o [] t h = refl
frames_ids v newer o (f ∷ fs) t h =
    let id : id_of (row_event FrameStart f.id f.start).payload ≡ f.id
    = ap number (take_at (be 4 f.id) f.start 4 (length_be 4 f.id)) ∙ number_be 4 f.id h.0.id in
    ap (λ (es : List Ev). map id_of (payloads_of FrameStart es)) (append_assoc (events_of_frame v f) (events_of_frames v fs) t ∙ frame_whole v newer f (events_of_frames v fs ++ t))
    ∙ ap (map id_of) (whole_starts f (events_of_frames v fs ++ t))
    ∙ (λ i. id i ∷ frames_ids v newer o fs t h.1 i)

pub tree_ids : (v : Version) → is_newer v ≡ true → (o : Order) (r : Replay) → WellFormed v o r → map id_of (payloads_of FrameStart (events_of v r)) ≡ ids_read r.frames
unfolding events_of payloads_of
tree_ids v newer o r w =
    ap (map id_of) (starts_none (before r) (events_of_frames v r.frames ++ behind r) (not_before FrameStart r))
    ∙ frames_ids v newer o r.frames (behind r) w.frames
    ∙ ap (λ (l : List (List ℕ)). ids_read r.frames ++ map id_of l) (ap (payloads_of FrameStart) (sym (append-nil (behind r))) ∙ starts_none (behind r) [] (not_behind FrameStart r))
    ∙ append-nil (ids_read r.frames)
