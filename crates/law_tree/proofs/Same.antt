-- The events of a game are those of its tree.
-- Assumes nothing.
use mathlib.Core.Path.{◌≡◌, refl, sym, ap, ap₂, ◌∙◌}
use mathlib.Core.Bool.{Bool, true, false, not, ◌||◌}
use mathlib.Core.List.{List, [], ◌∷◌, ◌++◌, map, append_assoc, append-nil}
use Prim.Native.Nat.{ℕ, zero, suc, ◌+◌, ◌*◌}
use native.Mathlib.Omega.{arith}
use borrow.Author.Tests.{eq-eqb, ne_eqb}
use lib.Dec.{eqb}
use lib.ListN.{length, get_or}
use Rattle.wire.specs.Wire.{part, ranged, keep}
use Rattle.wire.proofs.Laws.{ranged_same}
use Rattle.format.specs.File.{Ev}
use Rattle.format.specs.Mark.{yes}
use Rattle.format.specs.Version.{gte_of}
use Rattle.format.specs.declared.version.Version.{Version}
use Rattle.format.proofs.Versions.{gte_fails, gte_below}
use Rattle.layout.specs.Columns.{has_family}
use Rattle.layout.specs.declared.columns.Family.{Family}
use Rattle.layout.specs.declared.columns.Family.TheVariants.{Pre, Post, FrameStart, Item, FrameEnd, FodPlatform, DreamlandWhispy, StadiumTransformation}
use Rattle.game.specs.Frames.{no_slot, slots_of}
use Rattle.game.specs.Stores.{Lent, Stores}
use Rattle.players.specs.Presence.{present_at}
use Rattle.game.specs.declared.frames.Frames.{Frames}
use Rattle.codes.specs.Blocks.{block_count, used, last_flag, code_block, code_events}
use Rattle.ending.specs.End.{end_of, end_events}
use Rattle.game.specs.declared.end.End.{End}
use Rattle.events.specs.Events as game
use Rattle.events.specs.Events.{id_of, one_event, row_events, player_events}
use Rattle.ser.specs.Write.{events}
use Rattle.game.specs.declared.Game.{Game}
use Rattle.grammar.specs.Productions.{Player, Frame, Block, row_event, pre_event, post_event, events_of_frame, events_of_frames, codes_events, block_event, end_event, events_of}
use Rattle.law_tree.specs.Tree.{bytes_of, rows_in, player_at, players_in, frame_of, shows, frames_of, blocks_of, end_bytes, ends_of, replay_of}

-- ---- lists

module _ {A B : Type 0} (g : A → B) where
  pub map_both : (xs ys : List A) → map g (xs ++ ys) ≡ map g xs ++ map g ys
  map_both [] ys = refl
  map_both (x ∷ xs) ys = ap (λ (l : List B). g x ∷ l) (map_both xs ys)

  pub map_ranged : (h : ℕ → List A) (i n : ℕ) → map g (ranged h i n) ≡ ranged (λ j. map g (h j)) i n
  unfolding ranged
  map_ranged h i zero = refl
  map_ranged h i (suc n) = map_both (h i) _ ∙ ap (λ (l : List B). map g (h i) ++ l) (map_ranged h (i + 1) n)

  pub map_keep : (b : Bool) (xs : List A) → map g (keep b xs) ≡ keep b (map g xs)
  unfolding keep
  map_keep true xs = refl
  map_keep false xs = refl

-- ---- a frame

module _ (f : Frames) (lent : Lent) (i : ℕ) where
  one_is : (family : Family) → one_event f lent family i ≡ keep (has_family f.version family) (row_event family (id_of lent i) (bytes_of f lent family 0 i) ∷ [])
  unfolding one_event keep
  one_is family = refl

  rows_are : (family : Family) → row_events f lent family i ≡ map (row_event family (id_of lent i)) (rows_in f lent family i)
  unfolding row_events rows_in keep
  rows_are family =
      let g = row_event family (id_of lent i) in
      sym (map_keep g (has_family f.version family) _ ∙ ap (λ (l : List Ev). keep (has_family f.version family) l) (map_ranged g (λ j. bytes_of f lent family 0 j ∷ []) _ _))

  pres_are : player_events f lent Pre i ≡ map (pre_event (id_of lent i)) (players_in f lent i)
  unfolding player_events players_in keep
  pres_are =
      let g = pre_event (id_of lent i) in
      sym (map_ranged g _ 0 (length (slots_of f)) ∙ ranged_same _ _ 0 (length (slots_of f)) (λ k l m. map_keep g (present_at lent.presence (get_or (slots_of f) k no_slot) i) (player_at f lent i k ∷ [])))

  posts_are : player_events f lent Post i ≡ map (post_event (id_of lent i)) (players_in f lent i)
  unfolding player_events players_in keep
  posts_are =
      let g = post_event (id_of lent i) in
      sym (map_ranged g _ 0 (length (slots_of f)) ∙ ranged_same _ _ 0 (length (slots_of f)) (λ k l m. map_keep g (present_at lent.presence (get_or (slots_of f) k no_slot) i) (player_at f lent i k ∷ [])))

  frame_is : game.frame_events f lent i ≡ events_of_frame f.version (frame_of f lent i)
  unfolding game.frame_events events_of_frame
  frame_is = rw (one_is FrameStart, pres_are, rows_are FodPlatform, rows_are DreamlandWhispy, rows_are StadiumTransformation, rows_are Item, posts_are, one_is FrameEnd)

-- ---- frames

older : (v : Version) (m : ℕ) → gte_of v 2 2 ≡ false → gte_of v 3 m ≡ false
older v m p = let (up, tie) = gte_fails v 2 2 p in gte_below v 3 m (omega arith) (λ (e : v.major ≡ 3). absurd (omega arith))

module _ (v : Version) (e : has_family v FrameStart ≡ false) where
  lacks_3 : (has_family v Item ≡ false) × (has_family v FrameEnd ≡ false)
  unfolding has_family
  lacks_3 = (older v 0 e, older v 0 e)

  lacks_18 : (has_family v FodPlatform ≡ false) × (has_family v DreamlandWhispy ≡ false) × (has_family v StadiumTransformation ≡ false)
  unfolding has_family
  lacks_18 = (older v 18 e, older v 18 e, older v 18 e)

module _ (f : Frames) (lent : Lent) (i : ℕ) where
  no_rows : (family : Family) → has_family f.version family ≡ false → rows_in f lent family i ≡ []
  unfolding rows_in keep
  no_rows family e = rw e

  -- before 2.2 a frame with nobody in it has no events
  nothing : has_family f.version FrameStart ≡ false → players_in f lent i ≡ [] → events_of_frame f.version (frame_of f lent i) ≡ []
  unfolding events_of_frame keep
  nothing e n =
      let (item, end) = lacks_3 f.version e in
      let (fod, whispy, stadium) = lacks_18 f.version e in
      rw (e, n, no_rows Item item, no_rows FodPlatform fod, no_rows DreamlandWhispy whispy, no_rows StadiumTransformation stadium, end)

  kept : events_of_frames f.version (frame_of f lent i ∷ []) ≡ game.frame_events f lent i
  unfolding events_of_frames
  kept = append-nil (events_of_frame f.version (frame_of f lent i)) ∙ sym (frame_is f lent i)

  kept_is : events_of_frames f.version (keep (shows f lent i) (frame_of f lent i ∷ [])) ≡ game.frame_events f lent i
  unfolding shows keep events_of_frames
  kept_is = go (has_family f.version FrameStart) refl (players_in f lent i) refl
    where
      go : (b : Bool) → has_family f.version FrameStart ≡ b → (ps : List Player) → players_in f lent i ≡ ps
          → events_of_frames f.version (keep (b || not (eqb (length ps) 0)) (frame_of f lent i ∷ [])) ≡ game.frame_events f lent i
      go true e ps q = kept
      go false e (p ∷ ps) q = rw (ne_eqb (suc (length ps)) 0 (λ x. omega arith)) kept
      go false e [] q = sym (frame_is f lent i ∙ nothing e q)

frames_both : (v : Version) (fs gs : List Frame) → events_of_frames v (fs ++ gs) ≡ events_of_frames v fs ++ events_of_frames v gs
unfolding events_of_frames
frames_both v [] gs = refl
frames_both v (f ∷ fs) gs = rw (frames_both v fs gs) (sym (append_assoc (events_of_frame v f) (events_of_frames v fs) (events_of_frames v gs)))

frames_ranged : (v : Version) (g : ℕ → List Frame) (i n : ℕ) → events_of_frames v (ranged g i n) ≡ ranged (λ j. events_of_frames v (g j)) i n
unfolding events_of_frames ranged
frames_ranged v g i zero = refl
frames_ranged v g i (suc n) = frames_both v (g i) (ranged g (i + 1) n) ∙ ap (λ (l : List Ev). events_of_frames v (g i) ++ l) (frames_ranged v g (i + 1) n)

pub frames_are : (f : Frames) (lent : Lent) → game.frames_events f lent ≡ events_of_frames f.version (frames_of f lent)
unfolding game.frames_events frames_of
frames_are f lent = sym (frames_ranged f.version _ 0 f.counts.frames ∙ ranged_same _ _ 0 f.counts.frames (λ i l m. kept_is f lent i))

-- ---- code blocks and ends

module _ (codes : List ℕ) (actual : ℕ) where
  abbrev pub block_at : ℕ → Block
  block_at b = record { bytes = part codes (512 * b) 512; used = used actual b }

  last_is : (b : ℕ) → b + 1 ≡ block_count actual → code_block codes actual b ≡ block_event 1 (block_at b)
  unfolding code_block last_flag
  last_is b e = rw (eq-eqb (b + 1) (block_count actual) e)

  inner_is : (b : ℕ) → (b + 1 ≡ block_count actual → ⊥) → code_block codes actual b ≡ block_event 0 (block_at b)
  unfolding code_block last_flag
  inner_is b e = rw (ne_eqb (b + 1) (block_count actual) e)

  blocks_are : (i n : ℕ) → i + n ≡ block_count actual → ranged (λ b. code_block codes actual b ∷ []) i n ≡ codes_events (ranged (λ b. block_at b ∷ []) i n)
  unfolding ranged codes_events
  blocks_are i zero e = refl
  blocks_are i (suc zero) e = ap (λ (x : Ev). x ∷ []) (last_is i (omega arith))
  blocks_are i (suc (suc n)) e = ap₂ (λ (x : Ev) (l : List Ev). x ∷ l) (inner_is i (λ x. omega arith)) (blocks_are (i + 1) (suc n) (omega arith))

codes_are : (given : Bool) (codes : List ℕ) (actual : ℕ) → code_events given codes actual ≡ codes_events (blocks_of given codes actual)
unfolding code_events blocks_of keep codes_events
codes_are true codes actual = blocks_are codes actual 0 (block_count actual) (omega arith)
codes_are false codes actual = refl

ends_are : (v : Version) (e : End) (double : ℕ) → end_events v e double ≡ map end_event (ends_of v e double)
unfolding end_events ends_of end_of
ends_are v e double = go (yes e.given) (yes double)
  where
    go : (a b : Bool) → keep a (end_of v e ∷ keep b (end_of v e ∷ [])) ≡ map end_event (keep a (end_bytes v e ∷ keep b (end_bytes v e ∷ [])))
    go a b = sym (map_keep end_event a _ ∙ ap (λ (l : List Ev). keep a (end_of v e ∷ l)) (map_keep end_event b _))

-- ---- the whole game

pub same : (g : Game) (s : Stores) → events g s ≡ events_of g.frames.version (replay_of g s)
unfolding events events_of replay_of
same g s =
    rw (codes_are (yes g.codes_given) s.codes g.actual_size, frames_are g.frames s.lent, ends_are g.frames.version g.end g.double_end)
