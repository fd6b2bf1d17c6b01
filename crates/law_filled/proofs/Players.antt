-- What the pass leaves in the stores of players: each slot's columns, one block after another.
-- Assumes nothing.
use mathlib.Core.Path.{◌≡◌, refl, sym, ap, subst, ◌∙◌}
use mathlib.Core.Bool.{Bool, true}
use mathlib.Core.Logic.{inl}
use mathlib.Core.List.{List, [], ◌∷◌, map, append-nil}
use Prim.Native.Nat.{ℕ, ◌+◌, ◌-◌, ◌*◌, ◌≤◌, ◌<◌}
use native.Mathlib.Nat.{zero-add}
use native.Mathlib.Omega.{arith}
use borrow.Author.Tests.{lt-ltb}
use lib.Arith.{digits_lt}
use lib.Dec.{eqb}
use lib.ListN.{length, get_or, replicate, length-map, length-replicate, get_or-replicate}
use Rattle.wire.specs.Wire.{keep, splice}
use Rattle.wire.proofs.Laws.{length_splice}
use Rattle.format.specs.Event.{code_of}
use Rattle.format.specs.File.{Ev, index_of}
use Rattle.format.specs.declared.version.Version.{Version}
use Rattle.layout.specs.Columns.{widths_of}
use Rattle.layout.specs.Payloads.{event_of}
use Rattle.layout.specs.declared.columns.Family.{Family}
use Rattle.layout.specs.declared.columns.Family.TheVariants.{Pre, Post}
use Rattle.game.specs.Frames.{Slot, no_slot, slots_of}
use Rattle.game.specs.Stores.{Lent}
use Rattle.game.specs.declared.frames.Frames.{Frames}
use Rattle.patch.proofs.Positions.{splice_other}
use Rattle.players.specs.Inner.{Modest}
use Rattle.grammar.specs.Productions.{Player, Frame, row_event, events_of_frames}
use Rattle.grammar.specs.WellFormed.{Each, ascending, GoodFrame}
use Rattle.columns.specs.Columns.{row_by, slot_number, slots_cells, players_cells, frames_read}
use Rattle.columns.specs.Inner.{column}
use Rattle.columns.proofs.Laws.{map_at_lem, splice_inside}
use Rattle.columns.proofs.Slots.{row_at, in_block, slots_length, slots_into}
use Rattle.read_event.specs.Inner.{Plan, Told, plan_of, numbers_of, told_by, player_put, zeros, Stands, Rooms, run, none, cleared}
use Rattle.law_filled.proofs.RowRuns.{in_order}
use Rattle.law_filled.proofs.Opens.{open_at, Fresh}
use Rattle.law_filled.proofs.Acts.{act_fold, act_run, frames_fold, act_frames, kept, fold_frame, row_act, row_idle, pres_run, posts_run}
use Rattle.law_filled.proofs.Distinct.{told_port, told_follower, told_own}
use Rattle.law_filled.proofs.Numbers.{Rising, index_at, numbers_rise}
use Rattle.law_filled.proofs.Seats.{seat, seat_all, seat_frames, length_frames, frames_stay, frames_cell}

-- ---- the pass seats players

put_is : (on : Bool) (ws numbers : List ℕ) (t : Told) (frames n : ℕ) (xs : List ℕ) → on ≡ true → n < frames
    → player_put on ws numbers t frames (n + 1) xs ≡ seat ws numbers frames (2 * t.port + t.follower) t.own n xs
unfolding player_put seat
put_is on ws numbers t frames n xs e h =
    let m : n + 1 - 1 ≡ n = omega arith in
    rw (e, lt-ltb 0 (n + 1) (omega arith), m, lt-ltb n frames h)

module _ (p : Plan) (v : Version) (code : ℕ) (ws : List ℕ) (family : Family) where
  abbrev act : Ev → ℕ → List ℕ → List ℕ
  act = row_act p code ws

  abbrev body : Player → List ℕ
  body q = q.port ∷ q.follower ∷ row_by family q

  abbrev seats : Frame → List Ev
  seats f = map (row_event family f.id) (map body f.players)

  act_seats : eqb (code_of (event_of family)) code ≡ true → (id n : ℕ) → n < p.counts.frames → (ps : List Player) (xs : List ℕ)
      → act_fold p act (n + 1) (map (row_event family id) (map body ps)) xs ≡ seat_all ws p.numbers p.counts.frames family n ps xs
  unfolding act_fold seat_all
  act_seats e id n h [] xs = refl
  act_seats e id n h (q ∷ ps) xs =
      let one = put_is (eqb (code_of (event_of family)) code) ws p.numbers (told_by (row_event family id (body q))) p.counts.frames n xs e h in
      let port = told_port family id q.port q.follower (row_by family q) in
      let follower = told_follower family id q.port q.follower (row_by family q) in
      let own = told_own family id q.port q.follower (row_by family q) in
      ap (act_fold p act (n + 1) (map (row_event family id) (map body ps))) (one ∙ (λ i. seat ws p.numbers p.counts.frames (2 * port i + follower i) (own i) n xs))
      ∙ act_seats e id n h ps (seat ws p.numbers p.counts.frames (2 * q.port + q.follower) (row_by family q) n xs)

  fold_seats : eqb (code_of (event_of family)) code ≡ true → ((f : Frame) → kept p act code (row_idle p code ws) v f in_order ≡ seats f)
      → (fs : List Frame) (n : ℕ) (xs : List ℕ) → n + length fs ≤ p.counts.frames
      → frames_fold p act v fs n xs ≡ seat_frames ws p.numbers p.counts.frames family fs n xs
  unfolding frames_fold seat_frames
  fold_seats e are [] n xs h = refl
  fold_seats e are (f ∷ fs) n xs h =
      ap (frames_fold p act v fs (n + 1))
      (fold_frame p act code (row_idle p code ws) v f (n + 1) xs
      ∙ ap (λ (es : List Ev). act_fold p act (n + 1) es xs) (are f)
      ∙ act_seats e f.id n (omega arith) f.players xs)
      ∙ fold_seats e are fs (n + 1) (seat_all ws p.numbers p.counts.frames family n f.players xs) (omega arith)

module _ (p : Plan) (v : Version) (ws : List ℕ) (f : Frame) where
  kept_pre : kept p (row_act p 0x37 ws) 0x37 (row_idle p 0x37 ws) v f in_order ≡ seats p v 0x37 ws Pre f
  unfolding kept keep
  kept_pre = append-nil (seats p v 0x37 ws Pre f)

  kept_post : kept p (row_act p 0x38 ws) 0x38 (row_idle p 0x38 ws) v f in_order ≡ seats p v 0x38 ws Post f
  unfolding kept keep
  kept_post = append-nil (seats p v 0x38 ws Post f)

-- ---- seated players are the slots' columns

module _ (v : Version) (family : Family) (fs : List Frame) (slots : List Slot) (xs : List ℕ) where
  abbrev ws : List ℕ
  ws = widths_of family v

  abbrev cells_of : ℕ
  cells_of = length slots * (length ws * length fs)

  zero_at_lem : (q : ℕ) → q < cells_of → cells_of ≤ length xs → get_or (zeros cells_of xs) q 0 ≡ 0
  zero_at_lem q h room =
      ap (λ (j : ℕ). get_or (zeros cells_of xs) j 0) (sym (zero-add q))
      ∙ splice_inside xs 0 (replicate cells_of 0) q (omega (arith, length-replicate {A = ℕ} cells_of 0)) (omega arith)
      ∙ get_or-replicate cells_of q 0 0 h

  module _ (rising : Rising 0 (map slot_number slots)) (good : Each (GoodFrame v ascending) fs) (room : cells_of ≤ length xs) where
    abbrev numbers : List ℕ
    numbers = map slot_number slots

    abbrev clear : List ℕ
    clear = zeros cells_of xs

    abbrev new : List ℕ
    new = seat_frames ws numbers (length fs) family fs 0 clear

    long : length clear ≡ length xs
    long = length_splice xs 0 (replicate cells_of 0)

    count : length numbers ≡ length slots
    count = length-map slots slot_number

    same : length new ≡ length xs
    same = length_frames ws numbers (length fs) family fs 0 clear ∙ long

    roomy : length numbers * (length ws * length fs) ≤ length clear
    roomy = let e = ap (λ (n : ℕ). n * (length ws * length fs)) count in omega (arith, long, room)

    inside : (k c i : ℕ) → k < length slots → c < length ws → i < length fs → (k * length ws + c) * length fs + i < length xs
        → get_or new ((k * length ws + c) * length fs + i) 0 ≡ column ws (row_at v family fs slots k i) c
    inside k c i h l m b =
        let d = slot_number (get_or slots k no_slot) in
        let is : get_or numbers k 0 ≡ d = map_at_lem slot_number slots k no_slot 0 h in
        let index : index_of d numbers ≡ k = ap (λ (x : ℕ). index_of x numbers) (sym is) ∙ index_at 0 numbers rising k (omega (arith, count)) in
        ap (λ (q : ℕ). get_or new q 0) (in_block v family fs k c i)
        ∙ frames_cell ws numbers (length fs) family k d (omega (arith, count)) is index c l v fs 0 clear i i (omega arith) m (omega arith) good roomy
        (zero_at_lem (k * (length ws * length fs) + (c * length fs + i)) (digits_lt h (digits_lt l m)) room)

    outside : (j : ℕ) → length (slots_cells v family fs slots) ≤ j → j < length xs → get_or new j 0 ≡ get_or xs j 0
    outside j h l =
        let n = slots_length v family fs slots in
        frames_stay ws numbers (length fs) family fs 0 clear j
        (λ m b c x y z t e.
        let w : index_of b numbers * (length ws * length fs) + (c * length fs + m) < length slots * (length ws * length fs) = digits_lt (omega (arith, count)) (digits_lt z (omega arith)) in
        omega arith)
        ∙ splice_other xs 0 (replicate cells_of 0) j (λ a b. omega (arith, length-replicate {A = ℕ} cells_of 0))

    slots_seated : seat_frames ws (map slot_number slots) (length fs) family fs 0 (zeros cells_of xs) ≡ splice xs 0 (slots_cells v family fs slots)
    slots_seated = slots_into v family fs slots new xs same inside outside

-- ---- what the pass leaves

module _ (f : Frames) (file : List ℕ) (first stop : ℕ) (fs : List Frame) (l : Lent) (s : Stands f file first stop fs) (r : Rooms (plan_of f) l) (m : Modest f) where
  abbrev after : Lent
  after = run (plan_of f) (events_of_frames f.version fs) none (cleared f l)

  frames_are : length fs ≡ f.counts.frames
  unfolding frames_read
  frames_are = sym (ap (λ (x : Frames). x.counts.frames) s.read)

  fresh_first : (xs : List Frame) → Fresh (plan_of f) f.version (open_at 0 0) xs
  fresh_first [] = tt
  fresh_first (x ∷ xs) = λ e. inl refl

  rising : Rising 0 (numbers_of f)
  rising = subst (λ (x : Frames). Rising 0 (numbers_of x)) (sym s.read) (numbers_rise f.version fs)

  players_left : (code : ℕ) (family : Family) (xs : List ℕ) → eqb (code_of (event_of family)) code ≡ true
      → ((x : Frame) → kept (plan_of f) (row_act (plan_of f) code (widths_of family f.version)) code (row_idle (plan_of f) code (widths_of family f.version)) f.version x in_order
      ≡ seats (plan_of f) f.version code (widths_of family f.version) family x)
      → length (numbers_of f) * (length (widths_of family f.version) * f.counts.frames) ≤ length xs
      → act_run (plan_of f) (row_act (plan_of f) code (widths_of family f.version)) (events_of_frames f.version fs) (open_at 0 0)
      (zeros (length (slots_of f) * (length (widths_of family f.version) * f.counts.frames)) xs)
      ≡ splice xs 0 (players_cells f.version family fs)
  players_left code family xs e are room =
      let v = f.version in
      let ws = widths_of family v in
      let p = plan_of f in
      let clear = zeros (length (slots_of f) * (length ws * f.counts.frames)) xs in
      let n : length (numbers_of f) ≡ length (slots_of f) = length-map (slots_of f) slot_number in
      let room' : length (slots_of f) * (length ws * length fs) ≤ length xs =
      let a = ap (λ (k : ℕ). k * (length ws * f.counts.frames)) n in
      let b = ap (λ (k : ℕ). length (slots_of f) * (length ws * k)) frames_are in
      omega arith in
      act_frames p (row_act p code ws) v refl fs (open_at 0 0) clear s.good s.changing (fresh_first fs) (omega (arith, frames_are))
      ∙ fold_seats p v code ws family e are fs 0 clear (omega (arith, frames_are))
      ∙ ap (λ (k : ℕ). seat_frames ws (numbers_of f) k family fs 0 (zeros (length (slots_of f) * (length ws * k)) xs)) (sym frames_are)
      ∙ slots_seated v family fs (slots_of f) xs rising s.good room'
      ∙ ap (λ (x : Frames). splice xs 0 (slots_cells v family fs (slots_of x))) s.read

  pub pres_left : after.cells.pres ≡ splice l.cells.pres 0 (players_cells f.version Pre fs)
  unfolding cleared
  pres_left =
      pres_run (plan_of f) (events_of_frames f.version fs) none (cleared f l)
      ∙ players_left 0x37 Pre l.cells.pres refl (kept_pre (plan_of f) f.version (widths_of Pre f.version)) r.pres.room

  pub posts_left : after.cells.posts ≡ splice l.cells.posts 0 (players_cells f.version Post fs)
  unfolding cleared
  posts_left =
      posts_run (plan_of f) (events_of_frames f.version fs) none (cleared f l)
      ∙ players_left 0x38 Post l.cells.posts refl (kept_post (plan_of f) f.version (widths_of Post f.version)) r.posts.room
