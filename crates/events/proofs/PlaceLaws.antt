-- The laws of the places of eight frames: how long a frame's parts are, and that the table has where they go.
-- Assumes nothing.
use mathlib.Core.Path.{◌≡◌, refl, sym, ap, ap₂, ◌∙◌}
use mathlib.Core.Bool.{Bool, true, false, cond}
use mathlib.Core.List.{List, [], ◌∷◌, ◌++◌}
use Prim.Native.Nat.{ℕ, zero, suc, ◌+◌, ◌-◌, ◌*◌, ◌≤◌, ◌<◌}
use native.Mathlib.Nat.{add-zero, zero-add, add_assoc, add-mul, one-mul, zero-mul, mul-zero, mul-le-mul}
use native.Mathlib.Omega.{arith}
use lib.ListN.{length, get_or, length-append}
use Rattle.wire.specs.Wire.{ranged, keep, Room, Wrote}
use Rattle.wire.proofs.Laws.{length_kept, length_ranged}
use Rattle.wire.proofs.Writers.{room_as, wrote_as}
use Rattle.record.specs.declared.Head.{Head}
use Rattle.record.proofs.Laws.{head_length_lem, length_record}
use Rattle.spread.specs.Inner.{place_at, Rooms, Sown}
use Rattle.spread.proofs.Laws.{place_is, ranged_snoc, Touching, touching_rooms, sown_whole}
use Rattle.players.specs.Presence.{marked}
use Rattle.players.specs.Inner.{Ranges}
use Rattle.players.specs.declared.slots.Slots.{Slots}
use Rattle.game.specs.Stores.{Lent}
use Rattle.events.specs.Events.{plain_head, player_head, id_of}
use Rattle.events.specs.Inner.{columns_in, record_in, one_bytes, rows_bytes, slot_bytes, slots_bytes, middle_bytes, frame_bytes, LaidOut, Supplied}
use Rattle.events.specs.Eights.{ones_on, players_on, middle_on, frame_on, row_size, Slim, Spanned, Absent, Apiece}
use Rattle.places.specs.declared.table.Spans.{Spans}
use Rattle.places.specs.Inner.{Together, seats_on, RangesWhere, RangesAll, rows_long, middle_long, BareAll, begins_at, Laid}
use Rattle.places.proofs.Laws.{seats_same}
use Rattle.events.specs.declared.shapes.Shape.{Shape}
use Rattle.events.specs.declared.shapes.Shapes.{Shapes}

-- ---- how long a record is, and a frame's rows of a family
module _ (m : Shape) (cells : List ℕ) (blocks : ℕ) (l : LaidOut m cells blocks) where
  record_long : (h : Head) (b : Bool) (first : ℕ) → h.player ≡ b → length (record_in m cells h first) ≡ cond b 7 5 + m.bytes
  record_long h b first e = length_record h (columns_in m) cells m.rows first ∙ ap₂ (λ (a c : ℕ). a + c) (head_length_lem h b e) (sym l.total)

  pub one_long : (id i : ℕ) → length (one_bytes m cells id i) ≡ row_size m
  unfolding one_bytes
  one_long id i = length_kept m.given (record_in m cells (plain_head m.code id) i) (5 + m.bytes) (λ e. record_long (plain_head m.code id) false i refl)

  rows_go : (given : Bool) (xs : List ℕ) (n : ℕ) → length xs ≡ n * (5 + m.bytes) → length (keep given xs) ≡ n * cond given (5 + m.bytes) 0
  unfolding keep
  rows_go true xs n e = e
  rows_go false xs n e = sym (mul-zero n)

  pub rows_long_lem : (offsets : List ℕ) (id i : ℕ) → length (rows_bytes m cells offsets id i) ≡ rows_long (row_size m) offsets i
  unfolding rows_bytes
  rows_long_lem offsets id i =
      rows_go m.given (ranged (λ j. record_in m cells (plain_head m.code id) j) (get_or offsets i 0) (get_or offsets (i + 1) 0 - get_or offsets i 0)) (get_or offsets (i + 1) 0 - get_or offsets i 0)
      (length_ranged (λ j. record_in m cells (plain_head m.code id) j) (5 + m.bytes) (λ j. record_long (plain_head m.code id) false j refl) (get_or offsets i 0) (get_or offsets (i + 1) 0 - get_or offsets i 0))

  seat_mul : (b : Bool) (n c : ℕ) → (n + cond b 1 0) * c ≡ n * c + cond b c 0
  seat_mul true n c = add-mul n 1 c ∙ ap (λ (k : ℕ). n * c + k) (one-mul c)
  seat_mul false n c = add-mul n 0 c ∙ ap (λ (k : ℕ). n * c + k) (zero-mul c)

  slots_long : (s : Slots) (bits : List ℕ) (id i k : ℕ) → length (ranged (slot_bytes m s cells bits id i) 0 k) ≡ seats_on s bits i k * (7 + m.bytes)
  unfolding seats_on ranged
  slots_long s bits id i zero = sym (zero-mul (7 + m.bytes))
  slots_long s bits id i (suc k) =
      let here = marked bits (get_or s.at k 0) (get_or s.len k 0) i in
      let one : length (slot_bytes m s cells bits id i k) ≡ cond here (7 + m.bytes) 0 =
      length_kept here (record_in m cells (player_head m.code id (get_or s.ports k 0) (get_or s.followers k 0)) (k * m.block + i)) (7 + m.bytes)
      (λ e. record_long (player_head m.code id (get_or s.ports k 0) (get_or s.followers k 0)) true (k * m.block + i) refl)
      in
      ap length (ranged_snoc (slot_bytes m s cells bits id i) 0 k)
      ∙ length-append (ranged (slot_bytes m s cells bits id i) 0 k) (slot_bytes m s cells bits id i (0 + k))
      ∙ ap₂ (λ (a c : ℕ). a + c) (slots_long s bits id i k) (ap (λ (j : ℕ). length (slot_bytes m s cells bits id i j)) (zero-add k) ∙ one)
      ∙ sym (seat_mul here (seats_on s bits i k) (7 + m.bytes))

  pub players_long : (s : Slots) (bits : List ℕ) (id i : ℕ) → length (slots_bytes m s cells bits id i) ≡ seats_on s bits i s.count * (7 + m.bytes)
  unfolding slots_bytes
  players_long s bits id i = slots_long s bits id i s.count

pub size_given : (m : Shape) → m.given ≡ true → 5 + m.bytes ≡ row_size m
size_given m e = sym (ap (λ (b : Bool). cond b (5 + m.bytes) 0) e)

pub size_none : (m : Shape) → m.given ≡ false → 0 ≡ row_size m
size_none m e = sym (ap (λ (b : Bool). cond b (5 + m.bytes) 0) e)

-- the rows of a family are as many as its last offset says
pub ranges_of : (m : Shape) (size : ℕ) (offsets : List ℕ) (n rows : ℕ) → size ≡ row_size m → (m.given ≡ true → Ranges n rows offsets) → RangesWhere size offsets n
ranges_of m size offsets n rows e r h = go m.given refl
  where
    go : (b : Bool) → m.given ≡ b → Ranges n (get_or offsets n 0) offsets
    go true g = let all = r g in rw all.last all
    go false g = let z : row_size m ≡ 0 = ap (λ (b : Bool). cond b (5 + m.bytes) 0) g in absurd (omega (arith, z))

-- the players' records of a frame are few
pub team_small : (n bytes : ℕ) → n ≤ 8 → bytes ≤ 128 → n * (7 + bytes) ≤ 1080
team_small n bytes h k = let l : 7 + bytes ≤ 135 = omega arith in mul-le-mul h l

pub none_there : (l : List ℕ) → length l ≤ 0 → l ≡ []
none_there [] h = refl
none_there (x ∷ l) h = absurd (omega arith)

-- ---- eight frames that have the same players
module _ (p : Shapes) (s : Slots) (lent : Lent) (n i : ℕ) (q : Supplied p s lent n) (g : Together s lent.presence i) (z : Spans) (h : Spanned p s lent.presence i z) where
  middle_long_lem : (id k : ℕ) → length (middle_bytes p lent.cells.items lent.cells.fods lent.cells.whispys lent.cells.stadiums lent.offsets id k) ≡ middle_long z lent.offsets k
  unfolding middle_bytes middle_long
  middle_long_lem id k =
      simp (length-append)
      (rw (h.fod, h.whispy, h.stadium, h.item)
      (ap₂ (λ (a b : ℕ). a + b) (rows_long_lem p.fod lent.cells.fods 1 q.fod.laid lent.offsets.fods id k)
      (ap₂ (λ (a b : ℕ). a + b) (rows_long_lem p.whispy lent.cells.whispys 1 q.whispy.laid lent.offsets.whispys id k)
      (ap₂ (λ (a b : ℕ). a + b) (rows_long_lem p.stadium lent.cells.stadiums 1 q.stadium.laid lent.offsets.stadiums id k)
      (rows_long_lem p.item lent.cells.items 1 q.item.laid lent.offsets.items id k)))))

  module _ (t : ℕ) (l : t < 8) where
    team_long : (m : Shape) (cells : List ℕ) → LaidOut m cells s.count → length (players_on m s cells lent.presence lent.cells.ids i t) ≡ seats_on s lent.presence i s.count * (7 + m.bytes)
    unfolding players_on
    team_long m cells d =
        players_long m cells s.count d s lent.presence (id_of lent (i + t)) (i + t)
        ∙ ap (λ (k : ℕ). k * (7 + m.bytes)) (seats_same s lent.presence i t l g s.count (omega arith))

    ones_long : (m : Shape) (cells : List ℕ) → LaidOut m cells 1 → length (ones_on m cells lent.cells.ids i t) ≡ row_size m
    unfolding ones_on
    ones_long m cells d = one_long m cells 1 d (id_of lent (i + t)) (i + t)

    middles_long : length (middle_on p lent.cells.items lent.cells.fods lent.cells.whispys lent.cells.stadiums lent.offsets lent.cells.ids i t) ≡ middle_long z lent.offsets (i + t)
    unfolding middle_on
    middles_long = middle_long_lem (id_of lent (i + t)) (i + t)

    -- what stands before the rows by offsets of a frame, and all of it
    ahead_long : length (ones_on p.start lent.cells.starts lent.cells.ids i t)
        + length (players_on p.pre s lent.cells.pres lent.presence lent.cells.ids i t)
        ≡ z.ahead
    ahead_long = omega (arith, h.ahead, ones_long p.start lent.cells.starts q.start.laid, team_long p.pre lent.cells.pres q.pre.laid)

    cut : length (frame_on p s lent i t)
        ≡ length (ones_on p.start lent.cells.starts lent.cells.ids i t)
        + (length (players_on p.pre s lent.cells.pres lent.presence lent.cells.ids i t)
        + (length (middle_on p lent.cells.items lent.cells.fods lent.cells.whispys lent.cells.stadiums lent.offsets lent.cells.ids i t)
        + (length (players_on p.post s lent.cells.posts lent.presence lent.cells.ids i t)
        + length (ones_on p.end lent.cells.ends lent.cells.ids i t))))
    unfolding frame_on frame_bytes ones_on players_on middle_on
    cut = simp length-append

    frame_long : length (frame_on p s lent i t) ≡ z.ahead + middle_long z lent.offsets (i + t) + z.behind
    frame_long = omega (arith, cut, ahead_long, middles_long, h.behind, team_long p.post lent.cells.posts q.post.laid, ones_long p.end lent.cells.ends q.end.laid)

  begins_is : (at t : ℕ) → t ≤ 8 → begins_at z lent.offsets i at t ≡ at + length (ranged (frame_on p s lent i) 0 t)
  unfolding begins_at ranged
  begins_is at zero l = sym (add-zero at)
  begins_is at (suc t) l =
      let e = ap length (ranged_snoc (frame_on p s lent i) 0 t) ∙ length-append (ranged (frame_on p s lent i) 0 t) (frame_on p s lent i (0 + t)) in
      let k = ap (λ (j : ℕ). length (frame_on p s lent i j)) (zero-add t) in
      omega (arith, begins_is at t (omega arith), frame_long t (omega arith), e, k)

  -- frames by their distance are those by their number
  shifted : (k m : ℕ) → k + m ≤ 8 → ranged (frame_on p s lent i) k m ≡ ranged (frame_bytes p s lent) (i + k) m
  unfolding ranged frame_on
  shifted k zero u = refl
  shifted k (suc m) u =
      ap (λ (b : List ℕ). frame_bytes p s lent (i + k) ++ b) (shifted (k + 1) m (omega arith) ∙ ap (λ (a : ℕ). ranged (frame_bytes p s lent) a m) (sym (add_assoc i k 1)))

  pub eight_is : ranged (frame_on p s lent i) 0 8 ≡ ranged (frame_bytes p s lent) i 8
  eight_is = shifted 0 8 (omega arith) ∙ ap (λ (a : ℕ). ranged (frame_bytes p s lent) a 8) (add-zero i)

  pub begins_fit : {out : List ℕ} {at : ℕ} → Room out at (ranged (frame_bytes p s lent) i 8) → begins_at z lent.offsets i at 8 ≤ length out
  begins_fit {at = at} r = omega (arith, begins_is at 8 (omega arith), ap length eight_is, r.fits)

  pub ranges_all : RangesAll z lent.offsets n
  ranges_all = record {
    fod = ranges_of p.fod z.fod lent.offsets.fods n p.fod.rows h.fod q.fod.ranges;
    whispy = ranges_of p.whispy z.whispy lent.offsets.whispys n p.whispy.rows h.whispy q.whispy.ranges;
    stadium = ranges_of p.stadium z.stadium lent.offsets.stadiums n p.stadium.rows h.stadium q.stadium.ranges;
    item = ranges_of p.item z.item lent.offsets.items n p.item.rows h.item q.item.ranges;
  }

  -- frames that are calm have no rows by offsets
  pub calm_absent : (calm : Bool) → (calm ≡ true → BareAll z lent.offsets i (i + 8))
      → Absent calm (middle_on p lent.cells.items lent.cells.fods lent.cells.whispys lent.cells.stadiums lent.offsets lent.cells.ids i)
  calm_absent calm b e t l = none_there _ (omega (arith, middles_long t l, (b e).none (i + t) (omega arith) (omega arith)))

  module _ {at end : ℕ} {places : List ℕ} (d : Laid z lent.offsets i at places end) where
    front_is : (t : ℕ) → t < 8 → place_at places 0 0 t ≡ begins_at z lent.offsets i at t
    front_is t l = place_is places 0 0 t ∙ add-zero (get_or places (0 + t) 0) ∙ ap (λ (k : ℕ). get_or places k 0) (zero-add t) ∙ d.front t l

    touching : Touching (place_at places 0 0) (frame_on p s lent i) at
    touching t l = front_is t l ∙ begins_is at t (omega arith)

    pub laid_rooms : {out : List ℕ} → Room out at (ranged (frame_bytes p s lent) i 8) → Rooms out (place_at places 0 0) (frame_on p s lent i)
    laid_rooms r = touching_rooms (frame_on p s lent i) touching (room_as (sym eight_is) r)

    pub laid_apiece : Apiece p s lent i places
    laid_apiece = record {
      few = d.few;
      back = λ t l. omega (arith, place_is places 8 0 t, d.back t l, front_is t l, ahead_long t l, middles_long t l);
    }

    pub laid_wrote : {out after : List ℕ} {next : ℕ → ℕ} → Sown out after (place_at places 0 0) next (frame_on p s lent i) → Wrote out after at end (ranged (frame_bytes p s lent) i 8)
    laid_wrote w = wrote_as eight_is (sown_whole (frame_on p s lent i) touching w (d.end_is ∙ begins_is at 8 (omega arith)))

pub slim_of : (p : Shapes) (s : Slots) (lent : Lent) (n : ℕ) → Supplied p s lent n → Slim p
slim_of p s lent n q = record {
  start = q.start.laid.slim;
  pre = q.pre.laid.slim;
  fod = q.fod.laid.slim;
  whispy = q.whispy.laid.slim;
  stadium = q.stadium.laid.slim;
  item = q.item.laid.slim;
  post = q.post.laid.slim;
  end = q.end.laid.slim;
}
