-- The laws of shapes: where a row's cells are, and that records by shapes are the definition's events.
-- Assumes nothing.
use mathlib.Core.Path.{◌≡◌, refl, sym, ap, ap₂, subst, ◌∙◌}
use mathlib.Core.Bool.{Bool, true, false}
use mathlib.Core.List.{List, [], ◌∷◌, ◌++◌, append_assoc}
use Prim.Native.Nat.{ℕ, suc, ◌+◌, ◌-◌, ◌*◌, ◌≤◌, ◌<◌}
use native.Mathlib.Nat.{sub-zero, sub-eq-zero_of_le, suc-mul, zero-mul, zero-add, mul-le-mul, mul-le-mul_right}
use native.Mathlib.Omega.{arith}
use lib.ListN.{length, get_or}
use lib.Seq.{length-take-le}
use Rattle.wire.specs.Wire.{ranged, keep, Room, Wrote}
use Rattle.wire.proofs.Laws.{ranged_same}
use Rattle.wire.proofs.Writers.{room_first, room_second, wrote_then, wrote_as, wrote_none}
use Rattle.format.specs.File.{Ev, event_bytes, events_bytes}
use Rattle.format.proofs.Files.{events_one, events_both, events_ranged, events_keep}
use Rattle.layout.specs.Inner.{Narrow}
use Rattle.layout.specs.Columns.{has_family, widths_of, sum}
use Rattle.layout.specs.declared.columns.Family.{Family}
use Rattle.layout.specs.declared.columns.Family.TheVariants.{Pre, Post, FrameStart, Item, FrameEnd, FodPlatform, DreamlandWhispy, StadiumTransformation}
use Rattle.layout.proofs.Laws.{narrow_of}
use Rattle.record.specs.Record.{record_of}
use Rattle.record.specs.Inner.{InStore}
use Rattle.game.specs.Frames.{Slot, slots_of, rows_of, slot_blocks}
use Rattle.players.specs.Inner.{slot_in, Slotted, Ranges}
use Rattle.game.specs.Stores.{Lent, Offsets, cells_of, offsets_of}
use Rattle.players.specs.Presence.{present_at}
use Rattle.game.specs.declared.frames.Frames.{Frames}
use Rattle.players.specs.declared.slots.Slots.{Slots}
use Rattle.players.proofs.PresenceLaws.{slot_at}
use Rattle.events.specs.Events.{plain_head, head_of, player_of, row_of, id_of, one_event, row_events, player_event, player_events, frame_events, frames_events}
use Rattle.events.specs.Inner.{RangesIn, Framed, ShapeOf, ShapesOf, columns_in, record_in, one_bytes, rows_bytes, slot_bytes, slots_bytes, middle_bytes, frame_bytes, Lacking, LaidOut, PerFrame, PerOffset, Supplied}
use Rattle.events.specs.declared.shapes.Shape.{Shape}
use Rattle.events.specs.declared.shapes.Shapes.{Shapes}

-- ---- a row's cells are in their store

in_store_from : (ws : List ℕ) (len rows i : ℕ) → Narrow ws → rows ≤ len → i + length ws * rows < len + rows → InStore ws len rows i
unfolding InStore Narrow
in_store_from [] len rows i n l h = tt
in_store_from (w ∷ ws) len rows i n l h =
    let e = suc-mul (length ws) rows in
    (n.0, omega arith, l, in_store_from ws len rows (i + rows) n.1 l (omega arith))

pub in_store : (ws cells : List ℕ) (blocks rows b r : ℕ) → Narrow ws → length cells ≡ blocks * (length ws * rows) → b < blocks → r < rows
    → InStore ws (length cells) rows (b * (length ws * rows) + r)
unfolding InStore
in_store [] cells blocks rows b r n e h k = tt
in_store (w ∷ ws) cells blocks rows b r n e h k =
    let block = length (w ∷ ws) * rows in
    let one = suc-mul (length ws) rows in
    let more : suc b * block ≤ blocks * block = mul-le-mul_right block h in
    let next = suc-mul b block in
    in_store_from (w ∷ ws) (length cells) rows (b * block + r) n (omega arith) (omega arith)

-- by a shape: in a block, and in the only one
module _ (m : Shape) (cells : List ℕ) where
  pub row_in : (blocks b r : ℕ) → LaidOut m cells blocks → b < blocks → r < m.rows → InStore (columns_in m) (length cells) m.rows (b * m.block + r)
  row_in blocks b r s h k =
      let n : length (columns_in m) ≡ m.count = length-take-le m.count m.widths s.few in
      let e : length (columns_in m) * m.rows ≡ m.block = ap (λ (x : ℕ). x * m.rows) n ∙ sym s.block in
      subst (λ (x : ℕ). InStore (columns_in m) (length cells) m.rows (b * x + r)) e
      (in_store (columns_in m) cells blocks m.rows b r s.narrow (s.whole ∙ ap (λ (x : ℕ). blocks * x) (sym e)) h k)

  pub only_in : (r : ℕ) → LaidOut m cells 1 → r < m.rows → InStore (columns_in m) (length cells) m.rows r
  only_in r s k = rw (zero-mul, zero-add) at (row_in 1 0 r s (omega arith) k)

-- ---- records by a shape are the definition's events
module _ (f : Frames) (lent : Lent) (family : Family) (m : Shape) (h : ShapeOf f family m) where
  abbrev store : List ℕ
  store = cells_of lent.cells family

  plain_is : (id j : ℕ) → events_bytes (row_of f lent family (head_of family id) 0 j ∷ []) ≡ record_in m store (plain_head m.code id) j
  plain_is id j =
      let ws = widths_of family f.version in
      let z : 0 * (length ws * rows_of f family) + j ≡ j = ap (λ (x : ℕ). x + j) (zero-mul (length ws * rows_of f family)) ∙ zero-add j in
      events_one _
      ∙ ap (λ (x : ℕ). event_bytes (record_of (head_of family id) ws store (rows_of f family) x)) z
      ∙ rw (h.code, h.columns.each, h.rows)

  pub one_is : (i : ℕ) → events_bytes (one_event f lent family i) ≡ one_bytes m store (id_of lent i) i
  unfolding one_event one_bytes
  one_is i = events_keep (has_family f.version family) _ ∙ ap₂ (λ (b : Bool) (l : List ℕ). keep b l) (sym h.given) (plain_is (id_of lent i) i)

  pub rows_is : (i : ℕ) → events_bytes (row_events f lent family i) ≡ rows_bytes m store (offsets_of lent.offsets family) (id_of lent i) i
  unfolding row_events rows_bytes
  rows_is i =
      let os = offsets_of lent.offsets family in
      let a = get_or os i 0 in
      let n = get_or os (i + 1) 0 - a in
      events_keep (has_family f.version family) _
      ∙ ap₂ (λ (b : Bool) (l : List ℕ). keep b l) (sym h.given)
      (events_ranged (λ j. row_of f lent family (head_of family (id_of lent i)) 0 j ∷ []) a n
      ∙ ranged_same (λ j. events_bytes (row_of f lent family (head_of family (id_of lent i)) 0 j ∷ [])) (λ j. record_in m store (plain_head m.code (id_of lent i)) j) a n
      (λ j l k. plain_is (id_of lent i) j))

  module _ (s : Slots) (q : Slotted f s) where
    player_is : (i k : ℕ) → k < s.count → events_bytes (player_event f lent family i k) ≡ slot_bytes m s store lent.presence (id_of lent i) i k
    player_is i k l =
        ap (λ (x : Slot). events_bytes (keep (present_at lent.presence x i) (row_of f lent family (player_of family (id_of lent i) x) k i ∷ []))) (slot_at f s q k l)
        ∙ events_keep (present_at lent.presence (slot_in s k) i) _
        ∙ ap (λ (b : List ℕ). keep (present_at lent.presence (slot_in s k) i) b) (events_one _ ∙ rw (h.code, h.columns.each, h.block, h.columns.columns, h.rows))

    pub players_is : (i : ℕ) → events_bytes (player_events f lent family i) ≡ slots_bytes m s store lent.presence (id_of lent i) i
    unfolding player_events slots_bytes
    players_is i =
        events_ranged (player_event f lent family i) 0 (length (slots_of f))
        ∙ ap (λ (n : ℕ). ranged (λ k. events_bytes (player_event f lent family i k)) 0 n) (sym q.count)
        ∙ ranged_same (λ k. events_bytes (player_event f lent family i k)) (slot_bytes m s store lent.presence (id_of lent i) i) 0 s.count
        (λ k l j. player_is i k (omega arith))

  -- and their stores are as long as the shape says
  pub laid_of : Framed f lent → (blocks : ℕ) → blocks ≡ slot_blocks f family → LaidOut m store blocks
  laid_of r blocks e = record {
    few = omega (arith, h.columns.few, h.columns.room);
    narrow = rw h.columns.each (narrow_of family f.version);
    total = h.columns.total ∙ ap sum (sym h.columns.each);
    slim = h.columns.small;
    block = h.block;
    small = h.small;
    whole = rw (e, h.block, h.columns.columns, h.rows) (r.stores family);
  }

  pub per_frame : Framed f lent → (blocks : ℕ) → blocks ≡ slot_blocks f family → rows_of f family ≡ f.counts.frames → PerFrame m store blocks f.counts.frames
  per_frame r blocks e n = record { laid = laid_of r blocks e; rows = h.rows ∙ n }

  pub per_offset : Framed f lent → 1 ≡ slot_blocks f family → RangesIn f lent family → PerOffset m store (offsets_of lent.offsets family) f.counts.frames
  per_offset r e o = record {
    laid = laid_of r 1 e;
    ranges = λ t. subst (λ (n : ℕ). Ranges f.counts.frames n (offsets_of lent.offsets family)) (sym h.rows) (o (sym h.given ∙ t));
  }

-- four lists of events before others, as one part
events_four : (e1 e2 e3 e4 es : List Ev) {b1 b2 b3 b4 bs : List ℕ}
    → events_bytes e1 ≡ b1 → events_bytes e2 ≡ b2 → events_bytes e3 ≡ b3 → events_bytes e4 ≡ b4 → events_bytes es ≡ bs
    → events_bytes (e1 ++ (e2 ++ (e3 ++ (e4 ++ es)))) ≡ (b1 ++ (b2 ++ (b3 ++ b4))) ++ bs
events_four e1 e2 e3 e4 es {b1} {b2} {b3} {b4} {bs} h1 h2 h3 h4 h =
    events_both _ _ h1 (events_both _ _ h2 (events_both _ _ h3 (events_both _ _ h4 h)))
    ∙ sym (append_assoc b1 (b2 ++ (b3 ++ b4)) bs ∙ ap (λ (l : List ℕ). b1 ++ l) (append_assoc b2 (b3 ++ b4) bs ∙ ap (λ (l : List ℕ). b2 ++ l) (append_assoc b3 b4 bs)))

module _ (f : Frames) (s : Slots) (lent : Lent) (p : Shapes) (m : ShapesOf f p) (q : Slotted f s) where
  pub frame_is : (i : ℕ) → events_bytes (frame_events f lent i) ≡ frame_bytes p s lent i
  unfolding frame_events frame_bytes middle_bytes
  frame_is i =
      events_both _ _ (one_is f lent FrameStart p.start m.start i)
      (events_both _ _ (players_is f lent Pre p.pre m.pre s q i)
      (events_four _ _ _ _ _
      (rows_is f lent FodPlatform p.fod m.fod i)
      (rows_is f lent DreamlandWhispy p.whispy m.whispy i)
      (rows_is f lent StadiumTransformation p.stadium m.stadium i)
      (rows_is f lent Item p.item m.item i)
      (events_both _ _ (players_is f lent Post p.post m.post s q i) (one_is f lent FrameEnd p.end m.end i))))

  -- a run of n frames from frame a on
  pub run_is : (a n : ℕ) → events_bytes (ranged (frame_events f lent) a n) ≡ ranged (frame_bytes p s lent) a n
  run_is a n =
      events_ranged (frame_events f lent) a n
      ∙ ranged_same (λ i. events_bytes (frame_events f lent i)) (frame_bytes p s lent) a n (λ i l k. frame_is i)

  pub supplied_of : Framed f lent → Supplied p s lent (length lent.cells.ids)
  supplied_of r = subst (λ (n : ℕ). Supplied p s lent n) (sym r.ids) (record {
    ids = r.ids;
    frames = r.modest.frames;
    seats = record { few = q.few; eight = q.eight };
    start = per_frame f lent FrameStart p.start m.start r 1 refl refl;
    pre = per_frame f lent Pre p.pre m.pre r s.count q.count refl;
    fod = per_offset f lent FodPlatform p.fod m.fod r refl r.fods;
    whispy = per_offset f lent DreamlandWhispy p.whispy m.whispy r refl r.whispys;
    stadium = per_offset f lent StadiumTransformation p.stadium m.stadium r refl r.stadiums;
    item = per_offset f lent Item p.item m.item r refl r.items;
    post = per_frame f lent Post p.post m.post r s.count q.count refl;
    end = per_frame f lent FrameEnd p.end m.end r 1 refl refl;
  })

-- all frames are a run
pub frames_run : (f : Frames) (lent : Lent) → frames_events f lent ≡ ranged (frame_events f lent) 0 (f.counts.frames - 0)
unfolding frames_events
frames_run f lent = rw (sub-zero f.counts.frames)

-- ---- a frame without rows by offsets
kept_none : (b : Bool) (f : ℕ → List ℕ) (a n : ℕ) → (b ≡ true → n ≡ 0) → keep b (ranged f a n) ≡ []
unfolding keep ranged
kept_none true f a n h = ap (λ (k : ℕ). ranged f a k) (h refl)
kept_none false f a n h = refl

rows_none : (m : Shape) (cells offsets : List ℕ) (id i : ℕ) → Lacking m offsets i → rows_bytes m cells offsets id i ≡ []
unfolding rows_bytes
rows_none m cells offsets id i h =
    kept_none m.given (λ j. record_in m cells (plain_head m.code id) j) (get_or offsets i 0) (get_or offsets (i + 1) 0 - get_or offsets i 0) (λ e. sub-eq-zero_of_le (h e))

pub middle_none : (p : Shapes) (items fods whispys stadiums : List ℕ) (o : Offsets) (id i : ℕ)
    → Lacking p.fod o.fods i → Lacking p.whispy o.whispys i → Lacking p.stadium o.stadiums i → Lacking p.item o.items i
    → [] ≡ middle_bytes p items fods whispys stadiums o id i
unfolding middle_bytes
middle_none p items fods whispys stadiums o id i a b c d =
    sym (rw (rows_none p.fod fods o.fods id i a, rows_none p.whispy whispys o.whispys id i b, rows_none p.stadium stadiums o.stadiums id i c, rows_none p.item items o.items id i d))

pub wrote_nothing : {out : List ℕ} {at : ℕ} {xs : List ℕ} → [] ≡ xs → Wrote out out at at xs
unfolding keep
wrote_nothing {out} {at} e = wrote_as e (wrote_none out at false [] refl)

-- ---- a frame, part after part
module _ (p : Shapes) (s : Slots) (lent : Lent) (i : ℕ) where
  pub frame_wrote : {a0 a1 a2 a3 a4 a5 : List ℕ} {p0 p1 p2 p3 p4 p5 : ℕ}
      → Wrote a0 a1 p0 p1 (one_bytes p.start lent.cells.starts (id_of lent i) i)
      → Wrote a1 a2 p1 p2 (slots_bytes p.pre s lent.cells.pres lent.presence (id_of lent i) i)
      → Wrote a2 a3 p2 p3
      (middle_bytes p lent.cells.items lent.cells.fods lent.cells.whispys lent.cells.stadiums lent.offsets (id_of lent i) i)
      → Wrote a3 a4 p3 p4 (slots_bytes p.post s lent.cells.posts lent.presence (id_of lent i) i)
      → Wrote a4 a5 p4 p5 (one_bytes p.end lent.cells.ends (id_of lent i) i)
      → Wrote a0 a5 p0 p5 (frame_bytes p s lent i)
  unfolding frame_bytes
  frame_wrote w1 w2 w3 w4 w5 = wrote_then w1 (wrote_then w2 (wrote_then w3 (wrote_then w4 w5)))

  -- each part has room where the one before it ended
  module _ {a0 : List ℕ} {p0 : ℕ} (r : Room a0 p0 (frame_bytes p s lent i)) where
    pub start_room : Room a0 p0 (one_bytes p.start lent.cells.starts (id_of lent i) i)
    unfolding frame_bytes
    start_room = room_first _ r

    module _ {a1 : List ℕ} {p1 : ℕ} (w1 : Wrote a0 a1 p0 p1 (one_bytes p.start lent.cells.starts (id_of lent i) i)) where
      pub pre_room : Room a1 p1 (slots_bytes p.pre s lent.cells.pres lent.presence (id_of lent i) i)
      unfolding frame_bytes
      pre_room = room_first _ (room_second r w1)

      module _ {a2 : List ℕ} {p2 : ℕ} (w2 : Wrote a1 a2 p1 p2 (slots_bytes p.pre s lent.cells.pres lent.presence (id_of lent i) i)) where
        pub middle_room : Room a2 p2 (middle_bytes p lent.cells.items lent.cells.fods lent.cells.whispys lent.cells.stadiums lent.offsets (id_of lent i) i)
        unfolding frame_bytes
        middle_room = room_first _ (room_second (room_second r w1) w2)

        module _ {a3 : List ℕ} {p3 : ℕ}
            (w3 : Wrote a2 a3 p2 p3 (middle_bytes p lent.cells.items lent.cells.fods lent.cells.whispys lent.cells.stadiums lent.offsets (id_of lent i) i)) where
          pub post_room : Room a3 p3 (slots_bytes p.post s lent.cells.posts lent.presence (id_of lent i) i)
          unfolding frame_bytes
          post_room = room_first _ (room_second (room_second (room_second r w1) w2) w3)

          pub end_room : {a4 : List ℕ} {p4 : ℕ} → Wrote a3 a4 p3 p4 (slots_bytes p.post s lent.cells.posts lent.presence (id_of lent i) i)
              → Room a4 p4 (one_bytes p.end lent.cells.ends (id_of lent i) i)
          unfolding frame_bytes
          end_room w4 = room_second (room_second (room_second (room_second r w1) w2) w3) w4

-- no slot's first cell is far
pub first_small : (block k i : ℕ) → k < 8 → block ≤ 134217728 → i ≤ 1048576 → k * block + i ≤ 1074790400
first_small block k i h b j = let few : k ≤ 8 = omega arith in let l : k * block ≤ 8 * 134217728 = mul-le-mul few b in omega arith
