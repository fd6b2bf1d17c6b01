-- The laws of a run's length by counts.
-- Assumes nothing.
use mathlib.Core.Path.{◌≡◌, refl, sym, ap, ap₂, subst, ◌∙◌}
use mathlib.Core.Bool.{Bool, true, false, cond}
use mathlib.Core.List.{List, [], ◌∷◌}
use Prim.Native.Nat.{ℕ, ◌+◌, ◌-◌, ◌*◌, ◌≤◌, ◌<◌}
use native.Mathlib.Nat.{mul-zero, zero-add, suc-mul, zero-mul, mul-le-mul, mul-le-mul_right}
use native.Mathlib.Numerals.{add-one}
use native.Mathlib.Omega.{arith}
use native.Mathlib.Decide.{dec_lt}
use borrow.Author.Tests.{lt-ltb, le-ltb}
use lib.Dec.{ltb}
use lib.ListN.{length, get_or, drop, drop_of_length-le}
use lib.Seq.{drop-cons}
use Rattle.wire.proofs.Laws.{tabulate_length, tabulate_at}
use Rattle.layout.specs.Payloads.{head_size, record_size}
use Rattle.layout.specs.declared.columns.Family.{Family}
use Rattle.layout.specs.declared.columns.Family.TheVariants.{Pre, Post, FrameStart, Item, FrameEnd, FodPlatform, DreamlandWhispy, StadiumTransformation}
use Rattle.game.specs.Frames.{Slot, no_slot, slots_of}
use Rattle.game.specs.Stores.{Lent, Offsets}
use Rattle.game.specs.declared.frames.Frames.{Frames}
use Rattle.players.specs.Inner.{slot_in, slots_in, Covers, Modest, Ranges}
use Rattle.players.specs.Presence.{marked, count_from, present_at}
use Rattle.players.specs.declared.slots.Slots.{Slots}
use Rattle.players.proofs.CountLaws.{rows_most, rises}
use Rattle.players.proofs.PresenceLaws.{count_split, count_most}
use Rattle.players.proofs.SlotLaws.{slots_few}
use Rattle.frames.specs.Inner.{Accepted, Placed}
use Rattle.events.specs.Eights.{row_size}
use Rattle.events.specs.Inner.{Framed, ShapeOf, ShapesOf}
use Rattle.events.specs.Length.{event_size, players_over, rows_between, run_length}
use Rattle.events.specs.declared.shapes.Shape.{Shape}
use Rattle.events.specs.declared.shapes.Shapes.{Shapes}

-- ---- records
-- a product of small numbers is small
pub small : (n s : ℕ) → n ≤ 8388608 → s ≤ 256 → n * s ≤ 2147483648
small n s h k = mul-le-mul h k

pub records_given : (m : Shape) (n : ℕ) → m.given ≡ true → n * (5 + m.bytes) ≡ n * row_size m
records_given m n e = ap (λ (b : Bool). n * cond b (5 + m.bytes) 0) (sym e)

pub records_none : (m : Shape) (n : ℕ) → m.given ≡ false → 0 ≡ n * row_size m
records_none m n e = sym (mul-zero n) ∙ ap (λ (b : Bool). n * cond b (5 + m.bytes) 0) (sym e)

-- a record by a shape is as long as the definition's
row_is : (f : Frames) (family : Family) (m : Shape) → ShapeOf f family m → head_size family ≡ 4 → row_size m ≡ event_size f.version family
row_is f family m h e =
    let long : 5 + m.bytes ≡ 1 + record_size family f.version = omega (arith, h.columns.total, e) in
    ap₂ (λ (b : Bool) (k : ℕ). cond b k 0) h.given long

-- rows by offsets: those of some frames are no more than all
module _ (frames rows : ℕ) (os : List ℕ) (a b : ℕ) (r : Ranges frames rows os) (h : a ≤ b) (l : b ≤ frames) where
  pub rows_rise : get_or os a 0 ≤ get_or os b 0
  rows_rise = let e : a + (b - a) ≡ b = omega arith in rw e at (rises os frames r.rising a (b - a) (omega arith))

  pub rows_few : rows ≤ 8388608 → rows_between os a b ≤ 8388608
  rows_few m = omega (arith, r.inside b l, m)

-- of an accepted input: each family's ranges, by its shape
module _ (f : Frames) (family : Family) (m : Shape) (h : ShapeOf f family m) (k : Modest f) where
  pub few_rows : m.rows ≤ 8388608
  few_rows = omega (arith, h.rows, rows_most f family k)

  pub ranges_in : {os : List ℕ} → Placed f family os → m.given ≡ true → Ranges f.counts.frames m.rows os
  ranges_in {os} p t = subst (λ (n : ℕ). Ranges f.counts.frames n os) (sym h.rows) (p.has (sym h.given ∙ t))

-- ---- players
pub covers_fewer : {bits : List ℕ} {at len n : ℕ} (m : ℕ) → Covers bits at len n → m ≤ n → Covers bits at len m
covers_fewer m c h = record { inside = c.inside; enough = λ some. omega (arith, c.enough some) }

-- those before b less those before a
pub between : (p : ℕ → Bool) (a b x y : ℕ) → a ≤ b → x ≡ count_from p 0 a → y ≡ count_from p 0 b → (x ≤ y) × (y - x ≡ count_from p a (b - a))
between p a b x y h e q =
    let n : a + (b - a) ≡ b = omega arith in
    let t : count_from p 0 b ≡ count_from p 0 a + count_from p a (b - a) =
    ap (count_from p 0) (sym n) ∙ count_split p 0 a (b - a) ∙ ap (λ (k : ℕ). count_from p 0 a + count_from p k (b - a)) (zero-add a) in
    (omega (arith, e, q, t), omega (arith, e, q, t))

module _ (bits : List ℕ) (a n : ℕ) (s : Slots) where
  pub over_step : (k : ℕ) → k < s.count
      → players_over bits (drop k (slots_in s)) a n ≡ count_from (present_at bits (slot_in s k)) a n + players_over bits (drop (k + 1) (slots_in s)) a n
  unfolding players_over
  over_step k h =
      rw (drop-cons (slots_in s) k no_slot (omega (arith, tabulate_length s.count (slot_in s))), tabulate_at no_slot s.count (slot_in s) k h, add-one)

  pub over_done : (k : ℕ) → s.count ≤ k → players_over bits (drop k (slots_in s)) a n ≡ 0
  unfolding players_over
  over_done k h = rw (drop_of_length-le (slots_in s) {i = k} (omega (arith, tabulate_length s.count (slot_in s))))

over_most : (bits : List ℕ) (a n : ℕ) (ss : List Slot) → players_over bits ss a n ≤ length ss * n
unfolding players_over
over_most bits a n [] = omega (arith, zero-mul n)
over_most bits a n (s ∷ ss) = rw suc-mul (omega (arith, over_most bits a n ss, count_most (marked bits s.at s.len) a n))

pub over_few : (f : Frames) (bits : List ℕ) (a n : ℕ) → n ≤ 1048576 → players_over bits (slots_of f) a n ≤ 8388608
over_few f bits a n h = omega (arith, over_most bits a n (slots_of f), mul-le-mul_right n (slots_few f))

-- ---- the run, part after part
module _ (f : Frames) (o : Offsets) (bits : List ℕ) (z : Shapes) (m : ShapesOf f z) (a b n p : ℕ) (en : n ≡ b - a) (ep : p ≡ players_over bits (slots_of f) a (b - a)) where
  one_adds : (family : Family) (k : Shape) → ShapeOf f family k → head_size family ≡ 4 → (x : ℕ) → x ≡ n * row_size k → x ≡ (b - a) * event_size f.version family
  one_adds family k h e x q = q ∙ ap₂ ◌*◌ en (row_is f family k h e)

  rows_add : (family : Family) (k : Shape) → ShapeOf f family k → head_size family ≡ 4 → (os : List ℕ) (x : ℕ) → x ≡ rows_between os a b * row_size k → x ≡ rows_between os a b * event_size f.version family
  rows_add family k h e os x q = q ∙ ap (λ (y : ℕ). rows_between os a b * y) (row_is f family k h e)

  players_add : (family : Family) (k : Shape) → ShapeOf f family k → head_size family ≡ 6 → p * (7 + k.bytes) ≡ players_over bits (slots_of f) a (b - a) * (1 + record_size family f.version)
  players_add family k h e = let long : 7 + k.bytes ≡ 1 + record_size family f.version = omega (arith, h.columns.total, e) in ap₂ ◌*◌ ep long

  pub run_adds : (x1 x3 x4 x5 x6 x8 : ℕ)
      → x1 ≡ n * row_size z.start → x3 ≡ rows_between o.fods a b * row_size z.fod
      → x4 ≡ rows_between o.whispys a b * row_size z.whispy → x5 ≡ rows_between o.stadiums a b * row_size z.stadium
      → x6 ≡ rows_between o.items a b * row_size z.item → x8 ≡ n * row_size z.end
      → x1 + (p * (7 + z.pre.bytes) + (x3 + (x4 + (x5 + (x6 + (p * (7 + z.post.bytes) + x8)))))) ≡ run_length f o bits a b
  unfolding run_length
  run_adds x1 x3 x4 x5 x6 x8 e1 e3 e4 e5 e6 e8 =
      ap₂ ◌+◌ (one_adds FrameStart z.start m.start refl x1 e1)
      (ap₂ ◌+◌ (players_add Pre z.pre m.pre refl)
      (ap₂ ◌+◌ (rows_add FodPlatform z.fod m.fod refl o.fods x3 e3)
      (ap₂ ◌+◌ (rows_add DreamlandWhispy z.whispy m.whispy refl o.whispys x4 e4)
      (ap₂ ◌+◌ (rows_add StadiumTransformation z.stadium m.stadium refl o.stadiums x5 e5)
      (ap₂ ◌+◌ (rows_add Item z.item m.item refl o.items x6 e6)
      (ap₂ ◌+◌ (players_add Post z.post m.post refl) (one_adds FrameEnd z.end m.end refl x8 e8)))))))

-- ---- room after a place
pub short_is : (room place len : ℕ) → place ≤ room → ltb (room - place) len ≡ ltb room (place + len)
short_is room place len h = elim (dec_lt (room - place) len) [ yes l ↦ inside l | no r ↦ beyond r ]
  where
    inside : room - place < len → ltb (room - place) len ≡ ltb room (place + len)
    inside l = let k : room < place + len = omega arith in lt-ltb (room - place) len l ∙ sym (lt-ltb room (place + len) k)

    beyond : (room - place < len → ⊥) → ltb (room - place) len ≡ ltb room (place + len)
    beyond r = let l : len ≤ room - place = omega (arith, r) in let k : place + len ≤ room = omega arith in le-ltb (room - place) len l ∙ sym (le-ltb room (place + len) k)

-- ---- what the frames' writer needs, of an accepted input
pub framed : {f : Frames} {s : Lent} → Accepted f s → Framed f s
framed a = record {
  modest = a.modest;
  ids = a.ids;
  stores = λ family. (a.stores family).size;
  items = a.items.has;
  fods = a.fods.has;
  whispys = a.whispys.has;
  stadiums = a.stadiums.has;
}
