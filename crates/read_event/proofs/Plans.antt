-- The plan that is made of a frame input is the definition's.
-- Assumes nothing.
use mathlib.Core.Path.{◌≡◌, refl, sym, ap, ap₂, subst, ◌∙◌}
use mathlib.Core.Bool.{Bool}
use mathlib.Core.List.{List, [], ◌∷◌, ◌++◌, map}
use Prim.Native.Nat.{ℕ, zero, suc, ◌+◌, ◌*◌, ◌/◌, ◌≤◌, ◌<◌}
use native.Mathlib.Nat.{zero-add}
use native.Mathlib.Omega.{arith}
use lib.ListN.{length, get_or, take, drop, replicate, length-replicate}
use lib.Seq.{length-take-le, get_or-take}
use lib.ListN.{length-map}
use Rattle.wire.specs.Wire.{splice, tabulate}
use Rattle.wire.proofs.Laws.{splice_is, tabulated}
use Rattle.format.specs.declared.version.Version.{Version}
use Rattle.format.specs.File.{Ev}
use Rattle.layout.specs.Columns.{sum, has_family, widths_of}
use Rattle.layout.specs.Inner.{Widths}
use Rattle.layout.specs.declared.columns.Family.{Family}
use Rattle.layout.specs.declared.columns.Family.TheVariants.{Pre, Post, FrameStart, Item, FrameEnd, FodPlatform, DreamlandWhispy, StadiumTransformation}
use Rattle.layout.specs.declared.listing.Listing.{Listing}
use Rattle.game.specs.Frames.{slots_of}
use Rattle.game.specs.Stores.{Lent, cells, lent}
use Rattle.game.specs.declared.frames.Frames.{Frames}
use Rattle.players.specs.Inner.{slot_in, Slotted}
use Rattle.players.specs.declared.slots.Slots.{Slots}
use Rattle.columns.specs.Columns.{slot_number}
use Rattle.read_event.specs.Inner.{Plan, plan, plan_of, numbers_of, spans_of, run, none, Rooms, Spelled, SomeSpelled, Numbered, zeros, player_cells, presence_cells, cleared}
use Rattle.read_event.specs.declared.numbers.Numbers.{Numbers}

-- ---- parts of arrays

pub widths_cut : (family : Family) (v : Version) (n bytes : ℕ) (array : List ℕ) → Widths family v n bytes array → (n ≤ length array) × (n ≡ length (take n array)) × (bytes ≤ 128)
widths_cut family v n bytes array w = (omega (arith, w.few, w.room), sym (length-take-le n array (omega (arith, w.few, w.room))), w.small)

pub numbers_cut : (f : Frames) (n : ℕ) (array : List ℕ) → Numbered f n array → (n ≤ length array) × (n ≡ length (take n array))
numbers_cut f n array w = (w.few, sym (length-take-le n array w.few))

-- ---- the slots' numbers

map_tabulate : {A B : Type 0} (g : A → B) (n : ℕ) (h : ℕ → A) → map g (tabulate n h) ≡ tabulate n (λ k. g (h k))
unfolding tabulate
map_tabulate g zero h = refl
map_tabulate g (suc n) h = map-append g (tabulate n h) (h n ∷ []) ∙ ap (λ l. l ++ (g (h n) ∷ [])) (map_tabulate g n h)
  where
    map-append : {A B : Type 0} (g : A → B) (xs ys : List A) → map g (xs ++ ys) ≡ map g xs ++ map g ys
    map-append g [] ys = refl
    map-append g (x ∷ xs) ys = ap (λ l. g x ∷ l) (map-append g xs ys)

pub numbered : (f : Frames) (s : Slots) (array : List ℕ) → Slotted f s → length array ≡ 8 → ((j : ℕ) → j < 8 → get_or array j 0 ≡ slot_number (slot_in s j)) → Numbered f s.count array
numbered f s array q n h =
    let few : s.count ≤ length array = omega (arith, q.few) in
    let e : take s.count array ≡ tabulate s.count (λ k. slot_number (slot_in s k)) =
    tabulated 0 (take s.count array) s.count (λ k. slot_number (slot_in s k)) (length-take-le s.count array few)
    (λ k l. get_or-take s.count array k 0 l ∙ h k (omega (arith, q.few))) in
    record { few = few; are = e ∙ sym (map_tabulate slot_number s.count (slot_in s)) ∙ ap (map slot_number) q.listed }

-- ---- the plan

module _ (f : Frames) (start pre post end item fod whispy stadium : Listing) (slots : Numbers) (x y w : Bool) where
  abbrev pub made : Plan
  made =
      plan (take start.count start.widths) (take pre.count pre.widths) (take post.count post.widths) (take end.count end.widths)
      (take item.count item.widths) (take fod.count fod.widths) (take whispy.count whispy.widths) (take stadium.count stadium.widths) x y w f.counts
      (take slots.count slots.of)

  abbrev pub Listings : Type 0
  Listings =
      Widths FrameStart f.version start.count start.bytes start.widths
      × Widths Pre f.version pre.count pre.bytes pre.widths
      × Widths Post f.version post.count post.bytes post.widths
      × Widths FrameEnd f.version end.count end.bytes end.widths
      × Widths Item f.version item.count item.bytes item.widths
      × Widths FodPlatform f.version fod.count fod.bytes fod.widths
      × Widths DreamlandWhispy f.version whispy.count whispy.bytes whispy.widths
      × Widths StadiumTransformation f.version stadium.count stadium.bytes stadium.widths

  pub plan_is : Numbered f slots.count slots.of → Listings → x ≡ has_family f.version FrameStart → y ≡ has_family f.version Item → w ≡ has_family f.version FodPlatform
      → made ≡ plan_of f
  plan_is n l a b c = λ i. record {
    start = l.0.each i;
    pre = l.1.each i;
    post = l.2.each i;
    end = l.3.each i;
    item = l.4.each i;
    fod = l.5.each i;
    whispy = l.6.each i;
    stadium = l.7.each i;
    has_start = a i;
    has_item = b i;
    has_stage = c i;
    counts = f.counts;
    numbers = n.are i;
  }

-- what holds of one plan holds of the same one
module _ (p q : Plan) (e : p ≡ q) where
  pub some_as : (file : List ℕ) (at end : ℕ) → SomeSpelled q file at end → SomeSpelled p file at end
  some_as file at end = subst (λ (r : Plan). SomeSpelled r file at end) (sym e)

  pub rooms_as : (l : Lent) → Rooms q l → Rooms p l
  rooms_as l = subst (λ (r : Plan). Rooms r l) (sym e)

  pub spelled_as : (file : List ℕ) (at end : ℕ) (es : List Ev) → Spelled q file at end es → Spelled p file at end es
  spelled_as file at end es = subst (λ (r : Plan). Spelled r file at end es) (sym e)

  pub run_as : (es : List Ev) (l : Lent) → run p es none l ≡ run q es none l
  run_as es l = ap (λ (r : Plan). run r es none l) e

pub spans_are : (f : Frames) (start pre post end item fod whispy stadium : Listing) (p : Plan) → p ≡ plan_of f
    → Widths FrameStart f.version start.count start.bytes start.widths
    × Widths Pre f.version pre.count pre.bytes pre.widths
    × Widths Post f.version post.count post.bytes post.widths
    × Widths FrameEnd f.version end.count end.bytes end.widths
    × Widths Item f.version item.count item.bytes item.widths
    × Widths FodPlatform f.version fod.count fod.bytes fod.widths
    × Widths DreamlandWhispy f.version whispy.count whispy.bytes whispy.widths
    × Widths StadiumTransformation f.version stadium.count stadium.bytes stadium.widths
    → record { pre = 7 + pre.bytes; post = 7 + post.bytes; start = 5 + start.bytes; item = 5 + item.bytes; end = 5 + end.bytes; fod = 5 + fod.bytes; whispy = 5 + whispy.bytes; stadium = 5 + stadium.bytes }
    ≡ spans_of p
spans_are f start pre post end item fod whispy stadium p e l =
    let a = l.1.total ∙ sym (ap (λ (r : Plan). sum r.pre) e) in
    let b = l.2.total ∙ sym (ap (λ (r : Plan). sum r.post) e) in
    let c = l.0.total ∙ sym (ap (λ (r : Plan). sum r.start) e) in
    let d = l.4.total ∙ sym (ap (λ (r : Plan). sum r.item) e) in
    let g = l.3.total ∙ sym (ap (λ (r : Plan). sum r.end) e) in
    let h = l.5.total ∙ sym (ap (λ (r : Plan). sum r.fod) e) in
    let j = l.6.total ∙ sym (ap (λ (r : Plan). sum r.whispy) e) in
    let k = l.7.total ∙ sym (ap (λ (r : Plan). sum r.stadium) e) in
    λ i. record { pre = 7 + a i; post = 7 + b i; start = 5 + c i; item = 5 + d i; end = 5 + g i; fod = 5 + h i; whispy = 5 + j i; stadium = 5 + k i }

-- ---- zeros

-- the front of a store, lent and filled with zeros
pub zeros_filled : (xs ys : List ℕ) (m n : ℕ) → m ≡ n → n ≤ length xs → ys ≡ replicate (length (take m xs)) 0 → ys ++ drop m xs ≡ splice xs 0 (replicate n 0)
zeros_filled xs ys m n q room e =
    let far : m ≤ length xs = omega arith in
    let long : length (take m xs) ≡ m = length-take-le m xs far in
    let same : ys ≡ replicate m 0 = rw long at e in
    let whole = splice_is xs 0 (replicate m 0) (rw (length-replicate, zero-add) far) in
    let front : ys ++ drop m xs ≡ splice xs 0 (replicate m 0) = rw same (sym (rw (length-replicate, zero-add) at whole)) in
    front ∙ ap (λ (k : ℕ). splice xs 0 (replicate k 0)) q

pub same_zeros : (slots s k j n : ℕ) → slots ≡ s → k ≡ j → slots * (k * n) ≡ s * (j * n)
same_zeros slots s k j n a b = ap₂ (λ (x y : ℕ). x * (y * n)) a b

-- ---- the stores of players, cleared

pub rooms_players : (f : Frames) (l : Lent) → Rooms (plan_of f) l
    → (player_cells f Pre ≤ length l.cells.pres) × (player_cells f Post ≤ length l.cells.posts) × (presence_cells f ≤ length l.presence)
rooms_players f l r =
    let n : length (numbers_of f) ≡ length (slots_of f) = length-map (slots_of f) slot_number in
    let a = ap (λ (x : ℕ). x * (length (widths_of Pre f.version) * f.counts.frames)) n in
    let b = ap (λ (x : ℕ). x * (length (widths_of Post f.version) * f.counts.frames)) n in
    let c = ap (λ (x : ℕ). x * ((f.counts.frames + 7) / 8)) n in
    (omega (arith, a, r.pres.room), omega (arith, b, r.posts.room), omega (arith, c, r.bits))

pub cleared_run : (f : Frames) (es : List Ev) (l : Lent) (pres posts bits : List ℕ)
    → (pres ≡ zeros (player_cells f Pre) l.cells.pres) × (posts ≡ zeros (player_cells f Post) l.cells.posts) × (bits ≡ zeros (presence_cells f) l.presence)
    → run (plan_of f) es none
    (lent (cells l.cells.ids l.cells.starts pres posts l.cells.ends l.cells.items l.cells.fods l.cells.whispys l.cells.stadiums) l.offsets bits)
    ≡ run (plan_of f) es none (cleared f l)
unfolding cleared
cleared_run f es l pres posts bits e =
    λ i. run (plan_of f) es none
    (lent (cells l.cells.ids l.cells.starts (e.0 i) (e.1 i) l.cells.ends l.cells.items l.cells.fods l.cells.whispys l.cells.stadiums) l.offsets (e.2 i))
