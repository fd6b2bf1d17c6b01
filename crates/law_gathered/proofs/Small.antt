-- The rows of any run of an accepted game, gathered, are an accepted game, and a part of the large one.
-- Assumes nothing.
use mathlib.Core.Path.{◌≡◌, refl, sym, ap, ap₂, ◌∙◌}
use mathlib.Core.Bool.{Bool, true, false, ◌&&◌}
use mathlib.Core.List.{List, [], ◌∷◌, ◌++◌, append-nil}
use Prim.Native.Nat.{ℕ, zero, suc, ◌+◌, ◌-◌, ◌*◌, ◌≤◌, ◌<◌}
use native.Mathlib.Nat.{zero-add, mul-one}
use native.Mathlib.Omega.{arith}
use borrow.Author.Tests.{lt-ltb, le-ltb, le-leb, lt-leb}
use lib.Dec.{ltb, leb}
use lib.ListN.{length, get_or}
use Rattle.wire.specs.Wire.{ranged, keep}
use Rattle.wire.proofs.Laws.{length_ranged, ranged_same}
use Rattle.format.specs.Refusal.{lowest}
use Rattle.layout.specs.Columns.{has_family, widths_of}
use Rattle.layout.specs.declared.columns.Family.{Family}
use Rattle.layout.specs.declared.columns.Family.TheVariants.{Pre, Post, FrameStart, Item, FrameEnd, FodPlatform, DreamlandWhispy, StadiumTransformation}
use Rattle.game.specs.Frames.{Slot, no_slot, slots_of, rows_of, slot_blocks, slot_at}
use Rattle.game.specs.Stores.{Lent, cells_of}
use Rattle.game.specs.declared.frames.Frames.{Frames}
use Rattle.players.specs.Presence.{present_at}
use Rattle.players.specs.Inner.{Ranges}
use Rattle.frames.specs.Judge.{refusals}
use Rattle.frames.specs.Inner.{Placed, Accepted}
use Rattle.events.proofs.AlikeLaws.{ranged_split}
use Rattle.columns.proofs.Offsets.{totals_first}
use Rattle.law_part.specs.Part.{first_row, Counted, Part}
use Rattle.final_frames.specs.Rows.{rows_by, rows_at, offsets_at, store_rows, frames_at, lent_at}
use Rattle.final_frames.proofs.Gather.{passing, gather_at}
use Rattle.final_frames.proofs.Slots.{moved, slots_are, moved_length, moved_port, moved_follower, slots_marked}
use Rattle.final_frames.proofs.Ranges.{numbers_at, count, offsets_next}
use Rattle.final_frames.proofs.Fits.{rows_none}
use Rattle.final_frames.proofs.Ports.{count_is}
use Rattle.final_frames.proofs.Events.{version_is, stores_are, rows_are, id_is}
use Rattle.final_frames.proofs.Judged as judged
use Rattle.law_gathered.proofs.Gathered.{rows_from}

rows_many : (a n : ℕ) → length (rows_from a n) ≡ n
unfolding rows_from
rows_many a n = length_ranged (λ i. i ∷ []) 1 (λ i. refl) a n ∙ mul-one n

row_of : (a n j : ℕ) → j < n → get_or (rows_from a n) j 0 ≡ a + j
unfolding rows_from
row_of a n j h = numbers_at a n j h

-- ---- rows by offsets that rise: those from the first frame's first on, and before the last frame's last
module _ (os : List ℕ) where
  rising_to : (a n : ℕ) → ((i : ℕ) → i < a + n → get_or os i 0 ≤ get_or os (i + 1) 0) → get_or os a 0 ≤ get_or os (a + n) 0
  rising_to a zero h = let e : a + 0 ≡ a = omega arith in omega (arith, ap (λ (k : ℕ). get_or os k 0) e)
  rising_to a (suc n) h =
      let e : a + n + 1 ≡ a + suc n = omega arith in
      omega (arith, rising_to a n (λ i l. h i (omega (arith, l))), h (a + n) (omega arith), ap (λ (k : ℕ). get_or os k 0) e)

  rows_by_lem : (a n : ℕ) → ((i : ℕ) → i < a + n → get_or os i 0 ≤ get_or os (i + 1) 0) → rows_at os (rows_from a n) ≡ rows_from (get_or os a 0) (get_or os (a + n) 0 - get_or os a 0)
  unfolding rows_at rows_from ranged
  rows_by_lem a zero h =
      let e : a + 0 ≡ a = omega arith in
      let none : 0 ≡ get_or os (a + 0) 0 - get_or os a 0 = omega (arith, ap (λ (k : ℕ). get_or os k 0) e) in
      ap (ranged (λ i. i ∷ []) (get_or os a 0)) none
  rows_by_lem a (suc n) h =
      let e : a + 1 + n ≡ a + suc n = omega arith in
      let x = get_or os a 0 in
      let y = get_or os (a + 1) 0 in
      let z = get_or os (a + suc n) 0 in
      let one : x ≤ y = h a (omega arith) in
      let up : y ≤ get_or os (a + 1 + n) 0 = rising_to (a + 1) n (λ i l. h i (omega (arith, l, e))) in
      let same : get_or os (a + 1 + n) 0 ≡ z = ap (λ (k : ℕ). get_or os k 0) e in
      let next : x + (y - x) ≡ y = omega (arith, one) in
      let all : y - x + (z - y) ≡ z - x = omega (arith, one, up, same) in
      ap (λ (l : List ℕ). rows_by os a ++ l) (rows_by_lem (a + 1) n (λ i l. h i (omega (arith, l, e))) ∙ ap (λ (k : ℕ). ranged (λ i. i ∷ []) y (k - y)) same)
      ∙ ap (λ (k : ℕ). rows_by os a ++ ranged (λ i. i ∷ []) k (z - y)) (sym next)
      ∙ sym (ranged_split (λ i. i ∷ []) x (y - x) (z - y))
      ∙ ap (ranged (λ i. i ∷ []) x) all

  counted_at : (a n : ℕ) → ((i : ℕ) → i < a + n → get_or os i 0 ≤ get_or os (i + 1) 0) → (j : ℕ) → j ≤ n → get_or (offsets_at os (rows_from a n)) j 0 + get_or os a 0 ≡ get_or os (a + j) 0
  unfolding offsets_at
  counted_at a n h zero l =
      let e : a ≡ a + 0 = omega arith in
      ap (λ (k : ℕ). k + get_or os a 0) (totals_first 0 _) ∙ zero-add (get_or os a 0) ∙ ap (λ (k : ℕ). get_or os k 0) e
  counted_at a n h (suc j) l =
      let i = get_or (rows_from a n) j 0 in
      let here : i ≡ a + j = row_of a n j (omega (arith, l)) in
      let before = counted_at a n h j (omega (arith, l)) in
      let k : j + 1 ≡ suc j = omega arith in
      let e : a + j + 1 ≡ a + suc j = omega arith in
      let next = offsets_next os (rows_from a n) j (omega (arith, l, rows_many a n)) ∙ ap (λ (q : ℕ). get_or (offsets_at os (rows_from a n)) j 0 + count os q) here in
      omega (arith, next, before, h (a + j) (omega (arith, l)), ap (λ (q : ℕ). get_or (offsets_at os (rows_from a n)) q 0) k, ap (λ (q : ℕ). get_or os q 0) e)

-- ---- the rows as those that pass a test
abbrev inside : ℕ → ℕ → ℕ → Bool
inside a b i = leb a i && ltb i b

nothing : (p : ℕ → Bool) (i n : ℕ) → ((j : ℕ) → i ≤ j → j < i + n → p j ≡ false) → passing p i n ≡ []
unfolding passing ranged keep
nothing p i zero h = refl
nothing p i (suc n) h = rw (h i (omega arith) (omega arith)) (nothing p (i + 1) n (λ j l m. h j (omega (arith, l)) (omega (arith, m))))

everything : (p : ℕ → Bool) (i n : ℕ) → ((j : ℕ) → i ≤ j → j < i + n → p j ≡ true) → passing p i n ≡ rows_from i n
unfolding passing rows_from keep
everything p i n h = ranged_same (λ i. keep (p i) (i ∷ [])) (λ i. i ∷ []) i n (λ j l m. rw (h j l m))

passing_split : (p : ℕ → Bool) (i x y : ℕ) → passing p i (x + y) ≡ passing p i x ++ passing p (i + x) y
unfolding passing
passing_split p i x y = ranged_split (λ i. keep (p i) (i ∷ [])) i x y

rows_passing : (a n m : ℕ) → passing (inside a (a + n)) 0 (a + (n + m)) ≡ rows_from a n
rows_passing a n m =
    let p = inside a (a + n) in
    passing_split p 0 a (n + m)
    ∙ ap₂ (λ (x y : List ℕ). x ++ y) (nothing p 0 a (λ j l k. before j (omega (arith, k))))
    (ap (λ (i : ℕ). passing p i (n + m)) (zero-add a)
    ∙ passing_split p a n m
    ∙ ap₂ (λ (x y : List ℕ). x ++ y) (everything p a n (λ j l k. within j l k)) (nothing p (a + n) m (λ j l k. behind j l))
    ∙ append-nil (rows_from a n))
  where
    before : (j : ℕ) → j < a → inside a (a + n) j ≡ false
    before j l = rw (lt-leb a j l)

    within : (j : ℕ) → a ≤ j → j < a + n → inside a (a + n) j ≡ true
    within j l k = rw (le-leb a j l, lt-ltb j (a + n) k)

    behind : (j : ℕ) → a + n ≤ j → inside a (a + n) j ≡ false
    behind j l = let k : a ≤ j = omega (arith, l) in rw (le-leb a j k, le-ltb j (a + n) l)

-- ---- the small game
module _ (f : Frames) (s : Lent) (a n : ℕ) where
  abbrev pub small_frames : Frames
  small_frames = frames_at f s (rows_from a n)

  abbrev pub small_lent : Lent
  small_lent = lent_at f s (rows_from a n)

  module _ (ok : lowest (refusals f s 0 0) ≡ 0) (h : a + n ≤ f.counts.frames) (acc : Accepted f s) where
    -- it is accepted
    pub small_accepted : lowest (refusals small_frames small_lent 0 0) ≡ 0
    small_accepted =
        let all : a + (n + (f.counts.frames - (a + n))) ≡ f.counts.frames = omega (arith, h) in
        let same : passing (inside a (a + n)) 0 f.counts.frames ≡ rows_from a n = ap (passing (inside a (a + n)) 0) (sym all) ∙ rows_passing a n (f.counts.frames - (a + n)) in
        ap (λ (r : List ℕ). lowest (refusals (frames_at f s r) (lent_at f s r) 0 0)) (sym same) ∙ judged.judged (inside a (a + n)) f s acc 0 0 ok

    frames_many : small_frames.counts.frames ≡ n
    frames_many = count_is f s (rows_from a n) ∙ rows_many a n

    -- a family's j-th row is the large game's, from the first on
    rise : {rows : ℕ} (os : List ℕ) → Ranges f.counts.frames rows os → (i : ℕ) → i < a + n → get_or os i 0 ≤ get_or os (i + 1) 0
    rise os r i l = r.rising i (omega (arith, l, h))

    by_offsets : (family : Family) (os : List ℕ) → Placed f family os → (j : ℕ) → j < length (rows_at os (rows_from a n)) → has_family f.version family ≡ true → get_or (rows_at os (rows_from a n)) j 0 ≡ get_or os a 0 + j
    by_offsets family os p j l has =
        let e = rows_by_lem os a n (rise os (p.has has)) in
        let m = ap length e ∙ rows_many (get_or os a 0) (get_or os (a + n) 0 - get_or os a 0) in
        ap (λ (r : List ℕ). get_or r j 0) e ∙ row_of (get_or os a 0) (get_or os (a + n) 0 - get_or os a 0) j (omega (arith, l, m))

    counted : (family : Family) (os : List ℕ) → Placed f family os → Counted f os a small_frames (keep (has_family f.version family) (offsets_at os (rows_from a n))) family
    unfolding keep
    counted family os p has j l =
        ap (λ (b : Bool). get_or (keep b (offsets_at os (rows_from a n))) j 0 + get_or os a 0) has ∙ counted_at os a n (rise os (p.has has)) j (omega (arith, l, frames_many))

    marks : (k j : ℕ) → k < length (slots_of f) → j < length (rows_from a n)
        → present_at small_lent.presence (get_or (moved (length (rows_from a n)) 0 (slots_of f)) k no_slot) j ≡ present_at s.presence (get_or (slots_of f) k no_slot) (get_or (rows_from a n) j 0)
    unfolding lent_at
    marks k j l m = slots_marked s.presence (slots_of f) (rows_from a n) [] k j l m

    items_are : Counted f s.offsets.items a small_frames small_lent.offsets.items Item
    unfolding lent_at
    items_are = counted Item s.offsets.items acc.items

    fods_are : Counted f s.offsets.fods a small_frames small_lent.offsets.fods FodPlatform
    unfolding lent_at
    fods_are = counted FodPlatform s.offsets.fods acc.fods

    whispys_are : Counted f s.offsets.whispys a small_frames small_lent.offsets.whispys DreamlandWhispy
    unfolding lent_at
    whispys_are = counted DreamlandWhispy s.offsets.whispys acc.whispys

    stadiums_are : Counted f s.offsets.stadiums a small_frames small_lent.offsets.stadiums StadiumTransformation
    unfolding lent_at
    stadiums_are = counted StadiumTransformation s.offsets.stadiums acc.stadiums

    placed_row : (family : Family) (os : List ℕ) → Placed f family os → (j : ℕ) → j < length (rows_at os (rows_from a n)) → get_or (rows_at os (rows_from a n)) j 0 ≡ get_or os a 0 + j
    placed_row family os p j l = go (has_family f.version family) refl
      where
        go : (t : Bool) → has_family f.version family ≡ t → get_or (rows_at os (rows_from a n)) j 0 ≡ get_or os a 0 + j
        go true has = by_offsets family os p j l has
        go false lacks = absurd (omega (arith, l, rows_none os (rows_from a n) (p.lacks lacks).1))

    row_here : (family : Family) (j : ℕ) → j < length (store_rows f s (rows_from a n) family) → get_or (store_rows f s (rows_from a n) family) j 0 ≡ first_row s a family + j
    row_here Pre j l = row_of a n j (omega (arith, l, rows_many a n))
    row_here Post j l = row_of a n j (omega (arith, l, rows_many a n))
    row_here FrameStart j l = row_of a n j (omega (arith, l, rows_many a n))
    row_here FrameEnd j l = row_of a n j (omega (arith, l, rows_many a n))
    row_here Item j l = placed_row Item s.offsets.items acc.items j l
    row_here FodPlatform j l = placed_row FodPlatform s.offsets.fods acc.fods j l
    row_here DreamlandWhispy j l = placed_row DreamlandWhispy s.offsets.whispys acc.whispys j l
    row_here StadiumTransformation j l = placed_row StadiumTransformation s.offsets.stadiums acc.stadiums j l

    -- and a part of the large one
    pub small_part : Part f s a (a + n) small_frames small_lent
    small_part =
        let rows = rows_from a n in
        record {
          version = version_is f s rows;
          frames = ap (λ (k : ℕ). a + k) frames_many;
          within = h;
          slots = ap length (slots_are f s rows) ∙ moved_length (length rows) 0 (slots_of f);
          ports = λ k l. ap (λ (ss : List Slot). (get_or ss k no_slot).port) (slots_are f s rows) ∙ moved_port (length rows) 0 (slots_of f) k l;
          followers = λ k l. ap (λ (ss : List Slot). (get_or ss k no_slot).follower) (slots_are f s rows) ∙ moved_follower (length rows) 0 (slots_of f) k l;
          present = λ k j l m. here k j l (omega (arith, m, frames_many));
          ids = λ j l. id_is f s rows j (omega (arith, l, frames_many, rows_many a n)) ∙ ap (λ (i : ℕ). get_or s.cells.ids i 0) (row_of a n j (omega (arith, l, frames_many)));
          cells = λ family c j k l.
              ap₂ (λ (x : List ℕ) (m : ℕ). get_or x (c * m + j) 0) (stores_are f s rows family) (rows_are f s rows family)
              ∙ gather_at (cells_of s.cells family) (rows_of f family) (slot_blocks f family * length (widths_of family f.version)) (store_rows f s rows family) c j k (omega (arith, l, rows_are f s rows family))
              ∙ ap (λ (i : ℕ). get_or (cells_of s.cells family) (c * rows_of f family + i) 0) (row_here family j (omega (arith, l, rows_are f s rows family)));
          items = items_are;
          fods = fods_are;
          whispys = whispys_are;
          stadiums = stadiums_are;
        }
      where
        here : (k j : ℕ) → k < length (slots_of f) → j < n → present_at small_lent.presence (slot_at small_frames k) j ≡ present_at s.presence (slot_at f k) (a + j)
        here k j l m =
            let rows = rows_from a n in
            ap (λ (ss : List Slot). present_at small_lent.presence (get_or ss k no_slot) j) (slots_are f s rows)
            ∙ marks k j l (omega (arith, m, rows_many a n))
            ∙ ap (present_at s.presence (slot_at f k)) (row_of a n j m)
