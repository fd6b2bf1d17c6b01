-- The presence bytes that the pass leaves: a player's Pre sets the bit of its frame in its slot's bytes, so that the bits are those of the frames it is in.
-- Assumes nothing.
use mathlib.Core.Path.{◌≡◌, refl, sym, ap, subst, ◌∙◌}
use mathlib.Core.Bool.{Bool, true, false, cond, ◌||◌}
use mathlib.Core.Logic.{inl}
use mathlib.Core.List.{List, [], ◌∷◌, ◌++◌, map, append-nil}
use Prim.Native.Nat.{ℕ, zero, suc, ◌+◌, ◌-◌, ◌*◌, ◌/◌, ◌%◌, ◌^◌, ◌≤◌, ◌<◌}
use native.Mathlib.Nat.{add-zero, zero-add, sub-zero, pow-succ', mod-eq_of_lt}
use native.Mathlib.Decide.{dec_lt, ℕ_discrete}
use native.Mathlib.Omega.{arith}
use borrow.Author.Tests.{lt-ltb, le-ltb, le-leb, lt-leb, eqb-true, eqb-false}
use lib.Arith.{digits_div, digits_mod, digits_lt}
use lib.Dec.{eqb, ltb, leb}
use lib.ListN.{length, get_or, set, replicate, length-map, length-set, length-replicate, get_or-replicate}
use lib.Seq.{get_or-set_same, get_or-set_other}
use Rattle.wire.specs.Wire.{be, keep, splice}
use Rattle.wire.proofs.Laws.{length_splice}
use Rattle.patch.proofs.Positions.{splice_other}
use Rattle.format.specs.File.{Ev, index_of}
use Rattle.format.specs.declared.version.Version.{Version}
use Rattle.layout.specs.declared.columns.Family.TheVariants.{Pre}
use Rattle.game.specs.Frames.{Slot, no_slot, slots_of}
use Rattle.game.specs.Stores.{Lent}
use Rattle.game.specs.declared.frames.Frames.{Frames}
use Rattle.players.specs.Inner.{Modest}
use Rattle.grammar.specs.Productions.{Player, Frame, row_event, pre_event, events_of_frames}
use Rattle.grammar.specs.WellFormed.{Each, ascending, slot_of, InOrder, GoodFrame}
use Rattle.grammar.proofs.Tests.{or_true}
use Rattle.columns.specs.Columns.{holds, players_at, is_in, presence_len, bits_from, frames_read, slot_number, slots_presence}
use Rattle.columns.proofs.Laws.{map_at_lem, splice_inside, spliced, Place, place_of}
use Rattle.columns.proofs.Presence.{bits_small, slots_presence_at, slots_presence_length}
use Rattle.read_event.specs.Inner.{Plan, Told, plan_of, numbers_of, presence_cells, block_of, bit_put, told_by, run, none, cleared, Stands, Rooms}
use Rattle.law_filled.proofs.RowRuns.{in_order}
use Rattle.law_filled.proofs.Opens.{open_at, Fresh}
use Rattle.law_filled.proofs.Acts.{act_fold, frames_fold, act_frames, kept, fold_frame, bit_act, bits_run, bit_idle}
use Rattle.law_filled.proofs.Distinct.{among, never_again}
use Rattle.law_filled.proofs.Numbers.{Rising, numbers_rise, index_at, found}

-- ---- tests as a number

bits_same : (p q : ℕ → Bool) (i n : ℕ) → ((m : ℕ) → i ≤ m → m < i + n → p m ≡ q m) → bits_from p i n ≡ bits_from q i n
unfolding bits_from
bits_same p q i zero h = refl
bits_same p q i (suc n) h = rw (h i (omega arith) (omega arith), bits_same p q (i + 1) n (λ m l k. h m (omega arith) (omega arith)))

-- one test more
bits_more : (p q : ℕ → Bool) (i n d : ℕ) → d < n → ((m : ℕ) → (m ≡ i + d → ⊥) → p m ≡ q m) → p (i + d) ≡ false → q (i + d) ≡ true
    → bits_from q i n ≡ 2 ^ d + bits_from p i n
unfolding bits_from
bits_more p q i zero d l h a b = absurd (omega arith)
bits_more p q i (suc n) zero l h a b =
    let tail = bits_same p q (i + 1) n (λ m j k. h m (λ e. omega arith)) in
    let here : i + 0 ≡ i = omega arith in
    let a' : p i ≡ false = ap p (sym here) ∙ a in
    let b' : q i ≡ true = ap q (sym here) ∙ b in
    rw (a', b', tail) (omega arith)
bits_more p q i (suc n) (suc d) l h a b =
    let place : i + suc d ≡ i + 1 + d = omega arith in
    let tail = bits_more p q (i + 1) n d (omega arith) (λ m k. h m (λ e. k (e ∙ place))) (ap p (sym place) ∙ a) (ap q (sym place) ∙ b) in
    let power = pow-succ' 2 d in
    rw (h i (λ e. omega arith)) (omega arith)

-- ---- a bit in a slot's bytes

-- what was seen last
among_last : (j : ℕ) (seen : List ℕ) (k : ℕ) → eqb k j ≡ true → among j (seen ++ (k ∷ [])) ≡ true
unfolding among
among_last j [] k e = rw e
among_last j (x ∷ seen) k e = or_true (eqb x j) (among j (seen ++ (k ∷ []))) (among_last j seen k e)

-- what the frames from the i-th on add to byte j of a slot
unfoldable left_bits : ℕ → ℕ → ℕ → List Frame → ℕ
left_bits key j i [] = 0
left_bits key j i (f ∷ fs) = cond (eqb (i / 8) j) (cond (holds key f.players) (2 ^ (i % 8)) 0) 0 + left_bits key j (i + 1) fs

module _ (ks : List ℕ) (len : ℕ) where
  -- the bit of frame i in the bytes of block b
  unfoldable hit : ℕ → ℕ → List ℕ → List ℕ
  hit b i xs = cond (ltb b (length ks)) (set xs (b * len + i / 8) ((get_or xs (b * len + i / 8) 0 + 2 ^ (i % 8)) % 256)) xs

  length_hit : (b i : ℕ) (xs : List ℕ) → length (hit b i xs) ≡ length xs
  unfolding hit
  length_hit b i xs = go (ltb b (length ks))
    where
      go : (t : Bool) → length (cond t (set xs (b * len + i / 8) ((get_or xs (b * len + i / 8) 0 + 2 ^ (i % 8)) % 256)) xs) ≡ length xs
      go true = length-set xs (b * len + i / 8) ((get_or xs (b * len + i / 8) 0 + 2 ^ (i % 8)) % 256)
      go false = refl

  hit_here : (b i : ℕ) (xs : List ℕ) → b < length ks → b * len + i / 8 < length xs
      → get_or (hit b i xs) (b * len + i / 8) 0 ≡ (get_or xs (b * len + i / 8) 0 + 2 ^ (i % 8)) % 256
  unfolding hit
  hit_here b i xs h l =
      let at = b * len + i / 8 in
      rw (lt-ltb b (length ks) h) (get_or-set_same xs at ((get_or xs at 0 + 2 ^ (i % 8)) % 256) 0 l)

  hit_other : (b i : ℕ) (xs : List ℕ) (j : ℕ) → (b < length ks → j ≡ b * len + i / 8 → ⊥) → get_or (hit b i xs) j 0 ≡ get_or xs j 0
  unfolding hit
  hit_other b i xs j h =
      let at = b * len + i / 8 in
      elim (dec_lt b (length ks)) [
        | yes l ↦ rw (lt-ltb b (length ks) l) (get_or-set_other xs at j ((get_or xs at 0 + 2 ^ (i % 8)) % 256) 0 (λ e. h l (omega arith)))
        | no l ↦ rw (le-ltb b (length ks) (omega arith))
      ]

  -- a place has one block and one byte
  same_block : (a c i j : ℕ) → a * len + i ≡ c * len + j → i < len → j < len → a ≡ c
  same_block a c i j e h k = sym (digits_div a h) ∙ ap (λ (n : ℕ). n / len) e ∙ digits_div c k

  same_byte : (a c i j : ℕ) → a * len + i ≡ c * len + j → i < len → j < len → i ≡ j
  same_byte a c i j e h k = sym (digits_mod a h) ∙ ap (λ (n : ℕ). n % len) e ∙ digits_mod c k

  -- ---- the players of a frame

  unfoldable hits : ℕ → List Player → List ℕ → List ℕ
  hits i [] xs = xs
  hits i (q ∷ ps) xs = hits i ps (hit (index_of (slot_of q) ks) i xs)

  length_hits : (i : ℕ) (ps : List Player) (xs : List ℕ) → length (hits i ps xs) ≡ length xs
  unfolding hits
  length_hits i [] xs = refl
  length_hits i (q ∷ ps) xs = length_hits i ps (hit (index_of (slot_of q) ks) i xs) ∙ length_hit (index_of (slot_of q) ks) i xs

  hits_other : (i j : ℕ) → ((b : ℕ) → b < length ks → j ≡ b * len + i / 8 → ⊥) → (ps : List Player) (xs : List ℕ) → get_or (hits i ps xs) j 0 ≡ get_or xs j 0
  unfolding hits
  hits_other i j h [] xs = refl
  hits_other i j h (q ∷ ps) xs =
      let b = index_of (slot_of q) ks in
      hits_other i j h ps (hit b i xs) ∙ hit_other b i xs j (h b)

  module _ (k : ℕ) (inside : k < length ks) (once : index_of (get_or ks k 0) ks ≡ k) where
    abbrev key : ℕ
    key = get_or ks k 0

    -- the slot's own bit, where one of the players has the slot
    hits_at : (i : ℕ) → i / 8 < len → (seen : List ℕ) (ps : List Player) → InOrder ascending seen (map slot_of ps) → (xs : List ℕ) → k * len + i / 8 < length xs
        → get_or (hits i ps xs) (k * len + i / 8) 0 ≡ cond (holds key ps) ((get_or xs (k * len + i / 8) 0 + 2 ^ (i % 8)) % 256) (get_or xs (k * len + i / 8) 0)
    unfolding hits holds InOrder
    hits_at i small seen [] o xs l = refl
    hits_at i small seen (q ∷ ps) o xs l =
        let b = index_of (slot_of q) ks in
        go (eqb (slot_of q) key) refl (hits_at i small (seen ++ (slot_of q ∷ [])) ps o.1 (hit b i xs) (omega (arith, length_hit b i xs)))
      where
        b : ℕ
        b = index_of (slot_of q) ks

        go : (t : Bool) → eqb (slot_of q) key ≡ t
            → get_or (hits i ps (hit b i xs)) (k * len + i / 8) 0
            ≡ cond (holds key ps) ((get_or (hit b i xs) (k * len + i / 8) 0 + 2 ^ (i % 8)) % 256) (get_or (hit b i xs) (k * len + i / 8) 0)
            → get_or (hits i ps (hit b i xs)) (k * len + i / 8) 0 ≡ cond (t || holds key ps) ((get_or xs (k * len + i / 8) 0 + 2 ^ (i % 8)) % 256) (get_or xs (k * len + i / 8) 0)
        go true e more =
            let same : b ≡ k = ap (λ (x : ℕ). index_of x ks) (eqb-true (slot_of q) key e) ∙ once in
            let nobody-else = never_again key (seen ++ (slot_of q ∷ [])) ps o.1 (among_last key seen (slot_of q) e) in
            more
            ∙ ap (λ (t : Bool). cond t ((get_or (hit b i xs) (k * len + i / 8) 0 + 2 ^ (i % 8)) % 256) (get_or (hit b i xs) (k * len + i / 8) 0)) nobody-else
            ∙ ap (λ (x : ℕ). get_or (hit x i xs) (k * len + i / 8) 0) same
            ∙ hit_here k i xs inside l
        go false e more =
            let stays : get_or (hit b i xs) (k * len + i / 8) 0 ≡ get_or xs (k * len + i / 8) 0 =
            hit_other b i xs (k * len + i / 8)
            (λ m d. eqb-false (slot_of q) key e (sym (found (slot_of q) ks m) ∙ ap (λ (x : ℕ). get_or ks x 0) (same_block b k (i / 8) (i / 8) (sym d) small small))) in
            more ∙ ap (λ (x : ℕ). cond (holds key ps) ((x + 2 ^ (i % 8)) % 256) x) stays

    -- ---- frame after frame

    -- one frame
    frame_at : (i j : ℕ) → i / 8 < len → j < len → (ps : List Player) → InOrder ascending [] (map slot_of ps) → (xs : List ℕ) → k * len + j < length xs
        → get_or xs (k * len + j) 0 + cond (eqb (i / 8) j) (cond (holds key ps) (2 ^ (i % 8)) 0) 0 < 256
        → get_or (hits i ps xs) (k * len + j) 0 ≡ get_or xs (k * len + j) 0 + cond (eqb (i / 8) j) (cond (holds key ps) (2 ^ (i % 8)) 0) 0
    frame_at i j small m ps o xs l room = go (eqb (i / 8) j) refl room
      where
        own : (t : Bool) (x : ℕ) → x + cond t (2 ^ (i % 8)) 0 < 256 → cond t ((x + 2 ^ (i % 8)) % 256) x ≡ x + cond t (2 ^ (i % 8)) 0
        own true x h = mod-eq_of_lt h
        own false x h = sym (add-zero x)

        go : (t : Bool) → eqb (i / 8) j ≡ t → get_or xs (k * len + j) 0 + cond t (cond (holds key ps) (2 ^ (i % 8)) 0) 0 < 256
            → get_or (hits i ps xs) (k * len + j) 0 ≡ get_or xs (k * len + j) 0 + cond t (cond (holds key ps) (2 ^ (i % 8)) 0) 0
        go true e h =
            let d = eqb-true (i / 8) j e in
            let there : k * len + j ≡ k * len + i / 8 = omega arith in
            ap (λ (q : ℕ). get_or (hits i ps xs) q 0) there
            ∙ hits_at i small [] ps o xs (omega arith)
            ∙ ap (λ (q : ℕ). cond (holds key ps) ((get_or xs q 0 + 2 ^ (i % 8)) % 256) (get_or xs q 0)) (sym there)
            ∙ own (holds key ps) (get_or xs (k * len + j) 0) h
        go false e h =
            hits_other i (k * len + j) (λ b n d. eqb-false (i / 8) j e (sym (same_byte k b j (i / 8) d m small))) ps xs ∙ sym (add-zero (get_or xs (k * len + j) 0))

  unfoldable frames_hit : List Frame → ℕ → List ℕ → List ℕ
  frames_hit [] i xs = xs
  frames_hit (f ∷ fs) i xs = frames_hit fs (i + 1) (hits i f.players xs)

  length_frames : (fs : List Frame) (i : ℕ) (xs : List ℕ) → length (frames_hit fs i xs) ≡ length xs
  unfolding frames_hit
  length_frames [] i xs = refl
  length_frames (f ∷ fs) i xs = length_frames fs (i + 1) (hits i f.players xs) ∙ length_hits i f.players xs

  -- behind all blocks
  frames_past : (j : ℕ) → length ks * len ≤ j → (fs : List Frame) (i : ℕ) → i + length fs ≤ 8 * len → (xs : List ℕ) → get_or (frames_hit fs i xs) j 0 ≡ get_or xs j 0
  unfolding frames_hit
  frames_past j past [] i few xs = refl
  frames_past j past (f ∷ fs) i few xs =
      let small : i / 8 < len = omega arith in
      frames_past j past fs (i + 1) (omega arith) (hits i f.players xs)
      ∙ hits_other i j (λ b n d. let m = digits_lt {q = b} {m = length ks} n small in omega arith) f.players xs

  frames_at_lem : (k : ℕ) (inside : k < length ks) (once : index_of (get_or ks k 0) ks ≡ k) (j : ℕ) → j < len → (v : Version) (fs : List Frame) (i : ℕ) → Each (GoodFrame v ascending) fs
      → i + length fs ≤ 8 * len → (xs : List ℕ) → k * len + j < length xs → get_or xs (k * len + j) 0 + left_bits (get_or ks k 0) j i fs < 256
      → get_or (frames_hit fs i xs) (k * len + j) 0 ≡ get_or xs (k * len + j) 0 + left_bits (get_or ks k 0) j i fs
  unfolding frames_hit left_bits Each
  frames_at_lem k inside once j m v [] i g few xs l room = sym (add-zero (get_or xs (k * len + j) 0))
  frames_at_lem k inside once j m v (f ∷ fs) i g few xs l room =
      let ys = hits i f.players xs in
      let one = frame_at k inside once i j (omega arith) m f.players g.0.slots xs l (omega arith) in
      let rest = frames_at_lem k inside once j m v fs (i + 1) g.1 (omega arith) ys (omega (arith, length_hits i f.players xs)) (omega arith) in
      omega (arith, one, rest)

-- ---- what the frames add is the tests of the frames

-- the tests of frames of which the first is the n-th
unfoldable later : ℕ → ℕ → List Frame → ℕ → Bool
later key n fs q = cond (leb n q) (is_in key fs (q - n)) false

bits_none : (p : ℕ → Bool) (i n : ℕ) → ((m : ℕ) → p m ≡ false) → bits_from p i n ≡ 0
unfolding bits_from
bits_none p i zero h = refl
bits_none p i (suc n) h = rw (h i, bits_none p (i + 1) n h)

either_false : (t : Bool) → cond t false false ≡ false
either_false true = refl
either_false false = refl

later_none : (key n q : ℕ) → later key n [] q ≡ false
unfolding later holds players_at
later_none key n q = either_false (leb n q)

later_before : (key n : ℕ) (fs : List Frame) (q : ℕ) → q < n → later key n fs q ≡ false
unfolding later
later_before key n fs q l = rw (lt-leb n q l)

later_here : (key n : ℕ) (f : Frame) (fs : List Frame) → later key n (f ∷ fs) n ≡ holds key f.players
unfolding later players_at
later_here key n f fs =
    let e : n - n ≡ 0 = omega arith in
    rw (le-leb n n (omega arith)) (ap (λ (x : ℕ). holds key (players_at (f ∷ fs) x)) e)

later_behind : (key n : ℕ) (f : Frame) (fs : List Frame) (q : ℕ) → n < q → later key (n + 1) fs q ≡ later key n (f ∷ fs) q
unfolding later players_at
later_behind key n f fs q l =
    let e : suc (q - (n + 1)) ≡ q - n = omega arith in
    rw (le-leb (n + 1) q (omega arith), le-leb n q (omega arith)) (ap (λ (x : ℕ). holds key (players_at (f ∷ fs) x)) e)

later_beside : (key n : ℕ) (f : Frame) (fs : List Frame) (q : ℕ) → (q ≡ n → ⊥) → later key (n + 1) fs q ≡ later key n (f ∷ fs) q
later_beside key n f fs q d =
    elim (dec_lt q n) [
      | yes l ↦ later_before key (n + 1) fs q (omega arith) ∙ sym (later_before key n (f ∷ fs) q l)
      | no l ↦ later_behind key n f fs q (omega (arith, above q n d l))
    ]
  where
    above : (a b : ℕ) → (a ≡ b → ⊥) → (a < b → ⊥) → b < a
    above a b h k = omega arith

later_all : (key : ℕ) (fs : List Frame) (q : ℕ) → later key 0 fs q ≡ is_in key fs q
unfolding later
later_all key fs q = let e : q - 0 ≡ q = sub-zero q in rw (le-leb 0 q (omega arith)) (ap (λ (x : ℕ). is_in key fs x) e)

left_is : (key j : ℕ) (fs : List Frame) (i : ℕ) → left_bits key j i fs ≡ bits_from (later key i fs) (8 * j) 8
unfolding left_bits
left_is key j [] i = sym (bits_none (later key i []) (8 * j) 8 (later_none key i))
left_is key j (f ∷ fs) i = ap (λ (x : ℕ). cond (eqb (i / 8) j) (cond (holds key f.players) (2 ^ (i % 8)) 0) 0 + x) (left_is key j fs (i + 1)) ∙ go (eqb (i / 8) j) refl
  where
    here : i / 8 ≡ j → (t : Bool) → holds key f.players ≡ t → cond t (2 ^ (i % 8)) 0 + bits_from (later key (i + 1) fs) (8 * j) 8 ≡ bits_from (later key i (f ∷ fs)) (8 * j) 8
    here d true h =
        let place : 8 * j + i % 8 ≡ i = omega arith in
        sym
        (bits_more (later key (i + 1) fs) (later key i (f ∷ fs)) (8 * j) 8 (i % 8) (omega arith) (λ m n. later_beside key i f fs m (λ e. n (e ∙ sym place)))
        (ap (later key (i + 1) fs) place ∙ later_before key (i + 1) fs i (omega arith))
        (ap (later key i (f ∷ fs)) place ∙ later_here key i f fs ∙ h))
    here d false h =
        zero-add (bits_from (later key (i + 1) fs) (8 * j) 8)
        ∙ bits_same (later key (i + 1) fs) (later key i (f ∷ fs)) (8 * j) 8
        (λ m a b. elim (ℕ_discrete m i) [
          | yes e ↦ ap (later key (i + 1) fs) e ∙ later_before key (i + 1) fs i (omega arith) ∙ sym (ap (later key i (f ∷ fs)) e ∙ later_here key i f fs ∙ h)
          | no e ↦ later_beside key i f fs m e
        ])

    go : (t : Bool) → eqb (i / 8) j ≡ t
        → cond t (cond (holds key f.players) (2 ^ (i % 8)) 0) 0 + bits_from (later key (i + 1) fs) (8 * j) 8 ≡ bits_from (later key i (f ∷ fs)) (8 * j) 8
    go true e = here (eqb-true (i / 8) j e) (holds key f.players) refl
    go false e =
        zero-add (bits_from (later key (i + 1) fs) (8 * j) 8)
        ∙ bits_same (later key (i + 1) fs) (later key i (f ∷ fs)) (8 * j) 8 (λ m a b. later_beside key i f fs m (λ d. eqb-false (i / 8) j e (omega arith)))

-- from the first on, they are all
left_all : (key j : ℕ) (fs : List Frame) → left_bits key j 0 fs ≡ bits_from (is_in key fs) (8 * j) 8
left_all key j fs = left_is key j fs 0 ∙ bits_same (later key 0 fs) (is_in key fs) (8 * j) 8 (λ m a b. later_all key fs m)

-- ---- the pass

map_map : {A B C : Type 0} (g : B → C) (h : A → B) (xs : List A) → map g (map h xs) ≡ map (λ x. g (h x)) xs
map_map g h [] = refl
map_map g h (x ∷ xs) = ap (λ l. g (h x) ∷ l) (map_map g h xs)

-- a player's bit, where the frame is one of the store's
bit_is : (ks : List ℕ) (t : Told) (frames n : ℕ) (xs : List ℕ) → 0 < n → n - 1 < frames → bit_put true ks t frames n xs ≡ hit ks ((frames + 7) / 8) (block_of ks t) (n - 1) xs
unfolding bit_put hit
bit_is ks t frames n xs a b = rw (lt-ltb 0 n a, lt-ltb (n - 1) frames b)

module _ (p : Plan) where
  abbrev room : ℕ
  room = (p.counts.frames + 7) / 8

  pre_is : (id : ℕ) (q : Player) (i : ℕ) (xs : List ℕ) → i < p.counts.frames → bit_act p (pre_event id q) (i + 1) xs ≡ hit p.numbers room (index_of (slot_of q) p.numbers) i xs
  unfolding be
  pre_is id q i xs l =
      let e : i + 1 - 1 ≡ i = omega arith in
      bit_is p.numbers (told_by (pre_event id q)) p.counts.frames (i + 1) xs (omega arith) (omega arith)
      ∙ ap (λ (n : ℕ). hit p.numbers room (index_of (slot_of q) p.numbers) n xs) e

  pres_are : (id : ℕ) (i : ℕ) → i < p.counts.frames → (ps : List Player) (xs : List ℕ) → act_fold p (bit_act p) (i + 1) (map (pre_event id) ps) xs ≡ hits p.numbers room i ps xs
  unfolding act_fold hits
  pres_are id i l [] xs = refl
  pres_are id i l (q ∷ ps) xs =
      ap (act_fold p (bit_act p) (i + 1) (map (pre_event id) ps)) (pre_is id q i xs l) ∙ pres_are id i l ps (hit p.numbers room (index_of (slot_of q) p.numbers) i xs)

  kept_is : (v : Version) (f : Frame) → kept p (bit_act p) 0x37 (bit_idle p) v f in_order ≡ map (pre_event f.id) f.players
  unfolding kept keep
  kept_is v f =
      append-nil (map (row_event Pre f.id) (map (λ (q : Player). q.port ∷ q.follower ∷ q.pre) f.players))
      ∙ map_map (row_event Pre f.id) (λ (q : Player). q.port ∷ q.follower ∷ q.pre) f.players

  frames_are_hit : (v : Version) (fs : List Frame) (i : ℕ) (xs : List ℕ) → i + length fs ≤ p.counts.frames → frames_fold p (bit_act p) v fs i xs ≡ frames_hit p.numbers room fs i xs
  unfolding frames_fold frames_hit
  frames_are_hit v [] i xs l = refl
  frames_are_hit v (f ∷ fs) i xs l =
      ap (frames_fold p (bit_act p) v fs (i + 1))
      (fold_frame p (bit_act p) 0x37 (bit_idle p) v f (i + 1) xs
      ∙ ap (λ (es : List Ev). act_fold p (bit_act p) (i + 1) es xs) (kept_is v f)
      ∙ pres_are f.id i (omega arith) f.players xs)
      ∙ frames_are_hit v fs (i + 1) (hits p.numbers room i f.players xs) (omega arith)

-- ---- what the pass leaves

-- n zeros in front of a store
zero_at_lem : (n : ℕ) (xs : List ℕ) (q : ℕ) → q < n → q < length xs → get_or (splice xs 0 (replicate n 0)) q 0 ≡ 0
zero_at_lem n xs q l m =
    ap (λ (x : ℕ). get_or (splice xs 0 (replicate n 0)) x 0) (sym (zero-add q))
    ∙ splice_inside xs 0 (replicate n 0) q (omega (arith, length-replicate {A = ℕ} n 0)) (omega arith)
    ∙ get_or-replicate n q 0 0 l

-- a store that had zeros has the slots' bytes, where each number stands at one place
module _ (v : Version) (slots : List Slot) (fs : List Frame) (store : List ℕ) where
  abbrev ks : List ℕ
  ks = map slot_number slots

  abbrev len : ℕ
  len = presence_len fs

  abbrev zeroed : List ℕ
  zeroed = splice store 0 (replicate (length slots * len) 0)

  module _ (once : (k : ℕ) → k < length ks → index_of (get_or ks k 0) ks ≡ k) (g : Each (GoodFrame v ascending) fs) (room : length slots * len ≤ length store) where
    byte_at : (k j : ℕ) → k < length slots → j < len → get_or (frames_hit ks len fs 0 zeroed) (k * len + j) 0 ≡ get_or (slots_presence fs slots) (k * len + j) 0
    byte_at k j h l =
        let key = get_or ks k 0 in
        let n : length ks ≡ length slots = length-map slots slot_number in
        let inside : k * len + j < length slots * len = digits_lt h l in
        let z = zero_at_lem (length slots * len) store (k * len + j) inside (omega arith) in
        let e = left_all key j fs in
        let small : bits_from (is_in key fs) (8 * j) 8 < 256 = bits_small (is_in key fs) (8 * j) 8 in
        let there : k < length ks = omega arith in
        frames_at_lem ks len k there (once k there) j l v fs 0 g (omega arith) zeroed (omega (arith, length_splice store 0 (replicate (length slots * len) 0))) (omega (arith, z, e, small))
        ∙ ap (λ (x : ℕ). x + left_bits key j 0 fs) z
        ∙ zero-add (left_bits key j 0 fs)
        ∙ e
        ∙ ap (λ (x : ℕ). bits_from (is_in x fs) (8 * j) 8) (map_at_lem slot_number slots k no_slot 0 h)
        ∙ sym (slots_presence_at fs slots k j h l)

    past_at : (j : ℕ) → length slots * len ≤ j → get_or (frames_hit ks len fs 0 zeroed) j 0 ≡ get_or store j 0
    past_at j past =
        frames_past ks len j (rw (length-map slots slot_number) past) fs 0 (omega arith) zeroed
        ∙ splice_other store 0 (replicate (length slots * len) 0) j (λ a b. omega (arith, length-replicate {A = ℕ} (length slots * len) 0))

    bits_left : frames_hit ks len fs 0 zeroed ≡ splice store 0 (slots_presence fs slots)
    bits_left =
        let n = slots_presence_length fs slots in
        spliced (frames_hit ks len fs 0 zeroed) store 0 (slots_presence fs slots)
        (length_frames ks len fs 0 zeroed ∙ length_splice store 0 (replicate (length slots * len) 0))
        (λ q l m. placed q (place_of (length slots) len q (omega arith)))
        (λ j l out. past_at j (behind j (length slots * len) (λ m. out (omega arith) (omega arith))))
      where
        behind : (a b : ℕ) → (a < b → ⊥) → b ≤ a
        behind a b h = elim (dec_lt a b) [
          | yes m ↦ absurd (h m)
          | no m ↦ omega arith
        ]

        placed : (q : ℕ) → Place (length slots) len q → get_or (frames_hit ks len fs 0 zeroed) (0 + q) 0 ≡ get_or (slots_presence fs slots) q 0
        placed q p =
            ap (λ (x : ℕ). get_or (frames_hit ks len fs 0 zeroed) x 0) (zero-add q ∙ p.is)
            ∙ byte_at p.col p.row p.col_in p.row_in
            ∙ ap (λ (x : ℕ). get_or (slots_presence fs slots) x 0) (sym p.is)

module _ (f : Frames) (file : List ℕ) (first stop : ℕ) (fs : List Frame) (l : Lent) (s : Stands f file first stop fs) (r : Rooms (plan_of f) l) (m : Modest f) where
  frames_are : f.counts.frames ≡ length fs
  unfolding frames_read
  frames_are = ap (λ (x : Frames). x.counts.frames) s.read

  fresh_first : (xs : List Frame) → Fresh (plan_of f) f.version (open_at 0 0) xs
  fresh_first [] = tt
  fresh_first (x ∷ xs) = λ e. inl refl

  once : (k : ℕ) → k < length (numbers_of f) → index_of (get_or (numbers_of f) k 0) (numbers_of f) ≡ k
  once k h = index_at 0 (numbers_of f) (subst (λ (x : Frames). Rising 0 (map slot_number (slots_of x))) (sym s.read) (numbers_rise f.version fs)) k h

  roomy : length (slots_of f) * presence_len fs ≤ length l.presence
  roomy =
      let n : length (numbers_of f) ≡ length (slots_of f) = length-map (slots_of f) slot_number in
      subst (λ (x : ℕ). x * presence_len fs ≤ length l.presence) n (subst (λ (x : ℕ). length (numbers_of f) * ((x + 7) / 8) ≤ length l.presence) frames_are r.bits)

  pub presence_left : (run (plan_of f) (events_of_frames f.version fs) none (cleared f l)).presence ≡ splice l.presence 0 (slots_presence fs (slots_of (frames_read f.version fs)))
  unfolding cleared
  presence_left =
      let p = plan_of f in
      let store : List ℕ = splice l.presence 0 (replicate (presence_cells f) 0) in
      bits_run p (events_of_frames f.version fs) none (cleared f l)
      ∙ act_frames p (bit_act p) f.version refl fs (open_at 0 0) store s.good s.changing (fresh_first fs) (omega (arith, frames_are))
      ∙ frames_are_hit p f.version fs 0 store (omega (arith, frames_are))
      ∙ ap (λ (n : ℕ). frames_hit (numbers_of f) ((n + 7) / 8) fs 0 (splice l.presence 0 (replicate (length (slots_of f) * ((n + 7) / 8)) 0))) frames_are
      ∙ bits_left f.version (slots_of f) fs l.presence once s.good roomy
      ∙ ap (λ (x : Frames). splice l.presence 0 (slots_presence fs (slots_of x))) s.read
