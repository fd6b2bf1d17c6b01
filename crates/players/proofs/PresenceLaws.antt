-- The laws of presence: counting frames one at a time and a byte at a time, and the presence bytes of an accepted input.
-- Assumes nothing.
use mathlib.Core.Path.{◌≡◌, refl, sym, ap, subst, ◌∙◌}
use mathlib.Core.Bool.{Bool, true, false, cond}
use mathlib.Core.List.{List, [], ◌∷◌, ◌++◌, map}
use mathlib.Core.Logic.{◌⊎◌, inl, inr}
use Prim.Native.Nat.{ℕ, zero, suc, ◌+◌, ◌*◌, ◌/◌, ◌%◌, ◌^◌, ◌≤◌, ◌<◌}
use native.Mathlib.Nat.{add-zero, zero-add, add_assoc, suc-add, zero-div, mod-lt, mod-eq_of_lt, suc-mul, mul-le-mul_right}
use native.Mathlib.Numerals.{add-one, one-add}
use native.Mathlib.Omega.{arith}
use borrow.Author.Tests.{eq-eqb, ne_eqb, eqb-true, not-false}
use lib.Dec.{eqb, lit≤}
use lib.ListN.{length, get_or, drop, drop_of_length-le, get_or-eq_default}
use lib.Seq.{drop-cons}
use lib.Count.{ones, ones_step, ones_cat}
use lib.Pow.{mod-pow-add, pow_pos}
use Rattle.wire.specs.Wire.{keep}
use Rattle.wire.proofs.Laws.{tabulate_length, tabulate_at}
use Rattle.format.proofs.Tests.{one_passed}
use Rattle.layout.specs.Columns.{sum}
use Rattle.game.specs.Frames.{Slot, slot, no_slot, ports_of, follows, port_slots, port_bytes, slots_from, slots_of}
use Rattle.players.specs.Inner.{slot_in, slots_in, Slotted, Covers}
use Rattle.players.specs.Presence.{marked, count_from, present_at, present_in, players_present, port_uneven, ports_uneven, presence_wrong}
use Rattle.format.specs.Refusal.{one_of}
use Rattle.game.specs.declared.frames.PortColumn.{PortColumn}
use Rattle.game.specs.declared.frames.Frames.{Frames}
use Rattle.players.specs.declared.slots.Slots.{Slots}
use Rattle.players.proofs.SlotLaws.{even_leader, even_follower, bytes_leader, slots_few}

-- ---- counting frames that pass a test
pub count_split : (p : ℕ → Bool) (i a b : ℕ) → count_from p i (a + b) ≡ count_from p i a + count_from p (i + a) b
unfolding count_from
count_split p i zero b = rw (zero-add, add-zero, zero-add)
count_split p i (suc a) b = rw (suc-add, count_split p (i + 1) a b, add_assoc, add_assoc, one-add)

count_more : (p : ℕ → Bool) (i n : ℕ) → count_from p i (suc n) ≡ count_from p i n + cond (p (i + n)) 1 0
unfolding count_from
count_more p i n = ap (count_from p i) (sym (add-one n)) ∙ count_split p i n 1 ∙ rw add-zero

cond_le : (b : Bool) → cond b 1 0 ≤ 1
cond_le true = lit≤ tt
cond_le false = lit≤ tt

-- no more pass than there are
pub count_most : (p : ℕ → Bool) (i n : ℕ) → count_from p i n ≤ n
unfolding count_from
count_most p i zero = lit≤ tt
count_most p i (suc n) = omega (arith, cond_le (p i), count_most p (i + 1) n)

-- with no presence bytes, every frame is
pub count_all : (bits : List ℕ) (at len i n : ℕ) → len ≡ 0 → n ≡ count_from (marked bits at len) i n
unfolding count_from marked
count_all bits at len i zero e = refl
count_all bits at len i (suc n) e = rw (eq-eqb len 0 e) (omega (arith, count_all bits at len (i + 1) n e))

-- ---- a byte at a time
ones_bit : (x : ℕ) → x < 2 → ones x ≡ x
unfolding ones
ones_bit x h = ones_step x ∙ (let z : x / 2 ≡ 0 = omega arith in rw z (omega arith))

bit_one : (x : ℕ) → x < 2 → cond (eqb x 1) 1 0 ≡ x
bit_one zero h = refl
bit_one (suc zero) h = refl
bit_one (suc (suc n)) h = omega arith

module _ (bits : List ℕ) (at len : ℕ) (some : len ≡ 0 → ⊥) where
  one_bit : (i k : ℕ) → k < 8 → cond (marked bits at len (8 * i + k)) 1 0 ≡ get_or bits (at + i) 0 / 2 ^ k % 2
  unfolding marked
  one_bit i k h =
      let byte : (8 * i + k) / 8 ≡ i = omega arith in
      let bit : (8 * i + k) % 8 ≡ k = omega arith in
      rw (ne_eqb len 0 some, byte, bit) (bit_one (get_or bits (at + i) 0 / 2 ^ k % 2) (omega arith))

  -- the lowest k bits of byte i
  low_bits : (i k : ℕ) → k ≤ 8 → count_from (marked bits at len) (8 * i) k ≡ ones (get_or bits (at + i) 0 % 2 ^ k)
  unfolding count_from ones
  low_bits i zero h = let z : get_or bits (at + i) 0 % 1 ≡ 0 = omega arith in rw z
  low_bits i (suc k) h =
      let b = get_or bits (at + i) 0 in
      let o : ones (b % 2 ^ suc k) ≡ b / 2 ^ k % 2 + ones (b % 2 ^ k) =
      ap (λ (j : ℕ). ones (b % 2 ^ j)) (sym (one-add k)) ∙ ap ones (mod-pow-add b 1 k) ∙ ones_cat k (b / 2 ^ k % 2) (b % 2 ^ k) (mod-lt b (pow_pos k))
      ∙ ap (λ (j : ℕ). j + ones (b % 2 ^ k)) (ones_bit (b / 2 ^ k % 2) (omega arith)) in
      omega (arith, count_more (marked bits at len) (8 * i) k, low_bits i k (omega arith), one_bit i k (omega arith), o)

  -- as the code takes them: a whole byte, and the last bits
  pub whole_byte : (i n b : ℕ) → get_or bits (at + i) 0 < 256 → b ≡ ones (get_or bits (at + i) 0)
      → n ≡ count_from (marked bits at len) 0 (8 * i) → n + b ≡ count_from (marked bits at len) 0 (8 * (i + 1))
  whole_byte i n b h e q =
      let next : 8 * (i + 1) ≡ 8 * i + 8 = omega arith in
      let byte : count_from (marked bits at len) (8 * i) 8 ≡ ones (get_or bits (at + i) 0) = low_bits i 8 (omega arith) ∙ ap ones (mod-eq_of_lt h) in
      rw (next, count_split (marked bits at len) 0 (8 * i) 8, zero-add, byte, e, q)

  pub last_bits : (i n b frames : ℕ) → i ≡ frames / 8 → b ≡ ones (get_or bits (at + i) 0 % 2 ^ (frames % 8))
      → n ≡ count_from (marked bits at len) 0 (8 * i) → n + b ≡ count_from (marked bits at len) 0 frames
  last_bits i n b frames h e q =
      let all : frames ≡ 8 * i + frames % 8 = omega arith in
      let total : count_from (marked bits at len) 0 frames ≡ count_from (marked bits at len) 0 (8 * i) + count_from (marked bits at len) (0 + 8 * i) (frames % 8) =
      ap (count_from (marked bits at len) 0) all ∙ count_split (marked bits at len) 0 (8 * i) (frames % 8) in
      omega
      (arith, total, low_bits i (frames % 8) (omega arith), ap (λ (j : ℕ). count_from (marked bits at len) j (frames % 8)) (zero-add (8 * i)))

  pub no_bits : (i n frames : ℕ) → i ≡ frames / 8 → frames % 8 ≡ 0 → n ≡ count_from (marked bits at len) 0 (8 * i) → n ≡ count_from (marked bits at len) 0 frames
  no_bits i n frames h e q = let all : 8 * i ≡ frames = omega arith in q ∙ ap (count_from (marked bits at len) 0) all

-- ---- the bit of a frame, as the code finds it
module _ (bits : List ℕ) (at len i : ℕ) where
  pub marked_all : len ≡ 0 → true ≡ marked bits at len i
  unfolding marked
  marked_all e = rw (eq-eqb len 0 e)

  pub marked_past : (len ≡ 0 → ⊥) → length bits ≤ at + i / 8 → false ≡ marked bits at len i
  unfolding marked
  marked_past some h = rw (ne_eqb len 0 some, get_or-eq_default bits 0 h, zero-div)

  pub marked_bit : (len ≡ 0 → ⊥) → eqb (get_or bits (at + i / 8) 0 / 2 ^ (i % 8) % 2) 1 ≡ marked bits at len i
  unfolding marked
  marked_bit some = rw (ne_eqb len 0 some)

-- ---- what holds of each slot
unfoldable pub Each : (Slot → Type 0) → List Slot → Type 0
Each P [] = Unit {0}
Each P (s ∷ ss) = P s × Each P ss

each_append : (P : Slot → Type 0) (xs ys : List Slot) → Each P xs → Each P ys → Each P (xs ++ ys)
unfolding Each
each_append P [] ys p q = q
each_append P (x ∷ xs) ys p q = (p.0, each_append P xs ys p.1 q)

each_at : (P : Slot → Type 0) (ss : List Slot) → Each P ss → (k : ℕ) → k < length ss → P (get_or ss k no_slot)
unfolding Each
each_at P [] e k h = absurd (omega arith)
each_at P (s ∷ ss) e zero h = e.0
each_at P (s ∷ ss) e (suc k) h = each_at P ss e.1 k (omega arith)

-- the presence bytes of each slot are there, and are none or enough
enough : (frames len : ℕ) → (len ≡ 0) ⊎ (len ≡ (frames + 7) / 8) → (len ≡ 0 → ⊥) → frames ≤ 8 * len
enough frames len (inl e) some = absurd (some e)
enough frames len (inr e) some = omega arith

module _ (bits : List ℕ) (frames : ℕ) where
  abbrev Covered : Slot → Type 0
  Covered s = Covers bits s.at s.len frames

  port_covered : (at : ℕ) (p : PortColumn) → port_uneven frames p ≡ false → at + port_bytes p ≤ length bits → Each Covered (port_slots at p)
  unfolding port_slots port_bytes keep Each
  port_covered at p e h = (record { inside = omega (arith, bytes_leader p); enough = enough frames p.leader_presence (even_leader frames p e) }, go (follows p) h)
    where
      go : (b : Bool) → at + (p.leader_presence + cond b p.follower_presence 0) ≤ length bits
          → Each Covered (keep b (slot p.port 1 (at + p.leader_presence) p.follower_presence ∷ []))
      go true l = (record { inside = omega arith; enough = enough frames p.follower_presence (even_follower frames p e) }, tt)
      go false l = tt

  slots_covered : (at : ℕ) (ps : List PortColumn) → one_of (map (port_uneven frames) ps) ≡ false → at + sum (map port_bytes ps) ≤ length bits → Each Covered (slots_from at ps)
  unfolding slots_from sum Each
  slots_covered at [] e h = tt
  slots_covered at (p ∷ ps) e h =
      let (this, rest) = one_passed (port_uneven frames p) (map (port_uneven frames) ps) e in
      each_append Covered (port_slots at p) (slots_from (at + port_bytes p) ps) (port_covered at p this (omega arith)) (slots_covered (at + port_bytes p) ps rest (omega arith))

module _ (f : Frames) (bits : List ℕ) (e : presence_wrong f bits ≡ false) where
  pub presence_even : ports_uneven f ≡ false
  unfolding presence_wrong
  presence_even = (one_passed _ _ e).0

  pub presence_length : length bits ≡ sum (map port_bytes (ports_of f))
  unfolding presence_wrong
  presence_length = eqb-true _ _ (not-false _ (one_passed _ _ (one_passed _ _ e).1).0)

  pub covered : (k : ℕ) → k < length (slots_of f) → Covers bits (get_or (slots_of f) k no_slot).at (get_or (slots_of f) k no_slot).len f.counts.frames
  unfolding slots_of ports_uneven
  covered =
      each_at (λ s. Covers bits s.at s.len f.counts.frames) (slots_from 0 (ports_of f))
      (slots_covered bits f.counts.frames 0 (ports_of f) presence_even (omega (arith, presence_length)))

-- ---- all players
pub slot_at : (f : Frames) (s : Slots) → Slotted f s → (k : ℕ) → k < s.count → get_or (slots_of f) k no_slot ≡ slot_in s k
slot_at f s e k h = ap (λ (l : List Slot). get_or l k no_slot) (sym e.listed) ∙ tabulate_at no_slot s.count (slot_in s) k h

pub slot_covered : (f : Frames) (bits : List ℕ) (s : Slots) → presence_wrong f bits ≡ false → Slotted f s → (k : ℕ) → k < s.count
    → Covers bits (get_or s.at k 0) (get_or s.len k 0) f.counts.frames
slot_covered f bits s e q k h =
    subst (λ (x : Slot). Covers bits x.at x.len f.counts.frames) (slot_at f s q k h) (covered f bits e k (omega (arith, q.count)))

module _ (bits : List ℕ) (frames : ℕ) (s : Slots) where
  pub players_step : (k : ℕ) → k < s.count
      → players_present bits (drop k (slots_in s)) frames ≡ present_in bits (slot_in s k) frames + players_present bits (drop (k + 1) (slots_in s)) frames
  unfolding players_present
  players_step k h =
      rw (drop-cons (slots_in s) k no_slot (omega (arith, tabulate_length s.count (slot_in s))), tabulate_at no_slot s.count (slot_in s) k h, add-one)

  pub players_done : (k : ℕ) → s.count ≤ k → players_present bits (drop k (slots_in s)) frames ≡ 0
  unfolding players_present
  players_done k h = rw (drop_of_length-le (slots_in s) {i = k} (omega (arith, tabulate_length s.count (slot_in s))))

players_most : (bits : List ℕ) (frames : ℕ) (ss : List Slot) → players_present bits ss frames ≤ length ss * frames
unfolding players_present
players_most bits frames [] = omega arith
players_most bits frames (s ∷ ss) = rw suc-mul (omega (arith, players_most bits frames ss, count_most (marked bits s.at s.len) 0 frames))

pub players_few : (f : Frames) (bits : List ℕ) (frames : ℕ) → players_present bits (slots_of f) frames ≤ 8 * frames
players_few f bits frames = omega (arith, players_most bits frames (slots_of f), mul-le-mul_right frames (slots_few f))

-- whether a player is there, as the code asks it of its slots
pub present_as : (f : Frames) (s : Slots) → Slotted f s → (bits : List ℕ) (k i : ℕ) → k < s.count
    → marked bits (get_or s.at k 0) (get_or s.len k 0) i ≡ present_at bits (get_or (slots_of f) k no_slot) i
present_as f s e bits k i h = ap (λ (x : Slot). present_at bits x i) (sym (slot_at f s e k h))

-- ---- the same players, a frame at a time: how many slots frame i has, and the n frames from the i-th on
unfoldable pub slots_at : List ℕ → List Slot → ℕ → ℕ
slots_at bits [] i = 0
slots_at bits (s ∷ ss) i = cond (present_at bits s i) 1 0 + slots_at bits ss i

unfoldable pub slots_over : List ℕ → List Slot → ℕ → ℕ → ℕ
slots_over bits ss i zero = 0
slots_over bits ss i (suc n) = slots_at bits ss i + slots_over bits ss (i + 1) n

over_none : (bits : List ℕ) (i n : ℕ) → slots_over bits [] i n ≡ 0
unfolding slots_over slots_at
over_none bits i zero = refl
over_none bits i (suc n) = omega (arith, over_none bits (i + 1) n)

over_more : (bits : List ℕ) (s : Slot) (ss : List Slot) (i n : ℕ) → slots_over bits (s ∷ ss) i n ≡ count_from (present_at bits s) i n + slots_over bits ss i n
unfolding slots_over slots_at count_from
over_more bits s ss i zero = refl
over_more bits s ss i (suc n) = omega (arith, over_more bits s ss (i + 1) n)

pub players_by_frame : (bits : List ℕ) (ss : List Slot) (frames : ℕ) → players_present bits ss frames ≡ slots_over bits ss 0 frames
unfolding players_present
players_by_frame bits [] frames = sym (over_none bits 0 frames)
players_by_frame bits (s ∷ ss) frames = omega (arith, over_more bits s ss 0 frames, players_by_frame bits ss frames)
