-- The presence bytes of slots: how many they are, that each is a byte, and that the mark of a frame says whether the slot has a player in it.
-- Assumes nothing.
use mathlib.Core.Path.{◌≡◌, refl, sym, ap, ◌∙◌}
use mathlib.Core.Bool.{Bool, true, false, cond}
use mathlib.Core.List.{List, [], ◌∷◌, ◌++◌}
use Prim.Native.Nat.{ℕ, zero, suc, ◌+◌, ◌*◌, ◌/◌, ◌%◌, ◌^◌, ◌≤◌, ◌<◌}
use native.Mathlib.Nat.{add-zero, zero-add, zero-mul, suc-mul, mul-one, pow-succ', div-div-eq-div-mul}
use native.Mathlib.Omega.{arith}
use borrow.Author.Tests.{ne_eqb}
use lib.Dec.{eqb, lit≤, lit<}
use lib.ListN.{length, get_or, length-append, get_or-append}
use lib.Seq.{get_or-append-add}
use Rattle.wire.specs.Wire.{ranged}
use Rattle.wire.proofs.Laws.{length_ranged}
use Rattle.game.specs.Frames.{Slot, no_slot}
use Rattle.players.specs.Presence.{marked}
use Rattle.grammar.specs.Productions.{Frame}
use Rattle.grammar.specs.WellFormed.{Each}
use Rattle.grammar.proofs.Each.{each_ranged, each_one}
use Rattle.grammar.proofs.Exactly.{Byte}
use Rattle.columns.specs.Columns.{is_in, presence_len, bits_from, presence_bytes, slots_presence, slot_number}

-- ---- tests as a number

bit_le : (b : Bool) → cond b 1 0 ≤ 1
bit_le true = lit≤ tt
bit_le false = lit≤ tt

bit_is : (b : Bool) → eqb (cond b 1 0) 1 ≡ b
bit_is true = refl
bit_is false = refl

pub bits_small : (p : ℕ → Bool) (i n : ℕ) → bits_from p i n < 2 ^ n
unfolding bits_from
bits_small p i zero = lit< tt
bits_small p i (suc n) = omega (arith, bit_le (p i), bits_small p (i + 1) n, pow-succ' 2 n)

pub bits_at : (p : ℕ → Bool) (i n j : ℕ) → j < n → bits_from p i n / 2 ^ j % 2 ≡ cond (p (i + j)) 1 0
unfolding bits_from
bits_at p i zero j h = absurd (omega arith)
bits_at p i (suc n) zero h = rw (add-zero i) (omega (arith, bit_le (p i)))
bits_at p i (suc n) (suc j) h =
    let b : ℕ = cond (p i) 1 0 in
    let x = bits_from p (i + 1) n in
    let half : (b + 2 * x) / 2 ≡ x = omega (arith, bit_le (p i)) in
    let place : i + 1 + j ≡ i + suc j = omega arith in
    ap (λ (m : ℕ). (b + 2 * x) / m % 2) (pow-succ' 2 j)
    ∙ ap (λ (m : ℕ). m % 2) (sym (div-div-eq-div-mul (b + 2 * x) 2 (2 ^ j)))
    ∙ ap (λ (m : ℕ). m / 2 ^ j % 2) half
    ∙ bits_at p (i + 1) n j (omega arith)
    ∙ ap (λ (q : ℕ). cond (p q) 1 0) place

-- ---- the bytes of one slot

single_at : (f : ℕ → ℕ) (i n j : ℕ) → j < n → get_or (ranged (λ k. f k ∷ []) i n) j 0 ≡ f (i + j)
unfolding ranged
single_at f i zero j h = absurd (omega arith)
single_at f i (suc n) zero h = ap f (sym (add-zero i))
single_at f i (suc n) (suc j) h = let e : i + 1 + j ≡ i + suc j = omega arith in single_at f (i + 1) n j (omega arith) ∙ ap f e

pub presence_length : (k : ℕ) (fs : List Frame) → length (presence_bytes k fs) ≡ presence_len fs
unfolding presence_bytes
presence_length k fs = length_ranged (λ j. bits_from (is_in k fs) (8 * j) 8 ∷ []) 1 (λ j. refl) 0 (presence_len fs) ∙ mul-one (presence_len fs)

-- eight frames a byte
pub presence_at_lem : (k : ℕ) (fs : List Frame) (j : ℕ) → j < presence_len fs → get_or (presence_bytes k fs) j 0 ≡ bits_from (is_in k fs) (8 * j) 8
unfolding presence_bytes
presence_at_lem k fs j h = single_at (λ q. bits_from (is_in k fs) (8 * q) 8) 0 (presence_len fs) j h ∙ ap (λ (q : ℕ). bits_from (is_in k fs) (8 * q) 8) (zero-add j)

pub presence_bytes_lem : (k : ℕ) (fs : List Frame) → Each Byte (presence_bytes k fs)
unfolding presence_bytes
presence_bytes_lem k fs = each_ranged Byte (λ j. bits_from (is_in k fs) (8 * j) 8 ∷ []) 0 (presence_len fs) (λ j l m. each_one Byte (bits_from (is_in k fs) (8 * j) 8) (bits_small (is_in k fs) (8 * j) 8))

-- wherever the bytes stand, of every frame that they have room for
pub marked_by_lem : (k : ℕ) (fs : List Frame) (bits : List ℕ) (at i : ℕ) → i < 8 * presence_len fs
    → ((j : ℕ) → j < presence_len fs → get_or bits (at + j) 0 ≡ bits_from (is_in k fs) (8 * j) 8) → marked bits at (presence_len fs) i ≡ is_in k fs i
unfolding marked
marked_by_lem k fs bits at i h are =
    let byte = are (i / 8) (omega arith) in
    let place : 8 * (i / 8) + i % 8 ≡ i = omega arith in
    rw (ne_eqb (presence_len fs) 0 (λ z. omega arith))
    (ap (λ (x : ℕ). eqb (x / 2 ^ (i % 8) % 2) 1) byte
    ∙ ap (λ (x : ℕ). eqb x 1) (bits_at (is_in k fs) (8 * (i / 8)) 8 (i % 8) (omega arith))
    ∙ ap (λ (q : ℕ). eqb (cond (is_in k fs q) 1 0) 1) place
    ∙ bit_is (is_in k fs i))

pub presence_marked : (k : ℕ) (fs : List Frame) (pre post : List ℕ) (i : ℕ) → i < length fs → marked (pre ++ (presence_bytes k fs ++ post)) (length pre) (presence_len fs) i ≡ is_in k fs i
presence_marked k fs pre post i h =
    marked_by_lem k fs (pre ++ (presence_bytes k fs ++ post)) (length pre) i (omega arith)
    (λ j l. get_or-append-add pre (presence_bytes k fs ++ post) j 0
    ∙ get_or-append (presence_bytes k fs) post 0 j (omega (arith, presence_length k fs))
    ∙ presence_at_lem k fs j l)

-- ---- those of the slots, one after another

pub slots_presence_length : (fs : List Frame) (slots : List Slot) → length (slots_presence fs slots) ≡ length slots * presence_len fs
unfolding slots_presence
slots_presence_length fs [] = sym (zero-mul (presence_len fs))
slots_presence_length fs (s ∷ ss) =
    let e = suc-mul (length ss) (presence_len fs) in
    length-append (presence_bytes (slot_number s) fs) (slots_presence fs ss) ∙ omega (arith, presence_length (slot_number s) fs, slots_presence_length fs ss)

pub slots_presence_at : (fs : List Frame) (slots : List Slot) (k j : ℕ) → k < length slots → j < presence_len fs
    → get_or (slots_presence fs slots) (k * presence_len fs + j) 0 ≡ bits_from (is_in (slot_number (get_or slots k no_slot)) fs) (8 * j) 8
unfolding slots_presence
slots_presence_at fs [] k j h l = absurd (omega arith)
slots_presence_at fs (s ∷ ss) zero j h l =
    rw (zero-mul (presence_len fs), zero-add j)
    (get_or-append (presence_bytes (slot_number s) fs) (slots_presence fs ss) 0 j (omega (arith, presence_length (slot_number s) fs)) ∙ presence_at_lem (slot_number s) fs j l)
slots_presence_at fs (s ∷ ss) (suc k) j h l =
    let first = presence_bytes (slot_number s) fs in
    let m = suc-mul k (presence_len fs) in
    let e : suc k * presence_len fs + j ≡ length first + (k * presence_len fs + j) = omega (arith, presence_length (slot_number s) fs) in
    ap (λ (q : ℕ). get_or (first ++ slots_presence fs ss) q 0) e
    ∙ get_or-append-add first (slots_presence fs ss) (k * presence_len fs + j) 0
    ∙ slots_presence_at fs ss k j (omega arith) l

pub slots_marked : (fs : List Frame) (slots : List Slot) (k i : ℕ) → k < length slots → i < length fs
    → marked (slots_presence fs slots) (k * presence_len fs) (presence_len fs) i ≡ is_in (slot_number (get_or slots k no_slot)) fs i
slots_marked fs slots k i h l =
    marked_by_lem (slot_number (get_or slots k no_slot)) fs (slots_presence fs slots) (k * presence_len fs) i (omega arith) (λ j m. slots_presence_at fs slots k j h m)
