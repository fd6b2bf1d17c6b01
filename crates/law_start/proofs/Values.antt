-- What stands in a block is read there, and what is read there stands there.
-- Assumes nothing.
use mathlib.Core.Path.{◌≡◌, refl, sym, ap, ◌∙◌}
use mathlib.Core.Bool.{Bool, true, false, cond}
use mathlib.Core.List.{List, [], ◌∷◌, ◌++◌}
use Prim.Native.Nat.{ℕ, zero, suc, ◌+◌, ◌-◌, ◌/◌, ◌%◌, ◌^◌, ◌≤◌, ◌<◌}
use native.Mathlib.Decide.{dec_lt}
use native.Mathlib.Nat.{add-zero}
use native.Mathlib.Omega.{arith}
use lib.ListN.{length, take, drop, get_or, replicate, length-take, length-drop}
use lib.Seq.{get_or-take, get_or-drop, length-take-le}
use Rattle.format.specs.Mark.{flag_of}
use Rattle.wire.specs.Wire.{be, more, number, part}
use Rattle.wire.proofs.Laws.{length_be, number_be}
use Rattle.format.specs.Mark as mark
use Rattle.game.specs.declared.start.Text.{Text}
use Rattle.patch.specs.Patch.{patch}
use Rattle.patch.specs.Field.{text, zero_filled, zero_inside, read_text, read_at}
use Rattle.patch.proofs.Patches.{take_replicate, ended}
use Rattle.patch.proofs.Viewed.{length_filled, read_filled, read_further}
use Rattle.read_start.specs.Start.{byte_at, number_at, text_at}
use Rattle.read_start.proofs.Accepted.{text_is}
use Rattle.law_start.specs.Declared.{BytesDeclared}
use Rattle.law_start.proofs.Stand.{Stands, part_cons}

-- ---- bytes of a number, and the number of bytes

pub be_one : (x : ℕ) → x < 256 → be 1 x ≡ x ∷ []
unfolding be
be_one x h = let e : x / 256 ^ 0 % 256 ≡ x = omega arith in λ i. e i ∷ []

two_again : (xs : List ℕ) → length xs ≡ 2 → BytesDeclared xs → be 2 (number xs) ≡ xs
unfolding be more
two_again [] n b = absurd (omega arith)
two_again (x ∷ []) n b = absurd (omega arith)
two_again (x ∷ y ∷ []) n b =
    let z = number (x ∷ y ∷ []) in
    let x0 : x < 256 = b.byte 0 in
    let y0 : y < 256 = b.byte 1 in
    let x1 : z / 256 ^ 1 % 256 ≡ x = omega arith in
    let y1 : z / 256 ^ 0 % 256 ≡ y = omega arith in
    λ i. x1 i ∷ y1 i ∷ []
two_again (x ∷ y ∷ z ∷ xs) n b = absurd (omega arith)

four_again : (xs : List ℕ) → length xs ≡ 4 → BytesDeclared xs → be 4 (number xs) ≡ xs
unfolding be more
four_again [] n h = absurd (omega arith)
four_again (a ∷ []) n h = absurd (omega arith)
four_again (a ∷ b ∷ []) n h = absurd (omega arith)
four_again (a ∷ b ∷ c ∷ []) n h = absurd (omega arith)
four_again (a ∷ b ∷ c ∷ d ∷ e ∷ xs) n h = absurd (omega arith)
four_again (a ∷ b ∷ c ∷ d ∷ []) n h =
    let x = number (a ∷ b ∷ c ∷ d ∷ []) in
    let a0 : a < 256 = h.byte 0 in
    let b0 : b < 256 = h.byte 1 in
    let c0 : c < 256 = h.byte 2 in
    let d0 : d < 256 = h.byte 3 in
    let a1 : x / 256 ^ 3 % 256 ≡ a = omega arith in
    let b1 : x / 256 ^ 2 % 256 ≡ b = omega arith in
    let c1 : x / 256 ^ 1 % 256 ≡ c = omega arith in
    let d1 : x / 256 ^ 0 % 256 ≡ d = omega arith in
    λ i. a1 i ∷ b1 i ∷ c1 i ∷ d1 i ∷ []

-- ---- a flag is 0 or 1, and its own flag

flag_twice : (b : Bool) → ◌≡◌ {A = ℕ} (cond (mark.yes (cond b 1 0)) 1 0) (cond b 1 0)
flag_twice true = refl
flag_twice false = refl

pub flag_again : (m : ℕ) → flag_of (flag_of m) ≡ flag_of m
flag_again m = flag_twice (mark.yes m)

flag_small : (b : Bool) → cond b 1 0 < 256
flag_small true = omega arith
flag_small false = omega arith

take_add_filled : (xs : List ℕ) (n k m : ℕ) → length xs ≡ n → k ≤ m → take (n + k) (xs ++ replicate m 0) ≡ xs ++ replicate k 0
take_add_filled [] n k m e h = let z : n + k ≡ k = omega arith in rw z (take_replicate k m 0 h)
take_add_filled (x ∷ xs) n k m e h =
    let z : n + k ≡ suc (length xs + k) = omega arith in
    rw z (ap (λ (l : List ℕ). x ∷ l) (take_add_filled xs (length xs) k m refl h))

cut_filled : (t : Text) (k w : ℕ) → t.len ≤ length t.bytes → t.len ≤ k → k ≤ w → take k (zero_filled w t) ≡ zero_filled k t
unfolding zero_filled
cut_filled t k w h a b =
    let z : k ≡ t.len + (k - t.len) = omega arith in
    ap (λ (m : ℕ). take m (text t ++ replicate (w - t.len) 0)) z
    ∙ take_add_filled (text t) t.len (k - t.len) (w - t.len) (length-take-le t.len t.bytes h) (omega arith)

take-take : (xs : List ℕ) (k w : ℕ) → k ≤ w → take k (take w xs) ≡ take k xs
take-take xs zero w h = refl
take-take xs (suc k) zero h = absurd (omega arith)
take-take [] (suc k) (suc w) h = refl
take-take (x ∷ xs) (suc k) (suc w) h = ap (λ (l : List ℕ). x ∷ l) (take-take xs k w (omega arith))

module _ (block : List ℕ) where
  pub stands_as : {at : ℕ} {xs ys : List ℕ} → xs ≡ ys → Stands block (patch at xs) → Stands block (patch at ys)
  stands_as {at} {xs} {ys} e h = record { stands = ap (λ (l : List ℕ). part block at (length l)) (sym e) ∙ h.stands ∙ e }

  part_first : (at w : ℕ) → get_or (part block at (suc w)) 0 0 ≡ byte_at block at
  unfolding part
  part_first at w = get_or-take (suc w) (drop at block) 0 0 (omega arith) ∙ get_or-drop at block 0 0 ∙ ap (λ (k : ℕ). get_or block k 0) (add-zero at)

  pub length_part : (at w : ℕ) → at + w ≤ length block → length (part block at w) ≡ w
  unfolding part
  length_part at w h = length-take-le w (drop at block) (omega (arith, length-drop at block))

  part_bytes : (at w : ℕ) → BytesDeclared block → at + w ≤ length block → BytesDeclared (part block at w)
  unfolding part
  part_bytes at w b h = record {
    byte = λ i. elim (dec_lt i w) [
      | yes l ↦ rw (get_or-take w (drop at block) i 0 l, get_or-drop at block i 0) (b.byte (at + i))
      | no r ↦ rw (past (take w (drop at block)) i (omega (arith, length-take w (drop at block)))) (omega arith)
    ];
  }
    where
      past : (xs : List ℕ) (i : ℕ) → length xs ≤ i → get_or xs i 0 ≡ 0
      past [] i h = refl
      past (x ∷ xs) zero h = absurd (omega arith)
      past (x ∷ xs) (suc i) h = past xs i (omega arith)

  -- ---- numbers

  pub byte_back : (at x : ℕ) → x < 256 → Stands block (patch at (be 1 x)) → byte_at block at ≡ x
  byte_back at x h s =
      let e : part block at 1 ≡ x ∷ [] = ap (part block at) (sym (length_be 1 x)) ∙ s.stands ∙ be_one x h in
      sym (part_first at 0) ∙ ap (λ (l : List ℕ). get_or l 0 0) e

  pub number_back : (at w x : ℕ) → x < 256 ^ w → Stands block (patch at (be w x)) → number_at block at w ≡ x
  number_back at w x h s = ap number (ap (part block at) (sym (length_be w x)) ∙ s.stands) ∙ number_be w x h

  pub flag_back : (at m : ℕ) → Stands block (patch at (be 1 (flag_of m))) → byte_at block at ≡ flag_of m
  flag_back at m s = byte_back at (flag_of m) (flag_small (mark.yes m)) s

  pub part_back : (at : ℕ) (xs : List ℕ) (w : ℕ) → length xs ≡ w → Stands block (patch at xs) → part block at w ≡ xs
  part_back at xs w e s = ap (part block at) (sym e) ∙ s.stands

  pub stands_byte : BytesDeclared block → (at : ℕ) → at < length block → Stands block (patch at (be 1 (byte_at block at)))
  unfolding part
  stands_byte b at h =
      record { stands = ap (part block at) (length_be 1 (byte_at block at)) ∙ part_cons block at 0 h ∙ sym (be_one (byte_at block at) (b.byte at)) }

  pub stands_two : BytesDeclared block → (at : ℕ) → at + 2 ≤ length block → Stands block (patch at (be 2 (number_at block at 2)))
  stands_two b at h = record { stands = ap (part block at) (length_be 2 _) ∙ sym (two_again (part block at 2) (length_part at 2 h) (part_bytes at 2 b h)) }

  pub stands_four : BytesDeclared block → (at : ℕ) → at + 4 ≤ length block → Stands block (patch at (be 4 (number_at block at 4)))
  stands_four b at h = record { stands = ap (part block at) (length_be 4 _) ∙ sym (four_again (part block at 4) (length_part at 4 h) (part_bytes at 4 b h)) }

  pub stands_part : (at w : ℕ) → at + w ≤ length block → Stands block (patch at (part block at w))
  stands_part at w h = record { stands = ap (part block at) (length_part at w h) }

  pub stands_none : (at : ℕ) → Stands block (patch at [])
  unfolding part
  stands_none at = record { stands = refl }

  -- the flag of a flag that stands
  pub stands_flag : (at m : ℕ) → Stands block (patch at (be 1 (flag_of m))) → Stands block (patch at (be 1 (flag_of (flag_of (byte_at block at)))))
  stands_flag at m s =
      let e : flag_of (flag_of (byte_at block at)) ≡ flag_of m = ap (λ (x : ℕ). flag_of (flag_of x)) (flag_back at m s) ∙ ap flag_of (flag_again m) ∙ flag_again m in
      stands_as (ap (be 1) (sym e)) s

  -- ---- texts

  module _ (at w : ℕ) (t : Text) (whole : t.len ≤ length t.bytes) (clean : zero_inside t ≡ false) where
    pub text_back : (limit : ℕ) → t.len ≤ limit → limit ≤ w → Stands block (patch at (zero_filled w t)) → read_at block at limit ≡ text t
    unfolding part
    text_back limit a b s =
        let e : part block at w ≡ zero_filled w t = part_back at (zero_filled w t) w (length_filled t w whole (omega arith)) s in
        ap read_text (sym (take-take (drop at block) limit w b) ∙ ap (take limit) e ∙ cut_filled t limit w whole a b) ∙ read_filled t limit clean

  same_filled : (at limit w : ℕ) (t : Text) → t.len ≤ length t.bytes → read_at block at limit ≡ text t → zero_filled w (text_at block at limit) ≡ zero_filled w t
  unfolding zero_filled
  same_filled at limit w t whole e =
      let n : length (read_at block at limit) ≡ t.len = ap length e ∙ length-take-le t.len t.bytes whole in
      rw (text_is block at limit, n, e)

  -- a text that stands, filled with zeros, is read and stands again
  pub stands_text : (at limit w : ℕ) (t : Text) → t.len ≤ length t.bytes → zero_inside t ≡ false → t.len ≤ limit → limit ≤ w
      → Stands block (patch at (zero_filled w t)) → Stands block (patch at (zero_filled w (text_at block at limit)))
  stands_text at limit w t whole clean a b s = stands_as (sym (same_filled at limit w t whole (text_back at w t whole clean limit a b s))) s

  -- the match id, with one zero after it
  pub id_back : (at : ℕ) (t : Text) → t.len ≤ length t.bytes → zero_inside t ≡ false → t.len ≤ 50
      → Stands block (patch at (text t ++ (0 ∷ []))) → read_at block at 50 ≡ text t
  id_back at t whole clean short s =
      let w = t.len + 1 in
      let filled = stands_as (sym (ended t)) s in
      elim (dec_lt t.len 50) [
        | yes l ↦ read_further block at t 50 (omega arith) clean (part_back at (zero_filled w t) w (length_filled t w whole (omega arith)) filled)
        | no r ↦ text_back at w t whole clean 50 (omega arith) (omega arith) filled
      ]

  pub stands_id : (at : ℕ) (t : Text) → t.len ≤ length t.bytes → zero_inside t ≡ false → t.len ≤ 50
      → Stands block (patch at (text t ++ (0 ∷ []))) → Stands block (patch at (text (text_at block at 50) ++ (0 ∷ [])))
  stands_id at t whole clean short s =
      let e : text (text_at block at 50) ≡ text t = text_is block at 50 ∙ id_back at t whole clean short s in
      stands_as (ap (λ (l : List ℕ). l ++ (0 ∷ [])) (sym e)) s
