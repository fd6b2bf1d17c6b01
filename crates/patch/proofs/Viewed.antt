-- What a viewer reads of a text that was written: the text.
-- Assumes nothing.
use mathlib.Core.Path.{◌≡◌, refl, ap, ◌∙◌}
use mathlib.Core.Bool.{false}
use mathlib.Core.List.{List, [], ◌∷◌, ◌++◌, map, append_assoc}
use Prim.Native.Nat.{ℕ, zero, suc, ◌+◌, ◌-◌, ◌≤◌}
use native.Mathlib.Omega.{arith}
use lib.ListN.{length, take, drop, replicate, length-append, length-replicate, length-take}
use lib.Seq.{length-take-le, take-add}
use Rattle.wire.specs.Wire.{splice, part, Wrote}
use Rattle.wire.proofs.Laws.{part_splice}
use Rattle.format.specs.Refusal.{one_of}
use Rattle.format.proofs.Tests.{one_passed}
use Rattle.patch.specs.Field.{text, zero_filled, is_zero, zero_inside, read_text, read_at}
use Rattle.patch.specs.Patch.{patch, patched}
use Rattle.patch.proofs.Patches.{wrote_filled, ended}
use Rattle.patch.proofs.Positions.{Fills}
use Rattle.game.specs.declared.start.Text.{Text}

-- ---- bytes without a zero, and after them a zero, or zeros to the field's end, or at once the field's end

read_ended : (xs ys : List ℕ) → one_of (map is_zero xs) ≡ false → read_text (xs ++ (0 ∷ ys)) ≡ xs
unfolding read_text
read_ended [] ys e = refl
read_ended (x ∷ xs) ys e = let p = one_passed (is_zero x) (map is_zero xs) e in rw (p.0, read_ended xs ys p.1)

read_zeros : (xs : List ℕ) (n : ℕ) → one_of (map is_zero xs) ≡ false → read_text (xs ++ replicate n 0) ≡ xs
unfolding read_text
read_zeros [] zero e = refl
read_zeros [] (suc n) e = refl
read_zeros (x ∷ xs) n e = let p = one_passed (is_zero x) (map is_zero xs) e in rw (p.0, read_zeros xs n p.1)

-- ---- a field that a text fills, with zeros up to its width

pub length_filled : (t : Text) (w : ℕ) → t.len ≤ length t.bytes → t.len ≤ w → length (zero_filled w t) ≡ w
unfolding zero_filled
length_filled t w h l = rw (length-append, length-take-le t.len t.bytes h, length-replicate) (omega arith)

-- however many bytes the array of a text has
pub filled_within : (t : Text) (w : ℕ) → t.len ≤ w → length (zero_filled w t) ≤ w
unfolding zero_filled
filled_within t w l = rw (length-append, length-replicate) (omega (arith, text_short t))
  where
    text_short : (t : Text) → length (text t) ≤ t.len
    text_short t = omega (arith, length-take t.len t.bytes)

pub part_filled : (block : List ℕ) (at : ℕ) (t : Text) (w : ℕ) → t.len ≤ length t.bytes → t.len ≤ w → at + w ≤ length block
    → part (splice block at (zero_filled w t)) at w ≡ zero_filled w t
part_filled block at t w h l room =
    let e = length_filled t w h l in
    rw e at (part_splice block at (zero_filled w t) (rw e room))

-- the text was written, and zeros after it
pub field_filled : {a b c : List ℕ} {at mid next : ℕ} (t : Text) (w : ℕ) → t.len ≤ length t.bytes → t.len ≤ w → at + w ≤ length a
    → Wrote a b at mid (take t.len t.bytes) → Wrote b c mid next (replicate (w - t.len) 0)
    → Wrote a c at next (zero_filled w t) × (part c at w ≡ zero_filled w t)
field_filled {a} {at = at} t w h l room p q =
    let wrote = wrote_filled t w p q in
    (wrote, ap (λ (x : List ℕ). part x at w) wrote.after_is ∙ part_filled a at t w h l room)

pub read_filled : (t : Text) (w : ℕ) → zero_inside t ≡ false → read_text (zero_filled w t) ≡ text t
unfolding zero_inside zero_filled
read_filled t w e = read_zeros (text t) (w - t.len) e

-- ---- a text with one zero after it, in a field of any width that holds both

pub read_further : (bytes : List ℕ) (at : ℕ) (t : Text) (w : ℕ) → t.len + 1 ≤ w → zero_inside t ≡ false
    → part bytes at (t.len + 1) ≡ zero_filled (t.len + 1) t → read_at bytes at w ≡ text t
unfolding part zero_inside
read_further bytes at t w l e p =
    let n = t.len + 1 in
    let k : w ≡ n + (w - n) = omega arith in
    let first = p ∙ ended t in
    ap (λ (m : ℕ). read_text (take m (drop at bytes))) k
    ∙ ap read_text (take-add n (w - n) (drop at bytes) ∙ ap (λ (x : List ℕ). x ++ take (w - n) (drop n (drop at bytes))) first ∙ append_assoc (text t) (0 ∷ []) _)
    ∙ read_ended (text t) _ e

-- ---- as a patch among others

pub fills_text : (n at : ℕ) (t : Text) (w : ℕ) → t.len ≤ length t.bytes → t.len ≤ w → at + w ≤ n → Fills n at w (zero_filled w t) (patch at (zero_filled w t) ∷ [])
unfolding patched
fills_text n at t w h l room = record { filled = λ block long. part_filled block at t w h l (omega arith) }
