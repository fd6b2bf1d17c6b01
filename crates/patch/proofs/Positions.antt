-- Which bytes patches leave alone, by their positions.
-- Assumes nothing.
use mathlib.Core.Path.{◌≡◌, refl, sym, ap, ◌∙◌}
use mathlib.Core.Bool.{Bool, true, false}
use mathlib.Core.List.{List, [], ◌∷◌, ◌++◌}
use Prim.Native.Nat.{ℕ, zero, suc, ◌+◌, ◌≤◌, ◌<◌}
use native.Mathlib.Omega.{arith}
use lib.ListN.{length, take, drop, get_or, set, length-set, length-take, length-drop}
use lib.Seq.{get_or-set_other, get_or-take, get_or-drop, ext_get_or, drop-append-add, drop-append-le, take-append-le}
use Rattle.wire.specs.Wire.{splice, part, keep}
use Rattle.wire.proofs.Laws.{length_splice, part_splice}
use Rattle.patch.specs.Patch.{Patch, patch, patched}
use Rattle.patch.proofs.Patches.{length_patched, patched_append}

-- no patch stores a byte at index i
unfoldable pub Misses : ℕ → List Patch → Type 0
Misses i [] = Unit {0}
Misses i (p ∷ ps) = (p.offset ≤ i → i < p.offset + length p.bytes → ⊥) × Misses i ps

pub misses_append : (i : ℕ) (ps qs : List Patch) → Misses i ps → Misses i qs → Misses i (ps ++ qs)
unfolding Misses
misses_append i [] qs a b = b
misses_append i (p ∷ ps) qs a b = (a.0, misses_append i ps qs a.1 b)

pub misses_kept : (i : ℕ) (on : Bool) (ps : List Patch) → (on ≡ true → Misses i ps) → Misses i (keep on ps)
unfolding Misses keep
misses_kept i true ps h = h refl
misses_kept i false ps h = tt

-- ---- a byte that is missed stays

pub splice_other : (xs : List ℕ) (at : ℕ) (ys : List ℕ) (i : ℕ) → (at ≤ i → i < at + length ys → ⊥) → get_or (splice xs at ys) i 0 ≡ get_or xs i 0
unfolding splice
splice_other xs at [] i h = refl
splice_other xs at (y ∷ ys) i h =
    splice_other (set xs at y) (suc at) ys i (λ a b. h (omega arith) (omega arith)) ∙ get_or-set_other xs at i y 0 (λ e. h (omega arith) (omega arith))

pub patched_other : (block : List ℕ) (ps : List Patch) (i : ℕ) → Misses i ps → get_or (patched block ps) i 0 ≡ get_or block i 0
unfolding patched Misses
patched_other block [] i m = refl
patched_other block (p ∷ ps) i m = patched_other (splice block p.offset p.bytes) ps i m.1 ∙ splice_other block p.offset p.bytes i m.0

-- ---- a byte that two blocks have in common stays common under the same patches

set_same : (a b : List ℕ) (at y i : ℕ) → length a ≡ length b → get_or a i 0 ≡ get_or b i 0 → get_or (set a at y) i 0 ≡ get_or (set b at y) i 0
set_same [] [] at y i l e = e
set_same [] (z ∷ b) at y i l e = absurd (omega arith)
set_same (x ∷ a) [] at y i l e = absurd (omega arith)
set_same (x ∷ a) (z ∷ b) zero y zero l e = refl
set_same (x ∷ a) (z ∷ b) zero y (suc i) l e = e
set_same (x ∷ a) (z ∷ b) (suc at) y zero l e = e
set_same (x ∷ a) (z ∷ b) (suc at) y (suc i) l e = set_same a b at y i (omega arith) e

splice_same : (a b : List ℕ) (at : ℕ) (ys : List ℕ) (i : ℕ) → length a ≡ length b → get_or a i 0 ≡ get_or b i 0 → get_or (splice a at ys) i 0 ≡ get_or (splice b at ys) i 0
unfolding splice
splice_same a b at [] i l e = e
splice_same a b at (y ∷ ys) i l e = splice_same (set a at y) (set b at y) (suc at) ys i (length-set a at y ∙ l ∙ sym (length-set b at y)) (set_same a b at y i l e)

pub patched_same : (a b : List ℕ) (ps : List Patch) (i : ℕ) → length a ≡ length b → get_or a i 0 ≡ get_or b i 0 → get_or (patched a ps) i 0 ≡ get_or (patched b ps) i 0
unfolding patched
patched_same a b [] i l e = e
patched_same a b (p ∷ ps) i l e =
    patched_same (splice a p.offset p.bytes) (splice b p.offset p.bytes) ps i
    (length_splice a p.offset p.bytes ∙ l ∙ sym (length_splice b p.offset p.bytes)) (splice_same a b p.offset p.bytes i l e)

-- ---- a part that is missed stays

-- no patch stores a byte of the w bytes from index at on
abbrev pub Clear : ℕ → ℕ → List Patch → Type 0
Clear at w ps = (i : ℕ) → at ≤ i → i < at + w → Misses i ps

length_part : (a b : List ℕ) (at w : ℕ) → length a ≡ length b → length (part a at w) ≡ length (part b at w)
unfolding part
length_part a b at w e = rw (length-take w (drop at a), length-take w (drop at b), length-drop at a, length-drop at b, e)

get_d_part : (a : List ℕ) (at w i : ℕ) → i < w → get_or (part a at w) i 0 ≡ get_or a (at + i) 0
unfolding part
get_d_part a at w i h = get_or-take w (drop at a) i 0 h ∙ get_or-drop at a i 0

part_short : (a : List ℕ) (at w : ℕ) → length (part a at w) ≤ w
unfolding part
part_short a at w = omega (arith, length-take w (drop at a))

pub part_same : (a b : List ℕ) (at w : ℕ) → length a ≡ length b → ((i : ℕ) → at ≤ i → i < at + w → get_or a i 0 ≡ get_or b i 0) → part a at w ≡ part b at w
part_same a b at w e h =
    ext_get_or 0 (part a at w) (part b at w) (length_part a b at w e) (λ i l.
    let k : i < w = omega (arith, part_short a at w) in
    get_d_part a at w i k ∙ h (at + i) (omega arith) (omega arith) ∙ sym (get_d_part b at w i k))

pub part_clear : (block : List ℕ) (ps : List Patch) (at w : ℕ) → Clear at w ps → part (patched block ps) at w ≡ part block at w
part_clear block ps at w h = part_same (patched block ps) block at w (length_patched block ps) (λ i a b. patched_other block ps i (h i a b))

-- a part of a list that stands inside another
pub part_inside : (front xs rest : List ℕ) (at w : ℕ) → at + w ≤ length xs → part (front ++ (xs ++ rest)) (length front + at) w ≡ part xs at w
unfolding part
part_inside front xs rest at w h =
    ap (take w) (drop-append-add front (xs ++ rest) at ∙ drop-append-le at xs rest (omega arith)) ∙ take-append-le w (drop at xs) rest (omega (arith, length-drop at xs))

-- bytes of two lists that stand inside another one
joined_same : (a b rest : List ℕ) (i : ℕ) → length a ≡ length b → get_or a i 0 ≡ get_or b i 0 → get_or (a ++ rest) i 0 ≡ get_or (b ++ rest) i 0
joined_same [] [] rest i l e = refl
joined_same [] (z ∷ b) rest i l e = absurd (omega arith)
joined_same (x ∷ a) [] rest i l e = absurd (omega arith)
joined_same (x ∷ a) (z ∷ b) rest zero l e = e
joined_same (x ∷ a) (z ∷ b) rest (suc i) l e = joined_same a b rest i (omega arith) e

pub inside_same : (front a b rest : List ℕ) (i : ℕ) → length a ≡ length b → ((j : ℕ) → i ≡ length front + j → get_or a j 0 ≡ get_or b j 0)
    → get_or (front ++ (a ++ rest)) i 0 ≡ get_or (front ++ (b ++ rest)) i 0
inside_same [] a b rest i l h = joined_same a b rest i l (h i (omega arith))
inside_same (x ∷ front) a b rest zero l h = refl
inside_same (x ∷ front) a b rest (suc i) l h = inside_same front a b rest i l (λ j e. h j (omega arith))

-- ---- patches that fill a field

-- whatever block of n bytes or more they are stored over, the w bytes from index at on are then these
pub record Fills (n at w : ℕ) (bytes : List ℕ) (ps : List Patch) : Type 0 where
  pub filled : (block : List ℕ) → n ≤ length block → part (patched block ps) at w ≡ bytes

pub fills_bytes : (n at w : ℕ) (bytes : List ℕ) → length bytes ≡ w → at + w ≤ n → Fills n at w bytes (patch at bytes ∷ [])
unfolding patched
fills_bytes n at w bytes e room = record { filled = λ block long. rw e at (part_splice block at bytes (omega arith)) }

module _ {n at w : ℕ} {bytes : List ℕ} where
  pub fills_after : {ps : List Patch} (qs : List Patch) → Fills n at w bytes ps → Fills n at w bytes (qs ++ ps)
  fills_after {ps} qs f = record {
    filled = λ block h. ap (λ (x : List ℕ). part x at w) (patched_append block qs ps) ∙ f.filled (patched block qs) (rw (length_patched block qs) h);
  }

  pub fills_before : {ps : List Patch} (qs : List Patch) → Clear at w qs → Fills n at w bytes ps → Fills n at w bytes (ps ++ qs)
  fills_before {ps} qs c f = record {
    filled = λ block h. ap (λ (x : List ℕ). part x at w) (patched_append block ps qs) ∙ part_clear (patched block ps) qs at w c ∙ f.filled block h;
  }

  pub fills_kept : {ps : List Patch} (on : Bool) → on ≡ true → Fills n at w bytes ps → Fills n at w bytes (keep on ps)
  unfolding keep
  fills_kept on e f = rw e f
