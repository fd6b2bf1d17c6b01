-- The laws of patches.
-- Assumes nothing.
use mathlib.Core.Path.{◌≡◌, refl, sym, ap, ◌∙◌}
use mathlib.Core.Bool.{Bool, true, false}
use mathlib.Core.List.{List, [], ◌∷◌, ◌++◌}
use Prim.Native.Nat.{ℕ, zero, suc, ◌+◌, ◌-◌, ◌≤◌, ◌<◌}
use native.Mathlib.Omega.{arith}
use native.Mathlib.Numerals.{add-one}
use lib.ListN.{length, take, drop, get_or, replicate, drop_of_length-le, length-drop, length-replicate}
use lib.Seq.{drop-cons, drop-drop, length-take-le}
use Rattle.wire.specs.Wire.{be, splice, keep, Wrote}
use Rattle.wire.proofs.Laws.{length_splice, splice_is}
use Rattle.wire.proofs.Writers.{wrote_then}
use Rattle.patch.specs.Patch.{Patch, patch, patched}
use Rattle.patch.specs.Field.{text, zero_filled}
use Rattle.patch.specs.Inner.{Patched, number_patches, Fit}
use Rattle.game.specs.declared.start.Text.{Text}

-- ---- patches
pub length_patched : (block : List ℕ) (ps : List Patch) → length (patched block ps) ≡ length block
unfolding patched
length_patched block [] = refl
length_patched block (p ∷ ps) = length_patched (splice block p.offset p.bytes) ps ∙ length_splice block p.offset p.bytes

pub patched_append : (block : List ℕ) (ps qs : List Patch) → patched block (ps ++ qs) ≡ patched (patched block ps) qs
unfolding patched
patched_append block [] qs = refl
patched_append block (p ∷ ps) qs = patched_append (splice block p.offset p.bytes) ps qs

-- patches one after the other, and one patch
pub patched_then : {a b c : List ℕ} {ps qs : List Patch} → Patched a b ps → Patched b c qs → Patched a c (ps ++ qs)
patched_then {a} {ps = ps} {qs = qs} p q = record { after_is = rw (patched_append a ps qs, ← p.after_is) q.after_is }

pub patched_one : {a b : List ℕ} {at next : ℕ} {bytes : List ℕ} → Wrote a b at next bytes → Patched a b (patch at bytes ∷ [])
unfolding patched
patched_one w = record { after_is = w.after_is }

-- patches that are asked for only where a test holds; `on` is the code's answer to it
module _ {a b : List ℕ} {ps : List Patch} (on g : Bool) (asked : on ≡ g) where
  pub patched_on : on ≡ true → Patched a b ps → Patched a b (keep g ps)
  unfolding keep
  patched_on e p = rw (sym asked ∙ e) p

pub patched_off : (a : List ℕ) (ps : List Patch) (on g : Bool) → on ≡ g → on ≡ false → Patched a a (keep g ps)
unfolding keep patched
patched_off a ps on g asked e = rw (sym asked ∙ e) (record { after_is = refl })

-- a block stays as long as it was
pub same_long : {a b : List ℕ} {ps : List Patch} → Patched a b ps → length b ≡ length a
same_long {a} {ps = ps} p = ap length p.after_is ∙ length_patched a ps

-- ---- a table of numbers
pub record InRoom (n at j : ℕ) (os ws vs : List ℕ) : Type 0 where
  pub width : j < length ws
  pub value : j < length vs
  pub four : get_or ws j 0 ≤ 4
  pub inside : at + get_or os j 0 + get_or ws j 0 ≤ n

pub fit_at : (n at : ℕ) (os ws vs : List ℕ) (j : ℕ) → Fit n at os ws vs → j < length os → InRoom n at j os ws vs
unfolding Fit
fit_at n at [] ws vs j f h = absurd (omega arith)
fit_at n at (o ∷ os) [] vs j f h = absurd f
fit_at n at (o ∷ os) (w ∷ ws) [] j f h = absurd f
fit_at n at (o ∷ os) (w ∷ ws) (v ∷ vs) zero f h = record { width = omega arith; value = omega arith; four = f.0; inside = f.1 }
fit_at n at (o ∷ os) (w ∷ ws) (v ∷ vs) (suc j) f h =
    let r = fit_at n at os ws vs j f.2 (omega arith) in
    record { width = omega arith; value = omega arith; four = r.four; inside = r.inside }

module _ (at : ℕ) (os ws vs : List ℕ) (j : ℕ) where
  abbrev pub rest : List Patch
  rest = number_patches at (drop j os) (drop j ws) (drop j vs)

  -- a turn: the next number is put
  pub numbers_step : {out after : List ℕ} {next : ℕ} (all : List ℕ) → j < length os → j < length ws → j < length vs
      → Wrote out after (at + get_or os j 0) next (be (get_or ws j 0) (get_or vs j 0))
      → patched out rest ≡ all → patched after (number_patches at (drop (j + 1) os) (drop (j + 1) ws) (drop (j + 1) vs)) ≡ all
  unfolding patched number_patches
  numbers_step all a b c w left = rw (add-one, w.after_is) (rw (drop-cons os j 0 a, drop-cons ws j 0 b, drop-cons vs j 0 c) at left)

  pub numbers_done : {out all : List ℕ} → length os ≤ j → patched out rest ≡ all → out ≡ all
  unfolding patched number_patches
  numbers_done h left = rw (drop_of_length-le os h) at left

-- ---- a text, and zeros after it
pub take_replicate : (m n a : ℕ) → m ≤ n → take m (replicate n a) ≡ replicate m a
take_replicate zero n a h = refl
take_replicate (suc m) zero a h = absurd (omega arith)
take_replicate (suc m) (suc n) a h = ap (λ l. a ∷ l) (take_replicate m n a (omega arith))

-- n bytes of the block, lent and filled with zeros
pub wrote_zeros : (block zeros : List ℕ) (at n : ℕ) → at + n ≤ length block → zeros ≡ replicate (length (take (at + n - at) (drop at block))) 0
    → Wrote block (take at block ++ (zeros ++ drop (at + n - at) (drop at block))) at (at + n) (replicate n 0)
wrote_zeros block zeros at n h e =
    let count : at + n - at ≡ n = omega arith in
    let rest : length (drop at block) ≡ length block - at = length-drop at block in
    let long : length (take n (drop at block)) ≡ n = length-take-le n (drop at block) (omega (arith, rest)) in
    let same : zeros ≡ replicate n 0 = rw (count, long) at e in
    let whole = splice_is block at (replicate n 0) (rw length-replicate h) in
    record {
      next_is = rw length-replicate refl;
      after_is = rw (count, same, drop-drop n at block) (sym (rw length-replicate at whole));
    }

pub wrote_filled : {a b c : List ℕ} {at mid next : ℕ} (t : Text) (width : ℕ)
    → Wrote a b at mid (take t.len t.bytes) → Wrote b c mid next (replicate (width - t.len) 0) → Wrote a c at next (zero_filled width t)
unfolding zero_filled
wrote_filled t width p q = wrote_then p q

-- a text that is zeroFilled by one byte ends with one zero
pub ended : (t : Text) → zero_filled (t.len + 1) t ≡ text t ++ (0 ∷ [])
unfolding zero_filled
ended t = let e : t.len + 1 - t.len ≡ suc 0 = omega arith in rw e
