-- Patches that stand in a block: storing them again changes nothing.
-- Assumes nothing.
use mathlib.Core.Path.{◌≡◌, refl, sym, ap, ◌∙◌}
use mathlib.Core.Bool.{Bool, true}
use mathlib.Core.List.{List, [], ◌∷◌, ◌++◌}
use Prim.Native.Nat.{ℕ, suc, ◌≤◌, ◌<◌}
use native.Mathlib.Decide.{dec_lt}
use native.Mathlib.Omega.{arith}
use lib.ListN.{length, drop, get_or, set, drop_of_length-le}
use lib.Seq.{drop-cons, set-get_or}
use Rattle.wire.specs.Wire.{splice, part, keep}
use Rattle.patch.specs.Patch.{Patch, patched}

pub record Stands (block : List ℕ) (p : Patch) : Type 0 where
  pub stands : part block p.offset (length p.bytes) ≡ p.bytes

unfoldable pub Standing : List ℕ → List Patch → Type 0
Standing block [] = Unit {0}
Standing block (p ∷ ps) = Stands block p × Standing block ps

module _ (block : List ℕ) where
  pub standing_append : (ps qs : List Patch) → Standing block ps → Standing block qs → Standing block (ps ++ qs)
  unfolding Standing
  standing_append [] qs a b = b
  standing_append (p ∷ ps) qs a b = (a.0, standing_append ps qs a.1 b)

  pub standing_first : (ps qs : List Patch) → Standing block (ps ++ qs) → Standing block ps
  unfolding Standing
  standing_first [] qs a = tt
  standing_first (p ∷ ps) qs a = (a.0, standing_first ps qs a.1)

  pub standing_second : (ps qs : List Patch) → Standing block (ps ++ qs) → Standing block qs
  unfolding Standing
  standing_second [] qs a = a
  standing_second (p ∷ ps) qs a = standing_second ps qs a.1

  pub kept_standing : (on : Bool) (ps : List Patch) → on ≡ true → Standing block (keep on ps) → Standing block ps
  unfolding keep
  kept_standing on ps e h = rw e at h

-- ---- what stands is stored again

first_of : {x y : ℕ} {xs ys : List ℕ} → ◌≡◌ {A = List ℕ} (x ∷ xs) (y ∷ ys) → x ≡ y
first_of e = ap (λ (l : List ℕ). get_or l 0 0) e

rest_of : {x y : ℕ} {xs ys : List ℕ} → ◌≡◌ {A = List ℕ} (x ∷ xs) (y ∷ ys) → xs ≡ ys
rest_of e = ap (λ (l : List ℕ). drop 1 l) e

pub part_cons : (block : List ℕ) (at w : ℕ) → at < length block → part block at (suc w) ≡ get_or block at 0 ∷ part block (suc at) w
unfolding part
part_cons block at w h = rw (drop-cons block at 0 h)

part_past : (block : List ℕ) (at w : ℕ) → length block ≤ at → part block at (suc w) ≡ []
unfolding part
part_past block at w h = rw (drop_of_length-le block h)

pub splice_stands : (block : List ℕ) (at : ℕ) (ys : List ℕ) → part block at (length ys) ≡ ys → splice block at ys ≡ block
unfolding splice
splice_stands block at [] e = refl
splice_stands block at (y ∷ ys) e =
    elim (dec_lt at (length block)) [
      | yes h ↦
          let k = sym (part_cons block at (length ys) h) ∙ e in
          let same : set block at y ≡ block = ap (λ (x : ℕ). set block at x) (sym (first_of k)) ∙ set-get_or block at 0 in
          ap (λ (l : List ℕ). splice l (suc at) ys) same ∙ splice_stands block (suc at) ys (rest_of k)
      | no r ↦
          let k : length {A = ℕ} [] ≡ length (y ∷ ys) = ap length (sym (part_past block at (length ys) (omega arith)) ∙ e) in
          absurd (omega (arith, k))
    ]

pub patched_standing : (block : List ℕ) (ps : List Patch) → Standing block ps → patched block ps ≡ block
unfolding patched Standing
patched_standing block [] h = refl
patched_standing block (p ∷ ps) h = ap (λ (l : List ℕ). patched l ps) (splice_stands block p.offset p.bytes h.0.stands) ∙ patched_standing block ps h.1
