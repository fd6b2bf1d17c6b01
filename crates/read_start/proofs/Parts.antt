-- What stands in a block, byte by byte, and what is chosen by a test.
-- Assumes nothing.
use mathlib.Core.Path.{◌≡◌, refl, sym, ap, ◌∙◌}
use mathlib.Core.Bool.{Bool}
use mathlib.Core.List.{List, [], ◌∷◌}
use Prim.Native.Nat.{ℕ, suc, ◌+◌, ◌-◌, ◌≤◌, ◌<◌}
use native.Mathlib.Nat.{add-zero}
use native.Mathlib.Omega.{arith}
use lib.ListN.{length, take, drop, get_or, length-drop}
use lib.Seq.{drop-cons, length-take-le}
use Rattle.wire.specs.Wire.{part, ranged}

-- the code's answer to a test, and what the definition says of the same test
pub chosen : {A : Type 0} (f : Bool → A) {on b : Bool} (x : Bool) → on ≡ b → on ≡ x → f x ≡ f b
chosen f x asked e = ap f (sym e ∙ asked)

-- ---- the bytes of a part, one by one

part_next : (block : List ℕ) (at k p w : ℕ) → p ≡ at + k → p < length block → part block p (suc w) ≡ get_or block (at + k) 0 ∷ part block (suc p) w
unfolding part
part_next block at k p w e h = rw (drop-cons block p 0 h, e)

part_none : (block : List ℕ) (at : ℕ) → part block at 0 ≡ []
unfolding part
part_none block at = refl

pub four_is : (block : List ℕ) (at : ℕ) → at + 4 ≤ length block
    → get_or block at 0 ∷ get_or block (at + 1) 0 ∷ get_or block (at + 2) 0 ∷ get_or block (at + 3) 0 ∷ [] ≡ part block at 4
four_is block at h =
    let a = part_next block at 0 at 3 (omega arith) (omega arith) in
    let b = part_next block at 1 (suc at) 2 (omega arith) (omega arith) in
    let c = part_next block at 2 (suc (suc at)) 1 (omega arith) (omega arith) in
    let d = part_next block at 3 (suc (suc (suc at))) 0 (omega arith) (omega arith) in
    sym (rw (add-zero, b, c, d, part_none) at a)

pub five_is : (block : List ℕ) (at : ℕ) → at + 5 ≤ length block
    → get_or block at 0 ∷ get_or block (at + 1) 0 ∷ get_or block (at + 2) 0 ∷ get_or block (at + 3) 0 ∷ get_or block (at + 4) 0 ∷ [] ≡ part block at 5
five_is block at h =
    let a = part_next block at 0 at 4 (omega arith) (omega arith) in
    let b = part_next block at 1 (suc at) 3 (omega arith) (omega arith) in
    let c = part_next block at 2 (suc (suc at)) 2 (omega arith) (omega arith) in
    let d = part_next block at 3 (suc (suc (suc at))) 1 (omega arith) (omega arith) in
    let e = part_next block at 4 (suc (suc (suc (suc at)))) 0 (omega arith) (omega arith) in
    sym (rw (add-zero, b, c, d, e, part_none) at a)

-- ---- a block that stands in a file

pub part_same : {A : Type 0} (f : List ℕ → A) (file : List ℕ) (at len : ℕ) {r : A} → r ≡ f (take (at + len - at) (drop at file)) → r ≡ f (part file at len)
unfolding part
part_same f file at len h = let e : at + len - at ≡ len = omega arith in rw e at h

pub part_long : (file : List ℕ) (at len : ℕ) → at + len ≤ length file → length (take (at + len - at) (drop at file)) ≡ len
part_long file at len h = length-take-le (at + len - at) (drop at file) (omega (arith, length-drop at file)) ∙ omega arith

-- four, one after the other
pub four_ranged : {A : Type 0} (f : ℕ → A) → f 0 ∷ f 1 ∷ f 2 ∷ f 3 ∷ [] ≡ ranged (λ n. f n ∷ []) 0 4
unfolding ranged
four_ranged f = refl
