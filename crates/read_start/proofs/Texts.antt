-- A text read byte by byte: what is left of it, stored from index i on, makes the whole.
-- Assumes nothing.
use mathlib.Core.Path.{◌≡◌, refl, sym, ap, ◌∙◌}
use mathlib.Core.List.{List, [], ◌∷◌, ◌++◌}
use Prim.Native.Nat.{ℕ, zero, suc, ◌+◌, ◌-◌, ◌≤◌, ◌<◌}
use native.Mathlib.Nat.{add-suc, sub-eq-zero_of_le, add-zero, sub-zero, zero-add}
use native.Mathlib.Numerals.{add-one}
use native.Mathlib.Omega.{arith}
use native.Mathlib.Decide.{ℕ_discrete}
use borrow.Author.Tests.{eq-eqb, ne_eqb}
use lib.ListN.{length, take, drop, get_or, set, replicate, length-take, length-replicate}
use lib.Seq.{drop-cons}
use Rattle.wire.specs.Wire.{splice, part}
use Rattle.wire.proofs.Laws.{splice_nil, splice_cons, splice_is}
use Rattle.patch.specs.Field.{read_text, read_at}
use Rattle.game.specs.declared.start.Text.{Text}
use Rattle.read_start.specs.Start.{text_at}

drop_zeros : (m n : ℕ) → drop {A = ℕ} m (replicate n 0) ≡ replicate (n - m) 0
drop_zeros zero n = rw sub-zero
drop_zeros (suc m) zero = let e : 0 - suc m ≡ 0 = omega arith in rw e
drop_zeros (suc m) (suc n) = let e : suc n - suc m ≡ n - m = omega arith in rw e (drop_zeros m n)

pub read_go : (b : ℕ) (xs : List ℕ) → (b ≡ 0 → ⊥) → read_text (b ∷ xs) ≡ b ∷ read_text xs
unfolding read_text
read_go b xs h = rw (ne_eqb b 0 h)

pub read_stop : (b : ℕ) (xs : List ℕ) → b ≡ 0 → read_text (b ∷ xs) ≡ []
unfolding read_text
read_stop b xs e = rw (eq-eqb b 0 e)

pub read_none : read_text [] ≡ []
unfolding read_text
read_none = refl

-- no more is read than there is
pub read_short : (xs : List ℕ) → length (read_text xs) ≤ length xs
read_short [] = omega (arith, ap length read_none)
read_short (x ∷ xs) =
    elim (ℕ_discrete x 0) [
      | yes e ↦ omega (arith, ap length (read_stop x xs e))
      | no o ↦ omega (arith, ap length (read_go x xs o), read_short xs)
    ]

pub read_within : (block : List ℕ) (at w : ℕ) → length (read_at block at w) ≤ w
unfolding part
read_within block at w = omega (arith, read_short (take w (drop at block)), length-take w (drop at block))

-- the text of which i bytes are stored, and which these end
abbrev pub ends : List ℕ → ℕ → List ℕ → Text
ends bytes i rest = record { bytes = splice bytes i rest; len = i + length rest }

abbrev pub left : List ℕ → ℕ → ℕ → ℕ → List ℕ
left block at limit i = read_at block (at + i) (limit - i)

pub text_start : (block : List ℕ) (at limit : ℕ) → limit ≤ 50 → ends (replicate 50 0) 0 (left block at limit 0) ≡ text_at block at limit
text_start block at limit h =
    let t = read_at block at limit in
    let short : length t ≤ 50 = omega (arith, read_within block at limit) in
    let e : splice (replicate 50 0) 0 t ≡ t ++ replicate (50 - length t) 0
    = splice_is (replicate 50 0) 0 t (omega (arith, length-replicate {A = ℕ} 50 0)) ∙ rw (zero-add, drop_zeros (length t) 50) in
    let same : left block at limit 0 ≡ t = rw (add-zero, sub-zero) in
    let n : 0 + length t ≡ length t = omega arith in
    let filled : ends (replicate 50 0) 0 t ≡ text_at block at limit = λ i. record { bytes = e i; len = n i } in
    ap (ends (replicate 50 0) 0) same ∙ filled

module _ (block : List ℕ) (at limit i : ℕ) (bytes : List ℕ) {all : Text} (known : ends bytes i (left block at limit i) ≡ all) where
  next : i < limit → at + i < length block → part block (at + i) (limit - i) ≡ get_or block (at + i) 0 ∷ part block (at + (i + 1)) (limit - (i + 1))
  unfolding part
  next h k =
      let e : limit - i ≡ suc (limit - suc i) = omega arith in
      rw (drop-cons block (at + i) 0 k, e, add-one, add-suc)

  pub text_step : i < limit → at + i < length block → (get_or block (at + i) 0 ≡ 0 → ⊥)
      → ends (set bytes i (get_or block (at + i) 0)) (i + 1) (left block at limit (i + 1)) ≡ all
  text_step h k other =
      let b = get_or block (at + i) 0 in
      let rest = left block at limit (i + 1) in
      let e : left block at limit i ≡ b ∷ rest = ap read_text (next h k) ∙ read_go b _ other in
      let n : i + length (b ∷ rest) ≡ i + 1 + length rest = omega arith in
      let stored : ends bytes i (b ∷ rest) ≡ ends (set bytes i b) (i + 1) rest = λ j. record { bytes = splice_cons bytes i b rest j; len = n j } in
      sym stored ∙ sym (ap (ends bytes i) e) ∙ known

  ended : left block at limit i ≡ [] → record { bytes = bytes; len = i } ≡ all
  ended e =
      let n : i + 0 ≡ i = omega arith in
      let same : ends bytes i [] ≡ record { bytes = bytes; len = i } = λ j. record { bytes = splice_nil bytes i j; len = n j } in
      sym same ∙ sym (ap (ends bytes i) e) ∙ known

  pub text_stop_lem : i < limit → at + i < length block → get_or block (at + i) 0 ≡ 0 → record { bytes = bytes; len = i } ≡ all
  text_stop_lem h k e = ended (ap read_text (next h k) ∙ read_stop _ _ e)

  pub text_done : limit ≤ i → record { bytes = bytes; len = i } ≡ all
  unfolding part
  text_done h = ended (ap read_text (rw (sub-eq-zero_of_le h)) ∙ read_none)
