-- What holds of every name and of all words, computed over the definition: a C program that reads up to the first zero reads them whole.
-- Assumes nothing.
use mathlib.Core.Bool.{Bool, true, false, cond}
use mathlib.Core.List.{List, [], ◌∷◌, map}
use Prim.Native.Nat.{ℕ}
use lib.Dec.{T, eqb, leb, ltb}
use lib.ListN.{length}
use Rattle.layout.specs.declared.columns.Family.{Family}
use Rattle.layout.proofs.Laws.{each, both}
use Rattle.names.specs.Bytes.{bytes}
use Rattle.names.specs.Names.{Naming, called_in, refusal_words}

-- bytes from the one number to the other
abbrev pub between : ℕ → ℕ → List ℕ → Bool
between low high [] = true
between low high (b ∷ bs) = both (both (leb low b) (leb b high)) (between low high bs)

-- at least one byte, and fewer than so many, all of them printed ones: no zero is among them, and one stands behind them in their field
abbrev pub plain : ℕ → List ℕ → Bool
plain room text = both (ltb 0 (length text)) (both (ltb (length text) room) (between 0x20 0x7e text))

abbrev pub all_plain : ℕ → List (List ℕ) → Bool
all_plain room [] = true
all_plain room (t ∷ ts) = both (plain room t) (all_plain room ts)

-- two texts are the same, one is among others, and none stands twice
abbrev same : List ℕ → List ℕ → Bool
same [] [] = true
same [] (y ∷ ys) = false
same (x ∷ xs) [] = false
same (x ∷ xs) (y ∷ ys) = both (eqb x y) (same xs ys)

abbrev among : List ℕ → List (List ℕ) → Bool
among t [] = false
among t (u ∷ us) = cond (same t u) true (among t us)

abbrev pub once : List (List ℕ) → Bool
once [] = true
once (t ∷ ts) = cond (among t ts) false (once ts)

unfoldable pub names : Family → List (List ℕ)
names f = map (λ (c : Naming). bytes c.name) (called_in f)

pub names_plain : (f : Family) → T (all_plain 32 (names f))
unfolding names called_in bytes
names_plain = each _ (tt, tt, tt, tt, tt, tt, tt, tt)

pub names_once : (f : Family) → T (once (names f))
unfolding names called_in bytes
names_once = each _ (tt, tt, tt, tt, tt, tt, tt, tt)

pub words_plain : T (all_plain 128 (map bytes refusal_words))
unfolding refusal_words bytes
words_plain = tt

pub words_once : T (once (map bytes refusal_words))
unfolding refusal_words bytes
words_once = tt
