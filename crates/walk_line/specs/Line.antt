-- The one line that the program `walk` prints of its input.
-- Assumes nothing.
use Rattle.std.specs.Prelude.{ℕ, ◌≡◌, Bool, true, false, cond, List, [], ◌∷◌, ◌++◌, eqb, ltb, length}
use Rattle.io.specs.Digits.{last_digits, IsDigitCount}
use Rattle.wire.specs.Wire.{Wrote}
use Rattle.format.specs.Refusal.{refuse, lowest}
use Rattle.de.specs.Walk.{walk_of}
use Rattle.de.specs.declared.Walked.{Walked}
use Rattle.de.specs.declared.Walked.TheVariants.{Done, Refused}

-- judged before the walk, at offset 0: 18, an input over 65,536 bytes
unfoldable pub input_refusal : List ℕ → ℕ
input_refusal f = lowest (refuse 18 (ltb 65536 (length f)) ∷ [])

unfoldable pub input_of : List ℕ → Walked
input_of f = cond (eqb (input_refusal f) 0) (walk_of f) (Refused (input_refusal f) 0)

-- a number's decimal digits, and no zero before them
pub record Decimal (n : ℕ) (text : List ℕ) : Type 0 where
  pub count : ℕ
  pub fewest : IsDigitCount 10 1 n count
  pub digits_are : text ≡ last_digits 10 count n

-- two numbers with a space between them
pub data Pair (a b : ℕ) : List ℕ → Type 0 where
  pair : {x y : List ℕ} → Decimal a x → Decimal b y → Pair a b (x ++ (0x20 ∷ y))

-- " whole" or " cut", and the line's end
abbrev pub state : Bool → List ℕ
state true = 0x20 ∷ 0x77 ∷ 0x68 ∷ 0x6f ∷ 0x6c ∷ 0x65 ∷ 0x0a ∷ []
state false = 0x20 ∷ 0x63 ∷ 0x75 ∷ 0x74 ∷ 0x0a ∷ []

-- "refused "
abbrev pub refused_word : List ℕ
refused_word = 0x72 ∷ 0x65 ∷ 0x66 ∷ 0x75 ∷ 0x73 ∷ 0x65 ∷ 0x64 ∷ 0x20 ∷ []

-- events, stray bytes and state; or the refusal's number and offset
pub data Line : Walked → List ℕ → Type 0 where
  done : {events stray place : ℕ} {whole : Bool} {x : List ℕ} → Pair events stray x → Line (Done events stray whole place) (x ++ state whole)
  refused : {number offset : ℕ} {x : List ℕ} → Pair number offset x → Line (Refused number offset) (refused_word ++ (x ++ (0x0a ∷ [])))

-- a text of some kind was written
pub record Put (is : List ℕ → Type 0) (before after : List ℕ) (at next : ℕ) : Type 0 where
  pub text : List ℕ
  pub kind : is text
  pub wrote : Wrote before after at next text
