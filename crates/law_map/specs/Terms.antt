-- What the theorems about the metadata map's writer and reader speak of.
-- Assumes nothing.
use Rattle.std.specs.Prelude.{ℕ, ◌+◌, ◌^◌, ◌≤◌, ◌<◌, cond, List, ◌≡◌, eqb, length, get_or}

-- each element is a number of 32 bits, as in every lent store of cells
abbrev pub Words : List ℕ → Type 0
Words rows = (i : ℕ) → get_or rows i 0 < 2 ^ 32

-- two bodies begin with the same s bytes
pub record SameFront (b c : List ℕ) (s : ℕ) : Type 0 where
  pub in_first : s ≤ length b
  pub in_second : s ≤ length c
  pub same : (i : ℕ) → i < s → get_or b i 0 ≡ get_or c i 0

-- how many bytes what stands at s has, by its mark: a text with its length, a number with its four bytes, or the mark alone
unfoldable pub extent : List ℕ → ℕ → ℕ
extent b s = cond (eqb (get_or b s 0) 0x55) (2 + get_or b (s + 1) 0) (cond (eqb (get_or b s 0) 0x6c) 5 1)
