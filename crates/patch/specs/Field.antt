-- Fields of a block: marks and texts.
-- Assumes nothing.
use Rattle.std.specs.Prelude.{ℕ, ◌-◌, Bool, cond, List, [], ◌∷◌, ◌++◌, map, eqb, take, replicate}
use Rattle.wire.specs.Wire.{part}
use Rattle.format.specs.Refusal.{one_of}
use Rattle.game.specs.declared.start.Text.{Text}

abbrev pub text : Text → List ℕ
text t = take t.len t.bytes

-- a text in a field of so many bytes: zeros fill it
unfoldable pub zero_filled : ℕ → Text → List ℕ
zero_filled width t = text t ++ replicate (width - t.len) 0

-- ---- what a viewer reads

-- a byte is zero
abbrev pub is_zero : ℕ → Bool
is_zero b = eqb b 0

-- one of the bytes that a text counts is zero; those past its length do not count
unfoldable pub zero_inside : Text → Bool
zero_inside t = one_of (map is_zero (text t))

-- the bytes up to the first zero, or to the field's end
unfoldable pub read_text : List ℕ → List ℕ
read_text [] = []
read_text (b ∷ bs) = cond (is_zero b) [] (b ∷ read_text bs)

-- a field of so many bytes that stands at an offset of a block, or at a place of a file
abbrev pub read_at : List ℕ → ℕ → ℕ → List ℕ
read_at bytes at width = read_text (part bytes at width)
