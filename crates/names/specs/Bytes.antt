-- Texts as bytes.
-- Assumes nothing.
use Rattle.std.specs.Prelude.{ℕ, ◌-◌, List, [] as none, ◌∷◌ as ◌then◌, ◌++◌, length, replicate}
use Prim.Native.Char.{code}
use Prim.Native.String.{String, [], ◌∷◌}

-- the bytes of a text whose characters are all of ASCII
unfoldable pub bytes : String → List ℕ
bytes [] = none
bytes (c ∷ s) = code c then bytes s

-- a text in a field of so many bytes: zeros fill it
unfoldable pub filled : ℕ → List ℕ → List ℕ
filled width text = text ++ replicate (width - length text) 0
