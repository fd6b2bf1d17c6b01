-- The tail of a replay, after its events.
-- Assumes nothing.
use Rattle.std.specs.Prelude.{ℕ, Bool, List, [], ◌∷◌, ◌++◌}
use Rattle.wire.specs.Wire.{keep}

-- U\x08metadata{
abbrev pub metadata_key : List ℕ
metadata_key = 0x55 ∷ 0x08 ∷ 0x6d ∷ 0x65 ∷ 0x74 ∷ 0x61 ∷ 0x64 ∷ 0x61 ∷ 0x74 ∷ 0x61 ∷ 0x7b ∷ []

-- the metadata's map round its body: key, brace, body, brace
unfoldable pub metadata_of : List ℕ → List ℕ
metadata_of body = metadata_key ++ (body ++ (0x7d ∷ []))

-- the metadata, where it is given, and the brace that closes the file's map
unfoldable pub tail_of : Bool → List ℕ → List ℕ
tail_of given metadata = keep given (metadata_of metadata) ++ (0x7d ∷ [])
