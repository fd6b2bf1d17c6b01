-- A metadata map as a tree, and its bytes.
-- Assumes nothing.
use Rattle.std.specs.Prelude.{ℕ, zero, suc, ◌^◌, ◌<◌, Bool, true, false, ◌&&◌, ◌||◌, List, [], ◌∷◌, ◌++◌, ◌≡◌, eqb, length}
use Rattle.wire.specs.Wire.{be}

-- a value is a text, a number by its 32 bits, or a map; a map is entries of key and value, in order
mutual
  pub data Value : Type 0 where
    text : List ℕ → Value
    number : ℕ → Value
    map : Map → Value

  pub data Map : Type 0 where
    empty : Map
    entry : List ℕ → Value → Map → Map

-- U, how many bytes, the bytes
unfoldable pub text_bytes : List ℕ → List ℕ
text_bytes t = 0x55 ∷ length t ∷ t

-- S and a text; l and four bytes; a map's body in braces
unfoldable mutual
  pub value_bytes : Value → List ℕ
  value_bytes (text t) = 0x53 ∷ text_bytes t
  value_bytes (number n) = 0x6c ∷ be 4 n
  value_bytes (map m) = 0x7b ∷ (body_of m ++ (0x7d ∷ []))

  pub body_of : Map → List ℕ
  body_of empty = []
  body_of (entry k v m) = text_bytes k ++ (value_bytes v ++ body_of m)

-- texts of at most 255 bytes, numbers of 32 bits, and maps that nest at most d deep
unfoldable mutual
  pub fits_value : Value → ℕ → Type 0
  fits_value (text t) d = length t < 256
  fits_value (number n) d = n < 2 ^ 32
  fits_value (map m) zero = ⊥
  fits_value (map m) (suc d) = fits m d

  pub fits : Map → ℕ → Type 0
  fits empty d = Unit {0}
  fits (entry k v m) d = (length k < 256) × fits_value v d × fits m d

-- two texts are the same
unfoldable pub same : List ℕ → List ℕ → Bool
same [] [] = true
same [] (y ∷ ys) = false
same (x ∷ xs) [] = false
same (x ∷ xs) (y ∷ ys) = eqb x y && same xs ys

-- a key is one of these
unfoldable pub has : List (List ℕ) → List ℕ → Bool
has [] key = false
has (k ∷ keys) key = same k key || has keys key

-- a key stands twice in one map, inside m or among these keys before it
unfoldable mutual
  pub twice_value : Value → Bool
  twice_value (text t) = false
  twice_value (number n) = false
  twice_value (map m) = twice_in [] m

  pub twice_in : List (List ℕ) → Map → Bool
  twice_in keys empty = false
  twice_in keys (entry k v m) = has keys k || (twice_value v || twice_in (keys ++ (k ∷ [])) m)

-- what a body can hold: maps at most 8 deep below its own, and in each a key once
pub record Proper (m : Map) : Type 0 where
  pub fit : fits m 8
  pub once : twice_in [] m ≡ false
