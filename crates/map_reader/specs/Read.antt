-- Reading a body: what stands at a place, as far as it can be read. The first wrong place decides.
-- Assumes nothing.
use Rattle.std.specs.Prelude.{ℕ, zero, suc, ◌+◌, ◌<◌, Bool, cond, ◌&&◌, List, [], ◌∷◌, ◌++◌, eqb, leb, ltb, length, get_or}
use Rattle.wire.specs.Wire.{part, number as number_of}
use Rattle.format.specs.Refusal.{one_of}
use Rattle.map.specs.Map.{Value, text, number, map, Map, empty, entry, has}

-- each element is a byte, as in every lent body
abbrev pub Bytes : List ℕ → Type 0
Bytes b = (i : ℕ) → get_or b i 0 < 256

-- the place after the text at p, or 0 where there is none: U, how many bytes, the bytes
unfoldable pub text_stop : List ℕ → ℕ → ℕ
text_stop b p =
    let stop = p + 2 + get_or b (p + 1) 0 in
    cond (eqb (get_or b p 0) 0x55) (cond (leb stop (length b)) stop 0) 0

unfoldable pub text_of : List ℕ → ℕ → List ℕ
text_of b p = part b (p + 2) (get_or b (p + 1) 0)

-- the w bytes after p are all there, and are a number over 255 that is not negative
unfoldable pub says : List ℕ → ℕ → ℕ → Bool
says b p w = leb (p + 1 + w) (length b) && (ltb (get_or b (p + 1) 0) 128 && ltb 255 (number_of (part b (p + 1) w)))

-- a length by another mark, I, l or L, that says more than 255
unfoldable pub says_more : List ℕ → ℕ → Bool
says_more b p =
    one_of ((eqb (get_or b p 0) 0x49 && says b p 2)
    ∷ (eqb (get_or b p 0) 0x6c && says b p 4)
    ∷ (eqb (get_or b p 0) 0x4c && says b p 8)
    ∷ [])

-- what is wrong where a text should be and no U stands; and where one should be and is not
unfoldable pub other_wrong : List ℕ → ℕ → ℕ
other_wrong b p = cond (says_more b p) 21 23

unfoldable pub no_text_refusal : List ℕ → ℕ → ℕ
no_text_refusal b p = cond (eqb (get_or b p 0) 0x55) 23 (other_wrong b p)

-- the entries that were read and the place after them, or a refusal and the wrong place
pub record Seen : Type 0 where
  pub map : Map
  pub stop : ℕ
  pub refusal : ℕ

-- the value that was read and the place after it, or a refusal and the wrong place
pub record SeenValue : Type 0 where
  pub value : Value
  pub stop : ℕ
  pub refusal : ℕ

abbrev pub refused : ℕ → ℕ → SeenValue
refused n p = record { value = text []; stop = p; refusal = n }

abbrev pub stopped : ℕ → ℕ → Seen
stopped n p = record { map = empty; stop = p; refusal = n }

-- a map's value, whose entries are g: a brace closes it
unfoldable pub closed_map : List ℕ → Seen → SeenValue
closed_map b g =
    cond (eqb g.refusal 0)
    (cond (eqb (get_or b g.stop 0) 0x7d) (record { value = map g.map; stop = g.stop + 1; refusal = 0 }) (refused (other_wrong b g.stop) g.stop))
    (refused g.refusal g.stop)

-- the value at p: S and a text, l and four bytes, or entries in braces
unfoldable pub value_in : (ℕ → Seen) → List ℕ → ℕ → SeenValue
value_in inner b p =
    cond (eqb (get_or b p 0) 0x53)
    (cond (eqb (text_stop b (p + 1)) 0) (refused (no_text_refusal b (p + 1)) (p + 1)) (record { value = text (text_of b (p + 1)); stop = text_stop b (p + 1); refusal = 0 }))
    (cond (eqb (get_or b p 0) 0x6c) (cond (leb (p + 5) (length b)) (record { value = number (number_of (part b (p + 1) 4)); stop = p + 5; refusal = 0 }) (refused 23 p))
    (cond (eqb (get_or b p 0) 0x7b) (closed_map b (inner p))
    (refused 23 p)))

-- what is wrong with the key at p, behind entries with these keys
unfoldable pub key_wrong : List ℕ → List (List ℕ) → ℕ → ℕ
key_wrong b keys p = cond (eqb (text_stop b p) 0) 23 (cond (has keys (text_of b p)) 22 0)

-- an entry more
abbrev pub joined : List ℕ → SeenValue → Seen → Seen
joined key v rest = record { map = entry key v.value rest.map; stop = rest.stop; refusal = rest.refusal }

-- entries from p on, behind entries with these keys, at most `most`
unfoldable pub map_entries_in : (ℕ → Seen) → List ℕ → List (List ℕ) → ℕ → ℕ → Seen
map_entries_in inner b keys zero p = stopped 23 p
map_entries_in inner b keys (suc most) p =
    let v = value_in inner b (text_stop b p) in
    cond (eqb (get_or b p 0) 0x55)
    (cond (eqb (key_wrong b keys p) 0)
    (cond (eqb v.refusal 0) (joined (text_of b p) v (map_entries_in inner b (keys ++ (text_of b p ∷ [])) most v.stop)) (stopped v.refusal v.stop))
    (stopped (key_wrong b keys p) p))
    (record { map = empty; stop = p; refusal = 0 })

-- the map whose brace stands at p, inside a map that may nest d deep: with none left, one more is too deep
unfoldable pub inside : List ℕ → ℕ → ℕ → Seen
inside b zero p = stopped 20 p
inside b (suc d) p = map_entries_in (inside b d) b [] (suc (length b)) (p + 1)

abbrev pub map_read_at : List ℕ → ℕ → ℕ → Seen
map_read_at b d p = map_entries_in (inside b d) b [] (suc (length b)) p

abbrev pub value_read_at : List ℕ → ℕ → ℕ → SeenValue
value_read_at b d p = value_in (inside b d) b p
