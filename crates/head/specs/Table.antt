-- The head of a replay: its signature, the declared length of its event data, and its payload table.
-- Assumes nothing.
use Rattle.std.specs.Prelude.{ℕ, zero, suc, ◌+◌, ◌*◌, ◌/◌, ◌%◌, min, Bool, true, false, cond, not, ◌||◌, ◌&&◌, List, [], ◌∷◌, eqb, leb, ltb, length, get_or, drop}
use Rattle.wire.specs.Wire.{number, part}
use Rattle.format.specs.Event.{code_of, signature}
use Rattle.format.specs.File.{Entry}
use Rattle.format.specs.Refusal.{refuse, lowest}
use Rattle.format.specs.declared.event.Event.TheVariants.{Payloads}

-- whether the second list begins with the first
unfoldable pub starts_with : List ℕ → List ℕ → Bool
starts_with [] ys = true
starts_with (x ∷ xs) [] = false
starts_with (x ∷ xs) (y ∷ ys) = eqb y x && starts_with xs ys

-- the declared length of the event data: the four bytes after the signature
abbrev pub declared : List ℕ → ℕ
declared f = number (part f 11 4)

-- a recorder fills the length in when it closes the file: zero says that it never did
abbrev pub unfilled : List ℕ → Bool
unfilled f = eqb (declared f) 0

-- event data runs from byte 15 for the declared length, or to a cut: where it ends, and whether all of it is present;
-- where the length was never filled in, it runs to the file's end, and is always cut
unfoldable pub stop_of : List ℕ → ℕ
stop_of f = cond (unfilled f) (length f) (min (15 + declared f) (length f))

unfoldable pub all_present : List ℕ → Bool
all_present f = not (unfilled f) && leb (15 + declared f) (length f)

-- n entries of three bytes each: a code, and a size in two bytes
unfoldable pub entries_in : ℕ → List ℕ → List Entry
entries_in zero bytes = []
entries_in (suc n) bytes = record { code = get_or bytes 0 0; size = number (part bytes 1 2) } ∷ entries_in n (drop 3 bytes)

-- the table of a file: the size byte of its event, at 16, counts itself and three bytes an entry
unfoldable pub table_of : List ℕ → List Entry
table_of f = entries_in (get_or f 16 0 / 3) (drop 17 f)

-- where a table ends, and the events start
abbrev pub first_place : List Entry → ℕ
first_place t = 17 + 3 * length t

-- how many bytes an event of this code takes, the code and the payload; 0 where the table lacks the code
unfoldable pub span_of : ℕ → List Entry → ℕ
span_of c [] = 0
span_of c (e ∷ t) = cond (eqb e.code c) (1 + e.size) (span_of c t)

-- a code stands twice
unfoldable pub code_twice : List Entry → Bool
code_twice [] = false
code_twice (e ∷ t) = ltb 0 (span_of e.code t) || code_twice t

-- the table's event is absent, has a size byte that is not 1 modulo 3, or is not whole in the event data
unfoldable pub table_missing : List ℕ → Bool
table_missing f =
    ltb (stop_of f) 17
    || not (eqb (get_or f 15 0) (code_of Payloads))
    || not (eqb (get_or f 16 0 % 3) 1)
    || ltb (stop_of f) (16 + get_or f 16 0)

-- 14: under 15 bytes, or a wrong signature
unfoldable pub unsigned : List ℕ → Bool
unsigned f = ltb (length f) 15 || not (starts_with signature f)

-- 15: no table, or a code twice
unfoldable pub untabled : List ℕ → Bool
untabled f = table_missing f || code_twice (table_of f)

-- the refusal of a file's head, or 0; and its offset, which is 0 for 14 and 15 for 15
unfoldable pub head_refusal : List ℕ → ℕ
head_refusal f = lowest (refuse 14 (unsigned f) ∷ refuse 15 (untabled f) ∷ [])

abbrev pub head_offset : ℕ → ℕ
head_offset n = cond (eqb n 15) 15 0
