-- Small files: a payload table, events and a tail.
-- Assumes nothing.
use Prim.Native.Nat.{ℕ}
use mathlib.Core.Path.{◌≡◌}
use mathlib.Core.List.{List, [], ◌∷◌, ◌++◌}
use lib.ListN.{replicate}
use Rattle.format.specs.File.{Entry, Ev, file_of}
use Rattle.layout.specs.declared.columns.Family.TheVariants.{Pre, Post}
use Rattle.grammar.specs.Productions.{row_event, start_event, end_event}
use Rattle.read_judge.specs.Found.{Found}
use Rattle.newer_judge.specs.Opening.{opening_refusal}

abbrev pub entry : ℕ → ℕ → Entry
entry c n = record { code = c; size = n }

-- the brace that closes a file
abbrev pub brace : List ℕ
brace = 0x7d ∷ []

-- ---- version 0.1.0: a start of 320 bytes, a Pre of 58, a Post of 33, an end of 1

abbrev pub table : List Entry
table = entry 0x36 320 ∷ entry 0x37 58 ∷ entry 0x38 33 ∷ entry 0x39 1 ∷ []

-- zeros, but for three numbers of a version and the four seat types, which stand 36 bytes apart
abbrev pub seated : ℕ → ℕ → ℕ → ℕ → List ℕ
seated a b c seat =
    a ∷ b ∷ c
    ∷ (replicate 98 0
    ++ (seat ∷ (replicate 35 0 ++ (3 ∷ (replicate 35 0 ++ (3 ∷ (replicate 35 0 ++ (3 ∷ replicate 110 0))))))))

abbrev pub block : List ℕ
block = seated 0 1 0 3

abbrev pub pre : ℕ → ℕ → ℕ → Ev
pre id port follower = row_event Pre id (port ∷ follower ∷ replicate 52 0)

abbrev pub post : ℕ → ℕ → ℕ → Ev
post id port follower = row_event Post id (port ∷ follower ∷ replicate 27 0)

abbrev pub over : ℕ → Ev
over method = end_event (method ∷ [])

-- a file of these events
abbrev pub old : List Ev → List ℕ
old es = file_of table (start_event block ∷ es) brace

-- what `measure` and `read` refuse by 19 and offset 0: not refused before, and no replay
abbrev pub Nineteen : List ℕ → Type 0
Nineteen f = (opening_refusal f ≡ 0) × (Found f → ⊥)
