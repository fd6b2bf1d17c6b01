-- 19 because the events of a frame are out of order, at 3.0.0, whose frames begin with a FrameStart, may hold items, and end with a FrameEnd. None is refused before.
-- Assumes nothing.
use Prim.Native.Nat.{ℕ}
use mathlib.Core.Path.{◌≡◌, refl}
use mathlib.Core.Bool.{true}
use mathlib.Core.List.{List, [], ◌∷◌, ◌++◌}
use lib.ListN.{replicate}
use Rattle.format.specs.File.{Entry, Ev, file_of}
use Rattle.format.specs.Version.{version}
use Rattle.layout.specs.declared.columns.Family.TheVariants.{Pre, Post, FrameStart, Item, FrameEnd}
use Rattle.grammar.specs.Productions.{start_event, row_event}
use Rattle.grammar.specs.WellFormed.{ascending}
use Rattle.grammar.specs.Whole.{is_replay}
use Rattle.case_files.proofs.Files.{Nineteen, entry, brace, seated}
use Rattle.case_files.proofs.Taken.{are_bytes, have_bytes, no_replay}
use Rattle.read_judge.proofs.Opens.{opens_early, opens_machine}
use Rattle.newer_judge.specs.Opening.{opening_refusal}

-- a start of 418 bytes, a Pre of 63, a Post of 52, a FrameStart of 8, an Item of 37, a FrameEnd of 4
abbrev table : List Entry
table = entry 0x36 418 ∷ entry 0x37 63 ∷ entry 0x38 52 ∷ entry 0x3A 8 ∷ entry 0x3B 37 ∷ entry 0x3C 4 ∷ []

abbrev block : List ℕ
block = seated 3 0 0 3 ++ replicate 98 0

abbrev starts : ℕ → Ev
starts id = row_event FrameStart id (replicate 4 0)

abbrev pre : ℕ → Ev
pre id = row_event Pre id (replicate 59 0)

abbrev item : ℕ → Ev
item id = row_event Item id (replicate 33 0)

abbrev post : ℕ → Ev
post id = row_event Post id (replicate 48 0)

abbrev ends : ℕ → Ev
ends id = row_event FrameEnd id []

abbrev young : List Ev → List ℕ
young es = file_of table (start_event block ∷ es) brace

-- in their order they are a replay's, so that in what follows the order is at fault
right_order : is_replay (version 3 0 0) ascending (start_event block ∷ starts 5 ∷ pre 5 ∷ item 5 ∷ post 5 ∷ ends 5 ∷ []) ≡ true
unfolding opens_early opening_refusal opens_machine are_bytes have_bytes
right_order = refl

-- no FrameStart before the players; one and nothing behind it; two of them; a FrameEnd alone
starts_wrong :
    Nineteen (young (pre 5 ∷ post 5 ∷ ends 5 ∷ []))
    × Nineteen (young (starts 5 ∷ []))
    × Nineteen (young (starts 5 ∷ starts 5 ∷ ends 5 ∷ []))
    × Nineteen (young (ends 5 ∷ []))
unfolding opens_early opening_refusal opens_machine are_bytes have_bytes
starts_wrong = (
  (refl, no_replay (young (pre 5 ∷ post 5 ∷ ends 5 ∷ [])) (start_event block ∷ pre 5 ∷ post 5 ∷ ends 5 ∷ []) refl refl refl),
  (refl, no_replay (young (starts 5 ∷ [])) (start_event block ∷ starts 5 ∷ []) refl refl refl),
  (refl, no_replay (young (starts 5 ∷ starts 5 ∷ ends 5 ∷ [])) (start_event block ∷ starts 5 ∷ starts 5 ∷ ends 5 ∷ []) refl refl refl),
  (refl, no_replay (young (ends 5 ∷ [])) (start_event block ∷ ends 5 ∷ []) refl refl refl),
)

-- an item before the Pres, and one after a Post
items_wrong :
    Nineteen (young (starts 5 ∷ item 5 ∷ pre 5 ∷ post 5 ∷ ends 5 ∷ []))
    × Nineteen (young (starts 5 ∷ pre 5 ∷ post 5 ∷ item 5 ∷ ends 5 ∷ []))
unfolding opens_early opening_refusal opens_machine are_bytes have_bytes
items_wrong = (
  (refl, no_replay (young (starts 5 ∷ item 5 ∷ pre 5 ∷ post 5 ∷ ends 5 ∷ [])) (start_event block ∷ starts 5 ∷ item 5 ∷ pre 5 ∷ post 5 ∷ ends 5 ∷ []) refl refl refl),
  (refl, no_replay (young (starts 5 ∷ pre 5 ∷ post 5 ∷ item 5 ∷ ends 5 ∷ [])) (start_event block ∷ starts 5 ∷ pre 5 ∷ post 5 ∷ item 5 ∷ ends 5 ∷ []) refl refl refl),
)

-- an item, and a FrameEnd, with another frame's id; a frame that does not end, before the next
ids_wrong :
    Nineteen (young (starts 5 ∷ item 6 ∷ ends 5 ∷ []))
    × Nineteen (young (starts 5 ∷ ends 6 ∷ []))
    × Nineteen (young (starts 5 ∷ pre 5 ∷ post 5 ∷ starts 6 ∷ ends 6 ∷ []))
unfolding opens_early opening_refusal opens_machine are_bytes have_bytes
ids_wrong = (
  (refl, no_replay (young (starts 5 ∷ item 6 ∷ ends 5 ∷ [])) (start_event block ∷ starts 5 ∷ item 6 ∷ ends 5 ∷ []) refl refl refl),
  (refl, no_replay (young (starts 5 ∷ ends 6 ∷ [])) (start_event block ∷ starts 5 ∷ ends 6 ∷ []) refl refl refl),
  (refl, no_replay (young (starts 5 ∷ pre 5 ∷ post 5 ∷ starts 6 ∷ ends 6 ∷ [])) (start_event block ∷ starts 5 ∷ pre 5 ∷ post 5 ∷ starts 6 ∷ ends 6 ∷ []) refl refl refl),
)
