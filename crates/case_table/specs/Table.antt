-- The twelve cases: what is asked of the definitions that the public contracts cite, and the numbers that they must give.
-- Assumes nothing.
use Rattle.std.specs.Prelude.{ℕ, List, [], ◌∷◌, ◌++◌, map, eqb, length, get_or, take, replicate}
use Rattle.wire.specs.Wire.{number, part, keep}
use Rattle.format.specs.Event.{code_of}
use Rattle.format.specs.File.{Entry, Ev}
use Rattle.format.specs.Version.{version}
use Rattle.format.specs.declared.event.Event.TheVariants.{GeckoCodes, MessageSplitter}
use Rattle.layout.specs.Columns.{chosen}
use Rattle.rollback.specs.Mask.{answer_of, mask_after}
use Rattle.rollback.specs.declared.frame.Rollbacks.{Rollbacks}
use Rattle.rollback.specs.declared.frame.Rollbacks.TheVariants.{ExceptFirst, ExceptLast}
use Rattle.head.specs.Table.{declared}
use Rattle.de.specs.Walk.{walk_of}
use Rattle.de.specs.Numbers.{WalkNumbers, walk_numbers}
use Rattle.game.specs.declared.Game.{Game}
use Rattle.game.specs.Stores.{Stores}
use Rattle.ser.specs.Write.{entries, events, file, refusal}
use Rattle.case_table.specs.Games.{game_of, block_alone, one_frame}

pub data Question : Type 0 where
  -- a game with its stores, written to an output of so many bytes
  writing : Game → Stores → ℕ → Question
  -- the codes in its file: the size in their entry of the payload table, and how many blocks they are
  coding : Game → Stores → Question
  -- the length that each of the blocks has, and its flag
  blocking : Game → Stores → Question
  -- its file, cut after so many bytes, and walked
  walking : Game → Stores → ℕ → Question
  -- the mask of frame ids, in a mask and a scratch of so many bytes, all 0
  masking : Rollbacks → List ℕ → ℕ → ℕ → Question

-- the refusal's number, 0 for none; of a file that is written, its length field and its length
abbrev pub numbers : ℕ → ℕ → ℕ → List ℕ
numbers k raw total = k ∷ keep (eqb k 0) (raw ∷ total ∷ [])

abbrev pub writes : Game → Stores → ℕ → List ℕ
writes g s room = numbers (refusal g s room) (declared (file g s)) (length (file g s))

-- the sizes in the entries of a code: none where the table does not list it
abbrev pub sizes_of : ℕ → List Entry → List ℕ
sizes_of code t = chosen (λ (e : Entry). eqb e.code code) (λ (e : Entry). e.size) t

-- the code blocks among the file's events
abbrev pub code_blocks_in : Game → Stores → List Ev
code_blocks_in g s = chosen (λ (e : Ev). eqb e.code (code_of MessageSplitter)) (λ (e : Ev). e) (events g s)

-- after a block's 512 bytes stand its length in two bytes, a code, and its flag
abbrev pub length_in : Ev → ℕ
length_in e = number (part e.payload 512 2)

abbrev pub flag_in : Ev → ℕ
flag_in e = get_or e.payload 515 0

-- the refusal's number and offset; events, stray bytes, 1 if the event data is whole, and the place where the walk stopped
abbrev pub listed : WalkNumbers → List ℕ
listed w = w.number ∷ w.offset ∷ w.events ∷ w.stray ∷ w.whole ∷ w.place ∷ []

-- the refusal's number, 0 for none; then the mask as it is afterwards
abbrev pub masks : Rollbacks → List ℕ → ℕ → ℕ → List ℕ
masks kept ids m n = (answer_of ids m n).number ∷ mask_after (answer_of ids m n) kept ids (replicate m 0)

abbrev pub answer : Question → List ℕ
answer (writing g s room) = writes g s room
answer (coding g s) = sizes_of (code_of GeckoCodes) (entries g s) ++ (length (code_blocks_in g s) ∷ [])
answer (blocking g s) = map length_in (code_blocks_in g s) ++ map flag_in (code_blocks_in g s)
answer (walking g s n) = listed (walk_numbers (walk_of (take n (file g s))))
answer (masking kept ids m n) = masks kept ids m n

-- a case's number, what is asked, and the numbers of its answer
pub record Case : Type 0 where
  pub case : ℕ
  pub asked : Question
  pub expected : List ℕ

abbrev pub row : ℕ → Question → List ℕ → Case
row n q xs = record { case = n; asked = q; expected = xs }

-- 0.1.0 and nothing else
abbrev pub least : Game
least = game_of (version 0 1 0) 0 0 0 0 0

-- 3.18.0 with one frame, one leader and an end; and with codes of this actual size
abbrev pub short : Game
short = game_of (version 3 18 0) 1 1 1 0 0

abbrev pub coded : ℕ → Game
coded actual = game_of (version 3 18 0) 1 1 1 1 actual

-- -123 -122 -122 -121, as their bits
abbrev pub four_ids : List ℕ
four_ids = 0xffff_ff85 ∷ 0xffff_ff86 ∷ 0xffff_ff86 ∷ 0xffff_ff87 ∷ []

unfoldable pub cases : List Case
cases =
    row 1 (writing least (block_alone (replicate 320 0)) 351) (0 ∷ 335 ∷ 351 ∷ [])
    ∷ row 2 (walking least (block_alone (replicate 320 0)) 28) (15 ∷ 15 ∷ 0 ∷ 0 ∷ 0 ∷ 0 ∷ [])
    ∷ row 3 (walking least (block_alone (replicate 320 0)) 29) (0 ∷ 0 ∷ 0 ∷ 0 ∷ 0 ∷ 29 ∷ [])
    ∷ row 4 (walking least (block_alone (replicate 320 0)) 349) (0 ∷ 0 ∷ 0 ∷ 320 ∷ 0 ∷ 29 ∷ [])
    ∷ row 5 (walking least (block_alone (replicate 320 0)) 350) (0 ∷ 0 ∷ 1 ∷ 0 ∷ 1 ∷ 350 ∷ [])
    ∷ row 6 (writing short (one_frame []) 990) (0 ∷ 974 ∷ 990 ∷ [])
    ∷ row 7 (writing (coded 513) (one_frame (replicate 1024 0)) 2030) (0 ∷ 2014 ∷ 2030 ∷ [])
    ∷ row 7 (blocking (coded 513) (one_frame (replicate 1024 0))) (512 ∷ 1 ∷ 0 ∷ 1 ∷ [])
    ∷ row 8 (writing (coded 512) (one_frame (replicate 512 0)) 1513) (0 ∷ 1497 ∷ 1513 ∷ [])
    ∷ row 8 (blocking (coded 512) (one_frame (replicate 512 0))) (512 ∷ 1 ∷ [])
    ∷ row 9 (writing (coded 65536) (one_frame (replicate 65536 0)) 67172) (0 ∷ 67156 ∷ 67172 ∷ [])
    ∷ row 9 (coding (coded 65536) (one_frame (replicate 65536 0))) (0 ∷ 128 ∷ [])
    ∷ row 10 (masking ExceptFirst four_ids 4 3) (0 ∷ 0 ∷ 0 ∷ 1 ∷ 0 ∷ [])
    ∷ row 10 (masking ExceptLast four_ids 4 3) (0 ∷ 0 ∷ 1 ∷ 0 ∷ 0 ∷ [])
    ∷ row 11 (writing (game_of (version 3 18 0) 1 1 1 0 0) (one_frame []) 990) (0 ∷ 974 ∷ 990 ∷ [])
    ∷ row 11 (writing (game_of (version 3 18 1) 1 1 1 0 0) (one_frame []) 990) (1 ∷ [])
    ∷ row 12 (writing least (block_alone (replicate 319 0)) 351) (8 ∷ [])
    ∷ []

-- row i of the table, counted from 0
abbrev pub no_case : Case
no_case = row 0 (masking ExceptFirst [] 0 0) []

abbrev pub case_at : ℕ → Case
case_at i = get_or cases i no_case

abbrev pub expected_at : ℕ → List ℕ
expected_at i = (case_at i).expected
