-- The replay file of a game, and when it is refused.
-- Assumes nothing.
use Rattle.std.specs.Prelude.{ℕ, zero, suc, ◌≡◌, cond, List, [], ◌∷◌, ◌++◌, ltb, length, Result, Ok, Err}
use Rattle.wire.specs.Wire.{splice}
use Rattle.format.specs.Event.{code_of}
use Rattle.format.specs.File.{Entry, Ev, file_of}
use Rattle.format.specs.Refusal.{Refusal, refuse, lowest}
use Rattle.format.specs.Refused.{number_of}
use Rattle.format.specs.declared.refusal.Refusal as code
use Rattle.format.specs.declared.event.Event.TheVariants.{GameStart}
use Rattle.layout.specs.Payloads.{entries_of}
use Rattle.game.specs.Stores.{Stores}
use Rattle.frames.specs.Judge.{refusals}
use Rattle.format.specs.Mark.{yes}
use Rattle.start.specs.Refusal.{block_wrong, bad_start}
use Rattle.start.specs.Block.{start_block}
use Rattle.events.specs.Events.{frames_events}
use Rattle.codes.specs.Blocks.{code_events, codes_wrong}
use Rattle.ending.specs.End.{end_events, end_wrong}
use Rattle.ending.specs.Tail.{tail_of}
use Rattle.game.specs.declared.Game.{Game}

-- bytes that are given; those without their mark are ignored
abbrev pub given_bytes : ℕ → List ℕ → ℕ
given_bytes mark bytes = cond (yes mark) (length bytes) 0

-- ---- the file

abbrev pub entries : Game → Stores → List Entry
entries g s = entries_of g.frames.version (length s.template) (yes g.codes_given) g.actual_size

abbrev pub game_start_event : Game → Stores → Ev
game_start_event g s = record { code = code_of GameStart; payload = start_block g.frames.version g.start s.template }

unfoldable pub events : Game → Stores → List Ev
events g s =
    game_start_event g s
    ∷ (code_events (yes g.codes_given) s.codes g.actual_size
    ++ (frames_events g.frames s.lent ++ end_events g.frames.version g.end g.double_end))

unfoldable pub file : Game → Stores → List ℕ
file g s = file_of (entries g s) (events g s) (tail_of (yes g.metadata_given) s.metadata)

-- ---- the refusals, in their order: the first eleven, and an output that is too short

unfoldable pub judged : Game → Stores → List Refusal
judged g s =
    refusals g.frames s.lent (given_bytes g.codes_given s.codes) (given_bytes g.metadata_given s.metadata)
    ++ (refuse 8 (block_wrong g.frames.version (length s.template))
    ∷ refuse 9 (bad_start g.frames.version g.start)
    ∷ refuse 10 (codes_wrong g.frames.version (yes g.codes_given) s.codes g.actual_size)
    ∷ refuse 11 (end_wrong g.frames.version g.end g.double_end)
    ∷ [])

unfoldable pub refusal : Game → Stores → ℕ → ℕ
refusal g s room = lowest (judged g s ++ (refuse 12 (ltb room (length (file g s))) ∷ []))

-- ---- what the call answers, and what the output is afterwards

-- an answer in numbers: 0 for a file, 1 for a refusal; the refusal's number; the file's length
pub record WrittenNumbers : Type 0 where
  pub kind : ℕ
  pub number : ℕ
  pub len : ℕ

-- of a refusal's number, 0 where none applies, and the file's length
abbrev pub write_numbers : ℕ → ℕ → WrittenNumbers
write_numbers zero n = record { kind = 0; number = 0; len = n }
write_numbers (suc k) n = record { kind = 1; number = suc k; len = 0 }

-- of what the call answers
abbrev pub written_numbers : Result ℕ code.Refusal → WrittenNumbers
written_numbers (Ok n) = record { kind = 0; number = 0; len = n }
written_numbers (Err r) = record { kind = 1; number = number_of r; len = 0 }

-- the output: the file at its start and the rest as it was, or all as it was
abbrev pub left : ℕ → List ℕ → List ℕ → List ℕ
left zero out file = splice out 0 file
left (suc k) out file = out

pub record WriterOutcome (g : Game) (s : Stores) (out : List ℕ) (r : Result ℕ code.Refusal) (out' : List ℕ) : Type 0 where
  pub answer_is : written_numbers r ≡ write_numbers (refusal g s (length out)) (length (file g s))
  pub out_is : out' ≡ left (refusal g s (length out)) out (file g s)
