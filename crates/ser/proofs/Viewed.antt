-- What a viewer reads in every written file:
--
--   What a viewer reads up to the first zero, or to the field's end, is the text given.
--
-- The start block is the payload of the first event, so it stands one byte after the table's end. `Passed g s` says that refusals 1 to 10 do not apply;
-- the arrays have the lengths that their types say: four seats, 50 bytes a text.
-- Assumes nothing.
use mathlib.Core.Path.{◌≡◌}
use mathlib.Core.Bool.{true}
use mathlib.Core.List.{List, ◌++◌}
use Prim.Native.Nat.{ℕ, ◌+◌, ◌≤◌, ◌<◌}
use native.Mathlib.Omega.{arith}
use lib.ListN.{length, take, get_or, length-append}
use Rattle.wire.specs.Wire.{be, part}
use Rattle.wire.proofs.Laws.{length_be}
use Rattle.format.specs.File.{table_bytes, events_bytes}
use Rattle.format.specs.Mark.{yes}
use Rattle.format.proofs.Files.{length_table}
use Rattle.head.specs.Table.{first_place}
use Rattle.patch.specs.Field.{text, read_at}
use Rattle.game.specs.Zero.{no_seat}
use Rattle.game.specs.Stores.{Stores}
use Rattle.game.specs.declared.Game.{Game}
use Rattle.patch.proofs.Positions.{Fills}
use Rattle.start.specs.Block.{fields}
use Rattle.start.specs.Gate.{reaches, match_from}
use Rattle.start.specs.Length.{length_of}
use Rattle.start.proofs.Refusals.{block_fits}
use Rattle.start.proofs.Views as views
use Rattle.std.specs.Prelude.{Ok}
use Rattle.ser.specs.Write.{entries, events, file, WriterOutcome}
use Rattle.ser.specs.Inner.{front_bytes, rest_bytes}
use Rattle.ser.proofs.Files.{file_parts}
use Rattle.ser.proofs.Outcomes.{Passed}
use Rattle.ser.proofs.Answered.{accepted, written_file}

-- where the start block stands
abbrev pub block_place : Game → Stores → ℕ
block_place g s = first_place (entries g s) + 1

module _ (g : Game) (s : Stores) where
  abbrev pub front : List ℕ
  front = front_bytes g.frames.version g.codes_given g.actual_size (length s.template) (length (table_bytes (entries g s) ++ events_bytes (events g s)))

  abbrev pub rest : List ℕ
  rest = rest_bytes g s.lent s.codes s.metadata

  pub length_front : length front ≡ block_place g s
  unfolding front_bytes
  length_front = simp (length-append, length_be, length_table) (omega arith)

module _ {g : Game} {s : Stores} (p : Passed g s) where
  long : length_of g.frames.version ≤ length s.template
  long = (block_fits g.frames.version (length s.template) p.block).0

  -- a field that the block's patches fill
  pub in_file : {at w : ℕ} {bytes : List ℕ} → at + w ≤ length_of g.frames.version → Fills (length_of g.frames.version) at w bytes (fields g.frames.version g.start)
      → part (file g s) (block_place g s + at) w ≡ bytes
  in_file h f = rw (file_parts g s, ← length_front g s) (views.in_block g.frames.version g.start s.template (front g s) (rest g s) long p.start h f)

  -- the texts of each player who is there
  pub texts_read : length g.start.seats ≡ 4 → (n : ℕ) → n < 4 → yes (get_or g.start.seats n no_seat).given ≡ true
      → views.Arrays (get_or g.start.seats n no_seat)
      → views.Read g.frames.version (file g s) (block_place g s) n (get_or g.start.seats n no_seat)
  texts_read four n l given arrays =
      rw (file_parts g s, ← length_front g s) (views.texts_read g.frames.version g.start s.template (front g s) (rest g s) long p.start four n l given arrays)

  -- the match id
  pub match_id_read : reaches g.frames.version match_from ≡ true → length g.start.match_info.id.bytes ≡ 50
      → read_at (file g s) (block_place g s + 701) 51 ≡ text g.start.match_info.id
  match_id_read on array =
      rw (file_parts g s, ← length_front g s) (views.match_id_read g.frames.version g.start s.template (front g s) (rest g s) long p.start on array)

-- the same of what `write` answered and left
module _ {g : Game} {s : Stores} {out out' : List ℕ} {n : ℕ} (o : WriterOutcome g s out (Ok n) out') where
  pub written_texts : length g.start.seats ≡ 4 → (k : ℕ) → k < 4 → yes (get_or g.start.seats k no_seat).given ≡ true
      → views.Arrays (get_or g.start.seats k no_seat)
      → views.Read g.frames.version (take n out') (block_place g s) k (get_or g.start.seats k no_seat)
  written_texts four k l given arrays = rw (written_file o) (texts_read (accepted o) four k l given arrays)

  pub written_match_id : reaches g.frames.version match_from ≡ true → length g.start.match_info.id.bytes ≡ 50
      → read_at (take n out') (block_place g s + 701) 51 ≡ text g.start.match_info.id
  written_match_id on array = rw (written_file o) (match_id_read (accepted o) on array)
