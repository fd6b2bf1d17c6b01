-- The file of a game: its parts, and the length field.
-- Assumes nothing.
use mathlib.Core.Path.{◌≡◌, ap, ap₂, ◌∙◌}
use mathlib.Core.Bool.{true}
use mathlib.Core.List.{List, ◌++◌, append_assoc}
use Prim.Native.Nat.{ℕ, ◌+◌, ◌*◌}
use native.Mathlib.Omega.{arith}
use lib.ListN.{length, length-append}
use Rattle.wire.specs.Wire.{be}
use Rattle.format.specs.Event.{signature}
use Rattle.format.specs.File.{table_bytes, event_bytes, events_bytes, file_of}
use Rattle.format.specs.Mark.{yes}
use Rattle.format.proofs.Files.{events_cons, events_append}
use Rattle.game.specs.Stores.{Lent, Stores}
use Rattle.frames.specs.Inner.{Accepted}
use Rattle.game.specs.declared.frames.Frames.{Frames}
use Rattle.start.specs.Block.{start_block}
use Rattle.start.proofs.Blocks.{length_start_block}
use Rattle.codes.specs.Blocks.{block_count, code_events}
use Rattle.ending.specs.End.{end_events}
use Rattle.ending.specs.Tail.{tail_of}
use Rattle.codes.proofs.Lengths.{length_codes}
use Rattle.ending.proofs.Lengths.{length_ends}
use Rattle.events.specs.Events.{frames_events}
use Rattle.events.specs.Inner.{Framed}
use Rattle.events.proofs.Lengths.{length_frames}
use Rattle.game.specs.declared.Game.{Game}
use Rattle.ser.specs.Write.{entries, game_start_event, events, file}
use Rattle.ser.specs.Length.{raw_length}
use Rattle.ser.specs.Inner.{front_bytes, rest_bytes}

-- ---- what the frames' writer needs, of an accepted input

pub framed : {f : Frames} {s : Lent} → Accepted f s → Framed f s
framed a = record {
  modest = a.modest;
  ids = a.ids;
  stores = λ family. (a.stores family).size;
  items = a.items.has;
  fods = a.fods.has;
  whispys = a.whispys.has;
  stadiums = a.stadiums.has;
}

module _ (g : Game) (s : Stores) where
  abbrev parts : List ℕ
  parts =
      events_bytes (code_events (yes g.codes_given) s.codes g.actual_size)
      ++ (events_bytes (frames_events g.frames s.lent) ++ events_bytes (end_events g.frames.version g.end g.double_end))

  events_parts : events_bytes (events g s) ≡ event_bytes (game_start_event g s) ++ parts
  unfolding events
  events_parts =
      events_cons (game_start_event g s) _
      ∙ ap (λ (l : List ℕ). event_bytes (game_start_event g s) ++ l) (events_append _ _ ∙ ap (λ (l : List ℕ). events_bytes (code_events (yes g.codes_given) s.codes g.actual_size) ++ l) (events_append _ _))

  start_size : length (event_bytes (game_start_event g s)) ≡ 1 + length s.template
  start_size = let e = length_start_block g.frames.version g.start s.template in omega arith

  -- the start block's part in it is the template's length, whatever the fields
  pub length_events : length (events_bytes (events g s)) ≡ 1 + length s.template + length parts
  length_events = ap length events_parts ∙ length-append (event_bytes (game_start_event g s)) parts ∙ ap (λ (n : ℕ). n + length parts) start_size

  -- the bytes from the table through the last event, by counts
  pub length_raw : (yes g.codes_given ≡ true → length s.codes ≡ 512 * block_count g.actual_size) → Framed g.frames s.lent
      → length (table_bytes (entries g s) ++ events_bytes (events g s)) ≡ raw_length g s.lent.presence (length s.template)
  unfolding raw_length
  length_raw whole f =
      length-append (table_bytes (entries g s)) (events_bytes (events g s))
      ∙ ap (λ (n : ℕ). length (table_bytes (entries g s)) + n)
      (ap length events_parts
      ∙ length-append (event_bytes (game_start_event g s)) parts
      ∙ ap₂ ◌+◌ start_size
      (length-append (events_bytes (code_events (yes g.codes_given) s.codes g.actual_size)) _
      ∙ ap₂ ◌+◌ (length_codes (yes g.codes_given) s.codes g.actual_size whole)
      (length-append (events_bytes (frames_events g.frames s.lent)) _
      ∙ ap₂ ◌+◌ (length_frames g.frames s.lent f) (length_ends g.frames.version g.end g.double_end))))

  -- what stands before the start block, the block, and what stands after it
  abbrev pub in_parts : ℕ → List ℕ
  in_parts raw =
      front_bytes g.frames.version g.codes_given g.actual_size (length s.template) raw
      ++ (start_block g.frames.version g.start s.template ++ rest_bytes g s.lent s.codes s.metadata)

  -- the file is these parts, with that length
  pub file_parts : file g s ≡ in_parts (length (table_bytes (entries g s) ++ events_bytes (events g s)))
  unfolding file file_of front_bytes rest_bytes
  file_parts =
      let tail = tail_of (yes g.metadata_given) s.metadata in
      let n = length (table_bytes (entries g s) ++ events_bytes (events g s)) in
      ap (λ (l : List ℕ). signature ++ (be 4 n ++ (table_bytes (entries g s) ++ (l ++ tail)))) events_parts ∙ simp append_assoc
