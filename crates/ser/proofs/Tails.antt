-- The two ways of the match id's tail, of every game: the files have one length and differ in no byte outside the tail, by position; cleared, every byte of the tail
-- is zero; and what is refused does not depend on the way. The tail is what stands after the id's zero, through byte 751 of the start block.
-- Assumes nothing.
use mathlib.Core.Path.{◌≡◌, refl, sym, ap, ap₂, ◌∙◌}
use mathlib.Core.Bool.{true}
use mathlib.Core.List.{List, [], ◌∷◌, ◌++◌}
use Prim.Native.Nat.{ℕ, ◌+◌, ◌-◌, ◌≤◌, ◌<◌}
use native.Mathlib.Omega.{arith}
use lib.Dec.{ltb}
use lib.ListN.{length, get_or, replicate, length-append}
use Rattle.wire.specs.Wire.{part}
use Rattle.format.specs.File.{table_bytes, events_bytes}
use Rattle.format.specs.Refusal.{Refusal, refuse, lowest}
use Rattle.start.specs.Gate.{reaches, match_from}
use Rattle.start.specs.Refusal.{bad_start}
use Rattle.start.specs.Block.{start_block}
use Rattle.start.proofs.Blocks.{length_start_block}
use Rattle.start.proofs.Lengths.{long_enough}
use Rattle.start.proofs.Refusals.{short_text, good_start}
use Rattle.start.proofs.Tails as tails
use Rattle.patch.proofs.Positions.{inside_same}
use Rattle.game.specs.Stores.{Stores}
use Rattle.game.specs.declared.Game.{Game}
use Rattle.ser.specs.Write.{entries, events, file, judged, refusal}
use Rattle.ser.specs.Inner.{rest_bytes}
use Rattle.ser.proofs.Files.{in_parts, file_parts, length_events}
use Rattle.ser.proofs.Outcomes.{Passed}
use Rattle.ser.proofs.Viewed.{block_place, front, rest, length_front, in_file}

-- the same game, asked for with another tail
abbrev pub tailed : ℕ → Game → Game
tailed k g = record {
  frames = g.frames;
  start = tails.tailed k g.start;
  end = g.end;
  double_end = g.double_end;
  codes_given = g.codes_given;
  metadata_given = g.metadata_given;
  actual_size = g.actual_size;
}

-- the length of a game's match id
abbrev pub id_len : Game → ℕ
id_len g = g.start.match_info.id.len

module _ (g : Game) (s : Stores) (k : ℕ) where
  -- index i of the file is one of the tail's
  abbrev pub InTail : ℕ → Type 0
  InTail i = (reaches g.frames.version match_from ≡ true) × (block_place g s + (702 + id_len g) ≤ i) × (i < block_place g s + 752)

  same_blocks : length (start_block g.frames.version g.start s.template) ≡ length (start_block g.frames.version (tails.tailed k g.start) s.template)
  same_blocks = length_start_block _ g.start s.template ∙ sym (length_start_block _ (tails.tailed k g.start) s.template)

  same_raw : length (table_bytes (entries g s) ++ events_bytes (events (tailed k g) s)) ≡ length (table_bytes (entries g s) ++ events_bytes (events g s))
  same_raw =
      length-append (table_bytes (entries g s)) _
      ∙ ap (λ (n : ℕ). length (table_bytes (entries g s)) + n) (length_events (tailed k g) s ∙ sym (length_events g s))
      ∙ sym (length-append (table_bytes (entries g s)) _)

  abbrev block : List ℕ
  block = start_block g.frames.version g.start s.template

  abbrev other : List ℕ
  other = start_block g.frames.version (tails.tailed k g.start) s.template

  other_parts : file (tailed k g) s ≡ front g s ++ (other ++ rest g s)
  unfolding rest_bytes
  other_parts = file_parts (tailed k g) s ∙ ap (in_parts (tailed k g) s) same_raw

  -- one length
  pub same_length : length (file (tailed k g) s) ≡ length (file g s)
  same_length =
      ap length other_parts ∙ length-append (front g s) _
      ∙ ap (λ (n : ℕ). length (front g s) + n) (length-append other (rest g s) ∙ ap (λ (n : ℕ). n + length (rest g s)) (sym same_blocks) ∙ sym (length-append block (rest g s)))
      ∙ sym (length-append (front g s) _) ∙ sym (ap length (file_parts g s))

  -- no byte outside the tail differs
  pub same_outside : (i : ℕ) → (InTail i → ⊥) → get_or (file (tailed k g) s) i 0 ≡ get_or (file g s) i 0
  same_outside i h =
      ap (λ (l : List ℕ). get_or l i 0) other_parts
      ∙ inside_same (front g s) other block (rest g s) i (sym same_blocks) (λ j e.
      tails.same_outside g.frames.version g.start k s.template j (λ on a b.
      h (on, omega (arith, length_front g s), omega (arith, length_front g s))))
      ∙ sym (ap (λ (l : List ℕ). get_or l i 0) (file_parts g s))

  same_judged : judged (tailed k g) s ≡ judged g s
  unfolding judged bad_start
  same_judged = refl

  -- the way plays no part in what is refused
  pub same_refusal : (room : ℕ) → refusal (tailed k g) s room ≡ refusal g s room
  unfolding refusal
  same_refusal room = ap₂ (λ (rs : List Refusal) (n : ℕ). lowest (rs ++ (refuse 12 (ltb room n) ∷ []))) same_judged same_length

-- cleared, every byte of the tail is zero
module _ {g : Game} {s : Stores} (p : Passed g s) (on : reaches g.frames.version match_from ≡ true) (cleared : g.start.match_info.tail ≡ 0) where
  short : id_len g ≤ 50
  short = short_text g.frames.version match_from 50 g.start.match_info.id (good_start g.frames.version g.start p.start).1 on

  pub tail_cleared : part (file g s) (block_place g s + (702 + id_len g)) (50 - id_len g) ≡ replicate (50 - id_len g) 0
  tail_cleared = in_file p (omega (arith, short, long_enough g.frames.version 0 on)) (tails.fills_tail g.frames.version g.start on short cleared)
