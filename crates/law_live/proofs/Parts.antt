-- The file of a game is its head with the length, its frames and its end: of the definitions.
-- Assumes nothing.
use mathlib.Core.Path.{◌≡◌, refl, sym, ap, ◌∙◌}
use mathlib.Core.List.{List, ◌++◌, append_assoc}
use Prim.Native.Nat.{ℕ, ◌+◌, ◌≤◌}
use native.Mathlib.Omega.{arith}
use lib.ListN.{length, drop, length-append}
use Rattle.wire.specs.Wire.{be, splice}
use Rattle.wire.proofs.Laws.{splice_is, length_be}
use Rattle.format.specs.Event.{signature}
use Rattle.format.specs.File.{table_bytes, events_bytes, file_of}
use Rattle.format.specs.Mark.{yes}
use Rattle.format.proofs.Files.{events_append}
use Rattle.game.specs.Stores.{Stores}
use Rattle.game.specs.declared.Game.{Game}
use Rattle.ending.specs.End.{end_events}
use Rattle.ending.specs.Tail.{tail_of}
use Rattle.events.specs.Events.{frames_events}
use Rattle.ser.specs.Write.{entries, events, file}
use Rattle.append.specs.Run.{run_bytes}
use Rattle.append.proofs.Runs.{run_of_all}
use Rattle.live.specs.Head.{Opening, first_events, data_bytes, head_with}
use Rattle.live.specs.End.{ends_bytes, end_bytes}
use Rattle.law_live.specs.Recording.{opening_of, closing_of}

-- ---- the length field of a head, whatever follows it
module _ (o : Opening) where
  pub head_length_lem : (raw : ℕ) → length (head_with o raw) ≡ 15 + length (data_bytes o)
  unfolding head_with
  head_length_lem raw = simp (length-append, length_be) (omega arith)

  -- set anew
  pub head_filled : (x y : ℕ) (rest : List ℕ) → splice (head_with o x ++ rest) 11 (be 4 y) ≡ head_with o y ++ rest
  unfolding head_with splice be
  head_filled x y rest = refl

  -- and in an output that begins with it
  pub filled_in : (x y : ℕ) (rest out : List ℕ) → length (head_with o x ++ rest) ≤ length out
      → splice (splice out 0 (head_with o x ++ rest)) 11 (be 4 y) ≡ splice out 0 (head_with o y ++ rest)
  filled_in x y rest out h =
      let a = head_with o x ++ rest in
      let b = head_with o y ++ rest in
      let same : length a ≡ length b = simp length-append (ap (λ (n : ℕ). n + length rest) (head_length_lem x ∙ sym (head_length_lem y))) in
      let fits : 0 + length a ≤ length out = omega (arith, h) in
      let fits-too : 0 + length b ≤ length out = omega (arith, h, same) in
      ap (λ (l : List ℕ). splice l 11 (be 4 y)) (splice_is out 0 a fits ∙ append_assoc (head_with o x) rest (drop (0 + length a) out))
      ∙ head_filled x y (rest ++ drop (0 + length a) out)
      ∙ sym (append_assoc (head_with o y) rest (drop (0 + length a) out))
      ∙ ap (λ (n : ℕ). b ++ drop (0 + n) out) same
      ∙ sym (splice_is out 0 b fits-too)

-- ---- the file
module _ (g : Game) (s : Stores) where
  abbrev pub all_frames : List ℕ
  all_frames = run_bytes g.frames s.lent 0 g.frames.counts.frames

  -- how many bytes of event data: those of the head, of the frames and of the ends
  abbrev pub data_length : ℕ
  data_length = length (data_bytes (opening_of g s)) + (length all_frames + length (ends_bytes (closing_of g s)))

  pub data_is : table_bytes (entries g s) ++ events_bytes (events g s) ≡ data_bytes (opening_of g s) ++ (all_frames ++ ends_bytes (closing_of g s))
  unfolding data_bytes first_events ends_bytes events
  data_is =
      let ends = end_events g.frames.version g.end g.double_end in
      ap (λ (l : List ℕ). table_bytes (entries g s) ++ l)
      (events_append (first_events (opening_of g s)) (frames_events g.frames s.lent ++ ends)
      ∙ ap (λ (l : List ℕ). events_bytes (first_events (opening_of g s)) ++ l)
      (events_append (frames_events g.frames s.lent) ends ∙ ap (λ (l : List ℕ). l ++ events_bytes ends) (ap events_bytes (sym (run_of_all g.frames s.lent)))))
      ∙ sym (append_assoc (table_bytes (entries g s)) (events_bytes (first_events (opening_of g s))) (all_frames ++ events_bytes ends))

  pub length_is : length (table_bytes (entries g s) ++ events_bytes (events g s)) ≡ data_length
  length_is =
      ap length data_is
      ∙ length-append (data_bytes (opening_of g s)) (all_frames ++ ends_bytes (closing_of g s))
      ∙ ap (λ (n : ℕ). length (data_bytes (opening_of g s)) + n) (length-append all_frames (ends_bytes (closing_of g s)))

  -- so it is a head with that length, the frames, and an end
  pub file_is : file g s ≡ head_with (opening_of g s) data_length ++ (all_frames ++ end_bytes (closing_of g s))
  unfolding file file_of head_with end_bytes
  file_is =
      let tail = tail_of (yes g.metadata_given) s.metadata in
      let n = length (table_bytes (entries g s) ++ events_bytes (events g s)) in
      ap (λ (l : List ℕ). signature ++ (be 4 n ++ l))
      (sym (append_assoc (table_bytes (entries g s)) (events_bytes (events g s)) tail) ∙ ap (λ (l : List ℕ). l ++ tail) data_is)
      ∙ ap (λ (k : ℕ). signature ++ (be 4 k ++ ((data_bytes (opening_of g s) ++ (all_frames ++ ends_bytes (closing_of g s))) ++ tail))) length_is
      ∙ simp append_assoc
