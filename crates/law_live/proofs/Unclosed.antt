-- A recording that is not closed: what stands in it is the file with its length zeroed, cut, and so it is read.
-- Assumes nothing.
use mathlib.Core.Path.{◌≡◌, sym, ap, ◌∙◌}
use mathlib.Core.List.{List, [], ◌∷◌, ◌++◌, append_assoc}
use Prim.Native.Nat.{ℕ, ◌+◌, ◌≤◌}
use native.Mathlib.Omega.{arith}
use lib.ListN.{length, take, length-append}
use lib.Seq.{take-append-le}
use Rattle.wire.specs.Wire.{be, splice}
use Rattle.game.specs.Stores.{Stores}
use Rattle.game.specs.declared.Game.{Game}
use Rattle.head.specs.Table.{first_place}
use Rattle.de.specs.Walk.{walk_of}
use Rattle.de.specs.Cut.{events_read, zeroed, called_cut}
use Rattle.ser.specs.Write.{entries, file}
use Rattle.ser.proofs.Outcomes.{Passed}
use Rattle.ser.proofs.Unfilled as unfilled
use Rattle.append.specs.Run.{run_bytes}
use Rattle.append.proofs.Runs.{run_split}
use Rattle.live.specs.Head.{head_bytes}
use Rattle.live.specs.End.{end_bytes}
use Rattle.law_live.specs.Recording.{opening_of, closing_of}
use Rattle.law_live.proofs.Parts.{head_length_lem, head_filled, all_frames, data_length, length_is, file_is}

module _ (g : Game) (s : Stores) where
  -- all but the length: what stands there once the end is written
  abbrev pub unclosed : List ℕ
  unclosed = head_bytes (opening_of g s) ++ (all_frames g s ++ end_bytes (closing_of g s))

  -- the head and the first k frames
  abbrev pub so_far : ℕ → List ℕ
  so_far k = head_bytes (opening_of g s) ++ run_bytes g.frames s.lent 0 k

  pub zeroed_is : zeroed (file g s) ≡ unclosed
  unfolding zeroed be
  zeroed_is = ap (λ (l : List ℕ). splice l 11 (0 ∷ 0 ∷ 0 ∷ 0 ∷ [])) (file_is g s) ∙ head_filled (opening_of g s) (data_length g s) 0 (all_frames g s ++ end_bytes (closing_of g s))

  -- a cut of what was recorded so far is a cut of that
  pub cut_is : (k : ℕ) → k ≤ g.frames.counts.frames → (j : ℕ) → j ≤ length (so_far k) → take j (so_far k) ≡ take j (zeroed (file g s))
  cut_is k h j l =
      let first = run_bytes g.frames s.lent 0 k in
      let rest = run_bytes g.frames s.lent k g.frames.counts.frames in
      let head = head_bytes (opening_of g s) in
      let end = end_bytes (closing_of g s) in
      sym (take-append-le j (so_far k) (rest ++ end) l)
      ∙ ap (take j) (append_assoc head first (rest ++ end) ∙ ap (λ (x : List ℕ). head ++ x) (sym (append_assoc first rest end) ∙ ap (λ (x : List ℕ). x ++ end) (sym (run_split g.frames s.lent 0 k g.frames.counts.frames (omega arith) h))))
      ∙ ap (take j) (sym zeroed_is)

  -- it ends within the event data
  within : (k : ℕ) → k ≤ g.frames.counts.frames → length (so_far k) ≤ 15 + data_length g s
  within k h =
      let all = ap length (run_split g.frames s.lent 0 k g.frames.counts.frames (omega arith) h) ∙ length-append (run_bytes g.frames s.lent 0 k) (run_bytes g.frames s.lent k g.frames.counts.frames) in
      omega (arith, all, head_length_lem (opening_of g s) 0, length-append (head_bytes (opening_of g s)) (run_bytes g.frames s.lent 0 k))

module _ {g : Game} {s : Stores} (p : Passed g s) where
  -- cut anywhere from the table's end on: the events of the same cut of the file, and its answer, cut
  pub found : (k : ℕ) → k ≤ g.frames.counts.frames → (j : ℕ) → first_place (entries g s) ≤ j → j ≤ length (so_far g s k)
      → events_read (take j (so_far g s k)) ≡ events_read (take j (file g s))
  found k h j a b = ap events_read (cut_is g s k h j b) ∙ unfilled.found p j a (omega (arith, b, within g s k h, length_is g s))

  pub walk : (k : ℕ) → k ≤ g.frames.counts.frames → (j : ℕ) → first_place (entries g s) ≤ j → j ≤ length (so_far g s k)
      → walk_of (take j (so_far g s k)) ≡ called_cut (walk_of (take j (file g s)))
  walk k h j a b = ap walk_of (cut_is g s k h j b) ∙ unfilled.walk p j a (omega (arith, b, within g s k h, length_is g s))

  -- the ends too, as far as the tail's first byte
  pub ends_walk : (j : ℕ) → first_place (entries g s) ≤ j → j ≤ 15 + data_length g s
      → (events_read (take j (unclosed g s)) ≡ events_read (take j (file g s))) × (walk_of (take j (unclosed g s)) ≡ called_cut (walk_of (take j (file g s))))
  ends_walk j a b =
      let inside : j ≤ unfilled.end p = omega (arith, b, length_is g s) in
      (ap (λ (l : List ℕ). events_read (take j l)) (sym (zeroed_is g s)) ∙ unfilled.found p j a inside, ap (λ (l : List ℕ). walk_of (take j l)) (sym (zeroed_is g s)) ∙ unfilled.walk p j a inside)
