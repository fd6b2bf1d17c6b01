-- Every written file, cut after any byte:
--
--   Cut that file after any byte: once the table is whole, the reader returns exactly the events after the table that lie wholly before
--   the cut, in order and unaltered, and the exact number of stray event bytes. It calls the event data whole exactly when all of it is
--   there. A cut before the table is whole is refused by name.
--
-- `Passed g s` says that refusals 1 to 10 do not apply to the game g with the stores s, and the maxima of codes and metadata (11 does not matter here);
-- `file g s` is the file that the definition gives it. Answered.antt states all this of what `write` answered and left.
-- Assumes nothing.
use mathlib.Core.Path.{◌≡◌}
use mathlib.Core.Bool.{true}
use mathlib.Core.List.{List, ◌++◌}
use Prim.Native.Nat.{ℕ, ◌+◌, ◌-◌, ◌≤◌, ◌<◌, min}
use lib.Dec.{leb}
use lib.ListN.{length, take}
use Rattle.format.specs.File.{Ev, table_bytes, events_bytes}
use Rattle.format.specs.Mark.{yes}
use Rattle.ending.specs.Tail.{tail_of}
use Rattle.head.specs.Table.{first_place}
use Rattle.head.specs.Step.{step_of}
use Rattle.de.specs.Walk.{walk_of}
use Rattle.de.specs.Cut.{wholly, events_read}
use Rattle.head.specs.declared.Step.TheVariants as step
use Rattle.de.specs.declared.Walked.TheVariants as walked
use Rattle.de.proofs.EveryCut as any
use Rattle.game.specs.declared.Game.{Game}
use Rattle.game.specs.Stores.{Stores}
use Rattle.ser.specs.Write.{entries, events, file}
use Rattle.ser.proofs.Outcomes.{Passed}
use Rattle.ser.proofs.Sound.{fresh, all_listed, length_fits}

module _ {g : Game} {s : Stores} (p : Passed g s) where
  abbrev tail : List ℕ
  tail = tail_of (yes g.metadata_given) s.metadata

  -- the file after whose first k bytes it is cut, the bytes of events before that cut, and the events wholly in them
  abbrev pub cut : ℕ → List ℕ
  cut k = take k (file g s)

  abbrev pub present : ℕ → ℕ
  present k = min (k - first_place (entries g s)) (length (events_bytes (events g s)))

  abbrev pub before : ℕ → List Ev
  before k = wholly (present k) (events g s)

  -- before the table is whole: refused, by the walk and by a step at any place
  pub under_15 : (k : ℕ) → k < 15 → (walk_of (cut k) ≡ walked.Refused 14 0) × ((place : ℕ) → step_of (cut k) place ≡ step.Refused 14 0)
  unfolding file
  under_15 k h = any.under_15 (entries g s) (events g s) tail (fresh p) (all_listed p) (length_fits p) k h

  pub in_table : (k : ℕ) → 15 ≤ k → k < first_place (entries g s)
      → (walk_of (cut k) ≡ walked.Refused 15 15) × ((place : ℕ) → step_of (cut k) place ≡ step.Refused 15 15)
  unfolding file
  in_table k h l = any.in_table (entries g s) (events g s) tail (fresh p) (all_listed p) (length_fits p) k h l

  -- once it is whole: exactly the events wholly before the cut, in order, their codes and payloads unaltered
  pub found : (k : ℕ) → first_place (entries g s) ≤ k → events_read (cut k) ≡ before k
  unfolding file
  found k h = any.events (entries g s) (events g s) tail (fresh p) (all_listed p) (length_fits p) k h

  -- their number, the bytes of events after them, whole exactly when all declared bytes are there, and the place after them
  pub walk : (k : ℕ) → first_place (entries g s) ≤ k
      → walk_of (cut k)
      ≡ walked.Done (length (before k)) (present k - length (events_bytes (before k))) (leb (15 + length (table_bytes (entries g s) ++ events_bytes (events g s))) k)
      (first_place (entries g s) + length (events_bytes (before k)))
  unfolding file
  walk k h = any.walk (entries g s) (events g s) tail (fresh p) (all_listed p) (length_fits p) k h

  -- uncut: all events of the game, none stray, and whole
  pub uncut : (events_read (file g s) ≡ events g s) × (walk_of (file g s) ≡ walked.Done (length (events g s)) 0 true (15 + length (table_bytes (entries g s) ++ events_bytes (events g s))))
  unfolding file
  uncut =
      (any.uncut_events (entries g s) (events g s) tail (fresh p) (all_listed p) (length_fits p), any.uncut_walk (entries g s) (events g s) tail (fresh p) (all_listed p) (length_fits p))
