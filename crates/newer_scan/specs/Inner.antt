-- What functions promise each other: one event by the bytes at its place.
-- Assumes nothing.
use Rattle.std.specs.Prelude.{ℕ, ◌≡◌, Bool, true, false, cond, ◌&&◌, List, leb}
use Rattle.std.proofs.Math.Option.{none, some}
use Rattle.format.specs.declared.version.Version.{Version}
use Rattle.layout.specs.declared.columns.Family.{Family}
use Rattle.layout.specs.declared.columns.Family.TheVariants.{Pre}
use Rattle.grammar.specs.WellFormed.{ascending}
use Rattle.grammar.specs.Machine.{family_of, player, closed, orderly, after}
use Rattle.known.specs.Known.{is_known}
use Rattle.read_order.specs.Inner.{said_of}
use Rattle.read_order.specs.declared.stage.Word.{Word}
use Rattle.read_scan.specs.Counts.{counted_of}
use Rattle.read_scan.specs.Inner.{said_at, span_in}
use Rattle.read_scan.specs.declared.tally.Tally.{Tally}
use Rattle.read_scan.specs.declared.Ran.{Ran}
use Rattle.read_scan.specs.declared.Ran.TheVariants.{Ended, Wrong}
use Rattle.newer_order.specs.Inner.{newest, state_of, Fair}
use Rattle.newer_order.specs.declared.stage.Stage.{Stage}
use Rattle.newer_scan.specs.declared.event.Turn.{Turn}
use Rattle.newer_scan.specs.declared.event.Turn.TheVariants.{Passes, Goes, Ends, Refused}

-- a Pre is counted only of a player
abbrev pub may_count : Family → Word → Type 0
may_count family w = family ≡ Pre → player (said_of w) ≡ true

abbrev pub counted_in : Tally → Stage → Family → Word → Tally
counted_in t m family w = counted_of t m.rank m.id family (said_of w)

-- an event of n bytes at a place has all that its family's records have, and is in order
unfoldable pub takes_at : Version → List ℕ → Stage → ℕ → ℕ → Family → Bool
takes_at v file m at n family = leb (span_in v family) n && orderly newest ascending (state_of m) family (said_at file at)

-- it was taken
pub record Gone (v : Version) (file : List ℕ) (m : Stage) (t : Tally) (at n code : ℕ) (stage : Stage) (counts : Tally) : Type 0 where
  pub family : Family
  pub family_is : family_of code ≡ some family
  pub takes : takes_at v file m at n family ≡ true
  pub state_is : state_of stage ≡ after (state_of m) family (said_at file at)
  pub fair : Fair stage
  pub counts_are : counts ≡ counted_of t m.rank m.id family (said_at file at)

-- it is wrong
pub record Fails (v : Version) (file : List ℕ) (m : Stage) (at n code : ℕ) : Type 0 where
  pub family : Family
  pub family_is : family_of code ≡ some family
  pub fails : takes_at v file m at n family ≡ false

abbrev pub Turned : Version → List ℕ → Stage → Tally → ℕ → ℕ → ℕ → Turn → Type 0
Turned v file m t at n code Passes = (family_of code ≡ none) × (is_known code ≡ false)
Turned v file m t at n code (Goes stage counts) = Gone v file m t at n code stage counts
Turned v file m t at n code Ends = (family_of code ≡ none) × (is_known code ≡ true)
Turned v file m t at n code Refused = Fails v file m at n code

-- the frames end at a place where a frame may
abbrev pub ended_at : Stage → ℕ → Tally → Ran
ended_at m at t = cond (closed newest (state_of m)) (Ended at t) Wrong
