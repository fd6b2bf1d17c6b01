-- What functions promise each other: the machine over the bytes of a file, in the order in which code goes, a place and a state at a time.
-- Assumes nothing.
use Rattle.std.specs.Prelude.{ℕ, zero, suc, ◌+◌, ◌^◌, ◌≤◌, ◌<◌, ◌≡◌, Bool, true, false, cond, ◌&&◌, List, [], ◌∷◌, leb, eqb, length, get_or}
use Rattle.std.proofs.Math.Option.{Option, none, some}
use Rattle.wire.specs.Wire.{number, part}
use Rattle.format.specs.declared.version.Version.{Version}
use Rattle.layout.specs.Columns.{has_family}
use Rattle.layout.specs.Payloads.{record_size}
use Rattle.layout.specs.declared.columns.Family.{Family}
use Rattle.layout.specs.declared.columns.Family.TheVariants.{Pre, Post, FrameStart, Item, FrameEnd, FodPlatform, DreamlandWhispy, StadiumTransformation}
use Rattle.grammar.specs.WellFormed.{Order}
use Rattle.grammar.specs.Machine.{family_of, Said, State, player, closed, orderly, after, on_family}
use Rattle.read_order.specs.Inner.{said_of, state_in, closed_at, Held}
use Rattle.read_order.specs.declared.stage.Stage.{Stage}
use Rattle.read_order.specs.declared.stage.Word.{Word}
use Rattle.read_scan.specs.Counts.{counted_of}
use Rattle.read_scan.specs.declared.event.Kind.{Kind}
use Rattle.read_scan.specs.declared.event.Kind.TheVariants.{Frame, Other}
use Rattle.read_scan.specs.declared.event.Turn.{Turn}
use Rattle.read_scan.specs.declared.event.Turn.TheVariants.{Goes, Refused}
use Rattle.read_scan.specs.declared.tally.Tally.{Tally}
use Rattle.read_scan.specs.declared.Ran.{Ran}
use Rattle.read_scan.specs.declared.Ran.TheVariants.{Ended, Wrong}

-- ---- the scan

-- what the event at a place says
abbrev pub said_at : List ℕ → ℕ → Said
said_at file at = record { id = number (part file (at + 1) 4); port = get_or file (at + 5) 0; follower = get_or file (at + 6) 0 }

-- the player that it says, with no id
abbrev pub who_at : List ℕ → ℕ → Word
who_at file at = record { id = 0; port = get_or file (at + 5) 0; follower = get_or file (at + 6) 0 }

-- how many bytes it has, by the table: spans are one more than the payloads' sizes
abbrev pub span_at : List ℕ → List ℕ → ℕ → ℕ
span_at spans file at = get_or spans (get_or file at 0) 0

-- an event of a family that the version has, n bytes long as its records are, whole before stop, and in order
unfoldable pub takes_at : Version → Order → List ℕ → ℕ → State → ℕ → ℕ → Family → Bool
takes_at v o file stop s at n family = (has_family v family && eqb n (1 + record_size family v)) && (leb (at + n) stop && orderly v o s family (said_at file at))

module _ (v : Version) (o : Order) (file spans : List ℕ) (stop : ℕ) where
  abbrev pub takes : State → ℕ → Family → Bool
  takes s at family = takes_at v o file stop s at (span_at spans file at) family

  unfoldable pub stops : State → ℕ → Option ℕ
  stops s at = cond (closed v s) (some at) none

  -- where the frames end that begin at a place, in n events at most
  unfoldable pub scan : ℕ → ℕ → State → Option ℕ
  scan zero at s = none
  scan (suc n) at s =
      cond (leb stop at) (stops s at)
      (on_family (family_of (get_or file at 0)) (λ family. cond (takes s at family) (scan n (at + span_at spans file at) (after s family (said_at file at))) none) (stops s at))

  -- and what is counted on the way there, from a tally on
  unfoldable pub tells : State → Tally → Option Tally
  tells s t = cond (closed v s) (some t) none

  unfoldable pub tallied : ℕ → ℕ → State → Tally → Option Tally
  tallied zero at s t = none
  tallied (suc n) at s t =
      cond (leb stop at) (tells s t)
      (on_family (family_of (get_or file at 0)) (λ family. cond (takes s at family) (tallied n (at + span_at spans file at) (after s family (said_at file at)) (counted_of t s.rank s.id family (said_at file at))) none) (tells s t))

-- ---- one turn of the loop

-- no frame began yet: the code's numbers for the machine's first state
abbrev pub no_stage : Stage
no_stage = record { rank = 8; id = 0; pre = 0; due = 0 }

abbrev pub kind_of : Option Family → Kind
kind_of none = Other
kind_of (some family) = Frame family

-- how many bytes the events of a family have in a version; where it lacks the family, a number over every span
unfoldable pub span_in : Version → Family → ℕ
span_in v family = cond (has_family v family) (1 + record_size family v) (2 ^ 32)

abbrev pub sizes_in : Version → List ℕ
sizes_in v =
    span_in v Pre ∷ span_in v Post ∷ span_in v FrameStart ∷ span_in v Item ∷ span_in v FrameEnd ∷ span_in v FodPlatform ∷ span_in v DreamlandWhispy ∷ span_in v StadiumTransformation ∷ []

abbrev pub index_of : Family → ℕ
index_of Pre = 0
index_of Post = 1
index_of FrameStart = 2
index_of Item = 3
index_of FrameEnd = 4
index_of FodPlatform = 5
index_of DreamlandWhispy = 6
index_of StadiumTransformation = 7

-- what the loop knows at a place
pub record Asked (v : Version) (file : List ℕ) (span stop : ℕ) (m : Stage) (at : ℕ) : Type 0 where
  pub held : Held span m at
  pub under : at ≤ stop
  pub long : stop ≤ length file
  pub span_is : span ≡ 1 + record_size Pre v

-- an event of n bytes was tried
pub record Gone (v : Version) (o : Order) (file : List ℕ) (span stop : ℕ) (m : Stage) (at n : ℕ) (family : Family) (stage : Stage) (next : ℕ) (word : Word) : Type 0 where
  pub taken : takes_at v o file stop (state_in file span m) at n family ≡ true
  pub state_is : state_in file span stage ≡ after (state_in file span m) family (said_at file at)
  pub next_is : next ≡ at + n
  pub asked : Asked v file span stop stage next
  pub later : at < next
  pub said : said_of word ≡ said_at file at
  pub seated : family ≡ Pre → player (said_of word) ≡ true

-- what a try answers
abbrev pub Tried : Version → Order → List ℕ → ℕ → ℕ → Stage → ℕ → ℕ → Family → Turn → Type 0
Tried v o file span stop m at n family (Goes stage next word) = Gone v o file span stop m at n family stage next word
Tried v o file span stop m at n family Refused = takes_at v o file stop (state_in file span m) at n family ≡ false

-- the answer: where the frames end, or nowhere
abbrev pub ran_of : Ran → Option ℕ
ran_of (Ended at t) = some at
ran_of Wrong = none

-- and what was counted
abbrev pub tally_in : Ran → Option Tally
tally_in (Ended at t) = some t
tally_in Wrong = none

-- where the frames end that stand so at a place
abbrev pub ends_at : Version → Stage → ℕ → Option ℕ
ends_at v m at = cond (closed_at v m) (some at) none

abbrev pub tells_at : Version → Stage → Tally → Option Tally
tells_at v m t = cond (closed_at v m) (some t) none
