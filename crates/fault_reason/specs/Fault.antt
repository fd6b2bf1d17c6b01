-- Where events stop to begin a replay that `read` accepts, and why: a machine over all events of a replay, moved by one event at a time.
-- Assumes nothing.
use Rattle.std.specs.Prelude.{ℕ, ◌+◌, ◌*◌, Bool, true, false, not, cond, ◌&&◌, ◌||◌, List, [], ◌∷◌, eqb, length, get_or}
use Rattle.std.proofs.Math.Option.{Option, none, some}
use Rattle.format.specs.Event.{code_of}
use Rattle.format.specs.File.{Ev}
use Rattle.format.specs.Version.{has_initiator, has_codes, accepted_of}
use Rattle.format.specs.declared.event.Event.TheVariants.{MessageSplitter}
use Rattle.format.specs.declared.version.Version.{Version}
use Rattle.layout.specs.declared.columns.Family.{Family}
use Rattle.ending.specs.End.{initiator_wrong}
use Rattle.grammar.specs.WellFormed.{ascending}
use Rattle.grammar.specs.Machine.{family_of, on_family, State, initial, said_by, closed, allowed, after}
use Rattle.grammar.specs.Whole.{flag_in, used_by, is_end}
use Rattle.read_scan.specs.Counts.{no_tally, counted_of}
use Rattle.read_scan.specs.declared.tally.Tally.{Tally}
use Rattle.read_outline.specs.Listed.{listed_right}
use Rattle.read_judge.specs.Found.{opens_wrong, version_said}
use Rattle.read_judge.specs.Inner.{start_fits, changes}
use Rattle.fault_reason.specs.Reason.{good_block, start_reason, other_reason, block_reason, row_reason, end_reason, second_reason, third_reason}
use Rattle.fault_reason.specs.declared.Fault.{Fault}

-- ---- where a replay stands

-- after its start and so many full blocks of codes; among its frames, with what was counted of them; after an end; after two
pub data Stands : Type 0 where
  coding : ℕ → Stands
  framing : State → Tally → Stands
  ending : List ℕ → Stands
  over : Stands

-- ---- where it stands after an event that may come

-- a block may come where codes are listed; a last one, where they are listed as the blocks say
unfoldable pub takes_block : Version → ℕ → ℕ → Ev → Bool
takes_block v span n e =
    (has_codes v && not (eqb span 0)) && (good_block v e && (not (eqb (flag_in e) 1) || listed_right v span (n + 1) (512 * n + used_by e)))

unfoldable pub after_block : Version → ℕ → ℕ → Ev → Option Stands
after_block v span n e = cond (takes_block v span n e) (some (cond (eqb (flag_in e) 1) (framing initial no_tally) (coding (n + 1)))) none

-- a frame's event that the order allows, neighbouring ids unlike where they must be; or the first end, where no frame is open
unfoldable pub after_row : Version → State → Tally → Family → Ev → Option Stands
after_row v s t family e =
    let counted = counted_of t s.rank s.id family (said_by e) in
    cond (allowed v ascending s family e && changes v counted) (some (framing (after s family (said_by e)) counted)) none

unfoldable pub initiator_fits : Version → Ev → Bool
initiator_fits v e = not (has_initiator v && initiator_wrong (get_or e.payload 1 0))

unfoldable pub after_first : Version → State → Ev → Option Stands
after_first v s e = cond (closed v s && (is_end v e && initiator_fits v e)) (some (ending e.payload)) none

unfoldable pub after_frames : Version → State → Tally → Ev → Option Stands
after_frames v s t e = on_family (family_of e.code) (λ family. after_row v s t family e) (after_first v s e)

-- a second end like the first
unfoldable pub alike_bytes : List ℕ → List ℕ → Bool
alike_bytes [] [] = true
alike_bytes [] (y ∷ ys) = false
alike_bytes (x ∷ xs) [] = false
alike_bytes (x ∷ xs) (y ∷ ys) = eqb x y && alike_bytes xs ys

unfoldable pub after_second : Version → List ℕ → Ev → Option Stands
after_second v p e = cond (is_end v e && alike_bytes p e.payload) (some over) none

abbrev pub is_splitter : Ev → Bool
is_splitter e = eqb e.code (code_of MessageSplitter)

-- codes are listed as where there are no blocks
abbrev pub bare_codes : Version → ℕ → ℕ → Bool
bare_codes v span n = eqb n 0 && listed_right v span 0 0

unfoldable pub stands_next : Version → ℕ → Stands → Ev → Option Stands
stands_next v span (coding n) e = cond (is_splitter e) (after_block v span n e) (cond (bare_codes v span n) (after_frames v initial no_tally e) none)
stands_next v span (framing s t) e = after_frames v s t e
stands_next v span (ending p) e = after_second v p e
stands_next v span over e = none

-- why an event may not come
abbrev pub frames_reason : Version → State → Ev → ℕ
frames_reason v s e = on_family (family_of e.code) (λ family. row_reason v s family e) (end_reason v s e)

unfoldable pub reason_of : Version → ℕ → Stands → Ev → ℕ
reason_of v span (coding n) e =
    cond (is_splitter e) (block_reason v span e) (cond (eqb n 0) (cond (listed_right v span 0 0) (frames_reason v initial e) 19) (other_reason e.code))
reason_of v span (framing s t) e = frames_reason v s e
reason_of v span (ending p) e = second_reason v e
reason_of v span over e = third_reason e

-- a replay may end here
unfoldable pub is_done : Version → ℕ → Stands → Bool
is_done v span (coding n) = bare_codes v span n
is_done v span (framing s t) = closed v s
is_done v span (ending p) = true
is_done v span over = true

-- ---- the fault

abbrev pub fault : ℕ → ℕ → ℕ → Fault
fault reason event offset = record { reason = reason; event = event; offset = offset }

abbrev pub on_next : {A : Type 0} → Option Stands → (Stands → A) → A → A
on_next none f other = other
on_next (some s) f other = f s

-- where all events came: 14 where the replay is not finished, 15 where it is and the event data is not whole
abbrev pub last_reason : Version → ℕ → Bool → Stands → ℕ
last_reason v span whole s = cond (is_done v span s) (cond whole 0 15) 14

-- from a place on, after n events
unfoldable pub fault_from : Version → ℕ → Bool → Stands → ℕ → ℕ → List Ev → Fault
fault_from v span whole s n at [] = fault (last_reason v span whole s) n at
fault_from v span whole s n at (e ∷ es) =
    on_next (stands_next v span s e) (λ next. fault_from v span whole next (n + 1) (at + (1 + length e.payload)) es) (fault (reason_of v span s e) n at)

-- of events of which the first stands at a place, in event data that is whole or not, with codes of such a span; of a newer recorder's nothing is told
unfoldable pub fault_in : ℕ → Bool → ℕ → List Ev → Fault
fault_in span whole at [] = fault 14 0 at
fault_in span whole at (e ∷ es) =
    let v = version_said (e ∷ es) in
    cond (opens_wrong (e ∷ es)) (fault 16 0 at)
    (cond (accepted_of v)
    (cond (start_fits v e.payload) (fault_from v span whole (coding 0) 1 (at + (1 + length e.payload)) es) (fault (start_reason v e.payload) 0 at))
    (fault 0 0 0))
