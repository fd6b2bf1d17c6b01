-- What functions promise each other: the machine over the bytes of a file, an event at a time.
-- Assumes nothing.
use Rattle.std.specs.Prelude.{ℕ, ◌+◌, ◌-◌, ◌*◌, ◌≤◌, ◌<◌, ◌≡◌, Bool, true, ◌&&◌, List, map, ltb, leb, length, get_or, take, drop}
use Rattle.std.proofs.Math.Option.{none, some}
use Rattle.format.specs.File.{Ev}
use Rattle.format.specs.declared.version.Version.{Version}
use Rattle.layout.specs.Payloads.{record_size, end_size}
use Rattle.layout.specs.declared.columns.Family.{Family}
use Rattle.layout.specs.declared.columns.Family.TheVariants.{Pre}
use Rattle.head.specs.Table.{stop_of, all_present, table_of, first_place, span_of, head_refusal}
use Rattle.de.specs.Walk.{run}
use Rattle.de.specs.Cut.{event_at}
use Rattle.grammar.specs.Machine.{State, initial}
use Rattle.read_order.specs.Inner.{state_in, closed_at}
use Rattle.read_order.specs.declared.stage.Stage.{Stage}
use Rattle.read_scan.specs.Counts.{no_tally, Under}
use Rattle.read_scan.specs.Inner.{span_at, Asked}
use Rattle.read_scan.specs.declared.tally.Tally.{Tally}
use Rattle.read_judge.specs.Inner.{Bytes}
use Rattle.fault_reason.specs.Reason.{block_reason, row_reason, end_reason, second_reason}
use Rattle.fault_reason.specs.Fault.{Stands, coding, framing, ending, over, after_block, after_row, after_first, after_frames, after_second, bare_codes, stands_next, frames_reason, reason_of}
use Rattle.fault_reason.specs.Inner.{ev}
use Rattle.fault_scan.specs.declared.standing.Standing.{Standing}
use Rattle.fault_scan.specs.declared.standing.Standing.TheVariants.{Coding, Framing, Ending, Over}
use Rattle.fault_scan.specs.declared.standing.Turned.{Turned}
use Rattle.fault_scan.specs.declared.standing.Turned.TheVariants as turned
use Rattle.fault_scan.specs.declared.around.Block.{Block}
use Rattle.fault_scan.specs.declared.around.Block.TheVariants as block
use Rattle.fault_scan.specs.declared.around.Closing.{Closing}
use Rattle.fault_scan.specs.declared.around.Closing.TheVariants as closing
use Rattle.fault_scan.specs.declared.row.Row.{Row}
use Rattle.fault_scan.specs.declared.row.Row.TheVariants as row

-- ---- an event in a file

-- the event that stands from a place to the next
abbrev pub ev_at : List ℕ → ℕ → ℕ → Ev
ev_at file at next = ev (get_or file at 0) (take (next - (at + 1)) (drop (at + 1) file))

-- n bytes behind the code of an event
abbrev pub payload_at : List ℕ → ℕ → ℕ → List ℕ
payload_at file at n = take n (drop (at + 1) file)

-- an event stands whole from a place to the next, before stop
pub record Here (v : Version) (file spans : List ℕ) (span stop at next : ℕ) : Type 0 where
  pub later : at < next
  pub ends : next ≤ stop
  pub long : stop ≤ length file
  pub many : length spans ≡ 256
  pub next_is : next ≡ at + span_at spans file at
  pub span_is : span ≡ 1 + record_size Pre v

-- ---- blocks and ends

abbrev pub Blocked : Version → ℕ → ℕ → Ev → Block → Type 0
Blocked v g n e block.Full = (after_block v g n e ≡ some (coding (n + 1))) × (length e.payload ≡ 516)
Blocked v g n e block.Last = after_block v g n e ≡ some (framing initial no_tally)
Blocked v g n e (block.Wrong reason) = (after_block v g n e ≡ none) × (reason ≡ block_reason v g e)

abbrev pub FirstEnd : Version → State → Ev → Closing → Type 0
FirstEnd v s e closing.Comes = (after_first v s e ≡ some (ending e.payload)) × (length e.payload ≡ end_size v)
FirstEnd v s e (closing.Wrong reason) = (after_first v s e ≡ none) × (reason ≡ end_reason v s e)

abbrev pub SecondEnd : Version → List ℕ → Ev → Closing → Type 0
SecondEnd v p e closing.Comes = after_second v p e ≡ some over
SecondEnd v p e (closing.Wrong reason) = (after_second v p e ≡ none) × (reason ≡ second_reason v e)

-- ---- rows of frames

module _ (v : Version) (file : List ℕ) (span stop : ℕ) where
  -- what is known of a stage and a tally at a place
  pub record Known (m : Stage) (t : Tally) (at : ℕ) : Type 0 where
    pub asked : Asked v file span stop m at
    pub under : Under t at

  abbrev pub RowOf : State → Tally → Family → Ev → ℕ → Row → Type 0
  RowOf s t family e next (row.Goes stage tally) = (after_row v s t family e ≡ some (framing (state_in file span stage) tally)) × Known stage tally next
  RowOf s t family e next (row.Wrong reason) = (after_row v s t family e ≡ none) × (reason ≡ row_reason v s family e)

  -- ---- where a replay stands

  abbrev pub stands_in : Standing → Stands
  stands_in (Coding blocks) = coding blocks
  stands_in (Framing stage tally) = framing (state_in file span stage) tally
  stands_in (Ending at) = ending (payload_at file at (end_size v))
  stands_in Over = over

  abbrev pub Fits : Standing → ℕ → Type 0
  Fits (Coding blocks) at = 512 * blocks ≤ at
  Fits (Framing stage tally) at = Known stage tally at
  Fits (Ending place) at = place + (1 + end_size v) ≤ at
  Fits Over at = Unit {0}

  -- where it stands after an event, or why it may not come
  abbrev pub FramesOf : State → Tally → Ev → ℕ → Turned → Type 0
  FramesOf s t e next (turned.Goes x) = (after_frames v s t e ≡ some (stands_in x)) × Fits x next
  FramesOf s t e next (turned.Wrong reason) = (after_frames v s t e ≡ none) × (reason ≡ frames_reason v s e)

  abbrev pub Turns : ℕ → Stands → Ev → ℕ → Turned → Type 0
  Turns g s e next (turned.Goes x) = (stands_next v g s e ≡ some (stands_in x)) × Fits x next
  Turns g s e next (turned.Wrong reason) = (stands_next v g s e ≡ none) × (reason ≡ reason_of v g s e)

-- ---- whole events

unfoldable pub is_whole : List ℕ → List ℕ → ℕ → ℕ → Bool
is_whole file spans stop at = ltb at stop && (ltb 0 (span_at spans file at) && leb (at + span_at spans file at) stop)

-- ---- the pass

-- a replay may end here, by the numbers alone
abbrev pub done_at : Version → ℕ → Standing → Bool
done_at v g (Coding blocks) = bare_codes v g blocks
done_at v g (Framing stage tally) = closed_at v stage
done_at v g (Ending at) = true
done_at v g Over = true

-- the events that the reader finds from a place on, after n others
abbrev pub events_from : List ℕ → ℕ → ℕ → List Ev
events_from f at n = map (event_at f) (run (length f - n) f at).seen

-- a file whose head is accepted, and a place behind its first event
pub record Passed (f spans : List ℕ) (stop : ℕ) (whole : Bool) (at : ℕ) : Type 0 where
  pub accepted : head_refusal f ≡ 0
  pub bytes : Bytes f
  pub many : length spans ≡ 256
  pub index : (c : ℕ) → c < 256 → get_or spans c 0 ≡ span_of c (table_of f)
  pub stop_is : stop ≡ stop_of f
  pub whole_is : whole ≡ all_present f
  pub after : first_place (table_of f) ≤ at
  pub under : at ≤ stop
  pub within : stop ≤ length f
