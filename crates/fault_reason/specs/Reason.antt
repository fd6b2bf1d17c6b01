-- Why an event cannot come where a replay stands: one reason for each, as a number.
-- Assumes nothing.
use Rattle.std.specs.Prelude.{ℕ, Bool, false, not, cond, ◌&&◌, ◌||◌, List, [], ◌∷◌, leb, eqb, length}
use Rattle.format.specs.Event.{code_of}
use Rattle.format.specs.File.{Ev}
use Rattle.format.specs.Version.{has_codes}
use Rattle.format.specs.declared.event.Event.TheVariants as event
use Rattle.format.specs.declared.version.Version.{Version}
use Rattle.layout.specs.Columns.{has_family}
use Rattle.layout.specs.Payloads.{record_size, end_size}
use Rattle.layout.specs.declared.columns.Family.{Family}
use Rattle.layout.specs.declared.columns.Family.TheVariants.{Pre, Post, FrameStart, Item, FrameEnd, FodPlatform, DreamlandWhispy, StadiumTransformation}
use Rattle.start.specs.Length.{length_of}
use Rattle.grammar.specs.WellFormed.{ascending, nobody, may_come}
use Rattle.grammar.specs.Machine.{family_of, on_family, State, Said, said_by, slot_said, closed, in_frame, player}
use Rattle.grammar.specs.Whole.{flag_in, is_block, is_last, is_full}

-- 1 out of order, 2 wrong size, 3 another frame's id, 4 ports not ascending, 5 a Pre without its Post, 6 a player twice, 7 a port over 3, 8 a follower flag over 1,
-- 9 a seat type over 3, 10 an initiator outside -1 .. 3, 11 a wrong block of codes, 12 a third end, 13 unlike ends, 14 unfinished, 15 event data that is not whole,
-- 16 a first event that is no GameStart of four bytes, 17 a start block shorter than its version's, 18 an event that the version lacks, 19 codes not as the table lists them,
-- 20 a frame of the last one's id, before 2.2, 21 a Post without its Pre, 22 an event that no replay has

-- ---- the start

-- its block is too short, or a seat type is over 3
abbrev pub start_reason : Version → List ℕ → ℕ
start_reason v block = cond (leb (length_of v) (length block)) 9 17

-- ---- any event where none of its kind may stand

abbrev pub other_reason : ℕ → ℕ
other_reason code =
    on_family (family_of code) (λ family. 1)
    (cond (eqb code (code_of event.GameStart)) 1 (cond (eqb code (code_of event.MessageSplitter)) 1 (cond (eqb code (code_of event.GameEnd)) 1 22)))

-- ---- blocks of codes. A span of 0 is that of an unlisted code

unfoldable pub good_block : Version → Ev → Bool
good_block v e = is_block e && cond (eqb (flag_in e) 1) (is_last v e) (is_full e)

abbrev pub block_reason : Version → ℕ → Ev → ℕ
block_reason v span e =
    cond (has_codes v) (cond (eqb (length e.payload) 516) (cond (eqb span 0) 19 (cond (good_block v e) 19 11)) 2) 18

-- ---- the events of frames

-- a slot is among these
unfoldable pub is_due : List ℕ → ℕ → Bool
is_due [] k = false
is_due (j ∷ js) k = eqb j k || is_due js k

-- a frame is not over: a Post is to come, or its end
abbrev pub open_reason : State → ℕ
open_reason s = cond (nobody s.due) 1 5

-- an event is not of the frame, or its rank is under the last one's
abbrev pub place_reason : ℕ → ℕ → ℕ
place_reason last rank = cond (leb last rank) 3 1

abbrev pub who_reason : Said → ℕ
who_reason w = cond (leb w.port 3) 8 7

-- a Pre may stand here: in its frame, or as the first of one before 2.2
unfoldable pub pre_stands : Version → State → Said → Bool
pre_stands v s w = in_frame s 2 w || (not (has_family v FrameStart) && closed v s)

abbrev pub pre_reason : Version → State → Said → ℕ
pre_reason v s w =
    cond (pre_stands v s w)
    (cond (player w) (cond (is_due s.due (slot_said w)) 6 (cond (may_come ascending s.due (slot_said w)) 20 4)) (who_reason w))
    (place_reason s.rank 2)

abbrev pub post_reason : State → Said → ℕ
post_reason s w = cond (in_frame s 7 w) (cond (player w) (cond (is_due s.due (slot_said w)) 4 21) (who_reason w)) (place_reason s.rank 7)

unfoldable pub order_reason : Version → State → Family → Said → ℕ
order_reason v s FrameStart w = open_reason s
order_reason v s Pre w = pre_reason v s w
order_reason v s FodPlatform w = place_reason s.rank 3
order_reason v s DreamlandWhispy w = place_reason s.rank 4
order_reason v s StadiumTransformation w = place_reason s.rank 5
order_reason v s Item w = place_reason s.rank 6
order_reason v s Post w = post_reason s w
order_reason v s FrameEnd w = cond (in_frame s 7 w) 5 (place_reason s.rank 7)

abbrev pub row_reason : Version → State → Family → Ev → ℕ
row_reason v s family e =
    cond (has_family v family) (cond (eqb (length e.payload) (record_size family v)) (order_reason v s family (said_by e)) 2) 18

-- ---- the ends

abbrev pub is_game_end : Ev → Bool
is_game_end e = eqb e.code (code_of event.GameEnd)

-- the first
abbrev pub end_reason : Version → State → Ev → ℕ
end_reason v s e = cond (is_game_end e) (cond (eqb (length e.payload) (end_size v)) (cond (closed v s) 10 (open_reason s)) 2) (other_reason e.code)

-- the second
abbrev pub second_reason : Version → Ev → ℕ
second_reason v e = cond (is_game_end e) (cond (eqb (length e.payload) (end_size v)) 13 2) (other_reason e.code)

-- any event behind two
abbrev pub third_reason : Ev → ℕ
third_reason e = cond (is_game_end e) 12 (other_reason e.code)
