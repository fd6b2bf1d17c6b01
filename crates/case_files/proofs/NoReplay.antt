-- 19 because the events are no well-formed replay's: a file of version 0.1.0 for each reason. None is refused before.
-- Assumes nothing.
use mathlib.Core.Path.{refl}
use mathlib.Core.List.{[], ◌∷◌}
use lib.ListN.{take, replicate}
use Rattle.wire.specs.Wire.{be, splice}
use Rattle.format.specs.File.{file_of}
use Rattle.layout.specs.declared.columns.Family.TheVariants.{Pre, FrameStart}
use Rattle.de.specs.Cut.{zeroed}
use Rattle.grammar.specs.Productions.{start_event, row_event, end_event}
use Rattle.case_files.proofs.Files.{Nineteen, entry, brace, block, pre, post, over, old}
use Rattle.case_files.proofs.Taken.{are_bytes, have_bytes, not_whole, no_replay}
use Rattle.read_judge.proofs.Opens.{opens_early, opens_machine}
use Rattle.newer_judge.specs.Opening.{opening_refusal}

-- ---- the event data is not whole

-- cut in its end's event
cut_event : Nineteen (take 351 (old (over 0 ∷ [])))
unfolding opens_early opening_refusal
cut_event = (refl, not_whole (take 351 (old (over 0 ∷ []))) refl)

-- all events are there, and the length field asks for one byte more than the file has
cut_length : Nineteen (splice (take 350 (old [])) 11 (be 4 336))
unfolding opens_early opening_refusal splice
cut_length = (refl, not_whole (splice (take 350 (old [])) 11 (be 4 336)) refl)

-- the length field was never filled in
unfilled_length : Nineteen (zeroed (take 350 (old [])))
unfolding opens_early opening_refusal splice zeroed
unfilled_length = (refl, not_whole (zeroed (take 350 (old []))) refl)

-- ---- the events of a frame

-- a Post before its Pre
pub post_first : Nineteen (old (post 5 0 0 ∷ pre 5 0 0 ∷ []))
unfolding opens_early opening_refusal opens_machine are_bytes have_bytes
post_first = (refl, no_replay (old (post 5 0 0 ∷ pre 5 0 0 ∷ [])) (start_event block ∷ post 5 0 0 ∷ pre 5 0 0 ∷ []) refl refl refl)

-- ports that do not ascend: 1, then 0
ports_fall : Nineteen (old (pre 5 1 0 ∷ pre 5 0 0 ∷ post 5 1 0 ∷ post 5 0 0 ∷ []))
unfolding opens_early opening_refusal opens_machine are_bytes have_bytes
ports_fall = (refl, no_replay (old (pre 5 1 0 ∷ pre 5 0 0 ∷ post 5 1 0 ∷ post 5 0 0 ∷ [])) (start_event block ∷ pre 5 1 0 ∷ pre 5 0 0 ∷ post 5 1 0 ∷ post 5 0 0 ∷ []) refl refl refl)

-- a follower before its leader
follower_first : Nineteen (old (pre 5 0 1 ∷ pre 5 0 0 ∷ post 5 0 1 ∷ post 5 0 0 ∷ []))
unfolding opens_early opening_refusal opens_machine are_bytes have_bytes
follower_first = (refl, no_replay (old (pre 5 0 1 ∷ pre 5 0 0 ∷ post 5 0 1 ∷ post 5 0 0 ∷ [])) (start_event block ∷ pre 5 0 1 ∷ pre 5 0 0 ∷ post 5 0 1 ∷ post 5 0 0 ∷ []) refl refl refl)

-- the Posts in another order than the Pres
posts_turned : Nineteen (old (pre 5 0 0 ∷ pre 5 1 0 ∷ post 5 1 0 ∷ post 5 0 0 ∷ []))
unfolding opens_early opening_refusal opens_machine are_bytes have_bytes
posts_turned = (refl, no_replay (old (pre 5 0 0 ∷ pre 5 1 0 ∷ post 5 1 0 ∷ post 5 0 0 ∷ [])) (start_event block ∷ pre 5 0 0 ∷ pre 5 1 0 ∷ post 5 1 0 ∷ post 5 0 0 ∷ []) refl refl refl)

-- a player twice in a frame
twice_in_frame : Nineteen (old (pre 5 0 0 ∷ pre 5 0 0 ∷ post 5 0 0 ∷ post 5 0 0 ∷ []))
unfolding opens_early opening_refusal opens_machine are_bytes have_bytes
twice_in_frame = (refl, no_replay (old (pre 5 0 0 ∷ pre 5 0 0 ∷ post 5 0 0 ∷ post 5 0 0 ∷ [])) (start_event block ∷ pre 5 0 0 ∷ pre 5 0 0 ∷ post 5 0 0 ∷ post 5 0 0 ∷ []) refl refl refl)

-- a Pre without its Post
pre_alone : Nineteen (old (pre 5 0 0 ∷ over 0 ∷ []))
unfolding opens_early opening_refusal opens_machine are_bytes have_bytes
pre_alone = (refl, no_replay (old (pre 5 0 0 ∷ over 0 ∷ [])) (start_event block ∷ pre 5 0 0 ∷ over 0 ∷ []) refl refl refl)

-- a Post without its Pre
post_alone : Nineteen (old (pre 5 0 0 ∷ post 5 0 0 ∷ post 5 1 0 ∷ []))
unfolding opens_early opening_refusal opens_machine are_bytes have_bytes
post_alone = (refl, no_replay (old (pre 5 0 0 ∷ post 5 0 0 ∷ post 5 1 0 ∷ [])) (start_event block ∷ pre 5 0 0 ∷ post 5 0 0 ∷ post 5 1 0 ∷ []) refl refl refl)

-- a record with another frame's id
other_id : Nineteen (old (pre 5 0 0 ∷ post 6 0 0 ∷ []))
unfolding opens_early opening_refusal opens_machine are_bytes have_bytes
other_id = (refl, no_replay (old (pre 5 0 0 ∷ post 6 0 0 ∷ [])) (start_event block ∷ pre 5 0 0 ∷ post 6 0 0 ∷ []) refl refl refl)

-- a port of 4
port_four : Nineteen (old (pre 5 4 0 ∷ post 5 4 0 ∷ []))
unfolding opens_early opening_refusal opens_machine are_bytes have_bytes
port_four = (refl, no_replay (old (pre 5 4 0 ∷ post 5 4 0 ∷ [])) (start_event block ∷ pre 5 4 0 ∷ post 5 4 0 ∷ []) refl refl refl)

-- a follower's mark of 2
follower_two : Nineteen (old (pre 5 0 2 ∷ post 5 0 2 ∷ []))
unfolding opens_early opening_refusal opens_machine are_bytes have_bytes
follower_two = (refl, no_replay (old (pre 5 0 2 ∷ post 5 0 2 ∷ [])) (start_event block ∷ pre 5 0 2 ∷ post 5 0 2 ∷ []) refl refl refl)

-- ---- families and sizes

-- a payload of the wrong size: the table lists a Pre of 57 bytes
size_of_pre : Nineteen (file_of (entry 0x36 320 ∷ entry 0x37 57 ∷ entry 0x38 33 ∷ []) (start_event block ∷ row_event Pre 5 (0 ∷ 0 ∷ replicate 51 0) ∷ post 5 0 0 ∷ []) brace)
unfolding opens_early opening_refusal opens_machine are_bytes have_bytes
size_of_pre = (refl, no_replay (file_of (entry 0x36 320 ∷ entry 0x37 57 ∷ entry 0x38 33 ∷ []) (start_event block ∷ row_event Pre 5 (0 ∷ 0 ∷ replicate 51 0) ∷ post 5 0 0 ∷ []) brace) (start_event block ∷ row_event Pre 5 (0 ∷ 0 ∷ replicate 51 0) ∷ post 5 0 0 ∷ []) refl refl refl)

-- a start block of 319 bytes
size_of_start : Nineteen (file_of (entry 0x36 319 ∷ []) (start_event (take 319 block) ∷ []) brace)
unfolding opens_early opening_refusal opens_machine are_bytes have_bytes
size_of_start = (refl, no_replay (file_of (entry 0x36 319 ∷ []) (start_event (take 319 block) ∷ []) brace) (start_event (take 319 block) ∷ []) refl refl refl)

-- an end of two bytes
size_of_end : Nineteen (file_of (entry 0x36 320 ∷ entry 0x39 2 ∷ []) (start_event block ∷ end_event (0 ∷ 0 ∷ []) ∷ []) brace)
unfolding opens_early opening_refusal opens_machine are_bytes have_bytes
size_of_end = (refl, no_replay (file_of (entry 0x36 320 ∷ entry 0x39 2 ∷ []) (start_event block ∷ end_event (0 ∷ 0 ∷ []) ∷ []) brace) (start_event block ∷ end_event (0 ∷ 0 ∷ []) ∷ []) refl refl refl)

-- a family that the version lacks
family_lacking : Nineteen (file_of (entry 0x36 320 ∷ entry 0x3A 8 ∷ []) (start_event block ∷ row_event FrameStart 5 (0 ∷ 0 ∷ 0 ∷ 0 ∷ []) ∷ []) brace)
unfolding opens_early opening_refusal opens_machine are_bytes have_bytes
family_lacking = (refl, no_replay (file_of (entry 0x36 320 ∷ entry 0x3A 8 ∷ []) (start_event block ∷ row_event FrameStart 5 (0 ∷ 0 ∷ 0 ∷ 0 ∷ []) ∷ []) brace) (start_event block ∷ row_event FrameStart 5 (0 ∷ 0 ∷ 0 ∷ 0 ∷ []) ∷ []) refl refl refl)

-- a code that no event has, in the table with its size
code_of_no_event : Nineteen (file_of (entry 0x36 320 ∷ entry 0x42 1 ∷ []) (start_event block ∷ record { code = 0x42; payload = 0 ∷ [] } ∷ []) brace)
unfolding opens_early opening_refusal opens_machine are_bytes have_bytes
code_of_no_event = (refl, no_replay (file_of (entry 0x36 320 ∷ entry 0x42 1 ∷ []) (start_event block ∷ record { code = 0x42; payload = 0 ∷ [] } ∷ []) brace) (start_event block ∷ record { code = 0x42; payload = 0 ∷ [] } ∷ []) refl refl refl)

-- ---- the order of the whole

-- three ends
three_ends : Nineteen (old (over 0 ∷ over 0 ∷ over 0 ∷ []))
unfolding opens_early opening_refusal opens_machine are_bytes have_bytes
three_ends = (refl, no_replay (old (over 0 ∷ over 0 ∷ over 0 ∷ [])) (start_event block ∷ over 0 ∷ over 0 ∷ over 0 ∷ []) refl refl refl)

-- a frame after the end
frame_after_end : Nineteen (old (over 0 ∷ pre 5 0 0 ∷ post 5 0 0 ∷ []))
unfolding opens_early opening_refusal opens_machine are_bytes have_bytes
frame_after_end = (refl, no_replay (old (over 0 ∷ pre 5 0 0 ∷ post 5 0 0 ∷ [])) (start_event block ∷ over 0 ∷ pre 5 0 0 ∷ post 5 0 0 ∷ []) refl refl refl)

-- a second start
two_starts : Nineteen (old (start_event block ∷ []))
unfolding opens_early opening_refusal opens_machine are_bytes have_bytes
two_starts = (refl, no_replay (old (start_event block ∷ [])) (start_event block ∷ start_event block ∷ []) refl refl refl)
