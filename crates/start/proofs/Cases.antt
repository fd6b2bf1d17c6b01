-- The block's length at every version that changes it, with the version before, and what refuses a start, as computed tables.
-- Assumes nothing.
use mathlib.Core.Path.{◌≡◌, refl}
use mathlib.Core.Bool.{true, false}
use mathlib.Core.List.{[], ◌∷◌, map}
use lib.ListN.{replicate}
use Rattle.format.specs.Version.{version, above, gte_of}
use Rattle.start.specs.Length.{reached, length_of}
use Rattle.format.specs.Refusal.{one_of}
use Rattle.start.specs.Refusal.{block_wrong, missing, too_long, holds_zero, field_missing, type_above2, cpu_without_level, text_too_long, text_holds_zero, bad_seat, bad_start}
use Rattle.game.specs.Zero.{seat_with}
use Rattle.patch.specs.Field.{zero_filled, zero_inside, read_text}
use Rattle.game.specs.declared.start.Text.{Text}
use Rattle.game.specs.declared.start.Seat.{Seat}
use Rattle.start.proofs.Samples.{letters, zero_at, netplay, netplay_of, player_of, player, nobody, start, start_of}

lengths_by_version : map length_of
    (version 0 1 0 ∷ version 0 255 255
    ∷ version 1 0 0 ∷ version 1 2 255
    ∷ version 1 3 0 ∷ version 1 4 255
    ∷ version 1 5 0 ∷ version 1 255 255
    ∷ version 2 0 0 ∷ version 3 6 255
    ∷ version 3 7 0 ∷ version 3 8 255
    ∷ version 3 9 0 ∷ version 3 10 255
    ∷ version 3 11 0 ∷ version 3 11 255
    ∷ version 3 12 0 ∷ version 3 13 255
    ∷ version 3 14 0 ∷ version 3 18 0 ∷ [])
    ≡ 320 ∷ 320 ∷ 352 ∷ 352 ∷ 416 ∷ 416 ∷ 417 ∷ 417 ∷ 418 ∷ 418 ∷ 420 ∷ 420 ∷ 584 ∷ 584 ∷ 700 ∷ 700 ∷ 701 ∷ 701 ∷ 760 ∷ 760 ∷ []
unfolding length_of reached gte_of above
lengths_by_version = refl

-- a block just too short, just long enough, just short enough and too long
blocks : map (block_wrong (version 0 1 0)) (319 ∷ 320 ∷ 65535 ∷ 65536 ∷ []) ≡ true ∷ false ∷ false ∷ true ∷ []
unfolding block_wrong length_of reached gte_of above
blocks = refl

-- texts at their limits; a CPU with a level; nobody
good_seats : map (bad_seat (version 3 18 0)) (player 0 0 0 1 1 16 (netplay 1 1 30 9 28) ∷ player 1 0 1 1 1 0 (netplay 1 1 0 0 0) ∷ player 2 1 0 1 1 0 (netplay 1 1 0 0 0) ∷ nobody ∷ [])
    ≡ false ∷ false ∷ false ∷ false ∷ []
unfolding bad_seat one_of field_missing type_above2 cpu_without_level text_too_long text_holds_zero missing too_long holds_zero zero_inside gte_of above
good_seats = refl

-- UCF, tag, netplay or SUID missing; a type above 2; a CPU without level; a text too long
bad_seats : map (bad_seat (version 3 18 0))
    (player 0 0 0 0 1 16 (netplay 1 1 30 9 28)
    ∷ player 0 0 0 1 0 16 (netplay 1 1 30 9 28)
    ∷ player 0 0 0 1 1 16 (netplay 0 1 30 9 28)
    ∷ player 0 0 0 1 1 16 (netplay 1 0 30 9 28)
    ∷ player 3 0 0 1 1 16 (netplay 1 1 30 9 28)
    ∷ player 1 0 0 1 1 16 (netplay 1 1 30 9 28)
    ∷ player 0 0 0 1 1 17 (netplay 1 1 30 9 28)
    ∷ player 0 0 0 1 1 16 (netplay 1 1 31 9 28)
    ∷ player 0 0 0 1 1 16 (netplay 1 1 30 10 28)
    ∷ player 0 0 0 1 1 16 (netplay 1 1 30 9 29)
    ∷ [])
    ≡ true ∷ true ∷ true ∷ true ∷ true ∷ true ∷ true ∷ true ∷ true ∷ true ∷ []
unfolding bad_seat one_of field_missing type_above2 cpu_without_level text_too_long text_holds_zero missing too_long holds_zero zero_inside gte_of above
bad_seats = refl

-- what a version does not write may be missing, and as long as it likes
seats_by_version : map (λ v. bad_seat v (player 0 0 0 0 0 17 (netplay 0 0 31 10 29))) (version 0 255 255 ∷ version 1 0 0 ∷ [])
    ≡ false ∷ true ∷ []
unfolding bad_seat one_of field_missing type_above2 cpu_without_level text_too_long text_holds_zero missing too_long holds_zero zero_inside gte_of above
seats_by_version = refl

-- nothing of the start's own is written before 1.5; from 3.14 on all of it is
starts : map (λ v. bad_start v (start (nobody ∷ nobody ∷ nobody ∷ nobody ∷ []) 0 51)) (version 1 4 255 ∷ version 1 5 0 ∷ [])
    ≡ false ∷ true ∷ []
unfolding bad_start bad_seat one_of field_missing type_above2 cpu_without_level text_too_long text_holds_zero missing too_long holds_zero zero_inside gte_of above
starts = refl

match_ids : map (λ n. bad_start (version 3 18 0) (start (nobody ∷ nobody ∷ nobody ∷ nobody ∷ []) 1 n)) (50 ∷ 51 ∷ []) ≡ false ∷ true ∷ []
unfolding bad_start bad_seat one_of field_missing type_above2 cpu_without_level text_too_long text_holds_zero missing too_long holds_zero zero_inside gte_of above
match_ids = refl

-- ---- a zero inside a text

-- of a text of 5 bytes: first, in the middle, last; at its length, and past it
zeros : map (λ k. zero_inside (zero_at k 5)) (0 ∷ 2 ∷ 4 ∷ 5 ∷ 6 ∷ []) ≡ true ∷ true ∷ true ∷ false ∷ false ∷ []
unfolding zero_inside one_of
zeros = refl

-- a text of no bytes has none; one that claims more than its 50 bytes has those of the 50
long_zeros : map zero_inside (zero_at 0 0 ∷ letters 51 ∷ zero_at 49 51 ∷ []) ≡ false ∷ false ∷ true ∷ []
unfolding zero_inside one_of
long_zeros = refl

-- players with one text of their own, all else in order
tagged : Text → Seat
tagged t = player_of 0 0 0 1 1 t (netplay 1 1 30 9 28)

named : Text → Seat
named t = player_of 0 0 0 1 1 (letters 16) (netplay_of 1 1 t (letters 9) (letters 28))

coded : Text → Seat
coded t = player_of 0 0 0 1 1 (letters 16) (netplay_of 1 1 (letters 30) t (letters 28))

known : Text → Seat
known t = player_of 0 0 0 1 1 (letters 16) (netplay_of 1 1 (letters 30) (letters 9) t)

-- a tag of 16 bytes, a name of 30, a code of 9, an id of 28: a zero first, in the middle, last, and just past the text
bad_texts : map (bad_seat (version 3 18 0))
    (tagged (zero_at 0 16) ∷ tagged (zero_at 7 16) ∷ tagged (zero_at 15 16) ∷ tagged (zero_at 16 16)
    ∷ named (zero_at 0 30) ∷ named (zero_at 7 30) ∷ named (zero_at 29 30) ∷ named (zero_at 30 30)
    ∷ coded (zero_at 0 9) ∷ coded (zero_at 7 9) ∷ coded (zero_at 8 9) ∷ coded (zero_at 9 9)
    ∷ known (zero_at 0 28) ∷ known (zero_at 7 28) ∷ known (zero_at 27 28) ∷ known (zero_at 28 28)
    ∷ [])
    ≡ true ∷ true ∷ true ∷ false ∷ true ∷ true ∷ true ∷ false ∷ true ∷ true ∷ true ∷ false ∷ true ∷ true ∷ true ∷ false ∷ []
unfolding tagged named coded known bad_seat one_of field_missing type_above2 cpu_without_level text_too_long text_holds_zero missing too_long holds_zero zero_inside gte_of above
bad_texts = refl

-- the version before the one that writes the text, and that one
texts_by_version :
    map (λ v. bad_seat v (tagged (zero_at 0 3))) (version 1 2 255 ∷ version 1 3 0 ∷ [])
    ∷ map (λ v. bad_seat v (named (zero_at 0 3))) (version 3 8 255 ∷ version 3 9 0 ∷ [])
    ∷ map (λ v. bad_seat v (coded (zero_at 0 3))) (version 3 8 255 ∷ version 3 9 0 ∷ [])
    ∷ map (λ v. bad_seat v (known (zero_at 0 3))) (version 3 10 255 ∷ version 3 11 0 ∷ [])
    ∷ map (λ v. bad_start v (start_of (nobody ∷ nobody ∷ nobody ∷ nobody ∷ []) 1 (zero_at 0 3))) (version 3 13 255 ∷ version 3 14 0 ∷ [])
    ∷ []
    ≡ replicate 5 (false ∷ true ∷ [])
unfolding tagged named coded known bad_start bad_seat one_of field_missing type_above2 cpu_without_level text_too_long text_holds_zero missing too_long holds_zero zero_inside gte_of above
texts_by_version = refl

-- in a seat that is not given
unseated : bad_seat (version 3 18 0) (seat_with (zero_at 0 5)) ≡ false
unfolding bad_seat
unseated = refl

-- a match id of 49 bytes: first, in the middle, last, and just past it
zero_ids : map (λ k. bad_start (version 3 18 0) (start_of (nobody ∷ nobody ∷ nobody ∷ nobody ∷ []) 1 (zero_at k 49))) (0 ∷ 24 ∷ 48 ∷ 49 ∷ []) ≡ true ∷ true ∷ true ∷ false ∷ []
unfolding bad_start bad_seat one_of field_missing type_above2 cpu_without_level text_too_long text_holds_zero missing too_long holds_zero zero_inside gte_of above
zero_ids = refl

-- what a viewer reads: a tag of 16 bytes to the field's end, a shorter one to its zero, and half of one with a zero inside, which is refused
tags_read : map (λ t. read_text (zero_filled 16 t)) (letters 16 ∷ letters 3 ∷ letters 0 ∷ zero_at 2 5 ∷ [])
    ≡ replicate 16 65 ∷ replicate 3 65 ∷ [] ∷ replicate 2 65 ∷ []
unfolding read_text zero_filled
tags_read = refl
