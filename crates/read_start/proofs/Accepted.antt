-- The start that a block says is not refused, where the block's seat types are at most 3.
-- Assumes nothing.
use mathlib.Core.Path.{◌≡◌, refl}
use mathlib.Core.Bool.{Bool, true, false, ◌&&◌}
use mathlib.Core.List.{List, [], ◌∷◌, map}
use Prim.Native.Nat.{ℕ, ◌+◌, ◌*◌, ◌≤◌, ◌<◌}
use native.Mathlib.Decide.{ℕ_discrete}
use native.Mathlib.Omega.{arith}
use borrow.Author.Tests.{eq-eqb, ne_eqb, le-ltb}
use lib.Dec.{ltb, eqb}
use lib.Seq.{take-append_seam}
use Rattle.format.specs.Mark.{mark_if}
use Rattle.wire.specs.Wire.{ranged, part}
use Rattle.format.specs.Mark as mark
use Rattle.format.specs.Refusal.{one_of}
use Rattle.format.specs.declared.version.Version.{Version}
use Rattle.game.specs.Zero.{no_seat}
use Rattle.patch.specs.Field.{text, is_zero, zero_inside, read_text, read_at}
use Rattle.start.specs.Gate.{reaches, ucf_from, tag_from, pal_from, frozen_from, scene_from, netplay_from, suid_from, language_from, match_from}
use Rattle.start.specs.Refusal.{missing, too_long, holds_zero, field_missing, type_above2, cpu_without_level, text_too_long, text_holds_zero, bad_seat, bad_start}
use Rattle.read_start.specs.Start.{byte_at, text_at, optional_if, ucf_if, text_if, player_in, seat_in, scene_if, match_if, start_in}
use Rattle.read_start.proofs.Texts.{read_go, read_stop, read_none, read_within}

-- ---- tests in a row that all fail

none : (b : Bool) (bs : List Bool) → b ≡ false → one_of bs ≡ false → one_of (b ∷ bs) ≡ false
unfolding one_of
none b bs e h = rw (e, h)

end : one_of [] ≡ false
unfolding one_of
end = refl

-- ---- a text that was read

pub read_clean : (xs : List ℕ) → one_of (map is_zero (read_text xs)) ≡ false
read_clean [] = rw read_none end
read_clean (x ∷ xs) =
    elim (ℕ_discrete x 0) [
      | yes e ↦ rw (read_stop x xs e) end
      | no o ↦ rw (read_go x xs o) (none _ _ (ne_eqb x 0 o) (read_clean xs))
    ]

-- its counted bytes are those that were read
pub text_is : (block : List ℕ) (at limit : ℕ) → text (text_at block at limit) ≡ read_at block at limit
text_is block at limit = take-append_seam (read_at block at limit) _

text_clean : (block : List ℕ) (at limit : ℕ) → zero_inside (text_at block at limit) ≡ false
unfolding zero_inside
text_clean block at limit = rw (text_is block at limit) (read_clean (part block at limit))

-- ---- what the version has is given, and fits

module _ (block : List ℕ) where
  mark_there : (on : Bool) → (on && mark.no (mark_if on)) ≡ false
  mark_there true = refl
  mark_there false = refl

  optional_there : (on : Bool) (x : ℕ) → (on && mark.no (optional_if on x).given) ≡ false
  optional_there true x = refl
  optional_there false x = refl

  ucf_there : (on : Bool) (n : ℕ) → (on && mark.no (ucf_if on block n).given) ≡ false
  ucf_there true n = refl
  ucf_there false n = refl

  scene_there : (on : Bool) → (on && mark.no (scene_if on block).given) ≡ false
  scene_there true = refl
  scene_there false = refl

  match_there : (on : Bool) → (on && mark.no (match_if on block).given) ≡ false
  match_there true = refl
  match_there false = refl

  text_fits : (on : Bool) (at limit : ℕ) → (on && ltb limit (text_if on block at limit).len) ≡ false
  text_fits true at limit = le-ltb limit _ (read_within block at limit)
  text_fits false at limit = refl

  text_whole : (on : Bool) (at limit : ℕ) → (on && zero_inside (text_if on block at limit)) ≡ false
  text_whole true at limit = text_clean block at limit
  text_whole false at limit = refl

  id_fits : (on : Bool) → (on && ltb 50 (match_if on block).id.len) ≡ false
  id_fits true = le-ltb 50 _ (read_within block 701 50)
  id_fits false = refl

  id_whole : (on : Bool) → (on && zero_inside (match_if on block).id) ≡ false
  id_whole true = text_clean block 701 50
  id_whole false = refl

  module _ (v : Version) where
    player_good : (n : ℕ) → byte_at block (100 + 36 * n + 1) ≤ 2 → bad_seat v (player_in v block n) ≡ false
    unfolding bad_seat field_missing missing type_above2 cpu_without_level text_too_long too_long text_holds_zero holds_zero
    player_good n low =
        none _ _ (none _ _ (ucf_there (reaches v ucf_from) n) (none _ _ (mark_there (reaches v tag_from)) (none _ _ (mark_there (reaches v netplay_from)) (none _ _ (mark_there (reaches v suid_from)) end))))
        (none _ _ (le-ltb 2 _ low)
        (none _ _ (optional_there (eqb (byte_at block (100 + 36 * n + 1)) 1) _)
        (none _ _ (none _ _ (text_fits (reaches v tag_from) _ 16) (none _ _ (text_fits (reaches v netplay_from) _ 30) (none _ _ (text_fits (reaches v netplay_from) _ 9) (none _ _ (text_fits (reaches v suid_from) _ 28) end))))
        (none _ _ (none _ _ (text_whole (reaches v tag_from) _ 16) (none _ _ (text_whole (reaches v netplay_from) _ 30) (none _ _ (text_whole (reaches v netplay_from) _ 9) (none _ _ (text_whole (reaches v suid_from) _ 28) end))))
        end))))

    nobody_good : bad_seat v no_seat ≡ false
    unfolding bad_seat
    nobody_good = refl

    seat_good : (n : ℕ) → byte_at block (101 + 36 * n) ≤ 3 → bad_seat v (seat_in v block n) ≡ false
    unfolding seat_in
    seat_good n low =
        elim (ℕ_discrete (byte_at block (101 + 36 * n)) 3) [
          | yes e ↦ rw (eq-eqb _ 3 e) nobody_good
          | no o ↦ let same : 100 + 36 * n + 1 ≡ 101 + 36 * n = omega arith in rw (ne_eqb _ 3 o) (player_good n (rw same (omega arith)))
        ]

    pub accepted : ((n : ℕ) → n < 4 → byte_at block (101 + 36 * n) ≤ 3) → bad_start v (start_in v block) ≡ false
    unfolding bad_start start_in ranged missing too_long holds_zero
    accepted types =
        none _ _
        (none _ _ (seat_good 0 (types 0 (omega arith))) (none _ _ (seat_good 1 (types 1 (omega arith))) (none _ _ (seat_good 2 (types 2 (omega arith))) (none _ _ (seat_good 3 (types 3 (omega arith))) end))))
        (none _ _ (optional_there (reaches v pal_from) _)
        (none _ _ (optional_there (reaches v frozen_from) _)
        (none _ _ (scene_there (reaches v scene_from))
        (none _ _ (optional_there (reaches v language_from) _)
        (none _ _ (match_there (reaches v match_from))
        (none _ _ (id_fits (reaches v match_from))
        (none _ _ (id_whole (reaches v match_from)) end)))))))
