-- The twelve cases hold: one computed test over the table, and the law that reads any case off it.
-- Of a file that is written the test computes the length field and the length by their formulas over counts, which hold for any game
-- (`writes_as`): 67,172 bytes take no longer than 351. The file that is cut and walked is computed byte by byte.
-- Assumes nothing.
use mathlib.Core.Path.{◌≡◌, refl, sym, ap, ap₂, ◌∙◌}
use mathlib.Core.Bool.{Bool, true, false, cond}
use mathlib.Core.List.{List, [], ◌∷◌, ◌++◌}
use Prim.Native.Nat.{ℕ, zero, suc, ◌+◌, ◌<◌}
use native.Mathlib.Omega.{arith}
use lib.Dec.{T, ltb, eqb, eqb→eq, eqb-suc-zero}
use lib.ListN.{length, get_or}
use Rattle.wire.specs.Wire.{keep}
use Rattle.format.specs.FrameId.{place_of}
use Rattle.format.specs.Mark.{yes}
use Rattle.format.specs.Refusal.{refuse, lowest}
use Rattle.players.specs.Presence.{marked, count_from, players_present}
use Rattle.codes.specs.Blocks.{block_count, used, last_flag, code_block}
use Rattle.ending.specs.End.{end_of}
use Rattle.events.specs.Events.{frame_events, one_event, row_events, player_events}
use Rattle.events.specs.Length.{frames_length}
use Rattle.rollback.specs.Mask.{occurs, mask_of, needed, all_in_range, answer_of}
use Rattle.format.proofs.Refusals.{lowest_before}
use Rattle.layout.proofs.Laws.{both, both_left, both_right}
use Rattle.head.specs.Table.{declared}
use Rattle.de.specs.Walk.{walk_of}
use Rattle.game.specs.declared.Game.{Game}
use Rattle.game.specs.Stores.{Stores}
use Rattle.ser.specs.Write.{given_bytes, judged, refusal, file}
use Rattle.ser.specs.Length.{raw_length}
use Rattle.ser.proofs.Files.{framed, length_raw}
use Rattle.ser.proofs.Outcomes.{Passed, passes}
use Rattle.ser.proofs.Steps.{whole, total_is}
use Rattle.ser.proofs.Sound.{length_field}
use Rattle.case_table.specs.Table.{Question, writing, coding, blocking, walking, masking, numbers, writes, answer, Case, cases, no_case, case_at, expected_at}
use Rattle.de.proofs.Opens.{opens_steps}
use Rattle.ser.proofs.Opens.{opens_file, opens_judged}

-- ---- a written file's numbers by their formulas

abbrev raw_of : Game → Stores → ℕ
raw_of g s = raw_length g s.lent.presence (length s.template)

abbrev total_of : Game → Stores → ℕ
total_of g s = 15 + (raw_of g s + cond (yes g.metadata_given) (13 + given_bytes g.metadata_given s.metadata) 1)

abbrev refusal_in : Game → Stores → ℕ → ℕ → ℕ
refusal_in g s room total = lowest (judged g s ++ (refuse 12 (ltb room total) ∷ []))

pub total_of_lem : {g : Game} {s : Stores} → Passed g s → length (file g s) ≡ total_of g s
total_of_lem {g} {s} p = total_is p (raw_of g s) refl _ (yes g.metadata_given) (given_bytes g.metadata_given s.metadata) refl refl refl

raw_of_lem : {g : Game} {s : Stores} → Passed g s → declared (file g s) ≡ raw_of g s
raw_of_lem {g} {s} p = length_field p ∙ length_raw g s (whole p) (framed p.frames)

-- a refusal leaves no other number
refused_alike : (k a b c d : ℕ) → numbers (suc k) a b ≡ numbers (suc k) c d
unfolding keep
refused_alike k a b c d = rw (eqb-suc-zero k)

writes_as : (g : Game) (s : Stores) (room : ℕ) → writes g s room ≡ numbers (refusal_in g s room (total_of g s)) (raw_of g s) (total_of g s)
unfolding refusal
writes_as g s room = go (lowest (judged g s)) refl
  where
    go : (k : ℕ) → lowest (judged g s) ≡ k → writes g s room ≡ numbers (refusal_in g s room (total_of g s)) (raw_of g s) (total_of g s)
    go zero e =
        let p = passes g s e in
        ap₂ (λ (raw total : ℕ). numbers (refusal_in g s room total) raw total) (raw_of_lem p) (total_of_lem p)
    go (suc k) e =
        let alike : (t : ℕ) → refusal_in g s room t ≡ suc k = λ t. lowest_before (judged g s) (refuse 12 (ltb room t) ∷ []) (λ z. absurd (omega (arith, e, z))) ∙ e in
        ap (λ (n : ℕ). numbers n (declared (file g s)) (length (file g s))) (alike (length (file g s)))
        ∙ refused_alike k _ _ _ _
        ∙ sym (ap (λ (n : ℕ). numbers n (raw_of g s) (total_of g s)) (alike (total_of g s)))

-- ---- the test

-- what an answer is computed from
abbrev computed : Question → List ℕ
computed (writing g s room) = numbers (refusal_in g s room (total_of g s)) (raw_of g s) (total_of g s)
computed (coding g s) = answer (coding g s)
computed (blocking g s) = answer (blocking g s)
computed (walking g s n) = answer (walking g s n)
computed (masking kept ids m n) = answer (masking kept ids m n)

answer_as : (q : Question) → answer q ≡ computed q
answer_as (writing g s room) = writes_as g s room
answer_as (coding g s) = refl
answer_as (blocking g s) = refl
answer_as (walking g s n) = refl
answer_as (masking kept ids m n) = refl

abbrev alike : List ℕ → List ℕ → Bool
alike [] [] = true
alike [] (y ∷ ys) = false
alike (x ∷ xs) [] = false
alike (x ∷ xs) (y ∷ ys) = both (eqb x y) (alike xs ys)

alike_same : (xs ys : List ℕ) → T (alike xs ys) → xs ≡ ys
alike_same [] [] t = refl
alike_same [] (y ∷ ys) t = absurd t
alike_same (x ∷ xs) [] t = absurd t
alike_same (x ∷ xs) (y ∷ ys) t =
    ap₂ (λ (z : ℕ) (zs : List ℕ). z ∷ zs) (eqb→eq x y (both_left (eqb x y) (alike xs ys) t)) (alike_same xs ys (both_right (eqb x y) (alike xs ys) t))

abbrev right : Case → Bool
right c = alike (computed c.asked) c.expected

abbrev all_right : List Case → Bool
all_right [] = true
all_right (c ∷ cs) = both (right c) (all_right cs)

-- computed
test : T (all_right cases)
unfolding opens_judged opens_file opens_steps cases raw_length marked count_from players_present frames_length code_block block_count used last_flag end_of frame_events one_event row_events player_events walk_of place_of occurs mask_of needed all_in_range answer_of
test = tt

-- ---- any case

-- where all are right, each is
each : (cs : List Case) → T (all_right cs) → (i : ℕ) (d : Case) → i < length cs → answer (get_or cs i d).asked ≡ (get_or cs i d).expected
each [] t i d h = absurd (omega arith)
each (c ∷ cs) t zero d h = answer_as c.asked ∙ alike_same (computed c.asked) c.expected (both_left (right c) (all_right cs) t)
each (c ∷ cs) t (suc i) d h = each cs (both_right (right c) (all_right cs) t) i d (omega arith)

rows : length cases ≡ 17
unfolding cases
rows = refl

-- what is asked in any row of the table has the numbers that the row says
pub case_holds : (i : ℕ) → i < 17 → answer (case_at i).asked ≡ expected_at i
case_holds i h = each cases test i no_case (omega (arith, rows))
