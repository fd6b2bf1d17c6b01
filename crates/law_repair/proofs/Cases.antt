-- Computed cases: the smallest file that holds a replay, its length field 517 too high, is repaired to itself; and with an end that is cut, to the smallest file.
-- Assumes nothing.
use Prim.Native.Nat.{ℕ, zero, suc, ◌+◌, ◌≤◌}
use mathlib.Core.Path.{◌≡◌, refl, ap, subst, ◌∙◌}
use mathlib.Core.Bool.{Bool, true, false, cond, ◌&&◌}
use mathlib.Core.List.{List, [], ◌∷◌, ◌++◌}
use borrow.Author.Tests.{ltb-true}
use lib.Dec.{eqb, ltb, lit<, lit≤}
use lib.ListN.{length, take, drop}
use Rattle.wire.specs.Wire.{be, more, part, splice, ranged, keep}
use Rattle.format.specs.Refusal.{one_of}
use Rattle.format.specs.File.{entries_bytes, table_bytes, events_bytes, file_of}
use Rattle.format.specs.Version.{above, gte_of, accepted_of}
use Rattle.frames.specs.Judge.{too_many}
use Rattle.head.specs.Table.{starts_with, declared, stop_of}
use Rattle.de.specs.Cut.{events_read, zeroed}
use Rattle.de.proofs.Opens.{opens_steps}
use Rattle.grammar.specs.Productions.{start_event, codes_events, events_of_frames, events_of, used_in, codes_bytes}
use Rattle.grammar.proofs.Tests.{both}
use Rattle.columns.specs.Columns.{ever_in, port_columns, rows_there, frames_read}
use Rattle.known.specs.Known.{taken}
use Rattle.read_outline.specs.Listed.{listed_right}
use Rattle.read_judge.specs.Found.{version_said, early_refusal}
use Rattle.read_judge.specs.Inner.{Bytes}
use Rattle.read_judge.proofs.Opens.{opens_early}
use Rattle.measure.specs.Game.{bare, has_body, tail_kind}
use Rattle.check_file.specs.Inner.{is_tail}
use Rattle.repair_kept.specs.Kept.{ending_at, Accepted, Longest}
use Rattle.repair_call.specs.Outcome.{dropped, keeps_tail, tail_for, repaired_to}
use Rattle.case_files.proofs.Files.{table, block, over, old}
use Rattle.case_files.proofs.Smallest.{empty, empty_readable}
use Rattle.law_repair.proofs.Calls.{longest_same, repaired_same}
use Rattle.law_repair.proofs.Itself.{longest_itself, any_length}

abbrev smallest : List ℕ
smallest = old []

early_zero : early_refusal smallest ≡ 0
unfolding opens_early
early_zero = refl

accepted : Accepted smallest
unfolding opens_steps events_read version_said accepted_of taken codes_events events_of_frames events_of listed_right gte_of above used_in too_many one_of frames_read rows_there port_columns ranged ever_in keep codes_bytes
accepted = record { early = early_zero; found = record { replay = empty; whole = refl; events_are = refl; readable = empty_readable; listed = refl }; small = refl }

-- ---- its bytes are bytes

below : List ℕ → Bool
below [] = true
below (x ∷ xs) = ltb x 256 && below xs

all_bytes : (xs : List ℕ) → below xs ≡ true → Bytes xs
unfolding below
all_bytes [] e i = lit< tt
all_bytes (x ∷ xs) e zero = ltb-true x 256 (both (ltb x 256) (below xs) e).0
all_bytes (x ∷ xs) e (suc i) = all_bytes xs (both (ltb x 256) (below xs) e).1 i

bytes : Bytes smallest
unfolding below file_of table_bytes entries_bytes events_bytes be more
bytes = all_bytes smallest refl

-- ---- no event and a proper tail stand behind its own

nothing : dropped smallest 350 ≡ 0
unfolding dropped zeroed splice opens_steps
nothing = refl

ends_at : stop_of smallest ≡ 350
unfolding file_of table_bytes entries_bytes events_bytes be part more stop_of
ends_at = refl

tail : is_tail (drop 350 smallest) ≡ true
unfolding file_of table_bytes entries_bytes events_bytes be part more is_tail tail_kind bare
tail = refl

-- ---- so

pub any_four : (w : List ℕ) → length w ≡ 4 → Longest (splice smallest 11 w) 350 × (repaired_to (splice smallest 11 w) 350 ≡ smallest)
any_four w four =
    subst (λ (p : ℕ). Longest (splice smallest 11 w) p × (repaired_to (splice smallest 11 w) p ≡ smallest)) ends_at
    (any_length smallest bytes accepted (ap (dropped smallest) ends_at ∙ nothing) (ap (λ (p : ℕ). is_tail (drop p smallest)) ends_at ∙ tail) w four)

-- 335 bytes of table and events, and a field that says 852
said : declared smallest ≡ 335
unfolding file_of table_bytes entries_bytes events_bytes be part more
said = refl

pub too_high : repaired_to (splice smallest 11 (0 ∷ 0 ∷ 3 ∷ 84 ∷ [])) 350 ≡ smallest
too_high = (any_four (0 ∷ 0 ∷ 3 ∷ 84 ∷ []) refl).1

says_more_lem : declared (splice smallest 11 (0 ∷ 0 ∷ 3 ∷ 84 ∷ [])) ≡ 335 + 517
unfolding file_of table_bytes entries_bytes events_bytes be part more splice
says_more_lem = refl

-- ---- the same game with an end, cut behind the end's code: what is left is the smallest file

abbrev cut : List ℕ
cut = take 351 (old (over 7 ∷ []))

-- its length put right
abbrev fixed : List ℕ
fixed = file_of table (start_event block ∷ []) (0x39 ∷ [])

cut_is : splice fixed 11 (0 ∷ 0 ∷ 1 ∷ 81 ∷ []) ≡ cut
unfolding file_of table_bytes entries_bytes events_bytes be more splice
cut_is = refl

fixed_early : early_refusal fixed ≡ 0
unfolding opens_early
fixed_early = refl

fixed_accepted : Accepted fixed
unfolding opens_steps events_read version_said accepted_of taken codes_events events_of_frames events_of listed_right gte_of above used_in too_many one_of frames_read rows_there port_columns ranged ever_in keep codes_bytes
fixed_accepted = record { early = fixed_early; found = record { replay = empty; whole = refl; events_are = refl; readable = empty_readable; listed = refl }; small = refl }

fixed_bytes : Bytes fixed
unfolding below file_of table_bytes entries_bytes events_bytes be more
fixed_bytes = all_bytes fixed refl

fixed_ends : stop_of fixed ≡ 350
unfolding file_of table_bytes entries_bytes events_bytes be part more stop_of
fixed_ends = refl

-- the end is not whole
no_end : dropped fixed 350 ≡ 0
unfolding dropped zeroed splice opens_steps
no_end = refl

no_tail : is_tail (drop 350 fixed) ≡ false
unfolding file_of table_bytes entries_bytes events_bytes be part more is_tail tail_kind bare has_body starts_with
no_tail = refl

brace_behind : take 350 (ending_at fixed 350) ++ (0x7d ∷ []) ≡ smallest
unfolding ending_at file_of table_bytes entries_bytes events_bytes be more splice
brace_behind = refl

given_smallest : repaired_to fixed 350 ≡ smallest
unfolding repaired_to tail_for keeps_tail
given_smallest = (λ i. take 350 (ending_at fixed 350) ++ cond (eqb (no_end i) 0 && no_tail i) (drop 350 fixed) (0x7d ∷ [])) ∙ brace_behind

pub cut_end : Longest cut 350 × (repaired_to cut 350 ≡ smallest)
unfolding file_of table_bytes entries_bytes events_bytes be more
cut_end =
    let w : List ℕ = 0 ∷ 0 ∷ 1 ∷ 81 ∷ [] in
    let long : 15 ≤ length fixed = ending_long in
    let longest = subst (Longest fixed) fixed_ends (longest_itself fixed fixed_bytes fixed_accepted (ap (dropped fixed) fixed_ends ∙ no_end)) in (
      subst (λ (l : List ℕ). Longest l 350) cut_is (longest_same fixed w long refl 350 longest),
      subst (λ (l : List ℕ). repaired_to l 350 ≡ smallest) cut_is (repaired_same fixed w long refl 350 (lit≤ tt) ∙ given_smallest),
    )
  where
    ending_long : 15 ≤ length fixed
    ending_long = lit≤ tt
