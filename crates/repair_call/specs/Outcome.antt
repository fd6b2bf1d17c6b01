-- What `measure_repair` and `repair` answer, and what the output is afterwards.
-- Assumes nothing.
use Rattle.std.specs.Prelude.{ℕ, ◌-◌, ◌≤◌, ◌<◌, ◌≡◌, Bool, cond, ◌&&◌, List, [], ◌∷◌, ◌++◌, eqb, length, take, drop}
use Rattle.wire.specs.Wire.{splice}
use Rattle.head.specs.Table.{declared, table_of, first_place}
use Rattle.de.specs.Walk.{run}
use Rattle.de.specs.Cut.{events_read, zeroed}
use Rattle.measure.specs.Game.{tail_kind}
use Rattle.check_file.specs.Inner.{is_tail}
use Rattle.repair_kept.specs.Kept.{ending_at, ReplayUpTo, Longest}
use Rattle.repair_judge.specs.Open.{open_refusal}
use Rattle.repair_call.specs.declared.Repaired.{Repaired}

-- ---- the file that is given

-- how many events the walk finds behind a place, the length field not looked at
unfoldable pub dropped : List ℕ → ℕ → ℕ
dropped f p = length (run (length f) (zeroed f) p).seen

-- the file's own tail is kept where no event is dropped and what stands there is a proper tail
unfoldable pub keeps_tail : List ℕ → ℕ → Bool
keeps_tail f p = eqb (dropped f p) 0 && is_tail (drop p f)

unfoldable pub tail_for : List ℕ → ℕ → List ℕ
tail_for f p = cond (keeps_tail f p) (drop p f) (0x7d ∷ [])

-- signature, right length, table and events up to a place, and that tail
unfoldable pub repaired_to : List ℕ → ℕ → List ℕ
repaired_to f p = take p (ending_at f p) ++ tail_for f p

-- ---- answers

abbrev pub unrepaired : ℕ → Repaired
unrepaired number = record {
  refused = number;
  tail = 0;
  said = 0;
  length = 0;
  bytes = 0;
  events = 0;
  event_bytes = 0;
  dropped_events = 0;
  dropped_bytes = 0;
}

-- which tail it is: 0 one brace and 1 metadata, both the file's own; 2 a brace that was put there
abbrev pub repair_of : List ℕ → ℕ → Repaired
repair_of f p = record {
  refused = 0;
  tail = cond (keeps_tail f p) (tail_kind (drop p f)) 2;
  said = declared f;
  length = p - 15;
  bytes = length (repaired_to f p);
  events = length (events_read (ending_at f p));
  event_bytes = p - first_place (table_of (zeroed f));
  dropped_events = dropped f p;
  dropped_bytes = cond (keeps_tail f p) 0 (length f - p);
}

-- ---- the calls

-- 14, 15, 19 and 1 before a beginning is looked for; 19 where none is a replay that `read` accepts; or the longest
pub data RepairMeasured (f : List ℕ) (m : Repaired) : Type 0 where
  early : (open_refusal f ≡ 0 → ⊥) → m ≡ unrepaired (open_refusal f) → RepairMeasured f m
  none : open_refusal f ≡ 0 → ((p : ℕ) → ReplayUpTo f p → ⊥) → m ≡ unrepaired 19 → RepairMeasured f m
  found : open_refusal f ≡ 0 → (p : ℕ) → Longest f p → m ≡ repair_of f p → RepairMeasured f m

-- so too, and 12 for an output that is too short. Where it is refused the output does not change
pub data RepairOutcome (f given : List ℕ) (r : Repaired) (left : List ℕ) : Type 0 where
  early : (open_refusal f ≡ 0 → ⊥) → r ≡ unrepaired (open_refusal f) → left ≡ given → RepairOutcome f given r left
  none : open_refusal f ≡ 0 → ((p : ℕ) → ReplayUpTo f p → ⊥) → r ≡ unrepaired 19 → left ≡ given → RepairOutcome f given r left
  short : open_refusal f ≡ 0 → (p : ℕ) → Longest f p → length given < length (repaired_to f p) → r ≡ unrepaired 12 → left ≡ given → RepairOutcome f given r left
  found : open_refusal f ≡ 0 → (p : ℕ) → Longest f p → length (repaired_to f p) ≤ length given → r ≡ repair_of f p → left ≡ splice given 0 (repaired_to f p) → RepairOutcome f given r left
