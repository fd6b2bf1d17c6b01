-- What functions promise each other.
-- Assumes nothing.
use Rattle.std.specs.Prelude.{ℕ, ◌≤◌, ◌<◌, ◌≡◌, true, List, length}
use Rattle.format.specs.Version.{accepted_of}
use Rattle.format.specs.declared.version.Version.{Version}
use Rattle.head.specs.Table.{table_of, first_place, head_refusal}
use Rattle.head.specs.Inner.{Indexed}
use Rattle.de.specs.Cut.{zeroed}
use Rattle.read_judge.specs.Inner.{Bytes, first_at}
use Rattle.read_judge.specs.declared.first.First.TheVariants.{Opens}
use Rattle.repair_kept.specs.Kept.{ReplayUpTo, Longest}
use Rattle.repair_judge.specs.Open.{open_refusal}
use Rattle.repair_judge.specs.declared.Judged.{Judged}

-- the head is accepted: where events start, and the table's index
pub record Topped (f spans : List ℕ) (first : ℕ) : Type 0 where
  pub accepted : head_refusal (zeroed f) ≡ 0
  pub first_is : first ≡ first_place (table_of (zeroed f))
  pub index : Indexed spans (table_of (zeroed f))
  pub bytes : Bytes f

-- and the first event says a version that is not too new
pub record Opening (f spans : List ℕ) (first : ℕ) (v : Version) (len : ℕ) : Type 0 where
  pub topped : Topped f spans first
  pub opens : first_at f spans first (length f) ≡ Opens v len
  pub new_enough : accepted_of v ≡ true
  pub not_early : open_refusal f ≡ 0

-- the answer: a number, or where events start and where those stop that are kept
pub data Judges (f spans : List ℕ) (j : Judged) : Type 0 where
  early : (open_refusal f ≡ 0 → ⊥) → j.refused ≡ open_refusal f → Judges f spans j
  none : open_refusal f ≡ 0 → ((q : ℕ) → ReplayUpTo f q → ⊥) → j.refused ≡ 19 → Judges f spans j
  held : open_refusal f ≡ 0 → Longest f j.stop → j.refused ≡ 0 → Topped f spans j.first → j.first ≤ j.stop → Judges f spans j
