-- What functions promise each other of a head that is read as if its length had never been filled in.
-- Assumes nothing.
use Rattle.std.specs.Prelude.{ℕ, ◌≤◌, ◌≡◌, List, length}
use Rattle.head.specs.Table.{table_of, first_place, head_refusal}
use Rattle.head.specs.Inner.{Indexed, Blank}
use Rattle.de.specs.Cut.{zeroed}
use Rattle.repair_head.specs.declared.Top.{Top}

-- the refusal of the head, or where events start, and the table's index
pub record TopOf (t : Top) (spans f : List ℕ) : Type 0 where
  pub refusal_is : t.refusal ≡ head_refusal (zeroed f)
  pub first_is : head_refusal (zeroed f) ≡ 0 → t.first ≡ first_place (table_of (zeroed f))
  pub index : head_refusal (zeroed f) ≡ 0 → Indexed spans (table_of (zeroed f))

-- room for the copy of so many bytes, and for an index
pub record Ready (room file spans : List ℕ) : Type 0 where
  pub fits : length room ≡ length file
  pub long : 15 ≤ length file
  pub blank : Blank spans
