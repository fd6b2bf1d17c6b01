-- How much of a file is a replay, whatever its length field says: the longest beginning of its events that `read` accepts.
-- Assumes nothing.
use Rattle.std.specs.Prelude.{ℕ, ◌-◌, ◌≤◌, ◌<◌, ◌≡◌, false, List, length}
use Rattle.wire.specs.Wire.{be, splice}
use Rattle.read_judge.specs.Found.{version_of, early_refusal, Found, too_big}

-- a file whose length field says that its events end at a place
unfoldable pub ending_at : List ℕ → ℕ → List ℕ
ending_at f p = splice f 11 (be 4 (p - 15))

-- `read` accepts it: it is not refused before there is a replay, it holds one, and no count is over its maximum
pub record Accepted (f : List ℕ) : Type 0 where
  pub early : early_refusal f ≡ 0
  pub found : Found f
  pub small : too_big (version_of f) found.replay ≡ false

-- the events up to a place are those of a replay that `read` accepts: with a length field that says so the file is accepted.
-- The length has four bytes
pub record ReplayUpTo (f : List ℕ) (p : ℕ) : Type 0 where
  pub within : p ≤ length f
  pub short : p < 4294967311
  pub accepted : Accepted (ending_at f p)

-- the longest such beginning
pub record Longest (f : List ℕ) (p : ℕ) : Type 0 where
  pub begins : ReplayUpTo f p
  pub most : (q : ℕ) → ReplayUpTo f q → q ≤ p
