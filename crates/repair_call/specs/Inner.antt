-- What functions promise each other.
-- Assumes nothing.
use Rattle.std.specs.Prelude.{ℕ, ◌+◌, ◌-◌, ◌≤◌, ◌<◌, ◌≡◌, Bool, cond, ◌&&◌, List, [], ◌∷◌, ◌++◌, length, take, drop}
use Rattle.wire.specs.Wire.{be, part}
use Rattle.measure.specs.Game.{tail_kind}
use Rattle.check_file.specs.Inner.{is_tail}
use Rattle.repair_kept.specs.Kept.{ReplayUpTo}
use Rattle.repair_judge.specs.Inner.{Topped}
use Rattle.repair_call.specs.declared.Behind.{Behind}

-- what goes behind a place: a brace, or the file's own tail where no event stands before it
abbrev pub brace_for : List ℕ → ℕ → Behind
brace_for f p = record { tail = 2; len = 1; dropped = length f - p }

unfoldable pub behind_of : Bool → List ℕ → ℕ → Behind
behind_of alone f p = cond (alone && is_tail (drop p f)) (record { tail = tail_kind (drop p f); len = length f - p; dropped = 0 }) (brace_for f p)

-- a beginning whose events start at a place
pub record Told (f spans : List ℕ) (first p : ℕ) : Type 0 where
  pub topped : Topped f spans first
  pub begins : ReplayUpTo f p
  pub after : first ≤ p

-- the front of a file whose events end at a place
unfoldable pub front_of : List ℕ → ℕ → List ℕ
front_of f p = take 11 f ++ (be 4 (p - 15) ++ part f 15 (p - 15))

-- a place of a file, which has a length of four bytes, and room for all before it
pub record Fits (f out : List ℕ) (p : ℕ) : Type 0 where
  pub above : 15 ≤ p
  pub within : p ≤ length f
  pub low : p < 4294967311
  pub room : p ≤ length out
