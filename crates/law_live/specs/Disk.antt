-- A game recorded as it is played: each run is lent as a small game of its own, in an output of its own, and its bytes are put behind what was put before.
-- Assumes nothing.
use Rattle.std.specs.Prelude.{ℕ, ◌-◌, ◌≡◌, List, [], ◌∷◌, ◌++◌, Ok}
use Rattle.wire.specs.Wire.{part}
use Rattle.game.specs.Stores.{Lent}
use Rattle.game.specs.declared.frames.Frames.{Frames}
use Rattle.append.specs.Run.{RunOutcome}
use Rattle.law_part.specs.Part.{Part}

-- the bytes of a run: a call for all frames of a small game, which is the part of the large one from a on and before b
pub record Piece (f : Frames) (s : Lent) (a b : ℕ) (bytes : List ℕ) : Type 0 where
  pub small : Frames
  pub own : Lent
  pub is_part : Part f s a b small own
  pub place : ℕ
  pub out : List ℕ
  pub end : ℕ
  pub out' : List ℕ
  pub call : RunOutcome small own 0 small.counts.frames place out (Ok end) out'
  pub bytes_are : bytes ≡ part out' place (end - place)

-- bytes in two parts
pub record Cut (P Q : List ℕ → Type 0) (bytes : List ℕ) : Type 0 where
  pub first : List ℕ
  pub rest : List ℕ
  pub both : bytes ≡ first ++ rest
  pub first_is : P first
  pub rest_is : Q rest

-- the bytes of runs, one after another, split at these numbers
unfoldable pub Pieces : Frames → Lent → ℕ → List ℕ → ℕ → List ℕ → Type 0
Pieces f s a [] b bytes = Piece f s a b bytes
Pieces f s a (c ∷ cs) b bytes = Cut (Piece f s a c) (Pieces f s c cs b) bytes
