-- What stands before and after the start block, piece by piece.
-- Assumes nothing.
use mathlib.Core.Path.{◌≡◌, ap₂}
use mathlib.Core.Bool.{Bool}
use mathlib.Core.List.{List, [], ◌∷◌, ◌++◌}
use Prim.Native.Nat.{ℕ, ◌-◌}
use Rattle.wire.specs.Wire.{be, ranged}
use Rattle.format.specs.Event.{code_of, signature}
use Rattle.format.specs.File.{table_bytes, events_bytes}
use Rattle.format.specs.Mark.{yes}
use Rattle.format.specs.declared.event.Event.TheVariants.{GameStart}
use Rattle.format.specs.declared.version.Version.{Version}
use Rattle.layout.specs.Payloads.{entries_of}
use Rattle.game.specs.declared.Game.{Game}
use Rattle.game.specs.Stores.{Lent}
use Rattle.codes.specs.Blocks.{code_events}
use Rattle.ending.specs.End.{end_events}
use Rattle.ending.specs.Tail.{tail_of}
use Rattle.events.specs.Events.{frame_events}
use Rattle.events.proofs.Laws.{frames_run}
use Rattle.ser.specs.Inner.{front_bytes, rest_bytes}

-- with the mark and the code as the code found them
pub front_parts : (v : Version) (codesGiven actual block raw : ℕ) (b : Bool) (k : ℕ) → yes codesGiven ≡ b → code_of GameStart ≡ k
    → front_bytes v codesGiven actual block raw ≡ signature ++ (be 4 raw ++ (table_bytes (entries_of v block b actual) ++ (k ∷ [])))
unfolding front_bytes
front_parts v codesGiven actual block raw b k e f =
    ap₂ (λ (x : Bool) (y : ℕ). signature ++ (be 4 raw ++ (table_bytes (entries_of v block x actual) ++ (y ∷ [])))) e f

-- and the frames as the run of all of them
pub rest_parts : (g : Game) (lent : Lent) (codes metadata : List ℕ) (b m : Bool) → yes g.codes_given ≡ b → yes g.metadata_given ≡ m
    → rest_bytes g lent codes metadata
    ≡ events_bytes (code_events b codes g.actual_size)
    ++ (events_bytes (ranged (frame_events g.frames lent) 0 (g.frames.counts.frames - 0))
    ++ (events_bytes (end_events g.frames.version g.end g.double_end) ++ tail_of m metadata))
unfolding rest_bytes
rest_parts g lent codes metadata b m e f =
    rw (e, f, frames_run g.frames lent)
