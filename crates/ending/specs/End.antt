-- The end of a game. A mark is a byte: nonzero is yes.
-- Assumes nothing.
use Rattle.std.specs.Prelude.{ℕ, Bool, not, cond, ◌&&◌, ◌||◌, List, [], ◌∷◌, ◌++◌, leb, eqb, get_or}
use Rattle.wire.specs.Wire.{ranged, keep}
use Rattle.format.specs.Version.{has_initiator, has_placements}
use Rattle.format.specs.Mark.{no, yes}
use Rattle.format.specs.Event.{code_of}
use Rattle.format.specs.File.{Ev}
use Rattle.format.specs.declared.version.Version.{Version}
use Rattle.format.specs.declared.event.Event.TheVariants.{GameEnd}
use Rattle.game.specs.declared.end.End.{End}

-- who ended the game: -1 for nobody, or a port
abbrev pub initiator_bytes : End → List ℕ
initiator_bytes e = e.initiator ∷ []

-- the placement of port i's player; FF for one who was not placed
unfoldable pub placement_of : End → ℕ → ℕ
placement_of e i = cond (no (get_or e.placed i 0)) 0xFF (get_or e.placements i 0)

unfoldable pub placements_of : End → List ℕ
placements_of e = ranged (λ i. placement_of e i ∷ []) 0 4

-- the end: method, initiator, four placements
unfoldable pub end_of : Version → End → Ev
end_of v e = record {
  code = code_of GameEnd;
  payload = e.method ∷ (keep (has_initiator v) (initiator_bytes e) ++ keep (has_placements v) (placements_of e));
}

-- the end, where there is one; twice, where it is doubled
unfoldable pub end_events : Version → End → ℕ → List Ev
end_events v e double = keep (yes e.given) (end_of v e ∷ keep (yes double) (end_of v e ∷ []))

-- the initiator is outside -1 .. 3, as a signed byte whose bits these are
unfoldable pub initiator_wrong : ℕ → Bool
initiator_wrong initiator = not (leb initiator 3 || eqb initiator 0xFF)

-- 11: double end without an end, or, from 2.0, an end's initiator outside -1 .. 3
unfoldable pub end_wrong : Version → End → ℕ → Bool
end_wrong v e double = (yes double && no e.given) || (yes e.given && (has_initiator v && initiator_wrong e.initiator))
