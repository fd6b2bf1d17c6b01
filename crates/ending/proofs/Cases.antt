-- Worked examples of ends, as computed tables. The first and the third player were placed.
-- Assumes nothing.
use mathlib.Core.Path.{◌≡◌, refl}
use mathlib.Core.Bool.{true, false}
use mathlib.Core.List.{List, [], ◌∷◌, ◌++◌, map}
use Prim.Native.Nat.{ℕ}
use lib.ListN.{length}
use Rattle.wire.specs.Wire.{ranged, keep}
use Rattle.format.specs.Version.{version, above, gte_of}
use Rattle.format.specs.File.{Ev}
use Rattle.format.specs.declared.version.Version.{Version}
use Rattle.ending.specs.End.{placement_of, placements_of, end_of, end_events, initiator_wrong, end_wrong}
use Rattle.game.specs.declared.end.End.{End}

won : ℕ → ℕ → End
won given initiator = record { given = given; method = 2; initiator = initiator; placed = 1 ∷ 0 ∷ 1 ∷ 0 ∷ []; placements = 0 ∷ 3 ∷ 1 ∷ 3 ∷ [] }

payloads : map (λ (v : Version). (end_of v (won 1 255)).payload) (version 1 9 0 ∷ version 2 0 0 ∷ version 3 12 0 ∷ version 3 13 0 ∷ [])
    ≡ (2 ∷ []) ∷ (2 ∷ 255 ∷ []) ∷ (2 ∷ 255 ∷ []) ∷ (2 ∷ 255 ∷ 0 ∷ 255 ∷ 1 ∷ 255 ∷ []) ∷ []
unfolding won end_of placements_of placement_of ranged keep gte_of above
payloads = refl

-- none, none, one and two
how_many_lem : map (λ (l : List Ev). length l)
    (end_events (version 3 18 0) (won 0 255) 0 ∷ end_events (version 3 18 0) (won 0 255) 1 ∷ end_events (version 3 18 0) (won 1 255) 0 ∷ end_events (version 3 18 0) (won 1 255) 1 ∷ [])
    ≡ 0 ∷ 0 ∷ 1 ∷ 2 ∷ []
unfolding won end_events keep
how_many_lem = refl

-- a double end without an end; initiators; and an initiator that is not written
wrong_ends :
    end_wrong (version 3 18 0) (won 0 255) 1
    ∷ end_wrong (version 3 18 0) (won 0 9) 0
    ∷ map (λ (i : ℕ). end_wrong (version 2 0 0) (won 1 i) 1) (255 ∷ 0 ∷ 3 ∷ 4 ∷ 254 ∷ [])
    ++ map (λ (i : ℕ). end_wrong (version 1 9 0) (won 1 i) 1) (4 ∷ 254 ∷ [])
    ≡ true ∷ false ∷ false ∷ false ∷ false ∷ true ∷ true ∷ false ∷ false ∷ []
unfolding won end_wrong initiator_wrong gte_of above
wrong_ends = refl
