-- A store filled in one pass over events, and by the tree.
-- Assumes nothing.
use Rattle.std.specs.Prelude.{ℕ, ◌+◌, cond, List, [], ◌∷◌, ◌++◌, map, eqb, drop}
use Rattle.wire.specs.Wire.{keep}
use Rattle.format.specs.Event.{code_of}
use Rattle.format.specs.File.{Ev}
use Rattle.format.specs.declared.version.Version.{Version}
use Rattle.layout.specs.Columns.{has_family}
use Rattle.layout.specs.Payloads.{event_of}
use Rattle.layout.specs.declared.columns.Family.{Family}
use Rattle.layout.specs.declared.columns.Family.TheVariants.{Pre, Post, FrameStart, Item, FrameEnd, FodPlatform, DreamlandWhispy, StadiumTransformation}
use Rattle.record.specs.Record.{read_back}
use Rattle.grammar.specs.Productions.{Frame}

-- the loop: each event of the family fills the next row with what stands behind its id
unfoldable pub fill : Family → List ℕ → ℕ → List Ev → List ℕ → ℕ → List ℕ
fill family ws stride [] cells row = cells
fill family ws stride (e ∷ es) cells row =
    cond (eqb e.code (code_of (event_of family)))
    (fill family ws stride es (read_back ws (drop 4 e.payload) cells stride row) (row + 1))
    (fill family ws stride es cells row)

-- a frame's rows of a family, as they stand behind the id
abbrev pub bodies_in : Version → Frame → Family → List (List ℕ)
bodies_in v f FrameStart = keep (has_family v FrameStart) (f.start ∷ [])
bodies_in v f Pre = map (λ p. p.port ∷ p.follower ∷ p.pre) f.players
bodies_in v f FodPlatform = f.fods
bodies_in v f DreamlandWhispy = f.whispys
bodies_in v f StadiumTransformation = f.stadiums
bodies_in v f Item = f.items
bodies_in v f Post = map (λ p. p.port ∷ p.follower ∷ p.post) f.players
bodies_in v f FrameEnd = keep (has_family v FrameEnd) (f.end ∷ [])

-- and those of all frames
unfoldable pub bodies_of : Version → Family → List Frame → List (List ℕ)
bodies_of v family [] = []
bodies_of v family (f ∷ fs) = bodies_in v f family ++ bodies_of v family fs
