-- Worked examples of codes and ends in bytes, as computed tables.
-- Assumes nothing.
use mathlib.Core.Path.{◌≡◌, refl}
use mathlib.Core.Bool.{true, false}
use mathlib.Core.List.{List, [], ◌∷◌, ◌++◌, map}
use Prim.Native.Nat.{ℕ, ◌-◌}
use lib.ListN.{length, replicate}
use Rattle.wire.specs.Wire.{be, more, part}
use Rattle.format.specs.Version.{version, above, gte_of}
use Rattle.format.specs.declared.version.Version.{Version}
use Rattle.layout.specs.Payloads.{end_size}
use Rattle.ending.specs.End.{initiator_wrong}
use Rattle.read_outline.specs.End.{mark_by, value_by, initiator_in, placed_in, placements_in, end_in}
use Rattle.read_outline.specs.Listed.{listed_right}
use Rattle.read_outline.specs.Inner.{block_at, full_at, last_at, last_block, blocks_from, codes_at, initiator_at, same_run, end_here, right_at, second_at, ends_at}
use Rattle.read_outline.specs.declared.answer.Codes.TheVariants as codes
use Rattle.read_outline.specs.declared.answer.Ends.TheVariants as ends

-- spans by code, where one code has one
only : ℕ → ℕ → List ℕ
only code span = replicate code 0 ++ (span ∷ replicate (255 - code) 0)

-- none, one, two, two unlike, three, a wrong initiator, one cut, and another event
some_ends :
    map (λ (l : List ℕ). ends_at (version 2 0 0) l (only 0x39 3) 0 (length l))
    ([]
    ∷ (0x39 ∷ 2 ∷ 255 ∷ [])
    ∷ (0x39 ∷ 2 ∷ 3 ∷ 0x39 ∷ 2 ∷ 3 ∷ [])
    ∷ (0x39 ∷ 2 ∷ 3 ∷ 0x39 ∷ 2 ∷ 0 ∷ [])
    ∷ (0x39 ∷ 2 ∷ 3 ∷ 0x39 ∷ 2 ∷ 3 ∷ 0x39 ∷ 2 ∷ 3 ∷ [])
    ∷ (0x39 ∷ 2 ∷ 4 ∷ [])
    ∷ (0x39 ∷ 2 ∷ [])
    ∷ (0x3C ∷ 2 ∷ 3 ∷ [])
    ∷ [])
    ≡ ends.Good 0 ∷ ends.Good 1 ∷ ends.Good 2 ∷ ends.Wrong ∷ ends.Wrong ∷ ends.Wrong ∷ ends.Wrong ∷ ends.Wrong ∷ []
unfolding only ends_at end_here right_at second_at same_run initiator_at initiator_wrong end_size gte_of above
some_ends = refl

-- a payload at the versions where it grows
said : map (λ (v : Version). end_in v (2 ∷ 3 ∷ 0 ∷ 255 ∷ 1 ∷ 255 ∷ [])) (version 1 9 0 ∷ version 2 0 0 ∷ version 3 13 0 ∷ [])
    ≡ record { given = 1; method = 2; initiator = 255; placed = 0 ∷ 0 ∷ 0 ∷ 0 ∷ []; placements = 0 ∷ 0 ∷ 0 ∷ 0 ∷ [] }
    ∷ record { given = 1; method = 2; initiator = 3; placed = 0 ∷ 0 ∷ 0 ∷ 0 ∷ []; placements = 0 ∷ 0 ∷ 0 ∷ 0 ∷ [] }
    ∷ record { given = 1; method = 2; initiator = 3; placed = 1 ∷ 0 ∷ 1 ∷ 0 ∷ []; placements = 0 ∷ 0 ∷ 1 ∷ 0 ∷ [] }
    ∷ []
unfolding end_in initiator_in placed_in placements_in mark_by value_by gte_of above
said = refl

-- a block with this many codes, of this event, with this flag
block : ℕ → ℕ → ℕ → List ℕ
block used event flag = 0x10 ∷ (replicate 512 7 ++ (be 2 used ++ (event ∷ flag ∷ [])))

-- none; another event; one; two; a full block alone; no codes in the last; too many; another flag; another event's block; one cut
some_codes :
    map (λ (l : List ℕ). codes_at (version 3 3 0) l (only 0x10 517) 0 (length l))
    ([]
    ∷ (0x3A ∷ [])
    ∷ block 512 0x3D 1
    ∷ (block 512 0x3D 0 ++ block 1 0x3D 1)
    ∷ block 512 0x3D 0
    ∷ block 0 0x3D 1
    ∷ block 513 0x3D 1
    ∷ block 512 0x3D 2
    ∷ block 512 0x36 1
    ∷ (0x10 ∷ [])
    ∷ [])
    ≡ codes.Ended 0 0 0
    ∷ codes.Ended 0 0 0
    ∷ codes.Ended 517 1 512
    ∷ codes.Ended 1034 2 513
    ∷ codes.Wrong
    ∷ codes.Wrong
    ∷ codes.Wrong
    ∷ codes.Wrong
    ∷ codes.Wrong
    ∷ codes.Wrong
    ∷ []
unfolding only block codes_at blocks_from full_at last_block last_at block_at be part more gte_of above
some_codes = refl

-- before 3.3 there are none
early : codes_at (version 3 2 9) (block 512 0x3D 1) (only 0x10 517) 0 517 ≡ codes.Wrong
unfolding only block codes_at blocks_from full_at last_block last_at block_at be part more gte_of above
early = refl

-- unlisted without and with blocks, listed with the size's two low bytes and with others, and before 3.3
listings :
    listed_right (version 3 3 0) 0 0 0
    ∷ listed_right (version 3 3 0) 0 1 512
    ∷ listed_right (version 3 3 0) 513 1 512
    ∷ listed_right (version 3 3 0) 1 128 65536
    ∷ listed_right (version 3 3 0) 513 1 511
    ∷ listed_right (version 3 2 9) 513 0 512
    ∷ listed_right (version 3 2 9) 513 1 512
    ∷ []
    ≡ true ∷ false ∷ true ∷ true ∷ false ∷ true ∷ false ∷ []
unfolding listed_right gte_of above
listings = refl
