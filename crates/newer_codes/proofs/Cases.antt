-- Worked examples of a newer recorder's blocks of codes, as computed tables.
-- Assumes nothing.
use mathlib.Core.Path.{◌≡◌, refl}
use mathlib.Core.List.{List, [], ◌∷◌, ◌++◌, map}
use mathlib.Core.Option.{none, some}
use Prim.Native.Nat.{ℕ, ◌-◌}
use lib.ListN.{replicate}
use Rattle.wire.specs.Wire.{be, keep, more, part}
use Rattle.format.specs.File.{Ev, events_bytes}
use Rattle.format.specs.Refusal.{one_of}
use Rattle.format.specs.Version.{version, above, gte_of}
use Rattle.format.specs.declared.version.Version.{Version}
use Rattle.layout.specs.Payloads.{end_size}
use Rattle.grammar.specs.Productions.{end_event}
use Rattle.grammar.specs.Machine.{family_of, on_family}
use Rattle.grammar.specs.Whole.{is_block, is_last, is_full, blocks_rest, codes_rest}
use Rattle.read_outline.specs.declared.answer.Codes.TheVariants as codes
use Rattle.known.specs.Known.{is_known, known_size, known_of}
use Rattle.newer_codes.specs.Codes.{block_at, full_at, last_at, last_block}

abbrev newer : Version
newer = version 3 19 7

-- an event of an unknown code
abbrev odd : Ev
odd = record { code = 0x42; payload = 9 ∷ [] }

-- a block with this many codes, with this flag, and as many bytes more than 3.18 has
block : ℕ → ℕ → ℕ → Ev
block used flag extra = record { code = 0x10; payload = replicate 512 7 ++ (be 2 used ++ (0x3D ∷ flag ∷ replicate extra 5)) }

-- unknown events before, between and behind, and longer blocks; none; a last block that is missing; an event 3D
known_rest :
    map (λ (es : List Ev). codes_rest newer (known_of newer es))
    ((odd ∷ block 512 0 3 ∷ odd ∷ odd ∷ block 1 1 3 ∷ odd ∷ end_event (0 ∷ []) ∷ [])
    ∷ (odd ∷ odd ∷ [])
    ∷ (block 512 0 3 ∷ odd ∷ [])
    ∷ (block 512 0 3 ∷ record { code = 0x3D; payload = [] } ∷ block 1 1 3 ∷ [])
    ∷ [])
    ≡ some (end_event (0 ∷ []) ∷ []) ∷ some [] ∷ none ∷ none ∷ []
unfolding block codes_rest blocks_rest is_block is_last is_full known_of is_known known_size family_of on_family end_size keep one_of be part more gte_of above
known_rest = refl

-- spans by code, where blocks have this one
only : ℕ → List ℕ
only span = replicate 0x10 0 ++ (span ∷ replicate 239 0)

-- the last block after one full one: longer than 3.18's, just as long, one byte short, none at all, and empty
last_blocks :
    last_block (events_bytes (block 5 1 3 ∷ [])) (only 520) 520 0 1
    ∷ last_block (events_bytes (block 5 1 0 ∷ [])) (only 517) 517 0 1
    ∷ last_block (events_bytes (block 5 1 0 ∷ [])) (only 516) 516 0 1
    ∷ last_block (events_bytes (odd ∷ [])) (only 517) 2 0 1
    ∷ last_block [] (only 517) 0 0 1
    ∷ last_block (events_bytes (block 0 1 0 ∷ [])) (only 517) 517 0 1
    ∷ []
    ≡ codes.Ended 520 2 517 ∷ codes.Ended 517 2 517 ∷ codes.Wrong ∷ codes.Wrong ∷ codes.Wrong ∷ codes.Wrong ∷ []
unfolding block only events_bytes last_block last_at full_at block_at be part more
last_blocks = refl
