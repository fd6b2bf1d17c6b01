-- Worked examples of a newer recorder's ends, as computed tables.
-- Assumes nothing.
use mathlib.Core.Path.{◌≡◌, refl}
use mathlib.Core.Bool.{true, false}
use mathlib.Core.List.{List, [], ◌∷◌, ◌++◌}
use Prim.Native.Nat.{ℕ}
use lib.ListN.{replicate}
use Rattle.wire.specs.Wire.{keep}
use Rattle.format.specs.File.{Ev}
use Rattle.format.specs.Refusal.{one_of}
use Rattle.format.specs.Version.{version, above, gte_of}
use Rattle.format.specs.declared.version.Version.{Version}
use Rattle.layout.specs.Payloads.{end_size}
use Rattle.ending.specs.End.{initiator_wrong}
use Rattle.grammar.specs.Productions.{end_event}
use Rattle.grammar.specs.Machine.{family_of, on_family}
use Rattle.known.specs.Known.{is_known, known_size, known_of}
use Rattle.newer_ends.specs.Ends.{end_here, right_at}

abbrev newer : Version
newer = version 3 19 7

-- an event of an unknown code
abbrev odd : Ev
odd = record { code = 0x42; payload = 9 ∷ [] }

-- two ends of eight bytes that differ behind the sixth, unknown events before, between and behind
known_ends :
    known_of newer (odd ∷ end_event (2 ∷ 255 ∷ 0 ∷ 1 ∷ 2 ∷ 3 ∷ 8 ∷ 8 ∷ []) ∷ odd ∷ end_event (2 ∷ 255 ∷ 0 ∷ 1 ∷ 2 ∷ 3 ∷ 9 ∷ 9 ∷ []) ∷ odd ∷ [])
    ≡ end_event (2 ∷ 255 ∷ 0 ∷ 1 ∷ 2 ∷ 3 ∷ []) ∷ end_event (2 ∷ 255 ∷ 0 ∷ 1 ∷ 2 ∷ 3 ∷ []) ∷ []
unfolding known_of is_known known_size family_of on_family end_size keep one_of gte_of above
known_ends = refl

-- spans by code, where ends have this one
only : ℕ → List ℕ
only span = replicate 0x39 0 ++ (span ∷ replicate 198 0)

-- an end of seven bytes, of six, of five, with an initiator that there is not, and another event
right_ends :
    right_at newer (0x39 ∷ 2 ∷ 3 ∷ 0 ∷ 0 ∷ 0 ∷ 0 ∷ 7 ∷ []) (only 8) 8 0
    ∷ right_at newer (0x39 ∷ 2 ∷ 255 ∷ 0 ∷ 0 ∷ 0 ∷ 0 ∷ []) (only 7) 7 0
    ∷ right_at newer (0x39 ∷ 2 ∷ 255 ∷ 0 ∷ 0 ∷ 0 ∷ []) (only 6) 6 0
    ∷ right_at newer (0x39 ∷ 2 ∷ 4 ∷ 0 ∷ 0 ∷ 0 ∷ 0 ∷ []) (only 7) 7 0
    ∷ right_at newer (0x3C ∷ 2 ∷ 3 ∷ 0 ∷ 0 ∷ 0 ∷ 0 ∷ []) (only 7) 7 0
    ∷ []
    ≡ true ∷ true ∷ false ∷ false ∷ false ∷ []
unfolding only right_at end_here initiator_wrong end_size gte_of above
right_ends = refl
