-- What is read of a newer recorder's events (2026-12): those whose codes 3.18 knows, and of their payloads as many bytes as 3.18 has.
-- Assumes nothing.
use Rattle.std.specs.Prelude.{ℕ, Bool, not, cond, ◌&&◌, List, [], ◌∷◌, ◌++◌, map, eqb, length, take}
use Rattle.wire.specs.Wire.{keep}
use Rattle.format.specs.Event.{code_of}
use Rattle.format.specs.File.{Ev}
use Rattle.format.specs.Refusal.{one_of}
use Rattle.format.specs.Version.{accepted_of}
use Rattle.format.specs.declared.event.Event.{Event}
use Rattle.format.specs.declared.event.Event.TheVariants.{Payloads, GameEnd, MessageSplitter}
use Rattle.format.specs.declared.version.Version.{Version}
use Rattle.layout.specs.Payloads.{order, record_size, end_size}
use Rattle.grammar.specs.Machine.{family_of, on_family}

-- above 3.18.0, with the major number 3
unfoldable pub is_newer : Version → Bool
is_newer v = eqb v.major 3 && not (accepted_of v)

-- a code that has a name up to 3.18
unfoldable pub is_known : ℕ → Bool
is_known c = one_of (map (λ (e : Event). eqb c (code_of e)) (Payloads ∷ order))

-- how many bytes of its payload are known: a record's, an end's and a code block's; of others all
unfoldable pub known_size : Version → Ev → ℕ
known_size v e =
    on_family (family_of e.code) (λ family. record_size family v)
    (cond (eqb e.code (code_of GameEnd)) (end_size v) (cond (eqb e.code (code_of MessageSplitter)) 516 (length e.payload)))

abbrev pub front : Version → Ev → Ev
front v e = record { code = e.code; payload = take (known_size v e) e.payload }

unfoldable pub known_of : Version → List Ev → List Ev
known_of v [] = []
known_of v (e ∷ es) = keep (is_known e.code) (front v e ∷ []) ++ known_of v es

-- up to 3.18.0 all events are what they are
unfoldable pub taken : Version → List Ev → List Ev
taken v es = cond (accepted_of v) es (known_of v es)
