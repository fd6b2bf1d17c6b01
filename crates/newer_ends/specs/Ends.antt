-- What functions promise each other of a newer recorder's ends: by bytes, and by the events that are known.
-- Assumes nothing.
use Rattle.std.specs.Prelude.{ℕ, ◌+◌, ◌≡◌, Bool, true, not, ◌&&◌, List, [], ◌∷◌, map, ◌↔◌, ltb, eqb, length, get_or}
use Rattle.wire.specs.Wire.{part}
use Rattle.format.specs.Event.{code_of}
use Rattle.format.specs.File.{Ev}
use Rattle.format.specs.declared.event.Event.TheVariants.{GameEnd}
use Rattle.format.specs.declared.version.Version.{Version}
use Rattle.layout.specs.Payloads.{end_size}
use Rattle.ending.specs.End.{initiator_wrong}
use Rattle.grammar.specs.Productions.{end_event}
use Rattle.read_outline.proofs.Same.{GoodEnds}
use Rattle.read_judge.specs.Inner.{EndAt}
use Rattle.known.specs.Known.{known_of}
use Rattle.newer_ends.specs.declared.answer.Ends.{Ends}
use Rattle.newer_ends.specs.declared.answer.Ends.TheVariants as ends

-- ---- by bytes

abbrev pub end_span : List ℕ → ℕ
end_span spans = get_or spans (code_of GameEnd) 0

module _ (v : Version) (file spans : List ℕ) (stop at : ℕ) where
  -- an end of the version's size at least
  unfoldable pub end_here : Bool
  end_here = ltb at stop && (eqb (get_or file at 0) (code_of GameEnd) && ltb (end_size v) (end_span spans))

  -- with an initiator that it may name
  unfoldable pub right_at : Bool
  right_at = end_here && not (initiator_wrong (get_or file (at + 2) 0))

-- ---- by events

-- the answer says whether all that is known of the events is an end with the payload that stands at a place
abbrev pub Again : Version → List ℕ → ℕ → List Ev → Bool → Type 0
Again v file payload raw r = (r ≡ true) ↔ (known_of v raw ≡ end_event (part file payload (end_size v)) ∷ [])

-- ends are all that is known of the events, and the first one's payload stands at a place
pub record EndsGood (file : List ℕ) (v : Version) (raw : List Ev) (count at : ℕ) : Type 0 where
  pub payloads : List (List ℕ)
  pub known_are : known_of v raw ≡ map end_event payloads
  pub good : GoodEnds v payloads
  pub count_is : count ≡ length payloads
  pub stands : EndAt file v at payloads
  pub none_at : count ≡ 0 → at ≡ 0

abbrev pub EndsRead : List ℕ → Version → List Ev → Ends → Type 0
EndsRead file v raw (ends.Good count at) = EndsGood file v raw count at
EndsRead file v raw ends.Wrong = (payloads : List (List ℕ)) → GoodEnds v payloads → known_of v raw ≡ map end_event payloads → ⊥
