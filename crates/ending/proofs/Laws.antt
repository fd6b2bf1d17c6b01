-- The bytes of ends, part by part, and what makes an end wrong.
-- Assumes nothing.
use mathlib.Core.Path.{◌≡◌, refl, ap, ◌∙◌}
use mathlib.Core.Bool.{Bool, true, false, ◌&&◌, ◌||◌}
use mathlib.Core.List.{List, [], ◌∷◌, ◌++◌}
use Prim.Native.Nat.{ℕ}
use borrow.Author.Tests.{eq-eqb, ne_eqb}
use Rattle.wire.specs.Wire.{keep}
use Rattle.format.specs.Version.{has_initiator, has_placements}
use Rattle.format.specs.Mark.{yes}
use Rattle.format.specs.Event.{code_of}
use Rattle.format.specs.File.{event_bytes, events_bytes}
use Rattle.format.specs.declared.version.Version.{Version}
use Rattle.format.specs.declared.event.Event.TheVariants.{GameEnd}
use Rattle.format.proofs.Files.{events_cons, events_keep, events_one}
use Rattle.ending.specs.End.{initiator_bytes, placements_of, end_of, end_events, initiator_wrong, end_wrong}
use Rattle.game.specs.declared.end.End.{End}

pub end_parts_lem : (v : Version) (e : End) (c : ℕ) → c ≡ code_of GameEnd
    → event_bytes (end_of v e) ≡ (c ∷ []) ++ ((e.method ∷ []) ++ (keep (has_initiator v) (initiator_bytes e) ++ keep (has_placements v) (placements_of e)))
unfolding end_of
end_parts_lem v e c q = rw q

pub ends_bytes_lem : (v : Version) (e : End) (double : ℕ)
    → events_bytes (end_events v e double) ≡ keep (yes e.given) (event_bytes (end_of v e) ++ keep (yes double) (event_bytes (end_of v e)))
unfolding end_events
ends_bytes_lem v e double =
    let once = end_of v e ∷ [] in
    let twice = end_of v e ∷ keep (yes double) once in
    events_keep (yes e.given) twice
    ∙ ap (keep (yes e.given)) (events_cons (end_of v e) (keep (yes double) once) ∙ ap (λ (l : List ℕ). event_bytes (end_of v e) ++ l) (events_keep (yes double) once ∙ ap (keep (yes double)) (events_one (end_of v e))))

-- where there is no end, only doubling it is wrong; where there is one, only its initiator
pub wrong_without : (v : Version) (e : End) (double : ℕ) → e.given ≡ 0 → yes double ≡ end_wrong v e double
unfolding end_wrong
wrong_without v e double h = rw (eq-eqb e.given 0 h) (go (yes double))
  where
    go : (b : Bool) → b ≡ (b && true) || false
    go true = refl
    go false = refl

pub wrong_with : (v : Version) (e : End) (double : ℕ) (later : Bool) → (e.given ≡ 0 → ⊥) → has_initiator v ≡ later
    → later && initiator_wrong e.initiator ≡ end_wrong v e double
unfolding end_wrong
wrong_with v e double later h q = rw (ne_eqb e.given 0 h, q) (go (yes double) (later && initiator_wrong e.initiator))
  where
    go : (b x : Bool) → x ≡ (b && false) || x
    go true x = refl
    go false x = refl
