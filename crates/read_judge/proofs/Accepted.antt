-- Where the version is accepted all events are taken: those of the replay that a file holds are all that the reader finds.
-- Assumes nothing.
use Prim.Native.Nat.{ℕ, ◌<◌}
use mathlib.Core.Path.{◌≡◌, refl, sym, ◌∙◌}
use mathlib.Core.Bool.{Bool, true, false, not, cond}
use mathlib.Core.List.{List, [], ◌∷◌}
use native.Mathlib.Omega.{arith}
use borrow.Author.Tests.{not-false, eqb-true}
use lib.Dec.{eqb}
use Rattle.format.specs.Refusal.{refuse, lowest}
use Rattle.format.specs.Version.{accepted_of}
use Rattle.format.proofs.Refusals.{passed}
use Rattle.de.specs.Walk.{walk_of}
use Rattle.de.specs.Numbers.{walk_numbers}
use Rattle.de.specs.Cut.{events_read}
use Rattle.de.proofs.Only.{refused_by_number}
use Rattle.grammar.specs.Productions.{Replay, events_of}
use Rattle.known.specs.Known.{taken}
use Rattle.known.proofs.Newest.{same_events}
use Rattle.read_judge.specs.Found.{opens_wrong, version_of, early_refusal, Found}

after_walk : (kind number rest : ℕ) → (kind ≡ 1 → 0 < number) → cond (eqb kind 1) number rest ≡ 0 → rest ≡ 0
after_walk kind number rest named = go (eqb kind 1) refl
  where
    go : (b : Bool) → eqb kind 1 ≡ b → cond b number rest ≡ 0 → rest ≡ 0
    go true q e = absurd (let some = named (eqb-true kind 1 q) in omega arith)
    go false q e = e

-- a file that is not refused before there is a replay says an accepted version
pub version_accepted : (f : List ℕ) → early_refusal f ≡ 0 → accepted_of (version_of f) ≡ true
unfolding early_refusal lowest
version_accepted f e =
    let w = walk_numbers (walk_of f) in
    let last = refuse 1 (not (accepted_of (version_of f))) ∷ [] in
    let opens = opens_wrong (events_read f) in
    let late = after_walk w.kind w.number (lowest (refuse 19 opens ∷ last)) (refused_by_number f) e in
    not-false (accepted_of (version_of f)) (passed 0 (not (accepted_of (version_of f))) [] (passed 18 opens last late).1).0

module _ (f : List ℕ) where
  pub all_events : accepted_of (version_of f) ≡ true → (x : Found f) → events_read f ≡ events_of (version_of f) x.replay
  all_events new x = sym (same_events (version_of f) (events_read f) new) ∙ x.events_are

  pub found_events : early_refusal f ≡ 0 → (x : Found f) → events_read f ≡ events_of (version_of f) x.replay
  found_events early = all_events (version_accepted f early)

  -- and so they are those that are taken
  pub all_taken : accepted_of (version_of f) ≡ true → (r : Replay) → events_read f ≡ events_of (version_of f) r → taken (version_of f) (events_read f) ≡ events_of (version_of f) r
  all_taken new r e = same_events (version_of f) (events_read f) new ∙ e
