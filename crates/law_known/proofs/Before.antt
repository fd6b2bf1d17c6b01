-- Up to 3.18.0 nothing moves: what a file must say to hold a replay is what it was.
-- Assumes nothing.
use Prim.Native.Nat.{ℕ}
use mathlib.Core.Path.{◌≡◌, sym, ◌∙◌}
use mathlib.Core.Bool.{true}
use mathlib.Core.List.{List}
use mathlib.Core.Logic.{◌↔◌}
use Rattle.format.specs.Version.{accepted_of}
use Rattle.de.specs.Cut.{events_read}
use Rattle.grammar.specs.Productions.{Replay, events_of}
use Rattle.read_judge.specs.Found.{version_of}
use Rattle.known.specs.Known.{taken}
use Rattle.known.proofs.Newest.{same_events}

pub as_before : (f : List ℕ) (r : Replay) → accepted_of (version_of f) ≡ true
    → (taken (version_of f) (events_read f) ≡ events_of (version_of f) r) ↔ (events_read f ≡ events_of (version_of f) r)
as_before f r a = let same = same_events (version_of f) (events_read f) a in (λ e. sym same ∙ e, λ e. same ∙ e)
