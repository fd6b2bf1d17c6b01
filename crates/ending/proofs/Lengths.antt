-- How many bytes ends and the tail take.
-- Assumes nothing.
use mathlib.Core.Path.{◌≡◌, refl, sym, ap, ◌∙◌}
use mathlib.Core.Bool.{Bool, true, false, cond}
use mathlib.Core.Logic.{inl, inr}
use mathlib.Core.List.{List, [], ◌∷◌, ◌++◌}
use Prim.Native.Nat.{ℕ, suc, ◌+◌, ◌*◌}
use native.Mathlib.Nat.{zero-mul}
use native.Mathlib.Omega.{arith}
use lib.ListN.{length, length-append}
use Rattle.wire.specs.Wire.{keep}
use Rattle.wire.proofs.Laws.{length_ranged, length_kept}
use Rattle.format.specs.Version.{has_initiator, has_placements}
use Rattle.format.specs.Mark.{yes}
use Rattle.format.specs.File.{event_bytes, events_bytes}
use Rattle.format.specs.declared.version.Version.{Version}
use Rattle.format.proofs.Versions.{gte_holds, gte_fails, no_way}
use Rattle.layout.specs.Payloads.{end_size}
use Rattle.ending.specs.End.{initiator_bytes, placement_of, placements_of, end_of, end_events}
use Rattle.ending.specs.Tail.{metadata_of, tail_of}
use Rattle.ending.specs.Inner.{end_count}
use Rattle.game.specs.declared.end.End.{End}
use Rattle.ending.proofs.Laws.{ends_bytes_lem}

-- ---- ends

-- 3.13 is above 2.0
later : (v : Version) → has_placements v ≡ true → has_initiator v ≡ true
later v p = go (has_initiator v) refl
  where
    go : (b : Bool) → has_initiator v ≡ b → b ≡ true
    go true e = refl
    go false e =
        let low = gte_fails v 2 0 e in
        elim (gte_holds v 3 13 p) [
          | inl h ↦ absurd (omega arith)
          | inr h ↦ absurd (omega arith)
        ]

length_placements : (e : End) → length (placements_of e) ≡ 4
unfolding placements_of
length_placements e = length_ranged (λ i. placement_of e i ∷ []) 1 (λ j. refl) 0 4

pub length_end : (v : Version) (e : End) → length (end_of v e).payload ≡ end_size v
unfolding end_of end_size
length_end v e =
    simp (length-append, length_kept (has_initiator v) (initiator_bytes e) 1 (λ t. refl), length_kept (has_placements v) (placements_of e) 4 (λ t. length_placements e))
    (go (has_placements v) refl (has_initiator v) refl)
  where
    go : (s : Bool) → has_placements v ≡ s → (t : Bool) → has_initiator v ≡ t → suc (cond t 1 0 + cond s 4 0) ≡ cond s 6 (cond t 2 1)
    go true x true y = refl
    go true x false y = no_way (sym y ∙ later v x)
    go false x true y = refl
    go false x false y = refl

pub length_ends : (v : Version) (e : End) (double : ℕ) → length (events_bytes (end_events v e double)) ≡ end_count e double * (1 + end_size v)
unfolding keep
length_ends v e double = ap length (ends_bytes_lem v e double) ∙ go (yes e.given) (yes double)
  where
    go : (s t : Bool)
        → length (keep s (event_bytes (end_of v e) ++ keep t (event_bytes (end_of v e)))) ≡ cond s (cond t 2 1) 0 * (1 + end_size v)
    go true true = simp (length-append, length_end v e) (omega arith)
    go true false = simp (length-append, length_end v e) (omega arith)
    go false t = rw zero-mul

-- ---- the tail

pub length_tail : (given : Bool) (metadata : List ℕ) → length (tail_of given metadata) ≡ cond given (13 + length metadata) 1
unfolding tail_of metadata_of keep
length_tail true metadata = simp length-append (omega arith)
length_tail false metadata = refl
