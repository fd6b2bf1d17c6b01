-- The limits before 2.2 by the tree: frames with somebody in them are all there, and neighbouring ones have unlike ids.
-- Assumes nothing.
use Prim.Native.Nat.{ℕ, zero, suc, ◌+◌, ◌≤◌, ◌<◌}
use mathlib.Core.Path.{◌≡◌, refl, ap, subst}
use mathlib.Core.Bool.{Bool, true, false, not, ◌||◌}
use mathlib.Core.List.{List, [], ◌∷◌}
use native.Mathlib.Omega.{arith}
use native.Mathlib.Decide.{ℕ_discrete}
use borrow.Author.Tests.{ne_eqb}
use lib.Dec.{eqb}
use lib.ListN.{length, get_or, length-append}
use Rattle.wire.specs.Wire.{ranged, keep}
use Rattle.wire.proofs.Laws.{ranged_same}
use Rattle.layout.specs.Columns.{has_family}
use Rattle.layout.specs.declared.columns.Family.TheVariants.{FrameStart}
use Rattle.game.specs.Frames.{no_slot, slots_of}
use Rattle.game.specs.Stores.{Lent}
use Rattle.players.specs.Presence.{present_at}
use Rattle.game.specs.declared.frames.Frames.{Frames}
use Rattle.grammar.specs.Productions.{Frame}
use Rattle.grammar.specs.Readable.{Changing}
use Rattle.law_tree.specs.Tree.{player_at, players_in, frame_of, shows, frames_of}
use Rattle.law_saved.specs.Admitted.{Somebody}

-- a part of a range is no longer than all of it
within : {A : Type 0} (f : ℕ → List A) (i n k : ℕ) → i ≤ k → k < i + n → length (f k) ≤ length (ranged f i n)
unfolding ranged
within f i zero k l h = absurd (omega arith)
within f i (suc n) k l h = elim (ℕ_discrete i k) [
  | yes e ↦ let same = ap (λ (j : ℕ). length (f j)) e in omega (arith, length-append (f i) (ranged f (i + 1) n), same)
  | no ne ↦ omega (arith, length-append (f i) (ranged f (i + 1) n), within f (i + 1) n k (omega (arith, l, ne)) (omega (arith, h)))
]

kept_one : {A : Type 0} (b : Bool) (x : A) → b ≡ true → length (keep b (x ∷ [])) ≡ 1
unfolding keep
kept_one b x e = rw e

or_true : (a b : Bool) → b ≡ true → (a || b) ≡ true
or_true true b e = refl
or_true false b e = e

pub somebody_shows : (f : Frames) (s : Lent) (i : ℕ) → Somebody f s i → shows f s i ≡ true
unfolding shows players_in
somebody_shows f s i w =
    let some = within (λ k. keep (present_at s.presence (get_or (slots_of f) k no_slot) i) (player_at f s i k ∷ [])) 0 (length (slots_of f)) w.slot (omega arith) (omega (arith, w.there)) in
    let one = kept_one (present_at s.presence (get_or (slots_of f) w.slot no_slot) i) (player_at f s i w.slot) w.present in
    or_true (has_family f.version FrameStart) _ (ap not (ne_eqb (length (players_in f s i)) 0 (λ z. absurd (omega (arith, some, one, z)))))

-- frames one after another
unlike : (at : ℕ → Frame) (i n : ℕ) → ((j : ℕ) → i ≤ j → j + 1 < i + n → (at j).id ≡ (at (j + 1)).id → ⊥) → Changing (ranged (λ j. at j ∷ []) i n)
unfolding ranged Changing
unlike at i zero h = tt
unlike at i (suc zero) h = tt
unlike at i (suc (suc n)) h = (h i (omega arith) (omega arith), unlike at (i + 1) (suc n) (λ j l m. h j (omega (arith, l)) (omega (arith, m))))

pub changing_frames : (f : Frames) (s : Lent) → ((i : ℕ) → i < f.counts.frames → shows f s i ≡ true)
    → ((i : ℕ) → i + 1 < f.counts.frames → get_or s.cells.ids i 0 ≡ get_or s.cells.ids (i + 1) 0 → ⊥) → Changing (frames_of f s)
unfolding frames_of keep
changing_frames f s all h =
    let same : ranged (λ i. frame_of f s i ∷ []) 0 f.counts.frames ≡ frames_of f s = ranged_same _ _ 0 f.counts.frames (λ i _ l. rw (all i (omega (arith, l)))) in
    subst Changing same (unlike (frame_of f s) 0 f.counts.frames (λ j _ m. h j (omega (arith, m))))
