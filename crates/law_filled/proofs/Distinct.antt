-- A frame's players have each its own slot, and what a player's event says is the player's.
-- Assumes nothing.
use mathlib.Core.Path.{◌≡◌, refl, sym}
use mathlib.Core.Bool.{Bool, true, false, ◌&&◌, ◌||◌}
use mathlib.Core.List.{List, [], ◌∷◌, ◌++◌, map}
use Prim.Native.Nat.{ℕ, ◌<◌}
use native.Mathlib.Omega.{arith}
use borrow.Author.Tests.{ltb-true, eqb-true, ne_eqb}
use lib.Dec.{eqb, ltb}
use Rattle.wire.specs.Wire.{be}
use Rattle.format.proofs.Versions.{no_way}
use Rattle.layout.specs.declared.columns.Family.{Family}
use Rattle.grammar.specs.Productions.{Player, row_event}
use Rattle.grammar.specs.WellFormed.{slot_of, may_precede, may_come, InOrder, ascending}
use Rattle.columns.specs.Columns.{holds}
use Rattle.read_event.specs.Inner.{told_by}

-- what a player's event says
module _ (g : Family) (id port follower : ℕ) (b : List ℕ) where
  pub told_port : (told_by (row_event g id (port ∷ follower ∷ b))).port ≡ port
  unfolding be
  told_port = refl

  pub told_follower : (told_by (row_event g id (port ∷ follower ∷ b))).follower ≡ follower
  unfolding be
  told_follower = refl

  pub told_own : (told_by (row_event g id (port ∷ follower ∷ b))).own ≡ b
  unfolding be
  told_own = refl

-- one of these is j
unfoldable pub among : ℕ → List ℕ → Bool
among j [] = false
among j (k ∷ ks) = eqb k j || among j ks

and_both : (a b : Bool) → (a && b) ≡ true → (a ≡ true) × (b ≡ true)
and_both true true e = (refl, refl)
and_both true false e = (refl, e)
and_both false b e = (e, absurd (no_way e))

or_one : (a b : Bool) → (a || b) ≡ true → (a ≡ false → b ≡ true)
or_one true b e = λ h. absurd (no_way (sym h))
or_one false b e = λ h. e

-- what comes next is above all that were seen
above_seen : (j : ℕ) (seen : List ℕ) (k : ℕ) → may_come ascending seen k ≡ true → among j seen ≡ true → j < k
unfolding may_come may_precede among
above_seen j [] k m a = absurd (no_way a)
above_seen j (x ∷ seen) k m a =
    let (here, more) = and_both (ltb x k) (may_come ascending seen k) m in
    go (eqb x j) refl (ltb-true x k here) (λ e. above_seen j seen k more (or_one (eqb x j) (among j seen) a e))
  where
    go : (b : Bool) → eqb x j ≡ b → x < k → (eqb x j ≡ false → j < k) → j < k
    go true e h more = omega (arith, eqb-true x j e)
    go false e h more = more e

among_more : (j : ℕ) (ks t : List ℕ) → among j ks ≡ true → among j (ks ++ t) ≡ true
unfolding among
among_more j [] t a = absurd (no_way a)
among_more j (k ∷ ks) t a = go (eqb k j) refl (λ e. among_more j ks t (or_one (eqb k j) (among j ks) a e))
  where
    go : (b : Bool) → eqb k j ≡ b → (eqb k j ≡ false → among j (ks ++ t) ≡ true) → (eqb k j || among j (ks ++ t)) ≡ true
    go true e more = rw e
    go false e more = rw e (more e)

-- no slot that was seen comes again
pub never_again : (j : ℕ) (seen : List ℕ) (ps : List Player) → InOrder ascending seen (map slot_of ps) → among j seen ≡ true → holds j ps ≡ false
unfolding InOrder holds
never_again j seen [] o a = refl
never_again j seen (q ∷ ps) o a =
    let l = above_seen j seen (slot_of q) o.0 a in
    rw (ne_eqb (slot_of q) j (λ e. omega arith)) (never_again j (seen ++ (slot_of q ∷ [])) ps o.1 (among_more j seen (slot_of q ∷ []) a))
