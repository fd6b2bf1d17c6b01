-- Who is in a frame, by its players and by the presence bits of slots; and the row of a slot that is present.
-- Assumes nothing.
use mathlib.Core.Path.{◌≡◌, refl, ap, ap₂, ◌∙◌}
use mathlib.Core.Bool.{Bool, true, false, ◌&&◌, ◌||◌}
use mathlib.Core.List.{List, [], ◌∷◌, ◌++◌}
use Prim.Native.Nat.{ℕ, zero, suc, ◌+◌, ◌≤◌, ◌<◌}
use native.Mathlib.Decide.{ℕ_discrete}
use native.Mathlib.Numerals.{add-one}
use native.Mathlib.Omega.{arith}
use borrow.Author.Tests.{eq-eqb, ne_eqb, ltb-true}
use lib.Dec.{eqb}
use lib.ListN.{length, get_or}
use Rattle.wire.specs.Wire.{ranged, keep}
use Rattle.wire.proofs.Laws.{ranged_same}
use Rattle.format.proofs.Versions.{no_way}
use Rattle.layout.specs.declared.columns.Family.{Family}
use Rattle.game.specs.Frames.{Slot, no_slot, no_port, slots_of}
use Rattle.game.specs.Stores.{Lent}
use Rattle.game.specs.declared.frames.Frames.{Frames}
use Rattle.players.specs.Presence.{present_at}
use Rattle.frames.specs.Inner.{Ported}
use Rattle.grammar.specs.Productions.{Player}
use Rattle.grammar.specs.WellFormed.{ascending, slot_of, may_precede}
use Rattle.columns.specs.Columns.{holds, row_by, slot_row, slot_number}
use Rattle.law_tree.specs.Tree.{player_at, players_in}
use Rattle.law_tree.proofs.Lists.{chain_next, chain_far}
use Rattle.law_tree.proofs.Slots.{PortBefore, Next, Far, slots_chained}
use Rattle.law_columns.specs.Returned.{shown_by, in_frame}
use Rattle.law_columns.proofs.Lists.{ranged_shift}

-- ---- who is there

holds_both : (k : ℕ) (ps qs : List Player) → holds k (ps ++ qs) ≡ (holds k ps || holds k qs)
unfolding holds
holds_both k [] qs = refl
holds_both k (p ∷ ps) qs = go (eqb (slot_of p) k) (holds_both k ps qs)
  where
    go : (b : Bool) → holds k (ps ++ qs) ≡ (holds k ps || holds k qs) → (b || holds k (ps ++ qs)) ≡ ((b || holds k ps) || holds k qs)
    go true e = refl
    go false e = e

alone : (c : Bool) → (c || false) ≡ (c && true)
alone true = refl
alone false = refl

never : (c : Bool) → false ≡ (c && false)
never true = refl
never false = refl

holds_one : (k : ℕ) (b : Bool) (p : Player) → holds k (keep b (p ∷ [])) ≡ (eqb (slot_of p) k && b)
unfolding holds keep
holds_one k true p = alone (eqb (slot_of p) k)
holds_one k false p = never (eqb (slot_of p) k)

module _ (bits : List ℕ) (i k : ℕ) where
  shown_ranged : (ss : List Slot) (pl : ℕ → Player) → ((j : ℕ) → slot_of (pl j) ≡ slot_number (get_or ss j no_slot))
      → holds k (ranged (λ j. keep (present_at bits (get_or ss j no_slot) i) (pl j ∷ [])) 0 (length ss)) ≡ shown_by bits ss k i
  unfolding ranged shown_by holds
  shown_ranged [] pl e = refl
  shown_ranged (s ∷ ss) pl e =
      let rest = ranged (λ j. keep (present_at bits (get_or (s ∷ ss) j no_slot) i) (pl j ∷ [])) (0 + 1) (length ss) in
      holds_both k (keep (present_at bits s i) (pl 0 ∷ [])) rest
      ∙ ap₂ (λ (a b : Bool). a || b)
      (holds_one k (present_at bits s i) (pl 0) ∙ ap (λ (n : ℕ). eqb n k && present_at bits s i) (e 0))
      (ap (holds k) (ranged_shift (λ j. keep (present_at bits (get_or (s ∷ ss) j no_slot) i) (pl j ∷ [])) 0 (length ss)
      ∙ ranged_same _ (λ j. keep (present_at bits (get_or ss j no_slot) i) (pl (suc j) ∷ [])) 0 (length ss) (λ j l m. rw add-one))
      ∙ shown_ranged ss (λ j. pl (suc j)) (λ j. e (suc j)))

-- of any input, by its tree
pub shown_by_lem : (f : Frames) (s : Lent) (k i : ℕ) → holds k (players_in f s i) ≡ in_frame f s k i
unfolding players_in
shown_by_lem f s k i = shown_ranged s.presence i k (slots_of f) (player_at f s i) (λ j. refl)

-- ---- the row of a slot, where no slot before it has its number

front_taken : (family : Family) (k : ℕ) (c : Bool) (x : Player) (rest : List Player) → c ≡ true → slot_of x ≡ k → slot_row family k (keep c (x ∷ []) ++ rest) ≡ row_by family x
unfolding keep slot_row
front_taken family k true x rest e is = rw (eq-eqb (slot_of x) k is)
front_taken family k false x rest e is = no_way e

front_passed : (family : Family) (k : ℕ) (c : Bool) (x : Player) (rest : List Player) → (slot_of x ≡ k → ⊥) → slot_row family k (keep c (x ∷ []) ++ rest) ≡ slot_row family k rest
unfolding keep slot_row
front_passed family k true x rest n = rw (ne_eqb (slot_of x) k n)
front_passed family k false x rest n = refl

module _ (family : Family) (k : ℕ) (p : ℕ → Bool) (pl : ℕ → Player) where
  abbrev taken : ℕ → List Player
  taken j = keep (p j) (pl j ∷ [])

  pub row_of : (a m j : ℕ) → a ≤ j → j < a + m → p j ≡ true → slot_of (pl j) ≡ k → ((q : ℕ) → a ≤ q → q < j → slot_of (pl q) ≡ k → ⊥)
      → slot_row family k (ranged taken a m) ≡ row_by family (pl j)
  unfolding ranged
  row_of a zero j l h e is first = absurd (omega arith)
  row_of a (suc m) j l h e is first =
      elim (ℕ_discrete a j) [
        | yes q ↦
            front_taken family k (p a) (pl a) (ranged taken (a + 1) m) (ap p q ∙ e) (ap (λ (n : ℕ). slot_of (pl n)) q ∙ is) ∙ ap (λ (n : ℕ). row_by family (pl n)) q
        | no q ↦
            front_passed family k (p a) (pl a) (ranged taken (a + 1) m) (first a (omega arith) (omega arith))
            ∙ row_of (a + 1) m j (omega arith) (omega arith) e is (λ q' l' m'. first q' (omega arith) m')
      ]

-- ---- slots in order of their numbers

pub slots_rise : (f : Frames) → Ported f → ((j k : ℕ) → j < k → k < f.port_count → PortBefore ascending (get_or f.ports j no_port).port (get_or f.ports k no_port).port)
    → (q j : ℕ) → q < j → j < length (slots_of f) → slot_number (get_or (slots_of f) q no_slot) < slot_number (get_or (slots_of f) j no_slot)
unfolding may_precede
slots_rise f h order q j l m =
    let chain = slots_chained f h ascending order in
    let low = slot_number (get_or (slots_of f) q no_slot) in
    let high = slot_number (get_or (slots_of f) j no_slot) in
    elim (ℕ_discrete (q + 1) j) [
      | yes e ↦ ltb-true low high (rw e at (chain_next (Next ascending) (Far ascending) no_slot (slots_of f) chain q (omega arith)))
      | no e ↦ ltb-true low high (chain_far (Next ascending) (Far ascending) no_slot (slots_of f) chain q j (omega arith) m)
    ]
