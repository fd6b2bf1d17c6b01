-- The slots of an accepted input are in order.
-- Assumes nothing.
use mathlib.Core.Path.{◌≡◌, refl}
use mathlib.Core.Bool.{Bool, true, false, not, ◌&&◌, ◌||◌}
use mathlib.Core.List.{List, [], ◌∷◌, ◌++◌}
use Prim.Native.Nat.{ℕ, zero, suc, ◌+◌, ◌*◌, ◌/◌, ◌≤◌, ◌<◌}
use native.Mathlib.Omega.{arith}
use borrow.Author.Tests.{lt-ltb, ne_eqb}
use lib.Dec.{ltb, eqb}
use lib.ListN.{length, get_or}
use Rattle.wire.specs.Wire.{ranged, keep}
use Rattle.game.specs.Frames.{Slot, slot, no_slot, no_port, slots_of, slots_from, port_slots, port_bytes, ports_of, follows}
use Rattle.frames.specs.Inner.{Ported}
use Rattle.game.specs.declared.frames.Frames.{Frames}
use Rattle.game.specs.declared.frames.PortColumn.{PortColumn}
use Rattle.format.proofs.Versions.{no_way}
use Rattle.game.proofs.Ports.{length_ports, port_at_lem}
use Rattle.grammar.specs.WellFormed.{Each, Order, ascending, anyhow, nobody, may_precede, may_come, InOrder}
use Rattle.grammar.proofs.Tests.{or_true}
use Rattle.grammar.proofs.Each.{each_both, each_keep, each_one, each_more, each_from}
use Rattle.law_tree.proofs.Lists.{Pairs, pairs_from, Chain, chain_more}

-- how a port may stand before another
abbrev pub PortBefore : Order → ℕ → ℕ → Type 0
PortBefore ascending p q = p < q
PortBefore anyhow p q = p ≡ q → ⊥

-- the slot's number, and what is asked of a slot
abbrev pub number_of : Slot → ℕ
number_of s = 2 * s.port + s.follower

abbrev pub Small : Slot → Type 0
Small s = (s.port ≤ 3) × (s.follower ≤ 1)

-- slot s may stand right before slot t; and before it with others between
abbrev pub Next : Order → Slot → Slot → Type 0
Next o s t = may_precede o true (number_of s) (number_of t) ≡ true

abbrev pub Far : Order → Slot → Slot → Type 0
Far o s t = may_precede o false (number_of s) (number_of t) ≡ true

far_any : (o : Order) (right : Bool) (j k : ℕ) → may_precede o false j k ≡ true → may_precede o right j k ≡ true
unfolding may_precede
far_any ascending right j k h = h
far_any anyhow right j k h = go (not (eqb (j / 2) (k / 2))) h
  where
    go : (a : Bool) → a || (false && ltb j k) ≡ true → a || (right && ltb j k) ≡ true
    go true e = refl
    go false e = no_way e

ports_far : (o : Order) (s t : Slot) → s.follower ≤ 1 → t.follower ≤ 1 → PortBefore o s.port t.port → Far o s t
unfolding may_precede
ports_far ascending s t a b h = lt-ltb (number_of s) (number_of t) (omega arith)
ports_far anyhow s t a b h = rw (ne_eqb ((2 * s.port + s.follower) / 2) ((2 * t.port + t.follower) / 2) (λ e. h (omega arith)))

follower_next : (o : Order) (p a b m n : ℕ) → Next o (slot p 0 a m) (slot p 1 b n)
unfolding may_precede
follower_next ascending p a b m n = lt-ltb (2 * p + 0) (2 * p + 1) (omega arith)
follower_next anyhow p a b m n = or_true (not (eqb ((2 * p + 0) / 2) ((2 * p + 1) / 2))) (ltb (2 * p + 0) (2 * p + 1)) (lt-ltb (2 * p + 0) (2 * p + 1) (omega arith))

-- the slots of a port column, and of many
small_port : (at : ℕ) (p : PortColumn) → p.port ≤ 3 → Each Small (port_slots at p)
unfolding port_slots Each
small_port at p h = ((h, omega arith), each_keep Small (follows p) _ (λ e. each_one Small (slot p.port 1 (at + p.leader_presence) p.follower_presence) (h, omega arith)))

small_slots : (at : ℕ) (ps : List PortColumn) → Each (λ p. p.port ≤ 3) ps → Each Small (slots_from at ps)
unfolding slots_from Each
small_slots at [] h = tt
small_slots at (p ∷ ps) h = each_both Small (port_slots at p) _ (small_port at p h.0) (small_slots (at + port_bytes p) ps h.1)

module _ (o : Order) where
  -- a slot far before those of other ports
  far_port : (s : Slot) → s.follower ≤ 1 → (at : ℕ) (p : PortColumn) → PortBefore o s.port p.port → Each (Far o s) (port_slots at p)
  unfolding port_slots
  far_port s f at p h =
      let leader = slot p.port 0 at p.leader_presence in
      let follower = slot p.port 1 (at + p.leader_presence) p.follower_presence in
      each_more (Far o s) leader _ (ports_far o s leader f (omega arith) h)
      (each_keep (Far o s) (follows p) _ (λ e. each_one (Far o s) follower (ports_far o s follower f (omega arith) h)))

  far_slots : (s : Slot) → s.follower ≤ 1 → (at : ℕ) (ps : List PortColumn) → Each (λ p. PortBefore o s.port p.port) ps → Each (Far o s) (slots_from at ps)
  unfolding slots_from Each
  far_slots s f at [] h = tt
  far_slots s f at (p ∷ ps) h = each_both (Far o s) (port_slots at p) _ (far_port s f at p h.0) (far_slots s f (at + port_bytes p) ps h.1)

  far_next : (s t : Slot) → Far o s t → Next o s t
  far_next s t h = far_any o true (number_of s) (number_of t) h

  -- each slot may stand right before the next one, and far before those after it
  chained : (at : ℕ) (ps : List PortColumn) → Pairs (λ (p q : PortColumn). PortBefore o p.port q.port) ps → Chain (Next o) (Far o) (slots_from at ps)
  unfolding slots_from Pairs port_slots Chain keep
  chained at [] h = tt
  chained at (p ∷ ps) h = go (chained (at + port_bytes p) ps h.1) (follows p)
    where
      leader : Slot
      leader = slot p.port 0 at p.leader_presence

      follower : Slot
      follower = slot p.port 1 (at + p.leader_presence) p.follower_presence

      later : List Slot
      later = slots_from (at + port_bytes p) ps

      go : Chain (Next o) (Far o) later → (b : Bool) → Chain (Next o) (Far o) ((leader ∷ keep b (follower ∷ [])) ++ later)
      go rest true = (
        follower_next o p.port at (at + p.leader_presence) p.leader_presence p.follower_presence,
        far_slots leader (omega arith) _ ps h.0,
        chain_more (Next o) (Far o) far_next follower later (far_slots follower (omega arith) _ ps h.0) rest,
      )
      go rest false = chain_more (Next o) (Far o) far_next leader later (far_slots leader (omega arith) _ ps h.0) rest

  -- a slot that all of these may stand far before may come; and so it may where one more stands right before it
  abbrev AllFar : List ℕ → ℕ → Type 0
  AllFar seen k = Each (λ j. may_precede o false j k ≡ true) seen

  may_far : (seen : List ℕ) (k : ℕ) → AllFar seen k → may_come o seen k ≡ true
  unfolding may_come Each
  may_far [] k h = refl
  may_far (j ∷ js) k h = rw (far_any o (nobody js) j k h.0) (may_far js k h.1)

  may_next : (seen : List ℕ) (j k : ℕ) → AllFar seen k → may_precede o true j k ≡ true → may_come o (seen ++ (j ∷ [])) k ≡ true
  unfolding may_come nobody Each
  may_next [] j k h b = rw b
  may_next (i ∷ seen) j k h b = rw (far_any o (nobody (seen ++ (j ∷ []))) i k h.0) (may_next seen j k h.1 b)

  -- slots in order stay so where some are left out
  module _ (present : ℕ → Bool) (slots : List Slot) where
    abbrev at_slot : ℕ → ℕ
    at_slot k = number_of (get_or slots k no_slot)

    abbrev left : ℕ → ℕ → List ℕ
    left i n = ranged (λ k. keep (present k) (at_slot k ∷ [])) i n

    pub in_order_lem : (i n : ℕ) (seen : List ℕ)
        → (0 < n → may_come o seen (at_slot i) ≡ true)
        → ((k : ℕ) → i < k → k < i + n → AllFar seen (at_slot k))
        → ((k : ℕ) → k + 1 < i + n → may_precede o true (at_slot k) (at_slot (k + 1)) ≡ true)
        → ((j k : ℕ) → j + 1 < k → k < i + n → may_precede o false (at_slot j) (at_slot k) ≡ true)
        → InOrder o seen (left i n)
    unfolding ranged keep InOrder
    in_order_lem i zero seen h a next far = tt
    in_order_lem i (suc n) seen h a next far = go (in_order_lem (i + 1) n) (present i)
      where
        go : ((seen : List ℕ)
            → (0 < n → may_come o seen (at_slot (i + 1)) ≡ true)
            → ((k : ℕ) → i + 1 < k → k < i + 1 + n → AllFar seen (at_slot k))
            → ((k : ℕ) → k + 1 < i + 1 + n → may_precede o true (at_slot k) (at_slot (k + 1)) ≡ true)
            → ((j k : ℕ) → j + 1 < k → k < i + 1 + n → may_precede o false (at_slot j) (at_slot k) ≡ true)
            → InOrder o seen (left (i + 1) n))
            → (b : Bool) → InOrder o seen (keep b (at_slot i ∷ []) ++ left (i + 1) n)
        go more true = (
          h (omega arith),
          more (seen ++ (at_slot i ∷ []))
              (λ l. may_next seen (at_slot i) (at_slot (i + 1)) (a (i + 1) (omega arith) (omega arith)) (next i (omega arith)))
              (λ k l m. each_both (λ j. may_precede o false j (at_slot k) ≡ true) seen _ (a k (omega arith) (omega arith)) (each_one (λ j. may_precede o false j (at_slot k) ≡ true) (at_slot i) (far i k (omega arith) (omega arith))))
              (λ k l. next k (omega arith)) (λ j k l m. far j k l (omega arith)),
        )
        go more false =
            more seen
            (λ l. may_far seen (at_slot (i + 1)) (a (i + 1) (omega arith) (omega arith)))
            (λ k l m. a k (omega arith) (omega arith))
            (λ k l. next k (omega arith)) (λ j k l m. far j k l (omega arith))

-- the ports of an accepted input
module _ (f : Frames) (h : Ported f) where
  counted : (k : ℕ) → k < length (ports_of f) → k < f.port_count
  counted k l = omega (arith, length_ports f)

  pub slots_small : Each Small (slots_of f)
  unfolding slots_of
  slots_small = small_slots 0 (ports_of f) (each_from (λ p. p.port ≤ 3) no_port (ports_of f) (λ k l. rw (← port_at_lem f k l) (h.low k (counted k l))))

  pub slots_chained : (o : Order) → ((j k : ℕ) → j < k → k < f.port_count → PortBefore o (get_or f.ports j no_port).port (get_or f.ports k no_port).port)
      → Chain (Next o) (Far o) (slots_of f)
  unfolding slots_of
  slots_chained o q =
      chained o 0 (ports_of f)
      (pairs_from (λ (p r : PortColumn). PortBefore o p.port r.port) no_port (ports_of f)
      (λ j k l m. rw (← port_at_lem f j (omega arith), ← port_at_lem f k m) (q j k l (counted k m))))
