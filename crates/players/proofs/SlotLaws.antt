-- The laws of port columns and slots.
-- Assumes nothing.
use mathlib.Core.Path.{◌≡◌, refl, sym, ap, ap₂, ◌∙◌}
use mathlib.Core.Bool.{Bool, true, false, not, cond}
use mathlib.Core.List.{List, [], ◌∷◌, ◌++◌, append_assoc, append-nil}
use Prim.Native.Nat.{ℕ, ◌+◌, ◌*◌, ◌/◌, ◌≤◌, ◌<◌}
use native.Mathlib.Nat.{add_assoc}
use native.Mathlib.Numerals.{add-one}
use native.Mathlib.Omega.{arith}
use lib.Dec.{eqb, lit≤}
use borrow.Author.Tests.{eqb-true, not-false}
use mathlib.Core.Logic.{◌⊎◌, inl, inr}
use lib.ListN.{length, get_or, set, take, drop, take-append-drop, length-append, length-set, drop_of_length-le}
use lib.Seq.{drop-cons, take-suc, take_all, get_or-set_same, get_or-set_other}
use Rattle.wire.specs.Wire.{keep, tabulate}
use Rattle.wire.proofs.Laws.{tabulate_suc, tabulate_ext}
use Rattle.format.proofs.Versions.{no_way}
use Rattle.format.proofs.Tests.{one_passed, rest_each}
use Rattle.game.specs.Frames.{no_port, ports_of, follows, Slot, slot, port_slots, port_bytes, slots_from, slots_of}
use Rattle.players.specs.Inner.{slot_in, slots_in, Eight, Grown, Modest}
use Rattle.players.specs.Presence.{slots_before, uneven, port_uneven, ports_uneven}
use Rattle.game.proofs.Ports.{length_ports}
use Rattle.game.specs.declared.frames.PortColumn.{PortColumn}
use Rattle.game.specs.declared.frames.Frames.{Frames}
use Rattle.players.specs.declared.slots.Slots.{Slots}

-- a slot stored after those that are there
abbrev pushed : Slots → Slot → Slots
pushed s x = record {
  count = s.count + 1;
  ports = set s.ports s.count x.port;
  followers = set s.followers s.count x.follower;
  at = set s.at s.count x.at;
  len = set s.len s.count x.len;
}

pushed_same : (s : Slots) (x : Slot) → s.count < 8 → Eight s → slot_in (pushed s x) s.count ≡ x
pushed_same s x h e =
    let port = get_or-set_same s.ports s.count x.port 0 (omega (arith, e.ports)) in
    let follower = get_or-set_same s.followers s.count x.follower 0 (omega (arith, e.followers)) in
    let at = get_or-set_same s.at s.count x.at 0 (omega (arith, e.at)) in
    let len = get_or-set_same s.len s.count x.len 0 (omega (arith, e.len)) in
    λ i. record { port = port i; follower = follower i; at = at i; len = len i }

pushed_other : (s : Slots) (x : Slot) (k : ℕ) → k < s.count → slot_in (pushed s x) k ≡ slot_in s k
pushed_other s x k h =
    let other : k ≡ s.count → ⊥ = λ e. omega arith in
    let port = get_or-set_other s.ports s.count k x.port 0 other in
    let follower = get_or-set_other s.followers s.count k x.follower 0 other in
    let at = get_or-set_other s.at s.count k x.at 0 other in
    let len = get_or-set_other s.len s.count k x.len 0 other in
    λ i. record { port = port i; follower = follower i; at = at i; len = len i }

pub grown_one : (s : Slots) (x : Slot) → s.count < 8 → Eight s → Grown s (pushed s x) (x ∷ [])
grown_one s x h e = record {
  count = refl;
  listed =
      tabulate_suc s.count (slot_in (pushed s x))
      ∙ ap₂ (λ (l : List Slot) (y : Slot). l ++ (y ∷ [])) (tabulate_ext s.count (slot_in (pushed s x)) (slot_in s) (pushed_other s x)) (pushed_same s x h e);
  eight = record {
    ports = simp length-set e.ports;
    followers = simp length-set e.followers;
    at = simp length-set e.at;
    len = simp length-set e.len;
  };
}

pub grown_then : {s t u : Slots} {xs ys : List Slot} → Grown s t xs → Grown t u ys → Grown s u (xs ++ ys)
grown_then {s} {xs = xs} {ys = ys} g h = record {
  count = simp (length-append, h.count, g.count, add_assoc);
  listed = h.listed ∙ ap (λ (l : List Slot). l ++ ys) g.listed ∙ append_assoc (slots_in s) xs ys;
  eight = h.eight;
}

-- ---- a port column's slots and bytes
module _ (p : PortColumn) (t : Bool) (h : t ≡ follows p) where
  pub slots_both : (at : ℕ) → t ≡ true
      → (slot p.port 0 at p.leader_presence ∷ []) ++ (slot p.port 1 (at + p.leader_presence) p.follower_presence ∷ []) ≡ port_slots at p
  unfolding port_slots keep
  slots_both at e = rw (← h, e)

  pub slots_one : (at : ℕ) → t ≡ false → slot p.port 0 at p.leader_presence ∷ [] ≡ port_slots at p
  unfolding port_slots keep
  slots_one at e = rw (← h, e)

  -- how many slots that is
  pub count_both : (at : ℕ) → t ≡ true → length (port_slots at p) ≡ 2
  unfolding port_slots keep
  count_both at e = rw (← h, e)

  pub count_one : (at : ℕ) → t ≡ false → length (port_slots at p) ≡ 1
  unfolding port_slots keep
  count_one at e = rw (← h, e)

pub bytes_leader : (p : PortColumn) → p.leader_presence ≤ port_bytes p
unfolding port_bytes
bytes_leader p = omega arith

pub grown_as : {s t : Slots} {xs ys : List Slot} → xs ≡ ys → Grown s t xs → Grown s t ys
grown_as e g = rw e at g

-- ---- all slots, a port column at a time
length_port : (at : ℕ) (p : PortColumn) → length (port_slots at p) ≡ length (port_slots 0 p)
unfolding port_slots keep
length_port at p = by (follows p)
  where
    by : (b : Bool) → length (slot p.port 0 at p.leader_presence ∷ keep b (slot p.port 1 (at + p.leader_presence) p.follower_presence ∷ []))
        ≡ length (slot p.port 0 0 p.leader_presence ∷ keep b (slot p.port 1 (0 + p.leader_presence) p.follower_presence ∷ []))
    by true = refl
    by false = refl

pub few_slots : (at : ℕ) (p : PortColumn) → length (port_slots at p) ≤ 2
unfolding port_slots keep
few_slots at p = by (follows p)
  where
    by : (b : Bool) → length (slot p.port 0 at p.leader_presence ∷ keep b (slot p.port 1 (at + p.leader_presence) p.follower_presence ∷ [])) ≤ 2
    by true = lit≤ tt
    by false = lit≤ tt

some_slot : (at : ℕ) (p : PortColumn) → 0 < length (port_slots at p)
unfolding port_slots
some_slot at p = omega arith

-- how many slots port columns have
unfoldable how_many : List PortColumn → ℕ
how_many [] = 0
how_many (p ∷ ps) = length (port_slots 0 p) + how_many ps

length_slots : (at : ℕ) (ps : List PortColumn) → length (slots_from at ps) ≡ how_many ps
unfolding slots_from how_many
length_slots at [] = refl
length_slots at (p ∷ ps) = simp (length-append, length_port at p, length_slots (at + port_bytes p) ps)

many_append : (ps qs : List PortColumn) → how_many (ps ++ qs) ≡ how_many ps + how_many qs
unfolding how_many
many_append [] qs = omega arith
many_append (p ∷ ps) qs = rw (many_append ps qs, add_assoc)

all_slots : (f : Frames) → length (slots_of f) ≡ how_many (ports_of f)
unfolding slots_of
all_slots f = length_slots 0 (ports_of f)

-- ---- the slots of the first k port columns
before_is : (f : Frames) (k : ℕ) → slots_before f k ≡ how_many (take k (ports_of f))
before_is f k = length_slots 0 (take k (ports_of f))

pub before_none : (f : Frames) → 0 ≡ slots_before f 0
unfolding slots_from
before_none f = refl

pub before_all : (f : Frames) (k : ℕ) → k ≡ length (ports_of f) → slots_before f k ≡ length (slots_of f)
unfolding slots_of
before_all f k e = ap (λ (ps : List PortColumn). length (slots_from 0 ps)) (take_all k (ports_of f) (omega arith))

module _ (f : Frames) (k : ℕ) (p : PortColumn) (h : k < length (ports_of f)) (e : p ≡ get_or (ports_of f) k no_port) where
  before_step : slots_before f (k + 1) ≡ slots_before f k + length (port_slots 0 p)
  unfolding how_many
  before_step =
      before_is f (k + 1) ∙ rw (add-one k, take-suc (ports_of f) k no_port h, many_append, e) (omega (arith, before_is f k))

  before_most : slots_before f k + length (port_slots 0 p) ≤ length (slots_of f)
  before_most =
      let split : how_many (ports_of f) ≡ how_many (take (k + 1) (ports_of f)) + how_many (drop (k + 1) (ports_of f)) =
      ap how_many (sym (take-append-drop (k + 1) (ports_of f))) ∙ many_append (take (k + 1) (ports_of f)) (drop (k + 1) (ports_of f)) in
      omega (arith, before_step, before_is f (k + 1), all_slots f)

  module _ {t : Bool} (q : t ≡ follows p) where
    pub before_both : t ≡ true → slots_before f (k + 1) ≡ slots_before f k + 2
    before_both y = omega (arith, before_step, count_both p t q 0 y)

    pub before_one : t ≡ false → slots_before f (k + 1) ≡ slots_before f k + 1
    before_one y = omega (arith, before_step, count_one p t q 0 y)

    -- so a follower's slot is there, and a leader's
    pub follower_slot : t ≡ true → slots_before f k + 1 < length (slots_of f)
    follower_slot y = omega (arith, before_most, count_both p t q 0 y)

  pub leader_slot : slots_before f k < length (slots_of f)
  leader_slot = omega (arith, before_most, some_slot 0 p)

-- the slots held, and those of the port columns from index k on, are all
unfoldable pub Gathered : Frames → ℕ → ℕ → List Slot → Type 0
Gathered f k at ss = ss ++ slots_from at (drop k (ports_of f)) ≡ slots_of f

pub gather_start : (f : Frames) (s : Slots) → s.count ≡ 0 → Gathered f 0 0 (slots_in s)
unfolding Gathered slots_of tabulate
gather_start f s e = rw e

pub gather_step : (f : Frames) (k at : ℕ) (s t : Slots) (p : PortColumn) → k < length (ports_of f) → p ≡ get_or (ports_of f) k no_port
    → Grown s t (port_slots at p) → Gathered f k at (slots_in s) → Gathered f (k + 1) (at + port_bytes p) (slots_in t)
unfolding Gathered slots_from
gather_step f k at s t p h e g q =
    rw (g.listed, append_assoc, e, add-one) (rw (drop-cons (ports_of f) k no_port h) at q)

pub gather_done : (f : Frames) (k at : ℕ) (s : Slots) → length (ports_of f) ≤ k → Gathered f k at (slots_in s) → slots_in s ≡ slots_of f
unfolding Gathered slots_from
gather_done f k at s h q = sym (append-nil (slots_in s)) ∙ rw (drop_of_length-le (ports_of f) h) at q

double : (ps : List PortColumn) → how_many ps ≤ 2 * length ps
unfolding how_many
double [] = lit≤ tt
double (p ∷ ps) = omega (arith, few_slots 0 p, double ps)

pub slots_few : (f : Frames) → length (slots_of f) ≤ 8
slots_few f = omega (arith, all_slots f, double (ports_of f), length_ports f)

-- ---- presence bytes that are counted right
even_len : (frames len : ℕ) → uneven frames len ≡ false → (len ≡ 0) ⊎ (len ≡ (frames + 7) / 8)
unfolding uneven
even_len frames len e = go (eqb len 0) refl (eqb len ((frames + 7) / 8)) refl
  where
    go : (a : Bool) → eqb len 0 ≡ a → (b : Bool) → eqb len ((frames + 7) / 8) ≡ b → (len ≡ 0) ⊎ (len ≡ (frames + 7) / 8)
    go true x b y = inl (eqb-true len 0 x)
    go false x true y = inr (eqb-true len ((frames + 7) / 8) y)
    go false x false y = no_way (sym (rw (x, y) at e))

module _ (frames : ℕ) (p : PortColumn) (e : port_uneven frames p ≡ false) where
  pub even_leader : (p.leader_presence ≡ 0) ⊎ (p.leader_presence ≡ (frames + 7) / 8)
  unfolding port_uneven
  even_leader = even_len frames p.leader_presence (one_passed _ _ e).0

  pub even_follower : (p.follower_presence ≡ 0) ⊎ (p.follower_presence ≡ (frames + 7) / 8)
  unfolding port_uneven
  even_follower = go (follows p) (one_passed _ _ (one_passed _ _ e).1).0
    where
      go : (b : Bool) → cond b (uneven frames p.follower_presence) (not (eqb p.follower_presence 0)) ≡ false
          → (p.follower_presence ≡ 0) ⊎ (p.follower_presence ≡ (frames + 7) / 8)
      go true h = even_len frames p.follower_presence h
      go false h = inl (eqb-true p.follower_presence 0 (not-false (eqb p.follower_presence 0) h))

low : (a b : ℕ) → (a ≡ 0) ⊎ (a ≡ b) → a ≤ b
low a b (inl e) = omega arith
low a b (inr e) = omega arith

bytes_most : (p : PortColumn) → port_bytes p ≤ p.leader_presence + p.follower_presence
unfolding port_bytes
bytes_most p = by (follows p)
  where
    by : (b : Bool) → p.leader_presence + cond b p.follower_presence 0 ≤ p.leader_presence + p.follower_presence
    by true = omega arith
    by false = omega arith

-- a port column of an accepted input has few presence bytes
pub even_bytes : (f : Frames) → Modest f → ports_uneven f ≡ false → (k : ℕ) → k < length (ports_of f) → port_bytes (get_or (ports_of f) k no_port) ≤ 262144
unfolding ports_uneven
even_bytes f m e k h =
    let p = get_or (ports_of f) k no_port in
    let q = rest_each no_port (port_uneven f.counts.frames) (ports_of f) e k h in
    omega (arith, m.frames, bytes_most p, low _ _ (even_leader f.counts.frames p q), low _ _ (even_follower f.counts.frames p q))
