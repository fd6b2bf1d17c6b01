-- The laws of the tests of presence bytes and port columns.
-- Assumes nothing.
use mathlib.Core.Path.{◌≡◌, refl, sym, ap, ◌∙◌}
use mathlib.Core.Bool.{Bool, true, false, not}
use mathlib.Core.List.{List, [], ◌∷◌, map}
use Prim.Native.Nat.{ℕ, zero, suc, ◌+◌, ◌/◌, ◌≤◌, ◌<◌}
use native.Mathlib.Numerals.{add-one}
use native.Mathlib.Omega.{arith}
use borrow.Author.Tests.{eq-eqb, ne_eqb, eqb-false, ltb-false}
use lib.Dec.{eqb, ltb}
use lib.ListN.{length, get_or, drop, length-map, drop_of_length-le, get_or-map}
use lib.Seq.{drop-cons}
use Rattle.format.proofs.Tests.{or_none, one_here, one_skip, one_last, one_passed, rest_each}
use Rattle.layout.specs.Columns.{sum}
use Rattle.game.specs.Frames.{no_port, ports_of, follows}
use Rattle.format.specs.Refusal.{one_of}
use Rattle.players.specs.Presence.{uneven, port_uneven}
use Rattle.frames.specs.Judge.{port_numbers, twice, ports_wrong}
use Rattle.frames.specs.Inner.{Ported}
use Rattle.game.specs.declared.frames.PortColumn.{PortColumn}
use Rattle.game.specs.declared.frames.Frames.{Frames}
use Rattle.game.proofs.Ports.{length_ports, port_at_lem}

-- ---- presence bytes
pub even_none : (frames len : ℕ) → len ≡ 0 → false ≡ uneven frames len
unfolding uneven
even_none frames len e = rw (eq-eqb len 0 e)

pub uneven_some : (frames len : ℕ) → (len ≡ 0 → ⊥) → not (eqb len ((frames + 7) / 8)) ≡ uneven frames len
unfolding uneven
uneven_some frames len e = rw (ne_eqb len 0 e)

module _ (frames : ℕ) (p : PortColumn) where
  pub leader_uneven : (t : Bool) → t ≡ uneven frames p.leader_presence → t ≡ true → true ≡ port_uneven frames p
  unfolding port_uneven
  leader_uneven t e h = one_here _ _ (sym e ∙ h)

  pub follower_uneven : (s t r : Bool) → s ≡ uneven frames p.leader_presence → s ≡ false → t ≡ follows p → t ≡ true
      → r ≡ uneven frames p.follower_presence → r ≡ port_uneven frames p
  unfolding port_uneven
  follower_uneven s t r e h f g q = one_skip _ _ _ (sym e ∙ h) (one_last _ _ (rw (← f, g) q))

  pub no_follower : (s t : Bool) → s ≡ uneven frames p.leader_presence → s ≡ false → t ≡ follows p → t ≡ false
      → not (eqb p.follower_presence 0) ≡ port_uneven frames p
  unfolding port_uneven
  no_follower s t e h f g = one_skip _ _ _ (sym e ∙ h) (one_last _ _ (rw (← f, g)))

-- a sum over port columns, in a loop
module _ (g : PortColumn → ℕ) (ps : List PortColumn) where
  pub sum_step : (k : ℕ) → k < length ps → sum (map g (drop k ps)) ≡ g (get_or ps k no_port) + sum (map g (drop (k + 1) ps))
  unfolding sum
  sum_step k h = rw (drop-cons ps k no_port h, add-one)

  pub sum_done : (k : ℕ) → length ps ≤ k → sum (map g (drop k ps)) ≡ 0
  unfolding sum
  sum_done k h = rw (drop_of_length-le ps h)

-- ---- port numbers
pub length_numbers : (f : Frames) → length (port_numbers f) ≡ length (ports_of f)
unfolding port_numbers
length_numbers f = length-map (ports_of f) (λ (p : PortColumn). p.port)

pub number_at : (f : Frames) (k : ℕ) (p : PortColumn) → p ≡ get_or (ports_of f) k no_port → p.port ≡ get_or (port_numbers f) k 0
unfolding port_numbers
number_at f k p e = ap (λ (q : PortColumn). q.port) e ∙ sym (get_or-map (λ (q : PortColumn). q.port) (ports_of f) k no_port)

-- a test of the numbers is one of the port columns
pub numbers_from : (test : ℕ → Bool) (f : Frames) (k : ℕ) → map (λ (p : PortColumn). test p.port) (drop k (ports_of f)) ≡ map test (drop k (port_numbers f))
unfolding port_numbers
numbers_from test f k = go k (ports_of f)
  where
    go : (k : ℕ) (ps : List PortColumn) → map (λ (p : PortColumn). test p.port) (drop k ps) ≡ map test (drop k (map (λ (p : PortColumn). p.port) ps))
    go zero [] = refl
    go zero (p ∷ ps) = ap (λ (l : List Bool). test p.port ∷ l) (go zero ps)
    go (suc k) [] = refl
    go (suc k) (p ∷ ps) = go k ps

pub twice_here : (r : Bool) (ns : List ℕ) (k : ℕ) → k < length ns → one_of (map (eqb (get_or ns k 0)) (drop (k + 1) ns)) ≡ true → r ≡ twice (drop k ns) → true ≡ r
unfolding twice
twice_here r ns k h e q = sym (rw (drop-cons ns k 0 h, rw add-one at e) at q)

pub twice_skip : (r : Bool) (ns : List ℕ) (k : ℕ) → k < length ns → one_of (map (eqb (get_or ns k 0)) (drop (k + 1) ns)) ≡ false → r ≡ twice (drop k ns) → r ≡ twice (drop (k + 1) ns)
unfolding twice
twice_skip r ns k h e q = rw add-one (rw (drop-cons ns k 0 h, rw add-one at e) at q)

pub twice_none : (r : Bool) (ns : List ℕ) (k : ℕ) → length ns ≤ k → r ≡ twice (drop k ns) → false ≡ r
unfolding twice
twice_none r ns k h q = sym (rw (drop_of_length-le ns h) at q)

-- ---- where no port stands twice
twice_none_at : (ns : List ℕ) → twice ns ≡ false → (j k : ℕ) → j < k → k < length ns → get_or ns j 0 ≡ get_or ns k 0 → ⊥
unfolding twice
twice_none_at [] e j k l h = absurd (omega arith)
twice_none_at (n ∷ ns) e j zero l h = absurd (omega arith)
twice_none_at (n ∷ ns) e zero (suc k) l h =
    eqb-false n (get_or ns k 0) (rest_each 0 (eqb n) ns (or_none (one_of (map (eqb n) ns)) (twice ns) e).0 k (omega arith))
twice_none_at (n ∷ ns) e (suc j) (suc k) l h =
    twice_none_at ns (or_none (one_of (map (eqb n) ns)) (twice ns) e).1 j k (omega arith) (omega arith)

pub ported : (f : Frames) → ports_wrong f ≡ false → Ported f
unfolding ports_wrong
ported f e =
    let (many, e1) = one_passed _ _ e in
    let (above, e2) = one_passed _ _ e1 in
    let (again, e3) = one_passed _ _ e2 in
    let few = ltb-false 4 f.port_count many in
    let count : length (port_numbers f) ≡ f.port_count = omega (arith, length_numbers f, length_ports f) in
    let number : (k : ℕ) → k < f.port_count → (get_or f.ports k no_port).port ≡ get_or (port_numbers f) k 0 =
    λ k h. number_at f k (get_or f.ports k no_port) (port_at_lem f k (omega (arith, length_numbers f))) in
    record {
      few = few;
      low = λ k h. omega (arith, number k h, ltb-false 3 (get_or (port_numbers f) k 0) (rest_each 0 (ltb 3) (port_numbers f) above k (omega arith)));
      distinct = λ j k l h q.
          twice_none_at (port_numbers f) again j k l (omega arith) (sym (number j (omega arith)) ∙ q ∙ number k h);
    }
