-- The laws of one turn.
-- Assumes nothing.
use Prim.Native.Nat.{ℕ, zero, suc, ◌+◌, ◌-◌, ◌≤◌, ◌<◌}
use mathlib.Core.Path.{◌≡◌, refl, sym, ap, ◌∙◌}
use mathlib.Core.Bool.{Bool, true, false, cond, ◌&&◌}
use mathlib.Core.List.{List}
use native.Mathlib.Omega.{arith}
use borrow.Author.Tests.{lt-ltb, le-ltb, le-leb, lt-leb, leb-true, leb-false, ltb-true}
use lib.Dec.{ltb, leb}
use lib.ListN.{length, get_or}
use Rattle.grammar.proofs.Tests.{both}
use Rattle.read_scan.specs.Inner.{span_at}
use Rattle.repair_walk.specs.Inner.{pass, is_whole, passed_from}

module _ (file spans : List ℕ) (stop at : ℕ) where
  pub record Ahead : Type 0 where
    pub inside : at < stop
    pub on : at < at + span_at spans file at
    pub ends : at + span_at spans file at ≤ stop

  pub past_stop : stop ≤ at → false ≡ is_whole file spans stop at
  unfolding is_whole
  past_stop h = rw (le-ltb at stop h)

  module _ (inside : at < stop) (n : ℕ) (n-is : n ≡ span_at spans file at) where
    pub no_span : n ≤ 0 → false ≡ is_whole file spans stop at
    unfolding is_whole
    no_span h = rw (lt-ltb at stop inside, ← n-is, le-ltb 0 n h)

    pub by_length : 0 < n → leb n (stop - at) ≡ is_whole file spans stop at
    unfolding is_whole
    by_length h = rw (lt-ltb at stop inside, ← n-is, lt-ltb 0 n h) (go (leb n (stop - at)) refl)
      where
        go : (b : Bool) → leb n (stop - at) ≡ b → leb n (stop - at) ≡ leb (at + n) stop
        go true e = e ∙ sym (le-leb (at + n) stop (let z = leb-true n (stop - at) e in omega arith))
        go false e = e ∙ sym (lt-leb (at + n) stop (let z = leb-false n (stop - at) e in omega arith))

  pub ahead : is_whole file spans stop at ≡ true → Ahead
  unfolding is_whole
  ahead e =
      let n = span_at spans file at in
      let (a, r) = both (ltb at stop) (ltb 0 n && leb (at + n) stop) e in
      let (b, c) = both (ltb 0 n) (leb (at + n) stop) r in
      let l = ltb-true 0 n b in
      record { inside = ltb-true at stop a; on = omega arith; ends = leb-true (at + n) stop c }

  -- all three tests
  pub there : at < stop → 0 < span_at spans file at → at + span_at spans file at ≤ stop → is_whole file spans stop at ≡ true
  unfolding is_whole
  there a b c = rw (lt-ltb at stop a, lt-ltb 0 (span_at spans file at) b, le-leb (at + span_at spans file at) stop c)

-- ---- the loop: what is left gives the answer

pub record Passing (file spans : List ℕ) (stop first at n : ℕ) : Type 0 where
  pub under : at ≤ stop
  pub few : n ≤ at
  pub left : ℕ
  pub enough : stop < at + left
  pub same : passed_from file spans stop (suc stop) first 0 ≡ passed_from file spans stop left at n

module _ (file spans : List ℕ) (stop first : ℕ) where
  pub passing_first : first ≤ stop → Passing file spans stop first first 0
  passing_first h = record { under = h; few = omega arith; left = suc stop; enough = omega arith; same = refl }

  module _ (at n : ℕ) (p : Passing file spans stop first at n) where
    is_left : p.left ≡ suc (p.left - 1)
    is_left = omega (arith, p.enough, p.under)

    begun : passed_from file spans stop (suc stop) first 0 ≡ cond (is_whole file spans stop at) (passed_from file spans stop (p.left - 1) (at + span_at spans file at) (n + 1)) (pass at n)
    unfolding passed_from
    begun = p.same ∙ ap (λ (k : ℕ). passed_from file spans stop k at n) is_left

    pub passing_done : is_whole file spans stop at ≡ false → pass at n ≡ passed_from file spans stop (suc stop) first 0
    passing_done e = sym (begun ∙ rw e)

    pub passing_next : is_whole file spans stop at ≡ true → (m : ℕ) → m ≡ span_at spans file at → Passing file spans stop first (at + m) (n + 1)
    passing_next e m m-is =
        let a = ahead file spans stop at e in
        record {
          under = omega (arith, a.ends);
          few = omega (arith, a.on, p.few);
          left = p.left - 1;
          enough = omega (arith, a.on, p.enough, p.under);
          same = begun ∙ rw (e, ← m-is);
        }
