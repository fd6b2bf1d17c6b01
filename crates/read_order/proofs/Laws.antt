-- The laws of `may_precede`, `due_in` and `may_come`.
-- Assumes nothing.
use mathlib.Core.Path.{◌≡◌, refl, sym, ap₂, ◌∙◌}
use mathlib.Core.Bool.{Bool, true, false, ◌&&◌}
use mathlib.Core.List.{List}
use Prim.Native.Nat.{ℕ, zero, suc, ◌+◌, ◌-◌, ◌*◌, ◌/◌, ◌≤◌, ◌<◌}
use native.Mathlib.Nat.{suc-mul}
use native.Mathlib.Omega.{arith}
use borrow.Author.Tests.{eq-eqb, ne_eqb}
use lib.Dec.{ltb, eqb}
use Rattle.grammar.specs.WellFormed.{Order, ascending, anyhow, nobody, may_precede, may_come}
use Rattle.read_order.specs.Inner.{slot_at, due_in}

module _ (right : Bool) (j k : ℕ) where
  pub before_other : (j / 2 ≡ k / 2 → ⊥) → true ≡ may_precede anyhow right j k
  unfolding may_precede
  before_other h = rw (ne_eqb (j / 2) (k / 2) h)

  pub before_same : j / 2 ≡ k / 2 → (right && ltb j k) ≡ may_precede anyhow right j k
  unfolding may_precede
  before_same h = rw (eq-eqb (j / 2) (k / 2) h)

  pub before_rising : ltb j k ≡ may_precede ascending right j k
  unfolding may_precede
  before_rising = refl

one_more : (n span : ℕ) → 0 < n → n * span ≡ span + (n - 1) * span
one_more zero span h = absurd (omega arith)
one_more (suc n) span h = let e : suc n - 1 ≡ n = omega arith in suc-mul n span ∙ rw e (omega arith)

pub room_go : (p n span : ℕ) (top : ℕ) → 0 < n → p + n * span ≤ top → (p + span + (n - 1) * span ≤ top) × (p + span ≤ top)
room_go p n span top h l = let e = one_more n span h in (omega arith, omega arith)

module _ (o : Order) (file : List ℕ) (span p k : ℕ) where
  -- the first of one is the last
  alone : (n : ℕ) → nobody (due_in file span (p + span) n) ≡ eqb (suc n - 1) 0
  unfolding due_in nobody
  alone zero = refl
  alone (suc n) = sym (ne_eqb (suc (suc n) - 1) 0 (λ e. omega arith))

  pub due_go : (n : ℕ) → 0 < n → (j : ℕ) → j ≡ slot_at file p → (b : Bool) → b ≡ may_precede o (eqb (n - 1) 0) j k → b ≡ true
      → may_come o (due_in file span p n) k ≡ may_come o (due_in file span (p + span) (n - 1)) k
  unfolding due_in may_come
  due_go zero h j x b y z = absurd (omega arith)
  due_go (suc n) h j x b y z =
      let e : suc n - 1 ≡ n = omega arith in
      let t : may_precede o (nobody (due_in file span (p + span) n)) (slot_at file p) k ≡ true = ap₂ (λ (r : Bool) (i : ℕ). may_precede o r i k) (alone n) (sym x) ∙ sym y ∙ z in
      rw (t, e)

  pub due_stop : (n : ℕ) → 0 < n → (j : ℕ) → j ≡ slot_at file p → (b : Bool) → b ≡ may_precede o (eqb (n - 1) 0) j k → b ≡ false → may_come o (due_in file span p n) k ≡ false
  unfolding due_in may_come
  due_stop zero h j x b y z = absurd (omega arith)
  due_stop (suc n) h j x b y z =
      let t : may_precede o (nobody (due_in file span (p + span) n)) (slot_at file p) k ≡ false = ap₂ (λ (r : Bool) (i : ℕ). may_precede o r i k) (alone n) (sym x) ∙ sym y ∙ z in
      rw t

  pub due_done : (n : ℕ) → n ≤ 0 → may_come o (due_in file span p n) k ≡ true
  unfolding due_in may_come
  due_done zero h = refl
  due_done (suc n) h = absurd (omega arith)
