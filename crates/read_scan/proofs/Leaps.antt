-- The laws of counting eight frames.
-- Assumes nothing.
use mathlib.Core.Path.{◌≡◌, refl, sym, ap, subst, ◌∙◌}
use mathlib.Core.Bool.{Bool, not, ◌&&◌, ◌||◌}
use mathlib.Core.List.{List}
use Prim.Native.Nat.{ℕ, zero, suc, ◌+◌, ◌*◌, ◌<◌}
use native.Mathlib.Nat.{suc-mul, zero-mul}
use native.Mathlib.Numerals.{add-one}
use native.Mathlib.Omega.{arith}
use borrow.Author.Tests.{ne_eqb}
use lib.Dec.{eqb}
use Rattle.read_scan.specs.Counts.{tally, begun_at, Under}
use Rattle.read_scan.specs.Alike.{id_at, run_id, run_tally}
use Rattle.read_scan.specs.declared.tally.Tally.{Tally}
use Rattle.read_scan.proofs.Counting.{under_to}
use Rattle.read_scan.proofs.Compare.{Along, along_start, along_step}

pub under_begun : (y : Tally) (old id n m : ℕ) → Under y n → n < m → Under (begun_at y old id) m
under_begun y old id n m h l = record {
  frames = omega (arith, h.frames);
  items = omega (arith, h.items);
  fods = omega (arith, h.fods);
  whispys = omega (arith, h.whispys);
  stadiums = omega (arith, h.stadiums);
}

-- t frames are counted
pub record Running (file : List ℕ) (at step old₀ : ℕ) (y₀ : Tally) (old : ℕ) (y : Tally) (p t : ℕ) : Type 0 where
  pub along : Along at step p t
  pub old_is : old ≡ run_id file at step old₀ t
  pub tally_is : y ≡ run_tally file at step old₀ y₀ t
  pub under : Under y (at + t)

module _ {file : List ℕ} {at step old₀ : ℕ} {y₀ : Tally} where
  pub running_start : Under y₀ at → Running file at step old₀ y₀ old₀ y₀ at 0
  unfolding run_tally
  running_start h = record { along = along_start; old_is = refl; tally_is = refl; under = under_to y₀ at (at + 0) h (omega arith) }

  pub running_step : {old : ℕ} {y : Tally} {p t : ℕ} → Running file at step old₀ y₀ old y p t → t < 8 → (id : ℕ) → id ≡ id_at file p → (z : Tally) → z ≡ begun_at y old id
      → Running file at step old₀ y₀ id z (p + step) (t + 1)
  unfolding run_tally
  running_step {old} {y} {p} {t} r l id id_is z z-is =
      let i : id ≡ id_at file (at + t * step) = id_is ∙ ap (id_at file) r.along.place in
      let under : Under (begun_at y old id) (at + (t + 1)) = under_begun y old id (at + t) (at + (t + 1)) r.under (omega arith) in
      record {
        along = along_step r.along l;
        old_is = i ∙ ap (run_id file at step old₀) (sym (add-one t));
        tally_is =
            z-is
            ∙ ap (λ (x : Tally). begun_at x old id) r.tally_is
            ∙ ap (λ (x : ℕ). begun_at (run_tally file at step old₀ y₀ t) x id) r.old_is
            ∙ ap (begun_at (run_tally file at step old₀ y₀ t) (run_id file at step old₀ t)) i
            ∙ ap (run_tally file at step old₀ y₀) (sym (add-one t));
        under = subst (λ (x : Tally). Under x (at + (t + 1))) (sym z-is) under;
      }

  pub running_done : {old : ℕ} {y : Tally} {p t : ℕ} → Running file at step old₀ y₀ old y p t → t ≡ 7 → (old ≡ run_id file at step old₀ 7) × (y ≡ run_tally file at step old₀ y₀ 7)
  running_done {t = t} r e = (r.old_is ∙ ap (run_id file at step old₀) e, r.tally_is ∙ ap (run_tally file at step old₀ y₀) e)

-- the first frame, and then the others
module _ (file : List ℕ) (at step old : ℕ) (y : Tally) where
  first_at_lem : id_at file (at + 0 * step) ≡ id_at file at
  first_at_lem = ap (id_at file) (let z = zero-mul step in let q : at + 0 * step ≡ at = omega arith in q)

  next_at_lem : (n : ℕ) → id_at file (at + suc n * step) ≡ id_at file (at + step + n * step)
  next_at_lem n = ap (id_at file) (let s = suc-mul n step in let q : at + suc n * step ≡ at + step + n * step = omega arith in q)

  ids_first : (n : ℕ) → run_id file at step old (suc n) ≡ run_id file (at + step) step (id_at file at) n
  ids_first zero = first_at_lem
  ids_first (suc n) = next_at_lem n

  tallies_first : (n : ℕ) → run_tally file at step old y (suc n) ≡ run_tally file (at + step) step (id_at file at) (begun_at y old (id_at file at)) n
  unfolding run_tally
  tallies_first zero = ap (begun_at y old) first_at_lem
  tallies_first (suc n) =
      let next = id_at file (at + step + n * step) in
      let ids = run_id file (at + step) step (id_at file at) n in
      ap (begun_at (run_tally file at step old y (suc n)) (run_id file at step old (suc n))) (next_at_lem n)
      ∙ ap (λ (i : ℕ). begun_at (run_tally file at step old y (suc n)) i next) (ids_first n)
      ∙ ap (λ (x : Tally). begun_at x ids next) (tallies_first n)

  -- what the loop over the others leaves, from the first on
  pub from_first : (id : ℕ) → id ≡ id_at file at → (x : Tally) → x ≡ begun_at y old id → (i : ℕ) → i ≡ run_id file (at + step) step id 7 → (z : Tally) → z ≡ run_tally file (at + step) step id x 7
      → (i ≡ run_id file at step old 8) × (z ≡ run_tally file at step old y 8)
  from_first id id_is x x-is i i-is z z-is = (
    i-is ∙ ap (λ (k : ℕ). run_id file (at + step) step k 7) id_is ∙ sym (ids_first 7),
    z-is
        ∙ ap (λ (k : Tally). run_tally file (at + step) step id k 7) x-is
        ∙ ap (λ (k : ℕ). run_tally file (at + step) step k (begun_at y old k) 7) id_is
        ∙ sym (tallies_first 7),
  )

-- a frame was counted
pub some_begun : (y : Tally) (old id : ℕ) (z : Tally) → z ≡ begun_at y old id → 0 < z.frames
some_begun y old id z e = let q : z.frames ≡ y.frames + 1 = ap (λ (x : Tally). x.frames) e in omega arith

-- and so the ids alone tell whether they change
pub next_begun : (t : Tally) (old id : ℕ) → 0 < t.frames
    → tally (t.frames + 1) t.items t.fods t.whispys t.stadiums t.slots (t.changing && not (eqb old id)) ≡ begun_at t old id
next_begun t old id h =
    ap (λ (b : Bool). tally (t.frames + 1) t.items t.fods t.whispys t.stadiums t.slots (t.changing && (b || not (eqb old id))))
    (sym (ne_eqb t.frames 0 (λ e. omega arith)))
