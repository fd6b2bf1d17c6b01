-- What `measure` and `read` refuse before there is a replay is what the check refuses, but for the version.
-- Assumes nothing.
use Prim.Native.Nat.{ℕ, ◌≤◌, ◌<◌}
use mathlib.Core.Path.{◌≡◌, refl, sym, ap, ◌∙◌}
use mathlib.Core.Bool.{Bool, true, false, not, cond}
use mathlib.Core.List.{List, [], ◌∷◌}
use native.Mathlib.Omega.{arith}
use native.Mathlib.Decide.{dec_lt}
use borrow.Author.Tests.{lt-ltb, le-ltb, ltb-false, eqb-true, eq-eqb, ne_eqb}
use lib.Dec.{eqb, ltb}
use Rattle.format.specs.Refusal.{refuse, lowest}
use Rattle.format.specs.Version.{above, accepted_of}
use Rattle.format.specs.declared.version.Version.{Version}
use Rattle.de.specs.Walk.{walk_of}
use Rattle.de.specs.Numbers.{walk_numbers}
use Rattle.de.specs.Cut.{events_read}
use Rattle.de.specs.declared.Walked.{Walked}
use Rattle.de.specs.declared.Walked.TheVariants as walked
use Rattle.known.specs.Known.{is_newer}
use Rattle.read_judge.specs.Found.{opens_wrong, version_of, early_refusal}
use Rattle.read_judge.specs.Inner.{WalkDone}
use Rattle.newer_judge.specs.Opening.{opening_refusal}
use Rattle.newer_judge.proofs.Walks.{refused_late}

-- an accepted version's major number is up to 3
accepted_major : (v : Version) → accepted_of v ≡ true → v.major ≤ 3
unfolding accepted_of above
accepted_major v e = elim (dec_lt 3 v.major) [
  | yes l ↦
      let no : accepted_of v ≡ false = rw (le-ltb v.major 3 (omega arith), ne_eqb 3 v.major (λ q. omega arith)) in
      absurd (let z : ◌≡◌ {A = ℕ} 0 1 = ap (λ (b : Bool). cond b 0 1) (sym e ∙ no) in omega arith)
  | no l ↦ omega arith
]

pub not_major : (v : Version) → accepted_of v ≡ true → ltb 3 v.major ≡ false
not_major v e = le-ltb 3 v.major (accepted_major v e)

early_major : (v : Version) → accepted_of v ≡ false → 3 ≤ v.major
unfolding accepted_of above
early_major v e = elim (dec_lt v.major 3) [
  | yes l ↦
      let is : accepted_of v ≡ true = rw (lt-ltb v.major 3 l) in
      absurd (let z : ◌≡◌ {A = ℕ} 0 1 = ap (λ (b : Bool). cond b 1 0) (sym e ∙ is) in omega arith)
  | no l ↦ omega arith
]

-- one that is not accepted is newer, or its major number is above 3
pub newer_or : (v : Version) → accepted_of v ≡ false → ltb 3 v.major ≡ false → is_newer v ≡ true
unfolding is_newer
newer_or v e q =
    let late = ltb-false 3 v.major q in
    rw (e, eq-eqb v.major 3 (omega (arith, early_major v e)))

-- ---- a file's refusals

-- the three tests, and what they give
module _ (kind number : ℕ) (wrong : Bool) (v : Version) (named : kind ≡ 1 → 1 < number) where
  abbrev early : ℕ
  early = lowest (refuse number (eqb kind 1) ∷ refuse 19 wrong ∷ refuse 1 (not (accepted_of v)) ∷ [])

  abbrev opening : ℕ
  opening = lowest (refuse number (eqb kind 1) ∷ refuse 19 wrong ∷ refuse 1 (ltb 3 v.major) ∷ [])

  none_so : early ≡ 0 → opening ≡ 0
  unfolding lowest
  none_so = go (eqb kind 1) refl wrong (accepted_of v) refl
    where
      go : (k : Bool) → eqb kind 1 ≡ k → (o a : Bool) → accepted_of v ≡ a → cond k number (cond o 19 (cond (not a) 1 0)) ≡ 0 → cond k number (cond o 19 (cond (ltb 3 v.major) 1 0)) ≡ 0
      go true q o a r e = e
      go false q true a r e = e
      go false q false true r e = rw (not_major v r)
      go false q false false r e = absurd (omega arith)

  same_so : (early ≡ 0 → ⊥) → (early ≡ 1 → ⊥) → opening ≡ early
  unfolding lowest
  same_so = go (eqb kind 1) wrong (accepted_of v)
    where
      go : (k o a : Bool) → (cond k number (cond o 19 (cond (not a) 1 0)) ≡ 0 → ⊥) → (cond k number (cond o 19 (cond (not a) 1 0)) ≡ 1 → ⊥)
          → cond k number (cond o 19 (cond (ltb 3 v.major) 1 0)) ≡ cond k number (cond o 19 (cond (not a) 1 0))
      go true o a n m = refl
      go false true a n m = refl
      go false false true n m = absurd (n refl)
      go false false false n m = absurd (m refl)

  -- the walk is done, the first event is right, and the version is not accepted
  record Newly : Type 0 where
    done : eqb kind 1 ≡ false
    right : wrong ≡ false
    above : accepted_of v ≡ false

  newly : early ≡ 1 → Newly
  unfolding lowest
  newly = go (eqb kind 1) refl wrong refl (accepted_of v) refl
    where
      go : (k : Bool) → eqb kind 1 ≡ k → (o : Bool) → wrong ≡ o → (a : Bool) → accepted_of v ≡ a → cond k number (cond o 19 (cond (not a) 1 0)) ≡ 1 → Newly
      go true q o w a r e = absurd (let l = named (eqb-true kind 1 q) in omega arith)
      go false q true w a r e = absurd (omega arith)
      go false q false w true r e = absurd (omega arith)
      go false q false w false r e = record { done = q; right = w; above = r }

  opening_by : early ≡ 1 → opening ≡ cond (ltb 3 v.major) 1 0
  unfolding lowest
  opening_by e = let n = newly e in rw (n.done, n.right)

-- ---- of a file

module _ (f : List ℕ) where
  abbrev kind : ℕ
  kind = (walk_numbers (walk_of f)).kind

  abbrev number : ℕ
  number = (walk_numbers (walk_of f)).number

  abbrev wrong : Bool
  wrong = opens_wrong (events_read f)

  -- what is not refused there is not refused here
  pub opening_none : early_refusal f ≡ 0 → opening_refusal f ≡ 0
  unfolding early_refusal opening_refusal
  opening_none e = none_so kind number wrong (version_of f) (refused_late f) e

  -- what is refused with another number than 1 is refused alike
  pub opening_same : (early_refusal f ≡ 0 → ⊥) → (early_refusal f ≡ 1 → ⊥) → opening_refusal f ≡ early_refusal f
  unfolding early_refusal opening_refusal
  opening_same n m = same_so kind number wrong (version_of f) (refused_late f) n m

  -- where the version is refused there, it decides here
  pub opening_version : early_refusal f ≡ 1 → opening_refusal f ≡ cond (ltb 3 (version_of f).major) 1 0
  unfolding early_refusal opening_refusal
  opening_version e = opening_by kind number wrong (version_of f) (refused_late f) e

  pub version_above : early_refusal f ≡ 1 → accepted_of (version_of f) ≡ false
  unfolding early_refusal
  version_above e = (newly kind number wrong (version_of f) (refused_late f) e).above

  pub opens_right : early_refusal f ≡ 1 → wrong ≡ false
  unfolding early_refusal
  opens_right e = (newly kind number wrong (version_of f) (refused_late f) e).right

  -- the walk is done
  pub walk_done : early_refusal f ≡ 1 → WalkDone f
  unfolding early_refusal
  walk_done e = go (walk_of f) (newly kind number wrong (version_of f) (refused_late f) e).done
    where
      go : (w : Walked) → eqb (walk_numbers w).kind 1 ≡ false → (walk_numbers w).kind ≡ 0
      go (walked.Done events stray whole place) q = refl
      go (walked.Refused number offset) q = absurd (let z : ◌≡◌ {A = ℕ} 0 1 = ap (λ (b : Bool). cond b 1 0) (sym q) in omega arith)
