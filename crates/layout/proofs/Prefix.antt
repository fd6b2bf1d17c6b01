-- The table's rule, proved once: no family has a column that is older than one before it, so a version's columns are the first of them.
-- Assumes nothing.
use mathlib.Core.Path.{◌≡◌, refl, sym, ap, ◌∙◌}
use mathlib.Core.Bool.{Bool, true, false}
use mathlib.Core.Logic.{⊎_elim}
use mathlib.Core.List.{List, [], ◌∷◌, ◌++◌, map}
use Prim.Native.Nat.{ℕ, zero, suc, ◌+◌, ◌≤◌, ◌<◌}
use native.Mathlib.Numerals.{add-one}
use native.Mathlib.Omega.{arith}
use lib.Dec.{T}
use lib.ListN.{length, take, set, get_or}
use lib.Seq.{take-suc-set}
use Rattle.format.specs.declared.version.Version.{Version}
use Rattle.format.specs.Version.{above, gte_of}
use Rattle.format.proofs.Versions.{is_true, gte_holds, gte_fails, gte_below}
use Rattle.layout.specs.declared.columns.Column.{Column}
use Rattle.layout.specs.declared.columns.Family.{Family}
use Rattle.layout.specs.Columns.{col, columns_of, chosen, since, widths_of}
use Rattle.layout.specs.Inner.{count_of}
use Rattle.layout.proofs.Laws.{each, both, both_left, both_right, count_is, length_chosen}

-- a version as old as a column
abbrev pub of : Column → Version
of d = record { major = d.major; minor = d.minor; patch = 0 }

-- d is not older than c, for each d of a list
abbrev pub follow : Column → List Column → Bool
follow c [] = true
follow c (d ∷ ds) = both (gte_of (of d) c.major c.minor) (follow c ds)

abbrev pub ascending : List Column → Bool
ascending [] = true
ascending (c ∷ cs) = both (follow c cs) (ascending cs)

-- a version that has d has what is not newer than d
older : (v : Version) (c d : Column) → gte_of v c.major c.minor ≡ false → gte_of (of d) c.major c.minor ≡ true → gte_of v d.major d.minor ≡ false
older v c d p q =
    let (up, tie) = gte_fails v c.major c.minor p in
    ⊎_elim
    (λ (h : c.major < d.major). gte_below v d.major d.minor (omega arith) (λ (e : v.major ≡ d.major). absurd (omega arith)))
    (λ (h : (d.major ≡ c.major) × (c.minor ≤ d.minor)).
    gte_below v d.major d.minor (omega arith) (λ (e : v.major ≡ d.major). let k = tie (omega arith) in omega arith))
    (gte_holds (of d) c.major c.minor q)

-- a version that lacks c has nothing of what follows it
pub none : (v : Version) (c : Column) (ds : List Column) → gte_of v c.major c.minor ≡ false → T (follow c ds) → since v ds ≡ []
unfolding chosen
none v c [] p t = refl
none v c (d ∷ ds) p t =
    rw (older v c d p (is_true (gte_of (of d) c.major c.minor) (both_left (gte_of (of d) c.major c.minor) (follow c ds) t)))
    (none v c ds p (both_right (gte_of (of d) c.major c.minor) (follow c ds) t))

abbrev pub widths : List Column → List ℕ
widths cs = map (λ (c : Column). c.width) cs

prefix : (v : Version) (cs : List Column) → T (ascending cs) → since v cs ≡ take (length (since v cs)) (widths cs)
unfolding chosen
prefix v [] t = refl
prefix v (c ∷ cs) t = go (gte_of v c.major c.minor) refl (prefix v cs (both_right (follow c cs) (ascending cs) t))
  where
    go : (b : Bool) → gte_of v c.major c.minor ≡ b → since v cs ≡ take (length (since v cs)) (widths cs) → since v (c ∷ cs) ≡ take (length (since v (c ∷ cs))) (widths (c ∷ cs))
    go true e ih = rw e (ap (λ (l : List ℕ). c.width ∷ l) ih)
    go false e ih = rw (e, none v c cs e (both_left (follow c cs) (ascending cs) t))

-- the table's rule, by one test a family
pub rule : (f : Family) → T (ascending (columns_of f))
unfolding columns_of gte_of above
rule = each _ (tt, tt, tt, tt, tt, tt, tt, tt)

-- a version's columns are the first of its family's
pub prefix_of : (f : Family) (v : Version) → widths_of f v ≡ take (length (widths_of f v)) (widths (columns_of f))
prefix_of f v = prefix v (columns_of f) (rule f)

-- ---- how many columns a version has
-- a version has a column
abbrev has : Version → Column → Bool
has v c = gte_of v c.major c.minor

-- so it lacks all that follow it
none_of : (v : Version) (c : Column) (ds : List Column) → has v c ≡ false → T (follow c ds) → length (since v ds) ≡ 0
none_of v c ds p t = ap length (none v c ds p t)

-- the columns that a version has are before one that it lacks
pub before_lacking : (v : Version) (cs : List Column) → T (ascending cs) → (k : ℕ) → k < length cs → has v (get_or cs k (col 0 0 0)) ≡ false → length (since v cs) ≤ k
unfolding chosen
before_lacking v [] t k h e = absurd (omega arith)
before_lacking v (c ∷ cs) t zero h e = rw e (omega (arith, none_of v c cs e (both_left (follow c cs) (ascending cs) t)))
before_lacking v (c ∷ cs) t (suc k) h e =
    go (has v c) refl (before_lacking v cs (both_right (follow c cs) (ascending cs) t) k (omega arith) e)
  where
    go : (b : Bool) → has v c ≡ b → length (since v cs) ≤ k → length (since v (c ∷ cs)) ≤ suc k
    go true q l = rw q (omega arith)
    go false q l = rw q (omega arith)

-- and one that it has is among them
pub before_had : (v : Version) (cs : List Column) → T (ascending cs) → (k : ℕ) → k < length cs → has v (get_or cs k (col 0 0 0)) ≡ true → k < length (since v cs)
unfolding chosen
before_had v [] t k h e = absurd (omega arith)
before_had v (c ∷ cs) t zero h e = rw e (omega arith)
before_had v (c ∷ cs) t (suc k) h e = go (has v c) refl (before_had v cs (both_right (follow c cs) (ascending cs) t) k (omega arith) e)
  where
    go : (b : Bool) → has v c ≡ b → k < length (since v cs) → suc k < length (since v (c ∷ cs))
    go true q l = rw q (omega arith)
    go false q l = absurd (omega (arith, l, none_of v c cs q (both_left (follow c cs) (ascending cs) t)))

-- no more than its family ever had
pub at_most : (f : Family) (v : Version) → length (widths_of f v) ≤ count_of f
at_most f v = omega (arith, count_is f, length_chosen (λ (c : Column). gte_of v c.major c.minor) (λ (c : Column). c.width) (columns_of f))

module _ (f : Family) (v : Version) (n : ℕ) (h : n < length (columns_of f)) where
  abbrev column : Column
  column = get_or (columns_of f) n (col 0 0 0)

  -- the last one that it has, and one that it has not
  pub last_had : gte_of v column.major column.minor ≡ true → n < length (widths_of f v)
  last_had e = before_had v (columns_of f) (rule f) n h e

  pub not_had : gte_of v column.major column.minor ≡ false → length (widths_of f v) ≤ n
  not_had e = before_lacking v (columns_of f) (rule f) n h e

-- a loop over them: one more of the first widths
pub copied_step : (f : Family) (ws : List ℕ) (n y : ℕ) → n < count_of f → n < length ws → y ≡ (get_or (columns_of f) n (col 0 0 0)).width → take n ws ≡ take n (widths (columns_of f))
    → take (n + 1) (set ws n y) ≡ take (n + 1) (widths (columns_of f))
copied_step f ws n y h l e t = rw (add-one n, take-suc-set ws n y l, t, e) (sym (last_of (columns_of f) n (omega (arith, count_is f))))
  where
    last_of : (cs : List Column) (k : ℕ) → k < length cs → take (suc k) (widths cs) ≡ take k (widths cs) ++ ((get_or cs k (col 0 0 0)).width ∷ [])
    last_of [] k m = absurd (omega arith)
    last_of (c ∷ cs) zero m = refl
    last_of (c ∷ cs) (suc k) m = ap (λ (r : List ℕ). c.width ∷ r) (last_of cs k (omega arith))

pub copied_done : (f : Family) (v : Version) (ws : List ℕ) (n : ℕ) → n ≡ length (widths_of f v) → take n ws ≡ take n (widths (columns_of f)) → take n ws ≡ widths_of f v
copied_done f v ws n e t = t ∙ ap (λ (k : ℕ). take k (widths (columns_of f))) e ∙ sym (prefix_of f v)
