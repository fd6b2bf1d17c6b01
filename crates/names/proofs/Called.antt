-- From a list's lines to what columns are called.
-- Assumes nothing.
use mathlib.Core.Path.{◌≡◌, refl, sym, ap, ◌∙◌}
use mathlib.Core.List.{List, [], ◌∷◌, ◌++◌, map}
use mathlib.Core.Bool.{Bool, true, false, cond}
use Prim.Native.Nat.{ℕ, zero, suc, ◌≤◌, ◌<◌}
use native.Mathlib.Nat.{le_of_suc-le-suc, not-suc-le-zero}
use native.Mathlib.Omega.{arith}
use borrow.Author.Tests.{lt-ltb, le-ltb}
use lib.Dec.{T, eqb, leb, leb→le}
use lib.ListN.{length, get_or, drop, replicate, length-map, length-drop, get_or-map}
use lib.Seq.{drop-append-add}
use Rattle.wire.specs.Wire.{Room, Wrote}
use Rattle.layout.specs.Columns.{col, columns_of}
use Rattle.layout.specs.Inner.{count_of}
use Rattle.layout.specs.declared.columns.Column.{Column}
use Rattle.layout.specs.declared.columns.Family.{Family}
use Rattle.layout.proofs.Laws.{each, both, both_left, both_right, count_is}
use Rattle.names.specs.Bytes.{bytes}
use Rattle.names.specs.Names.{Naming, unsigned_cells, called_in, no_column, described}
use Rattle.names.specs.Inner.{first_line, lines_from, line, called_as, called_of}
use Rattle.names.specs.declared.columns.Called.{Called}
use Rattle.names.specs.declared.columns.Described.{Described}
use Rattle.names.proofs.Texts.{over_zeros}

-- ---- lines put behind each other

-- each line with a line end behind it
unfoldable pub joined : List (List ℕ) → List ℕ
joined [] = []
joined (l ∷ ls) = l ++ (10 ∷ joined ls)

-- no line end is among the bytes
abbrev clean : List ℕ → Bool
clean [] = true
clean (b ∷ bs) = cond (eqb b 10) false (clean bs)

-- a line of at least so many bytes and at most so many, with no line end inside; and such lines
abbrev right : ℕ → ℕ → List ℕ → Bool
right few most l = both (clean l) (both (leb few (length l)) (leb (length l) most))

abbrev pub fit : ℕ → ℕ → List (List ℕ) → Bool
fit few most [] = true
fit few most (l ∷ ls) = both (right few most l) (fit few most ls)

record Right (few most : ℕ) (l : List ℕ) : Type 0 where
  is_clean : T (clean l)
  long : few ≤ length l
  short : length l ≤ most

right_of : (few most : ℕ) (l : List ℕ) → T (right few most l) → Right few most l
right_of few most l t =
    let lengths = both_right (clean l) (both (leb few (length l)) (leb (length l) most)) t in
    record {
      is_clean = both_left (clean l) (both (leb few (length l)) (leb (length l) most)) t;
      long = leb→le few (length l) (both_left (leb few (length l)) (leb (length l) most) lengths);
      short = leb→le (length l) most (both_right (leb few (length l)) (leb (length l) most) lengths);
    }

first_right : (few most : ℕ) (l : List ℕ) (ls : List (List ℕ)) → T (fit few most (l ∷ ls)) → Right few most l
first_right few most l ls t = right_of few most l (both_left (right few most l) (fit few most ls) t)

rest_fit : (few most : ℕ) (l : List ℕ) (ls : List (List ℕ)) → T (fit few most (l ∷ ls)) → T (fit few most ls)
rest_fit few most l ls t = both_right (right few most l) (fit few most ls) t

first_joined : (l ys : List ℕ) → T (clean l) → first_line (l ++ (10 ∷ ys)) ≡ l
unfolding first_line
first_joined [] ys t = refl
first_joined (b ∷ l) ys t = go (eqb b 10) refl t (first_joined l ys)
  where
    go : (c : Bool) → eqb b 10 ≡ c → T (cond c false (clean l)) → (T (clean l) → first_line (l ++ (10 ∷ ys)) ≡ l) → first_line ((b ∷ l) ++ (10 ∷ ys)) ≡ b ∷ l
    go true e u ih = absurd u
    go false e u ih = rw (e, ih u)

none_from : (n : ℕ) → lines_from n [] ≡ []
unfolding lines_from first_line
none_from zero = refl
none_from (suc n) = none_from n

-- line n of what was joined is the n-th, and as long as the test says
pub line_joined : (few most : ℕ) (ls : List (List ℕ)) (n : ℕ) → T (fit few most ls) → line n (joined ls) ≡ get_or ls n []
unfolding line joined lines_from first_line
line_joined few most [] n t = ap first_line (none_from n)
line_joined few most (l ∷ ls) zero t = first_joined l (joined ls) (first_right few most l ls t).is_clean
line_joined few most (l ∷ ls) (suc n) t =
    rw (first_joined l (joined ls) (first_right few most l ls t).is_clean, drop-append-add l (10 ∷ joined ls) 1)
    (line_joined few most ls n (rest_fit few most l ls t))

pub joined_long : (few most : ℕ) (ls : List (List ℕ)) (n : ℕ) → T (fit few most ls) → n < length ls → (few ≤ length (get_or ls n [])) × (length (get_or ls n []) ≤ most)
joined_long few most [] n t h = absurd (not-suc-le-zero h)
joined_long few most (l ∷ ls) zero t h = let r = first_right few most l ls t in (r.long, r.short)
joined_long few most (l ∷ ls) (suc n) t h = joined_long few most ls n (rest_fit few most l ls t) (le_of_suc-le-suc h)

pub get_d_any : {A : Type 0} (xs : List A) (n : ℕ) (d e : A) → n < length xs → get_or xs n d ≡ get_or xs n e
get_d_any [] n d e h = absurd (not-suc-le-zero h)
get_d_any (x ∷ xs) zero d e h = refl
get_d_any (x ∷ xs) (suc n) d e h = get_d_any xs n d e (le_of_suc-le-suc h)

-- ---- the columns of a family

abbrev pub line_of : Naming → List ℕ
line_of c = c.kind ∷ 0x20 ∷ bytes c.name

unfoldable pub lines : Family → List (List ℕ)
lines f = map line_of (called_in f)

-- as many as the family has columns, with names of under 32 bytes
pub as_many : (f : Family) → length (columns_of f) ≡ length (called_in f)
unfolding columns_of called_in
as_many = each _ (refl, refl, refl, refl, refl, refl, refl, refl)

lines_fit : (f : Family) → T (fit 2 33 (lines f))
unfolding lines called_in bytes
lines_fit = each _ (tt, tt, tt, tt, tt, tt, tt, tt)

line_is : (f : Family) (n : ℕ) → n < length (columns_of f) → line n (joined (lines f)) ≡ line_of (get_or (called_in f) n (unsigned_cells ""))
unfolding lines
line_is f n h =
    line_joined 2 33 (lines f) n (lines_fit f)
    ∙ get_d_any (lines f) n [] (line_of (unsigned_cells "")) (rw length-map (rw (as_many f) at h))
    ∙ get_or-map line_of (called_in f) n (unsigned_cells "")

-- what a line of a family's list asks and says, where f is the family k
module _ (f k : Family) (n : ℕ) (e : f ≡ k) (h : n < length (columns_of f)) where
  here : n < length (columns_of k)
  here = rw e at h

  pub line_asks : (2 ≤ length (line n (joined (lines k)))) × (length (line n (joined (lines k))) ≤ 34)
  unfolding lines
  line_asks =
      let long = joined_long 2 33 (lines k) n (lines_fit k) (rw length-map (rw (as_many k) at here)) in
      let same = ap length (line_joined 2 33 (lines k) n (lines_fit k)) in
      (omega (arith, long.0, same), omega (arith, long.1, same))

  pub line_says : {r : Called} → r ≡ called_as (line n (joined (lines k))) → r ≡ called_of f n
  unfolding called_as called_of
  line_says t = t ∙ ap called_as (line_is k n here) ∙ ap (λ (g : Family). called_of g n) (sym e)

-- a line's kind and name, read
pub name_fits : {out xs : List ℕ} (l : List ℕ) → length out ≡ 32 → length l ≤ 34 → xs ≡ drop 2 l → Room out 0 xs
name_fits l e h same = record { fits = rw same (simp length-drop (omega (arith, e, h))) }

pub called_as_lem : {x : ℕ} {name : List ℕ} (l : List ℕ) {next : ℕ} → x ≡ get_or l 0 0 → length l ≤ 34 → Wrote (replicate 32 0) name 0 next (drop 2 l) → ◌≡◌ {A = Called} (record { kind = x; name = name }) (called_as l)
unfolding called_as
called_as_lem l e h w =
    let short : length (drop 2 l) ≤ 32 = simp length-drop (omega arith) in
    λ i. record { kind = e i; name = (w.after_is ∙ over_zeros 32 (drop 2 l) short) i }

-- ---- a column with all that is known of it

module _ (f : Family) (n : ℕ) {count : ℕ} (many : count ≡ count_of f) where
  pub describes_none : count ≤ n → {r : Described} → r ≡ no_column → r ≡ described f n
  unfolding described
  describes_none h e = rw (le-ltb n (length (columns_of f)) (omega (arith, count_is f))) e

  pub describes : n < count → {c : Column} {by : Called} → c ≡ get_or (columns_of f) n (col 0 0 0) → by ≡ called_of f n
      → record { refused = 0; width = c.width; kind = by.kind; major = c.major; minor = c.minor; name = by.name } ≡ described f n
  unfolding described called_of
  describes h e b =
      rw (lt-ltb n (length (columns_of f)) (omega (arith, count_is f)))
      (λ i. record { refused = 0; width = (e i).width; kind = (b i).kind; major = (e i).major; minor = (e i).minor; name = (b i).name })
