-- The table's laws: a list of numbers that is the definition's table says of each column what the definition says, and a family's columns stand at its place in it.
-- Assumes nothing.
use mathlib.Core.Path.{◌≡◌, refl, sym, ap, ◌∙◌}
use mathlib.Core.Bool.{Bool, true, false, cond}
use mathlib.Core.List.{List, [], ◌∷◌, ◌++◌, map, append_assoc, append-nil}
use Prim.Native.Nat.{ℕ, ◌+◌, ◌*◌, ◌≤◌, ◌<◌}
use native.Mathlib.Nat.{add-zero, zero-add, add_assoc}
use native.Mathlib.Numerals.{add-one}
use native.Mathlib.Omega.{arith}
use lib.Dec.{T, leb, leb→le, lit≤}
use lib.ListN.{length, take, drop, set, get_or, drop_of_length-le, length-map, get_or-map}
use lib.Seq.{get_or-take, get_or-drop, drop-cons, take-suc-set}
use Rattle.format.specs.declared.version.Version.{Version}
use Rattle.format.specs.Version.{gte_of}
use Rattle.layout.specs.declared.columns.Column.{Column}
use Rattle.layout.specs.declared.columns.Family.{Family}
use Rattle.layout.specs.declared.columns.Family.TheVariants.{Pre, Post, FrameStart, Item, FrameEnd, FodPlatform, DreamlandWhispy, StadiumTransformation}
use Rattle.layout.specs.Columns.{col, columns_of, chosen, since, sum, widths_of}
use Rattle.layout.specs.Inner.{Narrow, table, column_of, first_column, count_of}
use Rattle.layout.specs.Payloads.{head_size}

-- the numbers of the code's table, and that they say what the definition says
unfoldable pub packed : List Column → List ℕ
packed [] = []
packed (c ∷ cs) = (c.width * 1000 + c.major * 100 + c.minor) ∷ packed cs

pub unpacked : map column_of (packed table) ≡ table
unfolding packed table columns_of
unpacked = refl

-- what a lent table says of its i-th column, where its numbers are the definition's columns
column_at : (xs : List ℕ) → map column_of xs ≡ table → (i : ℕ) → column_of (get_or xs i 0) ≡ get_or table i (col 0 0 0)
column_at xs e i = sym (get_or-map column_of xs i 0) ∙ ap (λ (l : List Column). get_or l i (col 0 0 0)) e

pub table_long : (xs : List ℕ) → map column_of xs ≡ table → length xs ≡ 75
unfolding table columns_of
table_long xs e = sym (length-map xs column_of) ∙ ap length e

-- what holds of each family holds of any
pub each : (P : Family → Type 0) → P Pre × P Post × P FrameStart × P Item × P FrameEnd × P FodPlatform × P DreamlandWhispy × P StadiumTransformation → (f : Family) → P f
each P h Pre = h.0
each P h Post = h.1
each P h FrameStart = h.2
each P h Item = h.3
each P h FrameEnd = h.4
each P h FodPlatform = h.5
each P h DreamlandWhispy = h.6
each P h StadiumTransformation = h.7

-- a family's columns are a part of the table
family : (f : Family) → take (count_of f) (drop (first_column f) table) ≡ columns_of f
unfolding table columns_of
family = each _ (refl, refl, refl, refl, refl, refl, refl, refl)

pub fits : (f : Family) → first_column f + count_of f ≤ 75
fits = each _ (lit≤ tt, lit≤ tt, lit≤ tt, lit≤ tt, lit≤ tt, lit≤ tt, lit≤ tt, lit≤ tt)

pub count_is : (f : Family) → length (columns_of f) ≡ count_of f
unfolding columns_of
count_is = each _ (refl, refl, refl, refl, refl, refl, refl, refl)

family_at_lem : (f : Family) (i : ℕ) → i < count_of f → get_or table (first_column f + i) (col 0 0 0) ≡ get_or (columns_of f) i (col 0 0 0)
family_at_lem f i h =
    sym (get_or-drop (first_column f) table i (col 0 0 0))
    ∙ sym (get_or-take (count_of f) (drop (first_column f) table) i (col 0 0 0) h)
    ∙ ap (λ (l : List Column). get_or l i (col 0 0 0)) (family f)

-- the i-th column of a family, by such a list
pub column_in : (xs : List ℕ) → map column_of xs ≡ table → (f : Family) (k i : ℕ) → k ≡ first_column f → i < count_of f → column_of (get_or xs (k + i) 0) ≡ get_or (columns_of f) i (col 0 0 0)
column_in xs e f k i p h = column_at xs e (k + i) ∙ ap (λ (j : ℕ). get_or table (j + i) (col 0 0 0)) p ∙ family_at_lem f i h

pub small : (f : Family) → count_of f ≤ 32
small = each _ (lit≤ tt, lit≤ tt, lit≤ tt, lit≤ tt, lit≤ tt, lit≤ tt, lit≤ tt, lit≤ tt)

-- ---- a loop that collects what is chosen of a list into an array: ws has what was chosen before element i, in its first n places
module _ {A B : Type 0} (d : A) (p : A → Bool) (f : A → B) (xs : List A) where
  unfoldable pub Collected : ℕ → ℕ → List B → Type 0
  Collected i n ws = take n ws ++ chosen p f (drop i xs) ≡ chosen p f xs

  pub collect_start : (ws : List B) → Collected 0 0 ws
  unfolding Collected
  collect_start ws = refl

  -- a turn, with the value y and the test t that the code found for element i
  pub collect_take : (i n : ℕ) (ws : List B) (y : B) (t : Bool) → i < length xs → n < length ws → y ≡ f (get_or xs i d) → t ≡ p (get_or xs i d) → t ≡ true
      → Collected i n ws → Collected (i + 1) (n + 1) (set ws n y)
  unfolding Collected chosen
  collect_take i n ws y t h k v q g e =
      let g' : p (get_or xs i d) ≡ true = sym q ∙ g in
      rw (add-one i, add-one n, take-suc-set ws n y k, append_assoc, v)
      (rw (drop-cons xs i d h, g') at e)

  pub collect_skip : (i n : ℕ) (ws : List B) (t : Bool) → i < length xs → t ≡ p (get_or xs i d) → t ≡ false → Collected i n ws → Collected (i + 1) n ws
  unfolding Collected chosen
  collect_skip i n ws t h q g e =
      let g' : p (get_or xs i d) ≡ false = sym q ∙ g in
      rw (add-one i) (rw (drop-cons xs i d h, g') at e)

  pub collect_done : (i n : ℕ) (ws : List B) → length xs ≤ i → Collected i n ws → take n ws ≡ chosen p f xs
  unfolding Collected chosen
  collect_done i n ws h e = sym (append-nil (take n ws)) ∙ rw (drop_of_length-le xs h) at e

pub sum_append : (xs ys : List ℕ) → sum (xs ++ ys) ≡ sum xs + sum ys
unfolding sum
sum_append [] ys = rw zero-add
sum_append (x ∷ xs) ys = rw (add_assoc, sum_append xs ys)

pub sum_take : (ws : List ℕ) (n w b : ℕ) → n < length ws → b ≡ sum (take n ws) → b + w ≡ sum (take (n + 1) (set ws n w))
unfolding sum
sum_take ws n w b h e = rw (add-one n, take-suc-set ws n w h, sum_append, e, add-zero)

-- an arm of a match on x: what holds of the arm's constructor k holds of x
pub arm : {A B : Type 0} (f : A → B) {x k : A} {r : B} → x ≡ k → r ≡ f k → r ≡ f x
arm f e h = h ∙ sym (ap f e)

-- two tests, and what their conjunction tells
abbrev pub both : Bool → Bool → Bool
both true b = b
both false b = false

pub both_left : (a b : Bool) → T (both a b) → T a
both_left true b t = tt
both_left false b t = t

pub both_right : (a b : Bool) → T (both a b) → T b
both_right true b t = t
both_right false b t = absurd t

pub both_of : (a b : Bool) → T a → T b → T (both a b)
both_of true b t u = u
both_of false b t u = t

-- ---- the widths: none is above 4, by one test over the whole table

abbrev slim : List Column → Bool
slim [] = true
slim (c ∷ cs) = both (leb c.width 4) (slim cs)

narrow_since : (v : Version) (cs : List Column) → T (slim cs) → Narrow (since v cs)
unfolding chosen Narrow
narrow_since v [] t = tt
narrow_since v (c ∷ cs) t =
    go (gte_of v c.major c.minor) (leb→le c.width 4 (both_left (leb c.width 4) (slim cs) t)) (narrow_since v cs (both_right (leb c.width 4) (slim cs) t))
  where
    go : (b : Bool) → c.width ≤ 4 → Narrow (since v cs) → Narrow (cond b (c.width ∷ since v cs) (since v cs))
    go true h n = (h, n)
    go false h n = n

slim_family : (f : Family) → T (slim (columns_of f))
unfolding columns_of
slim_family = each _ (tt, tt, tt, tt, tt, tt, tt, tt)

pub narrow_of : (f : Family) (v : Version) → Narrow (widths_of f v)
narrow_of f v = narrow_since v (columns_of f) (slim_family f)

pub length_chosen : {A B : Type 0} (p : A → Bool) (f : A → B) (xs : List A) → length (chosen p f xs) ≤ length xs
unfolding chosen
length_chosen p f [] = lit≤ tt
length_chosen p f (x ∷ xs) = go (p x) refl (length_chosen p f xs)
  where
    go : (b : Bool) → p x ≡ b → length (chosen p f xs) ≤ length xs → length (chosen p f (x ∷ xs)) ≤ length (x ∷ xs)
    go true e ih = rw e (omega arith)
    go false e ih = rw e (omega arith)

-- a record has at most 32 columns
pub few_widths : (f : Family) (v : Version) → length (widths_of f v) ≤ 32
few_widths f v =
    let h = length_chosen (λ (c : Column). gte_of v c.major c.minor) (λ (c : Column). c.width) (columns_of f) in
    omega (arith, count_is f, small f)

pub sum_narrow : (ws : List ℕ) → Narrow ws → sum ws ≤ 4 * length ws
unfolding Narrow sum
sum_narrow [] n = lit≤ tt
sum_narrow (w ∷ ws) n = omega (arith, n.0, sum_narrow ws n.1)

pub head_small : (f : Family) → head_size f ≤ 6
head_small = each _ (lit≤ tt, lit≤ tt, lit≤ tt, lit≤ tt, lit≤ tt, lit≤ tt, lit≤ tt, lit≤ tt)
