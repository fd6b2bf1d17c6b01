-- What a written file's table says of codes.
-- Assumes nothing.
use Prim.Native.Nat.{ℕ, ◌+◌, ◌%◌}
use mathlib.Core.Path.{◌≡◌, refl, sym, ap, ◌∙◌}
use mathlib.Core.Bool.{Bool, true, false, cond, ◌&&◌, ◌||◌}
use mathlib.Core.List.{List, [], ◌∷◌}
use native.Mathlib.Omega.{arith}
use borrow.Author.Tests.{eq-eqb, ne_eqb, lt-ltb}
use lib.Dec.{eqb, ltb, lit<}
use Rattle.format.specs.Event.{code_of}
use Rattle.format.specs.Version.{gte_of}
use Rattle.format.specs.declared.version.Version.{Version}
use Rattle.format.specs.declared.event.Event.{Event}
use Rattle.format.specs.declared.event.Event.TheVariants.{GeckoCodes}
use Rattle.format.proofs.Tests.{or_none}
use Rattle.layout.specs.Columns.{chosen}
use Rattle.layout.specs.Payloads.{order, listed, payload_size, entry_of, entries_of}
use Rattle.layout.proofs.Entries.{entry_at}
use Rattle.head.specs.Table.{span_of}
use Rattle.head.proofs.Written.{listed_span}
use Rattle.read_outline.specs.Listed.{listed_right}

-- one of the events that are chosen has this code
abbrev amongst : ℕ → (Event → Bool) → List Event → Bool
amongst c p [] = false
amongst c p (e ∷ es) = (eqb (code_of e) c && p e) || amongst c p es

unlisted_chosen : (c : ℕ) (v : Version) (block actual : ℕ) (p : Event → Bool) (es : List Event) → amongst c p es ≡ false → span_of c (chosen p (entry_of v block actual) es) ≡ 0
unfolding chosen span_of
unlisted_chosen c v block actual p [] h = refl
unlisted_chosen c v block actual p (e ∷ es) h =
    let (here, rest) = or_none (eqb (code_of e) c && p e) (amongst c p es) h in
    go (p e) refl (eqb (code_of e) c) refl here (unlisted_chosen c v block actual p es rest)
  where
    go : (b : Bool) → p e ≡ b → (q : Bool) → eqb (code_of e) c ≡ q → (q && b) ≡ false → span_of c (chosen p (entry_of v block actual) es) ≡ 0
        → span_of c (chosen p (entry_of v block actual) (e ∷ es)) ≡ 0
    go true x true y h ih = let z : ◌≡◌ {A = ℕ} 0 1 = ap (λ (b : Bool). cond b 1 0) (sym h) in absurd (omega arith)
    go true x false y h ih = rw (x, y) ih
    go false x q y h ih = rw x ih

module _ (v : Version) (block actual : ℕ) where
  -- not given: not listed
  span_none : span_of (code_of GeckoCodes) (entries_of v block false actual) ≡ 0
  unfolding entries_of listed
  span_none = unlisted_chosen (code_of GeckoCodes) v block actual (listed v false) order refl

  -- given: their size and the code
  span_some : gte_of v 3 3 ≡ true → span_of (code_of GeckoCodes) (entries_of v block true actual) ≡ 1 + actual % 65536
  unfolding listed payload_size
  span_some since =
      let (inside, size) = entry_at v block true actual 7 GeckoCodes (lit< tt) refl since in
      listed_span (code_of GeckoCodes) (entries_of v block true actual) inside ∙ omega (arith, size)

  pub span_is : (given : Bool) → (given ≡ true → gte_of v 3 3 ≡ true) → span_of (code_of GeckoCodes) (entries_of v block given actual) ≡ cond given (1 + actual % 65536) 0
  span_is true since = span_some (since refl)
  span_is false since = span_none

-- so the table is right for as many blocks as there are where codes are given, and for none where they are not
pub listed_right_lem : (v : Version) (given : Bool) (actual blocks used : ℕ) → (given ≡ true → gte_of v 3 3 ≡ true) → used ≡ cond given actual 0 → (given ≡ false → blocks ≡ 0)
    → listed_right v (cond given (1 + actual % 65536) 0) blocks used ≡ true
unfolding listed_right
listed_right_lem v true actual blocks used since u none =
    rw (since refl, ne_eqb (1 + actual % 65536) 0 (λ q. omega (arith, q)), u) (eq-eqb (1 + actual % 65536) (1 + actual % 65536) refl)
listed_right_lem v false actual blocks used since u none = rw (eq-eqb blocks 0 (none refl)) (go (gte_of v 3 3))
  where
    go : (b : Bool) → cond b true true ≡ true
    go true = refl
    go false = refl

-- and the mark of codes is that of the game
pub mark_is : (v : Version) (given : Bool) (actual : ℕ) → (given ≡ true → gte_of v 3 3 ≡ true)
    → ◌≡◌ {A = ℕ} (cond (gte_of v 3 3 && ltb 0 (cond given (1 + actual % 65536) 0)) 1 0) (cond given 1 0)
mark_is v true actual since = rw (since refl, lt-ltb 0 (1 + actual % 65536) (omega arith))
mark_is v false actual since = go (gte_of v 3 3)
  where
    go : (b : Bool) → ◌≡◌ {A = ℕ} (cond (b && false) 1 0) 0
    go true = refl
    go false = refl
