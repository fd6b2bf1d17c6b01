-- The laws of the payload table: its codes and sizes, no code twice, at most twelve entries, and the size that it gives each event.
-- Assumes nothing.
use mathlib.Core.Path.{◌≡◌, refl, sym, ap, ◌∙◌}
use mathlib.Core.Bool.{Bool, true, false, not, cond}
use mathlib.Core.List.{List, [], ◌∷◌, ◌++◌, map}
use Prim.Native.Nat.{ℕ, zero, suc, ◌+◌, ◌*◌, ◌≤◌, ◌<◌}
use native.Mathlib.Omega.{arith}
use borrow.Author.Tests.{eq-eqb, ne_eqb}
use lib.Dec.{T, T_not, not_T, eqb, eqb→eq, eqb_refl, lit<, lit≤}
use lib.ListN.{length, get_or, take, drop, drop_of_length-le}
use lib.Seq.{drop-cons}
use native.Mathlib.Numerals.{add-one}
use Rattle.wire.specs.Wire.{be}
use Rattle.format.specs.Event.{code_of}
use Rattle.format.specs.File.{Entry, codes, sizes, entries_bytes, table_bytes, index_of, Fresh}
use Rattle.format.specs.declared.version.Version.{Version}
use Rattle.format.specs.declared.event.Event.{Event}
use Rattle.format.specs.declared.event.Event.TheVariants as event
use Rattle.format.specs.Version.{gte_of}
use Rattle.layout.specs.Columns.{chosen, widths_of, has_family}
use Rattle.layout.specs.declared.columns.Family.{Family}
use Rattle.layout.specs.declared.columns.Family.TheVariants.{Pre, Post, FrameStart, Item, FrameEnd, FodPlatform, DreamlandWhispy, StadiumTransformation}
use Rattle.layout.specs.Payloads.{event_of, record_size, end_size, order, listed, payload_size, entry_of, entries_of}
use Rattle.layout.specs.Inner.{entry_as, Tabled}
use Rattle.layout.specs.declared.payloads.PayloadSize.{PayloadSize}
use Rattle.layout.specs.declared.payloads.PayloadSizes.{PayloadSizes}
use Rattle.layout.proofs.Laws.{both, both_left, both_right, both_of, head_small, sum_narrow, narrow_of, few_widths, length_chosen}

-- a function of what is chosen is chosen
pub map_chosen : {A B C : Type 0} (p : A → Bool) (f : A → B) (g : B → C) (xs : List A) → map g (chosen p f xs) ≡ chosen p (λ x. g (f x)) xs
unfolding chosen
map_chosen p f g [] = refl
map_chosen p f g (x ∷ xs) = go (p x) refl (map_chosen p f g xs)
  where
    go : (b : Bool) → p x ≡ b → map g (chosen p f xs) ≡ chosen p (λ y. g (f y)) xs → map g (chosen p f (x ∷ xs)) ≡ chosen p (λ y. g (f y)) (x ∷ xs)
    go true e ih = rw (e, ih)
    go false e ih = rw e ih

pub codes_of_lem : (v : Version) (block : ℕ) (given : Bool) (actual : ℕ) → codes (entries_of v block given actual) ≡ chosen (listed v given) code_of order
unfolding entries_of
codes_of_lem v block given actual = map_chosen (listed v given) (entry_of v block actual) (λ (e : Entry). e.code) order

pub sizes_of_lem : (v : Version) (block : ℕ) (given : Bool) (actual : ℕ)
    → sizes (entries_of v block given actual) ≡ chosen (listed v given) (payload_size v block actual) order
unfolding entries_of
sizes_of_lem v block given actual = map_chosen (listed v given) (entry_of v block actual) (λ (e : Entry). e.size) order

-- ---- no code twice

-- c is none of these
abbrev missing : ℕ → List ℕ → Bool
missing c [] = true
missing c (x ∷ xs) = both (not (eqb x c)) (missing c xs)

-- no two of these are the same
abbrev distinct : List ℕ → Bool
distinct [] = true
distinct (x ∷ xs) = both (missing x xs) (distinct xs)

-- none of these is one of those seen
abbrev unseen : List ℕ → List ℕ → Bool
unseen seen [] = true
unseen seen (x ∷ xs) = both (missing x seen) (unseen seen xs)

not_eqb : (a b : ℕ) → T (not (eqb a b)) → a ≡ b → ⊥
not_eqb a b t e = T_not (eqb a b) t (rw e (eqb_refl b))

not_sym : (a b : ℕ) → T (not (eqb a b)) → T (not (eqb b a))
not_sym a b t = not_T (eqb b a) (λ (h : T (eqb b a)). not_eqb a b t (sym (eqb→eq b a h)))

missing_index : (c : ℕ) (xs : List ℕ) → T (missing c xs) → length xs ≤ index_of c xs
unfolding index_of
missing_index c [] t = lit≤ tt
missing_index c (x ∷ xs) t =
    rw (ne_eqb x c (not_eqb x c (both_left (not (eqb x c)) (missing c xs) t)))
    (let h = missing_index c xs (both_right (not (eqb x c)) (missing c xs) t) in omega arith)

missing_more : (c d : ℕ) (xs : List ℕ) → T (missing c xs) → T (not (eqb d c)) → T (missing c (xs ++ (d ∷ [])))
missing_more c d [] t u = both_of (not (eqb d c)) true u tt
missing_more c d (x ∷ xs) t u =
    both_of (not (eqb x c)) (missing c (xs ++ (d ∷ []))) (both_left (not (eqb x c)) (missing c xs) t)
    (missing_more c d xs (both_right (not (eqb x c)) (missing c xs) t) u)

unseen_more : (d : ℕ) (seen xs : List ℕ) → T (unseen seen xs) → T (missing d xs) → T (unseen (seen ++ (d ∷ [])) xs)
unseen_more d seen [] t u = tt
unseen_more d seen (x ∷ xs) t u =
    both_of (missing x (seen ++ (d ∷ []))) (unseen (seen ++ (d ∷ [])) xs)
    (missing_more x d seen (both_left (missing x seen) (unseen seen xs) t) (not_sym x d (both_left (not (eqb x d)) (missing d xs) u)))
    (unseen_more d seen xs (both_right (missing x seen) (unseen seen xs) t) (both_right (not (eqb x d)) (missing d xs) u))

-- the entry of an event, by a size for each
abbrev sized : (Event → ℕ) → Event → Entry
sized size e = record { code = code_of e; size = size e }

-- entries chosen of events with distinct codes are fresh
fresh_chosen : (p : Event → Bool) (size : Event → ℕ) (small : (e : Event) → size e < 65536) (es : List Event) (seen : List ℕ)
    → T (distinct (map code_of es)) → T (unseen seen (map code_of es)) → Fresh seen (chosen p (sized size) es)
unfolding chosen Fresh
fresh_chosen p size small [] seen d u = tt
fresh_chosen p size small (e ∷ es) seen d u =
    let cs = map code_of es in
    let d' = both_right (missing (code_of e) cs) (distinct cs) d in
    let u' = both_right (missing (code_of e) seen) (unseen seen cs) u in
    go (p e) refl
    (missing_index (code_of e) seen (both_left (missing (code_of e) seen) (unseen seen cs) u))
    (fresh_chosen p size small es (seen ++ (code_of e ∷ [])) d' (unseen_more (code_of e) seen cs u' (both_left (missing (code_of e) cs) (distinct cs) d)))
    (fresh_chosen p size small es seen d' u')
  where
    go : (b : Bool) → p e ≡ b → length seen ≤ index_of (code_of e) seen
        → Fresh (seen ++ (code_of e ∷ [])) (chosen p (sized size) es) → Fresh seen (chosen p (sized size) es) → Fresh seen (chosen p (sized size) (e ∷ es))
    go true q h with-e without = rw q (h, small e, with-e)
    go false q h with-e without = rw q without

-- ---- the entry of an event

lt_length : (x : ℕ) (xs : List ℕ) → 0 < length (x ∷ xs)
lt_length x xs = omega arith

-- in what is chosen of events with distinct codes, the code of one that passes stands, and its size beside it
module _ (p : Event → Bool) (size : Event → ℕ) where
  abbrev Stands : List Event → Event → Type 0
  Stands es e =
      (index_of (code_of e) (chosen p code_of es) < length (chosen p code_of es))
      × (get_or (chosen p size es) (index_of (code_of e) (chosen p code_of es)) 0 ≡ size e)

  apart_at : (c : ℕ) (es : List Event) (k : ℕ) (e : Event) → T (missing c (map code_of es)) → k < length es → get_or es k event.Payloads ≡ e → T (not (eqb (code_of e) c))
  apart_at c [] k e t h q = absurd (omega arith)
  apart_at c (x ∷ es) zero e t h q = rw (ap code_of q) at (both_left (not (eqb (code_of x) c)) (missing c (map code_of es)) t)
  apart_at c (x ∷ es) (suc k) e t h q = apart_at c es k e (both_right (not (eqb (code_of x) c)) (missing c (map code_of es)) t) (omega arith) q

  stands : (es : List Event) (k : ℕ) (e : Event) → T (distinct (map code_of es)) → k < length es → get_or es k event.Payloads ≡ e → p e ≡ true → Stands es e
  unfolding chosen index_of
  stands [] k e d h q t = absurd (omega arith)
  stands (x ∷ es) zero e d h q t =
      let t' : p x ≡ true = ap p q ∙ t in
      let c : code_of x ≡ code_of e = ap code_of q in
      rw (t', eq-eqb (code_of x) (code_of e) c) (lt_length (code_of x) (chosen p code_of es), ap size q)
  stands (x ∷ es) (suc k) e d h q t =
      let cs = map code_of es in
      go (p x) refl
      (not_eqb (code_of x) (code_of e) (not_sym (code_of e) (code_of x) (apart_at (code_of x) es k e (both_left (missing (code_of x) cs) (distinct cs) d) (omega arith) q)))
      (stands es k e (both_right (missing (code_of x) cs) (distinct cs) d) (omega arith) q t)
    where
      go : (b : Bool) → p x ≡ b → (code_of x ≡ code_of e → ⊥) → Stands es e → Stands (x ∷ es) e
      go true g n ih = rw (g, ne_eqb (code_of x) (code_of e) n) (omega (arith, ih.0), ih.1)
      go false g n ih = rw g ih

-- ---- the table

record_small : (f : Family) (v : Version) → record_size f v < 65536
record_small f v = omega (arith, head_small f, sum_narrow (widths_of f v) (narrow_of f v), few_widths f v)

end_small : (v : Version) → end_size v < 65536
unfolding end_size
end_small v = go (gte_of v 3 13) (gte_of v 2 0)
  where
    go : (a b : Bool) → cond a 6 (cond b 2 1) < 65536
    go true b = lit< tt
    go false true = lit< tt
    go false false = lit< tt

pub payload_small : (v : Version) (block actual : ℕ) → block < 65536 → (e : Event) → payload_size v block actual e < 65536
unfolding payload_size
payload_small v block actual h event.Payloads = lit< tt
payload_small v block actual h event.GameStart = h
payload_small v block actual h event.FramePre = record_small Pre v
payload_small v block actual h event.FramePost = record_small Post v
payload_small v block actual h event.GameEnd = end_small v
payload_small v block actual h event.FrameStart = record_small FrameStart v
payload_small v block actual h event.Item = record_small Item v
payload_small v block actual h event.FrameEnd = record_small FrameEnd v
payload_small v block actual h event.GeckoCodes = omega arith
payload_small v block actual h event.MessageSplitter = lit< tt
payload_small v block actual h event.FodPlatform = record_small FodPlatform v
payload_small v block actual h event.DreamlandWhispy = record_small DreamlandWhispy v
payload_small v block actual h event.StadiumTransformation = record_small StadiumTransformation v

module _ (v : Version) (block : ℕ) (given : Bool) (actual : ℕ) where
  pub few_entries : length (entries_of v block given actual) ≤ 12
  unfolding entries_of
  few_entries = length_chosen (listed v given) (entry_of v block actual) order

  -- no code stands twice, and each size fits two bytes
  pub fresh_entries : block < 65536 → Fresh [] (entries_of v block given actual)
  unfolding entries_of
  fresh_entries h = fresh_chosen (listed v given) (payload_size v block actual) (payload_small v block actual h) order [] tt tt

  -- an event's code is in the table, with a payload of this many bytes
  abbrev pub Sized : ℕ → ℕ → Type 0
  Sized code n =
      let t = entries_of v block given actual in
      (index_of code (codes t) < length (codes t)) × (get_or (sizes t) (index_of code (codes t)) 0 ≡ n)

  -- so it is with the k-th event of the order, where it is listed
  pub entry_at : (k : ℕ) (e : Event) → k < 12 → get_or order k event.Payloads ≡ e → listed v given e ≡ true → Sized (code_of e) (payload_size v block actual e)
  entry_at k e h q t =
      rw (codes_of_lem v block given actual, sizes_of_lem v block given actual) (stands (listed v given) (payload_size v block actual) order k e tt h q t)

  -- and with every family that the version has
  pub family_at_home : (f : Family) → has_family v f ≡ true → Sized (code_of (event_of f)) (record_size f v)
  unfolding listed payload_size
  family_at_home Pre t = entry_at 1 event.FramePre (lit< tt) refl t
  family_at_home Post t = entry_at 2 event.FramePost (lit< tt) refl t
  family_at_home FrameStart t = entry_at 4 event.FrameStart (lit< tt) refl t
  family_at_home Item t = entry_at 5 event.Item (lit< tt) refl t
  family_at_home FrameEnd t = entry_at 6 event.FrameEnd (lit< tt) refl t
  family_at_home FodPlatform t = entry_at 9 event.FodPlatform (lit< tt) refl t
  family_at_home DreamlandWhispy t = entry_at 10 event.DreamlandWhispy (lit< tt) refl t
  family_at_home StadiumTransformation t = entry_at 11 event.StadiumTransformation (lit< tt) refl t

-- ---- writing the entries: one turn, and the end
pub entries_step : (es : List PayloadSize) (i : ℕ) (e d : PayloadSize) → i < length es → e ≡ get_or es i d
    → entries_bytes (map entry_as (drop i es)) ≡ (e.code ∷ []) ++ (be 2 e.size ++ entries_bytes (map entry_as (drop (i + 1) es)))
unfolding entries_bytes
entries_step es i e d h q = rw (drop-cons es i d h, add-one i, q)

pub entries_done : (es : List PayloadSize) (i : ℕ) → length es ≤ i → entries_bytes (map entry_as (drop i es)) ≡ []
unfolding entries_bytes
entries_done es i h = rw (drop_of_length-le es h)

-- the table's event, part by part, from its entries in an array
pub table_parts : (t : List Entry) (p : PayloadSizes) (b : ℕ) → b ≡ code_of event.Payloads → Tabled t p
    → table_bytes t ≡ (b ∷ []) ++ (((3 * p.len + 1) ∷ []) ++ entries_bytes (map entry_as (take p.len p.entries)))
unfolding table_bytes
table_parts t p b e h = rw (e, h.each, h.count)

-- ---- the entries that are chosen
abbrev pub sized_of : Version → ℕ → ℕ → Event → PayloadSize
sized_of v block actual e = record { code = code_of e; size = payload_size v block actual e }

pub entries_are : (v : Version) (block : ℕ) (given : Bool) (actual : ℕ) → map entry_as (chosen (listed v given) (sized_of v block actual) order) ≡ entries_of v block given actual
unfolding entries_of
entries_are v block given actual = map_chosen (listed v given) (sized_of v block actual) entry_as order
