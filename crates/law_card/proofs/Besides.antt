-- The laws of events beside each other: lists that follow each other, ranges and parts that are kept; and where the bytes of such events may differ.
-- Assumes nothing.
use mathlib.Core.Path.{◌≡◌, refl, sym, ap, subst, ◌∙◌}
use mathlib.Core.Bool.{Bool, true, false}
use mathlib.Core.List.{List, [], ◌∷◌, ◌++◌, append_assoc}
use Prim.Native.Nat.{ℕ, zero, suc, ◌+◌, ◌-◌, ◌<◌}
use native.Mathlib.Omega.{arith}
use native.Mathlib.Decide.{dec_lt}
use lib.ListN.{length, get_or, length-append, get_or-append}
use lib.Seq.{get_or-append-add, get_or-take}
use Rattle.wire.specs.Wire.{ranged, keep}
use Rattle.format.specs.File.{Ev, event_bytes, events_bytes}
use Rattle.format.proofs.Files.{events_cons}
use Rattle.law_card.specs.Card.{of_port, Beside, Alongside, InCard}

module _ (port : ℕ) where
  pub beside_same : (e : Ev) → Beside port e e
  beside_same e = record { code = refl; size = refl; head = refl; others = λ _. refl }

  pub same : (es : List Ev) → Alongside port es es
  unfolding Alongside
  same [] = tt
  same (e ∷ es) = (beside_same e, same es)

  pub one : (e d : Ev) → Beside port e d → Alongside port (e ∷ []) (d ∷ [])
  unfolding Alongside
  one e d h = (h, tt)

  pub append : (es ds xs ys : List Ev) → Alongside port es ds → Alongside port xs ys → Alongside port (es ++ xs) (ds ++ ys)
  unfolding Alongside
  append [] [] xs ys h k = k
  append [] (d ∷ ds) xs ys h k = absurd h
  append (e ∷ es) [] xs ys h k = absurd h
  append (e ∷ es) (d ∷ ds) xs ys h k = (h.0, append es ds xs ys h.1 k)

  pub over_range : (f g : ℕ → List Ev) (i n : ℕ) → ((j : ℕ) → j < i + n → Alongside port (f j) (g j)) → Alongside port (ranged f i n) (ranged g i n)
  unfolding ranged Alongside
  over_range f g i zero h = tt
  over_range f g i (suc n) h = append (f i) (g i) _ _ (h i (omega arith)) (over_range f g (i + 1) n (λ j l. h j (omega arith)))

  pub where_kept : (b : Bool) (es ds : List Ev) → Alongside port es ds → Alongside port (keep b es) (keep b ds)
  unfolding keep Alongside
  where_kept true es ds h = h
  where_kept false es ds h = tt

  -- ---- as many events, with the same codes, and as many bytes
  pub length_same : (es ds : List Ev) → Alongside port es ds → length es ≡ length ds
  unfolding Alongside
  length_same [] [] h = refl
  length_same [] (d ∷ ds) h = absurd h
  length_same (e ∷ es) [] h = absurd h
  length_same (e ∷ es) (d ∷ ds) h = ap suc (length_same es ds h.1)

  pub bytes_same : (es ds : List Ev) → Alongside port es ds → length (events_bytes es) ≡ length (events_bytes ds)
  unfolding Alongside
  bytes_same [] [] h = refl
  bytes_same [] (d ∷ ds) h = absurd h
  bytes_same (e ∷ es) [] h = absurd h
  bytes_same (e ∷ es) (d ∷ ds) h =
      simp (events_cons, length-append) (omega (arith, h.0.size, bytes_same es ds h.1))

  -- ---- bytes that differ are the port's: one event, whose code is at `first`, before others
  module _ (e d : Ev) (h : Beside port e d) (first : ℕ) where
    -- byte m of its payload
    inside : (es : List Ev) (m : ℕ) → m < length e.payload → (get_or e.payload m 0 ≡ get_or d.payload m 0 → ⊥) → InCard port (e ∷ es) first (first + suc m)
    unfolding events_bytes
    inside es m l ne = go (of_port port e) refl
      where
        go : (b : Bool) → of_port port e ≡ b → InCard port (e ∷ es) first (first + suc m)
        go false q = absurd (ne (ap (λ (x : List ℕ). get_or x m 0) (h.others q)))
        go true q =
            elim (dec_lt m 6) [
              | yes k ↦ absurd (ne (sym (get_or-take 6 e.payload m 0 k) ∙ ap (λ (x : List ℕ). get_or x m 0) h.head ∙ get_or-take 6 d.payload m 0 k))
              | no k ↦ record { before = []; event = e; after = es; listed = refl; mine = q; from = omega arith; to = omega arith }
            ]

    -- a byte after it
    behind : (es : List Ev) (m : ℕ) → InCard port es (first + suc (length e.payload)) (first + suc (length e.payload) + m)
        → InCard port (e ∷ es) first (first + suc (length e.payload + m))
    unfolding events_bytes
    behind es m c =
        let n : length (events_bytes (e ∷ c.before)) ≡ suc (length e.payload) + length (events_bytes c.before) = length-append (event_bytes e) (events_bytes c.before) in
        record {
          before = e ∷ c.before;
          event = c.event;
          after = c.after;
          listed = ap (λ (l : List Ev). e ∷ l) c.listed;
          mine = c.mine;
          from = omega (arith, n, c.from);
          to = omega (arith, n, c.to);
        }

  pub differ : (es ds : List Ev) (tail : List ℕ) (first m : ℕ) → Alongside port es ds
      → (get_or (events_bytes es ++ tail) m 0 ≡ get_or (events_bytes ds ++ tail) m 0 → ⊥) → InCard port es first (first + m)
  unfolding Alongside events_bytes
  differ [] [] tail first m h ne = absurd (ne refl)
  differ [] (d ∷ ds) tail first m h ne = absurd h
  differ (e ∷ es) [] tail first m h ne = absurd h
  differ (e ∷ es) (d ∷ ds) tail first zero h ne = absurd (ne h.0.code)
  differ (e ∷ es) (d ∷ ds) tail first (suc m) h ne =
      let n = length e.payload in
      -- byte m behind the code: of the payload, or behind that
      let here : (x : Ev) (xs : List Ev) → get_or (events_bytes (x ∷ xs) ++ tail) (suc m) 0 ≡ get_or (x.payload ++ (events_bytes xs ++ tail)) m 0 =
      λ x xs. ap (λ (l : List ℕ). get_or l m 0) (append_assoc x.payload (events_bytes xs) tail) in
      let size = h.0.size in
      elim (dec_lt m n) [
        | yes l ↦ inside e d h.0 first es m l
            (λ q. ne
            (here e es
            ∙ get_or-append e.payload (events_bytes es ++ tail) 0 m l
            ∙ q
            ∙ sym (here d ds ∙ get_or-append d.payload (events_bytes ds ++ tail) 0 m (omega arith))))
        | no r ↦
            let k = m - n in
            let m-is : m ≡ n + k = omega arith in
            let next : (x : Ev) (xs : List Ev) → length x.payload ≡ n → get_or (events_bytes (x ∷ xs) ++ tail) (suc m) 0 ≡ get_or (events_bytes xs ++ tail) k 0 =
            λ x xs q.
            here x xs
            ∙ ap (λ (j : ℕ). get_or (x.payload ++ (events_bytes xs ++ tail)) j 0) (m-is ∙ ap (λ (j : ℕ). j + k) (sym q))
            ∙ get_or-append-add x.payload (events_bytes xs ++ tail) k 0 in
            subst (λ (j : ℕ). InCard port (e ∷ es) first (first + suc j)) (sym m-is)
            (behind e d h.0 first es k
            (differ es ds tail (first + suc n) k h.1 (λ q. ne (next e es refl ∙ q ∙ sym (next d ds (sym size))))))
      ]
