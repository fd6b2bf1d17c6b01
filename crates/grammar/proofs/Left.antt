-- What may still come of a frame, as sections by rank; and a frame made of all of them.
-- Assumes nothing.
use mathlib.Core.Path.{◌≡◌, refl, sym, ap, ap₂, subst, ◌∙◌}
use mathlib.Core.Bool.{true, cond}
use mathlib.Core.List.{List, [], ◌∷◌, ◌++◌, map, append_assoc}
use Prim.Native.Nat.{ℕ, zero, suc, ◌+◌, ◌*◌, ◌≤◌, ◌<◌}
use native.Mathlib.Omega.{arith}
use native.Mathlib.Decide.{ℕ_discrete}
use borrow.Author.Tests.{eq-eqb, ne_eqb}
use lib.Dec.{eqb}
use lib.ListN.{length, get_or}
use Rattle.wire.specs.Wire.{more, ranged}
use Rattle.wire.proofs.Laws.{ranged_same}
use Rattle.format.specs.File.{Ev}
use Rattle.format.specs.declared.version.Version.{Version}
use Rattle.layout.specs.Columns.{has_family}
use Rattle.layout.specs.Payloads.{record_size}
use Rattle.layout.specs.declared.columns.Family.{Family}
use Rattle.layout.specs.declared.columns.Family.TheVariants.{Pre, Post, FrameStart, Item, FrameEnd, FodPlatform, DreamlandWhispy, StadiumTransformation}
use Rattle.grammar.specs.Productions.{row_event}
use Rattle.grammar.specs.WellFormed.{Each, Order, may_come, InOrder}
use Rattle.grammar.proofs.Each.{each_none, each_more}

-- a frame's bodies, what stands behind the id, by rank
abbrev pub Bodies : Type 0
Bodies = ℕ → List (List ℕ)

abbrev pub family_at : ℕ → Family
family_at r = get_or (FrameStart ∷ FrameStart ∷ Pre ∷ FodPlatform ∷ DreamlandWhispy ∷ StadiumTransformation ∷ Item ∷ Post ∷ FrameEnd ∷ []) r FrameStart

abbrev pub section : ℕ → Bodies → ℕ → List Ev
section id left r = map (row_event (family_at r) id) (left r)

abbrev pub left_events : ℕ → Bodies → List Ev
left_events id left = ranged (section id left) 2 7

-- one more body of a rank, in front
abbrev pub add : Bodies → ℕ → List ℕ → Bodies
add left r b = λ q. cond (eqb q r) (b ∷ left q) (left q)

add_here : (left : Bodies) (r : ℕ) (b : List ℕ) → add left r b r ≡ b ∷ left r
add_here left r b = rw (eq-eqb r r refl)

add_there : (left : Bodies) (r : ℕ) (b : List ℕ) (q : ℕ) → (q ≡ r → ⊥) → add left r b q ≡ left q
add_there left r b q n = rw (ne_eqb q r n)

-- its event stands in front, where the sections before it are empty
pub added : (id : ℕ) (left : Bodies) (r : ℕ) (b : List ℕ) (t : List Ev) (i n : ℕ) → i ≤ r → r < i + n → ((q : ℕ) → q < r → left q ≡ [])
    → row_event (family_at r) id b ∷ (ranged (section id left) i n ++ t) ≡ ranged (section id (add left r b)) i n ++ t
unfolding ranged
added id left r b t i zero h k gone = absurd (omega arith)
added id left r b t i (suc n) h k gone =
    elim (ℕ_discrete i r) [
      | yes e ↦
          let here : add left r b i ≡ b ∷ left i = rw (eq-eqb i r e) in
          let later = ranged_same (section id (add left r b)) (section id left) (i + 1) n (λ j l m. ap (map (row_event (family_at j) id)) (add_there left r b j (λ x. omega arith)))
          in
          let first = ap (λ (q : ℕ). row_event (family_at q) id b ∷ section id left i) (sym e) ∙ sym (ap (map (row_event (family_at i) id)) here) in
          ap₂ (λ (a c : List Ev). (a ++ c) ++ t) first (sym later)
      | no x ↦
          let none = ap (map (row_event (family_at i) id)) (gone i (omega arith)) in
          let still = ap (map (row_event (family_at i) id)) (add_there left r b i x ∙ gone i (omega arith)) in
          ap (λ (a : List Ev). row_event (family_at r) id b ∷ ((a ++ ranged (section id left) (i + 1) n) ++ t)) none
          ∙ added id left r b t (i + 1) n (omega arith) (omega arith) gone
          ∙ ap (λ (a : List Ev). (a ++ ranged (section id (add left r b)) (i + 1) n) ++ t) (sym still)
    ]

-- ---- which bodies may come after a state

pub record GoodBody (v : Version) (r : ℕ) (b : List ℕ) : Type 0 where
  pub has : has_family v (family_at r) ≡ true
  pub size : 4 + length b ≡ record_size (family_at r) v

pub record Shape (v : Version) (rank : ℕ) (left : Bodies) : Type 0 where
  pub gone : (q : ℕ) → q < rank → left q ≡ []
  pub sized : (q : ℕ) → Each (GoodBody v q) (left q)
  pub one : has_family v FrameEnd ≡ true → rank < 8 → length (left 8) ≡ 1
  pub over : 8 ≤ rank → left 8 ≡ []

-- nothing may be left: the last was the FrameEnd, or the version has none
pub shape_none : (v : Version) (rank : ℕ) → (has_family v FrameEnd ≡ true → 8 ≤ rank) → Shape v rank (λ q. [])
shape_none v rank h = record { gone = λ q l. refl; sized = λ q. each_none (GoodBody v q); one = λ e l. let k = h e in absurd (omega arith); over = λ l. refl }

pub shape_add : (v : Version) (rank r : ℕ) (left : Bodies) (b : List ℕ) → Shape v r left → rank ≤ r → rank ≤ 7 → r ≤ 8 → GoodBody v r b → Shape v rank (add left r b)
shape_add v rank r left b h l m k g = record {
  gone = λ q x. add_there left r b q (λ e. omega arith) ∙ h.gone q (omega arith);
  sized = λ q. elim (ℕ_discrete q r) [
    | yes e ↦ rw (eq-eqb q r e) (each_more (GoodBody v q) b (left q) (subst (λ (z : ℕ). GoodBody v z b) (sym e) g) (h.sized q))
    | no x ↦ rw (ne_eqb q r x) (h.sized q)
  ];
  one = λ e x. elim (ℕ_discrete 8 r) [
    | yes y ↦ rw (eq-eqb 8 r y) (ap (λ (n : ℕ). suc n) (ap length (h.over (omega arith))))
    | no y ↦ rw (ne_eqb 8 r y) (h.one e (omega arith))
  ];
  over = λ x. absurd (omega arith);
}

-- a player's body: port, follower, and the rest
pub record Seated (b : List ℕ) : Type 0 where
  pub long : 2 ≤ length b
  pub port : get_or b 0 0 ≤ 3
  pub follower : get_or b 1 0 ≤ 1

abbrev pub slot_at : List ℕ → ℕ
slot_at b = 2 * get_or b 0 0 + get_or b 1 0

pub record Matched (o : Order) (due : List ℕ) (left : Bodies) : Type 0 where
  pub pres : Each Seated (left 2)
  pub posts : Each Seated (left 7)
  pub order : InOrder o due (map slot_at (left 2))
  pub same : map slot_at (left 7) ≡ due ++ map slot_at (left 2)

in_order_nil : (o : Order) (due : List ℕ) → InOrder o due []
unfolding InOrder
in_order_nil o due = tt

pub matched_none : (o : Order) (due : List ℕ) → due ≡ [] → Matched o due (λ q. [])
matched_none o due e = record { pres = each_none Seated; posts = each_none Seated; order = in_order_nil o due; same = rw e }

module _ (o : Order) (due : List ℕ) (left : Bodies) (b : List ℕ) where
  pub matched_pre : Seated b → may_come o due (slot_at b) ≡ true → Matched o (due ++ (slot_at b ∷ [])) left → Matched o due (add left 2 b)
  unfolding InOrder
  matched_pre g m h = record {
    pres = each_more Seated b (left 2) g h.pres;
    posts = h.posts;
    order = (m, h.order);
    same = h.same ∙ append_assoc due (slot_at b ∷ []) (map slot_at (left 2));
  }

  pub matched_post : (ks : List ℕ) → due ≡ slot_at b ∷ ks → left 2 ≡ [] → Seated b → Matched o ks left → Matched o due (add left 7 b)
  matched_post ks e n g h = record {
    pres = h.pres;
    posts = each_more Seated b (left 7) g h.posts;
    order = rw n (in_order_nil o due);
    same = rw e (ap (λ (l : List ℕ). slot_at b ∷ l) h.same);
  }

  pub matched_row : (r : ℕ) → (2 ≡ r → ⊥) → (7 ≡ r → ⊥) → Matched o due left → Matched o due (add left r b)
  matched_row r x y h = record {
    pres = rw (ne_eqb 2 r x) h.pres;
    posts = rw (ne_eqb 7 r y) h.posts;
    order = rw (ne_eqb 2 r x) h.order;
    same = rw (ne_eqb 7 r y, ne_eqb 2 r x) h.same;
  }
