-- The machine's tests by the code's numbers.
-- Assumes nothing.
use mathlib.Core.Path.{◌≡◌, refl, sym, ap, subst, ◌∙◌}
use mathlib.Core.Bool.{Bool, true, false, not, ◌&&◌, ◌||◌}
use mathlib.Core.List.{List, [], ◌∷◌, ◌++◌}
use Prim.Native.Nat.{ℕ, zero, suc, ◌+◌, ◌-◌, ◌*◌, ◌≤◌, ◌<◌}
use native.Mathlib.Nat.{suc-mul, zero-mul, add-zero}
use native.Mathlib.Omega.{arith}
use borrow.Author.Tests.{le-leb, lt-leb, eq-eqb, ne_eqb, lt-ltb, le-ltb, ltb-true}
use lib.Dec.{leb, ltb, eqb}
use Rattle.format.specs.declared.version.Version.{Version}
use Rattle.layout.specs.Columns.{has_family}
use Rattle.layout.specs.declared.columns.Family.{Family}
use Rattle.layout.specs.declared.columns.Family.TheVariants.{Pre, Post, FrameStart, Item, FrameEnd, FodPlatform, DreamlandWhispy, StadiumTransformation}
use Rattle.grammar.specs.WellFormed.{nobody, Order, may_come}
use Rattle.grammar.specs.Machine.{slot_said, is_next, closed, in_frame, player, orderly, state, rank_of, due_after}
use Rattle.read_order.specs.Inner.{slot_at, due_in, said_of, state_in, inside, closed_at, stands, next_at, end_at, JoinedAt, Ready, After, RowAfter}
use Rattle.read_order.specs.declared.stage.Stage.{Stage}
use Rattle.read_order.specs.declared.stage.Word.{Word}

module _ (m : Stage) (rank : ℕ) (w : Word) where
  pub inside_is : m.rank ≤ rank → eqb m.id w.id ≡ inside m rank w
  unfolding inside
  inside_is h = rw (le-leb m.rank rank h)

  pub inside_not : rank < m.rank → false ≡ inside m rank w
  unfolding inside
  inside_not h = rw (lt-leb m.rank rank h)

module _ (w : Word) where
  pub player_is : w.port ≤ 3 → leb w.follower 1 ≡ player (said_of w)
  unfolding player
  player_is h = rw (le-leb w.port 3 h)

  pub player_not : 3 < w.port → false ≡ player (said_of w)
  unfolding player
  player_not h = rw (lt-leb w.port 3 h)

module _ (v : Version) (m : Stage) where
  pub closed_due : (m.due ≡ 0 → ⊥) → false ≡ closed_at v m
  unfolding closed_at
  closed_due h = rw (ne_eqb m.due 0 h)

  pub closed_end : m.due ≡ 0 → (b : Bool) → b ≡ has_family v FrameEnd → b ≡ true → eqb m.rank 8 ≡ closed_at v m
  unfolding closed_at
  closed_end h b e t = rw (eq-eqb m.due 0 h, sym e ∙ t)

  pub closed_lacks : m.due ≡ 0 → (b : Bool) → b ≡ has_family v FrameEnd → b ≡ false → true ≡ closed_at v m
  unfolding closed_at
  closed_lacks h b e t = rw (eq-eqb m.due 0 h, sym e ∙ t)

module _ (v : Version) (o : Order) (file : List ℕ) (span : ℕ) (m : Stage) (w : Word) where
  nobody_is : (n p : ℕ) → nobody (due_in file span p n) ≡ eqb n 0
  unfolding nobody due_in
  nobody_is zero p = refl
  nobody_is (suc n) p = sym (ne_eqb (suc n) 0 (λ e. omega arith))

  pub closed_is : closed v (state_in file span m) ≡ closed_at v m
  unfolding closed closed_at
  closed_is = rw (nobody_is m.due m.pre)

  module _ (q p r : Bool) (q_is : q ≡ stands v m w) where
    place_is : (in_frame (state_in file span m) 2 (said_of w) || (not (has_family v FrameStart) && closed v (state_in file span m))) ≡ q
    unfolding in_frame inside stands
    place_is = rw (closed_is, q_is)

    pub pre_not : q ≡ false → false ≡ orderly v o (state_in file span m) Pre (said_of w)
    unfolding orderly
    pre_not e = rw (place_is ∙ e)

    pub pre_nobody : q ≡ true → p ≡ player (said_of w) → p ≡ false → false ≡ orderly v o (state_in file span m) Pre (said_of w)
    unfolding orderly
    pre_nobody h e t = rw (place_is ∙ h, sym e ∙ t)

    pub pre_may : q ≡ true → p ≡ player (said_of w) → p ≡ true → (k : ℕ) → k ≡ slot_said (said_of w) → r ≡ may_come o (due_in file span m.pre m.due) k
        → r ≡ orderly v o (state_in file span m) Pre (said_of w)
    unfolding orderly
    pre_may h e t k x y = y ∙ ap (λ (n : ℕ). may_come o (due_in file span m.pre m.due) n) x ∙ rw (place_is ∙ h, sym e ∙ t)

-- ---- where a Pre may stand

module _ (v : Version) (m : Stage) (w : Word) (i : Bool) (i-is : i ≡ inside m 2 w) where
  pub stands_inside : i ≡ true → true ≡ stands v m w
  unfolding stands
  stands_inside t = rw (sym i-is ∙ t)

  module _ (t : i ≡ false) (s : Bool) (s_is : s ≡ has_family v FrameStart) where
    pub stands_not : s ≡ true → false ≡ stands v m w
    unfolding stands
    stands_not e = rw (sym i-is ∙ t, sym s_is ∙ e)

    pub stands_closed : s ≡ false → (c : Bool) → c ≡ closed_at v m → c ≡ stands v m w
    unfolding stands
    stands_closed e c c-is = c-is ∙ rw (sym i-is ∙ t, sym s_is ∙ e)

-- ---- a Post, a FrameEnd, and every family

pub third : (i p : Bool) (n : ℕ) → (i && p && ltb 0 n) ≡ true → 0 < n
third true true n q = ltb-true 0 n q
third true false n q = let y : ◌≡◌ {A = ℕ} 0 1 = cc in absurd (omega arith)
third false p n q = let y : ◌≡◌ {A = ℕ} 0 1 = cc in absurd (omega arith)

module _ (file : List ℕ) (span : ℕ) (m : Stage) (w : Word) where
  pub next_not : (i p : Bool) → i ≡ inside m 7 w → p ≡ player (said_of w) → (i && p && ltb 0 m.due) ≡ false → false ≡ next_at file span m w
  unfolding next_at is_next due_in
  next_not i p x y q = go i p m.due q ∙ rw (x, y)
    where
      go : (i p : Bool) (n : ℕ) → (i && p && ltb 0 n) ≡ false → false ≡ i && (p && is_next (due_in file span m.pre n) (slot_said (said_of w)))
      go false p n q = refl
      go true false n q = refl
      go true true zero q = refl
      go true true (suc n) q = let z : ◌≡◌ {A = Bool} true false = sym (lt-ltb 0 (suc n) (omega arith)) ∙ q in let y : ◌≡◌ {A = ℕ} 0 1 = cc in absurd (omega arith)

  pub next_is : (i p : Bool) → i ≡ inside m 7 w → p ≡ player (said_of w) → (i && p && ltb 0 m.due) ≡ true → (j k : ℕ) → j ≡ slot_at file m.pre → k ≡ slot_said (said_of w)
      → eqb j k ≡ next_at file span m w
  unfolding next_at is_next due_in
  next_is i p x y q j k a b = go i p m.due q ∙ rw (x, y)
    where
      go : (i p : Bool) (n : ℕ) → (i && p && ltb 0 n) ≡ true → eqb j k ≡ i && (p && is_next (due_in file span m.pre n) (slot_said (said_of w)))
      go false p n q = let y : ◌≡◌ {A = ℕ} 0 1 = cc in absurd (omega arith)
      go true false n q = let y : ◌≡◌ {A = ℕ} 0 1 = cc in absurd (omega arith)
      go true true zero q = let z : ◌≡◌ {A = Bool} false true = sym (le-ltb 0 0 (omega arith)) ∙ q in let y : ◌≡◌ {A = ℕ} 0 1 = cc in absurd (omega arith)
      go true true (suc n) q = rw (a, b)

module _ (m : Stage) (w : Word) where
  pub end_is : (i : Bool) → i ≡ inside m 7 w → i ≡ true → eqb m.due 0 ≡ end_at m w
  unfolding end_at
  end_is i e t = rw (sym e ∙ t)

  pub end_not : (i : Bool) → i ≡ inside m 7 w → i ≡ false → false ≡ end_at m w
  unfolding end_at
  end_not i e t = rw (sym e ∙ t)

module _ (v : Version) (o : Order) (file : List ℕ) (span : ℕ) (m : Stage) (w : Word) (r : Bool) where
  abbrev Answers : Family → Type 0
  Answers family = r ≡ orderly v o (state_in file span m) family (said_of w)

  pub start_arm : r ≡ closed_at v m → Answers FrameStart
  unfolding orderly
  start_arm e = e ∙ sym (closed_is v o file span m w)

  pub fod_arm : r ≡ inside m 3 w → Answers FodPlatform
  unfolding orderly inside in_frame
  fod_arm e = e

  pub whispy_arm : r ≡ inside m 4 w → Answers DreamlandWhispy
  unfolding orderly inside in_frame
  whispy_arm e = e

  pub stadium_arm : r ≡ inside m 5 w → Answers StadiumTransformation
  unfolding orderly inside in_frame
  stadium_arm e = e

  pub item_arm : r ≡ inside m 6 w → Answers Item
  unfolding orderly inside in_frame
  item_arm e = e

  pub post_arm : r ≡ next_at file span m w → Answers Post
  unfolding orderly inside in_frame next_at
  post_arm e = e

  pub end_arm : r ≡ end_at m w → Answers FrameEnd
  unfolding orderly inside in_frame end_at
  end_arm e = e ∙ sym (ap (λ (b : Bool). (leb m.rank 7 && eqb m.id w.id) && b) (nobody_is v o file span m w m.due m.pre))

-- ---- who is due after an event

due_more : (file : List ℕ) (span n p : ℕ) → due_in file span p n ++ (slot_at file (p + n * span) ∷ []) ≡ due_in file span p (n + 1)
unfolding due_in
due_more file span zero p = let e : p + 0 * span ≡ p = ap (λ (x : ℕ). p + x) (zero-mul span) ∙ add-zero p in rw e
due_more file span (suc n) p =
    let s = suc-mul n span in
    let e : p + suc n * span ≡ p + span + n * span = omega arith in
    let f : suc n + 1 ≡ suc (n + 1) = omega arith in
    rw (f, e) (ap (λ (l : List ℕ). slot_at file p ∷ l) (due_more file span n (p + span)))

one_more : (n span : ℕ) → (n + 1) * span ≡ n * span + span
one_more n span = let e : n + 1 ≡ suc n = omega arith in ap (λ (x : ℕ). x * span) e ∙ suc-mul n span

one_less_lem : (n span : ℕ) → 0 < n → span + (n - 1) * span ≡ n * span
one_less_lem zero span h = absurd (omega arith)
one_less_lem (suc n) span h = let e : suc n - 1 ≡ n = omega arith in let s = suc-mul n span in rw e (omega arith)

module _ (file : List ℕ) (span : ℕ) (m : Stage) (w : Word) (at next : ℕ) (h : JoinedAt file span m w at next) where
  pub pre_first : m.due ≡ 0 → After file span m w next Pre (record { rank = 2; id = w.id; pre = at; due = 1 })
  unfolding due_in due_after
  pre_first e =
      let one : 1 * span ≡ span = one_more 0 span ∙ ap (λ (x : ℕ). x + span) (zero-mul span) ∙ omega arith in
      let n = h.next_is in
      record { state_is = rw (e, h.slot); held = record { inside = omega arith; joined = λ x y. omega arith } }

  pub pre_more : (m.due ≡ 0 → ⊥) → After file span m w next Pre (record { rank = 2; id = w.id; pre = m.pre; due = m.due + 1 })
  unfolding due_after
  pre_more n =
      let e : slot_at file (m.pre + m.due * span) ≡ slot_said (said_of w) = ap (slot_at file) (h.follows n) ∙ h.slot in
      let one = one_more m.due span in
      let f = h.follows n in
      let g = h.next_is in
      record {
        state_is = ap (λ (l : List ℕ). state 2 w.id l) (sym (due_more file span m.due m.pre) ∙ ap (λ (k : ℕ). due_in file span m.pre m.due ++ (k ∷ [])) e);
        held = record { inside = omega arith; joined = λ x y. omega arith };
      }

pub post_less : (file : List ℕ) (span : ℕ) (m : Stage) (w : Word) (next : ℕ) → 0 < m.due → m.pre + m.due * span ≤ next
    → After file span m w next Post (record { rank = 7; id = w.id; pre = m.pre + span; due = m.due - 1 })
unfolding due_in due_after
post_less file span m w next h k =
    let l = one_less_lem m.due span h in
    record { state_is = ap (λ (l : List ℕ). state 7 w.id l) (go m.due h); held = record { inside = omega arith; joined = λ x y. absurd (omega arith) } }
  where
    go : (n : ℕ) → 0 < n → due_in file span (m.pre + span) (n - 1) ≡ due_after Post (due_in file span m.pre n) (slot_said (said_of w))
    go zero h = absurd (omega arith)
    go (suc n) h = let e : suc n - 1 ≡ n = omega arith in rw e

pub row_same : (file : List ℕ) (span : ℕ) (m : Stage) (rank : ℕ) (w : Word) (next : ℕ) → (rank ≤ 2 → m.due ≡ 0) → m.pre + m.due * span ≤ next
    → RowAfter file span m rank w next (record { rank = rank; id = w.id; pre = m.pre; due = m.due })
row_same file span m rank w next z k = record { state_is = refl; held = record { inside = k; joined = λ x y. absurd (y (z x)) } }

-- an event of nobody changes nobody
module _ (file : List ℕ) (span : ℕ) (m : Stage) (w : Word) where
  pub ready_as : (at next : ℕ) (family one : Family) → family ≡ one → Ready file span m w at next family → Ready file span m w at next one
  ready_as at next family one e h = subst (λ (f : Family). Ready file span m w at next f) e h

  pub after_as : (next : ℕ) (family one : Family) (r : Stage) → family ≡ one → After file span m w next one r → After file span m w next family r
  after_as next family one r e h = subst (λ (f : Family). After file span m w next f r) (sym e) h

  pub row_after : (next : ℕ) (family : Family) (r : Stage) → ((ks : List ℕ) (k : ℕ) → due_after family ks k ≡ ks) → RowAfter file span m (rank_of family) w next r
      → After file span m w next family r
  row_after next family r same h = record { state_is = h.state_is ∙ ap (λ (l : List ℕ). state (rank_of family) w.id l) (sym (same _ _)); held = h.held }

pub keeps_start : (ks : List ℕ) (k : ℕ) → due_after FrameStart ks k ≡ ks
unfolding due_after
keeps_start ks k = refl

pub keeps_fod : (ks : List ℕ) (k : ℕ) → due_after FodPlatform ks k ≡ ks
unfolding due_after
keeps_fod ks k = refl

pub keeps_whispy : (ks : List ℕ) (k : ℕ) → due_after DreamlandWhispy ks k ≡ ks
unfolding due_after
keeps_whispy ks k = refl

pub keeps_stadium : (ks : List ℕ) (k : ℕ) → due_after StadiumTransformation ks k ≡ ks
unfolding due_after
keeps_stadium ks k = refl

pub keeps_item : (ks : List ℕ) (k : ℕ) → due_after Item ks k ≡ ks
unfolding due_after
keeps_item ks k = refl

pub keeps_end : (ks : List ℕ) (k : ℕ) → due_after FrameEnd ks k ≡ ks
unfolding due_after
keeps_end ks k = refl
