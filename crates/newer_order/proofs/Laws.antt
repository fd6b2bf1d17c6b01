-- The laws of the slots in a number, and the machine's tests by the code's numbers.
-- Assumes nothing.
use mathlib.Core.Path.{◌≡◌, refl, sym, ap, ap₂, subst, ◌∙◌}
use mathlib.Core.Bool.{Bool, true, false, not, ◌&&◌, ◌||◌}
use mathlib.Core.List.{List, [], ◌∷◌, ◌++◌}
use Prim.Native.Nat.{ℕ, zero, suc, ◌+◌, ◌-◌, ◌*◌, ◌/◌, ◌%◌, ◌^◌, ◌≤◌, ◌<◌}
use native.Mathlib.Nat.{mul_comm, mul_assoc}
use native.Mathlib.Omega.{arith}
use borrow.Author.Tests.{le-leb, leb-true, ne_eqb, lt-ltb, le-ltb, ltb-true}
use lib.Dec.{leb, ltb, eqb}
use lib.Pow.{pow-add, shl_lt, shl_exact, pow_mono}
use Rattle.layout.specs.Columns.{has_family}
use Rattle.layout.specs.declared.columns.Family.{Family}
use Rattle.layout.specs.declared.columns.Family.TheVariants.{Pre, Post, FrameStart, Item, FrameEnd, FodPlatform, DreamlandWhispy, StadiumTransformation}
use Rattle.grammar.specs.WellFormed.{ascending, nobody, may_precede, may_come}
use Rattle.grammar.specs.Machine.{initial, slot_said, is_next, closed, in_frame, player, orderly, state, rank_of, due_after}
use Rattle.grammar.proofs.Tests.{both}
use Rattle.read_order.specs.Inner.{said_of}
use Rattle.read_order.specs.declared.stage.Word.{Word}
use Rattle.newer_order.specs.Inner.{newest, slots_in, state_of, Fair, After, row_of}
use Rattle.newer_order.specs.declared.stage.Stage.{Stage}
use Rattle.newer_order.proofs.Newest.{starts_newest, ends_newest}

-- ---- slots in a number

pow_more : (n : ℕ) → 2 ^ (4 * suc n) ≡ 16 * 2 ^ (4 * n)
pow_more n = let e : 4 * suc n ≡ 4 + 4 * n = omega arith in ap (λ (k : ℕ). 2 ^ k) e ∙ pow-add 2 4 (4 * n)

product_more : (k n : ℕ) → k * 2 ^ (4 * suc n) ≡ 16 * (k * 2 ^ (4 * n))
product_more k n = ap (λ (x : ℕ). k * x) (pow_more n) ∙ sym (mul_assoc k 16 (2 ^ (4 * n))) ∙ ap (λ (x : ℕ). x * 2 ^ (4 * n)) (mul_comm k 16) ∙ mul_assoc 16 k (2 ^ (4 * n))

-- a slot above the others comes last
pub slots_more : (n q k : ℕ) → q < 2 ^ (4 * n) → k < 16 → slots_in (q + k * 2 ^ (4 * n)) (suc n) ≡ slots_in q n ++ (k ∷ [])
unfolding slots_in
slots_more zero q k h l = let e : (q + k * 1) % 16 ≡ k = omega arith in ap (λ (x : ℕ). x ∷ []) e
slots_more (suc n) q k h l =
    let p = pow_more n in
    let x = product_more k n in
    let digit : (q + k * 2 ^ (4 * suc n)) % 16 ≡ q % 16 = omega arith in
    let others : (q + k * 2 ^ (4 * suc n)) / 16 ≡ q / 16 + k * 2 ^ (4 * n) = omega arith in
    ap₂ (λ (a : ℕ) (b : ℕ). a ∷ slots_in b (suc n)) digit others ∙ ap (λ (t : List ℕ). q % 16 ∷ t) (slots_more n (q / 16) k (omega arith) l)

-- nobody is due where there are none
pub nobody_is : (n q : ℕ) → nobody (slots_in q n) ≡ eqb n 0
unfolding nobody slots_in
nobody_is zero q = refl
nobody_is (suc n) q = sym (ne_eqb (suc n) 0 (λ e. omega arith))

pub next_is : (n q k : ℕ) → is_next (slots_in q n) k ≡ ltb 0 n && eqb (q % 16) k
unfolding is_next slots_in
next_is zero q k = rw (le-ltb 0 0 (omega arith))
next_is (suc n) q k = rw (lt-ltb 0 (suc n) (omega arith))

-- who may come after one more
come_more : (js : List ℕ) (k i : ℕ) → may_come ascending (js ++ (k ∷ [])) i ≡ may_come ascending js i && ltb k i
unfolding may_come may_precede
come_more [] k i = go (ltb k i)
  where
    go : (b : Bool) → b && true ≡ b
    go true = refl
    go false = refl
come_more (j ∷ js) k i = rw (come_more js k i) (go (ltb j i) (may_come ascending js i) (ltb k i))
  where
    go : (a b c : Bool) → a && (b && c) ≡ (a && b) && c
    go true b c = refl
    go false b c = refl

and_none : (b : Bool) → b && false ≡ false
and_none true = refl
and_none false = refl

not_both : true ≡ false → ⊥
not_both e = let y : ◌≡◌ {A = ℕ} 0 1 = cc in absurd (omega arith)

pub least_more : (js : List ℕ) (least k i : ℕ) → ((i : ℕ) → may_come ascending js i ≡ leb least i) → least ≤ k → may_come ascending (js ++ (k ∷ [])) i ≡ leb (k + 1) i
least_more js least k i come h = come_more js k i ∙ rw (come i) (go (ltb k i) refl (leb (k + 1) i) refl)
  where
    go : (b : Bool) → ltb k i ≡ b → (c : Bool) → leb (k + 1) i ≡ c → leb least i && b ≡ c
    go true e c q = let l = ltb-true k i e in rw (le-leb least i (omega arith)) (sym (le-leb (k + 1) i (omega arith)) ∙ q)
    go false e true q = let l = leb-true (k + 1) i q in absurd (not_both (sym (lt-ltb k i (omega arith)) ∙ e))
    go false e false q = and_none (leb least i)

-- ---- the tests

module _ (m : Stage) where
  pub closed_is : eqb m.due 0 && eqb m.rank 8 ≡ closed newest (state_of m)
  unfolding closed
  closed_is = rw (nobody_is m.due m.queue, ends_newest)

  module _ (w : Word) where
    in_early : (rank : ℕ) → in_frame (state_of m) rank (said_of w) ≡ true → m.rank ≤ rank
    unfolding in_frame
    in_early rank e = leb-true m.rank rank (both (leb m.rank rank) (eqb m.id w.id) e).0

    stands_is : (in_frame (state_of m) 2 (said_of w) || (not (has_family newest FrameStart) && closed newest (state_of m))) ≡ in_frame (state_of m) 2 (said_of w)
    stands_is = rw starts_newest (go (in_frame (state_of m) 2 (said_of w)))
      where
        go : (b : Bool) → b || false ≡ b
        go true = refl
        go false = refl

    pub pre_is : Fair m → (i p : Bool) → i ≡ in_frame (state_of m) 2 (said_of w) → p ≡ player (said_of w) → (k : ℕ) → k ≡ slot_said (said_of w)
        → (i && p) && leb m.least k ≡ orderly newest ascending (state_of m) Pre (said_of w)
    unfolding orderly
    pre_is fair i p x y k z = go i x ∙ sym (ap (λ (b : Bool). b && (player (said_of w) && may_come ascending (slots_in m.queue m.due) (slot_said (said_of w)))) (stands_is ∙ sym x))
      where
        go : (b : Bool) → b ≡ in_frame (state_of m) 2 (said_of w) → (b && p) && leb m.least k ≡ b && (player (said_of w) && may_come ascending (slots_in m.queue m.due) (slot_said (said_of w)))
        go true e = rw (fair.come (in_early 2 (sym e)) (slot_said (said_of w)), y, z)
        go false e = refl

    pub post_is : (i p : Bool) → i ≡ in_frame (state_of m) 7 (said_of w) → p ≡ player (said_of w) → (k : ℕ) → k ≡ slot_said (said_of w)
        → ((i && p) && ltb 0 m.due) && eqb (m.queue % 16) k ≡ orderly newest ascending (state_of m) Post (said_of w)
    unfolding orderly
    post_is i p x y k z = go i p (ltb 0 m.due) (eqb (m.queue % 16) k) ∙ rw (x, y, z, next_is m.due m.queue (slot_said (said_of w)))
      where
        go : (a b c d : Bool) → ((a && b) && c) && d ≡ a && (b && (c && d))
        go true true c d = refl
        go true false c d = refl
        go false b c d = refl

    pub end_is : (i : Bool) → i ≡ in_frame (state_of m) 7 (said_of w) → i && eqb m.due 0 ≡ orderly newest ascending (state_of m) FrameEnd (said_of w)
    unfolding orderly
    end_is i x = rw (x, nobody_is m.due m.queue)

    pub inside_is : (rank : ℕ) → leb m.rank rank && eqb m.id w.id ≡ in_frame (state_of m) rank (said_of w)
    unfolding in_frame
    inside_is rank = refl

    -- what an event of each family asks
    abbrev Asks : Family → Bool → Type 0
    Asks family b = b ≡ orderly newest ascending (state_of m) family (said_of w)

    pub start_asks : Asks FrameStart (closed newest (state_of m))
    unfolding orderly
    start_asks = refl

    pub fod_asks : Asks FodPlatform (in_frame (state_of m) 3 (said_of w))
    unfolding orderly
    fod_asks = refl

    pub whispy_asks : Asks DreamlandWhispy (in_frame (state_of m) 4 (said_of w))
    unfolding orderly
    whispy_asks = refl

    pub stadium_asks : Asks StadiumTransformation (in_frame (state_of m) 5 (said_of w))
    unfolding orderly
    stadium_asks = refl

    pub item_asks : Asks Item (in_frame (state_of m) 6 (said_of w))
    unfolding orderly
    item_asks = refl

-- ---- the stage before all events, and after one

pub outset_is : (state_of (record { rank = 8; id = 0; queue = 0; due = 0; least = 0 }) ≡ initial) × Fair (record { rank = 8; id = 0; queue = 0; due = 0; least = 0 })
unfolding slots_in
outset_is = (refl, record { few = omega arith; small = omega arith; climbs = λ r. absurd (omega arith); come = λ r. absurd (omega arith) })

module _ (m : Stage) (w : Word) (fair : Fair m) where
  -- a Pre that may come
  pub record Comes : Type 0 where
    pub early : m.rank ≤ 2
    pub low : slot_said (said_of w) ≤ 7
    pub later : m.least ≤ slot_said (said_of w)

  pub comes : orderly newest ascending (state_of m) Pre (said_of w) ≡ true → Comes
  unfolding orderly player
  comes e =
      let (a, b) = both _ (player (said_of w) && may_come ascending (slots_in m.queue m.due) (slot_said (said_of w))) e in
      let (c, d) = both (player (said_of w)) (may_come ascending (slots_in m.queue m.due) (slot_said (said_of w))) b in
      let (p, q) = both (leb w.port 3) (leb w.follower 1) c in
      let r = in_early m w 2 (sym (stands_is m w) ∙ a) in
      record {
        early = r;
        low = omega (arith, leb-true w.port 3 p, leb-true w.follower 1 q);
        later = leb-true m.least (slot_said (said_of w)) (sym (fair.come r (slot_said (said_of w))) ∙ d);
      }

  module _ (c : Comes) (k : ℕ) (k-is : k ≡ slot_said (said_of w)) where
    pub room_due : m.due + 1 ≤ 8
    room_due = omega (arith, c.low, c.later, fair.climbs c.early)

    pub shifted : k * 2 ^ (4 * m.due) % 2 ^ 64 ≡ k * 2 ^ (4 * m.due)
    shifted = let r = room_due in shl_exact 3 (4 * m.due) 64 (omega (arith, c.low)) (omega arith)

    pub sum_small : m.queue + k * 2 ^ (4 * m.due) < 2 ^ (4 * suc m.due)
    sum_small = omega (arith, fair.small, pow_more m.due, pow-add 2 3 (4 * m.due), shl_lt {a = k} 3 (4 * m.due) (omega (arith, c.low)))

    pub sum_fits : m.queue + k * 2 ^ (4 * m.due) < 2 ^ 64
    sum_fits = let r = room_due in let s = sum_small in let p = pow_mono {i = 4 * suc m.due} {j = 64} (omega arith) in omega (arith, s, p)

    pub pre_after : (q : ℕ) → q ≡ m.queue + k * 2 ^ (4 * m.due) → After m w Pre (record { rank = 2; id = w.id; queue = q; due = m.due + 1; least = k + 1 })
    unfolding due_after
    pre_after q q_is =
        let n : m.due + 1 ≡ suc m.due = omega arith in
        let slots : slots_in q (m.due + 1) ≡ slots_in m.queue m.due ++ (k ∷ []) =
        ap₂ slots_in q_is n ∙ slots_more m.due m.queue k fair.small (omega (arith, c.low)) in
        record {
          state_is = ap (λ (l : List ℕ). state 2 w.id l) (slots ∙ ap (λ (j : ℕ). slots_in m.queue m.due ++ (j ∷ [])) k-is);
          fair = record {
            few = room_due;
            small = let s = sum_small in rw (q_is, n) s;
            climbs = λ r. omega (arith, c.later, fair.climbs c.early);
            come = λ r i. ap (λ (l : List ℕ). may_come ascending l i) slots ∙ least_more (slots_in m.queue m.due) m.least k i (fair.come c.early) (omega (arith, c.later));
          };
        }

  pub some_due : orderly newest ascending (state_of m) Post (said_of w) ≡ true → 0 < m.due
  unfolding orderly is_next
  some_due e =
      let (a, b) = both (in_frame (state_of m) 7 (said_of w)) _ e in
      let (c, d) = both (player (said_of w)) _ b in
      ltb-true 0 m.due (both (ltb 0 m.due) (eqb (m.queue % 16) (slot_said (said_of w))) (sym (next_is m.due m.queue (slot_said (said_of w))) ∙ d)).0

  pub post_after : 0 < m.due → After m w Post (record { rank = 7; id = w.id; queue = m.queue / 16; due = m.due - 1; least = m.least })
  unfolding slots_in due_after
  post_after h = record {
    state_is = ap (λ (l : List ℕ). state 7 w.id l) (less m.due h);
    fair = record { few = omega (arith, fair.few); small = smaller m.due h fair.small; climbs = λ r. absurd (omega arith); come = λ r. absurd (omega arith) };
  }
    where
      less : (n : ℕ) → 0 < n → slots_in (m.queue / 16) (n - 1) ≡ due_after Post (slots_in m.queue n) (slot_said (said_of w))
      less zero h = absurd (omega arith)
      less (suc n) h = let e : suc n - 1 ≡ n = omega arith in rw e

      smaller : (n : ℕ) → 0 < n → m.queue < 2 ^ (4 * n) → m.queue / 16 < 2 ^ (4 * (n - 1))
      smaller zero h l = absurd (omega arith)
      smaller (suc n) h l = let e : suc n - 1 ≡ n = omega arith in let p = pow_more n in rw e (omega arith)

  pub start_after : orderly newest ascending (state_of m) FrameStart (said_of w) ≡ true → After m w FrameStart (row_of 1 w 0 0 0)
  unfolding orderly closed due_after slots_in may_come nobody
  start_after e =
      let n : nobody (slots_in m.queue m.due) ≡ true = (both (nobody (slots_in m.queue m.due)) _ e).0 in
      record {
        state_is = ap (λ (l : List ℕ). state 1 w.id l) (empty (slots_in m.queue m.due) n);
        fair = record { few = omega arith; small = omega arith; climbs = λ r. omega arith; come = λ r k. sym (le-leb 0 k (omega arith)) };
      }
    where
      empty : (l : List ℕ) → nobody l ≡ true → [] ≡ l
      empty [] q = refl
      empty (j ∷ js) q = let y : ◌≡◌ {A = ℕ} 0 1 = cc in absurd (omega arith)

  pub row_after : (family : Family) → 2 < rank_of family → ((ks : List ℕ) (k : ℕ) → due_after family ks k ≡ ks) → After m w family (row_of (rank_of family) w m.queue m.due m.least)
  row_after family h same = record {
    state_is = ap (λ (l : List ℕ). state (rank_of family) w.id l) (sym (same (slots_in m.queue m.due) (slot_said (said_of w))));
    fair = record { few = fair.few; small = fair.small; climbs = λ r. absurd (omega arith); come = λ r. absurd (omega arith) };
  }

  pub fod_after : After m w FodPlatform (row_of 3 w m.queue m.due m.least)
  unfolding due_after
  fod_after = row_after FodPlatform (omega arith) (λ ks k. refl)

  pub whispy_after : After m w DreamlandWhispy (row_of 4 w m.queue m.due m.least)
  unfolding due_after
  whispy_after = row_after DreamlandWhispy (omega arith) (λ ks k. refl)

  pub stadium_after : After m w StadiumTransformation (row_of 5 w m.queue m.due m.least)
  unfolding due_after
  stadium_after = row_after StadiumTransformation (omega arith) (λ ks k. refl)

  pub item_after : After m w Item (row_of 6 w m.queue m.due m.least)
  unfolding due_after
  item_after = row_after Item (omega arith) (λ ks k. refl)

  pub end_after : After m w FrameEnd (row_of 8 w m.queue m.due m.least)
  unfolding due_after
  end_after = row_after FrameEnd (omega arith) (λ ks k. refl)

-- what is told of one family is told of an equal one
pub asked_as : (m : Stage) (w : Word) (family one : Family) → family ≡ one → orderly newest ascending (state_of m) family (said_of w) ≡ true → orderly newest ascending (state_of m) one (said_of w) ≡ true
asked_as m w family one e q = ap (λ (f : Family). orderly newest ascending (state_of m) f (said_of w)) (sym e) ∙ q

pub after_as : (m : Stage) (w : Word) (family one : Family) → family ≡ one → (r q : Stage) → r ≡ q → After m w one q → After m w family r
after_as m w family one e r q p h = subst (λ (x : Stage). After m w family x) (sym p) (subst (λ (f : Family). After m w f q) (sym e) h)
