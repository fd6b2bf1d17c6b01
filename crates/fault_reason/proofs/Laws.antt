-- The laws of one choice after another.
-- Assumes nothing.
use mathlib.Core.Path.{◌≡◌, refl, sym, ap, ◌∙◌}
use mathlib.Core.Bool.{Bool, true, false, cond}
use mathlib.Core.List.{List}
use mathlib.Core.Option.{Option, none, some}
use Prim.Native.Nat.{ℕ, zero, suc, ◌+◌, ◌-◌, ◌≤◌, ◌<◌}
use native.Mathlib.Omega.{arith}
use borrow.Author.Tests.{lt-ltb, le-ltb, eq-eqb, ne_eqb}
use lib.Dec.{leb, eqb}
use lib.ListN.{length, get_or, take}
use Rattle.wire.specs.Wire.{number, part}
use Rattle.format.specs.Event.{code_of}
use Rattle.format.specs.Version.{has_codes}
use Rattle.format.specs.declared.event.Event.TheVariants.{GeckoCodes, MessageSplitter}
use Rattle.format.specs.declared.version.Version.{Version}
use Rattle.layout.specs.declared.columns.Family.{Family}
use Rattle.layout.specs.declared.columns.Family.TheVariants.{Pre, Post, FrameStart, Item, FrameEnd, FodPlatform, DreamlandWhispy, StadiumTransformation}
use Rattle.grammar.specs.WellFormed.{ascending, nobody, may_come}
use Rattle.grammar.specs.Machine.{family_of, on_family, in_frame, player, slot_said}
use Rattle.grammar.specs.Whole.{used_by, is_block, is_last, is_full}
use Rattle.read_order.specs.Inner.{slot_at, due_in, said_of, state_in, inside, stands}
use Rattle.read_order.specs.declared.stage.Stage.{Stage}
use Rattle.read_order.specs.declared.stage.Word.{Word}
use Rattle.read_order.proofs.Steps.{closed_is}
use Rattle.read_scan.specs.Inner.{kind_of}
use Rattle.read_scan.specs.declared.event.Kind.TheVariants.{Frame, Other}
use Rattle.read_scan.proofs.Turns.{kind_frame}
use Rattle.fault_reason.specs.Reason.{other_reason, good_block, is_due, open_reason, place_reason, who_reason, pre_stands, pre_reason, post_reason, order_reason}
use Rattle.fault_reason.specs.Inner.{ev, open_at, last_at}

pub if_so : {A : Type 0} (t : Bool) (x y r : A) → t ≡ true → r ≡ x → r ≡ cond t x y
if_so t x y r e q = q ∙ ap (λ (b : Bool). cond b x y) (sym e)

pub if_not : {A : Type 0} (t : Bool) (x y r : A) → t ≡ false → r ≡ y → r ≡ cond t x y
if_not t x y r e q = q ∙ ap (λ (b : Bool). cond b x y) (sym e)

-- ---- what a payload says

pub id_as : (p : List ℕ) (n : ℕ) → n ≡ number (part p 0 4) → n ≡ number (take 4 p)
unfolding part
id_as p n e = e

-- ---- a slot among those that are due

module _ (file : List ℕ) (span p k : ℕ) where
  pub due_here : (n : ℕ) → 0 < n → (j : ℕ) → j ≡ slot_at file p → j ≡ k → is_due (due_in file span p n) k ≡ true
  unfolding due_in is_due
  due_here zero h j x e = absurd (omega arith)
  due_here (suc n) h j x e = rw (eq-eqb (slot_at file p) k (sym x ∙ e))

  pub due_on : (n : ℕ) → 0 < n → (j : ℕ) → j ≡ slot_at file p → (j ≡ k → ⊥) → is_due (due_in file span p n) k ≡ is_due (due_in file span (p + span) (n - 1)) k
  unfolding due_in is_due
  due_on zero h j x e = absurd (omega arith)
  due_on (suc n) h j x e = let z : suc n - 1 ≡ n = omega arith in rw (ne_eqb (slot_at file p) k (λ q. e (x ∙ q)), z)

  pub due_none : (n : ℕ) → n ≤ 0 → is_due (due_in file span p n) k ≡ false
  unfolding due_in is_due
  due_none zero h = refl
  due_none (suc n) h = absurd (omega arith)

-- ---- a stage as a state

module _ (v : Version) (file : List ℕ) (span : ℕ) (m : Stage) where
  nobody_is : (n p : ℕ) → nobody (due_in file span p n) ≡ eqb n 0
  unfolding nobody due_in
  nobody_is zero p = refl
  nobody_is (suc n) p = sym (ne_eqb (suc n) 0 (λ e. omega arith))

  pub open_is : open_at m ≡ open_reason (state_in file span m)
  open_is = ap (λ (b : Bool). cond b 1 5) (sym (nobody_is m.due m.pre))

  module _ (w : Word) where
    pub in_frame_is : (rank : ℕ) → in_frame (state_in file span m) rank (said_of w) ≡ inside m rank w
    unfolding in_frame inside
    in_frame_is rank = refl

    stands_is : pre_stands v (state_in file span m) (said_of w) ≡ stands v m w
    unfolding pre_stands stands in_frame inside
    stands_is = rw (closed_is v ascending file span m w)

    module _ (q : Bool) (q_is : q ≡ stands v m w) where
      pub pre_place : q ≡ false → (r : ℕ) → r ≡ place_reason m.rank 2 → r ≡ pre_reason v (state_in file span m) (said_of w)
      pre_place e r h = rw (stands_is ∙ sym q_is ∙ e) h

      module _ (yes : q ≡ true) (p : Bool) (p-is : p ≡ player (said_of w)) where
        pub pre_who : p ≡ false → (r : ℕ) → r ≡ who_reason (said_of w) → r ≡ pre_reason v (state_in file span m) (said_of w)
        pre_who e r h = rw (stands_is ∙ sym q_is ∙ yes, sym p-is ∙ e) h

        module _ (one : p ≡ true) (k : ℕ) (k-is : k ≡ slot_said (said_of w)) (d : Bool) (d-is : d ≡ is_due (due_in file span m.pre m.due) k) where
          due_is : is_due (due_in file span m.pre m.due) (slot_said (said_of w)) ≡ d
          due_is = ap (is_due (due_in file span m.pre m.due)) (sym k-is) ∙ sym d-is

          pub pre_twice : d ≡ true → 6 ≡ pre_reason v (state_in file span m) (said_of w)
          pre_twice e = rw (stands_is ∙ sym q_is ∙ yes, sym p-is ∙ one, due_is ∙ e)

          module _ (new : d ≡ false) (a : Bool) (a-is : a ≡ may_come ascending (due_in file span m.pre m.due) k) where
            may_is : may_come ascending (due_in file span m.pre m.due) (slot_said (said_of w)) ≡ a
            may_is = ap (may_come ascending (due_in file span m.pre m.due)) (sym k-is) ∙ sym a-is

            pub pre_again : a ≡ true → 20 ≡ pre_reason v (state_in file span m) (said_of w)
            pre_again e = rw (stands_is ∙ sym q_is ∙ yes, sym p-is ∙ one, due_is ∙ new, may_is ∙ e)

            pub pre_ports : a ≡ false → 4 ≡ pre_reason v (state_in file span m) (said_of w)
            pre_ports e = rw (stands_is ∙ sym q_is ∙ yes, sym p-is ∙ one, due_is ∙ new, may_is ∙ e)

    module _ (q : Bool) (q_is : q ≡ inside m 7 w) where
      pub post_place : q ≡ false → (r : ℕ) → r ≡ place_reason m.rank 7 → r ≡ post_reason (state_in file span m) (said_of w)
      post_place e r h = rw (in_frame_is 7 ∙ sym q_is ∙ e) h

      module _ (yes : q ≡ true) (p : Bool) (p-is : p ≡ player (said_of w)) where
        pub post_who : p ≡ false → (r : ℕ) → r ≡ who_reason (said_of w) → r ≡ post_reason (state_in file span m) (said_of w)
        post_who e r h = rw (in_frame_is 7 ∙ sym q_is ∙ yes, sym p-is ∙ e) h

        module _ (one : p ≡ true) (k : ℕ) (k-is : k ≡ slot_said (said_of w)) (d : Bool) (d-is : d ≡ is_due (due_in file span m.pre m.due) k) where
          post_due : is_due (due_in file span m.pre m.due) (slot_said (said_of w)) ≡ d
          post_due = ap (is_due (due_in file span m.pre m.due)) (sym k-is) ∙ sym d-is

          pub post_ports : d ≡ true → 4 ≡ post_reason (state_in file span m) (said_of w)
          post_ports e = rw (in_frame_is 7 ∙ sym q_is ∙ yes, sym p-is ∙ one, post_due ∙ e)

          pub post_alone : d ≡ false → 21 ≡ post_reason (state_in file span m) (said_of w)
          post_alone e = rw (in_frame_is 7 ∙ sym q_is ∙ yes, sym p-is ∙ one, post_due ∙ e)

    -- ---- by the family
    module _ (r : ℕ) where
      abbrev Answers : Family → Type 0
      Answers family = r ≡ order_reason v (state_in file span m) family (said_of w)

      pub start_arm : r ≡ open_at m → Answers FrameStart
      unfolding order_reason
      start_arm e = e ∙ open_is

      pub pre_arm : r ≡ pre_reason v (state_in file span m) (said_of w) → Answers Pre
      unfolding order_reason
      pre_arm e = e

      pub fod_arm : r ≡ place_reason m.rank 3 → Answers FodPlatform
      unfolding order_reason
      fod_arm e = e

      pub whispy_arm : r ≡ place_reason m.rank 4 → Answers DreamlandWhispy
      unfolding order_reason
      whispy_arm e = e

      pub stadium_arm : r ≡ place_reason m.rank 5 → Answers StadiumTransformation
      unfolding order_reason
      stadium_arm e = e

      pub item_arm : r ≡ place_reason m.rank 6 → Answers Item
      unfolding order_reason
      item_arm e = e

      pub post_arm : r ≡ post_reason (state_in file span m) (said_of w) → Answers Post
      unfolding order_reason
      post_arm e = e

      pub end_arm : r ≡ last_at m w → Answers FrameEnd
      unfolding order_reason
      end_arm e = e ∙ ap (λ (b : Bool). cond b 5 (place_reason m.rank 7)) (sym (in_frame_is 7))

      pub arm_as : (family one : Family) → family ≡ one → Answers one → Answers family
      arm_as family one e h = h ∙ ap (λ (f : Family). order_reason v (state_in file span m) f (said_of w)) (sym e)

-- ---- a code that is none of a frame's, and one that is

kind_other : (x : Option Family) → kind_of x ≡ Other → x ≡ none
kind_other none e = refl
kind_other (some g) e = let z : ◌≡◌ {A = ℕ} 0 1 = cc in absurd (omega arith)

pub known_frame : (code : ℕ) (family : Family) → kind_of (family_of code) ≡ Frame family → 1 ≡ other_reason code
unfolding on_family
known_frame code family e = rw (kind_frame (family_of code) family e)

module _ (code : ℕ) (e : kind_of (family_of code) ≡ Other) where
  pub other_as : (r : ℕ) → r ≡ cond (eqb code 0x36) 1 (cond (eqb code 0x10) 1 (cond (eqb code 0x39) 1 22)) → r ≡ other_reason code
  unfolding on_family
  other_as r h = rw (kind_other (family_of code) e) h

-- ---- blocks

module _ (p : List ℕ) where
  pub block_is : length p ≡ 516 → eqb (get_or p 514 0) (code_of GeckoCodes) ≡ is_block (ev (code_of MessageSplitter) p)
  unfolding is_block
  block_is h = rw (eq-eqb (length p) 516 h)

  pub block_not : (length p ≡ 516 → ⊥) → false ≡ is_block (ev (code_of MessageSplitter) p)
  unfolding is_block
  block_not h = rw (ne_eqb (length p) 516 h)

  module _ (v : Version) (a : Bool) (a-is : a ≡ is_block (ev (code_of MessageSplitter) p)) where
    pub good_not : a ≡ false → false ≡ good_block v (ev (code_of MessageSplitter) p)
    unfolding good_block
    good_not e = rw (sym a-is ∙ e)

    module _ (yes : a ≡ true) (used : ℕ) (used-is : used ≡ used_by (ev (code_of MessageSplitter) p)) where
      module _ (flag : get_or p 515 0 ≡ 1) (c : Bool) (c-is : c ≡ has_codes v) where
        pub last_early : c ≡ false → false ≡ good_block v (ev (code_of MessageSplitter) p)
        unfolding good_block is_last
        last_early e = rw (sym a-is ∙ yes, eq-eqb (get_or p 515 0) 1 flag, sym c-is ∙ e)

        pub last_empty : c ≡ true → used ≤ 0 → false ≡ good_block v (ev (code_of MessageSplitter) p)
        unfolding good_block is_last
        last_empty e l = rw (sym a-is ∙ yes, eq-eqb (get_or p 515 0) 1 flag, sym c-is ∙ e, ← used-is, le-ltb 0 used l)

        pub last_is : c ≡ true → 0 < used → leb used 512 ≡ good_block v (ev (code_of MessageSplitter) p)
        unfolding good_block is_last
        last_is e l = rw (sym a-is ∙ yes, eq-eqb (get_or p 515 0) 1 flag, sym c-is ∙ e, ← used-is, lt-ltb 0 used l)

      module _ (flag : get_or p 515 0 ≡ 1 → ⊥) where
        pub full_is : get_or p 515 0 ≡ 0 → eqb used 512 ≡ good_block v (ev (code_of MessageSplitter) p)
        unfolding good_block is_full
        full_is e = rw (sym a-is ∙ yes, ne_eqb (get_or p 515 0) 1 flag, eq-eqb (get_or p 515 0) 0 e, ← used-is)

        pub full_not : (get_or p 515 0 ≡ 0 → ⊥) → false ≡ good_block v (ev (code_of MessageSplitter) p)
        unfolding good_block is_full
        full_not e = rw (sym a-is ∙ yes, ne_eqb (get_or p 515 0) 1 flag, ne_eqb (get_or p 515 0) 0 e)
