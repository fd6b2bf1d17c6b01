-- The laws of one turn, and of each test.
-- Assumes nothing.
use mathlib.Core.Path.{◌≡◌, refl, sym, ap, subst, ◌∙◌}
use mathlib.Core.Bool.{Bool, true, false, cond, ◌&&◌}
use mathlib.Core.List.{List}
use mathlib.Core.Option.{Option, none, some}
use Prim.Native.Nat.{ℕ, suc, ◌+◌, ◌-◌, ◌≤◌, ◌<◌}
use native.Mathlib.Nat.{zero-mul}
use native.Mathlib.Omega.{arith}
use borrow.Author.Tests.{le-leb, lt-leb, eq-eqb, ne_eqb}
use lib.Dec.{ltb, leb, eqb}
use lib.ListN.{length, get_or}
use Rattle.format.specs.declared.version.Version.{Version}
use Rattle.layout.specs.Payloads.{record_size, end_size}
use Rattle.layout.specs.declared.columns.Family.{Family}
use Rattle.layout.specs.declared.columns.Family.TheVariants.{Pre}
use Rattle.grammar.specs.WellFormed.{ascending}
use Rattle.grammar.specs.Machine.{family_of, on_family, initial, State, closed, after}
use Rattle.read_order.specs.Inner.{due_in, said_of, state_in, closed_at}
use Rattle.read_order.specs.declared.stage.Stage.{Stage}
use Rattle.read_order.specs.declared.stage.Word.{Word}
use Rattle.read_order.proofs.Steps.{closed_is}
use Rattle.read_scan.specs.Counts.{no_tally, counted_of, Under}
use Rattle.read_scan.specs.Inner.{kind_of, no_stage, Asked, Gone, said_at, span_at, takes_at}
use Rattle.read_scan.specs.declared.tally.Tally.{Tally}
use Rattle.read_scan.specs.declared.event.Kind.TheVariants.{Frame, Other}
use Rattle.read_scan.proofs.Counting.{under_counted}
use Rattle.read_scan.proofs.Turns.{kind_frame}
use Rattle.read_outline.specs.Inner.{codes_at, ends_at}
use Rattle.read_outline.specs.Listed.{listed_right}
use Rattle.read_outline.specs.declared.answer.Codes.{Codes}
use Rattle.read_outline.specs.declared.answer.Codes.TheVariants as codes
use Rattle.read_outline.specs.declared.answer.Ends.{Ends}
use Rattle.read_outline.specs.declared.answer.Ends.TheVariants as ends
use Rattle.read_judge.specs.Inner.{changes}
use Rattle.repair_scan.specs.Inner.{short, few, tally_fits, rests, rests_at, is_good, start_only, reach, reached, ends_to, ends_from, with_ends, from_codes, kept_from}
use Rattle.repair_scan.specs.declared.pass.Reached.{Reached}

-- ---- tests

pub short_is : (at : ℕ) → ltb at 4294967311 ≡ short at
unfolding short
short_is at = refl

module _ (t : Tally) where
  pub few_last : t.frames ≤ 1048576 → t.items ≤ 4194304 → t.fods ≤ 1048576 → t.whispys ≤ 1048576 → leb t.stadiums 1048576 ≡ few t
  unfolding few
  few_last a b c d = rw (le-leb t.frames 1048576 a, le-leb t.items 4194304 b, le-leb t.fods 1048576 c, le-leb t.whispys 1048576 d)

  pub few_whispys : t.frames ≤ 1048576 → t.items ≤ 4194304 → t.fods ≤ 1048576 → 1048576 < t.whispys → false ≡ few t
  unfolding few
  few_whispys a b c d = rw (le-leb t.frames 1048576 a, le-leb t.items 4194304 b, le-leb t.fods 1048576 c, lt-leb t.whispys 1048576 d)

  pub few_fods : t.frames ≤ 1048576 → t.items ≤ 4194304 → 1048576 < t.fods → false ≡ few t
  unfolding few
  few_fods a b c = rw (le-leb t.frames 1048576 a, le-leb t.items 4194304 b, lt-leb t.fods 1048576 c)

  pub few_items : t.frames ≤ 1048576 → 4194304 < t.items → false ≡ few t
  unfolding few
  few_items a b = rw (le-leb t.frames 1048576 a, lt-leb t.items 4194304 b)

  pub few_frames : 1048576 < t.frames → false ≡ few t
  unfolding few
  few_frames a = rw (lt-leb t.frames 1048576 a)

module _ (v : Version) (t : Tally) (at : ℕ) (a : Bool) (a-is : a ≡ changes v t) where
  pub fits_not : a ≡ false → false ≡ tally_fits v t at
  unfolding tally_fits
  fits_not e = rw (sym a-is ∙ e)

  module _ (yes : a ≡ true) (b : Bool) (b-is : b ≡ few t) where
    pub fits_many : b ≡ false → false ≡ tally_fits v t at
    unfolding tally_fits
    fits_many e = rw (sym a-is ∙ yes, sym b-is ∙ e)

    pub fits_few : b ≡ true → (c : Bool) → c ≡ short at → c ≡ tally_fits v t at
    unfolding tally_fits
    fits_few e c c-is = rw (sym a-is ∙ yes, sym b-is ∙ e) c-is

module _ (v : Version) (m : Stage) (t : Tally) (at best : ℕ) (a : Bool) (a-is : a ≡ closed_at v m) where
  pub open_still : a ≡ false → best ≡ cond (rests_at v m t at) at best
  unfolding rests_at
  open_still e = rw (sym a-is ∙ e)

  module _ (yes : a ≡ true) (b : Bool) (b-is : b ≡ tally_fits v t at) where
    pub rests_here : b ≡ true → at ≡ cond (rests_at v m t at) at best
    unfolding rests_at
    rests_here e = rw (sym a-is ∙ yes, sym b-is ∙ e)

    pub rests_not : b ≡ false → best ≡ cond (rests_at v m t at) at best
    unfolding rests_at
    rests_not e = rw (sym a-is ∙ yes, sym b-is ∙ e)

module _ (v : Version) (spans : List ℕ) (at : ℕ) (a : Bool) (a-is : a ≡ listed_right v (get_or spans 0x3D 0) 0 0) where
  pub start_unlisted : a ≡ false → 0 ≡ start_only v spans at
  unfolding start_only
  start_unlisted e = rw (sym a-is ∙ e)

  module _ (yes : a ≡ true) (b : Bool) (b-is : b ≡ short at) where
    pub start_alone_lem : b ≡ true → at ≡ start_only v spans at
    unfolding start_only
    start_alone_lem e = rw (sym a-is ∙ yes, sym b-is ∙ e)

    pub start_long : b ≡ false → 0 ≡ start_only v spans at
    unfolding start_only
    start_long e = rw (sym a-is ∙ yes, sym b-is ∙ e)

-- ---- the ends

module _ (v : Version) (file spans : List ℕ) (stop at to : ℕ) where
  pub ends_beyond : stop < to → false ≡ ends_to v file spans stop at to
  unfolding ends_to
  ends_beyond h = rw (lt-leb to stop h)

  module _ (h : to ≤ stop) (b : Bool) (b-is : b ≡ short to) where
    pub ends_long : b ≡ false → false ≡ ends_to v file spans stop at to
    unfolding ends_to
    ends_long e = rw (le-leb to stop h, sym b-is ∙ e)

    module _ (yes : b ≡ true) (x : Ends) (x-is : x ≡ ends_at v file spans at to) where
      pub ends_good : (n : ℕ) → x ≡ ends.Good n → true ≡ ends_to v file spans stop at to
      unfolding ends_to is_good
      ends_good n e = rw (le-leb to stop h, sym b-is ∙ yes, sym x-is ∙ e)

      pub ends_wrong : x ≡ ends.Wrong → false ≡ ends_to v file spans stop at to
      unfolding ends_to is_good
      ends_wrong e = rw (le-leb to stop h, sym b-is ∙ yes, sym x-is ∙ e)

module _ (v : Version) (file spans : List ℕ) (stop at m : ℕ) (m-is : m ≡ end_size v) (b : Bool) (b-is : b ≡ ends_to v file spans stop at (at + (1 + m) + (1 + m))) where
  two_is : b ≡ ends_to v file spans stop at (at + (1 + end_size v) + (1 + end_size v))
  two_is = b-is ∙ ap (λ (k : ℕ). ends_to v file spans stop at (at + (1 + k) + (1 + k))) m-is

  pub two_ends : b ≡ true → at + (1 + m) + (1 + m) ≡ ends_from v file spans stop at
  unfolding ends_from
  two_ends e = rw (sym two_is ∙ e) (ap (λ (k : ℕ). at + (1 + k) + (1 + k)) m-is)

  module _ (no : b ≡ false) (d : Bool) (d-is : d ≡ ends_to v file spans stop at (at + (1 + m))) where
    one_is : d ≡ ends_to v file spans stop at (at + (1 + end_size v))
    one_is = d-is ∙ ap (λ (k : ℕ). ends_to v file spans stop at (at + (1 + k))) m-is

    pub one_end : d ≡ true → at + (1 + m) ≡ ends_from v file spans stop at
    unfolding ends_from
    one_end e = rw (sym two_is ∙ no, sym one_is ∙ e) (ap (λ (k : ℕ). at + (1 + k)) m-is)

    pub no_end : d ≡ false → at ≡ ends_from v file spans stop at
    unfolding ends_from
    no_end e = rw (sym two_is ∙ no, sym one_is ∙ e)

-- ---- the parts

module _ (v : Version) (file spans : List ℕ) (stop : ℕ) where
  pub ends_there : (r x : Reached) → r ≡ x → r.at ≡ r.best → (p : ℕ) → p ≡ ends_from v file spans stop r.at → p ≡ with_ends v file spans stop x
  unfolding with_ends
  ends_there r x e q p p-is = p-is ∙ sym (ap (λ (b : Bool). cond b (ends_from v file spans stop r.at) r.best) (eq-eqb r.at r.best q)) ∙ ap (with_ends v file spans stop) e

  pub ends_before : (r x : Reached) → r ≡ x → (r.at ≡ r.best → ⊥) → r.best ≡ with_ends v file spans stop x
  unfolding with_ends
  ends_before r x e q = sym (ap (λ (b : Bool). cond b (ends_from v file spans stop r.at) r.best) (ne_eqb r.at r.best q)) ∙ ap (with_ends v file spans stop) e

  module _ (at : ℕ) (c : Codes) (c-is : c ≡ codes_at v file spans at stop) where
    pub codes_none : c ≡ codes.Wrong → 0 ≡ from_codes v file spans stop (codes_at v file spans at stop)
    unfolding from_codes
    codes_none e = ap (from_codes v file spans stop) (sym e ∙ c-is)

    module _ (place blocks actual : ℕ) (e : c ≡ codes.Ended place blocks actual) (a : Bool) (a-is : a ≡ listed_right v (get_or spans 0x3D 0) blocks actual) where
      there : from_codes v file spans stop (codes.Ended place blocks actual) ≡ from_codes v file spans stop (codes_at v file spans at stop)
      there = ap (from_codes v file spans stop) (sym e ∙ c-is)

      pub codes_unlisted : a ≡ false → 0 ≡ from_codes v file spans stop (codes_at v file spans at stop)
      unfolding from_codes
      codes_unlisted q = sym (ap (λ (b : Bool). cond (b && leb blocks 32768) (with_ends v file spans stop (reached v file spans stop (suc stop) place initial no_tally 0)) 0) (sym a-is ∙ q)) ∙ there

      pub codes_many : a ≡ true → 32768 < blocks → 0 ≡ from_codes v file spans stop (codes_at v file spans at stop)
      unfolding from_codes
      codes_many q h =
          sym (ap (λ (b : Bool). cond (b && leb blocks 32768) (with_ends v file spans stop (reached v file spans stop (suc stop) place initial no_tally 0)) 0) (sym a-is ∙ q)
          ∙ ap (λ (b : Bool). cond b (with_ends v file spans stop (reached v file spans stop (suc stop) place initial no_tally 0)) 0) (lt-leb blocks 32768 h))
          ∙ there

      pub codes_there : a ≡ true → blocks ≤ 32768 → (p : ℕ) → p ≡ with_ends v file spans stop (reached v file spans stop (suc stop) place initial no_tally 0)
          → p ≡ from_codes v file spans stop (codes_at v file spans at stop)
      unfolding from_codes
      codes_there q h p p-is =
          p-is
          ∙ sym (ap (λ (b : Bool). cond (b && leb blocks 32768) (with_ends v file spans stop (reached v file spans stop (suc stop) place initial no_tally 0)) 0) (sym a-is ∙ q)
          ∙ ap (λ (b : Bool). cond b (with_ends v file spans stop (reached v file spans stop (suc stop) place initial no_tally 0)) 0) (le-leb blocks 32768 h))
          ∙ there

  module _ (at p : ℕ) (p-is : p ≡ from_codes v file spans stop (codes_at v file spans at stop)) where
    pub kept_codes : (p ≡ 0 → ⊥) → p ≡ kept_from v file spans stop at
    unfolding kept_from
    kept_codes n = p-is ∙ sym (ap (λ (b : Bool). cond b (start_only v spans at) (from_codes v file spans stop (codes_at v file spans at stop))) (ne_eqb (from_codes v file spans stop (codes_at v file spans at stop)) 0 (λ q. n (p-is ∙ q))))

    pub kept_start : p ≡ 0 → (s : ℕ) → s ≡ start_only v spans at → s ≡ kept_from v file spans stop at
    unfolding kept_from
    kept_start e s s_is = s_is ∙ sym (ap (λ (b : Bool). cond b (start_only v spans at) (from_codes v file spans stop (codes_at v file spans at stop))) (eq-eqb (from_codes v file spans stop (codes_at v file spans at stop)) 0 (sym p-is ∙ e)))

-- ---- the loop

-- the answer of a place is that from the first place on, with enough turns left
pub record Turning (v : Version) (file spans : List ℕ) (stop span first : ℕ) (m : Stage) (at best : ℕ) (y : Tally) : Type 0 where
  pub asked : Asked v file span stop m at
  pub left : ℕ
  pub enough : stop < at + left
  pub same : reached v file spans stop (suc stop) first initial no_tally 0 ≡ reached v file spans stop left at (state_in file span m) y best
  pub under : Under y at

kind_other : (x : Option Family) → kind_of x ≡ Other → x ≡ none
kind_other none e = refl
kind_other (some g) e = let z : ◌≡◌ {A = ℕ} 0 1 = cc in absurd (omega arith)

module _ (v : Version) (file spans : List ℕ) (stop span first : ℕ) where
  pub turn_first : first ≤ stop → stop ≤ length file → span ≡ 1 + record_size Pre v → (m : Stage) → m ≡ no_stage → (y : Tally) → y ≡ no_tally
      → Turning v file spans stop span first m first 0 y
  unfolding due_in
  turn_first h k s m q y e =
      let z = zero-mul span in
      let none_yet : Under no_tally first = record { frames = omega arith; items = omega arith; fods = omega arith; whispys = omega arith; stadiums = omega arith } in
      subst (λ (n : Stage). Turning v file spans stop span first n first 0 y) (sym q)
      (record {
        asked = record { held = record { inside = omega arith; joined = λ x y. absurd (y refl) }; under = h; long = k; span_is = s };
        left = suc stop;
        enough = omega arith;
        same = ap (λ (t : Tally). reached v file spans stop (suc stop) first initial t 0) (sym e);
        under = subst (λ (t : Tally). Under t first) (sym e) none_yet;
      })

  module _ (m : Stage) (at best : ℕ) (y : Tally) (t : Turning v file spans stop span first m at best y) (now : ℕ) (now-is : now ≡ cond (rests_at v m y at) at best) where
    abbrev here : State
    here = state_in file span m

    rests_now : cond (rests v here y at) at best ≡ now
    unfolding rests rests_at
    rests_now = ap (λ (b : Bool). cond (b && tally_fits v y at) at best) (closed_is v ascending file span m (record { id = 0; port = 0; follower = 0 })) ∙ sym now-is

    is_left : t.left ≡ suc (t.left - 1)
    is_left = omega (arith, t.enough, t.asked.under)

    begun : reached v file spans stop (suc stop) first initial no_tally 0 ≡ reached v file spans stop (suc (t.left - 1)) at here y best
    begun = t.same ∙ ap (λ (n : ℕ). reached v file spans stop n at here y best) is_left

    pub turn_end : stop ≤ at → reach at now ≡ reached v file spans stop (suc stop) first initial no_tally 0
    unfolding reached
    turn_end l = sym (begun ∙ rw (le-leb stop at l) (ap (reach at) rests_now))

    module _ (l : at < stop) (code : ℕ) (code_is : code ≡ get_or file at 0) where
      pub turn_other : kind_of (family_of code) ≡ Other → reach at now ≡ reached v file spans stop (suc stop) first initial no_tally 0
      unfolding reached on_family
      turn_other k =
          let f : family_of (get_or file at 0) ≡ none = ap family_of (sym code_is) ∙ kind_other (family_of code) k in
          sym (begun ∙ rw (lt-leb stop at l, f) (ap (reach at) rests_now))

      module _ (family : Family) (k : kind_of (family_of code) ≡ Frame family) (n : ℕ) (n-is : n ≡ get_or spans code 0) where
        is_family : family_of (get_or file at 0) ≡ some family
        is_family = ap family_of (sym code_is) ∙ kind_frame (family_of code) family k

        span_is : span_at spans file at ≡ n
        span_is = sym (n-is ∙ ap (λ (c : ℕ). get_or spans c 0) code_is)

        abbrev turned : ℕ → ℕ → Reached
        turned n b =
            cond (takes_at v ascending file stop here at n family)
            (reached v file spans stop (t.left - 1) (at + n) (after here family (said_at file at)) (counted_of y m.rank m.id family (said_at file at)) b) (reach at b)

        one_turn : reached v file spans stop (suc stop) first initial no_tally 0 ≡ turned n now
        unfolding reached on_family
        one_turn = begun ∙ rw (lt-leb stop at l, is_family) (ap (turned (span_at spans file at)) rests_now ∙ ap (λ (k : ℕ). turned k now) span_is)

        pub turn_refused : takes_at v ascending file stop here at n family ≡ false → reach at now ≡ reached v file spans stop (suc stop) first initial no_tally 0
        turn_refused q = sym (one_turn ∙ rw q)

        pub turn_goes : (place : Stage) (next : ℕ) (w : Word) → Gone v ascending file span stop m at n family place next w → (z : Tally) → z ≡ counted_of y m.rank m.id family (said_of w)
            → Turning v file spans stop span first place next now z
        turn_goes place next w g z z-is =
            let z' = z-is ∙ ap (counted_of y m.rank m.id family) g.said in
            record {
              asked = g.asked;
              left = t.left - 1;
              enough = omega (arith, t.enough, g.later);
              same = one_turn ∙ rw (g.taken, ← g.next_is, ← g.state_is, ← z');
              under = subst (λ (x : Tally). Under x next) (sym z-is) (under_counted y m.rank m.id (said_of w) family at next t.under g.later);
            }
