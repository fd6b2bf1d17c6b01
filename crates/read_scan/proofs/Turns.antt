-- The laws of one turn.
-- Assumes nothing.
use mathlib.Core.Path.{◌≡◌, refl, sym, ap, subst, ◌∙◌}
use mathlib.Core.Bool.{Bool, true, false, cond, not, ◌&&◌, ◌||◌}
use mathlib.Core.List.{List}
use mathlib.Core.Option.{Option, none, some}
use Prim.Native.Nat.{ℕ, zero, suc, ◌+◌, ◌-◌, ◌*◌, ◌^◌, ◌≤◌, ◌<◌}
use native.Mathlib.Nat.{suc-mul, zero-mul}
use native.Mathlib.Omega.{arith}
use borrow.Author.Tests.{le-leb, lt-leb, leb-true, eqb-true}
use lib.Dec.{leb, eqb}
use lib.ListN.{length, get_or}
use Rattle.format.specs.declared.version.Version.{Version}
use Rattle.layout.specs.Columns.{has_family}
use Rattle.layout.specs.Payloads.{record_size}
use Rattle.layout.specs.declared.columns.Family.{Family}
use Rattle.layout.specs.declared.columns.Family.TheVariants.{Pre, Post, FrameStart, Item, FrameEnd, FodPlatform, DreamlandWhispy, StadiumTransformation}
use Rattle.grammar.specs.WellFormed.{Order, may_come}
use Rattle.grammar.specs.Machine.{family_of, on_family, initial, Said, State, slot_said, is_next, closed, in_frame, player, orderly, after}
use Rattle.grammar.proofs.Tests.{both}
use Rattle.read_order.specs.Inner.{slot_at, due_in, said_of, state_in, closed_at, Held, Ready, After}
use Rattle.read_order.specs.declared.stage.Stage.{Stage}
use Rattle.read_order.specs.declared.stage.Word.{Word}
use Rattle.read_order.proofs.Steps.{closed_is}
use Rattle.read_order.proofs.Laws.{room_go}
use Rattle.read_scan.specs.Counts.{no_tally, counted_of, Under}
use Rattle.read_scan.specs.Inner.{kind_of, Asked, Gone, Tried, ends_at, tells_at, said_at, span_at, stops, tells, takes_at, scan, tallied}
use Rattle.read_scan.specs.declared.tally.Tally.{Tally}
use Rattle.read_scan.proofs.Counting.{under_counted}
use Rattle.read_scan.specs.declared.event.Kind.TheVariants.{Frame, Other}
use Rattle.read_scan.specs.declared.event.Turn.{Turn}

-- ---- what an event in order needs

fewer : (n span : ℕ) → 7 ≤ span → 7 * n ≤ n * span
fewer zero span h = omega (arith, zero-mul span)
fewer (suc n) span h = let f = fewer n span h in let s = suc-mul n span in omega arith

module _ (v : Version) (o : Order) (file : List ℕ) (span : ℕ) (m : Stage) (w : Word) (at next : ℕ)
    (held : Held span m at) (span_is : span ≡ 1 + record_size Pre v) (low : next < 2 ^ 64) (said : said_of w ≡ said_at file at) where
  closed_nobody : closed v (state_in file span m) ≡ true → m.due ≡ 0
  unfolding closed_at
  closed_nobody c =
      let e = sym (closed_is v o file span m w) ∙ c in
      let d = (both (eqb m.due 0) (not (has_family v FrameEnd) || eqb m.rank 8) e).0 in
      eqb-true m.due 0 d

  next_some : (n : ℕ) (k : ℕ) → is_next (due_in file span m.pre n) k ≡ true → 0 < n
  unfolding is_next due_in
  next_some zero k q = let z : ◌≡◌ {A = ℕ} 0 1 = cc in absurd (omega arith)
  next_some (suc n) k q = omega arith

  joined_now : (in_frame (state_in file span m) 2 (said_of w) || (not (has_family v FrameStart) && closed v (state_in file span m))) ≡ true → (m.due ≡ 0 → ⊥)
      → m.pre + m.due * span ≡ at
  unfolding in_frame
  joined_now q n = go (leb m.rank 2) refl q
    where
      go : (b : Bool) → leb m.rank 2 ≡ b → ((b && eqb m.id w.id) || (not (has_family v FrameStart) && closed v (state_in file span m))) ≡ true → m.pre + m.due * span ≡ at
      go true e q = held.joined (leb-true m.rank 2 e) n
      go false e q = absurd (n (closed_nobody (both (not (has_family v FrameStart)) (closed v (state_in file span m)) q).1))

  ready_of : (family : Family) → next ≡ at + (1 + record_size family v) → orderly v o (state_in file span m) family (said_of w) ≡ true → Ready file span m w at next family
  unfolding orderly slot_at
  ready_of Pre e q =
      let (place, more) = both (in_frame (state_in file span m) 2 (said_of w) || (not (has_family v FrameStart) && closed v (state_in file span m)))
      (player (said_of w) && may_come o (due_in file span m.pre m.due) (slot_said (said_of w))) q in
      let few = fewer m.due span (omega arith) in
      let i = held.inside in
      record { few = omega arith; follows = joined_now place; slot = sym (ap slot_said said); next_is = omega arith }
  ready_of Post e q =
      let more = (both (in_frame (state_in file span m) 7 (said_of w)) (player (said_of w) && is_next (due_in file span m.pre m.due) (slot_said (said_of w))) q).1 in
      let n = (both (player (said_of w)) (is_next (due_in file span m.pre m.due) (slot_said (said_of w))) more).1 in
      let d = next_some m.due (slot_said (said_of w)) n in
      let r = (room_go m.pre m.due span at d held.inside).1 in
      (d, omega arith)
  ready_of FrameStart e q = closed_nobody q
  ready_of FodPlatform e q = tt
  ready_of DreamlandWhispy e q = tt
  ready_of StadiumTransformation e q = tt
  ready_of Item e q = tt
  ready_of FrameEnd e q = tt

  -- by the code's answer
  pub ready_if : (family : Family) → next ≡ at + (1 + record_size family v) → (b : Bool) → b ≡ orderly v o (state_in file span m) family (said_of w) → b ≡ true
      → Ready file span m w at next family
  ready_if family e b b-is t = ready_of family e (sym b-is ∙ t)

-- ---- the answers of a try

pub size_of : (v : Version) (n : ℕ) (family : Family) (f : Bool) → f ≡ (has_family v family && eqb n (1 + record_size family v)) → f ≡ true → n ≡ 1 + record_size family v
size_of v n family f e t = eqb-true n (1 + record_size family v) (both (has_family v family) (eqb n (1 + record_size family v)) (sym e ∙ t)).1

player_of_lem : (v : Version) (o : Order) (s : State) (w : Said) → orderly v o s Pre w ≡ true → player w ≡ true
unfolding orderly
player_of_lem v o s w q =
    let more = (both (in_frame s 2 w || (not (has_family v FrameStart) && closed v s)) (player w && may_come o s.due (slot_said w)) q).1 in
    (both (player w) (may_come o s.due (slot_said w)) more).0

module _ (v : Version) (o : Order) (file : List ℕ) (span stop : ℕ) (m : Stage) (at n : ℕ) (family : Family) (f : Bool)
    (f-is : f ≡ (has_family v family && eqb n (1 + record_size family v))) where
  pub not_fits : f ≡ false → takes_at v o file stop (state_in file span m) at n family ≡ false
  unfolding takes_at
  not_fits e = rw (sym f-is ∙ e)

  pub not_whole : f ≡ true → at ≤ stop → stop - at < n → takes_at v o file stop (state_in file span m) at n family ≡ false
  unfolding takes_at
  not_whole e u l = rw (sym f-is ∙ e, lt-leb (at + n) stop (omega arith))

  module _ (e : f ≡ true) (u : at ≤ stop) (l : n ≤ stop - at) (w : Word) (said : said_of w ≡ said_at file at) (b : Bool)
      (b-is : b ≡ orderly v o (state_in file span m) family (said_of w)) where
    taken_as : takes_at v o file stop (state_in file span m) at n family ≡ b
    unfolding takes_at
    taken_as = rw (sym f-is ∙ e, le-leb (at + n) stop (omega arith), b-is, said)

    pub not_orderly : b ≡ false → takes_at v o file stop (state_in file span m) at n family ≡ false
    not_orderly q = taken_as ∙ q

    pub gone : b ≡ true → (next : ℕ) → next ≡ at + n → Asked v file span stop m at → (stage : Stage) → After file span m w next family stage
        → Gone v o file span stop m at n family stage next w
    gone q next x a stage h =
        let s = size_of v n family f f-is e in
        record {
          taken = taken_as ∙ q;
          state_is = h.state_is ∙ ap (after (state_in file span m) family) said;
          next_is = x;
          asked = record { held = h.held; under = omega arith; long = a.long; span_is = a.span_is };
          later = omega arith;
          said = said;
          seated = λ p. player_of_lem v o (state_in file span m) (said_of w) (ap (λ (f : Family). orderly v o (state_in file span m) f (said_of w)) (sym p) ∙ sym b-is ∙ q);
        }

-- ---- the frames end, or not

module _ (v : Version) (m : Stage) (at : ℕ) (y : Tally) (b : Bool) (b-is : b ≡ closed_at v m) where
  pub ends_here : b ≡ true → (some at ≡ ends_at v m at) × (some y ≡ tells_at v m y)
  ends_here t = (rw (sym b-is ∙ t), rw (sym b-is ∙ t))

  pub ends_not : b ≡ false → (none ≡ ends_at v m at) × (none ≡ tells_at v m y)
  ends_not t = (rw (sym b-is ∙ t), rw (sym b-is ∙ t))

-- ---- the loop

-- the answers of a place and a tally are those from the first place on, with enough turns left
pub record Turning (v : Version) (o : Order) (file spans : List ℕ) (stop span first : ℕ) (m : Stage) (at : ℕ) (y : Tally) : Type 0 where
  pub asked : Asked v file span stop m at
  pub left : ℕ
  pub enough : stop < at + left
  pub same : scan v o file spans stop (suc stop) first initial ≡ scan v o file spans stop left at (state_in file span m)
  pub counts : tallied v o file spans stop (suc stop) first initial no_tally ≡ tallied v o file spans stop left at (state_in file span m) y
  pub under : Under y at

pub kind_frame : (x : Option Family) (family : Family) → kind_of x ≡ Frame family → x ≡ some family
kind_frame none family e = let z : ◌≡◌ {A = ℕ} 0 1 = cc in absurd (omega arith)
kind_frame (some g) family e = let q : g ≡ family = cc in ap {B = Option Family} some q

kind_other : (x : Option Family) → kind_of x ≡ Other → x ≡ none
kind_other none e = refl
kind_other (some g) e = let z : ◌≡◌ {A = ℕ} 0 1 = cc in absurd (omega arith)

module _ (v : Version) (o : Order) (file spans : List ℕ) (stop span first : ℕ) where
  pub turn_first : first ≤ stop → stop ≤ length file → span ≡ 1 + record_size Pre v → (y : Tally) → y ≡ no_tally
      → Turning v o file spans stop span first (record { rank = 8; id = 0; pre = 0; due = 0 }) first y
  unfolding due_in
  turn_first h k s y e =
      let z = zero-mul span in
      let none_yet : Under no_tally first = record { frames = omega arith; items = omega arith; fods = omega arith; whispys = omega arith; stadiums = omega arith } in
      record {
        asked = record { held = record { inside = omega arith; joined = λ x y. absurd (y refl) }; under = h; long = k; span_is = s };
        left = suc stop;
        enough = omega arith;
        same = refl;
        counts = ap (tallied v o file spans stop (suc stop) first initial) (sym e);
        under = subst (λ (t : Tally). Under t first) (sym e) none_yet;
      }

  -- the answers after the last turn
  abbrev Answers : Stage → ℕ → Tally → Type 0
  Answers m at y = (ends_at v m at ≡ scan v o file spans stop (suc stop) first initial) × (tells_at v m y ≡ tallied v o file spans stop (suc stop) first initial no_tally)

  module _ (m : Stage) (at : ℕ) (y : Tally) (t : Turning v o file spans stop span first m at y) where
    closed_now : closed v (state_in file span m) ≡ closed_at v m
    closed_now = closed_is v o file span m (record { id = 0; port = 0; follower = 0 })

    is_left : at ≤ stop → t.left ≡ suc (t.left - 1)
    is_left l = omega (arith, t.enough)

    end_now : (n : ℕ) → stop ≤ at → (scan v o file spans stop (suc n) at (state_in file span m) ≡ ends_at v m at)
        × (tallied v o file spans stop (suc n) at (state_in file span m) y ≡ tells_at v m y)
    unfolding scan tallied stops tells
    end_now n l = (
      rw (le-leb stop at l) (ap (λ (b : Bool). cond b (some at) none) closed_now),
      rw (le-leb stop at l) (ap (λ (b : Bool). cond b (some y) none) closed_now),
    )

    other_now : (n : ℕ) → at < stop → family_of (get_or file at 0) ≡ none → (scan v o file spans stop (suc n) at (state_in file span m) ≡ ends_at v m at)
        × (tallied v o file spans stop (suc n) at (state_in file span m) y ≡ tells_at v m y)
    unfolding scan tallied stops tells on_family
    other_now n l f = (
      rw (lt-leb stop at l, f) (ap (λ (b : Bool). cond b (some at) none) closed_now),
      rw (lt-leb stop at l, f) (ap (λ (b : Bool). cond b (some y) none) closed_now),
    )

    answers : ((n : ℕ) → (scan v o file spans stop (suc n) at (state_in file span m) ≡ ends_at v m at)
        × (tallied v o file spans stop (suc n) at (state_in file span m) y ≡ tells_at v m y)) → Answers m at y
    answers h =
        let e = is_left t.asked.under in
        let (a, b) = h (t.left - 1) in
        (sym (t.same ∙ ap (λ (n : ℕ). scan v o file spans stop n at (state_in file span m)) e ∙ a), sym (t.counts ∙ ap (λ (n : ℕ). tallied v o file spans stop n at (state_in file span m) y) e ∙ b))

    pub turn_end : stop ≤ at → Answers m at y
    turn_end l = answers (λ n. end_now n l)

    module _ (l : at < stop) (code : ℕ) (code_is : code ≡ get_or file at 0) where
      pub turn_other : kind_of (family_of code) ≡ Other → Answers m at y
      turn_other k =
          let f : family_of (get_or file at 0) ≡ none = ap family_of (sym code_is) ∙ kind_other (family_of code) k in
          answers (λ n. other_now n l f)

      module _ (family : Family) (k : kind_of (family_of code) ≡ Frame family) (n : ℕ) (n-is : n ≡ get_or spans code 0) where
        is_family : family_of (get_or file at 0) ≡ some family
        is_family = ap family_of (sym code_is) ∙ kind_frame (family_of code) family k

        span_is : n ≡ span_at spans file at
        span_is = n-is ∙ ap (λ (c : ℕ). get_or spans c 0) code_is

        abbrev now_at : State
        now_at = state_in file span m

        abbrev then_at : State
        then_at = after now_at family (said_at file at)

        one_turn : (j : ℕ) → scan v o file spans stop (suc j) at now_at ≡ cond (takes_at v o file stop now_at at n family) (scan v o file spans stop j (at + n) then_at) none
        unfolding scan on_family
        one_turn j =
            rw (lt-leb stop at l, is_family)
            (ap (λ (n : ℕ). cond (takes_at v o file stop now_at at n family) (scan v o file spans stop j (at + n) then_at) none) (sym span_is))

        one_count : (j : ℕ) → tallied v o file spans stop (suc j) at now_at y
            ≡ cond (takes_at v o file stop now_at at n family) (tallied v o file spans stop j (at + n) then_at (counted_of y m.rank m.id family (said_at file at))) none
        unfolding tallied on_family
        one_count j =
            rw (lt-leb stop at l, is_family)
            (ap (λ (n : ℕ). cond (takes_at v o file stop now_at at n family) (tallied v o file spans stop j (at + n) then_at (counted_of y m.rank m.id family (said_at file at))) none) (sym span_is))

        pub turn_refused : takes_at v o file stop now_at at n family ≡ false
            → (none ≡ scan v o file spans stop (suc stop) first initial) × (none ≡ tallied v o file spans stop (suc stop) first initial no_tally)
        turn_refused q =
            let e = is_left t.asked.under in (
              sym (t.same ∙ ap (λ (n : ℕ). scan v o file spans stop n at now_at) e ∙ one_turn (t.left - 1) ∙ rw q),
              sym (t.counts ∙ ap (λ (n : ℕ). tallied v o file spans stop n at now_at y) e ∙ one_count (t.left - 1) ∙ rw q),
            )

        pub turn_goes : (stage : Stage) (next : ℕ) (w : Word) → Gone v o file span stop m at n family stage next w → (z : Tally) → z ≡ counted_of y m.rank m.id family (said_of w)
            → Turning v o file spans stop span first stage next z
        turn_goes stage next w g z z-is =
            let e = is_left t.asked.under in
            let taken = g.taken in
            let z' = z-is ∙ ap (counted_of y m.rank m.id family) g.said in
            record {
              asked = g.asked;
              left = t.left - 1;
              enough = omega (arith, t.enough, g.later);
              same = t.same ∙ ap (λ (n : ℕ). scan v o file spans stop n at now_at) e ∙ one_turn (t.left - 1) ∙ rw (taken, ← g.next_is, ← g.state_is);
              counts = t.counts ∙ ap (λ (n : ℕ). tallied v o file spans stop n at now_at y) e ∙ one_count (t.left - 1) ∙ rw (taken, ← g.next_is, ← g.state_is, ← z');
              under = subst (λ (x : Tally). Under x next) (sym z-is) (under_counted y m.rank m.id (said_of w) family at next t.under g.later);
            }

pub tried_as : (v : Version) (o : Order) (file : List ℕ) (span stop : ℕ) (m : Stage) (at n : ℕ) (family : Family) (r q : Turn) → r ≡ q → Tried v o file span stop m at n family r
    → Tried v o file span stop m at n family q
tried_as v o file span stop m at n family r q e h = subst (λ (t : Turn). Tried v o file span stop m at n family t) e h
