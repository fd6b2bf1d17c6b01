-- The loop's invariant with the events since the last frame began, and eight frames at once.
-- Assumes nothing.
use mathlib.Core.Path.{◌≡◌, refl, sym, ap, subst, ◌∙◌}
use mathlib.Core.Bool.{Bool, true, false, cond, ◌||◌}
use mathlib.Core.List.{List}
use Prim.Native.Nat.{ℕ, zero, suc, ◌+◌, ◌-◌, ◌*◌, ◌^◌, ◌≤◌, ◌<◌}
use native.Mathlib.Nat.{suc-mul, zero-mul, mul-le-mul_right}
use native.Mathlib.Omega.{arith}
use borrow.Author.Tests.{eq-eqb, eqb-true}
use lib.Bits.{bit_or}
use lib.Dec.{eqb}
use lib.ListN.{length, get_or}
use Rattle.format.specs.declared.version.Version.{Version}
use Rattle.layout.specs.Payloads.{record_size}
use Rattle.layout.specs.declared.columns.Family.{Family}
use Rattle.layout.specs.declared.columns.Family.TheVariants.{Pre, Post, FrameStart, Item, FrameEnd, FodPlatform, DreamlandWhispy, StadiumTransformation}
use Rattle.game.specs.Frames.{is_marked}
use Rattle.grammar.specs.WellFormed.{Order}
use Rattle.grammar.specs.Machine.{family_of, Said, State, slot_said, closed}
use Rattle.grammar.proofs.Tests.{both, or_true}
use Rattle.read_order.specs.Inner.{said_of, state_in, closed_at}
use Rattle.read_order.specs.declared.stage.Stage.{Stage}
use Rattle.read_order.specs.declared.stage.Word.{Word}
use Rattle.read_order.proofs.Steps.{closed_is}
use Rattle.read_scan.specs.Counts.{no_tally, begun_at, of_frame, counted_of, Under}
use Rattle.read_scan.specs.Inner.{no_stage, kind_of, Asked, Gone, said_at, span_at, takes_at, scan, tallied}
use Rattle.read_scan.specs.Alike.{id_at, Hops, Eight, begin_of, run_id, run_tally, on_id}
use Rattle.read_scan.specs.declared.event.Kind.TheVariants.{Frame}
use Rattle.read_scan.specs.declared.tally.Tally.{Tally}
use Rattle.read_scan.proofs.Leaps.{under_begun}
use Rattle.read_scan.proofs.Marks.{marked_more}
use Rattle.read_scan.proofs.Paths.{Step, Path, path_none, path_snoc, path_more, path_long, path_scan, frame_like}
use Rattle.read_scan.proofs.Turns.{Turning, turn_first, turn_goes, kind_frame}

-- ---- what an event marks

pub counted_keeps : (y : Tally) (rank id : ℕ) (family : Family) (w : Said) (k : ℕ) → is_marked y.slots k ≡ true → is_marked (counted_of y rank id family w).slots k ≡ true
unfolding counted_of
counted_keeps y rank id Pre w k h = go (of_frame rank id w)
  where
    go : (b : Bool) → is_marked (bit_or (cond b y (begun_at y id w.id)).slots (2 ^ slot_said w)) k ≡ true
    go true = marked_more y.slots (slot_said w) k ∙ ap (λ (b : Bool). b || eqb (slot_said w) k) h
    go false = marked_more y.slots (slot_said w) k ∙ ap (λ (b : Bool). b || eqb (slot_said w) k) h
counted_keeps y rank id Post w k h = h
counted_keeps y rank id FrameStart w k h = h
counted_keeps y rank id Item w k h = h
counted_keeps y rank id FrameEnd w k h = h
counted_keeps y rank id FodPlatform w k h = h
counted_keeps y rank id DreamlandWhispy w k h = h
counted_keeps y rank id StadiumTransformation w k h = h

pre_marks : (y : Tally) (rank id : ℕ) (w : Said) → is_marked (counted_of y rank id Pre w).slots (slot_said w) ≡ true
unfolding counted_of
pre_marks y rank id w =
    let x = (cond (of_frame rank id w) y (begun_at y id w.id)).slots in
    let k = slot_said w in
    marked_more x k k ∙ or_true (is_marked x k) (eqb k k) (eq-eqb k k refl)

pub counted_marks : (y : Tally) (rank id : ℕ) (family : Family) (w : Said) → family ≡ Pre → is_marked (counted_of y rank id family w).slots (slot_said w) ≡ true
counted_marks y rank id family w e = ap (λ (f : Family). is_marked (counted_of y rank id f w).slots (slot_said w)) e ∙ pre_marks y rank id w

-- ---- the invariant

-- the answers are those of what is left, and the events since `last` are a path
pub record Turned (v : Version) (o : Order) (file spans : List ℕ) (stop span first : ℕ) (m : Stage) (at : ℕ) (y : Tally) (last : ℕ) : Type 0 where
  pub turning : Turning v o file spans stop span first m at y
  pub behind : last ≤ at
  pub events : ℕ
  pub state₀ : State
  pub tally₀ : Tally
  pub path : Path v o file spans stop y.slots events last state₀ tally₀ at (state_in file span m) y

module _ (v : Version) (o : Order) (file spans : List ℕ) (stop span first : ℕ) where
  at_first : first ≤ stop → stop ≤ length file → span ≡ 1 + record_size Pre v → (y : Tally) → y ≡ no_tally → Turned v o file spans stop span first no_stage first y first
  at_first h k s y e = record {
    turning = turn_first v o file spans stop span first h k s y e;
    behind = omega arith;
    events = 0;
    state₀ = state_in file span no_stage;
    tally₀ = y;
    path = path_none v o file spans stop y.slots first (state_in file span no_stage) y;
  }

  pub turned_first : first ≤ stop → stop ≤ length file → span ≡ 1 + record_size Pre v → (m : Stage) → m ≡ no_stage → (y : Tally) → y ≡ no_tally
      → Turned v o file spans stop span first m first y first
  turned_first h k s m q y e = subst (λ (x : Stage). Turned v o file spans stop span first x first y first) (sym q) (at_first h k s y e)

  -- a path is so many turns
  turn_path : (m : Stage) (at : ℕ) (y : Tally) → Turning v o file spans stop span first m at y
      → (slots n at' : ℕ) (z : State) (u : Tally) → Path v o file spans stop slots n at (state_in file span m) y at' z u
      → (m' : Stage) → Asked v file span stop m' at' → state_in file span m' ≡ z → Under u at' → Turning v o file spans stop span first m' at' u
  turn_path m at y t slots n at' z u p m' a e h =
      let long = (path_long v o file spans stop slots n at (state_in file span m) y at' z u p).0 in
      let k = t.left - n in
      let all : t.left ≡ n + k = omega (arith, t.enough, a.under) in
      let (x, w) = path_scan v o file spans stop slots n at (state_in file span m) y at' z u p k in
      record {
        asked = a;
        left = k;
        enough = omega (arith, t.enough);
        same = t.same ∙ ap (λ (j : ℕ). scan v o file spans stop j at (state_in file span m)) all ∙ x ∙ ap (scan v o file spans stop k at') (sym e);
        counts =
            t.counts ∙ ap (λ (j : ℕ). tallied v o file spans stop j at (state_in file span m) y) all ∙ w ∙ ap (λ (s : State). tallied v o file spans stop k at' s u) (sym e);
        under = h;
      }

  module _ (m : Stage) (at : ℕ) (y : Tally) (last : ℕ) (t : Turned v o file spans stop span first m at y last) where
    -- ---- one event

    module _ (l : at < stop) (code : ℕ) (code_is : code ≡ get_or file at 0) (family : Family) (k : kind_of (family_of code) ≡ Frame family) (n : ℕ) (n-is : n ≡ get_or spans code 0)
        (stage : Stage) (next : ℕ) (w : Word) (g : Gone v o file span stop m at n family stage next w) (z : Tally) (z-is : z ≡ counted_of y m.rank m.id family (said_of w)) where
      abbrev now_at : State
      now_at = state_in file span m

      span_here_lem : n ≡ span_at spans file at
      span_here_lem = n-is ∙ ap (λ (c : ℕ). get_or spans c 0) code_is

      counted_here : z ≡ counted_of y m.rank m.id family (said_at file at)
      counted_here = z-is ∙ ap (counted_of y m.rank m.id family) g.said

      step_here : Step v o file spans stop z.slots at now_at family
      step_here = record {
        inside = l;
        is = ap family_of (sym code_is) ∙ kind_frame (family_of code) family k;
        taken = ap (λ (j : ℕ). takes_at v o file stop now_at at j family) (sym span_here_lem) ∙ g.taken;
        marked = λ f. ap (λ (x : Tally). is_marked x.slots (slot_said (said_at file at))) counted_here ∙ counted_marks y m.rank m.id family (said_at file at) f;
      }

      kept_here : (j : ℕ) → is_marked y.slots j ≡ true → is_marked z.slots j ≡ true
      kept_here j h = ap (λ (x : Tally). is_marked x.slots j) counted_here ∙ counted_keeps y m.rank m.id family (said_at file at) j h

      with_event : (j from : ℕ) (s : State) (x : Tally) → from ≤ at → Path v o file spans stop z.slots j from s x at now_at y → Turned v o file spans stop span first stage next z from
      with_event j from s x b p = record {
        turning = turn_goes v o file spans stop span first m at y t.turning l code code_is family k n n-is stage next w g z z-is;
        behind = omega (arith, g.later);
        events = suc j;
        state₀ = s;
        tally₀ = x;
        path =
            path_snoc v o file spans stop z.slots j from s x at now_at y p family step_here next (g.next_is ∙ ap (λ (i : ℕ). at + i) span_here_lem) (state_in file span stage)
            g.state_is z counted_here;
      }

      from_here : Turned v o file spans stop span first stage next z at
      from_here = with_event 0 at now_at y (omega arith) (path_none v o file spans stop z.slots at now_at y)

      from_last : Turned v o file spans stop span first stage next z last
      from_last =
          with_event t.events last t.state₀ t.tally₀ t.behind
          (path_more v o file spans stop y.slots z.slots kept_here t.events last t.state₀ t.tally₀ at now_at y t.path)

      go_on : (f : Family) → Turned v o file spans stop span first stage next z (begin_of f last at)
      go_on Pre = from_last
      go_on Post = from_last
      go_on FrameStart = from_here
      go_on Item = from_here
      go_on FrameEnd = from_last
      go_on FodPlatform = from_here
      go_on DreamlandWhispy = from_here
      go_on StadiumTransformation = from_here

      pub turned_goes : (from : ℕ) → from ≡ begin_of family last at → Turned v o file spans stop span first stage next z from
      turned_goes from e = subst (λ (i : ℕ). Turned v o file spans stop span first stage next z i) (sym e) (go_on family)

    -- ---- eight frames

    module _ (c : closed_at v m ≡ true) (e : Eight file spans last at stop) where
      abbrev step : ℕ
      step = at - last

      abbrev id_of : ℕ → ℕ
      id_of i = run_id file at step m.id i

      abbrev tally_of : ℕ → Tally
      tally_of i = run_tally file at step m.id y i

      abbrev stage_of : ℕ → Stage
      stage_of i = on_id m (id_of i)

      same_slots : (i : ℕ) → (tally_of i).slots ≡ y.slots
      unfolding run_tally
      same_slots zero = refl
      same_slots (suc i) = same_slots i

      closed_on : (id : ℕ) → closed v (state_in file span (on_id m id)) ≡ true
      unfolding closed_at
      closed_on id = closed_is v o file span (on_id m id) (record { id = 0; port = 0; follower = 0 }) ∙ c

      nobody_due : m.due ≡ 0
      unfolding closed_at
      nobody_due = eqb-true m.due 0 (both (eqb m.due 0) _ c).0

      asked_on : (id there : ℕ) → at ≤ there → there ≤ stop → Asked v file span stop (on_id m id) there
      asked_on id there a b =
          let h = t.turning.asked in
          record { held = record { inside = omega (arith, h.held.inside); joined = λ x f. absurd (f nobody_due) }; under = b; long = h.long; span_is = h.span_is }

      -- the places
      back : (i : ℕ) → last + suc i * step ≡ at + i * step
      back i = let s = suc-mul i step in omega (arith, e.later)

      on : (i : ℕ) → at + suc i * step ≡ at + i * step + step
      on i = let s = suc-mul i step in omega arith

      in_stop : (i : ℕ) → i ≤ 8 → at + i * step ≤ stop
      in_stop i h = let l : i * step ≤ 8 * step = mul-le-mul_right step h in omega (arith, e.fits)

      module _ (n : ℕ) (s₀ : State) (y₀ : Tally) (p : Path v o file spans stop y.slots (suc n) last s₀ y₀ at (state_in file span m) y) where
        hops : Hops file spans n (last + span_at spans file last) at
        unfolding Hops
        hops = (path_long v o file spans stop y.slots (suc n) last s₀ y₀ at (state_in file span m) y p).1.1

        one : (i : ℕ) → i < 8
            → Path v o file spans stop y.slots (suc n) (at + i * step) (state_in file span (stage_of i)) (tally_of i) (at + suc i * step) (state_in file span (stage_of (suc i))) (tally_of (suc i))
        unfolding run_tally
        one i l =
            subst (λ (j : ℕ). Path v o file spans stop y.slots (suc n) j (state_in file span (stage_of i)) (tally_of i) (at + suc i * step) (state_in file span (on_id m (id_at file j))) (begun_at (tally_of i) (id_of i) (id_at file j)))
            (back i)
            (frame_like v o file spans stop y.slots last (suc i * step) n s₀ y₀ at (state_in file span m) y p e.start (e.starts.each i l) (e.rest.each n hops i l)
            (in_stop (suc i) (omega arith)) (state_in file span (stage_of i)) (closed_on (id_of i)) (tally_of i) (same_slots i))

        all : (i : ℕ) → i ≤ 8 → Turning v o file spans stop span first (stage_of i) (at + i * step) (tally_of i)
        unfolding run_tally
        all zero h = subst (λ (j : ℕ). Turning v o file spans stop span first m j y) (let z = zero-mul step in let q : at ≡ at + 0 * step = omega arith in q) t.turning
        all (suc i) h =
            let before = all i (omega arith) in
            turn_path (stage_of i) (at + i * step) (tally_of i) before y.slots (suc n) (at + suc i * step) (state_in file span (stage_of (suc i))) (tally_of (suc i)) (one i (omega arith))
            (stage_of (suc i)) (asked_on (id_of (suc i)) (at + suc i * step) (omega arith) (in_stop (suc i) h)) refl
            (under_begun (tally_of i) (id_of i) (id_of (suc i)) (at + i * step) (at + suc i * step) before.under (omega (arith, on i, e.later)))

        eight : Turned v o file spans stop span first (stage_of 8) (at + 8 * step) (tally_of 8) (last + 8 * step)
        eight = record {
          turning = all 8 (omega arith);
          behind = omega (arith, e.later);
          events = suc n;
          state₀ = state_in file span (stage_of 7);
          tally₀ = tally_of 7;
          path =
              subst (λ (j : ℕ). Path v o file spans stop (tally_of 8).slots (suc n) j (state_in file span (stage_of 7)) (tally_of 7) (at + 8 * step) (state_in file span (stage_of 8)) (tally_of 8))
              (sym (back 7))
              (subst (λ (j : ℕ). Path v o file spans stop j (suc n) (at + 7 * step) (state_in file span (stage_of 7)) (tally_of 7) (at + 8 * step) (state_in file span (stage_of 8)) (tally_of 8))
              (sym (same_slots 8)) (one 7 (omega arith)));
        }

      by_events : (n : ℕ) (s₀ : State) (y₀ : Tally) → Path v o file spans stop y.slots n last s₀ y₀ at (state_in file span m) y
          → Turned v o file spans stop span first (stage_of 8) (at + 8 * step) (tally_of 8) (last + 8 * step)
      unfolding Path
      by_events zero s₀ y₀ p = absurd (omega (arith, p.0, e.later))
      by_events (suc n) s₀ y₀ p = eight n s₀ y₀ p

      pub turned_leaps : (stage : Stage) → stage ≡ stage_of 8 → (u : Tally) → u ≡ tally_of 8 → (by : ℕ) → by ≡ 8 * step → Turned v o file spans stop span first stage (at + by) u (last + by)
      turned_leaps stage a u b by q =
          subst (λ (j : ℕ). Turned v o file spans stop span first stage (at + j) u (last + j)) (sym q)
          (subst (λ (x : Stage). Turned v o file spans stop span first x (at + 8 * step) u (last + 8 * step)) (sym a)
          (subst (λ (x : Tally). Turned v o file spans stop span first (stage_of 8) (at + 8 * step) x (last + 8 * step)) (sym b) (by_events t.events t.state₀ t.tally₀ t.path)))
