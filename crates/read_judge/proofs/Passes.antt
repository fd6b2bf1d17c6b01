-- The parts' passes go over every event: where they all succeed, no walk is refused.
-- Assumes nothing.
use Prim.Native.Nat.{ℕ, zero, suc, ◌+◌, ◌*◌, ◌-◌, ◌≤◌, ◌<◌}
use mathlib.Core.Path.{◌≡◌, refl, sym, ap, subst, ◌∙◌}
use mathlib.Core.Bool.{Bool, true, false, cond, ◌&&◌}
use mathlib.Core.List.{List}
use mathlib.Core.Option.{Option, none, some, some-injective, none-ne-some}
use native.Mathlib.Omega.{arith}
use borrow.Author.Tests.{leb-true, eqb-true}
use lib.Dec.{leb, ltb, eqb}
use lib.ListN.{length, get_or}
use Rattle.format.specs.Version.{version, gte_of}
use Rattle.format.specs.declared.version.Version.{Version}
use Rattle.layout.specs.Columns.{has_family}
use Rattle.layout.specs.Payloads.{record_size, end_size}
use Rattle.layout.specs.declared.columns.Family.{Family}
use Rattle.head.specs.Table.{stop_of, all_present, table_of, first_place, span_of}
use Rattle.head.specs.Step.{step_of}
use Rattle.head.specs.declared.Step.{Step}
use Rattle.head.specs.declared.Step.TheVariants.{Ends}
use Rattle.head.proofs.Steps.{at_end}
use Rattle.de.specs.Walk.{turn, run, run_of, answer_at, walk_of}
use Rattle.de.specs.Numbers.{walk_numbers}
use Rattle.de.proofs.Runs.{run_stop}
use Rattle.grammar.specs.WellFormed.{Order}
use Rattle.grammar.specs.Machine.{family_of, State, closed, orderly, after, on_family}
use Rattle.grammar.proofs.Tests.{both, taken}
use Rattle.read_scan.specs.Inner.{said_at, span_at, takes_at, takes, stops, scan}
use Rattle.read_outline.specs.Inner.{used_at, flag_at, block_at, full_at, last_at, last_block, blocks_from, codes_at, initiator_at, same_run, end_here, right_at, second_at, ends_at}
use Rattle.read_outline.specs.declared.answer.Codes.TheVariants as codes
use Rattle.read_outline.specs.declared.answer.Ends.TheVariants as ended
use Rattle.read_judge.specs.Inner.{opens_at, first_at, WalkDone, Headed}
use Rattle.read_judge.specs.declared.first.First.TheVariants.{Opens, Other}
use Rattle.read_judge.proofs.Walked.{event_stands}

no_wrong : {a b c : ℕ} → codes.Wrong ≡ codes.Ended a b c → ⊥
no_wrong e = let z : ◌≡◌ {A = ℕ} 0 1 = cc in omega arith

no_bad : {n : ℕ} → ended.Wrong ≡ ended.Good n → ⊥
no_bad e = let z : ◌≡◌ {A = ℕ} 0 1 = cc in omega arith

-- ---- what holds before an event if it holds after it, holds before a pass if it holds after it

module _ (f spans : List ℕ) (stop : ℕ) (P : ℕ → Type 0) (back : (p : ℕ) → 0 < span_at spans f p → p + span_at spans f p ≤ stop → P (p + span_at spans f p) → P p) where
  -- an event of a code and a size
  sized : (p code n : ℕ) → get_or f p 0 ≡ code → get_or spans code 0 ≡ n → 0 < n → p + n ≤ stop → P (p + n) → P p
  sized p code n c s k l h =
      let e : span_at spans f p ≡ n = ap (λ (x : ℕ). get_or spans x 0) c ∙ s in
      back p (omega (arith, e)) (omega (arith, e)) (subst (λ (x : ℕ). P (p + x)) (sym e) h)

  -- the first event
  pub first_back : (v : Version) (first len : ℕ) → first_at f spans first stop ≡ Opens v len → P (first + 1 + len) → P first
  unfolding first_at opens_at
  first_back v first len e h = go (opens_at f spans first stop) refl e
    where
      go : (b : Bool) → opens_at f spans first stop ≡ b
          → cond b (Opens (version (get_or f (first + 1) 0) (get_or f (first + 2) 0) (get_or f (first + 3) 0)) (get_or spans 0x36 0 - 1)) Other ≡ Opens v len → P first
      go true q e =
          let span = get_or spans 0x36 0 in
          let (a, r) = both (ltb first stop) (eqb (get_or f first 0) 0x36 && (leb 5 span && leb (first + span) stop)) q in
          let (b, r) = both (eqb (get_or f first 0) 0x36) (leb 5 span && leb (first + span) stop) r in
          let (c, d) = both (leb 5 span) (leb (first + span) stop) r in
          let five = leb-true 5 span c in
          let l : span - 1 ≡ len = cc in
          let z : first + 1 + len ≡ first + span = omega arith in
          sized first 0x36 span (eqb-true (get_or f first 0) 0x36 b) refl (omega arith) (leb-true (first + span) stop d) (subst P z h)
      go false q e = absurd (let z : ◌≡◌ {A = ℕ} 0 1 = cc in omega arith)

  block_back : (at : ℕ) → block_at f spans stop at ≡ true → P (at + 517) → P at
  unfolding block_at
  block_back at q h =
      let (a, r) = both (leb (at + 517) stop) (eqb (get_or f at 0) 0x10 && (eqb (get_or spans 0x10 0) 517 && eqb (get_or f (at + 515) 0) 0x3D)) q in
      let (b, r) = both (eqb (get_or f at 0) 0x10) (eqb (get_or spans 0x10 0) 517 && eqb (get_or f (at + 515) 0) 0x3D) r in
      let (c, d) = both (eqb (get_or spans 0x10 0) 517) (eqb (get_or f (at + 515) 0) 0x3D) r in
      sized at 0x10 517 (eqb-true (get_or f at 0) 0x10 b) (eqb-true (get_or spans 0x10 0) 517 c) (omega arith) (leb-true (at + 517) stop a) h

  blocks_back : (v : Version) (k at n place blocks actual : ℕ) → blocks_from v f spans stop k at n ≡ codes.Ended place blocks actual → P place → P at
  unfolding blocks_from full_at last_block last_at
  blocks_back v zero at n place blocks actual e h = absurd (no_wrong e)
  blocks_back v (suc k) at n place blocks actual e h =
      go (block_at f spans stop at) refl (eqb (flag_at f at) 0 && eqb (used_at f at) 512) (eqb (flag_at f at) 1 && (gte_of v 3 3 && (ltb 0 (used_at f at) && leb (used_at f at) 512))) e (λ q. blocks_back v k (at + 517) (n + 1) place blocks actual q h)
    where
      last : (b : Bool) → block_at f spans stop at ≡ true → cond b (codes.Ended (at + 517) (n + 1) (512 * n + used_at f at)) codes.Wrong ≡ codes.Ended place blocks actual → P at
      last true t e = let z : at + 517 ≡ place = cc in block_back at t (subst P (sym z) h)
      last false t e = absurd (no_wrong e)

      go : (b : Bool) → block_at f spans stop at ≡ b → (x y : Bool)
          → cond (b && x) (blocks_from v f spans stop k (at + 517) (n + 1)) (cond (b && y) (codes.Ended (at + 517) (n + 1) (512 * n + used_at f at)) codes.Wrong) ≡ codes.Ended place blocks actual
          → (blocks_from v f spans stop k (at + 517) (n + 1) ≡ codes.Ended place blocks actual → P (at + 517)) → P at
      go false t x y e more = absurd (no_wrong e)
      go true t true y e more = block_back at t (more e)
      go true t false y e more = last y t e

  pub codes_back : (v : Version) (at place blocks actual : ℕ) → codes_at v f spans at stop ≡ codes.Ended place blocks actual → P place → P at
  unfolding codes_at
  codes_back v at place blocks actual e h = go (ltb at stop && eqb (get_or f at 0) 0x10) e
    where
      go : (b : Bool) → cond b (blocks_from v f spans stop (suc stop) at 0) (codes.Ended at 0 0) ≡ codes.Ended place blocks actual → P at
      go true e = blocks_back v (suc stop) at 0 place blocks actual e h
      go false e = let z : at ≡ place = cc in subst P (sym z) h

  -- an event of a frame that is taken is whole before stop
  event_taken : (v : Version) (o : Order) (s : State) (at : ℕ) (family : Family) → takes v o f spans stop s at family ≡ true → P (at + span_at spans f at) → P at
  unfolding takes_at
  event_taken v o s at family q h =
      let n = span_at spans f at in
      let (a, b) = both (has_family v family && eqb n (1 + record_size family v)) (leb (at + n) stop && orderly v o s family (said_at f at)) q in
      let e = eqb-true n (1 + record_size family v) (both (has_family v family) (eqb n (1 + record_size family v)) a).1 in
      back at (omega arith) (leb-true (at + n) stop (both (leb (at + n) stop) (orderly v o s family (said_at f at)) b).0) h

  pub scan_back : (v : Version) (o : Order) (n at : ℕ) (s : State) (last : ℕ) → scan v o f spans stop n at s ≡ some last → P last → P at
  unfolding scan stops on_family
  scan_back v o zero at s last q h = absurd (none-ne-some last q)
  scan_back v o (suc n) at s last q h = past (leb stop at) q (λ m s q. scan_back v o n m s last q h)
    where
      here : cond (closed v s) (some at) none ≡ some last → P at
      here q = subst P (sym (some-injective at last (taken (closed v s) (some at) last q).1)) h

      go : (x : Option Family)
          → on_family x (λ family. cond (takes v o f spans stop s at family) (scan v o f spans stop n (at + span_at spans f at) (after s family (said_at f at))) none) (cond (closed v s) (some at) none)
          ≡ some last
          → ((m : ℕ) (s : State) → scan v o f spans stop n m s ≡ some last → P m) → P at
      go none q more = here q
      go (some family) q more =
          let (a, e) = taken (takes v o f spans stop s at family) _ last q in
          event_taken v o s at family a (more (at + span_at spans f at) (after s family (said_at f at)) e)

      past : (b : Bool)
          → cond b (cond (closed v s) (some at) none) (on_family (family_of (get_or f at 0)) (λ family. cond (takes v o f spans stop s at family) (scan v o f spans stop n (at + span_at spans f at) (after s family (said_at f at))) none) (cond (closed v s) (some at) none))
          ≡ some last
          → ((m : ℕ) (s : State) → scan v o f spans stop n m s ≡ some last → P m) → P at
      past true q more = here q
      past false q more = go (family_of (get_or f at 0)) q more

  end_back : (v : Version) (at : ℕ) → right_at v f spans stop at ≡ true → P (at + (1 + end_size v)) → P at
  unfolding right_at end_here
  end_back v at q h =
      let n = end_size v in
      let (e, d) = both (leb (at + (1 + n)) stop && (eqb (get_or f at 0) 0x39 && eqb (get_or spans 0x39 0) (1 + n))) (initiator_at v f at) q in
      let (a, r) = both (leb (at + (1 + n)) stop) (eqb (get_or f at 0) 0x39 && eqb (get_or spans 0x39 0) (1 + n)) e in
      let (b, c) = both (eqb (get_or f at 0) 0x39) (eqb (get_or spans 0x39 0) (1 + n)) r in
      sized at 0x39 (1 + n) (eqb-true (get_or f at 0) 0x39 b) (eqb-true (get_or spans 0x39 0) (1 + n) c) (omega arith) (leb-true (at + (1 + n)) stop a) h

  second_back : (v : Version) (first at : ℕ) → second_at v f spans stop first at ≡ true → P stop → P at
  unfolding second_at
  second_back v first at q h =
      let n = end_size v in
      let (a, r) = both (right_at v f spans stop at) (eqb (at + (1 + n)) stop && same_run f (first + 1) (at + 1) n) q in
      let (b, r) = both (eqb (at + (1 + n)) stop) (same_run f (first + 1) (at + 1) n) r in
      end_back v at a (subst P (sym (eqb-true (at + (1 + n)) stop b)) h)

  pub ends_back : (v : Version) (at count : ℕ) → ends_at v f spans at stop ≡ ended.Good count → P stop → P at
  unfolding ends_at
  ends_back v at count e h = none_left (eqb at stop) refl e
    where
      two : (b : Bool) → second_at v f spans stop at (at + (1 + end_size v)) ≡ b → right_at v f spans stop at ≡ true → cond b (ended.Good 2) ended.Wrong ≡ ended.Good count → P at
      two true q r e = end_back v at r (second_back v at (at + (1 + end_size v)) q h)
      two false q r e = absurd (no_bad e)

      one : (b : Bool) → eqb (at + (1 + end_size v)) stop ≡ b → right_at v f spans stop at ≡ true
          → cond b (ended.Good 1) (cond (second_at v f spans stop at (at + (1 + end_size v))) (ended.Good 2) ended.Wrong) ≡ ended.Good count
          → P at
      one true q r e = end_back v at r (subst P (sym (eqb-true (at + (1 + end_size v)) stop q)) h)
      one false q r e = two (second_at v f spans stop at (at + (1 + end_size v))) refl r e

      right : (b : Bool) → right_at v f spans stop at ≡ b
          → cond b (cond (eqb (at + (1 + end_size v)) stop) (ended.Good 1) (cond (second_at v f spans stop at (at + (1 + end_size v))) (ended.Good 2) ended.Wrong)) ended.Wrong ≡ ended.Good count
          → P at
      right true q e = one (eqb (at + (1 + end_size v)) stop) refl q e
      right false q e = absurd (no_bad e)

      none_left : (b : Bool) → eqb at stop ≡ b
          → cond b (ended.Good 0) (cond (right_at v f spans stop at) (cond (eqb (at + (1 + end_size v)) stop) (ended.Good 1) (cond (second_at v f spans stop at (at + (1 + end_size v))) (ended.Good 2) ended.Wrong)) ended.Wrong)
          ≡ ended.Good count
          → P at
      none_left true q e = subst P (sym (eqb-true at stop q)) h
      none_left false q e = right (right_at v f spans stop at) refl e

-- ---- so a pass ends before stop

module _ (f spans : List ℕ) (stop end : ℕ) where
  abbrev Under : ℕ → Type 0
  Under p = p ≤ stop → end ≤ stop

  under_back : (p : ℕ) → 0 < span_at spans f p → p + span_at spans f p ≤ stop → Under (p + span_at spans f p) → Under p
  under_back p s l h q = h l

  pub first_within : (v : Version) (first len : ℕ) → first_at f spans first stop ≡ Opens v len → first + 1 + len ≡ end → first ≤ stop → end ≤ stop
  first_within v first len e q = first_back f spans stop Under under_back v first len e (λ l. omega arith)

  pub codes_within : (v : Version) (at blocks actual : ℕ) → codes_at v f spans at stop ≡ codes.Ended end blocks actual → at ≤ stop → end ≤ stop
  codes_within v at blocks actual e = codes_back f spans stop Under under_back v at end blocks actual e (λ q. q)

  pub scan_within : (v : Version) (o : Order) (n at : ℕ) (s : State) → scan v o f spans stop n at s ≡ some end → at ≤ stop → end ≤ stop
  scan_within v o n at s e = scan_back f spans stop Under under_back v o n at s end e (λ q. q)

-- ---- and a run comes to the data's end

module _ (f spans : List ℕ) (first stop : ℕ) (h : Headed f spans first stop true) where
  -- from a place on
  abbrev pub Comes : ℕ → Type 0
  Comes p = first ≤ p → (n : ℕ) → stop ≤ p + n → (run n f p).last ≡ Ends

  span_is : (p : ℕ) → span_at spans f p ≡ span_of (get_or f p 0) (table_of f)
  span_is p = h.index (get_or f p 0) (h.bytes p)

  pub comes_back : (p : ℕ) → 0 < span_at spans f p → p + span_at spans f p ≤ stop → Comes (p + span_at spans f p) → Comes p
  unfolding run
  comes_back p s l next a zero le = absurd (omega arith)
  comes_back p s l next a (suc n) le =
      let e = span_is p in
      let stands = event_stands f spans h.accepted h.bytes h.index p (omega (arith, h.first_is)) (λ z. omega (arith, e)) (omega (arith, e, h.stop_is)) in
      ap (λ (x : Step). (turn x (run n f) p).last) stands
      ∙ subst (λ (m : ℕ). (run n f (p + m)).last ≡ Ends) e (next (omega arith) n (omega arith))

  step_ends : step_of f stop ≡ Ends
  unfolding step_of
  step_ends =
      rw h.accepted
      (at_end (stop_of f) (all_present f) stop (get_or f stop 0) (span_of (get_or f stop 0) (table_of f)) (first_place (table_of f)) (omega (arith, h.starts, h.first_is)) h.stop_is
      ∙ rw (← h.whole_is))

  pub comes_last : Comes stop
  comes_last a n le = ap (λ r. r.last) (run_stop n f stop Ends (λ z. omega arith) step_ends)

  run_done : (run_of f).last ≡ Ends → WalkDone f
  unfolding walk_of
  run_done e = ap (λ (s : Step). (walk_numbers (answer_at (stop_of f) (length (run_of f).seen) (run_of f).place s)).kind) e

  -- where every pass before the ends succeeds, and a run from there comes to the data's end
  pub walk_from : (v : Version) (len : ℕ) → first_at f spans first stop ≡ Opens v len → (place blocks actual : ℕ) → codes_at v f spans (first + 1 + len) stop ≡ codes.Ended place blocks actual
      → (o : Order) (n : ℕ) (s : State) (last : ℕ) → scan v o f spans stop n place s ≡ some last → Comes last → WalkDone f
  walk_from v len opens place blocks actual coded o n s last ran at_last =
      let at_place = scan_back f spans stop Comes comes_back v o n place s last ran at_last in
      let at-codes = codes_back f spans stop Comes comes_back v (first + 1 + len) place blocks actual coded at_place in
      let at_first = first_back f spans stop Comes comes_back v first len opens at-codes in
      run_done (subst (λ (p : ℕ). (run (length f) f p).last ≡ Ends) h.first_is (at_first (omega arith) (length f) (omega (arith, h.within))))

  -- and where the ends succeed too
  pub walk_done : (v : Version) (len : ℕ) → first_at f spans first stop ≡ Opens v len → (place blocks actual : ℕ) → codes_at v f spans (first + 1 + len) stop ≡ codes.Ended place blocks actual
      → (o : Order) (n : ℕ) (s : State) (last : ℕ) → scan v o f spans stop n place s ≡ some last → (count : ℕ) → ends_at v f spans last stop ≡ ended.Good count → WalkDone f
  walk_done v len opens place blocks actual coded o n s last ran count good =
      walk_from v len opens place blocks actual coded o n s last ran (ends_back f spans stop Comes comes_back v last count good comes_last)
