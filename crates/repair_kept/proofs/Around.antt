-- The same of what stands round the frames: blocks of codes, and ends.
-- Assumes nothing.
use Prim.Native.Nat.{ℕ, zero, suc, ◌+◌, ◌*◌, ◌≤◌, ◌<◌}
use mathlib.Core.Path.{◌≡◌, refl, sym, ap, subst, ◌∙◌}
use mathlib.Core.Bool.{Bool, true, false, cond, not, ◌&&◌}
use mathlib.Core.List.{List}
use native.Mathlib.Omega.{arith}
use borrow.Author.Tests.{le-leb, leb-true, eqb-true, eqb-false, ltb-true, lt-ltb, le-ltb, eq-eqb, ne_eqb}
use lib.Dec.{leb, eqb, ltb}
use lib.ListN.{length, get_or, drop}
use Rattle.wire.specs.Wire.{number}
use Rattle.format.specs.Version.{gte_of, has_initiator}
use Rattle.format.specs.declared.version.Version.{Version}
use Rattle.layout.specs.Payloads.{end_size}
use Rattle.ending.specs.End.{initiator_wrong}
use Rattle.grammar.proofs.Tests.{both}
use Rattle.read_outline.specs.Inner.{used_at, flag_at, block_at, full_at, last_at, last_block, blocks_from, codes_at, initiator_at, same_run, end_here, right_at, second_at, ends_at}
use Rattle.read_outline.specs.declared.answer.Codes.{Codes}
use Rattle.read_outline.specs.declared.answer.Codes.TheVariants as codes
use Rattle.read_outline.specs.declared.answer.Ends.{Ends}
use Rattle.read_outline.specs.declared.answer.Ends.TheVariants as ended
use Rattle.repair_kept.proofs.Same.{byte_same, part_same}

no_wrong : {A : Type 0} {a b c : ℕ} → codes.Wrong ≡ codes.Ended a b c → A
no_wrong e = absurd (let z : ◌≡◌ {A = ℕ} 0 1 = cc in omega arith)

no_bad : {A : Type 0} {n : ℕ} → ended.Wrong ≡ ended.Good n → A
no_bad e = absurd (let z : ◌≡◌ {A = ℕ} 0 1 = cc in omega arith)

-- ---- blocks of codes

module _ (v : Version) (f g spans : List ℕ) (same : drop 15 f ≡ drop 15 g) (stop p : ℕ) where
  module _ (at : ℕ) (h : 15 ≤ at) (l : at + 517 ≤ p) where
    used_same : used_at f at ≡ used_at g at
    used_same = ap number (part_same f g same (at + 513) 2 (omega arith))

    flag_same : flag_at f at ≡ flag_at g at
    flag_same = byte_same f g same (at + 516) (omega arith)

    block_move : block_at f spans stop at ≡ true → block_at g spans p at ≡ true
    unfolding block_at
    block_move q =
        let a = byte_same f g same at h in
        let b = byte_same f g same (at + 515) (omega arith) in
        let e : (eqb (get_or f at 0) 0x10 && (eqb (get_or spans 0x10 0) 517 && eqb (get_or f (at + 515) 0) 0x3D)) ≡ (eqb (get_or g at 0) 0x10 && (eqb (get_or spans 0x10 0) 517 && eqb (get_or g (at + 515) 0) 0x3D)) =
        λ i. eqb (a i) 0x10 && (eqb (get_or spans 0x10 0) 517 && eqb (b i) 0x3D) in
        rw (le-leb (at + 517) p l) (sym e ∙ (both (leb (at + 517) stop) (eqb (get_or f at 0) 0x10 && (eqb (get_or spans 0x10 0) 517 && eqb (get_or f (at + 515) 0) 0x3D)) q).1)

    full_move : full_at f spans stop at ≡ true → full_at g spans p at ≡ true
    unfolding full_at
    full_move q =
        let (a, b) = both (block_at f spans stop at) (eqb (flag_at f at) 0 && eqb (used_at f at) 512) q in
        rw (block_move a) (sym (λ i. eqb (flag_same i) 0 && eqb (used_same i) 512) ∙ b)

    last_move : last_at v f spans stop at ≡ true → last_at v g spans p at ≡ true
    unfolding last_at
    last_move q =
        let (a, b) = both (block_at f spans stop at) (eqb (flag_at f at) 1 && (gte_of v 3 3 && (ltb 0 (used_at f at) && leb (used_at f at) 512))) q in
        rw (block_move a) (sym (λ i. eqb (flag_same i) 1 && (gte_of v 3 3 && (ltb 0 (used_same i) && leb (used_same i) 512))) ∙ b)

    last_not_full : last_at v f spans stop at ≡ true → full_at g spans p at ≡ false
    unfolding last_at full_at
    last_not_full q =
        let (a, b) = both (block_at f spans stop at) (eqb (flag_at f at) 1 && (gte_of v 3 3 && (ltb 0 (used_at f at) && leb (used_at f at) 512))) q in
        let one = sym flag_same ∙ eqb-true (flag_at f at) 1 (both (eqb (flag_at f at) 1) (gte_of v 3 3 && (ltb 0 (used_at f at) && leb (used_at f at) 512)) b).0 in
        rw (block_move a, ne_eqb (flag_at g at) 0 (λ z. omega (arith, z, one)))

  blocks_far : (k at n place blocks actual : ℕ) → blocks_from v f spans stop k at n ≡ codes.Ended place blocks actual → at + 517 ≤ place
  unfolding blocks_from last_block
  blocks_far zero at n place blocks actual e = no_wrong e
  blocks_far (suc k) at n place blocks actual e = go (full_at f spans stop at) (last_at v f spans stop at) e (λ q. blocks_far k (at + 517) (n + 1) place blocks actual q)
    where
      go : (b c : Bool) → cond b (blocks_from v f spans stop k (at + 517) (n + 1)) (cond c (codes.Ended (at + 517) (n + 1) (512 * n + used_at f at)) codes.Wrong) ≡ codes.Ended place blocks actual
          → (blocks_from v f spans stop k (at + 517) (n + 1) ≡ codes.Ended place blocks actual → at + 517 + 517 ≤ place) → at + 517 ≤ place
      go true c e more = let z = more e in omega arith
      go false true e more = let z : at + 517 ≡ place = cc in omega arith
      go false false e more = no_wrong e

  blocks_move : (k j at n place blocks actual : ℕ) → 15 ≤ at → blocks_from v f spans stop k at n ≡ codes.Ended place blocks actual → place ≤ p → p < at + j
      → blocks_from v g spans p j at n ≡ codes.Ended place blocks actual
  unfolding blocks_from last_block
  blocks_move zero j at n place blocks actual h e l w = no_wrong e
  blocks_move (suc k) zero at n place blocks actual h e l w = let z = blocks_far (suc k) at n place blocks actual e in absurd (omega arith)
  blocks_move (suc k) (suc j) at n place blocks actual h e l w =
      let z = blocks_far (suc k) at n place blocks actual e in
      full (full_at f spans stop at) refl e (omega arith) (λ q. blocks_move k j (at + 517) (n + 1) place blocks actual (omega arith) q l (omega arith))
    where
      last : (c : Bool) → last_at v f spans stop at ≡ c → at + 517 ≤ p → cond c (codes.Ended (at + 517) (n + 1) (512 * n + used_at f at)) codes.Wrong ≡ codes.Ended place blocks actual
          → cond (full_at g spans p at) (blocks_from v g spans p j (at + 517) (n + 1)) (cond (last_at v g spans p at) (codes.Ended (at + 517) (n + 1) (512 * n + used_at g at)) codes.Wrong) ≡ codes.Ended place blocks actual
      last true t m e =
          rw (last_not_full at h m t, last_move at h m t) (ap (λ (x : ℕ). codes.Ended (at + 517) (n + 1) (512 * n + x)) (sym (used_same at h m)) ∙ e)
      last false t m e = no_wrong e

      full : (b : Bool) → full_at f spans stop at ≡ b
          → cond b (blocks_from v f spans stop k (at + 517) (n + 1)) (cond (last_at v f spans stop at) (codes.Ended (at + 517) (n + 1) (512 * n + used_at f at)) codes.Wrong) ≡ codes.Ended place blocks actual
          → at + 517 ≤ p
          → (blocks_from v f spans stop k (at + 517) (n + 1) ≡ codes.Ended place blocks actual → blocks_from v g spans p j (at + 517) (n + 1) ≡ codes.Ended place blocks actual)
          → cond (full_at g spans p at) (blocks_from v g spans p j (at + 517) (n + 1)) (cond (last_at v g spans p at) (codes.Ended (at + 517) (n + 1) (512 * n + used_at g at)) codes.Wrong) ≡ codes.Ended place blocks actual
      full true t e m more = rw (full_move at h m t) (more e)
      full false t e m more = last (last_at v f spans stop at) refl m e

  pub codes_move : (at place blocks actual : ℕ) → 15 ≤ at → codes_at v f spans at stop ≡ codes.Ended place blocks actual → place ≤ p → (at < p → at < stop)
      → codes_at v g spans at p ≡ codes.Ended place blocks actual
  unfolding codes_at
  codes_move at place blocks actual h e l inside = go (ltb at stop && eqb (get_or f at 0) 0x10) refl e
    where
      none_there : (b c : Bool) → ltb at p ≡ b → eqb (get_or g at 0) 0x10 ≡ c → (ltb at stop && eqb (get_or f at 0) 0x10) ≡ false → (b && c) ≡ false
      none_there false c x y q = refl
      none_there true false x y q = refl
      none_there true true x y q =
          let t : (ltb at stop && eqb (get_or f at 0) 0x10) ≡ true = rw (lt-ltb at stop (inside (ltb-true at p x))) (ap (λ (b : ℕ). eqb b 0x10) (byte_same f g same at h) ∙ y) in
          absurd (let z : ◌≡◌ {A = ℕ} 0 1 = ap (λ (b : Bool). cond b 1 0) (sym q ∙ t) in omega arith)

      go : (b : Bool) → (ltb at stop && eqb (get_or f at 0) 0x10) ≡ b → cond b (blocks_from v f spans stop (suc stop) at 0) (codes.Ended at 0 0) ≡ codes.Ended place blocks actual
          → cond (ltb at p && eqb (get_or g at 0) 0x10) (blocks_from v g spans p (suc p) at 0) (codes.Ended at 0 0) ≡ codes.Ended place blocks actual
      go true q e =
          let z = blocks_far (suc stop) at 0 place blocks actual e in
          let c : eqb (get_or g at 0) 0x10 ≡ true = ap (λ (x : ℕ). eqb x 0x10) (sym (byte_same f g same at h)) ∙ (both (ltb at stop) (eqb (get_or f at 0) 0x10) q).1 in
          rw (lt-ltb at p (omega arith), c) (blocks_move (suc stop) (suc p) at 0 place blocks actual h e l (omega arith))
      go false q e = rw (none_there (ltb at p) (eqb (get_or g at 0) 0x10) refl refl q) e

  pub codes_above : (at place blocks actual : ℕ) → codes_at v f spans at stop ≡ codes.Ended place blocks actual → at ≤ place
  unfolding codes_at
  codes_above at place blocks actual e = go (ltb at stop && eqb (get_or f at 0) 0x10) e
    where
      go : (b : Bool) → cond b (blocks_from v f spans stop (suc stop) at 0) (codes.Ended at 0 0) ≡ codes.Ended place blocks actual → at ≤ place
      go true e = let z = blocks_far (suc stop) at 0 place blocks actual e in omega arith
      go false e = let z : at ≡ place = cc in omega arith

-- no codes fill nothing
pub codes_nothing : (v : Version) (f spans : List ℕ) (at : ℕ) → codes_at v f spans at at ≡ codes.Ended at 0 0
unfolding codes_at
codes_nothing v f spans at = rw (le-ltb at at (omega arith))

-- ---- ends

module _ (v : Version) (f g spans : List ℕ) (same : drop 15 f ≡ drop 15 g) (p : ℕ) where
  right_same : (at : ℕ) → 15 ≤ at → right_at v f spans p at ≡ right_at v g spans p at
  unfolding right_at end_here initiator_at
  right_same at h =
      let a = byte_same f g same at h in
      let b = byte_same f g same (at + 2) (omega arith) in
      λ i. (leb (at + (1 + end_size v)) p && (eqb (a i) 0x39 && eqb (get_or spans 0x39 0) (1 + end_size v))) && not (has_initiator v && initiator_wrong (b i))

  run_same : (a b n : ℕ) → 15 ≤ a → 15 ≤ b → same_run f a b n ≡ same_run g a b n
  unfolding same_run
  run_same a b zero h k = refl
  run_same a b (suc n) h k = λ i. eqb (byte_same f g same a h i) (byte_same f g same b k i) && run_same (a + 1) (b + 1) n (omega arith) (omega arith) i

  pub ends_same : (at : ℕ) → 15 ≤ at → ends_at v f spans at p ≡ ends_at v g spans at p
  unfolding ends_at second_at
  ends_same at h =
      let n = 1 + end_size v in
      let a = right_same at h in
      let b = right_same (at + n) (omega arith) in
      let c = run_same (at + 1) (at + n + 1) (end_size v) (omega arith) (omega arith) in
      λ i. cond (eqb at p) (ended.Good 0)
      (cond (a i) (cond (eqb (at + n) p) (ended.Good 1) (cond (b i && (eqb (at + n + (1 + end_size v)) p && c i)) (ended.Good 2) ended.Wrong)) ended.Wrong)

-- where they end
pub data EndsTo (v : Version) (f : List ℕ) (at p : ℕ) : Type 0 where
  none_there : p ≡ at → EndsTo v f at p
  one_there : get_or f at 0 ≡ 0x39 → p ≡ at + (1 + end_size v) → EndsTo v f at p
  two_there : get_or f at 0 ≡ 0x39 → p ≡ at + (1 + end_size v) + (1 + end_size v) → EndsTo v f at p

module _ (v : Version) (f spans : List ℕ) (at p : ℕ) where
  abbrev n : ℕ
  n = 1 + end_size v

  is_end_lem : right_at v f spans p at ≡ true → get_or f at 0 ≡ 0x39
  unfolding right_at end_here
  is_end_lem q =
      let r = (both (leb (at + n) p && (eqb (get_or f at 0) 0x39 && eqb (get_or spans 0x39 0) n)) (initiator_at v f at) q).0 in
      let s = (both (leb (at + n) p) (eqb (get_or f at 0) 0x39 && eqb (get_or spans 0x39 0) n) r).1 in
      eqb-true (get_or f at 0) 0x39 (both (eqb (get_or f at 0) 0x39) (eqb (get_or spans 0x39 0) n) s).0

  pub ends_to_lem : (count : ℕ) → ends_at v f spans at p ≡ ended.Good count → EndsTo v f at p
  unfolding ends_at second_at
  ends_to_lem count e = none_left (eqb at p) refl e
    where
      two : (b : Bool) → (right_at v f spans p (at + n) && (eqb (at + n + n) p && same_run f (at + 1) (at + n + 1) (end_size v))) ≡ b → right_at v f spans p at ≡ true
          → cond b (ended.Good 2) ended.Wrong ≡ ended.Good count → EndsTo v f at p
      two true q r e =
          let s = (both (right_at v f spans p (at + n)) (eqb (at + n + n) p && same_run f (at + 1) (at + n + 1) (end_size v)) q).1 in
          two_there (is_end_lem r) (sym (eqb-true (at + n + n) p (both (eqb (at + n + n) p) (same_run f (at + 1) (at + n + 1) (end_size v)) s).0))
      two false q r e = no_bad e

      one : (b : Bool) → eqb (at + n) p ≡ b → right_at v f spans p at ≡ true
          → cond b (ended.Good 1) (cond (right_at v f spans p (at + n) && (eqb (at + n + n) p && same_run f (at + 1) (at + n + 1) (end_size v))) (ended.Good 2) ended.Wrong) ≡ ended.Good count
          → EndsTo v f at p
      one true q r e = one_there (is_end_lem r) (sym (eqb-true (at + n) p q))
      one false q r e = two (right_at v f spans p (at + n) && (eqb (at + n + n) p && same_run f (at + 1) (at + n + 1) (end_size v))) refl r e

      right : (b : Bool) → right_at v f spans p at ≡ b
          → cond b (cond (eqb (at + n) p) (ended.Good 1) (cond (right_at v f spans p (at + n) && (eqb (at + n + n) p && same_run f (at + 1) (at + n + 1) (end_size v))) (ended.Good 2) ended.Wrong)) ended.Wrong ≡ ended.Good count
          → EndsTo v f at p
      right true q e = one (eqb (at + n) p) refl q e
      right false q e = no_bad e

      none_left : (b : Bool) → eqb at p ≡ b
          → cond b (ended.Good 0) (cond (right_at v f spans p at) (cond (eqb (at + n) p) (ended.Good 1) (cond (right_at v f spans p (at + n) && (eqb (at + n + n) p && same_run f (at + 1) (at + n + 1) (end_size v))) (ended.Good 2) ended.Wrong)) ended.Wrong) ≡ ended.Good count
          → EndsTo v f at p
      none_left true q e = none_there (sym (eqb-true at p q))
      none_left false q e = right (right_at v f spans p at) refl e

pub ends_nothing : (v : Version) (f spans : List ℕ) (at : ℕ) → ends_at v f spans at at ≡ ended.Good 0
unfolding ends_at
ends_nothing v f spans at = rw (eq-eqb at at refl)
