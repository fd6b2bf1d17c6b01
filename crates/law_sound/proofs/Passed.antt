-- The tests over bytes, one by one; where they all pass, no walk is refused.
-- Assumes nothing.
use Prim.Native.Nat.{ℕ, suc, ◌+◌, ◌≤◌, ◌<◌}
use mathlib.Core.Path.{◌≡◌, refl, sym, ap, subst, ◌∙◌}
use mathlib.Core.Bool.{true, ◌&&◌, ◌||◌}
use mathlib.Core.List.{List}
use mathlib.Core.Option.{Option, none, some}
use native.Mathlib.Omega.{arith}
use borrow.Author.Tests.{lt-ltb, le-leb, ltb-true, leb-true, eqb-true}
use lib.Dec.{ltb, leb, eqb}
use lib.ListN.{get_or}
use Rattle.format.specs.declared.version.Version.{Version}
use Rattle.format.proofs.Versions.{no_way}
use Rattle.layout.specs.Payloads.{end_size}
use Rattle.start.specs.Length.{length_of}
use Rattle.grammar.specs.WellFormed.{anyhow}
use Rattle.grammar.specs.Machine.{initial}
use Rattle.grammar.specs.Whole.{on_some}
use Rattle.grammar.proofs.Tests.{both, Or, left_is, right_is, either}
use Rattle.read_scan.specs.Inner.{span_at, scan}
use Rattle.read_outline.specs.Inner.{codes_at, end_here}
use Rattle.read_outline.specs.declared.answer.Codes.{Codes}
use Rattle.read_outline.specs.declared.answer.Codes.TheVariants as codes
use Rattle.read_judge.specs.Inner.{WalkDone, Headed, Started}
use Rattle.read_judge.proofs.Passes.{Comes, comes_back, comes_last, walk_from}
use Rattle.check_parts.specs.Inner.{ends_fill, frames_at, tabled_at, on_codes, coded_at, sound_at}

-- all tests pass
pub record Passed (v : Version) (f spans : List ℕ) (stop at len : ℕ) : Type 0 where
  pub place : ℕ
  pub blocks : ℕ
  pub actual : ℕ
  pub last : ℕ
  pub block : length_of v ≤ len
  pub short : len < 65536
  pub coded : codes_at v f spans at stop ≡ codes.Ended place blocks actual
  pub tabled : tabled_at v f len blocks actual ≡ true
  pub ran : scan v anyhow f spans stop (suc stop) place initial ≡ some last
  pub ended : ends_fill v f spans stop last ≡ true

module _ (v : Version) (f spans : List ℕ) (stop at len : ℕ) where
  pub passed : sound_at v f spans stop at len ≡ true → Passed v f spans stop at len
  unfolding sound_at coded_at frames_at on_some
  passed q =
      let (a, r) = both (leb (length_of v) len) (ltb len 65536 && coded_at v f spans stop at len) q in
      let (b, r) = both (ltb len 65536) (coded_at v f spans stop at len) r in
      on_codes_lem (leb-true (length_of v) len a) (ltb-true len 65536 b) (codes_at v f spans at stop) refl r
    where
      on_frames : length_of v ≤ len → len < 65536 → (place blocks actual : ℕ) → codes_at v f spans at stop ≡ codes.Ended place blocks actual → tabled_at v f len blocks actual ≡ true
          → (x : Option ℕ) → scan v anyhow f spans stop (suc stop) place initial ≡ x → on_some x (ends_fill v f spans stop) ≡ true → Passed v f spans stop at len
      on_frames a b place blocks actual c t none x r = no_way r
      on_frames a b place blocks actual c t (some last) x r = record {
        place = place;
        blocks = blocks;
        actual = actual;
        last = last;
        block = a;
        short = b;
        coded = c;
        tabled = t;
        ran = x;
        ended = r;
      }

      on_codes_lem : length_of v ≤ len → len < 65536 → (c : Codes) → codes_at v f spans at stop ≡ c
          → on_codes c (λ place blocks actual. tabled_at v f len blocks actual && frames_at v f spans stop place) ≡ true → Passed v f spans stop at len
      on_codes_lem a b codes.Wrong c r = no_way r
      on_codes_lem a b (codes.Ended place blocks actual) c r =
          let (t, r) = both (tabled_at v f len blocks actual) (frames_at v f spans stop place) r in
          on_frames a b place blocks actual c t (scan v anyhow f spans stop (suc stop) place initial) refl r

  pub passed_back : Passed v f spans stop at len → sound_at v f spans stop at len ≡ true
  unfolding sound_at coded_at frames_at on_some
  passed_back p = rw (le-leb (length_of v) len p.block, lt-ltb len 65536 p.short, p.coded, p.tabled, p.ran) p.ended

-- ---- the walk

module _ (f spans : List ℕ) (first stop : ℕ) (h : Headed f spans first stop true) (v : Version) where
  abbrev Runs : ℕ → Type 0
  Runs p = Comes f spans first stop h p

  end_back : (p : ℕ) → end_here v f spans stop p ≡ true → Runs (p + (1 + end_size v)) → Runs p
  unfolding end_here
  end_back p q r =
      let n = 1 + end_size v in
      let (a, q) = both (leb (p + n) stop) (eqb (get_or f p 0) 0x39 && eqb (get_or spans 0x39 0) n) q in
      let (b, c) = both (eqb (get_or f p 0) 0x39) (eqb (get_or spans 0x39 0) n) q in
      let whole = leb-true (p + n) stop a in
      let e : span_at spans f p ≡ n = ap (λ (x : ℕ). get_or spans x 0) (eqb-true (get_or f p 0) 0x39 b) ∙ eqb-true (get_or spans 0x39 0) n c in
      comes_back f spans first stop h p (omega (arith, e)) (omega (arith, e)) (subst (λ (x : ℕ). Runs (p + x)) (sym e) r)

  at_stop : (p : ℕ) → eqb p stop ≡ true → Runs p
  at_stop p q = subst Runs (sym (eqb-true p stop q)) (comes_last f spans first stop h)

  ends_back : (p : ℕ) → ends_fill v f spans stop p ≡ true → Runs p
  unfolding ends_fill
  ends_back p q = one (either (eqb p stop) _ q)
    where
      two : Or (eqb (p + (1 + end_size v)) stop) (end_here v f spans stop (p + (1 + end_size v)) && eqb (p + (1 + end_size v) + (1 + end_size v)) stop) → Runs (p + (1 + end_size v))
      two (left_is e) = at_stop (p + (1 + end_size v)) e
      two (right_is e) =
          let (a, b) = both (end_here v f spans stop (p + (1 + end_size v))) (eqb (p + (1 + end_size v) + (1 + end_size v)) stop) e in
          end_back (p + (1 + end_size v)) a (at_stop (p + (1 + end_size v) + (1 + end_size v)) b)

      one : Or (eqb p stop) (end_here v f spans stop p && (eqb (p + (1 + end_size v)) stop || (end_here v f spans stop (p + (1 + end_size v)) && eqb (p + (1 + end_size v) + (1 + end_size v)) stop))) → Runs p
      one (left_is e) = at_stop p e
      one (right_is e) =
          let (a, b) = both (end_here v f spans stop p) _ e in
          end_back p a (two (either (eqb (p + (1 + end_size v)) stop) _ b))

pub walked : (f spans : List ℕ) (v : Version) (first stop len : ℕ) → Started f spans v first stop len → Passed v f spans stop (first + 1 + len) len → WalkDone f
walked f spans v first stop len s p =
    walk_from f spans first stop s.headed v len s.opens p.place p.blocks p.actual p.coded anyhow (suc stop) initial p.last p.ran
    (ends_back f spans first stop s.headed v p.last p.ended)
