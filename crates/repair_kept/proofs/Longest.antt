-- What the scan keeps is the longest beginning that `read` accepts, and where it keeps nothing there is none.
-- Assumes nothing.
use Prim.Native.Nat.{ℕ, zero, suc, ◌+◌, ◌-◌, ◌≤◌, ◌<◌}
use mathlib.Core.Path.{◌≡◌, refl, sym, ap, subst, ◌∙◌}
use mathlib.Core.Bool.{Bool, true, false}
use mathlib.Core.List.{List}
use native.Mathlib.Omega.{arith}
use lib.ListN.{length, get_or}
use Rattle.wire.specs.Wire.{part}
use Rattle.format.specs.Version.{accepted_of}
use Rattle.format.specs.declared.version.Version.{Version}
use Rattle.head.specs.Table.{table_of, first_place, span_of, head_refusal}
use Rattle.de.specs.Cut.{zeroed}
use Rattle.read_judge.specs.Inner.{Bytes, first_at, start_fits, Started}
use Rattle.read_judge.specs.declared.first.First.{First}
use Rattle.read_judge.specs.declared.first.First.TheVariants.{Opens, Other}
use Rattle.read_judge.proofs.Passes.{first_within}
use Rattle.repair_scan.specs.Inner.{kept_from}
use Rattle.repair_kept.specs.Kept.{ending_at, ReplayUpTo, Longest}
use Rattle.repair_kept.proofs.Same.{no_way, part_same}
use Rattle.repair_kept.proofs.Kept.{Tests, Sound, sound, most}
use Rattle.repair_kept.proofs.Field.{long_enough, ending_tail, ending_starts, ending_headed, first_within as table-within}
use Rattle.repair_kept.proofs.Accepts.{first_move, accepted_so, early_head, Passed, passed}

module _ (f spans : List ℕ) (accepted : head_refusal (zeroed f) ≡ 0) (many : length spans ≡ 256)
    (index : (c : ℕ) → c < 256 → get_or spans c 0 ≡ span_of c (table_of (zeroed f))) (bytes : Bytes f) where
  abbrev first : ℕ
  first = first_place (table_of (zeroed f))

  starts : (17 ≤ first) × (first ≤ length f)
  starts = table-within f accepted

  pub begins_at_lem : (q : ℕ) → ReplayUpTo f q → first ≤ q
  begins_at_lem q b = ending_starts f accepted q b.short b.within (early_head (ending_at f q) b.accepted.early) b.accepted.found.whole

  begins_passed : (q : ℕ) → ReplayUpTo f q → Passed (ending_at f q) spans first q
  begins_passed q b = passed (ending_at f q) spans first q (ending_headed f accepted q b.short b.within spans many index bytes (begins_at_lem q b)) b.accepted

  module _ (v : Version) (len : ℕ) (opens : first_at f spans first (length f) ≡ Opens v len) where
    abbrev at : ℕ
    at = first + 1 + len

    pub at_within : at ≤ length f
    at_within = first_within f spans (length f) at v first len opens refl starts.1

    record Same (q : ℕ) : Type 0 where
      tests : Tests v (ending_at f q) spans at q
      fits : start_fits v (part f (first + 1) len) ≡ true
      behind : at ≤ q

    same_first : (q : ℕ) → ReplayUpTo f q → Same q
    same_first q b =
        let p = begins_passed q b in
        let (s, t) = starts in
        let tail = ending_tail f (long_enough f accepted) q in
        let inside = first_within (ending_at f q) spans q (first + 1 + p.len) p.version first p.len p.opens refl (begins_at_lem q b) in
        let e = sym (first_move (ending_at f q) f spans (sym tail) first q (length f) (omega arith) p.version p.len p.opens (omega (arith, b.within))) ∙ opens in
        let v-is : p.version ≡ v = cc in
        let n-is : p.len ≡ len = cc in
        record {
          tests = subst (λ (n : ℕ). Tests v (ending_at f q) spans (first + 1 + n) q) n-is (subst (λ (w : Version). Tests w (ending_at f q) spans (first + 1 + p.len) q) v-is p.tests);
          fits =
              ap (start_fits v) (part_same f (ending_at f q) tail (first + 1) len (omega arith))
              ∙ subst (λ (n : ℕ). start_fits v (part (ending_at f q) (first + 1) n) ≡ true) n-is (subst (λ (w : Version). start_fits w (part (ending_at f q) (first + 1) p.len) ≡ true) v-is p.fits);
          behind = omega arith;
        }

    -- a start that no replay begins with
    pub no_start_lem : start_fits v (part f (first + 1) len) ≡ false → (q : ℕ) → ReplayUpTo f q → ⊥
    no_start_lem e q b = no_way (sym e ∙ (same_first q b).fits)

    most_kept : (q : ℕ) → ReplayUpTo f q → q ≤ kept_from v f spans (length f) at
    most_kept q b =
        let s = same_first q b in
        most v f (ending_at f q) spans (ending_tail f (long_enough f accepted) q) q (length f) b.within b.short at (omega (arith, starts.0)) s.behind s.tests

    pub none_kept : kept_from v f spans (length f) at ≡ 0 → (q : ℕ) → ReplayUpTo f q → ⊥
    none_kept e q b = omega (arith, most_kept q b, begins_at_lem q b, starts.0)

    pub longest : accepted_of v ≡ true → start_fits v (part f (first + 1) len) ≡ true → (kept_from v f spans (length f) at ≡ 0 → ⊥) → Longest f (kept_from v f spans (length f) at)
    longest new fits some_kept =
        let p = kept_from v f spans (length f) at in
        let (s, t) = starts in
        let tail = ending_tail f (long_enough f accepted) p in
        let x = sound v f (ending_at f p) spans tail (length f) at (omega arith) at_within some_kept in
        let start : Started (ending_at f p) spans v first p len = record {
          headed = ending_headed f accepted p x.low x.within spans many index bytes (omega (arith, x.above));
          opens = first_move f (ending_at f p) spans tail first (length f) p (omega arith) v len opens x.above;
          new_enough = new;
        } in
        record {
          begins = record {
            within = x.within;
            short = x.low;
            accepted = accepted_so (ending_at f p) spans v first p len start x.tests (ap (start_fits v) (sym (part_same f (ending_at f p) tail (first + 1) len (omega arith))) ∙ fits);
          };
          most = most_kept;
        }
