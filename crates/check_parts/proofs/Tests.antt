-- The tests of code are those of the definitions.
-- Assumes nothing.
use Prim.Native.Nat.{ℕ, suc, ◌+◌, ◌≤◌, ◌<◌}
use mathlib.Core.Path.{◌≡◌, sym, ap, ◌∙◌}
use mathlib.Core.Bool.{Bool, true, false}
use mathlib.Core.List.{List}
use mathlib.Core.Option.{some}
use native.Mathlib.Omega.{arith}
use borrow.Author.Tests.{lt-ltb, le-ltb, lt-leb, le-leb, eq-eqb, ne_eqb}
use lib.Dec.{leb, eqb}
use Rattle.format.specs.declared.version.Version.{Version}
use Rattle.layout.specs.Payloads.{end_size}
use Rattle.start.specs.Length.{length_of}
use Rattle.grammar.specs.WellFormed.{anyhow}
use Rattle.grammar.specs.Machine.{initial}
use Rattle.grammar.specs.Whole.{on_some}
use Rattle.read_scan.specs.Inner.{scan, ran_of}
use Rattle.read_scan.specs.declared.Ran.{Ran}
use Rattle.read_scan.specs.declared.Ran.TheVariants as ran
use Rattle.read_scan.specs.declared.tally.Tally.{Tally}
use Rattle.read_outline.specs.Inner.{codes_at, end_here}
use Rattle.read_outline.specs.declared.answer.Codes.{Codes}
use Rattle.read_outline.specs.declared.answer.Codes.TheVariants as codes
use Rattle.read_judge.proofs.Passes.{codes_within, scan_within}
use Rattle.check_table.specs.Table.{table_is}
use Rattle.check_parts.specs.Inner.{ends_fill, frames_at, tabled_at, coded_at, sound_at}

-- ---- ends

module _ (v : Version) (file spans : List ℕ) (stop at : ℕ) where
  pub none_left : at ≡ stop → true ≡ ends_fill v file spans stop at
  unfolding ends_fill
  none_left e = rw (eq-eqb at stop e)

  module _ (ne : at ≡ stop → ⊥) (r : Bool) (r_is : r ≡ end_here v file spans stop at) where
    pub no_end : r ≡ false → false ≡ ends_fill v file spans stop at
    unfolding ends_fill
    no_end e = rw (ne_eqb at stop ne, sym r_is ∙ e)

    module _ (e : r ≡ true) (n : ℕ) (n-is : n ≡ 1 + end_size v) where
      pub one_end : at + n ≡ stop → true ≡ ends_fill v file spans stop at
      unfolding ends_fill
      one_end q = rw (ne_eqb at stop ne, sym r_is ∙ e, ← n-is, eq-eqb (at + n) stop q)

      module _ (q : at + n ≡ stop → ⊥) (s : Bool) (s_is : s ≡ end_here v file spans stop (at + n)) where
        pub no_second : s ≡ false → false ≡ ends_fill v file spans stop at
        unfolding ends_fill
        no_second t = rw (ne_eqb at stop ne, sym r_is ∙ e, ← n-is, ne_eqb (at + n) stop q, sym s_is ∙ t)

        pub two_ends : s ≡ true → eqb (at + n + n) stop ≡ ends_fill v file spans stop at
        unfolding ends_fill
        two_ends t = rw (ne_eqb at stop ne, sym r_is ∙ e, ← n-is, ne_eqb (at + n) stop q, sym s_is ∙ t)

-- ---- the table

module _ (v : Version) (file : List ℕ) (len blocks actual : ℕ) (l : Bool) (l-is : l ≡ table_is file v len true actual) where
  pub table_listed : l ≡ true → true ≡ tabled_at v file len blocks actual
  unfolding tabled_at
  table_listed e = rw (sym l-is ∙ e)

  pub table_bare : l ≡ false → blocks ≡ 0 → (r : Bool) → r ≡ table_is file v len false actual → r ≡ tabled_at v file len blocks actual
  unfolding tabled_at
  table_bare e z r q = rw (sym l-is ∙ e, eq-eqb blocks 0 z) q

  pub table_lacks : l ≡ false → (blocks ≡ 0 → ⊥) → false ≡ tabled_at v file len blocks actual
  unfolding tabled_at
  table_lacks e z = rw (sym l-is ∙ e, ne_eqb blocks 0 z)

-- ---- frames and codes

module _ (v : Version) (file spans : List ℕ) (stop place : ℕ) (r : Ran) (r_is : ran_of r ≡ scan v anyhow file spans stop (suc stop) place initial) where
  scan_ended : (at : ℕ) (t : Tally) → r ≡ ran.Ended at t → scan v anyhow file spans stop (suc stop) place initial ≡ some at
  scan_ended at t e = sym r_is ∙ ap ran_of e

  pub frames_under : (at : ℕ) (t : Tally) → r ≡ ran.Ended at t → place ≤ stop → at ≤ stop
  frames_under at t e = scan_within file spans stop at v anyhow (suc stop) place initial (scan_ended at t e)

  pub frames_end : (at : ℕ) (t : Tally) → r ≡ ran.Ended at t → (b : Bool) → b ≡ ends_fill v file spans stop at → b ≡ frames_at v file spans stop place
  unfolding frames_at on_some
  frames_end at t e b q = rw (scan_ended at t e) q

  pub frames_wrong : r ≡ ran.Wrong → false ≡ frames_at v file spans stop place
  unfolding frames_at on_some
  frames_wrong e = rw (sym r_is ∙ ap ran_of e)

module _ (v : Version) (file spans : List ℕ) (stop at len : ℕ) (c : Codes) (c-is : c ≡ codes_at v file spans at stop) where
  pub codes_wrong_lem : c ≡ codes.Wrong → false ≡ coded_at v file spans stop at len
  unfolding coded_at
  codes_wrong_lem e = rw (sym c-is ∙ e)

  module _ (place blocks actual : ℕ) (e : c ≡ codes.Ended place blocks actual) (t : Bool) (t-is : t ≡ tabled_at v file len blocks actual) where
    pub table_wrong : t ≡ false → false ≡ coded_at v file spans stop at len
    unfolding coded_at
    table_wrong q = rw (sym c-is ∙ e, sym t-is ∙ q)

    pub codes_end : t ≡ true → (b : Bool) → b ≡ frames_at v file spans stop place → b ≡ coded_at v file spans stop at len
    unfolding coded_at
    codes_end q b h = rw (sym c-is ∙ e, sym t-is ∙ q) h

module _ (v : Version) (file spans : List ℕ) (stop at : ℕ) (c : Codes) (c-is : c ≡ codes_at v file spans at stop) where
  pub codes_under : (place blocks actual : ℕ) → c ≡ codes.Ended place blocks actual → at ≤ stop → place ≤ stop
  codes_under place blocks actual e = codes_within file spans stop place v at blocks actual (sym c-is ∙ e)

-- ---- the start block

module _ (v : Version) (file spans : List ℕ) (stop at len n : ℕ) (n-is : n ≡ length_of v) where
  pub start_short : len < n → false ≡ sound_at v file spans stop at len
  unfolding sound_at
  start_short h = rw (lt-leb (length_of v) len (omega (arith, n-is)))

  module _ (long : n ≤ len) where
    pub start_long : 65536 ≤ len → false ≡ sound_at v file spans stop at len
    unfolding sound_at
    start_long h = rw (le-leb (length_of v) len (omega (arith, n-is)), le-ltb len 65536 h)

    pub start_fits_lem : len < 65536 → (b : Bool) → b ≡ coded_at v file spans stop at len → b ≡ sound_at v file spans stop at len
    unfolding sound_at
    start_fits_lem h b q = rw (le-leb (length_of v) len (omega (arith, n-is)), lt-ltb len 65536 h) q
