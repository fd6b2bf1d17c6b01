-- What functions promise each other: the tests of a sound replay over the bytes of a file, in the order in which code goes.
-- Assumes nothing.
use Rattle.std.specs.Prelude.{ℕ, suc, ◌+◌, Bool, true, false, ◌&&◌, ◌||◌, List, ltb, leb, eqb}
use Rattle.format.specs.declared.version.Version.{Version}
use Rattle.start.specs.Length.{length_of}
use Rattle.grammar.specs.WellFormed.{anyhow}
use Rattle.grammar.specs.Machine.{initial}
use Rattle.grammar.specs.Whole.{on_some}
use Rattle.read_scan.specs.Inner.{scan}
use Rattle.read_outline.specs.Inner.{codes_at, end_span, end_here}
use Rattle.read_outline.specs.declared.answer.Codes.{Codes}
use Rattle.read_outline.specs.declared.answer.Codes.TheVariants as codes
use Rattle.check_table.specs.Table.{table_is}

module _ (v : Version) (file spans : List ℕ) (stop : ℕ) where
  -- none, one or two of them fill the rest
  unfoldable pub ends_fill : ℕ → Bool
  ends_fill at =
      eqb at stop
      || (end_here v file spans stop at
      && (eqb (at + end_span v) stop || (end_here v file spans stop (at + end_span v) && eqb (at + end_span v + end_span v) stop)))

  -- frames with ports in any order, and ends behind them
  unfoldable pub frames_at : ℕ → Bool
  frames_at place = on_some (scan v anyhow file spans stop (suc stop) place initial) ends_fill

-- the payload table is the version's, with codes listed, or without where there are no blocks
unfoldable pub tabled_at : Version → List ℕ → ℕ → ℕ → ℕ → Bool
tabled_at v file len blocks actual = table_is file v len true actual || (eqb blocks 0 && table_is file v len false actual)

abbrev pub on_codes : Codes → (ℕ → ℕ → ℕ → Bool) → Bool
on_codes (codes.Ended place blocks actual) f = f place blocks actual
on_codes codes.Wrong f = false

-- blocks of codes that the table lists, and frames behind them
unfoldable pub coded_at : Version → List ℕ → List ℕ → ℕ → ℕ → ℕ → Bool
coded_at v file spans stop at len = on_codes (codes_at v file spans at stop) (λ place blocks actual. tabled_at v file len blocks actual && frames_at v file spans stop place)

-- all this behind a start block of so many bytes
unfoldable pub sound_at : Version → List ℕ → List ℕ → ℕ → ℕ → ℕ → Bool
sound_at v file spans stop at len = leb (length_of v) len && (ltb len 65536 && coded_at v file spans stop at len)
