-- Each answer of `measure` and of `read` is that of some file: refused before there is a replay, no replay, a store too short, and what is found.
-- That of 2 is in BigFile.antt.
-- Assumes nothing.
use Prim.Native.Nat.{ℕ}
use mathlib.Core.Path.{◌≡◌, refl, sym, ap, ap₂, ◌∙◌}
use mathlib.Core.Bool.{false}
use mathlib.Core.List.{List, [], ◌∷◌, ◌++◌}
use native.Mathlib.Omega.{arith}
use lib.ListN.{replicate}
use Rattle.wire.specs.Wire.{splice}
use Rattle.format.specs.Version.{version}
use Rattle.format.specs.declared.version.Version.{Version}
use Rattle.game.specs.Stores.{lent, cells, offsets}
use Rattle.read_judge.specs.Found.{version_of, too_big}
use Rattle.newer_judge.specs.Opening.{opening_refusal}
use Rattle.measure.specs.Game.{Kept, kept, kept_read}
use Rattle.measure.specs.Read.{unmeasured, measured_in, unopened, opened_in, kept_short, kept_over, MeasureOutcome, ReadOutcome, early, none, short}
use Rattle.measure.specs.Read as outcome
use Rattle.case_files.proofs.Files.{old, post, pre}
use Rattle.case_files.proofs.Early.{unlisted, unlisted_is, unlisted_place}
use Rattle.case_files.proofs.NoReplay.{post_first}
use Rattle.case_files.proofs.OneFrame.{file, played, version_said_lem, not_refused, found, small_enough, stores}
use Rattle.case_files.proofs.Short.{lending, few, one_less, few_suffice, pre_short}

refused : opening_refusal unlisted ≡ 0 → ⊥
refused e = let n = unlisted_is in omega arith

small : too_big (version_of file) played ≡ false
small = ap (λ (v : Version). too_big v played) version_said_lem ∙ small_enough

-- ---- measure

-- 16, with the offset of the code that the table lacks
measure_early : MeasureOutcome unlisted (unmeasured 16 25)
measure_early = early refused (sym (ap₂ unmeasured unlisted_is unlisted_place))

-- 19: a Post before its Pre
measure_none : MeasureOutcome (old (post 5 0 0 ∷ pre 5 0 0 ∷ [])) (unmeasured 19 0)
measure_none = none post_first.0 post_first.1 refl

measure_found : MeasureOutcome file (measured_in file played)
unfolding found
measure_found = outcome.found not_refused found small refl

-- ---- read, into any stores where it is refused before they are asked for

read_early : (given : Kept) → ReadOutcome unlisted given (unopened 16 25) given
read_early given = early refused (sym (ap₂ unopened unlisted_is unlisted_place)) refl

read_none : (given : Kept) → ReadOutcome (old (post 5 0 0 ∷ pre 5 0 0 ∷ [])) given (unopened 19 0) given
read_none given = none post_first.0 post_first.1 refl refl

-- 12: one cell of Pre too few
read_short : ReadOutcome file (lending (one_less few 2)) (unopened 12 0) (lending (one_less few 2))
unfolding found
read_short =
    short not_refused found small (ap (λ (v : Version). kept_short (lending (one_less few 2)) (kept_read v played)) version_said_lem ∙ pre_short) refl refl

-- just enough of each
read_found : ReadOutcome file (lending few) (opened_in file played) (kept_over (lending few) (kept_read (version 0 1 0) played))
unfolding found
read_found =
    outcome.found not_refused found small (ap (λ (v : Version). kept_short (lending few) (kept_read v played)) version_said_lem ∙ few_suffice) refl
    (ap (λ (v : Version). kept_over (lending few) (kept_read v played)) (sym version_said_lem))

-- what the stores are then
filled : kept_over (lending few) (kept_read (version 0 1 0) played)
    ≡ kept (lent (cells (0xffffff85 ∷ []) [] (7 ∷ replicate 13 0) (2 ∷ 14 ∷ replicate 9 0) [] [] [] [] []) (offsets [] [] [] []) (1 ∷ [])) []
unfolding kept_over splice
filled = ap (kept_over (lending few)) stores ∙ refl

-- stores with two more elements each keep them: sevens, as they were
abbrev roomy : List ℕ
roomy = 3 ∷ 2 ∷ 16 ∷ 13 ∷ 2 ∷ 2 ∷ 2 ∷ 2 ∷ 2 ∷ 2 ∷ 2 ∷ 2 ∷ 2 ∷ 3 ∷ 2 ∷ []

abbrev sevens : List ℕ
sevens = 7 ∷ 7 ∷ []

rest_stays : kept_over (lending roomy) (kept_read (version 0 1 0) played)
    ≡ kept
    (lent
    (cells ((0xffffff85 ∷ []) ++ sevens) sevens ((7 ∷ replicate 13 0) ++ sevens) ((2 ∷ 14 ∷ replicate 9 0) ++ sevens) sevens sevens sevens sevens sevens)
    (offsets sevens sevens sevens sevens) ((1 ∷ []) ++ sevens))
    sevens
unfolding kept_over splice
rest_stays = ap (kept_over (lending roomy)) stores ∙ refl
