-- What the check of a file answers (2026-13): 0 for a sound file, else the number of the first rule that it breaks.
-- Assumes nothing.
use Rattle.std.specs.Prelude.{ℕ, ◌≡◌, List}
use Rattle.grammar.specs.Sound.{SoundEvents, Sound}
use Rattle.read_judge.specs.Found.{early_refusal, refusal_offset}
use Rattle.check_file.specs.declared.Checked.{Checked}

-- 14 to 17 of the walk, 19 for the first event, 1 for the version; then 19 where the events are not sound, 23 where the tail is not proper; offsets are the walk's alone
pub data Answer (f : List ℕ) (number offset : ℕ) : Type 0 where
  early : (early_refusal f ≡ 0 → ⊥) → number ≡ early_refusal f → offset ≡ refusal_offset f → Answer f number offset
  events : early_refusal f ≡ 0 → (SoundEvents f → ⊥) → number ≡ 19 → offset ≡ 0 → Answer f number offset
  tail : SoundEvents f → (Sound f → ⊥) → number ≡ 23 → offset ≡ 0 → Answer f number offset
  sound : Sound f → number ≡ 0 → offset ≡ 0 → Answer f number offset

abbrev pub CheckOutcome : List ℕ → Checked → Type 0
CheckOutcome f r = Answer f r.refused r.offset
