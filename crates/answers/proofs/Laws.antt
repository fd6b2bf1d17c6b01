-- A walk that came to its end or to a cut, in numbers; the answers of the writers and of the masks with their refusals' numbers.
-- Assumes nothing.
use Prim.Native.Nat.{ℕ}
use mathlib.Core.Path.{◌≡◌, refl, sym, ap, ◌∙◌}
use mathlib.Core.Bool.{Bool, cond}
use Rattle.de.specs.declared.Walked.{Walked}
use Rattle.de.specs.declared.Walked.TheVariants.{Done}
use Rattle.std.specs.Prelude.{Ok, Err}
use Rattle.format.specs.Refused.{Answer}
use Rattle.ser.specs.Write.{written_numbers}
use Rattle.append.specs.Run.{appended_numbers}
use Rattle.rollback.specs.Mask.{mask_numbers}
use Rattle.live.specs.declared.closed.Ends.{Ends}
use Rattle.live.specs.End.{closed_numbers}
use Rattle.answers.specs.Answers.{walked, numbered, written_struct, written, appended_struct, appended_as, closed_struct, closed_as, masked}
use Rattle.answers.specs.declared.SlpWalked.{SlpWalked}

pub walk_done : {events stray place mark : ℕ} {whole : Bool} {w : Walked} →
    mark ≡ cond whole 1 0 → w ≡ Done events stray whole place →
    ◌≡◌ {A = SlpWalked} (record { refused = 0; whole = mark; offset = 0; events = events; stray = stray; place = place }) (walked w)
walk_done {events} {stray} {place} m e = ap (λ n. record { refused = 0; whole = n; offset = 0; events = events; stray = stray; place = place }) m ∙ sym (ap walked e)

-- ---- the answers of the calls, by the numbers of their refusals

pub written_number : (q : Answer ℕ) → written (numbered q) ≡ written_struct (written_numbers q)
written_number (Ok n) = refl
written_number (Err r) = refl

pub appended_number : (q : Answer ℕ) → appended_as (numbered q) ≡ appended_struct (appended_numbers q)
appended_number (Ok n) = refl
appended_number (Err r) = refl

pub closed_number : (q : Answer Ends) → closed_as (numbered q) ≡ closed_struct (closed_numbers q)
closed_number (Ok p) = refl
closed_number (Err r) = refl

pub masked_number : (q : Answer ℕ) → masked (numbered q) ≡ (mask_numbers q).number
masked_number (Ok n) = refl
masked_number (Err r) = refl
