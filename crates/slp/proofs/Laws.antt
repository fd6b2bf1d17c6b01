-- From the calls of the crates below to the exported ones.
-- Assumes nothing.
use Prim.Native.Nat.{ℕ, ◌≤◌, ◌<◌}
use borrow.Author.Tests.{lt-ltb, le-ltb}
use mathlib.Core.Path.{◌≡◌, sym, ap, ◌∙◌}
use mathlib.Core.List.{List}
use mathlib.Core.Bool.{Bool, cond}
use lib.ListN.{length}
use Rattle.format.specs.declared.version.Version.{Version}
use Rattle.layout.specs.Columns.{widths_of}
use Rattle.layout.specs.declared.columns.Family.{Family}
use Rattle.rollback.specs.Mask as rollback
use Rattle.rollback.specs.declared.frame.Rollbacks.{Rollbacks}
use Rattle.std.specs.Prelude.{Result}
use Rattle.format.specs.declared.refusal.Refusal.{Refusal}
use Rattle.game.specs.Stores.{Lent, Stores}
use Rattle.game.specs.declared.frames.Frames.{Frames}
use Rattle.append.specs.Run as append
use Rattle.answers.specs.declared.SlpAppended.{SlpAppended}
use Rattle.rows_run.specs.Run.{family_at}
use Rattle.ser.specs.Write as write
use Rattle.game.specs.declared.Game.{Game}
use Rattle.format.specs.Refused.{Answer}
use Rattle.answers.specs.declared.SlpWritten.{SlpWritten}
use Rattle.answers.specs.Answers.{numbered, written_struct, written, appended_struct, appended_as, keep_of, masked}
use Rattle.answers.proofs.Laws.{written_number, appended_number, masked_number}
use Rattle.names.specs.Names.{no_column, described}
use Rattle.names.specs.declared.columns.Described.{Described}
use Rattle.slp.specs.Columns.{store_columns, store_column}
use Rattle.slp.specs.Outcomes.{MaskOutcome, WriteOutcome, AppendOutcome}

pub mask_outcome : {ids mask scratch ma sa : List ℕ} {keep : Rollbacks} {k number : ℕ} {answer : Result ℕ Refusal} {m : Result ℕ ℕ} →
    keep ≡ keep_of k → rollback.RollbackOutcome ids keep mask scratch answer ma sa → m ≡ numbered answer → number ≡ masked m →
    MaskOutcome ids k mask scratch number ma sa
mask_outcome {ids} {mask} {scratch} {keep = keep} {answer = answer} kept o m n =
    record {
      number_is = n ∙ ap masked m ∙ masked_number answer ∙ ap (λ (a : rollback.MaskNumbers). a.number) o.answer_is;
      mask_is = o.mask_is ∙ ap (λ (a : rollback.MaskNumbers). rollback.mask_after a keep ids mask) o.answer_is ∙ ap (λ q. rollback.mask_after (rollback.answer_of ids (length mask) (length scratch)) q ids mask) kept;
      scratch_is = o.scratch_is ∙ ap (λ (a : rollback.MaskNumbers). rollback.scratch_after a ids scratch) o.answer_is;
    }

pub write_outcome : {g : Game} {s : Stores} {out out' : List ℕ} {w : Answer ℕ} {m : Result ℕ ℕ} {r : SlpWritten} →
    write.WriterOutcome g s out w out' → m ≡ numbered w → r ≡ written m → WriteOutcome g s out r out'
write_outcome {w = w} o m n = record { answer_is = n ∙ ap written m ∙ written_number w ∙ ap written_struct o.answer_is; out_is = o.out_is }

pub append_outcome : {f : Frames} {s : Lent} {a b place : ℕ} {out out' : List ℕ} {w : Answer ℕ} {m : Result ℕ ℕ} {r : SlpAppended} →
    append.RunOutcome f s a b place out w out' → m ≡ numbered w → r ≡ appended_as m → AppendOutcome f s a b place out r out'
append_outcome {w = w} o m n = record { answer_is = n ∙ ap appended_as m ∙ appended_number w ∙ ap appended_struct o.answer_is; out_is = o.out_is }

-- ---- families by the number of their store

pub no_columns : (v : Version) (n : ℕ) → 7 < n → 0 ≡ store_columns v n
no_columns v n h = rw (lt-ltb 7 n h)

pub some_columns : (v : Version) (n k : ℕ) (family : Family) → n ≤ 7 → family ≡ family_at n → k ≡ length (widths_of family v) → k ≡ store_columns v n
some_columns v n k family h f e = rw (le-ltb 7 n h, ← f) e

pub no_column_lem : (n k : ℕ) {r : Described} → 7 < n → r ≡ no_column → r ≡ store_column n k
no_column_lem n k h e = rw (lt-ltb 7 n h) e

pub some_column : (n k : ℕ) {family : Family} {r : Described} → n ≤ 7 → family ≡ family_at n → r ≡ described family k → r ≡ store_column n k
some_column n k h f e = rw (le-ltb 7 n h, ← f) e
