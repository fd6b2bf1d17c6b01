-- The writer of final frames: from the call below to the exported one, and no second outcome.
-- Assumes nothing.
use Prim.Native.Nat.{ℕ}
use mathlib.Core.Path.{◌≡◌, sym, ap, ◌∙◌}
use mathlib.Core.List.{List}
use Rattle.game.specs.Stores.{Stores}
use Rattle.game.specs.declared.Game.{Game}
use Rattle.std.specs.Prelude.{Result}
use Rattle.format.specs.Refused.{Answer}
use Rattle.final_file.specs.Write.{FinalOutcome}
use Rattle.answers.specs.declared.SlpWritten.{SlpWritten}
use Rattle.answers.specs.Answers.{numbered, written_struct, written}
use Rattle.answers.proofs.Laws.{written_number}
use Rattle.slp.specs.Finals.{FinalWriteOutcome}

pub final_outcome : {g : Game} {s : Stores} {out scratch out' scratch' : List ℕ} {w : Answer ℕ} {m : Result ℕ ℕ} {r : SlpWritten} →
    FinalOutcome g s out scratch w out' scratch' → m ≡ numbered w → r ≡ written m → FinalWriteOutcome g s out scratch r out' scratch'
final_outcome {w = w} o m n = record { answer_is = n ∙ ap written m ∙ written_number w ∙ ap written_struct o.answer_is; out_is = o.out_is; scratch_is = o.scratch_is }

pub only_final : {g : Game} {s : Stores} {out scratch a b x y : List ℕ} {q r : SlpWritten} →
    FinalWriteOutcome g s out scratch q a x → FinalWriteOutcome g s out scratch r b y → (q ≡ r) × (a ≡ b) × (x ≡ y)
only_final v w = (v.answer_is ∙ sym w.answer_is, v.out_is ∙ sym w.out_is, v.scratch_is ∙ sym w.scratch_is)
