-- No second outcome: what an exported call answers and what it leaves in the lent bytes follow from its inputs, on a refusal too.
-- The reader's calls, the row calls and slp_columns answer by an equation, which leaves one answer.
-- Assumes nothing.
use Prim.Native.Nat.{ℕ}
use mathlib.Core.Path.{◌≡◌, sym, ◌∙◌}
use mathlib.Core.List.{List}
use Rattle.game.specs.Stores.{Lent, Stores}
use Rattle.game.specs.declared.frames.Frames.{Frames}
use Rattle.game.specs.declared.Game.{Game}
use Rattle.answers.specs.declared.SlpAppended.{SlpAppended}
use Rattle.answers.specs.declared.SlpWritten.{SlpWritten}
use Rattle.slp.specs.Outcomes.{MaskOutcome, WriteOutcome, AppendOutcome}

pub only_mask : {ids mask scratch m m' s s' : List ℕ} {keep n n' : ℕ} →
    MaskOutcome ids keep mask scratch n m s → MaskOutcome ids keep mask scratch n' m' s' → (n ≡ n') × (m ≡ m') × (s ≡ s')
only_mask p q = (p.number_is ∙ sym q.number_is, p.mask_is ∙ sym q.mask_is, p.scratch_is ∙ sym q.scratch_is)

pub only_write : {g : Game} {s : Stores} {out a b : List ℕ} {q r : SlpWritten} →
    WriteOutcome g s out q a → WriteOutcome g s out r b → (q ≡ r) × (a ≡ b)
only_write x y = (x.answer_is ∙ sym y.answer_is, x.out_is ∙ sym y.out_is)

pub only_append : {f : Frames} {s : Lent} {a b place : ℕ} {out x y : List ℕ} {q r : SlpAppended} →
    AppendOutcome f s a b place out q x → AppendOutcome f s a b place out r y → (q ≡ r) × (x ≡ y)
only_append m n = (m.answer_is ∙ sym n.answer_is, m.out_is ∙ sym n.out_is)
