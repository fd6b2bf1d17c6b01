-- From the calls of `live` to the exported ones; no second outcome of these fits.
-- Assumes nothing.
use Prim.Native.Nat.{ℕ}
use mathlib.Core.Path.{◌≡◌, sym, ap, ◌∙◌}
use mathlib.Core.List.{List}
use Rattle.std.specs.Prelude.{Result}
use Rattle.format.specs.Refused.{Answer}
use Rattle.answers.specs.declared.SlpAppended.{SlpAppended}
use Rattle.answers.specs.declared.SlpClosed.{SlpClosed}
use Rattle.answers.specs.Answers.{numbered, appended_struct, appended_as, closed_struct, closed_as}
use Rattle.answers.proofs.Laws.{appended_number, closed_number}
use Rattle.live.specs.Head.{Opening, HeadOutcome}
use Rattle.live.specs.End.{Closing, EndOutcome}
use Rattle.live.specs.declared.closed.Ends.{Ends}
use Rattle.slp.specs.Live.{HeadCall, EndCall}

pub head_call : {o : Opening} {out a : List ℕ} {w : Answer ℕ} {m : Result ℕ ℕ} {r : SlpAppended} →
    HeadOutcome o out w a → m ≡ numbered w → r ≡ appended_as m → HeadCall o out r a
head_call {w = w} x m e = record { answer_is = e ∙ ap appended_as m ∙ appended_number w ∙ ap appended_struct x.answer_is; out_is = x.out_is }

pub end_call : {c : Closing} {place : ℕ} {out a : List ℕ} {w : Answer Ends} {m : Result Ends ℕ} {r : SlpClosed} →
    EndOutcome c place out w a → m ≡ numbered w → r ≡ closed_as m → EndCall c place out r a
end_call {w = w} x m e = record { answer_is = e ∙ ap closed_as m ∙ closed_number w ∙ ap closed_struct x.answer_is; out_is = x.out_is }

pub only_head : {o : Opening} {out a b : List ℕ} {q r : SlpAppended} → HeadCall o out q a → HeadCall o out r b → (q ≡ r) × (a ≡ b)
only_head x y = (x.answer_is ∙ sym y.answer_is, x.out_is ∙ sym y.out_is)

pub only_end : {c : Closing} {place : ℕ} {out a b : List ℕ} {q r : SlpClosed} → EndCall c place out q a → EndCall c place out r b → (q ≡ r) × (a ≡ b)
only_end x y = (x.answer_is ∙ sym y.answer_is, x.out_is ∙ sym y.out_is)
