-- Equal numbers are equal answers. No second outcome fits: two answers, and two outputs, that meet the contract of `write` on equal inputs are equal; and every input has one.
-- Assumes nothing.
use mathlib.Core.Path.{◌≡◌, refl, sym, ap, ◌∙◌}
use mathlib.Core.List.{List}
use Prim.Native.Nat.{ℕ, zero, suc, ◌<◌}
use native.Mathlib.Omega.{arith}
use lib.Dec.{lit<}
use lib.ListN.{length}
use Rattle.std.specs.Prelude.{Ok, Err}
use Rattle.format.specs.Refused.{Answer}
use Rattle.format.proofs.Numbers.{refusal_at, same_refusal, number_at}
use Rattle.format.proofs.Refusals.{Below, lowest_below}
use Rattle.frames.specs.Judge.{refusals}
use Rattle.game.specs.declared.Game.{Game}
use Rattle.game.specs.Stores.{Stores}
use Rattle.ser.specs.Write.{file, judged, refusal, write_numbers, WrittenNumbers, written_numbers, left, WriterOutcome}

-- answers with the same numbers are equal
pub same_answer : (q r : Answer ℕ) → written_numbers q ≡ written_numbers r → q ≡ r
same_answer (Ok n) (Ok m) e = ap Ok (ap (λ (w : WrittenNumbers). w.len) e)
same_answer (Err n) (Err m) e = ap Err (same_refusal n m (ap (λ (w : WrittenNumbers). w.number) e))
same_answer (Ok n) (Err m) e = let k : ◌≡◌ {A = ℕ} 0 1 = ap (λ (w : WrittenNumbers). w.kind) e in absurd (omega arith)
same_answer (Err n) (Ok m) e = let k : ◌≡◌ {A = ℕ} 1 0 = ap (λ (w : WrittenNumbers). w.kind) e in absurd (omega arith)

pub only : {g : Game} {s : Stores} {out a b : List ℕ} {q r : Answer ℕ} → WriterOutcome g s out q a → WriterOutcome g s out r b → (q ≡ r) × (a ≡ b)
only {q = q} {r = r} x y = (same_answer q r (x.answer_is ∙ sym y.answer_is), x.out_is ∙ sym y.out_is)

-- the answer of a refusal's number, 0 where none applies, and the file's length
pub write_answer : ℕ → ℕ → Answer ℕ
write_answer zero n = Ok n
write_answer (suc k) n = Err (refusal_at (suc k))

pub answer_numbers : (k n : ℕ) → k < 28 → written_numbers (write_answer k n) ≡ write_numbers k n
unfolding write_answer
answer_numbers zero n l = refl
answer_numbers (suc k) n l = ap (λ (i : ℕ). record { kind = 1; number = i; len = 0 }) (number_at (suc k) (λ e. omega (arith, e)) l)

refusal_named : (g : Game) (s : Stores) (room : ℕ) → refusal g s room < 28
unfolding Below refusal judged refusals
refusal_named g s room =
    lowest_below 28 _ (lit< tt, (lit< tt, (lit< tt, (lit< tt, (lit< tt, (lit< tt, (lit< tt, (lit< tt, (lit< tt, (lit< tt, (lit< tt, (lit< tt, lit< tt))))))))))))

pub some : (g : Game) (s : Stores) (out : List ℕ)
    → WriterOutcome g s out (write_answer (refusal g s (length out)) (length (file g s))) (left (refusal g s (length out)) out (file g s))
some g s out = record { answer_is = answer_numbers _ _ (refusal_named g s (length out)); out_is = refl }
