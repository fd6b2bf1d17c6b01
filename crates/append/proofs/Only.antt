-- Equal numbers are equal answers. No second outcome fits: two answers, and two outputs, that meet the contract of `write_frames` or `write_frame` on equal inputs are equal; and every input has one.
-- Assumes nothing.
use mathlib.Core.Path.{◌≡◌, refl, sym, ap, ◌∙◌}
use mathlib.Core.List.{List}
use Prim.Native.Nat.{ℕ, zero, suc, ◌+◌, ◌<◌}
use native.Mathlib.Omega.{arith}
use lib.Dec.{lit<}
use lib.ListN.{length}
use Rattle.std.specs.Prelude.{Ok, Err}
use Rattle.format.specs.Refused.{Answer}
use Rattle.format.proofs.Numbers.{refusal_at, same_refusal, number_at}
use Rattle.format.proofs.Refusals.{Below, lowest_below}
use Rattle.frames.specs.Judge.{refusals}
use Rattle.game.specs.Stores.{Lent}
use Rattle.game.specs.declared.frames.Frames.{Frames}
use Rattle.append.specs.Run.{run_bytes, run_refusal, append_numbers, AppendedNumbers, appended_numbers, left_at, RunOutcome}

-- answers with the same numbers are equal
pub same_answer : (q r : Answer ℕ) → appended_numbers q ≡ appended_numbers r → q ≡ r
same_answer (Ok n) (Ok m) e = ap Ok (ap (λ (w : AppendedNumbers). w.end) e)
same_answer (Err n) (Err m) e = ap Err (same_refusal n m (ap (λ (w : AppendedNumbers). w.number) e))
same_answer (Ok n) (Err m) e = let k : ◌≡◌ {A = ℕ} 0 1 = ap (λ (w : AppendedNumbers). w.kind) e in absurd (omega arith)
same_answer (Err n) (Ok m) e = let k : ◌≡◌ {A = ℕ} 1 0 = ap (λ (w : AppendedNumbers). w.kind) e in absurd (omega arith)

-- the answer of a refusal's number, 0 where none applies, and the end place
pub append_answer : ℕ → ℕ → Answer ℕ
append_answer zero n = Ok n
append_answer (suc k) n = Err (refusal_at (suc k))

pub answer_numbers : (k n : ℕ) → k < 28 → appended_numbers (append_answer k n) ≡ append_numbers k n
unfolding append_answer
answer_numbers zero n l = refl
answer_numbers (suc k) n l = ap (λ (i : ℕ). record { kind = 1; number = i; end = 0 }) (number_at (suc k) (λ e. omega (arith, e)) l)

refusal_named : (f : Frames) (s : Lent) (a b place room : ℕ) → run_refusal f s a b place room < 28
unfolding Below run_refusal refusals
refusal_named f s a b place room = lowest_below 28 _ (lit< tt, (lit< tt, (lit< tt, (lit< tt, (lit< tt, (lit< tt, (lit< tt, (lit< tt, (lit< tt, lit< tt)))))))))

module _ {f : Frames} {s : Lent} {a b place : ℕ} {out : List ℕ} where
  pub only : {x y : List ℕ} {q r : Answer ℕ} → RunOutcome f s a b place out q x → RunOutcome f s a b place out r y → (q ≡ r) × (x ≡ y)
  only {q = q} {r = r} m n = (same_answer q r (m.answer_is ∙ sym n.answer_is), m.out_is ∙ sym n.out_is)

  pub some : RunOutcome f s a b place out (append_answer (run_refusal f s a b place (length out)) (place + length (run_bytes f s a b)))
      (left_at (run_refusal f s a b place (length out)) out place (run_bytes f s a b))
  some = record { answer_is = answer_numbers _ _ (refusal_named f s a b place (length out)); out_is = refl }
