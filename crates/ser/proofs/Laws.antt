-- The laws of judging a game.
-- Assumes nothing.
use mathlib.Core.Path.{◌≡◌, sym, ap, ap₂, ◌∙◌}
use mathlib.Core.Bool.{Bool}
use mathlib.Core.List.{List, ◌++◌}
use Prim.Native.Nat.{ℕ}
use borrow.Author.Tests.{eq-eqb, ne_eqb}
use lib.ListN.{length}
use Rattle.format.specs.Refusal.{Refusal, lowest}
use Rattle.format.specs.declared.version.Version.{Version}
use Rattle.frames.specs.Judge.{refusals}
use Rattle.game.specs.Stores.{Lent}
use Rattle.game.specs.declared.frames.Frames.{Frames}
use Rattle.format.proofs.Refusals.{Numbered, lowest_after, lowest_before}
use Rattle.codes.specs.Blocks.{codes_wrong}
use Rattle.ser.specs.Write.{given_bytes}

-- ---- one test after another

pub with_bytes : (f : Frames) (s : Lent) {n x y a b : ℕ} → n ≡ lowest (refusals f s x y) → x ≡ a → y ≡ b → n ≡ lowest (refusals f s a b)
with_bytes f s e p q = e ∙ ap₂ (λ (i j : ℕ). lowest (refusals f s i j)) p q

pub stopped : (rs ts : List Refusal) {n : ℕ} → n ≡ lowest rs → (n ≡ 0 → ⊥) → n ≡ lowest (rs ++ ts)
stopped rs ts e h = e ∙ sym (lowest_before rs ts (λ z. h (e ∙ z)))

pub went_on : (rs ts : List Refusal) {n : ℕ} (r : ℕ) → n ≡ lowest rs → n ≡ 0 → Numbered rs → r ≡ lowest ts → r ≡ lowest (rs ++ ts)
went_on rs ts r e z l h = h ∙ sym (lowest_after rs ts l (sym e ∙ z))

pub codes_as : (v : Version) (x y : Bool) (codes : List ℕ) (actual : ℕ) {r : Bool} → r ≡ codes_wrong v x codes actual → x ≡ y → r ≡ codes_wrong v y codes actual
codes_as v x y codes actual e p = e ∙ ap (λ (b : Bool). codes_wrong v b codes actual) p

-- ---- single tests

pub none_given : (mark : ℕ) (bytes : List ℕ) → mark ≡ 0 → 0 ≡ given_bytes mark bytes
none_given mark bytes e = rw (eq-eqb mark 0 e)

pub all_given : (mark : ℕ) (bytes : List ℕ) → (mark ≡ 0 → ⊥) → length bytes ≡ given_bytes mark bytes
all_given mark bytes h = rw (ne_eqb mark 0 h)
