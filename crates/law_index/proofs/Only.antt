-- No second outcome fits, and every input has one.
-- Assumes nothing.
use Prim.Native.Nat.{ℕ}
use mathlib.Core.Path.{◌≡◌, refl, sym, ◌∙◌}
use mathlib.Core.Bool.{cond}
use mathlib.Core.List.{List, ◌++◌}
use lib.Dec.{eqb}
use lib.ListN.{length, drop}
use Rattle.read_judge.specs.Found.{refusal_offset}
use Rattle.index_passes.specs.Rows.{index_in}
use Rattle.index_calls.specs.Index.{replay_refusal, write_refusal, accept_refusal, WriteIndexOutcome, AcceptOutcome}
use Rattle.index_calls.specs.declared.Written.{Written}
use Rattle.index_calls.specs.declared.Accepted.{Accepted}

pub only_write : (f out : List ℕ) (r s : Written) (a b : List ℕ) → WriteIndexOutcome f out r a → WriteIndexOutcome f out s b → (r ≡ s) × (a ≡ b)
only_write f out r s a b p q =
    (λ i. record { refused = (p.refused_is ∙ sym q.refused_is) i; offset = (p.offset_is ∙ sym q.offset_is) i; len = (p.len_is ∙ sym q.len_is) i }, p.after_is ∙ sym q.after_is)

pub some_write : (f out : List ℕ)
    → WriteIndexOutcome f out (record { refused = write_refusal f (length out); offset = refusal_offset f; len = cond (eqb (replay_refusal f) 0) (length (index_in f)) 0 })
    (cond (eqb (write_refusal f (length out)) 0) (index_in f ++ drop (length (index_in f)) out) out)
some_write f out = record { refused_is = refl; offset_is = refl; len_is = refl; after_is = refl }

pub only_accept : (f index : List ℕ) (r s : Accepted) → AcceptOutcome f index r → AcceptOutcome f index s → r ≡ s
only_accept f index r s p q = λ i. record { refused = (p.refused_is ∙ sym q.refused_is) i; offset = (p.offset_is ∙ sym q.offset_is) i }

pub some_accept : (f index : List ℕ) → AcceptOutcome f index (record { refused = accept_refusal f index; offset = refusal_offset f })
some_accept f index = record { refused_is = refl; offset_is = refl }
