use mathlib.Core.Path.{ap₂, ◌∙◌}
use mathlib.Core.Bool.{Bool, cond}
use Prim.Native.Nat.{ℕ, ◌+◌}
use borrow.Author.Rules.{rules}
use Rattle.final_file.proofs.length.tail_len.Goals as goal

pub returns : goal.returns
returns c =
    let a = c.args in
    (c.tail_len.ensures.0 ∙ ap₂ (λ (x : Bool) (n : ℕ). cond x (13 + n) 1) c.is_given.ensures c.given_bytes.ensures, c.tail_len.ensures.1)
