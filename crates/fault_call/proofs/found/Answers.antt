use mathlib.Core.Path.{◌∙◌}
use Rattle.read_judge.proofs.Steps.{headed}
use borrow.Author.Rules.{rules}
use Rattle.fault_call.proofs.found.Goals as goal

pub returns-then-h-ne0 : goal.returns-then-h-ne0
returns-then-h-ne0 c = λ z. absurd (c.if-h-ne0.true (c.parse_head-h.ensures.refusal_is ∙ z))

pub found_in-requires : goal.found_in-requires
found_in-requires c =
    let h = c.parse_head-h in
    headed c.args.file.now _ h.result h.ensures (λ i. (c.shared_slice_known-1.given i).fits) c.if-h-ne0.false
