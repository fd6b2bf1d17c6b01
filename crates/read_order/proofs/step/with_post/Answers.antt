use Rattle.read_order.proofs.Steps.{post_less}
use Rattle.read_order.proofs.step.with_post.Goals as goal

pub returns : goal.returns
returns c = let a = c.args in let h = c.requires in post_less a.file.now a.span a.m a.w a.next h.0 h.2
