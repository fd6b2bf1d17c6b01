use Rattle.patch.proofs.Patches.{wrote_zeros}
use Rattle.patch.proofs.put_zeros.Goals as goal

pub returns : goal.returns
returns c = wrote_zeros _ _ c.args.at c.args.n c.requires.1 (c.fill.ensures.after (λ y e. e))
