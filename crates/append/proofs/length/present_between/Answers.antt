use Rattle.append.proofs.Lengths.{covers_fewer, between}
use Rattle.append.proofs.length.present_between.Goals as goal

pub present_in-before-requires : goal.present_in-before-requires
present_in-before-requires c = covers_fewer _ c.requires.0 c.requires.1

pub overflow_sub-result : goal.overflow_sub-result
overflow_sub-result c = (between _ _ _ _ _ c.requires.1 c.present_in-before.ensures c.present_in.ensures).0

pub returns : goal.returns
returns c = (between _ _ _ _ _ c.requires.1 c.present_in-before.ensures c.present_in.ensures).1
