use native.Mathlib.Omega.{arith}
use Rattle.names.proofs.Said.{said_filled}
use Rattle.names.proofs.refusals.say.Goals as goal

pub put_words-requires : goal.put_words-requires
put_words-requires c = record { fits = omega (arith, c.requires) }

pub returns : goal.returns
returns c = said_filled c.requires c.put_words.ensures
