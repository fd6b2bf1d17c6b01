-- `names::faults::fault_words` meets its contract: the code's list is the definition's.
use mathlib.Core.Path.{refl, ap, ◌∙◌}
use native.Mathlib.Omega.{arith}
use Rattle.names.specs.Bytes.{bytes, filled}
use Rattle.names.specs.Names as names
use Rattle.names.proofs.Called.{joined}
use Rattle.names.proofs.Said.{unknown_short, said_words, said_short}
use Rattle.names.proofs.faults.fault_words.Goals as goal

pub say-requires : goal.say-requires
unfolding joined names.fault_words bytes
say-requires c = omega (arith, said_short names.fault_words 22 122 refl tt unknown_short c.args.number)

pub returns : goal.returns
unfolding joined names.fault_words bytes
returns c = c.say.ensures ∙ ap (λ l. record { text = filled 128 l }) (said_words names.fault_words 22 122 refl tt c.args.number)
