use mathlib.Core.Path.{ap₂, ◌∙◌}
use Prim.Native.Nat.{ℕ, ◌+◌, ◌*◌}
use Rattle.format.specs.File.{index_of}
use Rattle.read_event.proofs.seats.block_at.Goals as goal

pub returns : goal.returns
returns c = c.block_of.ensures ∙ ap₂ (λ (x y : ℕ). index_of (2 * x + y) c.args.numbers.now) c.wide.ensures.0 c.wide-2.ensures.0
