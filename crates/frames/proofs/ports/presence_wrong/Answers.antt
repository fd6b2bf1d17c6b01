use mathlib.Core.Path.{sym, ap, ◌∙◌}
use mathlib.Core.Bool.{not}
use Prim.Native.Nat.{ℕ}
use lib.Dec.{eqb}
use lib.ListN.{length}
use Rattle.format.proofs.Tests.{one_here, one_skip, one_last}
use Rattle.players.specs.Presence.{presence_wrong}
use Rattle.frames.proofs.ports.presence_wrong.Goals as goal

pub returns-then-are_ports_uneven : goal.returns-then-are_ports_uneven
unfolding presence_wrong
returns-then-are_ports_uneven c = one_here _ _ (sym c.are_ports_uneven.ensures ∙ c.if-are_ports_uneven.true)

pub presence_bytes-requires : goal.presence_bytes-requires
presence_bytes-requires c = (c.requires, sym c.are_ports_uneven.ensures ∙ c.if-are_ports_uneven.false)

pub returns : goal.returns
unfolding presence_wrong
returns c =
    one_skip _ _ _ (sym c.are_ports_uneven.ensures ∙ c.if-are_ports_uneven.false)
    (one_last _ _ (ap (λ (n : ℕ). not (eqb (length c.args.presence.now) n)) c.presence_bytes.ensures))

pub are_ports_uneven-requires : goal.are_ports_uneven-requires
are_ports_uneven-requires c = c.requires
