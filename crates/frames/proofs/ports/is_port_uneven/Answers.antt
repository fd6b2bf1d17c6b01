use Rattle.frames.proofs.PortLaws.{leader_uneven, follower_uneven, no_follower}
use Rattle.frames.proofs.ports.is_port_uneven.Goals as goal

pub returns-then-is_uneven : goal.returns-then-is_uneven
returns-then-is_uneven c = leader_uneven _ _ _ c.is_uneven.ensures c.if-is_uneven.true

pub returns-then-has_follower : goal.returns-then-has_follower
returns-then-has_follower c =
    follower_uneven _ _ _ _ _ c.is_uneven.ensures c.if-is_uneven.false c.has_follower.ensures c.if-has_follower.true c.is_uneven-then-has_follower.ensures

pub returns : goal.returns
returns c =
    no_follower _ _ _ _ c.is_uneven.ensures c.if-is_uneven.false c.has_follower.ensures c.if-has_follower.false

pub is_uneven-requires : goal.is_uneven-requires
is_uneven-requires c = c.requires

pub is_uneven-requires-then-has_follower : goal.is_uneven-requires-then-has_follower
is_uneven-requires-then-has_follower c = c.requires
