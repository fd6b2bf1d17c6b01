use native.Mathlib.Omega.{arith}
use Rattle.index_passes.proofs.Laws.{passed_then}
use Rattle.index_passes.proofs.past_players.Goals as goal

pub past-posts-requires : goal.past-posts-requires
past-posts-requires c = let h = c.requires in (h.0, h.1, h.2, λ e. omega arith)

pub past-requires : goal.past-requires
past-requires c = let h = c.requires in (h.0, omega (arith, h.1, c.past-posts.ensures.onward), c.past-posts.ensures.within, λ e. omega arith)

pub returns : goal.returns
returns c = passed_then c.past-posts.ensures c.past.ensures
