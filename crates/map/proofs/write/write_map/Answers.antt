-- `map::write::write_map` meets its contract: judged first, then written.
use Rattle.map.proofs.Outcomes.{outcome_yes, put_ok}
use Rattle.map.proofs.write.write_map.Goals as goal

pub put_map-p-requires : goal.put_map-p-requires
put_map-p-requires c = put_ok _ _ _ _ c.in_ok-judge.ensures

pub returns : goal.returns
returns c = outcome_yes c.in_ok-judge.ensures c.put_map-p.ensures.0
