use native.Mathlib.Omega.{arith}
use Rattle.read_event.proofs.Parts.{long_start, long_end, long_item, long_fod, long_whispy, long_stadium}
use Rattle.read_turn.proofs.Turns.{turn_made}
use Rattle.read_turn.proofs.turn.turn.Goals as goal

pub overflow_add-at-2 : goal.overflow_add-at-2
overflow_add-at-2 c =
    let h = c.requires.1 in omega (arith, h.long, h.inside, c.well_formed)

pub put_rows-n-requires : goal.put_rows-n-requires
put_rows-n-requires c =
    let h = c.requires in
    let s = h.0 in
    let w = h.1 in
    let r = h.2 in
    (omega arith, h.3, (long_start _ _ _ w _ s, r.starts), (long_end _ _ _ w _ s, r.ends), (long_item _ _ _ w _ s, r.items), (long_fod _ _ _ w _ s, r.fods), (long_whispy _ _ _ w _ s, r.whispys), (long_stadium _ _ _ w _ s, r.stadiums))

pub returns : goal.returns
returns c =
    turn_made _ _ _ _ _ _ _ _ c.get_be-id.ensures c.begin-o.ensures c.put_rows-n.ensures
