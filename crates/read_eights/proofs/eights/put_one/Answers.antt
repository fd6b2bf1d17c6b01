use native.Mathlib.Omega.{arith}
use Rattle.read_event.specs.Parts.{seats, seat_told}
use Rattle.read_event.proofs.Parts.{long_pre, long_post}
use Rattle.read_places.proofs.Scans.{each_get}
use borrow.Author.Rules.{rules}
use Rattle.read_eights.proofs.eights.put_one.Reads as reads
use Rattle.read_eights.proofs.eights.put_one.Lts as lts
use Rattle.read_event.proofs.seats.put_players.Reads as put-players-reads
use Rattle.read_eights.proofs.eights.put_one.Goals as goal

pub bounds-file-at : goal.bounds-file-at
bounds-file-at c =
    let w = each_get _ _ c.args.i c.requires.1 c.requires.0 in omega (arith, w.long, w.inside)

pub put_players-requires : goal.put_players-requires
put_players-requires c =
    let w = each_get _ _ c.args.i c.requires.1 c.requires.0 in
    let r = c.requires.3 in
    ((long_pre _ _ _ w _ c.requires.2, r.pres), (long_post _ _ _ w _ c.requires.2, r.posts), r.bits, r.modest)

pub returns : goal.returns
unfolding seat_told
returns c = let e = c.put_players.ensures in λ k. seats (e.0 k) (e.1 k) (e.2 k)
