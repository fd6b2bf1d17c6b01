-- `ser::length::frames_len` meets its contract: the families' parts, added up.
use native.Mathlib.Omega.{arith}
use borrow.Author.Rules.{rules}
use Rattle.ser.proofs.Sums.{frames_are}
use Rattle.ser.proofs.length.frames_len.Goals as goal

pub returns : goal.returns
returns c =
    let a = c.args in (
      frames_are a.f a.presence.now _ _ _ _ _ _ _ _ _ c.players_present-players.ensures.0 c.records_len-starts.ensures.0
          c.records_len-pres.ensures.0 c.records_len-fods.ensures.0 c.records_len-whispys.ensures.0
          c.records_len-stadiums.ensures.0 c.records_len-items.ensures.0 c.records_len-posts.ensures.0 c.records_len-ends.ensures.0,
      omega arith,
    )
