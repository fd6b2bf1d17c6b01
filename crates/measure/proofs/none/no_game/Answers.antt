use borrow.Author.Rules.{rules}
use Rattle.measure.proofs.none.no_game.Goals as goal

pub returns : goal.returns
returns c =
    λ i. record {
      frames = c.no_frames.ensures i;
      start = c.no_start.ensures i;
      end = c.no_end.ensures i;
      double_end = 0;
      codes_given = 0;
      metadata_given = 0;
      actual_size = 0;
    }
