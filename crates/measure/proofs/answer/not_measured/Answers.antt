use borrow.Author.Rules.{rules}
use Rattle.measure.proofs.answer.not_measured.Goals as goal

pub returns : goal.returns
returns c =
    let a = c.args in
    λ i. record {
      refused = a.number;
      partly = 0;
      offset = a.offset;
      frames = c.no_frames.ensures i;
      codes_given = 0;
      actual_size = 0;
      lengths = c.no_lengths.ensures i;
      places = c.no_places.ensures i;
    }
