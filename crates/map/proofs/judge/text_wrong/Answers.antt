use Rattle.map.proofs.Judging.{text_long, text_away, text_fine}
use Rattle.map.proofs.judge.text_wrong.Goals as goal

pub returns-then-len-gt255 : goal.returns-then-len-gt255
returns-then-len-gt255 c = text_long _ _ _ c.if-len-gt255.true

pub returns-then-texts-at : goal.returns-then-texts-at
returns-then-texts-at c = text_away _ _ _ c.if-len-gt255.false c.if-texts-at.true

pub returns : goal.returns
returns c = text_fine _ _ _ c.if-len-gt255.false c.if-texts-at.false
