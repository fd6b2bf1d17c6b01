use Rattle.ser.proofs.Laws.{none_given, all_given}
use Rattle.ser.proofs.judge.given_bytes.Goals as goal

pub returns-then-mark-eq0 : goal.returns-then-mark-eq0
returns-then-mark-eq0 c = none_given _ c.args.bytes.now c.if-mark-eq0.true

pub returns : goal.returns
returns c = all_given _ c.args.bytes.now c.if-mark-eq0.false
