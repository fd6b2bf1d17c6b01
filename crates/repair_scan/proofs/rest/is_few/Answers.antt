use native.Mathlib.Omega.{arith}
use Rattle.repair_scan.proofs.Laws.{few_last, few_whispys, few_fods, few_items, few_frames}
use Rattle.repair_scan.proofs.rest.is_few.Goals as goal

pub returns-then-t-le1048576-3 : goal.returns-then-t-le1048576-3
returns-then-t-le1048576-3 c = few_last _ (omega arith) (omega arith) (omega arith) (omega arith)

pub returns-else-t-le1048576-3 : goal.returns-else-t-le1048576-3
returns-else-t-le1048576-3 c = few_whispys _ (omega arith) (omega arith) (omega arith) (omega arith)

pub returns-else-t-le1048576-2 : goal.returns-else-t-le1048576-2
returns-else-t-le1048576-2 c = few_fods _ (omega arith) (omega arith) (omega arith)

pub returns-else-t-le4194304 : goal.returns-else-t-le4194304
returns-else-t-le4194304 c = few_items _ (omega arith) (omega arith)

pub returns-else-t-le1048576 : goal.returns-else-t-le1048576
returns-else-t-le1048576 c = few_frames _ (omega arith)
