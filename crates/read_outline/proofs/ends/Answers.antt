use native.Mathlib.Omega.{arith}
use Rattle.read_outline.proofs.Laws.{ends_none, ends_wrong, ends_one, ends_two, ends_unlike}
use Rattle.read_outline.proofs.ends.Goals as goal

pub returns-then-first-stop : goal.returns-then-first-stop
returns-then-first-stop c = ends_none _ _ _ _ _ c.if-first-stop.true

pub returns-then-next-stop : goal.returns-then-next-stop
returns-then-next-stop c = ends_one _ _ _ _ _ c.if-first-stop.false _ c.is_right.ensures.0 c.if-is_right.true _ c.end_size.ensures.0 c.if-next-stop.true

pub is_second-requires : goal.is_second-requires
is_second-requires c = let l = c.is_right.ensures.1 c.if-is_right.true in let h = c.requires in (record { under = omega (arith, l, c.end_size.ensures.0); long = h.1; all_codes = h.2 }, l)

pub returns-then-is_second : goal.returns-then-is_second
returns-then-is_second c =
    ends_two _ _ _ _ _ c.if-first-stop.false _ c.is_right.ensures.0 c.if-is_right.true _ c.end_size.ensures.0 c.if-next-stop.false _ c.is_second.ensures c.if-is_second.true

pub returns-else-is_second : goal.returns-else-is_second
returns-else-is_second c =
    ends_unlike _ _ _ _ _ c.if-first-stop.false _ c.is_right.ensures.0 c.if-is_right.true _ c.end_size.ensures.0 c.if-next-stop.false _ c.is_second.ensures c.if-is_second.false

pub returns-else-is_right : goal.returns-else-is_right
returns-else-is_right c = ends_wrong _ _ _ _ _ c.if-first-stop.false _ c.is_right.ensures.0 c.if-is_right.false
