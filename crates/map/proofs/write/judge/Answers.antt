use native.Mathlib.Omega.{arith}
use Rattle.format.specs.declared.refusal.Refusal.TheVariants.{TooDeep, LongText}
use Rattle.map.proofs.Numbers.{some_told, none_told, this_told, other_told}
use Rattle.map.proofs.Outcomes.{deep, long, twice, no_map, other_rows, too_long_lem, no_room, all_well}
use Rattle.map.proofs.write.judge.Goals as goal

pub returns-then-eq : goal.returns-then-eq
returns-then-eq c = deep _ _ _ _ c.judge_map-j.ensures.0 (this_told _ TooDeep c.eq.ensures c.if-eq.true)

pub returns-then-eq-2 : goal.returns-then-eq-2
returns-then-eq-2 c = long _ _ _ _ c.judge_map-j.ensures.0 (other_told _ TooDeep c.eq.ensures c.if-eq.false) (this_told _ LongText c.eq-2.ensures c.if-eq-2.true)

pub returns-then-doubled : goal.returns-then-doubled
returns-then-doubled c = twice _ _ _ _ c.judge_map-j.ensures.0 (other_told _ TooDeep c.eq.ensures c.if-eq.false) (other_told _ LongText c.eq-2.ensures c.if-eq-2.false) c.doubled.ensures c.if-doubled.true

pub returns-then-is_some : goal.returns-then-is_some
returns-then-is_some c =
    no_map _ _ _ _ c.judge_map-j.ensures.0 (other_told _ TooDeep c.eq.ensures c.if-eq.false) (other_told _ LongText c.eq-2.ensures c.if-eq-2.false)
    c.doubled.ensures c.if-doubled.false (some_told _ c.is_some.ensures c.if-is_some.true)

pub returns-then-rows-ne0 : goal.returns-then-rows-ne0
returns-then-rows-ne0 c =
    other_rows _ _ _ _ c.judge_map-j.ensures.0 (other_told _ TooDeep c.eq.ensures c.if-eq.false) (other_told _ LongText c.eq-2.ensures c.if-eq-2.false)
    c.doubled.ensures c.if-doubled.false (none_told _ c.is_some.ensures c.if-is_some.false) c.judge_map-j.ensures.1 (λ q. c.if-rows-ne0.true (omega (arith, q)))

pub returns-then-j-rows : goal.returns-then-j-rows
returns-then-j-rows c =
    other_rows _ _ _ _ c.judge_map-j.ensures.0 (other_told _ TooDeep c.eq.ensures c.if-eq.false) (other_told _ LongText c.eq-2.ensures c.if-eq-2.false)
    c.doubled.ensures c.if-doubled.false (none_told _ c.is_some.ensures c.if-is_some.false) c.judge_map-j.ensures.1 (λ q. c.if-j-rows.true (omega (arith, q)))

pub returns-then-j-gt65535 : goal.returns-then-j-gt65535
returns-then-j-gt65535 c =
    let ok = none_told _ c.is_some.ensures c.if-is_some.false in
    too_long_lem _ _ _ _ c.judge_map-j.ensures.0 (other_told _ TooDeep c.eq.ensures c.if-eq.false) (other_told _ LongText c.eq-2.ensures c.if-eq-2.false)
    c.doubled.ensures c.if-doubled.false ok c.judge_map-j.ensures.1
    (omega (arith, c.if-rows-ne0.false, c.if-j-rows.false)) (c.judge_map-j.ensures.2 ok) c.if-j-gt65535.true

pub returns-then-room-j : goal.returns-then-room-j
returns-then-room-j c =
    let ok = none_told _ c.is_some.ensures c.if-is_some.false in
    no_room _ _ _ _ c.judge_map-j.ensures.0 (other_told _ TooDeep c.eq.ensures c.if-eq.false) (other_told _ LongText c.eq-2.ensures c.if-eq-2.false)
    c.doubled.ensures c.if-doubled.false ok c.judge_map-j.ensures.1
    (omega (arith, c.if-rows-ne0.false, c.if-j-rows.false)) (c.judge_map-j.ensures.2 ok) c.if-j-gt65535.false c.if-room-j.true

pub returns : goal.returns
returns c =
    let ok = none_told _ c.is_some.ensures c.if-is_some.false in
    all_well _ _ _ _ c.judge_map-j.ensures.0 (other_told _ TooDeep c.eq.ensures c.if-eq.false) (other_told _ LongText c.eq-2.ensures c.if-eq-2.false)
    c.doubled.ensures c.if-doubled.false ok c.judge_map-j.ensures.1
    (omega (arith, c.if-rows-ne0.false, c.if-j-rows.false)) (c.judge_map-j.ensures.2 ok) c.if-j-gt65535.false c.if-room-j.false
