-- `map_reader::read::read_body` meets its contract: judged first, then filled.
use mathlib.Core.Path.{refl}
use native.Mathlib.Omega.{arith}
use Rattle.map.proofs.Numbers.{some_number}
use Rattle.map_reader.proofs.Going.{passed_on}
use Rattle.map_reader.proofs.Answers.{answer_wrong, answer_long, answer_short, fill_room, answer_yes}
use Rattle.wire.proofs.Writers.{wrote_length}
use Rattle.map_reader.proofs.read.read_body.Goals as goal

pub returns-in_err-g : goal.returns-in_err-g
returns-in_err-g c = rw (passed_on _ c.from_residual.ensures.1) (answer_wrong _ _ c.in_err-g.ensures.0 c.in_err-g.ensures.2 (some_number _))

pub returns-then-b-gt65535 : goal.returns-then-b-gt65535
returns-then-b-gt65535 c = answer_long _ _ (c.in_ok-g.ensures.1 refl) c.if-b-gt65535.true

pub overflow_mul-g : goal.overflow_mul-g
overflow_mul-g c = record { fits = omega (arith, (c.in_ok-g.ensures.1 refl).few, c.if-b-gt65535.false) }

pub returns-then-rows-g : goal.returns-then-rows-g
returns-then-rows-g c = answer_short _ _ (c.in_ok-g.ensures.1 refl) c.if-b-gt65535.false c.if-rows-g.true

pub fill_map-f-requires : goal.fill_map-f-requires
fill_map-f-requires c = (
  (c.in_ok-g.ensures.1 refl).ok,
  omega arith,
  omega (arith, c.if-b-gt65535.false),
  fill_room _ _ (c.in_ok-g.ensures.1
      refl) c.if-b-gt65535.false c.if-rows-g.false,
)

pub shape_of-rows : goal.shape_of-rows
shape_of-rows c = wrote_length c.fill_map-f.ensures.3

pub returns : goal.returns
returns c =
    answer_yes _ _ (c.in_ok-g.ensures.1 refl) c.if-b-gt65535.false c.if-rows-g.false
    c.fill_map-f.ensures.1 c.fill_map-f.ensures.3
