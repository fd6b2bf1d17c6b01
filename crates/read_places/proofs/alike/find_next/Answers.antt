use native.Mathlib.Omega.{arith}
use Rattle.read_places.proofs.Steps.{followed_long, followed_batch}
use Rattle.read_places.proofs.alike.find_next.Goals as goal

pub overflow_mul-last : goal.overflow_mul-last
overflow_mul-last c = let f = c.follow-k.ensures.1 c.if-k-gt0.true in let a = f.ahead in omega (arith, a.inside, a.whole, c.well_formed)

pub overflow_add-last : goal.overflow_add-last
overflow_add-last c = let f = c.follow-k.ensures.1 c.if-k-gt0.true in let a = f.ahead in omega (arith, a.inside, a.whole, c.well_formed)

pub overflow_add-result : goal.overflow_add-result
overflow_add-result c = let f = c.follow-k.ensures.1 c.if-k-gt0.true in let a = f.ahead in omega (arith, a.inside, a.whole, c.well_formed)

pub overflow_add-last-then-k-gt0 : goal.overflow_add-last-then-k-gt0
overflow_add-last-then-k-gt0 c =
    let f = c.follow-k.ensures.1 c.if-k-gt0.true in
    let a = f.ahead in
    let s = followed_long _ _ _ _ _ _ _ _ _ _ c.requires.1 c.requires.3 f in omega (arith, a.inside, a.whole, s, c.well_formed)

pub get_be-requires : goal.get_be-requires
get_be-requires c =
    let f = c.follow-k.ensures.1 c.if-k-gt0.true in
    let a = f.ahead in
    let s = followed_long _ _ _ _ _ _ _ _ _ _ c.requires.1 c.requires.3 f in
    (omega arith, omega (arith, a.inside, a.whole, s))

pub returns-then-k-gt0 : goal.returns-then-k-gt0
returns-then-k-gt0 c =
    let f = c.follow-k.ensures.1 c.if-k-gt0.true in followed_batch _ _ _ _ _ _ _ _ _ _ _ _ c.requires.1 c.requires.3 f c.get_be.ensures
