-- `append::length::run_len` meets its contract: the families' parts, added up.
use mathlib.Core.Path.{refl}
use Prim.Native.Nat.{◌+◌, ◌*◌, ◌≤◌}
use native.Mathlib.Omega.{arith}
use Rattle.layout.specs.declared.columns.Family.TheVariants.{Item, FodPlatform, DreamlandWhispy, StadiumTransformation}
use Rattle.game.specs.Held.{offsets_in}
use Rattle.append.proofs.Lengths.{small, few_rows, ranges_in, run_adds}
use Rattle.append.proofs.length.run_len.Goals as goal
use Rattle.append.proofs.length.run_len.Goals.{After-records_len-ends, After-struct_known-1, After-struct_known-2-1}

-- the players' records are few
pres : (c : After-struct_known-1) → c.players_between-players.result * (7 + c.args.shapes.pre.bytes) ≤ 2147483648
pres c = small _ _ c.players_between-players.ensures.1 (omega (arith, c.requires.0.3.pre.columns.small))

posts : (c : After-struct_known-2-1) → c.players_between-players.result * (7 + c.args.shapes.post.bytes) ≤ 2147483648
posts c = small _ _ c.players_between-players.ensures.1 (omega (arith, c.requires.0.3.post.columns.small))

pub rows_len-fods-requires : goal.rows_len-fods-requires
rows_len-fods-requires c =
    let m = c.requires.0.3.fod in
    (m.columns.small, few_rows c.args.f FodPlatform _ m c.requires.0.0, ranges_in c.args.f FodPlatform _ m c.requires.0.0 c.requires.1.1, c.requires.2, c.requires.3)

pub rows_len-whispys-requires : goal.rows_len-whispys-requires
rows_len-whispys-requires c =
    let m = c.requires.0.3.whispy in
    (m.columns.small, few_rows c.args.f DreamlandWhispy _ m c.requires.0.0, ranges_in c.args.f DreamlandWhispy _ m c.requires.0.0 c.requires.1.2, c.requires.2, c.requires.3)

pub rows_len-stadiums-requires : goal.rows_len-stadiums-requires
rows_len-stadiums-requires c =
    let m = c.requires.0.3.stadium in
    (m.columns.small, few_rows c.args.f StadiumTransformation _ m c.requires.0.0, ranges_in c.args.f StadiumTransformation _ m c.requires.0.0 c.requires.1.3, c.requires.2, c.requires.3)

pub rows_len-items-requires : goal.rows_len-items-requires
rows_len-items-requires c =
    let m = c.requires.0.3.item in
    (m.columns.small, few_rows c.args.f Item _ m c.requires.0.0, ranges_in c.args.f Item _ m c.requires.0.0 c.requires.1.0, c.requires.2, c.requires.3)

pub records_len-ends-requires : goal.records_len-ends-requires
records_len-ends-requires c = (c.requires.0.3.end.columns.small, omega (arith, c.requires.0.0.frames, c.requires.3))

posts_at_After-records_len-ends : (c : After-records_len-ends) → c.players_between-players.result * (7 + c.args.shapes.post.bytes) ≤ 2147483648
posts_at_After-records_len-ends c = small _ _ c.players_between-players.ensures.1 (omega (arith, c.requires.0.3.post.columns.small))

-- the players' records are few
pres_at_After-records_len-ends : (c : After-records_len-ends) → c.players_between-players.result * (7 + c.args.shapes.pre.bytes) ≤ 2147483648
pres_at_After-records_len-ends c = small _ _ c.players_between-players.ensures.1 (omega (arith, c.requires.0.3.pre.columns.small))

-- all parts together
total : (c : After-records_len-ends)
    → let z = c.args.shapes in
    let n = c.players_between-players.result in
    c.records_len-starts.result + (n * (7 + z.pre.bytes) + (c.rows_len-fods.result + (c.rows_len-whispys.result + (c.rows_len-stadiums.result
    + (c.rows_len-items.result + (n * (7 + z.post.bytes) + c.records_len-ends.result)))))) ≤ 17179869184
total c =
    omega (
      arith,
      c.records_len-starts.ensures.1,
      pres_at_After-records_len-ends c,
      c.rows_len-fods.ensures.1,
      c.rows_len-whispys.ensures.1,
      c.rows_len-stadiums.ensures.1,
      c.rows_len-items.ensures.1,
      posts_at_After-records_len-ends c,
      c.records_len-ends.ensures.1,
    )

pub returns : goal.returns
returns c =
    let a = c.args in
    let os = offsets_in a.offsets.now in
    run_adds a.f os a.presence.now a.shapes c.requires.0.3 a.a a.b _ _ refl c.players_between-players.ensures.0 _ _ _ _ _ _
    c.records_len-starts.ensures.0 c.rows_len-fods.ensures.0 c.rows_len-whispys.ensures.0
    c.rows_len-stadiums.ensures.0 c.rows_len-items.ensures.0 c.records_len-ends.ensures.0

pub overflow_add-pres : goal.overflow_add-pres
overflow_add-pres c = omega (arith, c.requires.0.3.pre.columns.small)

pub overflow_mul-pres : goal.overflow_mul-pres
overflow_mul-pres c = omega (arith, pres c)

pub overflow_add-posts : goal.overflow_add-posts
overflow_add-posts c = omega (arith, c.requires.0.3.post.columns.small)

pub overflow_mul-posts : goal.overflow_mul-posts
overflow_mul-posts c = omega (arith, posts c)

pub overflow_sub-b-2 : goal.overflow_sub-b-2
overflow_sub-b-2 c = omega (arith, c.requires.2)

pub overflow_add-result : goal.overflow_add-result
overflow_add-result c = omega (arith, total c)

pub overflow_add-result-2 : goal.overflow_add-result-2
overflow_add-result-2 c = omega (arith, total c)

pub overflow_add-result-3 : goal.overflow_add-result-3
overflow_add-result-3 c = omega (arith, total c)

pub overflow_add-result-4 : goal.overflow_add-result-4
overflow_add-result-4 c = omega (arith, total c)

pub overflow_add-result-5 : goal.overflow_add-result-5
overflow_add-result-5 c = omega (arith, total c)

pub overflow_add-result-6 : goal.overflow_add-result-6
overflow_add-result-6 c = omega (arith, total c)

pub overflow_add-result-7 : goal.overflow_add-result-7
overflow_add-result-7 c = omega (arith, total c)
