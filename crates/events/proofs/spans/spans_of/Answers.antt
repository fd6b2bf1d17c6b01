use mathlib.Core.Path.{ap₂}
use Prim.Native.Nat.{ℕ, ◌+◌, ◌*◌}
use native.Mathlib.Omega.{arith}
use Rattle.events.proofs.PlaceLaws.{team_small}
use Rattle.events.proofs.spans.spans_of.Goals as goal

pub overflow_mul-result : goal.overflow_mul-result
overflow_mul-result c =
    omega (arith, team_small c.seats_in-n.result c.args.shapes.pre.bytes c.seats_in-n.ensures.1 c.requires.1.pre)

pub overflow_add-result-2 : goal.overflow_add-result-2
overflow_add-result-2 c =
    omega (arith, team_small c.seats_in-n.result c.args.shapes.pre.bytes c.seats_in-n.ensures.1 c.requires.1.pre, c.row_size-start.ensures.1)

pub overflow_mul-result-2 : goal.overflow_mul-result-2
overflow_mul-result-2 c =
    omega (arith, team_small c.seats_in-n.result c.args.shapes.post.bytes c.seats_in-n.ensures.1 c.requires.1.post)

pub overflow_add-result-4 : goal.overflow_add-result-4
overflow_add-result-4 c =
    omega (arith, team_small c.seats_in-n.result c.args.shapes.post.bytes c.seats_in-n.ensures.1 c.requires.1.post, c.row_size-end.ensures.1)

pub returns : goal.returns
returns c =
    let n = c.seats_in-n.ensures.0 in
    record {
      ahead = ap₂ (λ (a k : ℕ). a + k * (7 + c.args.shapes.pre.bytes)) c.row_size-start.ensures.0 n;
      behind = ap₂ (λ (k a : ℕ). k * (7 + c.args.shapes.post.bytes) + a) n c.row_size-end.ensures.0;
      fod = c.row_size-fod.ensures.0;
      whispy = c.row_size-whispy.ensures.0;
      stadium = c.row_size-stadium.ensures.0;
      item = c.row_size-item.ensures.0;
      short = record { fod = c.row_size-fod.ensures.1; whispy = c.row_size-whispy.ensures.1; stadium = c.row_size-stadium.ensures.1; item = c.row_size-item.ensures.1 };
    }

pub overflow_add-result : goal.overflow_add-result
overflow_add-result c = omega (arith, c.requires.1.pre)

pub overflow_add-result-3 : goal.overflow_add-result-3
overflow_add-result-3 c = omega (arith, c.requires.1.post)
