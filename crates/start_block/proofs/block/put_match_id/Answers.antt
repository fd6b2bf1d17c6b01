use native.Mathlib.Omega.{arith}
use Rattle.wire.proofs.Writers.{wrote_as}
use Rattle.patch.proofs.Patches.{patched_one, ended}
use Rattle.patch.proofs.Viewed.{read_further}
use Rattle.start_block.proofs.block.put_match_id.Goals as goal

pub returns : goal.returns
returns c =
    let w = c.put_filled.ensures in
    (patched_one (wrote_as (ended c.args.id) w.0), read_further _ 701 c.args.id 51 (omega arith) c.requires.2 w.1)
