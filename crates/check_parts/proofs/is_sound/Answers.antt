use borrow.Author.Rules.{rules}
use native.Mathlib.Omega.{arith}
use Rattle.check_parts.proofs.Tests.{start_short, start_long, start_fits_lem}
use Rattle.check_parts.proofs.is_sound.Goals as goal

pub are_codes-requires : goal.are_codes-requires
are_codes-requires c = let s = c.requires in (s.0, s.1, omega arith)

pub returns-then-len-lt65536 : goal.returns-then-len-lt65536
returns-then-len-lt65536 c =
    let a = c.args in
    let w = c.are_codes in
    start_fits_lem a.v a.file.now a.spans.now a.stop a.at a.len _ c.block_length.ensures (omega arith) (omega arith) w.result w.ensures

pub returns-else-len-lt65536 : goal.returns-else-len-lt65536
returns-else-len-lt65536 c =
    let a = c.args in
    start_long a.v a.file.now a.spans.now a.stop a.at a.len _ c.block_length.ensures (omega arith) (omega arith)

pub returns-else-block_length-len : goal.returns-else-block_length-len
returns-else-block_length-len c =
    let a = c.args in
    start_short a.v a.file.now a.spans.now a.stop a.at a.len _ c.block_length.ensures (omega arith)
