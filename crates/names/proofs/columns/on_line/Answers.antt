use mathlib.Core.Path.{refl}
use native.Mathlib.Omega.{arith}
use Rattle.wire.proofs.Writers.{wrote_as}
use Rattle.names.specs.Inner.{line}
use Rattle.names.proofs.Texts.{on_line, line_long, line_tail, line_first}
use Rattle.names.proofs.Called.{name_fits, called_as_lem}
use Rattle.names.proofs.columns.on_line.Goals as goal

pub slice_bounds-put_bytes-count : goal.slice_bounds-put_bytes-count
slice_bounds-put_bytes-count c =
    let l = on_line c.line_start-from.ensures.0 c.line_end-to.ensures.0 in
    omega (arith, line_long l, c.requires.0)

pub slice_bounds-put_bytes-start : goal.slice_bounds-put_bytes-start
slice_bounds-put_bytes-start c =
    let l = on_line c.line_start-from.ensures.0 c.line_end-to.ensures.0 in
    omega (arith, line_long l, c.requires.0, c.line_end-to.ensures.1)

pub put_bytes-requires : goal.put_bytes-requires
put_bytes-requires c =
    let l = on_line c.line_start-from.ensures.0 c.line_end-to.ensures.0 in
    name_fits (line c.args.n c.args.s.now) refl c.requires.1 (line_tail l c.requires.0)

pub bounds-s-from : goal.bounds-s-from
bounds-s-from c =
    let l = on_line c.line_start-from.ensures.0 c.line_end-to.ensures.0 in
    omega (arith, line_long l, c.requires.0, c.line_end-to.ensures.1)

pub returns : goal.returns
returns c =
    let l = on_line c.line_start-from.ensures.0 c.line_end-to.ensures.0 in
    let asked = c.requires in
    called_as_lem _ (line_first l asked.0) asked.1 (wrote_as (line_tail l asked.0) c.put_bytes.ensures)
