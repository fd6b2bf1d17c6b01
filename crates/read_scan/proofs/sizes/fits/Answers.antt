use native.Mathlib.Omega.{arith}
use Rattle.read_scan.proofs.Spans.{fits_as, eight}
use Rattle.read_scan.proofs.sizes.fits.Goals as goal

pub bounds-sizes-index : goal.bounds-sizes-index
bounds-sizes-index c = let a = c.args in omega (arith, eight a.v a.family a.span a.sizes.now c.requires.0, c.index.ensures.1)

pub returns : goal.returns
returns c =
    let a = c.args in
    let i = c.index in
    fits_as a.v a.family a.span a.sizes.now c.requires.0 c.requires.1 i.result i.ensures.0
