use mathlib.Core.List.{[], ◌∷◌}
use Rattle.read_scan.proofs.sizes.sizes_of.Goals as goal

pub returns : goal.returns
returns c =
    λ i. c.span_in.ensures i ∷ c.span_in-2.ensures i ∷ c.span_in-3.ensures i ∷ c.span_in-4.ensures i ∷
    c.span_in-5.ensures i ∷ c.span_in-6.ensures i ∷ c.span_in-7.ensures i ∷ c.span_in-8.ensures i ∷ []
