use mathlib.Core.Path.{◌≡◌, refl, ap, ◌∙◌}
use mathlib.Core.Bool.{◌||◌}
use mathlib.Core.List.{List, [], ◌∷◌, map}
use Prim.Native.Nat.{ℕ}
use lib.Dec.{eqb}
use Rattle.std.specs.List.{list_any}
use Rattle.format.specs.Refusal.{one_of}
use Rattle.patch.specs.Field.{is_zero}
use Rattle.start.proofs.judge.has_zero.Goals as goal

-- what `contains` finds
found : (bytes : List ℕ) → list_any (λ (b : ℕ). eqb b 0) bytes ≡ one_of (map is_zero bytes)
unfolding one_of
found [] = refl
found (b ∷ bytes) = ap (λ r. eqb b 0 || r) (found bytes)

pub returns : goal.returns
returns c = c.contains.ensures.value ∙ found c.args.bytes.now
