-- Which versions are accepted, and which are at least another, as computed tables.
-- Assumes nothing.
use mathlib.Core.Path.{◌≡◌, refl}
use mathlib.Core.Bool.{true, false}
use mathlib.Core.List.{[], ◌∷◌, map}
use Rattle.format.specs.Version.{version, above, gte_of, accepted_of}
use Rattle.format.specs.declared.version.Version.{Version}

-- all three numbers decide
accepted_versions : map accepted_of (version 0 0 0 ∷ version 0 1 0 ∷ version 2 255 255 ∷ version 3 17 255 ∷ version 3 18 0 ∷ [])
    ≡ true ∷ true ∷ true ∷ true ∷ true ∷ []
unfolding accepted_of above
accepted_versions = refl

refused_versions : map accepted_of (version 3 18 1 ∷ version 3 19 0 ∷ version 4 0 0 ∷ version 255 255 255 ∷ []) ≡ false ∷ false ∷ false ∷ false ∷ []
unfolding accepted_of above
refused_versions = refl

-- a gate at 2.2: the major number decides first
gate : map (λ (v : Version). gte_of v 2 2) (version 1 9 0 ∷ version 2 1 255 ∷ version 2 2 0 ∷ version 3 0 0 ∷ []) ≡ false ∷ false ∷ true ∷ true ∷ []
unfolding gte_of above
gate = refl
