-- 12: a store one shorter than what is to go there, each in turn; stores that are just as long are not too short. Computed for the file of one frame,
-- which fills four of them, and for the one of 3.18, which fills all fifteen.
-- Assumes nothing.
use Prim.Native.Nat.{ℕ, ◌-◌}
use mathlib.Core.Path.{◌≡◌, refl, ap, ◌∙◌}
use mathlib.Core.Bool.{true, false}
use mathlib.Core.List.{List, [], ◌∷◌, map}
use lib.ListN.{get_or, set, replicate}
use Rattle.format.specs.Refusal.{one_of}
use Rattle.format.specs.Version.{version}
use Rattle.game.specs.Stores.{lent, cells, offsets}
use Rattle.measure.specs.Game.{Kept, kept, kept_read}
use Rattle.measure.specs.Read.{kept_short}
use Rattle.case_files.proofs.OneFrame as one_frame
use Rattle.case_files.proofs.Full as full

-- stores of these lengths, full of sevens: ids, the eight families, the four offsets, presence, codes
abbrev pub lending : List ℕ → Kept
lending ns =
    let s : ℕ → List ℕ = λ k. replicate (get_or ns k 0) 7 in
    kept (lent (cells (s 0) (s 1) (s 2) (s 3) (s 4) (s 5) (s 6) (s 7) (s 8)) (offsets (s 9) (s 10) (s 11) (s 12)) (s 13)) (s 14)

-- the same, but one shorter in the k-th
abbrev pub one_less : List ℕ → ℕ → List ℕ
one_less ns k = set ns k (get_or ns k 0 - 1)

-- ---- one frame: 1 id, 14 cells of Pre, 11 of Post, 1 presence byte

abbrev pub few : List ℕ
few = 1 ∷ 0 ∷ 14 ∷ 11 ∷ 0 ∷ 0 ∷ 0 ∷ 0 ∷ 0 ∷ 0 ∷ 0 ∷ 0 ∷ 0 ∷ 1 ∷ 0 ∷ []

pub few_suffice : kept_short (lending few) (kept_read (version 0 1 0) one_frame.played) ≡ false
unfolding kept_short one_of
few_suffice = ap (kept_short (lending few)) one_frame.stores ∙ refl

few_short : map (λ (k : ℕ). kept_short (lending (one_less few k)) (kept_read (version 0 1 0) one_frame.played)) (0 ∷ 2 ∷ 3 ∷ 13 ∷ []) ≡ replicate 4 true
unfolding kept_short one_of
few_short = ap (λ (needed : Kept). map (λ (k : ℕ). kept_short (lending (one_less few k)) needed) (0 ∷ 2 ∷ 3 ∷ 13 ∷ [])) one_frame.stores ∙ refl

pub pre_short : kept_short (lending (one_less few 2)) (kept_read (version 0 1 0) one_frame.played) ≡ true
unfolding kept_short one_of
pre_short = ap (kept_short (lending (one_less few 2))) one_frame.stores ∙ refl

-- ---- two frames of 3.18

abbrev pub all : List ℕ
all = 2 ∷ 4 ∷ 76 ∷ 128 ∷ 2 ∷ 16 ∷ 2 ∷ 1 ∷ 2 ∷ 3 ∷ 3 ∷ 3 ∷ 3 ∷ 2 ∷ 512 ∷ []

all_suffice : kept_short (lending all) (kept_read (version 3 18 0) full.full) ≡ false
unfolding kept_short one_of
all_suffice = ap (kept_short (lending all)) full.stores ∙ refl

all_short : map (λ (k : ℕ). kept_short (lending (one_less all k)) (kept_read (version 3 18 0) full.full)) (0 ∷ 1 ∷ 2 ∷ 3 ∷ 4 ∷ 5 ∷ 6 ∷ 7 ∷ 8 ∷ 9 ∷ 10 ∷ 11 ∷ 12 ∷ 13 ∷ 14 ∷ [])
    ≡ replicate 15 true
unfolding kept_short one_of
all_short =
    ap (λ (needed : Kept). map (λ (k : ℕ). kept_short (lending (one_less all k)) needed) (0 ∷ 1 ∷ 2 ∷ 3 ∷ 4 ∷ 5 ∷ 6 ∷ 7 ∷ 8 ∷ 9 ∷ 10 ∷ 11 ∷ 12 ∷ 13 ∷ 14 ∷ [])) full.stores
    ∙ refl
