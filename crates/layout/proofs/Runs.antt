-- The laws of runs: columns of one width, one after another.
-- Assumes nothing.
use mathlib.Core.Path.{◌≡◌, sym, ap, ap₂, ◌∙◌}
use mathlib.Core.List.{List, [], ◌∷◌, ◌++◌, append_assoc, append-nil}
use Prim.Native.Nat.{ℕ, ◌+◌, ◌<◌}
use native.Mathlib.Numerals.{add-one}
use native.Mathlib.Omega.{arith}
use lib.ListN.{length, take, drop, set, get_or, replicate, length-drop, replicate-append-replicate}
use lib.Seq.{take-suc, drop-cons, get_or-drop, take-suc-set, take-add, length-take-le}
use Rattle.wire.specs.Wire.{part}
use Rattle.layout.specs.Inner.{expand}

-- a run of one, and one that grows
pub run_start : (ws : List ℕ) (k : ℕ) → k < length ws → part ws k 1 ≡ replicate 1 (get_or ws k 0)
unfolding part
run_start ws k h = rw (drop-cons ws k 0 h)

pub run_more : (ws : List ℕ) (k m w : ℕ) → k + m < length ws → get_or ws (k + m) 0 ≡ w → part ws k m ≡ replicate m w → part ws k (m + 1) ≡ replicate (m + 1) w
unfolding part
run_more ws k m w h e p =
    let inside : m < length (drop k ws) = simp length-drop (omega arith) in
    ap (λ (j : ℕ). take j (drop k ws)) (add-one m)
    ∙ take-suc (drop k ws) m 0 inside
    ∙ ap₂ (λ (a : List ℕ) (x : ℕ). a ++ (x ∷ [])) p (get_or-drop k ws m 0 ∙ e)
    ∙ replicate-append-replicate m 1 w

expand_push : (xs ys : List ℕ) (w m : ℕ) → length xs ≡ length ys → expand (xs ++ (w ∷ [])) (ys ++ (m ∷ [])) ≡ expand xs ys ++ replicate m w
unfolding expand
expand_push [] [] w m h = append-nil (replicate m w)
expand_push [] (y ∷ ys) w m h = absurd (omega arith)
expand_push (x ∷ xs) [] w m h = absurd (omega arith)
expand_push (x ∷ xs) (y ∷ ys) w m h =
    rw (expand_push xs ys w m (omega arith)) (sym (append_assoc (replicate y x) (expand xs ys) (replicate m w)))

-- one run more
pub runs_more : (all ws ns : List ℕ) (r k m : ℕ) → r < length ws → r < length ns
    → expand (take r ws) (take r ns) ≡ take k all → part all k m ≡ replicate m (get_or all k 0)
    → expand (take (r + 1) (set ws r (get_or all k 0))) (take (r + 1) (set ns r m)) ≡ take (k + m) all
unfolding part
runs_more all ws ns r k m h l e p =
    rw (add-one r, take-suc-set ws r (get_or all k 0) h, take-suc-set ns r m l)
    (expand_push (take r ws) (take r ns) (get_or all k 0) m (length-take-le r ws (omega arith) ∙ sym (length-take-le r ns (omega arith)))
    ∙ ap₂ (λ (a b : List ℕ). a ++ b) e (sym p)
    ∙ sym (take-add k m all))
