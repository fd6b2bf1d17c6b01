-- What was put is got back: a row read from its own bytes is the row, where each cell fits its width.
-- Assumes nothing.
use mathlib.Core.Path.{◌≡◌, refl, ap, ap₂, ◌∙◌}
use mathlib.Core.List.{List, [], ◌∷◌, ◌++◌, append_assoc}
use Prim.Native.Nat.{ℕ, ◌+◌}
use lib.ListN.{get_or, set, take, drop}
use lib.Seq.{take_at, drop_at, set-get_or}
use Rattle.wire.specs.Wire.{be, number}
use Rattle.wire.proofs.Laws.{length_be, number_be}
use Rattle.record.specs.Record.{cells_bytes, read_back}
use Rattle.record.specs.Inner.{Fit}

-- a store with one row of another
unfoldable pub copied : List ℕ → List ℕ → List ℕ → ℕ → ℕ → List ℕ
copied [] from cells stride i = cells
copied (w ∷ ws) from cells stride i = copied ws from (set cells i (get_or from i 0)) stride (i + stride)

pub get_put : (ws from cells rest : List ℕ) (stride i : ℕ) → Fit ws from stride i → read_back ws (cells_bytes ws from stride i ++ rest) cells stride i ≡ copied ws from cells stride i
unfolding cells_bytes read_back copied Fit
get_put [] from cells rest stride i h = refl
get_put (w ∷ ws) from cells rest stride i h =
    let first = be w (get_or from i 0) in
    let more = cells_bytes ws from stride (i + stride) ++ rest in
    let split : (first ++ cells_bytes ws from stride (i + stride)) ++ rest ≡ first ++ more = append_assoc first (cells_bytes ws from stride (i + stride)) rest in
    let front : number (take w (first ++ more)) ≡ get_or from i 0 = ap number (take_at first more w (length_be w (get_or from i 0))) ∙ number_be w (get_or from i 0) h.0 in
    ap (λ (b : List ℕ). read_back ws (drop w b) (set cells i (number (take w b))) stride (i + stride)) split
    ∙ ap₂ (λ (b : List ℕ) (x : ℕ). read_back ws b (set cells i x) stride (i + stride)) (drop_at first more w (length_be w (get_or from i 0))) front
    ∙ get_put ws from (set cells i (get_or from i 0)) rest stride (i + stride) h.1

copied_same : (ws cells : List ℕ) (stride i : ℕ) → copied ws cells cells stride i ≡ cells
unfolding copied
copied_same [] cells stride i = refl
copied_same (w ∷ ws) cells stride i = rw (set-get_or cells i 0) (copied_same ws cells stride (i + stride))

-- into the store that it came from
pub get_put_same : (ws cells rest : List ℕ) (stride i : ℕ) → Fit ws cells stride i → read_back ws (cells_bytes ws cells stride i ++ rest) cells stride i ≡ cells
get_put_same ws cells rest stride i h = get_put ws cells cells rest stride i h ∙ copied_same ws cells stride i
