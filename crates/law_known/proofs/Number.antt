-- A column of a payload that is cut to 3.18's size is the number at its 3.18 place in the payload.
-- Assumes nothing.
use Prim.Native.Nat.{ℕ, zero, suc, ◌+◌, ◌≤◌, ◌<◌}
use mathlib.Core.Path.{◌≡◌, refl, ap, ◌∙◌}
use mathlib.Core.Bool.{true}
use mathlib.Core.List.{List, [], ◌∷◌}
use native.Mathlib.Omega.{arith}
use lib.ListN.{length, get_or, take, drop}
use lib.Seq.{take-take, drop-drop}
use Rattle.wire.specs.Wire.{number, part}
use Rattle.format.specs.declared.version.Version.{Version}
use Rattle.layout.specs.Columns.{sum, widths_of}
use Rattle.layout.specs.Payloads.{head_size, record_size}
use Rattle.layout.specs.declared.columns.Family.{Family}
use Rattle.columns.specs.Inner.{column}
use Rattle.known.specs.Known.{is_newer}
use Rattle.law_known.specs.Shown.{number_in}
use Rattle.law_known.proofs.Late.{same_widths}

-- what is behind a part does not change it
part_take : (at n size : ℕ) (p : List ℕ) → at + n ≤ size → part (take size p) at n ≡ part p at n
unfolding part
part_take zero n size p h = take-take n size p (omega arith)
part_take (suc at) n zero p h = absurd (omega arith)
part_take (suc at) n (suc size) [] h = refl
part_take (suc at) n (suc size) (x ∷ p) h = part_take at n size p (omega arith)

behind : (n a b : ℕ) (xs : List ℕ) → take n (drop a (drop b xs)) ≡ part xs (b + a) n
unfolding part
behind n a b xs = ap (take n) (drop-drop a b xs)

-- a column stands within the record
inside : (ws : List ℕ) (c : ℕ) → c < length ws → sum (take c ws) + get_or ws c 0 ≤ sum ws
unfolding sum
inside [] c h = absurd (omega arith)
inside (w ∷ ws) zero h = omega arith
inside (w ∷ ws) (suc c) h = omega (arith, inside ws c (omega arith))

pub column_number : (v : Version) → is_newer v ≡ true → (family : Family) (p : List ℕ) (c : ℕ) → c < length (widths_of family v)
    → column (widths_of family v) (drop (head_size family) (take (record_size family v) p)) c ≡ number_in family p c
unfolding column
column_number v newer family p c h =
    let ws = widths_of family v in
    let at = head_size family + sum (take c ws) in
    let whole = take (record_size family v) p in
    let there : take (get_or ws c 0) (drop (sum (take c ws)) (drop (head_size family) whole)) ≡ part p at (get_or ws c 0)
    = behind (get_or ws c 0) (sum (take c ws)) (head_size family) whole ∙ part_take at (get_or ws c 0) (record_size family v) p (omega (arith, inside ws c h)) in
    ap number there ∙ ap (λ (xs : List ℕ). number (part p (head_size family + sum (take c xs)) (get_or xs c 0))) (same_widths v newer family)
