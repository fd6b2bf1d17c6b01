-- The port columns of what is read back, and the numbers of their slots: they ascend, so that each stands at one place.
-- Assumes nothing.
use mathlib.Core.Path.{◌≡◌, refl, sym, ap, ◌∙◌}
use mathlib.Core.Bool.{Bool, true, false, cond, ◌||◌}
use mathlib.Core.List.{List, [], ◌∷◌, ◌++◌, map}
use Prim.Native.Nat.{ℕ, zero, suc, ◌+◌, ◌-◌, ◌*◌, ◌≤◌, ◌<◌}
use native.Mathlib.Omega.{arith}
use borrow.Author.Tests.{eq-eqb, ne_eqb, eqb-true}
use lib.Dec.{eqb}
use lib.ListN.{length, get_or, replicate, length-append, get_or-append}
use lib.Seq.{ext_get_or}
use Rattle.wire.specs.Wire.{ranged, keep}
use Rattle.format.specs.File.{index_of}
use Rattle.format.specs.declared.version.Version.{Version}
use Rattle.game.specs.Frames.{no_port, slots_of, slots_from, port_slots, port_bytes, ports_of}
use Rattle.game.specs.declared.frames.PortColumn.{PortColumn}
use Rattle.game.specs.declared.frames.Frames.{Frames}
use Rattle.game.proofs.Ports.{length_ports, port_at_lem}
use Rattle.grammar.specs.Productions.{Frame}
use Rattle.columns.specs.Columns.{ever_in, presence_len, port_column, port_columns, frames_read, slot_number}

-- ---- the port columns

-- at most one for each port
kept_few : {A : Type 0} (b : Bool) (x : A) → length (keep b (x ∷ [])) ≤ 1
unfolding keep
kept_few true x = omega arith
kept_few false x = omega arith

ranged_few : {A : Type 0} (f : ℕ → List A) (i n : ℕ) → ((j : ℕ) → length (f j) ≤ 1) → length (ranged f i n) ≤ n
unfolding ranged
ranged_few f i zero h = omega arith
ranged_few f i (suc n) h = omega (arith, length-append (f i) (ranged f (i + 1) n), h i, ranged_few f (i + 1) n h)

few_columns : (fs : List Frame) → length (port_columns fs) ≤ 4
unfolding port_columns
few_columns fs = ranged_few _ 0 4 (λ n. kept_few (ever_in (2 * n) fs || ever_in (2 * n + 1) fs) (port_column fs n))

ports_there : (f : Frames) (ps more : List PortColumn) → f.ports ≡ ps ++ more → f.port_count ≡ length ps → length ps ≤ 4 → ports_of f ≡ ps
ports_there f ps more e q l =
    let n : length (ports_of f) ≡ length ps = omega (arith, length_ports f) in
    ext_get_or no_port (ports_of f) ps n
    (λ k h. sym (port_at_lem f k h) ∙ ap (λ (x : List PortColumn). get_or x k no_port) e ∙ get_or-append ps more no_port k (omega (arith, n)))

pub ports_are : (v : Version) (fs : List Frame) → ports_of (frames_read v fs) ≡ port_columns fs
unfolding frames_read
ports_are v fs = ports_there (frames_read v fs) (port_columns fs) (replicate (4 - length (port_columns fs)) no_port) refl refl (few_columns fs)

-- ---- numbers from lo on, each above the one before

unfoldable pub Rising : ℕ → List ℕ → Type 0
Rising lo [] = Unit {0}
Rising lo (k ∷ ks) = (lo ≤ k) × Rising (k + 1) ks

rising_from : (lo lo' : ℕ) (ks : List ℕ) → lo' ≤ lo → Rising lo ks → Rising lo' ks
unfolding Rising
rising_from lo lo' [] l h = tt
rising_from lo lo' (k ∷ ks) l h = (omega (arith, h.0), h.1)

rises : (lo : ℕ) (ks : List ℕ) → Rising lo ks → (k : ℕ) → k < length ks → lo ≤ get_or ks k 0
unfolding Rising
rises lo [] r k l = absurd (omega arith)
rises lo (x ∷ ks) r zero l = r.0
rises lo (x ∷ ks) r (suc k) l = omega (arith, r.0, rises (x + 1) ks r.1 k (omega arith))

-- each stands at one place
pub index_at : (lo : ℕ) (ks : List ℕ) → Rising lo ks → (k : ℕ) → k < length ks → index_of (get_or ks k 0) ks ≡ k
unfolding Rising index_of
index_at lo [] r k l = absurd (omega arith)
index_at lo (x ∷ ks) r zero l = rw (eq-eqb x x refl)
index_at lo (x ∷ ks) r (suc k) l =
    let above = rises (x + 1) ks r.1 k (omega arith) in
    rw (ne_eqb x (get_or ks k 0) (λ e. omega arith)) (ap suc (index_at (x + 1) ks r.1 k (omega arith)))

-- and what is found is there
pub found : (x : ℕ) (ks : List ℕ) → index_of x ks < length ks → get_or ks (index_of x ks) 0 ≡ x
unfolding index_of
found x [] l = absurd (omega arith)
found x (y ∷ ks) l = go (eqb y x) refl l (λ m. found x ks m)
  where
    go : (b : Bool) → eqb y x ≡ b → cond b 0 (suc (index_of x ks)) < suc (length ks) → (index_of x ks < length ks → get_or ks (index_of x ks) 0 ≡ x)
        → get_or (y ∷ ks) (cond b 0 (suc (index_of x ks))) 0 ≡ x
    go true e m more = eqb-true y x e
    go false e m more = more (omega arith)

-- ---- the numbers of the slots

-- a port column by who is ever there
abbrev column : ℕ → ℕ → Bool → PortColumn
column len n b = record { port = n; follower = cond b 1 0; leader_presence = len; follower_presence = cond b len 0 }

module _ (len : ℕ) where
  two : (n : ℕ) (rest : List PortColumn) → ((at : ℕ) → Rising (2 * n + 2) (map slot_number (slots_from at rest)))
      → (at : ℕ) → Rising (2 * n) (map slot_number (slots_from at (column len n true ∷ rest)))
  unfolding slots_from port_slots port_bytes keep Rising
  two n rest h at =
      (omega arith, (omega arith, rising_from (2 * n + 2) (2 * n + 1 + 1) (map slot_number (slots_from (at + (len + len)) rest)) (omega arith) (h (at + (len + len)))))

  one_port : (n : ℕ) (a b : Bool) (rest : List PortColumn) → ((at : ℕ) → Rising (2 * n + 2) (map slot_number (slots_from at rest)))
      → (at : ℕ) → Rising (2 * n) (map slot_number (slots_from at (keep (a || b) (column len n b ∷ []) ++ rest)))
  unfolding slots_from port_slots port_bytes keep Rising
  one_port n true true rest h at = two n rest h at
  one_port n true false rest h at = (omega arith, rising_from (2 * n + 2) (2 * n + 0 + 1) (map slot_number (slots_from (at + (len + 0)) rest)) (omega arith) (h (at + (len + 0))))
  one_port n false true rest h at = two n rest h at
  one_port n false false rest h at = rising_from (2 * n + 2) (2 * n) (map slot_number (slots_from at rest)) (omega arith) (h at)

none_left : (lo at : ℕ) → Rising lo (map slot_number (slots_from at []))
unfolding slots_from Rising
none_left lo at = tt

columns_rise : (fs : List Frame) → Rising 0 (map slot_number (slots_from 0 (port_columns fs)))
unfolding ranged port_columns
columns_rise fs =
    let len = presence_len fs in
    one_port len 0 (ever_in 0 fs) (ever_in 1 fs) _
    (one_port len 1 (ever_in 2 fs) (ever_in 3 fs) _
    (one_port len 2 (ever_in 4 fs) (ever_in 5 fs) _
    (one_port len 3 (ever_in 6 fs) (ever_in 7 fs) _ (none_left 8)))) 0

pub numbers_rise : (v : Version) (fs : List Frame) → Rising 0 (map slot_number (slots_of (frames_read v fs)))
unfolding slots_of
numbers_rise v fs = rw (ports_are v fs) (columns_rise fs)
