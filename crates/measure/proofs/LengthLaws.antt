-- The laws of what is needed.
-- Assumes nothing.
use mathlib.Core.Path.{◌≡◌, refl, sym, ap, subst, ◌∙◌}
use mathlib.Core.Bool.{Bool, true, false, ◌||◌}
use mathlib.Core.List.{List, [], ◌∷◌, ◌++◌, append_assoc, append-nil}
use Prim.Native.Nat.{ℕ, suc, ◌+◌, ◌-◌, ◌*◌, ◌/◌, ◌≤◌, ◌<◌}
use native.Mathlib.Nat.{mul-le-mul}
use native.Mathlib.Omega.{arith}
use lib.ListN.{length, set, replicate, length-append}
use Rattle.wire.specs.Wire.{keep, ranged}
use Rattle.game.specs.Frames.{no_port, rows_of, is_marked}
use Rattle.game.specs.declared.frames.PortColumn.{PortColumn}
use Rattle.game.specs.declared.frames.Frames.{Frames}
use Rattle.layout.specs.declared.columns.Family.{Family}
use Rattle.players.specs.Inner.{Modest}
use Rattle.players.proofs.CountLaws.{rows_most}
use Rattle.format.specs.declared.version.Version.{Version}
use Rattle.game.specs.declared.frames.Counts.{Counts}
use Rattle.measure.specs.Inner.{column_by, port_by, ports_by, Listing, frames_by}
use Rattle.measure.specs.declared.lengths.Ports.{Ports}

pub store_small : (f : Frames) (family : Family) (c r b : ℕ) → Modest f → c ≤ 32 → r ≡ rows_of f family → b ≤ 8 → (c * r ≤ 134217728) × (b * (c * r) ≤ 1073741824)
store_small f family c r b m h e k =
    let few : r ≤ 4194304 = omega (arith, rows_most f family m) in
    let one : c * r ≤ 32 * 4194304 = mul-le-mul h few in
    let two : b * (c * r) ≤ 8 * (32 * 4194304) = mul-le-mul k one in
    (omega arith, omega arith)

-- a column set after those that are there
pub set_after : (xs : List PortColumn) (n : ℕ) (p : PortColumn) → set (xs ++ replicate (suc n) no_port) (length xs) p ≡ (xs ++ (p ∷ [])) ++ replicate n no_port
set_after [] n p = refl
set_after (x ∷ xs) n p = ap (λ (l : List PortColumn). x ∷ l) (set_after xs n p)

pub with_column : (xs : List PortColumn) (p : Ports) (c : PortColumn) (ports : List PortColumn) → Listing xs p → p.count < 4 → ports ≡ set p.ports p.count c
    → Listing (xs ++ (c ∷ [])) (record { ports = ports; count = p.count + 1 })
with_column xs p c ports l few e =
    let n = 3 - length xs in
    let m : 4 - length xs ≡ suc n = omega (arith, l.count) in
    let k : 4 - length (xs ++ (c ∷ [])) ≡ n = omega (arith, l.count, length-append xs (c ∷ [])) in
    record {
      ports = e ∙ rw (l.ports, l.count, m, k) (set_after xs n c);
      count = omega (arith, l.count, length-append xs (c ∷ []));
    }

pub without_column : (xs : List PortColumn) (p : Ports) → Listing xs p → Listing (xs ++ []) p
without_column xs p l = subst (λ (ys : List PortColumn). Listing ys p) (sym (append-nil xs)) l

pub bits_small : (k : ℕ) (f : Frames) → k ≤ 8 → Modest f → k * ((f.counts.frames + 7) / 8) ≤ 1048608
bits_small k f h m =
    let few : (f.counts.frames + 7) / 8 ≤ 131072 = omega (arith, m.frames) in
    let all : k * ((f.counts.frames + 7) / 8) ≤ 8 * 131072 = mul-le-mul h few in
    omega arith

-- port n's column is there where one of its marks is
module _ (slots bytes n : ℕ) (leader follower : Bool) (l : leader ≡ is_marked slots (2 * n)) (f : follower ≡ is_marked slots (2 * n + 1)) where
  pub port_there : leader || follower ≡ true → port_by slots bytes n ≡ column_by n follower bytes ∷ []
  unfolding port_by keep
  port_there e = rw (← l, ← f, e)

  pub port_none : leader || follower ≡ false → port_by slots bytes n ≡ []
  unfolding port_by keep
  port_none e = rw (← l, ← f, e)

pub listing_as : {xs ys : List PortColumn} {p : Ports} → xs ≡ ys → Listing xs p → Listing ys p
listing_as {p = p} e l = subst (λ (zs : List PortColumn). Listing zs p) e l

pub listing_same : (xs : List PortColumn) (p q : Ports) → p ≡ q → Listing xs p → Listing xs q
listing_same xs p q e l = subst (λ (r : Ports). Listing xs r) e l

pub four : (slots bytes : ℕ) → ((([] ++ port_by slots bytes 0) ++ port_by slots bytes 1) ++ port_by slots bytes 2) ++ port_by slots bytes 3 ≡ ports_by slots bytes
unfolding ranged
four slots bytes = simp (append_assoc, append-nil)

pub frames_are : (v : Version) (counts : Counts) (slots : ℕ) (p : Ports) → Listing (ports_by slots ((counts.frames + 7) / 8)) p
    → (record { version = v; counts = counts; ports = p.ports; port_count = p.count }) ≡ frames_by v counts slots
unfolding frames_by
frames_are v counts slots p l = rw (l.ports, l.count)
