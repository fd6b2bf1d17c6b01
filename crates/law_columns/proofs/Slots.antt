-- The slots of what is read back are those that are there, ascending, with their presence bytes one after another.
-- Assumes nothing.
use mathlib.Core.Path.{◌≡◌, refl, sym, ap, ◌∙◌}
use mathlib.Core.Bool.{Bool, true, false, cond, ◌||◌}
use mathlib.Core.List.{List, [], ◌∷◌, ◌++◌}
use Prim.Native.Nat.{ℕ, zero, suc, ◌+◌, ◌-◌, ◌*◌, ◌/◌, ◌%◌, ◌≤◌, ◌<◌}
use native.Mathlib.Decide.{ℕ_discrete}
use native.Mathlib.Omega.{arith}
use native.Mathlib.Nat.{add-zero, zero-mul, suc-mul, add_assoc, add_comm}
use lib.Dec.{eqb}
use lib.ListN.{length, get_or, replicate, length-append, get_or-append}
use lib.Seq.{ext_get_or}
use Rattle.wire.specs.Wire.{ranged, keep}
use Rattle.format.specs.declared.version.Version.{Version}
use Rattle.game.specs.Frames.{slot, no_slot, no_port, slots_of, slots_from, port_slots, port_bytes, ports_of}
use Rattle.game.specs.declared.frames.PortColumn.{PortColumn}
use Rattle.game.specs.declared.frames.Frames.{Frames}
use Rattle.game.proofs.Ports.{length_ports, port_at_lem}
use Rattle.grammar.specs.Productions.{Frame}
use Rattle.grammar.specs.WellFormed.{Each}
use Rattle.grammar.proofs.Each.{each_ranged, each_keep, each_one}
use Rattle.grammar.proofs.Tests.{or_true}
use Rattle.format.proofs.Versions.{no_way}
use Rattle.columns.specs.Columns.{holds, ever_in, players_at, is_in, presence_len, port_column, port_columns, frames_read}
use Rattle.law_columns.specs.Slots.{seated, slot_numbers, spaced}

-- ---- the port columns

-- at most one for each port
kept_few : {A : Type 0} (b : Bool) (x : A) → length (keep b (x ∷ [])) ≤ 1
unfolding keep
kept_few true x = omega arith
kept_few false x = omega arith

ranged_few : {A : Type 0} (f : ℕ → List A) (i n : ℕ) → ((j : ℕ) → length (f j) ≤ 1) → length (ranged f i n) ≤ n
unfolding ranged
ranged_few f i zero h = omega arith
ranged_few f i (suc n) h = omega (arith, length-append (f i) (ranged f (i + 1) n), h i, ranged_few f (i + 1) n h)

pub few_columns : (fs : List Frame) → length (port_columns fs) ≤ 4
unfolding port_columns
few_columns fs = ranged_few _ 0 4 (λ n. kept_few (ever_in (2 * n) fs || ever_in (2 * n + 1) fs) (port_column fs n))

ports_there : (f : Frames) (ps more : List PortColumn) → f.ports ≡ ps ++ more → f.port_count ≡ length ps → length ps ≤ 4 → ports_of f ≡ ps
ports_there f ps more e q l =
    let n : length (ports_of f) ≡ length ps = omega (arith, length_ports f) in
    ext_get_or no_port (ports_of f) ps n
    (λ k h. sym (port_at_lem f k h) ∙ ap (λ (x : List PortColumn). get_or x k no_port) e ∙ get_or-append ps more no_port k (omega (arith, n)))

pub ports_are : (v : Version) (fs : List Frame) → ports_of (frames_read v fs) ≡ port_columns fs
unfolding frames_read
ports_are v fs = ports_there (frames_read v fs) (port_columns fs) (replicate (4 - length (port_columns fs)) no_port) refl refl (few_columns fs)

-- ---- their slots

-- a port column by who is ever there
abbrev pub column : ℕ → ℕ → Bool → PortColumn
column len n b = record { port = n; follower = cond b 1 0; leader_presence = len; follower_presence = cond b len 0 }

module _ (len : ℕ) where
  two : (n : ℕ) (rest : List PortColumn) (ks : List ℕ) → ((at : ℕ) → slots_from at rest ≡ spaced len at ks)
      → (at : ℕ) → slots_from at (column len n true ∷ rest) ≡ spaced len at ((2 * n) ∷ (2 * n + 1) ∷ ks)
  unfolding slots_from port_slots port_bytes spaced keep
  two n rest ks h at =
      let p : n ≡ 2 * n / 2 = omega arith in
      let q : 0 ≡ 2 * n % 2 = omega arith in
      let p' : n ≡ (2 * n + 1) / 2 = omega arith in
      let q' : 1 ≡ (2 * n + 1) % 2 = omega arith in
      let r : slots_from (at + (len + len)) rest ≡ spaced len (at + len + len) ks = ap (λ (x : ℕ). slots_from x rest) (omega arith) ∙ h (at + len + len) in
      λ i. slot (p i) (q i) at len ∷ slot (p' i) (q' i) (at + len) len ∷ r i

  one_port : (n : ℕ) (a b : Bool) (rest : List PortColumn) (ks : List ℕ) → ((at : ℕ) → slots_from at rest ≡ spaced len at ks)
      → (at : ℕ) → slots_from at (keep (a || b) (column len n b ∷ []) ++ rest) ≡ spaced len at (keep (a || b) ((2 * n) ∷ []) ++ (keep b ((2 * n + 1) ∷ []) ++ ks))
  unfolding slots_from port_slots port_bytes spaced keep
  one_port n true true rest ks h at = two n rest ks h at
  one_port n true false rest ks h at =
      let p : n ≡ 2 * n / 2 = omega arith in
      let q : 0 ≡ 2 * n % 2 = omega arith in
      let r : slots_from (at + (len + 0)) rest ≡ spaced len (at + len) ks = ap (λ (x : ℕ). slots_from x rest) (omega arith) ∙ h (at + len) in
      λ i. slot (p i) (q i) at len ∷ r i
  one_port n false true rest ks h at = two n rest ks h at
  one_port n false false rest ks h at = h at

none_left : (len at : ℕ) → slots_from at [] ≡ spaced len at []
unfolding slots_from spaced
none_left len at = refl

columns_slots : (fs : List Frame) → slots_from 0 (port_columns fs) ≡ spaced (presence_len fs) 0 (slot_numbers fs)
unfolding slot_numbers seated ranged port_columns
columns_slots fs =
    let len = presence_len fs in
    one_port len 0 (ever_in 0 fs) (ever_in 1 fs) _ _
    (one_port len 1 (ever_in 2 fs) (ever_in 3 fs) _ _
    (one_port len 2 (ever_in 4 fs) (ever_in 5 fs) _ _
    (one_port len 3 (ever_in 6 fs) (ever_in 7 fs) _ _ (none_left len)))) 0

pub slots_are : (v : Version) (fs : List Frame) → slots_of (frames_read v fs) ≡ spaced (presence_len fs) 0 (slot_numbers fs)
unfolding slots_of
slots_are v fs = ap (slots_from 0) (ports_are v fs) ∙ columns_slots fs

-- ---- slots one after another

pub length_spaced : (len at : ℕ) (ks : List ℕ) → length (spaced len at ks) ≡ length ks
unfolding spaced
length_spaced len at [] = refl
length_spaced len at (k ∷ ks) = ap suc (length_spaced len (at + len) ks)

pub spaced_at : (len at : ℕ) (ks : List ℕ) (j : ℕ) → j < length ks → get_or (spaced len at ks) j no_slot ≡ slot (get_or ks j 0 / 2) (get_or ks j 0 % 2) (at + j * len) len
unfolding spaced
spaced_at len at [] j l = absurd (omega arith)
spaced_at len at (k ∷ ks) zero l = rw (zero-mul, add-zero)
spaced_at len at (k ∷ ks) (suc j) l =
    let e : at + len + j * len ≡ at + suc j * len = rw (suc-mul, add_assoc, add_comm (j * len) len) in
    spaced_at len (at + len) ks j (omega arith) ∙ ap (λ (x : ℕ). slot (get_or ks j 0 / 2) (get_or ks j 0 % 2) x len) e

-- ---- which are there

-- numbers from lo on, each above the one before
unfoldable pub Rising : ℕ → List ℕ → Type 0
Rising lo [] = Unit {0}
Rising lo (k ∷ ks) = (lo ≤ k) × Rising (k + 1) ks

pub rising_from : (lo lo' : ℕ) (ks : List ℕ) → lo' ≤ lo → Rising lo ks → Rising lo' ks
unfolding Rising
rising_from lo lo' [] l h = tt
rising_from lo lo' (k ∷ ks) l h = (omega (arith, h.0), h.1)

rising_keep : (b : Bool) (i : ℕ) (ks : List ℕ) → Rising (i + 1) ks → Rising i (keep b (i ∷ []) ++ ks)
unfolding keep Rising
rising_keep true i ks h = (omega arith, h)
rising_keep false i ks h = rising_from (i + 1) i ks (omega arith) h

rising_ranged : (b : ℕ → Bool) (i n : ℕ) → Rising i (ranged (λ j. keep (b j) (j ∷ [])) i n)
unfolding ranged Rising
rising_ranged b i zero = tt
rising_ranged b i (suc n) = rising_keep (b i) i _ (rising_ranged b (i + 1) n)

pub numbers_below : (fs : List Frame) → Each (λ k. k < 8) (slot_numbers fs)
unfolding slot_numbers
numbers_below fs =
    each_ranged (λ k. k < 8) _ 0 8 (λ k l m. each_keep (λ k. k < 8) (seated k fs) (k ∷ []) (λ e. each_one (λ k. k < 8) k (omega arith)))

pub seated_there : (k : ℕ) (fs : List Frame) → ever_in k fs ≡ true → seated k fs ≡ true
unfolding seated
seated_there k fs e = go (eqb (k % 2) 0)
  where
    go : (b : Bool) → cond b (ever_in k fs || ever_in (k + 1) fs) (ever_in k fs) ≡ true
    go true = rw e
    go false = e

pub ever_here : (k : ℕ) (fs : List Frame) (i : ℕ) → is_in k fs i ≡ true → ever_in k fs ≡ true
unfolding ever_in players_at holds
ever_here k [] i e = no_way e
ever_here k (f ∷ fs) zero e = rw e
ever_here k (f ∷ fs) (suc i) e = or_true (holds k f.players) (ever_in k fs) (ever_here k fs i e)

pub all_seated : (fs : List Frame) → Each (λ k. seated k fs ≡ true) (slot_numbers fs)
unfolding slot_numbers
all_seated fs =
    each_ranged (λ k. seated k fs ≡ true) _ 0 8 (λ k l m. each_keep (λ k. seated k fs ≡ true) (seated k fs) (k ∷ []) (λ e. each_one (λ k. seated k fs ≡ true) k e))

-- where a number stands in a list
pub record Listed (ks : List ℕ) (k : ℕ) : Type 0 where
  pub index : ℕ
  pub inside : index < length ks
  pub is : get_or ks index 0 ≡ k

listed_after : (b : Bool) (j : ℕ) (ks : List ℕ) (k : ℕ) → Listed ks k → Listed (keep b (j ∷ []) ++ ks) k
unfolding keep
listed_after true j ks k h = record { index = suc h.index; inside = omega (arith, h.inside); is = h.is }
listed_after false j ks k h = h

listed_first : (b : Bool) (j : ℕ) (ks : List ℕ) (k : ℕ) → j ≡ k → b ≡ true → Listed (keep b (j ∷ []) ++ ks) k
unfolding keep
listed_first true j ks k e q = record { index = 0; inside = omega arith; is = e }
listed_first false j ks k e q = no_way q

listed_in : (b : ℕ → Bool) (i n k : ℕ) → i ≤ k → k < i + n → b k ≡ true → Listed (ranged (λ j. keep (b j) (j ∷ [])) i n) k
unfolding ranged
listed_in b i zero k l m e = absurd (omega arith)
listed_in b i (suc n) k l m e =
    elim (ℕ_discrete i k) [
      | yes q ↦ listed_first (b i) i _ k q (ap b q ∙ e)
      | no q ↦ listed_after (b i) i _ k (listed_in b (i + 1) n k (omega arith) (omega arith) e)
    ]

-- every slot that is there is listed, and so is every player's of every frame
pub listed : (k : ℕ) (fs : List Frame) → k < 8 → seated k fs ≡ true → Listed (slot_numbers fs) k
unfolding slot_numbers
listed k fs l e = listed_in (λ k. seated k fs) 0 8 k (omega arith) (omega arith) e

pub player_listed : (k : ℕ) (fs : List Frame) (i : ℕ) → k < 8 → is_in k fs i ≡ true → Listed (slot_numbers fs) k
player_listed k fs i l e = listed k fs l (seated_there k fs (ever_here k fs i e))

-- and they ascend
pub numbers_rise : (fs : List Frame) → Rising 0 (slot_numbers fs)
unfolding slot_numbers
numbers_rise fs = rising_ranged (λ k. seated k fs) 0 8
