-- The port columns of what is read back are right: refusals 6 and 7 do not apply.
-- Assumes nothing.
use mathlib.Core.Path.{◌≡◌, refl, sym, ap, ap₂, ◌∙◌}
use mathlib.Core.Bool.{Bool, true, false, not, ◌||◌}
use mathlib.Core.List.{List, [], ◌∷◌, ◌++◌, map}
use Prim.Native.Nat.{ℕ, zero, suc, ◌+◌, ◌*◌, ◌/◌, ◌<◌}
use native.Mathlib.Nat.{zero-mul, add-mul}
use native.Mathlib.Omega.{arith}
use borrow.Author.Tests.{ne_eqb, le-ltb}
use lib.Dec.{ltb, eqb}
use lib.ListN.{length, length-append}
use Rattle.wire.specs.Wire.{ranged, keep}
use Rattle.wire.proofs.Laws.{ranged_same}
use Rattle.format.specs.Refusal.{one_of}
use Rattle.format.specs.declared.version.Version.{Version}
use Rattle.format.proofs.Tests.{same, one_skip, one_none}
use Rattle.layout.specs.Columns.{sum}
use Rattle.game.specs.Frames.{slots_of, slots_from, port_slots, port_bytes, ports_of}
use Rattle.game.specs.declared.frames.PortColumn.{PortColumn}
use Rattle.players.specs.Presence.{uneven, port_uneven, ports_uneven, presence_wrong}
use Rattle.frames.specs.Judge.{port_numbers, twice, ports_wrong}
use Rattle.grammar.specs.Productions.{Frame}
use Rattle.grammar.specs.WellFormed.{Each}
use Rattle.grammar.proofs.Each.{each_ranged, each_keep, each_one}
use Rattle.law_tree.proofs.Same.{map_ranged, map_keep}
use Rattle.columns.specs.Columns.{ever_in, presence_len, port_column, port_columns, slots_presence, frames_read, lent_read}
use Rattle.columns.proofs.Presence.{slots_presence_length}
use Rattle.law_columns.proofs.Slots.{column, few_columns, ports_are}

-- a test that no element passes
pub none_of : {A : Type 0} (p : A → Bool) (xs : List A) → Each (λ x. p x ≡ false) xs → one_of (map p xs) ≡ false
unfolding one_of Each
none_of p [] h = refl
none_of p (x ∷ xs) h = rw h.0 (none_of p xs h.1)

module _ (fs : List Frame) where
  abbrev there : ℕ → Bool
  there n = ever_in (2 * n) fs || ever_in (2 * n + 1) fs

  -- what holds of every port's column holds of those that are there
  each_column : (P : PortColumn → Type 0) → ((n : ℕ) → n < 4 → P (port_column fs n)) → Each P (port_columns fs)
  unfolding port_columns
  each_column P h = each_ranged P _ 0 4 (λ n l m. each_keep P (there n) _ (λ e. each_one P (port_column fs n) (h n (omega arith))))

  -- ---- 6: presence bytes

  even_len : uneven (length fs) (presence_len fs) ≡ false
  unfolding uneven
  even_len = go (eqb (presence_len fs) 0)
    where
      go : (b : Bool) → not (b || eqb (presence_len fs) ((length fs + 7) / 8)) ≡ false
      go true = refl
      go false = same (presence_len fs) (presence_len fs) refl

  even_port : (n : ℕ) (b : Bool) → port_uneven (length fs) (column (presence_len fs) n b) ≡ false
  unfolding port_uneven one_of
  even_port n true = rw even_len
  even_port n false = rw even_len

  even_ports : (v : Version) → ports_uneven (frames_read v fs) ≡ false
  unfolding ports_uneven frames_read
  even_ports v =
      ap (λ (ps : List PortColumn). one_of (map (port_uneven (length fs)) ps)) (ports_are v fs)
      ∙ none_of (port_uneven (length fs)) (port_columns fs) (each_column (λ p. port_uneven (length fs) p ≡ false) (λ n l. even_port n (ever_in (2 * n + 1) fs)))

  -- a slot's bytes for each slot
  abbrev Spaced : PortColumn → Type 0
  Spaced p = (at : ℕ) → port_bytes p ≡ length (port_slots at p) * presence_len fs

  spaced_port : (n : ℕ) (b : Bool) → Spaced (column (presence_len fs) n b)
  unfolding port_bytes port_slots keep
  spaced_port n true at = omega arith
  spaced_port n false at = omega arith

  bytes_slots : (at : ℕ) (ps : List PortColumn) → Each Spaced ps → length (slots_from at ps) * presence_len fs ≡ sum (map port_bytes ps)
  unfolding slots_from sum Each
  bytes_slots at [] h = zero-mul (presence_len fs)
  bytes_slots at (p ∷ ps) h =
      let rest = bytes_slots (at + port_bytes p) ps h.1 in
      let n = length-append (port_slots at p) (slots_from (at + port_bytes p) ps) in
      ap (λ (m : ℕ). m * presence_len fs) n
      ∙ add-mul (length (port_slots at p)) (length (slots_from (at + port_bytes p) ps)) (presence_len fs)
      ∙ ap₂ (λ (a b : ℕ). a + b) (sym (h.0 at)) rest

  pub presence_right : (v : Version) → presence_wrong (frames_read v fs) (lent_read v fs).presence ≡ false
  unfolding presence_wrong lent_read slots_of
  presence_right v =
      let ports = ports_of (frames_read v fs) in
      let n : length (slots_presence fs (slots_of (frames_read v fs))) ≡ sum (map port_bytes ports) =
      slots_presence_length fs (slots_of (frames_read v fs))
      ∙ bytes_slots 0 ports (rw (ports_are v fs) (each_column Spaced (λ n l. spaced_port n (ever_in (2 * n + 1) fs)))) in
      sym (one_skip _ _ _ (even_ports v) (one_skip _ _ _ (same (length (slots_presence fs (slots_of (frames_read v fs)))) (sum (map port_bytes ports)) n) one_none))

  -- ---- 7: port columns

  -- numbers that are left of a range do not come twice
  others : (b : ℕ → Bool) (i k n : ℕ) → k < i → one_of (map (eqb k) (ranged (λ n. keep (b n) (n ∷ [])) i n)) ≡ false
  others b i k n l =
      none_of (eqb k) _ (each_ranged (λ m. eqb k m ≡ false) _ i n (λ m a c. each_keep (λ m. eqb k m ≡ false) (b m) _ (λ e. each_one (λ m. eqb k m ≡ false) m (ne_eqb k m (λ q. omega arith)))))

  never_twice : (b : ℕ → Bool) (i n : ℕ) → twice (ranged (λ n. keep (b n) (n ∷ [])) i n) ≡ false
  unfolding ranged twice keep
  never_twice b i zero = refl
  never_twice b i (suc n) = go (b i) (never_twice b (i + 1) n)
    where
      go : (c : Bool) → twice (ranged (λ n. keep (b n) (n ∷ [])) (i + 1) n) ≡ false → twice (keep c (i ∷ []) ++ ranged (λ n. keep (b n) (n ∷ [])) (i + 1) n) ≡ false
      go true rest = rw (others b (i + 1) i n (omega arith)) rest
      go false rest = rest

  numbers_are : map (λ p. p.port) (port_columns fs) ≡ ranged (λ n. keep (there n) (n ∷ [])) 0 4
  unfolding port_columns
  numbers_are = map_ranged (λ (p : PortColumn). p.port) _ 0 4 ∙ ranged_same _ _ 0 4 (λ n l m. map_keep (λ (p : PortColumn). p.port) (there n) (port_column fs n ∷ []))

  low : one_of (map (ltb 3) (ranged (λ n. keep (there n) (n ∷ [])) 0 4)) ≡ false
  low =
      none_of (ltb 3) _ (each_ranged (λ m. ltb 3 m ≡ false) _ 0 4 (λ m a c. each_keep (λ m. ltb 3 m ≡ false) (there m) _ (λ e. each_one (λ m. ltb 3 m ≡ false) m (le-ltb 3 m (omega arith)))))

  pub ports_right : (v : Version) → ports_wrong (frames_read v fs) ≡ false
  unfolding ports_wrong port_numbers frames_read
  ports_right v =
      let numbers = ap (map (λ (p : PortColumn). p.port)) (ports_are v fs) ∙ numbers_are in
      sym (one_skip _ _ _ (le-ltb 4 (length (port_columns fs)) (few_columns fs))
      (one_skip _ _ _ (ap (λ (ns : List ℕ). one_of (map (ltb 3) ns)) numbers ∙ low)
      (one_skip _ _ _ (ap twice numbers ∙ never_twice there 0 4) one_none)))
