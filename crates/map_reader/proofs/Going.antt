-- The reader's loop: what is to be read from p on is what was to be read from `at` on.
-- Assumes nothing.
use mathlib.Core.Path.{◌≡◌, refl, sym, ap, ◌∙◌}
use mathlib.Core.Bool.{Bool, true, false}
use mathlib.Core.List.{List, [], ◌∷◌, ◌++◌}
use Prim.Native.Nat.{ℕ, zero, suc, ◌+◌, ◌≤◌, ◌<◌}
use native.Mathlib.Nat.{add-zero, zero-add}
use native.Mathlib.Omega.{arith}
use lib.ListN.{length, get_or}
use Rattle.std.specs.Prelude.{Result, Ok, Err}
use Rattle.std.specs.Result.{IsErrAnd}
use Rattle.format.specs.Refused.{number_of}
use Rattle.format.specs.declared.refusal.Refusal.{Refusal}
use Rattle.map.proofs.Numbers.{some_number}
use Rattle.map.specs.Map.{Value, text, number, map, Map, empty, entry}
use Rattle.map_reader.specs.Read.{text_stop, text_of, Seen, SeenValue, refused, map_entries_in, inside, map_read_at, value_read_at}
use Rattle.map_reader.specs.Back.{size_value, entry_count}
use Rattle.map_reader.specs.Inner.{read_numbers, Run, keys_from, Ran, Repeated}
use Rattle.map_reader.specs.declared.read.Read.{Read}
use Rattle.map_reader.specs.declared.read.WrongAt.{WrongAt}
use Rattle.map_reader.proofs.Steps.{entries_none, entries_cut, entries_twice, entries_bad, entries_more}
use Rattle.map_reader.proofs.KeyRuns.{run_snoc}

-- what is wrong, passed on
pub passed_on : {T : Type 0} {w : WrongAt} (a : Result T WrongAt) → IsErrAnd a (λ y. y ≡ w) → a ≡ Err w
passed_on (Ok x) h = absurd h
passed_on (Err y) h = ap Err h

-- a refusal, and what was read: of a value, and of a map
pub told_no : {v : SeenValue} {a : Result Read WrongAt} {r : Refusal} {s : ℕ} {X : Type 0} → a ≡ Err (record { refusal = r; place = s }) → v ≡ refused (number_of r) s
    → ((read_numbers a).refusal ≡ v.refusal) × ((read_numbers a).stop ≡ v.stop) × ((read_numbers a).refusal ≡ 0 → X)
told_no {r = r} w e = rw w (sym (ap (λ w. w.refusal) e), sym (ap (λ w. w.stop) e), λ z. absurd (some_number r z))

pub told_yes : {v : SeenValue} {x : Value} {a : Result Read WrongAt} {s l : ℕ} (p e : ℕ) → a ≡ Ok (record { stop = s; entries = e }) → v ≡ record { value = x; stop = s; refusal = 0 } → p + e < s → s ≤ l → e ≡ size_value x
    → ((read_numbers a).refusal ≡ v.refusal) × ((read_numbers a).stop ≡ v.stop)
    × ((read_numbers a).refusal ≡ 0 → (p + (read_numbers a).entries < (read_numbers a).stop) × ((read_numbers a).stop ≤ l) × ((read_numbers a).entries ≡ size_value v.value))
told_yes p e w q a b c = rw w (sym (ap (λ w. w.refusal) q), sym (ap (λ w. w.stop) q), λ z. (a, b, c ∙ sym (ap (λ (w : SeenValue). size_value w.value) q)))

pub told_map_no : {a : Result Read WrongAt} {r : Refusal} {s x y : ℕ} {X : Type 0} → a ≡ Err (record { refusal = r; place = s }) → (number_of r ≡ x) × (s ≡ y)
    → ((read_numbers a).refusal ≡ x) × ((read_numbers a).stop ≡ y) × ((read_numbers a).refusal ≡ 0 → X)
told_map_no {r = r} w e = rw w (e.0, e.1, λ z. absurd (some_number r z))

pub told_map_yes : {a : Result Read WrongAt} {s x y size l : ℕ} (p e : ℕ) → a ≡ Ok (record { stop = s; entries = e }) → (0 ≡ x) × (s ≡ y) × (e ≡ size) → p + e ≤ s → s ≤ l
    → ((read_numbers a).refusal ≡ x) × ((read_numbers a).stop ≡ y)
    × ((read_numbers a).refusal ≡ 0 → (p + (read_numbers a).entries ≤ (read_numbers a).stop) × ((read_numbers a).stop ≤ l) × ((read_numbers a).entries ≡ size))
told_map_yes p e w q a b = rw w (q.0, q.1, λ z. (a, b, q.2))

pub size_text : (t : List ℕ) → 0 ≡ size_value (text t)
unfolding size_value
size_text t = refl

pub size_number : (n : ℕ) → 0 ≡ size_value (number n)
unfolding size_value
size_number n = refl

pub size_map : (m : Map) {e : ℕ} → e ≡ entry_count m → e ≡ size_value (map m)
unfolding size_value
size_map m q = q

size_entry : (k : List ℕ) (v : Value) (m : Map) → entry_count (entry k v m) ≡ 1 + size_value v + entry_count m
unfolding entry_count
size_entry k v m = refl

size_none : entry_count empty ≡ 0
unfolding entry_count
size_none = refl

pub record Going (b : List ℕ) (d at p count : ℕ) : Type 0 where
  pub n : ℕ
  pub run : Run b d at n p
  pub most : ℕ
  pub enough : length b < p + most
  pub refusal_is : (map_entries_in (inside b d) b (keys_from b d n at) most p).refusal ≡ (map_read_at b d at).refusal
  pub stop_is : (map_entries_in (inside b d) b (keys_from b d n at) most p).stop ≡ (map_read_at b d at).stop
  pub size_is : count + entry_count (map_entries_in (inside b d) b (keys_from b d n at) most p).map ≡ entry_count (map_read_at b d at).map

pub going_start : (b : List ℕ) (d at : ℕ) → Going b d at at 0
unfolding Run keys_from
going_start b d at = record { n = 0; run = refl; most = suc (length b); enough = omega arith; refusal_is = refl; stop_is = refl; size_is = zero-add (entry_count (map_read_at b d at).map) }

-- one turn is left
record Turning (b : List ℕ) (d at p count n : ℕ) : Type 0 where
  rest : ℕ
  enough : length b ≤ p + rest
  refusal_is : (map_entries_in (inside b d) b (keys_from b d n at) (suc rest) p).refusal ≡ (map_read_at b d at).refusal
  stop_is : (map_entries_in (inside b d) b (keys_from b d n at) (suc rest) p).stop ≡ (map_read_at b d at).stop
  size_is : count + entry_count (map_entries_in (inside b d) b (keys_from b d n at) (suc rest) p).map ≡ entry_count (map_read_at b d at).map

turning : {b : List ℕ} {d at p count : ℕ} (g : Going b d at p count) → p ≤ length b → Turning b d at p count g.n
turning {b} {d} {at} {p} {count} g h = go g.most g.enough g.refusal_is g.stop_is g.size_is
  where
    go : (n : ℕ) → length b < p + n → (map_entries_in (inside b d) b (keys_from b d g.n at) n p).refusal ≡ (map_read_at b d at).refusal → (map_entries_in (inside b d) b (keys_from b d g.n at) n p).stop ≡ (map_read_at b d at).stop
        → count + entry_count (map_entries_in (inside b d) b (keys_from b d g.n at) n p).map ≡ entry_count (map_read_at b d at).map → Turning b d at p count g.n
    go zero k r s z = absurd (omega arith)
    go (suc n) k r s z = record { rest = n; enough = omega arith; refusal_is = r; stop_is = s; size_is = z }

module _ {b : List ℕ} {d at p count mark : ℕ} (g : Going b d at p count) (h : p ≤ length b) (m : mark ≡ get_or b p 0) where
  pub going_done : (mark ≡ 0x55 → ⊥) → (0 ≡ (map_read_at b d at).refusal) × (p ≡ (map_read_at b d at).stop) × (count ≡ entry_count (map_read_at b d at).map)
  going_done n =
      let t = turning g h in
      let s = entries_none (inside b d) b (keys_from b d g.n at) t.rest p (λ q. n (m ∙ q)) in (
        sym (ap (λ w. w.refusal) s) ∙ t.refusal_is,
        sym (ap (λ w. w.stop) s) ∙ t.stop_is,
        sym (add-zero count) ∙ ap (λ k. count + k) (sym (ap (λ (w : Seen). entry_count w.map) s ∙ size_none)) ∙ t.size_is,
      )

  module _ (e : mark ≡ 0x55) {q : ℕ} (eq : q ≡ text_stop b p) where
    pub going_cut : q ≡ 0 → (23 ≡ (map_read_at b d at).refusal) × (p ≡ (map_read_at b d at).stop)
    going_cut z =
        let t = turning g h in
        let s = entries_cut (inside b d) b (keys_from b d g.n at) t.rest p (sym m ∙ e) (sym eq ∙ z) in
        (sym (ap (λ w. w.refusal) s) ∙ t.refusal_is, sym (ap (λ w. w.stop) s) ∙ t.stop_is)

    module _ (n : q ≡ 0 → ⊥) {x : Bool} (ex : Repeated b d at p x) where
      pub going_twice : x ≡ true → (22 ≡ (map_read_at b d at).refusal) × (p ≡ (map_read_at b d at).stop)
      going_twice y =
          let t = turning g h in
          let s = entries_twice (inside b d) b (keys_from b d g.n at) t.rest p (sym m ∙ e) (λ z. n (eq ∙ z)) (sym (ex.is g.n g.run) ∙ y) in
          (sym (ap (λ w. w.refusal) s) ∙ t.refusal_is, sym (ap (λ w. w.stop) s) ∙ t.stop_is)

      module _ (y : x ≡ false) {r s : ℕ} (er : r ≡ (value_read_at b d q).refusal) (es : s ≡ (value_read_at b d q).stop) where
        r_is : r ≡ (value_read_at b d (text_stop b p)).refusal
        r_is = er ∙ ap (λ k. (value_read_at b d k).refusal) eq

        s_is : s ≡ (value_read_at b d (text_stop b p)).stop
        s_is = es ∙ ap (λ k. (value_read_at b d k).stop) eq

        pub going_bad : (r ≡ 0 → ⊥) → (r ≡ (map_read_at b d at).refusal) × (s ≡ (map_read_at b d at).stop)
        going_bad bad =
            let t = turning g h in
            let j = entries_bad (inside b d) b (keys_from b d g.n at) t.rest p (sym m ∙ e) (λ z. n (eq ∙ z)) (sym (ex.is g.n g.run) ∙ y) (λ z. bad (r_is ∙ z)) in
            (r_is ∙ sym (ap (λ w. w.refusal) j) ∙ t.refusal_is, s_is ∙ sym (ap (λ w. w.stop) j) ∙ t.stop_is)

        pub going_more : {k : ℕ} → r ≡ 0 → p < s → k ≡ size_value (value_read_at b d q).value → Going b d at s (count + 1 + k)
        going_more {k} z far ek =
            let t = turning g h in
            let keys = keys_from b d g.n at in
            let v = value_read_at b d (text_stop b p) in
            let ok = sym r_is ∙ z in
            let j = entries_more (inside b d) b keys t.rest p (sym m ∙ e) (λ z. n (eq ∙ z)) (sym (ex.is g.n g.run) ∙ y) ok in
            let (run, more) = run_snoc b d at g.n p g.run (λ z. n (eq ∙ z)) ok (omega (arith, far, s_is)) in
            let later = map_entries_in (inside b d) b (keys ++ (text_of b p ∷ [])) t.rest v.stop in
            let all = ap (λ (w : Seen). entry_count w.map) j ∙ size_entry (text_of b p) v.value later.map in
            let size = ek ∙ ap (λ i. size_value (value_read_at b d i).value) eq in
            rw s_is (record {
              n = suc g.n;
              run = run;
              most = t.rest;
              enough = omega (arith, t.enough, far, s_is);
              refusal_is = ap (λ l. (map_entries_in (inside b d) b l t.rest v.stop).refusal) more ∙ sym (ap (λ w. w.refusal) j) ∙ t.refusal_is;
              stop_is = ap (λ l. (map_entries_in (inside b d) b l t.rest v.stop).stop) more ∙ sym (ap (λ w. w.stop) j) ∙ t.stop_is;
              size_is = ap (λ l. count + 1 + k + entry_count (map_entries_in (inside b d) b l t.rest v.stop).map) more ∙ (let sum : count + 1 + k + entry_count later.map ≡ entry_count (map_read_at b d at).map = omega (arith, all, size, t.size_is) in sum);
            })

pub ran_of_lem : {b : List ℕ} {d at p count : ℕ} → Going b d at p count → Ran b d at p
ran_of_lem g = record { n = g.n; run = g.run }
