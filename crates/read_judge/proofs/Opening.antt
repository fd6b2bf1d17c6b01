-- The first event of a file, as the bytes say it and as the reader finds it.
-- Assumes nothing.
use Prim.Native.Nat.{ℕ, zero, suc, ◌+◌, ◌-◌, ◌≤◌, ◌<◌}
use mathlib.Core.Path.{◌≡◌, refl, sym, ap, ◌∙◌}
use mathlib.Core.Bool.{Bool, true, false, not, cond, ◌&&◌, ◌||◌}
use mathlib.Core.List.{List, ◌∷◌, map}
use native.Mathlib.Decide.{dec_lt, ℕ_discrete}
use native.Mathlib.Omega.{arith}
use borrow.Author.Tests.{lt-ltb, le-leb, eq-eqb, ne_eqb, leb-true, eqb-true}
use lib.Dec.{ltb, leb, eqb}
use lib.ListN.{length, get_or, take, drop, length-take, length-drop}
use Rattle.wire.specs.Wire.{part}
use Rattle.format.specs.File.{Ev}
use Rattle.format.specs.Version.{version}
use Rattle.format.specs.declared.version.Version.{Version}
use Rattle.head.specs.Table.{stop_of, table_of, first_place, span_of, head_refusal}
use Rattle.head.specs.Step.{step_of}
use Rattle.head.specs.declared.Step.{Step}
use Rattle.head.proofs.Filled.{stop_within}
use Rattle.de.specs.Walk.{turn, run}
use Rattle.de.specs.Cut.{event_at, events_read}
use Rattle.grammar.specs.Productions.{start_event}
use Rattle.grammar.proofs.Tests.{both}
use Rattle.read_outline.proofs.Laws.{length_part, byte_in}
use Rattle.read_judge.specs.Found.{opens_wrong, version_said}
use Rattle.read_judge.specs.Inner.{Bytes, opens_at, first_at}
use Rattle.read_judge.specs.declared.first.First.{First}
use Rattle.read_judge.specs.declared.first.First.TheVariants.{Opens, Other}
use Rattle.read_judge.proofs.Walked.{stands, event_stands, event_here}

-- what the first event says, of the events that are found
pub record Opened (es : List Ev) (v : Version) (len : ℕ) : Type 0 where
  pub block : List ℕ
  pub others : List Ev
  pub events_are : es ≡ start_event block ∷ others
  pub len_is : len ≡ length block
  pub long : 4 ≤ len
  pub version_is : v ≡ version_said es

said : (f : List ℕ) (at : ℕ) (others : List Ev) (block : List ℕ) → get_or f (at + 1 + 0) 0 ≡ get_or block 0 0 → get_or f (at + 1 + 1) 0 ≡ get_or block 1 0 → get_or f (at + 1 + 2) 0 ≡ get_or block 2 0
    → version (get_or f (at + 1) 0) (get_or f (at + 2) 0) (get_or f (at + 3) 0) ≡ version_said (start_event block ∷ others)
unfolding version_said
said f at others block a b c =
    let x : at + 1 ≡ at + 1 + 0 = omega arith in
    let y : at + 2 ≡ at + 1 + 1 = omega arith in
    let z : at + 3 ≡ at + 1 + 2 = omega arith in
    λ i. version ((ap (λ (n : ℕ). get_or f n 0) x ∙ a) i) ((ap (λ (n : ℕ). get_or f n 0) y ∙ b) i) ((ap (λ (n : ℕ). get_or f n 0) z ∙ c) i)

module _ (f spans : List ℕ) (accepted : head_refusal f ≡ 0) (bytes : Bytes f) (index : (c : ℕ) → c < 256 → get_or spans c 0 ≡ span_of c (table_of f))
    (starts : first_place (table_of f) ≤ stop_of f) where
  abbrev first : ℕ
  first = first_place (table_of f)

  abbrev stop : ℕ
  stop = stop_of f

  span_36 : get_or f first 0 ≡ 0x36 → get_or spans 0x36 0 ≡ span_of (get_or f first 0) (table_of f)
  span_36 e = ap (λ (c : ℕ). get_or spans c 0) (sym e) ∙ index (get_or f first 0) (bytes first)

  -- the events from the first place on, with turns left
  events_from_lem : (n : ℕ) → length f ≡ suc n → events_read f ≡ map (event_at f) (turn (step_of f first) (run n f) first).seen
  unfolding events_read run
  events_from_lem n e = rw e

  wrong_here : (n : ℕ) → opens_at f spans first stop ≡ false → opens_wrong (map (event_at f) (turn (step_of f first) (run n f) first).seen) ≡ true
  unfolding opens_wrong opens_at part
  wrong_here n q =
      stands f spans accepted bytes index (λ s. opens_wrong (map (event_at f) (turn s (run n f) first).seen) ≡ true) first (omega arith) starts (λ e. refl)
      (λ z l. go z l) (λ k o. refl) (λ t. refl)
    where
      go : (span_of (get_or f first 0) (table_of f) ≡ 0 → ⊥) → first + span_of (get_or f first 0) (table_of f) ≤ stop
          → not (eqb (get_or f first 0) 0x36) || ltb (length (take (span_of (get_or f first 0) (table_of f) - 1) (drop (first + 1) f))) 4 ≡ true
      go z l = elim (ℕ_discrete (get_or f first 0) 0x36) [
        | no n ↦ rw (ne_eqb (get_or f first 0) 0x36 n)
        | yes e ↦
            let span = span_of (get_or f first 0) (table_of f) in
            let within = stop_within f in
            let len : length (take (span - 1) (drop (first + 1) f)) ≡ span - 1 = length-take (span - 1) (drop (first + 1) f) ∙ omega (arith, length-drop (first + 1) f) in
            elim (dec_lt span 5) [
              | yes s ↦ rw (eq-eqb (get_or f first 0) 0x36 e, len) (lt-ltb (span - 1) 4 (omega arith))
              | no s ↦
                  let t : opens_at f spans first stop ≡ true =
                  rw (lt-ltb first stop (omega arith), eq-eqb (get_or f first 0) 0x36 e, span_36 e, le-leb 5 span (omega arith), le-leb (first + span) stop l) in
                  absurd (let y : ◌≡◌ {A = ℕ} 0 1 = ap (λ (c : Bool). cond c 0 1) (sym t ∙ q) in omega arith)
            ]
      ]

  opens_here : (n : ℕ) → length f ≡ suc n → opens_at f spans first stop ≡ true
      → Opened (events_read f) (version (get_or f (first + 1) 0) (get_or f (first + 2) 0) (get_or f (first + 3) 0)) (get_or spans 0x36 0 - 1)
  unfolding opens_at
  opens_here n e q =
      let span = get_or spans 0x36 0 in
      let (a, r) = both (ltb first stop) (eqb (get_or f first 0) 0x36 && (leb 5 span && leb (first + span) stop)) q in
      let (b, r) = both (eqb (get_or f first 0) 0x36) (leb 5 span && leb (first + span) stop) r in
      let (c, d) = both (leb 5 span) (leb (first + span) stop) r in
      let code = eqb-true (get_or f first 0) 0x36 b in
      let same = span_36 code in
      let five = leb-true 5 span c in
      let whole = leb-true (first + span) stop d in
      let within = stop_within f in
      let len = span - 1 in
      let block = part f (first + 1) len in
      let step = event_stands f spans accepted bytes index first (omega arith) (λ z. omega arith) (omega arith) in
      let event : event_at f (event_here f spans accepted bytes index first) ≡ start_event block = rw (← same, code) in
      let others = map (event_at f) (run n f (first + span_of (get_or f first 0) (table_of f))).seen in
      let events : events_read f ≡ start_event block ∷ others =
      events_from_lem n e ∙ ap (λ (s : Step). map (event_at f) (turn s (run n f) first).seen) step ∙ ap (λ (x : Ev). x ∷ others) event in
      record {
        block = block;
        others = others;
        events_are = events;
        len_is = sym (length_part f (first + 1) len (omega arith));
        long = omega arith;
        version_is = said f first others block (byte_in f (first + 1) len 0 (omega arith)) (byte_in f (first + 1) len 1 (omega arith)) (byte_in f (first + 1) len 2 (omega arith)) ∙ ap version_said (sym events);
      }

  -- as the code says it
  abbrev pub FirstSays : First → Type 0
  FirstSays (Opens v len) = Opened (events_read f) v len
  FirstSays Other = opens_wrong (events_read f) ≡ true

  pub first_said : FirstSays (first_at f spans first stop)
  unfolding first_at
  first_said = go (opens_at f spans first stop) refl (length f) refl
    where
      go : (b : Bool) → opens_at f spans first stop ≡ b → (n : ℕ) → length f ≡ n
          → FirstSays (cond b (Opens (version (get_or f (first + 1) 0) (get_or f (first + 2) 0) (get_or f (first + 3) 0)) (get_or spans 0x36 0 - 1)) Other)
      go b q zero e = absurd (let within = stop_within f in omega arith)
      go true q (suc n) e = opens_here n e q
      go false q (suc n) e = ap opens_wrong (events_from_lem n e) ∙ wrong_here n q
