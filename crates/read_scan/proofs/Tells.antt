-- Over the bytes of listed events, the pass counts what the events count.
-- Assumes nothing.
use mathlib.Core.Path.{◌≡◌, refl, sym, ap, subst, ◌∙◌}
use mathlib.Core.Bool.{Bool, true, false, cond, ◌&&◌}
use mathlib.Core.List.{List, [], ◌∷◌, ◌++◌, append_assoc}
use mathlib.Core.Option.{Option, none, some, some-injective, none-ne-some}
use Prim.Native.Nat.{ℕ, zero, suc, ◌+◌, ◌≤◌, ◌<◌}
use native.Mathlib.Decide.{dec_lt}
use native.Mathlib.Omega.{arith}
use borrow.Author.Tests.{le-leb, lt-leb, leb-true, eqb-true}
use lib.Dec.{leb, eqb}
use lib.ListN.{length, get_or, drop, length-append}
use lib.Seq.{drop-drop, drop_at}
use Rattle.format.specs.File.{Ev, event_bytes, events_bytes}
use Rattle.format.specs.declared.version.Version.{Version}
use Rattle.layout.specs.Columns.{has_family}
use Rattle.layout.specs.Payloads.{record_size}
use Rattle.layout.specs.declared.columns.Family.{Family}
use Rattle.grammar.specs.WellFormed.{Each, Order}
use Rattle.grammar.specs.Machine.{family_of, rank_of, initial, State, id_in, said_by, closed, orderly, allowed, after, on_family, rest}
use Rattle.grammar.proofs.Tests.{both, taken}
use Rattle.read_scan.specs.Counts.{no_tally, counted_of, tally_of, Under}
use Rattle.read_scan.specs.Inner.{said_at, span_at, takes_at, takes, tells, tallied}
use Rattle.read_scan.specs.declared.tally.Tally.{Tally}
use Rattle.read_scan.proofs.Counting.{under_counted, under_to}
use Rattle.read_scan.proofs.Same.{Spanned, code_at, span_at_lem, one_event_lem, few_events}

-- where the frames are in order
abbrev pub tally_if : Option (List Ev) → Tally → Option Tally
tally_if none t = none
tally_if (some es) t = some t

module _ (v : Version) (o : Order) (file spans : List ℕ) (stop : ℕ) (tail : List ℕ) where
  told_as : (es : List Ev) (n at : ℕ) (s : State) (t : Tally) → length es < n → stop ≡ at + length (events_bytes es) → drop at file ≡ events_bytes es ++ tail → Each (Spanned spans) es
      → tallied v o file spans stop n at s t ≡ tally_if (rest v o s es) (tally_of s.rank s.id t es)
  unfolding tallied rest tells on_family events_bytes Each tally_of
  told_as es zero at s t l q d h = absurd (omega arith)
  told_as [] (suc n) at s t l q d h = rw (le-leb stop at (omega arith)) (go (closed v s))
    where
      go : (c : Bool) → cond c (some t) none ≡ tally_if (cond c (some []) none) t
      go true = refl
      go false = refl
  told_as (e ∷ es) (suc n) at s t l q d h =
      let len = length-append (event_bytes e) (events_bytes es) in
      let here : drop at file ≡ event_bytes e ++ (events_bytes es ++ tail) = d ∙ append_assoc (event_bytes e) (events_bytes es) tail in
      let w : at + suc (length e.payload) ≤ stop = omega arith in
      let sp = span_at_lem v o file spans stop tail s at e (events_bytes es ++ tail) here h.0 w in
      let d' : drop (at + span_at spans file at) file ≡ events_bytes es ++ tail = sym (drop-drop (span_at spans file at) at file) ∙ ap (drop (span_at spans file at)) here ∙ drop_at
      (event_bytes e) (events_bytes es ++ tail) (span_at spans file at) (sym sp) in
      rw (lt-leb stop at (omega arith))
      (ap (λ (f : Option Family). on_family f
      (λ family. cond (takes v o file spans stop s at family) (tallied v o file spans stop n (at + span_at spans file at) (after s family (said_at file at)) (counted_of t s.rank s.id family (said_at file at))) none)
      (cond (closed v s) (some t) none)) (ap family_of (code_at file at e (events_bytes es ++ tail) here))
      ∙ go (family_of e.code) here (λ s t. told_as es n (at + span_at spans file at) s t (omega arith) (omega arith) d' h.1) w)
    where
      go : (f : Option Family) → drop at file ≡ event_bytes e ++ (events_bytes es ++ tail)
          → ((s : State) (t : Tally) → tallied v o file spans stop n (at + span_at spans file at) s t ≡ tally_if (rest v o s es) (tally_of s.rank s.id t es))
          → at + suc (length e.payload) ≤ stop
          → on_family f (λ family. cond (takes v o file spans stop s at family) (tallied v o file spans stop n (at + span_at spans file at) (after s family (said_at file at)) (counted_of t s.rank s.id family (said_at file at))) none) (cond (closed v s) (some t) none)
          ≡ tally_if (on_family f (λ family. cond (allowed v o s family e) (rest v o (after s family (said_by e)) es) none) (cond (closed v s) (some (e ∷ es)) none))
          (on_family f (λ family. tally_of (rank_of family) (id_in e) (counted_of t s.rank s.id family (said_by e)) es) t)
      go none here more w = ends (closed v s)
        where
          ends : (c : Bool) → cond c (some t) none ≡ tally_if (cond c (some (e ∷ es)) none) t
          ends true = refl
          ends false = refl
      go (some family) here more w =
          one_event_lem v o file spans stop tail s at e (events_bytes es ++ tail) here h.0 w family t (λ s t. tallied v o file spans stop n (at + span_at spans file at) s t)
          ∙ steps (allowed v o s family e)
        where
          steps : (c : Bool) → cond c (tallied v o file spans stop n (at + span_at spans file at) (after s family (said_by e)) (counted_of t s.rank s.id family (said_by e))) none
              ≡ tally_if (cond c (rest v o (after s family (said_by e)) es) none) (tally_of (rank_of family) (id_in e) (counted_of t s.rank s.id family (said_by e)) es)
          steps true = more (after s family (said_by e)) (counted_of t s.rank s.id family (said_by e))
          steps false = refl

-- what `frames` counts of a file with these events from `first` to `stop`
pub tells_answered : (v : Version) (o : Order) (file spans : List ℕ) (stop : ℕ) (tail : List ℕ) (es : List Ev) (first : ℕ) → stop ≡ first + length (events_bytes es)
    → drop first file ≡ events_bytes es ++ tail
    → Each (Spanned spans) es
    → tallied v o file spans stop (suc stop) first initial no_tally ≡ tally_if (rest v o initial es) (tally_of 8 0 no_tally es)
tells_answered v o file spans stop tail es first q d h = let f = few_events es in told_as v o file spans stop tail es (suc stop) first initial no_tally (omega arith) q d h

-- ---- no count is over the bytes that were passed

module _ (v : Version) (o : Order) (file spans : List ℕ) (stop : ℕ) where
  taken_size : (s : State) (at : ℕ) (family : Family) → takes v o file spans stop s at family ≡ true → (at < at + span_at spans file at) × (at + span_at spans file at ≤ stop)
  unfolding takes_at
  taken_size s at family q =
      let n = span_at spans file at in
      let (a, b) = both (has_family v family && eqb n (1 + record_size family v)) (leb (at + n) stop && orderly v o s family (said_at file at)) q in
      let e = eqb-true n (1 + record_size family v) (both (has_family v family) (eqb n (1 + record_size family v)) a).1 in
      (omega arith, leb-true (at + n) stop (both (leb (at + n) stop) (orderly v o s family (said_at file at)) b).0)

  told_under : (n at : ℕ) (s : State) (t x : Tally) → at ≤ stop → Under t at → tallied v o file spans stop n at s t ≡ some x → Under x stop
  unfolding tallied tells on_family
  told_under zero at s t x l u q = absurd (none-ne-some x q)
  told_under (suc n) at s t x l u q =
      elim (dec_lt at stop) [
        | yes h ↦ go (family_of (get_or file at 0)) (rw (lt-leb stop at h) at q) (λ m s y k w e. told_under n m s y x k w e)
        | no h ↦ ends (rw (le-leb stop at (omega arith)) at q)
      ]
    where
      ends : cond (closed v s) (some t) none ≡ some x → Under x stop
      ends q = let e = (taken (closed v s) (some t) x q).1 in subst (λ (y : Tally). Under y stop) (some-injective t x e) (under_to t at stop u l)

      go : (f : Option Family)
          → on_family f (λ family. cond (takes v o file spans stop s at family) (tallied v o file spans stop n (at + span_at spans file at) (after s family (said_at file at)) (counted_of t s.rank s.id family (said_at file at))) none) (cond (closed v s) (some t) none)
          ≡ some x
          → ((m : ℕ) (s : State) (y : Tally) → m ≤ stop → Under y m → tallied v o file spans stop n m s y ≡ some x → Under x stop) → Under x stop
      go none q more = ends q
      go (some family) q more =
          let (a, e) = taken (takes v o file spans stop s at family) _ x q in
          let (b, c) = taken_size s at family a in
          more (at + span_at spans file at) (after s family (said_at file at)) (counted_of t s.rank s.id family (said_at file at)) c
          (under_counted t s.rank s.id (said_at file at) family at (at + span_at spans file at) u b) e

  pub tally_under : (first : ℕ) (x : Tally) → first ≤ stop → tallied v o file spans stop (suc stop) first initial no_tally ≡ some x → Under x stop
  tally_under first x l q =
      told_under (suc stop) first initial no_tally x l (record { frames = omega arith; items = omega arith; fods = omega arith; whispys = omega arith; stadiums = omega arith }) q
