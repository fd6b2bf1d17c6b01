-- Over the bytes of listed events, the scan is the machine over the events.
-- Assumes nothing.
use mathlib.Core.Path.{◌≡◌, refl, sym, ap, ◌∙◌}
use mathlib.Core.Bool.{Bool, true, false, cond, ◌&&◌}
use mathlib.Core.List.{List, [], ◌∷◌, ◌++◌, append_assoc}
use mathlib.Core.Logic.{◌↔◌}
use mathlib.Core.Option.{Option, none, some, some-injective, none-ne-some}
use Prim.Native.Nat.{ℕ, zero, suc, ◌+◌, ◌-◌, ◌≤◌, ◌<◌}
use native.Mathlib.Nat.{add-zero}
use native.Mathlib.Decide.{ℕ_discrete}
use native.Mathlib.Omega.{arith}
use borrow.Author.Tests.{le-leb, lt-leb, eq-eqb, ne_eqb}
use lib.Dec.{leb}
use lib.ListN.{length, get_or, take, drop, length-append, get_or-append}
use lib.Seq.{get_or-drop, drop-drop, drop_at, take-append-le}
use Rattle.wire.specs.Wire.{number, part}
use Rattle.format.specs.File.{Ev, event_bytes, events_bytes}
use Rattle.format.specs.declared.version.Version.{Version}
use Rattle.layout.specs.Columns.{has_family}
use Rattle.layout.specs.Payloads.{record_size}
use Rattle.layout.specs.declared.columns.Family.{Family}
use Rattle.layout.specs.declared.columns.Family.TheVariants.{Pre, Post, FrameStart, Item, FrameEnd, FodPlatform, DreamlandWhispy, StadiumTransformation}
use Rattle.grammar.specs.WellFormed.{Each, Order}
use Rattle.grammar.specs.Machine.{family_of, initial, Said, State, state, id_in, port_in, follower_in, said_by, closed, in_frame, orderly, allowed, due_after, after, on_family, rest}
use Rattle.grammar.proofs.Exactly.{Byte, Taken, exactly}
use Rattle.read_scan.specs.Counts.{no_tally, begun_at, counted_of}
use Rattle.read_scan.specs.Inner.{said_at, span_at, stops, takes_at, takes, scan}
use Rattle.read_scan.specs.declared.tally.Tally.{Tally}

-- a file whose bytes from a place on are those of an event, and then others
module _ (file : List ℕ) (at : ℕ) (e : Ev) (more : List ℕ) (here : drop at file ≡ event_bytes e ++ more) where
  byte_at : (k : ℕ) → get_or file (at + k) 0 ≡ get_or (event_bytes e ++ more) k 0
  byte_at k = sym (get_or-drop at file k 0) ∙ ap (λ (l : List ℕ). get_or l k 0) here

  pub code_at : get_or file at 0 ≡ e.code
  code_at = ap (λ (n : ℕ). get_or file n 0) (sym (add-zero at)) ∙ byte_at 0

  id_at_lem : 4 ≤ length e.payload → number (part file (at + 1) 4) ≡ id_in e
  unfolding part
  id_at_lem h =
      let d : drop (at + 1) file ≡ e.payload ++ more = sym (drop-drop 1 at file) ∙ ap (drop 1) here in
      ap (λ (l : List ℕ). number (take 4 l)) d ∙ ap number (take-append-le 4 e.payload more h)

  port_at_lem : 6 ≤ length e.payload → get_or file (at + 5) 0 ≡ port_in e
  port_at_lem h = byte_at 5 ∙ get_or-append e.payload more 0 4 (omega arith)

  follower_at : 6 ≤ length e.payload → get_or file (at + 6) 0 ≡ follower_in e
  follower_at h = byte_at 6 ∙ get_or-append e.payload more 0 5 (omega arith)

-- only players' events ask who it is
module _ (v : Version) (o : Order) (s : State) (a b : Said) (i : a.id ≡ b.id) where
  pub said_same : (family : Family) → ((family ≡ Pre) → a ≡ b) → ((family ≡ Post) → a ≡ b)
      → (orderly v o s family a ≡ orderly v o s family b) × (after s family a ≡ after s family b)
  unfolding orderly due_after in_frame
  said_same Pre p q = (ap (orderly v o s Pre) (p refl), ap (after s Pre) (p refl))
  said_same Post p q = (ap (orderly v o s Post) (q refl), ap (after s Post) (q refl))
  said_same FrameStart p q = (refl, λ z. state 1 (i z) s.due)
  said_same FodPlatform p q = (rw i, λ z. state 3 (i z) s.due)
  said_same DreamlandWhispy p q = (rw i, λ z. state 4 (i z) s.due)
  said_same StadiumTransformation p q = (rw i, λ z. state 5 (i z) s.due)
  said_same Item p q = (rw i, λ z. state 6 (i z) s.due)
  said_same FrameEnd p q = (rw i, λ z. state 8 (i z) s.due)

-- nor does the tally
pub counted_same : (t : Tally) (rank id : ℕ) (a b : Said) → a.id ≡ b.id → (family : Family) → ((family ≡ Pre) → a ≡ b) → counted_of t rank id family a ≡ counted_of t rank id family b
unfolding counted_of
counted_same t rank id a b i Pre p = ap (counted_of t rank id Pre) (p refl)
counted_same t rank id a b i Post p = refl
counted_same t rank id a b i FrameStart p = ap (begun_at t id) i
counted_same t rank id a b i Item p = refl
counted_same t rank id a b i FrameEnd p = refl
counted_same t rank id a b i FodPlatform p = refl
counted_same t rank id a b i DreamlandWhispy p = refl
counted_same t rank id a b i StadiumTransformation p = refl

pub big : (family : Family) (v : Version) → 4 ≤ record_size family v
big Pre v = omega arith
big Post v = omega arith
big FrameStart v = omega arith
big Item v = omega arith
big FrameEnd v = omega arith
big FodPlatform v = omega arith
big DreamlandWhispy v = omega arith
big StadiumTransformation v = omega arith

and_false : (a x : Bool) → (a && false) && x ≡ false
and_false true x = refl
and_false false x = refl

-- where the events begin that are left, as a place
abbrev pub place_of : ℕ → Option (List Ev) → Option ℕ
place_of stop none = none
place_of stop (some t) = some (stop - length (events_bytes t))

-- the span of an event's code is that of the event
abbrev pub Spanned : List ℕ → Ev → Type 0
Spanned spans e = get_or spans e.code 0 ≡ suc (length e.payload)

module _ (v : Version) (o : Order) (file spans : List ℕ) (stop : ℕ) (tail : List ℕ) where
  module _ (s : State) (at : ℕ) (e : Ev) (more : List ℕ) (here : drop at file ≡ event_bytes e ++ more) (spanned : Spanned spans e) (whole : at + suc (length e.payload) ≤ stop)
    where
      pub span_at_lem : span_at spans file at ≡ suc (length e.payload)
      span_at_lem = ap (λ (c : ℕ). get_or spans c 0) (code_at file at e more here) ∙ spanned

      pub one_event_lem : {A : Type 0} (family : Family) (t : Tally) (next : State → Tally → Option A)
          → cond (takes v o file spans stop s at family) (next (after s family (said_at file at)) (counted_of t s.rank s.id family (said_at file at))) none
          ≡ cond (allowed v o s family e) (next (after s family (said_by e)) (counted_of t s.rank s.id family (said_by e))) none
      unfolding takes_at allowed
      one_event_lem family t next =
          elim (ℕ_discrete (length e.payload) (record_size family v)) [
            | yes q ↦
                let b = big family v in
                let i = id_at_lem file at e more here (omega arith) in
                let who : 6 ≤ length e.payload → said_at file at ≡ said_by e =
                λ h z. record { id = i z; port = port_at_lem file at e more here h z; follower = follower_at file at e more here h z } in
                let same =
                said_same v o s (said_at file at) (said_by e) i family
                (λ f. who (omega (arith, ap (λ (g : Family). record_size g v) f)))
                (λ f. who (omega (arith, ap (λ (g : Family). record_size g v) f))) in
                let counts =
                counted_same t s.rank s.id (said_at file at) (said_by e) i family (λ f. who (omega (arith, ap (λ (g : Family). record_size g v) f))) in
                rw (
                  eq-eqb (span_at spans file at) (1 + record_size family v) (omega (arith, span_at_lem)),
                  le-leb (at + span_at spans file at) stop (omega (arith, span_at_lem)),
                  eq-eqb (length e.payload) (record_size family v) q,
                  same.0,
                  same.1,
                  counts,
                )
            | no q ↦
                rw (
                  ne_eqb (span_at spans file at) (1 + record_size family v) (λ x. q (omega (arith, span_at_lem))),
                  ne_eqb (length e.payload) (record_size family v) q,
                  and_false (has_family v family) (leb (at + span_at spans file at) stop && orderly v o s family (said_at file at)),
                  and_false (has_family v family) (orderly v o s family (said_by e)),
                )
          ]

  pub scanned : (es : List Ev) (n at : ℕ) (s : State) → length es < n → stop ≡ at + length (events_bytes es) → drop at file ≡ events_bytes es ++ tail → Each (Spanned spans) es
      → scan v o file spans stop n at s ≡ place_of stop (rest v o s es)
  unfolding scan rest stops on_family events_bytes Each
  scanned es zero at s l q d h = absurd (omega arith)
  scanned [] (suc n) at s l q d h = rw (le-leb stop at (omega arith)) (go (closed v s))
    where
      go : (c : Bool) → cond c (some at) none ≡ place_of stop (cond c (some []) none)
      go true = let e : stop - 0 ≡ at = omega arith in rw e
      go false = refl
  scanned (e ∷ es) (suc n) at s l q d h =
      let len = length-append (event_bytes e) (events_bytes es) in
      let here : drop at file ≡ event_bytes e ++ (events_bytes es ++ tail) = d ∙ append_assoc (event_bytes e) (events_bytes es) tail in
      let w : at + suc (length e.payload) ≤ stop = omega arith in
      let sp = span_at_lem s at e (events_bytes es ++ tail) here h.0 w in
      let d' : drop (at + span_at spans file at) file ≡ events_bytes es ++ tail = sym (drop-drop (span_at spans file at) at file) ∙ ap (drop (span_at spans file at)) here ∙ drop_at
      (event_bytes e) (events_bytes es ++ tail) (span_at spans file at) (sym sp) in
      rw (lt-leb stop at (omega arith))
      (ap (λ (f : Option Family). on_family f (λ family. cond (takes v o file spans stop s at family) (scan v o file spans stop n (at + span_at spans file at) (after s family (said_at file at))) none) (cond (closed v s) (some at) none)) (ap family_of (code_at file at e (events_bytes es ++ tail) here))
      ∙ go (family_of e.code) here (λ s. scanned es n (at + span_at spans file at) s (omega arith) (omega arith) d' h.1) (omega arith) w)
    where
      go : (f : Option Family) → drop at file ≡ event_bytes e ++ (events_bytes es ++ tail)
          → ((s : State) → scan v o file spans stop n (at + span_at spans file at) s ≡ place_of stop (rest v o s es)) → stop - length (events_bytes (e ∷ es)) ≡ at
          → at + suc (length e.payload) ≤ stop
          → on_family f (λ family. cond (takes v o file spans stop s at family) (scan v o file spans stop n (at + span_at spans file at) (after s family (said_at file at))) none) (cond (closed v s) (some at) none)
          ≡ place_of stop (on_family f (λ family. cond (allowed v o s family e) (rest v o (after s family (said_by e)) es) none) (cond (closed v s) (some (e ∷ es)) none))
      go none here more x w = ends (closed v s)
        where
          ends : (c : Bool) → cond c (some at) none ≡ place_of stop (cond c (some (e ∷ es)) none)
          ends true = rw x
          ends false = refl
      go (some family) here more x w =
          one_event_lem s at e (events_bytes es ++ tail) here h.0 w family no_tally (λ s t. scan v o file spans stop n (at + span_at spans file at) s)
          ∙ steps (allowed v o s family e)
        where
          steps : (c : Bool) → cond c (scan v o file spans stop n (at + span_at spans file at) (after s family (said_by e))) none ≡ place_of stop (cond c (rest v o (after s family (said_by e)) es) none)
          steps true = more (after s family (said_by e))
          steps false = refl

-- no more events than bytes
pub few_events : (es : List Ev) → length es ≤ length (events_bytes es)
unfolding events_bytes
few_events [] = omega arith
few_events (e ∷ es) = let f = few_events es in omega (arith, length-append (event_bytes e) (events_bytes es))

-- what `frames` answers of a file with these events from `first` to `stop`
pub answered : (v : Version) (o : Order) (file spans : List ℕ) (stop : ℕ) (tail : List ℕ) (es : List Ev) (first : ℕ) → stop ≡ first + length (events_bytes es)
    → drop first file ≡ events_bytes es ++ tail
    → Each (Spanned spans) es
    → scan v o file spans stop (suc stop) first initial ≡ place_of stop (rest v o initial es)
answered v o file spans stop tail es first q d h = let f = few_events es in scanned v o file spans stop tail es (suc stop) first initial (omega arith) q d h

-- ---- the frames end at a place exactly where the events before it are those of well-formed frames, and the next one is none of a frame's

pub record Ends (v : Version) (o : Order) (es : List Ev) (stop place : ℕ) : Type 0 where
  pub others : List Ev
  pub taken : Taken v o es others
  pub place_is : place ≡ stop - length (events_bytes others)

module _ (v : Version) (o : Order) (file spans : List ℕ) (stop : ℕ) (tail : List ℕ) (es : List Ev) (first : ℕ) (long : stop ≡ first + length (events_bytes es))
    (here : drop first file ≡ events_bytes es ++ tail) (spanned : Each (Spanned spans) es) (bytes : Each (λ e. Each Byte e.payload) es) (place : ℕ) where
  found : scan v o file spans stop (suc stop) first initial ≡ some place → Ends v o es stop place
  found q = go (rest v o initial es) refl (sym (answered v o file spans stop tail es first long here spanned) ∙ q)
    where
      go : (x : Option (List Ev)) → rest v o initial es ≡ x → place_of stop x ≡ some place → Ends v o es stop place
      go none e p = absurd (none-ne-some place p)
      go (some t) e p = record { others = t; taken = (exactly v o es t bytes).0 e; place_is = sym (some-injective (stop - length (events_bytes t)) place p) }

  back : Ends v o es stop place → scan v o file spans stop (suc stop) first initial ≡ some place
  back h =
      answered v o file spans stop tail es first long here spanned
      ∙ ap (place_of stop) ((exactly v o es h.others bytes).1 h.taken)
      ∙ ap {B = Option ℕ} some (sym h.place_is)

  pub ends : (scan v o file spans stop (suc stop) first initial ≡ some place) ↔ Ends v o es stop place
  ends = (found, back)
