-- The laws of a newer recorder's events, one after another: an unknown event changes nothing, and of a longer record the front is read.
-- Assumes nothing.
use mathlib.Core.Path.{◌≡◌, refl, sym, ap, subst, ◌∙◌}
use mathlib.Core.Bool.{Bool, true, false}
use mathlib.Core.List.{List, ◌∷◌, ◌++◌, append_assoc}
use Prim.Native.Nat.{ℕ, suc, ◌+◌, ◌≤◌, ◌<◌}
use native.Mathlib.Omega.{arith}
use lib.ListN.{length, get_or, take, drop, length-append, length-drop, take-append-drop}
use Rattle.format.specs.File.{Ev, event_bytes, events_bytes}
use Rattle.format.specs.declared.version.Version.{Version}
use Rattle.format.proofs.Versions.{no_way}
use Rattle.grammar.specs.WellFormed.{Each}
use Rattle.known.specs.Known.{is_known, known_size, front, known_of}
use Rattle.known.proofs.Codes.{known_one, unknown_one}
use Rattle.read_judge.specs.Inner.{Covers}
use Rattle.newer_events.specs.Some.{SomeCovers}
use Rattle.newer_events.proofs.Events.{First, next_covers, ends_before, code_stands, span_stands, first_event, no_event}
use Rattle.read_event.specs.Inner.{Told, told_at, told_by, span_by}
use Rattle.read_event.specs.Parts.{SizedBy, WholeBy, fold}
use Rattle.read_event.specs.declared.spans.Spans.{Spans}
use Rattle.newer_places.specs.Known.{KnownIn, SomeKnown, LeftIn}

-- ---- the bytes of the file

-- events that stand there are within the file
within : (f spans : List ℕ) (place stop : ℕ) (es : List Ev) → Covers f spans place stop es → place < stop → stop ≤ length f
within f spans place stop es c h =
    let n = ap length c.bytes_are ∙ length-append (events_bytes es) (drop stop f) in omega (arith, n, c.long, length-drop place f, length-drop stop f)

-- the front of an event stands at its place
front_here : (f spans : List ℕ) (place stop : ℕ) (v : Version) (e : Ev) (es : List Ev) → Covers f spans place stop (e ∷ es)
    → drop place f ≡ event_bytes (front v e) ++ (drop (known_size v e) e.payload ++ (events_bytes es ++ drop stop f))
unfolding events_bytes
front_here f spans place stop v e es c =
    let n = known_size v e in
    let whole : e.payload ≡ take n e.payload ++ drop n e.payload = sym (take-append-drop n e.payload) in
    c.bytes_are ∙ append_assoc (event_bytes e) (events_bytes es) (drop stop f) ∙ ap (λ (l : List ℕ). e.code ∷ (l ++ (events_bytes es ++ drop stop f))) whole
    ∙ ap (λ (l : List ℕ). e.code ∷ l) (append_assoc (take n e.payload) (drop n e.payload) (events_bytes es ++ drop stop f))

module _ (file spans : List ℕ) (at stop : ℕ) (es : List Ev) (c : Covers file spans at stop es) (before : at < stop) where
  abbrev one : First file spans at stop es
  one = first_event file spans at stop es c before

  size_is : get_or spans (get_or file at 0) 0 ≡ suc (length one.event.payload)
  size_is = span_stands file spans at stop one.event one.others one.covers

  pub covers_next : SomeCovers file spans (at + get_or spans (get_or file at 0) 0) stop
  covers_next = record {
    raw = one.others;
    covers = subst (λ (n : ℕ). Covers file spans (at + n) stop one.others) (sym size_is) (next_covers file spans at stop one.event one.others one.covers);
  }

  -- the next one is whole before stop, and the file has it
  pub span_before : (0 < get_or spans (get_or file at 0) 0) × (at + get_or spans (get_or file at 0) 0 ≤ stop) × (stop ≤ length file)
  span_before = (omega (arith, size_is), omega (arith, size_is, ends_before file spans at stop one.event one.others one.covers), within file spans at stop es c before)

-- ---- one event

-- what one event does is the same wherever it is told
abbrev pub Agrees : {S : Type 0} → (S → Told → S) → Spans → Type 0
Agrees {S} go z =
    (file : List ℕ) (at : ℕ) (e : Ev) (more : List ℕ) → drop at file ≡ event_bytes e ++ more → SizedBy z e → (x : S) → go x (told_at file at) ≡ go x (told_by e)

-- an event of this code does nothing
abbrev pub Quiet : {S : Type 0} → (S → Told → S) → ℕ → Type 0
Quiet {S} go code = (t : Told) → t.code ≡ code → (x : S) → go x t ≡ x

module _ (z : Spans) (file spans : List ℕ) (at stop : ℕ) where
  abbrev span : ℕ
  span = get_or spans (get_or file at 0) 0

  -- the first event is known: its front is the first of the known ones
  record Known (es : List Ev) : Type 0 where
    event : Ev
    others : List Ev
    more : List ℕ
    events_are : es ≡ event ∷ others
    here : drop at file ≡ event_bytes event ++ more
    code : event.code ≡ get_or file at 0
    short : length (event_bytes event) ≤ span
    sized : SizedBy z event
    next : KnownIn z file spans (at + span) stop others

  data Front (es : List Ev) : Type 0 where
    known : is_known (get_or file at 0) ≡ true → Known es → Front es
    unknown : is_known (get_or file at 0) ≡ false → KnownIn z file spans (at + span) stop es → Front es

  front_short : (v : Version) (e : Ev) → length (event_bytes (front v e)) ≤ suc (length e.payload)
  front_short v e = omega (arith, ap length (take-append-drop (known_size v e) e.payload), length-append (take (known_size v e) e.payload) (drop (known_size v e) e.payload))

  module _ (es : List Ev) (k : KnownIn z file spans at stop es) (before : at < stop) where
    abbrev v : Version
    v = k.version

    abbrev x : First file spans at stop k.raw
    x = first_event file spans at stop k.raw k.covers before

    code_is : get_or file at 0 ≡ x.event.code
    code_is = code_stands file spans at stop x.event x.others x.covers

    span_is : span ≡ suc (length x.event.payload)
    span_is = span_stands file spans at stop x.event x.others x.covers

    behind : Covers file spans (at + span) stop x.others
    behind = subst (λ (n : ℕ). Covers file spans (at + n) stop x.others) (sym span_is) (next_covers file spans at stop x.event x.others x.covers)

    are : es ≡ known_of v (x.event ∷ x.others)
    are = k.known_are ∙ ap (known_of v) x.events_are

    first : Front es
    unfolding Each
    first = go (is_known x.event.code) refl
      where
        go : (b : Bool) → is_known x.event.code ≡ b → Front es
        go true y =
            let same = are ∙ known_one v x.event x.others y in
            let sized = subst (Each (SizedBy z)) same k.sized in
            known (ap is_known code_is ∙ y)
            (record {
              event = front v x.event;
              others = known_of v x.others;
              more = drop (known_size v x.event) x.event.payload ++ (events_bytes x.others ++ drop stop file);
              events_are = same;
              here = front_here file spans at stop v x.event x.others x.covers;
              code = sym code_is;
              short = omega (arith, front_short v x.event, span_is);
              sized = sized.0;
              next = record { version = v; raw = x.others; covers = behind; known_are = refl; sized = sized.1 };
            })
        go false y =
            let same = are ∙ unknown_one v x.event x.others y in
            unknown (ap is_known code_is ∙ y) (record { version = v; raw = x.others; covers = behind; known_are = same; sized = k.sized })

  -- ---- there are events from here on

  module _ (some : SomeKnown z file spans at stop) (before : at < stop) where
    pub some_whole : is_known (get_or file at 0) ≡ true → WholeBy z file at
    some_whole y = go (first some.events some.known before)
      where
        go : Front some.events → WholeBy z file at
        go (known a k) =
            let b = span_before file spans at stop some.known.raw some.known.covers before in
            let c = ap (span_by z) k.code in record { long = omega (arith, k.sized.long, c); inside = omega (arith, k.sized.size, k.short, c, b.1, b.2) }
        go (unknown a k) = no_way (sym a ∙ y)

    pub some_next : SomeKnown z file spans (at + span) stop
    some_next = go (first some.events some.known before)
      where
        go : Front some.events → SomeKnown z file spans (at + span) stop
        go (known a k) = record { events = k.others; known = k.next }
        go (unknown a k) = record { events = some.events; known = k }

  module _ {S : Type 0} (go : S → Told → S) (s all : S) (h : LeftIn go z file spans at stop s all) where
    -- a known event
    pub left_next : Agrees go z → at < stop → is_known (get_or file at 0) ≡ true → LeftIn go z file spans (at + span) stop (go s (told_at file at)) all
    unfolding fold
    left_next agrees before y = on (first h.events h.known before)
      where
        on : Front h.events → LeftIn go z file spans (at + span) stop (go s (told_at file at)) all
        on (known a k) = record {
          events = k.others;
          known = k.next;
          same = ap (fold go k.others) (agrees file at k.event k.more k.here k.sized s) ∙ sym (ap (λ (es : List Ev). fold go es s) k.events_are) ∙ h.same;
        }
        on (unknown a k) = no_way (sym a ∙ y)

    -- one whose code does nothing, known or not
    pub left_quiet : Quiet go (get_or file at 0) → at < stop → LeftIn go z file spans (at + span) stop s all
    unfolding fold
    left_quiet quiet before = on (first h.events h.known before)
      where
        on : Front h.events → LeftIn go z file spans (at + span) stop s all
        on (known a k) = record {
          events = k.others;
          known = k.next;
          same = sym (ap (fold go k.others) (quiet (told_by k.event) k.code s)) ∙ sym (ap (λ (es : List Ev). fold go es s) k.events_are) ∙ h.same;
        }
        on (unknown a k) = record { events = h.events; known = k; same = h.same }

    pub left_done : stop ≤ at → s ≡ all
    unfolding fold known_of
    left_done t =
        let none = no_event file spans at stop h.known.raw h.known.covers t in
        sym (ap (λ (es : List Ev). fold go es s) (h.known.known_are ∙ ap (known_of h.known.version) none)) ∙ h.same
