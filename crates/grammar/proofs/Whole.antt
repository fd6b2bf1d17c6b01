-- The tests take exactly the events of well-formed replays.
-- Assumes nothing.
use mathlib.Core.Path.{◌≡◌, refl, ap, ap₂, subst, ◌∙◌}
use mathlib.Core.Bool.{Bool, true, false, cond, ◌&&◌}
use mathlib.Core.List.{List, [], ◌∷◌, ◌++◌, map}
use mathlib.Core.Logic.{◌↔◌}
use mathlib.Core.Option.{Option, none, some, some-injective}
use Prim.Native.Nat.{ℕ, ◌≤◌, ◌<◌}
use native.Mathlib.Omega.{arith}
use borrow.Author.Tests.{lt-ltb, le-leb, eq-eqb, ltb-true, leb-true, eqb-true}
use lib.Dec.{ltb, leb, eqb}
use lib.ListN.{length, get_or, take}
use Rattle.format.specs.Event.{code_of}
use Rattle.format.specs.File.{Ev}
use Rattle.format.specs.declared.event.Event.TheVariants.{GameStart, GameEnd, MessageSplitter}
use Rattle.format.specs.declared.version.Version.{Version}
use Rattle.format.proofs.Versions.{no_way}
use Rattle.layout.specs.Payloads.{end_size}
use Rattle.start.specs.Length.{length_of}
use Rattle.start.proofs.Lengths.{at_least}
use Rattle.grammar.specs.Productions.{Block, Replay, start_event, codes_events, events_of_frames, end_event, events_of}
use Rattle.grammar.specs.WellFormed.{Each, Order, GoodCodes, WellFormed}
use Rattle.grammar.specs.Machine.{initial, rest, family_of}
use Rattle.grammar.specs.Whole.{says_version, is_start, codes_rest, blocks_rest, is_end, are_ends, on_some, is_replay}
use Rattle.grammar.proofs.Tests.{both}
use Rattle.grammar.proofs.Each.{each_after}
use Rattle.grammar.proofs.Unique.{no_block}
use Rattle.grammar.proofs.Takes.{closed_last, NoFrame, complete}
use Rattle.grammar.proofs.Exactly.{Byte, exactly}
use Rattle.grammar.proofs.Blocks.{codes_run, blocks_found}

-- ---- the start

says : (v : Version) (p : List ℕ) → take 3 p ≡ v.major ∷ v.minor ∷ v.patch ∷ [] → says_version v p ≡ true
unfolding says_version
says v [] e = let n = ap length e in absurd (omega arith)
says v (a ∷ []) e = let n = ap length e in absurd (omega arith)
says v (a ∷ b ∷ []) e = let n = ap length e in absurd (omega arith)
says v (a ∷ b ∷ c ∷ p) e =
    let byte : (k : ℕ) → get_or (a ∷ b ∷ c ∷ []) k 0 ≡ get_or (v.major ∷ v.minor ∷ v.patch ∷ []) k 0 = λ k. ap (λ (l : List ℕ). get_or l k 0) e in
    rw (eq-eqb a v.major (byte 0), eq-eqb b v.minor (byte 1), eq-eqb c v.patch (byte 2))

said : (v : Version) (p : List ℕ) → 3 ≤ length p → says_version v p ≡ true → take 3 p ≡ v.major ∷ v.minor ∷ v.patch ∷ []
unfolding says_version
said v [] n q = absurd (omega arith)
said v (a ∷ []) n q = absurd (omega arith)
said v (a ∷ b ∷ []) n q = absurd (omega arith)
said v (a ∷ b ∷ c ∷ p) n q =
    let (x, m) = both (eqb a v.major) (eqb b v.minor && eqb c v.patch) q in
    let (y, z) = both (eqb b v.minor) (eqb c v.patch) m in
    let i = eqb-true a v.major x in
    let j = eqb-true b v.minor y in
    let k = eqb-true c v.patch z in
    λ t. i t ∷ j t ∷ k t ∷ []

start_taken : (v : Version) (p : List ℕ) → take 3 p ≡ v.major ∷ v.minor ∷ v.patch ∷ [] → length_of v ≤ length p → length p < 65536 → is_start v (start_event p) ≡ true
unfolding is_start
start_taken v p e n m = rw (says v p e, le-leb (length_of v) (length p) n, lt-ltb (length p) 65536 m)

-- ---- the ends

ends_taken : (v : Version) (ends : List (List ℕ)) → length ends ≤ 2 → Each (λ bytes. length bytes ≡ end_size v) ends → are_ends v (map end_event ends) ≡ true
unfolding Each are_ends is_end
ends_taken v [] n h = refl
ends_taken v (a ∷ []) n h = rw (eq-eqb (length a) (end_size v) h.0)
ends_taken v (a ∷ b ∷ []) n h = rw (eq-eqb (length a) (end_size v) h.0, eq-eqb (length b) (end_size v) h.1.0)
ends_taken v (a ∷ b ∷ c ∷ ends) n h = absurd (omega arith)

no_frame_lem : (ends : List (List ℕ)) → NoFrame (map end_event ends)
unfolding family_of
no_frame_lem [] = tt
no_frame_lem (a ∷ ends) = refl

record Ended (v : Version) (es : List Ev) : Type 0 where
  ends : List (List ℕ)
  few : length ends ≤ 2
  sized : Each (λ bytes. length bytes ≡ end_size v) ends
  events_are : es ≡ map end_event ends

end_is : (v : Version) (e : Ev) → is_end v e ≡ true → (e ≡ end_event e.payload) × (length e.payload ≡ end_size v)
unfolding is_end
end_is v e q =
    let (a, b) = both (eqb e.code (code_of GameEnd)) (eqb (length e.payload) (end_size v)) q in
    let c = eqb-true e.code (code_of GameEnd) a in
    (λ i. record { code = c i; payload = e.payload }, eqb-true (length e.payload) (end_size v) b)

ends_found : (v : Version) (es : List Ev) → are_ends v es ≡ true → Ended v es
unfolding are_ends Each
ends_found v [] q = record { ends = []; few = omega arith; sized = tt; events_are = refl }
ends_found v (e ∷ []) q =
    let (x, n) = end_is v e q in
    record { ends = e.payload ∷ []; few = omega arith; sized = (n, tt); events_are = λ i. x i ∷ [] }
ends_found v (e ∷ f ∷ []) q =
    let (a, b) = both (is_end v e) (is_end v f) q in
    let (x, n) = end_is v e a in
    let (y, m) = end_is v f b in
    record { ends = e.payload ∷ f.payload ∷ []; few = omega arith; sized = (n, (m, tt)); events_are = λ i. x i ∷ y i ∷ [] }
ends_found v (e ∷ f ∷ g ∷ es) q = no_way q

-- ---- the codes, where there are any

record Coded (v : Version) (es t : List Ev) : Type 0 where
  codes : List Block
  good : GoodCodes v codes
  events_are : es ≡ codes_events codes ++ t

no_codes : (v : Version) (es t : List Ev) → es ≡ t → Coded v es t
unfolding GoodCodes codes_events
no_codes v es t e = record { codes = []; good = tt; events_are = e }

codes_found : (v : Version) (es t : List Ev) → Each (λ e. Each Byte e.payload) es → codes_rest v es ≡ some t → Coded v es t
unfolding codes_rest
codes_found v [] t b q = no_codes v [] t (some-injective [] t q)
codes_found v (e ∷ es) t b q = go (eqb e.code (code_of MessageSplitter)) q
  where
    go : (c : Bool) → cond c (blocks_rest v (e ∷ es)) (some (e ∷ es)) ≡ some t → Coded v (e ∷ es) t
    go true q = let h = blocks_found v (e ∷ es) t b q in record { codes = h.one ∷ h.others; good = h.good; events_are = h.events_are }
    go false q = no_codes v (e ∷ es) t (some-injective (e ∷ es) t q)

-- ---- the whole

pub record Comes (v : Version) (o : Order) (es : List Ev) : Type 0 where
  pub replay : Replay
  pub well : WellFormed v o replay
  pub events_are : es ≡ events_of v replay

well_taken : (v : Version) (o : Order) (r : Replay) → WellFormed v o r → is_replay v o (events_of v r) ≡ true
unfolding is_replay events_of on_some
well_taken v o r h =
    let ends = map end_event r.ends in
    rw (
      start_taken v r.block h.version h.block h.short,
      codes_run v (events_of_frames v r.frames ++ ends) (no_block v o r.ends r.frames h.frames) r.codes h.codes,
      complete v o ends (no_frame_lem r.ends) r.frames h.frames initial (closed_last v 0),
    )
    (ends_taken v r.ends h.few h.ends)

module _ (v : Version) (o : Order) (e : Ev) (es : List Ev) (bytes : Each (λ e. Each Byte e.payload) es) (start : is_start v e ≡ true) where
  start_is : (e ≡ start_event e.payload) × (take 3 e.payload ≡ v.major ∷ v.minor ∷ v.patch ∷ []) × (length_of v ≤ length e.payload) × (length e.payload < 65536)
  unfolding is_start
  start_is =
      let p = e.payload in
      let (a, m) = both (eqb e.code (code_of GameStart)) (says_version v p && (leb (length_of v) (length p) && ltb (length p) 65536)) start in
      let (b, n) = both (says_version v p) (leb (length_of v) (length p) && ltb (length p) 65536) m in
      let (c, d) = both (leb (length_of v) (length p)) (ltb (length p) 65536) n in
      let code = eqb-true e.code (code_of GameStart) a in
      let long = leb-true (length_of v) (length p) c in
      (λ i. record { code = code i; payload = p }, said v p (omega (arith, at_least v)) b, long, ltb-true (length p) 65536 d)

  whole_found : (t u : List Ev) → codes_rest v es ≡ some t → rest v o initial t ≡ some u → are_ends v u ≡ true → Comes v o (e ∷ es)
  unfolding events_of
  whole_found t u x y z =
      let (is, version, block, short) = start_is in
      let coded = codes_found v es t bytes x in
      let later = each_after (λ e. Each Byte e.payload) (codes_events coded.codes) t (subst (λ (l : List Ev). Each (λ e. Each Byte e.payload) l) coded.events_are bytes)
      in
      let frames = (exactly v o t u later).0 y in
      let ended = ends_found v u z in
      record {
        replay = record { block = e.payload; codes = coded.codes; frames = frames.frames; ends = ended.ends };
        well = record {
          version = version;
          block = block;
          short = short;
          codes = coded.good;
          frames = frames.good;
          few = ended.few;
          ends = ended.sized;
        };
        events_are =
            ap₂ (λ (a : Ev) (l : List Ev). a ∷ l) is
            (coded.events_are
            ∙ ap (λ (l : List Ev). codes_events coded.codes ++ l)
            (frames.events_are ∙ ap (λ (l : List Ev). events_of_frames v frames.frames ++ l) ended.events_are));
      }

found : (v : Version) (o : Order) (es : List Ev) → Each (λ e. Each Byte e.payload) es → is_replay v o es ≡ true → Comes v o es
unfolding is_replay Each on_some
found v o [] b q = no_way q
found v o (e ∷ es) b q =
    let (s, m) = both (is_start v e) (on_some (codes_rest v es) (λ t. on_some (rest v o initial t) (are_ends v))) q in
    go (codes_rest v es) refl s m
  where
    go : (x : Option (List Ev)) → codes_rest v es ≡ x → is_start v e ≡ true → on_some x (λ t. on_some (rest v o initial t) (are_ends v)) ≡ true → Comes v o (e ∷ es)
    go none x s m = no_way m
    go (some t) x s m = on (rest v o initial t) refl m
      where
        on : (y : Option (List Ev)) → rest v o initial t ≡ y → on_some y (are_ends v) ≡ true → Comes v o (e ∷ es)
        on none y m = no_way m
        on (some u) y m = whole_found v o e es b.1 s t u x y m

-- events are a well-formed replay's exactly where the tests say so
pub whole : (v : Version) (o : Order) (es : List Ev) → Each (λ e. Each Byte e.payload) es → (is_replay v o es ≡ true) ↔ Comes v o es
whole v o es b = (found v o es b, λ h. ap (is_replay v o) h.events_are ∙ well_taken v o h.replay h.well)
