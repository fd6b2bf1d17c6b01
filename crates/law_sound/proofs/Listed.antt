-- The table of a well-formed replay lists its events.
-- Assumes nothing.
use Prim.Native.Nat.{ℕ, ◌+◌}
use mathlib.Core.Path.{◌≡◌, refl, sym, ap, ◌∙◌}
use mathlib.Core.Bool.{Bool, true, false}
use mathlib.Core.List.{List, [], ◌∷◌, ◌++◌, map}
use native.Mathlib.Omega.{arith}
use lib.Dec.{lit<}
use lib.ListN.{length, length-append}
use Rattle.wire.specs.Wire.{be, keep}
use Rattle.wire.proofs.Laws.{length_be}
use Rattle.format.specs.Event.{code_of}
use Rattle.format.specs.File.{Entry, Ev, Listed}
use Rattle.format.specs.Version.{gte_of}
use Rattle.format.specs.declared.event.Event.TheVariants as event
use Rattle.format.specs.declared.version.Version.{Version}
use Rattle.format.proofs.Files.{listed_append, listed_keep}
use Rattle.layout.specs.Columns.{has_family, size_of}
use Rattle.layout.specs.Payloads.{event_of, head_size, record_size, end_size, listed, payload_size, entries_of}
use Rattle.layout.specs.declared.columns.Family.{Family}
use Rattle.layout.specs.declared.columns.Family.TheVariants.{Pre, Post, FrameStart, Item, FrameEnd, FodPlatform, DreamlandWhispy, StadiumTransformation}
use Rattle.layout.proofs.Entries.{Sized, entry_at, family_at_home}
use Rattle.grammar.specs.Productions.{Player, Frame, Block, Replay, row_event, pre_event, post_event, events_of_frame, events_of_frames, block_event, codes_events, start_event, end_event, events_of, used_in}
use Rattle.grammar.specs.WellFormed.{Each, Order, GoodPlayer, GoodRow, GoodFrame, GoodCodes, WellFormed}
use Rattle.grammar.specs.Sound.{table_for}
use Rattle.grammar.proofs.Takes.{has_pre, has_post}

module _ (v : Version) (n : ℕ) (given : Bool) (actual : ℕ) where
  abbrev t : List Entry
  t = entries_of v n given actual

  one : (e : Ev) (es : List Ev) → Sized v n given actual e.code (length e.payload) → Listed t es → Listed t (e ∷ es)
  unfolding Listed
  one e es s h = (s.0, s.1, h)

  none : Listed t []
  unfolding Listed
  none = tt

  sized_as : (code a b : ℕ) → a ≡ b → Sized v n given actual code a → Sized v n given actual code b
  sized_as code a b e s = (s.0, s.1 ∙ e)

  -- ---- a frame

  row : (family : Family) (id : ℕ) (bytes : List ℕ) (es : List Ev) → has_family v family ≡ true → record_size family v ≡ 4 + length bytes → Listed t es → Listed t (row_event family id bytes ∷ es)
  row family id bytes es h e more =
      let long : length (be 4 id ++ bytes) ≡ 4 + length bytes = length-append (be 4 id) bytes ∙ ap (λ (k : ℕ). k + length bytes) (length_be 4 id) in
      one (row_event family id bytes) es (sized_as (code_of (event_of family)) (record_size family v) (length (be 4 id ++ bytes)) (e ∙ sym long) (family_at_home v n given actual family h)) more

  rows : (family : Family) → head_size family ≡ 4 → (id : ℕ) (xs : List (List ℕ)) → Each (GoodRow v family) xs → Listed t (map (row_event family id) xs)
  unfolding Each
  rows family q id [] h = none
  rows family q id (x ∷ xs) h = row family id x (map (row_event family id) xs) h.0.has (omega (arith, q, h.0.size)) (rows family q id xs h.1)

  pres : (id : ℕ) (ps : List Player) → Each (GoodPlayer v) ps → Listed t (map (pre_event id) ps)
  unfolding Each
  pres id [] h = none
  pres id (p ∷ ps) h = row Pre id (p.port ∷ p.follower ∷ p.pre) (map (pre_event id) ps) (has_pre v) (omega (arith, h.0.pre)) (pres id ps h.1)

  posts : (id : ℕ) (ps : List Player) → Each (GoodPlayer v) ps → Listed t (map (post_event id) ps)
  unfolding Each
  posts id [] h = none
  posts id (p ∷ ps) h = row Post id (p.port ∷ p.follower ∷ p.post) (map (post_event id) ps) (has_post v) (omega (arith, h.0.post)) (posts id ps h.1)

  kept : (family : Family) → head_size family ≡ 4 → (id : ℕ) (bytes : List ℕ) → length bytes ≡ size_of family v → Listed t (keep (has_family v family) (row_event family id bytes ∷ []))
  kept family q id bytes e = listed_keep t (has_family v family) (row_event family id bytes ∷ []) (λ h. row family id bytes [] h (omega (arith, q, e)) none)

  module _ (o : Order) where
    frame : (f : Frame) → GoodFrame v o f → Listed t (events_of_frame v f)
    unfolding events_of_frame
    frame f g =
        listed_append t _ _ (kept FrameStart refl f.id f.start g.start)
        (listed_append t _ _ (pres f.id f.players g.players)
        (listed_append t _ _ (rows FodPlatform refl f.id f.fods g.fods)
        (listed_append t _ _ (rows DreamlandWhispy refl f.id f.whispys g.whispys)
        (listed_append t _ _ (rows StadiumTransformation refl f.id f.stadiums g.stadiums)
        (listed_append t _ _ (rows Item refl f.id f.items g.items)
        (listed_append t _ _ (posts f.id f.players g.players) (kept FrameEnd refl f.id f.end g.end)))))))

    frames : (fs : List Frame) → Each (GoodFrame v o) fs → Listed t (events_of_frames v fs)
    unfolding events_of_frames Each
    frames [] h = none
    frames (f ∷ fs) h = listed_append t (events_of_frame v f) (events_of_frames v fs) (frame f h.0) (frames fs h.1)

  -- ---- blocks of codes

  coded : (bs : List Block) → (bs ≡ [] → ⊥) → GoodCodes v bs → gte_of v 3 3 ≡ true
  unfolding GoodCodes
  coded [] ne h = absurd (ne refl)
  coded (b ∷ []) ne h = h.0
  coded (b ∷ c ∷ bs) ne h = coded (c ∷ bs) (λ e. let z : ◌≡◌ {A = ℕ} 0 1 = cc in omega arith) h.2

  splitter : given ≡ true → gte_of v 3 3 ≡ true → Sized v n given actual 0x10 516
  unfolding listed payload_size
  splitter g h = entry_at v n given actual 8 event.MessageSplitter (lit< tt) refl (rw (g, h))

  block : (flag : ℕ) (b : Block) (es : List Ev) → given ≡ true → gte_of v 3 3 ≡ true → length b.bytes ≡ 512 → Listed t es → Listed t (block_event flag b ∷ es)
  block flag b es g h e more =
      let tail = be 2 b.used ++ (0x3D ∷ flag ∷ []) in
      let long : length (b.bytes ++ tail) ≡ 516 = length-append b.bytes tail ∙ omega (arith, e, length-append (be 2 b.used) (0x3D ∷ flag ∷ []), length_be 2 b.used) in
      one (block_event flag b) es (sized_as 0x10 516 (length (b.bytes ++ tail)) (sym long) (splitter g h)) more

  blocks : given ≡ true → gte_of v 3 3 ≡ true → (bs : List Block) → GoodCodes v bs → Listed t (codes_events bs)
  unfolding GoodCodes codes_events
  blocks g h [] k = none
  blocks g h (b ∷ []) k = block 1 b [] g h k.1 none
  blocks g h (b ∷ c ∷ bs) k = block 0 b (codes_events (c ∷ bs)) g h k.0 (blocks g h (c ∷ bs) k.2)

  codes : (bs : List Block) → GoodCodes v bs → (given ≡ false → bs ≡ []) → Listed t (codes_events bs)
  unfolding codes_events
  codes [] k u = none
  codes (b ∷ bs) k u = go given refl
    where
      some_blocks : b ∷ bs ≡ [] → ⊥
      some_blocks e = let z : ◌≡◌ {A = ℕ} 0 1 = cc in omega arith

      go : (g : Bool) → given ≡ g → Listed t (codes_events (b ∷ bs))
      go true e = blocks e (coded (b ∷ bs) some_blocks k) (b ∷ bs) k
      go false e = absurd (some_blocks (u e))

  -- ---- start and ends

  start : (bytes : List ℕ) (es : List Ev) → n ≡ length bytes → Listed t es → Listed t (start_event bytes ∷ es)
  unfolding listed payload_size
  start bytes es e more = one (start_event bytes) es (sized_as 0x36 n (length bytes) e (entry_at v n given actual 0 event.GameStart (lit< tt) refl refl)) more

  ends : (xs : List (List ℕ)) → Each (λ bytes. length bytes ≡ end_size v) xs → Listed t (map end_event xs)
  unfolding Each listed payload_size
  ends [] h = none
  ends (x ∷ xs) h = one (end_event x) (map end_event xs) (sized_as 0x39 (end_size v) (length x) (sym h.0) (entry_at v n given actual 3 event.GameEnd (lit< tt) refl refl)) (ends xs h.1)

pub all_listed : (v : Version) (o : Order) (given : Bool) (r : Replay) → WellFormed v o r → (given ≡ false → r.codes ≡ []) → Listed (table_for v given r) (events_of v r)
unfolding events_of
all_listed v o given r w u =
    let n = length r.block in
    let used = used_in r.codes in
    start v n given used r.block _ refl
    (listed_append (table_for v given r) _ _ (codes v n given used r.codes w.codes u)
    (listed_append (table_for v given r) _ _ (frames v n given used o r.frames w.frames) (ends v n given used r.ends w.ends)))
