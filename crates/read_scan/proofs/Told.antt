-- What the pass counts of well-formed frames is theirs: frames, rows, who is ever there, and whether neighbouring ids differ.
-- Assumes nothing.
use mathlib.Core.Path.{◌≡◌, refl, sym, ap, ap₂, subst, ◌∙◌}
use mathlib.Core.Bool.{Bool, true, false, not, cond, ◌&&◌, ◌||◌, or_assoc, or-false}
use mathlib.Core.List.{List, [], ◌∷◌, ◌++◌, map, append_assoc}
use mathlib.Core.Logic.{◌↔◌}
use mathlib.Core.Option.{some, some-injective}
use Prim.Native.Nat.{ℕ, suc, ◌+◌, ◌^◌, ◌≤◌, ◌<◌}
use native.Mathlib.Nat.{add-zero}
use native.Mathlib.Omega.{arith}
use borrow.Author.Tests.{le-leb, lt-leb, eq-eqb, ne_eqb, not-true}
use lib.Dec.{eqb}
use lib.ListN.{length, drop, length-append}
use lib.Seq.{take_at}
use Rattle.wire.specs.Wire.{be, number, keep}
use Rattle.wire.proofs.Laws.{number_be, length_be}
use Rattle.format.specs.File.{Ev, events_bytes}
use Rattle.format.specs.declared.version.Version.{Version}
use Rattle.layout.specs.Columns.{has_family}
use Rattle.layout.specs.declared.columns.Family.{Family}
use Rattle.layout.specs.declared.columns.Family.TheVariants.{Pre, Post, FrameStart, Item, FrameEnd, FodPlatform, DreamlandWhispy, StadiumTransformation}
use Rattle.game.specs.Frames.{is_marked}
use Rattle.grammar.specs.Productions.{Player, Frame, row_event, pre_event, post_event, events_of_frame, events_of_frames}
use Rattle.grammar.specs.WellFormed.{Each, Order, slot_of, GoodFrame}
use Rattle.grammar.specs.Readable.{Changing}
use Rattle.grammar.specs.Machine.{rank_of, initial, Said, id_in, said_by, on_family, rest}
use Rattle.grammar.proofs.Tests.{both}
use Rattle.grammar.proofs.Takes.{family_is, NoFrame, closed_last, complete}
use Rattle.grammar.proofs.Unique.{after_posts, after_pres, after_start, whole, frame_then}
use Rattle.columns.specs.Columns.{holds, ever_in, rows_there}
use Rattle.read_scan.specs.Counts.{tally, no_tally, begun_at, sat, of_frame, counted_of, tally_of}
use Rattle.read_scan.specs.Inner.{tallied}
use Rattle.read_scan.specs.declared.tally.Tally.{Tally}
use Rattle.read_scan.proofs.Marks.{none_marked, marks, marks_hold}
use Rattle.read_scan.proofs.Same.{Spanned, Ends}
use Rattle.read_scan.proofs.Tells.{tally_if, tells_answered}

-- ---- one event

id_in_lem : (family : Family) (id : ℕ) (bytes : List ℕ) → id < 2 ^ 32 → id_in (row_event family id bytes) ≡ id
id_in_lem family id bytes h = ap number (take_at (be 4 id) bytes 4 (length_be 4 id)) ∙ number_be 4 id h

one_more : (family : Family) (rank old id : ℕ) (bytes : List ℕ) (t : Tally) (es : List Ev) → id < 2 ^ 32
    → tally_of rank old t (row_event family id bytes ∷ es) ≡ tally_of (rank_of family) id (counted_of t rank old family (said_by (row_event family id bytes))) es
unfolding tally_of on_family
one_more family rank old id bytes t es h =
    rw (family_is family) (ap (λ (n : ℕ). tally_of (rank_of family) n (counted_of t rank old family (said_by (row_event family id bytes))) es) (id_in_lem family id bytes h))

-- a Pre of the frame, and the first of one
of_frame_lem : (rank id : ℕ) (w : Said) → rank ≤ 2 → id ≡ w.id → of_frame rank id w ≡ true
unfolding of_frame
of_frame_lem rank id w l e = rw (le-leb rank 2 l, eq-eqb id w.id e)

of_none : (rank id : ℕ) (w : Said) → 2 < rank → of_frame rank id w ≡ false
unfolding of_frame
of_none rank id w l = rw (lt-leb rank 2 l)

pre_in : (rank id : ℕ) (p : Player) (t : Tally) → id < 2 ^ 32 → rank ≤ 2 → counted_of t rank id Pre (said_by (pre_event id p)) ≡ sat t (slot_of p)
unfolding counted_of be
pre_in rank id p t h l =
    ap (λ (b : Bool). sat (cond b t (begun_at t id (id_in (pre_event id p)))) (slot_of p))
    (of_frame_lem rank id (said_by (pre_event id p)) l (sym (id_in_lem Pre id (p.port ∷ p.follower ∷ p.pre) h)))

pre_first : (rank old id : ℕ) (p : Player) (t : Tally) → id < 2 ^ 32 → 2 < rank → counted_of t rank old Pre (said_by (pre_event id p)) ≡ sat (begun_at t old id) (slot_of p)
unfolding counted_of be
pre_first rank old id p t h l =
    ap (λ (b : Bool). sat (cond b t (begun_at t old (id_in (pre_event id p)))) (slot_of p)) (of_none rank old (said_by (pre_event id p)) l)
    ∙ ap (λ (n : ℕ). sat (begun_at t old n) (slot_of p)) (id_in_lem Pre id (p.port ∷ p.follower ∷ p.pre) h)

-- ---- the sections of a frame, before events that make a tally of a tally

-- where frames have no start, a frame begins after an event that comes after the Pres
abbrev Late : Bool → ℕ → Type 0
Late true rank = Unit {0}
Late false rank = 2 < rank

late : (b : Bool) (rank : ℕ) → 2 < rank → Late b rank
late true rank h = tt
late false rank h = h

module _ (id : ℕ) (small : id < 2 ^ 32) (es : List Ev) (x : Tally → Tally) where
  module _ (family : Family) (add : ℕ → Tally → Tally) (None-more : (t : Tally) → t ≡ add 0 t)
      (more : (n rank old : ℕ) (t : Tally) (w : Said) → add n (counted_of t rank old family w) ≡ add (suc n) t) where
    rows_tell : ((r : ℕ) (t : Tally) → tally_of r id t es ≡ x t) → (xs : List (List ℕ)) (r : ℕ) (t : Tally)
        → tally_of r id t (map (row_event family id) xs ++ es) ≡ x (add (length xs) t)
    rows_tell go [] r t = go r t ∙ ap x (None-more t)
    rows_tell go (b ∷ bs) r t =
        one_more family r id id b t (map (row_event family id) bs ++ es) small
        ∙ rows_tell go bs (rank_of family) (counted_of t r id family (said_by (row_event family id b)))
        ∙ ap x (more (length bs) r id t (said_by (row_event family id b)))

  pres_tell : ((r : ℕ) (t : Tally) → tally_of r id t es ≡ x t) → (ps : List Player) (r : ℕ) (t : Tally) → r ≤ 2
      → tally_of r id t (map (pre_event id) ps ++ es) ≡ x (tally t.frames t.items t.fods t.whispys t.stadiums (marks t.slots ps) t.changing)
  unfolding marks
  pres_tell go [] r t l = go r t
  pres_tell go (p ∷ ps) r t l =
      one_more Pre r id id (p.port ∷ p.follower ∷ p.pre) t (map (pre_event id) ps ++ es) small
      ∙ ap (λ (y : Tally). tally_of 2 id y (map (pre_event id) ps ++ es)) (pre_in r id p t small l)
      ∙ pres_tell go ps 2 (sat t (slot_of p)) (omega arith)

  module _ (b : Bool) (go : (r : ℕ) (t : Tally) → Late b r → tally_of r id t es ≡ x t) where
    posts_late : (ps : List Player) (r : ℕ) (t : Tally) → Late b r → tally_of r id t (map (post_event id) ps ++ es) ≡ x t
    unfolding counted_of
    posts_late [] r t l = go r t l
    posts_late (p ∷ ps) r t l = one_more Post r id id (p.port ∷ p.follower ∷ p.post) t (map (post_event id) ps ++ es) small ∙ posts_late ps 7 t (late b 7 (omega arith))

    posts_tell : (ps : List Player) → (b ≡ false → 0 < length ps) → (r : ℕ) (t : Tally) → tally_of r id t (map (post_event id) ps ++ es) ≡ x t
    unfolding counted_of
    posts_tell [] h r t = go r t (free b h)
      where
        free : (b : Bool) → (b ≡ false → 0 < 0) → Late b r
        free true h = tt
        free false h = let z = h refl in absurd (omega arith)
    posts_tell (p ∷ ps) h r t = one_more Post r id id (p.port ∷ p.follower ∷ p.post) t (map (post_event id) ps ++ es) small ∙ posts_late ps 7 t (late b 7 (omega arith))

-- ---- rows

abbrev add_items : ℕ → Tally → Tally
add_items n t = tally t.frames (t.items + n) t.fods t.whispys t.stadiums t.slots t.changing

no_items : (t : Tally) → t ≡ add_items 0 t
no_items t = ap (λ (k : ℕ). tally t.frames k t.fods t.whispys t.stadiums t.slots t.changing) (sym (add-zero t.items))

more_items : (n rank old : ℕ) (t : Tally) (w : Said) → add_items n (counted_of t rank old Item w) ≡ add_items (suc n) t
unfolding counted_of
more_items n rank old t w = let e : t.items + 1 + n ≡ t.items + suc n = omega arith in ap (λ (k : ℕ). tally t.frames k t.fods t.whispys t.stadiums t.slots t.changing) e

abbrev add_fods : ℕ → Tally → Tally
add_fods n t = tally t.frames t.items (t.fods + n) t.whispys t.stadiums t.slots t.changing

no_fods : (t : Tally) → t ≡ add_fods 0 t
no_fods t = ap (λ (k : ℕ). tally t.frames t.items k t.whispys t.stadiums t.slots t.changing) (sym (add-zero t.fods))

more_fods : (n rank old : ℕ) (t : Tally) (w : Said) → add_fods n (counted_of t rank old FodPlatform w) ≡ add_fods (suc n) t
unfolding counted_of
more_fods n rank old t w = let e : t.fods + 1 + n ≡ t.fods + suc n = omega arith in ap (λ (k : ℕ). tally t.frames t.items k t.whispys t.stadiums t.slots t.changing) e

abbrev add_whispys : ℕ → Tally → Tally
add_whispys n t = tally t.frames t.items t.fods (t.whispys + n) t.stadiums t.slots t.changing

no_whispys : (t : Tally) → t ≡ add_whispys 0 t
no_whispys t = ap (λ (k : ℕ). tally t.frames t.items t.fods k t.stadiums t.slots t.changing) (sym (add-zero t.whispys))

more_whispys : (n rank old : ℕ) (t : Tally) (w : Said) → add_whispys n (counted_of t rank old DreamlandWhispy w) ≡ add_whispys (suc n) t
unfolding counted_of
more_whispys n rank old t w = let e : t.whispys + 1 + n ≡ t.whispys + suc n = omega arith in ap (λ (k : ℕ). tally t.frames t.items t.fods k t.stadiums t.slots t.changing) e

abbrev add_stadiums : ℕ → Tally → Tally
add_stadiums n t = tally t.frames t.items t.fods t.whispys (t.stadiums + n) t.slots t.changing

no_stadiums : (t : Tally) → t ≡ add_stadiums 0 t
no_stadiums t = ap (λ (k : ℕ). tally t.frames t.items t.fods t.whispys k t.slots t.changing) (sym (add-zero t.stadiums))

more_stadiums : (n rank old : ℕ) (t : Tally) (w : Said) → add_stadiums n (counted_of t rank old StadiumTransformation w) ≡ add_stadiums (suc n) t
unfolding counted_of
more_stadiums n rank old t w = let e : t.stadiums + 1 + n ≡ t.stadiums + suc n = omega arith in ap (λ (k : ℕ). tally t.frames t.items t.fods t.whispys k t.slots t.changing) e

-- ---- a frame

abbrev pub frame_tally : ℕ → Tally → Frame → Tally
frame_tally old t f =
    tally (t.frames + 1) (t.items + length f.items) (t.fods + length f.fods) (t.whispys + length f.whispys) (t.stadiums + length f.stadiums) (marks t.slots f.players)
    (t.changing && (eqb t.frames 0 || not (eqb old f.id)))

module _ (starts last : Bool) (f : Frame) (small : f.id < 2 ^ 32) (somebody : starts ≡ false → 0 < length f.players) (es : List Ev) (x : Tally → Tally)
    (next : (r : ℕ) (t : Tally) → Late starts r → tally_of r f.id t es ≡ x t) where
  end_tell : (r : ℕ) (t : Tally) → Late starts r → tally_of r f.id t (after_posts last f es) ≡ x t
  unfolding keep counted_of
  end_tell r t l = go last
    where
      go : (b : Bool) → tally_of r f.id t (after_posts b f es) ≡ x t
      go true = one_more FrameEnd r f.id f.id f.end t es small ∙ next 8 t (late starts 8 (omega arith))
      go false = next r t l

  abbrev with_rows : Tally → Tally
  with_rows t = add_items (length f.items) (add_stadiums (length f.stadiums) (add_whispys (length f.whispys) (add_fods (length f.fods) t)))

  rows_all : (r : ℕ) (t : Tally) → tally_of r f.id t (after_pres last f es) ≡ x (with_rows t)
  rows_all =
      let posts = posts_tell f.id small _ x starts end_tell f.players somebody in
      let items = rows_tell f.id small _ x Item add_items no_items more_items posts f.items in
      let stadiums = rows_tell f.id small _ (λ t. x (add_items (length f.items) t)) StadiumTransformation add_stadiums no_stadiums more_stadiums items f.stadiums in
      let whispys =
      rows_tell f.id small _ (λ t. x (add_items (length f.items) (add_stadiums (length f.stadiums) t))) DreamlandWhispy add_whispys no_whispys more_whispys stadiums f.whispys
      in
      rows_tell f.id small _ (λ t. x (add_items (length f.items) (add_stadiums (length f.stadiums) (add_whispys (length f.whispys) t)))) FodPlatform add_fods no_fods more_fods whispys
      f.fods

  frame_tell : (rank old : ℕ) (t : Tally) → Late starts rank → tally_of rank old t (whole starts last f es) ≡ x (frame_tally old t f)
  unfolding keep counted_of marks
  frame_tell rank old t l = go starts l somebody
    where
      first : (ps : List Player) → 0 < length ps → 2 < rank
          → tally_of rank old t (map (pre_event f.id) ps ++ after_pres last f es)
          ≡ x (with_rows (tally (t.frames + 1) t.items t.fods t.whispys t.stadiums (marks t.slots ps) (t.changing && (eqb t.frames 0 || not (eqb old f.id)))))
      first [] h l = absurd (omega arith)
      first (p ∷ ps) h l =
          one_more Pre rank old f.id (p.port ∷ p.follower ∷ p.pre) t _ small
          ∙ ap (λ (y : Tally). tally_of 2 f.id y (map (pre_event f.id) ps ++ after_pres last f es)) (pre_first rank old f.id p t small l)
          ∙ pres_tell f.id small _ (λ t. x (with_rows t)) rows_all ps 2 (sat (begun_at t old f.id) (slot_of p)) (omega arith)

      go : (b : Bool) → Late b rank → (b ≡ false → 0 < length f.players) → tally_of rank old t (whole b last f es) ≡ x (frame_tally old t f)
      go true l k =
          one_more FrameStart rank old f.id f.start t (after_start last f es) small
          ∙ ap (λ (n : ℕ). tally_of 1 f.id (begun_at t old n) (after_start last f es)) (id_in_lem FrameStart f.id f.start small)
          ∙ pres_tell f.id small _ (λ t. x (with_rows t)) rows_all f.players 1 (begun_at t old f.id) (omega arith)
      go false l k = first f.players (k refl) l

-- ---- all frames

unfoldable pub frames_tally : ℕ → Tally → List Frame → Tally
frames_tally old t [] = t
frames_tally old t (f ∷ fs) = frames_tally f.id (frame_tally old t f) fs

pub frames_tell : (v : Version) (o : Order) (es : List Ev) → NoFrame es → (fs : List Frame) → Each (GoodFrame v o) fs → (rank old : ℕ) (t : Tally) → Late (has_family v FrameStart) rank
    → tally_of rank old t (events_of_frames v fs ++ es) ≡ frames_tally old t fs
unfolding events_of_frames Each frames_tally tally_of on_family
frames_tell v o [] n [] h rank old t l = refl
frames_tell v o (e ∷ es) n [] h rank old t l = rw n
frames_tell v o es n (f ∷ fs) h rank old t l =
    ap (tally_of rank old t) (append_assoc (events_of_frame v f) (events_of_frames v fs) es ∙ frame_then v f (events_of_frames v fs ++ es))
    ∙ frame_tell (has_family v FrameStart) (has_family v FrameEnd) f h.0.id h.0.somebody (events_of_frames v fs ++ es) (λ t. frames_tally f.id t fs)
    (λ r t l. frames_tell v o es n fs h.1 r f.id t l) rank old t l

-- ---- what it says

module _ (v : Version) where
  count_frames : (fs : List Frame) (old : ℕ) (t : Tally) → (frames_tally old t fs).frames ≡ t.frames + length fs
  unfolding frames_tally
  count_frames [] old t = omega arith
  count_frames (f ∷ fs) old t = let h = count_frames fs f.id (frame_tally old t f) in h ∙ omega arith

  count_items : (fs : List Frame) (old : ℕ) (t : Tally) → (frames_tally old t fs).items ≡ t.items + length (rows_there v Item fs)
  unfolding frames_tally rows_there
  count_items [] old t = omega arith
  count_items (f ∷ fs) old t = count_items fs f.id (frame_tally old t f) ∙ omega (arith, length-append f.items (rows_there v Item fs))

  count_fods : (fs : List Frame) (old : ℕ) (t : Tally) → (frames_tally old t fs).fods ≡ t.fods + length (rows_there v FodPlatform fs)
  unfolding frames_tally rows_there
  count_fods [] old t = omega arith
  count_fods (f ∷ fs) old t = count_fods fs f.id (frame_tally old t f) ∙ omega (arith, length-append f.fods (rows_there v FodPlatform fs))

  count_whispys : (fs : List Frame) (old : ℕ) (t : Tally) → (frames_tally old t fs).whispys ≡ t.whispys + length (rows_there v DreamlandWhispy fs)
  unfolding frames_tally rows_there
  count_whispys [] old t = omega arith
  count_whispys (f ∷ fs) old t = count_whispys fs f.id (frame_tally old t f) ∙ omega (arith, length-append f.whispys (rows_there v DreamlandWhispy fs))

  count_stadiums : (fs : List Frame) (old : ℕ) (t : Tally) → (frames_tally old t fs).stadiums ≡ t.stadiums + length (rows_there v StadiumTransformation fs)
  unfolding frames_tally rows_there
  count_stadiums [] old t = omega arith
  count_stadiums (f ∷ fs) old t = count_stadiums fs f.id (frame_tally old t f) ∙ omega (arith, length-append f.stadiums (rows_there v StadiumTransformation fs))

marked_in : (k : ℕ) (fs : List Frame) (old : ℕ) (t : Tally) → is_marked (frames_tally old t fs).slots k ≡ (is_marked t.slots k || ever_in k fs)
unfolding frames_tally ever_in
marked_in k [] old t = sym (or-false (is_marked t.slots k))
marked_in k (f ∷ fs) old t =
    marked_in k fs f.id (frame_tally old t f)
    ∙ ap (λ (b : Bool). b || ever_in k fs) (marks_hold k f.players t.slots)
    ∙ or_assoc (is_marked t.slots k) (holds k f.players) (ever_in k fs)

-- ---- ids that change

-- each id is unlike the one before it, from an old one on
unfoldable apart : ℕ → List Frame → Bool
apart old [] = true
apart old (f ∷ fs) = not (eqb old f.id) && apart f.id fs

and_more : (a b c : Bool) → (a && b) && c ≡ a && (b && c)
and_more true b c = refl
and_more false b c = refl

and_true : (a : Bool) → a && true ≡ a
and_true true = refl
and_true false = refl

changes : (fs : List Frame) (old : ℕ) (t : Tally) → 0 < t.frames → (frames_tally old t fs).changing ≡ t.changing && apart old fs
unfolding frames_tally apart
changes [] old t h = sym (and_true t.changing)
changes (f ∷ fs) old t h =
    changes fs f.id (frame_tally old t f) (omega arith)
    ∙ ap (λ (b : Bool). (t.changing && (b || not (eqb old f.id))) && apart f.id fs) (ne_eqb t.frames 0 (λ e. omega arith))
    ∙ and_more t.changing (not (eqb old f.id)) (apart f.id fs)

apart_is : (f : Frame) (fs : List Frame) → apart f.id fs ≡ true → Changing (f ∷ fs)
unfolding apart Changing
apart_is f [] q = tt
apart_is f (g ∷ fs) q =
    let (a, b) = both (not (eqb f.id g.id)) (apart g.id fs) q in
    (λ e. let z : ◌≡◌ {A = Bool} true false = sym (eq-eqb f.id g.id e) ∙ not-true (eqb f.id g.id) a in let y : ◌≡◌ {A = ℕ} 0 1 = cc in absurd (omega arith), apart_is g fs b)

is_apart : (f : Frame) (fs : List Frame) → Changing (f ∷ fs) → apart f.id fs ≡ true
unfolding apart Changing
is_apart f [] h = refl
is_apart f (g ∷ fs) h = rw (ne_eqb f.id g.id h.0) (is_apart g fs h.1)

changing_so : (fs : List Frame) → ((frames_tally 0 no_tally fs).changing ≡ true) ↔ Changing fs
unfolding frames_tally Changing
changing_so [] = (λ q. tt, λ h. refl)
changing_so (f ∷ fs) =
    let e = changes fs f.id (frame_tally 0 no_tally f) (omega arith) in
    (λ q. apart_is f fs (sym e ∙ q), λ h. e ∙ is_apart f fs h)

-- ---- the answer of a file with these events from `first` to `stop`

-- a tally says what the frames are
pub record Told (v : Version) (fs : List Frame) (t : Tally) : Type 0 where
  pub frames : t.frames ≡ length fs
  pub items : t.items ≡ length (rows_there v Item fs)
  pub fods : t.fods ≡ length (rows_there v FodPlatform fs)
  pub whispys : t.whispys ≡ length (rows_there v DreamlandWhispy fs)
  pub stadiums : t.stadiums ≡ length (rows_there v StadiumTransformation fs)
  pub slots : (k : ℕ) → is_marked t.slots k ≡ ever_in k fs
  pub changing : (t.changing ≡ true) ↔ Changing fs

all_told : (v : Version) (fs : List Frame) → Told v fs (frames_tally 0 no_tally fs)
all_told v fs = record {
  frames = count_frames v fs 0 no_tally ∙ omega arith;
  items = count_items v fs 0 no_tally ∙ omega arith;
  fods = count_fods v fs 0 no_tally ∙ omega arith;
  whispys = count_whispys v fs 0 no_tally ∙ omega arith;
  stadiums = count_stadiums v fs 0 no_tally ∙ omega arith;
  slots = λ k. marked_in k fs 0 no_tally ∙ ap (λ (b : Bool). b || ever_in k fs) (none_marked k);
  changing = changing_so fs;
}

-- the events of frames, and what follows them, count what the frames have
pub told_by_lem : (v : Version) (o : Order) (fs : List Frame) → Each (GoodFrame v o) fs → (others : List Ev) → NoFrame others → Told v fs (tally_of 8 0 no_tally (events_of_frames v fs ++ others))
told_by_lem v o fs good others after_is =
    subst (Told v fs) (sym (frames_tell v o others after_is fs good 8 0 no_tally (late (has_family v FrameStart) 8 (omega arith)))) (all_told v fs)

module _ (v : Version) (o : Order) (file spans : List ℕ) (stop : ℕ) (tail : List ℕ) (es : List Ev) (first : ℕ) (long : stop ≡ first + length (events_bytes es))
    (here : drop first file ≡ events_bytes es ++ tail) (spanned : Each (Spanned spans) es) (fs : List Frame) (good : Each (GoodFrame v o) fs) (others : List Ev) (after_is : NoFrame others)
    (events_are : es ≡ events_of_frames v fs ++ others) where
  pub tally_is : tallied v o file spans stop (suc stop) first initial no_tally ≡ some (frames_tally 0 no_tally fs)
  tally_is =
      tells_answered v o file spans stop tail es first long here spanned
      ∙ ap₂ tally_if (ap (rest v o initial) events_are ∙ complete v o others after_is fs good initial (closed_last v 0))
      (ap (tally_of 8 0 no_tally) events_are ∙ frames_tell v o others after_is fs good 8 0 no_tally (late (has_family v FrameStart) 8 (omega arith)))

  -- what was counted is what the frames have
  pub told : (t : Tally) → tallied v o file spans stop (suc stop) first initial no_tally ≡ some t → Told v fs t
  told t q = subst (Told v fs) (some-injective (frames_tally 0 no_tally fs) t (sym tally_is ∙ q)) (all_told v fs)

-- where the frames end at a place, what was counted is what they have
pub told_ends : (v : Version) (o : Order) (file spans : List ℕ) (stop : ℕ) (tail : List ℕ) (es : List Ev) (first : ℕ) → stop ≡ first + length (events_bytes es)
    → drop first file ≡ events_bytes es ++ tail → Each (Spanned spans) es → (place : ℕ) (h : Ends v o es stop place) (t : Tally)
    → tallied v o file spans stop (suc stop) first initial no_tally ≡ some t → Told v h.taken.frames t
told_ends v o file spans stop tail es first long here spanned place h t q =
    told v o file spans stop tail es first long here spanned h.taken.frames h.taken.good h.others h.taken.after_is h.taken.events_are t q
