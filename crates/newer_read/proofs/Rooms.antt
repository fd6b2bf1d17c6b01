-- What the pass over a newer recorder's events asks, from the parts of a replay that is shown and from stores that are long enough; and what it leaves.
-- Assumes nothing.
use mathlib.Core.Path.{◌≡◌, refl, sym, ap, subst, ◌∙◌}
use mathlib.Core.Bool.{true, false}
use mathlib.Core.List.{List, [], ◌∷◌, append-nil}
use Prim.Native.Nat.{ℕ, ◌*◌, ◌≤◌}
use native.Mathlib.Omega.{arith}
use lib.ListN.{length}
use Rattle.wire.specs.Wire.{splice}
use Rattle.format.specs.File.{Ev, events_bytes}
use Rattle.format.specs.Version.{accepted_of}
use Rattle.format.specs.declared.version.Version.{Version}
use Rattle.game.specs.Stores.{Lent}
use Rattle.game.specs.declared.frames.Frames.{Frames}
use Rattle.players.specs.Inner.{Modest}
use Rattle.players.specs.Presence.{ports_uneven}
use Rattle.head.specs.Inner.{HeadOf}
use Rattle.head.specs.declared.table.Head.{Head}
use Rattle.grammar.specs.Productions.{Frame, Replay, Block, codes_events, events_of_frames, codes_bytes}
use Rattle.grammar.specs.WellFormed.{Each, GoodCodes}
use Rattle.columns.specs.Columns.{frames_read, lent_read}
use Rattle.known.specs.Known.{is_newer, known_of}
use Rattle.known.proofs.Newest.{not_accepted}
use Rattle.read_judge.specs.Found.{version_of, early_refusal}
use Rattle.read_judge.specs.Inner.{Bytes, Accepts}
use Rattle.read_judge.specs.declared.parts.Parts.{Parts}
use Rattle.newer_codes.specs.Codes.{BlocksLie, SomeBlocks}
use Rattle.newer_judge.specs.Inner.{Indexed, Standing, Shows, Road, plain, newer}
use Rattle.newer_judge.proofs.Steps.{newly, indexed}
use Rattle.measure.specs.Inner.{frames_in, lengths_in, short_by}
use Rattle.measure.specs.Game.{Kept, kept, kept_read, lengths_of}
use Rattle.measure.specs.Read.{kept_over}
use Rattle.measure.proofs.Answers.{frames_in_lem, small}
use Rattle.read_event.specs.Inner.{plan_of, run, none, cleared, Rooms, Sized, Stands}
use Rattle.law_filled.proofs.Standing.{spelled}
use Rattle.law_filled.proofs.Uneven.{uneven_not}
use Rattle.read_fill.proofs.Rooms.{rooms, codes_room, left_by}
use Rattle.newer_fill.specs.Inner.{SpelledNewer, SomeNewer}

no_way : false ≡ true → ⊥
no_way e = let z : ◌≡◌ {A = ℕ} 0 1 = cc in omega arith

-- ---- up to 3.18.0

pub record Plainly (f : List ℕ) (first stop : ℕ) (p : Parts) (r : Replay) : Type 0 where
  pub accepts : Accepts f first stop p
  pub same : accepts.holds.found.replay ≡ r

plain_so : (f : List ℕ) (first stop : ℕ) (p : Parts) (r : Replay) → Road f first stop p r → accepted_of (version_of f) ≡ true → Plainly f first stop p r
plain_so f first stop p r (plain t a e) n = record { accepts = a; same = e }
plain_so f first stop p r (newer e i c s) n = absurd (no_way (sym (not_accepted (version_of f) i) ∙ n))

pub plainly : (f : List ℕ) (first stop : ℕ) (p : Parts) (a : Shows f first stop p) → accepted_of p.version ≡ true → Plainly f first stop p a.shown.found.replay
plainly f first stop p a new = plain_so f first stop p a.shown.found.replay a.road (ap accepted_of (sym a.shown.version_is) ∙ new)

pub kept_as : (f : List ℕ) (first stop : ℕ) (p : Parts) (r : Replay) (x : Plainly f first stop p r) (given left : Kept) → left ≡ kept_over given (kept_read (version_of f) x.accepts.holds.found.replay)
    → left ≡ kept_over given (kept_read (version_of f) r)
kept_as f first stop p r x given left e = e ∙ ap (λ (y : Replay). kept_over given (kept_read (version_of f) y)) x.same

-- ---- above it

-- what the road of a newer file is
pub record Newly (f : List ℕ) (p : Parts) (r : Replay) : Type 0 where
  pub refused : early_refusal f ≡ 1
  pub new : is_newer (version_of f) ≡ true
  pub codes : Standing f (version_of f) p.codes_at p.frames_at (codes_events r.codes)
  pub frames : Standing f (version_of f) p.frames_at p.ends_at (events_of_frames (version_of f) r.frames)

newly_so : (f : List ℕ) (first stop : ℕ) (p : Parts) (r : Replay) → Road f first stop p r → accepted_of (version_of f) ≡ false → Newly f p r
newly_so f first stop p r (plain t a e) n = absurd (no_way (sym n ∙ t))
newly_so f first stop p r (newer e i c s) n = record { refused = e; new = i; codes = c; frames = s }

module _ (f : List ℕ) (first stop : ℕ) (p : Parts) (a : Shows f first stop p) (above : accepted_of p.version ≡ false) where
  abbrev v : Version
  v = version_of f

  abbrev r : Replay
  r = a.shown.found.replay

  abbrev fs : List Frame
  fs = r.frames

  road : Newly f p r
  road = newly_so f first stop p r a.road (ap accepted_of (sym a.shown.version_is) ∙ above)

  -- spans as the head's table gives them
  pub spans_are : (spans : List ℕ) (h : Head) → HeadOf h spans f → Bytes f → Indexed f spans
  spans_are spans h o bytes = indexed f spans h.first h.stop h.whole (newly f spans h o bytes road.refused)

  -- the frames' events by themselves, as a file
  made : List ℕ
  made = events_bytes (events_of_frames v fs)

  stands_made : Stands (frames_read v fs) made 0 (length made) fs
  unfolding frames_read made
  stands_made = record {
    rest = [];
    here = sym (append-nil (events_bytes (events_of_frames v fs)));
    long = omega arith;
    good = a.shown.found.readable.well.frames;
    changing = a.shown.found.readable.changing;
    read = refl;
  }

  stands : Stands (frames_in p) made 0 (length made) fs
  stands = subst (λ (g : Frames). Stands g made 0 (length made) fs) (sym (frames_in_lem f first stop p a)) stands_made

  version_is : (frames_in p).version ≡ v
  unfolding frames_read
  version_is = ap (λ (x : Frames). x.version) (frames_in_lem f first stop p a)

  known_are : known_of (frames_in p).version road.frames.raw ≡ events_of_frames (frames_in p).version fs
  known_are = subst (λ (w : Version). known_of w road.frames.raw ≡ events_of_frames w fs) (sym version_is) road.frames.known_are

  module _ (spans : List ℕ) (i : Indexed f spans) where
    spelled_newer : SpelledNewer (frames_in p) f spans p.frames_at p.ends_at road.frames.raw
    spelled_newer = record {
      covers = road.frames.covers spans i;
      sized = subst (Each (Sized (plan_of (frames_in p)))) (sym known_are) (spelled (frames_in p) made 0 (length made) fs stands).sized;
    }

    module _ (given : Kept) (long : short_by (lengths_of given) (lengths_in p) ≡ false) where
      room_for : Rooms (plan_of (frames_in p)) given.lent
      unfolding lengths_in
      room_for = rooms (frames_in p) given (512 * p.blocks) (small f first stop p a).modest long

      pub asked : (g : Frames) → g ≡ frames_in p
          → Modest g × (ports_uneven g ≡ false) × (is_newer g.version ≡ true) × (length spans ≡ 256) × SomeNewer g f spans p.frames_at p.ends_at × Rooms (plan_of g) given.lent
      asked g e =
          subst (λ (x : Frames). Modest x × (ports_uneven x ≡ false) × (is_newer x.version ≡ true) × (length spans ≡ 256) × SomeNewer x f spans p.frames_at p.ends_at × Rooms (plan_of x) given.lent) (sym e) (
            (small f first stop p a).modest,
            ap ports_uneven (frames_in_lem f first stop p a) ∙ uneven_not v fs,
            ap is_newer version_is ∙ road.new,
            i.many,
            record { raw = road.frames.raw; spelled = spelled_newer },
            room_for,
          )

      sized_blocks : (bs : List Block) → GoodCodes v bs → Each (λ b. length b.bytes ≡ 512) bs
      unfolding GoodCodes Each
      sized_blocks [] g = tt
      sized_blocks (b ∷ []) g = (g.1, tt)
      sized_blocks (b ∷ c ∷ bs) g = (g.0, sized_blocks (c ∷ bs) g.2)

      lie : BlocksLie f spans p.codes_at p.frames_at r.codes
      lie = record {
        version = v;
        raw = road.codes.raw;
        more = [];
        covers = road.codes.covers spans i;
        known_are = road.codes.known_are ∙ sym (append-nil (codes_events r.codes));
        sized = sized_blocks r.codes a.shown.found.readable.well.codes;
      }

      -- the frames begin in the file
      pub frames_within : p.frames_at ≤ length f
      frames_within = road.codes.within

      pub some_blocks : SomeBlocks f spans p.codes_at p.frames_at p.blocks
      some_blocks = record { blocks = r.codes; lie = lie; count_is = a.shown.blocks_are }

      pub codes_fit : 512 * p.blocks ≤ length given.codes
      unfolding lengths_in
      codes_fit = codes_room (frames_in p) given (512 * p.blocks) (small f first stop p a).modest long

      pub learnt : (after : Lent) (codes' : List ℕ) (g : Frames) → g ≡ frames_in p
          → ((raw : List Ev) → SpelledNewer g f spans p.frames_at p.ends_at raw → after ≡ run (plan_of g) (known_of g.version raw) none (cleared g given.lent))
          → ((bs : List Block) → BlocksLie f spans p.codes_at p.frames_at bs → p.blocks ≡ length bs → codes' ≡ splice given.codes 0 (codes_bytes bs))
          → kept after codes' ≡ kept_over given (kept_read v r)
      learnt after codes' g e ran copied =
          let ran' = subst (λ (x : Frames). (raw : List Ev) → SpelledNewer x f spans p.frames_at p.ends_at raw → after ≡ run (plan_of x) (known_of x.version raw) none (cleared x given.lent)) e ran in
          left_by (frames_in p) made 0 (length made) fs stands (small f first stop p a).modest given.lent after given.codes codes' (codes_bytes r.codes) room_for
          (ran' road.frames.raw spelled_newer ∙ ap (λ (es : List Ev). run (plan_of (frames_in p)) es none (cleared (frames_in p) given.lent)) known_are)
          (copied r.codes lie a.shown.blocks_are)
          ∙ ap (λ (w : Version). kept_over given (kept (lent_read w fs) (codes_bytes r.codes))) version_is
