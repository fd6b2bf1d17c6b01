-- What is known of the parts of an accepted replay, and that what they give is what is answered.
-- Assumes nothing.
use mathlib.Core.Path.{◌≡◌, refl, sym, ap, ap₂, subst, ◌∙◌}
use mathlib.Core.Bool.{Bool, true, false, cond, ◌&&◌}
use mathlib.Core.List.{List, [], ◌∷◌}
use Prim.Native.Nat.{ℕ, suc, ◌+◌, ◌*◌, ◌≤◌, ◌<◌}
use native.Mathlib.Omega.{arith}
use borrow.Author.Tests.{lt-ltb, ne_eqb}
use lib.Dec.{eqb, ltb}
use lib.ListN.{length, length-append}
use Rattle.wire.specs.Wire.{part}
use Rattle.format.specs.Version.{gte_of}
use Rattle.format.specs.declared.version.Version.{Version}
use Rattle.layout.specs.Payloads.{end_size}
use Rattle.game.specs.Zero.{no_end}
use Rattle.start.specs.Length.{length_of}
use Rattle.read_start.specs.Start.{start_in}
use Rattle.players.specs.Inner.{Modest}
use Rattle.frames.proofs.Accepted.{counted}
use Rattle.game.specs.declared.end.End.{End}
use Rattle.game.specs.declared.frames.Frames.{Frames}
use Rattle.game.specs.declared.start.Start.{Start}
use Rattle.grammar.specs.Productions.{Block, Replay, used_in, codes_bytes}
use Rattle.grammar.specs.WellFormed.{GoodCodes}
use Rattle.columns.specs.Columns.{ever_in, frames_read}
use Rattle.read_outline.specs.End.{end_in}
use Rattle.head.specs.Table.{stop_of, table_of, first_place}
use Rattle.game.specs.Frames.{is_marked}
use Rattle.measure.specs.Inner.{frames_by, lengths_by, frames_in, lengths_in, codes_by, end_by, Small, places_by, short_by}
use Rattle.measure.specs.declared.lengths.Lengths.{Lengths}
use Rattle.read_judge.specs.Found.{version_of, gecko_span}
use Rattle.read_judge.specs.Inner.{Tallied, EndAt, counts_by}
use Rattle.newer_judge.specs.Inner.{Shows}
use Rattle.read_judge.specs.declared.parts.Parts.{Parts}
use Rattle.measure.specs.Game.{Kept, kept_read, lengths_of, places_in, codes_mark, end_read}
use Rattle.measure.specs.Read.{partly_of, measured_in, opened_in, kept_short}
use Rattle.measure.specs.declared.Measured.{Measured}
use Rattle.measure.specs.declared.Opened.{Opened}
use Rattle.measure.specs.declared.Places.{Places}
use Rattle.measure.proofs.Needs.{counts_of, frames_are, lengths_are}

-- ---- blocks of codes

codes_length : (v : Version) (bs : List Block) → GoodCodes v bs → length (codes_bytes bs) ≡ 512 * length bs
unfolding GoodCodes codes_bytes
codes_length v [] g = refl
codes_length v (b ∷ []) g = length-append b.bytes [] ∙ omega (arith, g.1)
codes_length v (b ∷ c ∷ bs) g = length-append b.bytes (codes_bytes (c ∷ bs)) ∙ omega (arith, g.0, codes_length v (c ∷ bs) g.2)

used_few : (v : Version) (bs : List Block) → GoodCodes v bs → used_in bs ≤ 512 * length bs
unfolding GoodCodes used_in
used_few v [] g = omega arith
used_few v (b ∷ []) g = omega (arith, g.3)
used_few v (b ∷ c ∷ bs) g = omega (arith, g.1, used_few v (c ∷ bs) g.2)

-- ---- the mark of codes

pub codes_none : (v : Version) (gecko : ℕ) → gecko ≡ 0 → 0 ≡ codes_by v gecko
unfolding codes_by
codes_none v gecko e = go (gte_of v 3 3) ∙ rw e
  where
    go : (b : Bool) → ◌≡◌ {A = ℕ} 0 (cond (b && ltb 0 0) 1 0)
    go true = refl
    go false = refl

pub codes_as : (v : Version) (gecko : ℕ) (b : Bool) → (gecko ≡ 0 → ⊥) → b ≡ gte_of v 3 3 → {c : Bool} → b ≡ c → cond c 1 0 ≡ codes_by v gecko
unfolding codes_by
codes_as v gecko b some e {c} h = sym (rw (sym e ∙ h, lt-ltb 0 gecko (omega arith)) (go c))
  where
    go : (c : Bool) → ◌≡◌ {A = ℕ} (cond (c && true) 1 0) (cond c 1 0)
    go true = refl
    go false = refl

-- ---- the parts

module _ (f : List ℕ) (first stop : ℕ) (p : Parts) (a : Shows f first stop p) where
  abbrev v : Version
  v = version_of f

  abbrev r : Replay
  r = a.shown.found.replay

  abbrev t : Tallied v r.frames p.tally
  t = a.shown.tallied

  pub codes_are : length (codes_bytes r.codes) ≡ 512 * p.blocks
  codes_are = codes_length v r.codes a.shown.found.readable.well.codes ∙ ap (λ (n : ℕ). 512 * n) (sym a.shown.blocks_are)

  counts_are : counts_by p.tally ≡ counts_of v r.frames
  counts_are = λ i. record { frames = t.frames i; items = t.items i; fods = t.fods i; whispys = t.whispys i; stadiums = t.stadiums i }

  marks : (k : ℕ) → k < 8 → is_marked p.tally.slots k ≡ ever_in k r.frames
  marks k h = t.slots k h

  pub frames_in_lem : frames_in p ≡ frames_read v r.frames
  unfolding frames_in
  frames_in_lem = ap (λ w. frames_by w (counts_by p.tally) p.tally.slots) a.shown.version_is ∙ frames_are r.frames p.tally.slots marks v (counts_by p.tally) counts_are

  few : Modest (frames_read v r.frames) × (length (codes_bytes r.codes) ≤ 16777216) × (◌≤◌ 0 65535)
  few = counted (frames_read v r.frames) (length (codes_bytes r.codes)) 0 a.small

  pub small : Small p
  small = record {
    frames = omega (arith, t.frames, few.0.frames);
    modest = subst Modest (sym frames_in_lem) few.0;
    codes = omega (arith, codes_are, few.1);
    actual = omega (arith, a.shown.actual_is, a.shown.blocks_are, used_few v r.codes a.shown.found.readable.well.codes, codes_are, few.1);
  }

  pub lengths_in_lem : lengths_in p ≡ lengths_of (kept_read v r)
  unfolding lengths_in
  lengths_in_lem = ap₂ lengths_by frames_in_lem (sym codes_are) ∙ lengths_are v r.frames (codes_bytes r.codes)

  pub places_in_lem : places_by f first stop p.block_len ≡ places_in f r
  places_in_lem =
      ap₂ (λ (x y : ℕ). places_by f x y p.block_len) a.first_is a.stop_is ∙ ap (λ (n : ℕ). places_by f (first_place (table_of f)) (stop_of f) n) a.shown.block_len

  pub codes_mark_lem : (gecko : ℕ) → gecko ≡ gecko_span f → codes_by p.version gecko ≡ codes_mark f v
  unfolding codes_by
  codes_mark_lem gecko e = ap₂ (λ w (n : ℕ). cond (gte_of w 3 3 && ltb 0 n) 1 0) a.shown.version_is e

  partly_in : partly_of p.version ≡ partly_of v
  partly_in = ap partly_of a.shown.version_is

  -- the end
  first_of : (at : ℕ) (ends : List (List ℕ)) → EndAt f v at ends → cond (eqb (length ends) 0) no_end (end_in v (part f at (end_size v))) ≡ end_read v ends
  first_of at [] h = refl
  first_of at (x ∷ ends) h = rw (ne_eqb (suc (length ends)) 0 (λ z. omega arith)) (ap (end_in v) h.1)

  pub end_in_lem : end_by f p ≡ end_read v r.ends
  unfolding end_by
  end_in_lem =
      ap₂ (λ (n : ℕ) w. cond (eqb n 0) no_end (end_in w (part f (p.ends_at + 1) (end_size w)))) a.shown.ends_are a.shown.version_is
      ∙ first_of (p.ends_at + 1) r.ends a.shown.end_is

  end_room_of : (at : ℕ) (ends : List (List ℕ)) → (length ends ≡ 0 → ⊥) → EndAt f v at ends → at + end_size v ≤ length f
  end_room_of at [] some h = absurd (some refl)
  end_room_of at (x ∷ ends) some h = h.0

  pub end_room : (p.ends ≡ 0 → ⊥) → p.ends_at + 1 + end_size p.version ≤ length f
  end_room some =
      subst (λ w. p.ends_at + 1 + end_size w ≤ length f) (sym a.shown.version_is)
      (end_room_of (p.ends_at + 1) r.ends (λ z. some (a.shown.ends_are ∙ z)) a.shown.end_is)

  -- what functions over the parts ask
  pub places_room : (stop ≤ length f) × (first + 1 ≤ length f)
  places_room = (a.within, omega (arith, a.shown.block_in))

  pub start_room : (length_of p.version ≤ p.block_len) × (first + 1 + p.block_len ≤ length f)
  start_room = (subst (λ w. length_of w ≤ p.block_len) (sym a.shown.version_is) a.shown.block_fits, a.shown.block_in)

  -- ---- the answers

  module _ (gecko : ℕ) (gecko_is : gecko ≡ gecko_span f) (frames : Frames) (frames-is : frames ≡ frames_in p) (codes : ℕ) (codes-is : codes ≡ codes_by p.version gecko) (places : Places)
      (places_is : places ≡ places_by f first stop p.block_len) (partly : ℕ) (partly-is : partly ≡ partly_of p.version) where
    pub measured_is : (lengths : Lengths) → lengths ≡ lengths_in p
        → ◌≡◌ {A = Measured}
        (record { refused = 0; partly = partly; offset = 0; frames = frames; codes_given = codes; actual_size = p.actual; lengths = lengths; places = places })
        (measured_in f r)
    measured_is lengths e =
        λ i. record {
          refused = 0;
          partly = (partly-is ∙ partly_in) i;
          offset = 0;
          frames = (frames-is ∙ frames_in_lem) i;
          codes_given = (codes-is ∙ codes_mark_lem gecko gecko_is) i;
          actual_size = a.shown.actual_is i;
          lengths = (e ∙ lengths_in_lem) i;
          places = (places_is ∙ places_in_lem) i;
        }

    pub opened_is : (start : Start) → start ≡ start_in p.version (part f (first + 1) p.block_len) → (end : End) → end ≡ end_by f p
        → (double : ℕ) → double ≡ cond (eqb p.ends 2) 1 0 → (metadata : ℕ) → metadata ≡ cond (eqb places.tail 1) 1 0
        → ◌≡◌ {A = Opened}
        (record {
          refused = 0;
          partly = partly;
          offset = 0;
          game = record { frames = frames; start = start; end = end; double_end = double; codes_given = codes; metadata_given = metadata; actual_size = p.actual };
          places = places;
        })
        (opened_in f r)
    opened_is start s end e double d metadata m =
        λ i. record {
          refused = 0;
          partly = (partly-is ∙ partly_in) i;
          offset = 0;
          game = record {
            frames = (frames-is ∙ frames_in_lem) i;
            start = (s ∙ ap₂ start_in a.shown.version_is a.shown.block_is) i;
            end = (e ∙ end_in_lem) i;
            double_end = (d ∙ ap (λ (n : ℕ). cond (eqb n 2) 1 0) a.shown.ends_are) i;
            codes_given = (codes-is ∙ codes_mark_lem gecko gecko_is) i;
            metadata_given = (m ∙ ap (λ (q : Places). cond (eqb q.tail 1) 1 0) (places_is ∙ places_in_lem)) i;
            actual_size = a.shown.actual_is i;
          };
          places = (places_is ∙ places_in_lem) i;
        }

-- ---- the stores

pub short_is : (given needed : Kept) → short_by (lengths_of given) (lengths_of needed) ≡ kept_short given needed
unfolding short_by kept_short
short_is given needed = refl
