-- What `measure` and `read` answer to a file that `write` gives without metadata, by its tree: the walk of the file is a law's, so that a case computes its tree alone.
-- Assumes nothing.
use Prim.Native.Nat.{ℕ, ◌+◌, ◌-◌}
use mathlib.Core.Path.{◌≡◌, refl, sym, ap, ap₂, subst, ◌∙◌}
use mathlib.Core.Bool.{Bool, true, false, not, cond, ◌&&◌}
use mathlib.Core.List.{List, []}
use lib.Dec.{eqb, ltb}
use lib.ListN.{length, drop}
use Rattle.wire.specs.Wire.{part}
use Rattle.format.specs.Event.{code_of}
use Rattle.format.specs.File.{Entry, file_of}
use Rattle.format.specs.Mark.{yes}
use Rattle.format.specs.Version.{gte_of, accepted_of}
use Rattle.format.specs.declared.event.Event.TheVariants.{GeckoCodes}
use Rattle.format.specs.declared.version.Version.{Version}
use Rattle.format.proofs.Refusals.{skip, none}
use Rattle.game.specs.Stores.{Stores, stores}
use Rattle.game.specs.declared.Game.{Game}
use Rattle.read_start.specs.Start.{start_in}
use Rattle.ending.specs.Tail.{tail_of}
use Rattle.grammar.specs.Productions.{Replay, start_event, events_of, used_in}
use Rattle.grammar.specs.Readable.{Readable}
use Rattle.columns.specs.Columns.{frames_read}
use Rattle.read_outline.specs.Listed.{listed_right}
use Rattle.head.specs.Table.{stop_of, all_present, table_of, first_place, span_of}
use Rattle.de.specs.Walk.{walk_of}
use Rattle.de.specs.Numbers.{walk_numbers}
use Rattle.de.specs.Cut.{events_read}
use Rattle.read_judge.specs.Found.{opens_wrong, version_said, version_of, early_refusal, gecko_span, Found, too_big}
use Rattle.measure.specs.Game.{Kept, kept_read, lengths_of, tail_kind, tail_in, places_in, end_read, is_double, codes_mark, game_read}
use Rattle.measure.specs.Read.{partly_of, measured_in, unopened, opened_in, kept_short, kept_over, MeasureOutcome, ReadOutcome}
use Rattle.measure.specs.Read as outcome
use Rattle.measure.specs.declared.Places.{Places}
use Rattle.measure.specs.declared.Measured.{Measured}
use Rattle.measure.specs.declared.Opened.{Opened}
use Rattle.measure.proofs.Only.{only_measure, only_read}
use Rattle.ser.specs.Write.{entries, events, file}
use Rattle.ser.proofs.Outcomes.{Passed}
use Rattle.ser.proofs.Sound.{fresh, length_fits}
use Rattle.ser.proofs.EveryCut.{uncut}
use Rattle.law_tree.specs.Tree.{replay_of}
use Rattle.law_tree.proofs.Same.{same as events-as}
use Rattle.law_saved.specs.Again.{stores_from, stores_read}
use Rattle.read_judge.proofs.Accepted.{version_accepted, all_taken}
use Rattle.newer_judge.specs.Opening.{opening_refusal}
use Rattle.newer_judge.proofs.Opening.{opening_none}
use Rattle.read_judge.proofs.Places as parts

-- the span of codes in the table that is written
abbrev pub span_in : Game → Stores → ℕ
span_in g s = span_of (code_of GeckoCodes) (entries g s)

-- the game's events are those of this tree, which can be read back and says the game's version; codes are listed as its blocks say, no count is too big, and there is no metadata
pub record Holds (g : Game) (s : Stores) (r : Replay) : Type 0 where
  pub same : events g s ≡ events_of g.frames.version r
  pub opens : opens_wrong (events_of g.frames.version r) ≡ false
  pub said : version_said (events_of g.frames.version r) ≡ g.frames.version
  pub readable : Readable g.frames.version r
  pub listed : listed_right g.frames.version (span_in g s) (length r.codes) (used_in r.codes) ≡ true
  pub small : too_big g.frames.version r ≡ false
  pub plain : tail_kind (tail_of (yes g.metadata_given) s.metadata) ≡ 0

-- ---- the answers by version, table and tree

abbrev pub places_of : List Entry → Replay → Places
places_of t r = record { block_at = first_place t + 1; block_len = length r.block; tail = 0; metadata_at = 0; metadata_len = 0 }

abbrev pub mark_of : Version → ℕ → ℕ
mark_of v span = cond (gte_of v 3 3 && ltb 0 span) 1 0

abbrev pub measured_of : Version → ℕ → Places → Replay → Measured
measured_of v mark at r = record {
  refused = 0;
  partly = partly_of v;
  offset = 0;
  frames = frames_read v r.frames;
  codes_given = mark;
  actual_size = used_in r.codes;
  lengths = lengths_of (kept_read v r);
  places = at;
}

abbrev pub game_of : Version → ℕ → ℕ → Replay → Game
game_of v mark metadata r = record {
  frames = frames_read v r.frames;
  start = start_in v r.block;
  end = end_read v r.ends;
  double_end = is_double r.ends;
  codes_given = mark;
  metadata_given = metadata;
  actual_size = used_in r.codes;
}

abbrev pub opened_of : Version → ℕ → Places → Replay → Opened
opened_of v mark at r = record { refused = 0; partly = partly_of v; offset = 0; game = game_of v mark 0 r; places = at }

module _ {g : Game} {s : Stores} {r : Replay} (p : Passed g s) (h : Holds g s r) where
  abbrev f : List ℕ
  f = file g s

  abbrev v : Version
  v = g.frames.version

  abbrev tail : List ℕ
  tail = tail_of (yes g.metadata_given) s.metadata

  -- ---- what stands in the file

  pub whole : all_present f ≡ true
  unfolding file
  whole = parts.whole (entries g s) (events g s) tail (fresh p) (length_fits p)

  table_is_lem : table_of f ≡ entries g s
  unfolding file
  table_is_lem = parts.table_is_lem (entries g s) (events g s) tail (fresh p) (length_fits p)

  tail_is : drop (stop_of f) f ≡ tail
  unfolding file
  tail_is = parts.tail_is (entries g s) (events g s) tail (fresh p) (length_fits p)

  pub events_are : events_read f ≡ events_of v r
  events_are = (uncut p).0 ∙ h.same

  pub version_is : version_of f ≡ v
  version_is = ap version_said events_are ∙ h.said

  span_is : gecko_span f ≡ span_in g s
  span_is = ap (span_of (code_of GeckoCodes)) table_is_lem

  mark_is : codes_mark f v ≡ mark_of v (span_in g s)
  mark_is = ap (mark_of v) span_is

  kind_is : tail_in f ≡ 0
  kind_is = ap tail_kind tail_is ∙ h.plain

  abbrev places_as : List Entry → ℕ → Places
  places_as t kind = record {
    block_at = first_place t + 1;
    block_len = length r.block;
    tail = kind;
    metadata_at = cond (eqb kind 1) (stop_of f + 11) 0;
    metadata_len = cond (eqb kind 1) (length f - stop_of f - 13) 0;
  }

  places_are : places_in f r ≡ places_of (entries g s) r
  places_are = ap₂ places_as table_is_lem kind_is

  -- ---- it is not refused, and holds the tree

  walked : (walk_numbers (walk_of f)).kind ≡ 0
  walked = ap (λ w. (walk_numbers w).kind) (uncut p).1

  right_version : not (accepted_of (version_of f)) ≡ false
  right_version = rw (version_is, p.frames.version)

  pub not_early : early_refusal f ≡ 0
  unfolding early_refusal
  not_early =
      sym (skip _ _ _ _ (ap (λ (k : ℕ). eqb k 1) walked) (skip _ _ _ _ (ap opens_wrong events_are ∙ h.opens) (skip _ _ _ _ right_version none)))

  pub not_refused : opening_refusal f ≡ 0
  not_refused = opening_none f not_early

  pub listed_as : listed_right (version_of f) (gecko_span f) (length r.codes) (used_in r.codes) ≡ true
  listed_as = rw (version_is, span_is) h.listed

  abbrev pub found : Found f
  found = record {
    replay = r;
    whole = whole;
    events_are = all_taken f (version_accepted f not_early) r (events_are ∙ ap (λ w. events_of w r) (sym version_is));
    readable = subst (λ w. Readable w r) (sym version_is) h.readable;
    listed = listed_as;
  }

  pub small_enough : too_big (version_of f) r ≡ false
  small_enough = ap (λ (w : Version). too_big w r) version_is ∙ h.small

  -- ---- measure

  measured_is : measured_in f r ≡ measured_of v (mark_of v (span_in g s)) (places_of (entries g s) r) r
  measured_is =
      ap (λ (w : Version). measured_of w (codes_mark f w) (places_in f r) r) version_is
      ∙ ap₂ (λ (c : ℕ) (at : Places). measured_of v c at r) mark_is places_are

  -- it answers this
  pub measured : {m : Measured} → measured_of v (mark_of v (span_in g s)) (places_of (entries g s) r) r ≡ m → MeasureOutcome f m
  measured e = outcome.found not_refused found small_enough (sym (measured_is ∙ e))

  -- and nothing else
  pub only_measured : {m n : Measured} → measured_of v (mark_of v (span_in g s)) (places_of (entries g s) r) r ≡ m → MeasureOutcome f n → n ≡ m
  only_measured e o = only_measure f o (measured e)

  -- ---- read

  abbrev marked_by : ℕ → ℕ
  marked_by kind = cond (eqb kind 1) 1 0

  game_is : game_read f r ≡ game_of v (mark_of v (span_in g s)) 0 r
  game_is =
      ap (λ (w : Version). game_of w (codes_mark f w) (marked_by (tail_in f)) r) version_is
      ∙ ap₂ (λ (c kind : ℕ). game_of v c (marked_by kind) r) mark_is kind_is

  opened_is : opened_in f r ≡ opened_of v (mark_of v (span_in g s)) (places_of (entries g s) r) r
  opened_is = λ i. record { refused = 0; partly = partly_of (version_is i); offset = 0; game = game_is i; places = places_are i }

  module _ {x : Opened} {needed : Kept} (e : opened_of v (mark_of v (span_in g s)) (places_of (entries g s) r) r ≡ x) (k : kept_read v r ≡ needed) where
    needed_is : kept_read (version_of f) r ≡ needed
    needed_is = ap (λ (w : Version). kept_read w r) version_is ∙ k

    brief : (given : Kept) (b : Bool) → kept_short given needed ≡ b → kept_short given (kept_read (version_of f) r) ≡ b
    brief given b q = ap (kept_short given) needed_is ∙ q

    -- into stores that are long enough, all that is needed
    pub opened : (given : Kept) → kept_short given needed ≡ false → ReadOutcome f given x (kept_over given needed)
    opened given q =
        outcome.found not_refused found small_enough (brief given false q) (sym (opened_is ∙ e)) (sym (ap (kept_over given) needed_is))

    -- and nothing else
    pub only_opened : (given : Kept) → kept_short given needed ≡ false → {y : Opened} {after : Kept} → ReadOutcome f given y after → (y ≡ x) × (after ≡ kept_over given needed)
    only_opened given q o = only_read f given o (opened given q)

    -- 12 into others
    pub refused_short : (given : Kept) → kept_short given needed ≡ true → ReadOutcome f given (unopened 12 0) given
    refused_short given q = outcome.short not_refused found small_enough (brief given true q) refl refl

  -- ---- and write again

  block_found : part f (places_in f r).block_at (places_in f r).block_len ≡ r.block
  unfolding file events_of
  block_found = parts.first_is (entries g s) (events g s) tail (fresh p) (length_fits p) (start_event r.block) _ h.same

  metadata_found : part f (places_in f r).metadata_at (places_in f r).metadata_len ≡ []
  unfolding part
  metadata_found = ap (λ (at : Places). part f at.metadata_at at.metadata_len) places_are

  stores_are : stores_read f r ≡ stores (kept_read v r).lent r.block (kept_read v r).codes []
  stores_are =
      ap (λ (w : Version). stores_from f (places_in f r) (kept_read w r)) version_is
      ∙ ap₂ (λ (b m : List ℕ). stores (kept_read v r).lent b (kept_read v r).codes m) block_found metadata_found

  -- a game with this tree, this table and no metadata has this file
  same_file : (x : Game) (y : Stores) → x.frames.version ≡ v → replay_of x y ≡ r → entries x y ≡ entries g s → tail_of (yes x.metadata_given) y.metadata ≡ tail → file x y ≡ f
  unfolding file
  same_file x y w t e q =
      let es : events x y ≡ events g s = events-as x y ∙ ap₂ (λ (z : Version) (o : Replay). events_of z o) w t ∙ sym h.same in
      λ i. file_of (e i) (es i) (q i)

  -- what is read, written again, is the file
  pub saved_again : {x : Game} {needed : Kept} → game_of v (mark_of v (span_in g s)) 0 r ≡ x → kept_read v r ≡ needed
      → let y = stores needed.lent r.block needed.codes [] in
      x.frames.version ≡ v → replay_of x y ≡ r → entries x y ≡ entries g s → tail_of (yes x.metadata_given) [] ≡ tail → file (game_read f r) (stores_read f r) ≡ f
  saved_again {x} {needed} e k w t n q =
      ap₂ (λ (a : Game) (b : Stores). file a b) (game_is ∙ e) (stores_are ∙ ap (λ (a : Kept). stores a.lent r.block a.codes []) k) ∙ same_file _ _ w t n q
