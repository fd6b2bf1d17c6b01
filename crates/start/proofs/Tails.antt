-- The two ways of the match id's tail: blocks of one length, which differ in no byte outside it; cleared, its bytes are zeros.
-- Assumes nothing.
use mathlib.Core.Path.{◌≡◌, refl, sym, ap, ◌∙◌}
use mathlib.Core.Bool.{Bool, true, false}
use mathlib.Core.List.{List, [], ◌∷◌, ◌++◌}
use Prim.Native.Nat.{ℕ, ◌+◌, ◌-◌, ◌≤◌}
use native.Mathlib.Omega.{arith}
use lib.ListN.{get_or, replicate, length-replicate}
use Rattle.wire.specs.Wire.{be, splice, keep, Wrote}
use Rattle.wire.proofs.Laws.{length_splice}
use Rattle.format.specs.declared.version.Version.{Version}
use Rattle.game.specs.declared.start.Match.{Match}
use Rattle.game.specs.declared.start.MatchTail.{MatchTail}
use Rattle.game.specs.declared.start.MatchTail.TheVariants.{Cleared, Kept}
use Rattle.game.specs.declared.start.Start.{Start}
use Rattle.game.specs.MatchTails.{match_tail_number, match_tail_of}
use Rattle.patch.specs.Patch.{Patch, patch, patched}
use Rattle.patch.specs.Field.{text}
use Rattle.patch.specs.Inner.{Patched}
use Rattle.patch.proofs.Patches.{patched_append, patched_one}
use Rattle.patch.proofs.Positions.{Misses, splice_other, patched_same, Fills, fills_bytes, fills_after, fills_before, fills_kept}
use Rattle.start.specs.Gate.{reaches, match_from}
use Rattle.start.specs.Length.{length_of}
use Rattle.start.specs.Refusal.{bad_start}
use Rattle.start.specs.Block.{game_fields, seats_fields, mode_fields, match_id, match_tail, match_fields, fields, start_block}
use Rattle.start.proofs.Lengths.{long_enough}
use Rattle.start.proofs.Views.{Apart, apart_tail}

-- the number of a way stands for it
pub tail_of_number : (t : MatchTail) → match_tail_of (match_tail_number t) ≡ t
tail_of_number Cleared = refl
tail_of_number Kept = refl

-- ---- one way and the other

pub tail_zeros : {a b : List ℕ} {next : ℕ} (t : MatchTail) (len : ℕ) → t ≡ Cleared → Wrote a b (702 + len) next (replicate (50 - len) 0) → Patched a b (match_tail t len ∷ [])
tail_zeros t len e w = rw e (patched_one w)

pub tail_as : {a b : List ℕ} {x y : MatchTail} (len : ℕ) → x ≡ y → Patched a b (match_tail x len ∷ []) → Patched a b (match_tail y len ∷ [])
tail_as len e p = rw (sym e) p

pub tail_stays : (a : List ℕ) (t : MatchTail) (len : ℕ) → t ≡ Kept → Patched a a (match_tail t len ∷ [])
unfolding patched splice
tail_stays a t len e = rw e (record { after_is = refl })

-- the same start, asked for with another tail
abbrev pub tailed : ℕ → Start → Start
tailed k s = record {
  bitfield = s.bitfield;
  is_raining_bombs = s.is_raining_bombs;
  is_teams = s.is_teams;
  item_spawn_frequency = s.item_spawn_frequency;
  self_destruct_score = s.self_destruct_score;
  stage = s.stage;
  timer = s.timer;
  item_spawn_bitfield = s.item_spawn_bitfield;
  damage_ratio = s.damage_ratio;
  seats = s.seats;
  random_seed = s.random_seed;
  is_pal = s.is_pal;
  is_frozen_ps = s.is_frozen_ps;
  scene = s.scene;
  language = s.language;
  match_info = record { given = s.match_info.given; tail = k; id = s.match_info.id; game = s.match_info.game; tiebreaker = s.match_info.tiebreaker };
}

-- it is refused alike
pub same_refused : (v : Version) (k : ℕ) (s : Start) → bad_start v (tailed k s) ≡ bad_start v s
unfolding bad_start
same_refused v k s = refl

-- ---- no byte outside the tail differs

-- one patch for another, neither at index i
other_patch : (block : List ℕ) (p q : Patch) (ps : List Patch) (i : ℕ) → Misses i (p ∷ []) → Misses i (q ∷ [])
    → get_or (patched block (p ∷ ps)) i 0 ≡ get_or (patched block (q ∷ ps)) i 0
unfolding patched Misses
other_patch block p q ps i a b =
    patched_same (splice block p.offset p.bytes) (splice block q.offset q.bytes) ps i
    (length_splice block p.offset p.bytes ∙ sym (length_splice block q.offset q.bytes))
    (splice_other block p.offset p.bytes i a.0 ∙ sym (splice_other block q.offset q.bytes i b.0))

module _ (v : Version) (s : Start) (k : ℕ) where
  abbrev m : Match
  m = s.match_info

  -- what is stored before the match, and after its tail
  abbrev before_match : List Patch
  before_match = game_fields v s ++ (seats_fields v 0 s.seats ++ mode_fields v s)

  abbrev after_tail : List Patch
  after_tail = patch 752 (be 4 m.game) ∷ patch 756 (be 4 m.tiebreaker) ∷ []

  in_match : (block : List ℕ) (on : Bool) (i : ℕ) (x y : MatchTail) → (on ≡ true → Apart i (702 + m.id.len) (50 - m.id.len))
      → get_or (patched block (keep on (match_id m.id ∷ match_tail x m.id.len ∷ after_tail))) i 0
      ≡ get_or (patched block (keep on (match_id m.id ∷ match_tail y m.id.len ∷ after_tail))) i 0
  unfolding keep patched Misses
  in_match block false i x y h = refl
  in_match block true i x y h =
      other_patch (splice block 701 (text m.id ++ (0 ∷ []))) (match_tail x m.id.len) (match_tail y m.id.len) after_tail i
      (apart_tail i x m.id.len (h refl), tt) (apart_tail i y m.id.len (h refl), tt)

  same_way : (block : List ℕ) (i : ℕ) → (reaches v match_from ≡ true → Apart i (702 + m.id.len) (50 - m.id.len))
      → get_or (patched block (match_fields v (tailed k s).match_info)) i 0 ≡ get_or (patched block (match_fields v m)) i 0
  unfolding match_fields
  same_way block i h = in_match block (reaches v match_from) i (match_tail_of k) (match_tail_of m.tail) h

  pub same_outside : (template : List ℕ) (i : ℕ) → (reaches v match_from ≡ true → Apart i (702 + m.id.len) (50 - m.id.len))
      → get_or (start_block v (tailed k s) template) i 0 ≡ get_or (start_block v s template) i 0
  unfolding start_block fields game_fields mode_fields
  same_outside template i h =
      let split : (x : Match) → patched template (game_fields v s ++ (seats_fields v 0 s.seats ++ (mode_fields v s ++ match_fields v x)))
      ≡ patched (patched (patched (patched template (game_fields v s)) (seats_fields v 0 s.seats)) (mode_fields v s)) (match_fields v x)
      = λ x. patched_append template (game_fields v s) _ ∙ patched_append _ (seats_fields v 0 s.seats) _ ∙ patched_append _ (mode_fields v s) _ in
      ap (λ (l : List ℕ). get_or l i 0) (split (tailed k s).match_info) ∙ same_way _ i h ∙ sym (ap (λ (l : List ℕ). get_or l i 0) (split m))

-- ---- cleared, every byte of the tail is zero

module _ (v : Version) (s : Start) (on : reaches v match_from ≡ true) (short : s.match_info.id.len ≤ 50) (cleared : s.match_info.tail ≡ 0) where
  abbrev len : ℕ
  len = s.match_info.id.len

  pub fills_tail : Fills (length_of v) (702 + len) (50 - len) (replicate (50 - len) 0) (fields v s)
  unfolding fields match_fields Misses
  fills_tail =
      let here = fills_bytes (length_of v) (702 + len) (50 - len) (replicate (50 - len) 0) (length-replicate (50 - len) 0) (omega (arith, short, long_enough v 0 on)) in
      let way : match_tail_of s.match_info.tail ≡ Cleared = ap match_tail_of cleared in
      fills_after (game_fields v s) (fills_after (seats_fields v 0 s.seats) (fills_after (mode_fields v s)
      (fills_kept (reaches v match_from) on
      (fills_after (match_id s.match_info.id ∷ [])
      (rw way (fills_before {ps = match_tail Cleared len ∷ []} _ (λ i a b. (λ x y. omega (arith, short), (λ x y. omega (arith, short), tt))) here))))))
