-- The bytes of blocks of codes, copied one block after another.
-- Assumes nothing.
use Prim.Native.Nat.{ℕ, suc, ◌+◌, ◌*◌, ◌≤◌, ◌<◌}
use mathlib.Core.Path.{◌≡◌, refl, sym, ap, subst, ◌∙◌}
use mathlib.Core.List.{List, [], ◌∷◌, ◌++◌, head-eq_of_cons-eq, tail-eq_of_cons-eq, cons≢nil}
use native.Mathlib.Omega.{arith}
use lib.ListN.{length, get_or, length-append, length-take}
use lib.Seq.{take_at}
use Rattle.wire.specs.Wire.{be, part, splice, Room, Wrote}
use Rattle.wire.proofs.Laws.{length_be}
use Rattle.wire.proofs.Writers.{Left, left_start, left_step, left_room, left_done, wrote_as, room_as}
use Rattle.format.specs.Event.{code_of}
use Rattle.format.specs.File.{Ev}
use Rattle.format.specs.declared.event.Event.TheVariants.{GeckoCodes}
use Rattle.format.specs.declared.version.Version.{Version}
use Rattle.grammar.specs.Productions.{Block, block_event, codes_events, codes_bytes}
use Rattle.grammar.specs.WellFormed.{Each, GoodCodes}
use Rattle.read_judge.specs.Inner.{Covers}
use Rattle.known.specs.Known.{known_size, front, known_of}
use Rattle.known.proofs.Codes.{known_one, known_both}
use Rattle.newer_codes.specs.Places.{Laid, FirstKnown, Passed}
use Rattle.newer_codes.specs.Codes.{block_span, CodesEnded, BlocksLie}
use Rattle.newer_events.proofs.Events.{next_covers}
use Rattle.newer_codes.proofs.Places.{span_is, part_at, rest_covers, passed_known}
use Rattle.newer_codes.proofs.Tests.{splitter_size}

-- ---- a block

abbrev flag_of : List Block → ℕ
flag_of [] = 1
flag_of (c ∷ bs) = 0

codes_cons : (b : Block) (bs : List Block) → codes_events (b ∷ bs) ≡ block_event (flag_of bs) b ∷ codes_events bs
unfolding codes_events
codes_cons b [] = refl
codes_cons b (c ∷ bs) = refl

length_block : (flag : ℕ) (b : Block) → length b.bytes ≡ 512 → length (block_event flag b).payload ≡ 516
length_block flag b h = length-append b.bytes _ ∙ omega (arith, h, length-append (be 2 b.used) (code_of GeckoCodes ∷ flag ∷ []), length_be 2 b.used)

-- a block that stands at a place, and others behind it
pub record Standing (file spans : List ℕ) (stop at : ℕ) (this : Block) (others : List Block) : Type 0 where
  pub wide : 517 ≤ block_span spans
  pub inside : at + block_span spans ≤ stop
  pub bytes_are : part file (at + 1) 512 ≡ this.bytes
  pub others_lie : BlocksLie file spans (at + block_span spans) stop others

module _ (file spans : List ℕ) (stop : ℕ) (v : Version) (this : Block) (others : List Block) (more : List Ev) (sized : Each (λ b. length b.bytes ≡ 512) (this ∷ others)) where
  event_stands : (at : ℕ) (raw : List Ev) → Covers file spans at stop raw → FirstKnown raw → known_of v raw ≡ codes_events (this ∷ others) ++ more → Standing file spans stop at this others
  unfolding known_of Each part
  event_stands at [] c k q = absurd (cons≢nil (sym (q ∙ ap (λ (l : List Ev). l ++ more) (codes_cons this others))))
  event_stands at (e ∷ es) c k q =
      let flag = flag_of others in
      let are = sym (known_one v e es k) ∙ q ∙ ap (λ (l : List Ev). l ++ more) (codes_cons this others) in
      let one = head-eq_of_cons-eq are in
      let code : e.code ≡ 0x10 = ap (λ (e : Ev). e.code) one in
      let payload : (front v e).payload ≡ (block_event flag this).payload = ap (λ (e : Ev). e.payload) one in
      let long : length (front v e).payload ≡ 516 = ap length payload ∙ length_block flag this sized.0 in
      let most = splitter_size v e code in
      let cut = length-take (known_size v e) e.payload in
      let span : block_span spans ≡ suc (length e.payload) = ap (λ (n : ℕ). get_or spans n 0) (sym code) ∙ span_is file spans at stop e es c in
      let z : at + suc (length e.payload) ≡ at + block_span spans = omega (arith, span) in
      record {
        wide = omega (arith, span, long, cut);
        inside = omega (arith, span, (next_covers file spans at stop e es c).long);
        bytes_are =
            part_at file spans at stop e es c v 0 512 (omega (arith, long))
            ∙ ap (λ (l : List ℕ). part l 0 512) payload
            ∙ take_at this.bytes (be 2 this.used ++ (code_of GeckoCodes ∷ flag ∷ [])) 512 sized.0;
        others_lie = record {
          version = v;
          raw = es;
          more = more;
          covers = subst (λ (p : ℕ). Covers file spans p stop es) z (next_covers file spans at stop e es c);
          known_are = tail-eq_of_cons-eq are;
          sized = sized.1;
        };
      }

-- ---- what is left to copy

pub record Copying (file spans : List ℕ) (stop count : ℕ) (first : List ℕ) (bs : List Block) (out : List ℕ) (at p b : ℕ) : Type 0 where
  pub blocks : List Block
  pub lie : BlocksLie file spans at stop blocks
  pub count_is : b + length blocks ≡ count
  pub left : Left first 0 (codes_bytes bs) out p (codes_bytes blocks)

-- and the first of it, behind unknown events
pub record Turn (file spans : List ℕ) (stop count : ℕ) (first : List ℕ) (bs : List Block) (out : List ℕ) (at p b : ℕ) : Type 0 where
  pub this : Block
  pub others : List Block
  pub stands : Standing file spans stop at this others
  pub count_is : b + suc (length others) ≡ count
  pub left : Left first 0 (codes_bytes bs) out p (this.bytes ++ codes_bytes others)

module _ (file spans : List ℕ) (stop count : ℕ) (first : List ℕ) (bs : List Block) where
  pub copy_first : (at : ℕ) → BlocksLie file spans at stop bs → count ≡ length bs → Copying file spans stop count first bs first at 0 0
  copy_first at l n = record { blocks = bs; lie = l; count_is = omega (arith, n); left = left_start }

  module _ (out : List ℕ) (at p b : ℕ) where
    turn : (blocks : List Block) → BlocksLie file spans at stop blocks → b + length blocks ≡ count → Left first 0 (codes_bytes bs) out p (codes_bytes blocks) → b < count → (place : ℕ)
        → ((es : List Ev) → Covers file spans at stop es → Passed at es place) → Turn file spans stop count first bs out place p b
    unfolding codes_bytes
    turn [] lie n left l place passed = absurd (omega arith)
    turn (x ∷ others) lie n left l place passed =
        let w = passed lie.raw lie.covers in
        let d = rest_covers file spans stop at lie.raw w.odd w.rest place lie.covers w.parted w.place_is in
        let are = sym (passed_known lie.version at lie.raw place w) ∙ lie.known_are in
        record {
          this = x;
          others = others;
          stands = event_stands file spans stop lie.version x others lie.more lie.sized place w.rest d w.next are;
          count_is = n;
          left = left;
        }

    pub copy_laid : Copying file spans stop count first bs out at p b → stop ≤ length file → length spans ≡ 256 → Laid file spans at stop
    copy_laid c l n = record { some = record { raw = c.lie.raw; covers = c.lie.covers }; within = l; all_codes = n }

    pub copy_turn : Copying file spans stop count first bs out at p b → b < count → (place : ℕ) → ((es : List Ev) → Covers file spans at stop es → Passed at es place)
        → Turn file spans stop count first bs out place p b
    copy_turn c l place passed = turn c.blocks c.lie c.count_is c.left l place passed

    module _ (t : Turn file spans stop count first bs out at p b) where
      pub copy_room : Room first 0 (codes_bytes bs) → Room out p (part file (at + 1) 512)
      copy_room r = room_as (sym t.stands.bytes_are) (left_room (codes_bytes t.others) t.left refl r)

      pub copy_next : (after : List ℕ) (next span : ℕ) → Wrote out after p next (part file (at + 1) 512) → span ≡ block_span spans → Copying file spans stop count first bs after (at + span) next (b + 1)
      copy_next after next span w s =
          let z : at + block_span spans ≡ at + span = omega (arith, s) in
          record {
            blocks = t.others;
            lie = subst (λ (n : ℕ). BlocksLie file spans n stop t.others) z t.stands.others_lie;
            count_is = omega (arith, t.count_is);
            left = left_step t.left refl (wrote_as t.stands.bytes_are w);
          }

    none_left : (blocks : List Block) → b + length blocks ≡ count → count ≤ b → codes_bytes blocks ≡ []
    unfolding codes_bytes
    none_left [] n l = refl
    none_left (x ∷ blocks) n l = absurd (omega arith)

    pub copy_done : Copying file spans stop count first bs out at p b → count ≤ b → out ≡ splice first 0 (codes_bytes bs)
    copy_done c l = (left_done c.left (none_left c.blocks c.count_is l)).after_is

-- all blocks together
pub length_blocks : (bs : List Block) → Each (λ b. length b.bytes ≡ 512) bs → length (codes_bytes bs) ≡ 512 * length bs
unfolding codes_bytes Each
length_blocks [] h = refl
length_blocks (b ∷ bs) h = omega (arith, length-append b.bytes (codes_bytes bs), h.0, length_blocks bs h.1)

pub all_room : (file spans : List ℕ) (first stop count : ℕ) (bs : List Block) (out : List ℕ) → BlocksLie file spans first stop bs → count ≡ length bs → 512 * count ≤ length out → Room out 0 (codes_bytes bs)
all_room file spans first stop count bs out l n h = record { fits = omega (arith, length_blocks bs l.sized, n) }

-- ---- the blocks that `codes` found are those to copy

good_sized : (v : Version) (bs : List Block) → GoodCodes v bs → Each (λ b. length b.bytes ≡ 512) bs
unfolding GoodCodes Each
good_sized v [] h = tt
good_sized v (b ∷ []) h = (h.1, tt)
good_sized v (b ∷ c ∷ bs) h = (h.0, good_sized v (c ∷ bs) h.2)

pub found_lie : (v : Version) (file spans : List ℕ) (first stop : ℕ) (raw : List Ev) → Covers file spans first stop raw → (at count actual : ℕ) (x : CodesEnded v first raw at count actual)
    → BlocksLie file spans first stop x.blocks
found_lie v file spans first stop raw c at count actual x = record {
  version = v;
  raw = raw;
  more = known_of v x.after;
  covers = c;
  known_are = ap (known_of v) x.parted ∙ known_both v x.before x.after ∙ ap (λ (l : List Ev). l ++ known_of v x.after) x.known_are;
  sized = good_sized v x.blocks x.good;
}
