-- Over the bytes of listed events, blocks of codes and ends are those of the grammar.
-- Assumes nothing.
use mathlib.Core.Path.{◌≡◌, refl, sym, ap, ap₂, subst, ◌∙◌}
use mathlib.Core.Bool.{Bool, true, false, not, cond, ◌&&◌}
use mathlib.Core.List.{List, [], ◌∷◌, ◌++◌, map}
use mathlib.Core.Logic.{◌↔◌}
use mathlib.Core.Option.{Option, none, some, some-injective, none-ne-some}
use Prim.Native.Nat.{ℕ, zero, suc, ◌+◌, ◌-◌, ◌*◌, ◌≤◌, ◌<◌}
use native.Mathlib.Nat.{add-zero}
use native.Mathlib.Omega.{arith}
use borrow.Author.Tests.{lt-ltb, le-leb, eq-eqb, ne_eqb, eqb-true, eqb-false}
use lib.Dec.{eqb}
use lib.ListN.{length, get_or, drop, length-append}
use lib.Seq.{get_or-drop, drop-drop, take_at}
use Rattle.wire.specs.Wire.{be, part, ranged}
use Rattle.wire.proofs.Laws.{length_be}
use Rattle.format.specs.Version.{has_initiator}
use Rattle.format.specs.Event.{code_of}
use Rattle.format.specs.File.{Ev, event_bytes, events_bytes}
use Rattle.format.specs.declared.event.Event.TheVariants.{GameEnd, GeckoCodes, MessageSplitter}
use Rattle.format.specs.declared.version.Version.{Version}
use Rattle.format.proofs.Versions.{no_way}
use Rattle.layout.specs.Payloads.{end_size}
use Rattle.ending.specs.End.{initiator_wrong}
use Rattle.grammar.specs.Productions.{Block, block_event, codes_events, end_event, used_in, codes_bytes}
use Rattle.grammar.specs.WellFormed.{Each, GoodCodes}
use Rattle.grammar.specs.Readable.{Alike}
use Rattle.grammar.specs.Whole.{is_block, used_by, flag_in, is_last, is_full, blocks_rest, codes_rest, is_end, are_ends}
use Rattle.grammar.proofs.Tests.{both}
use Rattle.grammar.proofs.Lists.{Not}
use Rattle.grammar.proofs.Exactly.{Byte}
use Rattle.grammar.proofs.Blocks.{block_used, block_flag, block_taken, blocks_found}
use Rattle.read_scan.proofs.Same.{Spanned}
use Rattle.read_outline.specs.Inner.{used_at, full_at, last_at, last_block, blocks_from, codes_at, same_run, right_at, second_at, ends_at}
use Rattle.read_outline.specs.declared.answer.Codes.TheVariants as codes
use Rattle.read_outline.specs.declared.answer.Ends.{Ends}
use Rattle.read_outline.specs.declared.answer.Ends.TheVariants as ends
use Rattle.read_outline.proofs.Laws.{block_bytes, block_short, codes_some, codes_other, codes_none, ends_none, ends_wrong, ends_one, ends_two, ends_unlike}
use Rattle.read_outline.proofs.Stands.{Stands, size_of, next_stands, code_at, payload_at_lem, part_at, block_size, used_at_lem, full_at_lem, last_at_lem, right_at_lem}

-- ---- blocks that are wrong

-- the last block is not a full one with others behind it
one_flag : (e : Ev) → flag_in e ≡ 1 → is_full e ≡ true → ⊥
unfolding is_full
one_flag e f q = let g = eqb-true (flag_in e) 0 (both (eqb (flag_in e) 0) (eqb (used_by e) 512) q).0 in omega arith

module _ (v : Version) (file spans : List ℕ) (stop : ℕ) (tail : List ℕ) where
  no_block : (k at n : ℕ) → stop ≡ at → blocks_from v file spans stop k at n ≡ codes.Wrong
  unfolding blocks_from last_block full_at last_at
  no_block zero at n e = refl
  no_block (suc k) at n e = rw (sym (block_short file spans stop at (omega arith)))

  pub blocks_wrong : (es : List Ev) (k at n : ℕ) → Stands file spans stop tail at es → blocks_rest v es ≡ none → blocks_from v file spans stop k at n ≡ codes.Wrong
  unfolding blocks_from last_block blocks_rest events_bytes
  blocks_wrong [] k at n s w = no_block k at n (omega (arith, s.long))
  blocks_wrong (e ∷ es) zero at n s w = refl
  blocks_wrong (e ∷ es) (suc k) at n s w = go (is_block e) refl (eqb (flag_in e) 1) refl (is_full e) refl (is_last v e) refl w (λ next w. blocks_wrong es k (at + 517) (n + 1) next w)
    where
      go : (b : Bool) → is_block e ≡ b → (f : Bool) → eqb (flag_in e) 1 ≡ f → (u : Bool) → is_full e ≡ u → (l : Bool) → is_last v e ≡ l
          → cond b (cond f (cond l (some es) none) (cond u (blocks_rest v es) none)) none ≡ none
          → (Stands file spans stop tail (at + 517) es → blocks_rest v es ≡ none → blocks_from v file spans stop k (at + 517) (n + 1) ≡ codes.Wrong)
          → cond (full_at file spans stop at) (blocks_from v file spans stop k (at + 517) (n + 1)) (cond (last_at v file spans stop at) (codes.Ended (at + 517) (n + 1) (512 * n + used_at file at)) codes.Wrong) ≡ codes.Wrong
      go false x f y u z l o w more = rw (full_at_lem file spans stop tail at e es s false x, last_at_lem file spans stop tail at e es s v false x)
      go true x true y true z l o w more = absurd (one_flag e (eqb-true (flag_in e) 1 y) z)
      go true x true y false z true o w more = absurd (none-ne-some es (sym w))
      go true x true y false z false o w more = rw (full_at_lem file spans stop tail at e es s true x, last_at_lem file spans stop tail at e es s v true x, z, y, o)
      go true x false y true z l o w more =
          let size = block_size file spans stop tail at e es s x in
          let e516 : at + suc (length e.payload) ≡ at + 517 = omega (arith, size) in
          let next = subst (λ (p : ℕ). Stands file spans stop tail p es) e516 (next_stands file spans stop tail at e es s) in
          rw (full_at_lem file spans stop tail at e es s true x, z) (more next w)
      go true x false y false z l o w more = rw (full_at_lem file spans stop tail at e es s true x, last_at_lem file spans stop tail at e es s v true x, z, y)

-- ---- blocks that are well formed, one by one

abbrev flag_of : List Block → ℕ
flag_of [] = 1
flag_of (c ∷ bs) = 0

codes_cons : (b : Block) (bs : List Block) → codes_events (b ∷ bs) ≡ block_event (flag_of bs) b ∷ codes_events bs
unfolding codes_events
codes_cons b [] = refl
codes_cons b (c ∷ bs) = refl

good_cons : (v : Version) (b : Block) (bs : List Block) → GoodCodes v (b ∷ bs) → (length b.bytes ≡ 512) × (b.used ≤ 512) × GoodCodes v bs
unfolding GoodCodes
good_cons v b [] h = (h.1, h.3, tt)
good_cons v b (c ∷ bs) h = (h.0, omega (arith, h.1), h.2)

length_block : (flag : ℕ) (b : Block) → length b.bytes ≡ 512 → length (block_event flag b).payload ≡ 516
length_block flag b h = length-append b.bytes _ ∙ omega (arith, h, length-append (be 2 b.used) (code_of GeckoCodes ∷ flag ∷ []), length_be 2 b.used)

module _ (v : Version) (file spans : List ℕ) (stop : ℕ) (tail : List ℕ) where
  module _ (b : Block) (bs : List Block) (t : List Ev) (good : GoodCodes v (b ∷ bs)) (at : ℕ) (s : Stands file spans stop tail at (codes_events (b ∷ bs) ++ t)) where
    abbrev this : Ev
    this = block_event (flag_of bs) b

    one_more : Stands file spans stop tail at (this ∷ (codes_events bs ++ t))
    one_more = subst (λ (l : List Ev). Stands file spans stop tail at (l ++ t)) (codes_cons b bs) s

    sized : length this.payload ≡ 516
    sized = length_block (flag_of bs) b (good_cons v b bs good).0

    others_stand : Stands file spans stop tail (at + 517) (codes_events bs ++ t)
    others_stand =
        let e : at + suc (length this.payload) ≡ at + 517 = omega (arith, sized) in
        subst (λ (p : ℕ). Stands file spans stop tail p (codes_events bs ++ t)) e (next_stands file spans stop tail at this (codes_events bs ++ t) one_more)

    inside : at + 517 ≤ stop
    inside = omega (arith, size_of file spans stop tail at this (codes_events bs ++ t) one_more, sized)

    code_here : get_or file at 0 ≡ 0x10
    code_here = code_at file spans stop tail at this (codes_events bs ++ t) one_more

    bytes_here : part file (at + 1) 512 ≡ b.bytes
    unfolding part
    bytes_here =
        part_at file spans stop tail at this (codes_events bs ++ t) one_more 0 512 (omega (arith, sized))
        ∙ take_at b.bytes (be 2 b.used ++ (code_of GeckoCodes ∷ flag_of bs ∷ [])) 512 (good_cons v b bs good).0

    is_block_lem : is_block this ≡ true
    is_block_lem = block_taken (flag_of bs) b (good_cons v b bs good).0 (good_cons v b bs good).1

    used_here : used_at file at ≡ b.used
    used_here = used_at_lem file spans stop tail at this (codes_events bs ++ t) one_more is_block_lem ∙ block_used (flag_of bs) b (good_cons v b bs good).0 (good_cons v b bs good).1

  pub blocks_taken : (b : Block) (bs : List Block) (t : List Ev) (k at n : ℕ) → length bs < k → GoodCodes v (b ∷ bs) → Stands file spans stop tail at (codes_events (b ∷ bs) ++ t)
      → blocks_from v file spans stop k at n ≡ codes.Ended (at + 517 * suc (length bs)) (n + suc (length bs)) (512 * n + used_in (b ∷ bs))
  unfolding blocks_from last_block GoodCodes is_full is_last used_in
  blocks_taken b bs t zero at n l h s = absurd (omega arith)
  blocks_taken b [] t (suc k) at n l h s =
      let e = block_event 1 b in
      let one = one_more b [] t h at s in
      let block = is_block_lem b [] t h at s in
      let flag = block_flag 1 b h.1 h.3 in
      let used = block_used 1 b h.1 h.3 in
      let p : at + 517 ≡ at + 517 * 1 = omega arith in
      let u : 512 * n + used_at file at ≡ 512 * n + (b.used + 0) = omega (arith, used_here b [] t h at s) in
      rw (
        full_at_lem file spans stop tail at e (codes_events [] ++ t) one true block,
        ne_eqb (flag_in e) 0 (λ q. omega arith),
        last_at_lem file spans stop tail at e (codes_events [] ++ t) one v true block,
        eq-eqb (flag_in e) 1 flag,
        h.0,
        lt-ltb 0 (used_by e) (omega (arith, h.2)),
        le-leb (used_by e) 512 (omega (arith, h.3)),
      )
      (λ i. codes.Ended (p i) (n + 1) (u i))
  blocks_taken b (c ∷ bs) t (suc k) at n l h s =
      let e = block_event 0 b in
      let few : b.used ≤ 512 = omega (arith, h.1) in
      let flag = block_flag 0 b h.0 few in
      let used = block_used 0 b h.0 few in
      let more = blocks_taken c bs t k (at + 517) (n + 1) (omega arith) h.2 (others_stand b (c ∷ bs) t h at s) in
      let p : at + 517 + 517 * suc (length bs) ≡ at + 517 * suc (suc (length bs)) = omega arith in
      let q : n + 1 + suc (length bs) ≡ n + suc (suc (length bs)) = omega arith in
      let u : 512 * (n + 1) + used_in (c ∷ bs) ≡ 512 * n + (b.used + used_in (c ∷ bs)) = omega (arith, h.1) in
      rw (
        full_at_lem file spans stop tail at e (codes_events (c ∷ bs) ++ t) (one_more b (c ∷ bs) t h at s) true (is_block_lem b (c ∷ bs) t h at s),
        eq-eqb (flag_in e) 0 flag,
        eq-eqb (used_by e) 512 (used ∙ h.1),
      )
      (more ∙ (λ i. codes.Ended (p i) (q i) (u i)))

  -- what stands behind them, and their bytes
  after_blocks : (bs : List Block) (t : List Ev) (at : ℕ) → GoodCodes v bs → Stands file spans stop tail at (codes_events bs ++ t) → Stands file spans stop tail (at + 517 * length bs) t
  unfolding codes_events
  after_blocks [] t at h s = let e : at ≡ at + 517 * 0 = omega arith in subst (λ (p : ℕ). Stands file spans stop tail p t) e s
  after_blocks (b ∷ bs) t at h s =
      let e : at + 517 + 517 * length bs ≡ at + 517 * suc (length bs) = omega arith in
      subst (λ (p : ℕ). Stands file spans stop tail p t) e (after_blocks bs t (at + 517) (good_cons v b bs h).2 (others_stand b bs t h at s))

  blocks_bytes : (bs : List Block) (t : List Ev) (first i : ℕ) → GoodCodes v bs → Stands file spans stop tail (first + 517 * i) (codes_events bs ++ t)
      → ranged (block_bytes file first) i (length bs) ≡ codes_bytes bs
  unfolding ranged codes_bytes
  blocks_bytes [] t first i h s = refl
  blocks_bytes (b ∷ bs) t first i h s =
      let e : first + 517 * i + 517 ≡ first + 517 * (i + 1) = omega arith in
      let next = subst (λ (p : ℕ). Stands file spans stop tail p (codes_events bs ++ t)) e (others_stand b bs t h (first + 517 * i) s) in
      ap₂ (λ (x y : List ℕ). x ++ y) (bytes_here b bs t h (first + 517 * i) s) (blocks_bytes bs t first (i + 1) (good_cons v b bs h).2 next)

-- ---- the codes

-- what `codes` answers where these blocks stand before these events, and what `copy_codes` copies
pub record Coded (v : Version) (file spans : List ℕ) (first stop : ℕ) (tail : List ℕ) (bs : List Block) (t : List Ev) : Type 0 where
  pub answer_is : codes_at v file spans first stop ≡ codes.Ended (stop - length (events_bytes t)) (length bs) (used_in bs)
  pub place_is : stop - length (events_bytes t) ≡ first + 517 * length bs
  pub long : stop ≡ stop - length (events_bytes t) + length (events_bytes t)
  pub here : drop (stop - length (events_bytes t)) file ≡ events_bytes t ++ tail
  pub spanned : Each (Spanned spans) t
  pub bytes_are : ranged (λ b. part file (first + 517 * b + 1) 512) 0 (length bs) ≡ codes_bytes bs

module _ (v : Version) (file spans : List ℕ) (stop : ℕ) (tail : List ℕ) (first : ℕ) where
  -- from the answer by the number of blocks
  coded : (bs : List Block) (t : List Ev) → GoodCodes v bs → Stands file spans stop tail first (codes_events bs ++ t)
      → codes_at v file spans first stop ≡ codes.Ended (first + 517 * length bs) (length bs) (used_in bs) → Coded v file spans first stop tail bs t
  coded bs t h s a =
      let after = after_blocks v file spans stop tail bs t first h s in
      let e : first + 517 * length bs ≡ stop - length (events_bytes t) = omega (arith, after.long) in
      let z : first ≡ first + 517 * 0 = omega arith in
      record {
        answer_is = a ∙ ap (λ (p : ℕ). codes.Ended p (length bs) (used_in bs)) e;
        place_is = sym e;
        long = omega (arith, after.long);
        here = subst (λ (p : ℕ). drop p file ≡ events_bytes t ++ tail) e after.here;
        spanned = after.spanned;
        bytes_are = blocks_bytes v file spans stop tail bs t first 0 h (subst (λ (p : ℕ). Stands file spans stop tail p (codes_events bs ++ t)) z s);
      }

  some_codes : (b : Block) (bs : List Block) (t : List Ev) → GoodCodes v (b ∷ bs) → Stands file spans stop tail first (codes_events (b ∷ bs) ++ t) → Coded v file spans first stop tail (b ∷ bs) t
  some_codes b bs t h s =
      let room = (after_blocks v file spans stop tail (b ∷ bs) t first h s).long in
      let in_file = inside v file spans stop tail b bs t h first s in
      let n : 0 + suc (length bs) ≡ suc (length bs) = omega arith in
      let u : 512 * 0 + used_in (b ∷ bs) ≡ used_in (b ∷ bs) = omega arith in
      coded (b ∷ bs) t h s
      (sym (codes_some v file spans stop first (omega arith) (code_here v file spans stop tail b bs t h first s))
      ∙ blocks_taken v file spans stop tail b bs t (suc stop) first 0 (omega arith) h s
      ∙ (λ i. codes.Ended (first + 517 * suc (length bs)) (n i) (u i)))

  no_codes : (t : List Ev) → Not 0x10 t → Stands file spans stop tail first t → Coded v file spans first stop tail [] t
  unfolding codes_events GoodCodes used_in events_bytes
  no_codes [] n s = let e : first ≡ first + 517 * 0 = omega arith in coded [] [] tt s (sym (codes_none v file spans stop first (omega (arith, s.long))) ∙ ap (λ (p : ℕ). codes.Ended p 0 0) e)
  no_codes (x ∷ t) n s =
      let e : first ≡ first + 517 * 0 = omega arith in
      let l = size_of file spans stop tail first x t s in
      let c = code_at file spans stop tail first x t s in
      coded [] (x ∷ t) tt s (sym (codes_other v file spans stop first (omega arith) (λ q. n (sym c ∙ q))) ∙ ap (λ (p : ℕ). codes.Ended p 0 0) e)

  all_codes : (bs : List Block) (t : List Ev) → GoodCodes v bs → Not 0x10 t → Stands file spans stop tail first (codes_events bs ++ t) → Coded v file spans first stop tail bs t
  unfolding codes_events
  all_codes [] t h n s = no_codes t n s
  all_codes (b ∷ bs) t h n s = some_codes b bs t h s

-- the blocks that were found, and the answer
pub record Found (v : Version) (file spans : List ℕ) (first stop : ℕ) (tail : List ℕ) (es t : List Ev) : Type 0 where
  pub blocks : List Block
  pub good : GoodCodes v blocks
  pub events_are : es ≡ codes_events blocks ++ t
  pub told : Coded v file spans first stop tail blocks t

module _ (v : Version) (file spans : List ℕ) (stop : ℕ) (tail : List ℕ) (first : ℕ) where
  none_found : (es : List Ev) → Stands file spans stop tail first es → codes_rest v es ≡ none → codes_at v file spans first stop ≡ codes.Wrong
  unfolding codes_rest
  none_found [] s q = absurd (none-ne-some [] (sym q))
  none_found (e ∷ es) s q = go (eqb e.code (code_of MessageSplitter)) refl q
    where
      go : (c : Bool) → eqb e.code (code_of MessageSplitter) ≡ c → cond c (blocks_rest v (e ∷ es)) (some (e ∷ es)) ≡ none → codes_at v file spans first stop ≡ codes.Wrong
      go true c q =
          sym (codes_some v file spans stop first (omega (arith, size_of file spans stop tail first e es s)) (code_at file spans stop tail first e es s ∙ eqb-true e.code 0x10 c))
          ∙ blocks_wrong v file spans stop tail (e ∷ es) (suc stop) first 0 s q
      go false c q = absurd (none-ne-some (e ∷ es) (sym q))

  nothing : (es t : List Ev) → Stands file spans stop tail first es → Not 0x10 es → es ≡ t → Found v file spans first stop tail es t
  unfolding GoodCodes codes_events
  nothing es t s n e = record { blocks = []; good = tt; events_are = e; told = subst (λ (l : List Ev). Coded v file spans first stop tail [] l) e (no_codes v file spans stop tail first es n s) }

  all_found : (es t : List Ev) → Each (λ e. Each Byte e.payload) es → Stands file spans stop tail first es → codes_rest v es ≡ some t → Found v file spans first stop tail es t
  unfolding codes_rest
  all_found [] t b s q = nothing [] t s (λ e. omega arith) (some-injective [] t q)
  all_found (e ∷ es) t b s q = go (eqb e.code (code_of MessageSplitter)) refl q
    where
      go : (c : Bool) → eqb e.code (code_of MessageSplitter) ≡ c → cond c (blocks_rest v (e ∷ es)) (some (e ∷ es)) ≡ some t → Found v file spans first stop tail (e ∷ es) t
      go true c q =
          let h = blocks_found v (e ∷ es) t b q in
          record {
            blocks = h.one ∷ h.others;
            good = h.good;
            events_are = h.events_are;
            told = some_codes v file spans stop tail first h.one h.others t h.good (subst (λ (l : List Ev). Stands file spans stop tail first l) h.events_are s);
          }
      go false c q = nothing (e ∷ es) t s (eqb-false e.code 0x10 c) (some-injective (e ∷ es) t q)

module _ (v : Version) (file spans : List ℕ) (stop : ℕ) (tail : List ℕ) (es : List Ev) (first : ℕ) (long : stop ≡ first + length (events_bytes es))
    (here : drop first file ≡ events_bytes es ++ tail) (spanned : Each (Spanned spans) es) where
  stands : Stands file spans stop tail first es
  stands = record { long = long; here = here; spanned = spanned }

  -- of blocks that are given
  pub codes_of_lem : (bs : List Block) (t : List Ev) → GoodCodes v bs → Not 0x10 t → es ≡ codes_events bs ++ t → Coded v file spans first stop tail bs t
  codes_of_lem bs t h n q = all_codes v file spans stop tail first bs t h n (subst (λ (l : List Ev). Stands file spans stop tail first l) q stands)

  -- where the tests find none
  pub codes_wrong_lem : codes_rest v es ≡ none → codes_at v file spans first stop ≡ codes.Wrong
  codes_wrong_lem q = none_found v file spans stop tail first es stands q

  module _ (bytes : Each (λ e. Each Byte e.payload) es) where
    -- where they find some, or that there are none
    pub codes_found : (t : List Ev) → codes_rest v es ≡ some t → Found v file spans first stop tail es t
    codes_found t q = all_found v file spans stop tail first es t bytes stands q

    pub codes_exactly : (codes_at v file spans first stop ≡ codes.Wrong) ↔ (codes_rest v es ≡ none)
    codes_exactly = (λ q. go (codes_rest v es) refl q, codes_wrong_lem)
      where
        go : (x : Option (List Ev)) → codes_rest v es ≡ x → codes_at v file spans first stop ≡ codes.Wrong → x ≡ none
        go none e q = refl
        go (some t) e q = let a = (codes_found t e).told.answer_is in let z : ◌≡◌ {A = ℕ} 0 1 = cc in absurd (omega arith)

-- ---- bytes that are alike

module _ (file : List ℕ) where
  first_byte : (a x : ℕ) (xs : List ℕ) → drop a file ≡ x ∷ xs → get_or file a 0 ≡ x
  first_byte a x xs d = ap (λ (n : ℕ). get_or file n 0) (sym (add-zero a)) ∙ sym (get_or-drop a file 0 0) ∙ ap (λ (l : List ℕ). get_or l 0 0) d

  rest_bytes_lem : (a x : ℕ) (xs : List ℕ) → drop a file ≡ x ∷ xs → drop (a + 1) file ≡ xs
  rest_bytes_lem a x xs d = sym (drop-drop 1 a file) ∙ ap (drop 1) d

  run_same : (p : List ℕ) (n a b : ℕ) (x y : List ℕ) → length p ≡ n → drop a file ≡ p ++ x → drop b file ≡ p ++ y → same_run file a b n ≡ true
  unfolding same_run
  run_same [] zero a b x y l d e = refl
  run_same [] (suc n) a b x y l d e = absurd (omega arith)
  run_same (c ∷ p) zero a b x y l d e = absurd (omega arith)
  run_same (c ∷ p) (suc n) a b x y l d e =
      rw (eq-eqb (get_or file a 0) (get_or file b 0) (first_byte a c (p ++ x) d ∙ sym (first_byte b c (p ++ y) e)))
      (run_same p n (a + 1) (b + 1) x y (omega arith) (rest_bytes_lem a c (p ++ x) d) (rest_bytes_lem b c (p ++ y) e))

  same_run_lem : (p q : List ℕ) (n a b : ℕ) (x y : List ℕ) → length p ≡ n → length q ≡ n → drop a file ≡ p ++ x → drop b file ≡ q ++ y → same_run file a b n ≡ true → p ≡ q
  unfolding same_run
  same_run_lem [] [] n a b x y l m d e s = refl
  same_run_lem [] (f ∷ q) n a b x y l m d e s = absurd (omega arith)
  same_run_lem (c ∷ p) [] n a b x y l m d e s = absurd (omega arith)
  same_run_lem (c ∷ p) (f ∷ q) zero a b x y l m d e s = absurd (omega arith)
  same_run_lem (c ∷ p) (f ∷ q) (suc n) a b x y l m d e s =
      let (h, r) = both (eqb (get_or file a 0) (get_or file b 0)) (same_run file (a + 1) (b + 1) n) s in
      let one = sym (first_byte a c (p ++ x) d) ∙ eqb-true (get_or file a 0) (get_or file b 0) h ∙ first_byte b f (q ++ y) e in
      let others = same_run_lem p q n (a + 1) (b + 1) x y (omega arith) (omega arith) (rest_bytes_lem a c (p ++ x) d) (rest_bytes_lem b f (q ++ y) e) r in
      λ i. one i ∷ others i

-- ---- ends

-- two at most, of the version's size, alike, and from 2.0 with initiators that they may name
pub record GoodEnds (v : Version) (payloads : List (List ℕ)) : Type 0 where
  pub few : length payloads ≤ 2
  pub sized : Each (λ bytes. length bytes ≡ end_size v) payloads
  pub alike : Alike payloads
  pub initiators : has_initiator v ≡ true → Each (λ bytes. initiator_wrong (get_or bytes 1 0) ≡ false) payloads

abbrev is_right : Version → Ev → Bool
is_right v e = is_end v e && not (has_initiator v && initiator_wrong (get_or e.payload 1 0))

-- a right end, by its tests
right_is : (v : Version) (e : Ev) → is_right v e ≡ true
    → (e ≡ end_event e.payload) × (length e.payload ≡ end_size v) × (has_initiator v ≡ true → initiator_wrong (get_or e.payload 1 0) ≡ false)
unfolding is_end
right_is v e q =
    let (m, n) = both (eqb e.code (code_of GameEnd) && eqb (length e.payload) (end_size v)) (not (has_initiator v && initiator_wrong (get_or e.payload 1 0))) q in
    let (a, b) = both (eqb e.code (code_of GameEnd)) (eqb (length e.payload) (end_size v)) m in
    let c = eqb-true e.code (code_of GameEnd) a in
    (λ i. record { code = c i; payload = e.payload }, eqb-true (length e.payload) (end_size v) b, λ h. go (has_initiator v) (initiator_wrong (get_or e.payload 1 0)) h n)
  where
    go : (s w : Bool) → s ≡ true → not (s && w) ≡ true → w ≡ false
    go true true h n = no_way n
    go true false h n = refl
    go false w h n = no_way h

is_right_lem : (v : Version) (p : List ℕ) → length p ≡ end_size v → (has_initiator v ≡ true → initiator_wrong (get_or p 1 0) ≡ false) → is_right v (end_event p) ≡ true
unfolding is_end
is_right_lem v p n h = rw (eq-eqb (length p) (end_size v) n) (go (has_initiator v) refl)
  where
    go : (s : Bool) → has_initiator v ≡ s → not (s && initiator_wrong (get_or p 1 0)) ≡ true
    go true x = rw (h x)
    go false x = refl

module _ (v : Version) (file spans : List ℕ) (stop : ℕ) (tail : List ℕ) (first : ℕ) where
  module _ (e : Ev) (es : List Ev) (s : Stands file spans stop tail first (e ∷ es)) where
    not_all : first ≡ stop → ⊥
    not_all q = omega (arith, size_of file spans stop tail first e es s, q)

    right_here : is_right v e ≡ right_at v file spans stop first
    right_here = sym (right_at_lem file spans stop tail first e es s v)

    one_wrong : is_right v e ≡ false → ends_at v file spans first stop ≡ ends.Wrong
    one_wrong q = sym (ends_wrong v file spans first stop not_all (is_right v e) right_here q)

    behind : is_right v e ≡ true → Stands file spans stop tail (first + (1 + end_size v)) es
    behind r =
        let q : first + suc (length e.payload) ≡ first + (1 + end_size v) = omega (arith, (right_is v e r).1) in
        subst (λ (p : ℕ). Stands file spans stop tail p es) q (next_stands file spans stop tail first e es s)

  one_right : (e : Ev) → Stands file spans stop tail first (e ∷ []) → is_right v e ≡ true → ends_at v file spans first stop ≡ ends.Good 1
  unfolding events_bytes
  one_right e s r =
      let q : first + (1 + end_size v) ≡ stop = omega (arith, (behind e [] s r).long) in
      sym (ends_one v file spans first stop (not_all e [] s) (is_right v e) (right_here e [] s) r (end_size v) refl q)

  module _ (e f : Ev) (es : List Ev) (s : Stands file spans stop tail first (e ∷ f ∷ es)) (r : is_right v e ≡ true) where
    abbrev next : ℕ
    next = first + (1 + end_size v)

    second_stands : Stands file spans stop tail next (f ∷ es)
    second_stands = behind e (f ∷ es) s r

    more_left : next ≡ stop → ⊥
    more_left q = omega (arith, size_of file spans stop tail next f es second_stands, q)

    by_second : (b : Bool) → b ≡ second_at v file spans stop first next → ends_at v file spans first stop ≡ cond b (ends.Good 2) ends.Wrong
    by_second true x = sym (ends_two v file spans first stop (not_all e (f ∷ es) s) (is_right v e) (right_here e (f ∷ es) s) r (end_size v) refl more_left true x refl)
    by_second false x = sym (ends_unlike v file spans first stop (not_all e (f ∷ es) s) (is_right v e) (right_here e (f ∷ es) s) r (end_size v) refl more_left false x refl)

    right_there : right_at v file spans stop next ≡ is_right v f
    right_there = right_at_lem file spans stop tail next f es second_stands v

    second_wrong : is_right v f ≡ false → ends_at v file spans first stop ≡ ends.Wrong
    unfolding second_at
    second_wrong k = by_second false (rw (right_there ∙ k))

    ends_at_lem : is_right v f ≡ true → stop ≡ next + (1 + end_size v) + length (events_bytes es)
    ends_at_lem k = omega (arith, size_of file spans stop tail next f es second_stands, (right_is v f k).1)

  two_right : (e f : Ev) (s : Stands file spans stop tail first (e ∷ f ∷ [])) (r : is_right v e ≡ true) → is_right v f ≡ true → (b : Bool)
      → same_run file (first + 1) (first + (1 + end_size v) + 1) (end_size v) ≡ b → ends_at v file spans first stop ≡ cond b (ends.Good 2) ends.Wrong
  unfolding second_at events_bytes
  two_right e f s r k b m =
      by_second e f [] s r b
      (rw (right_there e f [] s r ∙ k, eq-eqb (first + (1 + end_size v) + (1 + end_size v)) stop (omega (arith, ends_at_lem e f [] s r k)), m))

  three : (e f g : Ev) (es : List Ev) (s : Stands file spans stop tail first (e ∷ f ∷ g ∷ es)) (r : is_right v e ≡ true) → is_right v f ≡ true
      → ends_at v file spans first stop ≡ ends.Wrong
  unfolding second_at events_bytes
  three e f g es s r k =
      let n = length-append (event_bytes g) (events_bytes es) in
      by_second e f (g ∷ es) s r false
      (rw (right_there e f (g ∷ es) s r ∙ k, ne_eqb (first + (1 + end_size v) + (1 + end_size v)) stop (λ q. omega (arith, ends_at_lem e f (g ∷ es) s r k, q, n))))

-- the ends are good, or the answer is that they are wrong
data Judged (v : Version) (es : List Ev) (r : Ends) : Type 0 where
  good_ends : (payloads : List (List ℕ)) → GoodEnds v payloads → es ≡ map end_event payloads → r ≡ ends.Good (length payloads) → Judged v es r
  bad_ends : r ≡ ends.Wrong → Judged v es r

module _ (v : Version) (file spans : List ℕ) (stop : ℕ) (tail : List ℕ) (first : ℕ) where
  one_end : (e : Ev) → Stands file spans stop tail first (e ∷ []) → is_right v e ≡ true → Judged v (e ∷ []) (ends_at v file spans first stop)
  unfolding Each Alike
  one_end e s r =
      let (x, n, h) = right_is v e r in
      good_ends (e.payload ∷ []) (record { few = omega arith; sized = (n, tt); alike = tt; initiators = λ t. (h t, tt) }) (λ i. x i ∷ []) (one_right v file spans stop tail first e s r)

  two_ends : (e f : Ev) → Stands file spans stop tail first (e ∷ f ∷ []) → is_right v e ≡ true → is_right v f ≡ true
      → same_run file (first + 1) (first + (1 + end_size v) + 1) (end_size v) ≡ true → Judged v (e ∷ f ∷ []) (ends_at v file spans first stop)
  unfolding Each Alike
  two_ends e f s r k m =
      let (x, n, h) = right_is v e r in
      let (y, l, j) = right_is v f k in
      let second = behind v file spans stop tail first e (f ∷ []) s r in
      let same = same_run_lem file e.payload f.payload (end_size v) (first + 1) (first + (1 + end_size v) + 1) _ _ n l
      (payload_at_lem file spans stop tail first e (f ∷ []) s) (payload_at_lem file spans stop tail (first + (1 + end_size v)) f [] second) m in
      good_ends (e.payload ∷ f.payload ∷ [])
      (record { few = omega arith; sized = (n, (l, tt)); alike = (same, tt); initiators = λ t. (h t, (j t, tt)) })
      (λ i. x i ∷ y i ∷ [])
      (two_right v file spans stop tail first e f s r k true m)

  judged : (es : List Ev) → Stands file spans stop tail first es → Judged v es (ends_at v file spans first stop)
  unfolding Each Alike events_bytes
  judged [] s =
      good_ends [] (record { few = omega arith; sized = tt; alike = tt; initiators = λ t. tt }) refl (sym (ends_none v file spans first stop (omega (arith, s.long))))
  judged (e ∷ []) s = go (is_right v e) refl
    where
      go : (a : Bool) → is_right v e ≡ a → Judged v (e ∷ []) (ends_at v file spans first stop)
      go true r = one_end e s r
      go false r = bad_ends (one_wrong v file spans stop tail first e [] s r)
  judged (e ∷ f ∷ []) s = go (is_right v e) refl (is_right v f) refl (same_run file (first + 1) (first + (1 + end_size v) + 1) (end_size v)) refl
    where
      go : (a : Bool) → is_right v e ≡ a → (b : Bool) → is_right v f ≡ b → (c : Bool) → same_run file (first + 1) (first + (1 + end_size v) + 1) (end_size v) ≡ c
          → Judged v (e ∷ f ∷ []) (ends_at v file spans first stop)
      go true r true k true m = two_ends e f s r k m
      go true r true k false m = bad_ends (two_right v file spans stop tail first e f s r k false m)
      go true r false k c m = bad_ends (second_wrong v file spans stop tail first e f [] s r k)
      go false r b k c m = bad_ends (one_wrong v file spans stop tail first e (f ∷ []) s r)
  judged (e ∷ f ∷ g ∷ es) s = go (is_right v e) refl (is_right v f) refl
    where
      go : (a : Bool) → is_right v e ≡ a → (b : Bool) → is_right v f ≡ b → Judged v (e ∷ f ∷ g ∷ es) (ends_at v file spans first stop)
      go true r true k = bad_ends (three v file spans stop tail first e f g es s r k)
      go true r false k = bad_ends (second_wrong v file spans stop tail first e f (g ∷ es) s r k)
      go false r b k = bad_ends (one_wrong v file spans stop tail first e (f ∷ g ∷ es) s r)

  told_good : (payloads : List (List ℕ)) → GoodEnds v payloads → Stands file spans stop tail first (map end_event payloads) → ends_at v file spans first stop ≡ ends.Good (length payloads)
  unfolding Each Alike events_bytes
  told_good [] h s = sym (ends_none v file spans first stop (omega (arith, s.long)))
  told_good (p ∷ []) h s = one_right v file spans stop tail first (end_event p) s (is_right_lem v p h.sized.0 (λ t. (h.initiators t).0))
  told_good (p ∷ q ∷ []) h s =
      let r = is_right_lem v p h.sized.0 (λ t. (h.initiators t).0) in
      let k = is_right_lem v q h.sized.1.0 (λ t. (h.initiators t).1.0) in
      let second = behind v file spans stop tail first (end_event p) (end_event q ∷ []) s r in
      let there = payload_at_lem file spans stop tail (first + (1 + end_size v)) (end_event q) [] second in
      let like = there ∙ ap (λ (l : List ℕ). l ++ (events_bytes [] ++ tail)) (sym h.alike.0) in
      two_right v file spans stop tail first (end_event p) (end_event q) s r k true
      (run_same file p (end_size v) (first + 1) (first + (1 + end_size v) + 1) _ _ h.sized.0 (payload_at_lem file spans stop tail first (end_event p) (end_event q ∷ []) s) like)
  told_good (p ∷ q ∷ x ∷ payloads) h s = absurd (omega (arith, h.few))

-- what is found where the answer is a number of ends
pub record Ended (v : Version) (es : List Ev) (count : ℕ) : Type 0 where
  pub payloads : List (List ℕ)
  pub good : GoodEnds v payloads
  pub events_are : es ≡ map end_event payloads
  pub count_is : count ≡ length payloads

payloads_of_lem : (xs : List (List ℕ)) → map (λ (e : Ev). e.payload) (map end_event xs) ≡ xs
payloads_of_lem [] = refl
payloads_of_lem (x ∷ xs) = ap (λ (l : List (List ℕ)). x ∷ l) (payloads_of_lem xs)

pub good_are : (v : Version) (payloads : List (List ℕ)) → GoodEnds v payloads → are_ends v (map end_event payloads) ≡ true
unfolding Each are_ends is_end
good_are v [] h = refl
good_are v (p ∷ []) h = rw (eq-eqb (length p) (end_size v) h.sized.0)
good_are v (p ∷ q ∷ []) h = rw (eq-eqb (length p) (end_size v) h.sized.0, eq-eqb (length q) (end_size v) h.sized.1.0)
good_are v (p ∷ q ∷ x ∷ payloads) h = absurd (omega (arith, h.few))

module _ (v : Version) (file spans : List ℕ) (stop : ℕ) (tail : List ℕ) (es : List Ev) (first : ℕ) (long : stop ≡ first + length (events_bytes es))
    (here : drop first file ≡ events_bytes es ++ tail) (spanned : Each (Spanned spans) es) where
  -- good ends are answered with their number
  pub ends_of_lem : (payloads : List (List ℕ)) → GoodEnds v payloads → es ≡ map end_event payloads → ends_at v file spans first stop ≡ ends.Good (length payloads)
  ends_of_lem payloads h q =
      told_good v file spans stop tail first payloads h (subst (λ (l : List Ev). Stands file spans stop tail first l) q (record { long = long; here = here; spanned = spanned }))

  the_judgement : Judged v es (ends_at v file spans first stop)
  the_judgement = judged v file spans stop tail first es (record { long = long; here = here; spanned = spanned })

  -- where a number is answered, there are that many good ends
  pub ends_found : (count : ℕ) → ends_at v file spans first stop ≡ ends.Good count → Ended v es count
  ends_found count q = go the_judgement
    where
      go : Judged v es (ends_at v file spans first stop) → Ended v es count
      go (good_ends payloads h x y) = let n : count ≡ length payloads = cc in record { payloads = payloads; good = h; events_are = x; count_is = n }
      go (bad_ends y) = let z : ◌≡◌ {A = ℕ} 0 1 = cc in absurd (omega arith)

  -- of given ends: they are good exactly where their number is answered
  pub ends_exactly : (payloads : List (List ℕ)) → es ≡ map end_event payloads → (ends_at v file spans first stop ≡ ends.Good (length payloads)) ↔ GoodEnds v payloads
  ends_exactly payloads q = (λ a. go (ends_found (length payloads) a), λ h. ends_of_lem payloads h q)
    where
      go : Ended v es (length payloads) → GoodEnds v payloads
      go f =
          let same = sym (payloads_of_lem f.payloads) ∙ ap (map (λ (e : Ev). e.payload)) (sym f.events_are ∙ q) ∙ payloads_of_lem payloads in
          subst (λ (l : List (List ℕ)). GoodEnds v l) same f.good

  -- and wrong exactly where the events are none of good ends
  pub ends_bad : (ends_at v file spans first stop ≡ ends.Wrong) ↔ ((payloads : List (List ℕ)) → GoodEnds v payloads → es ≡ map end_event payloads → ⊥)
  ends_bad = (λ a payloads h q. clash payloads a (ends_of_lem payloads h q), λ n. go n the_judgement)
    where
      clash : (payloads : List (List ℕ)) → ends_at v file spans first stop ≡ ends.Wrong → ends_at v file spans first stop ≡ ends.Good (length payloads) → ⊥
      clash payloads a b = let z : ◌≡◌ {A = ℕ} 0 1 = cc in omega arith

      go : ((payloads : List (List ℕ)) → GoodEnds v payloads → es ≡ map end_event payloads → ⊥) → Judged v es (ends_at v file spans first stop) → ends_at v file spans first stop ≡ ends.Wrong
      go n (good_ends payloads h x y) = absurd (n payloads h x)
      go n (bad_ends y) = y
