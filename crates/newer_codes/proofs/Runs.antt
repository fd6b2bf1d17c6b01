-- Blocks of codes one after another, with unknown events between them.
-- Assumes nothing.
use Prim.Native.Nat.{ℕ, zero, suc, ◌+◌, ◌*◌, ◌<◌}
use mathlib.Core.Path.{◌≡◌, refl, sym, ap, subst, ◌∙◌}
use mathlib.Core.Bool.{Bool, true, false, cond, ◌&&◌}
use mathlib.Core.List.{List, [], ◌∷◌, ◌++◌, append_assoc, append_cancel_right}
use mathlib.Core.Option.{none, some}
use native.Mathlib.Omega.{arith}
use borrow.Author.Tests.{eq-eqb, ne_eqb, ltb-true, eqb-true}
use lib.Dec.{ltb, leb, eqb}
use lib.ListN.{length, get_or, take, length-append}
use Rattle.wire.specs.Wire.{keep}
use Rattle.format.specs.File.{Ev, events_bytes}
use Rattle.format.specs.declared.version.Version.{Version}
use Rattle.format.proofs.Versions.{no_way}
use Rattle.grammar.specs.Productions.{Block, codes_events, used_in}
use Rattle.grammar.specs.WellFormed.{Each, GoodCodes}
use Rattle.grammar.specs.Whole.{is_block, used_by, blocks_rest, codes_rest}
use Rattle.grammar.proofs.Tests.{both}
use Rattle.grammar.proofs.Exactly.{Byte}
use Rattle.grammar.proofs.Blocks.{block_used, blocks_found}
use Rattle.read_outline.specs.Inner.{used_at, flag_at}
use Rattle.read_outline.specs.declared.answer.Codes.{Codes}
use Rattle.read_outline.specs.declared.answer.Codes.TheVariants as codes
use Rattle.read_judge.specs.Inner.{Covers}
use Rattle.known.specs.Known.{is_newer, is_known, known_size, front, known_of}
use Rattle.known.proofs.Codes.{known_one, known_both}
use Rattle.newer_codes.specs.Places.{Laid, FirstKnown, Passed}
use Rattle.newer_codes.specs.Codes.{block_span, block_at, full_at, last_at, last_block, CodesEnded, CodesRead}
use Rattle.newer_events.proofs.Events.{length_next, next_covers, code_stands, length_both}
use Rattle.newer_codes.proofs.Places.{span_is, rest_covers, laid_next, passed_known}
use Rattle.newer_codes.proofs.Tests.{splitter_known, block_code, full_here, last_here, used_here, rest_full, rest_last, rest_none}

-- ---- how many bytes events say are codes

unfoldable pub used_of : List Ev → ℕ
used_of [] = 0
used_of (e ∷ es) = used_by e + used_of es

used_both : (xs ys : List Ev) → used_of (xs ++ ys) ≡ used_of xs + used_of ys
unfolding used_of
used_both [] ys = omega arith
used_both (x ∷ xs) ys = omega (arith, used_both xs ys)

used_codes : (v : Version) (bs : List Block) → GoodCodes v bs → used_of (codes_events bs) ≡ used_in bs
unfolding used_of used_in codes_events GoodCodes
used_codes v [] h = refl
used_codes v (b ∷ []) h = omega (arith, block_used 1 b h.1 h.3)
used_codes v (b ∷ c ∷ bs) h = omega (arith, block_used 0 b h.0 (omega (arith, h.1)), used_codes v (c ∷ bs) h.2)

length_codes : (bs : List Block) → length (codes_events bs) ≡ length bs
unfolding codes_events
length_codes [] = refl
length_codes (b ∷ []) = refl
length_codes (b ∷ c ∷ bs) = ap suc (length_codes (c ∷ bs))

-- ---- known events are of bytes

each_take : (n : ℕ) (xs : List ℕ) → Each Byte xs → Each Byte (take n xs)
unfolding Each
each_take zero xs h = tt
each_take (suc n) [] h = tt
each_take (suc n) (x ∷ xs) h = (h.0, each_take n xs h.1)

pub known_bytes : (v : Version) (raw : List Ev) → Each (λ e. Each Byte e.payload) raw → Each (λ e. Each Byte e.payload) (known_of v raw)
unfolding known_of Each keep
known_bytes v [] h = tt
known_bytes v (e ∷ es) h = go (is_known e.code) (known_bytes v es h.1)
  where
    go : (b : Bool) → Each (λ (e : Ev). Each Byte e.payload) (known_of v es) → Each (λ (e : Ev). Each Byte e.payload) (keep b (front v e ∷ []) ++ known_of v es)
    go true k = (each_take (known_size v e) e.payload h.0, k)
    go false k = k

-- ---- one known event more

module _ (v : Version) (before : List Ev) (e : Ev) (odd : List Ev) (k : is_known e.code ≡ true) (none_known : known_of v odd ≡ []) where
  pub known_more : known_of v (before ++ (e ∷ odd)) ≡ known_of v before ++ (front v e ∷ [])
  known_more = known_both v before (e ∷ odd) ∙ ap (λ (l : List Ev). known_of v before ++ l) (known_one v e odd k ∙ ap (λ (l : List Ev). front v e ∷ l) none_known)

pub bytes_more : (before : List Ev) (e : Ev) (odd : List Ev)
    → length (events_bytes (before ++ (e ∷ odd))) ≡ length (events_bytes before) + (suc (length e.payload) + length (events_bytes odd))
unfolding events_bytes
bytes_more before e odd = omega (arith, length_both before (e ∷ odd), length_next e odd)

-- ---- the loop over full blocks: the answer is that of what is left

pub record Going (v : Version) (first : ℕ) (raw : List Ev) (at n : ℕ) : Type 0 where
  pub before : List Ev
  pub after : List Ev
  pub parted : raw ≡ before ++ after
  pub at_is : at ≡ first + length (events_bytes before)
  pub next : FirstKnown after
  pub count : length (known_of v before) ≡ n
  pub used : used_of (known_of v before) ≡ 512 * n
  pub same : blocks_rest v (known_of v raw) ≡ blocks_rest v (known_of v after)

full_some : (file spans : List ℕ) (stop at : ℕ) → full_at file spans stop at ≡ true → at < stop
unfolding full_at block_at
full_some file spans stop at q =
    let b = (both (block_at file spans stop at) (eqb (flag_at file at) 0 && eqb (used_at file at) 512) q).0 in
    ltb-true at stop (both (ltb at stop) (eqb (get_or file at 0) 0x10 && (leb 517 (block_span spans) && eqb (get_or file (at + 515) 0) 0x3D)) b).0

-- the next place is one among the events too
pub full_next : (file spans : List ℕ) (stop at : ℕ) → Laid file spans at stop → (b : Bool) → b ≡ full_at file spans stop at → b ≡ true → (span : ℕ) → span ≡ block_span spans → Laid file spans (at + span) stop
unfolding full_at block_at
full_next file spans stop at laid b b-is t span Span-of =
    let block = (both (block_at file spans stop at) (eqb (flag_at file at) 0 && eqb (used_at file at) 512) (sym b-is ∙ t)).0 in
    let (under, e) = both (ltb at stop) (eqb (get_or file at 0) 0x10 && (leb 517 (block_span spans) && eqb (get_or file (at + 515) 0) 0x3D)) block in
    let code = eqb-true (get_or file at 0) 0x10 (both (eqb (get_or file at 0) 0x10) (leb 517 (block_span spans) && eqb (get_or file (at + 515) 0) 0x3D) e).0 in
    laid_next file spans stop at laid (ltb-true at stop under) span (Span-of ∙ ap (λ (n : ℕ). get_or spans n 0) (sym code))

last_some : (file spans : List ℕ) (stop at : ℕ) → last_at file spans stop at ≡ true → at < stop
unfolding last_at block_at
last_some file spans stop at q =
    let b = (both (block_at file spans stop at) (eqb (flag_at file at) 1 && (ltb 0 (used_at file at) && leb (used_at file at) 512)) q).0 in
    ltb-true at stop (both (ltb at stop) (eqb (get_or file at 0) 0x10 && (leb 517 (block_span spans) && eqb (get_or file (at + 515) 0) 0x3D)) b).0

module _ (v : Version) (new : is_newer v ≡ true) (file spans : List ℕ) (stop first : ℕ) (raw : List Ev) (c : Covers file spans first stop raw) where
  -- a first block
  module _ (l : first < stop) (code : get_or file first 0 ≡ 0x10) where
    pub codes_first : codes_rest v (known_of v raw) ≡ blocks_rest v (known_of v raw)
    unfolding codes_rest events_bytes
    codes_first = go raw c
      where
        go : (raw : List Ev) → Covers file spans first stop raw → codes_rest v (known_of v raw) ≡ blocks_rest v (known_of v raw)
        go [] c = absurd (omega (arith, c.long))
        go (e ∷ es) c =
            let k = sym (code_stands file spans first stop e es c) ∙ code in
            rw (known_one v e es (ap is_known k ∙ splitter_known), eq-eqb e.code 0x10 k)

    pub go_first : Going v first raw first 0
    unfolding events_bytes known_of used_of
    go_first = record { before = []; after = raw; parted = refl; at_is = omega arith; next = go raw c; count = refl; used = refl; same = refl }
      where
        go : (raw : List Ev) → Covers file spans first stop raw → FirstKnown raw
        go [] c = tt
        go (e ∷ es) c = ap is_known (sym (code_stands file spans first stop e es c) ∙ code) ∙ splitter_known

  module _ (at n : ℕ) where
    -- a full one
    go_full : (before after : List Ev) → raw ≡ before ++ after → at ≡ first + length (events_bytes before) → FirstKnown after → length (known_of v before) ≡ n → used_of (known_of v before) ≡ 512 * n
        → blocks_rest v (known_of v raw) ≡ blocks_rest v (known_of v after) → full_at file spans stop at ≡ true → (span : ℕ) → span ≡ block_span spans → (place : ℕ)
        → ((es : List Ev) → Covers file spans (at + span) stop es → Passed (at + span) es place) → Going v first raw place (n + 1)
    unfolding events_bytes used_of
    go_full before [] q p k m u s f span Span-of place passed =
        let d = rest_covers file spans stop first raw before [] at c q p in
        let l = full_some file spans stop at f in
        absurd (omega (arith, d.long, l))
    go_full before (e ∷ es) q p k m u s f span Span-of place passed = go (is_block (front v e)) refl
      where
        d : Covers file spans at stop (e ∷ es)
        d = rest_covers file spans stop first raw before (e ∷ es) at c q p

        go : (b : Bool) → is_block (front v e) ≡ b → Going v first raw place (n + 1)
        go false x = no_way (sym (full_here v file spans stop at e es d false x) ∙ f)
        go true x =
            let full = sym (full_here v file spans stop at e es d true x) ∙ f in
            let (rest_eq, all-used) = rest_full v (front v e) (known_of v es) x full in
            let size : span ≡ suc (length e.payload) = Span-of ∙ ap (λ (n : ℕ). get_or spans n 0) (sym (block_code v file spans stop at e es d x)) ∙ span_is file spans at stop e es d in
            let z : at + suc (length e.payload) ≡ at + span = omega (arith, size) in
            let w = passed es (subst (λ (p : ℕ). Covers file spans p stop es) z (next_covers file spans at stop e es d)) in
            let more = known_more v before e w.odd k (w.unknown v) in
            record {
              before = before ++ (e ∷ w.odd);
              after = w.rest;
              parted = q ∙ ap (λ (l : List Ev). before ++ (e ∷ l)) w.parted ∙ sym (append_assoc before (e ∷ w.odd) w.rest);
              at_is = omega (arith, w.place_is, p, size, bytes_more before e w.odd);
              next = w.next;
              count = ap length more ∙ length-append (known_of v before) (front v e ∷ []) ∙ omega (arith, m);
              used = ap used_of more ∙ used_both (known_of v before) (front v e ∷ []) ∙ omega (arith, u, all-used);
              same = s ∙ ap (blocks_rest v) (known_one v e es k) ∙ rest_eq ∙ ap (blocks_rest v) (passed_known v (at + span) es place w);
            }

    pub go_next : Going v first raw at n → (b : Bool) → b ≡ full_at file spans stop at → b ≡ true → (span : ℕ) → span ≡ block_span spans → (place : ℕ)
        → ((es : List Ev) → Covers file spans (at + span) stop es → Passed (at + span) es place) → Going v first raw place (n + 1)
    go_next g b b-is t span Span-of place passed =
        go_full g.before g.after g.parted g.at_is g.next g.count g.used g.same (sym b-is ∙ t) span Span-of place passed

    -- the last one
    go_last : (before after : List Ev) → raw ≡ before ++ after → at ≡ first + length (events_bytes before) → FirstKnown after → length (known_of v before) ≡ n → used_of (known_of v before) ≡ 512 * n
        → blocks_rest v (known_of v raw) ≡ blocks_rest v (known_of v after) → codes_rest v (known_of v raw) ≡ blocks_rest v (known_of v raw) → last_at file spans stop at ≡ true
        → CodesEnded v first raw (at + block_span spans) (n + 1) (512 * n + used_at file at)
    unfolding events_bytes used_of known_of
    go_last before [] q p k m u s r f =
        let d = rest_covers file spans stop first raw before [] at c q p in
        let l = last_some file spans stop at f in
        absurd (omega (arith, d.long, l))
    go_last before (e ∷ es) q p k m u s r f = go (is_block (front v e)) refl
      where
        d : Covers file spans at stop (e ∷ es)
        d = rest_covers file spans stop first raw before (e ∷ es) at c q p

        go : (b : Bool) → is_block (front v e) ≡ b → CodesEnded v first raw (at + block_span spans) (n + 1) (512 * n + used_at file at)
        go false x = no_way (sym (last_here v file spans stop at e es d new false x) ∙ f)
        go true x =
            let last = sym (last_here v file spans stop at e es d new true x) ∙ f in
            let found = s ∙ ap (blocks_rest v) (known_one v e es k) ∙ rest_last v (front v e) (known_of v es) x last in
            let b = blocks_found v (known_of v raw) (known_of v es) (known_bytes v raw c.bytes) found in
            let size : block_span spans ≡ suc (length e.payload) = ap (λ (n : ℕ). get_or spans n 0) (sym (block_code v file spans stop at e es d x)) ∙ span_is file spans at stop e es d in
            let more = known_more v before e [] k refl in
            let split : known_of v raw ≡ known_of v (before ++ (e ∷ [])) ++ known_of v es = ap (known_of v) (q ∙ sym (append_assoc before (e ∷ []) es)) ∙ known_both v (before ++ (e ∷ [])) es in
            let are = append_cancel_right (known_of v (before ++ (e ∷ []))) (codes_events (b.one ∷ b.others)) (known_of v es) (sym split ∙ b.events_are) in
            let count = sym (length_codes (b.one ∷ b.others)) ∙ ap length (sym are ∙ more) ∙ length-append (known_of v before) (front v e ∷ []) in
            let used = sym (used_codes v (b.one ∷ b.others) b.good) ∙ ap used_of (sym are ∙ more) ∙ used_both (known_of v before) (front v e ∷ []) in
            record {
              before = before ++ (e ∷ []);
              after = es;
              blocks = b.one ∷ b.others;
              parted = q ∙ sym (append_assoc before (e ∷ []) es);
              at_is = omega (arith, p, size, bytes_more before e []);
              known_are = are;
              good = b.good;
              rest_is = r ∙ found;
              count_is = omega (arith, count, m);
              actual_is = omega (arith, used, u, used_here v file spans stop at e es d x);
            }

    go_none : (after : List Ev) → Covers file spans at stop after → FirstKnown after → full_at file spans stop at ≡ false → last_at file spans stop at ≡ false → blocks_rest v (known_of v after) ≡ none
    unfolding blocks_rest known_of
    go_none [] d k f l = refl
    go_none (e ∷ es) d k f l =
        ap (blocks_rest v) (known_one v e es k)
        ∙ rest_none v (front v e) (known_of v es) (is_block (front v e)) refl
        (sym (full_here v file spans stop at e es d (is_block (front v e)) refl) ∙ f)
        (sym (last_here v file spans stop at e es d new (is_block (front v e)) refl) ∙ l)

    answer : Going v first raw at n → codes_rest v (known_of v raw) ≡ blocks_rest v (known_of v raw) → full_at file spans stop at ≡ false → CodesRead v first raw (last_block file spans stop at n)
    unfolding last_block
    answer g r f = go (last_at file spans stop at) refl
      where
        go : (l : Bool) → last_at file spans stop at ≡ l → CodesRead v first raw (cond l (codes.Ended (at + block_span spans) (n + 1) (512 * n + used_at file at)) codes.Wrong)
        go true x = go_last g.before g.after g.parted g.at_is g.next g.count g.used g.same r x
        go false x =
            let d = rest_covers file spans stop first raw g.before g.after at c g.parted g.at_is in
            r ∙ g.same ∙ go_none g.after d g.next f x

    pub go_done : Going v first raw at n → first < stop → get_or file first 0 ≡ 0x10 → (b : Bool) → b ≡ full_at file spans stop at → b ≡ false → (r : Codes) → r ≡ last_block file spans stop at n
        → CodesRead v first raw r
    go_done g l code b b-is t r r_is = subst (λ (r : Codes). CodesRead v first raw r) (sym r_is) (answer g (codes_first l code) (sym b-is ∙ t))

  -- ---- where no block stands first

  module _ (at : ℕ) (x : Passed first raw at) where
    no_block : (rest : List Ev) → Covers file spans at stop rest → FirstKnown rest → (at < stop → get_or file at 0 ≡ 0x10 → ⊥) → codes_rest v (known_of v rest) ≡ some (known_of v rest)
    unfolding codes_rest known_of
    no_block [] d k h = refl
    no_block (e ∷ es) d k h =
        let code = code_stands file spans at stop e es d in
        rw (known_one v e es k, ne_eqb e.code 0x10 (λ q. h (omega (arith, (next_covers file spans at stop e es d).long)) (code ∙ q)))

    pub codes_none : (at < stop → get_or file at 0 ≡ 0x10 → ⊥) → CodesEnded v first raw at 0 0
    unfolding codes_events GoodCodes used_in
    codes_none h =
        let d = rest_covers file spans stop first raw x.odd x.rest at c x.parted x.place_is in
        record {
          before = x.odd;
          after = x.rest;
          blocks = [];
          parted = x.parted;
          at_is = x.place_is;
          known_are = x.unknown v;
          good = tt;
          rest_is = ap (codes_rest v) (passed_known v first raw at x) ∙ no_block x.rest d x.next h;
          count_is = refl;
          actual_is = refl;
        }

    -- ---- and where one does

    pub codes_behind : (r : Codes) → ((es : List Ev) → Covers file spans at stop es → CodesRead v at es r) → CodesRead v first raw r
    codes_behind codes.Wrong h =
        let d = rest_covers file spans stop first raw x.odd x.rest at c x.parted x.place_is in
        ap (codes_rest v) (passed_known v first raw at x) ∙ h x.rest d
    codes_behind (codes.Ended place count actual) h =
        let d = rest_covers file spans stop first raw x.odd x.rest at c x.parted x.place_is in
        let g = h x.rest d in
        record {
          before = x.odd ++ g.before;
          after = g.after;
          blocks = g.blocks;
          parted = x.parted ∙ ap (λ (l : List Ev). x.odd ++ l) g.parted ∙ sym (append_assoc x.odd g.before g.after);
          at_is = omega (arith, x.place_is, g.at_is, length_both x.odd g.before);
          known_are = known_both v x.odd g.before ∙ ap (λ (l : List Ev). l ++ known_of v g.before) (x.unknown v) ∙ g.known_are;
          good = g.good;
          rest_is = ap (codes_rest v) (passed_known v first raw at x) ∙ g.rest_is;
          count_is = g.count_is;
          actual_is = g.actual_is;
        }
