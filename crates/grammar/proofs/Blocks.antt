-- The tests take exactly well-formed blocks of codes.
-- Assumes nothing.
use mathlib.Core.Path.{◌≡◌, refl, sym, ap, ap₂, ◌∙◌}
use mathlib.Core.Bool.{Bool, true, false, cond, ◌&&◌}
use mathlib.Core.List.{List, [], ◌∷◌, ◌++◌}
use mathlib.Core.Option.{none, some, some-injective, none-ne-some}
use Prim.Native.Nat.{ℕ, ◌+◌, ◌/◌, ◌%◌, ◌^◌, ◌≤◌, ◌<◌}
use native.Mathlib.Omega.{arith}
use borrow.Author.Tests.{lt-ltb, le-leb, eq-eqb, ne_eqb, ltb-true, leb-true, eqb-true}
use lib.Dec.{ltb, leb, eqb}
use lib.ListN.{length, get_or, take, drop, length-append, length-drop, take-append-drop}
use lib.Seq.{get_or-drop, take_at, drop_at, length-take-le}
use Rattle.wire.specs.Wire.{be, more, number, part}
use Rattle.wire.proofs.Laws.{length_be, number_be}
use Rattle.format.specs.Event.{code_of}
use Rattle.format.specs.File.{Ev}
use Rattle.format.specs.Version.{gte_of}
use Rattle.format.specs.declared.event.Event.TheVariants.{GeckoCodes, MessageSplitter}
use Rattle.format.specs.declared.version.Version.{Version}
use Rattle.grammar.specs.Productions.{Block, block_event, codes_events}
use Rattle.grammar.specs.WellFormed.{Each, GoodCodes}
use Rattle.grammar.specs.Whole.{is_block, used_by, flag_in, is_last, is_full, blocks_rest, codes_rest}
use Rattle.grammar.proofs.Tests.{both, taken}
use Rattle.grammar.proofs.Each.{each_drop}
use Rattle.grammar.proofs.Lists.{Not}
use Rattle.grammar.proofs.Exactly.{Byte}

-- ---- a block's event, by its tests

module _ (flag : ℕ) (b : Block) (size : length b.bytes ≡ 512) (few : b.used ≤ 512) where
  after_bytes : drop 512 (block_event flag b).payload ≡ be 2 b.used ++ (code_of GeckoCodes ∷ flag ∷ [])
  after_bytes = drop_at b.bytes _ 512 size

  pub block_used : used_by (block_event flag b) ≡ b.used
  unfolding part
  block_used =
      ap (λ (l : List ℕ). number (take 2 l)) after_bytes
      ∙ ap number (take_at (be 2 b.used) (code_of GeckoCodes ∷ flag ∷ []) 2 (length_be 2 b.used))
      ∙ number_be 2 b.used (omega arith)

  byte_behind : (k : ℕ) → get_or (block_event flag b).payload (512 + k) 0 ≡ get_or (be 2 b.used ++ (code_of GeckoCodes ∷ flag ∷ [])) k 0
  byte_behind k = sym (get_or-drop 512 (block_event flag b).payload k 0) ∙ ap (λ (l : List ℕ). get_or l k 0) after_bytes

  pub block_flag : flag_in (block_event flag b) ≡ flag
  unfolding be
  block_flag = byte_behind 3

  pub block_taken : is_block (block_event flag b) ≡ true
  unfolding is_block be
  block_taken =
      let n : length (block_event flag b).payload ≡ 516 = length-append b.bytes _ ∙ omega arith in
      rw (eq-eqb (length (block_event flag b).payload) 516 n, eq-eqb (get_or (block_event flag b).payload 514 0) (code_of GeckoCodes) (byte_behind 2))

-- ---- what is well formed is taken

pub blocks_run : (v : Version) (t : List Ev) (b : Block) (bs : List Block) → GoodCodes v (b ∷ bs) → blocks_rest v (codes_events (b ∷ bs) ++ t) ≡ some t
unfolding GoodCodes codes_events blocks_rest is_last is_full
blocks_run v t b [] h =
    let u = block_used 1 b h.1 h.3 in
    rw (
      block_taken 1 b h.1 h.3,
      eq-eqb (flag_in (block_event 1 b)) 1 (block_flag 1 b h.1 h.3),
      h.0,
      lt-ltb 0 (used_by (block_event 1 b)) (omega (arith, h.2)),
      le-leb (used_by (block_event 1 b)) 512 (omega (arith, h.3)),
    )
blocks_run v t b (c ∷ bs) h =
    let few : b.used ≤ 512 = omega (arith, h.1) in
    let u = block_used 0 b h.0 few in
    let f = block_flag 0 b h.0 few in
    rw (
      block_taken 0 b h.0 few,
      ne_eqb (flag_in (block_event 0 b)) 1 (λ e. omega arith),
      eq-eqb (flag_in (block_event 0 b)) 0 f,
      eq-eqb (used_by (block_event 0 b)) 512 (u ∙ h.1),
    )
    (blocks_run v t c bs h.2)

pub codes_run : (v : Version) (t : List Ev) → Not 0x10 t → (bs : List Block) → GoodCodes v bs → codes_rest v (codes_events bs ++ t) ≡ some t
unfolding codes_rest codes_events
codes_run v [] n [] h = refl
codes_run v (e ∷ t) n [] h = rw (ne_eqb e.code 0x10 n)
codes_run v t n (b ∷ []) h = blocks_run v t b [] h
codes_run v t n (b ∷ c ∷ bs) h = blocks_run v t b (c ∷ bs) h

-- ---- what is taken is well formed

-- the last four bytes of a block
four : (q : List ℕ) (flag : ℕ) → length q ≡ 4 → Each Byte q → get_or q 2 0 ≡ code_of GeckoCodes → get_or q 3 0 ≡ flag → be 2 (number (take 2 q)) ++ (code_of GeckoCodes ∷ flag ∷ []) ≡ q
unfolding Each be more
four [] flag n h x y = absurd (omega arith)
four (a ∷ []) flag n h x y = absurd (omega arith)
four (a ∷ b ∷ []) flag n h x y = absurd (omega arith)
four (a ∷ b ∷ c ∷ []) flag n h x y = absurd (omega arith)
four (a ∷ b ∷ c ∷ d ∷ e ∷ q) flag n h x y = absurd (omega arith)
four (a ∷ b ∷ c ∷ d ∷ []) flag n h x y =
    let z = number (a ∷ b ∷ []) in
    let a0 : a < 256 = h.0 in
    let b0 : b < 256 = h.1.0 in
    let a1 : z / 256 ^ 1 % 256 ≡ a = omega arith in
    let b1 : z / 256 ^ 0 % 256 ≡ b = omega arith in
    λ i. a1 i ∷ b1 i ∷ sym x i ∷ sym y i ∷ []

abbrev block_in : Ev → Block
block_in e = record { bytes = take 512 e.payload; used = used_by e }

module _ (e : Ev) (flag : ℕ) (bytes : Each Byte e.payload) (t : is_block e ≡ true) (f : flag_in e ≡ flag) where
  block_tests : (e.code ≡ code_of MessageSplitter) × (length e.payload ≡ 516) × (get_or e.payload 514 0 ≡ code_of GeckoCodes)
  unfolding is_block
  block_tests =
      let (a, m) = both (eqb e.code (code_of MessageSplitter)) (eqb (length e.payload) 516 && eqb (get_or e.payload 514 0) (code_of GeckoCodes)) t in
      let (b, c) = both (eqb (length e.payload) 516) (eqb (get_or e.payload 514 0) (code_of GeckoCodes)) m in
      (eqb-true e.code (code_of MessageSplitter) a, eqb-true (length e.payload) 516 b, eqb-true (get_or e.payload 514 0) (code_of GeckoCodes) c)

  block_size : length (block_in e).bytes ≡ 512
  block_size = length-take-le 512 e.payload (omega (arith, block_tests.1))

  block_is : e ≡ block_event flag (block_in e)
  unfolding part
  block_is =
      let (code, long, gecko) = block_tests in
      let q = drop 512 e.payload in
      let n : length q ≡ 4 = omega (arith, length-drop 512 e.payload) in
      let tail = four q flag n (each_drop Byte 512 e.payload bytes) (get_or-drop 512 e.payload 2 0 ∙ gecko) (get_or-drop 512 e.payload 3 0 ∙ f) in
      let p : e.payload ≡ (block_event flag (block_in e)).payload = sym (take-append-drop 512 e.payload) ∙ ap (λ (l : List ℕ). take 512 e.payload ++ l) (sym tail) in
      λ i. record { code = code i; payload = p i }

pub record Blocks (v : Version) (es t : List Ev) : Type 0 where
  pub one : Block
  pub others : List Block
  pub good : GoodCodes v (one ∷ others)
  pub events_are : es ≡ codes_events (one ∷ others) ++ t

last_found : (v : Version) (e : Ev) (es t : List Ev) → Each Byte e.payload → is_block e ≡ true → flag_in e ≡ 1 → is_last v e ≡ true → es ≡ t → Blocks v (e ∷ es) t
unfolding is_last GoodCodes codes_events
last_found v e es t b k f l q =
    let (since, m) = both (gte_of v 3 3) (ltb 0 (used_by e) && leb (used_by e) 512) l in
    let (some_used, few) = both (ltb 0 (used_by e)) (leb (used_by e) 512) m in
    record {
      one = block_in e;
      others = [];
      good = (since, block_size e 1 b k f, ltb-true 0 (used_by e) some_used, leb-true (used_by e) 512 few);
      events_are = ap₂ (λ (x : Ev) (l : List Ev). x ∷ l) (block_is e 1 b k f) q;
    }

full_found : (v : Version) (e : Ev) (es t : List Ev) → Each Byte e.payload → is_block e ≡ true → is_full e ≡ true → Blocks v es t → Blocks v (e ∷ es) t
unfolding is_full GoodCodes codes_events
full_found v e es t b k l h =
    let (flag, used) = both (eqb (flag_in e) 0) (eqb (used_by e) 512) l in
    let f = eqb-true (flag_in e) 0 flag in
    record {
      one = block_in e;
      others = h.one ∷ h.others;
      good = (block_size e 0 b k f, eqb-true (used_by e) 512 used, h.good);
      events_are = ap₂ (λ (x : Ev) (l : List Ev). x ∷ l) (block_is e 0 b k f) h.events_are;
    }

pub blocks_found : (v : Version) (es t : List Ev) → Each (λ e. Each Byte e.payload) es → blocks_rest v es ≡ some t → Blocks v es t
unfolding blocks_rest Each
blocks_found v [] t b q = absurd (none-ne-some t q)
blocks_found v (e ∷ es) t b q =
    let (k, m) = taken (is_block e) _ t q in
    go (eqb (flag_in e) 1) refl m k (λ x. blocks_found v es t b.1 x)
  where
    go : (l : Bool) → eqb (flag_in e) 1 ≡ l → cond l (cond (is_last v e) (some es) none) (cond (is_full e) (blocks_rest v es) none) ≡ some t → is_block e ≡ true
        → (blocks_rest v es ≡ some t → Blocks v es t) → Blocks v (e ∷ es) t
    go true f m k next =
        let (l, x) = taken (is_last v e) (some es) t m in
        last_found v e es t b.0 k (eqb-true (flag_in e) 1 f) l (some-injective es t x)
    go false f m k next =
        let (l, x) = taken (is_full e) (blocks_rest v es) t m in
        full_found v e es t b.0 k l (next x)
