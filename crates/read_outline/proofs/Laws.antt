-- The laws of the tests: of a block and of an end at a place, of loops over blocks and over bytes, and of what an end says.
-- Assumes nothing.
use mathlib.Core.Path.{◌≡◌, refl, sym, ap, ◌∙◌}
use mathlib.Core.Bool.{Bool, true, false, not, cond, ◌&&◌}
use mathlib.Core.List.{List, [], ◌∷◌}
use Prim.Native.Nat.{ℕ, zero, suc, ◌+◌, ◌-◌, ◌*◌, ◌%◌, ◌≤◌, ◌<◌}
use native.Mathlib.Nat.{sub-zero}
use native.Mathlib.Numerals.{add-one}
use native.Mathlib.Omega.{arith}
use borrow.Author.Tests.{lt-ltb, le-ltb, le-leb, lt-leb, eq-eqb, ne_eqb, leb-true}
use lib.Dec.{leb, eqb}
use lib.Pointwise.{pointwise}
use lib.ListN.{length, get_or, take, drop, length-drop}
use lib.Seq.{drop-cons, get_or-take, get_or-drop, length-take-le}
use Rattle.wire.specs.Wire.{part, ranged, Room, Wrote}
use Rattle.wire.proofs.Laws.{length_ranged_below}
use Rattle.format.specs.Version.{gte_of, has_initiator, has_placements}
use Rattle.format.specs.declared.version.Version.{Version}
use Rattle.layout.specs.Payloads.{end_size}
use Rattle.ending.specs.End.{initiator_wrong}
use Rattle.game.specs.declared.end.End.{End}
use Rattle.read_outline.specs.End.{mark_by, value_by, of_four, four_zeros, initiator_in, placed_in, placements_in, end_in}
use Rattle.read_outline.specs.Listed.{listed_right}
use Rattle.read_outline.specs.Inner.{Within, used_at, flag_at, block_at, full_at, last_at, last_block, blocks_from, codes_at, initiator_at, same_run, end_here, right_at, second_at, ends_at}
use Rattle.read_outline.specs.declared.answer.Codes.TheVariants as codes
use Rattle.read_outline.specs.declared.answer.Ends.TheVariants as ends

-- ---- a block at a place

module _ (file spans : List ℕ) (stop at : ℕ) where
  pub block_short : stop < at + 517 → false ≡ block_at file spans stop at
  unfolding block_at
  block_short h = rw (lt-leb (at + 517) stop h)

  module _ (whole : at + 517 ≤ stop) where
    pub block_other : (get_or file at 0 ≡ 0x10 → ⊥) → false ≡ block_at file spans stop at
    unfolding block_at
    block_other h = rw (le-leb (at + 517) stop whole, ne_eqb (get_or file at 0) 0x10 h)

    pub block_unlisted : get_or file at 0 ≡ 0x10 → (get_or spans 0x10 0 ≡ 517 → ⊥) → false ≡ block_at file spans stop at
    unfolding block_at
    block_unlisted c h = rw (le-leb (at + 517) stop whole, eq-eqb (get_or file at 0) 0x10 c, ne_eqb (get_or spans 0x10 0) 517 h)

    pub block_as : get_or file at 0 ≡ 0x10 → get_or spans 0x10 0 ≡ 517 → eqb (get_or file (at + 515) 0) 0x3D ≡ block_at file spans stop at
    unfolding block_at
    block_as c h = rw (le-leb (at + 517) stop whole, eq-eqb (get_or file at 0) 0x10 c, eq-eqb (get_or spans 0x10 0) 517 h)

  -- a full block
  module _ (b : Bool) (b-is : b ≡ block_at file spans stop at) where
    pub full_none : b ≡ false → false ≡ full_at file spans stop at
    unfolding full_at
    full_none e = rw (sym b-is ∙ e)

    pub full_flag : b ≡ true → (flag_at file at ≡ 0 → ⊥) → false ≡ full_at file spans stop at
    unfolding full_at
    full_flag e f = rw (sym b-is ∙ e, ne_eqb (flag_at file at) 0 f)

    pub full_as : b ≡ true → flag_at file at ≡ 0 → (used : ℕ) → used ≡ used_at file at → eqb used 512 ≡ full_at file spans stop at
    unfolding full_at
    full_as e f used u = rw (sym b-is ∙ e, eq-eqb (flag_at file at) 0 f, u)

    -- the last block
    module _ (v : Version) where
      pub last_none : b ≡ false → false ≡ last_at v file spans stop at
      unfolding last_at
      last_none e = rw (sym b-is ∙ e)

      pub last_flag_lem : b ≡ true → (flag_at file at ≡ 1 → ⊥) → false ≡ last_at v file spans stop at
      unfolding last_at
      last_flag_lem e f = rw (sym b-is ∙ e, ne_eqb (flag_at file at) 1 f)

      module _ (e : b ≡ true) (f : flag_at file at ≡ 1) (g : Bool) (g-is : g ≡ gte_of v 3 3) where
        pub last_early : g ≡ false → false ≡ last_at v file spans stop at
        unfolding last_at
        last_early h = rw (sym b-is ∙ e, eq-eqb (flag_at file at) 1 f, sym g-is ∙ h)

        module _ (h : g ≡ true) (used : ℕ) (u : used ≡ used_at file at) where
          pub last_empty : used ≤ 0 → false ≡ last_at v file spans stop at
          unfolding last_at
          last_empty n = rw (sym b-is ∙ e, eq-eqb (flag_at file at) 1 f, sym g-is ∙ h, ← u, le-ltb 0 used n)

          pub last_as : 0 < used → leb used 512 ≡ last_at v file spans stop at
          unfolding last_at
          last_as n = rw (sym b-is ∙ e, eq-eqb (flag_at file at) 1 f, sym g-is ∙ h, ← u, lt-ltb 0 used n)

          pub last_few : leb used 512 ≡ true → used_at file at ≤ 512
          last_few q = omega (arith, leb-true used 512 q, u)

module _ (v : Version) (file spans : List ℕ) (stop at n : ℕ) (b : Bool) (b-is : b ≡ last_at v file spans stop at) where
  pub last_is : b ≡ true → (used : ℕ) → used ≡ used_at file at → codes.Ended (at + 517) (n + 1) (512 * n + used) ≡ last_block v file spans stop at n
  unfolding last_block
  last_is e used u = rw (sym b-is ∙ e, u)

  pub last_not : b ≡ false → codes.Wrong ≡ last_block v file spans stop at n
  unfolding last_block
  last_not e = rw (sym b-is ∙ e)

-- ---- the loop over full blocks: the answer is that of what is left

pub record Passing (v : Version) (file spans : List ℕ) (stop first at n : ℕ) : Type 0 where
  pub within : Within file spans stop at
  pub few : 517 * n ≤ at
  pub same : blocks_from v file spans stop (suc stop) first 0 ≡ blocks_from v file spans stop (suc (stop - n)) at n

module _ (v : Version) (file spans : List ℕ) (stop first : ℕ) where
  pub pass_first : Within file spans stop first → Passing v file spans stop first first 0
  pass_first w = record { within = w; few = omega arith; same = rw (sub-zero stop) }

  module _ (at n : ℕ) (p : Passing v file spans stop first at n) (b : Bool) (b-is : b ≡ full_at file spans stop at) where
    pub pass_next : b ≡ true → at + 517 ≤ stop → Passing v file spans stop first (at + 517) (n + 1)
    unfolding blocks_from
    pass_next e l =
        let k : stop - n ≡ suc (stop - (n + 1)) = omega (arith, p.few) in
        let w = p.within in
        record {
          within = record { under = l; long = w.long; all_codes = w.all_codes };
          few = omega (arith, p.few);
          same = p.same ∙ rw (sym b-is ∙ e) (ap (λ (j : ℕ). blocks_from v file spans stop j (at + 517) (n + 1)) k);
        }

    pub pass_last : b ≡ false → last_block v file spans stop at n ≡ blocks_from v file spans stop (suc stop) first 0
    unfolding blocks_from
    pass_last e = sym (p.same ∙ rw (sym b-is ∙ e))

  pub codes_some : first < stop → get_or file first 0 ≡ 0x10 → blocks_from v file spans stop (suc stop) first 0 ≡ codes_at v file spans first stop
  unfolding codes_at
  codes_some l c = rw (lt-ltb first stop l, eq-eqb (get_or file first 0) 0x10 c)

  pub codes_other : first < stop → (get_or file first 0 ≡ 0x10 → ⊥) → codes.Ended first 0 0 ≡ codes_at v file spans first stop
  unfolding codes_at
  codes_other l c = rw (lt-ltb first stop l, ne_eqb (get_or file first 0) 0x10 c)

  pub codes_none : stop ≤ first → codes.Ended first 0 0 ≡ codes_at v file spans first stop
  unfolding codes_at
  codes_none l = rw (le-ltb first stop l)

-- ---- the blocks' bytes, as they stand in the file

abbrev pub block_bytes : List ℕ → ℕ → ℕ → List ℕ
block_bytes file first b = part file (first + 517 * b + 1) 512

pub length_part : (file : List ℕ) (at n : ℕ) → at + n ≤ length file → length (part file at n) ≡ n
unfolding part
length_part file at n h = length-take-le n (drop at file) (omega (arith, length-drop at file))

pub copy_room : (file codes : List ℕ) (first blocks : ℕ) → first + 517 * blocks ≤ length file → 512 * blocks ≤ length codes → Room codes 0 (ranged (block_bytes file first) 0 blocks)
copy_room file codes first blocks h k =
    record { fits = omega (arith, length_ranged_below (block_bytes file first) 512 0 blocks (λ b l. length_part file (first + 517 * b + 1) 512 (omega arith))) }

-- a part that is lent from a place to 512 behind it
module _ (file : List ℕ) (from : ℕ) where
  lent_part : part file from 512 ≡ take (from + 512 - from) (drop from file)
  unfolding part
  lent_part = let e : 512 ≡ from + 512 - from = omega arith in ap (λ (n : ℕ). take n (drop from file)) e

  pub room_part : {out : List ℕ} {p : ℕ} → Room out p (part file from 512) → Room out p (take (from + 512 - from) (drop from file))
  room_part r = rw lent_part at r

  pub wrote_part : {before after : List ℕ} {p q : ℕ} → Wrote before after p q (take (from + 512 - from) (drop from file)) → Wrote before after p q (part file from 512)
  wrote_part w = rw (← lent_part) at w

-- ---- the sizes of ends

pub size_some : (v : Version) → 1 ≤ end_size v
unfolding end_size
size_some v = go (has_placements v) (has_initiator v)
  where
    go : (s t : Bool) → 1 ≤ cond s 6 (cond t 2 1)
    go true t = omega arith
    go false true = omega arith
    go false false = omega arith

pub size_two : (v : Version) (b : Bool) → b ≡ has_initiator v → b ≡ true → 2 ≤ end_size v
unfolding end_size
size_two v b e t = rw (sym e ∙ t) (go (has_placements v))
  where
    go : (s : Bool) → 2 ≤ cond s 6 2
    go true = omega arith
    go false = omega arith

pub size_six : (v : Version) (b : Bool) → b ≡ has_placements v → b ≡ true → end_size v ≡ 6
unfolding end_size
size_six v b e t = rw (sym e ∙ t)

-- ---- an end at a place

module _ (v : Version) (file : List ℕ) (at : ℕ) (b : Bool) (b-is : b ≡ has_initiator v) where
  pub initiator_early : b ≡ false → true ≡ initiator_at v file at
  unfolding initiator_at
  initiator_early e = rw (sym b-is ∙ e)

  module _ (e : b ≡ true) (i : ℕ) (i-is : i ≡ get_or file (at + 2) 0) where
    pub initiator_low : i ≤ 3 → true ≡ initiator_at v file at
    unfolding initiator_at initiator_wrong
    initiator_low l = rw (sym b-is ∙ e, ← i-is, le-leb i 3 l)

    pub initiator_as : 3 < i → eqb i 255 ≡ initiator_at v file at
    unfolding initiator_at initiator_wrong
    initiator_as l = rw (sym b-is ∙ e, ← i-is, lt-leb i 3 l) (go (eqb i 255))
      where
        go : (x : Bool) → x ≡ not (not x)
        go true = refl
        go false = refl

pub end_size_as : (v : Version) (n : ℕ) → n ≡ end_size v → 1 + n ≡ 1 + end_size v
end_size_as v n e = ap (λ (k : ℕ). 1 + k) e

module _ (v : Version) (file spans : List ℕ) (stop at n : ℕ) (n-is : n ≡ 1 + end_size v) where
  pub here_short : stop < at + n → false ≡ end_here v file spans stop at
  unfolding end_here
  here_short h = rw (lt-leb (at + (1 + end_size v)) stop (omega (arith, n-is)))

  module _ (whole : at + n ≤ stop) where
    all_there : leb (at + (1 + end_size v)) stop ≡ true
    all_there = le-leb (at + (1 + end_size v)) stop (omega (arith, n-is))

    pub here_other : (get_or file at 0 ≡ 0x39 → ⊥) → false ≡ end_here v file spans stop at
    unfolding end_here
    here_other h = rw (all_there, ne_eqb (get_or file at 0) 0x39 h)

    pub here_as : get_or file at 0 ≡ 0x39 → (k : ℕ) → k ≡ get_or spans 0x39 0 → eqb k n ≡ end_here v file spans stop at
    unfolding end_here
    here_as c k e = rw (all_there, eq-eqb (get_or file at 0) 0x39 c, ← n-is) (ap (λ (x : ℕ). eqb x n) e)

module _ (v : Version) (file spans : List ℕ) (stop at : ℕ) (e : Bool) (e-is : e ≡ end_here v file spans stop at) where
  pub right_not : e ≡ false → false ≡ right_at v file spans stop at
  unfolding right_at
  right_not q = rw (sym e-is ∙ q)

  pub right_as : e ≡ true → (r : Bool) → r ≡ initiator_at v file at → r ≡ right_at v file spans stop at
  unfolding right_at
  right_as q r i = rw (sym e-is ∙ q) i

-- ---- bytes that are alike, pair by pair

run_pairs : (file : List ℕ) (n a b : ℕ) → a + n ≤ length file → b + n ≤ length file → pointwise eqb (take n (drop a file)) (take n (drop b file)) ≡ same_run file a b n
unfolding same_run
run_pairs file zero a b h k = refl
run_pairs file (suc n) a b h k =
    rw (drop-cons file a 0 (omega arith), drop-cons file b 0 (omega arith), add-one a, add-one b)
    (ap (λ (r : Bool). eqb (get_or file a 0) (get_or file b 0) && r) (run_pairs file n (suc a) (suc b) (omega arith) (omega arith)))

pub run_same : (file : List ℕ) (a b n : ℕ) → a + n ≤ length file → b + n ≤ length file
    → pointwise eqb (take (a + n - a) (drop a file)) (take (b + n - b) (drop b file)) ≡ same_run file a b n
run_same file a b n h k =
    let x : a + n - a ≡ n = omega arith in
    let y : b + n - b ≡ n = omega arith in
    rw (x, y) (run_pairs file n a b h k)

-- ---- one end or two

module _ (v : Version) (file spans : List ℕ) (stop first at : ℕ) (r : Bool) (r_is : r ≡ right_at v file spans stop at) where
  pub second_not : r ≡ false → false ≡ second_at v file spans stop first at
  unfolding second_at
  second_not e = rw (sym r_is ∙ e)

  module _ (e : r ≡ true) (n : ℕ) (n-is : n ≡ end_size v) where
    pub second_more : (at + (1 + n) ≡ stop → ⊥) → false ≡ second_at v file spans stop first at
    unfolding second_at
    second_more h = rw (sym r_is ∙ e, ne_eqb (at + (1 + end_size v)) stop (λ q. h (omega (arith, q, n-is))))

    pub second_as : at + (1 + n) ≡ stop → (s : Bool) → s ≡ same_run file (first + 1) (at + 1) n → s ≡ second_at v file spans stop first at
    unfolding second_at
    second_as h s q = rw (sym r_is ∙ e, eq-eqb (at + (1 + end_size v)) stop (omega (arith, h, n-is)), ← n-is) q

module _ (v : Version) (file spans : List ℕ) (first stop : ℕ) where
  pub ends_none : first ≡ stop → ends.Good 0 ≡ ends_at v file spans first stop
  unfolding ends_at
  ends_none e = rw (eq-eqb first stop e)

  module _ (ne : first ≡ stop → ⊥) (r : Bool) (r_is : r ≡ right_at v file spans stop first) where
    pub ends_wrong : r ≡ false → ends.Wrong ≡ ends_at v file spans first stop
    unfolding ends_at
    ends_wrong e = rw (ne_eqb first stop ne, sym r_is ∙ e)

    module _ (e : r ≡ true) (n : ℕ) (n-is : n ≡ end_size v) where
      pub ends_one : first + (1 + n) ≡ stop → ends.Good 1 ≡ ends_at v file spans first stop
      unfolding ends_at
      ends_one q = rw (ne_eqb first stop ne, sym r_is ∙ e, ← n-is, eq-eqb (first + (1 + n)) stop q)

      module _ (q : first + (1 + n) ≡ stop → ⊥) (s : Bool) (s_is : s ≡ second_at v file spans stop first (first + (1 + n))) where
        pub ends_two : s ≡ true → ends.Good 2 ≡ ends_at v file spans first stop
        unfolding ends_at
        ends_two t = rw (ne_eqb first stop ne, sym r_is ∙ e, ← n-is, ne_eqb (first + (1 + n)) stop q, sym s_is ∙ t)

        pub ends_unlike : s ≡ false → ends.Wrong ≡ ends_at v file spans first stop
        unfolding ends_at
        ends_unlike t = rw (ne_eqb first stop ne, sym r_is ∙ e, ← n-is, ne_eqb (first + (1 + n)) stop q, sym s_is ∙ t)

-- ---- what an end says

pub mark_none : (b : ℕ) → b ≡ 255 → 0 ≡ mark_by b
unfolding mark_by
mark_none b e = rw (eq-eqb b 255 e)

pub mark_some : (b : ℕ) → (b ≡ 255 → ⊥) → 1 ≡ mark_by b
unfolding mark_by
mark_some b e = rw (ne_eqb b 255 e)

pub value_none : (b : ℕ) → b ≡ 255 → 0 ≡ value_by b
unfolding value_by
value_none b e = rw (eq-eqb b 255 e)

pub value_some : (b : ℕ) → (b ≡ 255 → ⊥) → b ≡ value_by b
unfolding value_by
value_some b e = rw (ne_eqb b 255 e)

pub byte_in : (file : List ℕ) (at n k : ℕ) → k < n → get_or file (at + k) 0 ≡ get_or (part file at n) k 0
unfolding part
byte_in file at n k h = sym (get_or-take n (drop at file) k 0 h ∙ get_or-drop at file k 0)

module _ (v : Version) (file : List ℕ) (at : ℕ) (b : Bool) where
  pub named_none : b ≡ has_initiator v → b ≡ false → 255 ≡ initiator_in v (part file at (end_size v))
  unfolding initiator_in
  named_none e t = rw (sym e ∙ t)

  pub named_as : b ≡ has_initiator v → b ≡ true → get_or file (at + 1) 0 ≡ initiator_in v (part file at (end_size v))
  unfolding initiator_in
  named_as e t = rw (sym e ∙ t) (byte_in file at (end_size v) 1 (omega (arith, size_two v b e t)))

  -- of the four placements
  module _ (e : b ≡ has_placements v) (f : ℕ → ℕ) where
    pub four_none : b ≡ false → four_zeros ≡ cond (has_placements v) (of_four f (part file at (end_size v))) four_zeros
    four_none t = rw (sym e ∙ t)

    module _ (t : b ≡ true) where
      at_byte : (k x : ℕ) → k < 6 → x ≡ f (get_or file (at + k) 0) → x ≡ f (get_or (part file at (end_size v)) k 0)
      at_byte k x l q = q ∙ ap f (byte_in file at (end_size v) k (omega (arith, size_six v b e t)))

      pub four_as : (w x y z : ℕ) → w ≡ f (get_or file (at + 2) 0) → x ≡ f (get_or file (at + 3) 0) → y ≡ f (get_or file (at + 4) 0) → z ≡ f (get_or file (at + 5) 0)
          → w ∷ x ∷ y ∷ z ∷ [] ≡ cond (has_placements v) (of_four f (part file at (end_size v))) four_zeros
      four_as w x y z p q r s =
          let p' = at_byte 2 w (omega arith) p in
          let q' = at_byte 3 x (omega arith) q in
          let r' = at_byte 4 y (omega arith) r in
          let s' = at_byte 5 z (omega arith) s in
          rw (sym e ∙ t) (λ i. p' i ∷ q' i ∷ r' i ∷ s' i ∷ [])

pub end_as : (v : Version) (p : List ℕ) (method initiator : ℕ) (placed placements : List ℕ) → method ≡ get_or p 0 0 → initiator ≡ initiator_in v p → placed ≡ placed_in v p
    → placements ≡ placements_in v p
    → ◌≡◌ {A = End} (record { given = 1; method = method; initiator = initiator; placed = placed; placements = placements }) (end_in v p)
unfolding end_in
end_as v p method initiator placed placements a b c d = λ i. record { given = 1; method = a i; initiator = b i; placed = c i; placements = d i }

-- ---- whether codes are listed right

module _ (v : Version) (span blocks actual : ℕ) (g : Bool) (g-is : g ≡ gte_of v 3 3) where
  pub listed_early : g ≡ false → eqb blocks 0 ≡ listed_right v span blocks actual
  unfolding listed_right
  listed_early e = rw (sym g-is ∙ e)

  pub listed_not : g ≡ true → span ≡ 0 → eqb blocks 0 ≡ listed_right v span blocks actual
  unfolding listed_right
  listed_not e z = rw (sym g-is ∙ e, eq-eqb span 0 z)

  pub listed_as : g ≡ true → (span ≡ 0 → ⊥) → eqb span (1 + actual % 65536) ≡ listed_right v span blocks actual
  unfolding listed_right
  listed_as e z = rw (sym g-is ∙ e, ne_eqb span 0 z)
