-- Blocks of codes at a place: by their bytes, and by what is known of the event there.
-- Assumes nothing.
use Prim.Native.Nat.{ℕ, suc, ◌+◌, ◌*◌, ◌≤◌, ◌<◌}
use mathlib.Core.Path.{◌≡◌, refl, sym, ap, ◌∙◌}
use mathlib.Core.Bool.{Bool, true, false, cond, ◌&&◌}
use mathlib.Core.List.{List, ◌∷◌}
use mathlib.Core.Option.{none, some}
use native.Mathlib.Decide.{ℕ_discrete, dec_lt}
use native.Mathlib.Omega.{arith}
use borrow.Author.Tests.{lt-ltb, le-ltb, le-leb, lt-leb, eq-eqb, ne_eqb, leb-true, eqb-true}
use lib.Dec.{ltb, leb, eqb}
use lib.ListN.{length, get_or, length-take}
use Rattle.wire.specs.Wire.{number}
use Rattle.format.specs.File.{Ev}
use Rattle.format.specs.Refusal.{one_of}
use Rattle.format.specs.declared.version.Version.{Version}
use Rattle.format.proofs.Versions.{no_way}
use Rattle.grammar.specs.Machine.{family_of, on_family}
use Rattle.grammar.specs.Whole.{is_block, used_by, flag_in, is_last, is_full, blocks_rest}
use Rattle.grammar.proofs.Tests.{both}
use Rattle.read_outline.specs.Inner.{used_at, flag_at}
use Rattle.read_outline.specs.declared.answer.Codes.TheVariants as codes
use Rattle.read_judge.specs.Inner.{Covers}
use Rattle.known.specs.Known.{is_newer, is_known, known_size, front}
use Rattle.known.proofs.Newest.{has_gate}
use Rattle.newer_codes.specs.Places.{Laid}
use Rattle.newer_codes.specs.Codes.{block_span, block_at, full_at, last_at, last_block}
use Rattle.newer_events.proofs.Events.{next_covers, code_stands}
use Rattle.newer_codes.proofs.Places.{span_is, byte_at, part_at, laid_span}

-- ---- by bytes

module _ (file spans : List ℕ) (stop at : ℕ) where
  pub block_none : stop ≤ at → false ≡ block_at file spans stop at
  unfolding block_at
  block_none h = rw (le-ltb at stop h)

  module _ (l : at < stop) where
    pub block_other : (get_or file at 0 ≡ 0x10 → ⊥) → false ≡ block_at file spans stop at
    unfolding block_at
    block_other h = rw (lt-ltb at stop l, ne_eqb (get_or file at 0) 0x10 h)

    module _ (c : get_or file at 0 ≡ 0x10) (n : ℕ) (n-is : n ≡ block_span spans) where
      pub block_short : n < 517 → false ≡ block_at file spans stop at
      unfolding block_at
      block_short h = rw (lt-ltb at stop l, eq-eqb (get_or file at 0) 0x10 c, lt-leb 517 (block_span spans) (omega (arith, n-is)))

      pub block_as : 517 ≤ n → eqb (get_or file (at + 515) 0) 0x3D ≡ block_at file spans stop at
      unfolding block_at
      block_as h = rw (lt-ltb at stop l, eq-eqb (get_or file at 0) 0x10 c, le-leb 517 (block_span spans) (omega (arith, n-is)))

  -- its span, and that it ends before stop
  pub block_inside : Laid file spans at stop → at < stop → get_or file at 0 ≡ 0x10 → at + block_span spans ≤ stop
  block_inside d l c = let q = ap (λ (n : ℕ). get_or spans n 0) c in omega (arith, (laid_span file spans stop at d l).1, q)

  module _ (b : Bool) (b-is : b ≡ block_at file spans stop at) where
    pub full_none : b ≡ false → false ≡ full_at file spans stop at
    unfolding full_at
    full_none e = rw (sym b-is ∙ e)

    pub last_none : b ≡ false → false ≡ last_at file spans stop at
    unfolding last_at
    last_none e = rw (sym b-is ∙ e)

    module _ (e : b ≡ true) where
      pub full_flag : (flag_at file at ≡ 0 → ⊥) → false ≡ full_at file spans stop at
      unfolding full_at
      full_flag f = rw (sym b-is ∙ e, ne_eqb (flag_at file at) 0 f)

      pub full_as : flag_at file at ≡ 0 → (used : ℕ) → used ≡ used_at file at → eqb used 512 ≡ full_at file spans stop at
      unfolding full_at
      full_as f used u = rw (sym b-is ∙ e, eq-eqb (flag_at file at) 0 f, u)

      pub last_flag_lem : (flag_at file at ≡ 1 → ⊥) → false ≡ last_at file spans stop at
      unfolding last_at
      last_flag_lem f = rw (sym b-is ∙ e, ne_eqb (flag_at file at) 1 f)

      module _ (f : flag_at file at ≡ 1) (used : ℕ) (u : used ≡ used_at file at) where
        pub last_empty : used ≤ 0 → false ≡ last_at file spans stop at
        unfolding last_at
        last_empty n = rw (sym b-is ∙ e, eq-eqb (flag_at file at) 1 f, ← u, le-ltb 0 used n)

        pub last_as : 0 < used → leb used 512 ≡ last_at file spans stop at
        unfolding last_at
        last_as n = rw (sym b-is ∙ e, eq-eqb (flag_at file at) 1 f, ← u, lt-ltb 0 used n)

        pub last_few : leb used 512 ≡ true → used_at file at ≤ 512
        last_few q = omega (arith, leb-true used 512 q, u)

  module _ (n : ℕ) (b : Bool) (b-is : b ≡ last_at file spans stop at) where
    pub last_is : b ≡ true → (span used : ℕ) → span ≡ block_span spans → used ≡ used_at file at → codes.Ended (at + span) (n + 1) (512 * n + used) ≡ last_block file spans stop at n
    unfolding last_block
    last_is e span used s u = rw (sym b-is ∙ e) (λ i. codes.Ended (at + s i) (n + 1) (512 * n + u i))

    pub last_not : b ≡ false → codes.Wrong ≡ last_block file spans stop at n
    unfolding last_block
    last_not e = rw (sym b-is ∙ e)

-- ---- by what is known of the event

pub splitter_known : is_known 0x10 ≡ true
unfolding is_known one_of
splitter_known = refl

pub splitter_size : (v : Version) (e : Ev) → e.code ≡ 0x10 → known_size v e ≡ 516
unfolding known_size family_of on_family
splitter_size v e c = rw c

and_false : (a : Bool) → (a && false) ≡ false
and_false true = refl
and_false false = refl

module _ (v : Version) (file spans : List ℕ) (stop at : ℕ) (e : Ev) (es : List Ev) (c : Covers file spans at stop (e ∷ es)) where
  abbrev known : Ev
  known = front v e

  pub block_code : is_block known ≡ true → e.code ≡ 0x10
  unfolding is_block
  block_code q = eqb-true e.code 0x10 (both (eqb e.code 0x10) (eqb (length known.payload) 516 && eqb (get_or known.payload 514 0) 0x3D) q).0

  pub block_size : is_block known ≡ true → length known.payload ≡ 516
  unfolding is_block
  block_size q =
      let m = (both (eqb e.code 0x10) (eqb (length known.payload) 516 && eqb (get_or known.payload 514 0) 0x3D) q).1 in
      eqb-true (length known.payload) 516 (both (eqb (length known.payload) 516) (eqb (get_or known.payload 514 0) 0x3D) m).0

  block_here : block_at file spans stop at ≡ is_block known
  unfolding block_at is_block
  block_here =
      let inside = (next_covers file spans at stop e es c).long in
      let code = code_stands file spans at stop e es c in
      elim (ℕ_discrete e.code 0x10) [
        | yes k ↦
            let span : block_span spans ≡ suc (length e.payload) = ap (λ (n : ℕ). get_or spans n 0) (sym k) ∙ span_is file spans at stop e es c in
            let size = length-take (known_size v e) e.payload in
            let most = splitter_size v e k in
            elim (dec_lt (length e.payload) 516) [
              | yes n ↦
                  rw (
                    lt-ltb at stop (omega (arith, inside)),
                    eq-eqb (get_or file at 0) 0x10 (code ∙ k),
                    eq-eqb e.code 0x10 k,
                    lt-leb 517 (block_span spans) (omega (arith, span, n)),
                    ne_eqb (length known.payload) 516 (λ q. omega (arith, size, most, n, q)),
                  )
              | no n ↦
                  rw (
                    lt-ltb at stop (omega (arith, inside)),
                    eq-eqb (get_or file at 0) 0x10 (code ∙ k),
                    eq-eqb e.code 0x10 k,
                    le-leb 517 (block_span spans) (omega (arith, span, n)),
                    eq-eqb (length known.payload) 516 (omega (arith, size, most, n)),
                    byte_at file spans at stop e es c v 514 (omega (arith, size, most, n)),
                  )
            ]
        | no k ↦ rw (ne_eqb (get_or file at 0) 0x10 (λ q. k (sym code ∙ q)), ne_eqb e.code 0x10 k) (and_false (ltb at stop))
      ]

  pub used_here : is_block known ≡ true → used_at file at ≡ used_by known
  used_here q = ap number (part_at file spans at stop e es c v 512 2 (omega (arith, block_size q)))

  flag_here : is_block known ≡ true → flag_at file at ≡ flag_in known
  flag_here q = byte_at file spans at stop e es c v 515 (omega (arith, block_size q))

  pub full_here : (b : Bool) → is_block known ≡ b → full_at file spans stop at ≡ (b && is_full known)
  unfolding full_at is_full
  full_here true q = rw (block_here ∙ q, flag_here q, used_here q)
  full_here false q = rw (block_here ∙ q)

  pub last_here : is_newer v ≡ true → (b : Bool) → is_block known ≡ b → last_at file spans stop at ≡ (b && (eqb (flag_in known) 1 && is_last v known))
  unfolding last_at is_last
  last_here new true q = rw (block_here ∙ q, flag_here q, used_here q, has_gate v new 3 (omega arith))
  last_here new false q = rw (block_here ∙ q)

-- the tests of the grammar on it, and then on those behind
module _ (v : Version) (f : Ev) (k : List Ev) where
  pub rest_full : is_block f ≡ true → is_full f ≡ true → (blocks_rest v (f ∷ k) ≡ blocks_rest v k) × (used_by f ≡ 512)
  unfolding blocks_rest is_full
  rest_full b u =
      let (x, y) = both (eqb (flag_in f) 0) (eqb (used_by f) 512) u in
      let flag = eqb-true (flag_in f) 0 x in
      (rw (b, ne_eqb (flag_in f) 1 (λ q. omega arith), x, y), eqb-true (used_by f) 512 y)

  pub rest_last : is_block f ≡ true → (eqb (flag_in f) 1 && is_last v f) ≡ true → blocks_rest v (f ∷ k) ≡ some k
  unfolding blocks_rest
  rest_last b u = let (x, y) = both (eqb (flag_in f) 1) (is_last v f) u in rw (b, x, y)

  pub rest_none : (b : Bool) → is_block f ≡ b → (b && is_full f) ≡ false → (b && (eqb (flag_in f) 1 && is_last v f)) ≡ false → blocks_rest v (f ∷ k) ≡ none
  unfolding blocks_rest
  rest_none false b x y = rw b
  rest_none true b x y = rw (b, x) (go (eqb (flag_in f) 1) (is_last v f) y)
    where
      go : (s l : Bool) → (s && l) ≡ false → cond s (cond l (some k) none) none ≡ none
      go true true y = no_way (sym y)
      go true false y = refl
      go false l y = refl
