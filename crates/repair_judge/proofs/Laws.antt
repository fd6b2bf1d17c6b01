-- What is known of a file at each step of its judgement.
-- Assumes nothing.
use Prim.Native.Nat.{ℕ, zero, suc, ◌+◌, ◌-◌, ◌≤◌, ◌<◌}
use mathlib.Core.Path.{◌≡◌, refl, sym, ap, subst, ◌∙◌}
use mathlib.Core.Bool.{Bool, true, false, cond, not, ◌&&◌, ◌||◌}
use mathlib.Core.List.{List, [], ◌∷◌}
use native.Mathlib.Omega.{arith}
use borrow.Author.Tests.{le-ltb, eq-eqb, ne_eqb}
use lib.Dec.{eqb, ltb, leb}
use lib.ListN.{length, get_or, drop}
use Rattle.wire.specs.Wire.{be, part, splice}
use Rattle.format.specs.Refusal.{refuse, lowest}
use Rattle.format.specs.Version.{version, accepted_of}
use Rattle.format.specs.declared.version.Version.{Version}
use Rattle.head.specs.Table.{stop_of, table_of, first_place, span_of, head_refusal}
use Rattle.head.specs.Inner.{Indexed}
use Rattle.de.specs.Cut.{events_read, zeroed}
use Rattle.read_judge.specs.Found.{opens_wrong, version_said}
use Rattle.read_judge.specs.Inner.{Bytes, first_at, opens_at, start_fits}
use Rattle.read_judge.specs.declared.first.First.{First}
use Rattle.read_judge.specs.declared.first.First.TheVariants.{Opens, Other}
use Rattle.read_judge.proofs.StartLaws.{not_taken, not_left}
use Rattle.read_judge.proofs.Opening as opening
use Rattle.read_judge.proofs.Passes.{first_within}
use Rattle.repair_scan.specs.Inner.{kept_from}
use Rattle.repair_kept.specs.Kept.{ending_at, ReplayUpTo, Longest}
use Rattle.repair_kept.proofs.Same.{byte_same}
use Rattle.repair_kept.proofs.Field.{long_enough, zero_tail, zero_stop, ending_bytes, first_within as table-within}
use Rattle.repair_kept.proofs.Longest.{no_start_lem, none_kept, longest, at_within, begins_at_lem}
use Rattle.repair_head.specs.Inner.{TopOf}
use Rattle.repair_head.specs.declared.Top.{Top}
use Rattle.repair_judge.specs.Open.{open_refusal}
use Rattle.repair_judge.specs.Inner.{Topped, Opening, Judges, early, none, held}
use Rattle.repair_judge.specs.declared.Judged.{Judged}

abbrev says : ℕ → Judged
says n = record { refused = n; first = 0; stop = 0 }

-- ---- the head

pub head_wrong : (f spans : List ℕ) (t : Top) → TopOf t spans f → (t.refusal ≡ 0 → ⊥) → Judges f spans (says t.refusal)
unfolding open_refusal lowest
head_wrong f spans t o n =
    let e : open_refusal f ≡ head_refusal (zeroed f) = rw (ne_eqb (head_refusal (zeroed f)) 0 (λ z. n (o.refusal_is ∙ z))) in
    early (λ z. n (o.refusal_is ∙ sym e ∙ z)) (o.refusal_is ∙ sym e)

pub topped : (f spans : List ℕ) (t : Top) → TopOf t spans f → Bytes f → t.refusal ≡ 0 → Topped f spans t.first
topped f spans t o bytes e =
    let a = sym o.refusal_is ∙ e in
    record { accepted = a; first_is = o.first_is a; index = o.index a; bytes = bytes }

-- ---- the first event

module _ (f spans : List ℕ) (first : ℕ) (t : Topped f spans first) where
  abbrev long : 15 ≤ length f
  long = long_enough f t.accepted

  pub first_in : (first ≤ length f) × (length spans ≡ 256)
  first_in = (omega (arith, (table-within f t.accepted).1, t.first_is), t.index.many)

  zero_as : zeroed f ≡ ending_at f 15
  unfolding zeroed ending_at be
  zero_as = refl

  pub zero_bytes : Bytes (zeroed f)
  zero_bytes = subst Bytes (sym zero_as) (ending_bytes f long 15 t.bytes)

  pub starts_z : first_place (table_of (zeroed f)) ≤ stop_of (zeroed f)
  starts_z = omega (arith, (table-within f t.accepted).1, zero_stop f long)

  same_first : first_at f spans first (length f) ≡ first_at (zeroed f) spans (first_place (table_of (zeroed f))) (stop_of (zeroed f))
  unfolding first_at opens_at
  same_first =
      let z = zeroed f in
      let tail = zero_tail f long in
      let n = get_or spans 0x36 0 in
      let low : 15 ≤ first = omega (arith, (table-within f t.accepted).0, t.first_is) in
      let a = byte_same f z tail first low in
      let b = byte_same f z tail (first + 1) (omega arith) in
      let c = byte_same f z tail (first + 2) (omega arith) in
      let d = byte_same f z tail (first + 3) (omega arith) in
      (λ i. cond (ltb first (length f) && (eqb (a i) 0x36 && (leb 5 n && leb (first + n) (length f)))) (Opens (version (b i) (c i) (d i)) (n - 1)) Other)
      ∙ ap (λ (m : ℕ). first_at z spans m (length f)) t.first_is
      ∙ ap (first_at z spans (first_place (table_of z))) (sym (zero_stop f long))

  said : (e : First) → e ≡ first_at f spans first (length f) → opening.FirstSays (zeroed f) spans t.accepted zero_bytes t.index.spans_are starts_z e
  said e q =
      subst (opening.FirstSays (zeroed f) spans t.accepted zero_bytes t.index.spans_are starts_z) (sym (q ∙ same_first))
      (opening.first_said (zeroed f) spans t.accepted zero_bytes t.index.spans_are starts_z)

  by_events : open_refusal f ≡ lowest (refuse 19 (opens_wrong (events_read (zeroed f))) ∷ refuse 1 (not (accepted_of (version_said (events_read (zeroed f))))) ∷ [])
  unfolding open_refusal lowest
  by_events = rw t.accepted

  pub other_first : (e : First) → e ≡ first_at f spans first (length f) → e ≡ Other → Judges f spans (says 19)
  unfolding lowest
  other_first e q o =
      let wrong : opens_wrong (events_read (zeroed f)) ≡ true = said Other (sym o ∙ q) in
      let is : open_refusal f ≡ 19 = by_events ∙ rw wrong in
      early (λ z. omega arith) (sym is)

  module _ (v : Version) (len : ℕ) (e : First) (q : e ≡ first_at f spans first (length f)) (o : e ≡ Opens v len) where
    opened : opening.Opened (events_read (zeroed f)) v len
    opened = said (Opens v len) (sym o ∙ q)

    right : opens_wrong (events_read (zeroed f)) ≡ false
    unfolding opens_wrong
    right = rw opened.events_are (longer (length opened.block) (omega (arith, opened.long, opened.len_is)))
      where
        longer : (n : ℕ) → 4 ≤ n → false || ltb n 4 ≡ false
        longer n l = le-ltb n 4 l

    pub too_new_lem : (b : Bool) → b ≡ accepted_of v → not b ≡ true → Judges f spans (says 1)
    unfolding lowest
    too_new_lem b b-is n =
        let a : accepted_of v ≡ false = sym b-is ∙ not_taken b n in
        let is : open_refusal f ≡ 1 = by_events ∙ rw (right, ← opened.version_is, a) in
        early (λ z. omega arith) (sym is)

    pub opening_so : (b : Bool) → b ≡ accepted_of v → not b ≡ false → Opening f spans first v len
    unfolding lowest
    opening_so b b-is n =
        let a : accepted_of v ≡ true = sym b-is ∙ not_left b n in
        record { topped = t; opens = sym q ∙ o; new_enough = a; not_early = by_events ∙ rw (right, ← opened.version_is, a) }

-- ---- what is kept

module _ (f spans : List ℕ) (first : ℕ) (v : Version) (len : ℕ) (x : Opening f spans first v len) where
  abbrev at : ℕ
  at = first + 1 + len

  pub behind_start : (at ≤ length f) × (length spans ≡ 256)
  behind_start = (first_within f spans (length f) at v first len x.opens refl (first_in f spans first x.topped).0, x.topped.index.many)

  abbrev z : ℕ
  z = first_place (table_of (zeroed f))

  opens_z : first_at f spans z (length f) ≡ Opens v len
  opens_z = ap (λ (n : ℕ). first_at f spans n (length f)) (sym x.topped.first_is) ∙ x.opens

  pub start_wrong : (b : Bool) → b ≡ start_fits v (part f (first + 1) len) → not b ≡ true → Judges f spans (says 19)
  start_wrong b b-is n =
      none x.not_early
      (no_start_lem f spans x.topped.accepted x.topped.index.many x.topped.index.spans_are x.topped.bytes v len opens_z
      (ap (λ (k : ℕ). start_fits v (part f (k + 1) len)) (sym x.topped.first_is) ∙ sym b-is ∙ not_taken b n)) refl

  module _ (p : ℕ) (p-is : p ≡ kept_from v f spans (length f) at) where
    kept_z : p ≡ kept_from v f spans (length f) (z + 1 + len)
    kept_z = p-is ∙ ap (λ (n : ℕ). kept_from v f spans (length f) (n + 1 + len)) x.topped.first_is

    pub nothing_kept : p ≡ 0 → Judges f spans (says 19)
    nothing_kept e =
        none x.not_early (none_kept f spans x.topped.accepted x.topped.index.many x.topped.index.spans_are x.topped.bytes v len opens_z (sym kept_z ∙ e)) refl

    pub some_kept : (b : Bool) → b ≡ start_fits v (part f (first + 1) len) → not b ≡ false → (p ≡ 0 → ⊥) → Judges f spans (record { refused = 0; first = first; stop = p })
    some_kept b b-is n some =
        let l = longest f spans x.topped.accepted x.topped.index.many x.topped.index.spans_are x.topped.bytes v len opens_z x.new_enough
        (ap (λ (k : ℕ). start_fits v (part f (k + 1) len)) (sym x.topped.first_is) ∙ sym b-is ∙ not_left b n) (λ e. some (kept_z ∙ e)) in
        let m = subst (Longest f) (sym kept_z) l in
        held x.not_early m refl x.topped (omega (arith, begins_at_lem f spans x.topped.accepted x.topped.index.many x.topped.index.spans_are x.topped.bytes p m.begins, x.topped.first_is))
