-- The laws of one event.
-- Assumes nothing.
use mathlib.Core.Path.{◌≡◌, refl, sym, ap, subst, ◌∙◌}
use mathlib.Core.Bool.{Bool, true, false, cond, not, ◌&&◌, ◌||◌}
use mathlib.Core.List.{List, [], ◌∷◌, ◌++◌}
use mathlib.Core.Option.{Option, none, some}
use Prim.Native.Nat.{ℕ, suc, ◌+◌, ◌-◌, ◌*◌, ◌≤◌, ◌<◌}
use native.Mathlib.Numerals.{add-one}
use native.Mathlib.Omega.{arith}
use borrow.Author.Tests.{le-leb, lt-leb, eq-eqb, ne_eqb}
use lib.Dec.{eqb}
use lib.ListN.{length, get_or, take, drop, length-drop, take-append-drop, drop_of_length-le}
use lib.Seq.{drop-cons, drop-drop, length-take-le}
use Rattle.format.specs.Event.{code_of}
use Rattle.format.specs.File.{Ev, event_bytes}
use Rattle.format.specs.Version.{has_codes, has_initiator}
use Rattle.format.specs.declared.event.Event.TheVariants.{MessageSplitter, GameEnd}
use Rattle.format.specs.declared.version.Version.{Version}
use Rattle.layout.specs.Payloads.{end_size}
use Rattle.layout.specs.declared.columns.Family.{Family}
use Rattle.ending.specs.End.{initiator_wrong}
use Rattle.grammar.specs.WellFormed.{ascending}
use Rattle.grammar.specs.Machine.{initial, closed, allowed, after, said_by}
use Rattle.grammar.specs.Whole.{used_by, is_end}
use Rattle.read_order.specs.Inner.{state_in, said_of, closed_at}
use Rattle.read_order.specs.declared.stage.Stage.{Stage}
use Rattle.read_order.specs.declared.stage.Word.{Word}
use Rattle.read_order.proofs.Steps.{closed_is}
use Rattle.read_scan.specs.Counts.{no_tally, counted_of, Under}
use Rattle.read_scan.specs.Inner.{said_at, span_at, takes_at, Asked, Gone}
use Rattle.read_scan.specs.declared.tally.Tally.{Tally}
use Rattle.read_scan.proofs.Counting.{under_counted}
use Rattle.read_scan.proofs.Same.{one_event_lem}
use Rattle.read_outline.specs.Listed.{listed_right}
use Rattle.read_judge.specs.Inner.{changes}
use Rattle.fault_reason.specs.Reason.{good_block, row_reason}
use Rattle.fault_reason.specs.Fault.{coding, framing, ending, over, takes_block, after_block, after_row, initiator_fits, after_first, alike_bytes, after_second}
use Rattle.fault_reason.specs.Inner.{ev}
use Rattle.fault_scan.specs.Inner.{ev_at, Here, Known, RowOf}
use Rattle.fault_scan.specs.declared.row.Row.{Row}
use Rattle.fault_scan.specs.declared.row.Row.TheVariants as row

pub and_so : (a b r : Bool) → a ≡ true → r ≡ b → r ≡ (a && b)
and_so a b r h q = q ∙ ap (λ (x : Bool). x && b) (sym h)

pub and_not : (a b : Bool) → a ≡ false → false ≡ (a && b)
and_not a b h = ap (λ (x : Bool). x && b) (sym h)

-- ---- blocks

module _ (p : List ℕ) (v : Version) (g n : ℕ) where
  abbrev e : Ev
  e = ev (code_of MessageSplitter) p

  abbrev Listed : Bool
  Listed = not (eqb (get_or p 515 0) 1) || listed_right v g (n + 1) (512 * n + used_by e)

  pub listed_last : get_or p 515 0 ≡ 1 → (used : ℕ) → used ≡ used_by e → (r : Bool) → r ≡ listed_right v g (n + 1) (512 * n + used) → r ≡ Listed
  listed_last flag used u r h = rw (eq-eqb (get_or p 515 0) 1 flag) (h ∙ ap (λ (k : ℕ). listed_right v g (n + 1) (512 * n + k)) u)

  pub listed_full : (get_or p 515 0 ≡ 1 → ⊥) → true ≡ Listed
  listed_full flag = rw (ne_eqb (get_or p 515 0) 1 flag)

  module _ (a : Bool) (a-is : a ≡ has_codes v) where
    pub takes_early : a ≡ false → false ≡ takes_block v g n e
    unfolding takes_block
    takes_early h = rw (sym a-is ∙ h)

    module _ (yes : a ≡ true) (k : ℕ) (k-is : k ≡ g) where
      pub takes_unlisted : k ≡ 0 → false ≡ takes_block v g n e
      unfolding takes_block
      takes_unlisted h = rw (sym a-is ∙ yes, eq-eqb g 0 (sym k-is ∙ h))

      module _ (there : k ≡ 0 → ⊥) (b : Bool) (b-is : b ≡ good_block v e) where
        pub takes_wrong : b ≡ false → false ≡ takes_block v g n e
        unfolding takes_block
        takes_wrong h = rw (sym a-is ∙ yes, ne_eqb g 0 (λ z. there (k-is ∙ z)), sym b-is ∙ h)

        pub takes_good : b ≡ true → (r : Bool) → r ≡ Listed → r ≡ takes_block v g n e
        unfolding takes_block
        takes_good h r q = rw (sym a-is ∙ yes, ne_eqb g 0 (λ z. there (k-is ∙ z)), sym b-is ∙ h) q

  module _ (t : Bool) (t-is : t ≡ takes_block v g n e) where
    pub block_last : t ≡ true → get_or p 515 0 ≡ 1 → after_block v g n e ≡ some (framing initial no_tally)
    unfolding after_block
    block_last h flag = rw (sym t-is ∙ h, eq-eqb (get_or p 515 0) 1 flag)

    pub block_full : t ≡ true → (get_or p 515 0 ≡ 1 → ⊥) → after_block v g n e ≡ some (coding (n + 1))
    unfolding after_block
    block_full h flag = rw (sym t-is ∙ h, ne_eqb (get_or p 515 0) 1 flag)

    pub block_none : t ≡ false → after_block v g n e ≡ none
    unfolding after_block
    block_none h = rw (sym t-is ∙ h)

-- ---- ends

module _ (p : List ℕ) (v : Version) (code : ℕ) where
  pub end_is : code ≡ code_of GameEnd → (n : ℕ) → n ≡ end_size v → eqb (length p) n ≡ is_end v (ev code p)
  unfolding is_end
  end_is e n q = rw (eq-eqb code (code_of GameEnd) e) (ap (eqb (length p)) q)

  pub end_not : (code ≡ code_of GameEnd → ⊥) → false ≡ is_end v (ev code p)
  unfolding is_end
  end_not e = rw (ne_eqb code (code_of GameEnd) e)

  module _ (a : Bool) (a-is : a ≡ has_initiator v) where
    pub fits_none : a ≡ false → true ≡ initiator_fits v (ev code p)
    unfolding initiator_fits
    fits_none h = rw (sym a-is ∙ h)

    module _ (yes : a ≡ true) (b : ℕ) (b-is : b ≡ get_or p 1 0) where
      pub fits_low : b ≤ 3 → true ≡ initiator_fits v (ev code p)
      unfolding initiator_fits initiator_wrong
      fits_low h = rw (sym a-is ∙ yes, ← b-is, le-leb b 3 h)

      pub fits_high : 3 < b → eqb b 255 ≡ initiator_fits v (ev code p)
      unfolding initiator_fits initiator_wrong
      fits_high h = rw (sym a-is ∙ yes, ← b-is, lt-leb b 3 h) (go (eqb b 255))
        where
          go : (x : Bool) → x ≡ not (not (false || x))
          go true = refl
          go false = refl

  module _ (file : List ℕ) (span : ℕ) (m : Stage) (a : Bool) (a-is : a ≡ (closed_at v m && (is_end v (ev code p) && initiator_fits v (ev code p)))) where
    closed_here : closed v (state_in file span m) ≡ closed_at v m
    closed_here = closed_is v ascending file span m (record { id = 0; port = 0; follower = 0 })

    pub first_comes : a ≡ true → after_first v (state_in file span m) (ev code p) ≡ some (ending p)
    unfolding after_first
    first_comes h = rw (closed_here, sym a-is ∙ h)

    pub first_none : a ≡ false → after_first v (state_in file span m) (ev code p) ≡ none
    unfolding after_first
    first_none h = rw (closed_here, sym a-is ∙ h)

  module _ (q : List ℕ) (a : Bool) (a-is : a ≡ (is_end v (ev code p) && alike_bytes q p)) where
    pub second_comes : a ≡ true → after_second v q (ev code p) ≡ some over
    unfolding after_second
    second_comes h = rw (sym a-is ∙ h)

    pub second_none : a ≡ false → after_second v q (ev code p) ≡ none
    unfolding after_second
    second_none h = rw (sym a-is ∙ h)

-- ---- two lists of bytes

pub same_length : (a b : List ℕ) → (length a ≡ length b → ⊥) → false ≡ alike_bytes a b
unfolding alike_bytes
same_length [] [] h = absurd (h refl)
same_length [] (y ∷ b) h = refl
same_length (x ∷ a) [] h = refl
same_length (x ∷ a) (y ∷ b) h = go (eqb x y) (same_length a b (λ e. h (ap suc e)))
  where
    go : (c : Bool) → false ≡ alike_bytes a b → false ≡ (c && alike_bytes a b)
    go true e = e
    go false e = refl

module _ (a b : List ℕ) (even : length a ≡ length b) (i : ℕ) where
  pub same_end : length a ≤ i → alike_bytes (drop i a) (drop i b) ≡ true
  unfolding alike_bytes
  same_end h = rw (drop_of_length-le a {i = i} h, drop_of_length-le b {i = i} (omega arith))

  split : i < length a → alike_bytes (drop i a) (drop i b) ≡ (eqb (get_or a i 0) (get_or b i 0) && alike_bytes (drop (i + 1) a) (drop (i + 1) b))
  unfolding alike_bytes
  split h = rw (drop-cons a i 0 h, drop-cons b i 0 (omega arith), add-one)

  pub same_not : i < length a → (get_or a i 0 ≡ get_or b i 0 → ⊥) → alike_bytes (drop i a) (drop i b) ≡ false
  same_not h n = split h ∙ rw (ne_eqb (get_or a i 0) (get_or b i 0) n)

  pub same_on : i < length a → get_or a i 0 ≡ get_or b i 0 → alike_bytes (drop i a) (drop i b) ≡ alike_bytes (drop (i + 1) a) (drop (i + 1) b)
  same_on h n = split h ∙ rw (eq-eqb (get_or a i 0) (get_or b i 0) n)

-- ---- rows

cond_and : {A : Type 0} (a b : Bool) (x : Option A) → cond (a && b) x none ≡ cond a (cond b x none) none
cond_and true b x = refl
cond_and false b x = refl

module _ (v : Version) (file spans : List ℕ) (span stop at next : ℕ) (h : Here v file spans span stop at next) where
  abbrev body : List ℕ
  body = take (next - (at + 1)) (drop (at + 1) file)

  pub body_long : length body ≡ next - (at + 1)
  body_long = length-take-le (next - (at + 1)) (drop (at + 1) file) (omega (arith, length-drop (at + 1) file, h.ends, h.long))

  stands_there : drop at file ≡ event_bytes (ev_at file at next) ++ drop next file
  stands_there =
      let n : at + 1 + (next - (at + 1)) ≡ next = omega (arith, h.later) in
      let one : suc at ≡ at + 1 = omega arith in
      drop-cons file at 0 (omega (arith, h.later, h.ends, h.long))
      ∙ ap (λ (l : List ℕ). get_or file at 0 ∷ l)
      (ap (λ (k : ℕ). drop k file) one
      ∙ sym (take-append-drop (next - (at + 1)) (drop (at + 1) file))
      ∙ ap (λ (l : List ℕ). body ++ l) (drop-drop (next - (at + 1)) (at + 1) file ∙ ap (λ (k : ℕ). drop k file) n))

  module _ (m : Stage) (t : Tally) (family : Family) where
    abbrev counted : Tally
    counted = counted_of t m.rank m.id family (said_at file at)

    row_as : after_row v (state_in file span m) t family (ev_at file at next)
        ≡ cond (takes_at v ascending file stop (state_in file span m) at (next - at) family) (cond (changes v counted) (some (framing (after (state_in file span m) family (said_at file at)) counted)) none) none
    unfolding after_row
    row_as =
        let spanned : get_or spans (get_or file at 0) 0 ≡ suc (length body) = omega (arith, body_long, h.next_is, h.later) in
        let n : span_at spans file at ≡ next - at = omega (arith, h.next_is, h.later) in
        cond_and (allowed v ascending (state_in file span m) family (ev_at file at next)) (changes v (counted_of t m.rank m.id family (said_by (ev_at file at next)))) _
        ∙ sym (one_event_lem v ascending file spans stop [] (state_in file span m) at (ev_at file at next) (drop next file) stands_there spanned (omega (arith, body_long, h.ends, h.later)) family t (λ s c. cond (changes v c) (some (framing s c)) none))
        ∙ ap (λ (k : ℕ). cond (takes_at v ascending file stop (state_in file span m) at k family) (cond (changes v counted) (some (framing (after (state_in file span m) family (said_at file at)) counted)) none) none) n

    pub row_refused : takes_at v ascending file stop (state_in file span m) at (next - at) family ≡ false → after_row v (state_in file span m) t family (ev_at file at next) ≡ none
    row_refused e = row_as ∙ rw e

    pub row_wrong_lem : (r : Row) → r ≡ row.Wrong (row_reason v (state_in file span m) family (ev_at file at next)) → after_row v (state_in file span m) t family (ev_at file at next) ≡ none
        → RowOf v file span stop (state_in file span m) t family (ev_at file at next) next r
    row_wrong_lem r e n = subst (λ (x : Row). RowOf v file span stop (state_in file span m) t family (ev_at file at next) next x) (sym e) (n, refl)

    module _ (stage : Stage) (to : ℕ) (w : Word) (gone : Gone v ascending file span stop m at (next - at) family stage to w) (z : Tally) (z-is : z ≡ counted_of t m.rank m.id family (said_of w)) where
      tally_is : z ≡ counted
      tally_is = z-is ∙ ap (counted_of t m.rank m.id family) gone.said

      pub row_goes : Under t at → changes v z ≡ true → (after_row v (state_in file span m) t family (ev_at file at next) ≡ some (framing (state_in file span stage) z)) × Known v file span stop stage z next
      row_goes u e =
          let n : to ≡ next = omega (arith, gone.next_is, h.later) in (
            row_as ∙ rw (gone.taken, ← tally_is, e, ← gone.state_is),
            record {
              asked = subst (λ (k : ℕ). Asked v file span stop stage k) n gone.asked;
              under = subst (λ (x : Tally). Under x next) (sym z-is) (under_counted t m.rank m.id (said_of w) family at next u h.later);
            },
          )

      pub row_same : changes v z ≡ false → after_row v (state_in file span m) t family (ev_at file at next) ≡ none
      row_same e = row_as ∙ rw (gone.taken, ← tally_is, e)
