-- The laws of one event, wherever a replay stands.
-- Assumes nothing.
use mathlib.Core.Path.{◌≡◌, refl, sym, ap, subst, ◌∙◌}
use mathlib.Core.Bool.{Bool, true, false}
use mathlib.Core.List.{List}
use mathlib.Core.Option.{Option, none, some}
use Prim.Native.Nat.{ℕ, ◌+◌, ◌-◌, ◌*◌, ◌≤◌}
use native.Mathlib.Nat.{zero-mul}
use native.Mathlib.Omega.{arith}
use borrow.Author.Tests.{eq-eqb, ne_eqb}
use lib.ListN.{length, get_or, take, drop}
use Rattle.format.specs.Event.{code_of}
use Rattle.format.specs.File.{Ev}
use Rattle.format.specs.declared.event.Event.TheVariants.{MessageSplitter}
use Rattle.format.specs.declared.version.Version.{Version}
use Rattle.layout.specs.Payloads.{record_size, end_size}
use Rattle.layout.specs.declared.columns.Family.{Family}
use Rattle.layout.specs.declared.columns.Family.TheVariants.{Pre}
use Rattle.grammar.specs.Machine.{family_of, on_family, State, initial}
use Rattle.read_order.specs.Inner.{due_in, state_in}
use Rattle.read_order.specs.declared.stage.Stage.{Stage}
use Rattle.read_scan.specs.Counts.{no_tally, Under}
use Rattle.read_scan.specs.Inner.{kind_of, no_stage}
use Rattle.read_scan.specs.declared.event.Kind.TheVariants.{Frame, Other}
use Rattle.read_scan.specs.declared.tally.Tally.{Tally}
use Rattle.read_scan.proofs.Turns.{kind_frame}
use Rattle.read_outline.specs.Listed.{listed_right}
use Rattle.fault_reason.specs.Reason.{other_reason, block_reason, end_reason, third_reason, row_reason}
use Rattle.fault_reason.specs.Fault.{Stands, coding, framing, ending, over, after_block, after_frames, stands_next, reason_of}
use Rattle.fault_reason.specs.Inner.{ev}
use Rattle.fault_reason.proofs.Laws.{if_so, if_not}
use Rattle.fault_scan.specs.Inner.{ev_at, payload_at, Here, Blocked, FirstEnd, SecondEnd, Known, RowOf, stands_in, Fits, FramesOf, Turns}
use Rattle.fault_scan.specs.declared.standing.Standing.{Standing}
use Rattle.fault_scan.specs.declared.standing.Standing.TheVariants.{Coding, Framing, Ending, Over}
use Rattle.fault_scan.specs.declared.standing.Turned.{Turned}
use Rattle.fault_scan.specs.declared.standing.Turned.TheVariants as turned
use Rattle.fault_scan.specs.declared.around.Block.{Block}
use Rattle.fault_scan.specs.declared.around.Block.TheVariants as block
use Rattle.fault_scan.specs.declared.around.Closing.{Closing}
use Rattle.fault_scan.specs.declared.around.Closing.TheVariants as closing
use Rattle.fault_scan.specs.declared.row.Row.{Row}
use Rattle.fault_scan.specs.declared.row.Row.TheVariants as row
use Rattle.fault_scan.proofs.Laws.{body_long}

kind_other : (x : Option Family) → kind_of x ≡ Other → x ≡ none
kind_other none e = refl
kind_other (some g) e = let z : ◌≡◌ {A = ℕ} 0 1 = cc in absurd (omega arith)

-- ---- among frames

module _ (v : Version) (file : List ℕ) (span stop : ℕ) (s : State) (t : Tally) (e : Ev) (next : ℕ) where
  module _ (family : Family) (k : kind_of (family_of e.code) ≡ Frame family) where
    is_family : family_of e.code ≡ some family
    is_family = kind_frame (family_of e.code) family k

    row_to : (r : Row) → RowOf v file span stop s t family e next r → (stage : Stage) (tally : Tally) → r ≡ row.Goes stage tally → RowOf v file span stop s t family e next (row.Goes stage tally)
    row_to r h stage tally q = subst (λ (x : Row). RowOf v file span stop s t family e next x) q h

    row_not : (r : Row) → RowOf v file span stop s t family e next r → (reason : ℕ) → r ≡ row.Wrong reason → RowOf v file span stop s t family e next (row.Wrong reason)
    row_not r h reason q = subst (λ (x : Row). RowOf v file span stop s t family e next x) q h

    pub frames_row : (r : Row) → RowOf v file span stop s t family e next r → (stage : Stage) (tally : Tally) → r ≡ row.Goes stage tally
        → FramesOf v file span stop s t e next (turned.Goes (Framing stage tally))
    unfolding after_frames on_family
    frames_row r h stage tally q = let g = row_to r h stage tally q in (rw is_family g.0, g.1)

    pub frames_row_not : (r : Row) → RowOf v file span stop s t family e next r → (reason : ℕ) → r ≡ row.Wrong reason → FramesOf v file span stop s t e next (turned.Wrong reason)
    unfolding after_frames on_family
    frames_row_not r h reason q = let g = row_not r h reason q in (rw is_family g.0, rw is_family g.1)

  module _ (k : kind_of (family_of e.code) ≡ Other) where
    is_none : family_of e.code ≡ none
    is_none = kind_other (family_of e.code) k

    end_to : (c : Closing) → FirstEnd v s e c → c ≡ closing.Comes → FirstEnd v s e closing.Comes
    end_to c h q = subst (λ (x : Closing). FirstEnd v s e x) q h

    pub frames_end_not : (c : Closing) → FirstEnd v s e c → (reason : ℕ) → c ≡ closing.Wrong reason → FramesOf v file span stop s t e next (turned.Wrong reason)
    unfolding after_frames on_family
    frames_end_not c h reason q = let g = subst (λ (x : Closing). FirstEnd v s e x) q h in (rw is_none g.0, g.1 ∙ sym (ap (λ (f : Option Family). on_family f (λ family. row_reason v s family e) (end_reason v s e)) is_none))

    frames_end_as : (p : List ℕ) → e.payload ≡ p → (c : Closing) → FirstEnd v s e c → c ≡ closing.Comes → after_frames v s t e ≡ some (ending p)
    unfolding after_frames on_family
    frames_end_as p p-is c h q = rw is_none ((end_to c h q).0 ∙ ap (λ (l : List ℕ). some (ending l)) p-is)

module _ (v : Version) (file spans : List ℕ) (span stop at next : ℕ) (h : Here v file spans span stop at next) (s : State) (t : Tally) where
  pub frames_end : kind_of (family_of (get_or file at 0)) ≡ Other → (c : Closing) → FirstEnd v s (ev_at file at next) c → c ≡ closing.Comes
      → FramesOf v file span stop s t (ev_at file at next) next (turned.Goes (Ending at))
  frames_end k c f q =
      let n = (end_to v file span stop s t (ev_at file at next) next k c f q).1 in
      let size : next - (at + 1) ≡ end_size v = omega (arith, body_long v file spans span stop at next h, n) in
      (frames_end_as v file span stop s t (ev_at file at next) next k (payload_at file at (end_size v)) (ap (λ (m : ℕ). take m (drop (at + 1) file)) size) c f q, omega (arith, size, h.later))

-- ---- before them

pub known_none : (v : Version) (file : List ℕ) (span stop : ℕ) (m : Stage) → m ≡ no_stage → (t : Tally) → t ≡ no_tally → (at : ℕ) → at ≤ stop → stop ≤ length file → span ≡ 1 + record_size Pre v
    → Known v file span stop m t at
known_none v file span stop m q t e at h k s =
    let z = zero-mul span in
    let none_yet : Under no_tally at = record { frames = omega arith; items = omega arith; fods = omega arith; whispys = omega arith; stadiums = omega arith } in
    subst (λ (n : Stage). Known v file span stop n t at) (sym q)
    (record {
      asked = record { held = record { inside = omega arith; joined = λ x y. absurd (y refl) }; under = h; long = k; span_is = s };
      under = subst (λ (x : Tally). Under x at) (sym e) none_yet;
    })

pub begins_as : (file : List ℕ) (span : ℕ) (m : Stage) → m ≡ no_stage → (t : Tally) → t ≡ no_tally → framing initial no_tally ≡ framing (state_in file span m) t
unfolding due_in
begins_as file span m q t e = λ i. framing (state_in file span (sym q i)) (sym e i)

module _ (v : Version) (file spans : List ℕ) (span stop at next : ℕ) (h : Here v file spans span stop at next) (g n : ℕ) where
  module _ (code_is : get_or file at 0 ≡ code_of MessageSplitter) (b : Block) (f : Blocked v g n (ev (code_of MessageSplitter) (take (next - (at + 1)) (drop (at + 1) file))) b) where
    blocked : Blocked v g n (ev_at file at next) b
    blocked = subst (λ (c : ℕ). Blocked v g n (ev c (take (next - (at + 1)) (drop (at + 1) file))) b) (sym code_is) f

    coded_as : stands_next v g (coding n) (ev_at file at next) ≡ after_block v g n (ev_at file at next)
    unfolding stands_next
    coded_as = rw (eq-eqb (get_or file at 0) (code_of MessageSplitter) code_is)

    why_as : block_reason v g (ev_at file at next) ≡ reason_of v g (coding n) (ev_at file at next)
    unfolding reason_of
    why_as = sym (rw (eq-eqb (get_or file at 0) (code_of MessageSplitter) code_is))

    pub coded_full : 512 * n ≤ at → b ≡ block.Full → Turns v file span stop g (coding n) (ev_at file at next) next (turned.Goes (Coding (n + 1)))
    coded_full l q =
        let x = subst (λ (y : Block). Blocked v g n (ev_at file at next) y) q blocked in
        (coded_as ∙ x.0, omega (arith, x.1, body_long v file spans span stop at next h, h.later))

    pub coded_last : b ≡ block.Last → (m : Stage) → m ≡ no_stage → (t : Tally) → t ≡ no_tally → Turns v file span stop g (coding n) (ev_at file at next) next (turned.Goes (Framing m t))
    coded_last q m m-is t t-is =
        let x = subst (λ (y : Block). Blocked v g n (ev_at file at next) y) q blocked in
        (coded_as ∙ x ∙ ap {B = Option Stands} some (begins_as file span m m-is t t-is), known_none v file span stop m m-is t t-is next h.ends h.long h.span_is)

    pub coded_wrong : (reason : ℕ) → b ≡ block.Wrong reason → Turns v file span stop g (coding n) (ev_at file at next) next (turned.Wrong reason)
    coded_wrong reason q =
        let x = subst (λ (y : Block). Blocked v g n (ev_at file at next) y) q blocked in
        (coded_as ∙ x.0, x.1 ∙ why_as)

module _ (v : Version) (file : List ℕ) (span stop g n : ℕ) (e : Ev) (next : ℕ) (other : e.code ≡ code_of MessageSplitter → ⊥) where
  module _ (few : n ≡ 0) (listed : Bool) (listed-is : listed ≡ listed_right v g 0 0) where
    pub coding_frames : listed ≡ true → (m : Stage) → m ≡ no_stage → (t : Tally) → t ≡ no_tally → (r : Turned) → FramesOf v file span stop (state_in file span m) t e next r
        → Turns v file span stop g (coding n) e next r
    unfolding stands_next reason_of
    coding_frames y m m-is t t-is r f = go r (back f)
      where
        back : FramesOf v file span stop (state_in file span m) t e next r → FramesOf v file span stop initial no_tally e next r
        back = subst (λ (x : Stands). on x) (sym (begins_as file span m m-is t t-is))
          where
            on : Stands → Type 0
            on (coding k) = Unit {0}
            on (framing s y) = FramesOf v file span stop s y e next r
            on (ending p) = Unit {0}
            on over = Unit {0}

        go : (r : Turned) → FramesOf v file span stop initial no_tally e next r → Turns v file span stop g (coding n) e next r
        go (turned.Goes x) f = (rw (ne_eqb e.code (code_of MessageSplitter) other, eq-eqb n 0 few, sym listed-is ∙ y) f.0, f.1)
        go (turned.Wrong reason) f =
            (rw (ne_eqb e.code (code_of MessageSplitter) other, eq-eqb n 0 few, sym listed-is ∙ y) f.0, if_not _ _ _ _ (ne_eqb e.code (code_of MessageSplitter) other) (if_so _ _ _ _ (eq-eqb n 0 few) (if_so _ _ _ _ (sym listed-is ∙ y) f.1)))

    pub coding_unlisted : listed ≡ false → Turns v file span stop g (coding n) e next (turned.Wrong 19)
    unfolding stands_next reason_of
    coding_unlisted z =
        (rw (ne_eqb e.code (code_of MessageSplitter) other, eq-eqb n 0 few, sym listed-is ∙ z), if_not _ _ _ _ (ne_eqb e.code (code_of MessageSplitter) other) (if_so _ _ _ _ (eq-eqb n 0 few) (if_not _ _ _ _ (sym listed-is ∙ z) refl)))

  pub coding_open : (n ≡ 0 → ⊥) → (reason : ℕ) → reason ≡ other_reason e.code → Turns v file span stop g (coding n) e next (turned.Wrong reason)
  unfolding stands_next reason_of
  coding_open some_blocks reason q =
      (rw (ne_eqb e.code (code_of MessageSplitter) other, ne_eqb n 0 some_blocks), if_not _ _ _ _ (ne_eqb e.code (code_of MessageSplitter) other) (if_not _ _ _ _ (ne_eqb n 0 some_blocks) q))

-- ---- behind them

module _ (v : Version) (file : List ℕ) (span stop g : ℕ) (e : Ev) (next : ℕ) where
  module _ (place k : ℕ) (k-is : k ≡ end_size v) (c : Closing) (f : SecondEnd v (take k (drop (place + 1) file)) e c) where
    second : SecondEnd v (payload_at file place (end_size v)) e c
    second = subst (λ (m : ℕ). SecondEnd v (take m (drop (place + 1) file)) e c) k-is f

    pub ending_over : c ≡ closing.Comes → Turns v file span stop g (ending (payload_at file place (end_size v))) e next (turned.Goes Over)
    unfolding stands_next
    ending_over q = (subst (λ (x : Closing). SecondEnd v (payload_at file place (end_size v)) e x) q second, tt)

    pub ending_wrong : (reason : ℕ) → c ≡ closing.Wrong reason → Turns v file span stop g (ending (payload_at file place (end_size v))) e next (turned.Wrong reason)
    unfolding stands_next reason_of
    ending_wrong reason q = subst (λ (x : Closing). SecondEnd v (payload_at file place (end_size v)) e x) q second

  pub over_wrong : (reason : ℕ) → reason ≡ third_reason e → Turns v file span stop g over e next (turned.Wrong reason)
  unfolding stands_next reason_of
  over_wrong reason q = (refl, q)

  pub framing_turns : (s : State) (t : Tally) (r : Turned) → FramesOf v file span stop s t e next r → Turns v file span stop g (framing s t) e next r
  unfolding stands_next reason_of
  framing_turns s t (turned.Goes x) f = f
  framing_turns s t (turned.Wrong reason) f = f

  pub turns_as : (x y : Standing) → x ≡ y → (r : Turned) → Turns v file span stop g (stands_in v file span stop y) e next r → Turns v file span stop g (stands_in v file span stop x) e next r
  turns_as x y q r f = subst (λ (z : Standing). Turns v file span stop g (stands_in v file span stop z) e next r) (sym q) f

  pub fits_as : (x y : Standing) → x ≡ y → (at : ℕ) → Fits v file span stop x at → Fits v file span stop y at
  fits_as x y q at f = subst (λ (z : Standing). Fits v file span stop z at) q f
