-- What the machine takes is well-formed frames, and what follows them.
-- Assumes nothing.
use mathlib.Core.Path.{◌≡◌, refl, sym, ap, ap₂, subst, ◌∙◌}
use mathlib.Core.Bool.{true, false, cond, not, ◌&&◌, ◌||◌}
use mathlib.Core.List.{List, [], ◌∷◌, ◌++◌, append_assoc}
use mathlib.Core.Logic.{◌↔◌}
use mathlib.Core.Option.{Option, none, some, some-injective, none-ne-some}
use Prim.Native.Nat.{ℕ, ◌/◌, ◌%◌, ◌^◌, ◌≤◌, ◌<◌}
use native.Mathlib.Omega.{arith}
use native.Mathlib.Decide.{ℕ_discrete}
use borrow.Author.Tests.{leb-true, eqb-true, eq-eqb, ne_eqb, not-true}
use lib.Dec.{leb, eqb}
use lib.ListN.{length, take, drop, length-drop}
use lib.Seq.{get_or-drop}
use Rattle.wire.specs.Wire.{be, more, number, keep, ranged}
use Rattle.format.specs.Event.{code_of}
use Rattle.format.specs.File.{Ev}
use Rattle.format.specs.declared.version.Version.{Version}
use Rattle.layout.specs.Columns.{has_family, size_of}
use Rattle.layout.specs.Payloads.{event_of, record_size}
use Rattle.layout.specs.declared.columns.Family.{Family}
use Rattle.layout.specs.declared.columns.Family.TheVariants.{Pre, Post, FrameStart, Item, FrameEnd, FodPlatform, DreamlandWhispy, StadiumTransformation}
use Rattle.grammar.specs.Productions.{Frame, row_event, events_of_frame, events_of_frames}
use Rattle.grammar.specs.WellFormed.{nobody, Each, Order, may_come, GoodFrame}
use Rattle.grammar.specs.Machine.{family_of, State, state, initial, slot_said, id_in, port_in, follower_in, said_by, is_next, closed, in_frame, player, orderly, allowed, due_after, after, on_family, rest}
use Rattle.grammar.proofs.Tests.{taken, both, Or, left_is, right_is, either}
use Rattle.grammar.proofs.Unique.{no_start_lem}
use Rattle.grammar.proofs.Takes.{closed_due, closed_last, NoFrame, complete}
use Rattle.grammar.proofs.Left.{Bodies, family_at, left_events, add, added, GoodBody, Shape, shape_none, shape_add, Seated, slot_at, Matched, matched_none, matched_pre, matched_post, matched_row}
use Rattle.grammar.proofs.Made.{made, made_events, made_good}

-- ---- an event and what it says

pick_code : (d c : ℕ) (one : Family) (other : Option Family) (family : Family) → code_of (event_of one) ≡ d → cond (eqb c d) (some one) other ≡ some family
    → (other ≡ some family → code_of (event_of family) ≡ c) → code_of (event_of family) ≡ c
pick_code d c one other family h q more =
    elim (ℕ_discrete c d) [
      | yes e ↦
          let p : some one ≡ some family = rw (eq-eqb c d e) at q in
          subst (λ (f : Family). code_of (event_of f) ≡ c) (some-injective one family p) (h ∙ sym e)
      | no n ↦ more (rw (ne_eqb c d n) at q)
    ]

code_of_lem : (c : ℕ) (family : Family) → family_of c ≡ some family → code_of (event_of family) ≡ c
unfolding family_of
code_of_lem c family q =
    pick_code 0x37 c Pre _ family refl q (λ q. pick_code 0x38 c Post _ family refl q (λ q. pick_code 0x3A c FrameStart _ family refl q (λ q.
    pick_code 0x3B c Item _ family refl q (λ q. pick_code 0x3C c FrameEnd _ family refl q (λ q. pick_code 0x3F c FodPlatform _ family refl q (λ q.
    pick_code 0x40 c DreamlandWhispy _ family refl q (λ q. pick_code 0x41 c StadiumTransformation _ family refl q (λ q. absurd (none-ne-some family q)))))))))

abbrev pub Byte : ℕ → Type 0
Byte b = b < 256

payload_is : (p : List ℕ) → 4 ≤ length p → Each Byte p → (be 4 (number (take 4 p)) ++ drop 4 p ≡ p) × (number (take 4 p) < 2 ^ 32)
unfolding Each be more
payload_is [] h k = absurd (omega arith)
payload_is (a ∷ []) h k = absurd (omega arith)
payload_is (a ∷ b ∷ []) h k = absurd (omega arith)
payload_is (a ∷ b ∷ c ∷ []) h k = absurd (omega arith)
payload_is (a ∷ b ∷ c ∷ d ∷ p) h k =
    let x = number (a ∷ b ∷ c ∷ d ∷ []) in
    let a0 : a < 256 = k.0 in
    let b0 : b < 256 = k.1.0 in
    let c0 : c < 256 = k.1.1.0 in
    let d0 : d < 256 = k.1.1.1.0 in
    let a1 : x / 256 ^ 3 % 256 ≡ a = omega arith in
    let b1 : x / 256 ^ 2 % 256 ≡ b = omega arith in
    let c1 : x / 256 ^ 1 % 256 ≡ c = omega arith in
    let d1 : x / 256 ^ 0 % 256 ≡ d = omega arith in
    (λ i. a1 i ∷ b1 i ∷ c1 i ∷ d1 i ∷ p, omega arith)

abbrev body : Ev → List ℕ
body e = drop 4 e.payload

event_is : (family : Family) (e : Ev) → family_of e.code ≡ some family → 4 ≤ length e.payload → Each Byte e.payload → e ≡ row_event family (id_in e) (body e)
event_is family e f h k = let p = (payload_is e.payload h k).0 in let c = code_of_lem e.code family f in λ i. record { code = sym c i; payload = sym p i }

slot_is : (e : Ev) → slot_said (said_by e) ≡ slot_at (body e)
slot_is e = rw (get_or-drop 4 e.payload 0 0, get_or-drop 4 e.payload 1 0)

-- ---- the frames that a run found: what was left of the one that it began in, and those after it

pub record Found (v : Version) (o : Order) (s : State) (es t : List Ev) : Type 0 where
  pub left : Bodies
  pub frames : List Frame
  pub shape : Shape v s.rank left
  pub match : Matched o s.due left
  pub good : Each (GoodFrame v o) frames
  pub after_is : NoFrame t
  pub events_are : es ≡ left_events s.id left ++ (events_of_frames v frames ++ t)

module _ (v : Version) (o : Order) where
  closed_rank : (s : State) → closed v s ≡ true → has_family v FrameEnd ≡ true → 8 ≤ s.rank
  unfolding closed
  closed_rank s c e =
      let d = (both (nobody s.due) (not (has_family v FrameEnd) || eqb s.rank 8) c).1 in
      let q = eqb-true s.rank 8 (rw e at d) in
      omega arith

  -- at a closed state nothing is left of the frame
  between : (s : State) (es t : List Ev) (frames : List Frame) → closed v s ≡ true → Each (GoodFrame v o) frames → NoFrame t → es ≡ events_of_frames v frames ++ t → Found v o s es t
  unfolding ranged
  between s es t frames c g n q = record {
    left = λ r. [];
    frames = frames;
    shape = shape_none v s.rank (closed_rank s c);
    match = matched_none o s.due (closed_due v s c);
    good = g;
    after_is = n;
    events_are = q;
  }

  module _ (s : State) (e : Ev) (es t : List Ev) (r : ℕ) (fam : family_of e.code ≡ some (family_at r)) (big : 4 ≤ length e.payload) (bytes : Each Byte e.payload)
      (good : GoodBody v r (body e)) where
    -- an event of the frame
    within : 2 ≤ r → r ≤ 8 → s.rank ≤ r → s.rank ≤ 7 → s.id ≡ id_in e → (due : List ℕ) → (h : Found v o (state r (id_in e) due) es t)
        → Matched o s.due (add h.left r (body e)) → Found v o s (e ∷ es) t
    within x y l m i due h k = record {
      left = add h.left r (body e);
      frames = h.frames;
      shape = shape_add v s.rank r h.left (body e) h.shape l m y good;
      match = k;
      good = h.good;
      after_is = h.after_is;
      events_are =
          ap₂ (λ (a : Ev) (l : List Ev). a ∷ l) (event_is (family_at r) e fam big bytes) h.events_are
          ∙ added (id_in e) h.left r (body e) (events_of_frames v h.frames ++ t) 2 7 x (omega arith) h.shape.gone
          ∙ ap (λ (n : ℕ). left_events n (add h.left r (body e)) ++ (events_of_frames v h.frames ++ t)) (sym i);
    }

  -- the first event of a frame: its start, or a Pre
  opened : (s : State) (e : Ev) (es t : List Ev) → family_of e.code ≡ some FrameStart → 4 ≤ length e.payload → Each Byte e.payload → has_family v FrameStart ≡ true
      → length (body e) ≡ size_of FrameStart v → closed v s ≡ true → Found v o (state 1 (id_in e) s.due) es t → Found v o s (e ∷ es) t
  unfolding events_of_frames Each keep
  opened s e es t fam big bytes has size c h =
      let d = closed_due v s c in
      let m = subst (λ (ks : List ℕ). Matched o ks h.left) d h.match in
      let f = made (id_in e) (body e) h.left in
      let good = made_good v o 1 (id_in e) (body e) h.left (omega arith) h.shape m (payload_is e.payload big bytes).1 size
      (λ x. let z : ◌≡◌ {A = ℕ} 0 1 = cc in absurd (omega arith)) in
      between s (e ∷ es) t (f ∷ h.frames) c (good, h.good) h.after_is
      (ap₂ (λ (a : Ev) (l : List Ev). a ∷ l) (event_is FrameStart e fam big bytes) h.events_are
      ∙ sym (append_assoc (events_of_frame v f) (events_of_frames v h.frames) t
      ∙ made_events v o 1 (id_in e) (body e) h.left (omega arith) h.shape m (events_of_frames v h.frames ++ t)
      ∙ rw has))

  begun : (s : State) (e : Ev) (es t : List Ev) → family_of e.code ≡ some Pre → 4 ≤ length e.payload → Each Byte e.payload → GoodBody v 2 (body e) → Seated (body e)
      → may_come o s.due (slot_at (body e)) ≡ true → has_family v FrameStart ≡ false → closed v s ≡ true → Found v o (state 2 (id_in e) (s.due ++ (slot_at (body e) ∷ []))) es t
      → Found v o s (e ∷ es) t
  unfolding events_of_frames Each keep
  begun s e es t fam big bytes body-good seated may lacks c h =
      let d = closed_due v s c in
      let left = add h.left 2 (body e) in
      let m = subst (λ (ks : List ℕ). Matched o ks left) d (matched_pre o s.due h.left (body e) seated may h.match) in
      let shape = shape_add v 2 2 h.left (body e) h.shape (omega arith) (omega arith) (omega arith) body-good in
      let f = made (id_in e) [] left in
      let good = made_good v o 2 (id_in e) [] left (omega arith) shape m (payload_is e.payload big bytes).1 (sym (no_start_lem v lacks)) (λ x. omega arith) in
      between s (e ∷ es) t (f ∷ h.frames) c (good, h.good) h.after_is
      (ap₂ (λ (a : Ev) (l : List Ev). a ∷ l) (event_is Pre e fam big bytes) h.events_are
      ∙ added (id_in e) h.left 2 (body e) (events_of_frames v h.frames ++ t) 2 7 (omega arith) (omega arith) h.shape.gone
      ∙ sym (append_assoc (events_of_frame v f) (events_of_frames v h.frames) t
      ∙ made_events v o 2 (id_in e) [] left (omega arith) shape m (events_of_frames v h.frames ++ t)
      ∙ rw lacks))

-- ---- each event that may come

in_frame_of : (s : State) (r : ℕ) (e : Ev) → in_frame s r (said_by e) ≡ true → (s.rank ≤ r) × (s.id ≡ id_in e)
unfolding in_frame
in_frame_of s r e q = let (a, b) = both (leb s.rank r) (eqb s.id (id_in e)) q in (leb-true s.rank r a, eqb-true s.id (id_in e) b)

seated_of : (e : Ev) → 6 ≤ length e.payload → player (said_by e) ≡ true → Seated (body e)
unfolding player
seated_of e n q =
    let (a, b) = both (leb (port_in e) 3) (leb (follower_in e) 1) q in
    let p = get_or-drop 4 e.payload 0 0 in
    let f = get_or-drop 4 e.payload 1 0 in
    let x = leb-true (port_in e) 3 a in
    let y = leb-true (follower_in e) 1 b in
    record { long = omega (arith, length-drop 4 e.payload); port = omega arith; follower = omega arith }

next_is : (ks : List ℕ) (k : ℕ) → is_next ks k ≡ true → ks ≡ k ∷ due_after Post ks k
unfolding is_next due_after
next_is [] k q = let z : ◌≡◌ {A = ℕ} 0 1 = cc in absurd (omega arith)
next_is (j ∷ ks) k q = let e = eqb-true j k q in λ i. e i ∷ ks

module _ (v : Version) (o : Order) (s : State) (e : Ev) (es t : List Ev) (bytes : Each Byte e.payload) where
  module _ (family : Family) (q : allowed v o s family e ≡ true) where
    parts : (has_family v family ≡ true) × (length e.payload ≡ record_size family v) × (orderly v o s family (said_by e) ≡ true)
    unfolding allowed
    parts =
        let (a, b) = both (has_family v family && eqb (length e.payload) (record_size family v)) (orderly v o s family (said_by e)) q in
        let (c, d) = both (has_family v family) (eqb (length e.payload) (record_size family v)) a in
        (c, eqb-true (length e.payload) (record_size family v) d, b)

  -- a row of the stage or of an item
  row_step : (r : ℕ) → family_of e.code ≡ some (family_at r) → has_family v (family_at r) ≡ true → length e.payload ≡ record_size (family_at r) v → 4 ≤ length e.payload → 3 ≤ r
      → r ≤ 6
      → in_frame s r (said_by e) ≡ true → Found v o (state r (id_in e) s.due) es t → Found v o s (e ∷ es) t
  row_step r fam has size big x y q h =
      let (l, i) = in_frame_of s r e q in
      within v o s e es t r fam big bytes (record { has = has; size = omega (arith, length-drop 4 e.payload) }) (omega arith) (omega arith) l (omega arith) i s.due h
      (matched_row o s.due h.left (body e) r (λ z. omega arith) (λ z. omega arith) h.match)

  step : (family : Family) → family_of e.code ≡ some family → allowed v o s family e ≡ true → Found v o (after s family (said_by e)) es t → Found v o s (e ∷ es) t
  unfolding orderly due_after
  step FodPlatform fam q h = let (has, size, order) = parts FodPlatform q in row_step 3 fam has size (omega arith) (omega arith) (omega arith) order h
  step DreamlandWhispy fam q h = let (has, size, order) = parts DreamlandWhispy q in row_step 4 fam has size (omega arith) (omega arith) (omega arith) order h
  step StadiumTransformation fam q h = let (has, size, order) = parts StadiumTransformation q in row_step 5 fam has size (omega arith) (omega arith) (omega arith) order h
  step Item fam q h = let (has, size, order) = parts Item q in row_step 6 fam has size (omega arith) (omega arith) (omega arith) order h
  step FrameStart fam q h =
      let (has, size, order) = parts FrameStart q in
      opened v o s e es t fam (omega arith) bytes has (omega (arith, length-drop 4 e.payload)) order h
  step FrameEnd fam q h =
      let (has, size, order) = parts FrameEnd q in
      let inside = (both (in_frame s 7 (said_by e)) (nobody s.due) order).0 in
      let (l, i) = in_frame_of s 7 e inside in
      within v o s e es t 8 fam (omega arith) bytes (record { has = has; size = omega (arith, length-drop 4 e.payload) }) (omega arith) (omega arith) (omega arith) l i s.due
      h
      (matched_row o s.due h.left (body e) 8 (λ z. omega arith) (λ z. omega arith) h.match)
  step Post fam q h =
      let (has, size, order) = parts Post q in
      let (inside, more) = both (in_frame s 7 (said_by e)) (player (said_by e) && is_next s.due (slot_said (said_by e))) order in
      let (p, n) = both (player (said_by e)) (is_next s.due (slot_said (said_by e))) more in
      let (l, i) = in_frame_of s 7 e inside in
      let ks = due_after Post s.due (slot_said (said_by e)) in
      let due : s.due ≡ slot_at (body e) ∷ ks = next_is s.due (slot_said (said_by e)) n ∙ ap (λ (k : ℕ). k ∷ ks) (slot_is e) in
      within v o s e es t 7 fam (omega arith) bytes (record { has = has; size = omega (arith, length-drop 4 e.payload) }) (omega arith) (omega arith) l l i ks h
      (matched_post o s.due h.left (body e) ks due (h.shape.gone 2 (omega arith)) (seated_of e (omega arith) p) h.match)
  step Pre fam q h =
      let (has, size, order) = parts Pre q in
      let (place, more) = both (in_frame s 2 (said_by e) || (not (has_family v FrameStart) && closed v s)) (player (said_by e) && may_come o s.due (slot_said (said_by e))) order in
      let (p, m) = both (player (said_by e)) (may_come o s.due (slot_said (said_by e))) more in
      let k = slot_is e in
      let may = ap (λ (n : ℕ). may_come o s.due n) (sym k) ∙ m in
      let seated = seated_of e (omega arith) p in
      let good : GoodBody v 2 (body e) = record { has = has; size = omega (arith, length-drop 4 e.payload) } in
      let h' = subst (λ (n : ℕ). Found v o (state 2 (id_in e) (s.due ++ (n ∷ []))) es t) k h in
      go (either (in_frame s 2 (said_by e)) (not (has_family v FrameStart) && closed v s) place) may seated good h' (omega arith)
    where
      go : Or (in_frame s 2 (said_by e)) (not (has_family v FrameStart) && closed v s) → may_come o s.due (slot_at (body e)) ≡ true → Seated (body e) → GoodBody v 2 (body e)
          → Found v o (state 2 (id_in e) (s.due ++ (slot_at (body e) ∷ []))) es t → 4 ≤ length e.payload → Found v o s (e ∷ es) t
      go (left_is x) may seated good h big =
          let (l, i) = in_frame_of s 2 e x in
          within v o s e es t 2 fam big bytes good (omega arith) (omega arith) l (omega arith) i (s.due ++ (slot_at (body e) ∷ [])) h
          (matched_pre o s.due h.left (body e) seated may h.match)
      go (right_is x) may seated good h big =
          let (a, c) = both (not (has_family v FrameStart)) (closed v s) x in
          begun v o s e es t fam big bytes good seated may (not-true (has_family v FrameStart) a) c h

pub sound : (v : Version) (o : Order) (es : List Ev) → Each (λ e. Each Byte e.payload) es → (s : State) (t : List Ev) → rest v o s es ≡ some t → Found v o s es t
unfolding rest on_family Each events_of_frames
sound v o [] b s t q =
    let (c, e) = taken (closed v s) (some []) t q in
    let i = some-injective [] t e in
    subst (λ (l : List Ev). Found v o s [] l) i (between v o s [] [] [] c tt tt refl)
sound v o (e ∷ es) b s t q = go (family_of e.code) refl q (λ s q. sound v o es b.1 s t q)
  where
    go : (f : Option Family) → family_of e.code ≡ f
        → on_family f (λ family. cond (allowed v o s family e) (rest v o (after s family (said_by e)) es) none) (cond (closed v s) (some (e ∷ es)) none) ≡ some t
        → ((s : State) → rest v o s es ≡ some t → Found v o s es t) → Found v o s (e ∷ es) t
    go none x q more =
        let (c, y) = taken (closed v s) (some (e ∷ es)) t q in
        let i = some-injective (e ∷ es) t y in
        subst (λ (l : List Ev). Found v o s (e ∷ es) l) i (between v o s (e ∷ es) (e ∷ es) [] c tt x refl)
    go (some family) x q more =
        let (a, y) = taken (allowed v o s family e) (rest v o (after s family (said_by e)) es) t q in
        step v o s e es t b.0 family x a (more (after s family (said_by e)) y)

-- ---- from the beginning: the frames, and nothing before them

pub record Taken (v : Version) (o : Order) (es t : List Ev) : Type 0 where
  pub frames : List Frame
  pub good : Each (GoodFrame v o) frames
  pub after_is : NoFrame t
  pub events_are : es ≡ events_of_frames v frames ++ t

at_first : (v : Version) (id : ℕ) (left : Bodies) → Shape v 8 left → left_events id left ≡ []
unfolding ranged
at_first v id left h =
    let g : (q : ℕ) → q < 8 → left q ≡ [] = h.gone in
    rw (g 2 (omega arith), g 3 (omega arith), g 4 (omega arith), g 5 (omega arith), g 6 (omega arith), g 7 (omega arith), h.over (omega arith))

-- the machine takes exactly well-formed frames with something else after them
pub exactly : (v : Version) (o : Order) (es t : List Ev) → Each (λ e. Each Byte e.payload) es → (rest v o initial es ≡ some t) ↔ Taken v o es t
exactly v o es t b = (
  λ q. let f = sound v o es b initial t q in
      record { frames = f.frames; good = f.good; after_is = f.after_is; events_are = f.events_are ∙ ap (λ (l : List Ev). l ++ (events_of_frames v f.frames ++ t)) (at_first v 0 f.left f.shape) },
  λ h. ap (λ (l : List Ev). rest v o initial l) h.events_are ∙ complete v o t h.after_is h.frames h.good initial (closed_last v 0),
)
