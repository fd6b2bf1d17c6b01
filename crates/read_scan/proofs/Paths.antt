-- The events of a frame as a path of the machine, and the same path in a frame that is like it: the machine asks ids only for being equal.
-- Assumes nothing.
use mathlib.Core.Path.{◌≡◌, refl, sym, ap, subst, ◌∙◌}
use mathlib.Core.Bool.{Bool, true, false, cond, not, ◌&&◌, ◌||◌}
use mathlib.Core.List.{List, [], ◌∷◌}
use mathlib.Core.Option.{Option, none, some}
use Prim.Native.Nat.{ℕ, zero, suc, ◌+◌, ◌*◌, ◌≤◌, ◌<◌}
use native.Mathlib.Nat.{zero-add}
use native.Mathlib.Omega.{arith}
use borrow.Author.Tests.{le-leb, lt-leb, leb-true, eqb-true, eq-eqb}
use lib.Dec.{leb, eqb}
use lib.ListN.{get_or}
use Rattle.format.specs.declared.version.Version.{Version}
use Rattle.layout.specs.Columns.{has_family}
use Rattle.layout.specs.Payloads.{record_size}
use Rattle.layout.specs.declared.columns.Family.{Family}
use Rattle.layout.specs.declared.columns.Family.TheVariants.{Pre, Post, FrameStart, Item, FrameEnd, FodPlatform, DreamlandWhispy, StadiumTransformation}
use Rattle.game.specs.Frames.{is_marked}
use Rattle.grammar.specs.WellFormed.{Order, nobody, may_come}
use Rattle.grammar.specs.Machine.{family_of, on_family, State, state, slot_said, rank_of, is_next, closed, in_frame, player, orderly, due_after, after}
use Rattle.grammar.proofs.Tests.{both}
use Rattle.read_scan.specs.Counts.{tally, begun_at, sat, of_frame, counted_of}
use Rattle.read_scan.specs.Inner.{said_at, span_at, takes_at, takes, scan, tallied}
use Rattle.read_scan.specs.Alike.{id_at, Hops, Seat, Who, Like, Alike}
use Rattle.read_scan.specs.declared.tally.Tally.{Tally}
use Rattle.read_scan.proofs.Marks.{marked_stays}

-- an event that the machine takes at e; a Pre's slot is marked
pub record Step (v : Version) (o : Order) (file spans : List ℕ) (stop slots e : ℕ) (s : State) (family : Family) : Type 0 where
  pub inside : e < stop
  pub is : family_of (get_or file e 0) ≡ some family
  pub taken : takes v o file spans stop s e family ≡ true
  pub marked : family ≡ Pre → is_marked slots (slot_said (said_at file e)) ≡ true

-- n of them from e to a place, with the states and the tallies of both
unfoldable pub Path : Version → Order → List ℕ → List ℕ → ℕ → ℕ → ℕ → ℕ → State → Tally → ℕ → State → Tally → Type 0
Path v o file spans stop slots zero e s y at z t = (e ≡ at) × (s ≡ z) × (y ≡ t)
Path v o file spans stop slots (suc n) e s y at z t =
    (family : Family)
    × Step v o file spans stop slots e s family
    × Path v o file spans stop slots n (e + span_at spans file e) (after s family (said_at file e)) (counted_of y s.rank s.id family (said_at file e)) at z t

module _ (v : Version) (o : Order) (file spans : List ℕ) (stop : ℕ) where
  -- ---- one event

  module _ (slots e : ℕ) (s : State) (family : Family) (x : Step v o file spans stop slots e s family) where
    parts : (has_family v family ≡ true) × (span_at spans file e ≡ 1 + record_size family v) × (e + span_at spans file e ≤ stop) × (orderly v o s family (said_at file e) ≡ true)
    unfolding takes_at
    parts =
        let n = span_at spans file e in
        let (a, b) = both (has_family v family && eqb n (1 + record_size family v)) (leb (e + n) stop && orderly v o s family (said_at file e)) x.taken in
        let (c, d) = both (has_family v family) (eqb n (1 + record_size family v)) a in
        let (f, g) = both (leb (e + n) stop) (orderly v o s family (said_at file e)) b in
        (c, eqb-true n (1 + record_size family v) d, leb-true (e + n) stop f, g)

    step_scan : (k : ℕ) → scan v o file spans stop (suc k) e s ≡ scan v o file spans stop k (e + span_at spans file e) (after s family (said_at file e))
    unfolding scan on_family
    step_scan k = rw (lt-leb stop e x.inside, x.is, x.taken)

    step_tallied : (k : ℕ) (y : Tally) → tallied v o file spans stop (suc k) e s y
        ≡ tallied v o file spans stop k (e + span_at spans file e) (after s family (said_at file e)) (counted_of y s.rank s.id family (said_at file e))
    unfolding tallied on_family
    step_tallied k y = rw (lt-leb stop e x.inside, x.is, x.taken)

  -- ---- a path

  pub path_none : (slots e : ℕ) (s : State) (y : Tally) → Path v o file spans stop slots zero e s y e s y
  unfolding Path
  path_none slots e s y = (refl, refl, refl)

  -- an event more at its end
  pub path_snoc : (slots n e : ℕ) (s : State) (y : Tally) (at : ℕ) (z : State) (t : Tally) → Path v o file spans stop slots n e s y at z t
      → (family : Family) → Step v o file spans stop slots at z family
      → (next : ℕ) → next ≡ at + span_at spans file at → (z' : State) → z' ≡ after z family (said_at file at)
      → (t' : Tally) → t' ≡ counted_of t z.rank z.id family (said_at file at)
      → Path v o file spans stop slots (suc n) e s y next z' t'
  unfolding Path
  path_snoc slots zero e s y at z t (p, q, r) family x next a z' b t' c = (
    family,
    subst (λ (k : ℕ). Step v o file spans stop slots k s family) (sym p) (subst (λ (w : State). Step v o file spans stop slots at w family) (sym q) x),
    (ap (λ (k : ℕ). k + span_at spans file k) p ∙ sym a, (λ i. after (q i) family (said_at file (p i))) ∙ sym b, (λ i. counted_of (r i) (q i).rank (q i).id family (said_at file (p i))) ∙ sym c),
  )
  path_snoc slots (suc n) e s y at z t (f, w, h) family x next a z' b t' c = (
    f,
    w,
    path_snoc slots n (e + span_at spans file e) (after s f (said_at file e)) (counted_of y s.rank s.id f (said_at file e)) at z t h family x next a z' b t' c,
  )

  -- more slots are marked
  pub path_more : (slots more : ℕ) → ((k : ℕ) → is_marked slots k ≡ true → is_marked more k ≡ true) → (n e : ℕ) (s : State) (y : Tally) (at : ℕ) (z : State) (t : Tally)
      → Path v o file spans stop slots n e s y at z t → Path v o file spans stop more n e s y at z t
  unfolding Path
  path_more slots more f zero e s y at z t h = h
  path_more slots more f (suc n) e s y at z t (g, x, h) = (
    g,
    record { inside = x.inside; is = x.is; taken = x.taken; marked = λ q. f (slot_said (said_at file e)) (x.marked q) },
    path_more slots more f n (e + span_at spans file e) (after s g (said_at file e)) (counted_of y s.rank s.id g (said_at file e)) at z t h,
  )

  pub path_long : (slots n e : ℕ) (s : State) (y : Tally) (at : ℕ) (z : State) (t : Tally) → Path v o file spans stop slots n e s y at z t → (e + n ≤ at) × Hops file spans n e at
  unfolding Path Hops
  path_long slots zero e s y at z t (p, q, r) = (omega arith, p)
  path_long slots (suc n) e s y at z t (f, x, h) =
      let (l, k) = path_long slots n (e + span_at spans file e) (after s f (said_at file e)) (counted_of y s.rank s.id f (said_at file e)) at z t h in
      let b = (parts slots e s f x).1 in
      (omega arith, (omega arith, k))

  pub path_scan : (slots n e : ℕ) (s : State) (y : Tally) (at : ℕ) (z : State) (t : Tally) → Path v o file spans stop slots n e s y at z t → (k : ℕ)
      → (scan v o file spans stop (n + k) e s ≡ scan v o file spans stop k at z) × (tallied v o file spans stop (n + k) e s y ≡ tallied v o file spans stop k at z t)
  unfolding Path
  path_scan slots zero e s y at z t (p, q, r) k =
      let a = zero-add k in (
        (λ i. scan v o file spans stop (a i) (p i) (q i)),
        (λ i. tallied v o file spans stop (a i) (p i) (q i) (r i)),
      )
  path_scan slots (suc n) e s y at z t (f, x, h) k =
      let a : suc n + k ≡ suc (n + k) = omega arith in
      let g = path_scan slots n (e + span_at spans file e) (after s f (said_at file e)) (counted_of y s.rank s.id f (said_at file e)) at z t h k in (
        ap (λ (j : ℕ). scan v o file spans stop j e s) a ∙ step_scan slots e s f x (n + k) ∙ g.0,
        ap (λ (j : ℕ). tallied v o file spans stop j e s y) a ∙ step_tallied slots e s f x (n + k) y ∙ g.1,
      )

-- ---- an event of a frame that is like another

frame_only : (a b c : Bool) → b ≡ true → (a || (not b && c)) ≡ true → a ≡ true
frame_only true b c p q = refl
frame_only false true c p q = q
frame_only false false c p q = p

module _ (v : Version) (o : Order) (file : List ℕ) (e d r i j : ℕ) (due : List ℕ) (id : id_at file (e + d) ≡ j) where
  in_like : (k : ℕ) → in_frame (state r i due) k (said_at file e) ≡ true → (leb r k ≡ true) × (in_frame (state r j due) k (said_at file (e + d)) ≡ true)
  unfolding in_frame
  in_like k q = let l = (both (leb r k) (eqb i (id_at file e)) q).0 in (l, rw (l, eq-eqb j (id_at file (e + d)) (sym id)))

  slot_like : Seat file e d → slot_said (said_at file (e + d)) ≡ slot_said (said_at file e)
  slot_like s = λ z. 2 * s.port z + s.follower z

  player_like : Seat file e d → player (said_at file (e + d)) ≡ player (said_at file e)
  unfolding player
  player_like s = λ z. leb (s.port z) 3 && leb (s.follower z) 1

  order_like : has_family v FrameStart ≡ true → (family : Family) → Who (some family) file e d → orderly v o (state r i due) family (said_at file e) ≡ true
      → orderly v o (state r j due) family (said_at file (e + d)) ≡ true
  unfolding orderly
  order_like fs Pre s q =
      let w = said_at file e in
      let (a, b) = both (in_frame (state r i due) 2 w || (not (has_family v FrameStart) && closed v (state r i due))) (player w && may_come o due (slot_said w)) q in
      let f = (in_like 2 (frame_only (in_frame (state r i due) 2 w) (has_family v FrameStart) (closed v (state r i due)) fs a)).1 in
      rw (f, player_like s, slot_like s) b
  order_like fs Post s q =
      let w = said_at file e in
      let (a, b) = both (in_frame (state r i due) 7 w) (player w && is_next due (slot_said w)) q in
      rw ((in_like 7 a).1, player_like s, slot_like s) b
  order_like fs FrameEnd s q = let (a, b) = both (in_frame (state r i due) 7 (said_at file e)) (nobody due) q in rw (in_like 7 a).1 b
  order_like fs FrameStart s q = absurd s
  order_like fs Item s q = absurd s
  order_like fs FodPlatform s q = absurd s
  order_like fs DreamlandWhispy s q = absurd s
  order_like fs StadiumTransformation s q = absurd s

  after_like : (family : Family) → Who (some family) file e d
      → after (state r j due) family (said_at file (e + d)) ≡ state (rank_of family) j (due_after family due (slot_said (said_at file e)))
  unfolding due_after
  after_like Pre s = λ z. state 2 (id z) (due_after Pre due (slot_like s z))
  after_like Post s = λ z. state 7 (id z) (due_after Post due (slot_like s z))
  after_like FrameEnd s = λ z. state 8 (id z) due
  after_like FrameStart s = absurd s
  after_like Item s = absurd s
  after_like FodPlatform s = absurd s
  after_like DreamlandWhispy s = absurd s
  after_like StadiumTransformation s = absurd s

  marked_like : (slots : ℕ) (family : Family) → Who (some family) file e d → (family ≡ Pre → is_marked slots (slot_said (said_at file e)) ≡ true)
      → family ≡ Pre → is_marked slots (slot_said (said_at file (e + d))) ≡ true
  marked_like slots Pre s m q = ap (is_marked slots) (slot_like s) ∙ m q
  marked_like slots Post s m q = ap (is_marked slots) (slot_like s) ∙ m q
  marked_like slots FrameEnd s m q = let z : ◌≡◌ {A = ℕ} 0 1 = cc in absurd (omega arith)
  marked_like slots FrameStart s m q = absurd s
  marked_like slots Item s m q = absurd s
  marked_like slots FodPlatform s m q = absurd s
  marked_like slots DreamlandWhispy s m q = absurd s
  marked_like slots StadiumTransformation s m q = absurd s

  -- nothing more is counted
  counted_like : has_family v FrameStart ≡ true → (y : Tally) (family : Family) → Who (some family) file e d → orderly v o (state r i due) family (said_at file e) ≡ true
      → (family ≡ Pre → is_marked y.slots (slot_said (said_at file (e + d))) ≡ true) → counted_of y r j family (said_at file (e + d)) ≡ y
  unfolding orderly counted_of of_frame
  counted_like fs y Pre s q m =
      let w = said_at file e in
      let a = (both (in_frame (state r i due) 2 w || (not (has_family v FrameStart) && closed v (state r i due))) (player w && may_come o due (slot_said w)) q).0 in
      let l = (in_like 2 (frame_only (in_frame (state r i due) 2 w) (has_family v FrameStart) (closed v (state r i due)) fs a)).0 in
      let k = slot_said (said_at file (e + d)) in
      let f : (leb r 2 && eqb j (id_at file (e + d))) ≡ true = rw (l, eq-eqb j (id_at file (e + d)) (sym id)) in
      let b = marked_stays y.slots k (m refl) in
      ap (λ (c : Bool). sat (cond c y (begun_at y j (id_at file (e + d)))) k) f ∙ ap (λ (n : ℕ). tally y.frames y.items y.fods y.whispys y.stadiums n y.changing) b
  counted_like fs y Post s q m = refl
  counted_like fs y FrameEnd s q m = refl
  counted_like fs y FrameStart s q m = absurd s
  counted_like fs y Item s q m = absurd s
  counted_like fs y FodPlatform s q m = absurd s
  counted_like fs y DreamlandWhispy s q m = absurd s
  counted_like fs y StadiumTransformation s q m = absurd s

-- ---- the frame

nobody_left : (ks : List ℕ) → nobody ks ≡ true → ks ≡ []
unfolding nobody
nobody_left [] q = refl
nobody_left (k ∷ ks) q = let z : ◌≡◌ {A = ℕ} 0 1 = cc in absurd (omega arith)

closed_left : (v : Version) (s : State) → closed v s ≡ true → s.due ≡ []
unfolding closed
closed_left v s q = nobody_left s.due (both (nobody s.due) (not (has_family v FrameEnd) || eqb s.rank 8) q).0

who_like : {file : List ℕ} {last e d : ℕ} → Like file last e d → (family : Family) → family_of (get_or file e 0) ≡ some family → Who (some family) file e d
who_like {file} {last} {e} {d} l family q = subst (λ (x : Option Family). Who x file e d) q l.who

module _ (v : Version) (o : Order) (file spans : List ℕ) (stop slots last d : ℕ) where
  span_like : (e : ℕ) → get_or file (e + d) 0 ≡ get_or file e 0 → span_at spans file (e + d) ≡ span_at spans file e
  span_like e q = ap (λ (c : ℕ). get_or spans c 0) q

  -- an event of the same family, in the same order, before stop
  step_like : (e : ℕ) (s s' : State) (family : Family) → Step v o file spans stop slots e s family → get_or file (e + d) 0 ≡ get_or file e 0 → e + span_at spans file e + d ≤ stop
      → orderly v o s' family (said_at file (e + d)) ≡ true → (family ≡ Pre → is_marked slots (slot_said (said_at file (e + d))) ≡ true)
      → Step v o file spans stop slots (e + d) s' family
  unfolding takes_at
  step_like e s s' family x q l order marked =
      let (has, size, whole, was) = parts v o file spans stop slots e s family x in
      let n = span_like e q in
      let m : span_at spans file (e + d) ≡ 1 + record_size family v = n ∙ size in
      record {
        inside = omega arith;
        is = ap family_of q ∙ x.is;
        taken = rw (has, eq-eqb (span_at spans file (e + d)) (1 + record_size family v) m, le-leb (e + d + span_at spans file (e + d)) stop (omega arith)) order;
        marked = marked;
      }

  -- the events inside a frame
  path_like : has_family v FrameStart ≡ true → (y : Tally) → y.slots ≡ slots → (n e r i : ℕ) (due : List ℕ) (t : Tally) (at : ℕ) (z : State) (u : Tally)
      → Path v o file spans stop slots n e (state r i due) t at z u → Alike file spans last n e d → at + d ≤ stop
      → Path v o file spans stop slots n (e + d) (state r (id_at file (last + d)) due) y (at + d) (state z.rank (id_at file (last + d)) z.due) y
  unfolding Path Alike
  path_like fs y ys zero e r i due t at z u (p, q, w) a l = (ap (λ (k : ℕ). k + d) p, ap (λ (s : State). state s.rank (id_at file (last + d)) s.due) q, refl)
  path_like fs y ys (suc n) e r i due t at z u (family, x, h) (like, a) l =
      let j = id_at file (last + d) in
      let s = state r i due in
      let w = said_at file e in
      let who = who_like like family x.is in
      let id = like.head.id in
      let order = (parts v o file spans stop slots e s family x).3 in
      let next = e + span_at spans file e in
      let long = (path_long v o file spans stop slots n next (after s family w) (counted_of t r i family w) at z u h).0 in
      let marked = marked_like v o file e d r i j due id slots family who x.marked in
      let more = path_like fs y ys n next (rank_of family) w.id (due_after family due (slot_said w)) (counted_of t r i family w) at z u h a l in
      let place : next + d ≡ e + d + span_at spans file (e + d) = let k = span_like e like.head.code in omega arith in
      let counted = counted_like v o file e d r i j due id fs y family who order (λ f. ap (λ (k : ℕ). is_marked k (slot_said (said_at file (e + d)))) ys ∙ marked f) in (
        family,
        step_like e s (state r j due) family x like.head.code (omega arith) (order_like v o file e d r i j due id fs family who order) marked,
        subst (λ (k : ℕ). Path v o file spans stop slots n k (after (state r j due) family (said_at file (e + d))) (counted_of y r j family (said_at file (e + d))) (at + d) (state z.rank j z.due) y) place
            (subst (λ (k : State). Path v o file spans stop slots n (next + d) k (counted_of y r j family (said_at file (e + d))) (at + d) (state z.rank j z.due) y) (sym (after_like v o file e d r i j due id family who))
            (subst (λ (k : Tally). Path v o file spans stop slots n (next + d) (state (rank_of family) j (due_after family due (slot_said w))) k (at + d) (state z.rank j z.due) y) (sym counted) more)),
      )

  start_of : (x : Option Family) (family : Family) → some FrameStart ≡ some family → family ≡ FrameStart
  start_of x family q = cc

  is_start_lem : (family : Family) → get_or file last 0 ≡ 0x3A → family_of (get_or file last 0) ≡ some family → family ≡ FrameStart
  unfolding family_of
  is_start_lem family q f = start_of none family (sym (ap family_of q) ∙ f)

  -- a frame that begins with a FrameStart, from any state where one may begin
  pub frame_like : (n : ℕ) (s : State) (t : Tally) (at : ℕ) (z : State) (u : Tally) → Path v o file spans stop slots (suc n) last s t at z u
      → get_or file last 0 ≡ 0x3A → get_or file (last + d) 0 ≡ get_or file last 0 → Alike file spans last n (last + span_at spans file last) d → at + d ≤ stop
      → (s' : State) → closed v s' ≡ true → (y : Tally) → y.slots ≡ slots
      → Path v o file spans stop slots (suc n) (last + d) s' y (at + d) (state z.rank (id_at file (last + d)) z.due) (begun_at y s'.id (id_at file (last + d)))
  unfolding Path orderly counted_of due_after
  frame_like n s t at z u (family, x, h) start code a l s' c y ys =
      let e = is_start_lem family start x.is in
      let x' = subst (λ (f : Family). Step v o file spans stop slots last s f) e x in
      let h' =
      subst (λ (f : Family). Path v o file spans stop slots n (last + span_at spans file last) (after s f (said_at file last)) (counted_of t s.rank s.id f (said_at file last)) at z u) e
      h in
      let j = id_at file (last + d) in
      let (has, size, whole, was) = parts v o file spans stop slots last s FrameStart x' in
      let next = last + span_at spans file last in
      let i = id_at file last in
      let t' = begun_at t s.id i in
      let y' = begun_at y s'.id j in
      let long = (path_long v o file spans stop slots n next (state 1 i s.due) t' at z u h').0 in
      let inner = subst (λ (ks : List ℕ). Path v o file spans stop slots n next (state 1 i ks) t' at z u) (closed_left v s was) h' in
      let more = path_like has y' ys n next 1 i [] t' at z u inner a l in
      let place : next + d ≡ last + d + span_at spans file (last + d) = let k = span_like last code in omega arith in (
        FrameStart,
        step_like last s s' FrameStart x' code (omega arith) c (λ f. let q : ◌≡◌ {A = ℕ} 0 1 = cc in absurd (omega arith)),
        subst (λ (k : ℕ). Path v o file spans stop slots n k (state 1 j s'.due) y' (at + d) (state z.rank j z.due) y') place
            (subst (λ (ks : List ℕ). Path v o file spans stop slots n (next + d) (state 1 j ks) y' (at + d) (state z.rank j z.due) y') (sym (closed_left v s' c)) more),
      )
