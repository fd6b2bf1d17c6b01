-- The machine takes the events of well-formed frames.
-- Assumes nothing.
use mathlib.Core.Path.{◌≡◌, refl, sym, ap, ◌∙◌}
use mathlib.Core.Bool.{Bool, true, false, not, ◌&&◌, ◌||◌}
use mathlib.Core.List.{List, [], ◌∷◌, ◌++◌, map, append_assoc, append-nil}
use mathlib.Core.Option.{Option, none, some}
use Prim.Native.Nat.{ℕ, zero, suc, ◌+◌, ◌^◌, ◌≤◌, ◌<◌}
use native.Mathlib.Omega.{arith}
use borrow.Author.Tests.{le-leb, eq-eqb}
use lib.Dec.{leb, leb-zero, eqb, lit≤}
use lib.ListN.{length, length-append}
use lib.Seq.{take_at}
use Rattle.wire.specs.Wire.{be, number, keep}
use Rattle.wire.proofs.Laws.{number_be, length_be}
use Rattle.format.specs.Event.{code_of}
use Rattle.format.specs.File.{Ev}
use Rattle.format.specs.Version.{gte_of, above}
use Rattle.format.specs.declared.version.Version.{Version}
use Rattle.format.proofs.Versions.{is_above, is_same}
use Rattle.layout.specs.Columns.{has_family}
use Rattle.layout.specs.Payloads.{event_of, record_size, head_size}
use Rattle.layout.specs.declared.columns.Family.{Family}
use Rattle.layout.specs.declared.columns.Family.TheVariants.{Pre, Post, FrameStart, Item, FrameEnd, FodPlatform, DreamlandWhispy, StadiumTransformation}
use Rattle.grammar.specs.Productions.{Player, Frame, row_event, pre_event, post_event, events_of_frame, events_of_frames}
use Rattle.grammar.specs.WellFormed.{nobody, Each, Order, slot_of, may_come, InOrder, GoodPlayer, GoodRow, GoodFrame}
use Rattle.grammar.proofs.Tests.{or_true}
use Rattle.grammar.proofs.Unique.{after_posts, after_pres, after_start, whole, frame_then}
use Rattle.grammar.specs.Machine.{family_of, rank_of, State, state, slot_said, id_in, said_by, is_next, closed, in_frame, player, orderly, allowed, due_after, after, on_family, rest}

pub family_is : (family : Family) → family_of (code_of (event_of family)) ≡ some family
unfolding family_of
family_is Pre = refl
family_is Post = refl
family_is FrameStart = refl
family_is Item = refl
family_is FrameEnd = refl
family_is FodPlatform = refl
family_is DreamlandWhispy = refl
family_is StadiumTransformation = refl

-- an event that may come moves the machine
pub moved : (v : Version) (o : Order) (s : State) (family : Family) (id : ℕ) (bytes : List ℕ) (es : List Ev) → allowed v o s family (row_event family id bytes) ≡ true
    → rest v o s (row_event family id bytes ∷ es) ≡ rest v o (after s family (said_by (row_event family id bytes))) es
unfolding rest on_family
moved v o s family id bytes es a = rw (family_is family, a)

-- what a row says
id_in_lem : (family : Family) (id : ℕ) (bytes : List ℕ) → id < 2 ^ 32 → id_in (row_event family id bytes) ≡ id
id_in_lem family id bytes h = ap number (take_at (be 4 id) bytes 4 (length_be 4 id)) ∙ number_be 4 id h

size_in : (family : Family) (id : ℕ) (bytes : List ℕ) → length (row_event family id bytes).payload ≡ 4 + length bytes
size_in family id bytes = length-append (be 4 id) bytes ∙ ap (λ (n : ℕ). n + length bytes) (length_be 4 id)

module _ (v : Version) (o : Order) (family : Family) (s : State) (id : ℕ) (bytes : List ℕ) where
  may : has_family v family ≡ true → 4 + length bytes ≡ record_size family v → orderly v o s family (said_by (row_event family id bytes)) ≡ true
      → allowed v o s family (row_event family id bytes) ≡ true
  unfolding allowed
  may h n q = rw (h, eq-eqb (length (row_event family id bytes).payload) (record_size family v) (size_in family id bytes ∙ n), q)

in_frame_lem : (s : State) (rank : ℕ) (e : Ev) → s.rank ≤ rank → s.id ≡ id_in e → in_frame s rank (said_by e) ≡ true
unfolding in_frame
in_frame_lem s rank e h k = rw (le-leb s.rank rank h, eq-eqb s.id (id_in e) k)

-- ---- rows of the stage and items

module _ (v : Version) (o : Order) (family : Family) (plain : (s : State) (e : Ev) → orderly v o s family (said_by e) ≡ in_frame s (rank_of family) (said_by e))
    (keeps : (ks : List ℕ) (k : ℕ) → due_after family ks k ≡ ks) (head : head_size family ≡ 4)
    (id : ℕ) (small : id < 2 ^ 32) (due : List ℕ) (t : List Ev) (x : Option (List Ev)) where
  rows_run_lem : ((r : ℕ) → r ≤ rank_of family → rest v o (state r id due) t ≡ x) → (xs : List (List ℕ)) → Each (GoodRow v family) xs → (r : ℕ) → r ≤ rank_of family
      → rest v o (state r id due) (map (row_event family id) xs ++ t) ≡ x
  unfolding Each
  rows_run_lem go [] h r l = go r l
  rows_run_lem go (b ∷ bs) h r l =
      let e = row_event family id b in
      let i = id_in_lem family id b small in
      let k = keeps due (slot_said (said_by e)) in
      moved v o (state r id due) family id b _
      (may v o family (state r id due) id b h.0.has (omega (arith, h.0.size, head)) (plain (state r id due) e ∙ in_frame_lem (state r id due) (rank_of family) e l (sym i)))
      ∙ ap (λ (s : State). rest v o s (map (row_event family id) bs ++ t)) (λ z. state (rank_of family) (i z) (k z))
      ∙ rows_run_lem go bs h.1 (rank_of family) (omega arith)

-- ---- players

slot_pre : (id : ℕ) (p : Player) → slot_said (said_by (pre_event id p)) ≡ slot_of p
unfolding be
slot_pre id p = refl

slot_post : (id : ℕ) (p : Player) → slot_said (said_by (post_event id p)) ≡ slot_of p
unfolding be
slot_post id p = refl

player_pre : (id : ℕ) (p : Player) → p.port ≤ 3 → p.follower ≤ 1 → player (said_by (pre_event id p)) ≡ true
unfolding player be
player_pre id p h k = rw (le-leb p.port 3 h, le-leb p.follower 1 k)

player_post : (id : ℕ) (p : Player) → p.port ≤ 3 → p.follower ≤ 1 → player (said_by (post_event id p)) ≡ true
unfolding player be
player_post id p h k = rw (le-leb p.port 3 h, le-leb p.follower 1 k)

-- every version has them
from_zero : (v : Version) → gte_of v 0 0 ≡ true
unfolding gte_of
from_zero v = go v.major
  where
    go : (a : ℕ) → above a 0 (leb 0 v.minor) ≡ true
    go zero = sym (is_same 0 0 true (leb 0 v.minor) (lit≤ tt) (lit≤ tt) (sym (leb-zero v.minor)))
    go (suc a) = sym (is_above (suc a) 0 (leb 0 v.minor) (omega arith))

pub has_pre : (v : Version) → has_family v Pre ≡ true
unfolding has_family
has_pre v = from_zero v

pub has_post : (v : Version) → has_family v Post ≡ true
unfolding has_family
has_post v = from_zero v

module _ (v : Version) (o : Order) (id : ℕ) (small : id < 2 ^ 32) (x : Option (List Ev)) where
  -- a Pre: in its frame, or the first of one
  pre_run : (s : State) (p : Player) (es : List Ev) → GoodPlayer v p → (in_frame s 2 (said_by (pre_event id p)) || (not (has_family v FrameStart) && closed v s)) ≡ true
      → may_come o s.due (slot_of p) ≡ true
      → rest v o s (pre_event id p ∷ es) ≡ rest v o (state 2 id (s.due ++ (slot_of p ∷ []))) es
  unfolding orderly due_after
  pre_run s p es g q m =
      let bytes = p.port ∷ p.follower ∷ p.pre in
      let k = slot_pre id p in
      moved v o s Pre id bytes es
      (may v o Pre s id bytes (has_pre v) (omega (arith, g.pre)) (rw (q, player_pre id p g.port g.follower) (ap (λ (n : ℕ). may_come o s.due n) k ∙ m)))
      ∙ ap (λ (s : State). rest v o s es) (λ z. state 2 (id_in_lem Pre id bytes small z) (s.due ++ (k z ∷ [])))

  pres_run : (t : List Ev) (ps : List Player) (due : List ℕ) → Each (GoodPlayer v) ps → InOrder o due (map slot_of ps)
      → ((r : ℕ) → r ≤ 2 → rest v o (state r id (due ++ map slot_of ps)) t ≡ x) → (r : ℕ) → r ≤ 2 → rest v o (state r id due) (map (pre_event id) ps ++ t) ≡ x
  unfolding Each InOrder
  pres_run t [] due h q go r l = ap (λ (ks : List ℕ). rest v o (state r id ks) t) (sym (append-nil due)) ∙ go r l
  pres_run t (p ∷ ps) due h q go r l =
      pre_run (state r id due) p _ h.0
      (ap (λ (b : Bool). b || (not (has_family v FrameStart) && closed v (state r id due))) (in_frame_lem (state r id due) 2 (pre_event id p) l (sym (id_in_lem Pre id (p.port ∷ p.follower ∷ p.pre) small))))
      q.0
      ∙ pres_run t ps (due ++ (slot_of p ∷ [])) h.1 q.1
      (λ r l. ap (λ (ks : List ℕ). rest v o (state r id ks) t) (append_assoc due (slot_of p ∷ []) (map slot_of ps)) ∙ go r l) 2 (omega arith)

  posts_run : (t : List Ev) (ps : List Player) → Each (GoodPlayer v) ps → ((r : ℕ) → r ≤ 7 → rest v o (state r id []) t ≡ x) → (r : ℕ) → r ≤ 7
      → rest v o (state r id (map slot_of ps)) (map (post_event id) ps ++ t) ≡ x
  unfolding Each orderly due_after is_next
  posts_run t [] h go r l = go r l
  posts_run t (p ∷ ps) h go r l =
      let bytes = p.port ∷ p.follower ∷ p.post in
      let s = state r id (slot_of p ∷ map slot_of ps) in
      let i = id_in_lem Post id bytes small in
      moved v o s Post id bytes _
      (may v o Post s id bytes (has_post v) (omega (arith, h.0.post))
      (rw (in_frame_lem s 7 (post_event id p) l (sym i), player_post id p h.0.port h.0.follower) (eq-eqb (slot_of p) (slot_said (said_by (post_event id p))) (sym (slot_post id p)))))
      ∙ ap (λ (s : State). rest v o s (map (post_event id) ps ++ t)) (λ z. state 7 (i z) (map slot_of ps))
      ∙ posts_run t ps h.1 go 7 (omega arith)

-- ---- a frame, from a closed state to a closed state

pub closed_due : (v : Version) (s : State) → closed v s ≡ true → s.due ≡ []
unfolding closed nobody
closed_due v s e = go s.due e
  where
    go : (ks : List ℕ) → (nobody ks && (not (has_family v FrameEnd) || eqb s.rank 8)) ≡ true → ks ≡ []
    go [] q = refl
    go (k ∷ ks) q = let z : ◌≡◌ {A = ℕ} 0 1 = cc in absurd (omega arith)

pub closed_last : (v : Version) (id : ℕ) → closed v (state 8 id []) ≡ true
unfolding closed nobody
closed_last v id = or_true (not (has_family v FrameEnd)) true refl

closed_lacks : (v : Version) (r id : ℕ) → has_family v FrameEnd ≡ false → closed v (state r id []) ≡ true
unfolding closed nobody
closed_lacks v r id e = rw e

module _ (v : Version) (o : Order) (f : Frame) (h : GoodFrame v o f) (t : List Ev) (x : Option (List Ev)) (next : (s : State) → closed v s ≡ true → rest v o s t ≡ x) where
  end_run : (r : ℕ) → r ≤ 7 → rest v o (state r f.id []) (after_posts (has_family v FrameEnd) f t) ≡ x
  unfolding keep orderly nobody due_after
  end_run r l = go (has_family v FrameEnd) refl
    where
      go : (b : Bool) → has_family v FrameEnd ≡ b → rest v o (state r f.id []) (after_posts b f t) ≡ x
      go false e = next _ (closed_lacks v r f.id e)
      go true e =
          let i = id_in_lem FrameEnd f.id f.end h.id in
          let s = state r f.id [] in
          moved v o s FrameEnd f.id f.end t
          (may v o FrameEnd s f.id f.end e (omega (arith, h.end)) (rw (in_frame_lem s 7 (row_event FrameEnd f.id f.end) l (sym i))))
          ∙ ap (λ (s : State). rest v o s t) (λ z. state 8 (i z) [])
          ∙ next _ (closed_last v f.id)

  rest_run : (r : ℕ) → r ≤ 2 → rest v o (state r f.id (map slot_of f.players)) (after_pres (has_family v FrameEnd) f t) ≡ x
  unfolding orderly due_after
  rest_run r l =
      let due = map slot_of f.players in
      let posts = posts_run v o f.id h.id x _ f.players h.players end_run in
      let items = rows_run_lem v o Item (λ s e. refl) (λ ks k. refl) refl f.id h.id due _ x (λ r l. posts r (omega arith)) f.items h.items in
      let stadiums = rows_run_lem v o StadiumTransformation (λ s e. refl) (λ ks k. refl) refl f.id h.id due _ x (λ r l. items r (omega arith)) f.stadiums h.stadiums in
      let whispys = rows_run_lem v o DreamlandWhispy (λ s e. refl) (λ ks k. refl) refl f.id h.id due _ x (λ r l. stadiums r (omega arith)) f.whispys h.whispys in
      rows_run_lem v o FodPlatform (λ s e. refl) (λ ks k. refl) refl f.id h.id due _ x (λ r l. whispys r (omega arith)) f.fods h.fods r (omega arith)

  frame_run : (s : State) → closed v s ≡ true → rest v o s (whole (has_family v FrameStart) (has_family v FrameEnd) f t) ≡ x
  unfolding keep orderly due_after Each InOrder
  frame_run s c = go (has_family v FrameStart) refl
    where
      first_pre : has_family v FrameStart ≡ false → (ps : List Player) → 0 < length ps → Each (GoodPlayer v) ps → InOrder o [] (map slot_of ps)
          → ((r : ℕ) → r ≤ 2 → rest v o (state r f.id (map slot_of ps)) (after_pres (has_family v FrameEnd) f t) ≡ x)
          → rest v o s (map (pre_event f.id) ps ++ after_pres (has_family v FrameEnd) f t) ≡ x
      first_pre e [] l g q more = absurd (omega arith)
      first_pre e (p ∷ ps) l g q more =
          let d = closed_due v s c in
          pre_run v o f.id h.id x s p _ g.0 (or_true (in_frame s 2 (said_by (pre_event f.id p))) (not (has_family v FrameStart) && closed v s) (rw (e, c)))
          (ap (λ (ks : List ℕ). may_come o ks (slot_of p)) d ∙ q.0)
          ∙ ap (λ (ks : List ℕ). rest v o (state 2 f.id (ks ++ (slot_of p ∷ []))) (map (pre_event f.id) ps ++ after_pres (has_family v FrameEnd) f t)) d
          ∙ pres_run v o f.id h.id x _ ps (slot_of p ∷ []) g.1 q.1 more 2 (omega arith)

      go : (b : Bool) → has_family v FrameStart ≡ b → rest v o s (whole b (has_family v FrameEnd) f t) ≡ x
      go true e =
          moved v o s FrameStart f.id f.start _ (may v o FrameStart s f.id f.start e (omega (arith, h.start)) c)
          ∙ ap (λ (s : State). rest v o s (after_start (has_family v FrameEnd) f t)) (λ z. state 1 (id_in_lem FrameStart f.id f.start h.id z) (closed_due v s c z))
          ∙ pres_run v o f.id h.id x _ f.players [] h.players h.slots rest_run 1 (omega arith)
      go false e = first_pre e f.players (h.somebody e) h.players h.slots rest_run

-- ---- frames, and what follows them

abbrev pub NoFrame : List Ev → Type 0
NoFrame [] = Unit {0}
NoFrame (e ∷ es) = family_of e.code ≡ none

pub complete : (v : Version) (o : Order) (t : List Ev) → NoFrame t → (fs : List Frame) → Each (GoodFrame v o) fs → (s : State) → closed v s ≡ true
    → rest v o s (events_of_frames v fs ++ t) ≡ some t
unfolding events_of_frames Each rest on_family
complete v o [] n [] h s c = rw c
complete v o (e ∷ t) n [] h s c = rw (n, c)
complete v o t n (f ∷ fs) h s c =
    ap (λ (l : List Ev). rest v o s l) (append_assoc (events_of_frame v f) (events_of_frames v fs) t ∙ frame_then v f (events_of_frames v fs ++ t))
    ∙ frame_run v o f h.0 (events_of_frames v fs ++ t) (some t) (λ s c. complete v o t n fs h.1 s c) s c
