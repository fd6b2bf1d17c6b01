-- A replay's events come from one tree.
-- Assumes nothing.
use mathlib.Core.Path.{◌≡◌, refl, sym, ap, subst, ◌∙◌}
use mathlib.Core.Bool.{Bool, true, false, cond}
use mathlib.Core.List.{List, [], ◌∷◌, ◌++◌, map, append_assoc, head-eq_of_cons-eq, tail-eq_of_cons-eq, cons≢nil}
use Prim.Native.Nat.{ℕ, ◌^◌, ◌≤◌, ◌<◌}
use native.Mathlib.Omega.{arith}
use lib.ListN.{length, take}
use Rattle.wire.specs.Wire.{be, keep, number}
use Rattle.wire.proofs.Laws.{length_be, number_be}
use Rattle.format.specs.File.{Ev}
use Rattle.format.specs.Version.{gte_of, above}
use Rattle.format.specs.declared.version.Version.{Version}
use Rattle.layout.specs.Columns.{has_family, size_of, columns_of, col, sum}
use Rattle.layout.proofs.Prefix.{none}
use Rattle.layout.specs.declared.columns.Family.TheVariants.{Pre, Post, FrameStart, Item, FrameEnd, FodPlatform, DreamlandWhispy, StadiumTransformation}
use Rattle.grammar.specs.Productions.{Player, Frame, Block, Replay, row_event, pre_event, post_event, events_of_frame, events_of_frames, codes_events, end_event, events_of, block_event}
use Rattle.grammar.specs.WellFormed.{Each, Order, GoodFrame, GoodCodes, WellFormed}
use Rattle.grammar.proofs.Lists.{append_same, first, Not, cut, other, row_bytes_lem, row_id, rows_same}

-- ---- players: Pre has all but the Post's bytes

player_same : (i j : ℕ) (p q : Player) → pre_event i p ≡ pre_event j q → post_event i p ≡ post_event j q → p ≡ q
player_same i j p q a b =
    let x = row_bytes_lem Pre i j _ _ a in
    let y = row_bytes_lem Post i j _ _ b in
    let h = head-eq_of_cons-eq x in
    let k = head-eq_of_cons-eq (tail-eq_of_cons-eq x) in
    let m = tail-eq_of_cons-eq (tail-eq_of_cons-eq x) in
    let n = tail-eq_of_cons-eq (tail-eq_of_cons-eq y) in
    λ z. record { port = h z; follower = k z; pre = m z; post = n z }

players_same : (i j : ℕ) (ps qs : List Player) → map (pre_event i) ps ≡ map (pre_event j) qs → map (post_event i) ps ≡ map (post_event j) qs → ps ≡ qs
players_same i j [] [] a b = refl
players_same i j [] (q ∷ qs) a b = absurd (cons≢nil (sym a))
players_same i j (p ∷ ps) [] a b = absurd (cons≢nil a)
players_same i j (p ∷ ps) (q ∷ qs) a b =
    let h = player_same i j p q (head-eq_of_cons-eq a) (head-eq_of_cons-eq b) in
    let t = players_same i j ps qs (tail-eq_of_cons-eq a) (tail-eq_of_cons-eq b) in
    λ k. h k ∷ t k

-- ---- a frame's sections, and what follows the frame

module _ (last : Bool) (f : Frame) (t : List Ev) where
  abbrev pub after_posts : List Ev
  after_posts = keep last (row_event FrameEnd f.id f.end ∷ []) ++ t

  abbrev pub after_items : List Ev
  after_items = map (post_event f.id) f.players ++ after_posts

  abbrev pub after_stadiums : List Ev
  after_stadiums = map (row_event Item f.id) f.items ++ after_items

  abbrev pub after_whispys : List Ev
  after_whispys = map (row_event StadiumTransformation f.id) f.stadiums ++ after_stadiums

  abbrev pub after_fods : List Ev
  after_fods = map (row_event DreamlandWhispy f.id) f.whispys ++ after_whispys

  abbrev pub after_pres : List Ev
  after_pres = map (row_event FodPlatform f.id) f.fods ++ after_fods

  abbrev pub after_start : List Ev
  after_start = map (pre_event f.id) f.players ++ after_pres

  not_posts : (c : ℕ) → (0x3C ≡ c → ⊥) → Not c t → Not c after_posts
  unfolding keep
  not_posts c n h = go last
    where
      go : (b : Bool) → Not c (keep b (row_event FrameEnd f.id f.end ∷ []) ++ t)
      go true = n
      go false = h

-- what follows a frame: nothing, an end, or the first event of a frame
record Follows (starts : Bool) (t : List Ev) : Type 0 where
  low : first t ≤ 0x3A
  post : Not 0x38 t
  pre : starts ≡ true → Not 0x37 t

-- a code that neither follows the frame nor is that of a later section does not begin what is left of it
module _ (last : Bool) (f : Frame) (t : List Ev) (c : ℕ) (end : 0x3C ≡ c → ⊥) (n : Not c t) where
  not_items : (0x38 ≡ c → ⊥) → Not c (after_items last f t)
  not_items x = other 0x38 (post_event f.id) (λ a. refl) c x f.players _ (not_posts last f t c end n)

  not_stadiums : (0x38 ≡ c → ⊥) → (0x3B ≡ c → ⊥) → Not c (after_stadiums last f t)
  not_stadiums x y = other 0x3B (row_event Item f.id) (λ a. refl) c y f.items _ (not_items x)

  not_whispys : (0x38 ≡ c → ⊥) → (0x3B ≡ c → ⊥) → (0x41 ≡ c → ⊥) → Not c (after_whispys last f t)
  not_whispys x y z = other 0x41 (row_event StadiumTransformation f.id) (λ a. refl) c z f.stadiums _ (not_stadiums x y)

  not_fods : (0x38 ≡ c → ⊥) → (0x3B ≡ c → ⊥) → (0x41 ≡ c → ⊥) → (0x40 ≡ c → ⊥) → Not c (after_fods last f t)
  not_fods x y z w = other 0x40 (row_event DreamlandWhispy f.id) (λ a. refl) c w f.whispys _ (not_whispys x y z)

  not_pres : (0x38 ≡ c → ⊥) → (0x3B ≡ c → ⊥) → (0x41 ≡ c → ⊥) → (0x40 ≡ c → ⊥) → (0x3F ≡ c → ⊥) → Not c (after_pres last f t)
  not_pres x y z w q = other 0x3F (row_event FodPlatform f.id) (λ a. refl) c q f.fods _ (not_fods x y z w)

-- with somebody in the frame, a Post comes before what follows it
module _ (last : Bool) (f : Frame) (t : List Ev) where
  pres_of : (starts : Bool) → Follows starts t → (starts ≡ false → 0 < length f.players) → Not 0x37 (after_pres last f t)
  pres_of true h k =
      not_pres last f t 0x37 (λ e. omega arith) (h.pre refl) (λ e. omega arith) (λ e. omega arith) (λ e. omega arith) (λ e. omega arith) (λ e. omega arith)
  pres_of false h k =
      other 0x3F (row_event FodPlatform f.id) (λ a. refl) 0x37 (λ e. omega arith) f.fods _
      (other 0x40 (row_event DreamlandWhispy f.id) (λ a. refl) 0x37 (λ e. omega arith) f.whispys _
      (other 0x41 (row_event StadiumTransformation f.id) (λ a. refl) 0x37 (λ e. omega arith) f.stadiums _
      (other 0x3B (row_event Item f.id) (λ a. refl) 0x37 (λ e. omega arith) f.items _ (posts f.players (k refl)))))
    where
      posts : (ps : List Player) → 0 < length ps → Not 0x37 (map (post_event f.id) ps ++ after_posts last f t)
      posts [] l = absurd (omega arith)
      posts (p ∷ ps) l = λ e. omega arith

-- ---- two frames with the same events

-- their ids and starts apart
record Alike (f g : Frame) : Type 0 where
  players : f.players ≡ g.players
  fods : f.fods ≡ g.fods
  whispys : f.whispys ≡ g.whispys
  stadiums : f.stadiums ≡ g.stadiums
  items : f.items ≡ g.items
  end : f.end ≡ g.end

module _ (last : Bool) (f g : Frame) (t u : List Ev) where
  ends_same : (last ≡ false → f.end ≡ g.end) → after_posts last f t ≡ after_posts last g u → (f.end ≡ g.end) × (t ≡ u)
  unfolding keep
  ends_same = go last
    where
      go : (b : Bool) → (b ≡ false → f.end ≡ g.end) → after_posts b f t ≡ after_posts b g u → (f.end ≡ g.end) × (t ≡ u)
      go true h q = (row_bytes_lem FrameEnd _ _ _ _ (head-eq_of_cons-eq q), tail-eq_of_cons-eq q)
      go false h q = (h refl, q)

  module _ (starts : Bool) (h : Follows starts t) (k : Follows starts u) (ends : last ≡ false → f.end ≡ g.end) where
    alike : (starts ≡ false → 0 < length f.players) → (starts ≡ false → 0 < length g.players) → after_start last f t ≡ after_start last g u → Alike f g × (t ≡ u)
    alike x y q =
        let pres = cut 0x37 (pre_event f.id) (pre_event g.id) (λ a. refl) (λ a. refl) f.players g.players _ _ (pres_of last f t starts h x) (pres_of last g u starts k y)
        q in
        let fods =
        cut 0x3F (row_event FodPlatform f.id) (row_event FodPlatform g.id) (λ a. refl) (λ a. refl) f.fods g.fods _ _
        (not_fods last f t 0x3F (λ e. omega arith) (λ e. omega (arith, h.low)) (λ e. omega arith) (λ e. omega arith) (λ e. omega arith) (λ e. omega arith))
        (not_fods last g u 0x3F (λ e. omega arith) (λ e. omega (arith, k.low)) (λ e. omega arith) (λ e. omega arith) (λ e. omega arith) (λ e. omega arith))
        pres.1 in
        let whispys =
        cut 0x40 (row_event DreamlandWhispy f.id) (row_event DreamlandWhispy g.id) (λ a. refl) (λ a. refl) f.whispys g.whispys _ _
        (not_whispys last f t 0x40 (λ e. omega arith) (λ e. omega (arith, h.low)) (λ e. omega arith) (λ e. omega arith) (λ e. omega arith))
        (not_whispys last g u 0x40 (λ e. omega arith) (λ e. omega (arith, k.low)) (λ e. omega arith) (λ e. omega arith) (λ e. omega arith))
        fods.1 in
        let stadiums =
        cut 0x41 (row_event StadiumTransformation f.id) (row_event StadiumTransformation g.id) (λ a. refl) (λ a. refl) f.stadiums g.stadiums _ _
        (not_stadiums last f t 0x41 (λ e. omega arith) (λ e. omega (arith, h.low)) (λ e. omega arith) (λ e. omega arith))
        (not_stadiums last g u 0x41 (λ e. omega arith) (λ e. omega (arith, k.low)) (λ e. omega arith) (λ e. omega arith))
        whispys.1 in
        let items =
        cut 0x3B (row_event Item f.id) (row_event Item g.id) (λ a. refl) (λ a. refl) f.items g.items _ _
        (not_items last f t 0x3B (λ e. omega arith) (λ e. omega (arith, h.low)) (λ e. omega arith))
        (not_items last g u 0x3B (λ e. omega arith) (λ e. omega (arith, k.low)) (λ e. omega arith))
        stadiums.1 in
        let posts =
        cut 0x38 (post_event f.id) (post_event g.id) (λ a. refl) (λ a. refl) f.players g.players _ _
        (not_posts last f t 0x38 (λ e. omega arith) h.post)
        (not_posts last g u 0x38 (λ e. omega arith) k.post)
        items.1 in
        let rest = ends_same ends posts.1 in (
          record {
            players = players_same _ _ f.players g.players pres.0 posts.0;
            fods = rows_same FodPlatform _ _ f.fods g.fods fods.0;
            whispys = rows_same DreamlandWhispy _ _ f.whispys g.whispys whispys.0;
            stadiums = rows_same StadiumTransformation _ _ f.stadiums g.stadiums stadiums.0;
            items = rows_same Item _ _ f.items g.items items.0;
            end = rest.0;
          },
          rest.1,
        )

-- the rest of a frame

abbrev pub whole : Bool → Bool → Frame → List Ev → List Ev
whole starts last f t = keep starts (row_event FrameStart f.id f.start ∷ []) ++ after_start last f t

built : (f g : Frame) → f.id ≡ g.id → f.start ≡ g.start → Alike f g → f ≡ g
built f g a b h = λ i. record {
  id = a i;
  start = b i;
  players = h.players i;
  fods = h.fods i;
  whispys = h.whispys i;
  stadiums = h.stadiums i;
  items = h.items i;
  end = h.end i;
}

-- the first Pre says the id
first_id : (i j : ℕ) (ps qs : List Player) (a b : List Ev) → i < 2 ^ 32 → j < 2 ^ 32 → 0 < length ps → 0 < length qs
    → map (pre_event i) ps ++ a ≡ map (pre_event j) qs ++ b → i ≡ j
first_id i j [] qs a b h k l m q = absurd (omega arith)
first_id i j (p ∷ ps) [] a b h k l m q = absurd (omega arith)
first_id i j (p ∷ ps) (r ∷ qs) a b h k l m q = row_id Pre i j _ _ h k (head-eq_of_cons-eq q)

frame_cut : (starts last : Bool) (f g : Frame) (t u : List Ev) → f.id < 2 ^ 32 → g.id < 2 ^ 32
    → (starts ≡ false → f.start ≡ g.start) → (last ≡ false → f.end ≡ g.end)
    → (starts ≡ false → 0 < length f.players) → (starts ≡ false → 0 < length g.players)
    → Follows starts t → Follows starts u → whole starts last f t ≡ whole starts last g u → (f ≡ g) × (t ≡ u)
unfolding keep
frame_cut true last f g t u a b s e x y h k q =
    let r = alike last f g t u true h k e x y (tail-eq_of_cons-eq q) in
    (built f g (row_id FrameStart _ _ _ _ a b (head-eq_of_cons-eq q)) (row_bytes_lem FrameStart _ _ _ _ (head-eq_of_cons-eq q)) r.0, r.1)
frame_cut false last f g t u a b s e x y h k q =
    let r = alike last f g t u false h k e x y q in
    (built f g (first_id _ _ f.players g.players _ _ a b (x refl) (y refl) q) (s refl) r.0, r.1)

-- ---- what a version lacks is empty

pub empty : {A : Type 0} (xs : List A) → length xs ≡ 0 → xs ≡ []
empty [] e = refl
empty (x ∷ xs) e = absurd (omega arith)

pub no_start_lem : (v : Version) → has_family v FrameStart ≡ false → size_of FrameStart v ≡ 0
unfolding has_family sum columns_of gte_of above
no_start_lem v e = ap sum (none v (col 0 2 2) (columns_of FrameStart) e tt)

pub no_end : (v : Version) → has_family v FrameEnd ≡ false → size_of FrameEnd v ≡ 0
unfolding has_family sum columns_of gte_of above
no_end v e = ap sum (none v (col 0 3 0) (columns_of FrameEnd) e tt)

both_empty : (xs ys : List ℕ) (n : ℕ) → n ≡ 0 → length xs ≡ n → length ys ≡ n → xs ≡ ys
both_empty xs ys n e a b = empty xs (a ∙ e) ∙ sym (empty ys (b ∙ e))

-- ---- frames

pub frame_then : (v : Version) (f : Frame) (t : List Ev) → events_of_frame v f ++ t ≡ whole (has_family v FrameStart) (has_family v FrameEnd) f t
unfolding events_of_frame
frame_then v f t = simp append_assoc

-- a frame begins with its start, or with a Pre where there is none
opens : (starts last : Bool) (f : Frame) (t : List Ev) → (starts ≡ false → 0 < length f.players) → first (whole starts last f t) ≡ cond starts 0x3A 0x37
unfolding keep
opens true last f t h = refl
opens false last f t h = go f.players (h refl)
  where
    go : (ps : List Player) → 0 < length ps → first (map (pre_event f.id) ps ++ after_pres last f t) ≡ 0x37
    go [] l = absurd (omega arith)
    go (p ∷ ps) l = refl

follows_opens : (starts : Bool) (t : List Ev) → first t ≡ cond starts 0x3A 0x37 → Follows starts t
follows_opens true t e = record { low = omega arith; post = λ x. omega arith; pre = λ y x. omega arith }
follows_opens false t e = record { low = omega arith; post = λ x. omega arith; pre = λ y. let z : ◌≡◌ {A = ℕ} 0 1 = cc in absurd (omega arith) }

pub starts_with : (v : Version) (o : Order) (f : Frame) (t : List Ev) → GoodFrame v o f → first (events_of_frame v f ++ t) ≡ cond (has_family v FrameStart) 0x3A 0x37
starts_with v o f t h = ap first (frame_then v f t) ∙ opens _ _ f t h.somebody

not_opens : (starts : Bool) (ends : List (List ℕ)) → first (map end_event ends) ≡ cond starts 0x3A 0x37 → ⊥
not_opens true [] e = omega arith
not_opens true (x ∷ ends) e = omega arith
not_opens false [] e = omega arith
not_opens false (x ∷ ends) e = omega arith

follows_ends : (starts : Bool) (ends : List (List ℕ)) → Follows starts (map end_event ends)
follows_ends starts [] = record { low = omega arith; post = λ x. omega arith; pre = λ y x. omega arith }
follows_ends starts (e ∷ ends) = record { low = omega arith; post = λ x. omega arith; pre = λ y x. omega arith }

module _ (v : Version) (o : Order) (ends : List (List ℕ)) where
  follows : (fs : List Frame) → Each (GoodFrame v o) fs → Follows (has_family v FrameStart) (events_of_frames v fs ++ map end_event ends)
  unfolding events_of_frames Each
  follows [] h = follows_ends _ ends
  follows (f ∷ fs) h =
      let e : (events_of_frame v f ++ events_of_frames v fs) ++ map end_event ends ≡ events_of_frame v f ++ (events_of_frames v fs ++ map end_event ends) = append_assoc (events_of_frame v f)
      (events_of_frames v fs) (map end_event ends) in
      follows_opens _ _ (ap first e ∙ starts_with v o f _ h.0)

module _ (v : Version) (o o' : Order) (xs ys : List (List ℕ)) where
  pub frames_unique : (fs gs : List Frame) → Each (GoodFrame v o) fs → Each (GoodFrame v o') gs
      → events_of_frames v fs ++ map end_event xs ≡ events_of_frames v gs ++ map end_event ys → (fs ≡ gs) × (map end_event xs ≡ map end_event ys)
  unfolding events_of_frames Each
  frames_unique [] [] h k q = (refl, q)
  frames_unique [] (g ∷ gs) h k q =
      absurd (not_opens (has_family v FrameStart) xs (ap first (q ∙ append_assoc (events_of_frame v g) (events_of_frames v gs) (map end_event ys)) ∙ starts_with v o' g _ k.0))
  frames_unique (f ∷ fs) [] h k q =
      absurd (not_opens (has_family v FrameStart) ys (ap first (sym q ∙ append_assoc (events_of_frame v f) (events_of_frames v fs) (map end_event xs)) ∙ starts_with v o f _ h.0))
  frames_unique (f ∷ fs) (g ∷ gs) h k q =
      let a = h.0 in
      let b = k.0 in
      let e =
      sym (append_assoc (events_of_frame v f) (events_of_frames v fs) (map end_event xs) ∙ frame_then v f _)
      ∙ q
      ∙ append_assoc (events_of_frame v g) (events_of_frames v gs) (map end_event ys)
      ∙ frame_then v g _ in
      let c =
      frame_cut _ _ f g _ _ a.id b.id
      (λ n. both_empty _ _ _ (no_start_lem v n) a.start b.start)
      (λ n. both_empty _ _ _ (no_end v n) a.end b.end)
      a.somebody b.somebody (follows v o xs fs h.1) (follows v o' ys gs k.1) e in
      let r = frames_unique fs gs h.1 k.1 c.1 in
      (λ i. c.0 i ∷ r.0 i, r.1)

-- ---- code blocks and ends

block_same : (m n : ℕ) (b c : Block) → length b.bytes ≡ 512 → length c.bytes ≡ 512 → b.used ≤ 512 → c.used ≤ 512 → block_event m b ≡ block_event n c → b ≡ c
block_same m n b c x y h k q =
    let p = append_same b.bytes c.bytes _ _ (x ∙ sym y) (ap (λ (e : Ev). e.payload) q) in
    let u = (append_same (be 2 b.used) (be 2 c.used) _ _ (length_be 2 b.used ∙ sym (length_be 2 c.used)) p.1).0 in
    let w = sym (number_be 2 b.used (omega arith)) ∙ ap number u ∙ number_be 2 c.used (omega arith) in
    λ i. record { bytes = p.0 i; used = w i }

module _ (v : Version) (t u : List Ev) (n : Not 0x10 t) (m : Not 0x10 u) where
  codes_cut : (bs cs : List Block) → GoodCodes v bs → GoodCodes v cs → codes_events bs ++ t ≡ codes_events cs ++ u → (bs ≡ cs) × (t ≡ u)
  unfolding codes_events GoodCodes
  codes_cut [] [] h k q = (refl, q)
  codes_cut [] (c ∷ []) h k q = absurd (n (ap first q))
  codes_cut [] (c ∷ c' ∷ cs) h k q = absurd (n (ap first q))
  codes_cut (b ∷ []) [] h k q = absurd (m (ap first (sym q)))
  codes_cut (b ∷ b' ∷ bs) [] h k q = absurd (m (ap first (sym q)))
  codes_cut (b ∷ []) (c ∷ []) h k q =
      let e = block_same 1 1 b c h.1 k.1 h.3 k.3 (head-eq_of_cons-eq q) in
      (λ i. e i ∷ [], tail-eq_of_cons-eq q)
  codes_cut (b ∷ []) (c ∷ c' ∷ cs) h k q = absurd (n (ap first (tail-eq_of_cons-eq q) ∙ block_code c' cs))
    where
      block_code : (c : Block) (cs : List Block) → first (codes_events (c ∷ cs) ++ u) ≡ 0x10
      block_code c [] = refl
      block_code c (d ∷ cs) = refl
  codes_cut (b ∷ b' ∷ bs) (c ∷ []) h k q = absurd (m (ap first (sym (tail-eq_of_cons-eq q)) ∙ block_code b' bs))
    where
      block_code : (c : Block) (cs : List Block) → first (codes_events (c ∷ cs) ++ t) ≡ 0x10
      block_code c [] = refl
      block_code c (d ∷ cs) = refl
  codes_cut (b ∷ b' ∷ bs) (c ∷ c' ∷ cs) h k q =
      let e = block_same 0 0 b c h.0 k.0 (omega (arith, h.1)) (omega (arith, k.1)) (head-eq_of_cons-eq q) in
      let r = codes_cut (b' ∷ bs) (c' ∷ cs) h.2 k.2 (tail-eq_of_cons-eq q) in
      (λ i. e i ∷ r.0 i, r.1)

ends_unique : (xs ys : List (List ℕ)) → map end_event xs ≡ map end_event ys → xs ≡ ys
ends_unique [] [] q = refl
ends_unique [] (y ∷ ys) q = absurd (cons≢nil (sym q))
ends_unique (x ∷ xs) [] q = absurd (cons≢nil q)
ends_unique (x ∷ xs) (y ∷ ys) q =
    let h : x ≡ y = ap (λ (e : Ev). e.payload) (head-eq_of_cons-eq q) in
    let t = ends_unique xs ys (tail-eq_of_cons-eq q) in
    λ i. h i ∷ t i

-- ---- two well-formed replays of one version with the same events are equal

pub no_block : (v : Version) (o : Order) (ends : List (List ℕ)) (fs : List Frame) → Each (GoodFrame v o) fs → Not 0x10 (events_of_frames v fs ++ map end_event ends)
unfolding events_of_frames Each
no_block v o [] [] h = λ e. omega arith
no_block v o (x ∷ ends) [] h = λ e. omega arith
no_block v o ends (f ∷ fs) h =
    let e = ap first (append_assoc (events_of_frame v f) (events_of_frames v fs) (map end_event ends)) ∙ starts_with v o f _ h.0 in
    λ x. go (has_family v FrameStart) (sym x ∙ e)
  where
    go : (b : Bool) → ◌≡◌ {A = ℕ} 0x10 (cond b 0x3A 0x37) → ⊥
    go true q = omega arith
    go false q = omega arith

pub unique : (v : Version) (o o' : Order) (r s : Replay) → WellFormed v o r → WellFormed v o' s → events_of v r ≡ events_of v s → r ≡ s
unfolding events_of
unique v o o' r s h k q =
    let block : r.block ≡ s.block = ap (λ (e : Ev). e.payload) (head-eq_of_cons-eq q) in
    let codes = codes_cut v _ _ (no_block v o r.ends r.frames h.frames) (no_block v o' s.ends s.frames k.frames) r.codes s.codes h.codes k.codes
    (tail-eq_of_cons-eq q) in
    let frames = frames_unique v o o' r.ends s.ends r.frames s.frames h.frames k.frames codes.1 in
    let ends = ends_unique r.ends s.ends frames.1 in
    λ i. record { block = block i; codes = codes.0 i; frames = frames.0 i; ends = ends i }

-- ---- the version is in the block, so that events come from one replay of one version

same_version : (v w : Version) (o o' : Order) (r s : Replay) → WellFormed v o r → WellFormed w o' s → events_of v r ≡ events_of w s → v ≡ w
unfolding events_of
same_version v w o o' r s h k q =
    let block : r.block ≡ s.block = ap (λ (e : Ev). e.payload) (head-eq_of_cons-eq q) in
    let three : v.major ∷ v.minor ∷ v.patch ∷ [] ≡ w.major ∷ w.minor ∷ w.patch ∷ [] = sym h.version ∙ ap (take 3) block ∙ k.version in
    let a : v.major ≡ w.major = head-eq_of_cons-eq three in
    let b : v.minor ≡ w.minor = head-eq_of_cons-eq (tail-eq_of_cons-eq three) in
    let c : v.patch ≡ w.patch = head-eq_of_cons-eq (tail-eq_of_cons-eq (tail-eq_of_cons-eq three)) in
    λ i. record { major = a i; minor = b i; patch = c i }

pub one_replay : (v w : Version) (o o' : Order) (r s : Replay) → WellFormed v o r → WellFormed w o' s → events_of v r ≡ events_of w s → (v ≡ w) × (r ≡ s)
one_replay v w o o' r s h k q =
    let e = same_version v w o o' r s h k q in
    (e, unique w o o' r s (subst (λ (x : Version). WellFormed x o r) e h) k (ap (λ (x : Version). events_of x r) (sym e) ∙ q))
