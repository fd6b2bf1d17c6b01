-- From 3.0, where a frame has an end: events that begin those of a well-formed replay and are those of another are its first frames, or all of them and its first ends,
-- unless they end before the first frame.
-- Assumes nothing.
use Prim.Native.Nat.{ℕ, suc, ◌≤◌}
use mathlib.Core.Path.{◌≡◌, refl, sym, ap, ◌∙◌}
use mathlib.Core.Bool.{Bool, true, false, ◌||◌}
use mathlib.Core.List.{List, [], ◌∷◌, ◌++◌, map, append_assoc}
use native.Mathlib.Omega.{arith}
use lib.Dec.{eqb}
use lib.ListN.{length, get_or, take, drop, length-append}
use Rattle.wire.specs.Wire.{keep}
use Rattle.format.specs.File.{Ev, events_bytes}
use Rattle.format.specs.declared.version.Version.{Version}
use Rattle.layout.specs.Columns.{has_family}
use Rattle.layout.specs.declared.columns.Family.TheVariants.{FrameStart, Item, FrameEnd, FodPlatform, DreamlandWhispy, StadiumTransformation}
use Rattle.grammar.specs.Productions.{Frame, Block, Replay, row_event, pre_event, post_event, start_event, end_event, codes_events, events_of_frame, events_of_frames, events_of}
use Rattle.grammar.specs.WellFormed.{Each, Order, InOrder, GoodFrame}
use Rattle.grammar.proofs.Each.{each_both, each_keep, each_one}
use Rattle.grammar.proofs.Lists.{append_same}
use Rattle.grammar.proofs.Unique.{empty}
use Rattle.law_columns.proofs.Lists.{kept, dropped}
use Rattle.repair_kept.proofs.Same.{no_way}
use Rattle.law_repair.specs.Front.{up_to}
use Rattle.law_repair.proofs.Fronts.{Fronts, no_ends, all_of_frames, nil_right}

-- ---- events whose bytes begin those of others

pub record Prefix (xs ys : List Ev) : Type 0 where
  pub rest : List Ev
  pub is : ys ≡ xs ++ rest

abbrev Spanned : List ℕ → List Ev → Type 0
Spanned spans es = Each (λ e. get_or spans e.code 0 ≡ suc (length e.payload)) es

-- each is as long as its code says
pub prefix : (spans : List ℕ) (xs ys : List Ev) (a b : List ℕ) → events_bytes xs ++ a ≡ events_bytes ys ++ b → Spanned spans xs → Spanned spans ys
    → length (events_bytes xs) ≤ length (events_bytes ys) → Prefix xs ys
unfolding events_bytes Each
prefix spans [] ys a b e s t l = record { rest = ys; is = refl }
prefix spans (x ∷ xs) [] a b e s t l = absurd (omega arith)
prefix spans (x ∷ xs) (y ∷ ys) a b e s t l =
    let code : x.code ≡ y.code = ap (λ (k : List ℕ). get_or k 0 0) e in
    let behind : (x.payload ++ events_bytes xs) ++ a ≡ (y.payload ++ events_bytes ys) ++ b = ap (drop 1) e in
    let long : length x.payload ≡ length y.payload = omega (arith, s.0, t.0, ap (λ (c : ℕ). get_or spans c 0) code) in
    let (payload, more) = append_same x.payload y.payload (events_bytes xs ++ a) (events_bytes ys ++ b) long
    (sym (append_assoc x.payload (events_bytes xs) a) ∙ behind ∙ append_assoc y.payload (events_bytes ys) b) in
    let p = prefix spans xs ys a b more s.1 t.1 (omega (arith, long, length-append x.payload (events_bytes xs), length-append y.payload (events_bytes ys))) in
    record { rest = p.rest; is = λ i. record { code = sym code i; payload = sym payload i } ∷ p.is i }

-- ---- the last event

last_of : ℕ → List Ev → ℕ
last_of d [] = d
last_of d (e ∷ es) = last_of e.code es

last_both : (d : ℕ) (xs ys : List Ev) → last_of d (xs ++ ys) ≡ last_of (last_of d xs) ys
unfolding last_of
last_both d [] ys = refl
last_both d (x ∷ xs) ys = last_both x.code xs ys

-- the start, a block of codes, a frame's end, and an end of the game: a replay's events end with one of these
abbrev closes : ℕ → Bool
closes c = eqb c 0x36 || eqb c 0x10 || eqb c 0x3C || eqb c 0x39

abbrev Inner : Ev → Type 0
Inner e = closes e.code ≡ false

each_map : {A : Type 0} (P : Ev → Type 0) (f : A → Ev) → ((a : A) → P (f a)) → (xs : List A) → Each P (map f xs)
unfolding Each
each_map P f h [] = tt
each_map P f h (x ∷ xs) = (h x, each_map P f h xs)

-- a frame's events before its end
abbrev inner_of : Version → Frame → List Ev
inner_of v f =
    keep (has_family v FrameStart) (row_event FrameStart f.id f.start ∷ [])
    ++ (map (pre_event f.id) f.players
    ++ (map (row_event FodPlatform f.id) f.fods
    ++ (map (row_event DreamlandWhispy f.id) f.whispys
    ++ (map (row_event StadiumTransformation f.id) f.stadiums
    ++ (map (row_event Item f.id) f.items
    ++ map (post_event f.id) f.players)))))

all_inner : (v : Version) (f : Frame) → Each Inner (inner_of v f)
all_inner v f =
    each_both Inner _ _ (each_keep Inner (has_family v FrameStart) _ (λ e. each_one Inner _ refl))
    (each_both Inner _ _ (each_map Inner (pre_event f.id) (λ p. refl) f.players)
    (each_both Inner _ _ (each_map Inner (row_event FodPlatform f.id) (λ p. refl) f.fods)
    (each_both Inner _ _ (each_map Inner (row_event DreamlandWhispy f.id) (λ p. refl) f.whispys)
    (each_both Inner _ _ (each_map Inner (row_event StadiumTransformation f.id) (λ p. refl) f.stadiums)
    (each_both Inner _ _ (each_map Inner (row_event Item f.id) (λ p. refl) f.items)
    (each_map Inner (post_event f.id) (λ p. refl) f.players))))))

seven : (a b c d e i p z : List Ev) → a ++ (b ++ (c ++ (d ++ (e ++ (i ++ (p ++ z)))))) ≡ (a ++ (b ++ (c ++ (d ++ (e ++ (i ++ p)))))) ++ z
seven a b c d e i p z =
    sym
    (append_assoc a (b ++ (c ++ (d ++ (e ++ (i ++ p))))) z
    ∙ ap (λ (l : List Ev). a ++ l)
    (append_assoc b (c ++ (d ++ (e ++ (i ++ p)))) z
    ∙ ap (λ (l : List Ev). b ++ l)
    (append_assoc c (d ++ (e ++ (i ++ p))) z
    ∙ ap (λ (l : List Ev). c ++ l)
    (append_assoc d (e ++ (i ++ p)) z
    ∙ ap (λ (l : List Ev). d ++ l)
    (append_assoc e (i ++ p) z
    ∙ ap (λ (l : List Ev). e ++ l) (append_assoc i p z))))))

module _ (v : Version) (ended : has_family v FrameEnd ≡ true) where
  abbrev frame_end : Frame → Ev
  frame_end f = row_event FrameEnd f.id f.end

  frame_is : (f : Frame) → events_of_frame v f ≡ inner_of v f ++ (frame_end f ∷ [])
  unfolding events_of_frame
  frame_is f =
      let a = keep (has_family v FrameStart) (row_event FrameStart f.id f.start ∷ []) in
      let b = map (pre_event f.id) f.players in
      let c = map (row_event FodPlatform f.id) f.fods in
      let d = map (row_event DreamlandWhispy f.id) f.whispys in
      let e = map (row_event StadiumTransformation f.id) f.stadiums in
      let i = map (row_event Item f.id) f.items in
      let p = map (post_event f.id) f.players in
      ap (λ (z : List Ev). a ++ (b ++ (c ++ (d ++ (e ++ (i ++ (p ++ z))))))) (kept (has_family v FrameEnd) (frame_end f ∷ []) ended) ∙ seven a b c d e i p (frame_end f ∷ [])

  frame_last : (d : ℕ) (f : Frame) → last_of d (events_of_frame v f) ≡ 0x3C
  unfolding last_of
  frame_last d f = ap (last_of d) (frame_is f) ∙ last_both d (inner_of v f) (frame_end f ∷ [])

  -- ---- what a replay's events end with

  closed_codes : (d : ℕ) (bs : List Block) → closes d ≡ true → closes (last_of d (codes_events bs)) ≡ true
  unfolding last_of codes_events
  closed_codes d [] h = h
  closed_codes d (b ∷ []) h = refl
  closed_codes d (b ∷ c ∷ bs) h = closed_codes 0x10 (c ∷ bs) refl

  closed_frames : (d : ℕ) (fs : List Frame) → closes d ≡ true → closes (last_of d (events_of_frames v fs)) ≡ true
  unfolding last_of events_of_frames
  closed_frames d [] h = h
  closed_frames d (f ∷ fs) h =
      ap closes (last_both d (events_of_frame v f) (events_of_frames v fs) ∙ ap (λ (c : ℕ). last_of c (events_of_frames v fs)) (frame_last d f)) ∙ closed_frames 0x3C fs refl

  closed_ends : (d : ℕ) (es : List (List ℕ)) → closes d ≡ true → closes (last_of d (map end_event es)) ≡ true
  unfolding last_of
  closed_ends d [] h = h
  closed_ends d (e ∷ es) h = closed_ends 0x39 es refl

  closed : (d : ℕ) (r : Replay) → closes (last_of d (events_of v r)) ≡ true
  unfolding last_of events_of
  closed d r =
      let c = codes_events r.codes in
      let f = events_of_frames v r.frames in
      let e = map end_event r.ends in
      ap closes (last_both 0x36 c (f ++ e) ∙ last_both (last_of 0x36 c) f e)
      ∙ closed_ends (last_of (last_of 0x36 c) f) r.ends (closed_frames (last_of 0x36 c) r.frames (closed_codes 0x36 r.codes refl))

-- ---- where such events can end in others

-- inside of a frame there is no such event
stop_inner : (d : ℕ) (ms : List Ev) (e z : Ev) (x a : List Ev) → Each Inner ms → (z ∷ x) ++ a ≡ ms ++ (e ∷ []) → closes (last_of d (z ∷ x)) ≡ true → a ≡ []
unfolding Each last_of
stop_inner d [] e z x a h q c = empty a (omega (arith, ap length q, length-append x a))
stop_inner d (m ∷ ms) e z [] a h q c = no_way (sym h.0 ∙ ap (λ (l : List Ev). closes (get_or l 0 z).code) (sym q) ∙ c)
stop_inner d (m ∷ ms) e z (y ∷ x) a h q c = stop_inner z.code ms e y x a h.1 (ap (drop 1) q) c

data Split (x rest a b : List Ev) : Type 0 where
  within : (m : List Ev) → a ≡ x ++ m → Split x rest a b
  past : (y : Ev) (ys : List Ev) → x ≡ a ++ (y ∷ ys) → (y ∷ ys) ++ rest ≡ b → Split x rest a b

split : (x rest a b : List Ev) → x ++ rest ≡ a ++ b → Split x rest a b
split [] rest a b e = within a refl
split (x ∷ xs) rest [] b e = past x xs refl e
split (x ∷ xs) rest (y ∷ a) b e = go (ap (λ (l : List Ev). get_or l 0 x) e) (split xs rest a b (ap (drop 1) e))
  where
    go : x ≡ y → Split xs rest a b → Split (x ∷ xs) rest (y ∷ a) b
    go h (within m q) = within m (λ i. sym h i ∷ q i)
    go h (past z zs q t) = past z zs (λ i. h i ∷ q i) t

record EndsAt (ends : List (List ℕ)) (xs : List Ev) : Type 0 where
  count : ℕ
  is : xs ≡ map end_event (take count ends)

in_ends : (ends : List (List ℕ)) (xs rest : List Ev) → xs ++ rest ≡ map end_event ends → EndsAt ends xs
in_ends ends [] rest e = record { count = 0; is = refl }
in_ends [] (x ∷ xs) rest e = absurd (omega (arith, ap length e))
in_ends (b ∷ ends) (x ∷ xs) rest e =
    let k = in_ends ends xs rest (ap (drop 1) e) in
    let h = ap (λ (l : List Ev). get_or l 0 x) e in
    record { count = suc k.count; is = λ i. h i ∷ k.is i }

record FrontAt (v : Version) (fs : List Frame) (ends : List (List ℕ)) (xs : List Ev) : Type 0 where
  frames : ℕ
  count : ℕ
  front : Fronts fs frames count
  is : xs ≡ events_of_frames v (take frames fs) ++ map end_event (take count ends)

module _ (v : Version) (ended : has_family v FrameEnd ≡ true) (ends : List (List ℕ)) where
  more_frames : (f : Frame) (fs : List Frame) (xs zs : List Ev) → xs ≡ events_of_frame v f ++ zs → FrontAt v fs ends zs → FrontAt v (f ∷ fs) ends xs
  unfolding events_of_frames
  more_frames f fs xs zs e k = record {
    frames = suc k.frames;
    count = k.count;
    front = go k.front;
    is = e ∙ ap (λ (l : List Ev). events_of_frame v f ++ l) k.is ∙ sym (append_assoc (events_of_frame v f) (events_of_frames v (take k.frames fs)) (map end_event (take k.count ends)));
  }
    where
      go : Fronts fs k.frames k.count → Fronts (f ∷ fs) (suc k.frames) k.count
      go (no_ends z) = no_ends z
      go (all_of_frames z) = all_of_frames z

  none_yet : (fs : List Frame) → FrontAt v fs ends []
  unfolding events_of_frames
  none_yet fs = record { frames = 0; count = 0; front = no_ends refl; is = refl }

  in_frames : (d : ℕ) (fs : List Frame) (y : Ev) (ys rest : List Ev) → (y ∷ ys) ++ rest ≡ events_of_frames v fs ++ map end_event ends → closes (last_of d (y ∷ ys)) ≡ true
      → FrontAt v fs ends (y ∷ ys)
  unfolding events_of_frames
  in_frames d [] y ys rest e c =
      let k = in_ends ends (y ∷ ys) rest e in
      record { frames = 0; count = k.count; front = all_of_frames refl; is = k.is }
  in_frames d (f ∷ fs) y ys rest e c =
      go (split (y ∷ ys) rest (events_of_frame v f) (events_of_frames v fs ++ map end_event ends) (e ∙ append_assoc (events_of_frame v f) (events_of_frames v fs) (map end_event ends)))
      (λ z zs t h. in_frames (last_of d (events_of_frame v f)) fs z zs rest t h)
    where
      go : Split (y ∷ ys) rest (events_of_frame v f) (events_of_frames v fs ++ map end_event ends)
          → ((z : Ev) (zs : List Ev) → (z ∷ zs) ++ rest ≡ events_of_frames v fs ++ map end_event ends → closes (last_of (last_of d (events_of_frame v f)) (z ∷ zs)) ≡ true → FrontAt v fs ends (z ∷ zs))
          → FrontAt v (f ∷ fs) ends (y ∷ ys)
      go (within m q) later =
          let none = stop_inner d (inner_of v f) (row_event FrameEnd f.id f.end) y ys m (all_inner v f) (sym q ∙ frame_is v ended f) c in
          more_frames f fs (y ∷ ys) [] (sym (nil_right (y ∷ ys)) ∙ ap (λ (l : List Ev). (y ∷ ys) ++ l) (sym none) ∙ sym q ∙ sym (nil_right (events_of_frame v f))) (none_yet fs)
      go (past z zs q t) later =
          more_frames f fs (y ∷ ys) (z ∷ zs) q (later z zs t (sym (ap closes (ap (last_of d) q ∙ last_both d (events_of_frame v f) (z ∷ zs))) ∙ c))

-- ---- the whole

pub data Where (v : Version) (r : Replay) (xs : List Ev) : Type 0 where
  before : Prefix xs (events_of v (up_to r 0 0)) → Where v r xs
  front : (i j : ℕ) → Fronts r.frames i j → xs ≡ events_of v (up_to r i j) → Where v r xs

pub where_ends : (v : Version) → has_family v FrameEnd ≡ true → (r s : Replay) (rest : List Ev) → events_of v r ≡ events_of v s ++ rest → Where v r (events_of v s)
unfolding events_of events_of_frames
where_ends v ended r s rest e = go (split xs rest a (events_of_frames v r.frames ++ map end_event r.ends) (sym e))
  where
    xs : List Ev
    xs = events_of v s

    a : List Ev
    a = start_event r.block ∷ codes_events r.codes

    go : Split xs rest a (events_of_frames v r.frames ++ map end_event r.ends) → Where v r xs
    go (within m q) = before (record { rest = m; is = nil_right a ∙ q })
    go (past y ys q t) =
        let c = sym (ap closes (ap (last_of 0) q ∙ last_both 0 a (y ∷ ys))) ∙ closed v ended 0 s in
        let k = in_frames v ended r.ends (last_of 0 a) r.frames y ys rest t c in
        front k.frames k.count k.front (q ∙ ap (λ (l : List Ev). a ++ l) k.is)

-- ---- from 2.2 to 3.0 a frame has a start and no end: there its start alone is a frame too, with nobody in it

abbrev pub start_alone : Frame → Frame
start_alone f = record { id = f.id; start = f.start; players = []; fods = []; whispys = []; stadiums = []; items = []; end = f.end }

pub start_stands : (v : Version) (o : Order) (f : Frame) → has_family v FrameStart ≡ true → has_family v FrameEnd ≡ false → GoodFrame v o f
    → GoodFrame v o (start_alone f) × (events_of_frame v (start_alone f) ≡ row_event FrameStart f.id f.start ∷ [])
unfolding events_of_frame Each InOrder
start_stands v o f has lacks good = (
  record {
    id = good.id;
    start = good.start;
    players = tt;
    slots = tt;
    somebody = λ e. no_way (sym e ∙ has);
    fods = tt;
    whispys = tt;
    stadiums = tt;
    items = tt;
    end = good.end;
  },
  (λ i. kept (has_family v FrameStart) (row_event FrameStart f.id f.start ∷ []) has i ++ dropped (has_family v FrameEnd) (row_event FrameEnd f.id f.end ∷ []) lacks i),
)
