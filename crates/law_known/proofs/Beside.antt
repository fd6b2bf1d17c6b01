-- What is shown beside the columns stands at its 3.18 place too: ids, the start block as it is, and codes and the end at the front of their payloads.
-- Assumes nothing.
use Prim.Native.Nat.{ℕ, ◌+◌}
use mathlib.Core.Path.{◌≡◌, refl, sym, ap, ap₂, ◌∙◌}
use mathlib.Core.Bool.{Bool, true, false, cond}
use mathlib.Core.List.{List, [], ◌∷◌, ◌++◌, map, append_assoc, append-nil, head-eq_of_cons-eq}
use native.Mathlib.Omega.{arith}
use borrow.Author.Tests.{eqb-true}
use lib.Dec.{eqb}
use lib.ListN.{length, take, length-map}
use lib.Seq.{take_at, take-take, get_or-take}
use Rattle.wire.specs.Wire.{be, number, part, keep}
use Rattle.format.specs.Event.{code_of}
use Rattle.format.specs.File.{Ev}
use Rattle.format.specs.Version.{gte_of, above}
use Rattle.format.specs.declared.event.Event.TheVariants.{GameEnd, GeckoCodes, MessageSplitter}
use Rattle.format.specs.declared.version.Version.{Version}
use Rattle.layout.specs.Columns.{has_family}
use Rattle.layout.specs.Payloads.{record_size, end_size}
use Rattle.layout.specs.declared.columns.Family.{Family}
use Rattle.layout.specs.declared.columns.Family.TheVariants.{Pre, Post, FrameStart, Item, FrameEnd, FodPlatform, DreamlandWhispy, StadiumTransformation}
use Rattle.grammar.specs.Productions.{Frame, Block, Replay, row_event, pre_event, post_event, events_of_frame, events_of_frames, block_event, codes_events, start_event, end_event, events_of, codes_bytes}
use Rattle.grammar.specs.WellFormed.{Each, Order, GoodCodes, WellFormed}
use Rattle.grammar.specs.Machine.{family_of, on_family}
use Rattle.grammar.proofs.Each.{each_both, each_keep, each_one}
use Rattle.columns.specs.Columns.{ids_read}
use Rattle.read_outline.specs.End.{end_in, initiator_in, placed_in, placements_in}
use Rattle.measure.specs.Game.{end_read, is_double}
use Rattle.known.specs.Known.{is_newer, is_known, known_size, known_of, taken}
use Rattle.known.proofs.Newest.{taken_newer}
use Rattle.known.proofs.Codes.{known_one, unknown_one, unlike}
use Rattle.law_known.specs.Made.{last}
use Rattle.law_known.specs.Shown.{payloads_of, ends_in, codes_in}
use Rattle.law_known.proofs.Late.{same_end}
use Rattle.law_known.proofs.Same.{ends_same}
use Rattle.law_known.proofs.Made.{start_taken}
use Rattle.law_known.proofs.Payloads.{payloads_known}
use Rattle.law_known.proofs.Tree.{id_of, tree_ids}

-- ---- what is so of every row is so of every event of frames

all_map : {A : Type 0} (P : Ev → Type 0) (g : A → Ev) → ((a : A) → P (g a)) → (xs : List A) → Each P (map g xs)
unfolding Each
all_map P g h [] = tt
all_map P g h (x ∷ xs) = (h x, all_map P g h xs)

module _ (P : Ev → Type 0) (every : (family : Family) (id : ℕ) (bytes : List ℕ) → P (row_event family id bytes)) (v : Version) where
  frame_all : (f : Frame) → Each P (events_of_frame v f)
  unfolding events_of_frame
  frame_all f =
      let one : (has : Bool) (family : Family) (bytes : List ℕ) → Each P (keep has (row_event family f.id bytes ∷ []))
      = λ has family bytes. each_keep P has (row_event family f.id bytes ∷ []) (λ e. each_one P (row_event family f.id bytes) (every family f.id bytes)) in
      let rows : (family : Family) (xs : List (List ℕ)) → Each P (map (row_event family f.id) xs)
      = λ family xs. all_map P (row_event family f.id) (every family f.id) xs in
      each_both P _ _ (one (has_family v FrameStart) FrameStart f.start)
      (each_both P _ _ (all_map P (pre_event f.id) (λ p. every Pre f.id (p.port ∷ p.follower ∷ p.pre)) f.players)
      (each_both P _ _ (rows FodPlatform f.fods)
      (each_both P _ _ (rows DreamlandWhispy f.whispys)
      (each_both P _ _ (rows StadiumTransformation f.stadiums)
      (each_both P _ _ (rows Item f.items)
      (each_both P _ _ (all_map P (post_event f.id) (λ p. every Post f.id (p.port ∷ p.follower ∷ p.post)) f.players)
      (one (has_family v FrameEnd) FrameEnd f.end)))))))

  frames_all : (fs : List Frame) → Each P (events_of_frames v fs)
  unfolding Each events_of_frames
  frames_all [] = tt
  frames_all (f ∷ fs) = each_both P (events_of_frame v f) (events_of_frames v fs) (frame_all f) (frames_all fs)

abbrev Not : ℕ → Ev → Type 0
Not c e = eqb e.code c ≡ false

row_end : (family : Family) (id : ℕ) (bytes : List ℕ) → Not (code_of GameEnd) (row_event family id bytes)
row_end Pre id bytes = refl
row_end Post id bytes = refl
row_end FrameStart id bytes = refl
row_end Item id bytes = refl
row_end FrameEnd id bytes = refl
row_end FodPlatform id bytes = refl
row_end DreamlandWhispy id bytes = refl
row_end StadiumTransformation id bytes = refl

row_block : (family : Family) (id : ℕ) (bytes : List ℕ) → Not (code_of MessageSplitter) (row_event family id bytes)
row_block Pre id bytes = refl
row_block Post id bytes = refl
row_block FrameStart id bytes = refl
row_block Item id bytes = refl
row_block FrameEnd id bytes = refl
row_block FodPlatform id bytes = refl
row_block DreamlandWhispy id bytes = refl
row_block StadiumTransformation id bytes = refl

-- ---- ends

ends_none : (xs t : List Ev) → Each (Not (code_of GameEnd)) xs → ends_in (xs ++ t) ≡ ends_in t
unfolding Each ends_in keep
ends_none [] t h = refl
ends_none (x ∷ xs) t h = rw h.0 (ends_none xs t h.1)

ends_own : (ends : List (List ℕ)) → ends_in (map end_event ends) ≡ ends
unfolding ends_in keep
ends_own [] = refl
ends_own (b ∷ ends) = ap (λ (l : List (List ℕ)). b ∷ l) (ends_own ends)

no_ends : (bs : List Block) → Each (Not (code_of GameEnd)) (codes_events bs)
unfolding Each codes_events
no_ends [] = tt
no_ends (b ∷ []) = (refl, tt)
no_ends (b ∷ c ∷ bs) = (refl, no_ends (c ∷ bs))

tree_ends : (v : Version) (r : Replay) → ends_in (events_of v r) ≡ r.ends
unfolding events_of ends_in keep
tree_ends v r =
    ends_none (codes_events r.codes) (events_of_frames v r.frames ++ map end_event r.ends) (no_ends r.codes)
    ∙ ends_none (events_of_frames v r.frames) (map end_event r.ends) (frames_all (Not (code_of GameEnd)) row_end v r.frames)
    ∙ ends_own r.ends

end_size_lem : (v : Version) (e : Ev) → eqb e.code (code_of GameEnd) ≡ true → known_size v e ≡ end_size v
unfolding known_size on_family family_of
end_size_lem v e h = ap (λ (c : ℕ). known_size v (record { code = c; payload = e.payload })) (eqb-true e.code (code_of GameEnd) h)

ends_step : (v : Version) (e : Ev) (es : List Ev) → ends_in (known_of v es) ≡ map (take (end_size v)) (ends_in es) → ends_in (known_of v (e ∷ es)) ≡ map (take (end_size v)) (ends_in (e ∷ es))
unfolding ends_in keep
ends_step v e es ih = go (is_known e.code) refl (eqb e.code (code_of GameEnd)) refl
  where
    go : (b : Bool) → is_known e.code ≡ b → (c : Bool) → eqb e.code (code_of GameEnd) ≡ c → ends_in (known_of v (e ∷ es)) ≡ map (take (end_size v)) (ends_in (e ∷ es))
    go true k true h = ap ends_in (known_one v e es k) ∙ rw h (λ i. take (end_size_lem v e h i) e.payload ∷ ih i)
    go true k false h = ap ends_in (known_one v e es k) ∙ rw h ih
    go false k c h = ap ends_in (unknown_one v e es k) ∙ rw (unlike e.code k).end ih

ends_known : (v : Version) (es : List Ev) → ends_in (known_of v es) ≡ map (take (end_size v)) (ends_in es)
unfolding ends_in known_of
ends_known v [] = refl
ends_known v (e ∷ es) = ends_step v e es (ends_known v es)

-- an end is read in its first six bytes
six : end_size last ≡ 6
unfolding end_size gte_of above
six = refl

front_end : (p : List ℕ) → end_in last (take 6 p) ≡ end_in last p
unfolding end_in initiator_in placed_in placements_in
front_end p =
    rw (get_or-take 6 p 0 0 (omega arith), get_or-take 6 p 1 0 (omega arith), get_or-take 6 p 2 0 (omega arith), get_or-take 6 p 3 0 (omega arith), get_or-take 6 p 4 0 (omega arith), get_or-take 6 p 5 0 (omega arith))

fronts_end : (ps : List (List ℕ)) → end_read last (map (take 6) ps) ≡ end_read last ps
fronts_end [] = refl
fronts_end (p ∷ ps) = front_end p

-- ---- blocks of codes

codes_none : (xs t : List Ev) → Each (Not (code_of MessageSplitter)) xs → codes_in (xs ++ t) ≡ codes_in t
unfolding Each codes_in keep
codes_none [] t h = refl
codes_none (x ∷ xs) t h = rw h.0 (codes_none xs t h.1)

codes_one : (flag : ℕ) (b : Block) (t : List Ev) → length b.bytes ≡ 512 → codes_in (block_event flag b ∷ t) ≡ b.bytes ++ codes_in t
unfolding codes_in keep
codes_one flag b t n = ap (λ (l : List ℕ). l ++ codes_in t) (take_at b.bytes (be 2 b.used ++ (code_of GeckoCodes ∷ flag ∷ [])) 512 n)

codes_own : (v : Version) (bs : List Block) (t : List Ev) → GoodCodes v bs → codes_in (codes_events bs ++ t) ≡ codes_bytes bs ++ codes_in t
unfolding GoodCodes codes_events codes_bytes
codes_own v [] t h = refl
codes_own v (b ∷ []) t h = codes_one 1 b t h.1 ∙ ap (λ (l : List ℕ). l ++ codes_in t) (sym (append-nil b.bytes))
codes_own v (b ∷ c ∷ bs) t h =
    codes_one 0 b (codes_events (c ∷ bs) ++ t) h.0
    ∙ ap (λ (l : List ℕ). b.bytes ++ l) (codes_own v (c ∷ bs) t h.2)
    ∙ sym (append_assoc b.bytes (codes_bytes (c ∷ bs)) (codes_in t))

tree_codes : (v : Version) (r : Replay) → GoodCodes v r.codes → codes_in (events_of v r) ≡ codes_bytes r.codes
unfolding events_of codes_in keep
tree_codes v r good =
    let ends : codes_in (map end_event r.ends) ≡ []
    = ap codes_in (sym (append-nil (map end_event r.ends))) ∙ codes_none (map end_event r.ends) [] (all_map (Not (code_of MessageSplitter)) end_event (λ b. refl) r.ends) in
    codes_own v r.codes (events_of_frames v r.frames ++ map end_event r.ends) good
    ∙ ap (λ (l : List ℕ). codes_bytes r.codes ++ l)
    (codes_none (events_of_frames v r.frames) (map end_event r.ends) (frames_all (Not (code_of MessageSplitter)) row_block v r.frames) ∙ ends)
    ∙ append-nil (codes_bytes r.codes)

block_size : (v : Version) (e : Ev) → eqb e.code (code_of MessageSplitter) ≡ true → known_size v e ≡ 516
unfolding known_size on_family family_of
block_size v e h = ap (λ (c : ℕ). known_size v (record { code = c; payload = e.payload })) (eqb-true e.code (code_of MessageSplitter) h)

codes_step : (v : Version) (e : Ev) (es : List Ev) → codes_in (known_of v es) ≡ codes_in es → codes_in (known_of v (e ∷ es)) ≡ codes_in (e ∷ es)
unfolding codes_in keep
codes_step v e es ih = go (is_known e.code) refl (eqb e.code (code_of MessageSplitter)) refl
  where
    go : (b : Bool) → is_known e.code ≡ b → (c : Bool) → eqb e.code (code_of MessageSplitter) ≡ c → codes_in (known_of v (e ∷ es)) ≡ codes_in (e ∷ es)
    go true k true h =
        ap codes_in (known_one v e es k)
        ∙ rw h (ap₂ ◌++◌ (ap (λ (n : ℕ). take 512 (take n e.payload)) (block_size v e h) ∙ take-take 512 516 e.payload (omega arith)) ih)
    go true k false h = ap codes_in (known_one v e es k) ∙ rw h ih
    go false k c h = ap codes_in (unknown_one v e es k) ∙ rw (unlike e.code k).splitter ih

codes_known : (v : Version) (es : List Ev) → codes_in (known_of v es) ≡ codes_in es
unfolding codes_in known_of
codes_known v [] = refl
codes_known v (e ∷ es) = codes_step v e es (codes_known v es)

-- ---- of what is taken

module _ (v : Version) (newer : is_newer v ≡ true) (raw : List Ev) (r : Replay) (events : taken v raw ≡ events_of v r) where
  known : events_of v r ≡ known_of v raw
  known = sym events ∙ taken_newer v newer raw

  ends_are : r.ends ≡ map (take 6) (ends_in raw)
  ends_are =
      sym (tree_ends v r) ∙ ap ends_in known ∙ ends_known v raw ∙ ap (λ (n : ℕ). map (take n) (ends_in raw)) (same_end v newer ∙ six)

  pub end_shown : end_read v r.ends ≡ end_read last (ends_in raw)
  end_shown = ends_same v newer r.ends ∙ ap (end_read last) ends_are ∙ fronts_end (ends_in raw)

  pub double_shown : is_double r.ends ≡ is_double (ends_in raw)
  double_shown = ap is_double ends_are ∙ ap (λ (n : ℕ). cond (eqb n 2) 1 0) (length-map (ends_in raw) (take 6))

  pub codes_shown : (o : Order) → WellFormed v o r → codes_bytes r.codes ≡ codes_in raw
  codes_shown o w = sym (tree_codes v r w.codes) ∙ ap codes_in known ∙ codes_known v raw

  -- the start block as it is, of which the start is read as ever
  pub block_shown : (block : List ℕ) (es : List Ev) → raw ≡ start_event block ∷ es → r.block ≡ block
  unfolding events_of
  block_shown block es e =
      ap (λ (x : Ev). x.payload) (head-eq_of_cons-eq (known ∙ ap (known_of v) e ∙ start_taken v block es))

  -- the id of each frame, in its start's first four bytes
  pub ids_shown : (o : Order) → WellFormed v o r → ids_read r.frames ≡ map (λ p. number (part p 0 4)) (payloads_of FrameStart raw)
  unfolding part
  ids_shown o w =
      sym (tree_ids v newer o r w)
      ∙ ap (λ (es : List Ev). map id_of (payloads_of FrameStart es)) known
      ∙ ap (map id_of) (payloads_known v FrameStart raw)
      ∙ go (payloads_of FrameStart raw)
    where
      go : (ps : List (List ℕ)) → map id_of (map (take (record_size FrameStart v)) ps) ≡ map id_of ps
      go [] = refl
      go (p ∷ ps) = λ i. number (take-take 4 (record_size FrameStart v) p (omega arith) i) ∷ go ps i
