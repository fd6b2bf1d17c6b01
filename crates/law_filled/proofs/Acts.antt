-- What each event does to a store of players, frame by frame.
-- Assumes nothing.
use mathlib.Core.Path.{◌≡◌, refl, sym, ap, ◌∙◌}
use mathlib.Core.Bool.{Bool, true, false}
use mathlib.Core.List.{List, [], ◌∷◌, ◌++◌, map}
use Prim.Native.Nat.{ℕ, ◌+◌, ◌≤◌}
use native.Mathlib.Omega.{arith}
use lib.Dec.{eqb}
use lib.ListN.{length}
use Rattle.wire.specs.Wire.{keep}
use Rattle.format.specs.Event.{code_of}
use Rattle.format.specs.File.{Ev}
use Rattle.format.specs.declared.version.Version.{Version}
use Rattle.layout.specs.Columns.{has_family}
use Rattle.layout.specs.Payloads.{event_of}
use Rattle.layout.specs.declared.columns.Family.{Family}
use Rattle.layout.specs.declared.columns.Family.TheVariants.{FrameStart}
use Rattle.game.specs.Stores.{Lent}
use Rattle.grammar.specs.Productions.{Frame, row_event, events_of_frame, events_of_frames}
use Rattle.grammar.specs.WellFormed.{Each, ascending, GoodFrame}
use Rattle.grammar.specs.Readable.{Changing}
use Rattle.read_event.specs.Inner.{Plan, told_by, seen_after, player_put, bit_put, step, run, finish}
use Rattle.read_event.specs.declared.seen.Open.{Open}
use Rattle.read_event.specs.declared.seen.Seen.{Seen}
use Rattle.read_event.proofs.Leaves.{player_off, bit_off}
use Rattle.law_filled.proofs.RowRuns.{in_order, sections, bodies_in, frame_is}
use Rattle.law_filled.proofs.Opens.{open_at, open_e, Quiet, stays_open, Begins, begins, opened_is, Fresh, fresh_next, changing_next}

-- ---- an act for each event, with the number of frames that began

module _ (p : Plan) (act : Ev → ℕ → List ℕ → List ℕ) where
  unfoldable pub act_run : List Ev → Open → List ℕ → List ℕ
  act_run [] o xs = xs
  act_run (e ∷ es) o xs = act_run es (open_e p o e) (act e (open_e p o e).frames xs)

  -- all within one frame
  unfoldable pub act_fold : ℕ → List Ev → List ℕ → List ℕ
  act_fold n [] xs = xs
  act_fold n (e ∷ es) xs = act_fold n es (act e n xs)

  pub fold_both : (n : ℕ) (es t : List Ev) (xs : List ℕ) → act_fold n (es ++ t) xs ≡ act_fold n t (act_fold n es xs)
  unfolding act_fold
  fold_both n [] t xs = refl
  fold_both n (e ∷ es) t xs = fold_both n es t (act e n xs)

  act_quiet : (es t : List Ev) (o : Open) (xs : List ℕ) → Each (Quiet p o) es → act_run (es ++ t) o xs ≡ act_run t o (act_fold o.frames es xs)
  unfolding act_run act_fold Each
  act_quiet [] t o xs q = refl
  act_quiet (e ∷ es) t o xs q = ap (λ (x : Open). act_run (es ++ t) x (act e x.frames xs)) (stays_open p o e q.0) ∙ act_quiet es t o (act e o.frames xs) q.1

  act_frame : (o : Open) (id : ℕ) (es t : List Ev) (xs : List ℕ) → Begins p o id es → act_run (es ++ t) o xs ≡ act_run t (open_at (o.frames + 1) id) (act_fold (o.frames + 1) es xs)
  unfolding act_run act_fold
  act_frame o id es t xs b =
      ap (λ (l : List Ev). act_run (l ++ t) o xs) b.split
      ∙ ap (λ (x : Open). act_run (b.others ++ t) x (act b.first x.frames xs)) (opened_is p o b.first id b.opening b.id_is)
      ∙ act_quiet b.others t (open_at (o.frames + 1) id) (act b.first (o.frames + 1) xs) b.quiet
      ∙ ap (λ (l : List Ev). act_run t (open_at (o.frames + 1) id) (act_fold (o.frames + 1) l xs)) (sym b.split)

  -- frame after frame, the first of which is frame n
  unfoldable pub frames_fold : Version → List Frame → ℕ → List ℕ → List ℕ
  frames_fold v [] n xs = xs
  frames_fold v (f ∷ fs) n xs = frames_fold v fs (n + 1) (act_fold (n + 1) (events_of_frame v f) xs)

  pub act_frames : (v : Version) → p.has_start ≡ has_family v FrameStart → (fs : List Frame) (o : Open) (xs : List ℕ) → Each (GoodFrame v ascending) fs
      → (has_family v FrameStart ≡ false → Changing fs) → Fresh p v o fs → o.frames + length fs ≤ p.counts.frames
      → act_run (events_of_frames v fs) o xs ≡ frames_fold v fs o.frames xs
  unfolding events_of_frames act_run frames_fold Each
  act_frames v hs [] o xs g c q room = refl
  act_frames v hs (f ∷ fs) o xs g c q room =
      act_frame o f.id (events_of_frame v f) (events_of_frames v fs) xs (begins p v f o hs g.0 (omega arith) q)
      ∙ act_frames v hs fs (open_at (o.frames + 1) f.id) (act_fold (o.frames + 1) (events_of_frame v f) xs) g.1 (changing_next p v f fs c) (fresh_next p v (o.frames + 1) f fs c)
      (omega arith)

  -- events of other codes do nothing
  module _ (c : ℕ) (idle : (e : Ev) (n : ℕ) (xs : List ℕ) → eqb e.code c ≡ false → act e n xs ≡ xs) where
    skip_rows : (g : Family) → eqb (code_of (event_of g)) c ≡ false → (id n : ℕ) (bs : List (List ℕ)) (xs : List ℕ) → act_fold n (map (row_event g id) bs) xs ≡ xs
    unfolding act_fold
    skip_rows g e id n [] xs = refl
    skip_rows g e id n (b ∷ bs) xs = ap (act_fold n (map (row_event g id) bs)) (idle (row_event g id b) n xs e) ∙ skip_rows g e id n bs xs

    -- the sections that matter
    unfoldable pub kept : Version → Frame → List Family → List Ev
    kept v f [] = []
    kept v f (g ∷ gs) = keep (eqb (code_of (event_of g)) c) (map (row_event g f.id) (bodies_in v f g)) ++ kept v f gs

    fold_sections : (v : Version) (f : Frame) (n : ℕ) (gs : List Family) (xs : List ℕ) → act_fold n (sections v f gs) xs ≡ act_fold n (kept v f gs) xs
    unfolding sections kept keep
    fold_sections v f n [] xs = refl
    fold_sections v f n (g ∷ gs) xs = go (eqb (code_of (event_of g)) c) refl (λ ys. fold_sections v f n gs ys)
      where
        go : (b : Bool) → eqb (code_of (event_of g)) c ≡ b → ((ys : List ℕ) → act_fold n (sections v f gs) ys ≡ act_fold n (kept v f gs) ys)
            → act_fold n (map (row_event g f.id) (bodies_in v f g) ++ sections v f gs) xs ≡ act_fold n (keep b (map (row_event g f.id) (bodies_in v f g)) ++ kept v f gs) xs
        go true e more =
            fold_both n (map (row_event g f.id) (bodies_in v f g)) (sections v f gs) xs
            ∙ more (act_fold n (map (row_event g f.id) (bodies_in v f g)) xs)
            ∙ sym (fold_both n (map (row_event g f.id) (bodies_in v f g)) (kept v f gs) xs)
        go false e more =
            fold_both n (map (row_event g f.id) (bodies_in v f g)) (sections v f gs) xs
            ∙ ap (act_fold n (sections v f gs)) (skip_rows g e f.id n (bodies_in v f g) xs)
            ∙ more xs

    pub fold_frame : (v : Version) (f : Frame) (n : ℕ) (xs : List ℕ) → act_fold n (events_of_frame v f) xs ≡ act_fold n (kept v f in_order) xs
    fold_frame v f n xs = ap (λ (l : List Ev). act_fold n l xs) (frame_is v f) ∙ fold_sections v f n in_order xs

-- ---- the stores of players

module _ (p : Plan) where
  abbrev pub row_act : ℕ → List ℕ → Ev → ℕ → List ℕ → List ℕ
  row_act c ws e n xs = player_put (eqb e.code c) ws p.numbers (told_by e) p.counts.frames n xs

  abbrev pub bit_act : Ev → ℕ → List ℕ → List ℕ
  bit_act e n xs = bit_put (eqb e.code 0x37) p.numbers (told_by e) p.counts.frames n xs

  pub pres_run : (es : List Ev) (s : Seen) (l : Lent) → (run p es s l).cells.pres ≡ act_run p (row_act 0x37 p.pre) es s.opened l.cells.pres
  unfolding run finish step act_run
  pres_run [] s l = refl
  pres_run (e ∷ es) s l = pres_run es (seen_after p s (told_by e)) (step p s (told_by e) l)

  pub posts_run : (es : List Ev) (s : Seen) (l : Lent) → (run p es s l).cells.posts ≡ act_run p (row_act 0x38 p.post) es s.opened l.cells.posts
  unfolding run finish step act_run
  posts_run [] s l = refl
  posts_run (e ∷ es) s l = posts_run es (seen_after p s (told_by e)) (step p s (told_by e) l)

  pub bits_run : (es : List Ev) (s : Seen) (l : Lent) → (run p es s l).presence ≡ act_run p bit_act es s.opened l.presence
  unfolding run finish step act_run
  bits_run [] s l = refl
  bits_run (e ∷ es) s l = bits_run es (seen_after p s (told_by e)) (step p s (told_by e) l)

  pub row_idle : (c : ℕ) (ws : List ℕ) (e : Ev) (n : ℕ) (xs : List ℕ) → eqb e.code c ≡ false → row_act c ws e n xs ≡ xs
  row_idle c ws e n xs h = sym (player_off (eqb e.code c) ws p.numbers (told_by e) p.counts.frames n xs h)

  pub bit_idle : (e : Ev) (n : ℕ) (xs : List ℕ) → eqb e.code 0x37 ≡ false → bit_act e n xs ≡ xs
  bit_idle e n xs h = sym (bit_off (eqb e.code 0x37) p.numbers (told_by e) p.counts.frames n xs h)
