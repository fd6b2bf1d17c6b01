-- Where frames begin in a pass, and what the ids and the offsets are then.
-- Assumes nothing.
use mathlib.Core.Path.{◌≡◌, refl, sym, ap, ap₂, ◌∙◌}
use mathlib.Core.Bool.{Bool, true, false, not, cond, ◌&&◌, ◌||◌}
use mathlib.Core.Logic.{◌⊎◌, inl, inr}
use mathlib.Core.List.{List, [], ◌∷◌, ◌++◌, map, append-nil}
use Prim.Native.Nat.{ℕ, ◌+◌, ◌%◌, ◌^◌, ◌≤◌, ◌<◌}
use native.Mathlib.Numerals.{add-one}
use native.Mathlib.Omega.{arith}
use borrow.Author.Tests.{lt-ltb, eq-eqb, ne_eqb}
use lib.Dec.{eqb, ltb}
use lib.ListN.{length, set, length-append}
use lib.Seq.{take_at}
use Rattle.wire.specs.Wire.{be, number, keep, splice}
use Rattle.wire.proofs.Laws.{length_be, number_be}
use Rattle.format.specs.Event.{code_of}
use Rattle.format.specs.File.{Ev}
use Rattle.format.specs.declared.version.Version.{Version}
use Rattle.layout.specs.Columns.{has_family}
use Rattle.layout.specs.Payloads.{event_of}
use Rattle.layout.specs.declared.columns.Family.{Family}
use Rattle.layout.specs.declared.columns.Family.TheVariants.{Pre, Post, FrameStart, Item, FrameEnd, FodPlatform, DreamlandWhispy, StadiumTransformation}
use Rattle.game.specs.Stores.{Lent}
use Rattle.grammar.specs.Productions.{Player, Frame, row_event, pre_event, post_event, events_of_frame, events_of_frames}
use Rattle.grammar.specs.WellFormed.{Each, ascending, GoodFrame}
use Rattle.grammar.specs.Readable.{Changing}
use Rattle.grammar.proofs.Each.{each_both}
use Rattle.columns.specs.Columns.{ids_read, rows_here, rows_there, totals}
use Rattle.read_event.specs.Inner.{Plan, told_by, opens, open_after, seen_after, next_after, marked, offset_marked, row_next, row_put, step, run, finish, none}
use Rattle.read_event.specs.declared.seen.Open.{Open}
use Rattle.read_event.specs.declared.seen.Seen.{Seen}
use Rattle.law_filled.proofs.RowRuns.{Rowed, rowed, row_run, put, picked, in_order, one_frame_lem}

abbrev pub open_at : ℕ → ℕ → Open
open_at n id = record { frames = n; id = id }

-- a row's id is that of its frame
row_id : (g : Family) (id : ℕ) (b : List ℕ) → id < 2 ^ 32 → (told_by (row_event g id b)).id ≡ id
row_id g id b h = ap number (take_at (be 4 id) b 4 (length_be 4 id)) ∙ number_be 4 id h

and_no : (a : Bool) → (a && false) ≡ false
and_no true = refl
and_no false = refl

module _ (p : Plan) where
  abbrev pub opens_e : Open → Ev → Bool
  opens_e o e = opens p.has_start p.counts.frames o e.code (told_by e).id

  abbrev pub open_e : Open → Ev → Open
  open_e o e = open_after (opens_e o e) (told_by e).id o

  -- an event that begins no frame
  abbrev pub Quiet : Open → Ev → Type 0
  Quiet o e = opens_e o e ≡ false

  pub stays_open : (o : Open) (e : Ev) → Quiet o e → open_e o e ≡ o
  unfolding open_after
  stays_open o e q = ap (λ (b : Bool). open_after b (told_by e).id o) q

  -- no row of a frame that began begins another, but a FrameStart
  quiet_row : (g : Family) → eqb (code_of (event_of g)) 0x3A ≡ false → (n id : ℕ) (b : List ℕ) → id < 2 ^ 32 → Quiet (open_at (n + 1) id) (row_event g id b)
  unfolding opens
  quiet_row g e n id b h = go p.has_start
    where
      same : not (eqb id (told_by (row_event g id b)).id) ≡ false
      same = ap not (eq-eqb id (told_by (row_event g id b)).id (sym (row_id g id b h)))

      go : (s : Bool)
          → (cond s (eqb (code_of (event_of g)) 0x3A) (eqb (code_of (event_of g)) 0x37 && (eqb (n + 1) 0 || not (eqb id (told_by (row_event g id b)).id))) && ltb (n + 1) p.counts.frames)
          ≡ false
      go true = rw e
      go false = rw (ne_eqb (n + 1) 0 (λ z. omega arith), same, and_no (eqb (code_of (event_of g)) 0x37))

  quiet_rows : (g : Family) → eqb (code_of (event_of g)) 0x3A ≡ false → (n id : ℕ) → id < 2 ^ 32 → (xs : List (List ℕ)) → Each (Quiet (open_at (n + 1) id)) (map (row_event g id) xs)
  unfolding Each
  quiet_rows g e n id h [] = tt
  quiet_rows g e n id h (x ∷ xs) = (quiet_row g e n id x h, quiet_rows g e n id h xs)

  quiet_pres : (n id : ℕ) → id < 2 ^ 32 → (xs : List Player) → Each (Quiet (open_at (n + 1) id)) (map (pre_event id) xs)
  unfolding Each
  quiet_pres n id h [] = tt
  quiet_pres n id h (x ∷ xs) = (quiet_row Pre refl n id (x.port ∷ x.follower ∷ x.pre) h, quiet_pres n id h xs)

  quiet_posts : (n id : ℕ) → id < 2 ^ 32 → (xs : List Player) → Each (Quiet (open_at (n + 1) id)) (map (post_event id) xs)
  unfolding Each
  quiet_posts n id h [] = tt
  quiet_posts n id h (x ∷ xs) = (quiet_row Post refl n id (x.port ∷ x.follower ∷ x.post) h, quiet_posts n id h xs)

  quiet_end : (n id : ℕ) → id < 2 ^ 32 → (b : Bool) (x : List ℕ) → Each (Quiet (open_at (n + 1) id)) (keep b (row_event FrameEnd id x ∷ []))
  unfolding Each keep
  quiet_end n id h true x = (quiet_row FrameEnd refl n id x h, tt)
  quiet_end n id h false x = tt

  -- a frame's events behind its Pres
  abbrev behind : Version → Frame → List Ev
  behind v f =
      map (row_event FodPlatform f.id) f.fods
      ++ (map (row_event DreamlandWhispy f.id) f.whispys
      ++ (map (row_event StadiumTransformation f.id) f.stadiums
      ++ (map (row_event Item f.id) f.items
      ++ (map (post_event f.id) f.players ++ keep (has_family v FrameEnd) (row_event FrameEnd f.id f.end ∷ [])))))

  quiet_behind : (v : Version) (f : Frame) (n : ℕ) → f.id < 2 ^ 32 → Each (Quiet (open_at (n + 1) f.id)) (behind v f)
  quiet_behind v f n h =
      let Q = Quiet (open_at (n + 1) f.id) in
      each_both Q _ _ (quiet_rows FodPlatform refl n f.id h f.fods)
      (each_both Q _ _ (quiet_rows DreamlandWhispy refl n f.id h f.whispys)
      (each_both Q _ _ (quiet_rows StadiumTransformation refl n f.id h f.stadiums)
      (each_both Q _ _ (quiet_rows Item refl n f.id h f.items)
      (each_both Q _ _ (quiet_posts n f.id h f.players) (quiet_end n f.id h (has_family v FrameEnd) f.end)))))

  -- a frame's first event begins it, and no other begins one
  pub record Begins (o : Open) (id : ℕ) (es : List Ev) : Type 0 where
    pub first : Ev
    pub others : List Ev
    pub split : es ≡ first ∷ others
    pub opening : opens_e o first ≡ true
    pub id_is : (told_by first).id ≡ id
    pub quiet : Each (Quiet (open_at (o.frames + 1) id)) others

  pub begins : (v : Version) (f : Frame) (o : Open) → p.has_start ≡ has_family v FrameStart → GoodFrame v ascending f → o.frames < p.counts.frames
      → (has_family v FrameStart ≡ false → (o.frames ≡ 0) ⊎ (o.id ≡ f.id → ⊥)) → Begins o f.id (events_of_frame v f)
  unfolding events_of_frame keep Each opens
  begins v f o hs g room fresh = go (has_family v FrameStart) refl f.players refl
    where
      new : (o.frames ≡ 0) ⊎ (o.id ≡ f.id → ⊥) → (eqb o.frames 0 || not (eqb o.id f.id)) ≡ true
      new (inl z) = rw (eq-eqb o.frames 0 z)
      new (inr n) = rw (ne_eqb o.id f.id n) (or_yes (eqb o.frames 0))
        where
          or_yes : (b : Bool) → (b || true) ≡ true
          or_yes true = refl
          or_yes false = refl

      go : (b : Bool) → has_family v FrameStart ≡ b → (ps : List Player) → f.players ≡ ps
          → Begins o f.id (keep b (row_event FrameStart f.id f.start ∷ []) ++ (map (pre_event f.id) f.players ++ behind v f))
      go true e ps q = record {
        first = row_event FrameStart f.id f.start;
        others = map (pre_event f.id) f.players ++ behind v f;
        split = refl;
        opening = rw (hs ∙ e, lt-ltb o.frames p.counts.frames room);
        id_is = row_id FrameStart f.id f.start g.id;
        quiet = each_both (Quiet (open_at (o.frames + 1) f.id)) (map (pre_event f.id) f.players) (behind v f) (quiet_pres o.frames f.id g.id f.players) (quiet_behind v f o.frames g.id);
      }
      go false e [] q = absurd (omega (arith, g.somebody e, ap length q))
      go false e (a ∷ ps) q =
          let i = row_id Pre f.id (a.port ∷ a.follower ∷ a.pre) g.id in
          record {
            first = pre_event f.id a;
            others = map (pre_event f.id) ps ++ behind v f;
            split = ap (λ (l : List Player). map (pre_event f.id) l ++ behind v f) q;
            opening = rw (hs ∙ e, lt-ltb o.frames p.counts.frames room, i, new (fresh e));
            id_is = i;
            quiet = each_both (Quiet (open_at (o.frames + 1) f.id)) (map (pre_event f.id) ps) (behind v f) (quiet_pres o.frames f.id g.id ps) (quiet_behind v f o.frames g.id);
          }

  pub opened_is : (o : Open) (e : Ev) (id : ℕ) → opens_e o e ≡ true → (told_by e).id ≡ id → open_e o e ≡ open_at (o.frames + 1) id
  unfolding open_after
  opened_is o e id a b = ap₂ (λ (x : Bool) (y : ℕ). open_after x y o) a b

  -- ---- ids

  unfoldable pub ids_run : List Ev → Open → List ℕ → List ℕ
  ids_run [] o xs = xs
  ids_run (e ∷ es) o xs = ids_run es (open_e o e) (marked (opens_e o e) o.frames (told_by e).id xs)

  pub ids_run_lem : (es : List Ev) (s : Seen) (l : Lent) → (run p es s l).cells.ids ≡ ids_run es s.opened l.cells.ids
  unfolding run finish step ids_run
  ids_run_lem [] s l = refl
  ids_run_lem (e ∷ es) s l = ids_run_lem es (seen_after p s (told_by e)) (step p s (told_by e) l)

  ids_quiet : (es t : List Ev) (o : Open) (xs : List ℕ) → Each (Quiet o) es → ids_run (es ++ t) o xs ≡ ids_run t o xs
  unfolding ids_run Each marked
  ids_quiet [] t o xs q = refl
  ids_quiet (e ∷ es) t o xs q =
      ap₂ (λ (x : Open) (b : Bool). ids_run (es ++ t) x (marked b o.frames (told_by e).id xs)) (stays_open o e q.0) q.0 ∙ ids_quiet es t o xs q.1

  ids_frame : (o : Open) (id : ℕ) (es t : List Ev) (xs : List ℕ) → Begins o id es → ids_run (es ++ t) o xs ≡ ids_run t (open_at (o.frames + 1) id) (set xs o.frames id)
  unfolding ids_run marked
  ids_frame o id es t xs b =
      ap (λ (l : List Ev). ids_run (l ++ t) o xs) b.split
      ∙ ap₂ (λ (x : Open) (l : List ℕ). ids_run (b.others ++ t) x l) (opened_is o b.first id b.opening b.id_is)
      (ap₂ (λ (x : Bool) (y : ℕ). marked x o.frames y xs) b.opening b.id_is)
      ∙ ids_quiet b.others t (open_at (o.frames + 1) id) (set xs o.frames id) b.quiet

  -- where frames have begun, the next one's id is another, before 2.2
  abbrev pub Fresh : Version → Open → List Frame → Type 0
  Fresh v o [] = Unit {0}
  Fresh v o (f ∷ fs) = has_family v FrameStart ≡ false → (o.frames ≡ 0) ⊎ (o.id ≡ f.id → ⊥)

  pub fresh_next : (v : Version) (n : ℕ) (f : Frame) (fs : List Frame) → (has_family v FrameStart ≡ false → Changing (f ∷ fs)) → Fresh v (open_at n f.id) fs
  unfolding Changing
  fresh_next v n f [] h = tt
  fresh_next v n f (g ∷ fs) h = λ e. inr (h e).0

  pub changing_next : (v : Version) (f : Frame) (fs : List Frame) → (has_family v FrameStart ≡ false → Changing (f ∷ fs)) → has_family v FrameStart ≡ false → Changing fs
  unfolding Changing
  changing_next v f [] h e = tt
  changing_next v f (g ∷ fs) h e = (h e).1

  pub ids_frames : (v : Version) → p.has_start ≡ has_family v FrameStart → (fs : List Frame) (o : Open) (xs : List ℕ) → Each (GoodFrame v ascending) fs
      → (has_family v FrameStart ≡ false → Changing fs) → Fresh v o fs → o.frames + length fs ≤ p.counts.frames
      → ids_run (events_of_frames v fs) o xs ≡ splice xs o.frames (ids_read fs)
  unfolding events_of_frames ids_run splice Each
  ids_frames v hs [] o xs g c q room = refl
  ids_frames v hs (f ∷ fs) o xs g c q room =
      ids_frame o f.id (events_of_frame v f) (events_of_frames v fs) xs (begins v f o hs g.0 (omega arith) q)
      ∙ ids_frames v hs fs (open_at (o.frames + 1) f.id) (set xs o.frames f.id) g.1 (changing_next v f fs c) (fresh_next v (o.frames + 1) f fs c) (omega arith)
      ∙ ap (λ (n : ℕ). splice (set xs o.frames f.id) n (ids_read fs)) (add-one o.frames)

  -- ---- offsets

  module _ (c : ℕ) (ws : List ℕ) (rows : ℕ) (has : Bool) where
    unfoldable pub off_run : List Ev → Open → Rowed → List ℕ → List ℕ
    off_run [] o r xs = offset_marked (true && has) o.frames r.row xs
    off_run (e ∷ es) o r xs =
        off_run es (open_e o e) (rowed (row_next (eqb e.code c) rows r.row) (row_put (eqb e.code c) ws (told_by e).body rows r.row r.cells))
        (offset_marked (opens_e o e && has) o.frames r.row xs)

    off_quiet : (es t : List Ev) (o : Open) (r : Rowed) (xs : List ℕ) → Each (Quiet o) es → off_run (es ++ t) o r xs ≡ off_run t o (row_run c ws rows es r) xs
    unfolding off_run row_run Each marked
    off_quiet [] t o r xs q = refl
    off_quiet (e ∷ es) t o r xs q =
        let n = rowed (row_next (eqb e.code c) rows r.row) (row_put (eqb e.code c) ws (told_by e).body rows r.row r.cells) in
        ap₂ (λ (x : Open) (b : Bool). off_run (es ++ t) x n (offset_marked (b && has) o.frames r.row xs)) (stays_open o e q.0) q.0 ∙ off_quiet es t o n xs q.1

    off_frame : (o : Open) (id : ℕ) (es t : List Ev) (r : Rowed) (xs : List ℕ) → Begins o id es
        → off_run (es ++ t) o r xs ≡ off_run t (open_at (o.frames + 1) id) (row_run c ws rows es r) (offset_marked has o.frames r.row xs)
    unfolding off_run row_run
    off_frame o id es t r xs b =
        let e = b.first in
        let n = rowed (row_next (eqb e.code c) rows r.row) (row_put (eqb e.code c) ws (told_by e).body rows r.row r.cells) in
        ap (λ (l : List Ev). off_run (l ++ t) o r xs) b.split
        ∙ ap₂ (λ (x : Open) (y : Bool). off_run (b.others ++ t) x n (offset_marked (y && has) o.frames r.row xs)) (opened_is o b.first id b.opening b.id_is) b.opening
        ∙ off_quiet b.others t (open_at (o.frames + 1) id) n (offset_marked has o.frames r.row xs) b.quiet
        ∙ ap (λ (l : List Ev). off_run t (open_at (o.frames + 1) id) (row_run c ws rows l r) (offset_marked has o.frames r.row xs)) (sym b.split)

    -- each frame's offset, and the last
    pub off_frames : (v : Version) (family : Family) → ((f : Frame) → picked c ws rows v f in_order ≡ rows_here v family f) → p.has_start ≡ has_family v FrameStart → has ≡ true → rows < 4294967296
        → (fs : List Frame) (o : Open) (r : Rowed) (xs : List ℕ) → Each (GoodFrame v ascending) fs → (has_family v FrameStart ≡ false → Changing fs) → Fresh v o fs
        → o.frames + length fs ≤ p.counts.frames → r.row + length (rows_there v family fs) ≤ rows
        → off_run (events_of_frames v fs) o r xs ≡ splice xs o.frames (totals r.row (map (λ f. length (rows_here v family f)) fs))
    unfolding events_of_frames off_run splice Each totals rows_there marked row_run
    off_frames v family pick hs h small [] o r xs g ch q room few =
        let m : r.row % 4294967296 ≡ r.row = omega arith in
        ap₂ (λ (b : Bool) (k : ℕ). marked (true && b) o.frames k xs) h m
    off_frames v family pick hs h small (f ∷ fs) o r xs g ch q room few =
        let n = length-append (rows_here v family f) (rows_there v family fs) in
        let m : r.row % 4294967296 ≡ r.row = omega arith in
        let all : row_run c ws rows (events_of_frame v f) r ≡ put c ws rows (rows_here v family f) r =
        ap (λ (l : List Ev). row_run c ws rows l r) (sym (append-nil (events_of_frame v f))) ∙ one_frame_lem c ws rows v f (rows_here v family f) (pick f) [] r (omega arith) in
        off_frame o f.id (events_of_frame v f) (events_of_frames v fs) r xs (begins v f o hs g.0 (omega arith) q)
        ∙ ap₂ (λ (x : Rowed) (l : List ℕ). off_run (events_of_frames v fs) (open_at (o.frames + 1) f.id) x l) all (ap₂ (λ (b : Bool) (k : ℕ). marked b o.frames k xs) h m)
        ∙ off_frames v family pick hs h small fs (open_at (o.frames + 1) f.id) (put c ws rows (rows_here v family f) r) (set xs o.frames r.row) g.1 (changing_next v f fs ch)
        (fresh_next v (o.frames + 1) f fs ch) (omega arith) (omega arith)
        ∙ ap (λ (k : ℕ). splice (set xs o.frames r.row) k (totals (r.row + length (rows_here v family f)) (map (λ f. length (rows_here v family f)) fs))) (add-one o.frames)

    -- nothing where the version lacks the family
    pub off_none : has ≡ false → (es : List Ev) (o : Open) (r : Rowed) (xs : List ℕ) → off_run es o r xs ≡ xs
    unfolding off_run marked
    off_none h [] o r xs = ap (λ (b : Bool). offset_marked (true && b) o.frames r.row xs) h
    off_none h (e ∷ es) o r xs =
        let n = rowed (row_next (eqb e.code c) rows r.row) (row_put (eqb e.code c) ws (told_by e).body rows r.row r.cells) in
        ap (λ (b : Bool). off_run es (open_e o e) n (offset_marked (opens_e o e && b) o.frames r.row xs)) h
        ∙ ap (λ (b : Bool). off_run es (open_e o e) n (offset_marked b o.frames r.row xs)) (and_no (opens_e o e))
        ∙ off_none h es (open_e o e) n xs

  pub item_offsets_run : (es : List Ev) (s : Seen) (l : Lent)
      → (run p es s l).offsets.items ≡ off_run 0x3B p.item p.counts.items p.has_item es s.opened (rowed s.next.items l.cells.items) l.offsets.items
  unfolding run finish step next_after off_run
  item_offsets_run [] s l = refl
  item_offsets_run (e ∷ es) s l = item_offsets_run es (seen_after p s (told_by e)) (step p s (told_by e) l)

  pub fod_offsets_run : (es : List Ev) (s : Seen) (l : Lent)
      → (run p es s l).offsets.fods ≡ off_run 0x3F p.fod p.counts.fods p.has_stage es s.opened (rowed s.next.fods l.cells.fods) l.offsets.fods
  unfolding run finish step next_after off_run
  fod_offsets_run [] s l = refl
  fod_offsets_run (e ∷ es) s l = fod_offsets_run es (seen_after p s (told_by e)) (step p s (told_by e) l)

  pub whispy_offsets_run : (es : List Ev) (s : Seen) (l : Lent)
      → (run p es s l).offsets.whispys ≡ off_run 0x40 p.whispy p.counts.whispys p.has_stage es s.opened (rowed s.next.whispys l.cells.whispys) l.offsets.whispys
  unfolding run finish step next_after off_run
  whispy_offsets_run [] s l = refl
  whispy_offsets_run (e ∷ es) s l = whispy_offsets_run es (seen_after p s (told_by e)) (step p s (told_by e) l)

  pub stadium_offsets_run : (es : List Ev) (s : Seen) (l : Lent)
      → (run p es s l).offsets.stadiums ≡ off_run 0x41 p.stadium p.counts.stadiums p.has_stage es s.opened (rowed s.next.stadiums l.cells.stadiums) l.offsets.stadiums
  unfolding run finish step next_after off_run
  stadium_offsets_run [] s l = refl
  stadium_offsets_run (e ∷ es) s l = stadium_offsets_run es (seen_after p s (told_by e)) (step p s (told_by e) l)
