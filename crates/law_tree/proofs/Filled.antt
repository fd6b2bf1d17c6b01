-- One pass over the events of frames fills a family's store as the tree says.
-- Assumes nothing.
use mathlib.Core.Path.{◌≡◌, refl, sym, ap, ap₂, ◌∙◌}
use mathlib.Core.Bool.{Bool, true, false}
use mathlib.Core.List.{List, [], ◌∷◌, ◌++◌, map, append_assoc, append-nil}
use Prim.Native.Nat.{ℕ, suc, ◌+◌}
use native.Mathlib.Nat.{add-zero}
use native.Mathlib.Omega.{arith}
use lib.Dec.{eqb}
use lib.ListN.{length, length-append}
use lib.Seq.{drop_at}
use Rattle.wire.specs.Wire.{be, keep}
use Rattle.wire.proofs.Laws.{length_be}
use Rattle.format.specs.Event.{code_of}
use Rattle.format.specs.File.{Ev}
use Rattle.format.specs.declared.version.Version.{Version}
use Rattle.layout.specs.Columns.{has_family}
use Rattle.layout.specs.Payloads.{event_of}
use Rattle.layout.specs.declared.columns.Family.{Family}
use Rattle.layout.specs.declared.columns.Family.TheVariants.{Pre, Post, FrameStart, Item, FrameEnd, FodPlatform, DreamlandWhispy, StadiumTransformation}
use Rattle.record.specs.Record.{read_back}
use Rattle.grammar.specs.Productions.{Frame, row_event, events_of_frame, events_of_frames, end_event}
use Rattle.columns.specs.Inner.{into}
use Rattle.columns.proofs.Laws.{into_both}
use Rattle.law_tree.specs.Fill.{fill, bodies_in, bodies_of}
use Rattle.law_tree.proofs.Same.{map_keep}

-- ---- a frame as sections, each of one family

abbrev in_order : List Family
in_order = FrameStart ∷ Pre ∷ FodPlatform ∷ DreamlandWhispy ∷ StadiumTransformation ∷ Item ∷ Post ∷ FrameEnd ∷ []

unfoldable sections : Version → Frame → List Family → List Ev
sections v f [] = []
sections v f (g ∷ gs) = map (row_event g f.id) (bodies_in v f g) ++ sections v f gs

map_map : {A B C : Type 0} (g : B → C) (h : A → B) (xs : List A) → map g (map h xs) ≡ map (λ x. g (h x)) xs
map_map g h [] = refl
map_map g h (x ∷ xs) = ap (λ l. g (h x) ∷ l) (map_map g h xs)

frame_is : (v : Version) (f : Frame) → events_of_frame v f ≡ sections v f in_order
unfolding events_of_frame sections
frame_is v f =
    rw (
      map_keep (row_event FrameStart f.id) (has_family v FrameStart) (f.start ∷ []),
      map_keep (row_event FrameEnd f.id) (has_family v FrameEnd) (f.end ∷ []),
      map_map (row_event Pre f.id) (λ p. p.port ∷ p.follower ∷ p.pre) f.players,
      map_map (row_event Post f.id) (λ p. p.port ∷ p.follower ∷ p.post) f.players,
      append-nil (keep (has_family v FrameEnd) (row_event FrameEnd f.id f.end ∷ [])),
    )

-- ---- which of them fill the store

abbrev is_of : Family → Family → Bool
is_of family g = eqb (code_of (event_of g)) (code_of (event_of family))

unfoldable picked : Version → Frame → Family → List Family → List (List ℕ)
picked v f family [] = []
picked v f family (g ∷ gs) = keep (is_of family g) (bodies_in v f g) ++ picked v f family gs

picked_are : (v : Version) (f : Frame) (family : Family) → picked v f family in_order ≡ bodies_in v f family
unfolding picked keep
picked_are v f FrameStart = append-nil (bodies_in v f FrameStart)
picked_are v f Pre = append-nil (bodies_in v f Pre)
picked_are v f FodPlatform = append-nil (bodies_in v f FodPlatform)
picked_are v f DreamlandWhispy = append-nil (bodies_in v f DreamlandWhispy)
picked_are v f StadiumTransformation = append-nil (bodies_in v f StadiumTransformation)
picked_are v f Item = append-nil (bodies_in v f Item)
picked_are v f Post = append-nil (bodies_in v f Post)
picked_are v f FrameEnd = append-nil (bodies_in v f FrameEnd)

-- an end is no row
no_end : (family : Family) → eqb 0x39 (code_of (event_of family)) ≡ false
no_end FrameStart = refl
no_end Pre = refl
no_end FodPlatform = refl
no_end DreamlandWhispy = refl
no_end StadiumTransformation = refl
no_end Item = refl
no_end Post = refl
no_end FrameEnd = refl

module _ (family : Family) (ws : List ℕ) (stride : ℕ) where
  -- the rows that were put, and what is left to do
  abbrev onward : List Ev → List (List ℕ) → List ℕ → ℕ → List ℕ
  onward t xs cells row = fill family ws stride t (into ws stride xs cells row) (row + length xs)

  nothing_put : (t : List Ev) (cells : List ℕ) (row : ℕ) → fill family ws stride t cells row ≡ onward t [] cells row
  unfolding into
  nothing_put t cells row = rw add-zero

  one_section : (g : Family) (id : ℕ) (b : Bool) → is_of family g ≡ b → (xs : List (List ℕ)) (t : List Ev) (cells : List ℕ) (row : ℕ)
      → fill family ws stride (map (row_event g id) xs ++ t) cells row ≡ onward t (keep b xs) cells row
  unfolding fill into keep
  one_section g id true e [] t cells row = rw add-zero
  one_section g id false e [] t cells row = rw add-zero
  one_section g id true e (x ∷ xs) t cells row =
      let n : row + 1 + length xs ≡ row + suc (length xs) = omega arith in
      rw e
      (ap (λ (l : List ℕ). fill family ws stride (map (row_event g id) xs ++ t) (read_back ws l cells stride row) (row + 1)) (drop_at (be 4 id) x 4 (length_be 4 id))
      ∙ one_section g id true e xs t (read_back ws x cells stride row) (row + 1)
      ∙ ap (λ (k : ℕ). fill family ws stride t (into ws stride xs (read_back ws x cells stride row) (row + 1)) k) n)
  one_section g id false e (x ∷ xs) t cells row = rw e (one_section g id false e xs t cells row)

  -- two parts, one after the other
  then_more : (t : List Ev) (xs ys : List (List ℕ)) (cells : List ℕ) (row : ℕ) → onward t ys (into ws stride xs cells row) (row + length xs) ≡ onward t (xs ++ ys) cells row
  then_more t xs ys cells row =
      let n : row + length xs + length ys ≡ row + length (xs ++ ys) = omega (arith, length-append xs ys) in
      ap₂ (λ (c : List ℕ) (k : ℕ). fill family ws stride t c k) (sym (into_both ws stride xs ys cells row)) n

  all_sections : (v : Version) (f : Frame) (gs : List Family) (t : List Ev) (cells : List ℕ) (row : ℕ)
      → fill family ws stride (sections v f gs ++ t) cells row ≡ onward t (picked v f family gs) cells row
  unfolding sections picked
  all_sections v f [] t cells row = nothing_put t cells row
  all_sections v f (g ∷ gs) t cells row =
      let xs = keep (is_of family g) (bodies_in v f g) in
      ap (λ (l : List Ev). fill family ws stride l cells row) (append_assoc (map (row_event g f.id) (bodies_in v f g)) (sections v f gs) t)
      ∙ one_section g f.id (is_of family g) refl (bodies_in v f g) (sections v f gs ++ t) cells row
      ∙ all_sections v f gs t (into ws stride xs cells row) (row + length xs)
      ∙ then_more t xs (picked v f family gs) cells row

  one_frame_lem : (v : Version) (f : Frame) (t : List Ev) (cells : List ℕ) (row : ℕ) → fill family ws stride (events_of_frame v f ++ t) cells row ≡ onward t (bodies_in v f family) cells row
  one_frame_lem v f t cells row =
      ap (λ (l : List Ev). fill family ws stride (l ++ t) cells row) (frame_is v f)
      ∙ all_sections v f in_order t cells row
      ∙ ap (λ (xs : List (List ℕ)). onward t xs cells row) (picked_are v f family)

  -- the rows of all frames, one after another, and then what follows the frames
  pub frames_fill : (v : Version) (fs : List Frame) (t : List Ev) (cells : List ℕ) (row : ℕ)
      → fill family ws stride (events_of_frames v fs ++ t) cells row ≡ onward t (bodies_of v family fs) cells row
  unfolding events_of_frames bodies_of
  frames_fill v [] t cells row = nothing_put t cells row
  frames_fill v (f ∷ fs) t cells row =
      ap (λ (l : List Ev). fill family ws stride l cells row) (append_assoc (events_of_frame v f) (events_of_frames v fs) t)
      ∙ one_frame_lem v f (events_of_frames v fs ++ t) cells row
      ∙ frames_fill v fs t (into ws stride (bodies_in v f family) cells row) (row + length (bodies_in v f family))
      ∙ then_more t (bodies_in v f family) (bodies_of v family fs) cells row

  ends_stay : (ends : List (List ℕ)) (cells : List ℕ) (row : ℕ) → fill family ws stride (map end_event ends) cells row ≡ cells
  unfolding fill
  ends_stay [] cells row = refl
  ends_stay (e ∷ ends) cells row = rw (no_end family) (ends_stay ends cells row)

  -- what stands in the store after the frames and the ends
  pub replay_fill : (v : Version) (fs : List Frame) (ends : List (List ℕ)) (cells : List ℕ) (row : ℕ)
      → fill family ws stride (events_of_frames v fs ++ map end_event ends) cells row ≡ into ws stride (bodies_of v family fs) cells row
  replay_fill v fs ends cells row = frames_fill v fs (map end_event ends) cells row ∙ ends_stay ends (into ws stride (bodies_of v family fs) cells row) _
