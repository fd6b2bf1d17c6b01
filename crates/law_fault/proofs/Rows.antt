-- The machine takes the frames of a replay that can be read back, and its ends.
-- Assumes nothing.
use Prim.Native.Nat.{ℕ, ◌≤◌}
use mathlib.Core.Path.{◌≡◌, refl, sym, ap, subst, ◌∙◌}
use mathlib.Core.Bool.{Bool, true, false, not, cond, ◌&&◌, ◌||◌}
use mathlib.Core.List.{List, [], ◌∷◌, map}
use mathlib.Core.Option.{Option, none, some, some-injective}
use native.Mathlib.Omega.{arith}
use borrow.Author.Tests.{eq-eqb}
use lib.Dec.{eqb}
use lib.ListN.{length, get_or}
use Rattle.format.specs.File.{Ev}
use Rattle.format.specs.Version.{has_initiator}
use Rattle.format.specs.declared.version.Version.{Version}
use Rattle.layout.specs.Columns.{has_family}
use Rattle.layout.specs.Payloads.{end_size}
use Rattle.layout.specs.declared.columns.Family.{Family}
use Rattle.layout.specs.declared.columns.Family.TheVariants.{Pre, Post, FrameStart, Item, FrameEnd, FodPlatform, DreamlandWhispy, StadiumTransformation}
use Rattle.ending.specs.End.{initiator_wrong}
use Rattle.grammar.specs.Productions.{end_event}
use Rattle.grammar.specs.WellFormed.{Each, ascending}
use Rattle.grammar.specs.Readable.{Alike}
use Rattle.grammar.specs.Machine.{family_of, rank_of, on_family, Said, slot_said, State, id_in, said_by, closed, allowed, after, rest}
use Rattle.grammar.specs.Whole.{is_end}
use Rattle.grammar.proofs.Tests.{taken}
use Rattle.read_scan.specs.Counts.{begun_at, sat, of_frame, counted_of, tally_of}
use Rattle.read_scan.specs.declared.tally.Tally.{Tally}
use Rattle.read_judge.specs.Inner.{changes}
use Rattle.fault_reason.specs.Fault.{Stands, framing, after_row, after_frames, initiator_fits, after_first, alike_bytes, after_second, stands_next, on_next}

-- every event may come, one after another
unfoldable pub takes_all : Version → ℕ → Stands → List Ev → Bool
takes_all v span s [] = true
takes_all v span s (e ∷ es) = on_next (stands_next v span s e) (λ next. takes_all v span next es) false

pub no_way : {A : Type 0} → false ≡ true → A
no_way e = let z : ◌≡◌ {A = ℕ} 0 1 = ap (λ (c : Bool). cond c 1 0) e in absurd (omega arith)

-- ---- neighbouring ids that differ at the end differed all the way

kept_counted : (v : Version) (t : Tally) (rank id : ℕ) (family : Family) (w : Said) → changes v (counted_of t rank id family w) ≡ true → changes v t ≡ true
unfolding changes counted_of
kept_counted v t rank id FrameStart w e = go (has_family v FrameStart) t.changing (eqb t.frames 0 || not (eqb id w.id)) e
  where
    go : (a b c : Bool) → (a || (b && c)) ≡ true → (a || b) ≡ true
    go true b c e = refl
    go false true c e = refl
    go false false c e = e
kept_counted v t rank id Pre w e = go (has_family v FrameStart) t.changing (of_frame rank id w) e refl
  where
    go : (a b c : Bool) → (a || (sat (cond c t (begun_at t id w.id)) (slot_said w)).changing) ≡ true → t.changing ≡ b → (a || b) ≡ true
    go true b c e q = refl
    go false true c e q = refl
    go false false true e q = sym q ∙ e
    go false false false e q = no_way (sym (ap (λ (x : Bool). x && (eqb t.frames 0 || not (eqb id w.id))) q) ∙ e)
kept_counted v t rank id FodPlatform w e = e
kept_counted v t rank id DreamlandWhispy w e = e
kept_counted v t rank id StadiumTransformation w e = e
kept_counted v t rank id Item w e = e
kept_counted v t rank id Post w e = e
kept_counted v t rank id FrameEnd w e = e

kept_tally : (v : Version) (es : List Ev) (rank id : ℕ) (t : Tally) → changes v (tally_of rank id t es) ≡ true → changes v t ≡ true
unfolding tally_of on_family
kept_tally v [] rank id t e = e
kept_tally v (x ∷ es) rank id t e =
    go (family_of x.code) (λ family q. kept_counted v t rank id family (said_by x) (kept_tally v es (rank_of family) (id_in x) (counted_of t rank id family (said_by x)) q)) e
  where
    go : (f : Option Family) → ((family : Family) → changes v (tally_of (rank_of family) (id_in x) (counted_of t rank id family (said_by x)) es) ≡ true → changes v t ≡ true)
        → changes v (on_family f (λ family. tally_of (rank_of family) (id_in x) (counted_of t rank id family (said_by x)) es) t) ≡ true → changes v t ≡ true
    go none more e = e
    go (some family) more e = more family e

-- ---- the frames

module _ (v : Version) (span : ℕ) (t : List Ev) (next : (s : State) (y : Tally) → closed v s ≡ true → takes_all v span (framing s y) t ≡ true) where
  row_taken : (s : State) (y : Tally) (family : Family) (e : Ev) → allowed v ascending s family e ≡ true → changes v (counted_of y s.rank s.id family (said_by e)) ≡ true
      → after_row v s y family e ≡ some (framing (after s family (said_by e)) (counted_of y s.rank s.id family (said_by e)))
  unfolding after_row
  row_taken s y family e a c = rw (a, c)

  pub frames_taken : (es : List Ev) (s : State) (y : Tally) → rest v ascending s es ≡ some t → changes v (tally_of s.rank s.id y es) ≡ true → takes_all v span (framing s y) es ≡ true
  unfolding takes_all rest tally_of stands_next after_frames on_family
  frames_taken [] s y q c = refl
  frames_taken (e ∷ es) s y q c = go (family_of e.code) refl q c (λ family. frames_taken es (after s family (said_by e)) (counted_of y s.rank s.id family (said_by e)))
    where
      go : (x : Option Family) → family_of e.code ≡ x
          → on_family x (λ family. cond (allowed v ascending s family e) (rest v ascending (after s family (said_by e)) es) none) (cond (closed v s) (some (e ∷ es)) none) ≡ some t
          → changes v (on_family x (λ family. tally_of (rank_of family) (id_in e) (counted_of y s.rank s.id family (said_by e)) es) y) ≡ true
          → ((family : Family) → rest v ascending (after s family (said_by e)) es ≡ some t
          → changes v (tally_of (rank_of family) (id_in e) (counted_of y s.rank s.id family (said_by e)) es) ≡ true
          → takes_all v span (framing (after s family (said_by e)) (counted_of y s.rank s.id family (said_by e))) es ≡ true)
          → takes_all v span (framing s y) (e ∷ es) ≡ true
      go none f q c more =
          let (a, b) = taken (closed v s) (some (e ∷ es)) t q in
          subst (λ (l : List Ev). takes_all v span (framing s y) l ≡ true) (sym (some-injective (e ∷ es) t b)) (next s y a)
      go (some family) f q c more =
          let (a, b) = taken (allowed v ascending s family e) _ t q in
          let counted = counted_of y s.rank s.id family (said_by e) in
          let step = row_taken s y family e a (kept_tally v es (rank_of family) (id_in e) counted c) in
          rw (f, step) (more family b c)

-- ---- the ends

same_bytes_lem : (p : List ℕ) → alike_bytes p p ≡ true
unfolding alike_bytes
same_bytes_lem [] = refl
same_bytes_lem (x ∷ xs) = rw (eq-eqb x x refl) (same_bytes_lem xs)

end_sized : (v : Version) (bytes : List ℕ) → length bytes ≡ end_size v → is_end v (end_event bytes) ≡ true
unfolding is_end
end_sized v bytes n = rw (eq-eqb (length bytes) (end_size v) n)

end_names : (v : Version) (bytes : List ℕ) → (has_initiator v ≡ true → initiator_wrong (get_or bytes 1 0) ≡ false) → initiator_fits v (end_event bytes) ≡ true
unfolding initiator_fits
end_names v bytes h = go (has_initiator v) refl
  where
    go : (b : Bool) → has_initiator v ≡ b → not (b && initiator_wrong (get_or bytes 1 0)) ≡ true
    go true e = rw (h e)
    go false e = refl

module _ (v : Version) (span : ℕ) (s : State) (y : Tally) (over : closed v s ≡ true) where
  pub ends_taken : (ends : List (List ℕ)) → length ends ≤ 2 → Each (λ bytes. length bytes ≡ end_size v) ends → Alike ends
      → (has_initiator v ≡ true → Each (λ bytes. initiator_wrong (get_or bytes 1 0) ≡ false) ends) → takes_all v span (framing s y) (map end_event ends) ≡ true
  unfolding takes_all stands_next after_frames after_first after_second on_family family_of Each Alike
  ends_taken [] n h a i = refl
  ends_taken (a ∷ []) n h alike i = rw (over, end_sized v a h.0, end_names v a (λ e. (i e).0))
  ends_taken (a ∷ b ∷ []) n h alike i =
      let like : alike_bytes a b ≡ true = subst (λ (l : List ℕ). alike_bytes a l ≡ true) alike.0 (same_bytes_lem a) in
      rw (over, end_sized v a h.0, end_names v a (λ e. (i e).0), end_sized v b h.1.0, like)
  ends_taken (a ∷ b ∷ c ∷ ends) n h alike i = absurd (omega arith)
