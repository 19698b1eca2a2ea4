-- Changes that are made in turn.
use Rattle.std.proofs.Common.{◌≡◌, ◌<◌, ◌+◌, ◌∙◌, ◌||◌, inl, inr, ℕ, List, [], ◌∷◌, ◌++◌, length, take, get_or, Bool, true, false, refl, sym, ap, subst}
use Rattle.std.proofs.lemmas.List.{map-append, take-map, take_more}
use Rattle.std.proofs.lemmas.Option.{slice_get-map, slice_get_read}
use Rattle.std.specs.List.{list_any}
use Rattle.std.specs.Prelude.{option_map}
use Rattle.gql_registry.specs.Changes.{change_of, edit_of}
use Rattle.gql_registry.specs.Checks.{IsChangeRefusal, IsListRefusal}
use Rattle.gql_registry.specs.Edits.{Change, Edit, put, remove, put_data, set_data, changes_files, is_of_file, Leaves, MakesAll, done, step}
use Rattle.gql_registry.specs.Laws.{AcceptsEach, none_left, one_more as one_edit_more, AsOneByOne}
use Rattle.gql_registry.specs.State.{State, at_revision}
use Rattle.gql_registry.specs.Working.{Takes}
use Rattle.gql_registry.specs.declared.change.Change.{Change as GivenChange}
use Rattle.gql_registry.specs.declared.change.EditRefusal.{EditRefusal}
use Rattle.gql_registry.specs.declared.refusal.Refusal.{Refusal}
use Rattle.gql_registry.proofs.OneEdit.{OneReading, one_left}

-- one change more
pub one_more : (s t u : State) (e : Edit) (c : Change) → MakesAll s e t → Takes t c u → MakesAll s (e ++ c ∷ []) u
one_more s _ u _ c done takes = step takes.0 takes.1 done
one_more s t u _ c (step {t = next} {cs = rest} accepted leaves more) takes = step accepted leaves (one_more next t u rest c more takes)

-- the changes of one more of a call
changes_more : (edit : List GivenChange) (i : ℕ) (c : GivenChange) → i < length edit → c ≡ get_or edit i c → edit_of (take i edit) ++ change_of c ∷ [] ≡ edit_of (take (i + 1) edit)
changes_more edit i c inside is =
    sym (map-append change_of (take i edit) (c ∷ [])) ∙ ap edit_of (sym (take_more edit i c inside ∙ ap (λ q. take i edit ++ q ∷ []) (sym is)))

-- the change at an index, after those before it
pub change_more : (s t u : State) (edit : List GivenChange) (i : ℕ) (c : GivenChange) → i < length edit → c ≡ get_or edit i c → MakesAll s (edit_of (take i edit)) t → Takes t (change_of c) u
    → MakesAll s (edit_of (take (i + 1) edit)) u
change_more s t u edit i c inside is all takes =
    subst (λ e. MakesAll s e u) (changes_more edit i c inside is) (one_more s t u (edit_of (take i edit)) (change_of c) all takes)

-- a refusal at an index
abbrev pub refused_at : ℕ → Refusal → EditRefusal
refused_at at r = record { at = at; refusal = r }

-- the change at an index is refused, after those before it
pub change_refused : (s t : State) (edit : List GivenChange) (i : ℕ) (c : GivenChange) (r : Refusal) → i < length edit → c ≡ get_or edit i c → MakesAll s (edit_of (take i edit)) t
    → IsChangeRefusal t (change_of c) r → IsListRefusal s (edit_of edit) (refused_at i r)
change_refused s t edit i c r inside is all (inl first) = inl (record {
  left = t;
  change = change_of c;
  before = subst (λ e. MakesAll s e t) (sym (take-map change_of i edit)) all;
  there = slice_get-map change_of edit i ∙ ap (option_map change_of) (slice_get_read edit (length edit) i c refl inside is);
  first = first;
})
change_refused s t edit i c r inside is all (inr memory) = inr memory

-- one change that is refused
pub alone_refused : (s : State) (c : Change) (r : Refusal) → IsChangeRefusal s c r → IsListRefusal s (c ∷ []) (refused_at 0 r)
alone_refused s c r (inl first) = inl (record { left = s; change = c; before = done; there = refl; first = first })
alone_refused s c r (inr memory) = inr memory

-- ---- changes of data alone

either_false : (a b : Bool) → (a || b) ≡ false → (a ≡ false) × (b ≡ false)
either_false true b is = absurd (cc is)
either_false false b is = (refl, is)

one_keeps : (s t : State) (c : Change) → is_of_file c ≡ false → Leaves s c t → t.files ≡ s.files
one_keeps s t (put side name bytes) is leaves = absurd (cc is)
one_keeps s t (remove side name) is leaves = absurd (cc is)
one_keeps s t (put_data bytes) is leaves = ap (λ (x : State). x.files) leaves.2
one_keeps s t (set_data d) is leaves = ap (λ (x : State). x.files) leaves

-- they leave the files
pub files_kept : (s t : State) (e : Edit) → changes_files e ≡ false → MakesAll s e t → t.files ≡ s.files
files_kept s _ [] is done = refl
files_kept s t (c ∷ cs) is (step {t = next} accepted leaves more) =
    let each = either_false (is_of_file c) (changes_files cs) is in
    files_kept next t cs each.1 more ∙ one_keeps s next c each.0 leaves

-- whether some change of a call is one of a file
pub of_files : (edit : List GivenChange) → list_any (λ (c : GivenChange). is_of_file (change_of c)) edit ≡ changes_files (edit_of edit)
of_files [] = refl
of_files (c ∷ cs) = ap (λ b. is_of_file (change_of c) || b) (of_files cs)

-- ---- one by one

-- what a change leaves does not depend on the revision
leaves_at : (n : ℕ) (s t : State) (c : Change) → Leaves s c t → Leaves (at_revision n s) c (at_revision n t)
leaves_at n s t (put side name bytes) (document, is, same) = (document, is, ap (at_revision n) same)
leaves_at n s t (remove side name) same = ap (at_revision n) same
leaves_at n s t (put_data bytes) (d, is, same) = (d, is, ap (at_revision n) same)
leaves_at n s t (set_data d) same = ap (at_revision n) same

module _ (one : OneReading) where
  -- one change, in states that differ in the revision alone
  same_left : (s q t u : State) (c : Change) → at_revision 0 s ≡ at_revision 0 q → Leaves s c t → Leaves q c u → at_revision 0 t ≡ at_revision 0 u
  same_left s q t u c same x y =
      one_left one (at_revision 0 s) (at_revision 0 t) (at_revision 0 u) c (leaves_at 0 s t c x)
      (subst (λ z. Leaves z c (at_revision 0 u)) (sym same) (leaves_at 0 q u c y))

  alone : (q u : State) (c : Change) → MakesAll q (c ∷ []) u → Leaves q c u
  alone q u c (step accepted leaves done) = leaves

  each_in_turn : (s q t u : State) (e : Edit) → at_revision 0 s ≡ at_revision 0 q → MakesAll s e t → AcceptsEach q e u → at_revision 0 t ≡ at_revision 0 u
  each_in_turn s q _ _ [] same done none_left = same
  each_in_turn s q t u (c ∷ cs) same (step {t = a} accepted leaves more) (one_edit_more {t = b} accepts rest) =
      each_in_turn a b t u cs
      (same_left s q a accepts.made c same leaves (alone q accepts.made c accepts.makes) ∙ sym (ap (at_revision 0) accepts.left))
      more rest

  -- an edit leaves what its changes leave as edits of their own, but for the revision
  pub as_one_by_one : AsOneByOne
  as_one_by_one s t u expected e accepts each =
      accepts.left ∙ ap (at_revision (s.revision + 1)) (each_in_turn s s accepts.made u e refl accepts.makes each)
