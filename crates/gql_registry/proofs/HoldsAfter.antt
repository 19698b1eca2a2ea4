-- What each name holds after an accepted edit.
use Rattle.std.proofs.Common.{◌≡◌, ◌≢◌, ◌⊎◌, inl, inr, ℕ, List, [], ◌∷◌, Bool, true, false, refl, sym, ap, subst, ◌∙◌, bytes_eq}
use Rattle.std.specs.List.Sorted.{IsStrictlySortedBy}
use Rattle.std.specs.Map.{keys_of}
use Rattle.std.specs.Ordering.{is_eq}
use Rattle.std.specs.Cmp.Lexicographic.{texts_ties, told_text}
use Rattle.gql_ast.specs.FileMaps.{file_named, name_order, with_file, without_file}
use Rattle.gql_ast.specs.declared.definition.Document.{Document}
use Rattle.gql_ast.specs.declared.fault.FileSide.{FileSide}
use Rattle.gql_ast.specs.declared.fault.FileSide.TheVariants.{Schema, Documents}
use Rattle.gql_registry.specs.Edits.{Change, Edit, put, remove, put_data, set_data, ChangesFile, Leaves, MakesAll, done, step}
use Rattle.gql_registry.specs.Laws.{ChangesUnder, by_put, by_removal, elsewhere, LeavesUnder, as_before, by_change, IsOrderedOn, under, HoldsAfter}
use Rattle.gql_ast.specs.declared.files.Files.{Files}
use Rattle.gql_registry.specs.Sides.{IsFileOn, files_on}
use Rattle.gql_registry.specs.State.{State}
use Rattle.gql_registry.proofs.FilesByName.{put_found, put_other, put_sorted, removed_other, removed_none, removed_sorted}

-- files by their names
abbrev FileList : Type 0
FileList = List (List ℕ × Document)

-- they are in order
abbrev AreSorted : FileList → Type 0
AreSorted files = IsStrictlySortedBy name_order (keys_of files)

-- what a change leaves under every name, where these were the files of a side and these are they now
abbrev LeavesAll : FileSide → Change → FileList → FileList → Type 0
LeavesAll side c before after = (name : List ℕ) → ChangesUnder side name (file_named before name) c (file_named after name)

-- two names are the same, or one comes before the other
apart_or_same : (q k : List ℕ) → (k ≡ q) ⊎ ((k ≢ q) × (is_eq (name_order q k) ≡ false))
apart_or_same q k = by (bytes_eq q k) refl
  where
    by : (b : Bool) → bytes_eq q k ≡ b → (k ≡ q) ⊎ ((k ≢ q) × (is_eq (name_order q k) ≡ false))
    by true is = inl (sym (told_text q k true (sym is)))
    by false is = inr (λ e. told_text q k false (sym is) (sym e), sym (texts_ties q k) ∙ is)

-- a file that is put
after_put : (side : FileSide) (name bytes : List ℕ) (document : Document) (files : FileList) → IsFileOn side name bytes document → LeavesAll side (put side name bytes) files (with_file files name document)
after_put side name bytes document files is q = elim (apart_or_same q name) [
  | inl same ↦
      subst (λ n. ChangesUnder side n (file_named files n) (put side name bytes) (file_named (with_file files name document) n)) same
      (subst (λ o. ChangesUnder side name (file_named files name) (put side name bytes) o) (sym (put_found name document files)) (by_put is))
  | inr other ↦
      subst (λ o. ChangesUnder side q (file_named files q) (put side name bytes) o) (sym (put_other q name document files other.1)) (elsewhere (λ h. other.0 h.1))
]

-- a file that is removed
after_removal : (side : FileSide) (name : List ℕ) (files : FileList) → AreSorted files → LeavesAll side (remove side name) files (without_file files name)
after_removal side name files sorted q = elim (apart_or_same q name) [
  | inl same ↦
      subst (λ n. ChangesUnder side n (file_named files n) (remove side name) (file_named (without_file files name) n)) same
      (subst (λ o. ChangesUnder side name (file_named files name) (remove side name) o) (sym (removed_none name files sorted)) by_removal)
  | inr other ↦
      subst (λ o. ChangesUnder side q (file_named files q) (remove side name) o) (sym (removed_other q name files other.1)) (elsewhere (λ h. other.0 h.1))
]

-- a change of the other side, or of the data
after_other : (side : FileSide) (c : Change) (files : FileList) → ((q : List ℕ) → ChangesFile c side q → ⊥) → LeavesAll side c files files
after_other side c files apart q = elsewhere (apart q)

documents_apart : Documents ≡ Schema → ⊥
documents_apart e = cc e

schema_apart : Schema ≡ Documents → ⊥
schema_apart e = cc e

-- files that are in order, and what each name holds
abbrev Holds : FileSide → Change → FileList → FileList → Type 0
Holds side c before after = AreSorted after × LeavesAll side c before after

carried : (side : FileSide) (c : Change) (before after left : FileList) → left ≡ after → Holds side c before after → Holds side c before left
carried side c before after left same h = subst (λ files. Holds side c before files) (sym same) h

change_holds : (s t : State) (c : Change) (side : FileSide) → IsOrderedOn side s → Leaves s c t → IsOrderedOn side t × ((name : List ℕ) → ChangesUnder side name (under side name s) c (under side name t))
change_holds s t (put Schema name bytes) Schema ordered left =
    carried Schema (put Schema name bytes) s.files.schema (with_file s.files.schema name left.0) t.files.schema (ap (λ (u : State). u.files.schema) left.2)
    (put_sorted name left.0 s.files.schema ordered, after_put Schema name bytes left.0 s.files.schema left.1)
change_holds s t (put Documents name bytes) Documents ordered left =
    carried Documents (put Documents name bytes) s.files.documents (with_file s.files.documents name left.0) t.files.documents (ap (λ (u : State). u.files.documents) left.2)
    (put_sorted name left.0 s.files.documents ordered, after_put Documents name bytes left.0 s.files.documents left.1)
change_holds s t (put Documents name bytes) Schema ordered left =
    carried Schema (put Documents name bytes) s.files.schema s.files.schema t.files.schema (ap (λ (u : State). u.files.schema) left.2)
    (ordered, after_other Schema (put Documents name bytes) s.files.schema (λ q h. documents_apart h.0))
change_holds s t (put Schema name bytes) Documents ordered left =
    carried Documents (put Schema name bytes) s.files.documents s.files.documents t.files.documents (ap (λ (u : State). u.files.documents) left.2)
    (ordered, after_other Documents (put Schema name bytes) s.files.documents (λ q h. schema_apart h.0))
change_holds s t (remove Schema name) Schema ordered left =
    carried Schema (remove Schema name) s.files.schema (without_file s.files.schema name) t.files.schema (ap (λ (u : State). u.files.schema) left)
    (removed_sorted name s.files.schema ordered, after_removal Schema name s.files.schema ordered)
change_holds s t (remove Documents name) Documents ordered left =
    carried Documents (remove Documents name) s.files.documents (without_file s.files.documents name) t.files.documents (ap (λ (u : State). u.files.documents) left)
    (removed_sorted name s.files.documents ordered, after_removal Documents name s.files.documents ordered)
change_holds s t (remove Documents name) Schema ordered left =
    carried Schema (remove Documents name) s.files.schema s.files.schema t.files.schema (ap (λ (u : State). u.files.schema) left)
    (ordered, after_other Schema (remove Documents name) s.files.schema (λ q h. documents_apart h.0))
change_holds s t (remove Schema name) Documents ordered left =
    carried Documents (remove Schema name) s.files.documents s.files.documents t.files.documents (ap (λ (u : State). u.files.documents) left)
    (ordered, after_other Documents (remove Schema name) s.files.documents (λ q h. schema_apart h.0))
change_holds s t (put_data bytes) Schema ordered left =
    carried Schema (put_data bytes) s.files.schema s.files.schema t.files.schema (ap (λ (u : State). u.files.schema) left.2)
    (ordered, after_other Schema (put_data bytes) s.files.schema (λ q h. h))
change_holds s t (put_data bytes) Documents ordered left =
    carried Documents (put_data bytes) s.files.documents s.files.documents t.files.documents (ap (λ (u : State). u.files.documents) left.2)
    (ordered, after_other Documents (put_data bytes) s.files.documents (λ q h. h))
change_holds s t (set_data d) Schema ordered left =
    carried Schema (set_data d) s.files.schema s.files.schema t.files.schema (ap (λ (u : State). u.files.schema) left)
    (ordered, after_other Schema (set_data d) s.files.schema (λ q h. h))
change_holds s t (set_data d) Documents ordered left =
    carried Documents (set_data d) s.files.documents s.files.documents t.files.documents (ap (λ (u : State). u.files.documents) left)
    (ordered, after_other Documents (set_data d) s.files.documents (λ q h. h))

-- after changes in turn
all_hold : (s t : State) (e : Edit) (side : FileSide) → IsOrderedOn side s → MakesAll s e t → IsOrderedOn side t × ((name : List ℕ) → LeavesUnder side name (under side name s) e (under side name t))
all_hold s _ [] side ordered done = (ordered, λ name. as_before)
all_hold s t (c ∷ cs) side ordered (step {t = u} accepted leaves more) =
    let here = change_holds s u c side ordered leaves in
    let rest = all_hold u t cs side here.0 more in
    (rest.0, λ name. by_change (here.1 name) (rest.1 name))

same_side : (side : FileSide) (s t : State) → t.files ≡ s.files → IsOrderedOn side s → IsOrderedOn side t
same_side Schema s t same ordered = subst (λ (f : Files). AreSorted f.schema) (sym same) ordered
same_side Documents s t same ordered = subst (λ (f : Files). AreSorted f.documents) (sym same) ordered

pub holds_after : HoldsAfter
holds_after s t expected e side ordered accepts =
    let made = all_hold s accepts.made e side ordered accepts.makes in
    let same : t.files ≡ accepts.made.files = ap (λ (u : State). u.files) accepts.left in (
      same_side side accepts.made t same made.0,
      λ name. subst (λ (f : Files). LeavesUnder side name (under side name s) e (file_named (files_on side f) name)) (sym same) (made.1 name),
    )
