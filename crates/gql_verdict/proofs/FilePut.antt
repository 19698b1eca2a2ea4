-- What the rules on names see of all files, after a file is put of which they see the same as of the one
-- in its place.
use Rattle.std.specs.Prelude.{◌≡◌, ℕ, List, [], ◌∷◌, ◌++◌, refl, Option, Some, None, unwrap_or}
use Rattle.std.specs.Map.{keys_of}
use Rattle.std.specs.List.{AllByRecursion}
use Rattle.std.specs.List.Sorted.{IsStrictlySortedBy}
use Rattle.std.specs.declared.cmp.Ordering.{Ordering}
use Rattle.std.specs.declared.cmp.Ordering.TheVariants.{Less, Equal, Greater}
use Rattle.std.proofs.Common.{ap, sym, ◌∙◌}
use Rattle.std.proofs.lemmas.Cmp.{nat_list_cmp_total}
use Rattle.std.proofs.lemmas.List.{map-append}
use Rattle.gql_ast.specs.FileMaps.{file_named, name_order, with_file}
use Rattle.gql_ast.specs.declared.definition.Document.{Document}
use Rattle.gql_ast.specs.declared.files.Files.{Files}
use Rattle.gql_verdict.specs.Definitions.{all_definitions}
use Rattle.gql_verdict.specs.DocumentEdits.{with_document}
use Rattle.gql_verdict.specs.NameViews.{KeepsNamesSound, view_of, views_of}
use Rattle.gql_verdict.proofs.SameViews.{still_sound}

none_is_some : {T : Type 0} (v : T) → None ≡ Some v → ⊥
none_is_some v e = cc e

-- a name below all names is not there
absent_below : (k x : List ℕ) (es : List (List ℕ × Document)) → name_order k x ≡ Less → AllByRecursion (λ y. name_order x y ≡ Less) (keys_of es) → file_named es k ≡ None
absent_below k x [] less all = refl
absent_below k x (e ∷ es) less all =
    let here : name_order k e.0 ≡ Less = nat_list_cmp_total.trans k x e.0 less all.0 in
    rw here (absent_below k x es less all.1)

module _ (name : List ℕ) (document old : Document) (same : views_of old.definitions ≡ views_of document.definitions) where
  views_put : (es : List (List ℕ × Document)) → IsStrictlySortedBy name_order (keys_of es) → file_named es name ≡ Some old
      → views_of (all_definitions es) ≡ views_of (all_definitions (with_file es name document))
  unfolding IsStrictlySortedBy
  views_put [] sorted found = absurd (none_is_some old found)
  views_put (e ∷ es) sorted found = by (name_order name e.0) refl (views_put es sorted.1)
    where
      by : (o : Ordering) → name_order name e.0 ≡ o
          → (file_named es name ≡ Some old → views_of (all_definitions es) ≡ views_of (all_definitions (with_file es name document)))
          → views_of (all_definitions (e ∷ es)) ≡ views_of (all_definitions (with_file (e ∷ es) name document))
      by Less is rest =
          let none : file_named es name ≡ None = absent_below name e.0 es is sorted.0 in
          let found_later : file_named es name ≡ Some old = rw is at found in
          absurd (none_is_some old (sym none ∙ found_later))
      by Equal is rest =
          let first : Some e.1 ≡ Some old = rw is at found in
          let its : e.1 ≡ old = ap (λ (o : Option Document). unwrap_or o e.1) first in
          rw is (map-append view_of e.1.definitions (all_definitions es)
          ∙ ap (λ l. l ++ views_of (all_definitions es)) (ap (λ (d : Document). views_of d.definitions) its ∙ same)
          ∙ sym (map-append view_of document.definitions (all_definitions es)))
      by Greater is rest =
          let found_later : file_named es name ≡ Some old = rw is at found in
          rw is (map-append view_of e.1.definitions (all_definitions es)
          ∙ ap (λ l. views_of e.1.definitions ++ l) (rest found_later)
          ∙ sym (map-append view_of e.1.definitions (all_definitions (with_file es name document))))

-- the rules on names find no fault after such an edit if they found none before
pub put_keeps : (files : Files) (name : List ℕ) (document old : Document) → IsStrictlySortedBy name_order (keys_of files.documents)
    → file_named files.documents name ≡ Some old → views_of old.definitions ≡ views_of document.definitions
    → KeepsNamesSound files (with_document files name document)
put_keeps files name document old sorted found same none =
    still_sound (all_definitions files.documents) (all_definitions (with_file files.documents name document))
    (views_put name document old same files.documents sorted found) none
