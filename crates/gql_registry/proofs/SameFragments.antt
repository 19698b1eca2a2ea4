-- What an edit of one file keeps of the index of the document files.
use Rattle.std.proofs.Common.{◌≡◌, ◌∙◌, ◌++◌, ℕ, List, [], ◌∷◌, Option, Some, None, refl, ap, sym, subst}
use Rattle.std.specs.Map.{keys_of}
use Rattle.std.specs.List.Sorted.{IsStrictlySortedBy}
use Rattle.std.specs.declared.cmp.Ordering.{Ordering}
use Rattle.std.specs.declared.cmp.Ordering.TheVariants.{Less, Equal, Greater}
use Rattle.gql_ast.specs.FileMaps.{file_named, name_order, with_file as map_with, without_file as map_without}
use Rattle.gql_ast.specs.declared.definition.Document.{Document}
use Rattle.gql_ast.specs.declared.fault.FileSide.TheVariants.{Documents}
use Rattle.gql_ast.specs.declared.files.Files.{Files}
use Rattle.gql_facts.specs.Facts.{fragments}
use Rattle.gql_facts.specs.FileFragments.{fragments_in}
use Rattle.gql_registry.specs.EditPlans.{KeepsFragments}
use Rattle.gql_registry.specs.Indexed.{IsIndexOf as IsOperationIndex}
use Rattle.gql_registry.specs.Keeping.{IsIndexOf}
use Rattle.gql_registry.specs.Sides.{with_file}
use Rattle.gql_registry.specs.declared.index.DocumentIndex.{DocumentIndex}
use Rattle.gql_registry.proofs.Restored.{absent_below}

-- a file that is put with the fragments of the one in its place, or with none if it is new, changes no
-- fragment
put_same : (name : List ℕ) (document : Document) (es : List (List ℕ × Document)) → IsStrictlySortedBy name_order (keys_of es)
    → fragments_in (file_named es name) ≡ fragments_in (Some document) → fragments es ≡ fragments (map_with es name document)
unfolding IsStrictlySortedBy
put_same name document [] sorted same = ap (λ l. l ++ []) same
put_same name document (e ∷ es) sorted same = by (name_order name e.0) refl same (put_same name document es sorted.1)
  where
    by : (o : Ordering) → name_order name e.0 ≡ o → fragments_in (file_named (e ∷ es) name) ≡ fragments_in (Some document)
        → (fragments_in (file_named es name) ≡ fragments_in (Some document) → fragments es ≡ fragments (map_with es name document))
        → fragments (e ∷ es) ≡ fragments (map_with (e ∷ es) name document)
    by Less o same rest =
        let later : fragments_in (file_named es name) ≡ fragments_in (Some document) = rw o at same in
        let none : [] ≡ fragments_in (Some document) = sym (ap fragments_in (absent_below name e.0 es o sorted.0)) ∙ later in
        rw o (ap (λ l. l ++ fragments (e ∷ es)) none)
    by Equal o same rest =
        let here : fragments_in (Some e.1) ≡ fragments_in (Some document) = rw o at same in
        rw o (ap (λ l. l ++ fragments es) here)
    by Greater o same rest =
        let later : fragments_in (file_named es name) ≡ fragments_in (Some document) = rw o at same in
        rw o (ap (λ l. fragments_in (Some e.1) ++ l) (rest later))

-- a file without fragments that is removed changes none
removed_same : (name : List ℕ) (es : List (List ℕ × Document)) → fragments_in (file_named es name) ≡ [] → fragments es ≡ fragments (map_without es name)
removed_same name [] same = refl
removed_same name (e ∷ es) same = by (name_order name e.0) refl same (removed_same name es)
  where
    by : (o : Ordering) → name_order name e.0 ≡ o → fragments_in (file_named (e ∷ es) name) ≡ []
        → (fragments_in (file_named es name) ≡ [] → fragments es ≡ fragments (map_without es name)) → fragments (e ∷ es) ≡ fragments (map_without (e ∷ es) name)
    by Less o same rest =
        let later : fragments_in (file_named es name) ≡ [] = rw o at same in
        rw o (ap (λ l. fragments_in (Some e.1) ++ l) (rest later))
    by Equal o same rest =
        let here : fragments_in (Some e.1) ≡ [] = rw o at same in
        rw o (ap (λ l. l ++ fragments es) here)
    by Greater o same rest =
        let later : fragments_in (file_named es name) ≡ [] = rw o at same in
        rw o (ap (λ l. fragments_in (Some e.1) ++ l) (rest later))

-- an edit of a document file that leaves the fragments of the file as they are leaves all fragments
pub same_fragments : (files : Files) (name : List ℕ) (after : Option Document) → IsStrictlySortedBy name_order (keys_of files.documents)
    → fragments_in (file_named files.documents name) ≡ fragments_in after → KeepsFragments files (with_file Documents files name after)
same_fragments files name None sorted same = removed_same name files.documents same
same_fragments files name (Some document) sorted same = put_same name document files.documents sorted same

-- the index of files is that of all files with the same document files
pub same_index : (before after : Files) (index : DocumentIndex) → before.documents ≡ after.documents → IsIndexOf before index → IsIndexOf after index
same_index before after index e is = record {
  fragments = is.fragments ∙ ap fragments e;
  operations = subst (λ documents. IsOperationIndex documents index.operations) e is.operations;
}
