-- An edit of a schema file changes no types of other names, read backwards, too: it is undone by an
-- edit of the same file, which puts back or removes. And it changes no other file.
use Rattle.std.proofs.Common.{◌≡◌, ◌++◌, ℕ, List, Bool, true, false, Option, Some, None, find, bytes_eq, refl, sym, ap, ◌∙◌, subst}
use Rattle.std.specs.Ordering.{is_eq}
use Rattle.std.specs.declared.cmp.Ordering.{Ordering}
use Rattle.std.specs.declared.cmp.Ordering.TheVariants.{Less, Equal, Greater}
use Rattle.std.proofs.lemmas.Map.Lookups.{exact_bytes}
use Rattle.std.specs.Prelude.{is_some}
use Rattle.std.specs.Map.{keys_of}
use Rattle.std.specs.Option.{option_or}
use Rattle.std.specs.List.Sorted.{IsStrictlySortedBy}
use Rattle.std.proofs.lemmas.List.Folds.{find-append}
use Rattle.gql_ast.specs.FileMaps.{file_named, name_order}
use Rattle.gql_ast.specs.declared.definition.Document.{Document}
use Rattle.gql_ast.specs.declared.fault.FileSide.TheVariants.{Schema}
use Rattle.gql_ast.specs.declared.files.Files.{Files}
use Rattle.gql_registry.proofs.FilesByName.{put_other, removed_other}
use Rattle.gql_registry.proofs.PlannedFiles.{schema_files, with_schema_side}
use Rattle.gql_registry.proofs.Restored.{edited_found, put_back}
use Rattle.gql_registry.specs.EditPlans.{IsSchemaEdit}
use Rattle.gql_registry.specs.Sides.{with_file}
use Rattle.gql_schema_rules.specs.ChecksOfFiles.{DiffersAt}
use Rattle.gql_types.specs.Edits.{KeepsOthers, edited_names, type_names}
use Rattle.gql_types.specs.Outlines.{edited_files}
use Rattle.gql_types.specs.Schemas.{schema_of}
use Rattle.gql_types.specs.declared.schema.Schema.{Schema as TheSchema}

swapped : (a b : Option (List ℕ)) → is_some (option_or b a) ≡ false → is_some (option_or a b) ≡ false
swapped None None e = e
swapped None (Some y) e = e
swapped (Some x) None e = e
swapped (Some x) (Some y) e = e

-- a name that is in neither list
in_neither : (p : List ℕ → Bool) (xs ys : List (List ℕ)) → is_some (find p (ys ++ xs)) ≡ false → is_some (find p (xs ++ ys)) ≡ false
in_neither p xs ys e =
    ap is_some (find-append p xs ys)
    ∙ swapped (find p xs) (find p ys) (sym (ap is_some (find-append p ys xs)) ∙ e)

-- the order of the edited names does not matter
keeps_swapped : (xs ys : List (List ℕ)) (s t : TheSchema) → KeepsOthers (xs ++ ys) s t → KeepsOthers (ys ++ xs) s t
keeps_swapped xs ys s t keeps u there other = keeps u there (in_neither (bytes_eq (_)) xs ys other)

-- The types of other names before an edit are those after it, by the law of an edit of a schema file.
pub types_undone : ((files : Files) (name : List ℕ) (after : Option Document)
    → KeepsOthers (edited_names (file_named files.schema name) after) (schema_of files) (schema_of (with_file Schema files name after)))
    → (files : Files) (name : List ℕ) (after : Option Document) → IsStrictlySortedBy name_order (keys_of files.schema)
    → KeepsOthers (edited_names (file_named files.schema name) after) (schema_of (with_file Schema files name after)) (schema_of files)
types_undone law files name after sorted =
    let old = file_named files.schema name in
    let new = edited_files files.schema name after in
    let later : Files = with_schema_side files new in
    let back : with_file Schema later name old ≡ files = schema_files later name old ∙ ap (with_schema_side files) (put_back files.schema name after sorted) in
    let forth : with_file Schema files name after ≡ later = schema_files files name after in
    let there : KeepsOthers (edited_names after old) (schema_of later) (schema_of files) =
    subst (λ (f : Files). KeepsOthers (edited_names after old) (schema_of later) (schema_of f)) back
    (subst (λ (o : Option Document). KeepsOthers (edited_names o old) (schema_of later) (schema_of (with_file Schema later name old)))
    (edited_found files.schema name after sorted) (law later name old)) in
    keeps_swapped (type_names after) (type_names old) (schema_of (with_file Schema files name after)) (schema_of files)
    (subst (λ (f : Files). KeepsOthers (edited_names after old) (schema_of f) (schema_of files)) (sym forth) there)

-- such an edit, of names that are those of the file before the edit and after it
pub schema_edit : ((files : Files) (name : List ℕ) (after : Option Document)
    → KeepsOthers (edited_names (file_named files.schema name) after) (schema_of files) (schema_of (with_file Schema files name after)))
    → (files : Files) (name : List ℕ) (after : Option Document) → IsStrictlySortedBy name_order (keys_of files.schema)
    → IsSchemaEdit (edited_names (file_named files.schema name) after) files (with_file Schema files name after)
schema_edit law files name after sorted =
    record { keeps = law files name after; undone = types_undone law files name after sorted }

equal_of : (o : Ordering) → is_eq o ≡ true → o ≡ Equal
equal_of Equal e = refl
equal_of Less e = cc e
equal_of Greater e = cc e

-- names that differ do not compare as equal
apart : (other name : List ℕ) → (other ≡ name → ⊥) → is_eq (name_order other name) ≡ false
apart other name differ = by (is_eq (name_order other name)) refl
  where
    by : (b : Bool) → is_eq (name_order other name) ≡ b → is_eq (name_order other name) ≡ false
    by true is = absurd (differ (exact_bytes other name (equal_of (name_order other name) is)))
    by false is = is

-- the files of other names are the same
pub differs_at : (files : Files) (name : List ℕ) (after : Option Document) → DiffersAt name files (with_file Schema files name after)
differs_at files name (Some document) other differ = put_other other name document files.schema (apart other name differ)
differs_at files name None other differ = removed_other other name files.schema (apart other name differ)
