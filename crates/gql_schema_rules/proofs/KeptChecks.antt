-- The check of a file that an edit keeps, and the checks of all files after it.
use Rattle.std.proofs.Common.{◌≡◌, ℕ, List, [], ◌∷◌, Bool, true, false, Some, Contains, refl, sym, ap, ◌∙◌, subst, length}
use Rattle.std.proofs.lemmas.List.Elements.{Contains-append_right, Contains-append_left, Contains-push}
use Rattle.std.proofs.lemmas.Cmp.{nat_list_cmp_total, eq_by_cmp_equiv}
use Rattle.std.proofs.lemmas.Map.Entries.{lookup_from_place}
use Rattle.std.proofs.lemmas.Map.Keys.{IsDistinct-from_sorted}
use Rattle.std.proofs.lemmas.Option.{slice_get_read}
use Rattle.std.specs.BTreeMap.{is_at}
use Rattle.std.specs.List.{AllZip}
use Rattle.std.specs.List.Sorted.{IsStrictlySortedBy}
use Rattle.std.specs.Map.{keys_of}
use Rattle.gql_ast.specs.FileMaps.{file_named, name_order}
use Rattle.gql_ast.specs.declared.definition.Document.{Document}
use Rattle.gql_ast.specs.declared.files.Files.{Files}
use Rattle.gql_types.specs.declared.schema.Schema.{Schema}
use Rattle.gql_node_rules.specs.FileChecks.{IsCheckOf}
use Rattle.gql_node_rules.specs.FileDefinitions.{HoldDefinitionsOf}
use Rattle.gql_node_rules.specs.declared.file_check.FileCheck.{FileCheck}
use Rattle.gql_node_rules.specs.declared.schema_change.SchemaChange.{SchemaChange}
use Rattle.gql_schema_rules.specs.ChecksOfFiles.{AreChecksOf, IsCheckUnder}
use Rattle.gql_schema_rules.specs.KeptChecks.{AreChecksAfter, IsUnderAfter}

-- the check under a name is that of the file of the name
pub check_named : (s : Schema) (files : List (List ℕ × Document)) (checks : List (List ℕ × FileCheck)) (name : List ℕ) (d : Document) (c : FileCheck)
    → AreChecksOf s files checks → file_named files name ≡ Some d → file_named checks name ≡ Some c → IsCheckOf s d c
check_named s [] checks name d c are is found = absurd (cc is)
check_named s (f ∷ files) [] name d c are is found = absurd are
check_named s (f ∷ files) (v ∷ checks) name d c are is found = by (is_at (name_order name) f.0) refl (ap (λ k. is_at (name_order name) k) are.0.name) is found (check_named s files checks name d c are.1)
  where
    by : (b : Bool) → is_at (name_order name) f.0 ≡ b → is_at (name_order name) v.0 ≡ is_at (name_order name) f.0
        → file_named (f ∷ files) name ≡ Some d → file_named (v ∷ checks) name ≡ Some c → (file_named files name ≡ Some d → file_named checks name ≡ Some c → IsCheckOf s d c) → IsCheckOf s d c
    by true at same is found rest =
        let document : Some f.1 ≡ Some d = rw at at is in
        let check : Some v.1 ≡ Some c = rw (same, at) at found in
        let its : f.1 ≡ d = cc document in
        let its_check : v.1 ≡ c = cc check in
        subst (λ x. IsCheckOf s x c) its (subst (λ x. IsCheckOf s f.1 x) its_check are.0.of_file)
    by false at same is found rest = rest (rw at at is) (rw (same, at) at found)

-- each file is found under its name
there : (files : List (List ℕ × Document)) (f : List ℕ × Document) → IsStrictlySortedBy name_order (keys_of files) → Contains files f → file_named files f.0 ≡ Some f.1
there files f sorted h =
    lookup_from_place (eq_by_cmp_equiv nat_list_cmp_total) files h.0 f.0 f.1 (IsDistinct-from_sorted name_order (keys_of files) sorted)
    (slice_get_read files (length files) h.0 f refl h.1 (sym h.2))

-- a relation that follows from another at each element
zip_weaker : {A B : Type 0} (R S : A → B → Type 0) (xs : List A) (ys : List B) → ((x : A) (y : B) → Contains xs x → R x y → S x y) → AllZip R xs ys → AllZip S xs ys
zip_weaker R S [] [] weaker zipped = tt
zip_weaker R S [] (y ∷ ys) weaker zipped = absurd zipped
zip_weaker R S (x ∷ xs) [] weaker zipped = absurd zipped
zip_weaker R S (x ∷ xs) (y ∷ ys) weaker zipped = (
  weaker x y (Contains-append_left (x ∷ []) xs x (Contains-push [] x)) zipped.0,
  zip_weaker R S xs ys (λ a b h. weaker a b (Contains-append_right (x ∷ []) xs a h)) zipped.1,
)

-- the checks of all files after an edit
pub all_after : (before : List (List ℕ × FileCheck)) (edited : List ℕ) (change : SchemaChange) (files : Files) (after : Schema) (checks : List (List ℕ × FileCheck))
    → IsStrictlySortedBy name_order (keys_of files.schema) → AllZip (IsUnderAfter before edited change after) files.schema checks
    → AreChecksAfter before edited change files after checks
all_after before edited change files after checks sorted zipped old were changes differs =
    zip_weaker (IsUnderAfter before edited change after) (IsCheckUnder after) files.schema checks
    (λ f v h its. record {
      name = its.name;
      of_file = its.of_file old were changes (λ other. sym (differs f.0 other) ∙ there files.schema f sorted h);
    })
    zipped

-- the checks of files hold what the definitions of the files give
pub hold : (s : Schema) (files : List (List ℕ × Document)) (checks : List (List ℕ × FileCheck)) → AreChecksOf s files checks → HoldDefinitionsOf files checks
hold s [] [] are = tt
hold s [] (c ∷ checks) are = absurd are
hold s (f ∷ files) [] are = absurd are
hold s (f ∷ files) (c ∷ checks) are = (are.0.of_file.definitions, hold s files checks are.1)
