-- The operations that are kept by their names have the names that the definitions of the files have.
use Rattle.std.specs.Prelude.{◌≡◌, ℕ, suc, Contains, List, [], ◌∷◌, ◌++◌, refl, flat_map, map, Option, Some, None}
use Rattle.std.specs.Option.{option_to_list}
use Rattle.std.proofs.Common.{ap, subst, sym, ◌∙◌}
use Rattle.std.proofs.lemmas.Grind.{flat_map-append}
use Rattle.std.proofs.lemmas.List.{map-append}
use Rattle.gql_ast.specs.declared.definition.Definition.{Definition}
use Rattle.gql_ast.specs.declared.definition.Document.{Document}
use Rattle.gql_ast.specs.declared.definition.Tree.{Tree}
use Rattle.gql_ast.specs.declared.definition.Tree.TheVariants as tree
use Rattle.gql_ast.specs.declared.text.Name.{Name}
use Rattle.gql_registry.specs.Chosen as chosen
use Rattle.gql_registry.specs.Chosen.{NamedOperation}
use Rattle.gql_verdict.specs.Definitions.{all_definitions, operation_name}
use Rattle.gql_verdict.specs.Naming.{named_by, text_of, with_name}
use Rattle.gql_verdict.specs.NewNames.{HaveSameNames, names_of_operations}
use Rattle.gql_facts.specs.ListMembers.{Contains-flat_map, Contains-flat_map_from}
use Rattle.gql_registry.specs.Indexed.{IsIndexOf, kept_as, kept_by, kept_from, kept_in, kept_operations, names_in, text_in}
use Rattle.gql_registry.specs.declared.kept_operation.KeptOperation.{KeptOperation}
use Rattle.gql_registry.specs.declared.operations.Operations.{Operations}

-- the name of an operation
abbrev text_of_named : NamedOperation → List ℕ
text_of_named o = o.name

-- the name of an operation that is kept, if it has one
abbrev own_name : KeptOperation → List (List ℕ)
own_name k = option_to_list k.name

by_name : (d : Definition) (n : Option Name) → map text_of_named (chosen.named_by d n) ≡ map text_of (with_name d n)
by_name d None = refl
by_name d (Some n) = refl

by_tree : (d : Definition) (t : Tree) → map text_of_named (chosen.named_of d t) ≡ map text_of (with_name d (operation_name t))
by_tree d (tree.Operation o) = by_name d o.name
by_tree d (tree.Fragment f) = refl
by_tree d (tree.Schema s) = refl
by_tree d (tree.Type s) = refl
by_tree d (tree.Directive s) = refl
by_tree d (tree.SchemaExtension s) = refl
by_tree d (tree.TypeExtension s) = refl

in_definitions : (ds : List Definition) → map text_of_named (flat_map chosen.named_in ds) ≡ names_of_operations ds
in_definitions [] = refl
in_definitions (d ∷ ds) = map-append text_of_named (chosen.named_in d) (flat_map chosen.named_in ds)
    ∙ ap (λ l. l ++ map text_of_named (flat_map chosen.named_in ds)) (by_tree d d.tree)
    ∙ ap (λ l. map text_of (with_name d (operation_name d.tree)) ++ l) (in_definitions ds)
    ∙ sym (map-append text_of (with_name d (operation_name d.tree)) (named_by operation_name ds))

-- the names of the operations of files
pub names_of_all_operations : (documents : List (List ℕ × Document))
    → map (λ (o : NamedOperation). o.name) (chosen.named_operations documents) ≡ names_of_operations (all_definitions documents)
names_of_all_operations [] = refl
names_of_all_operations (file ∷ files) =
    let of_tree = λ (d : Definition). with_name d (operation_name d.tree) in
    let here = file.1.definitions in
    let later = all_definitions files in
    map-append text_of_named (flat_map chosen.named_in here) (chosen.named_operations files)
    ∙ ap (λ l. l ++ map text_of_named (chosen.named_operations files)) (in_definitions here)
    ∙ ap (λ l. names_of_operations here ++ l) (names_of_all_operations files)
    ∙ sym (ap (map text_of) (flat_map-append of_tree here later) ∙ map-append text_of (named_by operation_name here) (named_by operation_name later))

-- ---- the operations that are kept

kept_name : (file : List ℕ) (number : ℕ) (d : Definition) (n : Option Name) → names_in (record { name = text_in n; file = file; number = number; definition = d } ∷ []) ≡ map text_of_named (chosen.named_by d n)
kept_name file number d None = refl
kept_name file number d (Some n) = refl

kept_tree : (file : List ℕ) (number : ℕ) (d : Definition) (t : Tree) → names_in (option_to_list (kept_by file number d t)) ≡ map text_of_named (chosen.named_of d t)
kept_tree file number d (tree.Operation o) = kept_name file number d o.name
kept_tree file number d (tree.Fragment f) = refl
kept_tree file number d (tree.Schema s) = refl
kept_tree file number d (tree.Type s) = refl
kept_tree file number d (tree.Directive s) = refl
kept_tree file number d (tree.SchemaExtension s) = refl
kept_tree file number d (tree.TypeExtension s) = refl

names_from : (file : List ℕ) (number : ℕ) (ds : List Definition) → names_in (kept_from file number ds) ≡ map text_of_named (flat_map chosen.named_in ds)
names_from file number [] = refl
names_from file number (d ∷ ds) = flat_map-append own_name (option_to_list (kept_as file number d)) (kept_from file (suc number) ds)
    ∙ ap (λ l. l ++ names_in (kept_from file (suc number) ds)) (kept_tree file number d d.tree)
    ∙ ap (λ l. map text_of_named (chosen.named_in d) ++ l) (names_from file (suc number) ds)
    ∙ sym (map-append text_of_named (chosen.named_in d) (flat_map chosen.named_in ds))

names_kept : (documents : List (List ℕ × Document)) → names_in (kept_operations documents) ≡ map text_of_named (chosen.named_operations documents)
names_kept [] = refl
names_kept (file ∷ files) = flat_map-append own_name (kept_in file.0 (Some file.1)) (kept_operations files)
    ∙ ap (λ l. l ++ names_in (kept_operations files)) (names_from file.0 0 file.1.definitions)
    ∙ ap (λ l. map text_of_named (flat_map chosen.named_in file.1.definitions) ++ l) (names_kept files)
    ∙ sym (map-append text_of_named (flat_map chosen.named_in file.1.definitions) (chosen.named_operations files))

-- the same operations have the same names
names_among : (xs ys : List KeptOperation) → ((x : KeptOperation) → Contains xs x → Contains ys x) → (name : List ℕ) → Contains (names_in xs) name → Contains (names_in ys) name
names_among xs ys among name m =
    let f = Contains-flat_map_from own_name xs name m in
    Contains-flat_map own_name ys f.0 name (among f.0 f.1) f.2

-- the names of the operations that are kept are those of the definitions of the files
pub same_names : (documents : List (List ℕ × Document)) (o : Operations) → IsIndexOf documents o → HaveSameNames (names_in o.all) (names_of_operations (all_definitions documents))
same_names documents o index name =
    let all : names_in (kept_operations documents) ≡ names_of_operations (all_definitions documents) = names_kept documents ∙ names_of_all_operations documents in (
      λ m. subst (λ names. Contains names name) all (names_among o.all (kept_operations documents) (λ x. (index.items x).0) name m),
      λ m. names_among (kept_operations documents) o.all (λ x. (index.items x).1) name (subst (λ names. Contains names name) (sym all) m),
    )
