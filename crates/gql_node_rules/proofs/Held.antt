-- What the checks of files hold of the files' definitions is what all definitions give.
use Rattle.std.proofs.Common.{◌≡◌, ◌∙◌, ◌++◌, ◌+◌, ℕ, List, [], ◌∷◌, not, Option, Some, filter, length, refl, sym, ap, ap₂, arith}
use Rattle.std.specs.List.{count_by}
use Rattle.std.specs.Prelude.{cond}
use Rattle.std.proofs.lemmas.List.{length-append}
use Rattle.std.proofs.lemmas.List.Concat.{flat_map-append}
use Rattle.std.proofs.lemmas.List.Elements.{filter-append}
use Rattle.std.proofs.lemmas.List.Sums.{length-filter, sum_by-cons}
use Rattle.gql_ast.specs.declared.definition.Definition.{Definition}
use Rattle.gql_ast.specs.declared.definition.Document.{Document}
use Rattle.gql_ast.specs.declared.definition.Tree.{Tree}
use Rattle.gql_ast.specs.declared.definition.Tree.TheVariants as tree
use Rattle.gql_ast.specs.declared.type_system.TypeDefinition.{TypeDefinition}
use Rattle.gql_built_in.specs.declared.sited.Sited.{Sited}
use Rattle.gql_types.specs.Definitions.{in_order_of, of_files}
use Rattle.gql_types.specs.Parts.{sited}
use Rattle.gql_node_rules.specs.FileDefinitions.{HoldDefinitionsOf, others_held, types_counted}
use Rattle.gql_node_rules.specs.Nodes.{type_of, types}
use Rattle.gql_node_rules.specs.OtherTrees.{defines_type, others}
use Rattle.gql_node_rules.specs.declared.file_check.FileCheck.{FileCheck}

-- one definition more is counted if it defines a type
one_more : (file : Option (List ℕ)) (t : Tree) (n : ℕ) (rest : List (Sited TypeDefinition)) → n ≡ length rest
    → cond (defines_type t) 1 0 + n ≡ length (sited file (type_of t) ++ rest)
one_more file (tree.Type definition) n rest e = omega (arith, e)
one_more file (tree.Operation operation) n rest e = omega (arith, e)
one_more file (tree.Fragment fragment) n rest e = omega (arith, e)
one_more file (tree.Schema definition) n rest e = omega (arith, e)
one_more file (tree.Directive definition) n rest e = omega (arith, e)
one_more file (tree.SchemaExtension extension) n rest e = omega (arith, e)
one_more file (tree.TypeExtension extension) n rest e = omega (arith, e)

count : (ds : List Definition) → count_by (λ (d : Definition). defines_type d.tree) ds ≡ length (types (in_order_of ds))
count [] = refl
count (d ∷ ds) = sum_by-cons (λ (x : Definition). cond (defines_type x.tree) 1 0) d ds
    ∙ one_more (Some d.file) d.tree (count_by (λ (x : Definition). defines_type x.tree) ds) (types (in_order_of ds)) (count ds)

-- as many definitions of a file define a type as it has definitions of types
pub counted : (ds : List Definition) → length (filter (λ (d : Definition). defines_type d.tree) ds) ≡ length (types (in_order_of ds))
counted ds = length-filter (λ (d : Definition). defines_type d.tree) ds ∙ count ds

-- the checks have the definitions of all files that define no type
pub all_others : (files : List (List ℕ × Document)) (checks : List (List ℕ × FileCheck)) → HoldDefinitionsOf files checks
    → others_held checks ≡ others (of_files files)
all_others [] [] hold = refl
all_others [] (c ∷ checks) hold = absurd hold
all_others (f ∷ files) [] hold = absurd hold
all_others (f ∷ files) (c ∷ checks) hold =
    ap₂ (λ xs ys. xs ++ ys) hold.0.others (all_others files checks hold.1)
    ∙ sym (filter-append (λ (d : Sited Tree). not (defines_type d.node)) (in_order_of f.1.definitions) (of_files files))

-- the checks count the definitions of types in all files
pub all_counted : (files : List (List ℕ × Document)) (checks : List (List ℕ × FileCheck)) → HoldDefinitionsOf files checks
    → types_counted checks ≡ length (types (of_files files))
all_counted [] [] hold = refl
all_counted [] (c ∷ checks) hold = absurd hold
all_counted (f ∷ files) [] hold = absurd hold
all_counted (f ∷ files) (c ∷ checks) hold =
    sum_by-cons (λ (check : List ℕ × FileCheck). check.1.definitions.types) c checks
    ∙ ap₂ (λ m n. m + n) hold.0.types (all_counted files checks hold.1)
    ∙ sym (ap length (flat_map-append (λ (d : Sited Tree). sited d.file (type_of d.node)) (in_order_of f.1.definitions) (of_files files))
    ∙ length-append (types (in_order_of f.1.definitions)) (types (of_files files)))
