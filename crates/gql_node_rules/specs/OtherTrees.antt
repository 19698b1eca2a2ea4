-- The definitions of schema files that define no type.
use Rattle.std.specs.Prelude.{List, Bool, true, false, filter, not}
use Rattle.gql_ast.specs.declared.definition.Tree.{Tree}
use Rattle.gql_ast.specs.declared.definition.Tree.TheVariants as tree
use Rattle.gql_built_in.specs.declared.sited.Sited.{Sited}

-- whether a definition defines a type
abbrev pub defines_type : Tree → Bool
defines_type (tree.Type definition) = true
defines_type (tree.Operation operation) = false
defines_type (tree.Fragment fragment) = false
defines_type (tree.Schema definition) = false
defines_type (tree.Directive definition) = false
defines_type (tree.SchemaExtension extension) = false
defines_type (tree.TypeExtension extension) = false

-- those of these definitions that define no type
abbrev pub others : List (Sited Tree) → List (Sited Tree)
others ds = filter (λ (d : Sited Tree). not (defines_type d.node)) ds
