-- Helper definitions for private contracts: the first schema definition, by what schema files give to
-- the schema.
use Rattle.std.specs.Prelude.{◌≡◌, ℕ, List, [], ◌∷◌, Option, Some, None, refl}
use Rattle.std.specs.Option.{option_or}
use Rattle.gql_ast.specs.declared.definition.Tree.{Tree}
use Rattle.gql_ast.specs.declared.definition.Tree.TheVariants as tree
use Rattle.gql_ast.specs.declared.type_system.DirectiveDefinition.{DirectiveDefinition}
use Rattle.gql_ast.specs.declared.type_system.SchemaDefinition.{SchemaDefinition}
use Rattle.gql_built_in.specs.declared.sited.Sited.{Sited}
use Rattle.gql_types.specs.declared.outline.FileOutline.{FileOutline}
use Rattle.gql_intro.specs.Made.{schema_of}

-- the first schema definition among these
abbrev pub schema_among : List (Sited Tree) → Option SchemaDefinition
schema_among [] = None
schema_among (d ∷ ds) = option_or (schema_of d.node) (schema_among ds)

-- the first schema definition among what these files give
abbrev pub first_outlined : List (List ℕ × FileOutline) → Option SchemaDefinition
first_outlined [] = None
first_outlined (file ∷ files) = option_or (schema_among file.1.others) (first_outlined files)

-- of two schema definitions behind that of a directive, the first
example : (file other : List ℕ) (x : DirectiveDefinition) (s t : SchemaDefinition)
    → first_outlined ((
      file,
      record {
        types = 2;
        others = record { file = Some file; node = tree.Directive x } ∷ [];
      },
    )
    ∷ (
      other,
      record {
        types = 0;
        others = record { file = Some other; node = tree.Schema s }
            ∷ record { file = Some other; node = tree.Schema t } ∷ [];
      },
    ) ∷ []) ≡ Some s
example file other x s t = refl
