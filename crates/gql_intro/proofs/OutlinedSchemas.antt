-- The first schema definition of files is the first one that their outline has.
use Rattle.std.proofs.Common.{◌≡◌, ◌∙◌, ℕ, List, [], ◌∷◌, Option, Bool, true, false, cond, map, refl, sym, ap, ap₂}
use Rattle.std.specs.Option.{option_or}
use Rattle.gql_ast.specs.declared.definition.Definition.{Definition}
use Rattle.gql_ast.specs.declared.definition.Document.{Document}
use Rattle.gql_ast.specs.declared.definition.Tree.{Tree}
use Rattle.gql_ast.specs.declared.definition.Tree.TheVariants as tree
use Rattle.gql_ast.specs.declared.files.Files.{Files}
use Rattle.gql_ast.specs.declared.type_system.SchemaDefinition.{SchemaDefinition}
use Rattle.gql_types.specs.Definitions.{in_order_of}
use Rattle.gql_types.specs.Outlines.{IsOutline, outline_at}
use Rattle.gql_types.specs.Sites.{is_other, others_in}
use Rattle.gql_types.specs.declared.outline.Outline.{Outline}
use Rattle.gql_intro.specs.Made.{first_schema, schema_in, schema_of}
use Rattle.gql_intro.specs.Outlined.{first_outlined, schema_among}

-- the definition of a type is no schema definition
none_lost : (t : Tree) (rest : Option SchemaDefinition) → cond (is_other t) (option_or (schema_of t) rest) rest ≡ option_or (schema_of t) rest
none_lost (tree.Type definition) rest = refl
none_lost (tree.Operation operation) rest = refl
none_lost (tree.Fragment fragment) rest = refl
none_lost (tree.Schema definition) rest = refl
none_lost (tree.Directive definition) rest = refl
none_lost (tree.SchemaExtension extension) rest = refl
none_lost (tree.TypeExtension extension) rest = refl

in_file : (ds : List Definition) → schema_among (others_in (in_order_of ds)) ≡ schema_in ds
in_file [] = refl
in_file (d ∷ ds) = by (is_other d.tree) refl (in_file ds)
  where
    by : (b : Bool) → is_other d.tree ≡ b → schema_among (others_in (in_order_of ds)) ≡ schema_in ds → schema_among (others_in (in_order_of (d ∷ ds))) ≡ schema_in (d ∷ ds)
    by true is rest = rw is (ap (option_or (schema_of d.tree)) rest)
    by false is rest = rw is (
        let lost : schema_in ds ≡ option_or (schema_of d.tree) (schema_in ds) = ap (λ b. cond b (option_or (schema_of d.tree) (schema_in ds)) (schema_in ds)) (sym is) ∙ none_lost d.tree (schema_in ds) in
        rest ∙ lost
        )

in_files : (files : List (List ℕ × Document)) → first_outlined (map outline_at files) ≡ first_schema files
in_files [] = refl
in_files (file ∷ files) = ap₂ option_or (in_file file.1.definitions) (in_files files)

pub same_first : (files : Files) (outline : Outline) → IsOutline files outline → first_outlined outline.files ≡ first_schema files.schema
same_first files outline is = ap first_outlined is.files ∙ in_files files.schema
