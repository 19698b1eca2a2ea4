-- What the definitions of a schema come to by those of types, and by all others.
use Rattle.std.proofs.Common.{◌≡◌, ◌∙◌, inl, inr, ℕ, List, [], ◌∷◌, Bool, false, not, Option, filter, find, map, bytes_eq, refl, sym, ap, ap₂, subst}
use Rattle.std.specs.Prelude.{is_some}
use Rattle.gql_ast.specs.declared.definition.Tree.{Tree}
use Rattle.gql_ast.specs.declared.definition.Tree.TheVariants as tree
use Rattle.gql_ast.specs.declared.type_system.TypeDefinition.{TypeDefinition}
use Rattle.gql_built_in.specs.declared.sited.Sited.{Sited}
use Rattle.gql_types.specs.Definitions as spec
use Rattle.gql_types.specs.Names.{AreOnce}
use Rattle.gql_types.specs.Possible.{all_possible}
use Rattle.gql_types.specs.Roots.{roots_of}
use Rattle.gql_types.specs.Schemas.{schema_in, types_in}
use Rattle.gql_types.specs.Sites.{is_other, others_in, schema_with}
use Rattle.gql_types.specs.Types.{first_definitions, types_of}
use Rattle.gql_types.specs.declared.schema.Schema.{Schema}
use Rattle.gql_types.specs.declared.schema_type.SchemaType.{SchemaType}
use Rattle.gql_types.proofs.Filtering.{either, found_in_these}

-- ---- the other definitions have all that is not of types

no_extension : (file : Option (List ℕ)) (t : Tree) → is_other t ≡ false → spec.extension_in file t ≡ []
no_extension file (tree.Type x) e = refl
no_extension file (tree.TypeExtension x) e = absurd (cc e)
no_extension file (tree.Operation x) e = refl
no_extension file (tree.Fragment x) e = refl
no_extension file (tree.Schema x) e = refl
no_extension file (tree.Directive x) e = refl
no_extension file (tree.SchemaExtension x) e = refl

no_directive : (file : Option (List ℕ)) (t : Tree) → is_other t ≡ false → spec.directive_in file t ≡ []
no_directive file (tree.Directive x) e = absurd (cc e)
no_directive file (tree.Type x) e = refl
no_directive file (tree.TypeExtension x) e = refl
no_directive file (tree.Operation x) e = refl
no_directive file (tree.Fragment x) e = refl
no_directive file (tree.Schema x) e = refl
no_directive file (tree.SchemaExtension x) e = refl

no_schema : (file : Option (List ℕ)) (t : Tree) → is_other t ≡ false → spec.schema_in file t ≡ []
no_schema file (tree.Schema x) e = absurd (cc e)
no_schema file (tree.Type x) e = refl
no_schema file (tree.TypeExtension x) e = refl
no_schema file (tree.Operation x) e = refl
no_schema file (tree.Fragment x) e = refl
no_schema file (tree.Directive x) e = refl
no_schema file (tree.SchemaExtension x) e = refl

no_schema_extension : (file : Option (List ℕ)) (t : Tree) → is_other t ≡ false → spec.schema_extension_in file t ≡ []
no_schema_extension file (tree.SchemaExtension x) e = absurd (cc e)
no_schema_extension file (tree.Type x) e = refl
no_schema_extension file (tree.TypeExtension x) e = refl
no_schema_extension file (tree.Operation x) e = refl
no_schema_extension file (tree.Fragment x) e = refl
no_schema_extension file (tree.Schema x) e = refl
no_schema_extension file (tree.Directive x) e = refl

abbrev test : Sited Tree → Bool
test d = is_other d.node

same_extensions : (ds : List (Sited Tree)) → spec.type_extensions (others_in ds) ≡ spec.type_extensions ds
same_extensions ds = found_in_these test (λ (d : Sited Tree). spec.extension_in d.file d.node) (λ d e. no_extension d.file d.node e) ds

same_directives : (ds : List (Sited Tree)) → spec.directive_definitions (others_in ds) ≡ spec.directive_definitions ds
same_directives ds = found_in_these test (λ (d : Sited Tree). spec.directive_in d.file d.node) (λ d e. no_directive d.file d.node e) ds

same_schemas : (ds : List (Sited Tree)) → spec.schema_definitions (others_in ds) ≡ spec.schema_definitions ds
same_schemas ds = found_in_these test (λ (d : Sited Tree). spec.schema_in d.file d.node) (λ d e. no_schema d.file d.node e) ds

same_schema_extensions : (ds : List (Sited Tree)) → spec.schema_extensions (others_in ds) ≡ spec.schema_extensions ds
same_schema_extensions ds = found_in_these test (λ (d : Sited Tree). spec.schema_extension_in d.file d.node) (λ d e. no_schema_extension d.file d.node e) ds

module _ (ds : List (Sited Tree)) (found : List (Sited TypeDefinition)) (others : List (Sited Tree))
    (are_types : found ≡ spec.type_definitions ds) (are_others : others ≡ others_in ds) where
  -- the types are those of the definitions
  pub same_types : types_of found (spec.type_extensions others) ≡ types_in ds
  same_types = ap₂ types_of are_types (ap spec.type_extensions are_others ∙ same_extensions ds)

  -- and the schema is that of the definitions
  pub same_schema : (types : List SchemaType) (schema : Schema) → types ≡ types_in ds → schema ≡ schema_with types others → schema ≡ schema_in ds
  same_schema types schema are is = is ∙ (λ k. record {
    types = are k;
    directives = (ap spec.directive_definitions are_others ∙ same_directives ds) k;
    roots = roots_of (are k) ((ap spec.schema_definitions are_others ∙ same_schemas ds) k) ((ap spec.schema_extensions are_others ∙ same_schema_extensions ds) k);
    possible = all_possible (are k);
  })

-- ---- definitions of different names are first ones

abbrev name_in : Sited TypeDefinition → List ℕ
name_in d = d.node.name.text

all_left : (n : List ℕ) (ds : List (Sited TypeDefinition)) → is_some (find (bytes_eq n) (map name_in ds)) ≡ false
    → filter (λ (e : Sited TypeDefinition). not (bytes_eq n e.node.name.text)) ds ≡ ds
all_left n [] lacks = refl
all_left n (d ∷ ds) lacks = elim (either (bytes_eq n d.node.name.text)) [
  | inl h ↦ absurd (cc (sym (rw h at lacks)))
  | inr h ↦ rw h (ap (λ es. d ∷ es) (all_left n ds (rw h at lacks)))
]

pub all_first : (ds : List (Sited TypeDefinition)) → AreOnce (map name_in ds) → first_definitions ds ≡ ds
all_first [] once = refl
all_first (d ∷ ds) once = ap (λ es. d ∷ filter (λ (e : Sited TypeDefinition). not (bytes_eq d.node.name.text e.node.name.text)) es) (all_first ds once.1)
    ∙ ap (λ es. d ∷ es) (all_left d.node.name.text ds once.0)

pub map_twice : {X Y Z : Type 0} (f : X → Y) (g : Y → Z) (xs : List X) → map g (map f xs) ≡ map (λ x. g (f x)) xs
map_twice f g [] = refl
map_twice f g (x ∷ xs) = ap (λ ys. g (f x) ∷ ys) (map_twice f g xs)

-- those that stand where types of their names stood, each of another name
pub all_in_place : {X : Type 0} (form : X → Sited TypeDefinition) (xs : List X) (names : List (List ℕ))
    → map (λ x. (form x).node.name.text) xs ≡ names → AreOnce names → first_definitions (map form xs) ≡ map form xs
all_in_place form xs names same once = all_first (map form xs) (subst AreOnce (sym (map_twice form name_in xs ∙ same)) once)
