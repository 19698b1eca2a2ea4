-- Types that stood where they are said to have stood before an edit, with their possible types.
use Rattle.std.proofs.Common.{◌≡◌, ◌∙◌, ℕ, suc, List, [], ◌∷◌, Option, None, Some, ap, bytes_eq, find, map, option_map, refl, slice_get, subst, sym}
use Rattle.std.specs.List.{AllZip}
use Rattle.gql_ast.specs.declared.files.Files.{Files}
use Rattle.gql_types.specs.Definitions.{definitions, type_definitions, type_extensions}
use Rattle.gql_types.specs.KeptTypes.{AreKeptAt, IsConcreteAt, IsKeptAt}
use Rattle.gql_types.specs.Names.{AreOnce}
use Rattle.gql_types.specs.Possible.{all_possible, name_of}
use Rattle.gql_types.specs.Schemas.{schema_of}
use Rattle.gql_types.specs.declared.possible.PossibleTypes.{PossibleTypes}
use Rattle.gql_types.specs.declared.schema.Schema.{Schema}
use Rattle.gql_types.specs.declared.schema_type.SchemaType.{SchemaType}
use Rattle.gql_types.proofs.EachPossible.{of_concrete, types_once}
use Rattle.gql_types.proofs.Once.{once_found}

-- the types of a schema have different names, and possible types are those of its types
abbrev IsSound : Schema → Type 0
IsSound s = AreOnce (map name_of s.types) × (s.possible ≡ all_possible s.types)

sound : (files : Files) → IsSound (schema_of files)
sound files = (types_once (type_definitions (definitions files)) (type_extensions (definitions files)), refl)

-- the possible types of a name, by all
abbrev named_in : List ℕ → List PossibleTypes → Option (List (List ℕ))
named_in n all = option_map (λ (p : PossibleTypes). p.types) (find (λ (p : PossibleTypes). bytes_eq n p.of_type) all)

kept_one : (before after : Schema) → IsSound before → IsSound after → (i : ℕ) (p : Option ℕ) (t : SchemaType) → slice_get after.types i ≡ Some t
    → IsConcreteAt before.types p t → IsKeptAt before after p t
kept_one before after old new i None t there concrete = tt
kept_one before after old new i (Some place) t there concrete = (
  concrete.0,
  ap (named_in (name_of t)) new.1
      ∙ of_concrete after.types new.0 (name_of t) t (once_found name_of after.types i t new.0 there) concrete.1
      ∙ sym (of_concrete before.types old.0 (name_of t) t (once_found name_of before.types place t old.0 concrete.0) concrete.1)
      ∙ sym (ap (named_in (name_of t)) old.1),
)

-- what holds of each type with its place, at whatever place it stands itself, holds of all
lifted : (R S : Option ℕ → SchemaType → Type 0) (ps : List (Option ℕ)) (ts : List SchemaType)
    → ((i : ℕ) (p : Option ℕ) (t : SchemaType) → slice_get ts i ≡ Some t → R p t → S p t) → AllZip R ps ts → AllZip S ps ts
lifted R S [] [] gives all = tt
lifted R S [] (t ∷ ts) gives all = absurd all
lifted R S (p ∷ ps) [] gives all = absurd all
lifted R S (p ∷ ps) (t ∷ ts) gives all = (gives 0 p t refl all.0, lifted R S ps ts (λ i. gives (suc i)) all.1)

-- the places of the types of a schema, by those of the schema of files before an edit
pub kept_places : (files old : Files) (before after : Schema) (types : List SchemaType) (places : List (Option ℕ)) → before ≡ schema_of old → after ≡ schema_of files
    → after.types ≡ types → AllZip (IsConcreteAt before.types) places types → AreKeptAt before after places
kept_places files old before after types places was is same all =
    lifted (IsConcreteAt before.types) (IsKeptAt before after) places after.types
    (kept_one before after (subst IsSound (sym was) (sound old)) (subst IsSound (sym is) (sound files)))
    (subst (AllZip (IsConcreteAt before.types) places) (sym same) all)
