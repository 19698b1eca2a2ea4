-- Which objects declare an interface, by the declarations that the code holds.
use Rattle.std.proofs.Common.{◌≡◌, ◌++◌, false, inl, inr, ℕ, List, [], ◌∷◌, map, filter, flat_map, bytes_eq, refl, ap, ◌∙◌, arith}
use Rattle.std.proofs.lemmas.Grind.{common_steps}
use Rattle.gql_types.proofs.Ordering.{named, same_order}
use Rattle.gql_types.specs.Declarations.{declarations, pair}
use Rattle.gql_types.specs.Abstracts.{abstract_by, abstract_types, all_abstract}
use Rattle.gql_types.specs.Kinds.{is_abstract}
use Rattle.gql_types.proofs.Filtering.{either}
use Rattle.gql_types.specs.Possible.{objects_of, in_order, name_of}
use Rattle.gql_types.specs.declared.kind.TypeKind.{TypeKind}
use Rattle.gql_types.specs.declared.kind.TypeKind.TheVariants as kind
use Rattle.gql_types.specs.declared.possible.Declaration.{Declaration}
use Rattle.gql_types.specs.declared.schema_type.SchemaType.{SchemaType}

objects_are : (q : List ℕ) (ds : List Declaration) → map (λ (d : Declaration). d.object.now) (filter (λ (d : Declaration). bytes_eq q d.interface.now) ds)
    ≡ map (λ (p : List ℕ × List ℕ). p.1) (filter (λ (p : List ℕ × List ℕ). bytes_eq q p.0) (map pair ds))
objects_are q [] = refl
objects_are q (d ∷ ds) = grind (arith, common_steps, objects_are q ds)

abstract_same : (k : TypeKind) (at to : List ℕ → List (List ℕ)) (t : SchemaType) → ((q : List ℕ) → in_order (at q) ≡ in_order (to q)) → abstract_by k at t ≡ abstract_by k to t
abstract_same kind.Object at to t same = refl
abstract_same kind.Interface at to t same = λ k. record { of_type = name_of t; types = same (name_of t) k } ∷ []
abstract_same kind.Union at to t same = refl
abstract_same kind.Scalar at to t same = refl
abstract_same kind.Enum at to t same = refl
abstract_same kind.InputObject at to t same = refl

flat_map_same : {X Y : Type 0} (f g : X → List Y) (xs : List X) → ((x : X) → f x ≡ g x) → flat_map f xs ≡ flat_map g xs
flat_map_same f g [] same = refl
flat_map_same f g (x ∷ xs) same = λ k. same x k ++ flat_map_same f g xs same k

pub abstract_of_all : (types : List SchemaType) (ds : List Declaration) (at : List ℕ → List Declaration) → map pair ds ≡ declarations types
    → ((q : List ℕ) → at q ≡ filter (λ (d : Declaration). bytes_eq q d.interface.now) ds)
    → flat_map (λ (t : SchemaType). abstract_by t.kind (λ q. map (λ (d : Declaration). d.object.now) (at q)) t) types ≡ all_abstract types
abstract_of_all types ds at all found =
    flat_map_same (λ (t : SchemaType). abstract_by t.kind (λ q. map (λ (d : Declaration). d.object.now) (at q)) t) (λ (t : SchemaType). abstract_by t.kind (objects_of types) t) types
    (λ t. abstract_same t.kind (λ q. map (λ (d : Declaration). d.object.now) (at q)) (objects_of types) t
    (λ q. ap in_order (ap (map (λ (d : Declaration). d.object.now)) (found q) ∙ objects_are q ds ∙ ap (named q) all) ∙ same_order q types))

-- a type that is neither an interface nor a union has none
none_abstract : (k : TypeKind) (at : List ℕ → List (List ℕ)) (t : SchemaType) → is_abstract k ≡ false → abstract_by k at t ≡ []
none_abstract kind.Object at t concrete = refl
none_abstract kind.Interface at t concrete = absurd (cc concrete)
none_abstract kind.Union at t concrete = absurd (cc concrete)
none_abstract kind.Scalar at t concrete = refl
none_abstract kind.Enum at t concrete = refl
none_abstract kind.InputObject at t concrete = refl

-- so that interfaces and unions alone have those of all types
pub of_abstracts : (at : List ℕ → List (List ℕ)) (types : List SchemaType)
    → flat_map (λ (t : SchemaType). abstract_by t.kind at t) (abstract_types types) ≡ flat_map (λ (t : SchemaType). abstract_by t.kind at t) types
of_abstracts at [] = refl
of_abstracts at (t ∷ ts) = elim (either (is_abstract t.kind)) [
  | inl h ↦ rw h (ap (λ ps. abstract_by t.kind at t ++ ps) (of_abstracts at ts))
  | inr h ↦ rw (h, none_abstract t.kind at t h) (of_abstracts at ts)
]
