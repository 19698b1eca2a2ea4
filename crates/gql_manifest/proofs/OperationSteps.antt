-- An operation that is added to those that are gathered.
use Rattle.std.proofs.Common.{◌≡◌, ◌∙◌, [], ◌∷◌, ◌++◌, ℕ, List, Some, None, Contains, refl, ap, map, bytes_eq}
use Rattle.std.specs.Map.{lookup}
use Rattle.std.proofs.lemmas.List.{map-append}
use Rattle.gql_manifest.proofs.Kept.{found, not_found}
use Rattle.gql_manifest.specs.Buckets.{bucket_of}
use Rattle.gql_manifest.specs.Gathering.{IsFresh, Operation, SaysTwice, operation_from, operation_of}
use Rattle.gql_manifest.specs.Origins.{Place, place_of}
use Rattle.gql_manifest.specs.declared.fault.ManifestFault.{ManifestFault}
use Rattle.gql_manifest.specs.declared.gathered.GatheredOperation.{GatheredOperation}

abbrev pub Entries : Type 0
Entries = List (List ℕ × GatheredOperation)

-- none had its name
pub is_fresh : (es : Entries) (name : List ℕ) → lookup (bytes_eq name) es ≡ None → IsFresh name (map operation_of es)
is_fresh es name none = not_found operation_of (λ (o : Operation). o.name) (λ e. refl) name es none

-- it stands at the end
pub appended : (es new : Entries) (name : List ℕ) (g : GatheredOperation) (place : Place) (bytes : List ℕ) → new ≡ es ++ (name, g) ∷ [] → place_of g.origin ≡ place → g.bytes.items ≡ bytes ++ 10 ∷ []
    → g.bucket ≡ bucket_of name → map operation_of new ≡ map operation_of es ++ operation_from name place bytes ∷ []
appended es new name g place bytes is its_place its_bytes its_bucket =
    let same : operation_of (name, g) ≡ operation_from name place bytes = λ i. record { name = name; place = its_place i; bytes = its_bytes i; bucket = its_bucket i } in
    ap (map operation_of) is ∙ map-append operation_of es ((name, g) ∷ []) ∙ ap (λ o. map operation_of es ++ o ∷ []) same

-- one had its name
pub twice : (es : Entries) (name : List ℕ) (g : GatheredOperation) (place : Place) (fault : ManifestFault) → lookup (bytes_eq name) es ≡ Some g → SaysTwice name (place_of g.origin) place fault
    → (o : Operation) × Contains (map operation_of es) o × (o.name ≡ name) × SaysTwice name o.place place fault
twice es name g place fault is says = (operation_of (name, g), found operation_of name g es is, refl, says)
