-- The operations of manifests.
use Rattle.std.specs.Prelude.{ℕ, ◌≡◌, ◌++◌, ◌∷◌, ◌⊎◌, [], List, Contains, Option, Some, None, map, string_bytes}
use Rattle.gql_ast.specs.declared.text.Name.{Name}
use Rattle.gql_manifest.specs.Buckets.{bucket_of}
use Rattle.gql_manifest.specs.Origins.{Place, place_of}
use Rattle.gql_manifest.specs.declared.fault.ManifestFault.{ManifestFault}
use Rattle.gql_manifest.specs.declared.fault.ManifestFault.TheVariants.{Twice, Unnamed, Memory}
use Rattle.gql_manifest.specs.declared.gathered.Gathered.{Gathered}
use Rattle.gql_manifest.specs.declared.gathered.GatheredOperation.{GatheredOperation}

-- an operation of a manifest: its name, where it comes from, the bytes of its file, and its bucket
pub record Operation : Type 0 where
  pub name : List ℕ
  pub place : Place
  pub bytes : List ℕ
  pub bucket : ℕ

-- what is gathered under a name, as an operation
abbrev pub operation_of : List ℕ × GatheredOperation → Operation
operation_of entry = record {
  name = entry.0;
  place = place_of entry.1.origin;
  bytes = entry.1.bytes.items;
  bucket = entry.1.bucket;
}

-- the operations that are gathered
abbrev pub operations_of : Gathered → List Operation
operations_of gathered = map operation_of gathered.operations.entries

-- the operation of this name, from this place, of these bytes; a line break ends its file
abbrev pub operation_from : List ℕ → Place → List ℕ → Operation
operation_from name place bytes = record {
  name = name;
  place = place;
  bytes = bytes ++ 10 ∷ [];
  bucket = bucket_of name;
}

-- none of the operations has this name
abbrev pub IsFresh : List ℕ → List Operation → Type 0
IsFresh name operations = (o : Operation) → Contains operations o → o.name ≡ name → ⊥

-- the fragments and the operations are as they were
abbrev pub IsUnchanged : Gathered → Gathered → Type 0
IsUnchanged old new =
    (operations_of new ≡ operations_of old) × (new.fragments ≡ old.fragments)

-- the operation of this name stands at the end, as none of its name was there
abbrev pub IsAdded : Option Name → Place → List ℕ → Gathered → Gathered → Type 0
IsAdded None place bytes old new = ⊥
IsAdded (Some name) place bytes old new = IsFresh name.text (operations_of old)
    × (operations_of new
    ≡ operations_of old ++ operation_from name.text place bytes ∷ [])
    × (new.fragments ≡ old.fragments)

-- the fault says that the operations of this name, from these places, have one name
abbrev pub SaysTwice : List ℕ → Place → Place → ManifestFault → Type 0
SaysTwice name first at (Twice n f a) =
    (string_bytes n ≡ name) × (place_of f ≡ first) × (place_of a ≡ at)
SaysTwice name first at _ = ⊥

-- the fault says that the operation from this place has no name
abbrev pub SaysUnnamed : Place → ManifestFault → Type 0
SaysUnnamed at (Unnamed a) = place_of a ≡ at
SaysUnnamed at _ = ⊥

-- the operation has no name, or one of these has its name, and the fault says so
abbrev pub IsNameFault : Option Name → Place → List Operation → ManifestFault → Type 0
IsNameFault None at operations fault = SaysUnnamed at fault
IsNameFault (Some name) at operations fault = (o : Operation) × Contains operations o
    × (o.name ≡ name.text) × SaysTwice name.text o.place at fault

-- why an operation is not added: an allocation fails, or its name is refused
abbrev pub IsAddFault : Option Name → Place → List Operation → ManifestFault → Type 0
IsAddFault name at operations fault =
    (fault ≡ Memory) ⊎ IsNameFault name at operations fault
