-- The fragments of manifests, each kept once.
use Rattle.std.specs.Prelude.{ℕ, ◌≡◌, ◌≢◌, ◌++◌, ◌∷◌, ◌⊎◌, [], List, Contains, map, string_bytes}
use Rattle.gql_manifest.specs.Origins.{Place, place_of}
use Rattle.gql_manifest.specs.declared.fault.ManifestFault.{ManifestFault}
use Rattle.gql_manifest.specs.declared.fault.ManifestFault.TheVariants.{Differ, Memory}
use Rattle.gql_manifest.specs.declared.fragments.KeptFragment.{KeptFragment}

-- a fragment: its name, its tokens, its bytes, and the operation that brought it first
pub record Fragment : Type 0 where
  pub name : List ℕ
  pub tokens : List ℕ
  pub bytes : List ℕ
  pub first : Place

-- what is kept under a name, as a fragment
abbrev pub fragment_of : List ℕ × KeptFragment → Fragment
fragment_of entry = record {
  name = entry.0;
  tokens = string_bytes entry.1.tokens;
  bytes = entry.1.bytes.items;
  first = place_of entry.1.first;
}

-- the fragment of this name, with these tokens and bytes, that an operation at this place brought;
-- a line break ends it
abbrev pub fragment_from : List ℕ → List ℕ → List ℕ → Place → Fragment
fragment_from name tokens bytes place = record {
  name = name;
  tokens = tokens;
  bytes = bytes ++ 10 ∷ [];
  first = place;
}

-- what is kept under names, as fragments
abbrev pub fragments_of : List (List ℕ × KeptFragment) → List Fragment
fragments_of = map fragment_of

-- the bytes of fragments
abbrev pub bytes_of : List Fragment → List (List ℕ)
bytes_of = map (λ (f : Fragment). f.bytes)

-- none of the fragments has this name
abbrev pub IsFresh : List ℕ → List Fragment → Type 0
IsFresh name kept = (f : Fragment) → Contains kept f → f.name ≡ name → ⊥

-- the fragment is one of these, and has this name
abbrev pub IsKept : List ℕ → List Fragment → Fragment → Type 0
IsKept name kept f = Contains kept f × (f.name ≡ name)

-- the fragment stands at the end, as none of its name was kept
abbrev pub IsAppended : List Fragment → List Fragment → Fragment → Type 0
IsAppended old new f = IsFresh f.name old × (new ≡ old ++ f ∷ [])

-- nothing changes, as one of its name and with the same tokens is kept
abbrev pub IsThere : List Fragment → List Fragment → Fragment → Type 0
IsThere old new f = (new ≡ old) × (k : Fragment) × IsKept f.name old k × (k.tokens ≡ f.tokens)

-- the fragment is added
abbrev pub IsAdded : List Fragment → List Fragment → Fragment → Type 0
IsAdded old new f = IsAppended old new f ⊎ IsThere old new f

-- the fault says that the fragments of this name, which these operations brought, differ
abbrev pub SaysDiffer : List ℕ → Place → Place → ManifestFault → Type 0
SaysDiffer name first at (Differ n f a) =
    (string_bytes n ≡ name) × (place_of f ≡ first) × (place_of a ≡ at)
SaysDiffer name first at _ = ⊥

-- a fragment of its name is kept that has other tokens, and the fault says who brought the two
abbrev pub IsDiffering : List Fragment → Fragment → ManifestFault → Type 0
IsDiffering kept f fault = (k : Fragment) × IsKept f.name kept k × (k.tokens ≢ f.tokens)
    × SaysDiffer f.name k.first f.first fault

-- why a fragment is not added: an allocation fails, or it differs from one that is kept
abbrev pub IsAddFault : List Fragment → Fragment → ManifestFault → Type 0
IsAddFault kept f fault = (fault ≡ Memory) ⊎ IsDiffering kept f fault
