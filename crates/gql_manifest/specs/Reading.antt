-- The definitions that manifests bring, and where manifests are refused.
use Rattle.std.specs.Prelude.{ℕ, ◌≡◌, ◌++◌, ◌∷◌, ◌⊎◌, [], List, Some, None, string_bytes}
use Rattle.serde_json.specs.Data.{Data}
use Rattle.gql_manifest.specs.Definitions.{AreAccepted, Gathers, IsRefused}
use Rattle.gql_manifest.specs.Entries.{IsJson, IsNoJson, Listing, listings_of}
use Rattle.gql_manifest.specs.Pieces.{Brings, Brought, IsTextFault, OrMemory}
use Rattle.gql_manifest.specs.declared.fault.ManifestFault.{ManifestFault}
use Rattle.gql_manifest.specs.declared.fault.ManifestFault.TheVariants.{NoManifest, NotJson}
use Rattle.gql_manifest.specs.declared.files.GivenManifest.{GivenManifest}
use Rattle.gql_manifest.specs.declared.gathered.Gathered.{Gathered}

-- ---- what is read

-- the operations of the manifest at this path bring these definitions, one after the other
pub data AllBring (path : List ℕ) : List Listing → List Brought → Type 0 where
  none_bring : AllBring path [] []
  next_brings : {ls : List Listing} (l : Listing) {bs more : List Brought}
      → AllBring path ls bs → Brings (path, l.id) l.body more
      → AllBring path (ls ++ l ∷ []) (bs ++ more)

-- the manifest lists these operations
abbrev pub Lists : GivenManifest → List Listing → Type 0
Lists m ls = (value : Data) × IsJson m.bytes.items value × (listings_of value ≡ Some ls)

-- the manifest brings these definitions
abbrev pub ManifestBrings : GivenManifest → List Brought → Type 0
ManifestBrings m bs = (ls : List Listing) × Lists m ls × AllBring (string_bytes m.path) ls bs

-- the manifests bring these definitions, one after the other
pub data ManifestsBring : List GivenManifest → List Brought → Type 0 where
  no_manifests : ManifestsBring [] []
  next_manifest : {ms : List GivenManifest} (m : GivenManifest) {bs more : List Brought}
      → ManifestsBring ms bs → ManifestBrings m more
      → ManifestsBring (ms ++ m ∷ []) (bs ++ more)

-- ---- what is refused

-- A definition of the operation's text is refused: those before it in the text, and those that
-- were there, are accepted.
pub record IsPartFault (place : List ℕ × List ℕ) (text : List ℕ) (bs : List Brought)
    (fault : ManifestFault) : Type 0 where
  pub earlier : List Brought
  pub refused : Brought
  pub later : List Brought
  pub brings : Brings place text (earlier ++ refused ∷ later)
  pub is : IsRefused (bs ++ earlier) refused fault

-- the operation is refused after these definitions: its text, or a definition of it
abbrev pub IsListingFault : List ℕ → Listing → List Brought → ManifestFault → Type 0
IsListingFault path l bs fault = (AreAccepted bs × IsTextFault (path, l.id) l.body fault)
    ⊎ IsPartFault (path, l.id) l.body bs fault

-- an operation of the manifest is refused; those before it are accepted
pub record IsListedFault (m : GivenManifest) (bs : List Brought) (fault : ManifestFault)
    : Type 0 where
  pub earlier : List Listing
  pub refused : Listing
  pub later : List Listing
  pub brought : List Brought
  pub lists : Lists m (earlier ++ refused ∷ later)
  pub bring : AllBring (string_bytes m.path) earlier brought
  pub is : IsListingFault (string_bytes m.path) refused (bs ++ brought) fault

-- the fault says that what is at this path is no JSON
abbrev pub SaysNotJson : List ℕ → ManifestFault → Type 0
SaysNotJson path (NotJson p) = string_bytes p ≡ path
SaysNotJson path _ = ⊥

-- the fault says that the JSON at this path is no manifest
abbrev pub SaysNoManifest : List ℕ → ManifestFault → Type 0
SaysNoManifest path (NoManifest p) = string_bytes p ≡ path
SaysNoManifest path _ = ⊥

-- the bytes are no JSON, or JSON of neither form, and the fault says which
abbrev pub IsFormFault : GivenManifest → ManifestFault → Type 0
IsFormFault m fault = (IsNoJson m.bytes.items × SaysNotJson (string_bytes m.path) fault)
    ⊎ ((value : Data) × IsJson m.bytes.items value × (listings_of value ≡ None)
    × SaysNoManifest (string_bytes m.path) fault)

-- the manifest is refused after these definitions, which are accepted
abbrev pub IsOwnFault : GivenManifest → List Brought → ManifestFault → Type 0
IsOwnFault m bs fault = (AreAccepted bs × IsFormFault m fault) ⊎ IsListedFault m bs fault

-- one of the manifests is refused; what those before it bring is accepted
pub record IsRefusedAmong (ms : List GivenManifest) (fault : ManifestFault) : Type 0 where
  pub earlier : List GivenManifest
  pub refused : GivenManifest
  pub later : List GivenManifest
  pub brought : List Brought
  pub all : ms ≡ earlier ++ refused ∷ later
  pub bring : ManifestsBring earlier brought
  pub is : IsOwnFault refused brought fault

-- why manifests are refused: an allocation fails, or one of them is refused
abbrev pub IsManifestsFault : List GivenManifest → ManifestFault → Type 0
IsManifestsFault ms = OrMemory (IsRefusedAmong ms)

-- ---- steps of the reading, for private contracts

-- these definitions are gathered after those that are there
abbrev pub GathersListing : List ℕ → Listing → Gathered → Gathered → Type 0
GathersListing path l old new = (more : List Brought) × Brings (path, l.id) l.body more
    × ((bs : List Brought) → Gathers bs old → Gathers (bs ++ more) new)

-- an allocation fails, or the operation is refused after what is there
abbrev pub IsEntryFault : List ℕ → Listing → Gathered → ManifestFault → Type 0
IsEntryFault path l old fault =
    (bs : List Brought) → Gathers bs old → OrMemory (IsListingFault path l bs) fault

-- what the manifest brings is gathered after what is there
abbrev pub GathersManifest : GivenManifest → Gathered → Gathered → Type 0
GathersManifest m old new = (more : List Brought) × ManifestBrings m more
    × ((bs : List Brought) → Gathers bs old → Gathers (bs ++ more) new)

-- an allocation fails, or the manifest is refused after what is there
abbrev pub IsManifestFault : GivenManifest → Gathered → ManifestFault → Type 0
IsManifestFault m old fault =
    (bs : List Brought) → Gathers bs old → OrMemory (IsOwnFault m bs) fault

-- what the manifests bring is gathered
abbrev pub GathersAll : List GivenManifest → Gathered → Type 0
GathersAll ms gathered = (bs : List Brought) × ManifestsBring ms bs × Gathers bs gathered
