-- Helper definitions for private contracts: what is known of a change that has passed some of its
-- checks.
use Rattle.std.specs.Prelude.{ℕ, ◌≡◌, ◌⊎◌, ◌≤◌, List, length, IsUtf8}
use Rattle.gql_ast.specs.declared.definition.Document.{Document}
use Rattle.gql_ast.specs.declared.fault.FileSide.{FileSide}
use Rattle.gql_ast.specs.declared.fault.FileSide.TheVariants.{Schema, Documents}
use Rattle.gql_ast.specs.declared.profile.Profile.{Profile}
use Rattle.gql_registry.specs.Edits.{Change, Edit, IsFirstRefusal, IsRefusedAt, put, put_data, set_data}
use Rattle.gql_registry.specs.Sides.{IsFileOn, limit_on}
use Rattle.gql_registry.specs.State.{State, profile_of}
use Rattle.gql_registry.specs.declared.change.EditRefusal.{EditRefusal}
use Rattle.gql_registry.specs.declared.refusal.Refusal.{Refusal}
use Rattle.gql_registry.specs.declared.refusal.Refusal.TheVariants.{Memory}
use Rattle.gql_verdict.specs.FileOrder.{ArePlaced}
use Rattle.serde_json.specs.Data.{Data}

-- the change is refused with the first check that it fails, or an allocation failed
abbrev pub IsChangeRefusal : State → Change → Refusal → Type 0
IsChangeRefusal s c r = IsFirstRefusal s c r ⊎ (r ≡ Memory)

-- the first of the changes that is refused is refused with this, or an allocation failed
abbrev pub IsListRefusal : State → Edit → EditRefusal → Type 0
IsListRefusal s e r = IsRefusedAt s e r.at r.refusal ⊎ (r.refusal ≡ Memory)

-- the definitions of a document file have its name, and their offsets rise
abbrev pub IsPlacedOn : FileSide → List ℕ → Document → Type 0
IsPlacedOn Schema name document = Unit {0}
IsPlacedOn Documents name document = ArePlaced name document.definitions

-- the bytes are read as this document, under this profile
pub record IsRead (profile : Profile) (side : FileSide) (name bytes : List ℕ)
    (document : Document) : Type 0 where
  pub short : length bytes ≤ limit_on profile side
  pub text : IsUtf8 bytes
  pub file : IsFileOn side name bytes document
  pub placed : IsPlacedOn side name document

-- a change that puts the bytes as a file under this profile is refused with this
abbrev pub IsUnread : Profile → FileSide → List ℕ → List ℕ → Refusal → Type 0
IsUnread profile side name bytes r = (s : State) → profile_of s ≡ profile
    → IsChangeRefusal s (put side name bytes) r

-- a change that puts the bytes as data under this profile is refused with this
abbrev pub IsBadData : Profile → List ℕ → Refusal → Type 0
IsBadData profile bytes r = (s : State) → profile_of s ≡ profile
    → IsChangeRefusal s (put_data bytes) r

-- a change that puts the value as data under this profile is refused with this
abbrev pub IsBadValue : Profile → Data → Refusal → Type 0
IsBadValue profile d r = (s : State) → profile_of s ≡ profile
    → IsChangeRefusal s (set_data d) r
