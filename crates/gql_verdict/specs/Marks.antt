-- Helper definitions for private contracts: marks of the kept verdicts that an edit has broken.
use Rattle.std.specs.Prelude.{◌≡◌, ◌≢◌, ◌⊎◌, ◌<◌, ◌≤◌, ℕ, List, [], ◌∷◌, Bool, true, false, length, slice_index_or, Contains}
use Rattle.std.specs.List.{AllZip}
use Rattle.gql_ast.specs.Trees.{id_of}
use Rattle.gql_ast.specs.declared.definition.Definition.{Definition}
use Rattle.gql_ast.specs.declared.definition.DefinitionId.{DefinitionId}
use Rattle.gql_facts.specs.Worlds.{Facts}
use Rattle.gql_facts.specs.declared.key.Key.{Key}
use Rattle.gql_facts.specs.declared.key.Key.TheVariants as key
use Rattle.gql_pairs.specs.Doubts.{in_doubt}
use Rattle.gql_pairs.specs.declared.doubt.Doubt.{Doubt}
use Rattle.gql_readers.specs.Changes.{IsNew}
use Rattle.gql_readers.specs.Indexes.{IsIndexOf, Reading}
use Rattle.gql_readers.specs.Readers.{Reader}
use Rattle.gql_reads.specs.Observations.{Hold, IsBroken, keys_of, observed}
use Rattle.gql_reads.specs.declared.observation.Observation.{Observation}
use Rattle.gql_verdict.specs.FileOrder.{InFileOrder}
use Rattle.gql_verdict.specs.Plans.{IsStep}
use Rattle.gql_verdict.specs.Readings.{readers}
use Rattle.gql_verdict.specs.Slots.{IsAt, IsInOrder, verdicts}
use Rattle.gql_verdict.specs.TouchedFacts.{HoldWhere}
use Rattle.gql_verdict.specs.Verdicts.{Judgement}
use Rattle.gql_verdict.specs.declared.slot.Slot.{Slot}
use Rattle.gql_verdict.specs.declared.slot.Slot.TheVariants.{Here, At}
use Rattle.gql_verdict.specs.declared.touched.Touched.{Touched}

-- the index is marked
abbrev pub IsMarked : List Bool → ℕ → Type 0
IsMarked marks j = slice_index_or marks j false ≡ true

-- the slots are in order, and the index is that of their verdicts
pub record IsShelved (slots : List Slot) (index : List Reading) : Type 0 where
  pub order : IsInOrder slots
  pub reads : IsIndexOf index (readers (verdicts slots))

-- what was marked still is
abbrev pub KeepMarks : List Bool → List Bool → Type 0
KeepMarks old new = (j : ℕ) → IsMarked old j → IsMarked new j

-- each verdict on one of these definitions is marked
abbrev pub AreMarked : List Slot → List Bool → List DefinitionId → Type 0
AreMarked slots marks ids = (j : ℕ) (v : Judgement) → IsAt slots j v → Contains ids (id_of v.def)
    → IsMarked marks j

-- each verdict that is marked now was marked before, or is on one of these definitions
abbrev pub OnlyMarks : List Slot → List Bool → List Bool → List DefinitionId → Type 0
OnlyMarks slots old new ids = (j : ℕ) (v : Judgement) → IsAt slots j v → IsMarked new j
    → IsMarked old j ⊎ Contains ids (id_of v.def)

-- the answer to a key and those about the types that it leads to are as they were, or else all
-- readers of the key are marked
abbrev pub IsCompared : Facts → List Slot → List Bool → Reading → Type 0
IsCompared facts slots marks e =
    Hold facts (observed e.answer) ⊎ AreMarked slots marks e.readers

-- the answer was compared if it is in doubt, or one about a type that it leads to is
abbrev pub IsDoubtCompared : Facts → Doubt → List Slot → List Bool → Reading → Type 0
IsDoubtCompared facts d slots marks e = (o : Observation) → Contains (observed e.answer) o
    → in_doubt d o.key ≡ true → IsCompared facts slots marks e

-- there is a mark for each slot, and a verdict is marked only if an observation of it does not hold
pub record AreBroken (facts : Facts) (slots : List Slot) (marks : List Bool) : Type 0 where
  pub long : length marks ≡ length slots
  pub broken : (j : ℕ) (v : Judgement) → IsAt slots j v → IsMarked marks j
      → IsBroken facts v.observations

-- exactly those verdicts are marked of which some observation that an edit touches does not hold
pub record AreMarks (facts : Facts) (touched : Touched) (slots : List Slot) (marks : List Bool)
    : Type 0 where
  pub broken : AreBroken facts slots marks
  pub hold : (j : ℕ) (v : Judgement) → IsAt slots j v → (IsMarked marks j → ⊥)
      → HoldWhere facts touched v.observations

-- of the indices below a count, exactly those are marked that steps refer to
pub record AreKept (steps : List Slot) (count : ℕ) (marks : List Bool) : Type 0 where
  pub long : length marks ≡ count
  pub from : (j : ℕ) → IsMarked marks j → Contains steps (At j)
  pub to : (j : ℕ) → j < count → Contains steps (At j) → IsMarked marks j

-- for each definition, in file order, a step that is new or refers to a slot
abbrev pub AreSteps : List Slot → List Slot → Type 0
AreSteps kept steps = (facts : Facts) × (definitions : List Definition)
    × InFileOrder definitions × AllZip (IsStep facts kept) definitions steps

-- the verdicts in slots that are not marked
abbrev pub gone : List Slot → List Bool → List Judgement
gone [] marks = []
gone (s ∷ slots) [] = []
gone (s ∷ slots) (true ∷ marks) = gone slots marks
gone (Here v ∷ slots) (false ∷ marks) = v ∷ gone slots marks
gone (At j ∷ slots) (false ∷ marks) = gone slots marks

-- the verdict in a slot is on the definition of this name, it is not marked, and it is not before
-- an index
pub record IsReplacedAt (slots : List Slot) (marks : List Bool) (at : ℕ) (id : DefinitionId) (j : ℕ)
    : Type 0 where
  pub after : at ≤ j
  pub verdict : Judgement
  pub there : IsAt slots j verdict
  pub named : id_of verdict.def ≡ id
  pub goes : slice_index_or marks j false ≡ false

-- the answer for a fragment was compared, if it was read
abbrev pub IsFragmentCompared : Facts → List Slot → List Reading → List Bool → List ℕ → Type 0
IsFragmentCompared facts slots index marks n = (e : Reading) → Contains index e
    → e.key ≡ key.FragmentOf n → IsCompared facts slots marks e

-- none of these verdicts is on a definition on which a reader is
abbrev pub AreNew : List Judgement → List Reader → Type 0
AreNew vs readers = (v : Judgement) → Contains vs v → IsNew (id_of v.def) readers

-- the answer was compared for each fragment of a name that passes this test, if it was read
abbrev pub AreDone : Facts → List Slot → List Reading → List Bool → (List ℕ → Bool) → Type 0
AreDone facts slots index marks done = (n : List ℕ) → done n ≡ true
    → IsFragmentCompared facts slots index marks n

-- the entry has readers, and its answer observed the key
abbrev pub IsSomeAsked : Reading → Key → Type 0
IsSomeAsked e k = (e.readers ≢ []) × Contains (keys_of (observed e.answer)) k

-- whether a key is about a type
abbrev pub is_about_type : Key → Bool
is_about_type (key.KindOf n) = true
is_about_type (key.PossibleOf n) = true
is_about_type (key.InputOf n) = true
is_about_type (key.EnumOf n) = true
is_about_type _ = false
