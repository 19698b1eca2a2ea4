-- Slots, which have a verdict or the index of one that is kept.
use Rattle.std.specs.Prelude.{◌≡◌, ℕ, ◌<◌, List, [], ◌∷◌, map, length, slice_index_or, Option, MatchOption, Contains}
use Rattle.std.specs.declared.cmp.Ordering.{Ordering}
use Rattle.std.specs.declared.cmp.Ordering.TheVariants.{Less}
use Rattle.gql_ast.specs.Trees.{id_of}
use Rattle.gql_ast.specs.declared.definition.DefinitionId.{DefinitionId}
use Rattle.gql_ast.specs.declared.fault.Fault.{Fault}
use Rattle.gql_verdict.specs.FileOrder.{InFileOrder, id_order}
use Rattle.gql_verdict.specs.Shelves.{defs}
use Rattle.gql_verdict.specs.Verdicts.{IsCertificate, IsRead, Judgement}
use Rattle.gql_verdict.specs.declared.slot.Slot.{Slot}
use Rattle.gql_verdict.specs.declared.slot.Slot.TheVariants.{Here, At}

-- the verdict v is in the slot j
pub record IsAt (slots : List Slot) (j : ℕ) (v : Judgement) : Type 0 where
  pub within : j < length slots
  pub is : (s : Slot) → slice_index_or slots j s ≡ Here v

-- the order of the definition in a slot and a name
abbrev pub slot_order : Slot → DefinitionId → Ordering
slot_order (Here v) id = id_order (id_of v.def) id
slot_order (At j) id = Less

-- the slot has the verdict on the definition of this name
abbrev pub HasId : Slot → DefinitionId → Type 0
HasId (Here v) id = id_of v.def ≡ id
HasId (At j) id = ⊥

-- the verdicts that are in these slots
abbrev pub verdicts : List Slot → List Judgement
verdicts [] = []
verdicts (Here v ∷ slots) = v ∷ verdicts slots
verdicts (At j ∷ slots) = verdicts slots

-- the names of the definitions of these verdicts
abbrev pub ids_of : List Judgement → List DefinitionId
ids_of vs = map (λ (v : Judgement). id_of v.def) vs

-- every slot has a verdict, with the answers that it observed, in file order
pub record IsInOrder (slots : List Slot) : Type 0 where
  pub all_here : slots ≡ map Here (verdicts slots)
  pub order : InFileOrder (defs (verdicts slots))
  pub reads : (v : Judgement) → Contains (verdicts slots) v → IsRead v

-- the index of the verdict on the definition of a name, or none if there is no such verdict
abbrev pub IsFound : List Slot → DefinitionId → Option ℕ → Type 0
IsFound slots id found = MatchOption found
    ((v : Judgement) → Contains (verdicts slots) v → id_of v.def ≡ id → ⊥)
    (λ j. (v : Judgement) × IsAt slots j v × (id_of v.def ≡ id))

-- a slot with the verdict that its index refers to
abbrev pub resolve : List Slot → Slot → Slot
resolve kept (Here v) = Here v
resolve kept (At j) = slice_index_or kept j (At j)

-- no index occurs twice
abbrev pub IsApart : List Slot → Type 0
IsApart steps = (a b j : ℕ) → a < length steps → b < length steps
    → slice_index_or steps a (At j) ≡ At j → slice_index_or steps b (At j) ≡ At j → a ≡ b

-- the faults of the verdict in a slot
abbrev pub slot_faults : Slot → List Fault
slot_faults (Here v) = v.faults
slot_faults (At j) = []

-- the verdict in a slot, if there is one, has a certificate
abbrev pub IsSlotCertified : Slot → Type 0
IsSlotCertified (Here v) = IsCertificate v.def v.faults v.observations
IsSlotCertified (At j) = Unit {0}
