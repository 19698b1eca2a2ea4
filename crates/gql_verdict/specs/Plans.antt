-- What makes a shelf current: new verdicts, and verdicts on the shelf that still hold.
use Rattle.std.specs.Prelude.{List, map}
use Rattle.std.specs.List.{AllZip}
use Rattle.gql_ast.specs.declared.definition.Definition.{Definition}
use Rattle.gql_facts.specs.Worlds.{Facts}
use Rattle.gql_pairs.specs.Groups.{KeptGroup}
use Rattle.gql_pairs.specs.Tables.{AllHold}
use Rattle.gql_readers.specs.Indexes.{IsIndexOf, Reading}
use Rattle.gql_verdict.specs.FileOrder.{InFileOrder}
use Rattle.gql_verdict.specs.Readings.{readers}
use Rattle.gql_verdict.specs.Shelves.{Serves}
use Rattle.gql_verdict.specs.Slots.{IsAt, resolve, verdicts}
use Rattle.gql_verdict.specs.Verdicts.{IsRead, Judgement}
use Rattle.gql_verdict.specs.declared.slot.Slot.{Slot}
use Rattle.gql_verdict.specs.declared.slot.Slot.TheVariants.{Here, At}

-- a verdict on d that holds, with the answers that it observed
pub record IsUsable (facts : Facts) (d : Definition) (v : Judgement) : Type 0 where
  pub serves : Serves facts d v
  pub read : IsRead v

-- a verdict on d that holds: a new one, or one of those that are kept
abbrev pub IsStep : Facts → List Slot → Definition → Slot → Type 0
IsStep facts kept d (Here v) = IsUsable facts d v
IsStep facts kept d (At j) = (v : Judgement) × IsAt kept j v × IsUsable facts d v

-- what is prepared: a step for each definition, who reads each key afterwards, and what is kept of
-- pairs of fragments
pub record Preparation : Type 0 where
  pub steps : List Slot
  pub index : List Reading
  pub pairs : List KeptGroup

-- The steps that make a shelf current: for each definition, in file order, a verdict that holds,
-- new or kept on the shelf; the index of the verdicts that these steps lead to; and entries for pairs
-- of fragments, each of which holds.
pub record IsPlanned (facts : Facts) (definitions : List Definition) (shelf : List Judgement)
    (prepared : Preparation) : Type 0 where
  pub order : InFileOrder definitions
  pub steps : AllZip (IsStep facts (map Here shelf)) definitions prepared.steps
  pub index : IsIndexOf prepared.index
      (readers (verdicts (map (resolve (map Here shelf)) prepared.steps)))
  pub pairs : AllHold facts prepared.pairs

-- steps for this shelf, which make it current for some facts and definitions
abbrev pub IsPrepared : List Judgement → Preparation → Type 0
IsPrepared shelf prepared = (facts : Facts) × (definitions : List Definition)
    × IsPlanned facts definitions shelf prepared
