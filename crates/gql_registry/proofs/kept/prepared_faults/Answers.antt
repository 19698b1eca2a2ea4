use Rattle.std.proofs.Common.{List, sym, subst, Vec, Global}
use Rattle.gql_ast.specs.declared.definition.Definition.{Definition}
use Rattle.gql_ast.specs.declared.fault.Fault.{Fault}
use Rattle.gql_ast.specs.declared.files.Files.{Files}
use Rattle.gql_facts.specs.Facts.{fact_of}
use Rattle.gql_facts.specs.Members.{Lists}
use Rattle.gql_facts.specs.Worlds.{Facts}
use Rattle.gql_verdict.specs.Definitions.{all_definitions}
use Rattle.gql_verdict.specs.Plans.{IsPlanned}
use Rattle.gql_verdict.specs.Shelves.{IsFaultOfAny}
use Rattle.gql_registry.specs.Keeping.{AreSchemaFaults, IsDefinitionFault, IsPlanFor, IsSideOf}
use Rattle.gql_registry.specs.Report.{IsSound}
use Rattle.gql_registry.proofs.Mapped.{ok_map}
use Rattle.gql_registry.proofs.Reports.{unsound}
use Rattle.gql_registry.proofs.kept.prepared_faults.Goals as goal

pub returns-then-not-has_none : goal.returns-then-not-has_none
returns-then-not-has_none c = λ files planned side sound. absurd (unsound c.has_none.result
    (c.has_none.ensures files (subst (AreSchemaFaults files) (sym c.as_slice.ensures.value) side.faults)) c.if-not-has_none.true sound)

pub returns : goal.returns
returns c = ok_map c.prepared_faults.result
    (λ (found : Vec Fault Global). (facts : Facts) (definitions : List Definition) → IsPlanned facts definitions c.args.shelf.now.verdicts c.args.verdicts.now → Lists found.items (IsFaultOfAny facts definitions))
    (λ (found : Vec Fault Global). (files : Files) → IsPlanFor files c.args.shelf.now.verdicts c.args.verdicts.now → IsSideOf files c.args.schema.now → IsSound files → Lists found.items (IsDefinitionFault files))
    (λ found lists files planned side sound. lists (fact_of files) (all_definitions files.documents) planned)
    c.prepared_faults.ensures
