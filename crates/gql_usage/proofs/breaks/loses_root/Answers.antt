use Rattle.std.proofs.Common.{◌∙◌, sym}
use Rattle.gql_facts.specs.Presents.{facts_of_present}
use Rattle.gql_usage.proofs.Breaking.{loses_by_kind, loses_none}
use Rattle.gql_usage.proofs.breaks.loses_root.Goals as goal

pub returns-in-Some : goal.returns-in-Some
returns-in-Some c = loses_by_kind (facts_of_present c.args.present) c.args.removal.now c.loses_root_of.result c.args.tree.now c.in-Some.kind
    (sym c.in-Some.is ∙ c.operation_kind.ensures) c.loses_root_of.ensures

pub returns-in-None : goal.returns-in-None
returns-in-None c = loses_none (facts_of_present c.args.present) c.args.removal.now c.args.tree.now (sym c.in-None.is ∙ c.operation_kind.ensures)
