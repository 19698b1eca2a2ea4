use Rattle.std.proofs.Common.{refl, subst, sym}
use Rattle.gql_node_rules.specs.Nodes.{AllNodes}
use Rattle.gql_schema_rules.specs.NodesToCheck.{FindsSame}
use Rattle.gql_schema_rules.specs.SchemaFaults.{nodes_in}
use Rattle.gql_schema_rules.proofs.EnoughNodes.{alone, without}
use Rattle.gql_schema_rules.proofs.KeptChecks.{hold}
use Rattle.gql_schema_rules.proofs.nodes_to_check.nodes_to_check.Goals as goal

pub returns-then-are_once : goal.returns-then-are_once
returns-then-are_once c = λ is checks.
    let files = c.args.files.now in
    subst (λ (n : AllNodes). FindsSame c.args.schema.now n (nodes_in files))
    (sym (c.in_ok-others.ensures files.schema (hold c.args.schema.now files.schema c.args.checks.now checks)))
    (without c.args.schema.now (nodes_in files) (c.are_once.ensures c.if-are_once.true files refl is checks))

pub returns : goal.returns
returns c = λ is checks.
    subst (λ (n : AllNodes). FindsSame c.args.schema.now n (nodes_in c.args.files.now)) (sym c.in_ok-all.ensures)
    (alone c.args.schema.now (nodes_in c.args.files.now))
