use Rattle.std.proofs.Common.{rules, tests}
use Rattle.std.proofs.lemmas.Iterator.Consumers.{YieldsList-from_filter, count_from_yields_List}
use Rattle.std.proofs.lemmas.Iterator.{YieldsList-from_slice}
use Rattle.gql_ast.specs.declared.definition.Definition.{Definition}
use Rattle.gql_node_rules.specs.OtherTrees.{defines_type}
use Rattle.gql_node_rules.proofs.file_definitions.count_types.Goals as goal

pub returns : goal.returns
returns c = count_from_yields_List c.filter.result _ c.count.ensures.ran
    (YieldsList-from_filter _ (λ (d : Definition). defines_type d.tree) (YieldsList-from_slice c.args.definitions.now cc)
    c.filter.ensures.closure (λ x r q k. search (rules, tests)))
