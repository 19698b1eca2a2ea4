use Rattle.std.proofs.Common.{◌∙◌, sym}
use Rattle.gql_node_rules.proofs.Changes.{found_type}
use Rattle.gql_node_rules.proofs.same_input.is_same_input.Goals as goal

pub is_same_type-requires : goal.is_same_type-requires
is_same_type-requires c = sym (found_type c.args.name.now c.args.schema.now.types c.in-Some.its.now (sym c.in-Some.ensures)).1
    ∙ (found_type c.args.name.now c.args.other.now.types c.in-Some-get.theirs.now (sym c.in-Some-get.ensures)).1
