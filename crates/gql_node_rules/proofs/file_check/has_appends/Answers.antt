use Rattle.std.proofs.Common.{◌≡◌, ◌∙◌, refl, sym}
use Rattle.gql_node_rules.specs.Borrowed.{lists}
use Rattle.gql_node_rules.specs.FileChecks.{appends}
use Rattle.gql_node_rules.proofs.Changes.{turned}
use Rattle.gql_node_rules.proofs.Uses.{none_if}
use Rattle.gql_node_rules.proofs.file_check.has_appends.Goals as goal

pub returns : goal.returns
returns c =
    let all : c.check_extensions.new.faults.items ≡ appends (lists c.args.nodes.now) =
    rw (c.in_ok-check_extensions.ensures, c.in_ok-check_definitions.ensures, c.new-faults.ensures.items, c.as_slice.ensures.value, c.as_slice-2.ensures.value) refl in
    λ e. sym all ∙ sym c.as_slice-all.ensures.value ∙ none_if c.as_slice-all.result.now (sym c.is_empty.ensures ∙ turned c.is_empty.result e)
