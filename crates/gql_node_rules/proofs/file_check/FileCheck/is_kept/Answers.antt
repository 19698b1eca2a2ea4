use Rattle.std.proofs.Common.{◌∙◌, ap, bytes_eq}
use Rattle.std.specs.HashSet.{contains}
use Rattle.std.specs.List.{list_any}
use Rattle.gql_node_rules.proofs.Kept.{kept_if}
use Rattle.gql_node_rules.proofs.file_check.FileCheck.is_kept.Goals as goal

pub returns : goal.returns
returns c = λ yes d s t is changed. kept_if d s t c.args.self.now c.args.change.now is changed
    c.are_both-directives.result c.are_both-appends.result c.has_one-types.result c.has_other_inputs-values.result
    c.is_either.result c.is_either-2.result c.is_either-3.result
    c.are_both-directives.ensures c.are_both-appends.ensures
    (c.has_one-types.ensures ∙ ap (list_any (contains bytes_eq c.args.self.now.types)) c.as_slice.ensures)
    c.has_other_inputs-values.ensures c.is_either.ensures c.is_either-2.ensures c.is_either-3.ensures yes
