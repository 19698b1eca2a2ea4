use Rattle.std.proofs.Common.{◌∙◌, ap, sym, length, bytes_eq}
use Rattle.std.specs.Prelude.{◌&&◌, ◌||◌, ◌==◌, not}
use Rattle.std.specs.HashSet.{contains}
use Rattle.std.specs.List.{list_any}
use Rattle.gql_node_rules.proofs.Sets.{fits}
use Rattle.gql_node_rules.proofs.file_check.FileCheck.has_other_inputs.Goals as goal

pub returns : goal.returns
returns c = λ e. fits c.args.change.now c.args.self.now.directives c.is_empty.result c.has_one-is_changed.result
    (c.is_empty.ensures ∙ ap (λ xs. length xs == 0) c.as_slice-inputs.ensures)
    (c.has_one-is_changed.ensures ∙ ap (list_any (contains bytes_eq c.args.self.now.directives.values)) c.as_slice-inputs.ensures)
    (ap (λ b. c.args.change.now.floats || (not c.is_empty.result && b)) (sym c.is_either-may_differ.ensures)
    ∙ ap (λ b. c.args.change.now.floats || b) (sym c.are_both.ensures) ∙ sym c.is_either.ensures ∙ e)
