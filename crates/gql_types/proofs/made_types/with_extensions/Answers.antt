use Rattle.std.proofs.Common.{ap, ◌∙◌}
use Rattle.gql_types.specs.Types.{assembled}
use Rattle.gql_types.proofs.made_types.with_extensions.Goals as goal

pub returns : goal.returns
returns c = c.in_ok-of_type.ensures ∙ ap (assembled c.args.definition.now) c.in_ok-found.ensures
