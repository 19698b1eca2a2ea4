use Rattle.std.proofs.Common.{◌∙◌, ap}
use Rattle.gql_removal.specs.Removals.{left}
use Rattle.gql_facts.specs.declared.key.Key.TheVariants as key
use Rattle.gql_usage.proofs.Breaking.{differ}
use Rattle.gql_usage.proofs.breaks.loses_root_of.Goals as goal

pub returns : goal.returns
returns c = differ c.same.result c.in_ok-left.left c.in_ok-root.root _ _
    (c.in_ok-left.ensures ∙ ap (left c.args.removal.now (key.RootOf c.args.kind)) (c.in_ok-copy.ensures ∙ c.in_ok-root.ensures.answer))
    c.in_ok-root.ensures.answer c.same.ensures
