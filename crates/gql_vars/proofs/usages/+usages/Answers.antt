use Rattle.std.proofs.Common.{◌∙◌, ap, sym, option_map}
use Rattle.gql_inputs.specs.ExpectedTypes.{written_of}
use Rattle.gql_vars.proofs.ValueUsages.{in_items}
use Rattle.gql_vars.proofs.usages.+usages.Goals as goal

pub check_list-returns-in-Some-clause-found : goal.check_list-returns-in-Some-clause-found
check_list-returns-in-Some-clause-found g t c =
    rw (in_items (g.W.World.facts c.args.world.now) c.args.check.now (written_of c.args.expected) (written_of c.in-Some.item) c.args.items.now
    (ap (option_map written_of) (sym c.in-Some.is) ∙ c.item.ensures)) c.check_items.ensures.found
