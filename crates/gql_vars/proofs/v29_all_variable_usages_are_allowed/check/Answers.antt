use Rattle.std.proofs.Common.{◌≡◌, ◌++◌, ◌∙◌, ap, rules}
use Rattle.std.specs.Option.{option_copied}
use Rattle.gql_vars.specs.Misuses.{first_named, misuse_of, usage_of}
use Rattle.gql_vars.proofs.v29_all_variable_usages_are_allowed.check.Goals as goal

pub returns-clause-found : goal.returns-clause-found
returns-clause-found g c =
    let named : option_copied c.copied-variable.result ≡ first_named c.args.check.now c.args.used.now.name.now = search rules in
    c.in_ok-check_named.ensures.found
    ∙ ap (λ o. c.args.faults.now.items ++ misuse_of (g.W.World.facts c.args.world.now) c.args.check.now.owner.now (usage_of c.args.used.now c.args.location) o) named
