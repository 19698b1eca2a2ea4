use Rattle.std.proofs.Common.{subst}
use Rattle.std.specs.Option.{option_copied}
use Rattle.gql_pairs.specs.Groups.{IsCertified}
use Rattle.gql_pairs.proofs.Certifying.{found_certified, if_found}
use Rattle.gql_pairs.proofs.group.Group.known.Goals as goal

pub returns-clause-value : goal.returns-clause-value
returns-clause-value c = if_found c.args.name.now c.args.self.now.members (option_copied c.member.result) c.member.ensures

pub returns-clause-certificate : goal.returns-clause-certificate
returns-clause-certificate c = found_certified c.args.self.now c.args.name.now (option_copied c.member.result) (subst IsCertified c.self.view_is c.self.invariant) (returns-clause-value c)
