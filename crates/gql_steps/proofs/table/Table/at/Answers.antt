use Rattle.gql_steps.specs.Objects.{basis}
use Rattle.gql_steps.proofs.Entries.{found_has, grows_same}
use Rattle.gql_steps.proofs.table.Table.at.Goals as goal

pub returns-in-Some-clause-grows : goal.returns-in-Some-clause-grows
returns-in-Some-clause-grows c = grows_same c.args.self.now

pub returns-in-Some-clause-has : goal.returns-in-Some-clause-has
returns-in-Some-clause-has c = found_has (basis c.args.setting.now) c.args.self.now c.in-Some.number c.args.slot c.args.of_type.now c.requires.right c.in-Some.ensures
