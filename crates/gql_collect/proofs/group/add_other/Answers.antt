use Rattle.std.proofs.Common.{append-nil, sym}
use Rattle.gql_collect.specs.Borrowed.{all_selections}
use Rattle.gql_collect.proofs.group.add_other.Goals as goal

pub returns-in-None : goal.returns-in-None
returns-in-None c = rw c.in-None.is (sym (append-nil (all_selections c.args.sets.now.items)))
