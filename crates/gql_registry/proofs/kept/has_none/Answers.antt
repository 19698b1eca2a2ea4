use Rattle.gql_registry.proofs.Reports.{none_iff_sound}
use Rattle.gql_registry.proofs.kept.has_none.Goals as goal

pub returns : goal.returns
returns c = λ files lists. none_iff_sound files c.args.faults.now c.is_empty.result c.is_empty.ensures lists
