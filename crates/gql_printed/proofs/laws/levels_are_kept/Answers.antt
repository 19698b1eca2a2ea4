use Rattle.gql_printed.proofs.Levels.{levels_kept}
use Rattle.gql_printed.proofs.laws.levels_are_kept.Goals as goal

pub returns : goal.returns
returns c = λ limit most constant source literal found text. levels_kept limit most constant source literal found text
