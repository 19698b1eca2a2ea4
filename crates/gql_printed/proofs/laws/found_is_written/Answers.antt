use Rattle.gql_printed.proofs.Found.{found_written}
use Rattle.gql_printed.proofs.laws.found_is_written.Goals as goal

pub returns : goal.returns
returns c = λ limit constant source literal found. found_written limit constant source literal found
