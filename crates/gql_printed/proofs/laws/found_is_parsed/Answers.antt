use Rattle.gql_printed.proofs.Found.{found_written}
use Rattle.gql_printed.proofs.Printed.{written_parsed}
use Rattle.gql_printed.proofs.laws.found_is_parsed.Goals as goal

pub returns : goal.returns
returns c = λ limit most constant source literal found short. written_parsed most constant literal
    (found_written limit constant source literal found) short
