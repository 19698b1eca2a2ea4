use Rattle.gql_printed.proofs.Only.{only_same_value}
use Rattle.gql_printed.proofs.Printed.{written_parsed}
use Rattle.gql_printed.proofs.laws.written_is_parsed.Goals as goal

pub returns-clause-parsed : goal.returns-clause-parsed
returns-clause-parsed c = λ limit constant literal written short. written_parsed limit constant literal written short

pub returns-clause-no_other : goal.returns-clause-no_other
returns-clause-no_other c = λ limit constant literal written tokens parsed lexed derived.
    only_same_value limit constant literal written tokens parsed lexed derived
