use Rattle.gql_server.proofs.Remembering.{known_lost, known_returns}
use Rattle.gql_server.specs.MemNetwork.{line_in}
use Rattle.gql_server.specs.Traffic as traffic
use Rattle.gql_server.proofs.mem_network.MemNetwork.note_returned.Goals as goal

pub returns-in_default : goal.returns-in_default
returns-in_default c =
    known_lost c.args.self.now.is_whole c.args.self.now.accepted.items c.args.self.now.returned.items c.args.self.now.reports.items (traffic.returns (line_in c.args.socket))

pub returns : goal.returns
returns c =
    known_returns c.args.self.now.is_whole c.args.self.now.accepted.items _ _ _ c.args.self.now.reports.items c.in-Ok.ensures.items
