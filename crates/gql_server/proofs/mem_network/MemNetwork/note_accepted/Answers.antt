use Rattle.gql_server.proofs.Remembering.{known_accepts, known_lost}
use Rattle.gql_server.specs.MemNetwork.{new_line}
use Rattle.gql_server.specs.Traffic.{accepts}
use Rattle.gql_server.proofs.mem_network.MemNetwork.note_accepted.Goals as goal

pub returns-in_default : goal.returns-in_default
returns-in_default c =
    known_lost c.args.self.now.is_whole c.args.self.now.accepted.items c.args.self.now.returned.items c.args.self.now.reports.items (accepts new_line)

pub returns : goal.returns
returns c =
    known_accepts c.args.self.now.is_whole _ _ _ c.args.self.now.returned.items c.args.self.now.reports.items c.in-Ok.ensures.items
