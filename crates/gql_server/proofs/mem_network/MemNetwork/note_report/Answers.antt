use Rattle.gql_server.proofs.Remembering.{known_lost, known_reports}
use Rattle.gql_server.specs.Traffic.{reports_one}
use Rattle.gql_server.proofs.mem_network.MemNetwork.note_report.Goals as goal

pub returns-in_default : goal.returns-in_default
returns-in_default c =
    known_lost c.args.self.now.is_whole c.args.self.now.accepted.items c.args.self.now.returned.items c.args.self.now.reports.items (reports_one c.args.report)

pub returns : goal.returns
returns c =
    known_reports c.args.self.now.is_whole c.args.self.now.accepted.items c.args.self.now.returned.items _ _ _ c.in-Ok.ensures.items
