use Rattle.std.proofs.Common.{length}
use Rattle.gql_found.proofs.Lists.{ok_then}
use Rattle.gql_found.proofs.Names.{named_after}
use Rattle.gql_found.specs.Spots.{files_of}
use Rattle.gql_found.proofs.registry_files.add_file.Goals as goal

pub returns-clause-names : goal.returns-clause-names
returns-clause-names c =
    ok_then c.put_name.result c.put_name.ensures.names (λ named.
    named_after c.args.file.now.side c.args.file.now.name.now c.in_ok-copy.field-0 (length (files_of c.args.sources.now)) c.count-at.result
    c.args.sources.now c.push.new.self c.put_name.new.self c.in_ok-copy.ensures c.count-at.ensures c.in_ok-push.ensures.names named)
