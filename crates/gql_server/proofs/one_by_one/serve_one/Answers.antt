use Rattle.gql_server.proofs.Adding.{adds_from, adds_until}
use Rattle.gql_server.proofs.one_by_one.serve_one.Goals as goal

pub returns-clause-served : goal.returns-clause-served
returns-clause-served g c =
    let exchange = c.pipe-ended.ensures.exchange in (
      _,
      _,
      adds_until _ _ _ _ c.in-Ok.ensures.handed c.take_back.ensures.kept.0,
      adds_from _ _ _ _ c.in-Ok.ensures.kept c.take_back.ensures.taken,
      record {
        passed = exchange.0;
        result = c.pipe-ended.result;
        passes = exchange.1;
        exchange = exchange.2;
        reads = c.pipe-ended.ensures.read_failures;
        writes = c.pipe-ended.ensures.write_failures;
      },
    )
