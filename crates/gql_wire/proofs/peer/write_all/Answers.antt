use Rattle.std.proofs.Common.{arith, ◌-◌, ◌∙◌, length, length-take, length-drop, drop}
use Rattle.gql_wire.proofs.Passages.{sends_next, sends_front}
use Rattle.gql_wire.proofs.peer.write_all.Goals as goal

pub writes-preserved : goal.writes-preserved
writes-preserved g c = record {
  within = omega (arith, c.in-Ok.ensures.within, length-take (length c.args.bytes.now - c.writes.done) (drop c.writes.done c.args.bytes.now), length-drop c.writes.done c.args.bytes.now);
  sent = sends_next _ _ _ c.args.bytes.now c.writes.done c.in-Ok.count c.writes.invariant.sent c.in-Ok.ensures.sent;
  failed = c.in-Ok.ensures.failed ∙ c.writes.invariant.failed;
  reads = c.in-Ok.ensures.others.0 ∙ c.writes.invariant.reads;
  read_failures = c.in-Ok.ensures.others.1 ∙ c.writes.invariant.read_failures;
  ended = c.in-Ok.ensures.others.2 ∙ c.writes.invariant.ended;
}

pub returns-in_default-clause-err : goal.returns-in_default-clause-err
returns-in_default-clause-err g c = sends_front _ _ _ c.writes.done c.args.bytes.now c.writes.invariant.sent c.in_default.ensures.none
