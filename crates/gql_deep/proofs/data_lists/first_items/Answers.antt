use Rattle.std.proofs.Common.{arith}
use Rattle.gql_deep.proofs.FirstItems.{first_left, first_stopped, first_written}
use Rattle.gql_deep.proofs.data_lists.first_items.Goals as goal

pub returns-clause-written : goal.returns-clause-written
returns-clause-written c = first_written c.args.frame.now _ c.args.run.now c.write_direct_items.new.run (omega (arith, c.if-frame-gt0.false)) c.as_items.ensures c.write_direct_items.result c.write_direct_items.ensures.written

pub returns-clause-left : goal.returns-clause-left
returns-clause-left c = first_left c.args.frame.now _ c.args.run.now c.write_direct_items.new.run (omega (arith, c.if-frame-gt0.false)) c.as_items.ensures c.write_direct_items.result c.write_direct_items.ensures.written

pub returns-clause-stops : goal.returns-clause-stops
returns-clause-stops c = first_stopped c.args.frame.now _ c.args.run.now c.write_direct_items.new.run (omega (arith, c.if-frame-gt0.false)) c.as_items.ensures c.write_direct_items.result c.write_direct_items.ensures.stops
