use Rattle.std.proofs.Common.{◌<◌, subst, arith}
use Rattle.std.specs.Prelude.{IfSome}
use Rattle.gql_intro.specs.Borrowed.{elements, node_of}
use Rattle.gql_deep.specs.Frames.{NextIs}
use Rattle.gql_steps.specs.Objects.{basis}
use Rattle.gql_steps.proofs.Entries.{in_still}
use Rattle.gql_deep.proofs.Running.{node_pauses, node_stops, nodes_end, turns_stopped}
use Rattle.gql_deep.proofs.node_lists.run_nodes.Goals as goal

pub returns-in_ok-write_byte-in-None-clause-does : goal.returns-in_ok-write_byte-in-None-clause-does
returns-in_ok-write_byte-in-None-clause-does c = λ whole start at.
    let g = basis c.args.setting.now in
    let f = c.args.frame in
    nodes_end g c.args.table.now f whole start c.args.run.now at (subst (NextIs (elements g.given.schema f.nodes) f.passed) c.in-None.is c.next_node.ensures.is)
    c.write_byte.new.run c.in_ok-write_byte-in-None.ensures.follows

pub returns-in_ok-around-in-Some-clause-does : goal.returns-in_ok-around-in-Some-clause-does
returns-in_ok-around-in-Some-clause-does c = λ whole start at.
    let g = basis c.args.setting.now in
    let f = c.args.frame in
    let is = subst (NextIs (elements g.given.schema f.nodes) f.passed) c.in-Some.is c.next_node.ensures.is in
    node_pauses g c.args.table.now f whole start c.args.run.now at (node_of c.in-Some.node) c.in-Some.passed is
    c.begin_node.new.table c.in_ok-around-in-Some.around c.in_ok-around-in-Some.inner c.begin_node.new.run c.in_ok-around-in-Some.ensures.keeps.grows
    (c.in_ok-around-in-Some.ensures.does at.plan at.place at.asked)

pub returns-in_err-around-in-Some-clause-does : goal.returns-in_err-around-in-Some-clause-does
returns-in_err-around-in-Some-clause-does c = λ whole start at.
    let g = basis c.args.setting.now in
    let f = c.args.frame in
    let is = subst (NextIs (elements g.given.schema f.nodes) f.passed) c.in-Some.is c.next_node.ensures.is in
    turns_stopped g c.begin_node.new.table whole start c.from_residual.result c.in_err-around-in-Some.field-0.0 c.begin_node.new.run c.from_residual.ensures.1
    (λ heavy. node_stops g c.args.table.now f whole start c.args.run.now at (node_of c.in-Some.node) c.in-Some.passed is
    (c.in_err-around-in-Some.ensures.does at.plan at.place at.asked heavy))

pub returns-in_ok-around-in-Some-clause-keeps : goal.returns-in_ok-around-in-Some-clause-keeps
returns-in_ok-around-in-Some-clause-keeps c =
    let k = c.in_ok-around-in-Some.ensures.keeps in
    let later : c.args.frame.passed < c.in-Some.passed = subst (λ o. IfSome o (λ found. c.args.frame.passed < found.0)) c.in-Some.is c.next_node.ensures.later in
    record {
      right = k.right;
      grows = k.grows;
      left = k.left;
      fits = ((in_still c.args.table.now c.begin_node.new.table c.args.frame.slot k.grows c.requires.within, omega (arith, later, c.requires.no_more)), k.fits);
    }
