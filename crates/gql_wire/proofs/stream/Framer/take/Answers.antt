use Rattle.std.proofs.Common.{arith, length-drop, ◌≡◌, take, ◌++◌, ◌∙◌}
use Rattle.std.proofs.lemmas.List.{take_all}
use Rattle.gql_wire.proofs.Splitting.{unskipped}
use Rattle.gql_wire.proofs.Streams.{more_skipped, more_requested}
use Rattle.gql_wire.proofs.stream.Framer.take.Goals as goal

pub returns-in-Some-clause-framed : goal.returns-in-Some-clause-framed
returns-in-Some-clause-framed c =
    let found = rw (c.in-Some.is, c.rest_from.ensures, c.parts.invariant.limit) at c.in_ok-count.ensures.found in
    (found.0, more_requested c.args.self.now.bytes c.parts.self.bytes c.args.piece.now c.parts.taken c.in_ok-count.count _ c.parts.invariant.same found.1)

pub parts-preserved : goal.parts-preserved
parts-preserved c = record {
  within = omega (arith, rw c.rest_from.ensures at c.in_ok-count.ensures.within.1, length-drop c.parts.taken c.args.piece.now);
  limit = c.in_ok-count.ensures.limit ∙ c.parts.invariant.limit;
  same = more_skipped c.args.self.now.bytes c.parts.self.bytes c.step.new.self.bytes c.args.piece.now c.parts.taken c.in_ok-count.count c.parts.invariant.same (rw (c.in_default.is, c.rest_from.ensures) at c.in_ok-count.ensures.found);
}

pub returns-clause-none : goal.returns-clause-none
returns-clause-none c =
    let all : take c.parts.taken c.args.piece.now ≡ c.args.piece.now = take_all c.parts.taken c.args.piece.now c.parts-test.false in
    unskipped (c.args.self.now.bytes ++ c.args.piece.now) (rw (c.parts.invariant.limit, c.parts.invariant.same, all) at c.touch-2.ensures.unfinished)
