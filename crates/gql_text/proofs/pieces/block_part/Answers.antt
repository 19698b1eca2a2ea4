use Rattle.std.proofs.Common.{arith, ◌+◌, drop, length-drop, drop-drop, sym}
use Rattle.gql_text.specs.Pieces.{block_piece}
use Rattle.gql_text.specs.declared.token.Kind.TheVariants.{BlockString}
use Rattle.gql_text.proofs.Runs.{IsStep, block_goes, run_closes, run_stops, run_goes, seen}
use Rattle.gql_text.proofs.Simple.{past_simple, block_simple}
use Rattle.gql_text.proofs.Fitting.{block_closes}
use Rattle.gql_text.proofs.pieces.block_part.Goals.{In-Goes}
use Rattle.gql_text.proofs.pieces.block_part.Goals as goal

step : (c : In-Goes) → IsStep c.in-Goes.count (drop (c.pieces.read + c.simple_len-read.result) c.args.bytes.now)
step c = block_goes _ _ (sym (seen block_piece c.args.bytes.now (c.pieces.read + c.simple_len-read.result) _ c.in-Goes.ensures))

pub overflow_add-read-in-Goes : goal.overflow_add-read-in-Goes
overflow_add-read-in-Goes c = omega (arith, (step c).within, length-drop (c.pieces.read + c.simple_len-read.result) c.args.bytes.now)

pub overflow_add-result-in-Closes : goal.overflow_add-result-in-Closes
overflow_add-result-in-Closes c =
    omega (arith, block_closes _ _ (sym (seen block_piece c.args.bytes.now (c.pieces.read + c.simple_len-read.result) _ c.in-Closes.ensures)), length-drop (c.pieces.read + c.simple_len-read.result) c.args.bytes.now)

pub pieces-smaller : goal.pieces-smaller
pieces-smaller c = omega (arith, (step c).some, (step c).within, length-drop (c.pieces.read + c.simple_len-read.result) c.args.bytes.now)

pub pieces-preserved : goal.pieces-preserved
pieces-preserved c = record {
  within = omega (arith, (step c).within, length-drop (c.pieces.read + c.simple_len-read.result) c.args.bytes.now);
  run = λ p r.
      let after = run_goes block_piece BlockString _ _ _ _ _ p (seen block_piece c.args.bytes.now (c.pieces.read + c.simple_len-read.result) _ c.in-Goes.ensures) (omega arith) (sym (drop-drop c.in-Goes.count (c.pieces.read + c.simple_len-read.result) c.args.bytes.now)) r in
      c.pieces.invariant.run p (past_simple block_piece block_simple BlockString c.args.bytes.now 3 c.pieces.read c.simple_len-read.result p c.simple_len-read.ensures.value after);
}

pub returns-in-Closes : goal.returns-in-Closes
returns-in-Closes c =
    let after = run_closes block_piece BlockString _ _ _ _ (seen block_piece c.args.bytes.now (c.pieces.read + c.simple_len-read.result) _ c.in-Closes.ensures) (omega arith) in
    c.pieces.invariant.run _ (past_simple block_piece block_simple BlockString c.args.bytes.now 3 c.pieces.read c.simple_len-read.result _ c.simple_len-read.ensures.value after)

pub returns-in-Stops : goal.returns-in-Stops
returns-in-Stops c =
    let after = run_stops block_piece BlockString _ _ _ _ (seen block_piece c.args.bytes.now (c.pieces.read + c.simple_len-read.result) _ c.in-Stops.ensures) c.refusal_offset.ensures in
    c.pieces.invariant.run _ (past_simple block_piece block_simple BlockString c.args.bytes.now 3 c.pieces.read c.simple_len-read.result _ c.simple_len-read.ensures.value after)
