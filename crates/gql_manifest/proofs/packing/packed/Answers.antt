use Rattle.std.proofs.Common.{arith, rules}
use Rattle.gql_manifest.proofs.PackedSteps.{packs_end_all, packs_last_all, packs_step}
use Rattle.gql_manifest.proofs.packing.packed.Goals as goal

pub loop-piece-preserved : goal.loop-piece-preserved
loop-piece-preserved c = search (rules, packs_step)

pub returns-then-is_empty : goal.returns-then-is_empty
returns-then-is_empty c = packs_end_all c.args.most c.args.pieces.now c.loop-piece.piece-index c.loop-piece.texts.items c.loop-piece.text c.loop-piece.invariant (omega arith) (search rules)

pub returns : goal.returns
returns c =
    packs_last_all c.args.most c.args.pieces.now c.loop-piece.piece-index c.loop-piece.texts.items c.push-2.new.self.items c.loop-piece.text c.loop-piece.invariant (omega arith) (search rules)
    (search rules)
