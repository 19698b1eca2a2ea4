use Rattle.std.proofs.Common.{take}
use Rattle.gql_manifest.specs.Packing.{pieces_of, texts_of}
use Rattle.gql_manifest.proofs.PackedSteps.{Packs}
use Rattle.gql_manifest.proofs.packing.packed.Given as goal

abbrev pub invariant-loop-piece : goal.invariant-loop-piece
invariant-loop-piece l = Packs l.most (pieces_of (take l.piece-index l.pieces)) (texts_of l.texts.items) l.text.items
