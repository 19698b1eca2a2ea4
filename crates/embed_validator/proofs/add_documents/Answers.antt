use Rattle.embed_validator.proofs.add_documents.Goals as goal

pub loop-document-init : goal.loop-document-init
loop-document-init g c =
    let facts = g.W.World.facts c.args.world.now in
    record {
      can_next = search;
      is_finite = search;
      holds = c.new-shared.ensures.holds facts (c.new-pairs.ensures.holds facts);
    }
