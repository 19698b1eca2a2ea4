use Rattle.gql_chunks.proofs.Editing.{chunked_after}
use Rattle.gql_chunks.proofs.edits.edit_chunks.Goals as goal

pub returns-clause-chunked : goal.returns-clause-chunked
returns-clause-chunked g c = chunked_after g.T.HasOrder.order g.met.T.HasOrder.total c.args.comes c.args.chunks.now c.in_ok-all.all.items c.args.changed.now c.requires.chunks c.requires.changed c.in_ok-all.ensures.items c.in_ok-all.ensures.full
