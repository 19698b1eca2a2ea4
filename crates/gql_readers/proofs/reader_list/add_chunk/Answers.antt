use Rattle.std.proofs.Common.{◌∙◌, ◌++◌, ap}
use Rattle.gql_readers.specs.Chunks.{joined}
use Rattle.gql_readers.proofs.Chunking.{joined_push}
use Rattle.gql_readers.proofs.reader_list.add_chunk.Goals as goal

pub returns : goal.returns
returns c = ap joined c.in_ok-push.ensures.items ∙ joined_push c.args.all.now.items c.in_ok-new.field-0 ∙ ap (λ zs. joined c.args.all.now.items ++ zs) (c.in_ok-new.ensures ∙ c.from_vec.ensures)
