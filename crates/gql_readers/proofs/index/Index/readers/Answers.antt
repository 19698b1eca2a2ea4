use Rattle.std.proofs.Common.{◌∙◌, sym}
use Rattle.gql_readers.proofs.Found.{readers_none, readers_some}
use Rattle.gql_readers.proofs.index.Index.readers.Goals as goal

pub returns-in-Some : goal.returns-in-Some
returns-in-Some c = λ rs index. c.readers.ensures ∙ readers_some c.args.self.now c.args.key.now c.in-Some.entry.now c.in-Some.ensures rs index

pub returns-in-None : goal.returns-in-None
returns-in-None c = λ rs index. sym (readers_none c.args.self.now c.args.key.now c.in-None.ensures rs index)
