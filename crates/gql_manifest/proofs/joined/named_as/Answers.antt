use Rattle.std.proofs.Common.{◌∙◌, sym}
use Rattle.gql_manifest.proofs.JoinedSteps.{free, named}
use Rattle.gql_manifest.proofs.joined.named_as.Goals as goal

pub returns-in-Some : goal.returns-in-Some
returns-in-Some c = named c.args.most c.args.files.now c.args.names.now c.args.path.now c.in-Some.at c.file_at.result c.requires (sym c.in_ok-found.ensures ∙ c.in-Some.is) c.file_at.ensures

pub returns-in-None : goal.returns-in-None
returns-in-None c = free c.args.most c.args.files.now c.args.names.now c.args.path.now c.requires (sym c.in_ok-found.ensures ∙ c.in-None.is)
