use Rattle.std.proofs.Common.{string_bytes}
use Rattle.std.proofs.lemmas.Result.{IfOk-weaker}
use Rattle.gql_manifest.proofs.FileSteps.{next_path}
use Rattle.gql_manifest.proofs.files.path_of.Goals as goal

pub returns : goal.returns
returns c = IfOk-weaker c.format.result _ _ (λ path is. next_path c.args.stem.now c.args.at (string_bytes path) c.if-at-eq0.false is) c.format.ensures.ok
