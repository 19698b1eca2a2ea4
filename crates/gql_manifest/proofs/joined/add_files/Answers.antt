use Rattle.std.proofs.Common.{List, subst}
use Rattle.gql_folder.specs.declared.folder.GivenFile.{GivenFile}
use Rattle.gql_manifest.specs.Joining.{AreApart}
use Rattle.gql_manifest.specs.declared.files.MadeFile.{MadeFile}
use Rattle.gql_manifest.proofs.joined.add_files.Goals as goal

pub returns-clause-apart : goal.returns-clause-apart
returns-clause-apart c =
    subst (λ (fs : List GivenFile). AreApart c.args.most fs c.args.made.items) c.as_slice-2.ensures.value
    (subst (λ (ms : List MadeFile). AreApart c.args.most c.as_slice-2.result.now ms) c.as_slice.ensures.value c.in_ok-stay_apart.ensures.apart)
