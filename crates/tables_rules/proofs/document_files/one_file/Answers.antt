use Rattle.std.proofs.Common.{[], ◌≡◌, ap, sym, subst, ◌∙◌}
use Rattle.gql_ast.specs.FileMaps.{with_file}
use Rattle.gql_ast.specs.declared.files.Files.{Files}
use Rattle.gql_verdict.specs.FileOrder.{AreFilesPlaced}
use Rattle.tables_rules.proofs.OneFile as lemmas
use Rattle.tables_rules.proofs.document_files.one_file.Goals as goal

pub returns : goal.returns
returns c =
    let is : c.put.new.self ≡ with_file [] c.args.name c.args.document = c.in_ok-put.ensures.ok ∙ ap (λ (f : Files). with_file f.documents c.args.name c.args.document) c.new-files.ensures in
    subst AreFilesPlaced (sym is) (lemmas.one_file c.args.name c.args.document c.requires)
