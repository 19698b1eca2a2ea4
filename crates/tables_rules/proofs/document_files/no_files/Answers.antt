use Rattle.std.proofs.Common.{sym, subst}
use Rattle.gql_ast.specs.declared.files.Files.{Files}
use Rattle.gql_verdict.specs.FileOrder.{AreFilesPlaced}
use Rattle.tables_rules.proofs.OneFile as lemmas
use Rattle.tables_rules.proofs.document_files.no_files.Goals as goal

pub returns : goal.returns
returns c = subst (λ (f : Files). AreFilesPlaced f.documents) (sym c.new.ensures) lemmas.no_file
