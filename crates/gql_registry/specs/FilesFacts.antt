-- What the rules may ask of files, as it is kept.
use Rattle.std.specs.Prelude.{◌≡◌}
use Rattle.gql_ast.specs.declared.files.Files.{Files}
use Rattle.gql_facts.specs.Facts.{fragments}
use Rattle.gql_registry.specs.Keeping.{AreFactsOf}
use Rattle.gql_registry.specs.declared.facts.FilesFacts.{FilesFacts}

-- these are the facts of the schema of the files, and the fragments of their documents
pub record AreFilesFacts (files : Files) (f : FilesFacts) : Type 0 where
  pub schema : AreFactsOf files f.schema.facts
  pub fragments_are : f.fragments.all ≡ fragments files.documents
