use Rattle.std.proofs.Common.{◌≡◌}
use Rattle.std.specs.List.{list_any}
use Rattle.gql_intro.specs.References.{file_refers}
use Rattle.gql_intro.proofs.references.refer.Given as goal

abbrev pub invariant-loop-file : goal.invariant-loop-file
invariant-loop-file l = list_any (file_refers l.name) l.files ≡ list_any (file_refers l.name) l._file-iterator
