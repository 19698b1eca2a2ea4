use Rattle.std.proofs.Common.{◌≡◌, drop}
use Rattle.std.specs.List.{list_any}
use Rattle.gql_intro.specs.References.{field_refers}
use Rattle.gql_intro.proofs.references.fields_refer.Given as goal

abbrev pub invariant-loop-field : goal.invariant-loop-field
invariant-loop-field l = list_any (field_refers l.name) l.fields ≡ list_any (field_refers l.name) (drop l.field-index l.fields)
