use Rattle.std.proofs.Common.{◌≡◌, take}
use Rattle.gql_facts.specs.Facts.{input_facts}
use Rattle.gql_facts.proofs.schema_facts.input_facts.Given as goal

abbrev pub invariant-loop-field : goal.invariant-loop-field
invariant-loop-field l = l.facts.items ≡ input_facts (take l.field-index l.fields)
