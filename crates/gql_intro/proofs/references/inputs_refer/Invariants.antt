use Rattle.std.proofs.Common.{◌≡◌, drop}
use Rattle.std.specs.List.{list_any}
use Rattle.gql_intro.specs.References.{input_refers}
use Rattle.gql_intro.proofs.references.inputs_refer.Given as goal

abbrev pub invariant-loop-input : goal.invariant-loop-input
invariant-loop-input l = list_any (input_refers l.name) l.inputs ≡ list_any (input_refers l.name) (drop l.input-index l.inputs)
