use Rattle.std.proofs.Common.{take}
use Rattle.std.specs.List.{All}
use Rattle.gql_iface_rules.specs.S19Plain.{NeedsNone}
use Rattle.gql_iface_rules.proofs.s19_plain.may_any_need.Given as goal

abbrev pub invariant-loop-field : goal.invariant-loop-field
invariant-loop-field l = All NeedsNone (take l.field-index l.fields)
