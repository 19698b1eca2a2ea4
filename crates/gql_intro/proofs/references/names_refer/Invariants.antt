use Rattle.std.proofs.Common.{◌≡◌, drop}
use Rattle.std.specs.List.{list_any}
use Rattle.gql_intro.specs.References.{is_named}
use Rattle.gql_intro.proofs.references.names_refer.Given as goal

abbrev pub invariant-loop-other : goal.invariant-loop-other
invariant-loop-other l = list_any (is_named l.name) l.names ≡ list_any (is_named l.name) (drop l.other-index l.names)
