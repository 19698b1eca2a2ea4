use Rattle.std.proofs.Common.{map, take}
use Rattle.gql_verdict.specs.DocumentEdits.{name_of}
use Rattle.gql_verdict.specs.NewNames.{HaveNewNames}
use Rattle.gql_verdict.proofs.new_names.have_new_names.Given as goal

abbrev pub invariant-loop-definition : goal.invariant-loop-definition
invariant-loop-definition g l = HaveNewNames (g.O.NameSet.names l.operations) (map name_of l.fragments.all)
    (take l.definition-index l.definitions)
