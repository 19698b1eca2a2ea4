-- V15, Fragment Spread Target Defined: a spread names no fragment (GraphQL 5.5.2.1).
-- Reported at the name in the spread, about the name.
use Rattle.std.specs.Prelude.{List, [], ◌∷◌, Option, Some, None}
use Rattle.gql_ast.specs.declared.executable.Spread.{Spread}
use Rattle.gql_ast.specs.declared.fault.Fault.{Fault}
use Rattle.gql_ast.specs.declared.fault.FilePlace.{FilePlace}
use Rattle.gql_ast.specs.declared.rule.Rule.TheVariants as rule
use Rattle.gql_facts.specs.Worlds.{Facts}
use Rattle.gql_facts.specs.declared.fact.FragmentFact.{FragmentFact}
use Rattle.gql_rules.specs.Answers.{fragment_of}
use Rattle.gql_rules.specs.Faults.{fault_of}

-- the fault of a spread, by the fragment of its name
abbrev pub faults_by : FilePlace → Spread → Option FragmentFact → List Fault
faults_by owner x None = fault_of owner rule.V15 x.name ∷ []
faults_by owner x (Some g) = []

-- the fault of a spread
abbrev pub faults : Facts → FilePlace → Spread → List Fault
faults facts owner x = faults_by owner x (fragment_of facts x.name.text)
