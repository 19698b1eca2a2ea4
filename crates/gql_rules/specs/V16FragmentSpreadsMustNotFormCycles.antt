-- V16, Fragment Spreads Must Not Form Cycles: a fragment spreads itself (GraphQL 5.5.2.2). It does
-- so in its own selection set, or in a fragment that it reaches by its spreads.
-- Reported at the fragment's name, about the fragment.
use Rattle.std.specs.Prelude.{Option, Some, None}
use Rattle.gql_ast.specs.declared.definition.Definition.{Definition}
use Rattle.gql_ast.specs.declared.definition.Tree.{Tree}
use Rattle.gql_ast.specs.declared.definition.Tree.TheVariants as tree
use Rattle.gql_ast.specs.declared.executable.Fragment.{Fragment}
use Rattle.gql_ast.specs.declared.fault.Fault.{Fault}
use Rattle.gql_ast.specs.declared.fault.FilePlace.{FilePlace}
use Rattle.gql_ast.specs.declared.rule.Rule.TheVariants as rule
use Rattle.gql_facts.specs.Reads.{Reaches}
use Rattle.gql_facts.specs.Worlds.{Facts}
use Rattle.gql_facts.specs.declared.fact.FragmentFact.{FragmentFact}
use Rattle.gql_rules.specs.Faults.{fault_of}

-- the fragment that a definition is
abbrev pub own_fragment : Tree → Option Fragment
own_fragment (tree.Fragment f) = Some f
own_fragment _ = None

-- the fragment, as a world answers with it
abbrev pub own_fact : Definition → Fragment → FragmentFact
own_fact d f = record { file = d.file; fragment = f }

-- the fragment of a definition reaches itself
abbrev pub IsCyclic : Facts → Definition → Fragment → Type 0
IsCyclic facts d f = Reaches facts d (own_fact d f)

-- the fault of a fragment that reaches itself
abbrev pub fault : FilePlace → Fragment → Fault
fault owner f = fault_of owner rule.V16 f.name
