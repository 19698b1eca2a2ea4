-- The operations that are not served.
use Rattle.std.specs.Prelude.{ℕ, ◌≡◌, List, [], ◌∷◌, ◌++◌, Bool, true, false, Option, Some, None}
use Rattle.gql_ast.specs.declared.definition.Definition.{Definition}
use Rattle.gql_ast.specs.declared.definition.Tree.TheVariants as tree
use Rattle.gql_ast.specs.declared.executable.Operation.{Operation}
use Rattle.gql_found.specs.Owners.{name_of}
use Rattle.gql_found.specs.Spots.{spot_of, start_of}
use Rattle.gql_facts.specs.Reads.{Reaches}
use Rattle.gql_facts.specs.Worlds.{Facts}
use Rattle.gql_facts.specs.declared.fact.FragmentFact.{FragmentFact}
use Rattle.gql_findings.specs.declared.finding.Affected.{Affected}
use Rattle.gql_found.specs.declared.sources.Sources.{Sources}

-- the definition of a fragment
abbrev pub definition_of : FragmentFact → Definition
definition_of g = record { file = g.file; tree = tree.Fragment g.fragment }

-- What keeps a definition from being served, where `owns` says which definitions own faults: a
-- fault of its own, or else one of a fragment that it reaches, which has this name.
pub data Breaks (facts : Facts) (owns : Definition → Bool) (d : Definition) : Option (List ℕ)
    → Type 0 where
  own : owns d ≡ true → Breaks facts owns d None
  through : {g : FragmentFact} → owns d ≡ false → Reaches facts d g
      → owns (definition_of g) ≡ true → Breaks facts owns d (Some g.fragment.name.text)

-- an operation that is not served: its kind and name, where it starts, and through which fragment
pub record IsAffected (s : Sources) (facts : Facts) (owns : Definition → Bool) (d : Definition)
    (a : Affected) : Type 0 where
  pub operation : Operation
  pub is : d.tree ≡ tree.Operation operation
  pub breaks : Breaks facts owns d a.through
  pub kind : a.kind ≡ operation.kind
  pub name : a.name ≡ name_of operation
  pub spot : a.spot ≡ spot_of s (start_of d)

-- the definition is not an operation, or nothing keeps it from being served
abbrev pub IsLeftOut : Facts → (Definition → Bool) → Definition → Type 0
IsLeftOut facts owns d = (o : Operation) (through : Option (List ℕ)) → d.tree ≡ tree.Operation o
    → Breaks facts owns d through → ⊥

-- these are the operations among the definitions that are not served, in their order
pub data AreAffected (s : Sources) (facts : Facts) (owns : Definition → Bool) : List Definition
    → List Affected → Type 0 where
  none : AreAffected s facts owns [] []
  listed : {ds : List Definition} {fs : List Affected} (d : Definition) (a : Affected)
      → AreAffected s facts owns ds fs → IsAffected s facts owns d a
      → AreAffected s facts owns (ds ++ d ∷ []) (fs ++ a ∷ [])
  left_out : {ds : List Definition} {fs : List Affected} (d : Definition)
      → AreAffected s facts owns ds fs → IsLeftOut facts owns d
      → AreAffected s facts owns (ds ++ d ∷ []) fs
