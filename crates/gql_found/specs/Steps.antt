-- Helper definitions for private contracts: owners of faults, and what stands against operations.
use Rattle.std.specs.Prelude.{ℕ, ◌≡◌, List, [], ◌∷◌, ◌++◌, Bool, true, false, Contains, Option, Some, None}
use Rattle.std.specs.BTreeSet.{BTreeSet, contains}
use Rattle.std.specs.Ordering.{nat_cmp, ordering_then}
use Rattle.std.specs.declared.cmp.Ordering.{Ordering}
use Rattle.gql_ast.specs.FileMaps.{name_order}
use Rattle.gql_ast.specs.Trees as trees
use Rattle.gql_ast.specs.declared.definition.Definition.{Definition}
use Rattle.gql_ast.specs.declared.executable.Operation.{Operation}
use Rattle.gql_ast.specs.declared.fault.Fault.{Fault}
use Rattle.gql_ast.specs.declared.fault.FilePlace.{FilePlace}
use Rattle.gql_facts.specs.Worlds.{Facts}
use Rattle.gql_facts.specs.declared.fact.FragmentFact.{FragmentFact}
use Rattle.gql_findings.specs.declared.finding.Affected.{Affected}
use Rattle.gql_findings.specs.declared.finding.Spot.{Spot}
use Rattle.gql_found.specs.Affected.{AreAffected, Breaks, definition_of}
use Rattle.gql_found.specs.Owners.{is_at, is_owner, name_of}
use Rattle.gql_found.specs.declared.affected.Against.{Against}
use Rattle.gql_found.specs.declared.affected.Against.TheVariants.{Nothing, Own, Fragment}
use Rattle.gql_found.specs.declared.owners.Owners.{Owners}
use Rattle.gql_found.specs.declared.sources.Sources.{Sources}

-- ---- owners

-- what was found among these definitions at a place: one that starts there, or none if none does
abbrev pub IsFoundIn : List Definition → FilePlace → Option Definition → Type 0
IsFoundIn definitions p None = (d : Definition) → Contains definitions d → is_at p d ≡ true → ⊥
IsFoundIn definitions p (Some d) = Contains definitions d × (is_at p d ≡ true)

-- what a set has of a definition: its file, and its offset there
abbrev pub mark_of : Definition → List ℕ × ℕ
mark_of d = (d.file, (trees.place_of d.tree).offset)

-- the order of these
abbrev pub mark_order : List ℕ × ℕ → List ℕ × ℕ → Ordering
mark_order a b = ordering_then (name_order a.0 b.0) (nat_cmp a.1 b.1)

-- whether a set has a definition
abbrev pub is_marked : BTreeSet (List ℕ × ℕ) → Definition → Bool
is_marked marks d = contains mark_order marks (mark_of d)

-- whether a definition is one of these owners
abbrev pub owns : Owners → Definition → Bool
owns o d = is_marked o.marks d

-- these are the definitions that own faults
abbrev pub AreOwners : List Fault → Owners → Type 0
AreOwners faults o = (d : Definition) → owns o d ≡ is_owner faults d

-- ---- operations that are not served

-- what keeps the definition from being served
abbrev pub IsAgainst : Facts → (Definition → Bool) → Definition → Against → Type 0
IsAgainst facts owns d Nothing = (through : Option (List ℕ)) → Breaks facts owns d through → ⊥
IsAgainst facts owns d Own = Breaks facts owns d None
IsAgainst facts owns d (Fragment name) = Breaks facts owns d (Some name)

-- what keeps a definition from being served that owns no fault and reaches these fragments
abbrev pub IsAgainstBy : (Definition → Bool) → List FragmentFact → Against → Type 0
IsAgainstBy owns members Nothing = (g : FragmentFact) → Contains members g
    → owns (definition_of g) ≡ false
IsAgainstBy owns members Own = ⊥
IsAgainstBy owns members (Fragment name) = (g : FragmentFact) × Contains members g
    × (owns (definition_of g) ≡ true) × (name ≡ g.fragment.name.text)

-- an operation that is not served, by what stands against it
abbrev pub against_in : Operation → Spot → Against → List Affected
against_in o spot Nothing = []
against_in o spot Own = record {
  kind = o.kind;
  name = name_of o;
  spot = spot;
  through = None;
} ∷ []
against_in o spot (Fragment name) = record {
  kind = o.kind;
  name = name_of o;
  spot = spot;
  through = Some name;
} ∷ []

-- the operations of one definition more
abbrev pub AddsAffected : Sources → Facts → (Definition → Bool) → Definition → List Affected
    → List Affected → Type 0
AddsAffected s facts owns d old new = (ds : List Definition) → AreAffected s facts owns ds old
    → AreAffected s facts owns (ds ++ d ∷ []) new
