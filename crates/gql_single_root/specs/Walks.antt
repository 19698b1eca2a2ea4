-- Helper definitions for private contracts: root fields in lists, and what a walk through fragments
-- has met so far.
use Rattle.std.specs.Prelude.{◌≡◌, ◌⊎◌, ◌≤◌, ◌≢◌, ◌||◌, ℕ, List, [], ◌∷◌, ◌++◌, Bool, true, map, take, length, nat_eq, Option, Some, None, Contains, if◌then◌else◌}
use Rattle.std.specs.List.{slice_get}
use Rattle.indexmap.specs.IndexSet.{insert_key}
use Rattle.gql_ast.specs.declared.executable.Field.{Field}
use Rattle.gql_ast.specs.declared.executable.Operation.{Operation}
use Rattle.gql_ast.specs.declared.executable.Selection.{Selection}
use Rattle.gql_ast.specs.declared.executable.Selection.TheVariants as selection
use Rattle.gql_ast.specs.declared.executable.Spread.{Spread}
use Rattle.gql_facts.specs.Worlds.{Facts}
use Rattle.gql_facts.specs.declared.fact.Fact.TheVariants as fact
use Rattle.gql_facts.specs.declared.fact.FragmentFact.{FragmentFact}
use Rattle.gql_facts.specs.declared.key.Key.TheVariants as key
use Rattle.gql_single_root.specs.declared.fault.RootFault.{RootFault}
use Rattle.gql_single_root.specs.declared.walk.RootField.{RootField}
use Rattle.gql_single_root.specs.declared.walk.Walk.{Walk}
use Rattle.gql_single_root.specs.RootSelections.{IsAtRootOf}
use Rattle.gql_single_root.specs.V30SingleRootField.{AtRoot, is_possible, response_name, is_introspection, fault_of, fault_of_none}

-- ---- root fields

-- a field, and the file that it is in
pub record Found : Type 0 where
  pub at : List ℕ
  pub field : Field

-- a borrowed field, as specifications see it
abbrev pub found_of : RootField → Found
found_of x = record { at = x.file.now; field = x.field.now }

-- a field of this file
abbrev pub in_file : List ℕ → Field → Found
in_file file f = record { at = file; field = f }

-- a root field of a selection set in this file
abbrev pub IsRootField : Facts → List ℕ → List ℕ → List Selection → Found → Type 0
IsRootField facts root file set x = AtRoot facts root file set x.at x.field

-- the response name of a field
abbrev pub name_of : Found → List ℕ
name_of x = (response_name x.field).text

-- two of these fields have different response names
abbrev pub AreSeveral : List Found → Type 0
AreSeveral xs = (x y : Found) × Contains xs x × Contains xs y × (name_of x ≢ name_of y)

-- the fault of a field, if there are several response names or it is an introspection field
abbrev pub field_faults : Bool → Found → List RootFault
field_faults are_several x =
    if are_several || is_introspection x.field then fault_of x.at x.field ∷ [] else []

-- ---- places of fragments

-- the name of a fragment
abbrev pub fragment_name : FragmentFact → List ℕ
fragment_name g = g.fragment.name.text

-- the place of the fragment of this name, or none if none of those seen has it
abbrev pub IsPlaceAt : List FragmentFact → List FragmentFact → List ℕ → Option ℕ → Type 0
IsPlaceAt members seen n None = (g : FragmentFact) → Contains seen g → fragment_name g ≡ n → ⊥
IsPlaceAt members seen n (Some i) =
    (g : FragmentFact) × (slice_get members i ≡ Some g) × (fragment_name g ≡ n)

-- the place of each name
abbrev pub ArePlaces : List FragmentFact → List FragmentFact → (List ℕ → Option ℕ) → Type 0
ArePlaces members seen place = (n : List ℕ) → IsPlaceAt members seen n (place n)

-- the places with this one, if there is one
abbrev pub with_place : List ℕ → Option ℕ → List ℕ
with_place places None = places
with_place places (Some i) = insert_key nat_eq places i

-- ---- what a walk takes

-- Of the selections that satisfy P, in this file, the fields were added, and the places of the
-- fragments that the spreads name. Places that were there stay where they are.
pub record Takes (place : List ℕ → Option ℕ) (file : List ℕ) (P : Selection → Type 0)
    (old new : Walk) : Type 0 where
  pub more : List ℕ
  pub grown : new.entered.keys ≡ old.entered.keys ++ more
  pub named : (i : ℕ) → Contains more i
      → (x : Spread) × P (selection.Spread x) × (place x.name.text ≡ Some i)
  pub enters : (x : Spread) (i : ℕ) → P (selection.Spread x) → place x.name.text ≡ Some i
      → Contains new.entered.keys i
  pub kept : (y : Found) → Contains (map found_of old.fields.items) y
      → Contains (map found_of new.fields.items) y
  pub has : (f : Field) → P (selection.Field f)
      → Contains (map found_of new.fields.items) (in_file file f)
  pub from : (y : Found) → Contains (map found_of new.fields.items) y
      → Contains (map found_of old.fields.items) y
      ⊎ ((f : Field) × P (selection.Field f) × (y ≡ in_file file f))

-- what is at the root of a fragment whose condition applies
abbrev pub IsAtRootOfFragment : Facts → List ℕ → FragmentFact → Selection → Type 0
IsAtRootOfFragment facts root g y =
    (is_possible facts root g.fragment.condition.text ≡ true)
    × IsAtRootOf facts root g.fragment.selections y

-- ---- fragments that are spread at the root

-- the fragments that a selection set spreads at its root, in any number of steps
pub data Spreads (facts : Facts) (root : List ℕ) (set : List Selection)
    : FragmentFact → Type 0 where
  by_set : {x : Spread} {g : FragmentFact} → IsAtRootOf facts root set (selection.Spread x)
      → facts (key.FragmentOf x.name.text) ≡ fact.Fragment g → Spreads facts root set g
  by_fragment : {h g : FragmentFact} {x : Spread} → Spreads facts root set h
      → IsAtRootOfFragment facts root h (selection.Spread x)
      → facts (key.FragmentOf x.name.text) ≡ fact.Fragment g → Spreads facts root set g

-- all of them are among these, each of which is the fragment of its name
pub record HasAll (facts : Facts) (root : List ℕ) (set : List Selection)
    (members : List FragmentFact) : Type 0 where
  pub spread : (g : FragmentFact) → Spreads facts root set g → Contains members g
  pub own : (g : FragmentFact) → Contains members g
      → facts (key.FragmentOf (fragment_name g)) ≡ fact.Fragment g
  pub named : (n : List ℕ) (g : FragmentFact) → facts (key.FragmentOf n) ≡ fact.Fragment g
      → fragment_name g ≡ n

-- ---- a walk

-- the place of this fragment is among these
abbrev pub HasPlace : List FragmentFact → List ℕ → FragmentFact → Type 0
HasPlace members places g = (i : ℕ) × Contains places i × (slice_get members i ≡ Some g)

-- a field at the root of the set itself, or of a fragment that it spreads
abbrev pub IsMet : Facts → List ℕ → List ℕ → List Selection → Found → Type 0
IsMet facts root file set y =
    ((f : Field) × IsAtRootOf facts root set (selection.Field f) × (y ≡ in_file file f))
    ⊎ ((g : FragmentFact) × (f : Field) × Spreads facts root set g
    × IsAtRootOfFragment facts root g (selection.Field f) × (y ≡ in_file g.file f))

-- What a walk has done: what is at the root of the set was taken, and what is at the root of the
-- fragments at the first `at` places.
pub record IsWalked (facts : Facts) (root file : List ℕ) (set : List Selection)
    (members : List FragmentFact) (at : ℕ) (walk : Walk) : Type 0 where
  pub within : at ≤ length walk.entered.keys
  pub spread : (i : ℕ) → Contains walk.entered.keys i
      → (g : FragmentFact) × (slice_get members i ≡ Some g) × Spreads facts root set g
  pub own_spreads : (x : Spread) (g : FragmentFact)
      → IsAtRootOf facts root set (selection.Spread x)
      → facts (key.FragmentOf x.name.text) ≡ fact.Fragment g
      → HasPlace members walk.entered.keys g
  pub spreads : (i : ℕ) (h g : FragmentFact) (x : Spread) → Contains (take at walk.entered.keys) i
      → slice_get members i ≡ Some h → IsAtRootOfFragment facts root h (selection.Spread x)
      → facts (key.FragmentOf x.name.text) ≡ fact.Fragment g
      → HasPlace members walk.entered.keys g
  pub met : (y : Found) → Contains (map found_of walk.fields.items) y
      → IsMet facts root file set y
  pub own_fields : (f : Field) → IsAtRootOf facts root set (selection.Field f)
      → Contains (map found_of walk.fields.items) (in_file file f)
  pub fields : (i : ℕ) (h : FragmentFact) (f : Field) → Contains (take at walk.entered.keys) i
      → slice_get members i ≡ Some h → IsAtRootOfFragment facts root h (selection.Field f)
      → Contains (map found_of walk.fields.items) (in_file h.file f)

-- ---- faults

-- the faults of an operation of this file with these root fields
pub data IsFaultOf (fields : List RootField) (file : List ℕ) (o : Operation)
    : RootFault → Type 0 where
  several : {x : Found} → Contains (map found_of fields) x → AreSeveral (map found_of fields)
      → IsFaultOf fields file o (fault_of x.at x.field)
  introspection : {x : Found} → Contains (map found_of fields) x
      → is_introspection x.field ≡ true → IsFaultOf fields file o (fault_of x.at x.field)
  none : ((x : Found) → Contains (map found_of fields) x → ⊥)
      → IsFaultOf fields file o (fault_of_none file o)
