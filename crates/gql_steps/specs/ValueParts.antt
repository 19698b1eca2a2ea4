-- Helper definitions for private contracts: what is written for the fields of an object, and for
-- values.
use Rattle.std.specs.Prelude.{◌≡◌, ℕ, ◌≤◌, List, [], ◌∷◌, ◌++◌, codes, map, flat_map, option_to_list, IsTrue, if◌then◌else◌, Option, Some, Result}
use Rattle.std.proofs.Common.{◌⊎◌}
use Rattle.std.specs.Borrow.{Bor}
use Rattle.json.specs.Print.{quoted}
use Rattle.gql_collect.specs.Borrowed.{all_selections}
use Rattle.gql_collect.specs.Nodes.{FileSelection}
use Rattle.gql_inputs.specs.InputTypes.{is_list, is_non_null}
use Rattle.gql_intro.specs.Borrowed.{elements}
use Rattle.gql_intro.specs.Nodes.{Node}
use Rattle.gql_intro.specs.declared.nodes.IntroNodes.{IntroNodes}
use Rattle.gql_types.specs.declared.schema.Schema.{Schema}
use Rattle.gql_text.specs.declared.place.Place.{Place}
use Rattle.gql_types.specs.Written.{Written}
use Rattle.gql_types.specs.declared.kind.TypeKind.{TypeKind}
use Rattle.gql_types.specs.declared.kind.TypeKind.TheVariants as kind
use Rattle.serde_json.specs.Data as json
use Rattle.serde_json.specs.Data.{Data}
use Rattle.serde_json.specs.View.{items_of, view}
use Rattle.serde_json.specs.declared.value.Value.{Value}
use Rattle.gql_steps.specs.Execution.{Object, PlannedField, Plan, Types, Site, by_source, complete, execute, on_answer, on_node, placed, value_of}
use Rattle.gql_steps.specs.Kinds.{kind_in}
use Rattle.gql_steps.specs.Parts.{Part, plain, followed_by, within, all, numbered, after_comma, counted, settled, caught}
use Rattle.gql_steps.specs.Plans.{Basis, IsPlan, types_of}
use Rattle.gql_steps.specs.Replies.{Path, key, index, Reply}
use Rattle.gql_steps.specs.States.{Executes}
use Rattle.gql_steps.specs.Tables.{IsRight, Grows, InTable, below_at}
use Rattle.gql_steps.specs.Texts.{value_part}
use Rattle.gql_steps.specs.declared.ended.Ended.{Ended}
use Rattle.gql_steps.specs.declared.items.DataItems.{DataItems}
use Rattle.gql_steps.specs.declared.items.DataItems.TheVariants as items
use Rattle.gql_steps.specs.declared.items.ListItems.{ListItems}
use Rattle.gql_steps.specs.declared.planning.FieldPlan.{FieldPlan}
use Rattle.gql_steps.specs.declared.resolve.Resolved.{Resolved}
use Rattle.gql_steps.specs.declared.resolve.Resolved.TheVariants as found
use Rattle.gql_steps.specs.declared.run.Run.{Run}
use Rattle.gql_steps.specs.declared.refusal.ExecRefusal.{ExecRefusal}
use Rattle.gql_steps.specs.declared.site.Site.{Site as FieldSite}
use Rattle.gql_steps.specs.declared.table.Slot.{Slot}
use Rattle.gql_steps.specs.declared.table.Table.{Table}

-- where the values of a field are completed, if its selections have the plan x
abbrev pub site_of : Types → Place → Plan → Site
site_of types place x = record { types = types; place = place; below = execute types x }

-- what is written for a value in a place of this type
abbrev pub placed_part : Written → Part → Part
placed_part t r = if is_non_null t then r else caught r

-- ---- fields

-- what is written for the value of a field, at this path
abbrev pub called_part : Types → Object → PlannedField × Plan → Path → Part
called_part types o q p = value_part (value_of (site_of types q.0.place q.1) q.0 q.0.arguments p o)

-- what is written for the value of a field with these arguments, of an object of the data
abbrev pub source_part : Types → Data → Data → PlannedField × Plan → Path → Part
source_part types arguments d q p =
    value_part (by_source (site_of types q.0.place q.1) q.0 q.0.source arguments p d)

-- what is written for the value of a field with these arguments, of a node of introspection
abbrev pub answer_part : Types → Data → Node → PlannedField × Plan → Path → Part
answer_part types arguments n q p = value_part (on_answer (site_of types q.0.place q.1)
    q.0.of_type p (types.introspect n q.0.name arguments))

-- what is written for the value of a field of the object at this path, with its own errors
abbrev pub content_part : Types → Object → PlannedField × Plan → Path → Part
content_part types o q p = settled (placed_part q.0.of_type
    (called_part types o q (p ++ key q.0.response_name ∷ [])))

-- what is written for a field: its response name and its value
abbrev pub member_part : Types → Object → PlannedField × Plan → Path → Part
member_part types o q p =
    followed_by (plain (quoted q.0.response_name ++ codes ":")) (content_part types o q p)

-- what is written for the field of this number
abbrev pub field_part : Types → Object → Path → ℕ → PlannedField × Plan → Part
field_part types o p i q = after_comma i (counted (member_part types o q p))

-- what is written for these fields
abbrev pub fields_part : Types → Object → List (PlannedField × Plan) → Path → Part
fields_part types o qs p = all (numbered (field_part types o p) 0 qs)

-- what is written for an object with these fields
abbrev pub object_part : Types → Object → List (PlannedField × Plan) → Path → Part
object_part types o qs p = within (codes "{") (fields_part types o qs p) (codes "}")

-- ---- values

-- what a field has resolved to, as a value
abbrev pub resolved_in : Resolved → Data
resolved_in found.Null = json.null
resolved_in (found.Value v) = view v.now
resolved_in (found.Items vs) = json.array (items_of (map (λ (v : Bor Value). view v.now) vs.items))

-- what a field of this type may resolve to: selected items occur for a list only
abbrev pub IsOf : Written → Resolved → Type 0
IsOf t found.Null = Unit {0}
IsOf t (found.Value v) = Unit {0}
IsOf t (found.Items vs) = IsTrue (is_list t)

-- the items that are kept of these, or all if none are
abbrev pub items_from : List Data → List (Bor Value) → List Data
items_from ds [] = ds
items_from ds (v ∷ vs) = map (λ (x : Bor Value). view x.now) (v ∷ vs)

-- the items of a list that is completed
abbrev pub items_in : ListItems → List Data
items_in l = items_from (map view l.all.now) l.kept.now

-- the items of a list of the data
abbrev pub data_items : DataItems → List Data
data_items (items.All vs) = map view vs.now
data_items (items.Kept vs) = map (λ (v : Bor Value). view v.now) vs.items

-- an item in its place
abbrev pub item_at : Site → Written → Path → Data → Reply Data
item_at s t p d = placed t (complete s t p d)

-- what is written for an item, at its index
abbrev pub content_of_item : Written → Site → ℕ → Data → Path → Part
content_of_item t s i d p = placed_part t (value_part (complete s t (p ++ index i ∷ []) d))

-- what is written for the item of this number
abbrev pub item_part : Written → Site → Path → ℕ → Data → Part
item_part t s p i d = after_comma i (counted (content_of_item t s i d p))

-- what is written for these items
abbrev pub items_part : Written → Site → List Data → Path → Part
items_part t s ds p = all (numbered (item_part t s p) 0 ds)

-- what is written for a list of these items
abbrev pub list_part : Written → Site → List Data → Path → Part
list_part t s ds p = within (codes "[") (items_part t s ds p) (codes "]")

-- ---- introspection

-- what is written for a node of introspection that is an item of a list, at its index
abbrev pub content_of_node : List ℕ → Site → ℕ → Node → Path → Part
content_of_node name s i n p = value_part (on_node s name (p ++ index i ∷ []) n)

-- what is written for the node of this number
abbrev pub node_part : List ℕ → Site → Path → ℕ → Node → Part
node_part name s p i n = after_comma i (counted (content_of_node name s i n p))

-- what is written for these nodes
abbrev pub nodes_part : List ℕ → Site → List Node → Path → Part
nodes_part name s ns p = all (numbered (node_part name s p) 0 ns)

-- what is written for a list of these nodes
abbrev pub node_list_part : List ℕ → Site → List Node → Path → Part
node_list_part name s ns p = within (codes "[") (nodes_part name s ns p) (codes "]")

-- the nodes of a list of introspection
abbrev pub nodes_in : Schema → IntroNodes → List Node
nodes_in s list = flat_map option_to_list (elements s list)

-- what is written for the name of this number
abbrev pub name_part : ℕ → List ℕ → Part
name_part i n = after_comma i (counted (plain (quoted n)))

-- what is written for these names
abbrev pub names_part : List (List ℕ) → Part
names_part ns = all (numbered name_part 0 ns)

-- what is written for a list of these names
abbrev pub name_list_part : List (List ℕ) → Part
name_list_part ns = within (codes "[") (names_part ns) (codes "]")

-- ---- kinds

-- the kind is that of interfaces or of unions
abbrev pub IsAbstract : Option TypeKind → Type 0
IsAbstract o = (o ≡ Some kind.Interface) ⊎ (o ≡ Some kind.Union)

-- ---- calls

-- a value is completed here at the type of this name, and x is the plan of what its field selects
pub record IsAsked (g : Basis) (here : FieldSite) (name : List ℕ) (xs : List FileSelection)
    (x : Plan) : Type 0 where
  pub kind : here.kind ≡ kind_in g.given.schema name
  pub plan : IsPlan g name xs x

-- what a call does for selections, by each plan that they have
abbrev pub Does : Basis → FieldSite → List ℕ → List FileSelection → (Site → Part)
    → Result Ended ExecRefusal → Run → Run → Type 0
Does g here name xs part result old new = (x : Plan) → IsAsked g here name xs x
    → Executes (part (site_of (types_of g) here.place x)) result old new

-- what is true after each call: the table is right and has its old entries, and no completed value
-- is uncounted
pub record Keeps (g : Basis) (a b : Table) (old new : Run) : Type 0 where
  pub right : IsRight g b
  pub grows : Grows a b
  pub left : new.left ≤ old.left

-- this field is in this slot of the table
pub record IsAt (t : Table) (s : Slot) (f : FieldPlan) : Type 0 where
  pub within : InTable t s
  pub below : below_at t s ≡ all_selections f.sets.items
