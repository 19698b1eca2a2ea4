-- Helper definitions for private contracts: the table of planned fields.
use Rattle.std.specs.Prelude.{◌≡◌, ℕ, zero, suc, ◌<◌, List, [], ◌∷◌, ◌++◌, codes, length, take, string_bytes}
use Rattle.std.proofs.Common.{get_or}
use Rattle.std.specs.List.{All}
use Rattle.json.specs.Print.{quoted}
use Rattle.gql_coerce.specs.Comes.{Outcome}
use Rattle.gql_coerce.specs.Requests.{ArgumentsCome}
use Rattle.gql_collect.specs.Borrowed.{all_selections}
use Rattle.gql_collect.specs.Collection.{Collects, selections_below}
use Rattle.gql_collect.specs.Groups.{Group}
use Rattle.gql_collect.specs.Nodes.{FieldNode, FileSelection}
use Rattle.gql_inputs.specs.InputTypes.{name_in}
use Rattle.gql_types.specs.Written.{written}
use Rattle.serde_json.specs.Data.{Data}
use Rattle.serde_json.specs.View.{view}
use Rattle.gql_steps.specs.Execution.{Arguments, given, refused, PlannedField, Plan, Fields, no_fields, field}
use Rattle.gql_steps.specs.Kinds.{kind_in}
use Rattle.gql_steps.specs.Plans.{Basis, FieldOf, IsPlan, IsPlanned, defined, planned}
use Rattle.gql_steps.specs.declared.planning.Called.{Called}
use Rattle.gql_steps.specs.declared.planning.Called.TheVariants as called
use Rattle.gql_steps.specs.declared.planning.FieldPlan.{FieldPlan}
use Rattle.gql_steps.specs.declared.table.Entry.{Entry}
use Rattle.gql_steps.specs.declared.table.Link.{Link}
use Rattle.gql_steps.specs.declared.table.Slot.{Slot}
use Rattle.gql_steps.specs.declared.table.Table.{Table}

-- ---- fields

-- the arguments of a field, as specifications see them
abbrev pub called_of : Called → Arguments
called_of (called.Given v) = given (view v)
called_of (called.Refused m) = refused (string_bytes m)

-- a field of the table, as specifications see it
abbrev pub planned_of : FieldPlan → PlannedField
planned_of f = record {
  response_name = f.response_name.now;
  place = f.place;
  name = f.name.now;
  source = f.source;
  arguments = called_of f.arguments;
  of_type = written f.of_type.now;
}

-- f is the field of the table for a group, whose first node is the field d
pub record PlansGroup (g : Basis) (d : FieldOf) (group : Group) (f : FieldPlan) : Type 0 where
  pub label : f.label.items ≡ quoted group.key ++ codes ":"
  pub is : (first : FieldNode) (others : List FieldNode) (o : Outcome Data)
      → group.nodes ≡ first ∷ others
      → ArgumentsCome g.given.schema d.definition.arguments first.field.arguments g.given.values o
      → planned_of f ≡ planned group first d o
  pub kind : f.kind ≡ kind_in g.given.schema (name_in (written f.of_type.now))
  pub sets : all_selections f.sets.items ≡ selections_below group.nodes

-- a field of a plan, with the plan of what it selects
abbrev pub Pair : Type 0
Pair = PlannedField × Plan

-- the fields of a plan, as a list
abbrev pub pairs_of : Fields → List (PlannedField × Plan)
pairs_of no_fields = []
pairs_of (field f below rest) = (f, below) ∷ pairs_of rest

-- the fields of groups, one by one, each with the plan of what it selects
abbrev pub ArePairs : Basis → List ℕ → List Group → List (PlannedField × Plan) → Type 0
ArePairs g t [] [] = Unit {0}
ArePairs g t (group ∷ groups) (q ∷ qs) = IsPlanned g t group q.0
    × IsPlan g (name_in q.0.of_type) (selections_below group.nodes) q.1
    × ArePairs g t groups qs
ArePairs g t _ _ = ⊥

-- f is the field q of a plan, as the table has it
pub record StandsFor (g : Basis) (f : FieldPlan) (q : PlannedField × Plan) : Type 0 where
  pub planned : q.0 ≡ planned_of f
  pub label : f.label.items ≡ quoted q.0.response_name ++ codes ":"
  pub kind : f.kind ≡ kind_in g.given.schema (name_in q.0.of_type)
  pub below : IsPlan g (name_in q.0.of_type) (all_selections f.sets.items) q.1

-- these are the fields of a plan, as the table has them, one by one
abbrev pub StandFor : Basis → List FieldPlan → List (PlannedField × Plan) → Type 0
StandFor g [] [] = Unit {0}
StandFor g (f ∷ fs) (q ∷ qs) = StandsFor g f q × StandFor g fs qs
StandFor g _ _ = ⊥

-- these are the fields of the groups whose field the type has, by each plan of them
abbrev pub Planning : Basis → List ℕ → List Group → List FieldPlan → Type 0
Planning g t groups fs = (qs : List (PlannedField × Plan))
    → ArePairs g t (defined g t groups) qs → StandFor g fs qs

-- these are the fields that selections ask of objects of the type t
abbrev pub Hold : Basis → List ℕ → List FileSelection → List FieldPlan → Type 0
Hold g t xs fs = (groups : List Group) → Collects g.given t xs groups → Planning g t groups fs

-- ---- entries

-- what f gives for the entry of this number; nothing if there is no such entry
abbrev pub of_entry : {A : Type 0} → (Entry → List A) → List Entry → ℕ → List A
of_entry f [] k = []
of_entry f (e ∷ es) zero = f e
of_entry f (e ∷ es) (suc k) = of_entry f es k

-- the type of the objects that the entry of this number is for
abbrev pub type_at : List Entry → ℕ → List ℕ
type_at es k = of_entry (λ (e : Entry). e.of_type) es k

-- the selections that the entry of this number was made for
abbrev pub made_for : List Entry → ℕ → List FileSelection
made_for es k = of_entry (λ (e : Entry). all_selections e.sets.items) es k

-- the fields of the entry of this number
abbrev pub fields_at : List Entry → ℕ → List FieldPlan
fields_at es k = of_entry (λ (e : Entry). e.fields.items) es k

-- the selections below the field of this number
abbrev pub sets_at : List FieldPlan → ℕ → List FileSelection
sets_at [] i = []
sets_at (f ∷ fs) zero = all_selections f.sets.items
sets_at (f ∷ fs) (suc i) = sets_at fs i

-- the selections below the field of a slot
abbrev pub selections_at : List Entry → Slot → List FileSelection
selections_at es s = sets_at (fields_at es s.entry) s.field

-- the selections below the field of a slot of a table
abbrev pub below_at : Table → Slot → List FileSelection
below_at t s = selections_at t.entries.items s

-- the slot is in the table
pub record InTable (t : Table) (s : Slot) : Type 0 where
  pub entry : s.entry < length t.entries.items
  pub field : s.field < length (fields_at t.entries.items s.entry)

-- an entry has what its selection sets ask of the objects of its type
abbrev pub IsRightEntry : Basis → Entry → Type 0
IsRightEntry g e = Hold g e.of_type (all_selections e.sets.items) e.fields.items

-- the entry of a link was made for what the link's field selects
pub record IsRightLink (es : List Entry) (l : Link) : Type 0 where
  pub slot : l.slot.entry < length es
  pub entry : l.entry < length es
  pub sets : made_for es l.entry ≡ selections_at es l.slot

-- every entry has the fields that it is to have, and every link leads to an entry made for its
-- field's selections
pub record AreRight (g : Basis) (es : List Entry) (ls : List Link) : Type 0 where
  pub entries : All (IsRightEntry g) es
  pub links : All (IsRightLink es) ls

-- the entries and the links of the table are right
abbrev pub IsRight : Basis → Table → Type 0
IsRight g t = AreRight g t.entries.items t.links.items

-- nothing was asked yet
pub record IsEmpty (t : Table) : Type 0 where
  pub entries : t.entries.items ≡ []
  pub links : t.links.items ≡ []

-- entries stay where they are, and others may come after them
abbrev pub Grows : Table → Table → Type 0
Grows old new = take (length old.entries.items) new.entries.items ≡ old.entries.items

-- of these entries, k has the fields that these selections ask of objects of the type t
pub record HasIn (g : Basis) (es : List Entry) (k : ℕ) (t : List ℕ) (xs : List FileSelection)
    : Type 0 where
  pub within : k < length es
  pub holds : Hold g t xs (fields_at es k)

-- the entry k has the fields that these selections ask of objects of the type t
abbrev pub Has : Basis → Table → ℕ → List ℕ → List FileSelection → Type 0
Has g table k t xs = HasIn g table.entries.items k t xs

-- the entry k is for objects of the type t
pub record IsFor (es : List Entry) (k : ℕ) (t : List ℕ) : Type 0 where
  pub within : k < length es
  pub of_type : type_at es k ≡ t

-- the entry k was made for these selections, on objects of the type t
pub record IsMadeFor (es : List Entry) (k : ℕ) (t : List ℕ) (xs : List FileSelection)
    : Type 0 where
  pub within : k < length es
  pub of_type : type_at es k ≡ t
  pub sets : made_for es k ≡ xs

-- a link leads from this slot to an entry for objects of the type n
pub record Leads (es : List Entry) (l : Link) (s : Slot) (n : List ℕ) : Type 0 where
  pub slot : l.slot ≡ s
  pub is : IsFor es l.entry n

-- a link of the table leads from this slot to the entry k, which is for objects of the type n
pub record FoundAt (t : Table) (k : ℕ) (s : Slot) (n : List ℕ) : Type 0 where
  pub link : Link
  pub place : ℕ
  pub listed : place < length t.links.items
  pub here : link ≡ get_or t.links.items place link
  pub entry : link.entry ≡ k
  pub leads : Leads t.entries.items link s n
