-- Helper definitions for private contracts: objects and lists that are executed part by part, while
-- those around them wait on a stack.
use Rattle.std.specs.Prelude.{◌≡◌, ℕ, ◌+◌, ◌*◌, ◌<◌, ◌≤◌, List, [], ◌∷◌, ◌++◌, codes, drop, flat_map, length, option_to_list, reverse, take, Bool, true, false, if◌then◌else◌, Option, Some, None, Result, Ok, Err}
use Rattle.gql_collect.specs.Nodes.{FileSelection}
use Rattle.gql_inputs.specs.InputTypes.{name_in}
use Rattle.gql_intro.specs.Borrowed.{elements, node_of}
use Rattle.gql_intro.specs.Nodes.{Node}
use Rattle.gql_intro.specs.declared.node.IntroNode.{IntroNode}
use Rattle.gql_text.specs.declared.place.Place.{Place}
use Rattle.gql_types.specs.Written.{written}
use Rattle.serde_json.specs.View.{view}
use Rattle.gql_steps.specs.Ended.{both}
use Rattle.gql_steps.specs.Execution.{Object, Plan, Site, described, stored}
use Rattle.gql_steps.specs.Parts.{Part, all, caught, numbered, plain, settled, within}
use Rattle.gql_steps.specs.Plans.{Basis, IsPlan, types_of}
use Rattle.gql_steps.specs.States.{Done, Executes, Follows, path_of}
use Rattle.gql_steps.specs.Tables.{Grows, InTable, IsRight, Pair, StandFor, below_at, fields_at}
use Rattle.gql_steps.specs.ValueParts.{IsAsked, data_items, field_part, item_part, node_part, nodes_in, site_of}
use Rattle.gql_steps.specs.declared.ended.Ended.{Ended}
use Rattle.gql_deep.specs.declared.frames.AnyObject.{AnyObject}
use Rattle.gql_deep.specs.declared.frames.AnyObject.TheVariants as object
use Rattle.gql_deep.specs.declared.frames.Around.{Around}
use Rattle.gql_deep.specs.declared.frames.Begun.{Begun}
use Rattle.gql_deep.specs.declared.frames.Begun.TheVariants as begun
use Rattle.gql_deep.specs.declared.frames.FieldsFrame.{FieldsFrame}
use Rattle.gql_deep.specs.declared.frames.Frame.{Frame}
use Rattle.gql_deep.specs.declared.frames.Group.{Group}
use Rattle.gql_deep.specs.declared.frames.Group.TheVariants as group
use Rattle.gql_deep.specs.declared.frames.ItemsFrame.{ItemsFrame}
use Rattle.gql_deep.specs.declared.frames.NodesFrame.{NodesFrame}
use Rattle.gql_deep.specs.declared.frames.Reached.{Reached}
use Rattle.gql_deep.specs.declared.frames.Reached.TheVariants as reached
use Rattle.gql_deep.specs.declared.frames.Turn.{Turn}
use Rattle.gql_deep.specs.declared.frames.Turn.TheVariants as turn
use Rattle.gql_steps.specs.declared.outcome.Step.{Step}
use Rattle.gql_steps.specs.declared.refusal.ExecRefusal.{ExecRefusal}
use Rattle.gql_steps.specs.declared.refusal.ExecRefusal.TheVariants.{TooHeavy}
use Rattle.gql_steps.specs.declared.run.Run.{Run}
use Rattle.gql_steps.specs.declared.site.Site.{Site as FieldSite}
use Rattle.gql_steps.specs.declared.table.Table.{Table}

-- ---- objects

-- what fields are executed on, as specifications see it
abbrev pub object_in : AnyObject → Object
object_in (object.Stored v) = stored (view v.now)
object_in (object.Described n) = described (node_of n)

-- ---- groups

-- the bracket that opens a group
abbrev pub opening : Group → List ℕ
opening (group.Fields f) = codes "{"
opening (group.Items f) = codes "["
opening (group.Nodes f) = codes "["

-- the group, one more part of which has ended in this way
abbrev pub and_ended : Group → Ended → Group
and_ended (group.Fields f) e = group.Fields (record f { ended = both f.ended e })
and_ended (group.Items f) e = group.Items (record f { ended = both f.ended e })
and_ended (group.Nodes f) e = group.Nodes (record f { ended = both f.ended e })

-- ---- groups that fit the table

-- the entry of an object is in the table, and so is the field of a list
abbrev pub Fits : Table → Group → Type 0
Fits t (group.Fields f) = f.entry < length t.entries.items
Fits t (group.Items f) = InTable t f.site.slot
Fits t (group.Nodes f) = InTable t f.slot × (f.next ≤ f.passed)

-- the same of the group of a frame
abbrev pub FitsFrame : Table → Frame → Type 0
FitsFrame t f = Fits t f.group

-- the same of what is to be entered
abbrev pub FitsReached : Table → Reached → Type 0
FitsReached t (reached.Ended e) = Unit {0}
FitsReached t (reached.Inner i) = Fits t i

-- the same within a field or an item
abbrev pub FitsBegun : Table → Begun → Type 0
FitsBegun t (begun.Ended e) = Unit {0}
FitsBegun t (begun.Within a i) = Fits t i

-- the same of an object or a list that waits, and of what is to be entered within it
abbrev pub FitsTurn : Table → Turn → Type 0
FitsTurn t (turn.Ended e) = Unit {0}
FitsTurn t (turn.Within f i) = Fits t f.group × Fits t i

-- how many more values have been counted than when a turn began, at least
abbrev pub counted_by : Turn → ℕ
counted_by (turn.Ended e) = 0
counted_by (turn.Within f i) = 1

-- what is true after each call: the table is right and has its old entries, at least n values have
-- been counted, and the result fits the table
pub record Kept (g : Basis) (a b : Table) (n : ℕ) (old new : Run) (Fit : Type 0) : Type 0 where
  pub right : IsRight g b
  pub grows : Grows a b
  pub left : new.left + n ≤ old.left
  pub fits : Fit

-- the same, for the value of a field or an item
abbrev pub KeepsReached : Basis → Table → Table → Run → Run → Result Reached ExecRefusal → Type 0
KeepsReached g a b old new (Ok r) = Kept g a b 0 old new (FitsReached b r)
KeepsReached g a b old new (Err stop) = Unit {0}

-- the same, for a field or an item
abbrev pub KeepsBegun : Basis → Table → Table → ℕ → Run → Run → Result Begun ExecRefusal → Type 0
KeepsBegun g a b n old new (Ok r) = Kept g a b n old new (FitsBegun b r)
KeepsBegun g a b n old new (Err stop) = Unit {0}

-- the same, for an object or a list
abbrev pub KeepsTurn : Basis → Table → Table → Run → Run → Result Turn ExecRefusal → Type 0
KeepsTurn g a b old new (Ok r) = Kept g a b (counted_by r) old new (FitsTurn b r)
KeepsTurn g a b old new (Err stop) = Unit {0}

-- ---- steps of the loop

-- 1 if a group is to be entered
abbrev pub inner_in : Reached → ℕ
inner_in (reached.Ended e) = 0
inner_in (reached.Inner i) = 1

-- how many steps the loop still makes at most: each puts a group on the stack and has counted a
-- value, or takes one from it, or enters one that ends at once
abbrev pub steps_left : Run → List Frame → Reached → ℕ
steps_left s fs r = s.left * 2 + (length fs + inner_in r)

-- ---- parts that are executed one after another

-- of these parts, which are the whole between two brackets, the first k are done and have ended so
pub record Midway (before after : List ℕ) (parts : List Part) (k : ℕ) (ended : Ended)
    (whole : Part) (start now : Run) : Type 0 where
  pub opened : Run
  pub opens : Follows (plain before) start opened
  pub done : Done (all (take k parts)) ended opened now
  pub is : whole ≡ within before (all parts) after

-- the parts of an object's fields, at this path
abbrev pub field_parts : Basis → FieldsFrame → List Pair → Run → List Part
field_parts g f qs s = numbered (field_part (types_of g) (object_in f.object) (path_of s)) 0 qs

-- the parts of the items of a list of the data, at this path
abbrev pub item_parts : ItemsFrame → Site → Run → List Part
item_parts f site s = numbered (item_part (written f.item.now) site (path_of s)) 0
    (data_items f.items)

-- the parts of a list's nodes, at this path
abbrev pub node_parts : Basis → NodesFrame → Site → Run → List Part
node_parts g f site s = numbered (node_part f.name.now site (path_of s)) 0
    (nodes_in g.given.schema f.nodes)

-- of this object, which began at `start`, as many fields are done as the frame states
pub record AtFields (g : Basis) (t : Table) (f : FieldsFrame) (whole : Part) (start now : Run)
    : Type 0 where
  pub pairs : List Pair
  pub within : f.entry < length t.entries.items
  pub stand : StandFor g (fields_at t.entries.items f.entry) pairs
  pub midway : Midway (codes "{") (codes "}") (field_parts g f pairs start) f.next f.ended whole
      start now

-- of this list, which began at `start`, as many items are done as the frame states
pub record AtItems (g : Basis) (t : Table) (f : ItemsFrame) (whole : Part) (start now : Run)
    : Type 0 where
  pub plan : Plan
  pub within : InTable t f.site.slot
  pub asked : IsAsked g f.site (name_in (written f.item.now)) (below_at t f.site.slot) plan
  pub midway : Midway (codes "[") (codes "]") (item_parts f (site_of (types_of g) f.site.place plan)
      start) f.next f.ended whole start now

-- of this list, which began at `start`, as many nodes are done as the frame states
pub record AtNodes (g : Basis) (t : Table) (f : NodesFrame) (whole : Part) (start now : Run)
    : Type 0 where
  pub plan : Plan
  pub place : Place
  pub within : InTable t f.slot
  pub asked : IsPlan g f.name.now (below_at t f.slot) plan
  pub rest : drop f.next (nodes_in g.given.schema f.nodes)
      ≡ flat_map option_to_list (drop f.passed (elements g.given.schema f.nodes))
  pub midway : Midway (codes "[") (codes "]") (node_parts g f (site_of (types_of g) place plan)
      start) f.next f.ended whole start now

-- as many parts of this group are done as it states
abbrev pub At : Basis → Table → Group → Part → Run → Run → Type 0
At g t (group.Fields f) = AtFields g t f
At g t (group.Items f) = AtItems g t f
At g t (group.Nodes f) = AtNodes g t f

-- the group is this part, none of which is done: not even its bracket is written
abbrev pub Enters : Basis → Table → Group → Part → Run → Type 0
Enters g t i whole start = (opened : Run) → Follows (plain (opening i)) start opened
    → At g t i whole start opened

-- this is the next node of a list, and as many elements are passed with it
abbrev pub NextIs : List (Option Node) → ℕ → Option (ℕ × IntroNode) → Type 0
NextIs es passed (Some found) = flat_map option_to_list (drop passed es)
    ≡ node_of found.1 ∷ flat_map option_to_list (drop found.0 es)
NextIs es passed None = flat_map option_to_list (drop passed es) ≡ []

-- ---- values within fields and items

-- what is written for a value, by whether its place is Non-Null
abbrev pub placed_by : Bool → Part → Part
placed_by required r = if required then r else caught r

-- what is written for the content of a field or an item, by that for its value
abbrev pub content_by : Around → Part → Part
content_by a r = if a.is_field then settled (placed_by a.is_required r)
    else placed_by a.is_required r

-- whether the field has an error, for the content of a field that begins or of an item
abbrev pub RaisedAt : Bool → Bool → Bool → Bool → Type 0
RaisedAt true outer before start = (start ≡ false) × (outer ≡ before)
RaisedAt false outer before start = start ≡ before

-- the value of a field or an item, which is the part r and began at `before`, is the part p, which
-- begins at `start`
pub record Hole (a : Around) (p : Part) (start : Run) (r : Part) (before : Run) : Type 0 where
  pub here : Run
  pub step : Step
  pub out : start.out ≡ here.out
  pub errors : start.errors ≡ here.errors
  pub left : start.left ≡ here.left
  pub raised : RaisedAt a.is_field a.outer here.raised start.raised
  pub path : start.path.items ≡ here.path.items ++ step ∷ []
  pub mark : a.mark ≡ length here.out.items
  pub depth : a.depth ≡ length here.path.items
  pub lifts : (result : Result Ended ExecRefusal) → (now : Run)
      → Executes (content_by a p) result here now → Executes r result before now

-- a group is to be entered for the value of a field or an item
pub record Opens (g : Basis) (t : Table) (a : Around) (i : Group) (r : Part) (before now : Run)
    : Type 0 where
  pub inner : Part
  pub hole : Hole a inner now r before
  pub enters : Enters g t i inner now

-- this group waits for its part that began at `began`
pub record Suspends (g : Basis) (t : Table) (f : Frame) (inner : Part) (began : Run)
    (whole : Part) (start : Run) : Type 0 where
  pub part : Part
  pub before : Run
  pub hole : Hole f.around inner began part before
  pub goes_on : (ended : Ended) → (now : Run) → Done part ended before now
      → At g t (and_ended f.group ended) whole start now
  pub stops : before.left < part.weight → start.left < whole.weight

-- a group waits, and one within it is to be entered
pub record Pauses (g : Basis) (t : Table) (f : Frame) (i : Group) (whole : Part)
    (start now : Run) : Type 0 where
  pub inner : Part
  pub suspends : Suspends g t f inner now whole start
  pub enters : Enters g t i inner now

-- ---- calls

-- a part has been done; or a group is that part, and is to be entered; or a call has stopped
abbrev pub Reaches : Basis → Table → Part → Result Reached ExecRefusal → Run → Run → Type 0
Reaches g t r (Ok (reached.Ended ended)) old new = Done r ended old new
Reaches g t r (Ok (reached.Inner i)) old new = (new ≡ old) × Enters g t i r old
Reaches g t r (Err stop) old new = stop ≡ TooHeavy → old.left < r.weight

-- a field or an item has been done; or a group is to be entered for its value; or a call has
-- stopped
abbrev pub Begins : Basis → Table → Part → Result Begun ExecRefusal → Run → Run → Type 0
Begins g t r (Ok (begun.Ended ended)) old new = Done r ended old new
Begins g t r (Ok (begun.Within a i)) old new = Opens g t a i r old new
Begins g t r (Err stop) old new = stop ≡ TooHeavy → old.left < r.weight

-- the same of a node of a list, which is entered always
abbrev pub BeginsNode : Basis → Table → Part → Result (Around × Group) ExecRefusal → Run → Run
    → Type 0
BeginsNode g t r (Ok w) old new = Opens g t w.0 w.1 r old new
BeginsNode g t r (Err stop) old new = stop ≡ TooHeavy → old.left < r.weight

-- an object or a list has been done; or it waits for one within it; or a call has stopped
abbrev pub Turns : Basis → Table → Part → Run → Result Turn ExecRefusal → Run → Type 0
Turns g t whole start (Ok (turn.Ended ended)) now = Done whole ended start now
Turns g t whole start (Ok (turn.Within f i)) now = Pauses g t f i whole start now
Turns g t whole start (Err stop) now = stop ≡ TooHeavy → start.left < whole.weight

-- what a call does for selections at the type of this name, by each plan that they have
abbrev pub DoesReach : Basis → Table → List ℕ → List FileSelection → (Site → Part)
    → Result Reached ExecRefusal → Run → Run → Type 0
DoesReach g t name xs part result old new = (x : Plan) (place : Place) → IsPlan g name xs x
    → Reaches g t (part (site_of (types_of g) place x)) result old new

-- the same where a value of the data is completed
abbrev pub DoesValue : Basis → Table → FieldSite → List ℕ → List FileSelection → (Site → Part)
    → Result Reached ExecRefusal → Run → Run → Type 0
DoesValue g t here name xs part result old new = (x : Plan) → IsAsked g here name xs x
    → Reaches g t (part (site_of (types_of g) here.place x)) result old new

-- the same for an item of a list of the data
abbrev pub DoesItem : Basis → Table → FieldSite → List ℕ → List FileSelection → (Site → Part)
    → Result Begun ExecRefusal → Run → Run → Type 0
DoesItem g t here name xs part result old new = (x : Plan) → IsAsked g here name xs x
    → Begins g t (part (site_of (types_of g) here.place x)) result old new

-- the first k items of a list of the data are done
abbrev pub WritesFirst : ItemsFrame → ℕ → Run → Run → Type 0
WritesFirst f k old new = (g : Basis) (t : Table) (whole : Part) (start : Run)
    → (at : AtItems g t f whole start old)
    → Midway (codes "[") (codes "]") (item_parts f (site_of (types_of g) f.site.place at.plan)
    start) k f.ended whole start new

-- if more values are to be completed than are left, then so for the list
abbrev pub WritesFirstStop : ItemsFrame → Run → ExecRefusal → Type 0
WritesFirstStop f old stop = (g : Basis) (t : Table) (whole : Part) (start : Run)
    → AtItems g t f whole start old → stop ≡ TooHeavy → start.left < whole.weight

-- the same for a node of a list
abbrev pub DoesBegin : Basis → Table → List ℕ → List FileSelection → (Site → Part)
    → Result (Around × Group) ExecRefusal → Run → Run → Type 0
DoesBegin g t name xs part result old new = (x : Plan) (place : Place) → IsPlan g name xs x
    → BeginsNode g t (part (site_of (types_of g) place x)) result old new

-- ---- the stack

-- each of these frames, the innermost first, waits for the one before it, and the first for this
-- part
abbrev pub Waits : Basis → Table → List Frame → Part → Run → Part → Run → Type 0
Waits g t [] inner began whole start = (whole ≡ inner) × (start ≡ began)
Waits g t (f ∷ fs) inner began whole start = (p : Part) × (s : Run)
    × Suspends g t f inner began p s × Waits g t fs p s whole start

-- the same of a stack, the last frame of which is the innermost
abbrev pub Inside : Basis → Table → List Frame → Part → Run → Part → Run → Type 0
Inside g t fs = Waits g t (reverse fs)

-- a stack waits for a part, for which this has been reached
pub record Holds (g : Basis) (t : Table) (stack : List Frame) (r : Reached) (now : Run)
    (whole : Part) (start : Run) : Type 0 where
  pub inner : Part
  pub began : Run
  pub reaches : Reaches g t inner (Ok r) began now
  pub inside : Inside g t stack inner began whole start
