-- Helper definitions for private contracts: the lists and objects around the input that is coerced,
-- and what is left to do in each.
use Rattle.std.specs.Prelude.{◌≡◌, ◌+◌, ◌++◌, ℕ, zero, suc, List, [], ◌∷◌, map, reverse, drop, length, Option, Some, None, option_map}
use Rattle.std.specs.Option.{option_copied}
use Rattle.gql_ast.specs.declared.type_system.InputValueDefinition.{InputValueDefinition}
use Rattle.gql_types.specs.Written.{Written, written}
use Rattle.gql_types.specs.declared.schema.Schema.{Schema}
use Rattle.serde_json.specs.Data as json
use Rattle.serde_json.specs.Data.{Data, Members}
use Rattle.serde_json.specs.View.{view, items_of, members_view}
use Rattle.gql_coerce.specs.Coercion.{Entry, coerced, once, or_null, item_at, items_from, items_expected, list_by, or_default, under, member_at, object_of, object_at, entries_for}
use Rattle.gql_coerce.specs.Inputs.{Input, Field}
use Rattle.gql_coerce.specs.Outcomes.{Reached, value, too_deep, after, within, all, some, said}
use Rattle.gql_coerce.specs.Parts.{items_in, fields_of, entries_in}
use Rattle.gql_coerce.specs.declared.coerced.Coerced.{Coerced}
use Rattle.gql_coerce.specs.declared.frame.Focus.{Focus}
use Rattle.gql_coerce.specs.declared.frame.Focus.TheVariants as focus
use Rattle.gql_coerce.specs.declared.frame.Frame.{Frame as AFrame}
use Rattle.gql_coerce.specs.declared.frame.Frame.TheVariants as frame
use Rattle.gql_coerce.specs.declared.frame.ListFrame.{ListFrame}
use Rattle.gql_coerce.specs.declared.frame.ObjectFrame.{ObjectFrame}
use Rattle.gql_coerce.specs.declared.frame.Step.{Step}
use Rattle.gql_coerce.specs.declared.frame.Step.TheVariants as step
use Rattle.gql_coerce.specs.declared.objects.EntryFocus.{EntryFocus}
use Rattle.gql_coerce.specs.declared.objects.EntryFocus.TheVariants as entry
use Rattle.gql_coerce.specs.declared.refusal.Segment.TheVariants as segment

-- what a part comes to, by the input and by what is expected of it
abbrev pub Inner : Type 0
Inner = Input → Option Written → Reached (Option Data)

-- ---- lists

-- what a list comes to, from the values of its first items and the items that are left
abbrev pub items_rest : Inner → Option Written → List Data → List Input → Reached (Option Data)
items_rest inner e done rest = some (after (all (items_from (item_at inner e) (length done) rest))
    (λ ds. value (json.array (items_of (done ++ ds)))))

-- what a list comes to, if the item after the values `done` comes to `o`
abbrev pub items_then : Inner → Option Written
    → List Data → List Input → Reached (Option Data) → Reached (Option Data)
items_then inner e done rest o =
    some (after (all (within (segment.Index (length done)) (after o (or_null e))
    ∷ items_from (item_at inner e) (suc (length done)) rest))
    (λ ds. value (json.array (items_of (done ++ ds)))))

-- ---- objects

-- what an object comes to, from its first members and the entries that are left
abbrev pub members_rest : Inner → Option Written → Members → List Entry → Reached (Option Data)
members_rest inner t ms rest = once t (some (object_of (map (member_at inner) rest) ms))

-- what an object comes to, if the entry of this name comes to `o`
abbrev pub members_then : Inner → Option Written
    → List ℕ → Members → List Entry → Reached (Option Data) → Reached (Option Data)
members_then inner t n ms rest o =
    once t (some (object_of (after o (λ v. value (under n v)) ∷ map (member_at inner) rest) ms))

-- ---- a list or an object in which a part is awaited

-- a list or an object, one part of which is being coerced
pub data Frame : Type 0 where
  -- an item: what is expected of items, the values before it, the items after it
  item : Option Written → List Data → List Input → Frame
  -- the value given for a field: what is expected of the object, the name and the definition of the
  -- field, the members before it, the entries after it
  given : Option Written → List ℕ → Option InputValueDefinition → Members → List Entry → Frame
  -- the default of a field, by its name
  default : Option Written → List ℕ → Members → List Entry → Frame

-- what the list or object comes to, if that part comes to `o`
abbrev pub frame_by : Inner → Frame → Reached (Option Data) → Reached (Option Data)
frame_by inner (item e done rest) o = items_then inner e done rest o
frame_by inner (given t n d ms rest) o = members_then inner t n ms rest
    (after (within (segment.Key n) o) (or_default inner n d))
frame_by inner (default t n ms rest) o = members_then inner t n ms rest (within (segment.Key n) o)

-- what the outermost frame comes to, if the part in the innermost comes to `o`
abbrev pub plug : ℕ → Schema → List Frame → Reached (Option Data) → Reached (Option Data)
plug n s [] o = o
plug n s (f ∷ fs) o = plug (suc n) s fs (frame_by (coerced n s) f o)

-- the whole comes to what the part in the innermost of these frames makes of it
abbrev pub Holds : Schema → (ℕ → Reached (Option Data))
    → List Frame → (ℕ → Reached (Option Data)) → Type 0
Holds s whole fs inner = (j : ℕ) × (k : ℕ)
    × ((n : ℕ) → whole (j + n) ≡ plug (k + n) s fs (inner (k + n)))

-- the same for a list or an object, whose parts are one level further in
abbrev pub Inside : Schema → (ℕ → Reached (Option Data))
    → List Frame → (ℕ → Reached (Option Data)) → Type 0
Inside s whole fs at = (j : ℕ) × (k : ℕ)
    × ((n : ℕ) → whole (j + n) ≡ plug (suc (k + n)) s fs (at (k + n)))

-- ---- as Rust code has them

-- a frame of a list
abbrev pub list_frame : ListFrame → Frame
list_frame f = item (option_map written (option_copied f.expected))
    (map view f.values) (drop f.next (items_in f.items))

-- a frame of an object, in which the default value of this field is being coerced
abbrev pub object_frame : ObjectFrame → List ℕ → Frame
object_frame f n = default (option_map written (option_copied f.expected)) n
    (members_view f.members) (drop f.next (entries_in f.entries))

-- a frame of an object, in which the value that is given for this field is being coerced
abbrev pub given_frame : ObjectFrame → List ℕ → Option InputValueDefinition → Frame
given_frame f n d = given (option_map written (option_copied f.expected)) n d
    (members_view f.members) (drop f.next (entries_in f.entries))

-- a frame
abbrev pub frame_of : AFrame → Frame
frame_of (frame.Item f) = list_frame f
frame_of (frame.Given f n d) = given_frame f n.now (option_copied d)
frame_of (frame.Default f n) = object_frame f n.now

-- frames, the innermost first
abbrev pub frames_of : List AFrame → List Frame
frames_of fs = reverse (map frame_of fs)

-- what a list of these items comes to
abbrev pub list_at : ℕ → Schema → List Input → Option Written → Reached (Option Data)
list_at zero s xs e = too_deep
list_at (suc n) s xs e = some (list_by (coerced n s) xs (items_expected s e))

-- what an object of these fields comes to
abbrev pub object_of_fields : ℕ → Schema → List Field → Option Written → Reached (Option Data)
object_of_fields zero s fs e = too_deep
object_of_fields (suc n) s fs e = once e (some (object_at (coerced n s) (entries_for s fs e)))

-- what the focus comes to
abbrev pub focus_at : ℕ → Schema → Focus → Reached (Option Data)
focus_at n s (focus.List xs e) = list_at n s (items_in xs) (option_map written (option_copied e))
focus_at n s (focus.Object fs e) =
    object_of_fields n s (fields_of fs) (option_map written (option_copied e))
focus_at n s (focus.Answer c) = said c

-- what an entry comes to, once its focus is done
abbrev pub entry_focus_at : ℕ → Schema → Entry → EntryFocus → Reached (Option Data)
entry_focus_at n s e (entry.Given f) = after (within (segment.Key e.name) (focus_at n s f))
    (or_default (coerced n s) e.name e.definition)
entry_focus_at n s e (entry.Last f) = within (segment.Key e.name) (focus_at n s f)

-- what a list or an object comes to: this answer, or else the rest
abbrev pub or_stop : Reached (Option Data) → Option Coerced → Reached (Option Data)
or_stop rest None = rest
or_stop rest (Some c) = said c

-- what a step comes to, once it is done
abbrev pub step_at : ℕ → Schema → Step → Reached (Option Data)
step_at n s (step.Within f x) = frame_by (coerced n s) (frame_of f) (focus_at n s x)
step_at n s (step.Answer c) = said c
