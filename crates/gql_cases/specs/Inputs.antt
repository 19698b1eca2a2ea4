-- What an input comes to (GraphQL specification, 3.5 to 3.12), a case for each form of input: a value,
-- or none for a variable without a value, or the first refusal and its path. The law
-- `inputs` says that this is exactly `Comes`, which the contracts of gql_coerce cite.
use Rattle.std.specs.Prelude.{◌≡◌, ◌&&◌, ◌↔◌, ℕ, suc, List, [], ◌∷◌, true, false, not, is_some, Option, Some, None, option_map}
use Rattle.gql_ast.specs.declared.literal.Literal.{Literal}
use Rattle.gql_ast.specs.declared.type_system.InputValueDefinition.{InputValueDefinition}
use Rattle.gql_inputs.specs.InputTypes.{is_non_null}
use Rattle.gql_types.specs.Written.{Written, written}
use Rattle.gql_types.specs.declared.schema.Schema.{Schema}
use Rattle.serde_json.specs.Data as json
use Rattle.serde_json.specs.Data.{Data}
use Rattle.serde_json.specs.Find.{as_null}
use Rattle.serde_json.specs.View.{items_of}
use Rattle.gql_coerce.specs.Coercion.{Entry, are, unknown, no_object, nothing, anything, this, entries_for, is_list_expected, items_expected, one_in, put_all, single_at, under}
use Rattle.gql_coerce.specs.Comes.{Outcome, Comes, value, refused}
use Rattle.gql_coerce.specs.Inputs.{Single, Input, Inputs, Fields, absent, given, null, single, list, object, all_inputs, all_fields, literal, may_be_list}
use Rattle.gql_coerce.specs.Outcomes as levels
use Rattle.gql_coerce.specs.declared.refusal.Reason.{Reason}
use Rattle.gql_coerce.specs.declared.refusal.Reason.TheVariants as reason
use Rattle.gql_coerce.specs.declared.refusal.Segment.{Segment}
use Rattle.gql_coerce.specs.declared.refusal.Segment.TheVariants as segment

-- ---- outcomes made of others

-- a value that is there, or the same refusal
abbrev pub there : Outcome Data → Outcome (Option Data)
there (value d) = value (Some d)
there (refused r path) = refused r path

-- the same, under a segment of the path
abbrev pub below : {A : Type 0} → Segment → Outcome A → Outcome A
below g (value x) = value x
below g (refused r path) = refused r (g ∷ path)

-- values as one array
abbrev pub as_array : Outcome (List Data) → Outcome (Option Data)
as_array (value ds) = value (Some (json.array (items_of ds)))
as_array (refused r path) = refused r path

-- a value as a list of one, if a list is expected (3.11)
abbrev pub listed_once : Option Written → Data → Data
listed_once None d = d
listed_once (Some t) d = one_in t d

-- members as one object, of which a list is made if one is expected
abbrev pub as_object : Option Written → Outcome (List (Option (List ℕ × Data))) → Outcome (Option Data)
as_object e (value ms) = value (Some (listed_once e (json.object (put_all ms json.no_members))))
as_object e (refused r path) = refused r path

-- ---- the cases. The type is absent within a custom scalar, where everything is taken.

-- null: taken, unless the type is Non-Null (3.12)
pub data NullComes : Option Written → Outcome Data → Type 0 where
  within_a_scalar : NullComes None (value json.null)
  nullable : {t : Written} → is_non_null t ≡ false → NullComes (Some t) (value json.null)
  non_null : {t : Written} → is_non_null t ≡ true
      → NullComes (Some t) (refused reason.NullForNonNull [])

-- the type of the items of a list that is given; it is absent within a custom scalar
pub data AreItemsOf (s : Schema) (e : Option Written) : Option Written → Type 0 where
  items_of_any : items_expected s e ≡ anything → AreItemsOf s e None
  items_of_type : {t : Written} → items_expected s e ≡ this t → AreItemsOf s e (Some t)

-- the type of a member, which is absent within a custom scalar
abbrev pub type_of_member : Entry → Option Written
type_of_member m = option_map (λ (d : InputValueDefinition). written d.of_type) m.definition

mutual
  -- an input, at a type
  pub data Becomes (s : Schema) : Option Written → Input → Outcome (Option Data) → Type 0 where
    -- a variable without a value
    no_variable : {e : Option Written} → Becomes s e absent (value None)
    -- a variable, whose value was coerced at the type of the variable: null is tested again
    null_variable : {e : Option Written} {d : Data} {o : Outcome Data} → is_some (as_null d) ≡ true
        → NullComes e o → Becomes s e (given d) (there o)
    variable : {e : Option Written} {d : Data} → is_some (as_null d) ≡ false
        → Becomes s e (given d) (value (Some d))
    null_literal : {e : Option Written} {o : Outcome Data} → NullComes e o
        → Becomes s e null (there o)
    -- a number, a text, a truth value or an enum value, as the scalar or enum takes it
    single_taken : {e : Option Written} {x : Single} {d : Data}
        → single_at s e x ≡ levels.value d → Becomes s e (single x) (value (Some (listed_once e d)))
    single_refused : {e : Option Written} {x : Single} {r : Reason} {path : List Segment}
        → single_at s e x ≡ levels.refused r path → Becomes s e (single x) (refused r path)
    -- a list: each item at the item type
    no_list : {e : Option Written} {xs : Inputs} → items_expected s e ≡ nothing
        → Becomes s e (list xs) (refused reason.WrongKind [])
    a_list : {e i : Option Written} {xs : Inputs} {o : Outcome (List Data)} → AreItemsOf s e i
        → ItemsBecome s i 0 (all_inputs xs) o → Becomes s e (list xs) (as_array o)
    -- an object: no unknown field, and each field of the type
    no_object_here : {e : Option Written} {fs : Fields}
        → entries_for s (all_fields fs) e ≡ no_object
        → Becomes s e (object fs) (refused reason.WrongKind [])
    unknown_field : {e : Option Written} {fs : Fields} {n : List ℕ}
        → entries_for s (all_fields fs) e ≡ unknown n
        → Becomes s e (object fs) (refused reason.UnknownField (segment.Key n ∷ []))
    an_object : {e : Option Written} {fs : Fields} {ms : List Entry}
        {o : Outcome (List (Option (List ℕ × Data)))}
        → entries_for s (all_fields fs) e ≡ are ms → MembersBecome s ms o
        → Becomes s e (object fs) (as_object e o)

  -- the items of a list from an index on: all values, or the first refusal
  pub data ItemsBecome (s : Schema)
      : Option Written → ℕ → List Input → Outcome (List Data) → Type 0 where
    no_items : {i : Option Written} {n : ℕ} → ItemsBecome s i n [] (value [])
    all_items : {i : Option Written} {n : ℕ} {x : Input} {xs : List Input} {d : Data} {ds : List Data}
        → ItemBecomes s i x (value d) → ItemsBecome s i (suc n) xs (value ds)
        → ItemsBecome s i n (x ∷ xs) (value (d ∷ ds))
    item_refused : {i : Option Written} {n : ℕ} {x : Input} {xs : List Input} {r : Reason} {path : List Segment}
        → ItemBecomes s i x (refused r path)
        → ItemsBecome s i n (x ∷ xs) (refused r (segment.Index n ∷ path))
    later_item_refused : {i : Option Written} {n : ℕ} {x : Input} {xs : List Input} {d : Data} {r : Reason}
        {path : List Segment} → ItemBecomes s i x (value d)
        → ItemsBecome s i (suc n) xs (refused r path)
        → ItemsBecome s i n (x ∷ xs) (refused r path)

  -- an item of a list; no list of one is made of it
  pub data ItemBecomes (s : Schema) : Option Written → Input → Outcome Data → Type 0 where
    not_listed : {i : Option Written} {x : Input} → (is_list_expected i && not (may_be_list x)) ≡ true
        → ItemBecomes s i x (refused reason.WrongKind [])
    item_taken : {i : Option Written} {x : Input} {d : Data} → (is_list_expected i && not (may_be_list x)) ≡ false
        → Becomes s i x (value (Some d)) → ItemBecomes s i x (value d)
    -- a variable without a value is null
    item_without_value : {i : Option Written} {x : Input} {o : Outcome Data}
        → (is_list_expected i && not (may_be_list x)) ≡ false
        → Becomes s i x (value None) → NullComes i o → ItemBecomes s i x o
    refused_item : {i : Option Written} {x : Input} {r : Reason} {path : List Segment}
        → (is_list_expected i && not (may_be_list x)) ≡ false
        → Becomes s i x (refused r path) → ItemBecomes s i x (refused r path)

  -- the members of an object: each with its name if it has a value, or the first refusal
  pub data MembersBecome (s : Schema)
      : List Entry → Outcome (List (Option (List ℕ × Data))) → Type 0 where
    no_members_left : MembersBecome s [] (value [])
    all_members : {m : Entry} {ms : List Entry} {v : Option Data}
        {vs : List (Option (List ℕ × Data))} → MemberBecomes s m (value v)
        → MembersBecome s ms (value vs) → MembersBecome s (m ∷ ms) (value (under m.name v ∷ vs))
    member_refused : {m : Entry} {ms : List Entry} {r : Reason} {path : List Segment}
        → MemberBecomes s m (refused r path) → MembersBecome s (m ∷ ms) (refused r path)
    later_member_refused : {m : Entry} {ms : List Entry} {v : Option Data} {r : Reason}
        {path : List Segment} → MemberBecomes s m (value v)
        → MembersBecome s ms (refused r path) → MembersBecome s (m ∷ ms) (refused r path)

  -- a member of an object: what is given, or else the default of its field
  pub data MemberBecomes (s : Schema) : Entry → Outcome (Option Data) → Type 0 where
    member_given : {m : Entry} {x : Input} {d : Data} → m.given ≡ Some x
        → Becomes s (type_of_member m) x (value (Some d)) → MemberBecomes s m (value (Some d))
    given_refused : {m : Entry} {x : Input} {r : Reason} {path : List Segment} → m.given ≡ Some x
        → Becomes s (type_of_member m) x (refused r path)
        → MemberBecomes s m (refused r (segment.Key m.name ∷ path))
    -- within a custom scalar there are no defaults
    no_definition : {m : Entry} → IsNotGiven s m → m.definition ≡ None
        → MemberBecomes s m (value None)
    by_default : {m : Entry} {f : InputValueDefinition} {x : Literal} {o : Outcome (Option Data)}
        → IsNotGiven s m → m.definition ≡ Some f → f.default ≡ Some x
        → Becomes s (Some (written f.of_type)) (literal json.null x) o
        → MemberBecomes s m (below (segment.Key m.name) o)
    missing : {m : Entry} {f : InputValueDefinition} → IsNotGiven s m → m.definition ≡ Some f
        → f.default ≡ None → is_non_null (written f.of_type) ≡ true
        → MemberBecomes s m (refused reason.MissingField (segment.Key m.name ∷ []))
    left_out : {m : Entry} {f : InputValueDefinition} → IsNotGiven s m → m.definition ≡ Some f
        → f.default ≡ None → is_non_null (written f.of_type) ≡ false
        → MemberBecomes s m (value None)

  -- a member is not given, or by a variable without a value
  pub data IsNotGiven (s : Schema) : Entry → Type 0 where
    nothing_given : {m : Entry} → m.given ≡ None → IsNotGiven s m
    no_value_given : {m : Entry} {x : Input} → m.given ≡ Some x
        → Becomes s (type_of_member m) x (value None) → IsNotGiven s m

-- what an input comes to by these cases is what it comes to
abbrev pub InCases : Type 0
InCases = (s : Schema) (x : Input) (t : Written) (o : Outcome (Option Data))
    → Becomes s (Some t) x o ↔ Comes s x t o
