-- What takes a default, by the form of the input.
use Rattle.std.proofs.Common.{◌≡◌, ◌&&◌, ◌⊎◌, inl, inr, ℕ, List, [], Bool, true, false, true≢false, not, if◌then◌else◌, map, Option, Some, None, option_map, is_some, Contains, find, refl, ap, sym, subst, ◌∙◌}
use Rattle.gql_ast.specs.declared.type_system.InputValueDefinition.{InputValueDefinition}
use Rattle.gql_built_in.specs.declared.sited.Sited.{Sited}
use Rattle.gql_cycles.proofs.Members.{Contains-map_from}
use Rattle.gql_inputs.specs.InputTypes.{input_type, is_custom_scalar}
use Rattle.gql_types.specs.Written.{Written, written}
use Rattle.gql_types.specs.declared.kind.TypeKind.{TypeKind}
use Rattle.gql_types.specs.declared.kind.TypeKind.TheVariants as kind
use Rattle.gql_types.specs.declared.schema.Schema.{Schema}
use Rattle.gql_types.specs.declared.schema_type.SchemaType.{SchemaType}
use Rattle.gql_coerce.specs.Coercion.{Entry, Entries, are, unknown, no_object, any_entry, any_entries, defined_entry, is_defined, unless_unknown, entries_at_kind, entries_by, entries_for, Expected, nothing, anything, this, item_expected, items_expected, is_list_expected, takes_all}
use Rattle.gql_coerce.specs.Defaults.{is_left_out, IsExpected, of_type, of_any, Takes, here, in_field, in_item}
use Rattle.gql_coerce.specs.Inputs.{Input, Field, absent, given, null, single, list, object, all_inputs, all_fields, may_be_list}

pub none_some : {A : Type 0} (x : A) → None ≡ Some x → ⊥
none_some x is = true≢false (sym (ap is_some is))

-- the type of a member's field, if it has one
abbrev pub field_type : Option InputValueDefinition → Option Written
field_type d = option_map (λ (v : InputValueDefinition). written v.of_type) d

-- ---- within a custom scalar

entries_in : Entries → List Entry
entries_in (are es) = es
entries_in (unknown n) = []
entries_in no_object = []

are_same : (xs ys : List Entry) → are xs ≡ are ys → xs ≡ ys
unfolding entries_in
are_same xs ys is = ap entries_in is

any_definition : (fs : List Field) (m : Entry) → Contains (map any_entry fs) m → m.definition ≡ None
any_definition fs m has = let r = Contains-map_from any_entry fs m has in ap (λ (y : Entry). y.definition) (sym r.2)

pub any_are : (fs : List Field) (es : List Entry) (m : Entry) → any_entries fs ≡ are es → Contains es m → m.definition ≡ None
any_are fs es m is has = any_definition fs m (subst (λ xs. Contains xs m) (sym (are_same (map any_entry fs) es is)) has)

type_in : Expected → Option Written
type_in nothing = None
type_in anything = None
type_in (this t) = Some t

is_nothing : Expected → Bool
is_nothing nothing = true
is_nothing anything = false
is_nothing (this t) = false

is_anything : Expected → Bool
is_anything nothing = false
is_anything anything = true
is_anything (this t) = false

anything_item : {ex : Expected} {item : Option Written} → IsExpected ex item → ex ≡ anything → item ≡ None
unfolding is_anything
anything_item (of_type t) is = absurd (true≢false (sym (ap is_anything is)))
anything_item of_any is = refl

nothing_item : {ex : Expected} {item : Option Written} → IsExpected ex item → ex ≡ nothing → ⊥
unfolding is_nothing
nothing_item (of_type t) is = true≢false (sym (ap is_nothing is))
nothing_item of_any is = true≢false (sym (ap is_nothing is))

this_item : (t : Written) {ex : Expected} {item : Option Written} → IsExpected ex item → ex ≡ this t → item ≡ Some t
unfolding type_in
this_item t (of_type u) is = ap type_in is
this_item t of_any is = absurd (none_some t (ap type_in is))

-- what a list expects of its items: a type, if anything is taken there
pub list_item : (u : Option SchemaType) (o item : Option Written) → IsExpected (item_expected u o) item → (item ≡ None) ⊎ ((t : Written) × (o ≡ Some t) × (item ≡ Some t))
list_item u (Some t) item is = inr (t, refl, this_item t is refl)
list_item u None item is = inl (by (takes_all u) is) where
  by : (b : Bool) → IsExpected (if b then anything else nothing) item → item ≡ None
  by true h = anything_item h refl
  by false h = absurd (nothing_item h refl)

module _ (s : Schema) where
  -- no default is taken there
  pub nothing_taken : {x : Input} {e : Option Written} {d : InputValueDefinition} → Takes s x e d → e ≡ None → ⊥
  nothing_taken (here {fs} {e} {d} es m is has defined left) none = none_some d (sym (any_are (all_fields fs) es m (ap (entries_for s (all_fields fs)) (sym none) ∙ is) has) ∙ defined)
  nothing_taken (in_field {fs} {e} {d} es m x is has gives takes) none = nothing_taken takes (ap field_type (any_are (all_fields fs) es m (ap (entries_for s (all_fields fs)) (sym none) ∙ is) has))
  nothing_taken (in_item {xs} {e} {d} item x is has fits takes) none = nothing_taken takes (anything_item is (ap (items_expected s) none))

  -- ---- by the form

  abbrev pub Within : Input → Option Written → InputValueDefinition → Type 0
  Within absent e d = ⊥
  Within (given y) e d = ⊥
  Within null e d = ⊥
  Within (single y) e d = ⊥
  Within (list xs) e d = (item : Option Written) × (x : Input) × IsExpected (items_expected s e) item × Contains (all_inputs xs) x
      × ((is_list_expected item && not (may_be_list x)) ≡ false) × Takes s x item d
  Within (object fs) e d = (es : List Entry) × (m : Entry) × (entries_for s (all_fields fs) e ≡ are es) × Contains es m
      × (((m.definition ≡ Some d) × (is_left_out m.given ≡ true)) ⊎ ((x : Input) × (m.given ≡ Some x) × Takes s x (field_type m.definition) d))

  pub within : {x : Input} {e : Option Written} {d : InputValueDefinition} → Takes s x e d → Within x e d
  within (here {fs} {e} {d} es m is has defined left) = (es, m, is, has, inl (defined, left))
  within (in_field {fs} {e} {d} es m x is has gives takes) = (es, m, is, has, inr (x, gives, takes))
  within (in_item {xs} {e} {d} item x is has fits takes) = (item, x, is, has, fits, takes)

  -- ---- a member of an object at a type is one within a custom scalar, or of a field of an input object

  abbrev pub IsField : List Field → Written → Entry → Type 0
  IsField fs t m = (u : SchemaType) × (f : Sited InputValueDefinition) × (input_type s t ≡ Some u) × (u.kind ≡ kind.InputObject) × Contains u.input_fields f × (m ≡ defined_entry fs f)

  module _ (fs : List Field) (t : Written) (es : List Entry) (m : Entry) (has : Contains es m) where
    abbrev Either : Type 0
    Either = (m.definition ≡ None) ⊎ IsField fs t m

    not_unknown : (n : List ℕ) → unknown n ≡ are es → ⊥
    not_unknown n is = cc is

    no_entries : no_object ≡ are es → ⊥
    no_entries is = cc is

    at_scalar : (b : Bool) → (if b then any_entries fs else no_object) ≡ are es → Either
    at_scalar true is = inl (any_are fs es m is has)
    at_scalar false is = absurd (no_entries is)

    at_object : (u : SchemaType) → input_type s t ≡ Some u → u.kind ≡ kind.InputObject → (o : Option Field) → unless_unknown o (are (map (defined_entry fs) u.input_fields)) ≡ are es → Either
    at_object u at of_kind (Some f) is = absurd (not_unknown f.name is)
    at_object u at of_kind None is = let r = Contains-map_from (defined_entry fs) u.input_fields m (subst (λ xs. Contains xs m) (sym (are_same (map (defined_entry fs) u.input_fields) es is)) has) in
        inr (u, r.0, at, of_kind, r.1, sym r.2)

    at_kind : (u : SchemaType) → input_type s t ≡ Some u → (k : TypeKind) → u.kind ≡ k → entries_at_kind fs u k ≡ are es → Either
    at_kind u at kind.InputObject of_kind is = at_object u at of_kind (find (λ (f : Field). not (is_defined u.input_fields f)) fs) is
    at_kind u at kind.Scalar of_kind is = at_scalar (is_custom_scalar u) is
    at_kind u at kind.Enum of_kind is = absurd (no_entries is)
    at_kind u at kind.Object of_kind is = absurd (no_entries is)
    at_kind u at kind.Interface of_kind is = absurd (no_entries is)
    at_kind u at kind.Union of_kind is = absurd (no_entries is)

    at_type : (o : Option SchemaType) → input_type s t ≡ o → entries_by fs o ≡ are es → Either
    at_type None at is = absurd (no_entries is)
    at_type (Some u) at is = at_kind u at u.kind refl is

    pub entry_of : entries_for s fs (Some t) ≡ are es → Either
    entry_of is = at_type (input_type s t) refl is
