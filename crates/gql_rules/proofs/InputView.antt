-- What facts say of input types, piece by piece.
use Rattle.std.specs.Prelude.{◌≡◌, ℕ, List, [], ◌∷◌, map, Bool, Option, Some, None, Contains}
use Rattle.std.specs.Option.{option_map}
use Rattle.std.proofs.Common.{ap, sym, ◌∙◌, subst, inl, inr}
use Rattle.gql_types.specs.Written.{Written}
use Rattle.gql_types.specs.WrittenTypes.{named_type, type_of}
use Rattle.gql_types.specs.declared.kind.TypeKind.{TypeKind}
use Rattle.gql_types.specs.declared.kind.TypeKind.TheVariants as kind
use Rattle.gql_types.proofs.Wrapping.{typed_back}
use Rattle.gql_facts.specs.Floats.{is_open_in}
use Rattle.gql_facts.specs.ListMembers.{Contains-nil, Contains-here, Contains-there, Contains-cases, Contains-map}
use Rattle.gql_facts.specs.Reads.{types_in, input_types}
use Rattle.gql_facts.specs.Worlds.{Facts}
use Rattle.gql_facts.specs.declared.fact.Fact.{Fact}
use Rattle.gql_facts.specs.declared.fact.Fact.TheVariants as fact
use Rattle.gql_facts.specs.declared.fact.InputFact.{InputFact}
use Rattle.gql_facts.specs.declared.key.Key.TheVariants as key
use Rattle.gql_inputs.specs.InputTypes.{name_in}
use Rattle.gql_inputs.specs.Lookups.{FieldForm, enumeration, input_object}
use Rattle.gql_inputs.proofs.Stepping.{name_typed}
use Rattle.gql_rules.specs.Answers.{kind_of}
use Rattle.gql_rules.specs.KnownInputs.{known_inputs, form_by, fields_in, values_in, object_of, field_of}

-- the named type of a type is the name within it
pub name_written : (w : Written) → name_in w ≡ named_type w
name_written w = ap name_in (sym (typed_back w)) ∙ name_typed (type_of w).wrappers (type_of w).name

-- the type of one of these inputs is among their types
pub named_in : (i : InputFact) (inputs : List InputFact) → Contains inputs i
    → Contains (input_types inputs) i.of_type.name
named_in i inputs h = Contains-map (λ (j : InputFact). j.of_type.name) inputs i h

-- a field of an input object is made of one of these inputs
made_from : (inputs : List InputFact) (f : FieldForm) → Contains (map field_of inputs) f
    → (i : InputFact) × Contains inputs i × (field_of i ≡ f)
made_from [] f h = absurd (Contains-nil f h)
made_from (i ∷ inputs) f h = elim (Contains-cases f (field_of i) (map field_of inputs) h) [
  | inl e ↦ (i, Contains-here i inputs, sym e)
  | inr t ↦ let r = made_from inputs f t in (r.0, Contains-there r.0 i inputs r.1, r.2)
]

-- the input whose type is that of a field
abbrev pub FieldFrom : Fact → FieldForm → Type 0
FieldFrom a f = (i : InputFact) × Contains (types_in a) i.of_type.name × (i.of_type.name ≡ name_in f.of_type)

some_fields : (xs ys : List FieldForm) → Some (input_object xs) ≡ Some (input_object ys) → xs ≡ ys
some_fields xs ys e = cc e

of_inputs : (inputs : List InputFact) (fields : List FieldForm) (f : FieldForm)
    → Some (object_of inputs) ≡ Some (input_object fields) → Contains fields f → FieldFrom (fact.Input inputs) f
of_inputs inputs fields f e h =
    let r = made_from inputs f (subst (λ xs. Contains xs f) (sym (some_fields (map field_of inputs) fields e)) h) in
    (r.0, named_in r.0 inputs r.1, sym (name_typed r.0.of_type.wrappers r.0.of_type.name) ∙ ap (λ (g : FieldForm). name_in g.of_type) r.2)

of_object : (a : Fact) (fields : List FieldForm) (f : FieldForm)
    → option_map object_of (fields_in a) ≡ Some (input_object fields) → Contains fields f → FieldFrom a f
of_object fact.Absent fields f e h = absurd (cc e)
of_object (fact.Kind k) fields f e h = absurd (cc e)
of_object (fact.Field d) fields f e h = absurd (cc e)
of_object (fact.Possible names) fields f e h = absurd (cc e)
of_object (fact.Input inputs) fields f e h = of_inputs inputs fields f e h
of_object (fact.Enum values) fields f e h = absurd (cc e)
of_object (fact.Directive d) fields f e h = absurd (cc e)
of_object (fact.Root name) fields f e h = absurd (cc e)
of_object (fact.Fragment g) fields f e h = absurd (cc e)

no_enum : (values : Option (List (List ℕ))) (fields : List FieldForm)
    → option_map enumeration values ≡ Some (input_object fields) → ⊥
no_enum None fields e = cc e
no_enum (Some values) fields e = cc e

of_kind : (floats : Bool) (m : List ℕ) (o : Option TypeKind) (a b : Fact) (fields : List FieldForm) (f : FieldForm)
    → form_by floats m o a b ≡ Some (input_object fields) → Contains fields f → FieldFrom a f
of_kind floats m (Some kind.Scalar) a b fields f e h = absurd (cc e)
of_kind floats m (Some kind.Enum) a b fields f e h = absurd (no_enum (values_in b) fields e)
of_kind floats m (Some kind.InputObject) a b fields f e h = of_object a fields f e h
of_kind floats m (Some kind.Object) a b fields f e h = absurd (cc e)
of_kind floats m (Some kind.Interface) a b fields f e h = absurd (cc e)
of_kind floats m (Some kind.Union) a b fields f e h = absurd (cc e)
of_kind floats m None a b fields f e h = absurd (cc e)

-- the type of a field of an input object is named by the answer for the object
pub fields_from : (v : Facts) (m : List ℕ) (fields : List FieldForm) (f : FieldForm)
    → known_inputs v m ≡ Some (input_object fields) → Contains fields f → FieldFrom (v (key.InputOf m)) f
fields_from v m fields f e h = of_kind (is_open_in v) m (kind_of v m) (v (key.InputOf m)) (v (key.EnumOf m)) fields f e h
