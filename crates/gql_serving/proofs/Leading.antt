-- Where defaults lead back to themselves, the graph of rule S19 has a trail that does.
use Rattle.std.proofs.Common.{◌≡◌, ◌⊎◌, inl, inr, ℕ, List, [], true, false, is_some, Option, Some, None, Contains, refl, ap, sym, subst, ◌∙◌}
use Rattle.std.specs.List.{slice_get}
use Rattle.std.specs.Option.{option_map_or}
use Rattle.gql_ast.specs.declared.literal.Literal.{Literal}
use Rattle.gql_ast.specs.declared.type_system.InputValueDefinition.{InputValueDefinition}
use Rattle.gql_built_in.specs.declared.sited.Sited.{Sited}
use Rattle.gql_cycles.proofs.Members.{Contains-flat_map}
use Rattle.gql_cycles.specs.Nodes.{IsEdge, Trail, edge, next}
use Rattle.gql_coerce.specs.Coercion.{Entry, are, entries_for}
use Rattle.gql_coerce.specs.Defaults.{Takes, here, in_field, in_item, DefaultTakes, LeadsTo, one, more, HasNoCycle}
use Rattle.gql_coerce.specs.Inputs.{Input, Field, all_fields}
use Rattle.gql_iface_rules.specs.S19DefaultValueCycles.{ObjectValue, all_inputs, objects, object_values, missing_defaults, default_graph}
use Rattle.gql_inputs.specs.BadValues.{repeats}
use Rattle.gql_inputs.specs.Values.{value_of}
use Rattle.gql_types.specs.Written.{Written, written}
use Rattle.gql_types.specs.declared.schema.Schema.{Schema}
use Rattle.gql_types.specs.declared.schema_type.SchemaType.{SchemaType}
use Rattle.gql_serving.proofs.Needing.{FieldsDiffer, takes_only}
use Rattle.gql_serving.proofs.Numbering.{Numbers, object_of, field_number, is_edge, contains_at}
use Rattle.gql_serving.proofs.Taking.{none_some, any_are, IsField, entry_of}

module _ (s : Schema) where
  -- ---- a default that is taken is that of an input field, which has a number

  abbrev HasNumber : InputValueDefinition → Type 0
  HasNumber d = (i : ℕ) × Numbers s i d

  some_same : (f d : InputValueDefinition) → Some f ≡ Some d → f ≡ d
  some_same f d is = cc is

  of_field : (fs : List Field) (t : Written) (m : Entry) (d : InputValueDefinition) → (m.definition ≡ None) ⊎ IsField s fs t m → m.definition ≡ Some d → HasNumber d
  of_field fs t m d (inl none) defined = absurd (none_some d (sym none ∙ defined))
  of_field fs t m d (inr (u, f, at, of_kind, has, same)) defined =
      let o = object_of s t u at of_kind in
      let y = field_number s t o.0 f o.1 (subst (λ (v : SchemaType). Contains v.input_fields f) (sym o.2) has) in
      (y.0.number, subst (Numbers s y.0.number) (some_same f.node d (sym (ap (λ (e : Entry). e.definition) same) ∙ defined)) y.3)

  of_entry : (fs : List Field) (e : Option Written) (es : List Entry) (m : Entry) (d : InputValueDefinition) → entries_for s fs e ≡ are es → Contains es m → m.definition ≡ Some d → HasNumber d
  of_entry fs None es m d is has defined = absurd (none_some d (sym (any_are fs es m is has) ∙ defined))
  of_entry fs (Some t) es m d is has defined = of_field fs t m d (entry_of s fs t es m has is) defined

  taken : {x : Input} {e : Option Written} {d : InputValueDefinition} → Takes s x e d → HasNumber d
  taken (here {fs} {e} {d} es m is has defined left) = of_entry (all_fields fs) e es m d is has defined
  taken (in_field es m x is has gives takes) = taken takes
  taken (in_item item x is has fits takes) = taken takes

  last : {d e : InputValueDefinition} → LeadsTo s d e → HasNumber e
  last (one takes) = taken takes.2
  last (more takes rest) = last rest

  source : {d e : InputValueDefinition} → LeadsTo s d e → is_some d.default ≡ true
  source (one takes) = ap is_some takes.1
  source (more takes rest) = ap is_some takes.1

  -- ---- each step is an edge

  module _ (differ : FieldsDiffer s) (once : (f : Sited InputValueDefinition) → Contains (all_inputs s) f → (x : Literal) → f.node.default ≡ Some x → repeats (value_of x) ≡ []) where
    once_at : (d : InputValueDefinition) → HasNumber d → (x : Literal) → d.default ≡ Some x → repeats (value_of x) ≡ []
    once_at d h x is = once h.1.0 (contains_at (all_inputs s) h.0 h.1.0 h.1.1) x (ap (λ (e : InputValueDefinition). e.default) h.1.2 ∙ is)

    abbrev Leads : InputValueDefinition → ℕ → Type 0
    Leads d j = (i : ℕ) → Numbers s i d → IsEdge (default_graph s) i j

    abbrev Reaches : InputValueDefinition → ℕ → Type 0
    Reaches d j = (i : ℕ) → Numbers s i d → Trail (default_graph s) i j

    -- the objects within the default of a field
    abbrev values : InputValueDefinition → List ObjectValue
    values d = option_map_or (λ (x : Literal). object_values (objects s) x false (written d.of_type)) d.default []

    leads : (d : InputValueDefinition) (x : Literal) → d.default ≡ Some x → (o : ObjectValue) → Contains (object_values (objects s) x false (written d.of_type)) o → (j : ℕ) → Contains (missing_defaults o) j → Leads d j
    leads d x is o has j needs i (f, at, same) =
        let there : Contains (values d) o = subst (λ u. Contains (option_map_or (λ (x : Literal). object_values (objects s) x false (written d.of_type)) u []) o) (sym is) has in
        is_edge s i j f at (Contains-flat_map missing_defaults (values f.node) o j (subst (λ e. Contains (values e) o) (sym same) there) needs)

    step : (d e : InputValueDefinition) → HasNumber d → is_some e.default ≡ true → DefaultTakes s d e → (j : ℕ) × Numbers s j e × Leads d j
    step d e number some (x, is, takes) =
        let needs = takes_only s differ x false (written d.of_type) e some (once_at d number x is) refl takes in
        (needs.0, needs.1, leads d x is needs.2.0 needs.2.1 needs.0 needs.2.2)

    walk : {d e : InputValueDefinition} → LeadsTo s d e → HasNumber d → is_some e.default ≡ true → (j : ℕ) × Numbers s j e × Reaches d j
    walk (one {d} {e} takes) number some = let m = step d e number some takes in (m.0, m.1, λ i is. edge (m.2 i is))
    walk (more {d} {e} {f} takes rest) number some =
        let m = step d e number (source rest) takes in
        let r = walk rest (m.0, m.1) some in
        (r.0, r.1, λ i is. next (m.2 i is) (r.2 m.0 m.1))

    pub no_cycle : ((i : ℕ) (f : Sited InputValueDefinition) → slice_get (all_inputs s) i ≡ Some f → Trail (default_graph s) i i → ⊥) → HasNoCycle s
    no_cycle none d cycle =
        let r = walk cycle (last cycle) (source cycle) in
        none r.0 r.1.0 r.1.1 (r.2 r.0 r.1)
