-- The types that are checked after an edit are enough.
use Rattle.std.proofs.Common.{◌≡◌, ◌∙◌, inl, inr, ◌&&◌, ℕ, List, Bool, true, false, map, flat_map, Contains, refl, sym, ap, subst}
use Rattle.std.specs.Prelude.{◌||◌, not, if◌then◌else◌, IsTrue}
use Rattle.std.specs.List.{All}
use Rattle.std.proofs.lemmas.List.Elements.{All-contains}
use Rattle.gql_ast.specs.declared.fault.Fault.{Fault}
use Rattle.gql_ast.specs.declared.type_system.DirectiveDefinition.{DirectiveDefinition}
use Rattle.gql_built_in.specs.declared.sited.Sited.{Sited}
use Rattle.gql_cycles.specs.Names.{Leads, Steps, one, more}
use Rattle.gql_faults.specs.Directives.{first_directives}
use Rattle.gql_types.specs.Edits.{KeepsOthers}
use Rattle.gql_types.specs.declared.schema.Schema.{Schema}
use Rattle.gql_types.specs.declared.schema_type.SchemaType.{SchemaType}
use Rattle.gql_iface_rules.specs.Alike.{KeepsInterfaces}
use Rattle.gql_iface_rules.specs.Checked.{AreEnough, HasRowsOf}
use Rattle.gql_iface_rules.specs.KnownNames.{AsksOfKnown}
use Rattle.gql_iface_rules.specs.Quiet.{IsFaultOn, IsQuiet, types_named}
use Rattle.gql_iface_rules.specs.S17InputObjectCycles.{input_row, input_rows}
use Rattle.gql_iface_rules.specs.S19Plain.{TypeNeedsNone}
use Rattle.gql_iface_rules.specs.S26DirectiveCycles.{directive_row}
use Rattle.gql_iface_rules.specs.S26Leads.{LeadsNowhere, directive_leads}
use Rattle.gql_iface_rules.specs.declared.quiet.Checked.{Checked}
use Rattle.gql_iface_rules.specs.declared.quiet.Quiet.{Quiet}
use Rattle.gql_iface_rules.proofs.Members.{Contains-flat_map, Contains-flat_map_from}
use Rattle.gql_iface_rules.proofs.KnownNames.{all_of, both, same_faults, still_known}
use Rattle.gql_iface_rules.proofs.OnTypes.{edited_types, only_types, was_there}

-- ---- rows of input objects

-- by rows that are all among others, what leads to a name leads to it by the others
leads_by : (rows others : List Steps) → ((r : Steps) → Contains rows r → Contains others r) → {a b : List ℕ} → Leads rows a b → Leads others a b
leads_by rows others are (one s) = one (s.0, are s.0 s.1, s.2, s.3)
leads_by rows others are (more s l) = more (s.0, are s.0 s.1, s.2, s.3) (leads_by rows others are l)

module _ (names : List (List ℕ)) (old s : Schema) (keeps : KeepsOthers names old s) where
  rows_kept : HasRowsOf old (types_named names s) → (r : Steps) → Contains (input_rows s) r → Contains (input_rows old) r
  rows_kept has r h =
      let f = Contains-flat_map_from (λ (t : SchemaType). input_row t.kind t) s.types r h in
      elim (was_there names old s keeps f.0 f.1) [
        | inl edited ↦ has f.0 r edited f.2
        | inr before ↦ Contains-flat_map (λ (t : SchemaType). input_row t.kind t) old.types f.0 r before f.2
      ]

  pub no_input_cycle : HasRowsOf old (types_named names s) → ((n : List ℕ) → Leads (input_rows old) n n → ⊥) → (n : List ℕ) → Leads (input_rows s) n n → ⊥
  no_input_cycle has none n h = none n (leads_by (input_rows s) (input_rows old) (rows_kept has) h)

  -- what holds of all types before, and of the edited types, holds of all types
  all_kept_from : (P : SchemaType → Type 0) → ((t : SchemaType) → Contains old.types t → P t) → All P (types_named names s) → All P s.types
  all_kept_from P before edited = all_of P s.types (λ t there. elim (was_there names old s keeps t there) [
    | inl e ↦ All-contains P (types_named names s) t edited e
    | inr b ↦ before t b
  ])

  pub all_kept : (P : SchemaType → Type 0) → All P old.types → All P (types_named names s) → All P s.types
  all_kept P before edited = all_kept_from P (λ t b. All-contains P old.types t before b) edited

  same_leads : old.directives ≡ s.directives → directive_leads old ≡ directive_leads s
  same_leads same = ap (λ (ds : List (Sited DirectiveDefinition)). flat_map (λ (r : Steps). r.leads) (map directive_row (first_directives ds))) same

  module _ (types all : List SchemaType) (is : types ≡ types_named names s) (whole : all ≡ s.types) where
    interfaces_enough : (enough may_come : Bool) (checked : List SchemaType) → checked ≡ (if enough then types else all)
        → (enough ≡ true → KeepsInterfaces may_come old s × ((f : Fault) → IsFaultOn old old.types f → ⊥))
        → (IsTrue may_come → All (AsksOfKnown old) old.types)
        → (f : Fault) → IsFaultOn s s.types f → IsFaultOn s checked f
    interfaces_enough true may_come checked by known asked f h =
        let k = known refl in
        subst (λ ts. IsFaultOn s ts f) (sym (by ∙ is))
        (edited_types names old s keeps (λ t g there. same_faults may_come old s k.0 asked t there g) k.1 f h)
    interfaces_enough false may_come checked by known asked f h = subst (λ ts. IsFaultOn s ts f) (sym (by ∙ whole)) h

    names_enough : (enough may_come : Bool) (checked : List SchemaType) → checked ≡ (if enough then types else all)
        → (enough ≡ true → KeepsInterfaces may_come old s) → (IsTrue may_come → All (AsksOfKnown old) old.types)
        → (not enough || may_come) ≡ true → All (AsksOfKnown s) checked → All (AsksOfKnown s) s.types
    names_enough true may_come checked by known asked may h = all_kept_from (AsksOfKnown s)
        (λ t there. still_known may_come old s (known refl) asked t there (All-contains (AsksOfKnown old) old.types t (asked may) there))
        (subst (λ ts. All (AsksOfKnown s) ts) (by ∙ is) h)
    names_enough false may_come checked by known asked may h = subst (λ ts. All (AsksOfKnown s) ts) (by ∙ whole) h

    interfaces_only : (enough : Bool) (checked : List SchemaType) → checked ≡ (if enough then types else all)
        → (f : Fault) → IsFaultOn s checked f → IsFaultOn s s.types f
    interfaces_only true checked by f h = only_types names s f (subst (λ ts. IsFaultOn s ts f) (by ∙ is) h)
    interfaces_only false checked by f h = subst (λ ts. IsFaultOn s ts f) (by ∙ whole) h

    all_enough : (P : SchemaType → Type 0) (enough : Bool) (checked : List SchemaType) → checked ≡ (if enough then types else all)
        → (enough ≡ true → All P old.types) → All P checked → All P s.types
    all_enough P true checked by known h = all_kept P (known refl) (subst (λ ts. All P ts) (by ∙ is) h)
    all_enough P false checked by known h = subst (λ ts. All P ts) (by ∙ whole) h

    pub are_enough : (c : Checked) (were : Quiet) (keeps_interfaces keeps_inputs has_same_directives : Bool)
        → (keeps_interfaces ≡ true → were.interfaces ≡ true) → (keeps_interfaces ≡ true → KeepsInterfaces were.names old s)
        → (keeps_inputs ≡ true → HasRowsOf old types) → (has_same_directives ≡ true → old.directives ≡ s.directives)
        → IsQuiet old were
        → c.interfaces.now ≡ (if keeps_interfaces then types else all)
        → c.others_known ≡ (not keeps_interfaces || were.names)
        → c.skips_inputs ≡ (were.inputs && keeps_inputs)
        → c.defaults.now ≡ (if were.defaults then types else all)
        → c.directives.now ≡ (if were.directives && has_same_directives then types else all)
        → AreEnough s c
    are_enough c were keeps_interfaces keeps_inputs has_same_directives was same rows directives quiet by_interfaces by_names by_inputs by_defaults by_directives = record {
      interfaces = interfaces_enough keeps_interfaces were.names c.interfaces.now by_interfaces (λ k. (same k, quiet.interfaces (was k))) quiet.names;
      only = interfaces_only keeps_interfaces c.interfaces.now by_interfaces;
      names = λ known. names_enough keeps_interfaces were.names c.interfaces.now by_interfaces same quiet.names (sym by_names ∙ known);
      inputs = λ skips.
          let k = both were.inputs keeps_inputs (sym by_inputs ∙ skips) in
          no_input_cycle (subst (λ ts. HasRowsOf old ts) is (rows k.1)) (quiet.inputs k.0);
      defaults = all_enough TypeNeedsNone were.defaults c.defaults.now by_defaults quiet.defaults;
      directives = all_enough (LeadsNowhere (directive_leads s)) (were.directives && has_same_directives) c.directives.now by_directives
          (λ e. let k = both were.directives has_same_directives e in
          subst (λ ls. All (LeadsNowhere ls) old.types) (same_leads (directives k.1)) (quiet.directives k.0).nowhere);
    }
