-- Names of interfaces of which a type lacks no field: wherever they are listed, S12 finds nothing.
use Rattle.std.proofs.Common.{◌≡◌, ◌+◌, ◌++◌, ◌<◌, ◌||◌, ℕ, List, [], ◌∷◌, Bool, true, false, Option, Some, None, sym, subst, refl, length, get_or, take, flat_map, is_some, bytes_eq, arith, suc, if◌then◌else◌}
use Rattle.std.specs.Prelude.{Contains}
use Rattle.std.specs.Option.{option_map_or}
use Rattle.std.proofs.lemmas.Bool.{false≢true}
use Rattle.std.proofs.lemmas.Slice.Eq.{bytes_eq-Decides}
use Rattle.gql_ast.specs.declared.fault.Fault.{Fault}
use Rattle.gql_ast.specs.declared.text.Name.{Name}
use Rattle.gql_ast.specs.declared.type_system.FieldDefinition.{FieldDefinition}
use Rattle.gql_built_in.specs.declared.sited.Sited.{Sited}
use Rattle.gql_types.specs.declared.schema.Schema.{Schema}
use Rattle.gql_types.specs.declared.schema_type.SchemaType.{SchemaType}
use Rattle.gql_iface_rules.specs.Implementing.{Implements, field_in, interface_named}
use Rattle.gql_iface_rules.specs.S12MissingFields.{missing_field, missing_fields}
use Rattle.gql_iface_rules.proofs.Members.{first_of_all, one_more}
use Rattle.gql_iface_rules.specs.Settled.{AreSettled, HasField, missing_by}

none_of_one : (nothing found : List Fault) (b : Bool) → b ≡ true → nothing ≡ [] → (if b then nothing else found) ≡ []
none_of_one nothing found true h e = e
none_of_one nothing found false h e = absurd (false≢true h)

-- none of these fields is missing
none_missing : (i : Implements) (fields : List (Sited FieldDefinition)) → ((f : Sited FieldDefinition) → Contains fields f → HasField i.of_type f)
    → flat_map (missing_field i) fields ≡ []
none_missing i [] h = refl
none_missing i (f ∷ fields) h =
    let here : missing_field i f ≡ [] = none_of_one _ _ (is_some (field_in i.of_type.fields f.node.name.text)) (h f (first_of_all f fields)) refl in
    let rest : flat_map (missing_field i) fields ≡ [] = none_missing i fields (λ g k. h g (one_more g f fields k)) in
    rw (here, rest) refl

-- a name of an interface of which nothing is missing, with the interface that it names
none_by : (t : SchemaType) (m : Sited Name) (o : Option SchemaType) (i : SchemaType) → o ≡ Some i
    → ((f : Sited FieldDefinition) → Contains i.fields f → HasField t f)
    → flat_map missing_fields (option_map_or (λ (j : SchemaType). record { of_type = t; name = m; interface = j } ∷ []) o []) ≡ []
none_by t m o i e h =
    let here : missing_fields (record { of_type = t; name = m; interface = i }) ≡ [] = none_missing (record { of_type = t; name = m; interface = i }) i.fields h in
    rw (e, here) refl

pub none_of_name : (s : Schema) (t : SchemaType) (m : Sited Name) (i : SchemaType) → interface_named s m.node.text ≡ Some i
    → ((f : Sited FieldDefinition) → Contains i.fields f → HasField t f) → missing_by s t m ≡ []
none_of_name s t m i e h = none_by t m (interface_named s m.node.text) i e h

only_left : (a : Bool) → (a || false) ≡ true → a ≡ true
only_left true h = refl
only_left false h = h

settled_case : (s : Schema) (t : SchemaType) (n : Sited Name) (i : SchemaType) (has : List ℕ → Bool) → interface_named s n.node.text ≡ Some i
    → ((f : Sited FieldDefinition) → Contains i.fields f → HasField t f) → AreSettled s t has
    → (m : Sited Name) (b : Bool) → bytes_eq m.node.text n.node.text ≡ b → (has m.node.text || b) ≡ true → missing_by s t m ≡ []
settled_case s t n i has e h was m true is k =
    let same : m.node.text ≡ n.node.text = (bytes_eq-Decides m.node.text n.node.text).0 is in
    none_of_name s t m i (subst (λ q. interface_named s q ≡ Some i) (sym same) e) h
settled_case s t n i has e h was m false is k = was m (only_left (has m.node.text) k)

-- a name more
pub settled_more : (s : Schema) (t : SchemaType) (n : Sited Name) (i : SchemaType) (has new : List ℕ → Bool) → interface_named s n.node.text ≡ Some i
    → ((f : Sited FieldDefinition) → Contains i.fields f → HasField t f)
    → ((q : List ℕ) → new q ≡ (has q || bytes_eq q n.node.text)) → AreSettled s t has → AreSettled s t new
settled_more s t n i has new e h news was m k = settled_case s t n i has e h was m (bytes_eq m.node.text n.node.text) refl (subst (λ b. b ≡ true) (news m.node.text) k)
