-- Schema files without faults have what introspection needs: by S20 and P01 each type that a file
-- refers to is known, by S23 there is a query root, and by S03 no file extends a type of a reserved
-- name.
use Rattle.std.proofs.Common.{◌≡◌, ◌++◌, ◌||◌, inl, inr, ℕ, List, [], ◌∷◌, Bool, true, false, if◌then◌else◌, flat_map, find, bytes_eq, is_some, Option, Some, None, Contains, codes, refl, ap, sym, subst, ◌∙◌}
use Rattle.std.specs.List.{starts_with}
use Rattle.std.specs.Option.{option_map_or}
use Rattle.std.specs.Prelude.{eqb}
use Rattle.std.proofs.lemmas.List.Elements.{Contains-append_cases, Contains-append_left, Contains-append_right}
use Rattle.std.proofs.lemmas.Slice.Eq.{bytes_eq-Decides}
use Rattle.gql_ast.specs.declared.executable.OperationKind.{OperationKind}
use Rattle.gql_ast.specs.declared.executable.OperationKind.TheVariants as operation
use Rattle.gql_ast.specs.declared.files.Files.{Files}
use Rattle.gql_ast.specs.declared.rule.Rule.TheVariants as rule
use Rattle.gql_ast.specs.declared.text.Name.{Name}
use Rattle.gql_ast.specs.declared.type_ref.TypeRef.{TypeRef}
use Rattle.gql_ast.specs.declared.type_system.DirectiveDefinition.{DirectiveDefinition}
use Rattle.gql_ast.specs.declared.type_system.FieldDefinition.{FieldDefinition}
use Rattle.gql_ast.specs.declared.type_system.InputValueDefinition.{InputValueDefinition}
use Rattle.gql_ast.specs.declared.type_system.RootOperation.{RootOperation}
use Rattle.gql_ast.specs.declared.type_system.SchemaDefinition.{SchemaDefinition}
use Rattle.gql_ast.specs.declared.type_system.SchemaExtension.{SchemaExtension}
use Rattle.gql_ast.specs.declared.type_system.TypeDefinition.{TypeDefinition}
use Rattle.gql_ast.specs.declared.type_system.TypeExtension.{TypeExtension}
use Rattle.gql_built_in.specs.declared.sited.Sited.{Sited}
use Rattle.gql_cycles.proofs.Members.{Contains-nil, Contains-here, Contains-cases, Contains-map, Contains-map_from, Contains-flat_map, Contains-flat_map_from}
use Rattle.gql_faults.specs.Faults.{fault_of}
use Rattle.gql_faults.specs.TypeNames as of_ref
use Rattle.gql_intro.specs.InFiles.{IsIntrospectable}
use Rattle.gql_intro.specs.SchemaNodes.{HasTypeNamed, IsFieldOf, IsInputOf, IsKnown}
use Rattle.gql_intro.proofs.Containing.{found}
use Rattle.gql_node_rules.specs.DefinedNames.{defined_names, definition_names, part_names}
use Rattle.gql_node_rules.specs.Nodes as nodes
use Rattle.gql_node_rules.specs.Nodes.{each, within}
use Rattle.gql_node_rules.specs.P01FloatReferences as p01
use Rattle.gql_node_rules.specs.References.{references, inputs, outputs, interfaces, members, roots, types_in}
use Rattle.gql_node_rules.specs.S03ReservedNames as s03
use Rattle.gql_node_rules.specs.S20UnknownTypes as s20
use Rattle.gql_schema_rules.specs.S23MissingQueryRoot as s23
use Rattle.gql_schema_rules.specs.SchemaFaults.{by_s03, by_s20, by_s23, by_p01, nodes_in}
use Rattle.gql_types.specs.Definitions.{definitions, schema_definitions, schema_extensions, type_extensions}
use Rattle.gql_types.specs.Kinds.{same_operation}
use Rattle.gql_types.specs.Roots.{defined, entries, implied}
use Rattle.gql_types.specs.Schemas.{root_of, schema_of, type_named}
use Rattle.gql_types.specs.Written.{written}
use Rattle.gql_types.specs.declared.roots.Root.{Root}
use Rattle.gql_types.specs.declared.schema.Schema.{Schema}
use Rattle.gql_types.specs.declared.schema_type.SchemaType.{SchemaType}
use Rattle.gql_serving.specs.SoundSchemas.{IsSound}
use Rattle.gql_serving.proofs.Sound.{fault_there}
use Rattle.gql_serving.proofs.Referring.{ds, extension_there, field_there, held_in, input_there, same_name, schema_extension_there, schema_there}

module _ (files : Files) (sound : IsSound files) where
  abbrev s : Schema
  s = schema_of files

  -- ---- a reference is known, by S20 and P01

  referred : (n : Sited Name) → Contains (references (nodes_in files)) n → is_some n.file ≡ true → HasTypeNamed s n.node.text
  referred n has placed = by (is_some (type_named s n.node.text)) (p01.is_float n.node.text) refl refl where
    by : (c float : Bool) → is_some (type_named s n.node.text) ≡ c → p01.is_float n.node.text ≡ float → HasTypeNamed s n.node.text
    by true float known e = known
    by false true unknown e =
        let x = fault_there rule.P01 n.node.text n.file n.node.place placed in
        absurd (sound x.0 (by_p01 (Contains-flat_map (p01.fault_of_name s) (references (nodes_in files)) n x.0 has
        (subst (λ c. Contains (if c then [] else p01.fault_of_unknown n) x.0) (sym unknown)
        (subst (λ c. Contains (if c then fault_of rule.P01 n else []) x.0) (sym e) x.1)))))
    by false false unknown e =
        let x = fault_there rule.S20 n.node.text n.file n.node.place placed in
        absurd (sound x.0 (by_s20 (Contains-flat_map (s20.fault_of_name s) (references (nodes_in files)) n x.0 has
        (subst (λ c. Contains (if c then [] else fault_of rule.S20 n) x.0) (sym (ap (λ c. c || p01.is_float n.node.text) unknown ∙ e)) x.1))))

  -- a type that is written so
  known_type : (n : Sited Name) (x : TypeRef) → n.node ≡ of_ref.name_in x → HasTypeNamed s n.node.text → IsKnown s (written x)
  known_type n x is has = subst (HasTypeNamed s) (ap (λ (m : Name). m.text) is ∙ same_name x) has

  abbrev all : nodes.AllNodes
  all = nodes_in files

  field_types : (f : FieldDefinition) → IsFieldOf s f → IsKnown s (written f.of_type)
  field_types f field = elim (field_there files f field) [
    | inl known ↦ known.0
    | inr g ↦
        let n : Sited Name = record { file = g.0.file; node = of_ref.name_in g.0.node.of_type } in
        let has : Contains (outputs all) n = Contains-map (λ (m : Sited FieldDefinition). record { file = m.file; node = of_ref.name_in m.node.of_type }) (nodes.fields (ds files)) g.0 g.1 in
        known_type n f.of_type (ap (λ (h : FieldDefinition). of_ref.name_in h.of_type) g.2)
        (referred n (Contains-append_right (inputs all) (outputs all ++ (interfaces all ++ (members all ++ roots all))) n
        (Contains-append_left (outputs all) (interfaces all ++ (members all ++ roots all)) n has)) g.3)
  ]

  input_types : (d : InputValueDefinition) → IsInputOf s d → IsKnown s (written d.of_type)
  input_types d input = elim (input_there files d input) [
    | inl known ↦ known
    | inr n ↦ known_type n.0 d.of_type n.2 (referred n.0 (Contains-append_left (inputs all) (outputs all ++ (interfaces all ++ (members all ++ roots all))) n.0 n.1) n.3)
  ]

  -- ---- no extension of a reserved name, by S03

  no_reserved : (e : Sited TypeExtension) → Contains (type_extensions (definitions files)) e → starts_with eqb e.node.name.text (codes "__") ≡ false
  no_reserved e has = by (s03.is_reserved e.node.name.text) refl where
    by : (c : Bool) → s03.is_reserved e.node.name.text ≡ c → c ≡ false
    by true reserved =
        let at = extension_there files e has in
        let n : Sited Name = record { file = e.file; node = e.node.name } in
        let x = fault_there rule.S03 n.node.text n.file n.node.place at.1 in
        let named : Contains (each (λ (d : TypeExtension). d.name) all.type_extensions) n = Contains-map (λ (m : Sited TypeExtension). record { file = m.file; node = m.node.name }) all.type_extensions e at.0 in
        let listed : Contains (definition_names all) n = Contains-append_right (each (λ (d : TypeDefinition). d.name) all.types) (each (λ (d : TypeExtension). d.name) all.type_extensions ++ each (λ (d : DirectiveDefinition). d.name) all.directives) n
        (Contains-append_left (each (λ (d : TypeExtension). d.name) all.type_extensions) (each (λ (d : DirectiveDefinition). d.name) all.directives) n named) in
        absurd (sound x.0 (by_s03 (Contains-flat_map s03.fault_of_name (defined_names all) n x.0 (Contains-append_left (definition_names all) (part_names all) n listed)
        (subst (λ c. Contains (if c then fault_of rule.S03 n else []) x.0) (sym reserved) x.1))))
    by false plain = refl

  -- ---- the query root, by S23 and S20

  abbrev RootKnown : Root → Type 0
  RootKnown r = HasTypeNamed s r.name.node.text

  of_entry : (file : Option (List ℕ)) (roots_there : List RootOperation) → ((r : RootOperation) → Contains roots_there r → HasTypeNamed s r.name.text)
      → (r : Root) → Contains (entries file roots_there) r → RootKnown r
  of_entry file roots_there each_known r has =
      let x = Contains-map_from (λ (r : RootOperation). record { kind = r.kind; entry = Some r.place; name = record { file = file; node = r.name } }) roots_there r has in
      subst RootKnown x.2 (each_known x.0 x.1)

  root_reference : (n : Sited Name) → Contains (roots all) n → is_some n.file ≡ true → HasTypeNamed s n.node.text
  root_reference n has placed = referred n (Contains-append_right (inputs all) (outputs all ++ (interfaces all ++ (members all ++ roots all))) n
      (Contains-append_right (outputs all) (interfaces all ++ (members all ++ roots all)) n
      (Contains-append_right (interfaces all) (members all ++ roots all) n (Contains-append_right (members all) (roots all) n has)))) placed

  of_definition : (d : Sited SchemaDefinition) → Contains (schema_definitions (definitions files)) d → (r : Root) → Contains (entries d.file d.node.roots) r → RootKnown r
  of_definition d has = of_entry d.file d.node.roots (λ r there.
      let at = schema_there files d has in
      let n : Sited Name = record { file = d.file; node = r.name } in
      root_reference n (Contains-append_left (within (λ (x : SchemaDefinition). types_in x.roots) all.schemas) (within (λ (e : SchemaExtension). types_in e.roots) all.schema_extensions) n
      (held_in (λ (x : SchemaDefinition). types_in x.roots) all.schemas d at.0 r.name (Contains-map (λ (x : RootOperation). x.name) d.node.roots r there))) at.1)

  of_extension : (d : Sited SchemaExtension) → Contains (schema_extensions (definitions files)) d → (r : Root) → Contains (entries d.file d.node.roots) r → RootKnown r
  of_extension d has = of_entry d.file d.node.roots (λ r there.
      let at = schema_extension_there files d has in
      let n : Sited Name = record { file = d.file; node = r.name } in
      root_reference n (Contains-append_right (within (λ (x : SchemaDefinition). types_in x.roots) all.schemas) (within (λ (e : SchemaExtension). types_in e.roots) all.schema_extensions) n
      (held_in (λ (x : SchemaExtension). types_in x.roots) all.schema_extensions d at.0 r.name (Contains-map (λ (x : RootOperation). x.name) d.node.roots r there))) at.1)

  abbrev implied_root : OperationKind → SchemaType → Root
  implied_root k u = record { kind = k; entry = None; name = record { file = u.definition.file; node = u.definition.node.name } }

  of_implied : (k : OperationKind) (name : List ℕ) (r : Root) → Contains (implied s.types k name) r → RootKnown r
  of_implied k name r has = by (find (λ (u : SchemaType). bytes_eq name u.definition.node.name.text) s.types) refl has where
    by : (o : Option SchemaType) → find (λ (u : SchemaType). bytes_eq name u.definition.node.name.text) s.types ≡ o → Contains (option_map_or (λ (u : SchemaType). implied_root k u ∷ []) o []) r → RootKnown r
    by None none h = absurd (Contains-nil r h)
    by (Some u) some h = elim (Contains-cases r (implied_root k u) [] h) [
      | inl e ↦
          let same : name ≡ u.definition.node.name.text = (bytes_eq-Decides name u.definition.node.name.text).0 (found (λ (v : SchemaType). bytes_eq name v.definition.node.name.text) s.types u some).1 in
          subst RootKnown (sym e) (subst (HasTypeNamed s) same (ap is_some some))
      | inr none ↦ absurd (Contains-nil r none)
    ]

  abbrev three : List Root
  three = implied s.types operation.Query (codes "Query") ++ (implied s.types operation.Mutation (codes "Mutation") ++ implied s.types operation.Subscription (codes "Subscription"))

  of_all_implied : (r : Root) → Contains three r → RootKnown r
  of_all_implied r has =
      let first = implied s.types operation.Query (codes "Query") in
      let second = implied s.types operation.Mutation (codes "Mutation") in
      let third = implied s.types operation.Subscription (codes "Subscription") in
      elim (Contains-append_cases first (second ++ third) r has) [
        | inl h ↦ of_implied operation.Query (codes "Query") r h
        | inr h ↦ elim (Contains-append_cases second third r h) [
          | inl m ↦ of_implied operation.Mutation (codes "Mutation") r m
          | inr l ↦ of_implied operation.Subscription (codes "Subscription") r l
        ]
      ]

  of_defined : (definitions_there : List (Sited SchemaDefinition)) → ((d : Sited SchemaDefinition) → Contains definitions_there d → Contains (schema_definitions (definitions files)) d)
      → (r : Root) → Contains (defined s.types definitions_there) r → RootKnown r
  of_defined [] within_all r has = of_all_implied r has
  of_defined (d ∷ later) within_all r has = of_definition d (within_all d (Contains-here d later)) r has

  root_known : (r : Root) → Contains s.roots r → RootKnown r
  root_known r has =
      let extended = flat_map (λ (e : Sited SchemaExtension). entries e.file e.node.roots) (schema_extensions (definitions files)) in
      elim (Contains-append_cases (defined s.types (schema_definitions (definitions files))) extended r has) [
        | inl h ↦ of_defined (schema_definitions (definitions files)) (λ d there. there) r h
        | inr h ↦
            let e = Contains-flat_map_from (λ (e : Sited SchemaExtension). entries e.file e.node.roots) (schema_extensions (definitions files)) r h in
            of_extension e.0 e.1 r e.2
      ]

  query_root : (root : Root) × (root_of s operation.Query ≡ Some root) × HasTypeNamed s root.name.node.text
  query_root = by (root_of s operation.Query) refl where
    by : (o : Option Root) → root_of s operation.Query ≡ o → (root : Root) × (root_of s operation.Query ≡ Some root) × HasTypeNamed s root.name.node.text
    by (Some root) some = (root, some, root_known root (found (λ (r : Root). same_operation operation.Query r.kind) s.roots root some).0)
    by None none = absurd (sound s23.missing_query_root (by_s23 (subst (λ (o : Option Root). Contains (if is_some o then [] else s23.missing_query_root ∷ []) s23.missing_query_root) (sym none) (Contains-here s23.missing_query_root []))))

  pub introspectable : IsIntrospectable files
  introspectable = record {
    has_field_types = field_types;
    has_input_types = input_types;
    has_query_root = query_root;
    extends_no_reserved = no_reserved;
  }
