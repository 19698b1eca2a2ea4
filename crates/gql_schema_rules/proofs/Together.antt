-- The faults by all rules, from the lists that the code joins.
use Rattle.std.proofs.Common.{◌≡◌, ◌↔◌, inl, inr, sym, subst, List, ◌++◌, Contains}
use Rattle.std.proofs.lemmas.List.Elements.{Contains-append_left, Contains-append_right, Contains-append_cases}
use Rattle.gql_ast.specs.declared.fault.Fault.{Fault}
use Rattle.gql_ast.specs.declared.files.Files.{Files}
use Rattle.gql_types.specs.declared.schema.Schema.{Schema}
use Rattle.gql_iface_rules.specs.InterfaceFaults as iface
use Rattle.gql_node_rules.specs.NodeFaults.{node_faults}
use Rattle.gql_node_rules.specs.Nodes.{AllNodes}
use Rattle.gql_schema_rules.specs.S01DuplicateTypes as s01
use Rattle.gql_schema_rules.specs.S02DuplicateDirectives as s02
use Rattle.gql_node_rules.specs.S03ReservedNames as s03
use Rattle.gql_schema_rules.specs.S04BuiltInNames as s04
use Rattle.gql_schema_rules.specs.S05EmptyTypes as s05
use Rattle.gql_schema_rules.specs.S06DuplicateFields as s06
use Rattle.gql_schema_rules.specs.S07DuplicateValues as s07
use Rattle.gql_schema_rules.specs.S08DuplicateArguments as s08
use Rattle.gql_node_rules.specs.S16NonInputTypes as s16
use Rattle.gql_schema_rules.specs.S18BadDefaultValues as s18
use Rattle.gql_node_rules.specs.S20UnknownTypes as s20
use Rattle.gql_node_rules.specs.S21NonOutputTypes as s21
use Rattle.gql_node_rules.specs.S22NonObjectMembers as s22
use Rattle.gql_schema_rules.specs.S23MissingQueryRoot as s23
use Rattle.gql_schema_rules.specs.S24NonObjectRoots as s24
use Rattle.gql_schema_rules.specs.S25SharedRootTypes as s25
use Rattle.gql_schema_rules.specs.S27ExtensionsOfUnknownTypes as s27
use Rattle.gql_schema_rules.specs.S28ExtensionsOfAnotherKind as s28
use Rattle.gql_node_rules.specs.S29UnknownDirectives as s29
use Rattle.gql_node_rules.specs.S30BadLocations as s30
use Rattle.gql_node_rules.specs.S31RepeatedDirectives as s31
use Rattle.gql_node_rules.specs.S32BadArguments as s32
use Rattle.gql_node_rules.specs.S33BadArgumentValues as s33
use Rattle.gql_schema_rules.specs.S34DuplicateSchemas as s34
use Rattle.gql_node_rules.specs.S35DeprecatedRequiredInputs as s35
use Rattle.gql_node_rules.specs.S36MisplacedAppends as s36
use Rattle.gql_node_rules.specs.P01FloatReferences as p01
use Rattle.gql_schema_rules.specs.P02SubscriptionRoots as p02
use Rattle.gql_schema_rules.specs.RuleGroups.{definition_faults, type_faults, root_faults}
use Rattle.gql_schema_rules.specs.SchemaFaults.{FaultsBy, nodes_in, by_s01, by_s02, by_s03, by_s04, by_s05, by_s06, by_s07, by_s08, by_s09, by_s10, by_s11, by_s12, by_s13, by_s14, by_s15, by_s16, by_s17, by_s18, by_s19, by_s20, by_s21, by_s22, by_s23, by_s24, by_s25, by_s26, by_s27, by_s28, by_s29, by_s30, by_s31, by_s32, by_s33, by_s34, by_s35, by_s36, by_p01, by_p02}

module _ (files : Files) (s : Schema) (f : Fault) where
  abbrev n : AllNodes
  n = nodes_in files

  of_interfaces : iface.IsInterfaceFault s f → FaultsBy files s f
  of_interfaces (iface.by_s09 h) = by_s09 h
  of_interfaces (iface.by_s10 h) = by_s10 h
  of_interfaces (iface.by_s11 h) = by_s11 h
  of_interfaces (iface.by_s12 h) = by_s12 h
  of_interfaces (iface.by_s13 h) = by_s13 h
  of_interfaces (iface.by_s14 h) = by_s14 h
  of_interfaces (iface.by_s15 h) = by_s15 h
  of_interfaces (iface.by_s17 h) = by_s17 h
  of_interfaces (iface.by_s19 h) = by_s19 h
  of_interfaces (iface.by_s26 h) = by_s26 h

  of_nodes : Contains (node_faults n s) f → FaultsBy files s f
  of_nodes h = elim (Contains-append_cases (s03.faults n) (((s16.faults n s) ++ ((s21.faults n s) ++ (s22.faults n s))) ++ (((s20.faults n s) ++ (p01.faults n s)) ++ (((s29.faults n s) ++ ((s30.faults n s) ++ ((s31.faults n s) ++ ((s32.faults n s) ++ (s33.faults n s))))) ++ ((s35.faults n) ++ (s36.faults n s))))) f h) [
    | inl a1 ↦ by_s03 a1
    | inr b1 ↦ elim (Contains-append_cases ((s16.faults n s) ++ ((s21.faults n s) ++ (s22.faults n s))) (((s20.faults n s) ++ (p01.faults n s)) ++ (((s29.faults n s) ++ ((s30.faults n s) ++ ((s31.faults n s) ++ ((s32.faults n s) ++ (s33.faults n s))))) ++ ((s35.faults n) ++ (s36.faults n s)))) f b1) [
      | inl a2 ↦ elim (Contains-append_cases (s16.faults n s) ((s21.faults n s) ++ (s22.faults n s)) f a2) [
        | inl a3 ↦ by_s16 a3
        | inr b3 ↦ elim (Contains-append_cases (s21.faults n s) (s22.faults n s) f b3) [
          | inl a4 ↦ by_s21 a4
          | inr b4 ↦ by_s22 b4
        ]
      ]
      | inr b2 ↦ elim (Contains-append_cases ((s20.faults n s) ++ (p01.faults n s)) (((s29.faults n s) ++ ((s30.faults n s) ++ ((s31.faults n s) ++ ((s32.faults n s) ++ (s33.faults n s))))) ++ ((s35.faults n) ++ (s36.faults n s))) f b2) [
        | inl a5 ↦ elim (Contains-append_cases (s20.faults n s) (p01.faults n s) f a5) [
          | inl a6 ↦ by_s20 a6
          | inr b6 ↦ by_p01 b6
        ]
        | inr b5 ↦ elim (Contains-append_cases ((s29.faults n s) ++ ((s30.faults n s) ++ ((s31.faults n s) ++ ((s32.faults n s) ++ (s33.faults n s))))) ((s35.faults n) ++ (s36.faults n s)) f b5) [
          | inl a7 ↦ elim (Contains-append_cases (s29.faults n s) ((s30.faults n s) ++ ((s31.faults n s) ++ ((s32.faults n s) ++ (s33.faults n s)))) f a7) [
            | inl a8 ↦ by_s29 a8
            | inr b8 ↦ elim (Contains-append_cases (s30.faults n s) ((s31.faults n s) ++ ((s32.faults n s) ++ (s33.faults n s))) f b8) [
              | inl a9 ↦ by_s30 a9
              | inr b9 ↦ elim (Contains-append_cases (s31.faults n s) ((s32.faults n s) ++ (s33.faults n s)) f b9) [
                | inl a10 ↦ by_s31 a10
                | inr b10 ↦ elim (Contains-append_cases (s32.faults n s) (s33.faults n s) f b10) [
                  | inl a11 ↦ by_s32 a11
                  | inr b11 ↦ by_s33 b11
                ]
              ]
            ]
          ]
          | inr b7 ↦ elim (Contains-append_cases (s35.faults n) (s36.faults n s) f b7) [
            | inl a12 ↦ by_s35 a12
            | inr b12 ↦ by_s36 b12
          ]
        ]
      ]
    ]
  ]

  of_definitions : Contains (definition_faults n s) f → FaultsBy files s f
  of_definitions h = elim (Contains-append_cases (s01.faults n) ((s02.faults n) ++ ((s04.faults n) ++ ((s27.faults n s) ++ (s28.faults n s)))) f h) [
    | inl a11 ↦ by_s01 a11
    | inr b11 ↦ elim (Contains-append_cases (s02.faults n) ((s04.faults n) ++ ((s27.faults n s) ++ (s28.faults n s))) f b11) [
      | inl a12 ↦ by_s02 a12
      | inr b12 ↦ elim (Contains-append_cases (s04.faults n) ((s27.faults n s) ++ (s28.faults n s)) f b12) [
        | inl a13 ↦ by_s04 a13
        | inr b13 ↦ elim (Contains-append_cases (s27.faults n s) (s28.faults n s) f b13) [
          | inl a14 ↦ by_s27 a14
          | inr b14 ↦ by_s28 b14
        ]
      ]
    ]
  ]

  of_types : Contains (type_faults s) f → FaultsBy files s f
  of_types h = elim (Contains-append_cases (s05.faults s) ((s06.faults s) ++ ((s07.faults s) ++ ((s08.faults s) ++ (s18.faults s)))) f h) [
    | inl a15 ↦ by_s05 a15
    | inr b15 ↦ elim (Contains-append_cases (s06.faults s) ((s07.faults s) ++ ((s08.faults s) ++ (s18.faults s))) f b15) [
      | inl a16 ↦ by_s06 a16
      | inr b16 ↦ elim (Contains-append_cases (s07.faults s) ((s08.faults s) ++ (s18.faults s)) f b16) [
        | inl a17 ↦ by_s07 a17
        | inr b17 ↦ elim (Contains-append_cases (s08.faults s) (s18.faults s) f b17) [
          | inl a18 ↦ by_s08 a18
          | inr b18 ↦ by_s18 b18
        ]
      ]
    ]
  ]

  of_roots : Contains (root_faults files n s) f → FaultsBy files s f
  of_roots h = elim (Contains-append_cases (s23.faults s) ((s24.faults s) ++ ((s25.faults s) ++ ((s34.faults n s) ++ (p02.faults files s)))) f h) [
    | inl a19 ↦ by_s23 a19
    | inr b19 ↦ elim (Contains-append_cases (s24.faults s) ((s25.faults s) ++ ((s34.faults n s) ++ (p02.faults files s))) f b19) [
      | inl a20 ↦ by_s24 a20
      | inr b20 ↦ elim (Contains-append_cases (s25.faults s) ((s34.faults n s) ++ (p02.faults files s)) f b20) [
        | inl a21 ↦ by_s25 a21
        | inr b21 ↦ elim (Contains-append_cases (s34.faults n s) (p02.faults files s) f b21) [
          | inl a22 ↦ by_s34 a22
          | inr b22 ↦ by_p02 b22
        ]
      ]
    ]
  ]

  -- the joined lists
  abbrev joined : List Fault → List Fault
  joined ifaces = (((ifaces ++ node_faults n s) ++ definition_faults n s) ++ type_faults s) ++ root_faults files n s

  found : (ifaces : List Fault) → (Contains ifaces f → iface.IsInterfaceFault s f) → Contains (joined ifaces) f → FaultsBy files s f
  found ifaces sound h = elim (Contains-append_cases (((ifaces ++ node_faults n s) ++ definition_faults n s) ++ type_faults s) (root_faults files n s) f h) [
    | inr r ↦ of_roots r
    | inl h1 ↦ elim (Contains-append_cases ((ifaces ++ node_faults n s) ++ definition_faults n s) (type_faults s) f h1) [
      | inr r ↦ of_types r
      | inl h2 ↦ elim (Contains-append_cases (ifaces ++ node_faults n s) (definition_faults n s) f h2) [
        | inr r ↦ of_definitions r
        | inl h3 ↦ elim (Contains-append_cases ifaces (node_faults n s) f h3) [ inr r ↦ of_nodes r | inl r ↦ of_interfaces (sound r) ]
      ]
    ]
  ]

  in_roots : (ifaces : List Fault) → Contains (root_faults files n s) f → Contains (joined ifaces) f
  in_roots ifaces h = Contains-append_right (((ifaces ++ node_faults n s) ++ definition_faults n s) ++ type_faults s) (root_faults files n s) f h

  before_roots : (ifaces : List Fault) → Contains (((ifaces ++ node_faults n s) ++ definition_faults n s) ++ type_faults s) f → Contains (joined ifaces) f
  before_roots ifaces h = Contains-append_left (((ifaces ++ node_faults n s) ++ definition_faults n s) ++ type_faults s) (root_faults files n s) f h

  in_types : (ifaces : List Fault) → Contains (type_faults s) f → Contains (joined ifaces) f
  in_types ifaces h = before_roots ifaces (Contains-append_right ((ifaces ++ node_faults n s) ++ definition_faults n s) (type_faults s) f h)

  before_types : (ifaces : List Fault) → Contains ((ifaces ++ node_faults n s) ++ definition_faults n s) f → Contains (joined ifaces) f
  before_types ifaces h = before_roots ifaces (Contains-append_left ((ifaces ++ node_faults n s) ++ definition_faults n s) (type_faults s) f h)

  in_definitions : (ifaces : List Fault) → Contains (definition_faults n s) f → Contains (joined ifaces) f
  in_definitions ifaces h = before_types ifaces (Contains-append_right (ifaces ++ node_faults n s) (definition_faults n s) f h)

  in_nodes : (ifaces : List Fault) → Contains (node_faults n s) f → Contains (joined ifaces) f
  in_nodes ifaces h = before_types ifaces (Contains-append_left (ifaces ++ node_faults n s) (definition_faults n s) f (Contains-append_right ifaces (node_faults n s) f h))

  in_interfaces : (ifaces : List Fault) → Contains ifaces f → Contains (joined ifaces) f
  in_interfaces ifaces h = before_types ifaces (Contains-append_left (ifaces ++ node_faults n s) (definition_faults n s) f (Contains-append_left ifaces (node_faults n s) f h))

  all : (ifaces : List Fault) → (iface.IsInterfaceFault s f → Contains ifaces f) → FaultsBy files s f → Contains (joined ifaces) f
  all ifaces complete (by_s01 h) = in_definitions ifaces (Contains-append_left (s01.faults n) ((s02.faults n) ++ ((s04.faults n) ++ ((s27.faults n s) ++ (s28.faults n s)))) f h)
  all ifaces complete (by_s02 h) = in_definitions ifaces (Contains-append_right (s01.faults n) ((s02.faults n) ++ ((s04.faults n) ++ ((s27.faults n s) ++ (s28.faults n s)))) f (Contains-append_left (s02.faults n) ((s04.faults n) ++ ((s27.faults n s) ++ (s28.faults n s))) f h))
  all ifaces complete (by_s03 h) = in_nodes ifaces (Contains-append_left (s03.faults n) (((s16.faults n s) ++ ((s21.faults n s) ++ (s22.faults n s))) ++ (((s20.faults n s) ++ (p01.faults n s)) ++ (((s29.faults n s) ++ ((s30.faults n s) ++ ((s31.faults n s) ++ ((s32.faults n s) ++ (s33.faults n s))))) ++ ((s35.faults n) ++ (s36.faults n s))))) f h)
  all ifaces complete (by_s04 h) = in_definitions ifaces (Contains-append_right (s01.faults n) ((s02.faults n) ++ ((s04.faults n) ++ ((s27.faults n s) ++ (s28.faults n s)))) f (Contains-append_right (s02.faults n) ((s04.faults n) ++ ((s27.faults n s) ++ (s28.faults n s))) f (Contains-append_left (s04.faults n) ((s27.faults n s) ++ (s28.faults n s)) f h)))
  all ifaces complete (by_s05 h) = in_types ifaces (Contains-append_left (s05.faults s) ((s06.faults s) ++ ((s07.faults s) ++ ((s08.faults s) ++ (s18.faults s)))) f h)
  all ifaces complete (by_s06 h) = in_types ifaces (Contains-append_right (s05.faults s) ((s06.faults s) ++ ((s07.faults s) ++ ((s08.faults s) ++ (s18.faults s)))) f (Contains-append_left (s06.faults s) ((s07.faults s) ++ ((s08.faults s) ++ (s18.faults s))) f h))
  all ifaces complete (by_s07 h) = in_types ifaces (Contains-append_right (s05.faults s) ((s06.faults s) ++ ((s07.faults s) ++ ((s08.faults s) ++ (s18.faults s)))) f (Contains-append_right (s06.faults s) ((s07.faults s) ++ ((s08.faults s) ++ (s18.faults s))) f (Contains-append_left (s07.faults s) ((s08.faults s) ++ (s18.faults s)) f h)))
  all ifaces complete (by_s08 h) = in_types ifaces (Contains-append_right (s05.faults s) ((s06.faults s) ++ ((s07.faults s) ++ ((s08.faults s) ++ (s18.faults s)))) f (Contains-append_right (s06.faults s) ((s07.faults s) ++ ((s08.faults s) ++ (s18.faults s))) f (Contains-append_right (s07.faults s) ((s08.faults s) ++ (s18.faults s)) f (Contains-append_left (s08.faults s) (s18.faults s) f h))))
  all ifaces complete (by_s09 h) = in_interfaces ifaces (complete (iface.by_s09 h))
  all ifaces complete (by_s10 h) = in_interfaces ifaces (complete (iface.by_s10 h))
  all ifaces complete (by_s11 h) = in_interfaces ifaces (complete (iface.by_s11 h))
  all ifaces complete (by_s12 h) = in_interfaces ifaces (complete (iface.by_s12 h))
  all ifaces complete (by_s13 h) = in_interfaces ifaces (complete (iface.by_s13 h))
  all ifaces complete (by_s14 h) = in_interfaces ifaces (complete (iface.by_s14 h))
  all ifaces complete (by_s15 h) = in_interfaces ifaces (complete (iface.by_s15 h))
  all ifaces complete (by_s16 h) = in_nodes ifaces (Contains-append_right (s03.faults n) (((s16.faults n s) ++ ((s21.faults n s) ++ (s22.faults n s))) ++ (((s20.faults n s) ++ (p01.faults n s)) ++ (((s29.faults n s) ++ ((s30.faults n s) ++ ((s31.faults n s) ++ ((s32.faults n s) ++ (s33.faults n s))))) ++ ((s35.faults n) ++ (s36.faults n s))))) f (Contains-append_left ((s16.faults n s) ++ ((s21.faults n s) ++ (s22.faults n s))) (((s20.faults n s) ++ (p01.faults n s)) ++ (((s29.faults n s) ++ ((s30.faults n s) ++ ((s31.faults n s) ++ ((s32.faults n s) ++ (s33.faults n s))))) ++ ((s35.faults n) ++ (s36.faults n s)))) f (Contains-append_left (s16.faults n s) ((s21.faults n s) ++ (s22.faults n s)) f h)))
  all ifaces complete (by_s17 h) = in_interfaces ifaces (complete (iface.by_s17 h))
  all ifaces complete (by_s18 h) = in_types ifaces (Contains-append_right (s05.faults s) ((s06.faults s) ++ ((s07.faults s) ++ ((s08.faults s) ++ (s18.faults s)))) f (Contains-append_right (s06.faults s) ((s07.faults s) ++ ((s08.faults s) ++ (s18.faults s))) f (Contains-append_right (s07.faults s) ((s08.faults s) ++ (s18.faults s)) f (Contains-append_right (s08.faults s) (s18.faults s) f h))))
  all ifaces complete (by_s19 h) = in_interfaces ifaces (complete (iface.by_s19 h))
  all ifaces complete (by_s20 h) = in_nodes ifaces (Contains-append_right (s03.faults n) (((s16.faults n s) ++ ((s21.faults n s) ++ (s22.faults n s))) ++ (((s20.faults n s) ++ (p01.faults n s)) ++ (((s29.faults n s) ++ ((s30.faults n s) ++ ((s31.faults n s) ++ ((s32.faults n s) ++ (s33.faults n s))))) ++ ((s35.faults n) ++ (s36.faults n s))))) f (Contains-append_right ((s16.faults n s) ++ ((s21.faults n s) ++ (s22.faults n s))) (((s20.faults n s) ++ (p01.faults n s)) ++ (((s29.faults n s) ++ ((s30.faults n s) ++ ((s31.faults n s) ++ ((s32.faults n s) ++ (s33.faults n s))))) ++ ((s35.faults n) ++ (s36.faults n s)))) f (Contains-append_left ((s20.faults n s) ++ (p01.faults n s)) (((s29.faults n s) ++ ((s30.faults n s) ++ ((s31.faults n s) ++ ((s32.faults n s) ++ (s33.faults n s))))) ++ ((s35.faults n) ++ (s36.faults n s))) f (Contains-append_left (s20.faults n s) (p01.faults n s) f h))))
  all ifaces complete (by_s21 h) = in_nodes ifaces (Contains-append_right (s03.faults n) (((s16.faults n s) ++ ((s21.faults n s) ++ (s22.faults n s))) ++ (((s20.faults n s) ++ (p01.faults n s)) ++ (((s29.faults n s) ++ ((s30.faults n s) ++ ((s31.faults n s) ++ ((s32.faults n s) ++ (s33.faults n s))))) ++ ((s35.faults n) ++ (s36.faults n s))))) f (Contains-append_left ((s16.faults n s) ++ ((s21.faults n s) ++ (s22.faults n s))) (((s20.faults n s) ++ (p01.faults n s)) ++ (((s29.faults n s) ++ ((s30.faults n s) ++ ((s31.faults n s) ++ ((s32.faults n s) ++ (s33.faults n s))))) ++ ((s35.faults n) ++ (s36.faults n s)))) f (Contains-append_right (s16.faults n s) ((s21.faults n s) ++ (s22.faults n s)) f (Contains-append_left (s21.faults n s) (s22.faults n s) f h))))
  all ifaces complete (by_s22 h) = in_nodes ifaces (Contains-append_right (s03.faults n) (((s16.faults n s) ++ ((s21.faults n s) ++ (s22.faults n s))) ++ (((s20.faults n s) ++ (p01.faults n s)) ++ (((s29.faults n s) ++ ((s30.faults n s) ++ ((s31.faults n s) ++ ((s32.faults n s) ++ (s33.faults n s))))) ++ ((s35.faults n) ++ (s36.faults n s))))) f (Contains-append_left ((s16.faults n s) ++ ((s21.faults n s) ++ (s22.faults n s))) (((s20.faults n s) ++ (p01.faults n s)) ++ (((s29.faults n s) ++ ((s30.faults n s) ++ ((s31.faults n s) ++ ((s32.faults n s) ++ (s33.faults n s))))) ++ ((s35.faults n) ++ (s36.faults n s)))) f (Contains-append_right (s16.faults n s) ((s21.faults n s) ++ (s22.faults n s)) f (Contains-append_right (s21.faults n s) (s22.faults n s) f h))))
  all ifaces complete (by_s23 h) = in_roots ifaces (Contains-append_left (s23.faults s) ((s24.faults s) ++ ((s25.faults s) ++ ((s34.faults n s) ++ (p02.faults files s)))) f h)
  all ifaces complete (by_s24 h) = in_roots ifaces (Contains-append_right (s23.faults s) ((s24.faults s) ++ ((s25.faults s) ++ ((s34.faults n s) ++ (p02.faults files s)))) f (Contains-append_left (s24.faults s) ((s25.faults s) ++ ((s34.faults n s) ++ (p02.faults files s))) f h))
  all ifaces complete (by_s25 h) = in_roots ifaces (Contains-append_right (s23.faults s) ((s24.faults s) ++ ((s25.faults s) ++ ((s34.faults n s) ++ (p02.faults files s)))) f (Contains-append_right (s24.faults s) ((s25.faults s) ++ ((s34.faults n s) ++ (p02.faults files s))) f (Contains-append_left (s25.faults s) ((s34.faults n s) ++ (p02.faults files s)) f h)))
  all ifaces complete (by_s26 h) = in_interfaces ifaces (complete (iface.by_s26 h))
  all ifaces complete (by_s27 h) = in_definitions ifaces (Contains-append_right (s01.faults n) ((s02.faults n) ++ ((s04.faults n) ++ ((s27.faults n s) ++ (s28.faults n s)))) f (Contains-append_right (s02.faults n) ((s04.faults n) ++ ((s27.faults n s) ++ (s28.faults n s))) f (Contains-append_right (s04.faults n) ((s27.faults n s) ++ (s28.faults n s)) f (Contains-append_left (s27.faults n s) (s28.faults n s) f h))))
  all ifaces complete (by_s28 h) = in_definitions ifaces (Contains-append_right (s01.faults n) ((s02.faults n) ++ ((s04.faults n) ++ ((s27.faults n s) ++ (s28.faults n s)))) f (Contains-append_right (s02.faults n) ((s04.faults n) ++ ((s27.faults n s) ++ (s28.faults n s))) f (Contains-append_right (s04.faults n) ((s27.faults n s) ++ (s28.faults n s)) f (Contains-append_right (s27.faults n s) (s28.faults n s) f h))))
  all ifaces complete (by_s29 h) = in_nodes ifaces (Contains-append_right (s03.faults n) (((s16.faults n s) ++ ((s21.faults n s) ++ (s22.faults n s))) ++ (((s20.faults n s) ++ (p01.faults n s)) ++ (((s29.faults n s) ++ ((s30.faults n s) ++ ((s31.faults n s) ++ ((s32.faults n s) ++ (s33.faults n s))))) ++ ((s35.faults n) ++ (s36.faults n s))))) f (Contains-append_right ((s16.faults n s) ++ ((s21.faults n s) ++ (s22.faults n s))) (((s20.faults n s) ++ (p01.faults n s)) ++ (((s29.faults n s) ++ ((s30.faults n s) ++ ((s31.faults n s) ++ ((s32.faults n s) ++ (s33.faults n s))))) ++ ((s35.faults n) ++ (s36.faults n s)))) f (Contains-append_right ((s20.faults n s) ++ (p01.faults n s)) (((s29.faults n s) ++ ((s30.faults n s) ++ ((s31.faults n s) ++ ((s32.faults n s) ++ (s33.faults n s))))) ++ ((s35.faults n) ++ (s36.faults n s))) f (Contains-append_left ((s29.faults n s) ++ ((s30.faults n s) ++ ((s31.faults n s) ++ ((s32.faults n s) ++ (s33.faults n s))))) ((s35.faults n) ++ (s36.faults n s)) f (Contains-append_left (s29.faults n s) ((s30.faults n s) ++ ((s31.faults n s) ++ ((s32.faults n s) ++ (s33.faults n s)))) f h)))))
  all ifaces complete (by_s30 h) = in_nodes ifaces (Contains-append_right (s03.faults n) (((s16.faults n s) ++ ((s21.faults n s) ++ (s22.faults n s))) ++ (((s20.faults n s) ++ (p01.faults n s)) ++ (((s29.faults n s) ++ ((s30.faults n s) ++ ((s31.faults n s) ++ ((s32.faults n s) ++ (s33.faults n s))))) ++ ((s35.faults n) ++ (s36.faults n s))))) f (Contains-append_right ((s16.faults n s) ++ ((s21.faults n s) ++ (s22.faults n s))) (((s20.faults n s) ++ (p01.faults n s)) ++ (((s29.faults n s) ++ ((s30.faults n s) ++ ((s31.faults n s) ++ ((s32.faults n s) ++ (s33.faults n s))))) ++ ((s35.faults n) ++ (s36.faults n s)))) f (Contains-append_right ((s20.faults n s) ++ (p01.faults n s)) (((s29.faults n s) ++ ((s30.faults n s) ++ ((s31.faults n s) ++ ((s32.faults n s) ++ (s33.faults n s))))) ++ ((s35.faults n) ++ (s36.faults n s))) f (Contains-append_left ((s29.faults n s) ++ ((s30.faults n s) ++ ((s31.faults n s) ++ ((s32.faults n s) ++ (s33.faults n s))))) ((s35.faults n) ++ (s36.faults n s)) f (Contains-append_right (s29.faults n s) ((s30.faults n s) ++ ((s31.faults n s) ++ ((s32.faults n s) ++ (s33.faults n s)))) f (Contains-append_left (s30.faults n s) ((s31.faults n s) ++ ((s32.faults n s) ++ (s33.faults n s))) f h))))))
  all ifaces complete (by_s31 h) = in_nodes ifaces (Contains-append_right (s03.faults n) (((s16.faults n s) ++ ((s21.faults n s) ++ (s22.faults n s))) ++ (((s20.faults n s) ++ (p01.faults n s)) ++ (((s29.faults n s) ++ ((s30.faults n s) ++ ((s31.faults n s) ++ ((s32.faults n s) ++ (s33.faults n s))))) ++ ((s35.faults n) ++ (s36.faults n s))))) f (Contains-append_right ((s16.faults n s) ++ ((s21.faults n s) ++ (s22.faults n s))) (((s20.faults n s) ++ (p01.faults n s)) ++ (((s29.faults n s) ++ ((s30.faults n s) ++ ((s31.faults n s) ++ ((s32.faults n s) ++ (s33.faults n s))))) ++ ((s35.faults n) ++ (s36.faults n s)))) f (Contains-append_right ((s20.faults n s) ++ (p01.faults n s)) (((s29.faults n s) ++ ((s30.faults n s) ++ ((s31.faults n s) ++ ((s32.faults n s) ++ (s33.faults n s))))) ++ ((s35.faults n) ++ (s36.faults n s))) f (Contains-append_left ((s29.faults n s) ++ ((s30.faults n s) ++ ((s31.faults n s) ++ ((s32.faults n s) ++ (s33.faults n s))))) ((s35.faults n) ++ (s36.faults n s)) f (Contains-append_right (s29.faults n s) ((s30.faults n s) ++ ((s31.faults n s) ++ ((s32.faults n s) ++ (s33.faults n s)))) f (Contains-append_right (s30.faults n s) ((s31.faults n s) ++ ((s32.faults n s) ++ (s33.faults n s))) f (Contains-append_left (s31.faults n s) ((s32.faults n s) ++ (s33.faults n s)) f h)))))))
  all ifaces complete (by_s32 h) = in_nodes ifaces (Contains-append_right (s03.faults n) (((s16.faults n s) ++ ((s21.faults n s) ++ (s22.faults n s))) ++ (((s20.faults n s) ++ (p01.faults n s)) ++ (((s29.faults n s) ++ ((s30.faults n s) ++ ((s31.faults n s) ++ ((s32.faults n s) ++ (s33.faults n s))))) ++ ((s35.faults n) ++ (s36.faults n s))))) f (Contains-append_right ((s16.faults n s) ++ ((s21.faults n s) ++ (s22.faults n s))) (((s20.faults n s) ++ (p01.faults n s)) ++ (((s29.faults n s) ++ ((s30.faults n s) ++ ((s31.faults n s) ++ ((s32.faults n s) ++ (s33.faults n s))))) ++ ((s35.faults n) ++ (s36.faults n s)))) f (Contains-append_right ((s20.faults n s) ++ (p01.faults n s)) (((s29.faults n s) ++ ((s30.faults n s) ++ ((s31.faults n s) ++ ((s32.faults n s) ++ (s33.faults n s))))) ++ ((s35.faults n) ++ (s36.faults n s))) f (Contains-append_left ((s29.faults n s) ++ ((s30.faults n s) ++ ((s31.faults n s) ++ ((s32.faults n s) ++ (s33.faults n s))))) ((s35.faults n) ++ (s36.faults n s)) f (Contains-append_right (s29.faults n s) ((s30.faults n s) ++ ((s31.faults n s) ++ ((s32.faults n s) ++ (s33.faults n s)))) f (Contains-append_right (s30.faults n s) ((s31.faults n s) ++ ((s32.faults n s) ++ (s33.faults n s))) f (Contains-append_right (s31.faults n s) ((s32.faults n s) ++ (s33.faults n s)) f (Contains-append_left (s32.faults n s) (s33.faults n s) f h))))))))
  all ifaces complete (by_s33 h) = in_nodes ifaces (Contains-append_right (s03.faults n) (((s16.faults n s) ++ ((s21.faults n s) ++ (s22.faults n s))) ++ (((s20.faults n s) ++ (p01.faults n s)) ++ (((s29.faults n s) ++ ((s30.faults n s) ++ ((s31.faults n s) ++ ((s32.faults n s) ++ (s33.faults n s))))) ++ ((s35.faults n) ++ (s36.faults n s))))) f (Contains-append_right ((s16.faults n s) ++ ((s21.faults n s) ++ (s22.faults n s))) (((s20.faults n s) ++ (p01.faults n s)) ++ (((s29.faults n s) ++ ((s30.faults n s) ++ ((s31.faults n s) ++ ((s32.faults n s) ++ (s33.faults n s))))) ++ ((s35.faults n) ++ (s36.faults n s)))) f (Contains-append_right ((s20.faults n s) ++ (p01.faults n s)) (((s29.faults n s) ++ ((s30.faults n s) ++ ((s31.faults n s) ++ ((s32.faults n s) ++ (s33.faults n s))))) ++ ((s35.faults n) ++ (s36.faults n s))) f (Contains-append_left ((s29.faults n s) ++ ((s30.faults n s) ++ ((s31.faults n s) ++ ((s32.faults n s) ++ (s33.faults n s))))) ((s35.faults n) ++ (s36.faults n s)) f (Contains-append_right (s29.faults n s) ((s30.faults n s) ++ ((s31.faults n s) ++ ((s32.faults n s) ++ (s33.faults n s)))) f (Contains-append_right (s30.faults n s) ((s31.faults n s) ++ ((s32.faults n s) ++ (s33.faults n s))) f (Contains-append_right (s31.faults n s) ((s32.faults n s) ++ (s33.faults n s)) f (Contains-append_right (s32.faults n s) (s33.faults n s) f h))))))))
  all ifaces complete (by_s34 h) = in_roots ifaces (Contains-append_right (s23.faults s) ((s24.faults s) ++ ((s25.faults s) ++ ((s34.faults n s) ++ (p02.faults files s)))) f (Contains-append_right (s24.faults s) ((s25.faults s) ++ ((s34.faults n s) ++ (p02.faults files s))) f (Contains-append_right (s25.faults s) ((s34.faults n s) ++ (p02.faults files s)) f (Contains-append_left (s34.faults n s) (p02.faults files s) f h))))
  all ifaces complete (by_s35 h) = in_nodes ifaces (Contains-append_right (s03.faults n) (((s16.faults n s) ++ ((s21.faults n s) ++ (s22.faults n s))) ++ (((s20.faults n s) ++ (p01.faults n s)) ++ (((s29.faults n s) ++ ((s30.faults n s) ++ ((s31.faults n s) ++ ((s32.faults n s) ++ (s33.faults n s))))) ++ ((s35.faults n) ++ (s36.faults n s))))) f (Contains-append_right ((s16.faults n s) ++ ((s21.faults n s) ++ (s22.faults n s))) (((s20.faults n s) ++ (p01.faults n s)) ++ (((s29.faults n s) ++ ((s30.faults n s) ++ ((s31.faults n s) ++ ((s32.faults n s) ++ (s33.faults n s))))) ++ ((s35.faults n) ++ (s36.faults n s)))) f (Contains-append_right ((s20.faults n s) ++ (p01.faults n s)) (((s29.faults n s) ++ ((s30.faults n s) ++ ((s31.faults n s) ++ ((s32.faults n s) ++ (s33.faults n s))))) ++ ((s35.faults n) ++ (s36.faults n s))) f (Contains-append_right ((s29.faults n s) ++ ((s30.faults n s) ++ ((s31.faults n s) ++ ((s32.faults n s) ++ (s33.faults n s))))) ((s35.faults n) ++ (s36.faults n s)) f (Contains-append_left (s35.faults n) (s36.faults n s) f h)))))
  all ifaces complete (by_s36 h) = in_nodes ifaces (Contains-append_right (s03.faults n) (((s16.faults n s) ++ ((s21.faults n s) ++ (s22.faults n s))) ++ (((s20.faults n s) ++ (p01.faults n s)) ++ (((s29.faults n s) ++ ((s30.faults n s) ++ ((s31.faults n s) ++ ((s32.faults n s) ++ (s33.faults n s))))) ++ ((s35.faults n) ++ (s36.faults n s))))) f (Contains-append_right ((s16.faults n s) ++ ((s21.faults n s) ++ (s22.faults n s))) (((s20.faults n s) ++ (p01.faults n s)) ++ (((s29.faults n s) ++ ((s30.faults n s) ++ ((s31.faults n s) ++ ((s32.faults n s) ++ (s33.faults n s))))) ++ ((s35.faults n) ++ (s36.faults n s)))) f (Contains-append_right ((s20.faults n s) ++ (p01.faults n s)) (((s29.faults n s) ++ ((s30.faults n s) ++ ((s31.faults n s) ++ ((s32.faults n s) ++ (s33.faults n s))))) ++ ((s35.faults n) ++ (s36.faults n s))) f (Contains-append_right ((s29.faults n s) ++ ((s30.faults n s) ++ ((s31.faults n s) ++ ((s32.faults n s) ++ (s33.faults n s))))) ((s35.faults n) ++ (s36.faults n s)) f (Contains-append_right (s35.faults n) (s36.faults n s) f h)))))
  all ifaces complete (by_p01 h) = in_nodes ifaces (Contains-append_right (s03.faults n) (((s16.faults n s) ++ ((s21.faults n s) ++ (s22.faults n s))) ++ (((s20.faults n s) ++ (p01.faults n s)) ++ (((s29.faults n s) ++ ((s30.faults n s) ++ ((s31.faults n s) ++ ((s32.faults n s) ++ (s33.faults n s))))) ++ ((s35.faults n) ++ (s36.faults n s))))) f (Contains-append_right ((s16.faults n s) ++ ((s21.faults n s) ++ (s22.faults n s))) (((s20.faults n s) ++ (p01.faults n s)) ++ (((s29.faults n s) ++ ((s30.faults n s) ++ ((s31.faults n s) ++ ((s32.faults n s) ++ (s33.faults n s))))) ++ ((s35.faults n) ++ (s36.faults n s)))) f (Contains-append_left ((s20.faults n s) ++ (p01.faults n s)) (((s29.faults n s) ++ ((s30.faults n s) ++ ((s31.faults n s) ++ ((s32.faults n s) ++ (s33.faults n s))))) ++ ((s35.faults n) ++ (s36.faults n s))) f (Contains-append_right (s20.faults n s) (p01.faults n s) f h))))
  all ifaces complete (by_p02 h) = in_roots ifaces (Contains-append_right (s23.faults s) ((s24.faults s) ++ ((s25.faults s) ++ ((s34.faults n s) ++ (p02.faults files s)))) f (Contains-append_right (s24.faults s) ((s25.faults s) ++ ((s34.faults n s) ++ (p02.faults files s))) f (Contains-append_right (s25.faults s) ((s34.faults n s) ++ (p02.faults files s)) f (Contains-append_right (s34.faults n s) (p02.faults files s) f h))))

-- the faults that the code found
pub together : (files : Files) (s : Schema) (ifaces found_all : List Fault) → ((f : Fault) → Contains ifaces f → iface.IsInterfaceFault s f) → ((f : Fault) → iface.IsInterfaceFault s f → Contains ifaces f)
    → found_all ≡ (((ifaces ++ node_faults (nodes_in files) s) ++ definition_faults (nodes_in files) s) ++ type_faults s) ++ root_faults files (nodes_in files) s
    → (f : Fault) → Contains found_all f ↔ FaultsBy files s f
together files s ifaces found_all sound complete is f = (
  λ h. found files s f ifaces (sound f) (subst (λ xs. Contains xs f) is h),
  λ h. subst (λ xs. Contains xs f) (sym is) (all files s f ifaces (complete f) h),
)
