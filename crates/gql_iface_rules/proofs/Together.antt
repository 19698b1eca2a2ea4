-- The faults by the rules of this crate, from what the code adds by each.
use Rattle.std.proofs.Common.{◌↔◌, ◌⊎◌, inl, inr, List, ◌++◌, Contains}
use Rattle.std.proofs.lemmas.List.Elements.{Contains-append_left, Contains-append_right, Contains-append_cases}
use Rattle.gql_ast.specs.declared.fault.Fault.{Fault}
use Rattle.gql_iface_rules.specs.InterfaceFaults.{listed_faults, IsInterfaceFault, by_s09, by_s10, by_s11, by_s12, by_s13, by_s14, by_s15, by_s17, by_s19, by_s26}
use Rattle.gql_iface_rules.specs.S09BadInterfaceNames as s09
use Rattle.gql_iface_rules.specs.S10SelfImplementation as s10
use Rattle.gql_iface_rules.specs.S11UndeclaredInterfaces as s11
use Rattle.gql_iface_rules.specs.S12MissingFields as s12
use Rattle.gql_iface_rules.specs.S13MissingArguments as s13
use Rattle.gql_iface_rules.specs.S14ExtraRequiredArguments as s14
use Rattle.gql_iface_rules.specs.S15IncompatibleFieldTypes as s15
use Rattle.gql_iface_rules.specs.S17InputObjectCycles as s17
use Rattle.gql_iface_rules.specs.S19DefaultValueCycles as s19
use Rattle.gql_iface_rules.specs.S26DirectiveCycles as s26
use Rattle.gql_types.specs.declared.schema.Schema.{Schema}
use Rattle.gql_iface_rules.specs.Pairing.{IsFaultOfTypes}
use Rattle.gql_iface_rules.specs.Quiet.{IsFaultOn}
use Rattle.gql_iface_rules.proofs.MetPairs.{by_type_13, by_type_14, by_type_15, of_types}

module _ (s : Schema) (f : Fault) where
  of_listed : Contains (listed_faults s) f → IsInterfaceFault s f
  of_listed h = elim (Contains-append_cases (s09.faults s) (s10.faults s ++ (s11.faults s ++ s12.faults s)) f h) [
    | inl a4 ↦ by_s09 a4
    | inr b4 ↦ elim (Contains-append_cases (s10.faults s) (s11.faults s ++ s12.faults s) f b4) [
      | inl a3 ↦ by_s10 a3
      | inr b3 ↦ elim (Contains-append_cases (s11.faults s) (s12.faults s) f b3) [
        | inl a2 ↦ by_s11 a2
        | inr b2 ↦ by_s12 b2
      ]
    ]
  ]

  of_pairs : IsFaultOfTypes s s.types f → IsInterfaceFault s f
  of_pairs h = elim (of_types s f h) [
    | inl a ↦ by_s13 a
    | inr b ↦ elim b [ inl c ↦ by_s14 c | inr c ↦ by_s15 c ]
  ]

  -- what the code holds after each of the steps
  module _ (one two three four : List Fault) (by_types : Contains one f ↔ IsFaultOn s s.types f)
      (by17 : Contains two f ↔ (Contains one f ⊎ s17.IsFault s f))
      (by19 : Contains three f ↔ (Contains two f ⊎ s19.IsFault s f)) (by26 : Contains four f ↔ (Contains three f ⊎ s26.IsFault s f)) where
    pub sound : Contains four f → IsInterfaceFault s f
    sound h = elim (by26.0 h) [
      | inr c ↦ by_s26 c
      | inl h3 ↦ elim (by19.0 h3) [
        | inr c ↦ by_s19 c
        | inl h2 ↦ elim (by17.0 h2) [
          | inr c ↦ by_s17 c
          | inl h1 ↦ elim (by_types.0 h1) [ inr c ↦ of_pairs c | inl h0 ↦ of_listed h0 ]
        ]
      ]
    ]

    from_first : Contains one f → Contains four f
    from_first h = by26.1 (inl (by19.1 (inl (by17.1 (inl h)))))

    from_listed : Contains (listed_faults s) f → Contains four f
    from_listed h = from_first (by_types.1 (inl h))

    from_pairs : IsFaultOfTypes s s.types f → Contains four f
    from_pairs h = from_first (by_types.1 (inr h))

    pub complete : IsInterfaceFault s f → Contains four f
    complete (by_s09 h) = from_listed (Contains-append_left (s09.faults s) (s10.faults s ++ (s11.faults s ++ s12.faults s)) f h)
    complete (by_s10 h) = from_listed (Contains-append_right (s09.faults s) (s10.faults s ++ (s11.faults s ++ s12.faults s)) f
        (Contains-append_left (s10.faults s) (s11.faults s ++ s12.faults s) f h))
    complete (by_s11 h) = from_listed (Contains-append_right (s09.faults s) (s10.faults s ++ (s11.faults s ++ s12.faults s)) f
        (Contains-append_right (s10.faults s) (s11.faults s ++ s12.faults s) f (Contains-append_left (s11.faults s) (s12.faults s) f h)))
    complete (by_s12 h) = from_listed (Contains-append_right (s09.faults s) (s10.faults s ++ (s11.faults s ++ s12.faults s)) f
        (Contains-append_right (s10.faults s) (s11.faults s ++ s12.faults s) f (Contains-append_right (s11.faults s) (s12.faults s) f h)))
    complete (by_s13 h) = from_pairs (by_type_13 s f h)
    complete (by_s14 h) = from_pairs (by_type_14 s f h)
    complete (by_s15 h) = from_pairs (by_type_15 s f h)
    complete (by_s17 c) = by26.1 (inl (by19.1 (inl (by17.1 (inr c)))))
    complete (by_s19 c) = by26.1 (inl (by19.1 (inr c)))
    complete (by_s26 c) = by26.1 (inr c)
