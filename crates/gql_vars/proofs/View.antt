-- Facts that agree on what a definition reads give it the same faults by the rules on variables.
use Rattle.std.specs.Prelude.{◌≡◌, ◌↔◌, ℕ, List, [], ◌∷◌, ◌++◌, flat_map, refl, bytes_eq, is_some, Some, Contains}
use Rattle.std.proofs.Common.{ap, sym, ◌∙◌, subst}
use Rattle.std.proofs.lemmas.List.Elements.{Contains-append_left, Contains-append_right}
use Rattle.gql_ast.specs.declared.definition.Definition.{Definition}
use Rattle.gql_ast.specs.declared.definition.Tree.TheVariants as tree
use Rattle.gql_ast.specs.declared.executable.Operation.{Operation}
use Rattle.gql_ast.specs.declared.executable.VariableDefinition.{VariableDefinition}
use Rattle.gql_ast.specs.declared.fault.Fault.{Fault}
use Rattle.gql_ast.specs.declared.fault.FilePlace.{FilePlace}
use Rattle.gql_facts.proofs.Agreement.{AgreeAt, reaches_there, reaches_back, operation_same, fragment_same}
use Rattle.gql_facts.specs.Floats.{float_read}
use Rattle.gql_facts.specs.ListMembers.{Contains-here, Contains-there, Contains-flat_map, found_in}
use Rattle.gql_facts.specs.OwnReads.{own_reads, executable_reads, operation_reads, composite_reads, directive_reads, variable_reads, set_reads, set_scan, selected_root, root_parent, operation_nodes, fragment_nodes}
use Rattle.gql_facts.specs.Reads.{own, of_fragment, of_type, Reads, Reaches, Agree, types_in, type_reads}
use Rattle.gql_facts.specs.Worlds.{Facts}
use Rattle.gql_types.specs.WrittenTypes.{named_type}
use Rattle.gql_types.specs.Written.{written}
use Rattle.gql_facts.specs.declared.fact.FragmentFact.{FragmentFact}
use Rattle.gql_facts.specs.declared.key.Key.{Key}
use Rattle.gql_facts.specs.declared.key.Key.TheVariants as key
use Rattle.gql_rules.specs.Answers.{kind_in}
use Rattle.gql_rules.specs.LocalFaults.{owner_of}
use Rattle.gql_vars.proofs.TypeNames.{same_name}
use Rattle.gql_vars.proofs.UsageView.{parts_same}
use Rattle.gql_vars.specs.P04FloatVariables as p04
use Rattle.gql_vars.specs.Usages.{Usage, Usages, in_operation, in_fragment as in_member, operation_usages, fragment_usages}
use Rattle.gql_vars.specs.Uses.{Use, Uses, in_definition, in_fragment}
use Rattle.gql_vars.specs.V26VariablesAreInputTypes as v26
use Rattle.gql_vars.specs.V27AllVariableUsesDefined as v27
use Rattle.gql_vars.specs.V28AllVariablesUsed as v28
use Rattle.gql_vars.specs.V29AllVariableUsagesAreAllowed as v29
use Rattle.gql_vars.specs.V29AllVariableUsagesAreAllowed.{is_judged}
use Rattle.gql_vars.specs.VariableFaults.{IsFaultOf, by_v25, by_v26, by_v27, by_v28, by_v29, by_p04, IsVariableFault, of_operation}
use Rattle.gql_vars.specs.Variables.{type_name, variable_name, variable_named}

module _ (v u : Facts) (owner : FilePlace) where
  kind_same : (x : VariableDefinition) (ks : List Key) → AgreeAt v u (variable_reads x ++ ks)
      → u (key.KindOf (type_name x).text) ≡ v (key.KindOf (type_name x).text)
  kind_same x ks agree = subst (λ n. u (key.KindOf n) ≡ v (key.KindOf n)) (sym (same_name x.of_type)) (agree (key.KindOf (named_type (written x.of_type)))
      (Contains-here (key.KindOf (named_type (written x.of_type))) (key.InputOf (named_type (written x.of_type)) ∷ key.EnumOf (named_type (written x.of_type)) ∷ directive_reads x.directives ++ ks)))

  types_same : (xs : List VariableDefinition) → AgreeAt v u (flat_map variable_reads xs)
      → flat_map (v26.faults u owner) xs ≡ flat_map (v26.faults v owner) xs
  types_same [] agree = refl
  types_same (x ∷ xs) agree =
      ap (λ f. v26.faults_by owner (type_name x) (kind_in f) ++ flat_map (v26.faults u owner) xs) (kind_same x (flat_map variable_reads xs) agree)
      ∙ ap (λ l. v26.faults v owner x ++ l) (types_same xs (λ k h. agree k (Contains-append_right (variable_reads x) (flat_map variable_reads xs) k h)))

  floats_same : (xs : List VariableDefinition) → AgreeAt v u (flat_map variable_reads xs)
      → flat_map (p04.faults u owner) xs ≡ flat_map (p04.faults v owner) xs
  floats_same [] agree = refl
  floats_same (x ∷ xs) agree =
      ap (λ f. p04.faults_by owner (type_name x) (kind_in f) ++ flat_map (p04.faults u owner) xs) (kind_same x (flat_map variable_reads xs) agree)
      ∙ ap (λ l. p04.faults v owner x ++ l) (floats_same xs (λ k h. agree k (Contains-append_right (variable_reads x) (flat_map variable_reads xs) k h)))

module _ (v u : Facts) (d : Definition) (agree : Agree v u d) where
  uses_there : (x : Use) → Uses v d x → Uses u d x
  uses_there x (in_definition h) = in_definition h
  uses_there x (in_fragment r h) = in_fragment (reaches_there v u d agree r) h

  uses_back : (x : Use) → Uses u d x → Uses v d x
  uses_back x (in_definition h) = in_definition h
  uses_back x (in_fragment r h) = in_fragment (reaches_back v u d agree r) h

  closed : (j k : Key) (t : List ℕ) → Reads v d j → Contains (types_in (v j)) t → Contains (type_reads t) k → Reads v d k
  closed j k t asked named has = of_type asked named has

  float : Reads v d float_read
  float = own (Contains-here float_read (executable_reads v d.tree))

  -- the usages in a fragment that is reached
  member_usages : (g : FragmentFact) → Reaches v d g → fragment_usages u g.file g.fragment ≡ fragment_usages v g.file g.fragment
  member_usages g r =
      let f = g.fragment in
      let c = composite_reads (Some f.condition.text) in
      let ds = directive_reads f.directives in
      let scan = set_reads v (fragment_nodes v f) in
      parts_same (Reads v d) v u agree closed float g.file f.directives (fragment_nodes u f) (fragment_nodes v f)
      (fragment_same v u f (λ k h. agree k (of_fragment r h))).nodes
      (λ k h. of_fragment r (Contains-append_right c (ds ++ scan) k (Contains-append_left ds scan k h)))
      (λ k h. of_fragment r (Contains-append_right c (ds ++ scan) k (Contains-append_right ds scan k h)))

  module _ (o : Operation) (is : d.tree ≡ tree.Operation o) where
    asked : (k : Key) → Contains (operation_reads v o) k → Contains (own_reads v d) k
    asked k h = subst (λ t. Contains (own_reads v (record { file = d.file; tree = t })) k) (sym is) (Contains-there k float_read (operation_reads v o) h)

    variables_asked : AgreeAt v u (flat_map variable_reads o.variables)
    variables_asked k h =
        let r = composite_reads (selected_root v o.kind) in
        let ds = directive_reads o.directives in
        let vars = flat_map variable_reads o.variables in
        let scan = set_scan v (root_parent v o.kind) o.selections in
        agree k (own (asked k (Contains-there k (key.RootOf o.kind) (r ++ (ds ++ (vars ++ scan)))
        (Contains-append_right r (ds ++ (vars ++ scan)) k (Contains-append_right ds (vars ++ scan) k (Contains-append_left vars scan k h))))))

    types : flat_map (v26.faults u (owner_of d)) o.variables ≡ flat_map (v26.faults v (owner_of d)) o.variables
    types = types_same v u (owner_of d) o.variables variables_asked

    floats : flat_map (p04.faults u (owner_of d)) o.variables ≡ flat_map (p04.faults v (owner_of d)) o.variables
    floats = floats_same v u (owner_of d) o.variables variables_asked

    -- the type of a variable is judged in both or in neither
    judged_same : (w : VariableDefinition) → Contains o.variables w → is_judged u w ≡ is_judged v w
    judged_same w h =
        let n = named_type (written w.of_type) in
        let k = key.KindOf n in
        let stays = variables_asked k (Contains-flat_map variable_reads o.variables w k h (Contains-here k (key.InputOf n ∷ key.EnumOf n ∷ directive_reads w.directives))) in
        ap (λ a. is_some (kind_in a))
        (subst (λ m. u (key.KindOf m) ≡ v (key.KindOf m)) (sym (same_name w.of_type)) stays)

    first_judged : (w : VariableDefinition) (q : List ℕ) → variable_named o.variables q ≡ Some w → is_judged u w ≡ is_judged v w
    first_judged w q is = judged_same w (found_in (λ (y : VariableDefinition). bytes_eq q (variable_name y)) o.variables w is).0

    -- usages
    own_usages : operation_usages u d.file o ≡ operation_usages v d.file o
    own_usages =
        let r = composite_reads (selected_root v o.kind) in
        let ds = directive_reads o.directives in
        let vars = flat_map variable_reads o.variables in
        let scan = set_scan v (root_parent v o.kind) o.selections in
        parts_same (Reads v d) v u agree closed float d.file o.directives (operation_nodes u o) (operation_nodes v o)
        (operation_same v u o (λ k h. agree k (own (asked k h)))).nodes
        (λ k h. own (asked k (Contains-there k (key.RootOf o.kind) (r ++ (ds ++ (vars ++ scan)))
        (Contains-append_right r (ds ++ (vars ++ scan)) k (Contains-append_left ds (vars ++ scan) k h)))))
        (λ k h. own (asked k (Contains-there k (key.RootOf o.kind) (r ++ (ds ++ (vars ++ scan)))
        (Contains-append_right r (ds ++ (vars ++ scan)) k (Contains-append_right ds (vars ++ scan) k (Contains-append_right vars scan k h))))))

    usages_there : (x : Usage) → Usages v d o x → Usages u d o x
    usages_there x (in_operation h) = in_operation (subst (λ l. Contains l x) (sym own_usages) h)
    usages_there x (in_member {g = g} r h) = in_member (reaches_there v u d agree r) (subst (λ l. Contains l x) (sym (member_usages g r)) h)

    usages_back : (x : Usage) → Usages u d o x → Usages v d o x
    usages_back x (in_operation h) = in_operation (subst (λ l. Contains l x) own_usages h)
    usages_back x (in_member {g = g} r h) = let r' = reaches_back v u d agree r in in_member r' (subst (λ l. Contains l x) (member_usages g r') h)

    there : (f : Fault) → IsFaultOf v d o f → IsFaultOf u d o f
    there f (by_v25 h) = by_v25 h
    there f (by_v26 h) = by_v26 (subst (λ l. Contains l f) (sym types) h)
    there f (by_p04 h) = by_p04 (subst (λ l. Contains l f) (sym floats) h)
    there f (by_v27 (v27.undefined {x = x} h e)) = by_v27 (v27.undefined (uses_there x h) e)
    there f (by_v28 (v28.unused e none)) = by_v28 (v28.unused e (λ x h. none x (uses_back x h)))
    there f (by_v29 (v29.not_allowed {x = x} {v = w} h is judged off)) =
        by_v29 (v29.not_allowed (usages_there x h) is (first_judged w x.used.name is ∙ judged) off)

    back : (f : Fault) → IsFaultOf u d o f → IsFaultOf v d o f
    back f (by_v25 h) = by_v25 h
    back f (by_v26 h) = by_v26 (subst (λ l. Contains l f) types h)
    back f (by_p04 h) = by_p04 (subst (λ l. Contains l f) floats h)
    back f (by_v27 (v27.undefined {x = x} h e)) = by_v27 (v27.undefined (uses_back x h) e)
    back f (by_v28 (v28.unused e none)) = by_v28 (v28.unused e (λ x h. none x (uses_there x h)))
    back f (by_v29 (v29.not_allowed {x = x} {v = w} h is judged off)) =
        by_v29 (v29.not_allowed (usages_back x h) is (sym (first_judged w x.used.name is) ∙ judged) off)

  faults_there : (f : Fault) → IsVariableFault v d f → IsVariableFault u d f
  faults_there f (of_operation {o = o} is h) = of_operation is (there o is f h)

  faults_back : (f : Fault) → IsVariableFault u d f → IsVariableFault v d f
  faults_back f (of_operation {o = o} is h) = of_operation is (back o is f h)

  pub same_faults : (f : Fault) → IsVariableFault v d f ↔ IsVariableFault u d f
  same_faults f = (faults_there f, faults_back f)
