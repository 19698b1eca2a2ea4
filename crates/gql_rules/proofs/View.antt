-- Facts that agree on what a definition reads give it the same faults.
use Rattle.std.specs.Prelude.{◌≡◌, ◌↔◌, ◌&&◌, ℕ, List, [], ◌∷◌, ◌++◌, map, flat_map, refl, Bool, true, false, bytes_eq, is_some, Option, Some, None, Contains, if◌then◌else◌}
use Rattle.std.proofs.Common.{ap, sym, ◌∙◌, subst}
use Rattle.std.proofs.lemmas.List.Elements.{Contains-append_left, Contains-append_right}
use Rattle.gql_ast.specs.declared.definition.Definition.{Definition}
use Rattle.gql_ast.specs.declared.definition.Tree.{Tree}
use Rattle.gql_ast.specs.declared.definition.Tree.TheVariants as tree
use Rattle.gql_ast.specs.declared.executable.Field.{Field}
use Rattle.gql_ast.specs.declared.executable.Fragment.{Fragment}
use Rattle.gql_ast.specs.declared.executable.InlineFragment.{InlineFragment}
use Rattle.gql_ast.specs.declared.executable.Operation.{Operation}
use Rattle.gql_ast.specs.declared.executable.Selection.{Selection}
use Rattle.gql_ast.specs.declared.executable.Selection.TheVariants as s
use Rattle.gql_ast.specs.declared.executable.Spread.{Spread}
use Rattle.gql_ast.specs.declared.executable.VariableDefinition.{VariableDefinition}
use Rattle.gql_ast.specs.declared.fault.Fault.{Fault}
use Rattle.gql_ast.specs.declared.fault.FilePlace.{FilePlace}
use Rattle.gql_ast.specs.declared.literal.Argument.{Argument}
use Rattle.gql_ast.specs.declared.literal.Directive.{Directive}
use Rattle.gql_ast.specs.declared.literal.Literal.{Literal}
use Rattle.gql_ast.specs.declared.text.Name.{Name}
use Rattle.gql_ast.specs.declared.type_system.DirectiveLocation.{DirectiveLocation}
use Rattle.gql_ast.specs.declared.type_system.DirectiveLocation.TheVariants as location
use Rattle.gql_facts.specs.Floats.{float_read, is_open_in}
use Rattle.gql_facts.specs.ListMembers.{Contains-here, Contains-there, found_in}
use Rattle.gql_facts.specs.Nodes.{field, inline, spread, field_node, inline_node, composite, field_type, field_type_in, is_composite_fact, parent_below, parent_within, root_in}
use Rattle.gql_facts.specs.OwnReads.{own_reads, executable_reads, operation_reads, fragment_reads, composite_reads, field_reads, condition_reads, directive_reads, variable_reads, set_scan, selection_scan, field_scan, inline_scan, spread_scan, selected_root, selected_by, root_parent}
use Rattle.gql_facts.specs.Reads.{own, of_fragment, of_type, by_definition, Reads, Agree, types_in, input_types, type_reads}
use Rattle.gql_facts.specs.Worlds.{Facts}
use Rattle.gql_types.specs.WrittenTypes.{named_type, typed_of}
use Rattle.gql_inputs.specs.Agreement.{LeadsTo, itself, by_field, Agree as Agree'}
use Rattle.gql_inputs.specs.InputTypes.{name_in}
use Rattle.gql_inputs.specs.Values.{value_of}
use Rattle.gql_inputs.proofs.Agreement.{same_bad_values}
use Rattle.gql_inputs.proofs.Stepping.{name_typed}
use Rattle.gql_types.specs.Written.{Written, written}
use Rattle.gql_facts.specs.declared.fact.Fact.{Fact}
use Rattle.gql_facts.specs.declared.fact.Fact.TheVariants as fact
use Rattle.gql_facts.specs.declared.fact.FragmentFact.{FragmentFact}
use Rattle.gql_facts.specs.declared.fact.InputFact.{InputFact}
use Rattle.gql_facts.specs.declared.key.Key.{Key}
use Rattle.gql_facts.specs.declared.key.Key.TheVariants as key
use Rattle.gql_facts.proofs.Agreement.{reaches_there, reaches_back}
use Rattle.gql_facts.proofs.Parts.{scan_cons, scan_field, scan_inline, scan_spread}
use Rattle.gql_facts.proofs.Trees.{Each, by_set}
use Rattle.gql_rules.specs.Answers.{kind_in, field_in, possible_in, directive_in, fragment_in, possible_of, kind_of, kind_of_field, field_of, is_required}
use Rattle.gql_rules.specs.KnownInputs.{known_inputs, form_by}
use Rattle.gql_rules.specs.Literals.{is_null}
use Rattle.gql_rules.specs.LocalFaults.{IsFault, of_part, of_cycle, tree_faults, owner_of, operation_faults, fragment_faults, condition_faults, inline_faults, field_faults, field_faults_by, known_directive_faults, directive_faults_by, directive_faults, of_field as arguments_of_field, of_directive, directives_faults, variable_faults, node_faults, set_visit, selection_visit}
use Rattle.gql_rules.specs.Locations.{location_of}
use Rattle.gql_rules.specs.P03Subscriptions as p03
use Rattle.gql_rules.specs.P05MutationsWithoutARoot as p05
use Rattle.gql_rules.specs.V12FragmentSpreadTypeExistence as v12
use Rattle.gql_rules.specs.V13FragmentsOnCompositeTypes as v13
use Rattle.gql_rules.specs.V15FragmentSpreadTargetDefined as v15
use Rattle.gql_rules.specs.V08ArgumentNames.{defined}
use Rattle.gql_rules.specs.V17FragmentSpreadIsPossible as v17
use Rattle.gql_rules.specs.V18ToV21Values as values
use Rattle.gql_rules.specs.V18ToV21Values.{fault_of_value, value_faults, repeat_faults, faults_by, faults_of_argument, faults_of_default}
use Rattle.gql_rules.proofs.InputView.{fields_from, name_written, named_in}
use Rattle.gql_rules.proofs.Visiting.{of_field, of_inline, of_spread, visit_cons}

module _ (P : Key → Type 0) (v u : Facts) (owner : FilePlace)
    (agree : (k : Key) → P k → u k ≡ v k)
    (closed : (j k : Key) (t : List ℕ) → P j → Contains (types_in (v j)) t → Contains (type_reads t) k → P k)
    (float : P float_read)
  where
    -- u answers as v does to the keys of P, and P has what is asked of each type that an answer in it
    -- names
    abbrev pub Within : List Key → Type 0
    Within ks = (k : Key) → Contains ks k → P k

    -- of two lists
    first : (a b : List Key) → Within (a ++ b) → Within a
    first a b within k h = within k (Contains-append_left a b k h)

    second : (a b : List Key) → Within (a ++ b) → Within b
    second a b within k h = within k (Contains-append_right a b k h)

    rest : (k : Key) (ks : List Key) → Within (k ∷ ks) → Within ks
    rest k ks within j h = within j (Contains-there j k ks h)

    at_first : (k : Key) (ks : List Key) → Within (k ∷ ks) → P k
    at_first k ks within = within k (Contains-here k ks)

    here : (k : Key) (ks : List Key) → Within (k ∷ ks) → u k ≡ v k
    here k ks within = agree k (at_first k ks within)

    -- ---- values

    -- what is asked of an input type
    abbrev pub AsksInput : List ℕ → Type 0
    AsksInput t = P (key.KindOf t) × (P (key.InputOf t) × P (key.EnumOf t))

    asks_type : (j : Key) (t : List ℕ) → P j → Contains (types_in (v j)) t → AsksInput t
    asks_type j t asked named = (
      closed j (key.KindOf t) t asked named (here_in (key.KindOf t) (key.PossibleOf t ∷ key.InputOf t ∷ key.EnumOf t ∷ [])),
      (
        closed j (key.InputOf t) t asked named (Contains-there (key.InputOf t) (key.KindOf t) (key.PossibleOf t ∷ key.InputOf t ∷ key.EnumOf t ∷ [])
            (Contains-there (key.InputOf t) (key.PossibleOf t) (key.InputOf t ∷ key.EnumOf t ∷ []) (Contains-here (key.InputOf t) (key.EnumOf t ∷ [])))),
        closed j (key.EnumOf t) t asked named (Contains-there (key.EnumOf t) (key.KindOf t) (key.PossibleOf t ∷ key.InputOf t ∷ key.EnumOf t ∷ [])
            (Contains-there (key.EnumOf t) (key.PossibleOf t) (key.InputOf t ∷ key.EnumOf t ∷ []) (Contains-there (key.EnumOf t) (key.InputOf t) (key.EnumOf t ∷ []) (Contains-here (key.EnumOf t) [])))),
      ),
    )
      where
        here_in : (k : Key) (ks : List Key) → Contains (k ∷ ks) k
        here_in k ks = Contains-here k ks

    -- what an input type is stays
    input_same : (t : List ℕ) → AsksInput t → known_inputs u t ≡ known_inputs v t
    input_same t asked =
        ap (λ f. form_by (is_some (kind_in f)) t (kind_of u t) (u (key.InputOf t)) (u (key.EnumOf t))) (agree float_read float)
        ∙ ap (λ f. form_by (is_open_in v) t (kind_in f) (u (key.InputOf t)) (u (key.EnumOf t))) (agree (key.KindOf t) asked.0)
        ∙ ap (λ f. form_by (is_open_in v) t (kind_of v t) f (u (key.EnumOf t))) (agree (key.InputOf t) asked.1.0)
        ∙ ap (λ f. form_by (is_open_in v) t (kind_of v t) (v (key.InputOf t)) f) (agree (key.EnumOf t) asked.1.1)

    -- each type that an input type leads to is asked
    led_to : (w : Written) (n : List ℕ) → AsksInput (name_in w) → LeadsTo (known_inputs v) w n → AsksInput n
    led_to w n asked itself = asked
    led_to w n asked (by_field {n = m} {fields} {f} before is has) =
        let field = fields_from v m fields f is has in
        subst AsksInput field.2 (asks_type (key.InputOf m) field.0.of_type.name (led_to w m asked before).1.0 field.1)

    agree_inputs : (w : Written) → AsksInput (name_in w) → Agree' (known_inputs v) (known_inputs u) w
    agree_inputs w asked n leads = sym (input_same n (led_to w n asked leads))

    value_same : (w : Written) (x : Literal) → AsksInput (name_in w) → value_faults (known_inputs u) owner w x ≡ value_faults (known_inputs v) owner w x
    value_same w x asked = ap (map (fault_of_value owner)) (sym (same_bad_values (known_inputs v) (known_inputs u) w (agree_inputs w asked) (value_of x)))

    -- the types of these inputs are asked
    abbrev pub AsksAll : List InputFact → Type 0
    AsksAll inputs = (i : InputFact) → Contains inputs i → AsksInput i.of_type.name

    input_value_same : (a : Argument) (i : InputFact) → AsksInput i.of_type.name
        → faults_by (known_inputs u) owner a (Some i) ≡ faults_by (known_inputs v) owner a (Some i)
    input_value_same a i asked = ap (λ l. if is_null a.value && is_required i then [] else l)
        (value_same (typed_of i.of_type) a.value (subst AsksInput (sym (name_typed i.of_type.wrappers i.of_type.name)) asked))

    argument_by : (a : Argument) (inputs : List InputFact) (o : Option InputFact) → defined inputs a.name.text ≡ o → AsksAll inputs
        → faults_by (known_inputs u) owner a o ≡ faults_by (known_inputs v) owner a o
    argument_by a inputs None is asked = refl
    argument_by a inputs (Some i) is asked = input_value_same a i (asked i (found_in (λ (j : InputFact). bytes_eq a.name.text j.name) inputs i is).0)

    argument_same : (inputs : List InputFact) → AsksAll inputs → (given : List Argument)
        → values.faults u owner (Some inputs) given ≡ values.faults v owner (Some inputs) given
    argument_same inputs asked [] = refl
    argument_same inputs asked (a ∷ given) =
        ap (λ l. l ++ values.faults u owner (Some inputs) given) (argument_by a inputs (defined inputs a.name.text) refl asked)
        ∙ ap (λ l. faults_of_argument (known_inputs v) owner (Some inputs) a ++ l) (argument_same inputs asked given)

    unknown_same : (given : List Argument) → values.faults u owner None given ≡ values.faults v owner None given
    unknown_same [] = refl
    unknown_same (a ∷ given) = ap (λ l. repeat_faults owner a.value ++ l) (unknown_same given)

    directive_values : (f : Fact) (given : List Argument) → ((t : List ℕ) → Contains (types_in f) t → AsksInput t)
        → values.faults u owner (of_directive (directive_in f)) given ≡ values.faults v owner (of_directive (directive_in f)) given
    directive_values fact.Absent given asks = unknown_same given
    directive_values (fact.Kind k) given asks = unknown_same given
    directive_values (fact.Field d) given asks = unknown_same given
    directive_values (fact.Possible names) given asks = unknown_same given
    directive_values (fact.Input fields) given asks = unknown_same given
    directive_values (fact.Enum values) given asks = unknown_same given
    directive_values (fact.Directive d) given asks = argument_same d.arguments (λ i h. asks i.of_type.name (named_in i d.arguments h)) given
    directive_values (fact.Root name) given asks = unknown_same given
    directive_values (fact.Fragment g) given asks = unknown_same given

    field_values : (f : Fact) (given : List Argument) → ((t : List ℕ) → Contains (types_in f) t → AsksInput t)
        → values.faults u owner (arguments_of_field (field_in f)) given ≡ values.faults v owner (arguments_of_field (field_in f)) given
    field_values fact.Absent given asks = unknown_same given
    field_values (fact.Kind k) given asks = unknown_same given
    field_values (fact.Field d) given asks = argument_same d.arguments
        (λ i h. asks i.of_type.name (Contains-there i.of_type.name d.of_type.name (input_types d.arguments) (named_in i d.arguments h))) given
    field_values (fact.Possible names) given asks = unknown_same given
    field_values (fact.Input fields) given asks = unknown_same given
    field_values (fact.Enum values) given asks = unknown_same given
    field_values (fact.Directive d) given asks = unknown_same given
    field_values (fact.Root name) given asks = unknown_same given
    field_values (fact.Fragment g) given asks = unknown_same given

    -- ---- directives

    listed_same : (at : DirectiveLocation) (all ds : List Directive) → Within (directive_reads ds)
        → flat_map (directive_faults u owner at all) ds ≡ flat_map (directive_faults v owner at all) ds
    listed_same at all [] agree = refl
    listed_same at all (d ∷ ds) agree =
        let k = key.DirectiveOf d.name.text in
        ap (λ f. known_directive_faults u owner at all d (directive_in f) ++ flat_map (directive_faults u owner at all) ds) (here k (directive_reads ds) agree)
        ∙ ap (λ l. (directive_faults_by owner at all d (directive_in (v k)) ++ l) ++ flat_map (directive_faults u owner at all) ds)
        (directive_values (v k) d.arguments (λ t named. asks_type k t (at_first k (directive_reads ds) agree) named))
        ∙ ap (λ l. directive_faults v owner at all d ++ l) (listed_same at all ds (rest (key.DirectiveOf d.name.text) (directive_reads ds) agree))

    directives_same : (at : DirectiveLocation) (ds : List Directive) → Within (directive_reads ds)
        → directives_faults u owner at ds ≡ directives_faults v owner at ds
    directives_same at ds agree = listed_same at ds ds agree

    -- ---- parent types

    -- the objects that a parent type may stand for stay
    abbrev pub Knows : Option (List ℕ) → Type 0
    Knows None = Unit {0}
    Knows (Some t) = u (key.PossibleOf t) ≡ v (key.PossibleOf t)

    possible_same : (p : Option (List ℕ)) → Knows p → possible_of u p ≡ possible_of v p
    possible_same None knows = refl
    possible_same (Some t) knows = ap possible_in knows

    kind_here : (t : List ℕ) → Within (composite_reads (Some t)) → u (key.KindOf t) ≡ v (key.KindOf t)
    kind_here t agree = here (key.KindOf t) (key.PossibleOf t ∷ []) agree

    possible_here : (t : List ℕ) → Within (composite_reads (Some t)) → u (key.PossibleOf t) ≡ v (key.PossibleOf t)
    possible_here t agree = here (key.PossibleOf t) [] (rest (key.KindOf t) (key.PossibleOf t ∷ []) agree)

    composite_same : (o : Option (List ℕ)) → Within (composite_reads o) → composite u o ≡ composite v o
    composite_same None agree = refl
    composite_same (Some t) agree = ap (λ f. if is_composite_fact f then Some t else None) (kind_here t agree)

    composite_knows : (o : Option (List ℕ)) → Within (composite_reads o) → Knows (composite v o)
    composite_knows None agree = tt
    composite_knows (Some t) agree = by (is_composite_fact (v (key.KindOf t))) where
      by : (b : Bool) → Knows (if b then Some t else None)
      by true = possible_here t agree
      by false = tt

    -- ---- type conditions

    condition_same : (c : Name) → Within (composite_reads (Some c.text)) → condition_faults u owner c ≡ condition_faults v owner c
    condition_same c agree = ap (λ f. v12.faults_by owner c (kind_in f) ++ v13.faults_by owner c (kind_in f)) (kind_here c.text agree)

    inline_same : (p : Option (List ℕ)) (c : Option Name) → Knows p → Within (condition_reads c)
        → inline_faults u owner p c ≡ inline_faults v owner p c
    inline_same p None knows agree = refl
    inline_same p (Some c) knows agree =
        ap (λ l. l ++ v17.faults_of_inline u owner p c) (condition_same c agree)
        ∙ ap (λ f. condition_faults v owner c ++ v17.faults_by owner c.text c.place (possible_in f) (possible_of u p)) (possible_here c.text agree)
        ∙ ap (λ o. condition_faults v owner c ++ v17.faults_by owner c.text c.place (possible_of v (Some c.text)) o) (possible_same p knows)

    within_same : (p : Option (List ℕ)) (c : Option Name) → Within (condition_reads c) → parent_within u p c ≡ parent_within v p c
    within_same p None agree = refl
    within_same p (Some c) agree = composite_same (Some c.text) agree

    within_knows : (p : Option (List ℕ)) (c : Option Name) → Knows p → Within (condition_reads c) → Knows (parent_within v p c)
    within_knows p None knows agree = knows
    within_knows p (Some c) knows agree = composite_knows (Some c.text) agree

    -- ---- fields

    kind_same : (f : Fact) → Within (composite_reads (field_type_in f)) → kind_of_field u (field_in f) ≡ kind_of_field v (field_in f)
    kind_same fact.Absent agree = refl
    kind_same (fact.Kind k) agree = refl
    kind_same (fact.Field d) agree = ap kind_in (kind_here d.of_type.name agree)
    kind_same (fact.Possible names) agree = refl
    kind_same (fact.Input fields) agree = refl
    kind_same (fact.Enum values) agree = refl
    kind_same (fact.Directive d) agree = refl
    kind_same (fact.Root name) agree = refl
    kind_same (fact.Fragment g) agree = refl

    field_same : (p : Option (List ℕ)) (f : Field) → Within (field_reads v p f.name.text)
        → field_faults u owner (field_node p f) (field_of u p f.name.text) ≡ field_faults v owner (field_node p f) (field_of v p f.name.text)
    field_same None f agree = ap (λ l. field_faults_by owner (field_node None f) None None ++ l) (unknown_same f.arguments)
    field_same (Some t) f agree =
        let k = key.FieldOf t f.name.text in
        let types = composite_reads (field_type v (Some t) f.name.text) in
        ap (λ g. field_faults u owner (field_node (Some t) f) (field_in g)) (here k types agree)
        ∙ ap (λ o. field_faults_by owner (field_node (Some t) f) (field_in (v k)) o ++ values.faults u owner (arguments_of_field (field_in (v k))) f.arguments)
        (kind_same (v k) (rest k types agree))
        ∙ ap (λ l. field_faults_by owner (field_node (Some t) f) (field_in (v k)) (kind_of_field v (field_in (v k))) ++ l)
        (field_values (v k) f.arguments (λ n named. asks_type k n (at_first k types agree) named))

    below_same : (p : Option (List ℕ)) (n : List ℕ) → Within (field_reads v p n) → parent_below u p n ≡ parent_below v p n
    below_same None n agree = refl
    below_same (Some t) n agree =
        let types = composite_reads (field_type v (Some t) n) in
        ap (λ f. composite u (field_type_in f)) (here (key.FieldOf t n) types agree)
        ∙ composite_same (field_type v (Some t) n) (rest (key.FieldOf t n) types agree)

    below_knows : (p : Option (List ℕ)) (n : List ℕ) → Within (field_reads v p n) → Knows (parent_below v p n)
    below_knows None n agree = tt
    below_knows (Some t) n agree = composite_knows (field_type v (Some t) n) (rest (key.FieldOf t n) (composite_reads (field_type v (Some t) n)) agree)

    -- ---- spreads

    -- the objects that the condition of each fragment that is asked for may stand for stay
    abbrev pub Targets : List Key → Type 0
    Targets ks = (n : List ℕ) (g : FragmentFact) → Contains ks (key.FragmentOf n) → v (key.FragmentOf n) ≡ fact.Fragment g
        → u (key.PossibleOf g.fragment.condition.text) ≡ v (key.PossibleOf g.fragment.condition.text)

    before : (a b : List Key) → Targets (a ++ b) → Targets a
    before a b targets n g h = targets n g (Contains-append_left a b (key.FragmentOf n) h)

    after : (a b : List Key) → Targets (a ++ b) → Targets b
    after a b targets n g h = targets n g (Contains-append_right a b (key.FragmentOf n) h)

    target_same : (p : Option (List ℕ)) (x : Spread) (f : Fact) → Knows p
        → ((g : FragmentFact) → f ≡ fact.Fragment g → u (key.PossibleOf g.fragment.condition.text) ≡ v (key.PossibleOf g.fragment.condition.text))
        → v17.faults_by_target u owner p x (fragment_in f) ≡ v17.faults_by_target v owner p x (fragment_in f)
    target_same p x fact.Absent knows stays = refl
    target_same p x (fact.Kind k) knows stays = refl
    target_same p x (fact.Field d) knows stays = refl
    target_same p x (fact.Possible names) knows stays = refl
    target_same p x (fact.Input fields) knows stays = refl
    target_same p x (fact.Enum values) knows stays = refl
    target_same p x (fact.Directive d) knows stays = refl
    target_same p x (fact.Root name) knows stays = refl
    target_same p x (fact.Fragment g) knows stays =
        let c = g.fragment.condition.text in
        ap (λ f. v17.faults_by owner c x.name.place (possible_in f) (possible_of u p)) (stays g refl)
        ∙ ap (v17.faults_by owner c x.name.place (possible_of v (Some c))) (possible_same p knows)

    spread_same : (p : Option (List ℕ)) (x : Spread) → Knows p → Within (spread_scan x) → Targets (spread_scan x)
        → node_faults u owner (spread p x) ≡ node_faults v owner (spread p x)
    spread_same p x knows agree targets =
        let k = key.FragmentOf x.name.text in
        let ds = directive_reads x.directives in
        let applied = directives_faults u owner location.FragmentSpread x.directives in
        ap (λ f. v15.faults_by owner x (fragment_in f) ++ (v17.faults_by_target u owner p x (fragment_in f) ++ applied)) (here k ds agree)
        ∙ ap (λ l. v15.faults v owner x ++ (l ++ applied)) (target_same p x (v k) knows (λ g is. targets x.name.text g (Contains-here k ds) is))
        ∙ ap (λ l. v15.faults v owner x ++ (v17.faults_of_spread v owner p x ++ l)) (directives_same location.FragmentSpread x.directives (rest k ds agree))

    -- ---- selections

    abbrev pub Stays : Selection → Type 0
    Stays x = (p : Option (List ℕ)) → Knows p → Within (selection_scan v p x) → Targets (selection_scan v p x)
        → selection_visit u owner p x ≡ selection_visit v owner p x

    set_stays : (xs : List Selection) (p : Option (List ℕ)) → Each Stays xs → Knows p → Within (set_scan v p xs) → Targets (set_scan v p xs)
        → set_visit u owner p xs ≡ set_visit v owner p xs
    set_stays [] p each knows agree targets = refl
    set_stays (x ∷ xs) p each knows agree targets =
        let parts : Within (selection_scan v p x ++ set_scan v p xs) = subst (Within) (scan_cons v p x xs) agree in
        let aims : Targets (selection_scan v p x ++ set_scan v p xs) = subst Targets (scan_cons v p x xs) targets in
        visit_cons u owner p x xs
        ∙ ap (λ l. l ++ set_visit u owner p xs) (each.0 p knows (first (selection_scan v p x) (set_scan v p xs) parts) (before (selection_scan v p x) (set_scan v p xs) aims))
        ∙ ap (λ l. selection_visit v owner p x ++ l) (set_stays xs p each.1 knows (second (selection_scan v p x) (set_scan v p xs) parts) (after (selection_scan v p x) (set_scan v p xs) aims))
        ∙ sym (visit_cons v owner p x xs)

    field_stays : (f : Field) → Each Stays f.selections → Stays (s.Field f)
    field_stays f each p knows agree targets =
        let n = f.name.text in
        let scan = set_scan v (parent_below v p n) f.selections in
        let parts : Within (field_scan v p f) = subst (Within) (scan_field v p f) agree in
        let aims : Targets (field_scan v p f) = subst Targets (scan_field v p f) targets in
        let asked = first (field_reads v p n) (directive_reads f.directives ++ scan) parts in
        let others = second (field_reads v p n) (directive_reads f.directives ++ scan) parts in
        of_field u owner p (s.Field f) f refl
        ∙ ap (λ l. (l ++ directives_faults u owner location.Field f.directives) ++ set_visit u owner (parent_below u p n) f.selections) (field_same p f asked)
        ∙ ap (λ l. (field_faults v owner (field_node p f) (field_of v p n) ++ l) ++ set_visit u owner (parent_below u p n) f.selections)
        (directives_same location.Field f.directives (first (directive_reads f.directives) scan others))
        ∙ ap (λ q. node_faults v owner (field (field_node p f)) ++ set_visit u owner q f.selections) (below_same p n asked)
        ∙ ap (λ l. node_faults v owner (field (field_node p f)) ++ l)
        (set_stays f.selections (parent_below v p n) each (below_knows p n asked) (second (directive_reads f.directives) scan others)
        (after (directive_reads f.directives) scan (after (field_reads v p n) (directive_reads f.directives ++ scan) aims)))
        ∙ sym (of_field v owner p (s.Field f) f refl)

    inline_stays : (i : InlineFragment) → Each Stays i.selections → Stays (s.InlineFragment i)
    inline_stays i each p knows agree targets =
        let c = i.condition in
        let scan = set_scan v (parent_within v p c) i.selections in
        let parts : Within (inline_scan v p i) = subst (Within) (scan_inline v p i) agree in
        let aims : Targets (inline_scan v p i) = subst Targets (scan_inline v p i) targets in
        let asked = first (condition_reads c) (directive_reads i.directives ++ scan) parts in
        let others = second (condition_reads c) (directive_reads i.directives ++ scan) parts in
        of_inline u owner p (s.InlineFragment i) i refl
        ∙ ap (λ l. (l ++ directives_faults u owner location.InlineFragment i.directives) ++ set_visit u owner (parent_within u p c) i.selections) (inline_same p c knows asked)
        ∙ ap (λ l. (inline_faults v owner p c ++ l) ++ set_visit u owner (parent_within u p c) i.selections)
        (directives_same location.InlineFragment i.directives (first (directive_reads i.directives) scan others))
        ∙ ap (λ q. node_faults v owner (inline (inline_node p i)) ++ set_visit u owner q i.selections) (within_same p c asked)
        ∙ ap (λ l. node_faults v owner (inline (inline_node p i)) ++ l)
        (set_stays i.selections (parent_within v p c) each (within_knows p c knows asked) (second (directive_reads i.directives) scan others)
        (after (directive_reads i.directives) scan (after (condition_reads c) (directive_reads i.directives ++ scan) aims)))
        ∙ sym (of_inline v owner p (s.InlineFragment i) i refl)

    spread_stays : (x : Spread) → Stays (s.Spread x)
    spread_stays x p knows agree targets =
        of_spread u owner p (s.Spread x) x refl
        ∙ spread_same p x knows (subst (Within) (scan_spread v p x) agree) (subst Targets (scan_spread v p x) targets)
        ∙ sym (of_spread v owner p (s.Spread x) x refl)

    set_same : (p : Option (List ℕ)) (xs : List Selection) → Knows p → Within (set_scan v p xs) → Targets (set_scan v p xs)
        → set_visit u owner p xs ≡ set_visit v owner p xs
    set_same p xs = set_stays xs p (by_set Stays field_stays spread_stays inline_stays xs)

    -- ---- definitions

    fragment_same : (f : Fragment) → Within (fragment_reads v f) → Targets (fragment_reads v f) → fragment_faults u owner f ≡ fragment_faults v owner f
    fragment_same f agree targets =
        let c = Some f.condition.text in
        let ds = directive_reads f.directives in
        let scan = set_scan v (composite v c) f.selections in
        let asked = first (composite_reads c) (ds ++ scan) agree in
        let others = second (composite_reads c) (ds ++ scan) agree in
        ap (λ l. l ++ (directives_faults u owner location.FragmentDefinition f.directives ++ set_visit u owner (composite u c) f.selections)) (condition_same f.condition asked)
        ∙ ap (λ l. condition_faults v owner f.condition ++ (l ++ set_visit u owner (composite u c) f.selections)) (directives_same location.FragmentDefinition f.directives (first ds scan others))
        ∙ ap (λ q. condition_faults v owner f.condition ++ (directives_faults v owner location.FragmentDefinition f.directives ++ set_visit u owner q f.selections)) (composite_same c asked)
        ∙ ap (λ l. condition_faults v owner f.condition ++ (directives_faults v owner location.FragmentDefinition f.directives ++ l))
        (set_same (composite v c) f.selections (composite_knows c asked) (second ds scan others) (after ds scan (after (composite_reads c) (ds ++ scan) targets)))

    abbrev type_of : VariableDefinition → List ℕ
    type_of x = named_type (written x.of_type)

    default_by : (w : Written) (o : Option Literal) → AsksInput (name_in w) → faults_of_default (known_inputs u) owner w o ≡ faults_of_default (known_inputs v) owner w o
    default_by w None asked = refl
    default_by w (Some x) asked = value_same w x asked

    default_same : (x : VariableDefinition) → Within (variable_reads x) → values.faults_of_variable u owner x ≡ values.faults_of_variable v owner x
    default_same x within =
        let t = type_of x in
        let ds = directive_reads x.directives in
        default_by (written x.of_type) x.default (subst AsksInput (sym (name_written (written x.of_type))) (
          at_first (key.KindOf t) (key.InputOf t ∷ key.EnumOf t ∷ ds) within,
          (
            at_first (key.InputOf t) (key.EnumOf t ∷ ds) (rest (key.KindOf t) (key.InputOf t ∷ key.EnumOf t ∷ ds) within),
            at_first (key.EnumOf t) ds (rest (key.InputOf t) (key.EnumOf t ∷ ds) (rest (key.KindOf t) (key.InputOf t ∷ key.EnumOf t ∷ ds) within)),
          ),
        ))

    variables_same : (xs : List VariableDefinition) → Within (flat_map variable_reads xs) → flat_map (variable_faults u owner) xs ≡ flat_map (variable_faults v owner) xs
    variables_same [] agree = refl
    variables_same (x ∷ xs) agree =
        let mine = first (variable_reads x) (flat_map variable_reads xs) agree in
        let others = second (variable_reads x) (flat_map variable_reads xs) agree in
        ap (λ l. (l ++ directives_faults u owner location.VariableDefinition x.directives) ++ flat_map (variable_faults u owner) xs) (default_same x mine)
        ∙ ap (λ l. (values.faults_of_variable v owner x ++ l) ++ flat_map (variable_faults u owner) xs) (directives_same location.VariableDefinition x.directives
        (rest (key.EnumOf (type_of x)) (directive_reads x.directives) (rest (key.InputOf (type_of x)) (key.EnumOf (type_of x) ∷ directive_reads x.directives)
        (rest (key.KindOf (type_of x)) (key.InputOf (type_of x) ∷ key.EnumOf (type_of x) ∷ directive_reads x.directives) mine))))
        ∙ ap (λ l. variable_faults v owner x ++ l) (variables_same xs others)

    operation_same : (o : Operation) → Within (operation_reads v o) → Targets (operation_reads v o) → operation_faults u owner o ≡ operation_faults v owner o
    operation_same o agree targets =
        let k = key.RootOf o.kind in
        let r = selected_root v o.kind in
        let ds = directive_reads o.directives in
        let vars = flat_map variable_reads o.variables in
        let scan = set_scan v (root_parent v o.kind) o.selections in
        let tail : Within (composite_reads r ++ (ds ++ (vars ++ scan))) = rest k (composite_reads r ++ (ds ++ (vars ++ scan))) agree in
        let root = here k (composite_reads r ++ (ds ++ (vars ++ scan))) agree in
        let asked = first (composite_reads r) (ds ++ (vars ++ scan)) tail in
        let others = second (composite_reads r) (ds ++ (vars ++ scan)) tail in
        let more = second ds (vars ++ scan) others in
        let parent : root_parent u o.kind ≡ root_parent v o.kind = ap (λ f. composite u (selected_by o.kind f)) root ∙ composite_same r asked in
        let aims : Targets scan = after vars scan (after ds (vars ++ scan) (after (composite_reads r) (ds ++ (vars ++ scan)) (after (k ∷ []) (composite_reads r ++ (ds ++ (vars ++ scan))) targets))) in
        let p3 = p03.faults v owner o in
        let p5 = p05.faults v owner o in
        let du = directives_faults u owner (location_of o.kind) o.directives in
        let dv = directives_faults v owner (location_of o.kind) o.directives in
        let vu = flat_map (variable_faults u owner) o.variables in
        let vv = flat_map (variable_faults v owner) o.variables in
        ap (λ f. p03.faults_by owner o o.kind (root_in f) ++ (p05.faults_by owner o o.kind (root_in f) ++ (du ++ (vu ++ set_visit u owner (root_parent u o.kind) o.selections)))) root
        ∙ ap (λ l. p3 ++ (p5 ++ (l ++ (vu ++ set_visit u owner (root_parent u o.kind) o.selections)))) (directives_same (location_of o.kind) o.directives (first ds (vars ++ scan) others))
        ∙ ap (λ l. p3 ++ (p5 ++ (dv ++ (l ++ set_visit u owner (root_parent u o.kind) o.selections)))) (variables_same o.variables (first vars scan more))
        ∙ ap (λ q. p3 ++ (p5 ++ (dv ++ (vv ++ set_visit u owner q o.selections)))) parent
        ∙ ap (λ l. p3 ++ (p5 ++ (dv ++ (vv ++ l)))) (set_same (root_parent v o.kind) o.selections (composite_knows r asked) (second vars scan more) aims)

module _ (v u : Facts) (d : Definition) (agree : Agree v u d) where
  closed : (j k : Key) (t : List ℕ) → Reads v d j → Contains (types_in (v j)) t → Contains (type_reads t) k → Reads v d k
  closed j k t asked named has = of_type asked named has

  float : Reads v d float_read
  float = own (Contains-here float_read (executable_reads v d.tree))

  aims : Targets (Reads v d) v u (owner_of d) agree closed float (own_reads v d)
  aims n g h is = agree (key.PossibleOf g.fragment.condition.text)
      (of_fragment (by_definition h is) (Contains-append_left (composite_reads (Some g.fragment.condition.text))
      (directive_reads g.fragment.directives ++ set_scan v (composite v (Some g.fragment.condition.text)) g.fragment.selections) (key.PossibleOf g.fragment.condition.text)
      (Contains-there (key.PossibleOf g.fragment.condition.text) (key.KindOf g.fragment.condition.text) (key.PossibleOf g.fragment.condition.text ∷ [])
      (Contains-here (key.PossibleOf g.fragment.condition.text) []))))

  tree_same : (t : Tree) → d.tree ≡ t → tree_faults u (owner_of d) t ≡ tree_faults v (owner_of d) t
  tree_same (tree.Operation o) is = operation_same (Reads v d) v u (owner_of d) agree closed float o (λ k h. own (at k h)) (λ n g h. aims n g (at (key.FragmentOf n) h)) where
    at : (k : Key) → Contains (operation_reads v o) k → Contains (own_reads v d) k
    at k h = subst (λ t. Contains (own_reads v (record { file = d.file; tree = t })) k) (sym is) (Contains-there k float_read (operation_reads v o) h)
  tree_same (tree.Fragment f) is = fragment_same (Reads v d) v u (owner_of d) agree closed float f (λ k h. own (at k h)) (λ n g h. aims n g (at (key.FragmentOf n) h)) where
    at : (k : Key) → Contains (fragment_reads v f) k → Contains (own_reads v d) k
    at k h = subst (λ t. Contains (own_reads v (record { file = d.file; tree = t })) k) (sym is) (Contains-there k float_read (fragment_reads v f) h)
  tree_same (tree.Schema x) is = refl
  tree_same (tree.Type x) is = refl
  tree_same (tree.Directive x) is = refl
  tree_same (tree.SchemaExtension x) is = refl
  tree_same (tree.TypeExtension x) is = refl

  faults_there : (f : Fault) → IsFault v d f → IsFault u d f
  faults_there f (of_part h) = of_part (subst (λ l. Contains l f) (sym (tree_same d.tree refl)) h)
  faults_there f (of_cycle is c) = of_cycle is (reaches_there v u d agree c)

  faults_back : (f : Fault) → IsFault u d f → IsFault v d f
  faults_back f (of_part h) = of_part (subst (λ l. Contains l f) (tree_same d.tree refl) h)
  faults_back f (of_cycle is c) = of_cycle is (reaches_back v u d agree c)

  pub same_faults : (f : Fault) → IsFault v d f ↔ IsFault u d f
  same_faults f = (faults_there f, faults_back f)
