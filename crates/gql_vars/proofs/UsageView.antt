-- Facts that agree on what a definition reads give it the same usages.
use Rattle.std.specs.Prelude.{◌≡◌, ℕ, List, [], ◌∷◌, ◌++◌, flat_map, refl, bytes_eq, is_some, Option, Some, None, Contains}
use Rattle.std.specs.Option.{option_map_or}
use Rattle.std.proofs.Common.{ap, sym, ◌∙◌, subst}
use Rattle.std.proofs.lemmas.List.Elements.{Contains-append_left, Contains-append_right}
use Rattle.gql_ast.specs.declared.literal.Argument.{Argument}
use Rattle.gql_ast.specs.declared.literal.Directive.{Directive}
use Rattle.gql_facts.specs.Floats.{float_read, is_open_in}
use Rattle.gql_facts.specs.ListMembers.{Contains-nil, Contains-here, Contains-there, found_in}
use Rattle.gql_facts.specs.Nodes.{Node, field, spread, inline, field_type}
use Rattle.gql_facts.specs.OwnReads.{composite_reads, condition_reads, directive_reads, field_reads, node_reads, set_reads}
use Rattle.gql_facts.specs.Reads.{types_in, input_types, type_reads}
use Rattle.gql_facts.specs.Worlds.{Facts}
use Rattle.gql_facts.specs.declared.fact.Fact.{Fact}
use Rattle.gql_facts.specs.declared.fact.Fact.TheVariants as fact
use Rattle.gql_facts.specs.declared.fact.InputFact.{InputFact}
use Rattle.gql_facts.specs.declared.key.Key.{Key}
use Rattle.gql_facts.specs.declared.key.Key.TheVariants as key
use Rattle.gql_types.specs.Written.{Written, named, listed, required}
use Rattle.gql_types.specs.WrittenTypes.{typed_of}
use Rattle.gql_inputs.specs.Agreement.{LeadsTo, itself, by_field, Agree}
use Rattle.gql_inputs.specs.InputTypes.{name_in, item_of}
use Rattle.gql_inputs.specs.Lookups.{InputForm, scalar, enumeration, input_object, FieldForm, InputLookup, field_named, fields_in}
use Rattle.gql_inputs.specs.Values as x
use Rattle.gql_inputs.specs.Values.{Value, Values, Fields, value_of}
use Rattle.gql_inputs.proofs.Stepping.{name_typed}
use Rattle.gql_rules.specs.Answers.{kind_in, kind_of, field_in, field_of, directive_in}
use Rattle.gql_rules.specs.KnownInputs.{known_inputs, form_by}
use Rattle.gql_rules.specs.LocalFaults.{of_field, of_directive}
use Rattle.gql_rules.specs.V08ArgumentNames.{defined}
use Rattle.gql_rules.proofs.InputView.{fields_from, named_in}
use Rattle.gql_vars.specs.Usages as usages
use Rattle.gql_vars.specs.Usages.{Location, Usage, value_usages, item_usages, field_usages, by_item, if_item, fields_at, location_of, location_of_item, location_of_field, usages_by, usages_of_argument, argument_usages, directive_usages, usages_of_directive, node_usages, part_usages}

-- ---- values

-- the items of a list have its name
item_name : (t item : Written) → item_of t ≡ Some item → name_in item ≡ name_in t
item_name (named n) item e = cc
item_name (listed t) item e = let same : t ≡ item = cc in ap name_in (sym same)
item_name (required t) item e = item_name t item e

-- what a name that is led to leads to itself
below : (look : InputLookup) (t s : Written) → LeadsTo look t (name_in s) → (n : List ℕ) → LeadsTo look s n → LeadsTo look t n
below look t s p n itself = p
below look t s p n (by_field {n = k} q e c) = by_field (below look t s p k q) e c

module _ (file : List ℕ) (u v : InputLookup) where
  agree_item : (t item : Written) → item_of t ≡ Some item → Agree u v t → Agree u v item
  agree_item t item e agree n p = agree n (below u t item (subst (λ m. LeadsTo u t m) (sym (item_name t item e)) itself) n p)

  -- of each field of the input object that a type names
  agree_field : (t : Written) (o : Option InputForm) → u (name_in t) ≡ o → Agree u v t → (f : FieldForm) → Contains (option_map_or fields_in o []) f → Agree u v f.of_type
  agree_field t None e agree f c = absurd (Contains-nil f c)
  agree_field t (Some (scalar s)) e agree f c = absurd (Contains-nil f c)
  agree_field t (Some (enumeration values)) e agree f c = absurd (Contains-nil f c)
  agree_field t (Some (input_object fields)) e agree f c = λ n p. agree n (below u t f.of_type (by_field itself e c) n p)

  list_case : (t : Written) (xs : Values) (o : Option Written) → item_of t ≡ o → Agree u v t
      → ((item : Written) → Agree u v item → item_usages u file item xs ≡ item_usages v file item xs)
      → by_item (λ item. item_usages u file item xs) o ≡ by_item (λ item. item_usages v file item xs) o
  list_case t xs None e agree items = refl
  list_case t xs (Some item) e agree items = items item (agree_item t item e agree)

  field_case : (y : Value) (o : Option FieldForm) → ((f : FieldForm) → o ≡ Some f → Agree u v f.of_type)
      → ((at : Location) → Agree u v at.expected → value_usages u file at y ≡ value_usages v file at y)
      → usages.by_field (λ at. value_usages u file at y) o ≡ usages.by_field (λ at. value_usages v file at y) o
  field_case y None agree found = refl
  field_case y (Some f) agree found = found (location_of_field f) (agree f refl)

  mutual
    pub same_usages : (y : Value) (at : Location) → Agree u v at.expected → value_usages u file at y ≡ value_usages v file at y
    same_usages (x.variable p name) at agree = refl
    same_usages (x.null p) at agree = refl
    same_usages (x.int p text) at agree = refl
    same_usages (x.float p text) at agree = refl
    same_usages (x.string p) at agree = refl
    same_usages (x.boolean p) at agree = refl
    same_usages (x.enum p name) at agree = refl
    same_usages (x.list p xs) at agree = list_case at.expected xs (item_of at.expected) refl agree (λ item a. same_in_items xs item a)
    same_usages (x.object p fs) at agree =
        same_in_fields fs (fields_at u at.expected) (agree_field at.expected (u (name_in at.expected)) refl agree)
        ∙ ap (λ o. field_usages v file (option_map_or fields_in o []) fs) (agree (name_in at.expected) itself)

    same_in_items : (xs : Values) (item : Written) → Agree u v item → item_usages u file item xs ≡ item_usages v file item xs
    same_in_items x.no_values item agree = refl
    same_in_items (x.value y xs) item agree =
        ap (λ r. if_item item y r ++ item_usages u file item xs) (same_usages y (location_of_item item) agree)
        ∙ ap (λ r. if_item item y (value_usages v file (location_of_item item) y) ++ r) (same_in_items xs item agree)

    same_in_fields : (fs : Fields) (fields : List FieldForm) → ((f : FieldForm) → Contains fields f → Agree u v f.of_type)
        → field_usages u file fields fs ≡ field_usages v file fields fs
    same_in_fields x.no_fields fields agree = refl
    same_in_fields (x.field n y fs) fields agree =
        ap (λ r. r ++ field_usages u file fields fs) (field_case y (field_named fields n.text)
        (λ f e. agree f (found_in (λ (g : FieldForm). bytes_eq n.text g.name) fields f e).0) (λ at a. same_usages y at a))
        ∙ ap (λ r. usages.by_field (λ at. value_usages v file at y) (field_named fields n.text) ++ r) (same_in_fields fs fields agree)

module _ (P : Key → Type 0) (v u : Facts) (agree : (k : Key) → P k → u k ≡ v k)
    (closed : (j k : Key) (t : List ℕ) → P j → Contains (types_in (v j)) t → Contains (type_reads t) k → P k) (float : P float_read) (file : List ℕ)
  where
    -- u answers as v does to the keys of P, and P has what is asked of each type that an answer in it
    -- names
    abbrev pub Within : List Key → Type 0
    Within ks = (k : Key) → Contains ks k → P k

    first : (a b : List Key) → Within (a ++ b) → Within a
    first a b within k h = within k (Contains-append_left a b k h)

    second : (a b : List Key) → Within (a ++ b) → Within b
    second a b within k h = within k (Contains-append_right a b k h)

    rest : (k : Key) (ks : List Key) → Within (k ∷ ks) → Within ks
    rest k ks within j h = within j (Contains-there j k ks h)

    at_first : (k : Key) (ks : List Key) → Within (k ∷ ks) → P k
    at_first k ks within = within k (Contains-here k ks)

    -- ---- input types

    -- what is asked of an input type
    abbrev AsksInput : List ℕ → Type 0
    AsksInput t = P (key.KindOf t) × (P (key.InputOf t) × P (key.EnumOf t))

    asks_type : (j : Key) (t : List ℕ) → P j → Contains (types_in (v j)) t → AsksInput t
    asks_type j t asked has =
        let ks : Within (type_reads t) = λ k h. closed j k t asked has h in
        let after = rest (key.PossibleOf t) (key.InputOf t ∷ key.EnumOf t ∷ []) (rest (key.KindOf t) (key.PossibleOf t ∷ key.InputOf t ∷ key.EnumOf t ∷ []) ks) in (
          at_first (key.KindOf t) (key.PossibleOf t ∷ key.InputOf t ∷ key.EnumOf t ∷ []) ks,
          (
            at_first (key.InputOf t) (key.EnumOf t ∷ []) after,
            at_first (key.EnumOf t) [] (rest (key.InputOf t) (key.EnumOf t ∷ []) after),
          ),
        )

    -- what an input type is stays
    input_same : (t : List ℕ) → AsksInput t → known_inputs u t ≡ known_inputs v t
    input_same t asked =
        ap (λ f. form_by (is_some (kind_in f)) t (kind_of u t) (u (key.InputOf t)) (u (key.EnumOf t))) (agree float_read float)
        ∙ ap (λ f. form_by (is_open_in v) t (kind_in f) (u (key.InputOf t)) (u (key.EnumOf t))) (agree (key.KindOf t) asked.0)
        ∙ ap (λ f. form_by (is_open_in v) t (kind_of v t) f (u (key.EnumOf t))) (agree (key.InputOf t) asked.1.0)
        ∙ ap (λ f. form_by (is_open_in v) t (kind_of v t) (v (key.InputOf t)) f) (agree (key.EnumOf t) asked.1.1)

    -- each type that an input type leads to is asked
    led_to : (w : Written) (n : List ℕ) → AsksInput (name_in w) → LeadsTo (known_inputs v) w n → AsksInput n
    led_to w n asked itself = asked
    led_to w n asked (by_field {n = m} {fields} {f} before is has) =
        let from = fields_from v m fields f is has in
        subst AsksInput from.2 (asks_type (key.InputOf m) from.0.of_type.name (led_to w m asked before).1.0 from.1)

    agree_inputs : (w : Written) → AsksInput (name_in w) → Agree (known_inputs v) (known_inputs u) w
    agree_inputs w asked n leads = sym (input_same n (led_to w n asked leads))

    -- ---- arguments

    -- the types of these inputs are asked
    abbrev AsksAll : List InputFact → Type 0
    AsksAll inputs = (i : InputFact) → Contains inputs i → AsksInput i.of_type.name

    argument_by : (a : Argument) (inputs : List InputFact) (o : Option InputFact) → defined inputs a.name.text ≡ o → AsksAll inputs
        → usages_by (known_inputs u) file a o ≡ usages_by (known_inputs v) file a o
    argument_by a inputs None is asked = refl
    argument_by a inputs (Some i) is asked = sym (same_usages file (known_inputs v) (known_inputs u) (value_of a.value) (location_of i)
        (agree_inputs (typed_of i.of_type) (subst AsksInput (sym (name_typed i.of_type.wrappers i.of_type.name))
        (asked i (found_in (λ (j : InputFact). bytes_eq a.name.text j.name) inputs i is).0))))

    known_same : (inputs : List InputFact) → AsksAll inputs → (given : List Argument)
        → argument_usages u file (Some inputs) given ≡ argument_usages v file (Some inputs) given
    known_same inputs asked [] = refl
    known_same inputs asked (a ∷ given) =
        ap (λ l. l ++ argument_usages u file (Some inputs) given) (argument_by a inputs (defined inputs a.name.text) refl asked)
        ∙ ap (λ l. usages_of_argument (known_inputs v) file (Some inputs) a ++ l) (known_same inputs asked given)

    unknown_same : (given : List Argument) → argument_usages u file None given ≡ argument_usages v file None given
    unknown_same [] = refl
    unknown_same (a ∷ given) = unknown_same given

    directive_same : (f : Fact) (given : List Argument) → ((t : List ℕ) → Contains (types_in f) t → AsksInput t)
        → argument_usages u file (of_directive (directive_in f)) given ≡ argument_usages v file (of_directive (directive_in f)) given
    directive_same fact.Absent given asks = unknown_same given
    directive_same (fact.Kind k) given asks = unknown_same given
    directive_same (fact.Field d) given asks = unknown_same given
    directive_same (fact.Possible names) given asks = unknown_same given
    directive_same (fact.Input fields) given asks = unknown_same given
    directive_same (fact.Enum values) given asks = unknown_same given
    directive_same (fact.Directive d) given asks = known_same d.arguments (λ i h. asks i.of_type.name (named_in i d.arguments h)) given
    directive_same (fact.Root name) given asks = unknown_same given
    directive_same (fact.Fragment g) given asks = unknown_same given

    field_same : (f : Fact) (given : List Argument) → ((t : List ℕ) → Contains (types_in f) t → AsksInput t)
        → argument_usages u file (of_field (field_in f)) given ≡ argument_usages v file (of_field (field_in f)) given
    field_same fact.Absent given asks = unknown_same given
    field_same (fact.Kind k) given asks = unknown_same given
    field_same (fact.Field d) given asks = known_same d.arguments
        (λ i h. asks i.of_type.name (Contains-there i.of_type.name d.of_type.name (input_types d.arguments) (named_in i d.arguments h))) given
    field_same (fact.Possible names) given asks = unknown_same given
    field_same (fact.Input fields) given asks = unknown_same given
    field_same (fact.Enum values) given asks = unknown_same given
    field_same (fact.Directive d) given asks = unknown_same given
    field_same (fact.Root name) given asks = unknown_same given
    field_same (fact.Fragment g) given asks = unknown_same given

    -- ---- nodes

    directives_same : (ds : List Directive) → Within (directive_reads ds) → directive_usages u file ds ≡ directive_usages v file ds
    directives_same [] within = refl
    directives_same (d ∷ ds) within =
        let k = key.DirectiveOf d.name.text in
        let asked = at_first k (directive_reads ds) within in
        ap (λ f. argument_usages u file (of_directive (directive_in f)) d.arguments ++ directive_usages u file ds) (agree k asked)
        ∙ ap (λ l. l ++ directive_usages u file ds) (directive_same (v k) d.arguments (λ t has. asks_type k t asked has))
        ∙ ap (λ l. usages_of_directive v file d ++ l) (directives_same ds (rest k (directive_reads ds) within))

    arguments_same : (p : Option (List ℕ)) (n : List ℕ) (given : List Argument) → Within (field_reads v p n)
        → argument_usages u file (of_field (field_of u p n)) given ≡ argument_usages v file (of_field (field_of v p n)) given
    arguments_same None n given within = unknown_same given
    arguments_same (Some t) n given within =
        let k = key.FieldOf t n in
        let asked = at_first k (composite_reads (field_type v (Some t) n)) within in
        ap (λ f. argument_usages u file (of_field (field_in f)) given) (agree k asked)
        ∙ field_same (v k) given (λ m has. asks_type k m asked has)

    node_same : (n : Node) → Within (node_reads v n) → node_usages u file n ≡ node_usages v file n
    node_same (field f) within =
        let asks = field_reads v f.parent f.name.text in
        ap (λ l. l ++ directive_usages u file f.directives) (arguments_same f.parent f.name.text f.arguments (first asks (directive_reads f.directives) within))
        ∙ ap (λ l. argument_usages v file (of_field (field_of v f.parent f.name.text)) f.arguments ++ l)
        (directives_same f.directives (second asks (directive_reads f.directives) within))
    node_same (spread parent y) within = directives_same y.directives (rest (key.FragmentOf y.name.text) (directive_reads y.directives) within)
    node_same (inline i) within = directives_same i.directives (second (condition_reads i.condition) (directive_reads i.directives) within)

    nodes_same : (ns : List Node) → Within (set_reads v ns) → flat_map (node_usages u file) ns ≡ flat_map (node_usages v file) ns
    nodes_same [] within = refl
    nodes_same (n ∷ ns) within =
        ap (λ l. l ++ flat_map (node_usages u file) ns) (node_same n (first (node_reads v n) (set_reads v ns) within))
        ∙ ap (λ l. node_usages v file n ++ l) (nodes_same ns (second (node_reads v n) (set_reads v ns) within))

    -- directives, and nodes that are the same in both
    pub parts_same : (ds : List Directive) (there here : List Node) → there ≡ here → Within (directive_reads ds) → Within (set_reads v here)
        → part_usages u file ds there ≡ part_usages v file ds here
    parts_same ds there here same applied within =
        ap (λ ns. part_usages u file ds ns) same
        ∙ ap (λ l. l ++ flat_map (node_usages u file) here) (directives_same ds applied)
        ∙ ap (λ l. directive_usages v file ds ++ l) (nodes_same here within)
