-- Definitions with new names that are put among others: no rule on names finds a fault, if none does in
-- the others, nor in these alone.
use Rattle.std.specs.List.{list_any}
use Rattle.std.specs.Prelude.{◌≡◌, ◌<◌, ◌≤◌, ◌+◌, ◌⊎◌, ◌||◌, ℕ, List, [], ◌∷◌, ◌++◌, refl, Contains, bytes_eq, count_by, filter, flat_map, length, map, nat_lt, Bool, true, false, cond, is_some, not, option_map, Option, Some, None, if◌then◌else◌}
use Rattle.std.proofs.Common.{ap, sym, ◌∙◌, subst, inl, inr, arith}
use Rattle.std.proofs.lemmas.Bool.Decides.{nat_tests}
use Rattle.std.proofs.lemmas.Grind.{flat_map-append}
use Rattle.std.proofs.lemmas.List.Elements.{All-contains, Contains-append_cases, Contains-append_left, Contains-append_right}
use Rattle.std.proofs.lemmas.List.Folds.{list_any-append}
use Rattle.std.proofs.lemmas.List.Sums.{length-filter, sum_by-append}
use Rattle.std.proofs.lemmas.List.{length-map}
use Rattle.std.proofs.lemmas.Option.{same_Some}
use Rattle.std.proofs.lemmas.Slice.Eq.{bytes_eq-Decides}
use Rattle.gql_ast.specs.Trees.{place_of}
use Rattle.gql_ast.specs.declared.definition.Definition.{Definition}
use Rattle.gql_ast.specs.declared.definition.Tree.{Tree}
use Rattle.gql_ast.specs.declared.definition.Tree.TheVariants as tree
use Rattle.gql_ast.specs.declared.fault.Fault.{Fault}
use Rattle.gql_ast.specs.declared.rule.Rule.{Rule}
use Rattle.gql_ast.specs.declared.rule.Rule.TheVariants as rule
use Rattle.gql_ast.specs.declared.text.Name.{Name}
use Rattle.gql_facts.specs.ListMembers.{Contains-cases, Contains-flat_map_from, Contains-here, Contains-map, Contains-nil, Contains-there, either}
use Rattle.gql_rules.specs.Faults.{fault_at}
use Rattle.gql_rules.specs.LocalFaults.{owner_of}
use Rattle.gql_rules.specs.Parts.{is_repeated}
use Rattle.gql_verdict.specs.Definitions.{is_operation, operation_name, fragment_name}
use Rattle.gql_verdict.specs.NameFaults.{faults_of}
use Rattle.gql_verdict.specs.NameViews.{operation, titled}
use Rattle.gql_verdict.specs.Naming.{IsEachOnce, Named, fault_if_repeated, fault_of_name, named_by, repeated_faults, text_of, with_name}
use Rattle.gql_verdict.specs.NewNames.{HasNewName, HaveNewNames, IsNoneOf, names_of_fragments, names_of_operations}
use Rattle.gql_verdict.specs.Spreads.{Names, spreads_in, tree_spreads}
use Rattle.gql_verdict.specs.V01ExecutableDefinitions as v01
use Rattle.gql_verdict.specs.V03LoneAnonymousOperation as v03
use Rattle.gql_verdict.specs.V14FragmentsMustBeUsed as v14
use Rattle.gql_verdict.proofs.Adding.{none_repeated}
use Rattle.gql_verdict.proofs.SameViews.{both_none, by_rules, first_none, if_none, none_if, none_unless, second_none, together, unless_none}

-- ---- lists

-- where nothing is made of a list, nothing is made of its elements
none_of_each : {A B : Type 0} (f : A → List B) (xs : List A) (x : A) → flat_map f xs ≡ [] → Contains xs x → f x ≡ []
none_of_each f [] x none c = absurd (Contains-nil x c)
none_of_each f (y ∷ ys) x none c = elim (Contains-cases x y ys c) [
  | inl is ↦ ap f is ∙ first_none (f y) (flat_map f ys) none
  | inr later ↦ none_of_each f ys x (second_none (f y) (flat_map f ys) none) later
]

each_none : {A B : Type 0} (f : A → List B) (xs : List A) → ((x : A) → Contains xs x → f x ≡ []) → flat_map f xs ≡ []
each_none f [] all = refl
each_none f (x ∷ xs) all =
    both_none (f x) (flat_map f xs) (all x (Contains-here x xs)) (each_none f xs (λ y c. all y (Contains-there y x xs c)))

-- what stands among others is one of them, or was put there
among_cases : {A : Type 0} (xs new ys : List A) (x : A) → Contains (xs ++ (new ++ ys)) x → Contains (xs ++ ys) x ⊎ Contains new x
among_cases xs new ys x c = elim (Contains-append_cases xs (new ++ ys) x c) [
  | inl before ↦ inl (Contains-append_left xs ys x before)
  | inr later ↦ elim (Contains-append_cases new ys x later) [
    | inl here ↦ inr here
    | inr after ↦ inl (Contains-append_right xs ys x after)
  ]
]

-- nothing is made of a list with more in it, by what is made of the list and of what is put there
module _ {A B : Type 0} (f g h : A → List B) (xs new ys : List A) where
  inserted_none : ((x : A) → f x ≡ [] → h x ≡ []) → ((x : A) → g x ≡ [] → h x ≡ []) → flat_map f (xs ++ ys) ≡ [] → flat_map g new ≡ []
      → flat_map h (xs ++ (new ++ ys)) ≡ []
  inserted_none from_old from_new none none_new = each_none h (xs ++ (new ++ ys)) (λ x c. elim (among_cases xs new ys x c) [
    | inl old ↦ from_old x (none_of_each f (xs ++ ys) x none old)
    | inr brought ↦ from_new x (none_of_each g new x none_new brought)
  ])

module _ {A : Type 0} (p : A → Bool) where
  -- one of those that pass a test
  some_passes : (xs : List A) → 0 < length (filter p xs) → (x : A) × Contains xs x × (p x ≡ true)
  some_passes [] some = absurd (omega (arith, some))
  some_passes (x ∷ xs) some = elim (either (p x)) [
    | inl it ↦ (x, Contains-here x xs, it)
    | inr isnt ↦
        let later : 0 < length (filter p xs) = rw isnt at some in
        let found = some_passes xs later in
        (found.0, Contains-there found.0 x xs found.1, found.2)
  ]

  passes : (xs : List A) (x : A) → Contains xs x → p x ≡ true → 0 < length (filter p xs)
  passes [] x c it = absurd (Contains-nil x c)
  passes (y ∷ ys) x c it = elim (Contains-cases x y ys c) [
    | inl is ↦
        let first : p y ≡ true = ap p (sym is) ∙ it in
        rw first (omega arith)
    | inr later ↦
        let some = passes ys x later it in
        elim (either (p y)) [
          | inl too ↦ rw too (omega arith)
          | inr isnt ↦ rw isnt some
        ]
  ]

  counted_in : (xs new ys : List A) → count_by p (xs ++ (new ++ ys)) ≡ count_by p (xs ++ ys) + count_by p new
  counted_in xs new ys =
      let all = sum_by-append (λ x. if p x then 1 else 0) xs (new ++ ys) in
      let later = sum_by-append (λ x. if p x then 1 else 0) new ys in
      let old = sum_by-append (λ x. if p x then 1 else 0) xs ys in
      omega (arith, all, later, old)

-- ---- names that occur once

-- those of a name
abbrev has_text : List ℕ → Named → Bool
has_text q n = bytes_eq q (text_of n)

-- a name that is counted is the name of one
counted_name : (all : List Named) (q : List ℕ) → 0 < count_by (has_text q) all → (n : Named) × Contains all n × (q ≡ text_of n)
counted_name all q some =
    let found = some_passes (has_text q) all (subst (λ n. 0 < n) (sym (length-filter (has_text q) all)) some) in
    (found.0, found.1, (bytes_eq-Decides q (text_of found.0)).0 found.2)

-- where there is no fault, each name occurs once
once_of_none : (of_rule : Rule) (all : List Named) → repeated_faults of_rule all ≡ [] → IsEachOnce all
once_of_none of_rule all none q = elim (either (is_repeated text_of all q)) [
  | inr isnt ↦ isnt
  | inl it ↦
      let some : 0 < count_by (has_text q) all = grind (arith, nat_tests, it) in
      let found = counted_name all q some in
      ap (is_repeated text_of all) found.2
      ∙ if_none (is_repeated text_of all (text_of found.0)) (fault_of_name of_rule found.0)
      (none_of_each (fault_if_repeated of_rule all) all found.0 none found.1)
]

-- new names that occur once each, among others that do
inserted_once : (xs new ys : List Named) → IsEachOnce (xs ++ ys) → IsEachOnce new
    → ((n : Named) → Contains new n → IsNoneOf (map text_of (xs ++ ys)) (text_of n)) → IsEachOnce (xs ++ (new ++ ys))
inserted_once xs new ys once once_new apart q =
    let counts = counted_in (has_text q) xs new ys in
    let old : nat_lt 1 (count_by (has_text q) (xs ++ ys)) ≡ false = once q in
    let brought : nat_lt 1 (count_by (has_text q) new) ≡ false = once_new q in
    let none : (0 < count_by (has_text q) new) → (0 < count_by (has_text q) (xs ++ ys)) → ⊥ = λ some more.
    let found = counted_name new q some in
    let other = counted_name (xs ++ ys) q more in
    apart found.0 found.1 (subst (Contains (map text_of (xs ++ ys))) (sym other.2 ∙ found.2) (Contains-map text_of (xs ++ ys) other.0 other.1)) in
    elim (either (nat_lt 0 (count_by (has_text q) new))) [
      | inr isnt ↦ grind (arith, nat_tests, counts, old, isnt)
      | inl it ↦ elim (either (nat_lt 0 (count_by (has_text q) (xs ++ ys)))) [
        | inr isnt ↦ grind (arith, nat_tests, counts, brought, isnt)
        | inl too ↦ absurd (none (grind (arith, nat_tests, it)) (grind (arith, nat_tests, too)))
      ]
    ]

named_among : (name_of : Tree → Option Name) (xs new ys : List Definition)
    → named_by name_of (xs ++ (new ++ ys)) ≡ named_by name_of xs ++ (named_by name_of new ++ named_by name_of ys)
named_among name_of xs new ys = flat_map-append (λ (d : Definition). with_name d (name_of d.tree)) xs (new ++ ys)
    ∙ ap (λ l. named_by name_of xs ++ l) (flat_map-append (λ (d : Definition). with_name d (name_of d.tree)) new ys)

named_old : (name_of : Tree → Option Name) (xs ys : List Definition) → named_by name_of (xs ++ ys) ≡ named_by name_of xs ++ named_by name_of ys
named_old name_of xs ys = flat_map-append (λ (d : Definition). with_name d (name_of d.tree)) xs ys

-- the text of the name that a definition has
its_name : (d : Definition) (o : Option Name) (n : Named) → Contains (with_name d o) n → o ≡ Some n.name
its_name d None n c = absurd (Contains-nil n c)
its_name d (Some name) n c = elim (Contains-cases n (record { definition = d; name = name }) [] c) [
  | inl is ↦ ap (λ (x : Named). Some x.name) (sym is)
  | inr none ↦ absurd (Contains-nil n none)
]

-- ---- spreads

spread_old : (a b c : Bool) → (a || c) ≡ true → (a || (b || c)) ≡ true
spread_old true b c e = refl
spread_old false true c e = refl
spread_old false false c e = e

spread_new : (a b c : Bool) → b ≡ true → (a || (b || c)) ≡ true
spread_new true b c e = refl
spread_new false b c e = rw e refl

module _ (xs new ys : List Definition) (q : List ℕ) where
  spread_among : v14.is_spread (spreads_in (xs ++ (new ++ ys))) q
      ≡ (v14.is_spread (spreads_in xs) q || (v14.is_spread (spreads_in new) q || v14.is_spread (spreads_in ys) q))
  spread_among =
      let spreads = λ (d : Definition). tree_spreads d.tree in
      ap (list_any (bytes_eq q)) (flat_map-append spreads xs (new ++ ys) ∙ ap (λ l. spreads_in xs ++ l) (flat_map-append spreads new ys))
      ∙ list_any-append (bytes_eq q) (spreads_in xs) (spreads_in new ++ spreads_in ys)
      ∙ ap (λ b. v14.is_spread (spreads_in xs) q || b) (list_any-append (bytes_eq q) (spreads_in new) (spreads_in ys))

  spread_before : v14.is_spread (spreads_in (xs ++ ys)) q ≡ (v14.is_spread (spreads_in xs) q || v14.is_spread (spreads_in ys) q)
  spread_before = ap (list_any (bytes_eq q)) (flat_map-append (λ (d : Definition). tree_spreads d.tree) xs ys)
      ∙ list_any-append (bytes_eq q) (spreads_in xs) (spreads_in ys)

  -- what is spread before, or in what is put there, is spread after
  still_spread : v14.is_spread (spreads_in (xs ++ ys)) q ≡ true → v14.is_spread (spreads_in (xs ++ (new ++ ys))) q ≡ true
  still_spread is = spread_among
      ∙ spread_old (v14.is_spread (spreads_in xs) q) (v14.is_spread (spreads_in new) q) (v14.is_spread (spreads_in ys) q) (sym spread_before ∙ is)

  newly_spread : v14.is_spread (spreads_in new) q ≡ true → v14.is_spread (spreads_in (xs ++ (new ++ ys))) q ≡ true
  newly_spread is = spread_among
      ∙ spread_new (v14.is_spread (spreads_in xs) q) (v14.is_spread (spreads_in new) q) (v14.is_spread (spreads_in ys) q) is

-- ---- operations without a name

abbrev unnamed : Definition → Bool
unnamed d = v03.is_anonymous d.tree

abbrev operates : Definition → Bool
operates d = is_operation d.tree

-- each operation has a name or has none
module _ (d : Definition) (ds : List Definition) (split : length (named_by operation_name ds) + length (filter unnamed ds) ≡ length (filter operates ds)) where
  split_name : (o : Option Name) → length (with_name d o ++ named_by operation_name ds)
      + length (cond (not (is_some o)) (d ∷ filter unnamed ds) (filter unnamed ds)) ≡ length (d ∷ filter operates ds)
  split_name None = omega (arith, split)
  split_name (Some n) = omega (arith, split)

  split_tree : (t : Tree) → length (with_name d (operation_name t) ++ named_by operation_name ds)
      + length (cond (v03.is_anonymous t) (d ∷ filter unnamed ds) (filter unnamed ds))
      ≡ length (cond (is_operation t) (d ∷ filter operates ds) (filter operates ds))
  split_tree (tree.Operation o) = split_name o.name
  split_tree (tree.Fragment f) = split
  split_tree (tree.Schema s) = split
  split_tree (tree.Type s) = split
  split_tree (tree.Directive s) = split
  split_tree (tree.SchemaExtension s) = split
  split_tree (tree.TypeExtension s) = split

operations_split : (ds : List Definition) → length (named_by operation_name ds) + length (filter unnamed ds) ≡ length (filter operates ds)
operations_split [] = refl
operations_split (d ∷ ds) = split_tree d ds (operations_split ds) d.tree

of_many : (b : Bool) (fs : List Fault) → b ≡ true → (if b then fs else []) ≡ [] → fs ≡ []
of_many true fs is none = none
of_many false fs is none = absurd (cc is)

-- where an operation has a name and V03 finds no fault, each operation has one
none_unnamed_among : (ds : List Definition) → 0 < length (named_by operation_name ds) → v03.faults ds ≡ [] → flat_map v03.fault_if_anonymous ds ≡ []
none_unnamed_among ds some none =
    let count = count_by operates ds in
    elim (either (nat_lt 1 count)) [
      | inl many ↦ of_many (nat_lt 1 count) (flat_map v03.fault_if_anonymous ds) many none
      | inr few ↦
          let most : count ≤ 1 = grind (arith, nat_tests, few) in
          let nothing : length (filter unnamed ds) ≡ 0 = omega (arith, most, some, operations_split ds, length-filter operates ds) in
          each_none v03.fault_if_anonymous ds (λ d c. elim (either (unnamed d)) [
            | inl it ↦ absurd (omega (arith, nothing, passes unnamed ds d c it))
            | inr isnt ↦ none_if (unnamed d) (fault_at (owner_of d) rule.V03 [] (place_of d.tree)) isnt
          ])
    ]

-- none of them has one, then V03 finds no fault
lone_none : (ds : List Definition) → flat_map v03.fault_if_anonymous ds ≡ [] → v03.faults ds ≡ []
lone_none ds none = by (nat_lt 1 (count_by operates ds))
  where
    by : (b : Bool) → (if b then flat_map v03.fault_if_anonymous ds else []) ≡ []
    by true = none
    by false = refl

-- ---- definitions with new names

-- what a new name says of a tree
operation_apart : (operations fragments : Names) (t : Tree) (n : Name) → HasNewName operations fragments (titled t) → operation_name t ≡ Some n
    → IsNoneOf operations n.text
operation_apart operations fragments (tree.Operation o) n new is = by o.name new is
  where
    by : (m : Option Name) → HasNewName operations fragments (operation (option_map (λ (x : Name). x.text) m)) → m ≡ Some n → IsNoneOf operations n.text
    by None nothing e = absurd nothing
    by (Some m) apart e = subst (λ (x : Name). IsNoneOf operations x.text) (same_Some m n e) apart
operation_apart operations fragments (tree.Fragment f) n new is = absurd (cc is)
operation_apart operations fragments (tree.Schema s) n new is = absurd new
operation_apart operations fragments (tree.Type s) n new is = absurd new
operation_apart operations fragments (tree.Directive s) n new is = absurd new
operation_apart operations fragments (tree.SchemaExtension s) n new is = absurd new
operation_apart operations fragments (tree.TypeExtension s) n new is = absurd new

fragment_apart : (operations fragments : Names) (t : Tree) (n : Name) → HasNewName operations fragments (titled t) → fragment_name t ≡ Some n
    → IsNoneOf fragments n.text
fragment_apart operations fragments (tree.Fragment f) n new is = subst (λ (x : Name). IsNoneOf fragments x.text) (same_Some f.name n is) new
fragment_apart operations fragments (tree.Operation o) n new is = absurd (cc is)
fragment_apart operations fragments (tree.Schema s) n new is = absurd new
fragment_apart operations fragments (tree.Type s) n new is = absurd new
fragment_apart operations fragments (tree.Directive s) n new is = absurd new
fragment_apart operations fragments (tree.SchemaExtension s) n new is = absurd new
fragment_apart operations fragments (tree.TypeExtension s) n new is = absurd new

has_its_name : (operations fragments : Names) (t : Tree) → HasNewName operations fragments (titled t) → v03.is_anonymous t ≡ false
has_its_name operations fragments (tree.Operation o) new = by o.name new
  where
    by : (m : Option Name) → HasNewName operations fragments (operation (option_map (λ (x : Name). x.text) m)) → not (is_some m) ≡ false
    by None nothing = absurd nothing
    by (Some m) apart = refl
has_its_name operations fragments (tree.Fragment f) new = refl
has_its_name operations fragments (tree.Schema s) new = refl
has_its_name operations fragments (tree.Type s) new = refl
has_its_name operations fragments (tree.Directive s) new = refl
has_its_name operations fragments (tree.SchemaExtension s) new = refl
has_its_name operations fragments (tree.TypeExtension s) new = refl

module _ (xs new ys : List Definition) (brings : HaveNewNames (names_of_operations (xs ++ ys)) (names_of_fragments (xs ++ ys)) new) where
  its_new : (d : Definition) → Contains new d → HasNewName (names_of_operations (xs ++ ys)) (names_of_fragments (xs ++ ys)) (titled d.tree)
  its_new d c = All-contains (λ (d : Definition). HasNewName (names_of_operations (xs ++ ys)) (names_of_fragments (xs ++ ys)) (titled d.tree)) new d brings c

  -- names of one kind that occur once
  kind_once : (of_rule : Rule) (name_of : Tree → Option Name)
      → ((t : Tree) (n : Name) → HasNewName (names_of_operations (xs ++ ys)) (names_of_fragments (xs ++ ys)) (titled t) → name_of t ≡ Some n
      → IsNoneOf (map text_of (named_by name_of (xs ++ ys))) n.text)
      → repeated_faults of_rule (named_by name_of (xs ++ ys)) ≡ [] → repeated_faults of_rule (named_by name_of new) ≡ []
      → repeated_faults of_rule (named_by name_of (xs ++ (new ++ ys))) ≡ []
  kind_once of_rule name_of apart none none_new =
      let a = named_by name_of xs in
      let n = named_by name_of new in
      let b = named_by name_of ys in
      let old = named_old name_of xs ys in
      ap (repeated_faults of_rule) (named_among name_of xs new ys)
      ∙ none_repeated of_rule (a ++ (n ++ b)) (inserted_once a n b
      (once_of_none of_rule (a ++ b) (ap (repeated_faults of_rule) (sym old) ∙ none))
      (once_of_none of_rule n none_new)
      (λ x c.
      let from = Contains-flat_map_from (λ (d : Definition). with_name d (name_of d.tree)) new x c in
      subst (λ l. IsNoneOf (map text_of l) (text_of x)) old
      (apart from.0.tree x.name (its_new from.0 from.1) (its_name from.0 (name_of from.0.tree) x from.2))))

  all_named : flat_map v03.fault_if_anonymous new ≡ []
  all_named = each_none v03.fault_if_anonymous new (λ d c. none_if (unnamed d) (fault_at (owner_of d) rule.V03 [] (place_of d.tree))
      (has_its_name (names_of_operations (xs ++ ys)) (names_of_fragments (xs ++ ys)) d.tree (its_new d c)))

  all_used : v14.faults (xs ++ ys) ≡ [] → v14.faults new ≡ [] → v14.faults (xs ++ (new ++ ys)) ≡ []
  all_used none none_new =
      let after = spreads_in (xs ++ (new ++ ys)) in
      ap (flat_map (v14.fault_of_fragment after)) (named_among fragment_name xs new ys)
      ∙ inserted_none (v14.fault_of_fragment (spreads_in (xs ++ ys))) (v14.fault_of_fragment (spreads_in new)) (v14.fault_of_fragment after)
      (named_by fragment_name xs) (named_by fragment_name new) (named_by fragment_name ys)
      (λ n is. none_unless (v14.is_spread after (text_of n)) (fault_of_name rule.V14 n)
      (still_spread xs new ys (text_of n) (unless_none (v14.is_spread (spreads_in (xs ++ ys)) (text_of n)) (fault_of_name rule.V14 n) is)))
      (λ n is. none_unless (v14.is_spread after (text_of n)) (fault_of_name rule.V14 n)
      (newly_spread xs new ys (text_of n) (unless_none (v14.is_spread (spreads_in new) (text_of n)) (fault_of_name rule.V14 n) is)))
      (ap (flat_map (v14.fault_of_fragment (spreads_in (xs ++ ys)))) (sym (named_old fragment_name xs ys)) ∙ none)
      none_new

-- ---- the rules together

-- no rule on names finds a fault in the others with these among them
pub inserted_sound : (xs new ys : List Definition) → HaveNewNames (names_of_operations (xs ++ ys)) (names_of_fragments (xs ++ ys)) new
    → 0 < length (names_of_operations (xs ++ ys)) → faults_of (xs ++ ys) ≡ [] → faults_of new ≡ [] → faults_of (xs ++ (new ++ ys)) ≡ []
inserted_sound xs new ys brings some none none_new =
    let old = by_rules (xs ++ ys) none in
    let alone = by_rules new none_new in
    let operations = names_of_operations (xs ++ ys) in
    let fragments = names_of_fragments (xs ++ ys) in
    let one : 0 < length (named_by operation_name (xs ++ ys)) = subst (λ n. 0 < n) (length-map (named_by operation_name (xs ++ ys)) text_of) some in
    together (xs ++ (new ++ ys)) (record {
      executable = inserted_none v01.fault_of_definition v01.fault_of_definition v01.fault_of_definition xs new ys (λ x is. is) (λ x is. is) old.executable alone.executable;
      operations = kind_once xs new ys brings rule.V02 operation_name (operation_apart operations fragments) old.operations alone.operations;
      lone = lone_none (xs ++ (new ++ ys)) (inserted_none v03.fault_if_anonymous v03.fault_if_anonymous v03.fault_if_anonymous xs new ys (λ x is. is) (λ x is. is)
          (none_unnamed_among (xs ++ ys) one old.lone) (all_named xs new ys brings));
      fragments = kind_once xs new ys brings rule.V11 fragment_name (fragment_apart operations fragments) old.fragments alone.fragments;
      used = all_used xs new ys brings old.used alone.used;
    })
