-- Where the rules on names see the same of each definition, they find a fault in both or in none.
use Rattle.std.specs.Prelude.{◌≡◌, ◌+◌, ℕ, List, [], ◌∷◌, ◌++◌, refl, bytes_eq, count_by, flat_map, fold, is_some, map, nat_lt, not, Bool, true, false, cond, Option, Some, None, option_map, if◌then◌else◌}
use Rattle.std.proofs.Common.{ap, sym, ◌∙◌}
use Rattle.std.proofs.lemmas.List.{map-append}
use Rattle.gql_ast.specs.Trees.{place_of}
use Rattle.gql_ast.specs.declared.definition.Definition.{Definition}
use Rattle.gql_ast.specs.declared.definition.Tree.{Tree}
use Rattle.gql_ast.specs.declared.definition.Tree.TheVariants as tree
use Rattle.gql_ast.specs.declared.fault.Fault.{Fault}
use Rattle.gql_ast.specs.declared.rule.Rule.{Rule}
use Rattle.gql_ast.specs.declared.rule.Rule.TheVariants as rule
use Rattle.gql_ast.specs.declared.text.Name.{Name}
use Rattle.gql_faults.specs.Faults.{where_known}
use Rattle.gql_rules.specs.Faults.{fault_at}
use Rattle.gql_rules.specs.LocalFaults.{owner_of}
use Rattle.gql_rules.specs.Parts.{is_repeated}
use Rattle.gql_verdict.specs.Definitions.{is_operation, operation_name, fragment_name}
use Rattle.gql_verdict.specs.NameFaults.{faults_of}
use Rattle.gql_verdict.specs.NameViews.{NameView, Titled, operation, fragment, of_types, titled, view_of, views_of}
use Rattle.gql_verdict.specs.Naming.{Named, fault_if_repeated, fault_of_name, named_by, repeated_faults, text_of, with_name}
use Rattle.gql_verdict.specs.Spreads.{spreads_in, tree_spreads}
use Rattle.gql_verdict.specs.V01ExecutableDefinitions as v01
use Rattle.gql_verdict.specs.V02OperationNameUniqueness as v02
use Rattle.gql_verdict.specs.V03LoneAnonymousOperation as v03
use Rattle.gql_verdict.specs.V11FragmentNameUniqueness as v11
use Rattle.gql_verdict.specs.V14FragmentsMustBeUsed as v14
use Rattle.gql_verdict.proofs.Adding.{count_map}

-- ---- lists

pub first_none : {A : Type 0} (xs ys : List A) → xs ++ ys ≡ [] → xs ≡ []
first_none [] ys e = refl
first_none (x ∷ xs) ys e = absurd (cc e)

pub second_none : {A : Type 0} (xs ys : List A) → xs ++ ys ≡ [] → ys ≡ []
second_none [] ys e = e
second_none (x ∷ xs) ys e = absurd (cc e)

pub both_none : {A : Type 0} (xs ys : List A) → xs ≡ [] → ys ≡ [] → xs ++ ys ≡ []
both_none xs ys e f = rw (e, f) refl

abbrev head_or : {A : Type 0} → A → List A → A
head_or d [] = d
head_or d (x ∷ xs) = x

abbrev tail_of : {A : Type 0} → List A → List A
tail_of [] = []
tail_of (x ∷ xs) = xs

-- lists of which the same is seen, where nothing that is made of one thing depends on more
module _ {A V B : Type 0} (v : A → V) (f g : A → List B) (step : (x y : A) → v x ≡ v y → f x ≡ [] → g y ≡ []) where
  transfer : (xs ys : List A) → map v xs ≡ map v ys → flat_map f xs ≡ [] → flat_map g ys ≡ []
  transfer [] [] same none = refl
  transfer [] (y ∷ ys) same none = absurd (cc same)
  transfer (x ∷ xs) [] same none = absurd (cc same)
  transfer (x ∷ xs) (y ∷ ys) same none = both_none (g y) (flat_map g ys)
      (step x y (ap (head_or (v x)) same) (first_none (f x) (flat_map f xs) none))
      (transfer xs ys (ap tail_of same) (second_none (f x) (flat_map f xs) none))

count_alike : {A : Type 0} (p q : A → Bool) → ((x : A) → p x ≡ q x) → (xs : List A) (n : ℕ)
    → fold (λ a x. a + cond (p x) 1 0) n xs ≡ fold (λ a x. a + cond (q x) 1 0) n xs
count_alike p q all [] n = refl
count_alike p q all (x ∷ xs) n =
    ap (λ b. fold (λ a x. a + cond (p x) 1 0) (n + cond b 1 0) xs) (all x) ∙ count_alike p q all xs (n + cond (q x) 1 0)

-- a fault or none
pub if_none : (b : Bool) (f : Fault) → (if b then f ∷ [] else []) ≡ [] → b ≡ false
if_none true f e = absurd (cc e)
if_none false f e = refl

pub none_if : (b : Bool) (f : Fault) → b ≡ false → (if b then f ∷ [] else []) ≡ []
none_if b f e = rw e refl

pub unless_none : (b : Bool) (f : Fault) → (if b then [] else f ∷ []) ≡ [] → b ≡ true
unless_none true f e = refl
unless_none false f e = absurd (cc e)

pub none_unless : (b : Bool) (f : Fault) → b ≡ true → (if b then [] else f ∷ []) ≡ []
none_unless b f e = rw e refl

known_none : (o : Option (List ℕ)) (k : List ℕ → Fault) → where_known o (λ a. k a ∷ []) ≡ [] → is_some o ≡ false
known_none None k e = refl
known_none (Some a) k e = absurd (cc e)

none_known : (o : Option (List ℕ)) (k : List ℕ → Fault) → is_some o ≡ false → where_known o (λ a. k a ∷ []) ≡ []
none_known None k e = refl
none_known (Some a) k e = absurd (cc e)

-- ---- what a title says

abbrev is_of_types : Titled → Bool
is_of_types (operation n) = false
is_of_types (fragment n) = false
is_of_types of_types = true

abbrev is_of_operation : Titled → Bool
is_of_operation (operation n) = true
is_of_operation (fragment n) = false
is_of_operation of_types = false

abbrev has_no_name : Titled → Bool
has_no_name (operation n) = not (is_some n)
has_no_name (fragment n) = false
has_no_name of_types = false

abbrev listed : Option (List ℕ) → List (List ℕ)
listed None = []
listed (Some n) = n ∷ []

abbrev operation_text : Titled → List (List ℕ)
operation_text (operation n) = listed n
operation_text (fragment n) = []
operation_text of_types = []

abbrev fragment_text : Titled → List (List ℕ)
fragment_text (operation n) = []
fragment_text (fragment n) = n ∷ []
fragment_text of_types = []

types_seen : (t : Tree) → is_some (v01.type_system_name t) ≡ is_of_types (titled t)
types_seen (tree.Operation o) = refl
types_seen (tree.Fragment f) = refl
types_seen (tree.Schema s) = refl
types_seen (tree.Type s) = refl
types_seen (tree.Directive s) = refl
types_seen (tree.SchemaExtension s) = refl
types_seen (tree.TypeExtension s) = refl

operations_seen : (t : Tree) → is_operation t ≡ is_of_operation (titled t)
operations_seen (tree.Operation o) = refl
operations_seen (tree.Fragment f) = refl
operations_seen (tree.Schema s) = refl
operations_seen (tree.Type s) = refl
operations_seen (tree.Directive s) = refl
operations_seen (tree.SchemaExtension s) = refl
operations_seen (tree.TypeExtension s) = refl

text_known : (o : Option Name) → is_some o ≡ is_some (option_map (λ (n : Name). n.text) o)
text_known None = refl
text_known (Some n) = refl

unnamed_seen : (t : Tree) → v03.is_anonymous t ≡ has_no_name (titled t)
unnamed_seen (tree.Operation o) = ap not (text_known o.name)
unnamed_seen (tree.Fragment f) = refl
unnamed_seen (tree.Schema s) = refl
unnamed_seen (tree.Type s) = refl
unnamed_seen (tree.Directive s) = refl
unnamed_seen (tree.SchemaExtension s) = refl
unnamed_seen (tree.TypeExtension s) = refl

text_listed : (d : Definition) (o : Option Name) → map text_of (with_name d o) ≡ listed (option_map (λ (n : Name). n.text) o)
text_listed d None = refl
text_listed d (Some n) = refl

operation_seen : (d : Definition) (t : Tree) → map text_of (with_name d (operation_name t)) ≡ operation_text (titled t)
operation_seen d (tree.Operation o) = text_listed d o.name
operation_seen d (tree.Fragment f) = refl
operation_seen d (tree.Schema s) = refl
operation_seen d (tree.Type s) = refl
operation_seen d (tree.Directive s) = refl
operation_seen d (tree.SchemaExtension s) = refl
operation_seen d (tree.TypeExtension s) = refl

fragment_seen : (d : Definition) (t : Tree) → map text_of (with_name d (fragment_name t)) ≡ fragment_text (titled t)
fragment_seen d (tree.Operation o) = refl
fragment_seen d (tree.Fragment f) = refl
fragment_seen d (tree.Schema s) = refl
fragment_seen d (tree.Type s) = refl
fragment_seen d (tree.Directive s) = refl
fragment_seen d (tree.SchemaExtension s) = refl
fragment_seen d (tree.TypeExtension s) = refl

-- ---- what definitions say

module _ (name_of : Tree → Option Name) (text : Titled → List (List ℕ)) (seen : (d : Definition) (t : Tree) → map text_of (with_name d (name_of t)) ≡ text (titled t)) where
  texts_seen : (ds : List Definition) → map text_of (named_by name_of ds) ≡ flat_map (λ (x : NameView). text x.title) (views_of ds)
  texts_seen [] = refl
  texts_seen (d ∷ ds) = map-append text_of (with_name d (name_of d.tree)) (named_by name_of ds)
      ∙ ap (λ l. l ++ map text_of (named_by name_of ds)) (seen d d.tree)
      ∙ ap (λ l. text (titled d.tree) ++ l) (texts_seen ds)

  same_texts : (ds es : List Definition) → views_of ds ≡ views_of es → map text_of (named_by name_of ds) ≡ map text_of (named_by name_of es)
  same_texts ds es same = texts_seen ds ∙ ap (flat_map (λ (x : NameView). text x.title)) same ∙ sym (texts_seen es)

spreads_seen : (ds : List Definition) → spreads_in ds ≡ flat_map (λ (x : NameView). x.spreads) (views_of ds)
spreads_seen [] = refl
spreads_seen (d ∷ ds) = ap (λ l. tree_spreads d.tree ++ l) (spreads_seen ds)

same_spreads : (ds es : List Definition) → views_of ds ≡ views_of es → spreads_in ds ≡ spreads_in es
same_spreads ds es same = spreads_seen ds ∙ ap (flat_map (λ (x : NameView). x.spreads)) same ∙ sym (spreads_seen es)

abbrev operations_among : List Definition → ℕ
operations_among = count_by (λ (d : Definition). is_operation d.tree)

operations_counted : (ds : List Definition) → operations_among ds ≡ count_by (λ (x : NameView). is_of_operation x.title) (views_of ds)
operations_counted ds =
    count_alike (λ (d : Definition). is_operation d.tree) (λ (d : Definition). is_of_operation (titled d.tree)) (λ d. operations_seen d.tree) ds 0
    ∙ sym (count_map (λ (x : NameView). is_of_operation x.title) view_of ds)

same_count : (ds es : List Definition) → views_of ds ≡ views_of es → operations_among es ≡ operations_among ds
same_count ds es same =
    operations_counted es ∙ ap (count_by (λ (x : NameView). is_of_operation x.title)) (sym same) ∙ sym (operations_counted ds)

-- ---- the rules

repeated_by : (xs : List Named) (q : List ℕ) → is_repeated text_of xs q ≡ nat_lt 1 (count_by (bytes_eq q) (map text_of xs))
repeated_by xs q = sym (ap (nat_lt 1) (count_map (bytes_eq q) text_of xs))

module _ (of_rule : Rule) (all more : List Named) (same : map text_of all ≡ map text_of more) where
  none_repeated_more : (x y : Named) → text_of x ≡ text_of y → fault_if_repeated of_rule all x ≡ [] → fault_if_repeated of_rule more y ≡ []
  none_repeated_more x y here none = none_if (is_repeated text_of more (text_of y)) (fault_of_name of_rule y)
      (repeated_by more (text_of y)
      ∙ ap (λ l. nat_lt 1 (count_by (bytes_eq (text_of y)) l)) (sym same)
      ∙ sym (repeated_by all (text_of y))
      ∙ ap (is_repeated text_of all) (sym here)
      ∙ if_none (is_repeated text_of all (text_of x)) (fault_of_name of_rule x) none)

  still_once : repeated_faults of_rule all ≡ [] → repeated_faults of_rule more ≡ []
  still_once = transfer text_of (fault_if_repeated of_rule all) (fault_if_repeated of_rule more) none_repeated_more all more same

-- none of the rules finds a fault
pub record AreSound (ds : List Definition) : Type 0 where
  pub executable : v01.faults ds ≡ []
  pub operations : v02.faults ds ≡ []
  pub lone : v03.faults ds ≡ []
  pub fragments : v11.faults ds ≡ []
  pub used : v14.faults ds ≡ []

pub by_rules : (ds : List Definition) → faults_of ds ≡ [] → AreSound ds
by_rules ds none =
    let a = v01.faults ds in
    let b = v02.faults ds in
    let c = v03.faults ds in
    let d = v11.faults ds in
    let e = v14.faults ds in
    let after_a = second_none a (b ++ (c ++ (d ++ e))) none in
    let after_b = second_none b (c ++ (d ++ e)) after_a in
    let after_c = second_none c (d ++ e) after_b in
    record {
      executable = first_none a (b ++ (c ++ (d ++ e))) none;
      operations = first_none b (c ++ (d ++ e)) after_a;
      lone = first_none c (d ++ e) after_b;
      fragments = first_none d e after_c;
      used = second_none d e after_c;
    }

pub together : (ds : List Definition) → AreSound ds → faults_of ds ≡ []
together ds s = both_none (v01.faults ds) _ s.executable (both_none (v02.faults ds) _ s.operations (both_none (v03.faults ds) _ s.lone
    (both_none (v11.faults ds) (v14.faults ds) s.fragments s.used)))

module _ (ds es : List Definition) (same : views_of ds ≡ views_of es) where
  executable : v01.faults ds ≡ [] → v01.faults es ≡ []
  executable = transfer view_of v01.fault_of_definition v01.fault_of_definition
      (λ x y here none. none_known (v01.type_system_name y.tree) (λ about. fault_at (owner_of y) rule.V01 about (place_of y.tree))
      (types_seen y.tree ∙ ap (λ (v : NameView). is_of_types v.title) (sym here) ∙ sym (types_seen x.tree)
      ∙ known_none (v01.type_system_name x.tree) (λ about. fault_at (owner_of x) rule.V01 about (place_of x.tree)) none))
      ds es same

  operations_once : v02.faults ds ≡ [] → v02.faults es ≡ []
  operations_once = still_once rule.V02 (named_by operation_name ds) (named_by operation_name es) (same_texts operation_name operation_text operation_seen ds es same)

  none_unnamed : flat_map v03.fault_if_anonymous ds ≡ [] → flat_map v03.fault_if_anonymous es ≡ []
  none_unnamed = transfer view_of v03.fault_if_anonymous v03.fault_if_anonymous
      (λ x y here none. none_if (v03.is_anonymous y.tree) (fault_at (owner_of y) rule.V03 [] (place_of y.tree))
      (unnamed_seen y.tree ∙ ap (λ (v : NameView). has_no_name v.title) (sym here) ∙ sym (unnamed_seen x.tree)
      ∙ if_none (v03.is_anonymous x.tree) (fault_at (owner_of x) rule.V03 [] (place_of x.tree)) none))
      ds es same

  by_count : (b : Bool) → (if b then flat_map v03.fault_if_anonymous ds else []) ≡ [] → (if b then flat_map v03.fault_if_anonymous es else []) ≡ []
  by_count true none = none_unnamed none
  by_count false none = refl

  alone : v03.faults ds ≡ [] → v03.faults es ≡ []
  alone none = ap (λ n. if nat_lt 1 n then flat_map v03.fault_if_anonymous es else []) (same_count ds es same) ∙ by_count (nat_lt 1 (operations_among ds)) none

  fragments_once : v11.faults ds ≡ [] → v11.faults es ≡ []
  fragments_once = still_once rule.V11 (named_by fragment_name ds) (named_by fragment_name es) (same_texts fragment_name fragment_text fragment_seen ds es same)

  used : v14.faults ds ≡ [] → v14.faults es ≡ []
  used = transfer text_of (v14.fault_of_fragment (spreads_in ds)) (v14.fault_of_fragment (spreads_in es))
      (λ x y here none. none_unless (v14.is_spread (spreads_in es) (text_of y)) (fault_of_name rule.V14 y)
      (ap (λ l. v14.is_spread l (text_of y)) (sym (same_spreads ds es same)) ∙ ap (v14.is_spread (spreads_in ds)) (sym here)
      ∙ unless_none (v14.is_spread (spreads_in ds) (text_of x)) (fault_of_name rule.V14 x) none))
      (named_by fragment_name ds) (named_by fragment_name es) (same_texts fragment_name fragment_text fragment_seen ds es same)

  -- no rule on names finds a fault in the second if none finds one in the first
  pub still_sound : faults_of ds ≡ [] → faults_of es ≡ []
  still_sound none =
      let s = by_rules ds none in
      together es (record {
        executable = executable s.executable;
        operations = operations_once s.operations;
        lone = alone s.lone;
        fragments = fragments_once s.fragments;
        used = used s.used;
      })
