-- What is found in a selection set is what is found in its selections, part by part.
use Rattle.std.specs.Prelude.{◌≡◌, ◌<◌, ℕ, List, [], ◌∷◌, ◌++◌, length, take, ◌+◌, refl, Option, Some, None, option_map}
use Rattle.std.proofs.Common.{ap, sym, ◌∙◌, get_or}
use Rattle.std.proofs.lemmas.List.{take_more}
use Rattle.gql_ast.specs.declared.executable.Field.{Field}
use Rattle.gql_ast.specs.declared.executable.InlineFragment.{InlineFragment}
use Rattle.gql_ast.specs.declared.executable.Selection.{Selection}
use Rattle.gql_ast.specs.declared.executable.Selection.TheVariants as s
use Rattle.gql_ast.specs.declared.executable.Spread.{Spread}
use Rattle.gql_ast.specs.declared.fault.Fault.{Fault}
use Rattle.gql_facts.specs.Nodes.{nodes, nodes_in, nodes_field, nodes_spread, nodes_inline, spread, composite, field_type, field_type_in, parent_below}
use Rattle.gql_facts.specs.Worlds.{Facts}
use Rattle.gql_facts.specs.declared.fact.Fact.{Fact}
use Rattle.gql_facts.specs.declared.fact.Fact.TheVariants as fact
use Rattle.gql_facts.specs.declared.fact.FieldFact.{FieldFact}
use Rattle.gql_facts.specs.declared.key.Key.TheVariants as key
use Rattle.gql_rules.specs.Answers.{field_in, field_of}
use Rattle.gql_vars.specs.declared.usage_check.UsageCheck.{UsageCheck}
use Rattle.gql_vars.specs.Misuses.{node_misuses, nodes_misuses, set_misuses, selection_misuses, field_visit, inline_visit}
use Rattle.gql_vars.proofs.ValueUsages.{flat_append}

append_assoc : {A : Type 0} (a b c : List A) → (a ++ b) ++ c ≡ a ++ (b ++ c)
append_assoc [] b c = refl
append_assoc (x ∷ a) b c = ap (λ l. x ∷ l) (append_assoc a b c)

append_end : {A : Type 0} (a : List A) → a ++ [] ≡ a
append_end [] = refl
append_end (x ∷ a) = ap (λ l. x ∷ l) (append_end a)

-- ---- the parent type below a field

-- the name of a field's type
abbrev type_name : FieldFact → List ℕ
type_name f = f.of_type.name

type_in : (f : Fact) → field_type_in f ≡ option_map type_name (field_in f)
type_in fact.Absent = refl
type_in (fact.Kind k) = refl
type_in (fact.Field d) = refl
type_in (fact.Possible names) = refl
type_in (fact.Input fields) = refl
type_in (fact.Enum values) = refl
type_in (fact.Directive d) = refl
type_in (fact.Root name) = refl
type_in (fact.Fragment g) = refl

type_is : (facts : Facts) (parent : Option (List ℕ)) (n : List ℕ) → field_type facts parent n ≡ option_map type_name (field_of facts parent n)
type_is facts None n = refl
type_is facts (Some t) n = type_in (facts (key.FieldOf t n))

-- by what the code asks, where the facts stayed
pub below_by : (facts later : Facts) (parent : Option (List ℕ)) (n : List ℕ) (known : Option FieldFact) (named below : Option (List ℕ))
    → known ≡ field_of facts parent n → later ≡ facts → named ≡ option_map (λ (f : FieldFact). f.of_type.name) known → below ≡ composite later named
    → below ≡ parent_below facts parent n
below_by facts later parent n known named below known_is same named_is below_is =
    below_is ∙ ap (λ f. composite f named) same ∙ ap (composite facts) (named_is ∙ ap (option_map type_name) known_is ∙ sym (type_is facts parent n))

-- ---- selections

module _ (facts : Facts) (c : UsageCheck) (parent : Option (List ℕ)) where
  pub of_field : (x : Selection) (f : Field) → x ≡ s.Field f → selection_misuses facts c parent x ≡ field_visit facts c parent f
  of_field x f is = ap (selection_misuses facts c parent) is ∙ ap (nodes_misuses facts c) (nodes_field facts f parent)

  pub of_inline : (x : Selection) (i : InlineFragment) → x ≡ s.InlineFragment i → selection_misuses facts c parent x ≡ inline_visit facts c parent i
  of_inline x i is = ap (selection_misuses facts c parent) is ∙ ap (nodes_misuses facts c) (nodes_inline facts i parent)

  pub of_spread : (x : Selection) (y : Spread) → x ≡ s.Spread y → selection_misuses facts c parent x ≡ node_misuses facts c (spread parent y)
  of_spread x y is = ap (selection_misuses facts c parent) is ∙ ap (nodes_misuses facts c) (nodes_spread facts y parent) ∙ append_end (node_misuses facts c (spread parent y))

  more : (xs : List Selection) (x : Selection) → set_misuses facts c parent (xs ++ x ∷ []) ≡ set_misuses facts c parent xs ++ selection_misuses facts c parent x
  more xs x = ap (nodes_misuses facts c) (flat_append (λ y. nodes_in facts y parent) xs (x ∷ []) ∙ ap (λ l. nodes facts parent xs ++ l) (append_end (nodes_in facts x parent)))
      ∙ flat_append (node_misuses facts c) (nodes facts parent xs) (nodes_in facts x parent)

  -- one selection more
  pub visited_more : (xs : List Selection) (i : ℕ) (x : Selection) (old before after : List Fault) → i < length xs → get_or xs i x ≡ x
      → before ≡ old ++ set_misuses facts c parent (take i xs)
      → after ≡ before ++ selection_misuses facts c parent x
      → after ≡ old ++ set_misuses facts c parent (take (i + 1) xs)
  visited_more xs i x old before after within item is new =
      new ∙ ap (λ l. l ++ selection_misuses facts c parent x) is
      ∙ append_assoc old (set_misuses facts c parent (take i xs)) (selection_misuses facts c parent x)
      ∙ ap (λ l. old ++ l) (sym (ap (set_misuses facts c parent) (take_more xs i x within ∙ ap (λ y. take i xs ++ y ∷ []) item) ∙ more (take i xs) x))

-- what is found first, and then in a selection set, of facts that stayed
pub selected_after : (F F1 : Facts) (c : UsageCheck) (below p : Option (List ℕ)) (ys xs : List Selection) (head f0 f1 f2 : List Fault)
    → F1 ≡ F → below ≡ p → ys ≡ xs → f1 ≡ f0 ++ head → f2 ≡ f1 ++ set_misuses F1 c below ys
    → f2 ≡ f0 ++ (head ++ set_misuses F c p xs)
selected_after F F1 c below p ys xs head f0 f1 f2 same entered listed first second =
    second ∙ ap (λ l. l ++ set_misuses F1 c below ys) first
    ∙ append_assoc f0 head (set_misuses F1 c below ys)
    ∙ ap (λ f. f0 ++ (head ++ set_misuses f c below ys)) same
    ∙ ap (λ q. f0 ++ (head ++ set_misuses F c q ys)) entered
    ∙ ap (λ l. f0 ++ (head ++ set_misuses F c p l)) listed

-- one part after the other
pub two : {A : Type 0} (old mid new a b : List A) → mid ≡ old ++ a → new ≡ mid ++ b → new ≡ old ++ (a ++ b)
two old mid new a b first second = second ∙ ap (λ l. l ++ b) first ∙ append_assoc old a b
