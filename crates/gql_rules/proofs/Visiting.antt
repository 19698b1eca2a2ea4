-- What a visit of a selection set finds is what visits of its selections find, part by part.
use Rattle.std.specs.Prelude.{◌≡◌, ◌<◌, ℕ, List, [], ◌∷◌, ◌++◌, flat_map, length, take, ◌+◌, refl, Option}
use Rattle.std.proofs.Common.{ap, sym, ◌∙◌, get_or}
use Rattle.std.proofs.lemmas.List.{take_more}
use Rattle.gql_ast.specs.declared.executable.Selection.{Selection}
use Rattle.gql_ast.specs.declared.executable.Selection.TheVariants as s
use Rattle.gql_ast.specs.declared.executable.Field.{Field}
use Rattle.gql_ast.specs.declared.executable.InlineFragment.{InlineFragment}
use Rattle.gql_ast.specs.declared.executable.Spread.{Spread}
use Rattle.gql_ast.specs.declared.fault.Fault.{Fault}
use Rattle.gql_ast.specs.declared.fault.FilePlace.{FilePlace}
use Rattle.gql_facts.specs.Nodes.{nodes, nodes_in, nodes_field, nodes_spread, nodes_inline, spread}
use Rattle.gql_facts.specs.Worlds.{Facts}
use Rattle.gql_rules.specs.LocalFaults.{node_faults, set_faults, set_visit, selection_visit, field_visit, inline_visit}

append_assoc : {A : Type 0} (a b c : List A) → (a ++ b) ++ c ≡ a ++ (b ++ c)
append_assoc [] b c = refl
append_assoc (x ∷ a) b c = ap (λ l. x ∷ l) (append_assoc a b c)

append_end : {A : Type 0} (a : List A) → a ++ [] ≡ a
append_end [] = refl
append_end (x ∷ a) = ap (λ l. x ∷ l) (append_end a)

flat_append : {A B : Type 0} (f : A → List B) (xs ys : List A) → flat_map f (xs ++ ys) ≡ flat_map f xs ++ flat_map f ys
flat_append f [] ys = refl
flat_append f (x ∷ xs) ys = ap (λ l. f x ++ l) (flat_append f xs ys) ∙ sym (append_assoc (f x) (flat_map f xs) (flat_map f ys))

module _ (facts : Facts) (owner : FilePlace) (parent : Option (List ℕ)) where
  pub of_field : (x : Selection) (f : Field) → x ≡ s.Field f → selection_visit facts owner parent x ≡ field_visit facts owner parent f
  of_field x f is = ap (selection_visit facts owner parent) is ∙ ap (set_faults facts owner) (nodes_field facts f parent)

  pub of_inline : (x : Selection) (i : InlineFragment) → x ≡ s.InlineFragment i → selection_visit facts owner parent x ≡ inline_visit facts owner parent i
  of_inline x i is = ap (selection_visit facts owner parent) is ∙ ap (set_faults facts owner) (nodes_inline facts i parent)

  pub of_spread : (x : Selection) (y : Spread) → x ≡ s.Spread y → selection_visit facts owner parent x ≡ node_faults facts owner (spread parent y)
  of_spread x y is = ap (selection_visit facts owner parent) is ∙ ap (set_faults facts owner) (nodes_spread facts y parent) ∙ append_end (node_faults facts owner (spread parent y))

  pub visit_cons : (x : Selection) (xs : List Selection) → set_visit facts owner parent (x ∷ xs) ≡ selection_visit facts owner parent x ++ set_visit facts owner parent xs
  visit_cons x xs = flat_append (node_faults facts owner) (nodes_in facts x parent) (nodes facts parent xs)

  more : (xs : List Selection) (x : Selection) → set_visit facts owner parent (xs ++ x ∷ []) ≡ set_visit facts owner parent xs ++ selection_visit facts owner parent x
  more xs x = ap (set_faults facts owner) (flat_append (λ y. nodes_in facts y parent) xs (x ∷ []) ∙ ap (λ l. nodes facts parent xs ++ l) (append_end (nodes_in facts x parent)))
      ∙ flat_append (node_faults facts owner) (nodes facts parent xs) (nodes_in facts x parent)

  -- one selection more
  pub visited_more : (xs : List Selection) (i : ℕ) (x : Selection) (old before after : List Fault) → i < length xs → get_or xs i x ≡ x
      → before ≡ old ++ set_visit facts owner parent (take i xs)
      → after ≡ before ++ selection_visit facts owner parent x
      → after ≡ old ++ set_visit facts owner parent (take (i + 1) xs)
  visited_more xs i x old before after within item is new =
      new ∙ ap (λ l. l ++ selection_visit facts owner parent x) is
      ∙ append_assoc old (set_visit facts owner parent (take i xs)) (selection_visit facts owner parent x)
      ∙ ap (λ l. old ++ l) (sym (ap (set_visit facts owner parent) (take_more xs i x within ∙ ap (λ y. take i xs ++ y ∷ []) item) ∙ more (take i xs) x))

-- what is found at the start of a field or an inline fragment, and then in what it selects
pub selected_after : (F F1 : Facts) (owner : FilePlace) (below p : Option (List ℕ)) (ys xs : List Selection) (head f0 f1 f2 : List Fault)
    → F1 ≡ F → below ≡ p → ys ≡ xs → f1 ≡ f0 ++ head → f2 ≡ f1 ++ set_visit F1 owner below ys
    → f2 ≡ f0 ++ (head ++ set_visit F owner p xs)
selected_after F F1 owner below p ys xs head f0 f1 f2 same entered listed first second =
    second ∙ ap (λ l. l ++ set_visit F1 owner below ys) first
    ∙ append_assoc f0 head (set_visit F1 owner below ys)
    ∙ ap (λ f. f0 ++ (head ++ set_visit f owner below ys)) same
    ∙ ap (λ q. f0 ++ (head ++ set_visit F owner q ys)) entered
    ∙ ap (λ l. f0 ++ (head ++ set_visit F owner p l)) listed
