-- What a selection set asks is what its selections ask, part by part.
use Rattle.std.specs.Prelude.{◌≡◌, ℕ, List, [], ◌∷◌, ◌++◌, flat_map, refl, Option}
use Rattle.std.proofs.Common.{ap, sym, ◌∙◌}
use Rattle.gql_ast.specs.declared.executable.Selection.{Selection}
use Rattle.gql_ast.specs.declared.executable.Field.{Field}
use Rattle.gql_ast.specs.declared.executable.InlineFragment.{InlineFragment}
use Rattle.gql_ast.specs.declared.executable.Spread.{Spread}
use Rattle.gql_ast.specs.declared.executable.Selection.TheVariants as s
use Rattle.gql_facts.specs.declared.key.Key.{Key}
use Rattle.gql_facts.specs.Worlds.{Facts}
use Rattle.gql_facts.specs.Nodes.{nodes, nodes_in, nodes_field, nodes_spread, nodes_inline}
use Rattle.gql_facts.specs.OwnReads.{field_reads, condition_reads, directive_reads, set_reads, node_reads, set_scan, selection_scan, field_scan, inline_scan, spread_scan}

-- ---- scans of the selections, part by part

pub flat_append : {A B : Type 0} (f : A → List B) (xs ys : List A) → flat_map f (xs ++ ys) ≡ flat_map f xs ++ flat_map f ys
flat_append f [] ys = refl
flat_append f (x ∷ xs) ys = ap (λ l. f x ++ l) (flat_append f xs ys) ∙ sym (assoc (f x) (flat_map f xs) (flat_map f ys)) where
  assoc : {C : Type 0} (a b c : List C) → (a ++ b) ++ c ≡ a ++ (b ++ c)
  assoc [] b c = refl
  assoc (y ∷ a) b c = ap (λ l. y ∷ l) (assoc a b c)

pub scan_cons : (facts : Facts) (p : Option (List ℕ)) (x : Selection) (xs : List Selection) → set_scan facts p (x ∷ xs) ≡ selection_scan facts p x ++ set_scan facts p xs
scan_cons facts p x xs = flat_append (node_reads facts) (nodes_in facts x p) (nodes facts p xs)

pub scan_field : (facts : Facts) (p : Option (List ℕ)) (f : Field) → selection_scan facts p (s.Field f) ≡ field_scan facts p f
scan_field facts p f = ap (set_reads facts) (nodes_field facts f p) ∙ assoc (field_reads facts p f.name.text) (directive_reads f.directives) _ where
  assoc : (a b c : List Key) → (a ++ b) ++ c ≡ a ++ (b ++ c)
  assoc [] b c = refl
  assoc (y ∷ a) b c = ap (λ l. y ∷ l) (assoc a b c)

pub scan_inline : (facts : Facts) (p : Option (List ℕ)) (i : InlineFragment) → selection_scan facts p (s.InlineFragment i) ≡ inline_scan facts p i
scan_inline facts p i = ap (set_reads facts) (nodes_inline facts i p) ∙ assoc (condition_reads i.condition) (directive_reads i.directives) _ where
  assoc : (a b c : List Key) → (a ++ b) ++ c ≡ a ++ (b ++ c)
  assoc [] b c = refl
  assoc (y ∷ a) b c = ap (λ l. y ∷ l) (assoc a b c)

pub scan_spread : (facts : Facts) (p : Option (List ℕ)) (x : Spread) → selection_scan facts p (s.Spread x) ≡ spread_scan x
scan_spread facts p x = ap (set_reads facts) (nodes_spread facts x p) ∙ end (spread_scan x) where
  end : (a : List Key) → a ++ [] ≡ a
  end [] = refl
  end (y ∷ a) = ap (λ l. y ∷ l) (end a)
