-- What a check of a file holds.
use Rattle.std.proofs.Common.{◌≡◌, ◌∙◌, ◌++◌, ◌||◌, ℕ, List, [], Bool, false, map, bytes_eq, refl, sym, ap, subst, append_assoc, Contains}
use Rattle.std.specs.HashSet.{contains}
use Rattle.std.specs.List.{list_any}
use Rattle.std.proofs.lemmas.List.Folds.{list_any-append}
use Rattle.gql_ast.specs.declared.definition.Document.{Document}
use Rattle.gql_ast.specs.declared.text.Name.{Name}
use Rattle.gql_built_in.specs.declared.sited.Sited.{Sited}
use Rattle.gql_types.specs.declared.schema.Schema.{Schema}
use Rattle.gql_node_rules.specs.DirectiveUses.{is_name_of, is_referred}
use Rattle.gql_node_rules.specs.FileChecks.{IsCheckOf, IsUseBy, appends}
use Rattle.gql_node_rules.specs.FileDefinitions.{AreDefinitionsOf}
use Rattle.gql_node_rules.specs.FileFaults.{file_faults, nodes_of_file}
use Rattle.gql_node_rules.specs.Nodes.{AllNodes}
use Rattle.gql_node_rules.specs.References as references
use Rattle.gql_node_rules.specs.Resolved.{TypeReference, roles_of, with_kind}
use Rattle.gql_node_rules.specs.declared.file_check.FileCheck.{FileCheck}
use Rattle.gql_node_rules.proofs.Sets.{any_map, is_one, itself}

-- whether one of these has the name
abbrev has_name : List ℕ → List (Sited Name) → Bool
has_name q xs = list_any (λ (x : Sited Name). bytes_eq q x.node.text) xs

with_kinds : (s : Schema) (q : List ℕ) (xs : List (Sited Name)) → is_name_of (map (with_kind s) xs) q ≡ has_name q xs
with_kinds s q xs = any_map (λ (r : TypeReference). bytes_eq q r.name.node.text) (with_kind s) xs

appended : (q : List ℕ) (xs ys : List (Sited Name)) (b : Bool) → b ≡ has_name q ys → (has_name q xs || b) ≡ has_name q (xs ++ ys)
appended q xs ys b e = ap (λ y. has_name q xs || y) e ∙ sym (list_any-append (λ (x : Sited Name). bytes_eq q x.node.text) xs ys)

referred : (n : AllNodes) (s : Schema) (q : List ℕ) → is_referred (roles_of n s) q ≡ has_name q (references.references n)
referred n s q =
    (λ k. with_kinds s q (references.inputs n) k || (with_kinds s q (references.outputs n) k || (with_kinds s q (references.interfaces n) k
    || (with_kinds s q (references.members n) k || with_kinds s q (references.roots n) k))))
    ∙ appended q (references.inputs n) _ _ (appended q (references.outputs n) _ _ (appended q (references.interfaces n) _ _
    (appended q (references.members n) (references.roots n) _ refl)))

pub checked : (s : Schema) (d : Document) (n : AllNodes) (c : FileCheck) → n ≡ nodes_of_file d → c.faults.items ≡ file_faults n s
    → ((q : List ℕ) → contains bytes_eq c.types q ≡ is_referred (roles_of n s) q) → IsUseBy s n c.directives
    → (c.has_appends ≡ false → appends n ≡ []) → AreDefinitionsOf d c.definitions → IsCheckOf s d c
checked s d n c is faults types directives none definitions = record {
  faults = faults ∙ ap (λ m. file_faults m s) is;
  types = λ x h. types x.node.text ∙ referred n s x.node.text
      ∙ is_one (λ (y : Sited Name). bytes_eq x.node.text y.node.text) (references.references n) x
      (subst (λ m. Contains (references.references m) x) (sym is) h) (itself x.node.text);
  directives = subst (λ m. IsUseBy s m c.directives) is directives;
  none_appends = λ e. ap appends (sym is) ∙ none e;
  definitions = definitions;
}

-- the faults of all rules were added
pub four_added : {X : Type 0} (zero one two three four all a b r d e : List X) → zero ≡ [] → one ≡ zero ++ a → two ≡ one ++ (b ++ r)
    → three ≡ two ++ d → four ≡ three ++ e → all ≡ four → all ≡ a ++ (b ++ (r ++ (d ++ e)))
four_added zero one two three four all a b r d e is_zero is_one is_two is_three is_four is_all =
    rw (is_all, is_four, is_three, is_two, is_one, is_zero) (simp append_assoc refl)
