-- The directives and the selections of an operation that are visited one after the other are its
-- faults by V29.
use Rattle.std.specs.Prelude.{◌≡◌, ℕ, List, ◌++◌, Option}
use Rattle.std.proofs.Common.{ap, ◌∙◌, append_assoc}
use Rattle.gql_ast.specs.declared.executable.Operation.{Operation}
use Rattle.gql_ast.specs.declared.executable.Selection.{Selection}
use Rattle.gql_ast.specs.declared.fault.Fault.{Fault}
use Rattle.gql_ast.specs.declared.literal.Directive.{Directive}
use Rattle.gql_facts.specs.OwnReads.{root_parent}
use Rattle.gql_facts.specs.Worlds.{Facts}
use Rattle.gql_vars.specs.declared.usage_check.UsageCheck.{UsageCheck}
use Rattle.gql_vars.specs.Misuses.{directive_misuses, operation_misuses, set_misuses}

module _ (F : Facts) (c : UsageCheck) (o : Operation) where
  pub visited : (G H : Facts) (ds : List Directive) (parent : Option (List ℕ)) (xs : List Selection) (old mid new : List Fault)
      → G ≡ F → H ≡ G
      → ds ≡ o.directives → parent ≡ root_parent G o.kind → xs ≡ o.selections
      → mid ≡ old ++ directive_misuses F c ds
      → new ≡ mid ++ set_misuses H c parent xs
      → new ≡ old ++ operation_misuses F c o
  visited G H ds parent xs old mid new first second applied entered selected a b =
      b ∙ ap (λ l. l ++ set_misuses H c parent xs) a
      ∙ append_assoc old (directive_misuses F c ds) (set_misuses H c parent xs)
      ∙ ap (λ z. old ++ (directive_misuses F c z ++ set_misuses H c parent xs)) applied
      ∙ ap (λ I. old ++ (directive_misuses F c o.directives ++ set_misuses I c parent xs)) (second ∙ first)
      ∙ ap (λ q. old ++ (directive_misuses F c o.directives ++ set_misuses F c q xs)) (entered ∙ ap (λ I. root_parent I o.kind) first)
      ∙ ap (λ z. old ++ (directive_misuses F c o.directives ++ set_misuses F c (root_parent F o.kind) z)) selected
