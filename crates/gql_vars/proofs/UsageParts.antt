-- The faults by V29 of all usages are those of their parts.
use Rattle.std.specs.Prelude.{◌≡◌, ℕ, List, [], ◌∷◌, ◌++◌, flat_map, refl, Option, Some, None}
use Rattle.std.proofs.Common.{ap, sym, ◌∙◌, append-nil}
use Rattle.gql_ast.specs.declared.executable.Fragment.{Fragment}
use Rattle.gql_ast.specs.declared.executable.Operation.{Operation}
use Rattle.gql_ast.specs.declared.executable.VariableDefinition.{VariableDefinition}
use Rattle.gql_ast.specs.declared.literal.Argument.{Argument}
use Rattle.gql_ast.specs.declared.literal.Directive.{Directive}
use Rattle.gql_ast.specs.declared.fault.Fault.{Fault}
use Rattle.gql_ast.specs.declared.fault.FilePlace.{FilePlace}
use Rattle.gql_facts.specs.Nodes.{Node, field, spread, inline}
use Rattle.gql_facts.specs.OwnReads.{operation_nodes, fragment_nodes}
use Rattle.gql_facts.specs.Worlds.{Facts}
use Rattle.gql_facts.specs.declared.fact.FragmentFact.{FragmentFact}
use Rattle.gql_facts.specs.declared.fact.InputFact.{InputFact}
use Rattle.gql_rules.specs.Answers.{field_of, directive_of}
use Rattle.gql_rules.specs.KnownInputs.{known_inputs}
use Rattle.gql_rules.specs.LocalFaults.{of_field, of_directive}
use Rattle.gql_rules.specs.V18ToV21Values.{definition_of}
use Rattle.gql_vars.specs.declared.usage_check.UsageCheck.{UsageCheck}
use Rattle.gql_vars.specs.Misuses.{first_named, misuse_of, misuse_by, misuse, misuses, misuses_by, misuses_of_member, usage_faults, misuses_of_argument, argument_misuses, misuses_of_directive, directive_misuses, node_misuses, nodes_misuses, operation_misuses, fragment_misuses}
use Rattle.gql_vars.specs.Usages.{Usage, usages_by, usages_of_argument, argument_usages, usages_of_directive, directive_usages, node_usages, part_usages, operation_usages, fragment_usages}
use Rattle.gql_vars.specs.Variables.{variable_named}
use Rattle.gql_vars.proofs.ValueUsages.{flat_append}

-- the same is found in each
pub flat_same : {A B : Type 0} (f g : A → List B) (xs : List A) → ((x : A) → f x ≡ g x) → flat_map f xs ≡ flat_map g xs
flat_same f g [] same = refl
flat_same f g (x ∷ xs) same = ap (λ l. l ++ flat_map f xs) (same x) ∙ ap (λ l. g x ++ l) (flat_same f g xs same)

-- what is found in all parts is found in one after the other
flat_parts : {A B C : Type 0} (f : B → List C) (g : A → List B) (h : A → List C) (xs : List A) → ((x : A) → flat_map f (g x) ≡ h x)
    → flat_map f (flat_map g xs) ≡ flat_map h xs
flat_parts f g h [] same = refl
flat_parts f g h (x ∷ xs) same = flat_append f (g x) (flat_map g xs) ∙ ap (λ l. l ++ flat_map f (flat_map g xs)) (same x)
    ∙ ap (λ l. h x ++ l) (flat_parts f g h xs same)

module _ (facts : Facts) (c : UsageCheck) where
  abbrev at_use : Usage → List Fault
  at_use = misuse_by facts c.owner.now (first_named c)

  abbrev file : List ℕ
  file = c.file.now

  by_definition : (a : Argument) (o : Option InputFact) → misuses facts c (usages_by (known_inputs facts) file a o) ≡ misuses_by facts c a o
  by_definition a None = refl
  by_definition a (Some i) = refl

  of_arguments : (known : Option (List InputFact)) (given : List Argument) → misuses facts c (argument_usages facts file known given) ≡ argument_misuses facts c known given
  of_arguments known given = flat_parts at_use (usages_of_argument (known_inputs facts) file known) (misuses_of_argument facts c known) given
      (λ a. by_definition a (definition_of known a.name.text))

  of_directives : (ds : List Directive) → misuses facts c (directive_usages facts file ds) ≡ directive_misuses facts c ds
  of_directives ds = flat_parts at_use (usages_of_directive facts file) (misuses_of_directive facts c) ds
      (λ d. of_arguments (of_directive (directive_of facts d.name.text)) d.arguments)

  of_node : (n : Node) → misuses facts c (node_usages facts file n) ≡ node_misuses facts c n
  of_node (field f) =
      let known = of_field (field_of facts f.parent f.name.text) in
      flat_append at_use (argument_usages facts file known f.arguments) (directive_usages facts file f.directives)
      ∙ ap (λ l. l ++ misuses facts c (directive_usages facts file f.directives)) (of_arguments known f.arguments)
      ∙ ap (λ l. argument_misuses facts c known f.arguments ++ l) (of_directives f.directives)
  of_node (spread parent x) = of_directives x.directives
  of_node (inline i) = of_directives i.directives

  of_parts : (ds : List Directive) (ns : List Node) → misuses facts c (part_usages facts file ds ns) ≡ directive_misuses facts c ds ++ nodes_misuses facts c ns
  of_parts ds ns =
      flat_append at_use (directive_usages facts file ds) (flat_map (node_usages facts file) ns)
      ∙ ap (λ l. l ++ misuses facts c (flat_map (node_usages facts file) ns)) (of_directives ds)
      ∙ ap (λ l. directive_misuses facts c ds ++ l) (flat_parts at_use (node_usages facts file) (node_misuses facts c) ns of_node)

  -- by the variables of the operation, which are these
  module _ (vs : List VariableDefinition) (named : (q : List ℕ) → first_named c q ≡ variable_named vs q) where
    by_variables : (xs : List Usage) → misuses facts c xs ≡ flat_map (misuse facts c.owner.now vs) xs
    by_variables xs = flat_same at_use (misuse facts c.owner.now vs) xs (λ x. ap (misuse_of facts c.owner.now x) (named x.used.name))

    pub of_operation : (o : Operation) → operation_misuses facts c o ≡ flat_map (misuse facts c.owner.now vs) (operation_usages facts file o)
    of_operation o = sym (of_parts o.directives (operation_nodes facts o)) ∙ by_variables (operation_usages facts file o)

    pub of_fragment : (f : Fragment) → fragment_misuses facts c f ≡ flat_map (misuse facts c.owner.now vs) (fragment_usages facts file f)
    of_fragment f = sym (of_parts f.directives (fragment_nodes facts f)) ∙ by_variables (fragment_usages facts file f)

-- an operation without variables
none_used : (facts : Facts) (owner : FilePlace) (xs : List Usage) → flat_map (misuse facts owner []) xs ≡ []
none_used facts owner [] = refl
none_used facts owner (x ∷ xs) = none_used facts owner xs

none_in : (facts : Facts) (owner : FilePlace) (members : List FragmentFact) → flat_map (misuses_of_member facts owner []) members ≡ []
none_in facts owner [] = refl
none_in facts owner (g ∷ members) = ap (λ l. l ++ flat_map (misuses_of_member facts owner []) members) (none_used facts owner (fragment_usages facts g.file g.fragment))
    ∙ none_in facts owner members

pub no_variables : (old : List Fault) (facts : Facts) (owner : FilePlace) (file : List ℕ) (o : Operation) (members : List FragmentFact) (vs : List VariableDefinition) → vs ≡ []
    → old ≡ old ++ usage_faults facts owner file o members vs
no_variables old facts owner file o members vs is =
    sym (ap (λ l. old ++ l) (ap (usage_faults facts owner file o members) is
    ∙ (ap (λ l. l ++ flat_map (misuses_of_member facts owner []) members) (none_used facts owner (operation_usages facts file o)) ∙ none_in facts owner members)) ∙ append-nil old)
