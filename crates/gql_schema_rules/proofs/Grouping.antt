-- Root operation types in groups by kind and name, and those of a kind and a name among all.
use Rattle.std.proofs.Common.{◌≡◌, ◌<◌, ◌+◌, ◌&&◌, ℕ, List, [], ◌∷◌, ◌++◌, Bool, Option, Some, None, length, get_or, take, arith, refl, ap, ap₂, ◌∙◌, filter, flat_map, bytes_eq, cond}
use Rattle.std.proofs.lemmas.List.{take_more}
use Rattle.std.proofs.lemmas.Grind.{common_steps}
use Rattle.gql_ast.specs.declared.executable.OperationKind.{OperationKind}
use Rattle.gql_ast.specs.declared.executable.OperationKind.TheVariants.{Query, Mutation, Subscription}
use Rattle.gql_types.specs.declared.roots.Root.{Root}
use Rattle.gql_types.specs.declared.schema.Schema.{Schema}
use Rattle.gql_types.specs.declared.schema_type.SchemaType.{SchemaType}
use Rattle.gql_types.specs.Kinds.{same_operation}
use Rattle.gql_types.specs.Schemas.{type_named}
use Rattle.gql_faults.specs.Faults.{where_known}
use Rattle.gql_schema_rules.specs.S25SharedRootTypes.{fault_with, is_for, faults_with_kind, faults_with_earlier, faults_of_root}
use Rattle.gql_schema_rules.specs.RootGroups.{key, key_of, grouped_as, grouped_earlier, grouped_with}

same_key : (k l : OperationKind) (name text : List ℕ) → bytes_eq (key_of k name) (key_of l text) ≡ (same_operation k l && bytes_eq name text)
unfolding same_operation
same_key Query Query name text = refl
same_key Query Mutation name text = refl
same_key Query Subscription name text = refl
same_key Mutation Query name text = refl
same_key Mutation Mutation name text = refl
same_key Mutation Subscription name text = refl
same_key Subscription Query name text = refl
same_key Subscription Mutation name text = refl
same_key Subscription Subscription name text = refl

same_filter : (p q : Root → Bool) → ((r : Root) → p r ≡ q r) → (xs : List Root) → filter p xs ≡ filter q xs
same_filter p q same [] = refl
same_filter p q same (x ∷ xs) = ap₂ (λ b rest. cond b (x ∷ rest) rest) (same x) (same_filter p q same xs)

module _ (groups : List ℕ → List Root) (before : List Root) (held : (q : List ℕ) → groups q ≡ filter (λ (r : Root). bytes_eq q (key r)) before) where
  as_kind : (r : Root) (k : OperationKind) → grouped_as groups r k ≡ faults_with_kind r before k
  as_kind r k = ap (λ rs. cond (same_operation k r.kind) [] (flat_map (fault_with r) rs))
      (held (key_of k r.name.node.text) ∙ same_filter (λ q. bytes_eq (key_of k r.name.node.text) (key q)) (is_for k r.name.node.text) (λ q. same_key k q.kind r.name.node.text q.name.node.text) before)

  all_kinds : (r : Root) → grouped_earlier groups r ≡ faults_with_earlier r before
  all_kinds r = ap₂ (λ a b. a ++ b) (as_kind r Query) (ap₂ (λ a b. a ++ b) (as_kind r Mutation) (as_kind r Subscription))

  known : (r : Root) (t : Option SchemaType) → where_known t (λ (k : SchemaType). grouped_earlier groups r) ≡ where_known t (λ (k : SchemaType). faults_with_earlier r before)
  known r None = refl
  known r (Some t) = all_kinds r

  pub faults_by_groups : (s : Schema) (r : Root) → grouped_with s groups r ≡ faults_of_root s before r
  faults_by_groups s r = known r (type_named s r.name.node.text)

filter_more : (p : Root → Bool) (xs : List Root) (x : Root) → filter p (xs ++ x ∷ []) ≡ filter p xs ++ cond (p x) (x ∷ []) []
filter_more p [] x = refl
filter_more p (y ∷ xs) x = grind (arith, common_steps, filter_more p xs x)

-- the groups, with one more
pub held_more : (q : List ℕ) (roots : List Root) (i : ℕ) (x : Root) (old new : List Root) → i < length roots → get_or roots i x ≡ x
    → old ≡ filter (λ (r : Root). bytes_eq q (key r)) (take i roots)
    → new ≡ old ++ cond (bytes_eq q (key x)) (x ∷ []) []
    → new ≡ filter (λ (r : Root). bytes_eq q (key r)) (take (i + 1) roots)
held_more q roots i x old new within item before after =
    rw (take_more roots i x within, item, filter_more (λ (r : Root). bytes_eq q (key r)) (take i roots) x) (after ∙ ap (λ rs. rs ++ cond (bytes_eq q (key x)) (x ∷ []) []) before)
