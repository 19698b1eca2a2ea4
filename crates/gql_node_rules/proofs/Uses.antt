-- What applied directives ask of the schema, by their definitions.
use Rattle.std.proofs.Common.{◌≡◌, ◌∙◌, ◌++◌, ◌∷◌, List, [], true, map, bytes_eq, refl, sym, subst, arith, length, Contains}
use Rattle.std.specs.Prelude.{◌==◌}
use Rattle.std.proofs.lemmas.Bool.Decides.{nat_tests}
use Rattle.std.proofs.lemmas.List.{nil_from_length}
use Rattle.std.proofs.lemmas.List.Folds.{flat_map-map}
use Rattle.gql_types.specs.declared.schema.Schema.{Schema}
use Rattle.gql_node_rules.specs.Applied.{annotated, applied}
use Rattle.gql_node_rules.specs.DirectiveUses.{IsUseOf, faults_of_all, types_of_all}
use Rattle.gql_node_rules.specs.FileChecks.{IsUseBy}
use Rattle.gql_node_rules.specs.FileFaults.{directive_faults, repeated_alone}
use Rattle.gql_node_rules.specs.Nodes.{AllNodes}
use Rattle.gql_node_rules.specs.Resolved.{Resolution, resolved_by, undefined}
use Rattle.gql_node_rules.specs.S30BadLocations as s30
use Rattle.gql_node_rules.specs.S32BadArguments as s32
use Rattle.gql_node_rules.specs.S33BadArgumentValues as s33
use Rattle.gql_node_rules.specs.ValueTypes.{is_input_object, types_by, value_types}
use Rattle.gql_node_rules.specs.declared.directive_use.DirectiveUse.{DirectiveUse}
use Rattle.gql_node_rules.proofs.Sets.{is_one, itself, no_one}

-- the faults of nodes and of the directives on them are those by the rules
pub of_nodes : (n : AllNodes) (s : Schema) → faults_of_all s (annotated n) (map (resolved_by s.directives) (applied n)) ≡ directive_faults n s
of_nodes n s = λ k. flat_map-map undefined (resolved_by s.directives) (applied n) k
    ++ (flat_map-map (λ (r : Resolution). s30.fault_by r.known r.application) (resolved_by s.directives) (applied n) k
    ++ (repeated_alone n s
    ++ (flat_map-map (λ (r : Resolution). s32.faults_by r.known r.application) (resolved_by s.directives) (applied n) k
    ++ flat_map-map (λ (r : Resolution). s33.faults_by s r.known r.application) (resolved_by s.directives) (applied n) k)))

none_mapped : {X Y : Type 0} (f : X → Y) (xs : List X) → map f xs ≡ [] → xs ≡ []
none_mapped f [] e = refl
none_mapped f (x ∷ xs) e = cc

-- what the directives of nodes ask
pub used : (s : Schema) (n : AllNodes) (u : DirectiveUse) → IsUseOf s (map (resolved_by s.directives) (applied n)) u → IsUseBy s n u
used s n u of =
    let types : types_of_all (map (resolved_by s.directives) (applied n)) ≡ value_types n s =
    flat_map-map (λ (r : Resolution). types_by r.known r.application) (resolved_by s.directives) (applied n) in
    record {
      none = λ no. none_mapped (resolved_by s.directives) (applied n) (of.none no);
      values = λ q h. of.values q ∙ is_one (bytes_eq q) _ q (subst (λ xs. Contains xs q) (sym types) h) (itself q);
      flat = λ no q h. no_one (is_input_object s) _ q (sym of.flat ∙ no) (subst (λ xs. Contains xs q) (sym types) h);
    }

pub none_if : {X : Type 0} (xs : List X) → (length xs == 0) ≡ true → xs ≡ []
none_if xs e = nil_from_length xs (grind (arith, nat_tests, e))
