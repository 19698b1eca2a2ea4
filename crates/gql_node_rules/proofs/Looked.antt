-- What the rules say of what was looked up once is what they say of the nodes.
use Rattle.std.proofs.Common.{◌≡◌, ◌∙◌, ◌++◌, ◌||◌, List, [], Option, map, flat_map, is_some, option_map, if◌then◌else◌, refl, arith}
use Rattle.std.proofs.lemmas.Grind.{common_steps, flat_map-append}
use Rattle.std.proofs.lemmas.List.Folds.{flat_map-map}
use Rattle.gql_ast.specs.declared.fault.Fault.{Fault}
use Rattle.gql_ast.specs.declared.rule.Rule.TheVariants as rule
use Rattle.gql_ast.specs.declared.text.Name.{Name}
use Rattle.gql_built_in.specs.declared.sited.Sited.{Sited}
use Rattle.gql_faults.specs.Faults.{fault_of}
use Rattle.gql_types.specs.Kinds.{is_input, is_output, same_kind}
use Rattle.gql_types.specs.Schemas.{type_named}
use Rattle.gql_types.specs.declared.kind.TypeKind.TheVariants as kind
use Rattle.gql_types.specs.declared.schema.Schema.{Schema}
use Rattle.gql_types.specs.declared.schema_type.SchemaType.{SchemaType}
use Rattle.gql_node_rules.specs.NodeFaults as spec
use Rattle.gql_node_rules.specs.Nodes.{AllNodes}
use Rattle.gql_node_rules.specs.P01FloatReferences as p01
use Rattle.gql_node_rules.specs.References as references
use Rattle.gql_node_rules.specs.Resolved.{TypeReference, of_all, of_wrong_kind, role_faults, roles_of, to_float, unknown, with_kind}
use Rattle.gql_node_rules.specs.S20UnknownTypes as s20
use Rattle.gql_node_rules.proofs.Same.{flat_map_same}

pub roles_same : (n : AllNodes) (s : Schema) → role_faults (roles_of n s) ≡ spec.role_faults n s
roles_same n s = λ k. flat_map-map (of_wrong_kind is_input rule.S16) (with_kind s) (references.inputs n) k
    ++ (flat_map-map (of_wrong_kind is_output rule.S21) (with_kind s) (references.outputs n) k
    ++ flat_map-map (of_wrong_kind (λ k. same_kind k kind.Object) rule.S22) (with_kind s) (references.members n) k)

of_five : {X Y Z : Type 0} (f : Y → List Z) (w : X → Y) (a b c d e : List X)
    → flat_map f (map w a) ++ (flat_map f (map w b) ++ (flat_map f (map w c) ++ (flat_map f (map w d) ++ flat_map f (map w e))))
    ≡ flat_map (λ x. f (w x)) (a ++ (b ++ (c ++ (d ++ e))))
of_five f w a b c d e = simp (flat_map-map, flat_map-append) refl

of_all_same : (f : TypeReference → List Fault) (n : AllNodes) (s : Schema)
    → of_all f (roles_of n s) ≡ flat_map (λ x. f (with_kind s x)) (references.references n)
of_all_same f n s = of_five f (with_kind s) (references.inputs n) (references.outputs n) (references.interfaces n)
    (references.members n) (references.roots n)

is_some_map : {X Y : Type 0} (f : X → Y) (o : Option X) → is_some (option_map f o) ≡ is_some o
is_some_map f (Option.Some x) = refl
is_some_map f Option.None = refl

unknown_same : (s : Schema) (x : Sited Name) → unknown (with_kind s x) ≡ s20.fault_of_name s x
unknown_same s x = λ k. if (is_some_map (λ (t : SchemaType). t.kind) (type_named s x.node.text) k
    || p01.is_float x.node.text) then [] else fault_of rule.S20 x

pub known_same : (n : AllNodes) (s : Schema) → of_all unknown (roles_of n s) ≡ s20.faults n s
known_same n s = of_all_same unknown n s
    ∙ flat_map_same (λ x. unknown (with_kind s x)) (s20.fault_of_name s) (references.references n) (unknown_same s)

float_same : (s : Schema) (x : Sited Name) → to_float (with_kind s x) ≡ p01.fault_of_name s x
float_same s x = λ k. if is_some_map (λ (t : SchemaType). t.kind) (type_named s x.node.text) k then [] else p01.fault_of_unknown x

pub floats_same : (n : AllNodes) (s : Schema) → of_all to_float (roles_of n s) ≡ p01.faults n s
floats_same n s = of_all_same to_float n s
    ∙ flat_map_same (λ x. to_float (with_kind s x)) (p01.fault_of_name s) (references.references n) (float_same s)

-- three lists of faults were added
pub three_added : {X : Type 0} (base one two three a b c p q r : List X) → one ≡ base ++ a → two ≡ one ++ b → three ≡ two ++ c
    → a ≡ p → b ≡ q → c ≡ r → three ≡ base ++ (p ++ (q ++ r))
three_added base one two three a b c p q r first second third is_p is_q is_r =
    rw (third, second, first, is_p, is_q, is_r) grind (arith, common_steps)
