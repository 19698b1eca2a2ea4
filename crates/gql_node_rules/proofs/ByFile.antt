-- The faults of nodes by file: a fault of the nodes of all files is one that a file has by itself,
-- or one of types and the schema with their extensions.
use Rattle.std.proofs.Common.{◌⊎◌, inl, inr, ℕ, List, [], ◌∷◌, ◌++◌, map, flat_map, subst, sym, Contains}
use Rattle.std.proofs.lemmas.Grind.{flat_map-append}
use Rattle.std.proofs.lemmas.List.Elements.{Contains-append_left, Contains-append_right, Contains-append_cases}
use Rattle.gql_ast.specs.declared.definition.Document.{Document}
use Rattle.gql_ast.specs.declared.definition.Tree.{Tree}
use Rattle.gql_ast.specs.declared.fault.Fault.{Fault}
use Rattle.gql_ast.specs.declared.text.Name.{Name}
use Rattle.gql_ast.specs.declared.type_system.DirectiveDefinition.{DirectiveDefinition}
use Rattle.gql_ast.specs.declared.type_system.EnumValueDefinition.{EnumValueDefinition}
use Rattle.gql_ast.specs.declared.type_system.FieldDefinition.{FieldDefinition}
use Rattle.gql_ast.specs.declared.type_system.InputValueDefinition.{InputValueDefinition}
use Rattle.gql_ast.specs.declared.type_system.SchemaDefinition.{SchemaDefinition}
use Rattle.gql_ast.specs.declared.type_system.SchemaExtension.{SchemaExtension}
use Rattle.gql_ast.specs.declared.type_system.TypeDefinition.{TypeDefinition}
use Rattle.gql_ast.specs.declared.type_system.TypeExtension.{TypeExtension}
use Rattle.gql_ast.specs.declared.type_system.TypeParts.{TypeParts}
use Rattle.gql_built_in.specs.declared.sited.Sited.{Sited}
use Rattle.gql_types.proofs.Members.{none, here, there, cases, Contains-to_map, Contains-from_map}
use Rattle.gql_types.specs.Definitions.{in_order_of, of_files}
use Rattle.gql_types.specs.declared.schema.Schema.{Schema}
use Rattle.gql_node_rules.specs.Applied.{Annotations, Application, annotated, applied}
use Rattle.gql_node_rules.specs.DefinedNames.{defined_names}
use Rattle.gql_node_rules.specs.FileFaults.{IsFileFault, directive_faults, file_faults, joint_faults, nodes_of_file, repeated_alone}
use Rattle.gql_node_rules.specs.NodeFaults as all
use Rattle.gql_node_rules.specs.Nodes as nodes
use Rattle.gql_node_rules.specs.Nodes.{AllNodes, nodes_of}
use Rattle.gql_node_rules.specs.References as references
use Rattle.gql_node_rules.specs.S29UnknownDirectives as s29
use Rattle.gql_node_rules.specs.S30BadLocations as s30
use Rattle.gql_node_rules.specs.S32BadArguments as s32
use Rattle.gql_node_rules.specs.S33BadArgumentValues as s33

-- ---- members of lists that are made of the members of others

from_flat_map : {A B : Type 0} (f : A → List B) (xs : List A) (b : B) → Contains (flat_map f xs) b → (a : A) × Contains xs a × Contains (f a) b
from_flat_map f [] b h = absurd (none b h)
from_flat_map f (x ∷ xs) b h = elim (Contains-append_cases (f x) (flat_map f xs) b h) [
  | inl l ↦ (x, here x xs, l)
  | inr r ↦ let t = from_flat_map f xs b r in (t.0, there t.0 x xs t.1, t.2)
]

pub to_flat_map : {A B : Type 0} (f : A → List B) (xs : List A) (a : A) (b : B) → Contains xs a → Contains (f a) b → Contains (flat_map f xs) b
to_flat_map f [] a b h g = absurd (none a h)
to_flat_map f (x ∷ xs) a b h g = elim (cases a x xs h) [
  | inl e ↦ Contains-append_left (f x) (flat_map f xs) b (subst (λ y. Contains (f y) b) e g)
  | inr t ↦ Contains-append_right (f x) (flat_map f xs) b (to_flat_map f xs a b t g)
]

-- ---- what splits where the definitions do

-- what is made of two lists of definitions has what is made of each, and nothing else
record Splits (A : Type 0) (g : List (Sited Tree) → List A) : Type 0 where
  forth : (xs ys : List (Sited Tree)) (a : A) → Contains (g (xs ++ ys)) a → Contains (g xs) a ⊎ Contains (g ys) a
  left : (xs ys : List (Sited Tree)) (a : A) → Contains (g xs) a → Contains (g (xs ++ ys)) a
  right : (xs ys : List (Sited Tree)) (a : A) → Contains (g ys) a → Contains (g (xs ++ ys)) a

-- what each definition has
own : {A : Type 0} (f : Sited Tree → List A) → Splits A (flat_map f)
own f = record {
  forth = λ xs ys a h. Contains-append_cases (flat_map f xs) (flat_map f ys) a (subst (λ l. Contains l a) (flat_map-append f xs ys) h);
  left = λ xs ys a h. subst (λ l. Contains l a) (sym (flat_map-append f xs ys)) (Contains-append_left (flat_map f xs) (flat_map f ys) a h);
  right = λ xs ys a h. subst (λ l. Contains l a) (sym (flat_map-append f xs ys)) (Contains-append_right (flat_map f xs) (flat_map f ys) a h);
}

-- two lists together
both : {A : Type 0} (g h : List (Sited Tree) → List A) → Splits A g → Splits A h → Splits A (λ ds. g ds ++ h ds)
both {A = A} g h p q = record {
  forth = λ xs ys a c. elim (Contains-append_cases (g (xs ++ ys)) (h (xs ++ ys)) a c) [
    | inl l ↦ elim (p.forth xs ys a l) [
      | inl k ↦ inl (Contains-append_left (g xs) (h xs) a k)
      | inr k ↦ inr (Contains-append_left (g ys) (h ys) a k)
    ]
    | inr r ↦ elim (q.forth xs ys a r) [
      | inl k ↦ inl (Contains-append_right (g xs) (h xs) a k)
      | inr k ↦ inr (Contains-append_right (g ys) (h ys) a k)
    ]
  ];
  left = λ xs ys a c. elim (Contains-append_cases (g xs) (h xs) a c) [
    | inl l ↦ Contains-append_left (g (xs ++ ys)) (h (xs ++ ys)) a (p.left xs ys a l)
    | inr r ↦ Contains-append_right (g (xs ++ ys)) (h (xs ++ ys)) a (q.left xs ys a r)
  ];
  right = λ xs ys a c. elim (Contains-append_cases (g ys) (h ys) a c) [
    | inl l ↦ Contains-append_left (g (xs ++ ys)) (h (xs ++ ys)) a (p.right xs ys a l)
    | inr r ↦ Contains-append_right (g (xs ++ ys)) (h (xs ++ ys)) a (q.right xs ys a r)
  ];
}

-- what each member of a list has
held : {A B : Type 0} (f : A → List B) (g : List (Sited Tree) → List A) → Splits A g → Splits B (λ ds. flat_map f (g ds))
held f g p = record {
  forth = λ xs ys b c. let t = from_flat_map f (g (xs ++ ys)) b c in elim (p.forth xs ys t.0 t.1) [
    | inl k ↦ inl (to_flat_map f (g xs) t.0 b k t.2)
    | inr k ↦ inr (to_flat_map f (g ys) t.0 b k t.2)
  ];
  left = λ xs ys b c. let t = from_flat_map f (g xs) b c in to_flat_map f (g (xs ++ ys)) t.0 b (p.left xs ys t.0 t.1) t.2;
  right = λ xs ys b c. let t = from_flat_map f (g ys) b c in to_flat_map f (g (xs ++ ys)) t.0 b (p.right xs ys t.0 t.1) t.2;
}

-- what each member of a list is made to
made : {A B : Type 0} (f : A → B) (g : List (Sited Tree) → List A) → Splits A g → Splits B (λ ds. map f (g ds))
made {A = A} {B = B} f g p = record {
  forth = λ xs ys b c. let t = Contains-from_map f (g (xs ++ ys)) b c in elim (p.forth xs ys t.0 t.1) [
    | inl k ↦ inl (subst (λ y. Contains (map f (g xs)) y) (sym t.2) (Contains-to_map f (g xs) t.0 k))
    | inr k ↦ inr (subst (λ y. Contains (map f (g ys)) y) (sym t.2) (Contains-to_map f (g ys) t.0 k))
  ];
  left = λ xs ys b c. let t = Contains-from_map f (g xs) b c in
      subst (λ y. Contains (map f (g (xs ++ ys))) y) (sym t.2) (Contains-to_map f (g (xs ++ ys)) t.0 (p.left xs ys t.0 t.1));
  right = λ xs ys b c. let t = Contains-from_map f (g ys) b c in
      subst (λ y. Contains (map f (g (xs ++ ys))) y) (sym t.2) (Contains-to_map f (g (xs ++ ys)) t.0 (p.right xs ys t.0 t.1));
}

-- ---- nodes

types_split : Splits (Sited TypeDefinition) nodes.types
types_split = own _

extensions_split : Splits (Sited TypeExtension) nodes.type_extensions
extensions_split = own _

directives_split : Splits (Sited DirectiveDefinition) nodes.directives
directives_split = own _

schemas_split : Splits (Sited SchemaDefinition) nodes.schemas
schemas_split = own _

schema_extensions_split : Splits (Sited SchemaExtension) nodes.schema_extensions
schema_extensions_split = own _

parts_split : Splits (Sited TypeParts) nodes.parts
parts_split = both _ _ (made _ _ types_split) (made _ _ extensions_split)

fields_split : Splits (Sited FieldDefinition) nodes.fields
fields_split = held _ _ parts_split

values_split : Splits (Sited EnumValueDefinition) nodes.values
values_split = held _ _ parts_split

input_fields_split : Splits (Sited InputValueDefinition) nodes.input_fields
input_fields_split = held _ _ parts_split

arguments_split : Splits (Sited InputValueDefinition) nodes.arguments
arguments_split = both _ _ (held _ _ fields_split) (held _ _ directives_split)

-- ---- names, references and directives

names_split : Splits (Sited Name) (λ ds. defined_names (nodes_of ds))
names_split = both _ _
    (both _ _ (made _ _ types_split) (both _ _ (made _ _ extensions_split) (made _ _ directives_split)))
    (both _ _ (made _ _ fields_split) (both _ _ (made _ _ arguments_split) (both _ _ (made _ _ input_fields_split) (made _ _ values_split))))

inputs_split : Splits (Sited Name) (λ ds. references.inputs (nodes_of ds))
inputs_split = both _ _ (made _ _ arguments_split) (made _ _ input_fields_split)

outputs_split : Splits (Sited Name) (λ ds. references.outputs (nodes_of ds))
outputs_split = made _ _ fields_split

members_split : Splits (Sited Name) (λ ds. references.members (nodes_of ds))
members_split = held _ _ parts_split

references_split : Splits (Sited Name) (λ ds. references.references (nodes_of ds))
references_split = both _ _ inputs_split (both _ _ outputs_split (both _ _ (held _ _ parts_split)
    (both _ _ members_split (both _ _ (held _ _ schemas_split) (held _ _ schema_extensions_split)))))

annotated_split : Splits Annotations (λ ds. annotated (nodes_of ds))
annotated_split = both _ _ (both _ _ (made _ _ schemas_split) (made _ _ schema_extensions_split))
    (both _ _ (both _ _ (made _ _ types_split) (made _ _ extensions_split))
    (both _ _ (made _ _ fields_split) (both _ _ (made _ _ arguments_split) (both _ _ (made _ _ input_fields_split) (made _ _ values_split)))))

applied_split : Splits Application (λ ds. applied (nodes_of ds))
applied_split = held _ _ annotated_split

-- ---- faults

module _ (s : Schema) where
  role_split : Splits Fault (λ ds. all.role_faults (nodes_of ds) s)
  role_split = both _ _ (held _ _ inputs_split) (both _ _ (held _ _ outputs_split) (held _ _ members_split))

  reference_split : Splits Fault (λ ds. all.reference_faults (nodes_of ds) s)
  reference_split = both _ _ (held _ _ references_split) (held _ _ references_split)

  directive_split : Splits Fault (λ ds. directive_faults (nodes_of ds) s)
  directive_split = both _ _ (held _ _ applied_split) (both _ _ (held _ _ applied_split)
      (both _ _ (held _ _ annotated_split) (both _ _ (held _ _ applied_split) (held _ _ applied_split))))

  built_in_split : Splits Fault (λ ds. all.built_in_directive_faults (nodes_of ds) s)
  built_in_split = both _ _ (both _ _ (held _ _ arguments_split) (held _ _ input_fields_split))
      (both _ _ (held _ _ types_split) (held _ _ extensions_split))

  faults_split : Splits Fault (λ ds. file_faults (nodes_of ds) s)
  faults_split = both _ _ (held _ _ names_split) (both _ _ role_split (both _ _ reference_split (both _ _ directive_split built_in_split)))

  -- a fault of all files by themselves is one of a file
  of_a_file : (files : List (List ℕ × Document)) (f : Fault) → Contains (file_faults (nodes_of (of_files files)) s) f → IsFileFault files s f
  of_a_file [] f h = absurd (none f h)
  of_a_file (file ∷ files) f h = elim (faults_split.forth (in_order_of file.1.definitions) (of_files files) f h) [
    | inl l ↦ (file, here file files, l)
    | inr r ↦ let t = of_a_file files f r in (t.0, there t.0 file files t.1, t.2)
  ]

  -- and the other way round
  of_all_files : (files : List (List ℕ × Document)) (f : Fault) (file : List ℕ × Document) → Contains files file
      → Contains (file_faults (nodes_of_file file.1) s) f → Contains (file_faults (nodes_of (of_files files)) s) f
  of_all_files [] f file c h = absurd (none file c)
  of_all_files (first ∷ files) f file c h = elim (cases file first files c) [
    | inl e ↦ faults_split.left (in_order_of first.1.definitions) (of_files files) f
        (subst (λ (x : List ℕ × Document). Contains (file_faults (nodes_of_file x.1) s) f) e h)
    | inr t ↦ faults_split.right (in_order_of first.1.definitions) (of_files files) f (of_all_files files f file t h)
  ]

-- ---- the faults that are left

-- the first list has what the second has, the joint ones, and nothing else
record Adds (joint xs zs : List Fault) : Type 0 where
  forth : (f : Fault) → Contains xs f → Contains zs f ⊎ Contains joint f
  back : (f : Fault) → Contains zs f → Contains xs f
  joins : (f : Fault) → Contains joint f → Contains xs f

-- they come after others
at_end : (joint c : List Fault) → Adds joint (c ++ joint) c
at_end joint c = record {
  forth = Contains-append_cases c joint;
  back = Contains-append_left c joint;
  joins = Contains-append_right c joint;
}

-- there are others before
after : (joint p xs zs : List Fault) → Adds joint xs zs → Adds joint (p ++ xs) (p ++ zs)
after joint p xs zs a = record {
  forth = λ f h. elim (Contains-append_cases p xs f h) [
    | inl l ↦ inl (Contains-append_left p zs f l)
    | inr r ↦ elim (a.forth f r) [
      | inl k ↦ inl (Contains-append_right p zs f k)
      | inr k ↦ inr k
    ]
  ];
  back = λ f h. elim (Contains-append_cases p zs f h) [
    | inl l ↦ Contains-append_left p xs f l
    | inr r ↦ Contains-append_right p xs f (a.back f r)
  ];
  joins = λ f h. Contains-append_right p xs f (a.joins f h);
}

-- there are others behind
before : (joint q xs zs : List Fault) → Adds joint xs zs → Adds joint (xs ++ q) (zs ++ q)
before joint q xs zs a = record {
  forth = λ f h. elim (Contains-append_cases xs q f h) [
    | inl l ↦ elim (a.forth f l) [
      | inl k ↦ inl (Contains-append_left zs q f k)
      | inr k ↦ inr k
    ]
    | inr r ↦ inl (Contains-append_right zs q f r)
  ];
  back = λ f h. elim (Contains-append_cases zs q f h) [
    | inl l ↦ Contains-append_left xs q f (a.back f l)
    | inr r ↦ Contains-append_right xs q f r
  ];
  joins = λ f h. Contains-append_left xs q f (a.joins f h);
}

adds : (n : AllNodes) (s : Schema) → Adds (joint_faults n s) (all.node_faults n s) (file_faults n s)
adds n s = after _ (all.name_faults n) _ _ (after _ (all.role_faults n s) _ _ (after _ (all.reference_faults n s) _ _
    (before _ (all.built_in_directive_faults n s) _ _ (after _ (s29.faults n s) _ _ (after _ (s30.faults n s) _ _
    (before _ (s32.faults n s ++ s33.faults n s) _ _ (at_end (joint_faults n s) (repeated_alone n s))))))))

pub forth : (files : List (List ℕ × Document)) (s : Schema) (f : Fault) → Contains (all.node_faults (nodes_of (of_files files)) s) f
    → IsFileFault files s f ⊎ Contains (joint_faults (nodes_of (of_files files)) s) f
forth files s f h = elim ((adds (nodes_of (of_files files)) s).forth f h) [
  | inl l ↦ inl (of_a_file s files f l)
  | inr r ↦ inr r
]

pub back : (files : List (List ℕ × Document)) (s : Schema) (f : Fault)
    → IsFileFault files s f ⊎ Contains (joint_faults (nodes_of (of_files files)) s) f → Contains (all.node_faults (nodes_of (of_files files)) s) f
back files s f (inl l) = (adds (nodes_of (of_files files)) s).back f (of_all_files s files f l.0 l.1 l.2)
back files s f (inr r) = (adds (nodes_of (of_files files)) s).joins f r
