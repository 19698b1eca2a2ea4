-- The definitions of schema files that define no type hold all nodes of the other forms.
use Rattle.std.proofs.Common.{◌≡◌, ◌∙◌, ◌++◌, List, [], ◌∷◌, Bool, true, false, refl, sym, ap}
use Rattle.gql_ast.specs.declared.definition.Tree.{Tree}
use Rattle.gql_ast.specs.declared.definition.Tree.TheVariants as tree
use Rattle.gql_built_in.specs.declared.sited.Sited.{Sited}
use Rattle.gql_types.specs.Parts.{sited}
use Rattle.gql_node_rules.specs.FileFaults.{without_types}
use Rattle.gql_node_rules.specs.Nodes.{directive_of, nodes_of, schema_extension_of, schema_of, type_extension_of, within}
use Rattle.gql_node_rules.specs.OtherTrees.{defines_type, others}

module _ {B : Type 0} (held : Tree → List B) (none : (t : Tree) → defines_type t ≡ true → held t ≡ []) where
  within_others : (ds : List (Sited Tree)) → within held (others ds) ≡ within held ds
  within_others [] = refl
  within_others (d ∷ ds) = by (defines_type d.node) refl (within_others ds)
    where
      by : (b : Bool) → defines_type d.node ≡ b → within held (others ds) ≡ within held ds → within held (others (d ∷ ds)) ≡ within held (d ∷ ds)
      by true is rest =
          let e : within held (others ds) ≡ sited d.file (held d.node) ++ within held ds = rest ∙ ap (λ ns. sited d.file ns ++ within held ds) (sym (none d.node is)) in
          rw is e
      by false is rest =
          let e : sited d.file (held d.node) ++ within held (others ds) ≡ sited d.file (held d.node) ++ within held ds = ap (λ ns. sited d.file (held d.node) ++ ns) rest in
          rw is e

no_extension : (t : Tree) → defines_type t ≡ true → type_extension_of t ≡ []
no_extension (tree.Type definition) is = refl
no_extension (tree.Operation operation) is = absurd (cc is)
no_extension (tree.Fragment fragment) is = absurd (cc is)
no_extension (tree.Schema definition) is = absurd (cc is)
no_extension (tree.Directive definition) is = absurd (cc is)
no_extension (tree.SchemaExtension extension) is = absurd (cc is)
no_extension (tree.TypeExtension extension) is = absurd (cc is)

no_directive : (t : Tree) → defines_type t ≡ true → directive_of t ≡ []
no_directive (tree.Type definition) is = refl
no_directive (tree.Operation operation) is = absurd (cc is)
no_directive (tree.Fragment fragment) is = absurd (cc is)
no_directive (tree.Schema definition) is = absurd (cc is)
no_directive (tree.Directive definition) is = absurd (cc is)
no_directive (tree.SchemaExtension extension) is = absurd (cc is)
no_directive (tree.TypeExtension extension) is = absurd (cc is)

no_schema : (t : Tree) → defines_type t ≡ true → schema_of t ≡ []
no_schema (tree.Type definition) is = refl
no_schema (tree.Operation operation) is = absurd (cc is)
no_schema (tree.Fragment fragment) is = absurd (cc is)
no_schema (tree.Schema definition) is = absurd (cc is)
no_schema (tree.Directive definition) is = absurd (cc is)
no_schema (tree.SchemaExtension extension) is = absurd (cc is)
no_schema (tree.TypeExtension extension) is = absurd (cc is)

no_schema_extension : (t : Tree) → defines_type t ≡ true → schema_extension_of t ≡ []
no_schema_extension (tree.Type definition) is = refl
no_schema_extension (tree.Operation operation) is = absurd (cc is)
no_schema_extension (tree.Fragment fragment) is = absurd (cc is)
no_schema_extension (tree.Schema definition) is = absurd (cc is)
no_schema_extension (tree.Directive definition) is = absurd (cc is)
no_schema_extension (tree.SchemaExtension extension) is = absurd (cc is)
no_schema_extension (tree.TypeExtension extension) is = absurd (cc is)

of_extensions : (ds : List (Sited Tree)) → within type_extension_of (others ds) ≡ within type_extension_of ds
of_extensions = within_others type_extension_of no_extension

of_directives : (ds : List (Sited Tree)) → within directive_of (others ds) ≡ within directive_of ds
of_directives = within_others directive_of no_directive

of_schemas : (ds : List (Sited Tree)) → within schema_of (others ds) ≡ within schema_of ds
of_schemas = within_others schema_of no_schema

of_schema_extensions : (ds : List (Sited Tree)) → within schema_extension_of (others ds) ≡ within schema_extension_of ds
of_schema_extensions = within_others schema_extension_of no_schema_extension

-- all nodes but those of types are the nodes of the definitions that define no type
pub same_nodes : (ds trees : List (Sited Tree)) → trees ≡ others ds → without_types (nodes_of trees) ≡ without_types (nodes_of ds)
same_nodes ds trees e = ap (λ ts. without_types (nodes_of ts)) e ∙ (λ k. record {
  types = [];
  type_extensions = of_extensions ds k;
  directives = of_directives ds k;
  schemas = of_schemas ds k;
  schema_extensions = of_schema_extensions ds k;
  parts = [];
  fields = [];
  values = [];
  input_fields = [];
  arguments = [];
})
