-- Directives that introspection reports: `@deprecated` with its reason (GraphQL 3.13.3; arguments
-- and input fields may have it too, as in editions after October 2021), and `@specifiedBy` with its
-- URL (3.13.4).
use Rattle.std.specs.Prelude.{ℕ, List, ◌++◌, flat_map, codes, Bool, is_some, Option, Some, option_and_then}
use Rattle.std.specs.Option.{option_map_or}
use Rattle.gql_ast.specs.declared.literal.Argument.{Argument}
use Rattle.gql_ast.specs.declared.literal.Directive.{Directive}
use Rattle.gql_ast.specs.declared.type_system.TypeExtension.{TypeExtension}
use Rattle.gql_built_in.specs.declared.sited.Sited.{Sited}
use Rattle.gql_types.specs.Applied.{argument_of, directive_of, string_of}
use Rattle.gql_types.specs.declared.schema_type.SchemaType.{SchemaType}

-- ---- `@deprecated(reason: String = "No longer supported")`

-- the directive that makes a definition deprecated: a field, an argument, an input field or an enum
-- value
abbrev pub deprecation : List Directive → Option Directive
deprecation = directive_of (codes "deprecated")

-- whether a definition with these directives is deprecated
abbrev pub is_deprecated : List Directive → Bool
is_deprecated directives = is_some (deprecation directives)

-- the reason of a directive: its argument, which may be null, or else the default
abbrev pub reason_of : Directive → Option (List ℕ)
reason_of directive = option_map_or (λ (a : Argument). string_of a.value)
    (argument_of (codes "reason") directive) (Some (codes "No longer supported"))

-- the deprecation reason of a definition with these directives
abbrev pub deprecation_reason : List Directive → Option (List ℕ)
deprecation_reason directives = option_and_then reason_of (deprecation directives)

-- ---- `@specifiedBy(url: String!)`

-- the directives of an extension
abbrev pub extension_directives : Sited TypeExtension → List Directive
extension_directives e = e.node.directives

-- the directives of a type: those of its definition, then those of its extensions
abbrev pub type_directives : SchemaType → List Directive
type_directives t = t.definition.node.directives
    ++ flat_map extension_directives t.extensions

-- the URL of a directive
abbrev pub url_of : Directive → Option (List ℕ)
url_of directive =
    option_and_then (λ (a : Argument). string_of a.value) (argument_of (codes "url") directive)

-- the URL that specifies a type, if its directives have one
abbrev pub specified_by_url : SchemaType → Option (List ℕ)
specified_by_url t =
    option_and_then url_of (directive_of (codes "specifiedBy") (type_directives t))
