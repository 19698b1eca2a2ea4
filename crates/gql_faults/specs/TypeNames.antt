-- The name within a type (GraphQL 2.11), and which arguments and input fields are required
-- (GraphQL 3.6.1, 3.10).
use Rattle.std.specs.Prelude.{◌≡◌, ◌&&◌, Bool, not, is_some}
use Rattle.std.proofs.Common.{ap, sym, ◌∙◌}
use Rattle.gql_text.specs.declared.place.Place.{Place}
use Rattle.gql_ast.specs.declared.text.Name.{Name}
use Rattle.gql_ast.specs.declared.type_ref.TypeRef.{TypeRef, fold-TypeRef}
use Rattle.gql_ast.specs.declared.type_ref.TypeRef.TheOpen.{TypeRef-F}
use Rattle.gql_ast.specs.declared.type_ref.TypeRef.TheFolds.{fold-roll-TypeRef}
use Rattle.gql_ast.specs.declared.type_ref.TypeRef.TheVariants as t
use Rattle.gql_ast.specs.declared.type_system.InputValueDefinition.{InputValueDefinition}
use Rattle.gql_types.specs.Written.{written}
pub use Rattle.gql_types.specs.RequiredInputs.{is_non_null}

-- the name within a type, from the name of the type in it
abbrev pub name_at : TypeRef-F Name → Name
name_at (TypeRef-F.Named n) = n
name_at (TypeRef-F.List place item) = item
name_at (TypeRef-F.NonNull item) = item

-- the name within the lists and Non-Nulls of a type
unfoldable pub name_in : TypeRef → Name
name_in = fold-TypeRef Name name_at

-- the equations of `name_in`
pub name_in_named : (n : Name) → name_in (t.Named n) ≡ n
unfolding name_in
name_in_named n = ap name_in (sym (t.rolls-Named n))
    ∙ fold-roll-TypeRef Name name_at (TypeRef-F.Named n)

pub name_in_list : (p : Place) (x : TypeRef) → name_in (t.List p x) ≡ name_in x
unfolding name_in
name_in_list p x = ap name_in (sym (t.rolls-List p x))
    ∙ fold-roll-TypeRef Name name_at (TypeRef-F.List p x)

pub name_in_non_null : (x : TypeRef) → name_in (t.NonNull x) ≡ name_in x
unfolding name_in
name_in_non_null x = ap name_in (sym (t.rolls-NonNull x))
    ∙ fold-roll-TypeRef Name name_at (TypeRef-F.NonNull x)

-- whether an argument or an input field is required: its type is Non-Null, and it has no default
abbrev pub is_required : InputValueDefinition → Bool
is_required v = is_non_null (written v.of_type) && not (is_some v.default)
