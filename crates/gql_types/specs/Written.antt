-- Types as they are written, without places (GraphQL specification, 2.11).
use Rattle.std.specs.Prelude.{◌≡◌, ℕ, List}
use Rattle.std.proofs.Common.{ap, sym, ◌∙◌}
use Rattle.gql_text.specs.declared.place.Place.{Place}
use Rattle.gql_ast.specs.declared.text.Name.{Name}
use Rattle.gql_ast.specs.declared.type_ref.TypeRef.{TypeRef, fold-TypeRef}
use Rattle.gql_ast.specs.declared.type_ref.TypeRef.TheOpen.{TypeRef-F}
use Rattle.gql_ast.specs.declared.type_ref.TypeRef.TheFolds.{fold-roll-TypeRef}
use Rattle.gql_ast.specs.declared.type_ref.TypeRef.TheVariants as t

-- a type: a name, a list of items, or a Non-Null type
pub data Written : Type 0 where
  named : List ℕ → Written
  listed : Written → Written
  required : Written → Written

-- a type reference without its places, from the type within it
abbrev pub written_at : TypeRef-F Written → Written
written_at (TypeRef-F.Named n) = named n.text
written_at (TypeRef-F.List place item) = listed item
written_at (TypeRef-F.NonNull item) = required item

-- a type reference without its places
unfoldable pub written : TypeRef → Written
written = fold-TypeRef Written written_at

-- the equations of `written`
pub written_named : (n : Name) → written (t.Named n) ≡ named n.text
unfolding written
written_named n =
    ap written (sym (t.rolls-Named n)) ∙ fold-roll-TypeRef Written written_at (TypeRef-F.Named n)

pub written_list : (p : Place) (x : TypeRef) → written (t.List p x) ≡ listed (written x)
unfolding written
written_list p x =
    ap written (sym (t.rolls-List p x)) ∙ fold-roll-TypeRef Written written_at (TypeRef-F.List p x)

pub written_non_null : (x : TypeRef) → written (t.NonNull x) ≡ required (written x)
unfolding written
written_non_null x = ap written (sym (t.rolls-NonNull x))
    ∙ fold-roll-TypeRef Written written_at (TypeRef-F.NonNull x)
