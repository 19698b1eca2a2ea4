-- Types as a list of wrappers, from the outside in, and a name (GraphQL specification, 2.11).
use Rattle.std.specs.Prelude.{◌≡◌, ℕ, List, [], ◌∷◌, ◌++◌, refl}
use Rattle.std.proofs.Common.{ap}
use Rattle.gql_text.specs.declared.place.Place.{Place}
use Rattle.gql_ast.specs.declared.text.Name.{Name}
use Rattle.gql_ast.specs.declared.type_ref.TypeRef.{TypeRef}
use Rattle.gql_ast.specs.declared.type_ref.TypeRef.TheVariants as t
use Rattle.gql_types.specs.Written.{Written, named, listed, required, written, written_named, written_list, written_non_null}
use Rattle.gql_types.specs.declared.written_type.Wrapper.{Wrapper}
use Rattle.gql_types.specs.declared.written_type.Wrapper.TheVariants as wrapper
use Rattle.gql_types.specs.declared.written_type.WrittenType.{WrittenType}

-- these wrappers, and then those of the type
abbrev pub wrapped : List Wrapper → Written → WrittenType
wrapped ws (named n) = record { wrappers = ws; name = n }
wrapped ws (listed w) = wrapped (ws ++ wrapper.List ∷ []) w
wrapped ws (required w) = wrapped (ws ++ wrapper.NonNull ∷ []) w

-- the wrappers and the name of a type
abbrev pub type_of : Written → WrittenType
type_of w = wrapped [] w

-- the name within a type
abbrev pub named_type : Written → List ℕ
named_type w = (type_of w).name

-- a type within these wrappers, from the outside in
abbrev pub typed : List Wrapper → Written → Written
typed [] w = w
typed (wrapper.List ∷ ws) w = listed (typed ws w)
typed (wrapper.NonNull ∷ ws) w = required (typed ws w)

-- the type of wrappers and a name
abbrev pub typed_of : WrittenType → Written
typed_of t = typed t.wrappers (named t.name)

-- `[N!]` has the wrappers List and NonNull, and the name N
example : (n : List ℕ)
    → type_of (listed (required (named n)))
    ≡ record { wrappers = wrapper.List ∷ wrapper.NonNull ∷ []; name = n }
example n = refl

-- these wrappers and this name make `[N!]`
example_back : (n : List ℕ)
    → typed_of (record { wrappers = wrapper.List ∷ wrapper.NonNull ∷ []; name = n })
    ≡ listed (required (named n))
example_back n = refl

pub wrapped_named : (ws : List Wrapper) (n : Name)
    → wrapped ws (written (t.Named n)) ≡ record { wrappers = ws; name = n.text }
wrapped_named ws n = ap (wrapped ws) (written_named n)

pub wrapped_list : (ws : List Wrapper) (p : Place) (x : TypeRef)
    → wrapped ws (written (t.List p x)) ≡ wrapped (ws ++ wrapper.List ∷ []) (written x)
wrapped_list ws p x = ap (wrapped ws) (written_list p x)

pub wrapped_non_null : (ws : List Wrapper) (x : TypeRef)
    → wrapped ws (written (t.NonNull x)) ≡ wrapped (ws ++ wrapper.NonNull ∷ []) (written x)
wrapped_non_null ws x = ap (wrapped ws) (written_non_null x)
