-- The name within a type is the same with its place and without.
use Rattle.std.specs.Prelude.{◌≡◌, ℕ, List, [], ◌∷◌, ◌++◌, refl}
use Rattle.std.proofs.Common.{ap, sym, ◌∙◌, subst}
use Rattle.gql_ast.specs.declared.text.Name.{Name}
use Rattle.gql_ast.specs.declared.type_ref.TypeRef.{TypeRef, roll-TypeRef}
use Rattle.gql_ast.specs.declared.type_ref.TypeRef.TheOpen.{TypeRef-F}
use Rattle.gql_ast.specs.declared.type_ref.TypeRef.TheFolds.{ind-TypeRef, map-TypeRef}
use Rattle.gql_ast.specs.declared.type_ref.TypeRef.TheVariants as t
use Rattle.gql_types.specs.WrittenTypes.{named_type, wrapped}
use Rattle.gql_types.specs.declared.written_type.Wrapper.{Wrapper}
use Rattle.gql_types.specs.declared.written_type.Wrapper.TheVariants as wrapper
use Rattle.gql_faults.specs.TypeNames.{name_in, name_in_named, name_in_list, name_in_non_null}
use Rattle.gql_types.specs.Written.{Written, named, listed, required, written, written_named, written_list, written_non_null}

-- the name within a type, whatever its steps
abbrev inner : Written → List ℕ
inner (named n) = n
inner (listed w) = inner w
inner (required w) = inner w

wrapped_name : (ws : List Wrapper) (w : Written) → (wrapped ws w).name ≡ inner w
wrapped_name ws (named n) = refl
wrapped_name ws (listed w) = wrapped_name (ws ++ wrapper.List ∷ []) w
wrapped_name ws (required w) = wrapped_name (ws ++ wrapper.NonNull ∷ []) w

abbrev Same : TypeRef → Type 0
Same x = (name_in x).text ≡ inner (written x)

abbrev Such : Type 0
Such = (x : TypeRef) × Same x

at : (y : TypeRef-F Such) → Same (roll-TypeRef (map-TypeRef Such TypeRef (λ e. e.0) y))
at (TypeRef-F.Named n) = subst Same (sym (t.rolls-Named n)) (ap (λ (m : Name). m.text) (name_in_named n) ∙ ap inner (sym (written_named n)))
at (TypeRef-F.List p e) = subst Same (sym (t.rolls-List p e.0)) (ap (λ (m : Name). m.text) (name_in_list p e.0) ∙ e.1 ∙ ap inner (sym (written_list p e.0)))
at (TypeRef-F.NonNull e) = subst Same (sym (t.rolls-NonNull e.0)) (ap (λ (m : Name). m.text) (name_in_non_null e.0) ∙ e.1 ∙ ap inner (sym (written_non_null e.0)))

pub same_name : (x : TypeRef) → (name_in x).text ≡ named_type (written x)
same_name x = ind-TypeRef Same (λ x y same. subst (λ z. Same (roll-TypeRef z)) same (at y)) x ∙ sym (wrapped_name [] (written x))
