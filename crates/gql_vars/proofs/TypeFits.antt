-- Which types of variables fit, by the form of the variable's type.
use Rattle.std.specs.Prelude.{◌≡◌, ℕ, List, true, false, bytes_eq, refl, Some, None}
use Rattle.std.proofs.Common.{ap, sym, ◌∙◌, true≢false}
use Rattle.gql_text.specs.declared.place.Place.{Place}
use Rattle.gql_ast.specs.declared.text.Name.{Name}
use Rattle.gql_ast.specs.declared.type_ref.TypeRef.{TypeRef}
use Rattle.gql_ast.specs.declared.type_ref.TypeRef.TheVariants as t
use Rattle.gql_types.specs.Written.{Written, named, listed, required, written, written_named, written_list, written_non_null}
use Rattle.gql_inputs.specs.InputTypes.{name_in, item_of, is_list, is_non_null}
use Rattle.gql_vars.specs.V29AllVariableUsagesAreAllowed.{fits, nullable}

non_null_at : (w u : Written) → fits (required w) u ≡ fits w (nullable u)
non_null_at w (named n) = refl
non_null_at w (listed u) = refl
non_null_at w (required u) = refl

pub non_null_fits : (x : TypeRef) (u : Written) → fits (written (t.NonNull x)) u ≡ fits (written x) (nullable u)
non_null_fits x u = ap (λ w. fits w u) (written_non_null x) ∙ non_null_at (written x) u

list_at : (w u item : Written) → Some item ≡ item_of u → is_non_null u ≡ false → fits (listed w) u ≡ fits w item
list_at w (named n) item e off = cc
list_at w (listed u) item e off = ap (fits w) (some_is e) where
  some_is : Some item ≡ Some u → u ≡ item
  some_is same = cc same
list_at w (required u) item e off = absurd (true≢false off)

-- a list where a list is expected
pub list_fits : (p : Place) (x : TypeRef) (u item : Written) → Some item ≡ item_of u → is_non_null u ≡ false
    → fits (written (t.List p x)) u ≡ fits (written x) item
list_fits p x u item e off = ap (λ w. fits w u) (written_list p x) ∙ list_at (written x) u item e off

non_null_list : (w u : Written) → is_non_null u ≡ true → fits (listed w) u ≡ false
non_null_list w (named n) on = refl
non_null_list w (listed u) on = absurd (true≢false (sym on))
non_null_list w (required u) on = refl

-- a list where a Non-Null type is expected
pub list_at_non_null : (p : Place) (x : TypeRef) (u : Written) → is_non_null u ≡ true → false ≡ fits (written (t.List p x)) u
list_at_non_null p x u on = sym (ap (λ w. fits w u) (written_list p x) ∙ non_null_list (written x) u on)

no_list : (w u : Written) → None ≡ item_of u → fits (listed w) u ≡ false
no_list w (named n) e = refl
no_list w (listed u) e = cc
no_list w (required u) e = refl

-- a list where no list is expected
pub list_at_one : (p : Place) (x : TypeRef) (u : Written) → None ≡ item_of u → false ≡ fits (written (t.List p x)) u
list_at_one p x u e = sym (ap (λ w. fits w u) (written_list p x) ∙ no_list (written x) u e)

name_at : (n : List ℕ) (u : Written) → is_non_null u ≡ false → is_list u ≡ false → fits (named n) u ≡ bytes_eq n (name_in u)
name_at n (named m) off none = refl
name_at n (listed u) off none = absurd (true≢false none)
name_at n (required u) off none = absurd (true≢false off)

-- a name where a name is expected
pub name_fits : (n : Name) (u : Written) → is_non_null u ≡ false → is_list u ≡ false
    → fits (written (t.Named n)) u ≡ bytes_eq n.text (name_in u)
name_fits n u off none = ap (λ w. fits w u) (written_named n) ∙ name_at n.text u off none

non_null_name : (n : List ℕ) (u : Written) → is_non_null u ≡ true → fits (named n) u ≡ false
non_null_name n (named m) on = absurd (true≢false (sym on))
non_null_name n (listed u) on = refl
non_null_name n (required u) on = refl

-- a name where a Non-Null type is expected
pub name_at_non_null : (n : Name) (u : Written) → is_non_null u ≡ true → false ≡ fits (written (t.Named n)) u
name_at_non_null n u on = sym (ap (λ w. fits w u) (written_named n) ∙ non_null_name n.text u on)

list_name : (n : List ℕ) (u : Written) → is_list u ≡ true → fits (named n) u ≡ false
list_name n (named m) on = absurd (true≢false (sym on))
list_name n (listed u) on = refl
list_name n (required u) on = refl

-- a name where a list is expected
pub name_at_list : (n : Name) (u : Written) → is_list u ≡ true → false ≡ fits (written (t.Named n)) u
name_at_list n u on = sym (ap (λ w. fits w u) (written_named n) ∙ list_name n.text u on)
