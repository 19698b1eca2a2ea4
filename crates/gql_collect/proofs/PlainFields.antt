-- Selections that are fields apart from each other, as relations.
use Rattle.std.proofs.Common.{◌≡◌, ◌<◌, List, [], ◌∷◌, Bool, true, false, not, ◌&&◌, length, nat_eq, nat_lt, bytes_eq, refl, arith}
use Rattle.std.proofs.lemmas.Bool.{and_parts, false≢true, ltb-true, eqb-true}
use Rattle.gql_ast.specs.declared.executable.Field.{Field}
use Rattle.gql_ast.specs.declared.executable.InlineFragment.{InlineFragment}
use Rattle.gql_ast.specs.declared.executable.Selection.{Selection, out-Selection}
use Rattle.gql_ast.specs.declared.executable.Selection.TheOpen.{Selection-F}
use Rattle.gql_ast.specs.declared.literal.Directive.{Directive}
use Rattle.gql_ast.specs.declared.text.Name.{Name}
use Rattle.gql_collect.specs.Groups.{response_name}
use Rattle.gql_collect.specs.Plain as spec

-- the selection is a field that comes after the one of this response name, and has another one
pub record IsAfter (name : Name) (x : Selection) : Type 0 where
  pub field : Field
  pub is : out-Selection x ≡ Selection-F.Field field
  pub later : name.place.offset < (response_name field).place.offset
  pub other : bytes_eq name.text (response_name field).text ≡ false

-- all of these selections are such fields
abbrev pub IsApart : Name → List Selection → Type 0
IsApart name [] = Unit {0}
IsApart name (x ∷ xs) = IsAfter name x × IsApart name xs

-- the selection is a field without directives, and the ones after it are fields apart from it
pub record IsPlain (x : Selection) (rest : List Selection) : Type 0 where
  pub field : Field
  pub is : out-Selection x ≡ Selection-F.Field field
  pub no_directives : field.directives ≡ []
  pub apart : IsApart (response_name field) rest

-- these are fields without directives, apart from each other
abbrev pub ArePlain : List Selection → Type 0
ArePlain [] = Unit {0}
ArePlain (x ∷ xs) = IsPlain x xs × ArePlain xs

not_true : (b : Bool) → not b ≡ true → b ≡ false
not_true true e = absurd (false≢true e)
not_true false e = refl

none : (ds : List Directive) → nat_eq (length ds) 0 ≡ true → ds ≡ []
none [] e = refl
none (d ∷ ds) e = absurd (omega (arith, eqb-true (length (d ∷ ds)) 0 e))

after_at : (name : Name) (x : Selection) (o : Selection-F Selection Field InlineFragment) → out-Selection x ≡ o → spec.is_later name o ≡ true → IsAfter name x
after_at name x (Selection-F.Field f) is e =
    let parts = and_parts (nat_lt name.place.offset (response_name f).place.offset) (not (bytes_eq name.text (response_name f).text)) e in
    record { field = f; is = is; later = ltb-true _ _ parts.0; other = not_true (bytes_eq name.text (response_name f).text) parts.1 }
after_at name x (Selection-F.Spread y) is e = absurd (false≢true e)
after_at name x (Selection-F.InlineFragment i) is e = absurd (false≢true e)

pub apart_from : (name : Name) (xs : List Selection) → spec.are_later name xs ≡ true → IsApart name xs
apart_from name [] e = tt
apart_from name (x ∷ xs) e =
    let parts = and_parts (spec.is_later name (out-Selection x)) (spec.are_later name xs) e in
    (after_at name x (out-Selection x) refl parts.0, apart_from name xs parts.1)

plain_at : (x : Selection) (rest : List Selection) (o : Selection-F Selection Field InlineFragment) → out-Selection x ≡ o → spec.is_plain_at o rest ≡ true → IsPlain x rest
plain_at x rest (Selection-F.Field f) is e =
    let parts = and_parts (nat_eq (length f.directives) 0) (spec.are_later (response_name f) rest) e in
    record { field = f; is = is; no_directives = none f.directives parts.0; apart = apart_from (response_name f) rest parts.1 }
plain_at x rest (Selection-F.Spread y) is e = absurd (false≢true e)
plain_at x rest (Selection-F.InlineFragment i) is e = absurd (false≢true e)

pub plain_from : (xs : List Selection) → spec.are_plain xs ≡ true → ArePlain xs
plain_from [] e = tt
plain_from (x ∷ xs) e =
    let parts = and_parts (spec.is_plain_at (out-Selection x) xs) (spec.are_plain xs) e in
    (plain_at x xs (out-Selection x) refl parts.0, plain_from xs parts.1)
