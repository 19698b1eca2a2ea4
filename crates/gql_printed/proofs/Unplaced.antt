-- Literals without places, by their form.
use Rattle.std.proofs.Common.{◌≡◌, true≢false, ℕ, List, [], ◌∷◌, Bool, map, refl, sym, ap, ◌∙◌}
use Rattle.std.specs.Prelude.{codes, bytes_eq}
use Rattle.gql_text.specs.declared.place.Place.{Place}
use Rattle.gql_ast.specs.declared.literal.Literal.{Literal}
use Rattle.gql_ast.specs.declared.literal.Literal.TheOpen.{Literal-F}
use Rattle.gql_ast.specs.declared.literal.Literal.TheFolds.{fold-roll-Literal, fold_out-ObjectField}
use Rattle.gql_ast.specs.declared.literal.Literal.TheVariants as l
use Rattle.gql_ast.specs.declared.literal.ObjectField.{ObjectField, fold-ObjectField}
use Rattle.gql_ast.specs.LiteralTexts.{literal_text, text_int}
use Rattle.gql_printed.specs.Same.{HaveSameValue, no_place, unplaced, unplaced_field, without_places}

pub of_variable : (p : Place) (n : List ℕ) → without_places (l.Variable p n) ≡ l.Variable no_place n
unfolding without_places
of_variable p n = ap without_places (sym (l.rolls-Variable p n))
    ∙ fold-roll-Literal Literal ObjectField unplaced unplaced_field (Literal-F.Variable p n)

pub of_int : (p : Place) (t : List ℕ) → without_places (l.Int p t) ≡ l.Int no_place t
unfolding without_places
of_int p t = ap without_places (sym (l.rolls-Int p t))
    ∙ fold-roll-Literal Literal ObjectField unplaced unplaced_field (Literal-F.Int p t)

pub of_float : (p : Place) (t : List ℕ) → without_places (l.Float p t) ≡ l.Float no_place t
unfolding without_places
of_float p t = ap without_places (sym (l.rolls-Float p t))
    ∙ fold-roll-Literal Literal ObjectField unplaced unplaced_field (Literal-F.Float p t)

pub of_string : (p : Place) (t : List ℕ) → without_places (l.String p t) ≡ l.String no_place t
unfolding without_places
of_string p t = ap without_places (sym (l.rolls-String p t))
    ∙ fold-roll-Literal Literal ObjectField unplaced unplaced_field (Literal-F.String p t)

pub of_boolean : (p : Place) (b : Bool) → without_places (l.Boolean p b) ≡ l.Boolean no_place b
unfolding without_places
of_boolean p b = ap without_places (sym (l.rolls-Boolean p b))
    ∙ fold-roll-Literal Literal ObjectField unplaced unplaced_field (Literal-F.Boolean p b)

pub of_null : (p : Place) → without_places (l.Null p) ≡ l.Null no_place
unfolding without_places
of_null p = ap without_places (sym (l.rolls-Null p))
    ∙ fold-roll-Literal Literal ObjectField unplaced unplaced_field (Literal-F.Null p)

pub of_enum : (p : Place) (n : List ℕ) → without_places (l.Enum p n) ≡ l.Enum no_place n
unfolding without_places
of_enum p n = ap without_places (sym (l.rolls-Enum p n))
    ∙ fold-roll-Literal Literal ObjectField unplaced unplaced_field (Literal-F.Enum p n)

pub of_list : (p : Place) (items : List Literal)
    → without_places (l.List p items) ≡ l.List no_place (map without_places items)
unfolding without_places
of_list p items = ap without_places (sym (l.rolls-List p items))
    ∙ fold-roll-Literal Literal ObjectField unplaced unplaced_field (Literal-F.List p items)

-- a field without places
abbrev pub field_without_places : ObjectField → ObjectField
field_without_places f =
    record {
      name = record { place = no_place; text = f.name.text };
      value =
          without_places f.value;
    }

fields_of : (fields : List ObjectField)
    → map (fold-ObjectField Literal ObjectField unplaced unplaced_field) fields
    ≡ map field_without_places fields
unfolding without_places
fields_of [] = refl
fields_of (f ∷ fields) =
    ap (λ t. t ∷ map (fold-ObjectField Literal ObjectField unplaced unplaced_field) fields)
    (fold_out-ObjectField Literal ObjectField unplaced unplaced_field f)
    ∙ ap (λ ts. field_without_places f ∷ ts) (fields_of fields)

pub of_object : (p : Place) (fields : List ObjectField)
    → without_places (l.Object p fields) ≡ l.Object no_place (map field_without_places fields)
unfolding without_places
of_object p fields = ap without_places (sym (l.rolls-Object p fields))
    ∙ fold-roll-Literal Literal ObjectField unplaced unplaced_field (Literal-F.Object p fields)
    ∙ ap (λ fs. l.Object no_place fs) (fields_of fields)

-- ---- an example: 1 and 2 differ in value

one_is_not_two : (p q : Place) → HaveSameValue (l.Int p (codes "1")) (l.Int q (codes "2")) → ⊥
one_is_not_two p q same =
    let bare : l.Int no_place (codes "1") ≡ l.Int no_place (codes "2") = sym (of_int p (codes "1"))
    ∙ same ∙ of_int q (codes "2") in
    let texts : codes "1" ≡ codes "2" = sym (text_int no_place (codes "1")) ∙ ap literal_text bare
    ∙ text_int no_place (codes "2") in
    true≢false (ap (λ text. bytes_eq text (codes "1")) texts)
