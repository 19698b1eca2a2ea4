-- The text of a literal opens as many levels as the literal, and a text in which it is found at
-- least as many.
use Rattle.std.proofs.Common.{◌≡◌, ◌≤◌, ℕ, suc, List, [], ◌∷◌, ◌++◌, map, append-nil, refl, sym, ap, ap₂, subst, ◌∙◌, arith, Bool}
use Rattle.gql_text.specs.Lexeme.{Lexeme}
use Rattle.gql_ast.specs.LiteralTexts.{literal_text}
use Rattle.gql_ast.specs.declared.literal.Literal.{Literal}
use Rattle.gql_ast.specs.declared.literal.ObjectField.{ObjectField}
use Rattle.gql_grammar.specs.Levels.{shift, level, depth_from}
use Rattle.gql_printed.specs.Laws.{LevelsAreKept}
use Rattle.gql_printed.specs.Same.{no_place, without_places}
use Rattle.gql_printed.specs.Written.{IsWritten, variable, int, float, string, boolean, null, enum, list, object, AreWritten, no_items, item, AreWrittenFields, no_fields, field}
use Rattle.gql_printed.proofs.Found.{found_written}
use Rattle.gql_printed.proofs.Nesting.{nesting, field_nesting, most, at_least, opens_value, of_variable, of_int, of_float, of_string, of_boolean, of_null, of_enum, of_list, of_object}
use Rattle.gql_printed.proofs.Unplaced as u
use Rattle.gql_printed.proofs.Unplaced.{field_without_places}

-- ---- a literal without places is nested as deep

abbrev IsSame : Literal → Type 0
IsSame x = nesting (without_places x) ≡ nesting x

mutual
  unplaced : {c : Bool} {x : Literal} → IsWritten c x → IsSame x
  unplaced (variable p n is free h) = subst IsSame (sym is)
      (ap nesting (u.of_variable p n) ∙ of_variable no_place n ∙ sym (of_variable p n))
  unplaced (int p t is h) =
      subst IsSame (sym is) (ap nesting (u.of_int p t) ∙ of_int no_place t ∙ sym (of_int p t))
  unplaced (float p t is h) =
      subst IsSame (sym is) (ap nesting (u.of_float p t) ∙ of_float no_place t ∙ sym (of_float p t))
  unplaced (string p t is) = subst IsSame (sym is)
      (ap nesting (u.of_string p t) ∙ of_string no_place t ∙ sym (of_string p t))
  unplaced (boolean p b is) = subst IsSame (sym is)
      (ap nesting (u.of_boolean p b) ∙ of_boolean no_place b ∙ sym (of_boolean p b))
  unplaced (null p is) =
      subst IsSame (sym is) (ap nesting (u.of_null p) ∙ of_null no_place ∙ sym (of_null p))
  unplaced (enum p n is h) =
      subst IsSame (sym is) (ap nesting (u.of_enum p n) ∙ of_enum no_place n ∙ sym (of_enum p n))
  unplaced (list p xs is h) = subst IsSame (sym is)
      (ap nesting (u.of_list p xs) ∙ of_list no_place (map without_places xs)
      ∙ ap (λ ns. suc (most ns)) (unplaced_items h) ∙ sym (of_list p xs))
  unplaced (object p fs is h) = subst IsSame (sym is)
      (ap nesting (u.of_object p fs) ∙ of_object no_place (map field_without_places fs)
      ∙ ap (λ ns. suc (most ns)) (unplaced_fields h) ∙ sym (of_object p fs))

  unplaced_items : {c : Bool} {xs : List Literal} → AreWritten c xs
      → map nesting (map without_places xs) ≡ map nesting xs
  unplaced_items no_items = refl
  unplaced_items (item h hs) = ap₂ (λ n ns. n ∷ ns) (unplaced h) (unplaced_items hs)

  unplaced_fields : {c : Bool} {fs : List ObjectField} → AreWrittenFields c fs
      → map field_nesting (map field_without_places fs) ≡ map field_nesting fs
  unplaced_fields no_fields = refl
  unplaced_fields (field n h hs) = ap₂ (λ m ns. m ∷ ns) (unplaced h) (unplaced_fields hs)

-- ---- a part of the tokens opens no more levels than all of them

front_opens : (n : ℕ) (a b : List Lexeme) → depth_from n a ≤ depth_from n (a ++ b)
front_opens n [] b = at_least n b
front_opens n (t ∷ a) b = omega (arith, front_opens (shift t.kind n) a b)

back_opens : (n : ℕ) (a b : List Lexeme) → depth_from (level n a) b ≤ depth_from n (a ++ b)
back_opens n [] b = omega arith
back_opens n (t ∷ a) b = omega (arith, back_opens (shift t.kind n) a b)

pub levels_kept : LevelsAreKept
levels_kept limit most c source x f t =
    let parsed = found_written most c (literal_text x) t.parsed (record {
      tokens = t.tokens;
      lexed = t.lexed;
      earlier = [];
      part = t.tokens;
      later = [];
      parts = append-nil t.tokens;
      rest = [];
      derived = t.derived;
    }) in
    let same : nesting t.parsed ≡ nesting x = sym (unplaced parsed) ∙ ap nesting t.same_value
    ∙ unplaced (found_written limit c source x f) in
    let m : ℕ = level 0 f.earlier in
    let text = opens_value c t.tokens [] t.parsed t.derived 0 in
    let part = opens_value c f.part f.rest x f.derived m in
    omega (
      arith,
      text,
      same,
      part,
      front_opens m f.part f.later,
      back_opens 0 f.earlier
          (f.part ++ f.later),
      ap (depth_from 0) f.parts,
    )
