-- The examples of calls and values that are the same, and of those that differ.
use Rattle.std.proofs.Common.{◌≡◌, inl, inr, ℕ, List, [], ◌∷◌, ◌++◌, length, length-append, refl, sym, ap, ◌∙◌, subst, arith}
use Rattle.std.specs.Prelude.{codes, decimal}
use Rattle.std.proofs.lemmas.List.{append_cancel_left}
use Rattle.gql_text.specs.declared.place.Place.{Place}
use Rattle.gql_ast.specs.declared.literal.Argument.{Argument}
use Rattle.gql_ast.specs.declared.literal.Literal.TheVariants as l
use Rattle.gql_merge.specs.Calls.{value_text, call_text, text_int, text_enum, text_string, text_object}
use Rattle.gql_cases.specs.CallExamples.{argument, a_1, a_2, b_2, p_1, OrderDoesNotCount, ValuesCount, TwiceIsNotOnce, EnumIsNotString}
use Rattle.gql_cases.specs.SameCalls.{SameArgument, AreAmong, numbers, whole}
use Rattle.gql_cases.proofs.Words.{same_head}
use Rattle.gql_cases.proofs.SameTexts.{contains_cases, value_one, same_calls_one}

same_argument : (p : Place) (n t : List ℕ) → SameArgument (argument p n t) (argument p n t)
same_argument p n t = record {
  same_name = refl;
  same_value = numbers t (whole p t refl) (whole p t refl);
}

-- two arguments, in the other order
swapped : (x y : Argument) → SameArgument x x → SameArgument y y
    → AreAmong (x ∷ y ∷ []) (y ∷ x ∷ [])
swapped x y a b z h = elim (contains_cases z x (y ∷ []) h) [
  | inl e ↦ (x, (1, omega arith, refl), subst (λ w. SameArgument w x) (sym e) a)
  | inr g ↦ elim (contains_cases z y [] g) [
    | inl e ↦ (y, (0, omega arith, refl), subst (λ w. SameArgument w y) (sym e) b)
    | inr k ↦ absurd (omega (arith, k.1))
  ]
]

pub order_does_not_count : OrderDoesNotCount
order_does_not_count p =
    let a = same_argument p (codes "a") (codes "1") in
    let b = same_argument p (codes "b") (codes "2") in
    record {
      same_name = refl;
      in_others = swapped (a_1 p) (b_2 p) a b;
      in_these = swapped (b_2 p) (a_1 p) b a;
    }

of_call : (p : Place) (t : List ℕ) → value_text (l.Int p t) ≡ t
    → call_text (codes "f") (argument p (codes "a") t ∷ [])
    ≡ codes "f(a:" ++ ((t ++ codes ",") ++ [])
of_call p t is = rw is refl

first_apart : codes "1," ≡ codes "2," → ⊥
first_apart e = let f = same_head 49 50 (codes ",") (codes ",") e in omega (arith, f)

pub values_count : ValuesCount
values_count p h =
    let one = of_call p (codes "1") (text_int p (codes "1")) in
    let two = of_call p (codes "2") (text_int p (codes "2")) in
    let e = same_calls_one (codes "f") (codes "f") (a_1 p ∷ []) (a_2 p ∷ []) h in
    let f : codes "f(a:1," ≡ codes "f(a:2," = sym one ∙ e ∙ two in
    first_apart (append_cancel_left (codes "f(a:") (codes "1,") (codes "2,") f)

once : (p : Place) → value_text (l.Object p (p_1 p ∷ [])) ≡ codes "{p:1,}"
once p = rw (text_object p (p_1 p ∷ []), text_int p (codes "1")) refl

twice : (p : Place) → value_text (l.Object p (p_1 p ∷ p_1 p ∷ [])) ≡ codes "{p:1,p:1,}"
twice p = rw (text_object p (p_1 p ∷ p_1 p ∷ []), text_int p (codes "1")) refl

pub twice_is_not_once : TwiceIsNotOnce
twice_is_not_once p h =
    let one = value_one (l.Object p (p_1 p ∷ p_1 p ∷ [])) (l.Object p (p_1 p ∷ [])) h in
    let f : length (codes "{p:1,p:1,}") ≡ length (codes "{p:1,}") =
    ap length (sym (twice p) ∙ one ∙ once p) in
    omega (arith, f)

pub enum_is_not_string : EnumIsNotString
enum_is_not_string p h =
    let one = value_one (l.Enum p (codes "A")) (l.String p (codes "A")) h in
    let e = sym (text_enum p (codes "A")) ∙ one ∙ text_string p (codes "A") in
    let f : length (codes "A") ≡ length (decimal 1 ++ codes "\"A") = ap length e in
    let g = length-append (decimal 1) (codes "\"A") in
    omega (arith, f, g)
