-- Doubles that are equal have the same print.
use Rattle.std.proofs.Common.{◌≡◌, Bool, true, false, cond, T, refl, sym, ap, ◌∙◌}
use Rattle.std.specs.Prelude.{to_bits}
use Rattle.std.specs.Bool.{passes}
use Rattle.std.specs.Float.{Float, binary64, float_key, merge_zeros}
use Rattle.std.specs.Float.Cmp.{same_key}
use Rattle.std.specs.Float.Ieee.{nan, inf, fin, eq, is_nan, lt, top}
use Rattle.std.specs.Ordering.{is_eq, nan_last_cmp}
use Rattle.std.proofs.lemmas.Float.{eq-not_lt, eq_flip}
use Rattle.gql_steps.specs.Columns.{print_of_real}

is_true : (b : Bool) → T b → b ≡ true
is_true true h = refl
is_true false h = absurd h

is_false : (b : Bool) → (T b → ⊥) → b ≡ false
is_false true h = absurd (h tt)
is_false false h = refl

-- a double that equals one is a number
is_number : (x y : Float) → eq x y ≡ true → is_nan x ≡ false
unfolding eq is_nan
is_number nan y e = cc
is_number (inf s) y e = refl
is_number (fin s m k) y e = refl

-- its print is the key by which it is ordered
key_is : (x : Float) → is_nan x ≡ false → print_of_real x ≡ float_key binary64 x
key_is x e = ap (λ b. cond b (top binary64) (merge_zeros binary64 (to_bits binary64 x))) (sym e)

-- two numbers of which none is less
level : (x y : Float) → is_nan x ≡ false → is_nan y ≡ false → lt x y ≡ false → lt y x ≡ false → is_eq (nan_last_cmp x y) ≡ true
level x y a b l g = rw (a, b, l, g) refl

pub same_reals : (x y : Float) → eq x y ≡ true → print_of_real x ≡ print_of_real y
same_reals x y e =
    let flip : eq y x ≡ true = is_true (eq y x) (eq_flip x y (passes (eq x y) e)) in
    let a = is_number x y e in
    let b = is_number y x flip in
    let l = is_false (lt x y) (eq-not_lt x y (passes (eq x y) e)) in
    let g = is_false (lt y x) (eq-not_lt y x (passes (eq y x) flip)) in
    key_is x a ∙ same_key binary64 x y (level x y a b l g) ∙ sym (key_is y b)
