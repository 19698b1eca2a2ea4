-- Which paths give no name.
use Rattle.std.proofs.Common.{◌≡◌, ◌<◌, ◌≤◌, ◌&&◌, ◌∙◌, ℕ, List, Bool, true, false, refl, sym, ap, subst, length, arith, get_or, nat_lt, nat_le, Some, None, if◌then◌else◌}
use Rattle.std.proofs.lemmas.List.{get_or-map, length-map}
use Rattle.std.proofs.lemmas.List.Folds.{list_all_at}
use Rattle.std.proofs.lemmas.Bool.Decides.{nat_tests}
use Rattle.std.specs.List.{list_all}
use Rattle.gql_ast.specs.FileNames.{is_file_name, is_file_name_byte}
use Rattle.gql_folder.specs.Roles.{dotted, name_at}

-- a byte that is not ASCII is in no name
high : (b : ℕ) → 128 ≤ b → is_file_name_byte (dotted b) ≡ false
high b big = grind arith

false_last : (a b : Bool) → (a && b && false) ≡ false
false_last true true = refl
false_last true false = refl
false_last false b = refl

-- a path with such a byte gives no name
pub not_ascii : (most : ℕ) (stem : List ℕ) (i : ℕ) → i < length stem → 128 ≤ get_or stem i 0 → is_file_name most (name_at stem) ≡ false
not_ascii most stem i within big =
    let at : is_file_name_byte (get_or (name_at stem) i 0) ≡ false = ap is_file_name_byte (get_or-map dotted stem i 0 0 within) ∙ high (get_or stem i 0) big in
    let long : i < length (name_at stem) = subst (λ n. i < n) (sym (length-map stem dotted)) within in
    let none : list_all is_file_name_byte (name_at stem) ≡ false = list_all_at is_file_name_byte (name_at stem) i 0 long at in
    ap (λ b. nat_lt 0 (length (name_at stem)) && nat_le (length (name_at stem)) most && b) none ∙ false_last (nat_lt 0 (length (name_at stem))) (nat_le (length (name_at stem)) most)

false_between : (a b : Bool) → (a && false && b) ≡ false
false_between true b = refl
false_between false b = refl

not_at_most : (n most : ℕ) → most < n → nat_le n most ≡ false
not_at_most n most more = grind (arith, nat_tests)

-- a path of more bytes than a name may have gives no name
pub too_long : (most : ℕ) (stem : List ℕ) → most < length stem → is_file_name most (name_at stem) ≡ false
too_long most stem more =
    let long : nat_le (length (name_at stem)) most ≡ false = not_at_most _ most (subst (λ n. most < n) (sym (length-map stem dotted)) more) in
    ap (λ b. nat_lt 0 (length (name_at stem)) && b && list_all is_file_name_byte (name_at stem)) long ∙ false_between (nat_lt 0 (length (name_at stem))) (list_all is_file_name_byte (name_at stem))

-- what is no name is none
pub no_name : (most : ℕ) (text : List ℕ) → is_file_name most text ≡ false → None ≡ (if is_file_name most text then Some text else None)
no_name most text is = sym (ap (λ b. if b then Some text else None) is)
