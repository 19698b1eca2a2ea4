-- The order of fields, and tests of two fields that do not see their order.
use Rattle.std.specs.Prelude.{◌≡◌, ℕ, List, Bool, true, false, ◌&&◌, ◌||◌, not, nat_eq, nat_lt, bytes_eq, refl}
use Rattle.std.proofs.Common.{ap, sym, ◌∙◌, true≢false, arith}
use Rattle.std.proofs.lemmas.Bool.Decides.{nat_tests}
use Rattle.std.proofs.lemmas.Map.Text.{is_eq-slice_cmp}
use Rattle.std.proofs.lemmas.Slice.Eq.{bytes_eq-Decides}
use Rattle.std.proofs.lemmas.Cmp.{nat_list_cmp_total}
use Rattle.std.specs.Ordering.{is_eq, ordering_reverse}
use Rattle.std.specs.declared.cmp.Ordering.{Ordering}
use Rattle.std.specs.declared.cmp.Ordering.TheVariants.{Less, Equal, Greater}
use Rattle.gql_ast.specs.FileMaps.{name_order}
use Rattle.gql_clashes.specs.Clashes.{is_merge}
use Rattle.gql_clashes.specs.declared.sets.Mode.{Mode}
use Rattle.gql_merge.specs.FieldNodes.{FieldInfo}
use Rattle.gql_merge.specs.MergedNodes.{is_before, is_before_by}
use Rattle.gql_merge.specs.PairFaults.{differ_in_call, differ_in_shape}

not_less : (a b : ℕ) → nat_lt a b ≡ true → nat_lt b a ≡ false
not_less a b h = grind (arith, nat_tests, h)

else_less : (a b : ℕ) → nat_eq a b ≡ false → nat_lt a b ≡ false → nat_lt b a ≡ true
else_less a b h k = grind (arith, nat_tests, h, k)

after_by : (o : Ordering) (a b : ℕ) → is_before_by o (nat_lt a b) ≡ true → is_before_by (ordering_reverse o) (nat_lt b a) ≡ false
after_by Less a b h = refl
after_by Equal a b h = not_less a b h
after_by Greater a b h = absurd (true≢false (sym h))

else_by : (o : Ordering) (a b : ℕ) → (is_eq o && nat_eq a b) ≡ false → is_before_by o (nat_lt a b) ≡ false → is_before_by (ordering_reverse o) (nat_lt b a) ≡ true
else_by Less a b e h = absurd (true≢false h)
else_by Equal a b e h = else_less a b e h
else_by Greater a b e h = refl

-- one of two fields is not before the other way round
pub after : (i j : FieldInfo) → is_before i j ≡ true → is_before j i ≡ false
after i j h = ap (λ o. is_before_by o (nat_lt j.start.offset i.start.offset)) (nat_list_cmp_total.antisymm j.file i.file) ∙ after_by (name_order i.file j.file) i.start.offset j.start.offset h

-- of two different fields, one is before the other
pub or_else : (i j : FieldInfo) → (bytes_eq i.file j.file && nat_eq i.start.offset j.start.offset) ≡ false → is_before i j ≡ false → is_before j i ≡ true
or_else i j e h = ap (λ o. is_before_by o (nat_lt j.start.offset i.start.offset)) (nat_list_cmp_total.antisymm j.file i.file)
    ∙ else_by (name_order i.file j.file) i.start.offset j.start.offset (ap (λ b. b && nat_eq i.start.offset j.start.offset) (is_eq-slice_cmp i.file j.file) ∙ e) h

-- ---- tests

same_test : (a b : Bool) → (a ≡ true → b ≡ true) → (b ≡ true → a ≡ true) → a ≡ b
same_test true b f g = sym (f refl)
same_test false true f g = absurd (true≢false (sym (g refl)))
same_test false false f g = refl

eq_turns : (a b : List ℕ) → bytes_eq a b ≡ bytes_eq b a
eq_turns a b = same_test (bytes_eq a b) (bytes_eq b a)
    (λ t. (bytes_eq-Decides b a).1 (sym ((bytes_eq-Decides a b).0 t))) (λ t. (bytes_eq-Decides a b).1 (sym ((bytes_eq-Decides b a).0 t)))

or_turns : (a b c : Bool) → a || not b || not c ≡ a || not c || not b
or_turns true b c = refl
or_turns false true true = refl
or_turns false true false = refl
or_turns false false true = refl
or_turns false false false = refl

pub shape_turns : (i j : FieldInfo) → differ_in_shape i j ≡ differ_in_shape j i
shape_turns i j = ap not (eq_turns i.shape j.shape)

pub call_turns : (m : Mode) (i j : FieldInfo) → differ_in_call m i j ≡ differ_in_call m j i
call_turns m i j =
    ap (λ b. is_merge m && (b || not i.of_object || not j.of_object) && not (bytes_eq i.call j.call)) (eq_turns i.parent j.parent)
    ∙ ap (λ b. is_merge m && b && not (bytes_eq i.call j.call)) (or_turns (bytes_eq j.parent i.parent) i.of_object j.of_object)
    ∙ ap (λ b. is_merge m && (bytes_eq j.parent i.parent || not j.of_object || not i.of_object) && not b) (eq_turns i.call j.call)
