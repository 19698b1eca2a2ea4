-- Distinct names have no fault.
use Rattle.std.proofs.Common.{◌≡◌, ◌∙◌, ◌≤◌, ◌<◌, ◌+◌, ◌||◌, ◌++◌, ℕ, List, [], ◌∷◌, Bool, true, false, cond, filter, nat_lt, length, get_or, take, map, bytes_eq, refl, sym, ap, subst, arith}
use Rattle.std.proofs.lemmas.List.{take_more}
use Rattle.std.proofs.lemmas.Slice.Eq.{bytes_eq-Decides}
use Rattle.std.proofs.lemmas.Grind.{common_steps}
use Rattle.gql_ast.specs.declared.fault.Fault.{Fault}
use Rattle.gql_ast.specs.declared.rule.Rule.{Rule}
use Rattle.gql_ast.specs.declared.text.Name.{Name}
use Rattle.gql_built_in.specs.declared.sited.Sited.{Sited}
use Rattle.gql_faults.specs.Faults.{faults_of}
use Rattle.gql_faults.specs.Names.{count_of, repeated_faults}
use Rattle.gql_faults.specs.Places.{named}
use Rattle.gql_faults.specs.declared.place.NamePlace.{NamePlace}

none_kept : (xs ys : List (Sited Name)) → ((q : List ℕ) → count_of q ys ≤ 1)
    → filter (λ (n : Sited Name). nat_lt 1 (count_of n.node.text ys)) xs ≡ []
none_kept [] ys once = refl
none_kept (x ∷ xs) ys once = grind (arith, common_steps, once x.node.text, none_kept xs ys once)

pub no_repeated : (rule : Rule) (names : List (Sited Name)) → ((q : List ℕ) → count_of q names ≤ 1)
    → repeated_faults rule names ≡ []
no_repeated rule names once = ap (faults_of rule) (none_kept names names once)

pub none_added : (rule : Rule) (names : List (Sited Name)) (base : List Fault)
    → ((q : List ℕ) → count_of q names ≤ 1) → base ≡ base ++ repeated_faults rule names
none_added rule names base once = rw (no_repeated rule names once) grind (arith, common_steps)

count_more : (q : List ℕ) (names : List NamePlace) (i : ℕ) (x : NamePlace) → i < length names → get_or names i x ≡ x
    → count_of q (map named (take (i + 1) names)) ≡ count_of q (map named (take i names)) + cond (bytes_eq q x.name.now.text) 1 0
count_more q names i x within item = rw (take_more names i x within, item) grind (arith, common_steps)

by_test : (held : List ℕ → Bool) (q x : List ℕ) (count : ℕ) (b : Bool) → bytes_eq q x ≡ b → held x ≡ false
    → count ≡ cond (held q) 1 0 → count + cond b 1 0 ≡ cond (held q || b) 1 0
by_test held q x count true e absent is =
    rw (is, subst (λ y. held y ≡ false) (sym ((bytes_eq-Decides q x).0 e)) absent) refl
by_test held q x count false e absent is = grind (arith, common_steps, is)

-- one more, which is not there
pub once_more : (held : List ℕ → Bool) (q : List ℕ) (names : List NamePlace) (i : ℕ) (x : NamePlace) (now : Bool)
    → i < length names → get_or names i x ≡ x → held x.name.now.text ≡ false
    → count_of q (map named (take i names)) ≡ cond (held q) 1 0
    → now ≡ (held q || bytes_eq q x.name.now.text)
    → count_of q (map named (take (i + 1) names)) ≡ cond now 1 0
once_more held q names i x now within item absent before is = count_more q names i x within item
    ∙ by_test held q x.name.now.text (count_of q (map named (take i names))) (bytes_eq q x.name.now.text) refl absent before
    ∙ ap (λ b. cond b 1 0) (sym is)
