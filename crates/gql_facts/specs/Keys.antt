-- Comparison of keys: two are equal if they ask the same question about the same names.
use Rattle.std.specs.Prelude.{◌≡◌, ℕ, zero, suc, List, [], Bool, true, false, refl, nat_eq, bytes_eq, ◌&&◌}
use Rattle.std.specs.Bool.{Decides}
use Rattle.std.proofs.Common.{ap, sym, ◌∙◌, subst, true≢false}
use Rattle.std.specs.Cmp.{unsigned_Decides}
use Rattle.std.proofs.lemmas.Slice.Eq.{bytes_eq-Decides}
use Rattle.gql_ast.specs.declared.executable.OperationKind.TheVariants as operation
use Rattle.gql_facts.specs.declared.key.Key.{Key}
use Rattle.gql_facts.specs.declared.key.Key.TheVariants as key

-- the number of the question that a key asks
abbrev pub number_of : Key → ℕ
number_of (key.KindOf t) = 0
number_of (key.FieldOf t n) = 1
number_of (key.PossibleOf t) = 2
number_of (key.InputOf t) = 3
number_of (key.EnumOf t) = 4
number_of (key.DirectiveOf n) = 5
number_of (key.FragmentOf n) = 6
number_of (key.RootOf operation.Query) = 7
number_of (key.RootOf operation.Mutation) = 8
number_of (key.RootOf operation.Subscription) = 9

-- the name of what a key asks about
abbrev pub first_name : Key → List ℕ
first_name (key.KindOf t) = t
first_name (key.FieldOf t n) = t
first_name (key.PossibleOf t) = t
first_name (key.InputOf t) = t
first_name (key.EnumOf t) = t
first_name (key.DirectiveOf n) = n
first_name (key.FragmentOf n) = n
first_name (key.RootOf k) = []

-- the name of the field that a key asks about
abbrev pub second_name : Key → List ℕ
second_name (key.FieldOf t n) = n
second_name _ = []

-- whether two keys are equal
abbrev pub is_key : Key → Key → Bool
is_key a b = nat_eq (number_of a) (number_of b)
    && (bytes_eq (first_name a) (first_name b) && bytes_eq (second_name a) (second_name b))

-- the key of this number and these names
abbrev key_at : ℕ → List ℕ → List ℕ → Key
key_at zero t n = key.KindOf t
key_at (suc zero) t n = key.FieldOf t n
key_at (suc (suc zero)) t n = key.PossibleOf t
key_at (suc (suc (suc zero))) t n = key.InputOf t
key_at (suc (suc (suc (suc zero)))) t n = key.EnumOf t
key_at (suc (suc (suc (suc (suc zero))))) t n = key.DirectiveOf t
key_at (suc (suc (suc (suc (suc (suc zero)))))) t n = key.FragmentOf t
key_at (suc (suc (suc (suc (suc (suc (suc zero))))))) t n = key.RootOf operation.Query
key_at (suc (suc (suc (suc (suc (suc (suc (suc zero)))))))) t n = key.RootOf operation.Mutation
key_at _ t n = key.RootOf operation.Subscription

is_key_at : (k : Key) → key_at (number_of k) (first_name k) (second_name k) ≡ k
is_key_at (key.KindOf t) = refl
is_key_at (key.FieldOf t n) = refl
is_key_at (key.PossibleOf t) = refl
is_key_at (key.InputOf t) = refl
is_key_at (key.EnumOf t) = refl
is_key_at (key.DirectiveOf n) = refl
is_key_at (key.FragmentOf n) = refl
is_key_at (key.RootOf operation.Query) = refl
is_key_at (key.RootOf operation.Mutation) = refl
is_key_at (key.RootOf operation.Subscription) = refl

one_key : (a b : Key) → number_of a ≡ number_of b → first_name a ≡ first_name b
    → second_name a ≡ second_name b → a ≡ b
one_key a b e f g = sym (is_key_at a) ∙ ap (λ i. key_at i (first_name a) (second_name a)) e
    ∙ ap (λ t. key_at (number_of b) t (second_name a)) f
    ∙ ap (λ n. key_at (number_of b) (first_name b) n) g ∙ is_key_at b

both : (x y : Bool) → x && y ≡ true → (x ≡ true) × (y ≡ true)
both true true e = (refl, refl)
both true false e = absurd (true≢false (sym e))
both false y e = absurd (true≢false (sym e))

joined : (x y : Bool) → x ≡ true → y ≡ true → x && y ≡ true
joined x y e f = rw (e, f) refl

itself : (a : Key) → is_key a a ≡ true
itself a = joined _ _ ((unsigned_Decides (number_of a) (number_of a)).1 refl)
    (joined _ _ ((bytes_eq-Decides (first_name a) (first_name a)).1 refl)
    ((bytes_eq-Decides (second_name a) (second_name a)).1 refl))

-- the test holds of equal keys, and of no others
pub is_key_decides : (a b : Key) → Decides (is_key a b) (a ≡ b)
is_key_decides a b = (
  λ e.
      let n = both _ _ e in
      let t = both _ _ n.1 in
      one_key a b ((unsigned_Decides (number_of a) (number_of b)).0 n.0)
      ((bytes_eq-Decides (first_name a) (first_name b)).0 t.0)
      ((bytes_eq-Decides (second_name a) (second_name b)).0 t.1),
  λ e. subst (λ c. is_key a c ≡ true) e (itself a),
)
