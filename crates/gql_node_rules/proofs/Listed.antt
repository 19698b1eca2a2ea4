-- Locations, each once.
use Rattle.std.proofs.Common.{◌≡◌, ◌||◌, ◌++◌, ◌+◌, ◌<◌, ℕ, List, [], ◌∷◌, Bool, true, false, length, get_or, take, refl, sym, subst, arith, rules}
use Rattle.std.proofs.lemmas.List.{take_more}
use Rattle.std.proofs.lemmas.List.Folds.{list_any-append}
use Rattle.std.proofs.lemmas.Grind.{common_steps}
use denote.Enum.Bare.{same_true}
use Rattle.gql_ast.specs.contracts.type_system.DirectiveLocation as location_type
use Rattle.gql_ast.specs.declared.type_system.DirectiveLocation.{DirectiveLocation}
use Rattle.gql_node_rules.specs.Applied.{same_location, is_listed}

same_is : (a b : DirectiveLocation) → same_location a b ≡ true → a ≡ b
unfolding same_location
same_is a b h = same_true location_type.the_type (search rules) a b h

by_test : (x l : DirectiveLocation) (xs : List DirectiveLocation) (b : Bool) → same_location l x ≡ b → is_listed x xs ≡ true → is_listed l xs ≡ (is_listed l xs || b)
by_test x l xs true e h = rw (subst (λ y. is_listed y xs ≡ true) (sym (same_is l x e)) h) refl
by_test x l xs false e h = grind (arith, common_steps)

-- one that is listed is not added
pub already : (x l : DirectiveLocation) (xs : List DirectiveLocation) → is_listed x xs ≡ true → is_listed l xs ≡ (is_listed l xs || same_location l x)
already x l xs h = by_test x l xs (same_location l x) refl h

pub one_more : (l x : DirectiveLocation) (xs : List DirectiveLocation) → is_listed l (xs ++ x ∷ []) ≡ (is_listed l xs || same_location l x)
one_more l x xs = rw (list_any-append (same_location l) xs (x ∷ [])) grind (arith, common_steps)

-- one more was checked
pub listed_step : (l : DirectiveLocation) (xs : List DirectiveLocation) (i : ℕ) (x : DirectiveLocation) (old new : Bool) → i < length xs → get_or xs i x ≡ x
    → old ≡ is_listed l (take i xs)
    → new ≡ (old || same_location l x)
    → new ≡ is_listed l (take (i + 1) xs)
listed_step l xs i x old new within item before after =
    rw (take_more xs i x within, item, one_more l x (take i xs)) grind (arith, common_steps, before, after)
