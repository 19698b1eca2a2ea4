-- Worked examples: edits of lists of numbers.
use Rattle.std.specs.Prelude.{◌≡◌, ℕ, [], ◌∷◌, true, false, refl}
use Rattle.std.specs.Ordering.{nat_cmp}
use Rattle.gql_chunks.specs.Cuts.{ends_below}
use Rattle.gql_chunks.specs.Edits.{above, below, edited}
use Rattle.gql_chunks.specs.Lists.{joined}

before_and_after : below nat_cmp 5 (1 ∷ 4 ∷ 5 ∷ 8 ∷ []) ≡ 1 ∷ 4 ∷ []
before_and_after = refl

after_it : above nat_cmp 5 (1 ∷ 4 ∷ 5 ∷ 8 ∷ []) ≡ 8 ∷ []
after_it = refl

some_come : edited nat_cmp true (1 ∷ 4 ∷ 8 ∷ []) (0 ∷ 5 ∷ 9 ∷ []) ≡ 0 ∷ 1 ∷ 4 ∷ 5 ∷ 8 ∷ 9 ∷ []
some_come = refl

one_takes_the_place_of_another : edited nat_cmp true (1 ∷ 4 ∷ 8 ∷ []) (4 ∷ []) ≡ 1 ∷ 4 ∷ 8 ∷ []
one_takes_the_place_of_another = refl

some_go : edited nat_cmp false (1 ∷ 4 ∷ 8 ∷ []) (1 ∷ 5 ∷ 8 ∷ []) ≡ 4 ∷ []
some_go = refl

chunks : joined {T = ℕ} ((1 ∷ 2 ∷ []) ∷ (3 ∷ []) ∷ []) ≡ 1 ∷ 2 ∷ 3 ∷ []
chunks = refl

last_is_below : ends_below (λ (x : ℕ). nat_cmp x 3) (1 ∷ 2 ∷ []) ≡ true
last_is_below = refl

last_is_not : ends_below (λ (x : ℕ). nat_cmp x 2) (1 ∷ 2 ∷ []) ≡ false
last_is_not = refl
