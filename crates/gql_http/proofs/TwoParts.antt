-- A piece that is fed in two parts.
use Rattle.std.proofs.Common.{◌≡◌, ℕ, List, ◌++◌, Option, Some, IsSome, refl, sym, ◌∙◌, subst, append_assoc}
use Rattle.gql_registry.specs.State.{State}
use Rattle.gql_wire.specs.Laws.{MoreBytes, SomeSplit, OneSplit}
use Rattle.gql_http.specs.Connections.{Serves}
use Rattle.gql_http.specs.Events.{feeds, Connections, with_connection, Does, does_feed, ignores}
use Rattle.gql_http.specs.Laws.{TwoParts}
use Rattle.gql_http.proofs.Framers.{changed, changed_twice}
use Rattle.gql_http.proofs.Joining.{serves_join, some_same}

is_open : (o : Option (List ℕ)) (a : List ℕ) → o ≡ Some a → IsSome o
is_open o a is = rw is refl

module _ (some : SomeSplit) (one : OneSplit) (more_bytes : MoreBytes) where
  then_second : (s t u : State) (rests : Connections) (c : ℕ) (held first second half a b : List ℕ) (rest : Option (List ℕ)) (last : Connections) → rests c ≡ Some held
      → Serves s (held ++ first) a t rest → rest ≡ Some half → Does t (with_connection rests c rest) (feeds c second) b u last → Does s rests (feeds c (first ++ second)) (a ++ b) u last
  then_second s t _ rests c held first second half a _ rest _ here h half_is (does_feed {t = u} {held = other} {out = b} {rest = q} there k) =
      let same : other ≡ half = some_same other half (sym there ∙ changed rests c rest ∙ half_is) in
      let part_1 : Serves s (held ++ first) a t (Some half) = subst (λ r. Serves s (held ++ first) a t r) half_is h in
      let part_2 : Serves t (half ++ second) b u q = subst (λ bytes. Serves t (bytes ++ second) b u q) same k in
      let both : Serves s (held ++ (first ++ second)) (a ++ b) u q = subst (λ bytes. Serves s bytes (a ++ b) u q) (append_assoc held first second) (serves_join some one more_bytes second part_1 part_2) in
      subst (λ all. Does s rests (feeds c (first ++ second)) (a ++ b) u all) (sym (changed_twice rests c rest q)) (does_feed here both)
  then_second s t _ rests c held first second half a _ rest _ here h half_is (ignores barred) =
      absurd (barred (is_open (with_connection rests c rest c) half (changed rests c rest ∙ half_is)))

  by_first : (s t u : State) (rests : Connections) (c : ℕ) (first second half a b : List ℕ) (between last : Connections) → Does s rests (feeds c first) a t between
      → between c ≡ Some half → Does t between (feeds c second) b u last → Does s rests (feeds c (first ++ second)) (a ++ b) u last
  by_first s _ u rests c first second half _ b _ last (does_feed {t = t} {held = held} {out = a} {rest = rest} here h) left_open k =
      then_second s t u rests c held first second half a b rest last here h (sym (changed rests c rest) ∙ left_open) k
  by_first s _ u rests c first second half _ b _ last (ignores barred) left_open k = absurd (barred (is_open (rests c) half left_open))

  pub two_parts_lem : TwoParts
  two_parts_lem s t u rests between last c first second half a b h left_open k = by_first s t u rests c first second half a b between last h left_open k
