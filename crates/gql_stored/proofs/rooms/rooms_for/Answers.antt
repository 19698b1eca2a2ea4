use Rattle.std.proofs.Common.{ℕ, subst}
use Rattle.gql_stored.specs.Rooms.{IsCovered}
use Rattle.gql_stored.proofs.rooms.rooms_for.Goals as goal

pub returns-clause-are_covered : goal.returns-clause-are_covered
returns-clause-are_covered c = λ to. subst (λ (n : ℕ). IsCovered c.args.stored.now c.in_ok-rooms.rooms.items to n)
    (c.in_ok-counts.ensures to) (c.in_ok-rooms.ensures.are_covered to)
