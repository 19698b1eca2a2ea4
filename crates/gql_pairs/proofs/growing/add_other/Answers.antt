use Rattle.std.proofs.Common.{◌≡◌, ◌++◌, ◌∷◌, [], rules}
use Rattle.gql_pairs.proofs.Grown.{other_pushed}
use Rattle.gql_pairs.proofs.growing.add_other.Goals as goal

pub returns-clause-added : goal.returns-clause-added
returns-clause-added g c =
    let y = c.in_ok-member_for.field-0 in
    let made = c.in_ok-member_for.ensures in
    let pushed : c.push.new.self.items ≡ c.args.members.now.items ++ y ∷ [] = search rules in
    other_pushed (g.W.World.facts c.args.world.now) c.args.base.now c.args.fragment.now c.args.members.now.items y
    (record { is = made.fragment; hold = made.hold; certified = made.certificate }) c.push.new.self.items pushed
