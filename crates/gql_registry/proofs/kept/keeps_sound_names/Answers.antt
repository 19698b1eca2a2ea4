use Rattle.std.proofs.Common.{rules}
use Rattle.std.specs.Prelude.{IsTrue}
use Rattle.gql_registry.proofs.kept.keeps_sound_names.Goals as goal

pub returns-then-known-clause-sound : goal.returns-then-known-clause-sound
returns-then-known-clause-sound c = λ is before known plan.
    let sound : IsTrue c.args.known.now.has_sound_names = search rules in
    plan.names is (known.names sound)
