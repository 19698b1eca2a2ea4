use Rattle.std.proofs.Common.{subst}
use Rattle.gql_registry.specs.FilesFacts.{AreFilesFacts}
use Rattle.gql_registry.specs.Keeping.{Keeping}
use Rattle.gql_registry.specs.declared.facts.FilesFacts.{FilesFacts}
use Rattle.gql_registry.proofs.Mapped.{ok_map}
use Rattle.gql_registry.proofs.kept.Kept.facts.Goals as goal

pub returns : goal.returns
returns c =
    ok_map c.facts_in.result _ (λ (f : FilesFacts). AreFilesFacts c.args.self.now.files f)
    (λ f is. subst (λ (k : Keeping). AreFilesFacts k.files f) c.self.view_is (is c.self.inside.files c.self.invariant.known_of))
    c.facts_in.ensures
