use Rattle.gql_steps.specs.Requests.{request_of}
use Rattle.gql_serving.proofs.Reaching.{acyclic}
use Rattle.gql_serving.proofs.Roots.{has_root}
use Rattle.gql_serving.proofs.laws.some_answer.Goals as goal

pub returns : goal.returns
returns c = λ files d operation is there sound clean variables stored.
    let root = has_root files sound d operation is there clean in
    c.some_response.ensures (request_of files d operation variables stored) root.root
    (c.no_default_cycles.ensures files sound) root.is root.object
    (λ values. acyclic files values d operation is clean)
