use Rattle.gql_usage.proofs.breaks.nothing_shared.Goals as goal

pub returns : goal.returns
returns c = λ facts. c.new-2.ensures.holds facts (c.new.ensures.holds facts)
