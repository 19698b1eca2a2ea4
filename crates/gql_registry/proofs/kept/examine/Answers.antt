use Rattle.std.proofs.Common.{sym, subst}
use Rattle.gql_registry.specs.Keeping.{IsSideOf}
use Rattle.gql_registry.proofs.Working.{on_err_of}
use Rattle.gql_registry.proofs.kept.examine.Goals as goal

pub returns-in_err-verdicts-clause-work : goal.returns-in_err-verdicts-clause-work
returns-in_err-verdicts-clause-work c = on_err_of _ c.in_err-verdicts.ensures.work

pub returns-in_err-faults-clause-work : goal.returns-in_err-faults-clause-work
returns-in_err-faults-clause-work c = on_err_of _ c.in_ok-verdicts.ensures.whole.works

pub returns-in_err-known-clause-work : goal.returns-in_err-known-clause-work
returns-in_err-known-clause-work c = on_err_of _ c.in_ok-verdicts.ensures.whole.works

pub known_with-requires-clause-faults : goal.known_with-requires-clause-faults
known_with-requires-clause-faults c = c.in_ok-faults.ensures c.args.plan.files c.in_ok-verdicts.ensures.planned
    (subst (IsSideOf c.args.plan.files) (sym c.get.ensures) c.requires.schema)

pub returns-clause-ready : goal.returns-clause-ready
returns-clause-ready c = record {
  placed = c.requires.placed;
  known_of = c.in_ok-known.ensures;
  planned = c.in_ok-verdicts.ensures.planned;
  keeps = c.in_ok-verdicts.ensures.pairs;
  walked = c.in_ok-verdicts.ensures.walked;
}

pub returns-clause-whole : goal.returns-clause-whole
returns-clause-whole c = c.in_ok-verdicts.ensures.whole
