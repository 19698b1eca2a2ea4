use Rattle.gql_iface_rules.proofs.rules.iface_faults.Goals as goal

pub returns-clause-sound : goal.returns-clause-sound
returns-clause-sound c = c.in_ok-found.ensures.sound

pub returns-clause-complete : goal.returns-clause-complete
returns-clause-complete c = c.in_ok-found.ensures.complete
