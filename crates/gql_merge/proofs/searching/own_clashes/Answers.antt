use Rattle.gql_merge.proofs.searching.own_clashes.Goals as goal

pub returns : goal.returns
returns c = record {
  sound = λ p h. c.in_ok-found.ensures.sound p ((c.in_ok-pairs.ensures p).0 h);
  complete = λ p q. (c.in_ok-pairs.ensures p).1 (c.in_ok-found.ensures.complete p q);
}
