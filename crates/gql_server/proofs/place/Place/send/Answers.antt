use Rattle.std.proofs.Common.{rules, [], ◌∷◌, ◌∙◌, refl, ap, sym, take, drop}
use Rattle.gql_wire.specs.Peer.{sent}
use Rattle.gql_server.specs.Turns.{Talk}
use Rattle.gql_server.proofs.Parts.{left_after, whole_left}
use Rattle.gql_server.proofs.place.Place.send.Goals as goal

pub returns-clause-writes : goal.returns-clause-writes
returns-clause-writes g c =
    let moved = rw c.in-Some.is at c.in_ok-count.ensures.moved in
    let same = rw c.deref.ensures.value at moved.2 in
    let whole = rw (whole_left c.self.inside.unsent.items c.self.inside.at) at same in
    let here = rw c.deref_mut.ensures.value at whole in record {
      passed = sent (take c.in-Some.count (drop c.self.inside.at c.self.inside.unsent.items)) ∷ [];
      passes = rw (ap (λ (t : Talk). t.transcript) c.self.view_is) at here;
      no_reads = refl;
      writing = sym (ap (λ (t : Talk). t.unsent) c.self.view_is) ∙ left_after c.self.inside.unsent.items c.self.inside.at c.in-Some.count;
      unfed = ap (λ (t : Talk). t.unfed) c.self.view_is;
    }
