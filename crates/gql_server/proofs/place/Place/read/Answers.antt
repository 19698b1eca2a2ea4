use Rattle.std.proofs.Common.{rules, [], ◌∷◌, ◌∙◌, refl, ap, take}
use Rattle.gql_wire.specs.Peer.{received}
use Rattle.gql_server.specs.Turns.{Talk}
use Rattle.gql_server.proofs.Parts.{read_part}
use Rattle.gql_server.proofs.place.Place.read.Goals as goal

pub returns-clause-reads : goal.returns-clause-reads
returns-clause-reads g c =
    let moved = rw c.in-Some.is at c.in_ok-count.ensures.moved in
    let here = rw c.deref_mut.ensures.value at moved.1 in record {
      passed = received (take c.in-Some.count c.read.new.piece) ∷ [];
      passes = rw (ap (λ (t : Talk). t.transcript) c.self.view_is) at here;
      no_writes = refl;
      before = c.requires.fed;
      reading = read_part c.read.new.piece c.self.inside.piece.items c.in-Some.count c.self.inside.piece.len (c.in_ok-count.ensures.length ∙ c.as_mut_slice.ensures.len ∙ refl);
      unsent = ap (λ (t : Talk). t.unsent) c.self.view_is;
    }
