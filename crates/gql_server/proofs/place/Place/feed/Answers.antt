use Rattle.std.proofs.Common.{rules, ◌∙◌, ap, sym}
use Rattle.gql_server.specs.Turns.{Talk, feeds_piece}
use Rattle.gql_server.proofs.Parts.{part_some, same_part}
use Rattle.gql_server.proofs.place.Place.feed.Goals as goal

pub returns : goal.returns
returns g c = record {
  fed = record {
    piece = _;
    passes = ap (λ (t : Talk). t.transcript) c.self.view_is;
    feeds = rw c.swap.ensures.x_after (feeds_piece c.feed-fed.result.memory c.feed-fed.ensures.does.1 c.feed-fed.ensures.does.2);
    fed = sym (ap (λ (t : Talk). t.unfed) c.self.view_is)
        ∙ same_part _ c.deref.result.now c.deref-2.result.now c.self.inside.from c.self.inside.to c.part_length-length.result c.deref.ensures.value c.deref-2.ensures.value (search rules) c.part_length-length.ensures.1;
    sent = c.requires.sent;
    failed = ap (λ (t : Talk). t.has_failed) c.self.view_is;
    waits = ap (λ (t : Talk). t.waits) c.self.view_is;
    some = part_some _ c.deref.result.now c.deref-2.result.now c.self.inside.from c.self.inside.to c.part_length-length.result c.deref.ensures.value c.deref-2.ensures.value c.part_length-length.ensures.0 c.part_length-length.ensures.1;
  };
}
