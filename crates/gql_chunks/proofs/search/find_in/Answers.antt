use Rattle.std.proofs.Common.{◌∙◌, ap, sym}
use Rattle.gql_chunks.specs.Cuts.{if_equal}
use Rattle.gql_chunks.specs.Lists.{joined}
use Rattle.gql_chunks.proofs.Searching.{find_equal}
use Rattle.gql_chunks.proofs.search.find_in.Goals as goal

pub returns : goal.returns
returns g c =
    let o = g.P.Probe.order c.args.probe.now in
    c.if_equal.ensures ∙ ap (if_equal o) c.first_in_chunks-first.ensures ∙ sym (find_equal g.T.HasOrder.order o (g.met.P.Probe.rises c.args.probe.now) (joined c.args.chunks.now) c.requires.ordered)
