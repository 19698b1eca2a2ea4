use Rattle.std.proofs.Common.{◌≡◌, false, rules, true}
use Rattle.gql_chunks.specs.Edits.{edited}
use Rattle.gql_chunks.specs.Lists.{AreInOrder, joined}
use Rattle.gql_chunks.proofs.Editing.{edited_after}
use Rattle.gql_chunks.proofs.chunks.Chunks.edited.Goals as goal

pub returns : goal.returns
returns g c =
    let order = g.T.HasOrder.order in
    let left = joined c.in_ok-left.left.items in
    let before_in_order : AreInOrder order c.args.self.now = search rules in
    let goes_in_order : AreInOrder order c.args.goes.now = search rules in
    let comes_in_order : AreInOrder order c.args.comes.now = search rules in
    let gone : left ≡ edited order false c.args.self.now c.args.goes.now = search rules in
    let come : joined c.in_ok-chunks.chunks.items ≡ edited order true left c.args.comes.now = search rules in
    edited_after order g.met.T.HasOrder.total c.args.self.now c.args.goes.now c.args.comes.now left (joined c.in_ok-chunks.chunks.items) before_in_order goes_in_order comes_in_order gone come
