use Rattle.std.proofs.Common.{◌++◌, ◌∙◌, ap}
use Rattle.gql_readers.proofs.Editing.{unchanged_made}
use Rattle.gql_readers.proofs.index.add_made.Goals as goal

pub returns-then-is_unchanged : goal.returns-then-is_unchanged
returns-then-is_unchanged c = c.in_ok-add_handles.ensures ∙ ap (λ zs. c.args.all.now.items ++ zs)
    (unchanged_made c.args.here.now (c.args.key, c.args.noted.now) (c.is_unchanged.ensures c.if-is_unchanged.true) c.requires.readers c.requires.goes c.requires.among c.requires.named)
