use Rattle.std.proofs.Common.{◌≡◌, ◌∙◌, ◌++◌, [], ap, arith, rules, sym}
use Rattle.std.proofs.lemmas.Bool.Decides.{nat_tests}
use Rattle.std.proofs.lemmas.List.{nil_from_length}
use Rattle.gql_readers.specs.Chunks.{joined}
use Rattle.gql_readers.specs.Merged.{edited}
use Rattle.gql_readers.proofs.Chunking.{joined_push}
use Rattle.gql_readers.proofs.reader_list.add_edited.Goals as goal

pub returns-then-is_empty : goal.returns-then-is_empty
returns-then-is_empty c =
    let none : c.args.changed.now ≡ [] = nil_from_length c.args.changed.now (grind (arith, nat_tests, c.is_empty.ensures, c.if-is_empty.true)) in
    let same : c.in_ok-clone.field-0 ≡ c.args.chunk.now = search rules in
    ap joined c.in_ok-push.ensures.items ∙ joined_push c.args.all.now.items c.in_ok-clone.field-0
    ∙ ap (λ zs. joined c.args.all.now.items ++ zs) (same ∙ ap (λ zs. edited c.args.comes c.args.chunk.now zs) (sym none))
