use Rattle.std.proofs.Common.{◌≡◌, ◌∙◌, ◌++◌, [], List, ap, append-nil, sym}
use Rattle.gql_facts.specs.declared.key.Key.{Key}
use Rattle.gql_reads.specs.Readings.{answers_in}
use Rattle.gql_readers.specs.Replacements.{answers_to}
use Rattle.gql_readers.proofs.Replacing.{no_keys, to_none}
use Rattle.gql_readers.proofs.differences.Difference.find_all_lost.Goals as goal

pub returns-then-is_empty-clause-came : goal.returns-then-is_empty-clause-came
returns-then-is_empty-clause-came c =
    let came = c.args.self.now.came.items in
    let os = answers_in c.args.after.now in
    let none : c.args.self.now.lost.keys ≡ [] = no_keys c.args.self.now.lost.keys (c.is_empty.ensures.0 c.if-is_empty.true) in
    sym (ap (λ (ks : List Key). came ++ answers_to ks os) none ∙ ap (λ zs. came ++ zs) (to_none os) ∙ append-nil came)
