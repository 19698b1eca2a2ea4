use Rattle.std.proofs.Common.{◌≡◌, ◌∙◌, ap, bytes_eq, find, rules, subst, sym, List}
use Rattle.std.specs.Prelude.{ℕ, is_some}
use Rattle.gql_facts.specs.declared.key.Key.{Key}
use Rattle.gql_pairs.specs.Doubts.{in_doubt}
use Rattle.gql_pairs.specs.declared.doubt.Doubt.TheVariants as doubted
use Rattle.gql_pairs.proofs.doubt.is_of_one.Goals as goal

pub returns-in-FragmentOf : goal.returns-in-FragmentOf
returns-in-FragmentOf c =
    let name : c.as_str.result.now ≡ c.in-FragmentOf.name = search rules in
    subst (λ (k : Key). c.is_one.result ≡ in_doubt (doubted.Fragments c.args.names.now) k) (sym c.in-FragmentOf.is)
    (c.is_one.ensures ∙ ap (λ (n : List ℕ). is_some (find (bytes_eq n) c.args.names.now)) name)
