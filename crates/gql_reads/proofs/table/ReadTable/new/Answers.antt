use Rattle.std.specs.Map.{lookup}
use Rattle.std.proofs.Common.{◌≡◌, ℕ, Contains, List, [], None, Some, bytes_eq, rules, subst}
use Rattle.gql_facts.specs.Keys.{is_key}
use Rattle.gql_facts.specs.ListMembers.{Contains-nil}
use Rattle.gql_facts.specs.declared.key.Key.{Key}
use Rattle.gql_reads.specs.Records.{Kept}
use Rattle.gql_reads.specs.declared.observation.Answer.{Answer}
use Rattle.gql_reads.specs.declared.observation.TypeAnswers.{TypeAnswers}
use Rattle.gql_reads.proofs.table.ReadTable.new.Goals as goal

pub returns-clause-holds : goal.returns-clause-holds
returns-clause-holds c = λ facts. record {
  each = λ n k e.
      let none : c.new.result.entries ≡ [] = search rules in
      let i : None ≡ Some k = subst (λ (es : List (List ℕ × Kept)). lookup (bytes_eq n) es ≡ Some k) none e in
      absurd (cc i);
  answers = λ k a e.
      let none : c.new-2.result.entries ≡ [] = search rules in
      let i : None ≡ Some a = subst (λ (es : List (Key × Answer)). lookup (is_key k) es ≡ Some a) none e in
      absurd (cc i);
  types =
      let none : c.new-3.result.entries ≡ [] = search rules in
      record { each = λ e m. absurd (Contains-nil e (subst (λ (es : List (List ℕ × TypeAnswers)). Contains es e) none m)) };
}
