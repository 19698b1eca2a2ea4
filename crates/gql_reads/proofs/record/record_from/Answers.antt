use Rattle.std.proofs.Common.{◌≡◌, ◌∙◌, ◌++◌, ◌∷◌, [], List, Contains, ap, inl, inr, map, rules, subst, sym, append_assoc}
use Rattle.std.proofs.lemmas.List.{map-append}
use Rattle.std.proofs.lemmas.List.Elements.{Contains-push_cases}
use Rattle.gql_facts.specs.ListMembers.{Contains-here, Contains-there}
use Rattle.gql_facts.specs.Worlds.{Facts}
use Rattle.gql_facts.specs.Walks.{member_in}
use Rattle.gql_facts.specs.declared.fact.Fact.{Fact}
use Rattle.gql_facts.specs.declared.key.Key.{Key}
use Rattle.gql_reads.specs.Closings.{observation_of}
use Rattle.gql_reads.specs.Tables.{AllHold, IsAnswer}
use Rattle.gql_reads.specs.declared.observation.Answer.{Answer}
use Rattle.gql_reads.proofs.Recorded.{answer_here, observed_so, told_more}
use Rattle.gql_reads.proofs.record.record_from.Goals as goal

pub answer-requires-clause-right : goal.answer-requires-clause-right
answer-requires-clause-right g c =
    let e : Key × Fact = (c.in-Some.key, c.in-Some.fact) in
    let next : c.loop-key.key-iterator ≡ e ∷ c.next.new.self = search rules in
    let there : Contains c.args.answers.entries e = c.loop-key.invariant.left e (subst (λ (l : List (Key × Fact)). Contains l e) (sym next) (Contains-here e c.next.new.self)) in
    c.requires.right e there ∙ ap (λ (G : Facts). G c.in-Some.key) (sym c.loop-key.invariant.same_facts)

pub loop-key-preserved : goal.loop-key-preserved
loop-key-preserved g c =
    let F = g.W.World.facts c.args.world.now in
    let same = c.loop-key.invariant.same_facts in
    let e : Key × Fact = (c.in-Some.key, c.in-Some.fact) in
    let next : c.loop-key.key-iterator ≡ e ∷ c.next.new.self = search rules in
    let there : Contains c.args.answers.entries e = c.loop-key.invariant.left e (subst (λ (l : List (Key × Fact)). Contains l e) (sym next) (Contains-here e c.next.new.self)) in
    let a = c.in_ok-answer.field-0 in
    let is : IsAnswer F c.in-Some.key a = subst (λ (G : Facts). IsAnswer G c.in-Some.key a) same c.in_ok-answer.ensures.answer in
    let fact : a.observation.fact ≡ c.in-Some.fact = sym (is.hold a.observation (answer_here a)) ∙ ap F is.key ∙ sym (c.requires.right e there) in
    let told : a.observation ≡ observation_of e = observed_so a.observation c.in-Some.key c.in-Some.fact is.key fact in
    let pushed : c.push.new.self.items ≡ c.loop-key.found.items ++ a ∷ [] = c.in_ok-push.ensures.items in
    let spreads : c.add_spread.new.spreads.items ≡ c.loop-key.spreads.items ++ member_in a.observation.fact =
    c.in_ok-add_spread.ensures ∙ ap (λ f. c.loop-key.spreads.items ++ member_in f) (sym fact) in
    let obs = λ (x : Answer). x.observation in
    record {
      same_facts = c.answer.ensures.facts ∙ same;
      same_names = c.answer.ensures.names ∙ c.loop-key.invariant.same_names;
      same_lent = c.answer.ensures.lent ∙ c.loop-key.invariant.same_lent;
      holds = subst (λ (G : Facts). AllHold G c.answer.new.self) same c.answer.ensures.holds;
      parts = c.answer.ensures.parts ∙ c.loop-key.invariant.parts;
      left = λ d m. c.loop-key.invariant.left d (subst (λ (l : List (Key × Fact)). Contains l d) (sym next) (Contains-there d e c.next.new.self m));
      so_far = ap (λ l. map obs l ++ map observation_of c.next.new.self) pushed
          ∙ ap (λ l. l ++ map observation_of c.next.new.self) (map-append obs c.loop-key.found.items (a ∷ []))
          ∙ append_assoc (map obs c.loop-key.found.items) (a.observation ∷ []) (map observation_of c.next.new.self)
          ∙ ap (λ o. map obs c.loop-key.found.items ++ o ∷ map observation_of c.next.new.self) told
          ∙ ap (λ (l : List (Key × Fact)). map obs c.loop-key.found.items ++ map observation_of l) (sym next) ∙ c.loop-key.invariant.so_far;
      right = λ x m. elim (Contains-push_cases c.loop-key.found.items a x (subst (λ (l : List Answer). Contains l x) pushed m)) [
        | inl o ↦ c.loop-key.invariant.right x o
        | inr s ↦ subst (λ (y : Answer). IsAnswer F y.observation.key y) s (subst (λ k. IsAnswer F k a) (sym is.key) is)
      ];
      told = told_more c.loop-key.spreads.items c.add_spread.new.spreads.items c.loop-key.found.items c.push.new.self.items a spreads pushed c.loop-key.invariant.told;
    }
