use Rattle.std.proofs.Common.{◌≡◌, ◌∙◌, List, Bor, ap, rules, subst}
use Rattle.clap.specs.Walk.{Text, texts}
use Rattle.gql_command.specs.CommandLine.{Answers, word_texts}
use Rattle.gql_command.specs.Grammar.{FollowsGrammar}
use Rattle.gql_command.specs.Profiles.{split}
use Rattle.gql_command.proofs.Joining.{answers}
use Rattle.gql_command.proofs.command.read_profiled_command.Goals as goal

pub returns-clause-plain : goal.returns-clause-plain
returns-clause-plain c =
    let command = c.read_texts-command.result in
    let parts = c.in-Ok-split.parts in
    let same : texts c.as_slice.result.now ≡ word_texts c.args.words.now = search rules in
    answers (word_texts c.args.words.now) parts.profile (texts parts.rest.items) (c.in-Ok-split.ensures ∙ ap split same) command c.in_profile.result
    (subst (λ (t : List (Bor Text)). Answers (texts t) command) c.as_slice-2.ensures.value c.read_texts-command.ensures.plain)
    (subst (λ (t : List (Bor Text)). FollowsGrammar (texts t) command) c.as_slice-2.ensures.value c.read_texts-command.ensures.grammar)
    c.in_profile.ensures
