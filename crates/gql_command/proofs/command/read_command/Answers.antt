use Rattle.std.proofs.Common.{◌≡◌, rules, subst, sym}
use Rattle.clap.specs.Walk.{texts}
use Rattle.gql_command.specs.CommandLine.{HasHelpFlag, word_texts}
use Rattle.gql_command.proofs.command.read_command.Goals as goal

pub returns-clause-help : goal.returns-clause-help
returns-clause-help c asks =
    let same : texts c.as_slice.result.now ≡ word_texts c.args.words.now = search rules in
    c.read_texts.ensures.help (subst HasHelpFlag (sym same) asks)
