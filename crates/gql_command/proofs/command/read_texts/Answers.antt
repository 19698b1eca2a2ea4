use Rattle.std.proofs.Common.{refl}
use Rattle.clap.specs.Walk.{rows_of, texts}
use Rattle.clap.specs.Matches.{found_of}
use Rattle.gql_command.proofs.command.read_texts.Goals as goal
use Rattle.gql_command.proofs.LineAnswers.{answers_err, gives_err, at_command_line, follows_err, help_err, help_ok, met_other, met_serve, no_fault, gives_pipe, pipe_ok, reads_options, serve_answers, gives_serve, serve_follows, serve_ok, version_err, version_ok}

-- ---- `serve` was entered

pub returns-in-Some-clause-gives : goal.returns-in-Some-clause-gives
returns-in-Some-clause-gives c command asks =
    let words = texts c.args.words.now in
    let m = c.in-Ok-try_get_matches_from.matches in
    let matches = c.in-Ok-try_get_matches_from.ensures.matches in
    let reads = reads_options _ words m c.in-Ok.ensures matches (rows_of (found_of c.in-Some.options.now)) c.serve.result c.in-Some.ensures.rows c.serve.ensures in
    gives_serve command words c.serve.result (met_serve _ words m c.in-Ok.ensures matches (c.in-Some.ensures.found.0 refl)) reads asks

pub returns-in-Some-clause-help : goal.returns-in-Some-clause-help
returns-in-Some-clause-help c asks =
    let words = texts c.args.words.now in
    absurd (help_ok words (no_fault _ words c.in-Ok.ensures c.in-Ok-try_get_matches_from.ensures.kinds) asks)

pub returns-in-Some-clause-version : goal.returns-in-Some-clause-version
returns-in-Some-clause-version c asks =
    let words = texts c.args.words.now in
    absurd (version_ok words (no_fault _ words c.in-Ok.ensures c.in-Ok-try_get_matches_from.ensures.kinds) asks)

pub returns-in-Some-clause-plain : goal.returns-in-Some-clause-plain
returns-in-Some-clause-plain c =
    let words = texts c.args.words.now in
    let m = c.in-Ok-try_get_matches_from.matches in
    let matches = c.in-Ok-try_get_matches_from.ensures.matches in
    let none = no_fault _ words c.in-Ok.ensures c.in-Ok-try_get_matches_from.ensures.kinds in
    let reads = reads_options _ words m c.in-Ok.ensures matches (rows_of (found_of c.in-Some.options.now)) c.serve.result c.in-Some.ensures.rows c.serve.ensures in
    serve_answers words c.serve.result none (serve_ok words none (met_serve _ words m c.in-Ok.ensures matches (c.in-Some.ensures.found.0 refl))) reads

pub returns-in-Some-clause-grammar : goal.returns-in-Some-clause-grammar
returns-in-Some-clause-grammar c =
    let words = texts c.args.words.now in
    let m = c.in-Ok-try_get_matches_from.matches in
    let matches = c.in-Ok-try_get_matches_from.ensures.matches in
    let none = no_fault _ words c.in-Ok.ensures c.in-Ok-try_get_matches_from.ensures.kinds in
    let reads = reads_options _ words m c.in-Ok.ensures matches (rows_of (found_of c.in-Some.options.now)) c.serve.result c.in-Some.ensures.rows c.serve.ensures in
    serve_follows words c.serve.result none (serve_ok words none (met_serve _ words m c.in-Ok.ensures matches (c.in-Some.ensures.found.0 refl))) reads

-- ---- it was not

pub returns-in-Ok-try_get_matches_from-clause-gives :
    goal.returns-in-Ok-try_get_matches_from-clause-gives
returns-in-Ok-try_get_matches_from-clause-gives c command asks =
    let words = texts c.args.words.now in
    gives_pipe command words (met_other _ words c.in-Ok-try_get_matches_from.matches c.in-Ok.ensures c.in-Ok-try_get_matches_from.ensures.matches c.in-None.ensures.found.1) asks

pub returns-in-Ok-try_get_matches_from-clause-help :
    goal.returns-in-Ok-try_get_matches_from-clause-help
returns-in-Ok-try_get_matches_from-clause-help c asks =
    let words = texts c.args.words.now in
    help_ok words (no_fault _ words c.in-Ok.ensures c.in-Ok-try_get_matches_from.ensures.kinds) asks

pub returns-in-Ok-try_get_matches_from-clause-version :
    goal.returns-in-Ok-try_get_matches_from-clause-version
returns-in-Ok-try_get_matches_from-clause-version c asks =
    let words = texts c.args.words.now in
    version_ok words (no_fault _ words c.in-Ok.ensures c.in-Ok-try_get_matches_from.ensures.kinds) asks

pub returns-in-Ok-try_get_matches_from-clause-plain :
    goal.returns-in-Ok-try_get_matches_from-clause-plain
returns-in-Ok-try_get_matches_from-clause-plain c =
    let words = texts c.args.words.now in
    pipe_ok words (no_fault _ words c.in-Ok.ensures c.in-Ok-try_get_matches_from.ensures.kinds)
    (met_other _ words c.in-Ok-try_get_matches_from.matches c.in-Ok.ensures c.in-Ok-try_get_matches_from.ensures.matches c.in-None.ensures.found.1)

-- ---- an error

pub returns-clause-gives : goal.returns-clause-gives
returns-clause-gives c command asks =
    let kinds = at_command_line _ (texts c.args.words.now) c.in-Err.error c.in-Ok.ensures c.in-Err.ensures.kinds in
    gives_err command (texts c.args.words.now) c.in-Err.error c.fault.result kinds c.fault.ensures asks

pub returns-clause-help : goal.returns-clause-help
returns-clause-help c asks =
    let kinds = at_command_line _ (texts c.args.words.now) c.in-Err.error c.in-Ok.ensures c.in-Err.ensures.kinds in
    help_err (texts c.args.words.now) c.in-Err.error c.fault.result kinds c.fault.ensures asks

pub returns-clause-version : goal.returns-clause-version
returns-clause-version c asks =
    let kinds = at_command_line _ (texts c.args.words.now) c.in-Err.error c.in-Ok.ensures c.in-Err.ensures.kinds in
    version_err (texts c.args.words.now) c.in-Err.error c.fault.result kinds c.fault.ensures asks

pub returns-clause-plain : goal.returns-clause-plain
returns-clause-plain c =
    let kinds = at_command_line _ (texts c.args.words.now) c.in-Err.error c.in-Ok.ensures c.in-Err.ensures.kinds in
    answers_err (texts c.args.words.now) c.in-Err.error c.fault.result kinds c.fault.ensures

pub returns-clause-grammar : goal.returns-clause-grammar
returns-clause-grammar c =
    let kinds = at_command_line _ (texts c.args.words.now) c.in-Err.error c.in-Ok.ensures c.in-Err.ensures.kinds in
    follows_err (texts c.args.words.now) c.in-Err.error c.fault.result kinds c.fault.ensures
