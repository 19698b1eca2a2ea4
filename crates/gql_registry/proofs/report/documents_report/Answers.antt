use Rattle.std.proofs.Common.{◌∙◌, rules, sym}
use Rattle.gql_registry.proofs.Reports.{of_documents}
use Rattle.gql_registry.proofs.report.documents_report.Goals as goal

pub returns-in_err-of_names : goal.returns-in_err-of_names
returns-in_err-of_names c = search rules

pub returns-in_err-faults : goal.returns-in_err-faults
returns-in_err-faults c = search rules

pub returns-in_err-append : goal.returns-in_err-append
returns-in_err-append c = search rules

pub returns-in_err-report : goal.returns-in_err-report
returns-in_err-report c = search rules

pub returns : goal.returns
returns c = record {
  report = (
    c.in_ok-report.ensures.ordered,
    of_documents c.args.files.now _ _ _ _ c.requires.sound (c.in_ok-faults.ensures ∙ c.in_ok-of_names.ensures) c.requires.faults c.in_ok-append.ensures.items c.in_ok-report.ensures.members,
  );
  names = λ none. sym c.in_ok-of_names.ensures ∙ (sym c.as_slice.ensures.value ∙ c.are_none-has_sound_names.ensures none);
}
