use Rattle.std.proofs.Common.{◌∙◌, ap}
use Rattle.gql_found.specs.EditChecks.{at_places, shown_at}
use Rattle.gql_found.proofs.edit_check.check_edit.Goals as goal

pub returns-clause-of_files : goal.returns-clause-of_files
returns-clause-of_files c = λ s t files left present would_be.
    let before = c.args.before.now in
    let after = c.args.after.now in
    let compared = c.in_ok-compared.ensures in record {
      before = before;
      after = after;
      present = present;
      would_be = would_be;
      says = record {
        faults = c.len.ensures ∙ after.faults.ok.0;
        brought_faults = c.in_ok-faults_at.ensures ∙ ap (λ xs. at_places xs c.as_slice-2.result.now) c.as_slice.ensures.value
            ∙ ap (at_places after.faults.items) (c.as_slice-2.ensures.value ∙ compared.brought);
        mended_faults = c.in_ok-faults_at-2.ensures ∙ ap (λ xs. at_places xs c.as_slice-4.result.now) c.as_slice-3.ensures.value
            ∙ ap (at_places before.faults.items) (c.as_slice-4.ensures.value ∙ compared.mended);
        breaks = c.in_ok-shown_at.ensures ∙ ap (shown_at after) (c.as_slice-5.ensures.value ∙ compared.broken);
        heals = c.in_ok-shown_at-2.ensures ∙ ap (shown_at before) (c.as_slice-6.ensures.value ∙ compared.healed);
      };
    }
