use Rattle.std.proofs.Common.{[]}
use Rattle.gql_manifest.proofs.GatheredSteps.{entry_more, entry_refused, err_of, listed_none, lists_found}
use Rattle.gql_manifest.specs.Reading.{IsManifestFault}
use Rattle.gql_manifest.specs.declared.entries.Entry.{Entry}
use Rattle.gql_manifest.proofs.files.add_manifest.Goals as goal

-- what stands for an entry past the last
abbrev no_entry : Entry
no_entry = record { id = record { ref_ptr = (0, 0); now = [] }; body = record { ref_ptr = (0, 0); now = [] } }

pub loop-entry-init : goal.loop-entry-init
loop-entry-init c = listed_none c.as_str-path.result.now c.args.gathered.now

pub returns-in_err-add_entry-clause-err : goal.returns-in_err-add_entry-clause-err
returns-in_err-add_entry-clause-err c = err_of (IsManifestFault c.args.manifest.now c.args.gathered.now) _ _ c.from_residual-in_err-add_entry.ensures.1 (
    entry_refused c.args.manifest.now c.as_str-path.result.now c.as_slice-entry-items.result.now c.loop-entry.entry-index no_entry c.args.gathered.now c.loop-entry.gathered c.in_err-add_entry.field-0.0 c.as_str-path.ensures.value
    (lists_found c.args.manifest.now c.as_slice.result.now c.in_ok-value.field-0 c.in-Some.value c.in_ok-entries.field-0 c.in-Some-2.entries c.as_slice-entry-items.result.now c.as_slice.ensures.value
    c.in_ok-value.ensures c.in-Some.is c.in_ok-entries.ensures c.in-Some-2.is c.as_slice-entry-items.ensures.value)
    c.loop-entry-test.true c.loop-entry.invariant c.in_err-add_entry.ensures.err
    )

pub loop-entry-preserved : goal.loop-entry-preserved
loop-entry-preserved c =
    entry_more c.as_str-path.result.now c.as_slice-entry-items.result.now c.loop-entry.entry-index no_entry c.args.gathered.now c.loop-entry.gathered c.add_entry.new.self c.loop-entry-test.true c.loop-entry.invariant
    c.in_ok-add_entry.ensures.ok
