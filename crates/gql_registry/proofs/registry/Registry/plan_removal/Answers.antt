use Rattle.std.proofs.Common.{inl, inr, rules, refl, ap}
use Rattle.gql_ast.specs.declared.files.Files.{Files}
use Rattle.gql_registry.specs.Checks.{IsChangeRefusal}
use Rattle.gql_registry.specs.Edits.{remove}
use Rattle.gql_registry.specs.State.{state_of, with_files}
use Rattle.gql_registry.proofs.FirstRefusals.{first_no_file, removal_accepted}
use Rattle.gql_registry.proofs.PlacedFiles.{removal_plan_of}
use Rattle.gql_registry.proofs.Working.{err_of}
use Rattle.gql_registry.proofs.registry.Registry.plan_removal.Goals as goal

pub returns-then-not-has-clause-plan : goal.returns-then-not-has-clause-plan
returns-then-not-has-clause-plan c = tt

pub returns-then-not-has-clause-err : goal.returns-then-not-has-clause-err
returns-then-not-has-clause-err c = inl (first_no_file (state_of c.args.self.now) c.args.side c.args.name.now (search rules))

pub returns-in_err-plan-clause-plan : goal.returns-in_err-plan-clause-plan
returns-in_err-plan-clause-plan c = search rules

pub returns-in_err-plan-clause-err : goal.returns-in_err-plan-clause-err
returns-in_err-plan-clause-err c = err_of (IsChangeRefusal (state_of c.args.self.now) (remove c.args.side c.args.name.now)) _ _ c.from_residual.ensures.1 (inr refl)

pub returns-clause-plan : goal.returns-clause-plan
returns-clause-plan c =
    record {
      accepted = removal_accepted (state_of c.args.self.now) c.args.side c.args.name.now (search rules);
      leaves = ap (λ (f : Files). with_files (state_of c.args.self.now) f) c.in_ok-plan.ensures.files;
      plan = removal_plan_of c.args.side c.args.self.now.kept.files c.args.name.now _ c.files.ensures.placed c.in_ok-plan.ensures;
    }
