use Rattle.std.proofs.Common.{◌≡◌, ◌∙◌, sym, subst, Vec, Global}
use Rattle.gql_ast.specs.declared.fault.Fault.{Fault}
use Rattle.gql_registry.specs.Keeping.{Keeping}
use Rattle.gql_registry.specs.Report.{IsReport}
use Rattle.gql_registry.proofs.Mapped.{ok_map}
use Rattle.gql_registry.proofs.kept.Kept.report.Goals as goal

pub returns : goal.returns
returns c =
    ok_map c.sharing.result (λ (v : Vec Fault Global). v.items ≡ c.as_slice.result.now) (λ (v : Vec Fault Global). IsReport c.args.self.now.files v.items)
    (λ v is. subst (λ (k : Keeping). IsReport k.files v.items) c.self.view_is (subst (IsReport c.self.inside.files) (sym (is ∙ c.as_slice.ensures.value)) c.self.invariant.known_of.report))
    c.sharing.ensures
