use Rattle.std.proofs.Common.{◌≡◌, ◌∙◌, ℕ, List, true, false, IfOk, ap, sym, subst, codes, drop, nat_eq, if◌then◌else◌}
use Rattle.std.proofs.lemmas.List.{take_rest}
use Rattle.std.specs.List.{starts_with}
use Rattle.gql_ast.specs.declared.fault.FileSide.TheVariants.{Schema, Documents}
use Rattle.gql_folder.specs.Roles.{role_below, role_in}
use Rattle.gql_folder.specs.declared.role.Role.TheVariants.{Other}
use Rattle.gql_folder.proofs.role.role_in.Goals as goal

-- a path below the folder of the documents
below_documents : (most : ℕ) (path : List ℕ) → starts_with nat_eq path (codes "schema/") ≡ false → starts_with nat_eq path (codes "documents/") ≡ true → role_in most path ≡ role_below most Documents (drop 10 path)
below_documents most path schema documents =
    ap (λ b. if b then role_below most Schema (drop 7 path) else if starts_with nat_eq path (codes "documents/") then role_below most Documents (drop 10 path) else Other) schema
    ∙ ap (λ b. if b then role_below most Documents (drop 10 path) else Other) documents

pub returns-then-starts_with-2 : goal.returns-then-starts_with-2
returns-then-starts_with-2 c =
    let path = c.args.path.now in
    let rest_is = ap (role_below c.args.most Documents) (take_rest path 10) in
    let role_is = below_documents c.args.most path (sym c.if-starts_with.ensures.value) (sym c.if-starts_with-2.ensures.value) in
    subst (λ r. IfOk c.role_below-then-starts_with-2.result (λ role. role ≡ r)) (rest_is ∙ sym role_is) c.role_below-then-starts_with-2.ensures
