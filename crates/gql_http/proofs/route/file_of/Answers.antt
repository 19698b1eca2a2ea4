use Rattle.std.proofs.Common.{◌≡◌, ◌∙◌, ℕ, List, true, false, drop, nat_eq, refl, sym, ap}
use Rattle.std.specs.List.{starts_with}
use Rattle.std.proofs.lemmas.Result.{IfOk-weaker}
use Rattle.std.proofs.lemmas.List.{take_rest}
use Rattle.gql_ast.specs.declared.fault.FileSide.TheVariants.{Documents}
use Rattle.gql_http.specs.Routes.{file_of, file_resource, schema_prefix, documents_prefix}
use Rattle.gql_http.proofs.route.file_of.Goals as goal

-- a path below the documents
documents_file : (most : ℕ) (path : List ℕ) → starts_with nat_eq path schema_prefix ≡ false
    → starts_with nat_eq path documents_prefix ≡ true
    → file_of most path ≡ file_resource most Documents (drop 11 path)
documents_file most path other here = rw other (rw here refl)

pub returns-then-starts_with-2 : goal.returns-then-starts_with-2
returns-then-starts_with-2 c =
    let other = sym c.if-starts_with.ensures.value in
    let here = sym c.if-starts_with-2.ensures.value in
    let same = documents_file c.args.most c.args.path.now other here in
    let whole = ap (file_resource c.args.most Documents) (take_rest c.args.path.now 11) in
    IfOk-weaker c.file_resource-then-starts_with-2.result _ _ (λ found said. said ∙ whole ∙ sym same) c.file_resource-then-starts_with-2.ensures
