use Rattle.std.proofs.Common.{◌≡◌, false, refl}
use Rattle.gql_ast.specs.FileNames.{is_file_name}
use Rattle.gql_http.proofs.Names.{no_text_no_name}
use Rattle.gql_http.proofs.route.file_name.Goals as goal

pub returns-in_default : goal.returns-in_default
returns-in_default c =
    let unnamed : is_file_name c.args.most c.args.bytes.now ≡ false = no_text_no_name c.args.most c.args.bytes.now c.in_default.ensures.cases.0 in
    rw unnamed refl
