use Rattle.std.proofs.Common.{rules, refl}
use Rattle.gql_ast.specs.declared.fault.FileSide.TheVariants.{Schema, Documents}
use Rattle.gql_folder.specs.Folders.{IsFolderFault}
use Rattle.gql_folder.proofs.Added.{on_ok, if_err, err_of, with_schema, with_document, with_data, with_other, add_fault}
use Rattle.gql_folder.proofs.folder.Folder.add.Goals as goal

pub returns-in_err-role-clause-err : goal.returns-in_err-role-clause-err
returns-in_err-role-clause-err c = λ paths is old. err_of (IsFolderFault c.args.limits paths) _ _ c.from_residual.ensures.1 tt

pub returns-in-File-Schema-default-clause-ok : goal.returns-in-File-Schema-default-clause-ok
returns-in-File-Schema-default-clause-ok c = λ paths is old.
    on_ok c.add_named.result c.add_named.ensures.added c.add_named.ensures.fresh c.add_named.ensures.few (λ added fresh few.
    with_schema c.args.limits paths c.args.at c.args.path.now c.in-File-Schema-default.name c.args.self.now _ is (search rules) old refl refl added fresh few)

pub returns-in-File-Schema-default-clause-err : goal.returns-in-File-Schema-default-clause-err
returns-in-File-Schema-default-clause-err c = λ paths is old.
    if_err c.add_named.result c.add_named.ensures.err (add_fault c.args.limits Schema paths c.args.at c.in-File-Schema-default.name c.args.self.now.schema.items old.schema (c.args.path.now, is, search rules))

pub returns-in-File-Documents-default-clause-ok : goal.returns-in-File-Documents-default-clause-ok
returns-in-File-Documents-default-clause-ok c = λ paths is old.
    on_ok c.add_named-in-File-Documents-default.result c.add_named-in-File-Documents-default.ensures.added c.add_named-in-File-Documents-default.ensures.fresh c.add_named-in-File-Documents-default.ensures.few (λ added fresh few.
    with_document c.args.limits paths c.args.at c.args.path.now c.in-File-Documents-default.name c.args.self.now _ is (search rules) old refl refl added fresh few)

pub returns-in-File-Documents-default-clause-err : goal.returns-in-File-Documents-default-clause-err
returns-in-File-Documents-default-clause-err c = λ paths is old.
    if_err c.add_named-in-File-Documents-default.result c.add_named-in-File-Documents-default.ensures.err (add_fault c.args.limits Documents paths c.args.at c.in-File-Documents-default.name c.args.self.now.documents.items old.documents (c.args.path.now, is, search rules))

pub returns-in-Data-clause-ok : goal.returns-in-Data-clause-ok
returns-in-Data-clause-ok c = λ paths is old. with_data c.args.limits paths c.args.at c.args.path.now c.args.self.now _ is (search rules) old refl refl refl

pub returns-in-Other-clause-ok : goal.returns-in-Other-clause-ok
returns-in-Other-clause-ok c = λ paths is old. with_other c.args.limits paths c.args.at c.args.path.now c.args.self.now is (search rules) old
