use Rattle.std.proofs.Common.{◌≡◌, ◌<◌, ◌∙◌, ℕ, List, Some, ap, arith, length, slice_get, get_or, string_bytes, subst, sym, option_map}
use Rattle.std.proofs.lemmas.Option.{slice_get-map, slice_get-get_or}
use Rattle.gql_folder.specs.Folders.{IsFolder, IsFolderFault, paths_of}
use Rattle.gql_folder.specs.declared.folder.GivenFile.{GivenFile}
use Rattle.gql_folder.proofs.Added.{err_of}
use Rattle.gql_folder.proofs.folder.read_folder.Goals as goal

-- the path of the file at an index
path_at : (files : List GivenFile) (at : ℕ) (file : GivenFile) (path : List ℕ) → at < length files → file ≡ get_or files at file → path ≡ string_bytes file.path → slice_get (paths_of files) at ≡ Some path
path_at files at file path within is same =
    slice_get-map (λ (f : GivenFile). string_bytes f.path) files at
    ∙ ap (option_map (λ (f : GivenFile). string_bytes f.path)) (slice_get-get_or files at file within ∙ ap Some (sym is))
    ∙ ap Some (sym same)

pub returns-in_err-add-clause-err : goal.returns-in_err-add-clause-err
returns-in_err-add-clause-err c =
    let there = path_at c.args.files.now c.loop-at.at c.index-files-at.result c.as_str.result.now c.loop-at-test.true c.index-files-at.is c.as_str.ensures.value in
    err_of (IsFolderFault c.args.limits (paths_of c.args.files.now)) _ _ c.from_residual.ensures.1
    (c.in_err-add.ensures.err (paths_of c.args.files.now) there c.loop-at.invariant)

pub loop-at-preserved : goal.loop-at-preserved
loop-at-preserved c =
    let there = path_at c.args.files.now c.loop-at.at c.index-files-at.result c.as_str.result.now c.loop-at-test.true c.index-files-at.is c.as_str.ensures.value in
    c.in_ok-add.ensures.ok (paths_of c.args.files.now) there c.loop-at.invariant

pub returns-clause-folder : goal.returns-clause-folder
returns-clause-folder c =
    let all : c.loop-at.at ≡ length c.args.files.now = omega arith in
    subst (λ n. IsFolder c.args.limits (paths_of c.args.files.now) n c.loop-at.folder) all c.loop-at.invariant
