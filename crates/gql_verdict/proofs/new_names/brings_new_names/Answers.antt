use Rattle.std.proofs.Common.{◌≡◌, ◌<◌, ◌∙◌, ap, rules, sym, length, [], false, true, None}
use Rattle.gql_ast.specs.FileMaps.{file_named}
use Rattle.gql_verdict.specs.Definitions.{all_definitions}
use Rattle.gql_verdict.specs.NameFaults.{faults_of}
use Rattle.gql_verdict.specs.NewNames.{names_of_operations}
use Rattle.gql_verdict.proofs.NewFiles.{have_same_names, new_file_keeps, no_names, none_there, some_names}
use Rattle.gql_verdict.proofs.new_names.brings_new_names.Goals as goal
use Rattle.gql_verdict.proofs.new_names.brings_new_names.Goals.{then-is_some-via-then-is_some, then-is_some-via-else-is_some+then-is_empty}

pub returns-then-is_some-clause-exact : goal.returns-then-is_some-clause-exact
returns-then-is_some-clause-exact g c = (
  λ t. let z : false ≡ true = t in cc z,
  λ brings. elim c.then-is_some.branch [
    | then-is_some-via-then-is_some w ↦ absurd (none_there c.get.result (sym c.is_some.ensures ∙ w.if-is_some.true) (c.get.ensures ∙ brings.absent))
    | then-is_some-via-else-is_some+then-is_empty w ↦
        absurd (no_names (g.O.NameSet.names c.args.operations.now) _ c.requires.operations (w.is_empty.ensures.0 w.if-is_empty.true) brings.named)
  ],
)

pub returns-then-not-have_new_names-clause-exact : goal.returns-then-not-have_new_names-clause-exact
returns-then-not-have_new_names-clause-exact g c =
    let files = c.args.files.now in
    let definitions : c.as_slice-definitions.result.now ≡ c.args.document.now.definitions = search rules in (
      λ t. let z : false ≡ true = t in cc z,
      λ brings.
          let new = (have_same_names files.documents _ _ _ _ c.requires.operations c.requires.fragments definitions).1 brings.new in
          let z : true ≡ false = sym (c.have_new_names.ensures.1 new) ∙ c.if-not-have_new_names.true in cc z,
    )

pub returns-clause-exact : goal.returns-clause-exact
returns-clause-exact g c =
    let files = c.args.files.now in
    let definitions : c.as_slice-definitions.result.now ≡ c.args.document.now.definitions = search rules in
    let absent : file_named files.documents c.args.name.now ≡ None = search rules in
    let some : g.O.NameSet.names c.args.operations.now ≡ [] → ⊥ = λ none.
    let z : true ≡ false = sym (c.is_empty.ensures.1 none) ∙ c.if-is_empty.false in
    cc z in
    let named : 0 < length (names_of_operations (all_definitions files.documents)) = some_names (g.O.NameSet.names c.args.operations.now) _ c.requires.operations some in
    let new = (have_same_names files.documents _ _ _ _ c.requires.operations c.requires.fragments definitions).0
    (c.have_new_names.ensures.0 c.if-not-have_new_names.false) in (
      λ is. record { absent = absent; named = named; new = new; alone = sym (ap faults_of definitions) ∙ c.in_ok-sound.ensures.0 is },
      λ brings. c.in_ok-sound.ensures.1 (ap faults_of definitions ∙ brings.alone),
    )

pub returns-clause-sound : goal.returns-clause-sound
returns-clause-sound g c = λ is. new_file_keeps c.args.files.now c.args.name.now c.args.document.now ((returns-clause-exact g c).0 is)
