use Rattle.std.proofs.Common.{◌≡◌, ◌∙◌, [], ◌∷◌, ◌++◌, ap, subst, sym}
use Rattle.gql_check.specs.Faults.{AreRefused}
use Rattle.gql_check.proofs.Lists.{differ, found_at}
use Rattle.gql_check.proofs.Refused.{refused_first}
use Rattle.gql_registry.specs.Changes.{edit_of}
use Rattle.gql_check.proofs.refusals.refused_files.Goals as goal
use Rattle.gql_check.proofs.refusals.refused_files.Goals.{in-Memory, in_default-matches}

pub loop-at-init : goal.loop-at-init
loop-at-init c =
    let edits = edit_of c.args.puts.now.puts.items in
    let indices = c.args.puts.now.indices.items in
    let first = c.args.first.now in
    let fault = c.file_fault.result in
    let lookup = c.in-Some.ensures.lookup in
    let one : c.push.new.self.items ≡ fault ∷ [] = c.in_ok-push.ensures.items ∙ ap (λ xs. xs ++ fault ∷ []) c.new-refused.ensures.items in
    subst (AreRefused c.args.profile edits indices _) (sym one)
    (elim c.match-matches.branch [
      | in-Memory w ↦ differ c.match-matches.matches w.matches-is c.if-matches.false
      | in_default-matches w ↦ refused_first c.args.profile edits indices c.in-Some.file.now first fault w.in_default-matches.not-Memory c.requires
          (found_at indices c.deref.result.now first.at c.in-Some.file.now c.deref.ensures.value lookup.3.0 lookup.1) c.file_fault.ensures
    ])
