use Rattle.std.proofs.Common.{◌≡◌, ◌+◌, ◌∷◌, if◌then◌else◌, rules, sym, subst}
use Rattle.gql_types.specs.Outlines.{count_types, files_past}
use Rattle.gql_types.proofs.CountedOutlines.{past_passed}
use Rattle.gql_types.proofs.outline.Outline.count_past.Goals as goal

pub loop-other-preserved : goal.loop-other-preserved
loop-other-preserved c =
    let total = count_types (files_past c.args.name.now c.args.self.now.files) in
    let next : c.loop-other.other-iterator ≡ (c.in-Some.other.now, c.in-Some.file.now) ∷ c.next.new.self = search rules in
    let counted : c.loop-other.count + count_types (files_past c.args.name.now c.loop-other.other-iterator) ≡ total = rw c.if-is_past.false at c.loop-other.invariant in
    subst (λ b. c.loop-other.count + count_types (if b then c.next.new.self else files_past c.args.name.now c.next.new.self) ≡ total)
    (sym c.eq-is_past.ensures)
    (past_passed c.args.name.now c.in-Some.other.now c.in-Some.file.now c.loop-other.other-iterator c.next.new.self c.loop-other.count total next counted)
