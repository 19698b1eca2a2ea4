use Rattle.std.proofs.Common.{rules, sym, subst}
use Rattle.gql_reads.specs.Tables.{AllHold, Entries}
use Rattle.gql_reads.proofs.Meeting.{added_holds, made_holds}
use Rattle.gql_reads.proofs.reading.add_part.Goals as goal

pub returns-in_err-add-clause-holds : goal.returns-in_err-add-clause-holds
returns-in_err-add-clause-holds g c = subst (λ (es : Entries). AllHold (g.W.World.facts c.args.world.now) es) (sym c.in_err-add.ensures.err) c.part_for.ensures.holds

pub returns-clause-holds : goal.returns-clause-holds
returns-clause-holds g c =
    let F = g.W.World.facts c.args.world.now in
    added_holds c.part_for.new.table c.add.new.self c.in_ok-name.name c.in_ok-entry.entry c.in_ok-add.ensures.here c.in_ok-add.ensures.others c.add.ensures.answers c.add.ensures.types F
    (made_holds F c.part_for.new.table c.args.fragment.now c.in_ok-entry.entry c.in_ok-name.name c.in_ok-part.part (search rules) c.in_ok-entry.ensures c.requires.named
    c.in_ok-part.ensures.fragment c.in_ok-part.ensures.seen) c.part_for.ensures.holds
