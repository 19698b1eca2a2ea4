use Rattle.std.proofs.Common.{◌∙◌, subst}
use Rattle.gql_facts.specs.Worlds.{Facts}
use Rattle.gql_reads.specs.Reaching.{AreMet}
use Rattle.gql_reads.specs.Tables.{AllHold}
use Rattle.gql_reads.proofs.Meeting.{keeps_then, meets_more}
use Rattle.gql_reads.proofs.reading.meet_all.Goals as goal

pub loop-fragment-preserved : goal.loop-fragment-preserved
loop-fragment-preserved g c =
    let same = c.loop-fragment.invariant.same_facts in
    record {
      same_facts = c.meet.ensures.facts ∙ same;
      same_names = c.meet.ensures.names ∙ c.loop-fragment.invariant.same_names;
      same_lent = c.meet.ensures.lent ∙ c.loop-fragment.invariant.same_lent;
      holds = subst (λ (G : Facts). AllHold G c.meet.new.table) same c.meet.ensures.holds;
      keeps = keeps_then c.args.table.now c.loop-fragment.table c.meet.new.table c.loop-fragment.invariant.keeps c.meet.ensures.keeps;
      met = subst (λ (G : Facts). AreMet G c.meet.new.table c.meet.new.met.names.keys c.meet.new.met.parts.items) same c.in_ok-meet.ensures.met;
      meets = meets_more c.args.fragments.now c.loop-fragment.fragment-index c.fragment-item.result c.args.met.now.parts.items c.loop-fragment.met.parts.items c.meet.new.met.parts.items
          c.loop-fragment-test.true c.fragment-item.is c.loop-fragment.invariant.meets c.in_ok-meet.ensures.meets;
    }
