use Rattle.std.proofs.Common.{rules, ap, subst, reverse}
use Rattle.gql_collect.specs.Borrowed.{all_selections, names_of, nodes_of}
use Rattle.gql_collect.specs.Contexts.{given}
use Rattle.gql_collect.specs.Groups.{firsts, is_same_field}
use Rattle.gql_collect.proofs.Walking.{Goes, begins_at, passed, passed_shrinks, none_left, walk_step, walk_shrinks, ends}
use Rattle.gql_collect.proofs.unfold.unfold.Goals as goal

pub loop-set-init : goal.loop-set-init
loop-set-init c = λ ns u. begins_at (given c.args.context.now) c.args.of_type.now
    (all_selections c.args.sets.now) (all_selections (reverse c.in_ok-pending.pending.items))
    (names_of c.new.result.keys) (nodes_of c.new-2.result.keys) ns
    (ap names_of c.new.ensures.empty) (ap nodes_of c.new-2.ensures.empty) (ap all_selections c.in_ok-pending.ensures) u

pub loop-set-smaller : goal.loop-set-smaller
loop-set-smaller c = passed_shrinks (given c.args.context.now).fragments
    (names_of c.loop-set.met.fragments.keys) c.loop-set.pending.items c.pop.new.self.items c.in-Some.set
    c.in-Some.ensures.items

pub loop-set-preserved : goal.loop-set-preserved
loop-set-preserved c = λ ns u.
    subst (λ xs. Goes (given c.args.context.now) c.args.of_type.now (names_of c.loop-set.met.fragments.keys)
    (nodes_of c.loop-set.met.fields.keys) xs (firsts is_same_field ns))
    (passed c.loop-set.pending.items c.pop.new.self.items c.in-Some.set c.in-Some.ensures.items c.in_default-split_first.ensures.none)
    (c.loop-set.invariant ns u)

pub loop-set-smaller-in-Continue-branch-4 : goal.loop-set-smaller-in-Continue-branch-4
loop-set-smaller-in-Continue-branch-4 c = walk_shrinks (given c.args.context.now) c.args.of_type.now
    c.loop-set.pending.items c.pop.new.self.items c.push.new.self.items c.push-in-Some-split_first.new.self.items
    c.in-Some.set c.in-Some-split_first.rest c.in_ok-next.next c.in-Some-split_first.first.now
    c.in-Some.ensures.items c.in_ok-push.ensures.items c.in_ok-push-2.ensures.items
    c.in-Some-split_first.ensures.some.0 c.in-Some-split_first.ensures.some.1 c.in_ok-next.ensures

pub loop-set-preserved-in-Continue-branch-4 : goal.loop-set-preserved-in-Continue-branch-4
loop-set-preserved-in-Continue-branch-4 c = λ ns u. walk_step (given c.args.context.now) c.args.of_type.now
    c.loop-set.pending.items c.pop.new.self.items c.push.new.self.items c.push-in-Some-split_first.new.self.items
    c.in-Some.set c.in-Some-split_first.rest c.in_ok-next.next c.in-Some-split_first.first.now
    c.in-Some.ensures.items c.in_ok-push.ensures.items c.in_ok-push-2.ensures.items
    c.in-Some-split_first.ensures.some.0 c.in-Some-split_first.ensures.some.1
    (firsts is_same_field ns) c.in_ok-next.ensures (c.loop-set.invariant ns u)

pub returns : goal.returns
returns c = λ ns u. ends (given c.args.context.now) c.args.of_type.now (names_of c.loop-set.met.fragments.keys)
    (nodes_of c.loop-set.met.fields.keys) (firsts is_same_field ns) (all_selections (reverse c.loop-set.pending.items))
    (none_left c.loop-set.pending.items (search (rules, c.in_default.ensures.cases.0))) (c.loop-set.invariant ns u)
