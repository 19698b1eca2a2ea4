use Rattle.std.proofs.Common.{◌≡◌, ◌++◌, true, ap, ◌∙◌, rules}
use Rattle.serde_json.specs.Data.{member}
use Rattle.serde_json.specs.View.{members_view, view}
use Rattle.gql_steps.specs.JsonText.{json_text, members_text}
use Rattle.gql_steps.proofs.Writing.{member_begun, part_begun}
use Rattle.gql_steps.proofs.values.write_members.Goals as goal

pub returns-in-Some-2 : goal.returns-in-Some-2
returns-in-Some-2 c =
    let next : member c.as_str.result.now (view c.in-Some.member.now) (members_view c.next.new.self) ≡ members_view c.loop-key.rest = search rules in
    part_begun c.push.new.self.items c.begin_value.new.out.items (json_text (view c.in-Some.member.now)) _ c.in-Some-2.inner (members_text true (members_view c.next.new.self)) c.in-Some-2.is c.in_ok-inner.ensures
    ∙ member_begun c.loop-key.later c.as_str.result.now (view c.in-Some.member.now) (members_view c.next.new.self) c.loop-key.out.items c.write_comma.new.out.items c.write_string.new.out.items c.push.new.self.items
    c.in_ok-write_comma.ensures c.in_ok-write_string.ensures (search rules)
    ∙ ap (λ ms. c.loop-key.out.items ++ members_text c.loop-key.later ms) next ∙ c.loop-key.invariant
