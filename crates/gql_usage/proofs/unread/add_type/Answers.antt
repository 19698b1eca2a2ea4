use Rattle.std.proofs.Common.{◌∙◌, [], append-nil, inl, inr, refl, rules, sym}
use Rattle.gql_usage.proofs.unread.add_type.Goals as goal

pub returns-then-is_built_in : goal.returns-then-is_built_in
returns-then-is_built_in c = ([], inl (sym c.is_built_in.ensures ∙ c.if-is_built_in.true, refl), sym (append-nil c.args.unread.now.items))

pub returns : goal.returns
returns c = (c.in_ok-found.found.items, inr (sym c.is_built_in.ensures ∙ c.if-is_built_in.false, c.in_ok-found.ensures), search rules)
