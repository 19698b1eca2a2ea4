use Rattle.std.proofs.Common.{ℕ, length, Vec, Global, refl, sym, ap, ◌∙◌, rules}
use Rattle.gql_steps.specs.declared.run.Run.{Run}
use Rattle.gql_deep.proofs.Holes.{hole_field, hole_item}
use Rattle.gql_deep.proofs.place.close.Goals as goal

pub returns-then-around-clause-does : goal.returns-then-around-clause-does
returns-then-around-clause-does c = λ p start r before h done.
    let u = c.place.new.run in
    let v : Run = record { out = u.out; errors = u.errors; path = c.truncate.new.self; left = u.left; raised = c.args.around.outer } in
    let mark = h.mark ∙ ap (λ (o : Vec ℕ Global). length o.items) (sym h.out) in
    hole_field c.args.around p start r before h c.in_ok-ended.ended u v (c.in_ok-ended.ensures.does p start mark done) refl refl refl (search rules) (search rules) refl

pub returns-else-around-clause-does : goal.returns-else-around-clause-does
returns-else-around-clause-does c = λ p start r before h done.
    let u = c.place.new.run in
    let v : Run = record { out = u.out; errors = u.errors; path = c.truncate.new.self; left = u.left; raised = u.raised } in
    let mark = h.mark ∙ ap (λ (o : Vec ℕ Global). length o.items) (sym h.out) in
    hole_item c.args.around p start r before h c.in_ok-ended.ended u v (c.in_ok-ended.ensures.does p start mark done) refl refl refl (search rules) (search rules) refl
