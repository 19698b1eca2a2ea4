use Rattle.std.proofs.Common.{◌≡◌, ◌∙◌, ◌+◌, sym, rules, ◌-◌, ap, arith, take, drop}
use Rattle.std.proofs.lemmas.Fn.{always_returns_same}
use Rattle.std.proofs.lemmas.List.{drop-take}
use Rattle.std.specs.Prelude.{Ok, Err}
use Rattle.gql_readers.specs.Indexes.{Reading}
use Rattle.gql_readers.specs.Merged.{IsSplit, key_of}
use Rattle.gql_readers.specs.OrderLaws.{key_exact, key_total}
use Rattle.gql_readers.specs.Orders.{key_order}
use Rattle.gql_readers.proofs.Splitting.{rest_of, split_at}
use Rattle.gql_readers.proofs.index.split.Goals as goal

pub returns-in-Ok-clause-before : goal.returns-in-Ok-clause-before
returns-in-Ok-clause-before c =
    let s : IsSplit key_order key_of c.args.key.now c.args.entries.now c.in-Ok.place (c.in-Ok.place + 1) = split_at key_order key_total key_exact key_of c.args.key.now c.args.entries.now (Ok c.in-Ok.place) c.requires c.in-Ok.ensures.bound
    (c.in-Ok.ensures.position (λ (x : Reading). key_order (key_of x) c.args.key.now) (always_returns_same _ _ _ (λ a r g called. (search rules, search rules)))) in
    sym s.under

pub returns-in-Ok-clause-here : goal.returns-in-Ok-clause-here
returns-in-Ok-clause-here c =
    let s : IsSplit key_order key_of c.args.key.now c.args.entries.now c.in-Ok.place (c.in-Ok.place + 1) = split_at key_order key_total key_exact key_of c.args.key.now c.args.entries.now (Ok c.in-Ok.place) c.requires c.in-Ok.ensures.bound
    (c.in-Ok.ensures.position (λ (x : Reading). key_order (key_of x) c.args.key.now) (always_returns_same _ _ _ (λ a r g called. (search rules, search rules)))) in
    let one : c.in-Ok.place + 1 - c.in-Ok.place ≡ 1 = omega arith in
    ap (λ n. take n (drop c.in-Ok.place c.args.entries.now)) one ∙ sym (drop-take c.in-Ok.place 1 c.args.entries.now) ∙ sym s.among

pub returns-in-Ok-clause-after : goal.returns-in-Ok-clause-after
returns-in-Ok-clause-after c =
    let s : IsSplit key_order key_of c.args.key.now c.args.entries.now c.in-Ok.place (c.in-Ok.place + 1) = split_at key_order key_total key_exact key_of c.args.key.now c.args.entries.now (Ok c.in-Ok.place) c.requires c.in-Ok.ensures.bound
    (c.in-Ok.ensures.position (λ (x : Reading). key_order (key_of x) c.args.key.now) (always_returns_same _ _ _ (λ a r g called. (search rules, search rules)))) in
    rest_of c.args.entries.now (c.in-Ok.place + 1) ∙ sym s.over

pub returns-in-Err-clause-before : goal.returns-in-Err-clause-before
returns-in-Err-clause-before c =
    let s : IsSplit key_order key_of c.args.key.now c.args.entries.now c.in-Err.place c.in-Err.place = split_at key_order key_total key_exact key_of c.args.key.now c.args.entries.now (Err c.in-Err.place) c.requires c.in-Err.ensures.bound
    (c.in-Err.ensures.position (λ (x : Reading). key_order (key_of x) c.args.key.now) (always_returns_same _ _ _ (λ a r g called. (search rules, search rules)))) in
    sym s.under

pub returns-in-Err-clause-here : goal.returns-in-Err-clause-here
returns-in-Err-clause-here c =
    let s : IsSplit key_order key_of c.args.key.now c.args.entries.now c.in-Err.place c.in-Err.place = split_at key_order key_total key_exact key_of c.args.key.now c.args.entries.now (Err c.in-Err.place) c.requires c.in-Err.ensures.bound
    (c.in-Err.ensures.position (λ (x : Reading). key_order (key_of x) c.args.key.now) (always_returns_same _ _ _ (λ a r g called. (search rules, search rules)))) in
    let none : c.in-Err.place - c.in-Err.place ≡ 0 = omega arith in
    let all : c.in-Err.place + 0 ≡ c.in-Err.place = omega arith in
    ap (λ n. take n (drop c.in-Err.place c.args.entries.now)) none ∙ sym (drop-take c.in-Err.place 0 c.args.entries.now) ∙ ap (λ n. drop c.in-Err.place (take n c.args.entries.now)) all ∙ sym s.among

pub returns-in-Err-clause-after : goal.returns-in-Err-clause-after
returns-in-Err-clause-after c =
    let s : IsSplit key_order key_of c.args.key.now c.args.entries.now c.in-Err.place c.in-Err.place = split_at key_order key_total key_exact key_of c.args.key.now c.args.entries.now (Err c.in-Err.place) c.requires c.in-Err.ensures.bound
    (c.in-Err.ensures.position (λ (x : Reading). key_order (key_of x) c.args.key.now) (always_returns_same _ _ _ (λ a r g called. (search rules, search rules)))) in
    rest_of c.args.entries.now c.in-Err.place ∙ sym s.over
