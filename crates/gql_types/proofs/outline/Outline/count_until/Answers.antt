use Rattle.std.proofs.Common.{◌≡◌, ◌∷◌, bytes_eq, true, false, rules, arith}
use Rattle.gql_types.specs.Outlines.{count_types, files_until}
use Rattle.gql_types.proofs.CountedOutlines.{until_found, until_more}
use Rattle.gql_types.proofs.outline.Outline.count_until.Goals as goal

pub returns-then-eq : goal.returns-then-eq
returns-then-eq c =
    let next : c.loop-other.other-iterator ≡ (c.in-Some.other.now, c.in-Some.file.now) ∷ c.next.new.self = search rules in
    let is : bytes_eq c.args.name.now c.in-Some.other.now ≡ true = search rules in
    until_found c.args.name.now c.in-Some.other.now c.in-Some.file.now c.loop-other.other-iterator c.next.new.self
    c.loop-other.count (count_types (files_until c.args.name.now c.args.self.now.files)) next c.loop-other.invariant is

pub overflow_add-count : goal.overflow_add-count
overflow_add-count c =
    let next : c.loop-other.other-iterator ≡ (c.in-Some.other.now, c.in-Some.file.now) ∷ c.next.new.self = search rules in
    let is : bytes_eq c.args.name.now c.in-Some.other.now ≡ false = search rules in
    let more = until_more c.args.name.now c.in-Some.other.now c.in-Some.file.now c.loop-other.other-iterator c.next.new.self
    c.loop-other.count (count_types (files_until c.args.name.now c.args.self.now.files)) next c.loop-other.invariant is in
    let here : c.get.result.now.types ≡ c.in-Some.file.now.types = search rules in
    omega (arith, more, here, c.requires)

pub loop-other-preserved : goal.loop-other-preserved
loop-other-preserved c =
    let next : c.loop-other.other-iterator ≡ (c.in-Some.other.now, c.in-Some.file.now) ∷ c.next.new.self = search rules in
    let is : bytes_eq c.args.name.now c.in-Some.other.now ≡ false = search rules in
    let more = until_more c.args.name.now c.in-Some.other.now c.in-Some.file.now c.loop-other.other-iterator c.next.new.self
    c.loop-other.count (count_types (files_until c.args.name.now c.args.self.now.files)) next c.loop-other.invariant is in
    let here : c.get.result.now.types ≡ c.in-Some.file.now.types = search rules in
    omega (arith, more, here)
