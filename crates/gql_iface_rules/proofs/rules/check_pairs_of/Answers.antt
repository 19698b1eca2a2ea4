use Rattle.std.proofs.Common.{◌≡◌, ◌↔◌, flat_map, map, rules, subst, sym}
use Rattle.std.specs.Prelude.{Contains, IsTrue}
use Rattle.gql_iface_rules.specs.Borrowed.{pair}
use Rattle.gql_iface_rules.specs.Implementing.{FieldPair, implementations_of, pairs_of}
use Rattle.gql_iface_rules.specs.KnownNames.{AsksOfKnown}
use Rattle.gql_iface_rules.proofs.KnownNames.{known_by}
use Rattle.gql_iface_rules.proofs.MetPairs.{pairs_checked}
use Rattle.gql_iface_rules.proofs.rules.check_pairs_of.Goals as goal

pub returns-clause-faults : goal.returns-clause-faults
returns-clause-faults c =
    let same : c.in_ok-pairs.pairs.items ≡ c.as_slice-pairs.result.now = search rules in
    pairs_checked c.args.schema.now _ _ _ _ _ _
    (subst (λ ps. (p : FieldPair) → Contains (map pair ps) p ↔ Contains (flat_map pairs_of (implementations_of c.args.schema.now c.args.of_type.now)) p)
    same c.in_ok-pairs.ensures)
    c.in_ok-check.ensures c.in_ok-check-2.ensures c.in_ok-are_answered.ensures.faults

pub returns-clause-known : goal.returns-clause-known
returns-clause-known c =
    let same : c.in_ok-pairs.pairs.items ≡ c.as_slice-pairs.result.now = search rules in
    subst (λ b. IsTrue b ↔ AsksOfKnown c.args.schema.now c.args.of_type.now) (sym c.both.ensures)
    (known_by c.args.schema.now c.args.of_type.now c.as_slice.result.now (map pair c.as_slice-pairs.result.now) c.in_ok-are_answered.are_answered c.are_known-are_known.result (search rules) c.in_ok-are_answered.ensures.answered (search rules)
    (subst (λ ps. (p : FieldPair) → Contains (map pair ps) p ↔ Contains (flat_map pairs_of (implementations_of c.args.schema.now c.args.of_type.now)) p)
    same c.in_ok-pairs.ensures))
