use Rattle.std.proofs.Common.{◌↔◌, ◌⊎◌, List, ◌+◌, rules, subst, sym, take}
use Rattle.std.specs.Prelude.{Contains, IsTrue}
use Rattle.std.specs.List.{All}
use Rattle.std.proofs.lemmas.List.{take_all}
use Rattle.gql_types.specs.declared.schema_type.SchemaType.{SchemaType}
use Rattle.gql_iface_rules.specs.KnownNames.{AsksOfKnown}
use Rattle.gql_iface_rules.specs.Pairing.{IsFaultOfTypes}
use Rattle.gql_iface_rules.proofs.KnownNames.{known_more}
use Rattle.gql_iface_rules.proofs.MetPairs.{types_more}
use Rattle.gql_iface_rules.proofs.rules.check_pairs.Goals as goal

pub loop-of_type-preserved : goal.loop-of_type-preserved
loop-of_type-preserved c = (
  types_more c.args.schema.now c.args.types.now c.loop-of_type.of_type-index c.of_type-item.result _ _ _
      (search rules) (search rules) c.loop-of_type.invariant.0 (rw c.get.ensures at c.in_ok-is_known.ensures.faults),
  subst (λ b. IsTrue b ↔ All (AsksOfKnown c.args.schema.now) (take (c.loop-of_type.of_type-index + 1) c.args.types.now)) (sym c.both-are_all_known.ensures)
      (known_more c.args.schema.now c.args.types.now c.loop-of_type.of_type-index c.of_type-item.result _ _
      (search rules) (search rules) c.loop-of_type.invariant.1 (rw c.get.ensures at c.in_ok-is_known.ensures.known)),
)

pub returns-clause-faults : goal.returns-clause-faults
returns-clause-faults c = λ f.
    subst (λ (ts : List SchemaType). Contains c.loop-of_type.faults.items f ↔ (Contains c.args.faults.now.items f ⊎ IsFaultOfTypes c.args.schema.now ts f)) (take_all _ _ c.loop-of_type-test.false) (c.loop-of_type.invariant.0 f)

pub returns-clause-known : goal.returns-clause-known
returns-clause-known c =
    subst (λ (ts : List SchemaType). IsTrue c.loop-of_type.are_all_known ↔ All (AsksOfKnown c.args.schema.now) ts) (take_all _ _ c.loop-of_type-test.false) c.loop-of_type.invariant.1
