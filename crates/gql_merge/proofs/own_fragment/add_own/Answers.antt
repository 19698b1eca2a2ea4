use Rattle.std.proofs.Common.{◌≡◌, rules, subst}
use Rattle.gql_ast.specs.declared.executable.Fragment.{Fragment}
use Rattle.gql_merge.specs.Light.{MayAdd}
use Rattle.gql_merge.proofs.Cleanness.{clean_added}
use Rattle.gql_merge.proofs.own_fragment.add_own.Goals as goal

pub returns-in_err-add-clause-clean : goal.returns-in_err-add-clause-clean
returns-in_err-add-clause-clean g c = clean_added (g.W.World.facts c.args.world.now) _ c.args.definition.now c.args.clean.now c.add.new.self (search rules) (c.in_ok-is_named.ensures.answer c.if-not-is_named.false) (c.requires.own c.if-not-is_clean.false)
    (subst (λ (f : Fragment). MayAdd (λ n. n ≡ f.name.text) c.args.clean.now c.add.new.self) c.get.ensures c.add.ensures.added) c.requires.clean

pub returns-clause-clean : goal.returns-clause-clean
returns-clause-clean g c = clean_added (g.W.World.facts c.args.world.now) _ c.args.definition.now c.args.clean.now c.add.new.self (search rules) (c.in_ok-is_named.ensures.answer c.if-not-is_named.false) (c.requires.own c.if-not-is_clean.false)
    (subst (λ (f : Fragment). MayAdd (λ n. n ≡ f.name.text) c.args.clean.now c.add.new.self) c.get.ensures c.add.ensures.added) c.requires.clean

pub returns-in_err-add-clause-kept : goal.returns-in_err-add-clause-kept
returns-in_err-add-clause-kept g c = c.add.ensures.added.kept

pub returns-clause-kept : goal.returns-clause-kept
returns-clause-kept g c = c.add.ensures.added.kept
