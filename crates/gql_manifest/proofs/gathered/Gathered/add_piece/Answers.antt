use Rattle.std.proofs.Common.{[], ◌∷◌, refl, string_bytes, subst, sym}
use Rattle.std.proofs.lemmas.Result.{on_ok_weaker}
use Rattle.gql_ast.specs.declared.executable.Fragment as ast
use Rattle.gql_ast.specs.declared.executable.Operation.{Operation}
use Rattle.gql_manifest.proofs.GatheredSteps.{fragment_more, operation_more, with_tree}
use Rattle.gql_manifest.specs.Definitions.{GathersMore}
use Rattle.gql_manifest.specs.Fragments as fragments
use Rattle.gql_manifest.specs.Gathering.{IsAdded}
use Rattle.gql_manifest.specs.Origins.{place_of}
use Rattle.gql_manifest.specs.declared.gathered.Gathered.{Gathered}
use Rattle.gql_manifest.proofs.gathered.Gathered.add_piece.Goals as goal

pub returns-in-Operation-clause-ok : goal.returns-in-Operation-clause-ok
returns-in-Operation-clause-ok c = on_ok_weaker c.add_operation.result (λ added.
    subst (λ t. GathersMore (with_tree (place_of c.args.at.now) t c.args.piece.bytes.now (string_bytes c.args.piece.tokens) ∷ []) c.args.self.now c.add_operation.new.self) (sym c.in-Operation.is)
    (operation_more c.in-Operation.operation (place_of c.args.at.now) c.args.piece.bytes.now (string_bytes c.args.piece.tokens) c.args.self.now c.add_operation.new.self
    (subst (λ (o : Operation). IsAdded o.name (place_of c.args.at.now) c.args.piece.bytes.now c.args.self.now c.add_operation.new.self) c.get.ensures added))) c.add_operation.ensures.ok

pub returns-in-Fragment-clause-ok : goal.returns-in-Fragment-clause-ok
returns-in-Fragment-clause-ok c = on_ok_weaker c.add.result (λ added.
    subst (λ t. GathersMore (with_tree (place_of c.args.at.now) t c.args.piece.bytes.now (string_bytes c.args.piece.tokens) ∷ []) c.args.self.now after) (sym c.in-Fragment.is)
    (fragment_more c.in-Fragment.fragment (place_of c.args.at.now) c.args.piece.bytes.now (string_bytes c.args.piece.tokens) c.args.self.now after refl
    (subst (λ (f : ast.Fragment). fragments.IsAdded c.args.self.now.fragments c.add.new.self (fragments.fragment_from f.name.text (string_bytes c.args.piece.tokens) c.args.piece.bytes.now (place_of c.args.at.now))) c.get-in-Fragment.ensures added))) c.add.ensures.ok
  where
    after : Gathered
    after = record { operations = c.args.self.now.operations; fragments = c.add.new.self }
