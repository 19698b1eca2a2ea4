use Rattle.std.proofs.Common.{◌≡◌, ◌∙◌, Option, None, ap, bytes_eq, inr, refl, subst, sym}
use Rattle.std.specs.Map.{lookup}
use Rattle.std.specs.Option.{option_copied}
use Rattle.gql_ast.specs.declared.text.Name.{Name}
use Rattle.gql_manifest.proofs.Kept.{inserted}
use Rattle.gql_manifest.proofs.OperationSteps.{appended, is_fresh, twice}
use Rattle.gql_manifest.specs.Gathering.{IsAddFault, IsAdded, operations_of}
use Rattle.gql_manifest.specs.Buckets.{bucket_of}
use Rattle.gql_manifest.specs.declared.gathered.Gathered.{Gathered}
use Rattle.gql_manifest.specs.Origins.{place_of}
use Rattle.gql_manifest.proofs.gathered.Gathered.add_operation.Goals as goal

pub returns-in-Some-get-clause-err : goal.returns-in-Some-get-clause-err
returns-in-Some-get-clause-err c =
    subst (λ (n : Option Name). IsAddFault n (place_of c.args.at.now) (operations_of c.args.self.now) c.in_ok-twice.field-0) (sym c.in-Some.is)
    (inr (twice c.args.self.now.operations.entries c.in-Some.name.text c.in-Some-get.first.now (place_of c.args.at.now) c.in_ok-twice.field-0
    (sym c.get.ensures.value ∙ ap option_copied c.in-Some-get.is) c.in_ok-twice.ensures))

pub returns-clause-ok : goal.returns-clause-ok
returns-clause-ok c =
    let none : lookup (bytes_eq c.in-Some.name.text) c.args.self.now.operations.entries ≡ None = sym c.get.ensures.value ∙ ap option_copied c.in_default-get.is in
    let new : Gathered = record { operations = c.insert.new.self; fragments = c.args.self.now.fragments } in
    subst (λ (n : Option Name). IsAdded n (place_of c.args.at.now) c.args.bytes.now c.args.self.now new) (sym c.in-Some.is) (
      is_fresh c.args.self.now.operations.entries c.in-Some.name.text none,
      appended c.args.self.now.operations.entries c.insert.new.self.entries c.in-Some.name.text
          (record { origin = c.in_ok-copy-2.field-0; bytes = c.in_ok-with_line_break.field-0; bucket = c.bucket_of.result }) (place_of c.args.at.now) c.args.bytes.now
          (inserted c.args.self.now.operations c.in_ok-copy-3.field-0 c.in-Some.name.text _ c.insert.new.self.entries c.in_ok-copy-3.ensures none c.in_ok-insert.ensures.entries)
          c.in_ok-copy-2.ensures c.in_ok-with_line_break.ensures (c.bucket_of.ensures.number ∙ ap bucket_of c.as_str.ensures),
      refl,
    )
