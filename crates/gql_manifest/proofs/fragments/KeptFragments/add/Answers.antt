use Rattle.std.proofs.Common.{◌≡◌, ◌∙◌, true≢false, List, None, ap, bytes_eq, refl, string_bytes, subst, sym}
use Rattle.std.specs.Map.{lookup}
use Rattle.std.specs.Option.{option_copied}
use Rattle.std.proofs.lemmas.Slice.Eq.{bytes_eq-Decides}
use Rattle.gql_manifest.proofs.FragmentSteps.{added, differs, there}
use Rattle.gql_manifest.proofs.Kept.{inserted}
use Rattle.gql_manifest.specs.Fragments.{Fragment, IsAddFault, IsAdded, fragment_from, fragments_of}
use Rattle.gql_manifest.specs.Origins.{place_of}
use Rattle.gql_manifest.proofs.fragments.KeptFragments.add.Goals as goal

pub returns-then-eq-clause-ok : goal.returns-then-eq-clause-ok
returns-then-eq-clause-ok c =
    let same : string_bytes c.in-Some.kept.now.tokens ≡ string_bytes c.args.tokens =
    (bytes_eq-Decides (string_bytes c.in-Some.kept.now.tokens) (string_bytes c.args.tokens)).0 (sym c.eq.ensures ∙ c.if-eq.true) in
    subst (λ (kept : List Fragment). IsAdded kept kept (fragment_from c.args.name.now (string_bytes c.args.tokens) c.args.bytes.now (place_of c.args.at.now))) c.self.view_is
    (there c.self.inside.fragments.entries c.args.name.now c.in-Some.kept.now (string_bytes c.args.tokens) c.args.bytes.now (place_of c.args.at.now)
    (sym c.get.ensures.value ∙ ap option_copied c.in-Some.is) same)

pub returns-in-Some-clause-err : goal.returns-in-Some-clause-err
returns-in-Some-clause-err c =
    let other : string_bytes c.in-Some.kept.now.tokens ≡ string_bytes c.args.tokens → ⊥ = λ same.
    true≢false (sym ((bytes_eq-Decides (string_bytes c.in-Some.kept.now.tokens) (string_bytes c.args.tokens)).1 same) ∙ (sym c.eq.ensures ∙ c.if-eq.false)) in
    subst (λ (kept : List Fragment). IsAddFault kept (fragment_from c.args.name.now (string_bytes c.args.tokens) c.args.bytes.now (place_of c.args.at.now)) c.in_ok-differ.field-0) c.self.view_is
    (differs c.self.inside.fragments.entries c.args.name.now c.in-Some.kept.now (string_bytes c.args.tokens) c.args.bytes.now (place_of c.args.at.now) c.in_ok-differ.field-0
    (sym c.get.ensures.value ∙ ap option_copied c.in-Some.is) other c.in_ok-differ.ensures)

pub returns-clause-ok : goal.returns-clause-ok
returns-clause-ok c =
    let none : lookup (bytes_eq c.args.name.now) c.self.inside.fragments.entries ≡ None = sym c.get.ensures.value ∙ ap option_copied c.in_default.is in
    subst (λ (kept : List Fragment). IsAdded kept (fragments_of c.insert.new.self.entries) (fragment_from c.args.name.now (string_bytes c.args.tokens) c.args.bytes.now (place_of c.args.at.now))) c.self.view_is
    (added c.self.inside.fragments.entries c.insert.new.self.entries c.args.name.now (record { tokens = c.args.tokens; bytes = c.in_ok-with_line_break.field-0; first = c.in_ok-copy.field-0 })
    (string_bytes c.args.tokens) c.args.bytes.now (place_of c.args.at.now) none
    (inserted c.self.inside.fragments c.in_ok-copy-2.field-0 c.args.name.now _ c.insert.new.self.entries c.in_ok-copy-2.ensures none c.in_ok-insert.ensures.entries)
    refl c.in_ok-with_line_break.ensures c.in_ok-copy.ensures)
