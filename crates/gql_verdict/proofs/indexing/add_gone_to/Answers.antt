use Rattle.std.proofs.Common.{◌≡◌, ◌<◌, Bool, ℕ, false, arith, get_or, length, subst, sym, take, List}
use Rattle.std.proofs.lemmas.List.{get_or_default}
use Rattle.gql_readers.specs.Changes.{AreNotesBetween}
use Rattle.gql_readers.specs.Readers.{Reader}
use Rattle.gql_verdict.specs.Marks.{gone}
use Rattle.gql_verdict.specs.Readings.{readers}
use Rattle.gql_verdict.proofs.LedTo.{gone_new, gone_readers}
use Rattle.gql_verdict.proofs.indexing.add_gone_to.Goals as goal

pub loop-i-init : goal.loop-i-init
loop-i-init c = record { bound = c.requires.at; noted = λ new up b. b }

pub loop-i-preserved : goal.loop-i-preserved
loop-i-preserved c =
    let slots = c.args.slots.now in
    let stay = c.args.stay.now in
    let i = c.loop-i.i in
    let s = c.index-slots-i.result in
    let b : Bool = get_or stay i false in
    let lt : i < length slots = omega (arith, c.loop-i-test.true, c.requires.to) in
    let within : i < length stay = subst (λ (n : ℕ). i < n) (sym c.requires.long) lt in
    let mark : b ≡ get_or stay i b = get_or_default stay i false b within in
    record {
      bound = omega (arith, c.loop-i-test.true);
      noted = λ new up are.
          subst (λ (rs : List Reader). AreNotesBetween c.add_gone.new.changes rs new) (gone_readers slots stay i s b c.requires.long lt c.index-slots-i.is mark)
          (c.in_ok-add_gone.ensures (readers (gone (take i slots) (take i stay))) new (c.loop-i.invariant.noted new up are) (gone_new slots stay i s b c.requires.long lt c.index-slots-i.is mark up));
    }

pub returns : goal.returns
returns c = λ new up are.
    let end : c.loop-i.i ≡ c.args.to = omega (arith, c.loop-i-test.false, c.loop-i.invariant.bound) in
    subst (λ (n : ℕ). AreNotesBetween c.loop-i.changes (readers (gone (take n c.args.slots.now) (take n c.args.stay.now))) new) end (c.loop-i.invariant.noted new up are)
