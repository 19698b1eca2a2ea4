use Rattle.std.proofs.Common.{true, false, subst, ◌≡◌, ◌∙◌, ℕ, List, Option, Some, None, Err, arith, codes, sym}
use Rattle.clap.specs.Walk.{Row}
use Rattle.clap.specs.Words.{found_of, rows_of}
use Rattle.gql_command.specs.declared.command.CommandFault.{CommandFault}
use Rattle.gql_command.specs.declared.command.CommandFault.TheVariants.{Help, Version, Refused, Memory}
use Rattle.gql_command.specs.CommandLine.{IsAtOnce, IsConnections, IsPort}
use Rattle.gql_command.specs.Grammar.{IsRefusal, LacksNumbers, ReadsNumbers}
use Rattle.gql_command.proofs.Numbers.{given, gives}
use Rattle.gql_command.proofs.serve.serve.Goals as goal
use Rattle.gql_command.proofs.serve.serve.Goals.{in_default-via-in-Some-Some-Some+else-are_in_range, in_default-via-in-Some+in-Some+in_default, in_default-via-in-Some+in_default, in_default-via-in_default}

refuses : (rows : List Row) (fault : CommandFault) → IsRefusal fault → LacksNumbers rows → ReadsNumbers rows (Err fault)
refuses rows (Help text) r lacks = r
refuses rows (Version text) r lacks = r
refuses rows (Refused text) r lacks = lacks
refuses rows Memory r lacks = tt

same_number : (a b : ℕ) (o : Option ℕ) → o ≡ Some a → o ≡ Some b → a ≡ b
same_number a b o e f = (let s : Some a ≡ Some b = sym e ∙ f in cc)

none_is : (o : Option ℕ) (n : ℕ) → o ≡ None → o ≡ Some n → ⊥
none_is o n e f = (let bad : None ≡ Some n = sym e ∙ f in cc)

never : true ≡ false → ⊥
never e = cc

pub returns-in-Some-Some-Some : goal.returns-in-Some-Some-Some
returns-in-Some-Some-Some c =
    let rows = c.args.options.now in
    let port = gives 16 (found_of rows) (codes "port") c.get_one-port.result c.get_one-port.ensures.value c.get_one-port.ensures.none _ c.in-Some-Some-Some.is-0 in
    let connections = gives 32 (found_of rows) (codes "connections") c.get_one-connections.result c.get_one-connections.ensures.value c.get_one-connections.ensures.none _ c.in-Some-Some-Some.is-1 in
    let at_once = rw c.in-Some-Some-Some.is-2 at c.at_once_of-at_once.ensures.some in
    let ranges = c.are_in_range.ensures.0 c.if-are_in_range.true in
    (port.0, connections.0, at_once, ranges.0, ranges.1, ranges.2)

pub returns-in_default : goal.returns-in_default
returns-in_default c = refuses (rows_of (found_of c.args.options.now)) _ c.out_of_range.ensures (λ p n k numbers.
    let fits = numbers.3.1 in
    let more = numbers.4.1 in
    let few = numbers.5.1 in
    let port = given 16 (found_of c.args.options.now) (codes "port") c.get_one-port.result c.get_one-port.ensures.value p (omega (arith, fits)) numbers.0 in
    let connections = given 32 (found_of c.args.options.now) (codes "connections") c.get_one-connections.result c.get_one-connections.ensures.value n (omega (arith, more)) numbers.1 in
    let at_once = c.at_once_of-at_once.ensures.none k (omega (arith, few)) numbers.2 in
    elim c.in_default.branch [
      | in_default-via-in-Some-Some-Some+else-are_in_range w ↦
          (let is_port = subst IsPort (same_number _ _ _ port w.in-Some-Some-Some.is-0) numbers.3 in
          let is_connections = subst IsConnections (same_number _ _ _ connections w.in-Some-Some-Some.is-1) numbers.4 in
          let is_at_once = subst IsAtOnce (same_number _ _ _ at_once w.in-Some-Some-Some.is-2) numbers.5 in
          never (sym (w.are_in_range.ensures.1 (is_port, is_connections, is_at_once)) ∙ w.if-are_in_range.false))
      | in_default-via-in-Some+in-Some+in_default w ↦ none_is _ _ w.in_default.is-2 at_once
      | in_default-via-in-Some+in_default w ↦ none_is _ _ w.in_default.is-1 connections
      | in_default-via-in_default w ↦ none_is _ _ w.in_default.is-0 port
    ])
