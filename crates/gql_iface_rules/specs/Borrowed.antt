-- Helper definitions for private contracts: what Rust code borrows, as specifications see it.
use Rattle.gql_cycles.specs.Names.{Steps}
use Rattle.gql_iface_rules.specs.Implementing.{Implements, FieldPair as Pair}
use Rattle.gql_iface_rules.specs.declared.implementing.FieldPair.{FieldPair}
use Rattle.gql_iface_rules.specs.declared.implementing.Implementation.{Implementation}
use Rattle.gql_iface_rules.specs.declared.s26_rows.OwnedRow.{OwnedRow}

-- a type, and an interface that it implements
abbrev pub implements : Implementation → Implements
implements i =
    record { of_type = i.of_type.now; name = i.name.now; interface = i.interface.now }

-- a pair of fields
abbrev pub pair : FieldPair → Pair
pair p = record { own = p.own.now; expected = p.expected.now }

-- a type or a directive, and the names to which it leads
abbrev pub steps : OwnedRow → Steps
steps r = record { name = r.name; leads = r.leads }
