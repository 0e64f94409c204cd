use Rattle.std.proofs.Common.{◌≡◌, ◌<◌, true, List, Some, None, length, sym, arith, rules}
use Rattle.std.specs.Prelude.{slice_get}
use Rattle.std.specs.Str.{bytes_eq}
use Rattle.match_model.specs.Declarations.{MVariant, variants_of}
use Rattle.type_table.specs.Tables.{table_program, table_type, variant_name_of}
use Rattle.type_table.proofs.LookupLemmas.{no_variant, none_named_past, none_named_few, first_named, variants_few}
use Rattle.type_table.proofs.table.TypeTable.variant_named.Goals as goal

pub returns-in_default : goal.returns-in_default
returns-in_default c =
    let vs : List MVariant = variants_of (table_program c.args.self.now) (table_type c.args.self.now c.args.ty) in
    let none : None ≡ variant_name_of (slice_get vs c.loop-k.k) = search rules in
    sym (none_named_past vs c.args.name.now c.loop-k.k c.loop-k.invariant (no_variant (slice_get vs c.loop-k.k) none))

pub returns-then-eq : goal.returns-then-eq
returns-then-eq c =
    let vs : List MVariant = variants_of (table_program c.args.self.now) (table_type c.args.self.now c.args.ty) in
    let named : Some c.in-Some.other.now ≡ variant_name_of (slice_get vs c.loop-k.k) = search rules in
    let same : bytes_eq c.args.name.now c.in-Some.other.now ≡ true = search rules in
    sym (first_named vs c.args.name.now c.in-Some.other.now c.loop-k.k c.loop-k.invariant named same)

pub returns : goal.returns
returns c =
    let vs : List MVariant = variants_of (table_program c.args.self.now) (table_type c.args.self.now c.args.ty) in
    let few : length vs < 4294967296 = variants_few c.args.self.now (table_type c.args.self.now c.args.ty) in
    sym (none_named_few vs c.args.name.now c.loop-k.k c.loop-k.invariant (omega (arith, few)))
