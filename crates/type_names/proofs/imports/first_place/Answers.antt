use Rattle.std.proofs.Common.{◌≡◌, true, false, map, rules, sym, arith}
use Rattle.std.specs.Rc.{rc_str_bytes}
use Rattle.std.specs.Str.{bytes_eq}
use Rattle.type_names.proofs.ItemTests.{any_more, any_none, first_found, none_first}
use Rattle.type_names.proofs.imports.first_place.Goals as goal

pub returns-then-eq : goal.returns-then-eq
returns-then-eq c =
    let here : bytes_eq c.args.name.now (rc_str_bytes c.index-names-i.result) ≡ true = search rules in
    first_found rc_str_bytes (bytes_eq c.args.name.now) c.args.names.now c.loop-i.i c.index-names-i.result c.loop-i-test.true c.index-names-i.is c.loop-i.invariant here

pub loop-i-preserved : goal.loop-i-preserved
loop-i-preserved c =
    let other : bytes_eq c.args.name.now (rc_str_bytes c.index-names-i.result) ≡ false = search rules in
    any_more rc_str_bytes (bytes_eq c.args.name.now) c.args.names.now c.loop-i.i c.index-names-i.result c.loop-i-test.true c.index-names-i.is c.loop-i.invariant other

pub returns : goal.returns
returns c =
    sym (none_first (bytes_eq c.args.name.now) (map rc_str_bytes c.args.names.now)
    (sym (any_none rc_str_bytes (bytes_eq c.args.name.now) c.args.names.now c.loop-i.i (omega arith) c.loop-i.invariant)))
