-- The forms of patterns as their variants show them.
use Rattle.std.proofs.Common.{◌≡◌, Bool, map, Option, Some, None, option_map, Vec, Global, rules}
use Rattle.std.specs.Rc.{rc_str_bytes}
use Rattle.std.specs.declared.rc.RcStr.{RcStr}
use Rattle.std.specs.Global.{Box}
use Rattle.decl_syntax.specs.declared.tree.Path as declared_path
use Rattle.decl_syntax.specs.declared.tree.Lit.{Lit}
use Rattle.decl_syntax.specs.declared.tree.RangePat as declared_range
use Rattle.decl_syntax.specs.declared.tree.Pat.{Pat}
use Rattle.decl_syntax.specs.declared.tree.FieldPat.{FieldPat}
use Rattle.decl_syntax.specs.declared.tree.PatKind.{the_lemmas}
use Rattle.decl_syntax.specs.declared.tree.PatKind.TheVariants as kinds
use Rattle.decl_syntax.specs.Patterns.{Wild, Rest, Literal, Name, Path, TupleForm, Brace, Tuple, Group, Slice, Point, Range, Or, bind_shape, lit_view, path_view, pattern_view, field_view, shape_view, patterns_from, fields_from}

pub shape_wild : shape_view kinds.Wild ≡ Wild
shape_wild = search (rules, the_lemmas)

pub shape_rest : shape_view kinds.Rest ≡ Rest
shape_rest = search (rules, the_lemmas)

pub shape_lit : (l : Lit) → shape_view (kinds.Lit l) ≡ Literal (lit_view l)
shape_lit l = search (rules, the_lemmas)

pub shape_name : (name : RcStr Global) → shape_view (kinds.Name name) ≡ Name (rc_str_bytes name)
shape_name name = search (rules, the_lemmas)

pub shape_bind : (name : RcStr Global) (by_ref mutable : Bool) (sub : Option (Box Pat)) →
    shape_view (kinds.Bind name by_ref mutable sub) ≡ bind_shape (rc_str_bytes name) by_ref mutable (option_map (λ b. pattern_view b.value) sub)
shape_bind name by_ref mutable None = search (rules, the_lemmas)
shape_bind name by_ref mutable (Some b) = search (rules, the_lemmas)

pub shape_path : (path : declared_path.Path) → shape_view (kinds.Path path) ≡ Path (path_view path)
shape_path path = search (rules, the_lemmas)

pub shape_form : (path : Box declared_path.Path) (items : Vec Pat Global) → shape_view (kinds.TupleForm path items) ≡ TupleForm (path_view path.value) (patterns_from (map pattern_view items.items))
shape_form path items = search (rules, the_lemmas)

pub shape_brace : (path : Box declared_path.Path) (fields : Vec FieldPat Global) (rest : Bool) →
    shape_view (kinds.Brace path fields rest) ≡ Brace (path_view path.value) (fields_from (map field_view fields.items)) rest
shape_brace path fields rest = search (rules, the_lemmas)

pub shape_tuple : (items : Vec Pat Global) → shape_view (kinds.Tuple items) ≡ Tuple (patterns_from (map pattern_view items.items))
shape_tuple items = search (rules, the_lemmas)

pub shape_group : (inner : Box Pat) → shape_view (kinds.Group inner) ≡ Group (pattern_view inner.value)
shape_group inner = search (rules, the_lemmas)

pub shape_slice : (items : Vec Pat Global) → shape_view (kinds.Slice items) ≡ Slice (patterns_from (map pattern_view items.items))
shape_slice items = search (rules, the_lemmas)

pub shape_point : (mutable : Bool) (inner : Box Pat) → shape_view (kinds.Point mutable inner) ≡ Point mutable (pattern_view inner.value)
shape_point mutable inner = search (rules, the_lemmas)

pub shape_range : (range : Box declared_range.RangePat) →
    shape_view (kinds.Range range) ≡ Range (option_map lit_view range.value.low) (option_map lit_view range.value.high) range.value.closed
shape_range range = search (rules, the_lemmas)

pub shape_or : (all : Vec Pat Global) → shape_view (kinds.Or all) ≡ Or (patterns_from (map pattern_view all.items))
shape_or all = search (rules, the_lemmas)
