-- No meaning: a reading of patterns from left to right, which laws join to the grammar.
use Rattle.std.specs.Prelude.{ℕ, zero, suc, Bool, true, false, ◌||◌, List, [], ◌∷◌, length, ◌-◌, Option, Some, None, if◌then◌else◌}
use Rattle.std.specs.Rc.{rc_str_bytes}
use Rattle.decl_lexer.specs.declared.marks.Mark.{Mark}
use Rattle.decl_lexer.specs.declared.marks.Mark.TheVariants as marks
use Rattle.decl_lexer.specs.declared.words.Word.TheVariants as words
use Rattle.decl_lexer.specs.Lexing.{Placed}
use Rattle.decl_syntax.specs.declared.pattern.Binding as declared
use Rattle.decl_syntax.specs.Units.{left, behind, is_mark, is_word, flag_at, token_at, name_of, first_passes, from_of}
use Rattle.decl_syntax.specs.Patterns.{PatternTree, At, Shape, Wild, Rest, Literal, Bind, BindAs, TupleForm, Brace, Tuple, Group, Slice, Point, Or, none, more, patterns_from, FieldTree, fields_from, fits}
use Rattle.decl_syntax.specs.EndGrammar.{begins_end}
use Rattle.decl_syntax.specs.EndReading.{path_tree_at, literal_of, negated_of, range_at}
use Rattle.decl_syntax.specs.PatternGrammar.{Binding, path_shape}
use Rattle.decl_syntax.specs.FieldNames.{field_name}
use Rattle.decl_syntax.specs.RunReading.{attributes_at}
use Rattle.decl_syntax.specs.Reading.{◌>>=◌, either, Read, list_at, parts_at}

-- what a caller sees of a binding, and the tokens behind it
abbrev pub binding_view : declared.Binding → Binding × List Placed
binding_view b = (record { by_ref = b.by_ref; mutable = b.mutable; name = rc_str_bytes b.name.now }, left b.rest)

-- `ref`, `mut` and a name
unfoldable pub binding_at : List Placed → Read Binding
binding_at ts =
    let by_ref = flag_at (is_word words.Ref) ts in
    let mutable = flag_at (is_word words.Mut) by_ref.1 in
    token_at name_of mutable.1 >>= λ n. Some (record { by_ref = by_ref.0; mutable = mutable.0; name = n.0 }, n.1)

-- a binding and `@`
unfoldable pub bound_at : List Placed → Read Binding
bound_at ts = binding_at ts >>= λ b. behind (is_mark marks.At) b.1 >>= λ us. Some (b.0, us)

-- a binding with `ref` or `mut`
unfoldable pub marked_at : List Placed → Read Binding
marked_at ts = binding_at ts >>= λ b. if b.0.by_ref || b.0.mutable then Some b else None

-- `..` that no end of a range follows
unfoldable pub rest_at : List Placed → Read PatternTree
rest_at ts = behind (is_mark marks.TwoDots) ts >>= λ us. if first_passes begins_end us then None else Some (At (from_of ts) Rest, us)

-- a range, or else what is no range
abbrev pub alt_at : (List Placed → Read Shape) → List Placed → Read PatternTree
alt_at plain ts = either (range_at ts) (λ x. Some (At (from_of ts) x.0, x.1)) (plain ts >>= λ x. Some (At (from_of ts) x.0, x.1))

-- alternatives as one pattern
abbrev pub or_of : ℕ → List PatternTree → Option PatternTree
or_of from [] = None
or_of from (p ∷ []) = Some p
or_of from (p ∷ q ∷ ps) = Some (At from (Or (more p (more q (patterns_from ps)))))

-- a pattern
abbrev pub whole_at : (List Placed → Read Shape) → List Placed → Read PatternTree
whole_at plain ts =
    let us = (flag_at (is_mark marks.Bar) ts).1 in
    parts_at marks.Bar (alt_at plain) us >>= λ ps. or_of (from_of us) ps.0 >>= λ p. Some (p, ps.1)

-- `..` or a pattern
abbrev pub item_at : (List Placed → Read Shape) → List Placed → Read PatternTree
item_at plain ts = either (rest_at ts) (λ x. Some x) (whole_at plain ts)

-- a binding, `@` and `..`
unfoldable pub bound_rest_at : List Placed → Read PatternTree
bound_rest_at ts = bound_at ts >>= λ b. rest_at b.1 >>= λ r. Some (At (from_of ts) (BindAs b.0.name b.0.by_ref b.0.mutable r.0), r.1)

-- an item of a tuple or of a slice
abbrev pub element_at : Bool → (List Placed → Read Shape) → List Placed → Read PatternTree
element_at true plain ts = either (bound_rest_at ts) (λ x. Some x) (item_at plain ts)
element_at false plain ts = item_at plain ts

-- the mark that closes a slice or a tuple
abbrev pub closing : Bool → Mark
closing true = marks.CloseSquare
closing false = marks.CloseRound

-- the items of a tuple or of a slice
unfoldable pub items_at : Bool → (List Placed → Read Shape) → List Placed → Read (List PatternTree)
items_at square plain ts = list_at (closing square) (element_at square plain) ts

-- the other items of a tuple
abbrev pub tuple_behind : (List Placed → Read Shape) → PatternTree → List Placed → Read Shape
tuple_behind plain first ts = behind (is_mark marks.Comma) ts >>= λ us. items_at false plain us >>= λ xs. Some (Tuple (more first (patterns_from xs.0)), xs.1)

-- behind an opening round bracket
abbrev pub round_pattern : (List Placed → Read Shape) → List Placed → Read Shape
round_pattern plain ts =
    either (behind (is_mark marks.CloseRound) ts) (λ rest. Some (Tuple none, rest))
    (either (rest_at ts) (λ r. either (behind (is_mark marks.CloseRound) r.1) (λ rest. Some (Tuple (more r.0 none), rest)) (tuple_behind plain r.0 r.1))
    (whole_at plain ts >>= λ p. either (behind (is_mark marks.CloseRound) p.1) (λ rest. Some (Group p.0, rest)) (tuple_behind plain p.0 p.1)))

-- behind `&`
abbrev pub point_pattern : (List Placed → Read Shape) → List Placed → Read Shape
point_pattern plain ts =
    let mutable = flag_at (is_word words.Mut) ts in
    plain mutable.1 >>= λ x. Some (Point mutable.0 (At (from_of mutable.1) x.0), x.1)

-- the name of a field and `:`
unfoldable pub label_at : List Placed → Read (List ℕ)
label_at [] = None
label_at (t ∷ ts) = behind (is_mark marks.Colon) ts >>= λ us. field_name t.lexeme (t.to - t.from) >>= λ n. Some (n, us)

-- a field
unfoldable pub field_at : (List Placed → Read Shape) → List Placed → Read FieldTree
field_at plain ts =
    attributes_at ts >>= λ a. either (label_at a.1) (λ l. whole_at plain l.1 >>= λ p. Some (record { name = l.0; short = false; attrs = a.0; pattern = p.0 }, p.1))
    (binding_at a.1 >>= λ b. Some (record { name = b.0.name; short = true; attrs = a.0; pattern = At (from_of a.1) (Bind b.0.name b.0.by_ref b.0.mutable) }, b.1))

-- one field, and what is read behind it
abbrev pub fields_step : (List Placed → Read FieldTree) → (List Placed → Read (List FieldTree × Bool)) → List Placed → Read (List FieldTree × Bool)
fields_step read others ts =
    either (behind (is_mark marks.CloseCurly) ts) (λ rest. Some (([], false), rest))
    (either (behind (is_mark marks.TwoDots) ts) (λ us. behind (is_mark marks.CloseCurly) us >>= λ rest. Some (([], true), rest))
    (read ts >>= λ x. either (behind (is_mark marks.CloseCurly) x.1) (λ rest. Some ((x.0 ∷ [], false), rest))
    (behind (is_mark marks.Comma) x.1 >>= λ us. others us >>= λ xs. Some ((x.0 ∷ xs.0.0, xs.0.1), xs.1))))

-- at most so many steps
abbrev pub field_list : (List Placed → Read FieldTree) → ℕ → List Placed → Read (List FieldTree × Bool)
field_list read zero ts = None
field_list read (suc fuel) ts = fields_step read (field_list read fuel) ts

-- fields up to the mark that closes them, and whether `..` stands before it
unfoldable pub fields_at : (List Placed → Read Shape) → List Placed → Read (List FieldTree × Bool)
fields_at plain ts = field_list (field_at plain) (suc (length ts)) ts

-- a pattern that begins with a path
unfoldable pub path_pattern_at : (List Placed → Read Shape) → List Placed → Read Shape
path_pattern_at plain ts =
    path_tree_at ts >>= λ path. either (behind (is_mark marks.OpenRound) path.1) (λ us. items_at false plain us >>= λ xs. Some (TupleForm path.0 (patterns_from xs.0), xs.1))
    (either (behind (is_mark marks.OpenCurly) path.1) (λ us. fields_at plain us >>= λ fs. Some (Brace path.0 (fields_from fs.0.0) fs.0.1, fs.1))
    (either (behind (is_mark marks.At) path.1) (λ us. None)
    (Some (path_shape path.0, path.1))))

-- a pattern that is no range and no binding, where what is within is read so
abbrev pub unbound_at : (List Placed → Read Shape) → List Placed → Read Shape
unbound_at plain ts =
    either (behind (is_mark marks.Underscore) ts) (λ rest. Some (Wild, rest))
    (either (behind (is_mark marks.OpenRound) ts) (λ us. round_pattern plain us)
    (either (behind (is_mark marks.OpenSquare) ts) (λ us. items_at true plain us >>= λ xs. Some (Slice (patterns_from xs.0), xs.1))
    (either (behind (is_mark marks.Ampersand) ts) (λ us. point_pattern plain us)
    (either (behind (is_mark marks.Minus) ts) (λ us. token_at negated_of us >>= λ x. Some (Literal x.0, x.1))
    (either (token_at literal_of ts) (λ x. Some (Literal x.0, x.1))
    (path_pattern_at plain ts))))))

-- a pattern that is no range
abbrev pub plain_form : (List Placed → Read Shape) → List Placed → Read Shape
plain_form plain ts =
    either (bound_at ts) (λ b. alt_at plain b.1 >>= λ p. Some (BindAs b.0.name b.0.by_ref b.0.mutable p.0, p.1))
    (either (marked_at ts) (λ b. Some (Bind b.0.name b.0.by_ref b.0.mutable, b.1))
    (unbound_at plain ts))

-- the same with at most so many forms around each other
unfoldable pub plain_at : ℕ → List Placed → Read Shape
plain_at zero ts = None
plain_at (suc n) ts = plain_form (plain_at n) ts

-- a pattern of at most 64 levels
unfoldable pub pattern_at : List Placed → Read PatternTree
pattern_at ts = whole_at (plain_at 64) ts >>= λ p. if fits p.0 64 then Some p else None
