-- Lists of code as plain lists.
use Rattle.std.proofs.Common.{◌≡◌, ◌<◌, ℕ, eqb, refl, List, [], ◌∷◌, ◌++◌, map, length, reverse, sym, ap, ◌∙◌, arith}
use Rattle.std.specs.List.{All}
use Rattle.std.proofs.lemmas.List.{length-map, reverse-append, length-reverse}
use Rattle.std.proofs.lemmas.List.Elements.{All-cons, All-nil, All-head, All-tail}
use Rattle.std.proofs.lemmas.Bool.Decides.{nat_tests}
use Rattle.match_model.specs.Constructors.{MCtor}
use Rattle.match_model.specs.Contexts.{Context, Open}
use Rattle.match_model.specs.Match.{is_empty_list}
use Rattle.match_model.specs.Rows.{part_open, parts_open}
use Rattle.pattern_matrix.specs.Columns.{plain_column, plain_columns}
use Rattle.pattern_matrix.specs.Views.{plain_head, plain_heads, plain_leaf, plain_leaves, plain_row, plain_rows}
use Rattle.pattern_matrix.specs.declared.rows.Column.{Column}
use Rattle.pattern_matrix.specs.declared.rows.Head.{Head}
use Rattle.pattern_matrix.specs.declared.rows.Leaf.{Leaf}
use Rattle.pattern_matrix.specs.declared.rows.Row.{Row}
use Rattle.pattern_matrix.proofs.Places.{length-below}
use Rattle.witness_search.specs.Opened.{places_of, numbers_of}
use Rattle.witness_search.specs.declared.opened.Opened.{Opened}

pub places-last : {T : Type 0} (opened : List (Opened T)) (o : Opened T) → places_of (opened ++ o ∷ []) ≡ plain_column o.column ∷ places_of opened
places-last opened o = ap (map (λ x. plain_column x.column)) (reverse-append opened (o ∷ []))

pub numbers-last : {T : Type 0} (opened : List (Opened T)) (o : Opened T) → numbers_of (opened ++ o ∷ []) ≡ o.number ∷ numbers_of opened
numbers-last opened o = ap (map (λ x. x.number)) (reverse-append opened (o ∷ []))

pub ruleset last_places = (places-last, numbers-last)

pub places-length : {T : Type 0} (opened : List (Opened T)) → length (places_of opened) ≡ length opened
places-length opened = length-map (reverse opened) (λ x. plain_column x.column) ∙ length-reverse opened

-- as many columns are opened as the piece has parts
pub opened-length : {T : Type 0} (cx : Context T) (o : Open T) (piece : MCtor) (columns old : List (Column T)) → old ≡ [] → plain_columns columns ≡ plain_columns old ++ parts_open cx o piece →
    length columns ≡ cx.arity piece o.type
opened-length cx o piece columns old e h =
    sym (length-map columns plain_column) ∙ ap length (h ∙ ap (λ xs. plain_columns xs ++ parts_open cx o piece) e) ∙ length-below (part_open cx o piece) (cx.arity piece o.type)

pub within_plain : {T : Type 0} (rows : List (Row T)) (leaves : List (Leaf T)) → All (λ l. l.row < length rows) leaves → All (λ l. l.row < length (plain_rows rows)) (plain_leaves leaves)
within_plain rows [] a = All-nil (λ l. l.row < length (plain_rows rows))
within_plain rows (l ∷ leaves) a =
    let here = All-head (λ x. x.row < length rows) l leaves a in
    let long = length-map rows plain_row in
    All-cons (λ x. x.row < length (plain_rows rows)) (plain_leaf l) (plain_leaves leaves) (omega (arith, here, long))
    (within_plain rows leaves (All-tail (λ x. x.row < length rows) l leaves a))

pub within_code : {T : Type 0} (rows : List (Row T)) (leaves : List (Leaf T)) → All (λ l. l.row < length (plain_rows rows)) (plain_leaves leaves) → All (λ l. l.row < length rows) leaves
within_code rows [] a = All-nil (λ l. l.row < length rows)
within_code rows (l ∷ leaves) a =
    let here = All-head (λ x. x.row < length (plain_rows rows)) (plain_leaf l) (plain_leaves leaves) a in
    let long = length-map rows plain_row in
    All-cons (λ x. x.row < length rows) l leaves (omega (arith, here, long))
    (within_code rows leaves (All-tail (λ x. x.row < length (plain_rows rows)) (plain_leaf l) (plain_leaves leaves) a))

-- a length is nothing where a list is empty
pub empty_test : {A B : Type 0} (f : A → B) (n : ℕ) (xs : List A) → n ≡ length xs → eqb n 0 ≡ is_empty_list (map f xs)
empty_test f n [] e = grind (arith, nat_tests)
empty_test f n (x ∷ xs) e = grind (arith, nat_tests)

pub empty-heads : {T : Type 0} (heads : List (Head T)) → eqb (length heads) 0 ≡ is_empty_list (plain_heads heads)
empty-heads heads = empty_test plain_head (length heads) heads refl

pub ruleset empty_lists = empty-heads
