-- The steps of a matrix do to the heads of its rows what the steps of rows of heads do.
use Rattle.std.proofs.Common.{◌≡◌, ℕ, List, [], ◌∷◌, ◌++◌, map, Some, None, refl, ap, ◌∙◌}
use Rattle.std.specs.List.{flat_map}
use Rattle.std.proofs.lemmas.List.{map-append}
use Rattle.match_model.specs.Constructors.{MCtor}
use Rattle.match_model.specs.Contexts.{Context, Open}
use Rattle.match_model.specs.Trees.{MBind}
use Rattle.match_model.specs.Places.{MStep}
use Rattle.match_model.specs.Rows.{Head, Choice, choices_of, expand_row, specialised_heads, all_specialised, parts_open, part_open}
use Rattle.match_model.specs.Matrices.{MColumn, MRow, row_with, bind_at, expand_first, expand_rows, specialised_rows, first_binds, open_of, part_columns, column_at, part_step}
use Rattle.slice_split.proofs.Below.{map-each_below}
use Rattle.pattern_matrix.specs.HeadRows.{opens, all_heads}

-- expanding

expand_heads : {T : Type 0} (place : List MStep) (r : MRow T) (hs : List (Head T)) → r.heads ≡ hs →
    all_heads (expand_first place r hs) ≡ expand_row hs
expand_heads place r [] e = ap (λ x. x ∷ []) e
expand_heads place r (None ∷ rest) e = ap (λ x. x ∷ []) e
expand_heads {T = T} place r (Some p ∷ rest) e = go (choices_of p)
  where
    go : (cs : List (Choice T)) →
        all_heads (map (λ c. row_with r (Some c.pat ∷ rest) c.chosen (map (bind_at place) c.binds)) cs) ≡ map (λ c. Some c.pat ∷ rest) cs
    go [] = refl
    go (c ∷ cs) = ap (λ xs. (Some c.pat ∷ rest) ∷ xs) (go cs)

pub expand_all : {T : Type 0} (place : List MStep) (rows : List (MRow T)) →
    all_heads (expand_rows place rows) ≡ flat_map expand_row (all_heads rows)
expand_all place [] = refl
expand_all place (r ∷ rows) =
    map-append (λ x. x.heads) (expand_first place r r.heads) (expand_rows place rows)
    ∙ ap (λ xs. xs ++ all_heads (expand_rows place rows)) (expand_heads place r r.heads refl)
    ∙ ap (λ xs. expand_row r.heads ++ xs) (expand_all place rows)

-- specialising

with_heads_all : {T : Type 0} (r : MRow T) (caught : List MBind) (hss : List (List (Head T))) →
    all_heads (map (λ hs. row_with r hs [] caught) hss) ≡ hss
with_heads_all r caught [] = refl
with_heads_all r caught (hs ∷ hss) = ap (λ xs. hs ∷ xs) (with_heads_all r caught hss)

pub special_all : {T : Type 0} (place : List MStep) (piece : MCtor) (n : ℕ) (rows : List (MRow T)) →
    all_heads (specialised_rows place piece n rows) ≡ all_specialised piece n (all_heads rows)
special_all place piece n [] = refl
special_all place piece n (r ∷ rows) =
    map-append (λ x. x.heads) (map (λ hs. row_with r hs [] (first_binds place r.heads)) (specialised_heads piece n r.heads)) (specialised_rows place piece n rows)
    ∙ ap (λ xs. xs ++ all_heads (specialised_rows place piece n rows)) (with_heads_all r (first_binds place r.heads) (specialised_heads piece n r.heads))
    ∙ ap (λ xs. specialised_heads piece n r.heads ++ xs) (special_all place piece n rows)

-- columns

open_at : {T : Type 0} (place : List MStep) (o : Open T) → open_of (column_at place o) ≡ o
open_at place o = refl

pub opens_parts : {T : Type 0} (cx : Context T) (c : MColumn T) (columns : List (MColumn T)) (piece : MCtor) →
    opens (part_columns cx c piece ++ columns) ≡ parts_open cx (open_of c) piece ++ opens columns
opens_parts {T = T} cx c columns piece =
    map-append open_of (part_columns cx c piece) columns
    ∙ ap (λ xs. xs ++ opens columns) (map-each_below {A = MColumn T} {B = Open T} open_of (λ i. column_at (c.place ++ part_step piece i ∷ []) (part_open cx (open_of c) piece i)) (cx.arity piece c.type))
