-- What is left of a submatrix, as its rows say it.
use Rattle.std.proofs.Common.{◌≡◌, ℕ, Bool, true, List, [], ◌∷◌, ◌++◌, filter, length, Some, ap, ◌∙◌, slice_get}
use Rattle.std.proofs.lemmas.List.{map-append}
use Rattle.std.specs.List.{All}
use Rattle.match_model.specs.Constructors.{MCtor}
use Rattle.match_model.specs.Contexts.{Context, Open}
use Rattle.match_model.specs.Rows.{parts_open}
use Rattle.match_model.specs.Steps.{default_head, specialise_head}
use Rattle.pattern_matrix.specs.Sparse.{SparseLeaf, leaf_parts, head_has, columns_from, AreHeadsBelow, AreOthers, Lacks}
use Rattle.pattern_matrix.specs.Spreading.{all_apart}
use Rattle.pattern_matrix.specs.Counting.{WantedRow, wanted_at}
use Rattle.pattern_matrix.specs.Searching.{left_over, entered, apart as taken_apart}
use Rattle.usefulness.specs.Frames.{SparseAsked, asked_views, rows_of, numbers, places, sub_view}
use Rattle.usefulness.specs.Children.{bare_rows, bare_sub, dropped, opened, settled_if}
use Rattle.usefulness.proofs.Leaves.{leaves_apart}
use Rattle.usefulness.proofs.ChildRows.{dropped_is, opened_is}
use Rattle.usefulness.proofs.Commute.{bare_default, bare_special, bare_settled}

module _ {T : Type 0} (o : ℕ × Open T) (others : List (ℕ × Open T)) (xs : List (SparseAsked T)) where
  abbrev rows : List (WantedRow T)
  rows = taken_apart (asked_views (o.0 ∷ numbers others) xs)

  abbrev leaves : List (SparseLeaf T)
  leaves = all_apart o.0 0 (rows_of xs)

  pub left_is : Lacks o.0 (numbers others) → sub_view others (dropped o.0 xs leaves) ≡ bare_sub (left_over (places others) rows)
  left_is lacks =
      ap (λ ys. record { places = places others; rows = ys })
      (dropped_is o.0 (numbers others) lacks xs leaves
      ∙ ap (λ ys. bare_rows (wanted_at default_head [] 0 ys)) (leaves_apart o.0 (numbers others) xs)
      ∙ bare_default rows)

  pub entered_is : (cx : Context T) (piece : MCtor) (parts : List (ℕ × Open T)) (first : ℕ) (missing : Bool) → AreOthers o.0 first (numbers others) →
      numbers parts ≡ columns_from first (cx.arity piece o.1.type) → places parts ≡ parts_open cx o.1 piece →
      ((k : ℕ) (x : SparseAsked T) → slice_get xs k ≡ Some x → AreHeadsBelow first x.row.heads) →
      All (λ l. head_has piece l.head ≡ true → length (leaf_parts (cx.arity piece o.1.type) l.head) ≡ cx.arity piece o.1.type) leaves →
      sub_view (parts ++ others) (opened missing o.0 first (cx.arity piece o.1.type) xs (filter (λ l. head_has piece l.head) leaves))
      ≡ bare_sub (entered cx o.1 (places others) (settled_if missing rows) piece)
  entered_is cx piece parts first missing are e f below long =
      let count = cx.arity piece o.1.type in
      let ys = opened missing o.0 first count xs (filter (λ l. head_has piece l.head) leaves) in
      ap (λ ps. record { places = ps; rows = asked_views (numbers (parts ++ others)) ys }) (map-append (λ (p : ℕ × Open T). p.1) parts others ∙ ap (λ ps. ps ++ places others) f)
      ∙ ap (λ ns. record { places = parts_open cx o.1 piece ++ places others; rows = asked_views ns ys }) (map-append (λ (p : ℕ × Open T). p.0) parts others ∙ ap (λ ns. ns ++ numbers others) e)
      ∙ ap (λ zs. record { places = parts_open cx o.1 piece ++ places others; rows = zs })
      (opened_is piece o.0 first count (numbers others) are missing xs leaves below long
      ∙ ap (λ zs. bare_rows (wanted_at (specialise_head piece count) [] 0 (settled_if missing zs))) (leaves_apart o.0 (numbers others) xs)
      ∙ ap (λ zs. bare_rows (wanted_at (specialise_head piece count) [] 0 zs)) (bare_settled missing rows)
      ∙ bare_special piece count (settled_if missing rows))
