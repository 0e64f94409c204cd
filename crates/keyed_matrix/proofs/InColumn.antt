-- What stands in a column.
use denote.Bor.{Bor}
use Rattle.std.proofs.Common.{◌≡◌, ℕ, zero, suc, true, List, [], ◌∷◌, ◌++◌, drop, ap, sym, ◌∙◌, Some, None, slice_get, append-nil}
use Rattle.std.specs.Option.{option_to_list}
use Rattle.match_model.specs.Constructors.{MCtor}
use Rattle.match_model.specs.Rows.{Head, is_wild, is_wild_ctor, starts_wild, first_ctor, ctor_unless_wild}
use Rattle.pattern_arena.specs.declared.pattern.DePat.{DePat}
use Rattle.pattern_arena.specs.Trees.{tree, placed_ctor}
use Rattle.pattern_arena.proofs.TreeFacts.{tree_out}
use Rattle.keyed_matrix.specs.declared.rows.KeyedRow.{KeyedRow}
use Rattle.keyed_matrix.specs.Views.{plain_row}

-- the rest of the heads from the column on
pub heads-from : {T : Type 0} (hs : List (Head T)) (i : ℕ) (h : Head T) → slice_get hs i ≡ Some h →
    drop i hs ≡ h ∷ drop (suc i) hs
heads-from [] i h e = cc
heads-from (x ∷ hs) zero h e = let s : x ≡ h = cc in ap (λ y. y ∷ hs) s
heads-from (x ∷ hs) (suc i) h e = heads-from hs i h e

pub wild-none : {T : Type 0} (row : KeyedRow T) (i : ℕ) → slice_get (plain_row row).heads i ≡ Some None →
    true ≡ starts_wild (drop i (plain_row row).heads)
wild-none row i e = sym (ap starts_wild (heads-from (plain_row row).heads i None e))

pub wild-some : {T : Type 0} (row : KeyedRow T) (i : ℕ) (p : Bor (DePat T)) →
    slice_get (plain_row row).heads i ≡ Some (Some (tree p.now)) →
    is_wild_ctor (placed_ctor p.now) ≡ starts_wild (drop i (plain_row row).heads)
wild-some row i p e =
    sym (ap starts_wild (heads-from (plain_row row).heads i (Some (tree p.now)) e)
    ∙ ap (λ q. is_wild (Some q)) (tree_out p.now))

pub ctor-none : {T : Type 0} (row : KeyedRow T) (i : ℕ) (ctors : List MCtor) →
    slice_get (plain_row row).heads i ≡ Some None →
    ctors ≡ ctors ++ option_to_list (first_ctor (drop i (plain_row row).heads))
ctor-none row i ctors e =
    sym (append-nil ctors)
    ∙ ap (λ hs. ctors ++ option_to_list (first_ctor hs)) (sym (heads-from (plain_row row).heads i None e))

pub ctor-some : {T : Type 0} (row : KeyedRow T) (i : ℕ) (p : Bor (DePat T)) →
    slice_get (plain_row row).heads i ≡ Some (Some (tree p.now)) →
    first_ctor (drop i (plain_row row).heads) ≡ ctor_unless_wild (placed_ctor p.now)
ctor-some row i p e =
    ap first_ctor (heads-from (plain_row row).heads i (Some (tree p.now)) e)
    ∙ ap (λ q. first_ctor (Some q ∷ drop (suc i) (plain_row row).heads)) (tree_out p.now)
