-- What is left of rows is listed, as the code does it.
use Rattle.std.proofs.Common.{◌≡◌, ℕ, suc, ◌+◌, Bool, true, false, List, [], ◌∷◌, ◌++◌, filter, length, take, drop, refl, ap, sym, subst, ◌∙◌, arith}
use Rattle.std.proofs.lemmas.List.{map-append, length-map}
use Rattle.std.specs.List.{All, list_any}
use Rattle.match_model.specs.Values.{MValue}
use Rattle.match_model.specs.Constructors.{MCtor}
use Rattle.match_model.specs.Contexts.{Context, Open}
use Rattle.match_model.specs.Rows.{parts_open, part_open}
use Rattle.pat_context.specs.Parts.{AreValues}
use Rattle.pattern_matrix.specs.Sparse.{SparseLeaf, columns_from, head_has, leaf_parts, AreOthers, Lacks}
use Rattle.pattern_matrix.specs.Counting.{Question}
use Rattle.pattern_matrix.specs.Searching.{Submatrix, StandFor}
use Rattle.pattern_matrix.proofs.Places.{length-below}
use Rattle.usefulness.specs.declared.frames.OpenColumn.{OpenColumn}
use Rattle.usefulness.specs.declared.frames.Listing.{Listing}
use Rattle.usefulness.specs.declared.frames.Apart.{Apart}
use Rattle.usefulness.specs.declared.frames.Reached.{Reached}
use Rattle.usefulness.specs.Children.{dropped, opened}
use Rattle.usefulness.specs.Cutting.{AreEnough}
use Rattle.usefulness.specs.Frames.{SparseAsked, asked_views, numbers, places, sub_view, subs_of, AreOpen}
use Rattle.usefulness.specs.Scope.{Scope}
use Rattle.usefulness.specs.Listing.{IsListing, IsListedAs}
use Rattle.usefulness.specs.States.{plain_open, plain_opens, plain_askeds, IsApart, IsListed, IsEnterable, apart_rows, apart_leaves, apart_place, other_numbers, other_places, wild_view, piece_view, is_noted}
use Rattle.usefulness.proofs.Entered.{left_is, entered_is}
use Rattle.usefulness.proofs.Listed.{listing_begins, listing_ends}
use Rattle.usefulness.proofs.Looking.{stood_listed}
use Rattle.usefulness.proofs.RowFacts.{rows_below, parts_open_too}

lacks_of : (column next : ℕ) (others : List ℕ) → AreOthers column next others → Lacks column others
lacks_of column next others a = λ k d l. (a k d l).1

module _ {T : Type 0} (IsValue : T → Bool → MValue → Type 0) (scope : Scope T) (a : Apart T) (apart : IsApart scope a) (old : Question → Bool) where
  -- the rows of a piece
  module _ (cx : Context T) (piece : MCtor) (missing : Bool) (enter : IsEnterable IsValue cx a piece) (opens : List (ℕ × Open T))
      (numbered : numbers opens ≡ columns_from a.next (cx.arity piece a.taken.column.ty)) (placed : places opens ≡ parts_open cx (apart_place a) piece) where
    abbrev count : ℕ
    count = cx.arity piece a.taken.column.ty

    abbrev shown : List (ℕ × Open T)
    shown = opens ++ plain_opens a.others.items

    abbrev having : List (SparseLeaf T)
    having = filter (λ h. head_has piece h.head) (apart_leaves a)

    abbrev rows_of_leaves : List (SparseLeaf T) → List (SparseAsked T)
    rows_of_leaves ls = opened missing a.taken.number a.next count (apart_rows a) ls

    shown_numbers : numbers shown ≡ columns_from a.next count ++ other_numbers a
    shown_numbers = map-append (λ (p : ℕ × Open T). p.0) opens (plain_opens a.others.items) ∙ ap (λ ns. ns ++ other_numbers a) numbered

    shown_places : places shown ≡ parts_open cx (apart_place a) piece ++ other_places a
    shown_places = map-append (λ (p : ℕ × Open T). p.1) opens (plain_opens a.others.items) ∙ ap (λ ps. ps ++ other_places a) placed

    shown_same : sub_view shown (rows_of_leaves having) ≡ piece_view cx a missing piece
    shown_same =
        ap (λ ls. sub_view shown (opened missing a.taken.number a.next count (apart_rows a) (filter (λ h. head_has piece h.head) ls))) apart.leaves
        ∙ entered_is (plain_open a.taken) (plain_opens a.others.items) (apart_rows a) cx piece opens a.next missing apart.others numbered placed
        (rows_below scope a.next a.taken.number (other_numbers a) (apart_rows a) apart.number apart.columns apart.rows)
        (subst (All (λ h. head_has piece h.head ≡ true → length (leaf_parts count h.head) ≡ count)) apart.leaves enter.long)

    some_shown : (vs : List MValue) × AreValues IsValue (places shown) vs
    some_shown = (enter.some.0, subst (λ ps. AreValues IsValue ps enter.some.0) (sym shown_places) enter.some.1)

    -- leaves that are enough were listed, and so was the piece
    stood : (now : Question → Bool) (some : List (SparseLeaf T)) (new : List (Submatrix T)) →
        StandFor old (length (columns_from a.next count ++ other_numbers a)) (asked_views (columns_from a.next count ++ other_numbers a) (rows_of_leaves having)) (asked_views (columns_from a.next count ++ other_numbers a) (rows_of_leaves some)) →
        IsListedAs IsValue old now (sub_view shown (rows_of_leaves some)) new → IsListedAs IsValue old now (piece_view cx a missing piece) new
    stood now some new d l =
        subst (λ s. IsListedAs IsValue old now s new) shown_same
        (stood_listed IsValue old now (places shown) (asked_views (numbers shown) (rows_of_leaves having)) (asked_views (numbers shown) (rows_of_leaves some)) new
        (subst (λ n. StandFor old n (asked_views (numbers shown) (rows_of_leaves having)) (asked_views (numbers shown) (rows_of_leaves some)))
        (length-map shown (λ (o : ℕ × Open T). o.0) ∙ sym (length-map shown (λ (o : ℕ × Open T). o.1)))
        (subst (λ ns. StandFor old (length ns) (asked_views ns (rows_of_leaves having)) (asked_views ns (rows_of_leaves some))) (sym shown_numbers) d)) l)

    -- nothing is left of a piece for which no leaf is enough
    pub none_enough : StandFor old (length (columns_from a.next count ++ other_numbers a)) (asked_views (columns_from a.next count ++ other_numbers a) (rows_of_leaves having)) [] → IsListedAs IsValue old old (piece_view cx a missing piece) []
    none_enough d = stood old [] [] d (listing_ends IsValue old old shown [] [] some_shown false 0 (listing_begins old (numbers shown)) refl)

module _ {T : Type 0} (IsValue : T → Bool → MValue → Type 0) (scope : Scope T) (a : Apart T) (apart : IsApart scope a) (old : Question → Bool) (m : Reached T) (l : Listing T) where
  -- the rows that are wild at the column
  pub wild_listed : (columns : List (OpenColumn T)) (new : List (Submatrix T)) → columns ≡ a.others.items → new ≡ subs_of (plain_opens columns) (take l.end (plain_askeds l.rows.items)) →
      IsListed scope old m (other_numbers a) (dropped a.taken.number (apart_rows a) (apart_leaves a)) l → (vs : List MValue) × AreValues IsValue (other_places a) vs →
      IsListedAs IsValue old (is_noted m) (wild_view a) new
  wild_listed columns new e f i some =
      let kept = plain_askeds l.rows.items in
      let others = plain_opens a.others.items in
      let through = dropped a.taken.number (apart_rows a) (apart_leaves a) in
      let same : sub_view others through ≡ wild_view a =
      ap (λ ls. sub_view others (dropped a.taken.number (apart_rows a) ls)) apart.leaves
      ∙ left_is (plain_open a.taken) others (apart_rows a) (lacks_of a.taken.number a.next (other_numbers a) apart.others) in
      subst (IsListedAs IsValue old (is_noted m) (wild_view a)) (sym (f ∙ ap (λ cs. subs_of (plain_opens cs) (take l.end kept)) e))
      (subst (λ s. IsListedAs IsValue old (is_noted m) s (subs_of others (take l.end kept))) same
      (listing_ends IsValue old (is_noted m) others through kept some l.closed l.end i.listed i.kept.end))

  module _ (cx : Context T) (piece : MCtor) (missing : Bool) (enter : IsEnterable IsValue cx a piece) (parts : List (OpenColumn T))
      (numbered : numbers (plain_opens parts) ≡ columns_from a.next (cx.arity piece a.taken.column.ty)) (placed : places (plain_opens parts) ≡ parts_open cx (apart_place a) piece) where
    pub piece_listed : (columns : List (OpenColumn T)) (new : List (Submatrix T)) (some : List (SparseLeaf T)) → columns ≡ parts ++ a.others.items → new ≡ subs_of (plain_opens columns) (take l.end (plain_askeds l.rows.items)) →
        StandFor old (length (columns_from a.next (cx.arity piece a.taken.column.ty) ++ other_numbers a))
        (asked_views (columns_from a.next (cx.arity piece a.taken.column.ty) ++ other_numbers a) (opened missing a.taken.number a.next (cx.arity piece a.taken.column.ty) (apart_rows a) (filter (λ h. head_has piece h.head) (apart_leaves a))))
        (asked_views (columns_from a.next (cx.arity piece a.taken.column.ty) ++ other_numbers a) (opened missing a.taken.number a.next (cx.arity piece a.taken.column.ty) (apart_rows a) some)) →
        IsListed scope old m (columns_from a.next (cx.arity piece a.taken.column.ty) ++ other_numbers a) (opened missing a.taken.number a.next (cx.arity piece a.taken.column.ty) (apart_rows a) some) l →
        IsListedAs IsValue old (is_noted m) (piece_view cx a missing piece) new
    piece_listed columns new some e f d i =
        let kept = plain_askeds l.rows.items in
        let opens = plain_opens parts in
        let shown_all = shown IsValue scope a apart old cx piece missing enter opens numbered placed in
        let through = opened missing a.taken.number a.next (cx.arity piece a.taken.column.ty) (apart_rows a) some in
        let cols : plain_opens columns ≡ shown_all = ap plain_opens e ∙ map-append plain_open parts a.others.items in
        subst (IsListedAs IsValue old (is_noted m) (piece_view cx a missing piece)) (sym (f ∙ ap (λ cs. subs_of cs (take l.end kept)) cols))
        (stood IsValue scope a apart old cx piece missing enter opens numbered placed (is_noted m) some (subs_of shown_all (take l.end kept)) d
        (listing_ends IsValue old (is_noted m) shown_all through kept (some_shown IsValue scope a apart old cx piece missing enter opens numbered placed) l.closed l.end
        (subst (λ ns. IsListing old (is_noted m) ns through kept l.closed) (sym (shown_numbers IsValue scope a apart old cx piece missing enter opens numbered placed)) i.listed) i.kept.end))

    pub columns_same : (columns : List (OpenColumn T)) → columns ≡ parts ++ a.others.items → numbers (plain_opens columns) ≡ columns_from a.next (cx.arity piece a.taken.column.ty) ++ other_numbers a
    columns_same columns e = ap (λ cs. numbers (plain_opens cs)) e ∙ ap numbers (map-append plain_open parts a.others.items) ∙ shown_numbers IsValue scope a apart old cx piece missing enter (plain_opens parts) numbered placed

    pub columns_open : (columns : List (OpenColumn T)) → columns ≡ parts ++ a.others.items → AreOpen (a.next + cx.arity piece a.taken.column.ty) (numbers (plain_opens columns))
    columns_open columns e =
        subst (AreOpen (a.next + cx.arity piece a.taken.column.ty)) (sym (columns_same columns e))
        (parts_open_too a.next (cx.arity piece a.taken.column.ty) (a.next + cx.arity piece a.taken.column.ty) a.next (other_numbers a) (omega arith) (omega arith) apart.columns)

-- places with numbers
abbrev numbered_from : {T : Type 0} → ℕ → List (Open T) → List (ℕ × Open T)
numbered_from n [] = []
numbered_from n (o ∷ os) = (n, o) ∷ numbered_from (suc n) os

numbers_from : {T : Type 0} (n : ℕ) (os : List (Open T)) → numbers (numbered_from n os) ≡ columns_from n (length os)
numbers_from n [] = refl
numbers_from n (o ∷ os) = ap (λ ns. n ∷ ns) (numbers_from (suc n) os)

places_from : {T : Type 0} (n : ℕ) (os : List (Open T)) → places (numbered_from n os) ≡ os
places_from n [] = refl
places_from n (o ∷ os) = ap (λ ps. o ∷ ps) (places_from (suc n) os)

-- a piece of which nothing new comes was listed, though none of its columns was opened
pub nothing_listed : {T : Type 0} (IsValue : T → Bool → MValue → Type 0) (scope : Scope T) (a : Apart T) → IsApart scope a → (m : Question → Bool) (cx : Context T) (piece : MCtor) (missing : Bool) →
    IsEnterable IsValue cx a piece → AreEnough m missing a (filter (λ h. head_has piece h.head) (apart_leaves a)) [] → IsListedAs IsValue m m (piece_view cx a missing piece) []
nothing_listed IsValue scope a apart m cx piece missing enter enough =
    let os = parts_open cx (apart_place a) piece in
    let count = cx.arity piece a.taken.column.ty in
    none_enough IsValue scope a apart m cx piece missing enter (numbered_from a.next os) (numbers_from a.next os ∙ ap (columns_from a.next) (length-below (part_open cx (apart_place a) piece) count)) (places_from a.next os) (enough count)

-- a piece of whose leaves no row stays was listed, though none of its columns was opened
pub none_stays : {T : Type 0} (IsValue : T → Bool → MValue → Type 0) (scope : Scope T) (a : Apart T) → IsApart scope a → (old now : Question → Bool) (kept : List (SparseAsked T)) (closed : Bool) (end : ℕ) (cx : Context T) (piece : MCtor) (missing : Bool) →
    IsEnterable IsValue cx a piece → (some : List (SparseLeaf T)) → end ≡ 0 → list_any (λ (x : SparseAsked T). x.wanted) (drop end kept) ≡ false →
    StandFor old (length (columns_from a.next (cx.arity piece a.taken.column.ty) ++ other_numbers a))
    (asked_views (columns_from a.next (cx.arity piece a.taken.column.ty) ++ other_numbers a) (opened missing a.taken.number a.next (cx.arity piece a.taken.column.ty) (apart_rows a) (filter (λ h. head_has piece h.head) (apart_leaves a))))
    (asked_views (columns_from a.next (cx.arity piece a.taken.column.ty) ++ other_numbers a) (opened missing a.taken.number a.next (cx.arity piece a.taken.column.ty) (apart_rows a) some)) →
    IsListing old now (columns_from a.next (cx.arity piece a.taken.column.ty) ++ other_numbers a) (opened missing a.taken.number a.next (cx.arity piece a.taken.column.ty) (apart_rows a) some) kept closed →
    IsListedAs IsValue old now (piece_view cx a missing piece) []
none_stays IsValue scope a apart old now kept closed end cx piece missing enter some none unwanted d l =
    let os = parts_open cx (apart_place a) piece in
    let count = cx.arity piece a.taken.column.ty in
    let opens = numbered_from a.next os in
    let numbered = numbers_from a.next os ∙ ap (columns_from a.next) (length-below (part_open cx (apart_place a) piece) count) in
    let placed = places_from a.next os in
    let through = opened missing a.taken.number a.next count (apart_rows a) some in
    let shown_all = shown IsValue scope a apart old cx piece missing enter opens numbered placed in
    stood IsValue scope a apart old cx piece missing enter opens numbered placed now some [] d
    (subst (λ n. IsListedAs IsValue old now (sub_view shown_all through) (subs_of shown_all (take n kept))) none
    (listing_ends IsValue old now shown_all through kept (some_shown IsValue scope a apart old cx piece missing enter opens numbered placed) closed end
    (subst (λ ns. IsListing old now ns through kept closed) (sym (shown_numbers IsValue scope a apart old cx piece missing enter opens numbered placed)) l) unwanted))

-- the same of rows that were listed
pub piece_over : {T : Type 0} (IsValue : T → Bool → MValue → Type 0) (scope : Scope T) (a : Apart T) → IsApart scope a → (old : Question → Bool) (m : Reached T) (l : Listing T) (cx : Context T) (piece : MCtor) (missing : Bool) →
    IsEnterable IsValue cx a piece → (some : List (SparseLeaf T)) → l.end ≡ 0 →
    StandFor old (length (columns_from a.next (cx.arity piece a.taken.column.ty) ++ other_numbers a))
    (asked_views (columns_from a.next (cx.arity piece a.taken.column.ty) ++ other_numbers a) (opened missing a.taken.number a.next (cx.arity piece a.taken.column.ty) (apart_rows a) (filter (λ h. head_has piece h.head) (apart_leaves a))))
    (asked_views (columns_from a.next (cx.arity piece a.taken.column.ty) ++ other_numbers a) (opened missing a.taken.number a.next (cx.arity piece a.taken.column.ty) (apart_rows a) some)) →
    IsListed scope old m (columns_from a.next (cx.arity piece a.taken.column.ty) ++ other_numbers a) (opened missing a.taken.number a.next (cx.arity piece a.taken.column.ty) (apart_rows a) some) l →
    IsListedAs IsValue old (is_noted m) (piece_view cx a missing piece) []
piece_over IsValue scope a apart old m l cx piece missing enter some none d i =
    none_stays IsValue scope a apart old (is_noted m) (plain_askeds l.rows.items) l.closed l.end cx piece missing enter some none i.kept.end d i.listed
