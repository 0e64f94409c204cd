-- A leaf that comes again in a row without a guard is left out.
use Rattle.std.proofs.Common.{◌≡◌, ◌⊎◌, inl, inr, ◌≤◌, ◌<◌, ◌≢◌, ℕ, suc, Bool, true, false, not, ◌&&◌, ◌||◌, nat_eq, List, [], ◌∷◌, ◌++◌, cond, length, Some, None, refl, sym, ap, subst, ◌∙◌, arith, slice_get, append_assoc}
use Rattle.std.proofs.lemmas.Bool.{cases_lt, ne_eqb}
use Rattle.std.proofs.lemmas.List.{map-append}
use Rattle.std.proofs.lemmas.List.Elements.{All-head, All-tail, All-filter}
use Rattle.match_model.specs.ArenaPatterns.{MDePat}
use Rattle.match_model.specs.Rows.{Head, is_wild}
use Rattle.match_model.specs.Values.{MValue}
use Rattle.match_model.proofs.Basics.{both}
use Rattle.constructor_sets.specs.declared.piece.Span.{Span}
use Rattle.pattern_matrix.specs.Covering.{head_takes, row_takes, is_some_there}
use Rattle.pattern_matrix.specs.Sparse.{SparseLeaf, columns_from, head_at, heads_at, listed, without, leaf_parts, AreHeadsBelow}
use Rattle.pattern_matrix.specs.Halving.{span_has}
use Rattle.pattern_matrix.specs.Parts.{plain_spans}
use Rattle.pattern_matrix.specs.Counting.{Question, WantedRow, row_answers, row_stops, has_chosen, heads_pass}
use Rattle.pattern_matrix.specs.Searching.{heads_in, counts_before, IsPart, kept, left_out, no_more, DoFor}
use Rattle.pattern_matrix.proofs.PieceTraces.{wild_trace}
use Rattle.pattern_matrix.proofs.Folds.{head_some}
use Rattle.pattern_matrix.proofs.ListedRows as listing
use Rattle.usefulness.specs.declared.frames.Apart.{Apart}
use Rattle.usefulness.specs.declared.marks.Marks.{Marks}
use Rattle.usefulness.specs.Frames.{SparseAsked}
use Rattle.usefulness.specs.Marking.{is_marked}
use Rattle.usefulness.specs.Scope.{Scope}
use Rattle.usefulness.specs.States.{IsApart, apart_rows, apart_leaves, other_numbers}
use Rattle.usefulness.specs.Cutting.{IsCutSoFar, EndsWhole}
use Rattle.usefulness.proofs.RowFacts.{rows_below}
use Rattle.usefulness.proofs.Enough.{both_do, kept_do}
use Rattle.usefulness.proofs.Cuts.{no_parts, at, view, more_has, more_not, span_covers}

-- ---- a row that stops whatever the row behind it takes does for both

module _ {T : Type 0} (ys : List (WantedRow T)) (x y : WantedRow T) (stops : (vs : List MValue) → row_takes y.row.heads vs ≡ true → row_stops x.row vs ≡ true) where
  none : (w a g k : Bool) → ((w && (a && false)) || (not (not g && false) && k)) ≡ k
  none w a g k = grind arith

  behind : (q : Question) (vs : List MValue) (k t : Bool) → row_takes y.row.heads vs ≡ t → (t ≡ true → row_stops x.row vs ≡ true) →
      counts_before q (x ∷ y ∷ []) vs k ≡ counts_before q (x ∷ []) vs k
  behind q vs k true e f =
      ap (λ b. (x.wanted && row_answers q x.row vs) || (not b && ((y.wanted && row_answers q y.row vs) || (not (row_stops y.row vs) && k)))) (f refl)
      ∙ sym (ap (λ b. (x.wanted && row_answers q x.row vs) || (not b && k)) (f refl))
  behind q vs k false e f =
      ap (λ t. (x.wanted && row_answers q x.row vs) || (not (row_stops x.row vs)
      && ((y.wanted && (nat_eq q.arm y.row.arm && (t && (has_chosen q y.row.chosen || heads_pass y.row.guarded q.id y.row.heads vs)))) || (not (not y.row.guarded && t) && k)))) e
      ∙ ap (λ b. (x.wanted && row_answers q x.row vs) || (not (row_stops x.row vs) && b)) (none y.wanted (nat_eq q.arm y.row.arm) y.row.guarded k)

  same : (q : Question) (vs : List MValue) (k : Bool) → counts_before q ((ys ++ x ∷ []) ++ y ∷ []) vs k ≡ counts_before q (ys ++ x ∷ []) vs k
  same q vs k =
      ap (λ zs. counts_before q zs vs k) (append_assoc ys (x ∷ []) (y ∷ []))
      ∙ listing.before_append q ys (x ∷ y ∷ []) vs k
      ∙ ap (counts_before q ys vs) (behind q vs k (row_takes y.row.heads vs) refl (stops vs))
      ∙ sym (listing.before_append q ys (x ∷ []) vs k)

  heads_behind : (us zs : List (WantedRow T)) → heads_in (us ++ zs) ≡ heads_in us ++ heads_in zs
  heads_behind us zs = map-append (λ (z : WantedRow T). z.row.heads) us zs

  part : IsPart (heads_in (ys ++ x ∷ [])) (heads_in ((ys ++ x ∷ []) ++ y ∷ []))
  part =
      subst (λ zs. IsPart (heads_in (ys ++ x ∷ [])) (heads_in zs)) (sym (append_assoc ys (x ∷ []) (y ∷ [])))
      (subst (IsPart (heads_in (ys ++ x ∷ []))) (sym (heads_behind ys (x ∷ y ∷ [])))
      (subst (λ hs. IsPart hs (heads_in ys ++ x.row.heads ∷ y.row.heads ∷ [])) (sym (heads_behind ys (x ∷ [])))
      (listing.part_append (heads_in ys) (heads_in ys) (x.row.heads ∷ []) (x.row.heads ∷ y.row.heads ∷ []) (listing.part_self (heads_in ys))
      (kept x.row.heads [] (y.row.heads ∷ []) (left_out y.row.heads [] [] no_more)))))

  pub repeated_do : (m : Question → Bool) (n : ℕ) (xs : List (WantedRow T)) → DoFor m n xs (ys ++ x ∷ []) → DoFor m n (xs ++ y ∷ []) (ys ++ x ∷ [])
  repeated_do m n xs d =
      let one : DoFor m n ((ys ++ x ∷ []) ++ y ∷ []) (ys ++ x ∷ []) = record {
        on = λ q vs k l c. inr (sym (same q vs k) ∙ c);
        back = λ q vs k l c. same q vs k ∙ c;
        part = part;
      } in
      both_do m n (xs ++ y ∷ []) ((ys ++ x ∷ []) ++ y ∷ []) (ys ++ x ∷ []) (kept_do m n xs (ys ++ x ∷ []) y d) one

-- ---- a row without the heads of parts takes whatever it takes with them

-- below the columns of all heads stands none, and so above
below_none : {T : Type 0} (heads : List (ℕ × MDePat T)) (n c : ℕ) → AreHeadsBelow n heads → n ≤ c → head_at heads c ≡ None
below_none [] n c h l = refl
below_none (x ∷ heads) n c h l =
    let lower = All-head (λ y. y.0 < n) x heads h in
    rw (ne_eqb x.0 c (λ e. omega arith)) (below_none heads n c (All-tail (λ y. y.0 < n) x heads h) l)

-- a head at another column is passed over
passed : {T : Type 0} (x : ℕ × MDePat T) (heads : List (ℕ × MDePat T)) (c : ℕ) → x.0 ≢ c → head_at (x ∷ heads) c ≡ head_at heads c
passed x heads c ne = rw (ne_eqb x.0 c ne) refl

-- heads that begin behind the column are passed over
listed_passed : {T : Type 0} (first c : ℕ) (hs : List (Head T)) (rest : List (ℕ × MDePat T)) → c < first → head_at (listed first hs ++ rest) c ≡ head_at rest c
listed_passed first c [] rest l = refl
listed_passed first c (None ∷ hs) rest l = listed_passed (suc first) c hs rest (omega arith)
listed_passed {T} first c (Some p ∷ hs) rest l = go (is_wild (Some p)) (listed_passed (suc first) c hs rest (omega arith))
  where
    go : (b : Bool) → head_at (listed (suc first) hs ++ rest) c ≡ head_at rest c →
        head_at ((cond b [] ((first, p) ∷ []) ++ listed (suc first) hs) ++ rest) c ≡ head_at rest c
    go true e = e
    go false e = passed (first, p) (listed (suc first) hs ++ rest) c (λ same. omega arith) ∙ e

-- at each column the other heads stand as they stood, or none of them does
others_stand : {T : Type 0} (first c : ℕ) (hs : List (Head T)) (rest : List (ℕ × MDePat T)) → AreHeadsBelow first rest →
    (head_at rest c ≡ None) ⊎ (head_at (listed first hs ++ rest) c ≡ head_at rest c)
others_stand first c hs rest below = elim (cases_lt c first) [
  | inl l ↦ inr (listed_passed first c hs rest l)
  | inr g ↦ inl (below_none rest first c below g)
]

none_takes : (T : Type 0) (v : MValue) → head_takes {T = T} None v ≡ true
none_takes T v = sym (head_some {T = T} None v) ∙ ap is_some_there (wild_trace {T = T} None v refl)

heads_take : {T : Type 0} (some all : List (ℕ × MDePat T)) (columns : List ℕ) → ((c : ℕ) → (head_at some c ≡ None) ⊎ (head_at all c ≡ head_at some c)) →
    (vs : List MValue) → row_takes (heads_at all columns) vs ≡ true → row_takes (heads_at some columns) vs ≡ true
heads_take some all [] f vs e = e
heads_take some all (c ∷ columns) f [] e = e
heads_take {T} some all (c ∷ columns) f (v ∷ vs) e =
    let b = both (head_takes (head_at all c) v) (row_takes (heads_at all columns) vs) e in
    let rest = heads_take some all columns f vs b.1 in
    let here : head_takes (head_at some c) v ≡ true = elim (f c) [
      | inl n ↦ ap (λ h. head_takes h v) n ∙ none_takes T v
      | inr s ↦ ap (λ h. head_takes h v) (sym s) ∙ b.0
    ] in
    ap (λ t. t && row_takes (heads_at some columns) vs) here ∙ rest

-- ---- the leaf comes again

module _ {T : Type 0} (missing : Bool) (a : Apart T) (spans : List Span) (scope : Scope T) (apart : IsApart scope a) (k : ℕ) (l : SparseLeaf T) (x : SparseAsked T) (s : ℕ × ℕ)
    (leaf : slice_get (apart_leaves a) k ≡ Some l) (row : slice_get (apart_rows a) l.row ≡ Some x) (span : slice_get (plain_spans spans) k ≡ Some s)
    (marks : Marks) (first end : ℕ) (seen kept : List ℕ) (so_far : IsCutSoFar (is_marked marks) missing a spans first end seen kept) where
  abbrev others : List (ℕ × MDePat T)
  others = without a.taken.number x.row.heads

  others_below : AreHeadsBelow a.next others
  others_below =
      All-filter (λ (h : ℕ × MDePat T). not (nat_eq h.0 a.taken.number)) (λ h. h.0 < a.next) x.row.heads
      (rows_below scope a.next a.taken.number (other_numbers a) (apart_rows a) apart.number apart.columns apart.rows l.row x row)

  module _ (guard : x.row.guarded ≡ false) (w : EndsWhole a spans first end l.row kept) where
    last_row : slice_get (apart_rows a) w.leaf.row ≡ Some x
    last_row = ap (slice_get (apart_rows a)) w.same ∙ row

    abbrev last : (count : ℕ) → WantedRow T
    last count = view missing a spans w.number w.leaf x w.span w.got last_row w.spanned count

    abbrev again : (count : ℕ) → WantedRow T
    again count = view missing a spans k l x s leaf row span count

    last_stops : (count : ℕ) (vs : List MValue) → row_takes (again count).row.heads vs ≡ true → row_stops (last count).row vs ≡ true
    last_stops count vs e =
        let columns = columns_from a.next count ++ other_numbers a in
        ap (λ g. not g && row_takes (last count).row.heads vs) guard
        ∙ ap (λ ps. row_takes (heads_at (ps ++ others) columns) vs) (no_parts w.leaf.head a.next count w.bare)
        ∙ heads_take others (listed a.next (leaf_parts count l.head) ++ others) columns (λ c. others_stand a.next c (leaf_parts count l.head) others others_below) vs e

    abbrev m : Question → Bool
    m = is_marked marks

    abbrev n : ℕ → ℕ
    n count = length (columns_from a.next count ++ other_numbers a)

    abbrev leaves : (i count : ℕ) → List ℕ → List (WantedRow T)
    leaves i count ks = at missing a spans i count ks

    go : (i count : ℕ) → first ≤ i → i < end → DoFor m (n count) (leaves i count seen) (leaves i count kept) → (b : Bool) → span_has i (Some s) ≡ b →
        DoFor m (n count) (leaves i count (seen ++ k ∷ [])) (leaves i count kept)
    go i count low high d false h =
        subst (λ ys. DoFor m (n count) ys (leaves i count kept)) (sym (more_not missing a spans k l x s leaf row span i count seen h)) d
    go i count low high d true h =
        let ends : leaves i count kept ≡ leaves i count w.before ++ last count ∷ [] =
        ap (leaves i count) w.last ∙ more_has missing a spans w.number w.leaf x w.span w.got last_row w.spanned i count w.before (span_covers first end i w.span low high w.whole) in
        subst (λ ys. DoFor m (n count) ys (leaves i count kept)) (sym (more_has missing a spans k l x s leaf row span i count seen h))
        (subst (DoFor m (n count) (leaves i count seen ++ again count ∷ [])) (sym ends)
        (repeated_do (leaves i count w.before) (last count) (again count) (last_stops count) m (n count) (leaves i count seen)
        (subst (DoFor m (n count) (leaves i count seen)) ends d)))

    pub step_repeated : IsCutSoFar m missing a spans first end (seen ++ k ∷ []) kept
    step_repeated = record {
      within = so_far.within;
      met = so_far.met;
      enough = λ i low high count. go i count low high (so_far.enough i low high count) (span_has i (Some s)) refl;
    }
