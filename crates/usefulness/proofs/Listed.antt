-- Rows that are listed: what each step keeps.
use Rattle.std.proofs.Common.{◌≡◌, ◌⊎◌, inl, inr, ℕ, Bool, true, false, not, ◌&&◌, ◌||◌, List, [], ◌∷◌, ◌++◌, length, take, drop, nat_eq, refl, ap, sym, subst, ◌∙◌, arith, append_assoc, append-nil}
use Rattle.std.proofs.lemmas.List.{map-append, length-map, take-append-drop}
use Rattle.std.specs.List.{list_any, list_all, Contains}
use Rattle.match_model.specs.Values.{MValue}
use Rattle.match_model.specs.Contexts.{Open}
use Rattle.match_model.specs.Rows.{is_wild}
use Rattle.match_model.specs.ArenaPatterns.{MDePat}
use Rattle.match_model.proofs.Basics.{untrue, either, both}
use Rattle.pat_context.specs.Parts.{AreValues}
use Rattle.pattern_matrix.specs.Sparse.{head_at, heads_at}
use Rattle.pattern_matrix.specs.Counting.{Question, WantedRow, has_chosen, counts}
use Rattle.pattern_matrix.specs.Searching.{Submatrix, IsDone, DoFor, StandFor, AreListed}
use Rattle.pattern_matrix.proofs.HandingOn.{here, in_cons}
use Rattle.pattern_matrix.proofs.SearchSteps.{values_long}
use Rattle.pattern_matrix.proofs.ListedRows as listing
use Rattle.usefulness.specs.Frames.{SparseAsked, asked_view, asked_views, has_heads, numbers, places, sub_view, subs_of}
use Rattle.usefulness.specs.Marking.{is_answer}
use Rattle.usefulness.specs.Listing.{as_wanted, IsWantedAs, IsListing, IsListedAs}

-- a row that lists no head has wildcards alone
pub bare_heads : {T : Type 0} (heads : List (ℕ × MDePat T)) (columns : List ℕ) → has_heads heads ≡ false → list_all is_wild (heads_at heads columns) ≡ true
bare_heads heads [] e = refl
bare_heads [] (c ∷ columns) e = bare_heads [] columns e
bare_heads (h ∷ heads) (c ∷ columns) e = untrue (sym e)

pub long_heads : {T : Type 0} (columns : List ℕ) (x : SparseAsked T) → length (asked_view columns x).row.heads ≡ length columns
long_heads columns x = length-map columns (head_at x.row.heads)

-- behind a row that stops all values nothing changes, whatever stands there
pub after_closed : {T : Type 0} (old now : Question → Bool) (columns : List ℕ) (through kept ys : List (SparseAsked T)) → IsListing old now columns through kept true → IsListing old now columns (through ++ ys) kept true
after_closed old now columns through kept ys l = record {
  grow = l.grow;
  right = λ q m. elim (l.right q m) [
    | inl o ↦ inl o
    | inr f ↦ inr (λ rest vs k. ap (λ zs. counts q (asked_views columns zs) vs) (append_assoc through ys rest) ∙ f (ys ++ rest) vs k)
  ];
  does = λ e. untrue (sym e);
  stands = λ e rest. subst (λ zs. StandFor now (length columns) (asked_views columns zs) (asked_views columns kept)) (sym (append_assoc through ys rest)) (l.stands refl (ys ++ rest));
}

module _ {T : Type 0} (old now : Question → Bool) (columns : List ℕ) (through kept : List (SparseAsked T)) (x : SparseAsked T) where
  abbrev more : List (SparseAsked T)
  more = through ++ x ∷ []

  view_more : asked_views columns more ≡ asked_views columns through ++ asked_view columns x ∷ []
  view_more = map-append (asked_view columns) through (x ∷ [])

  view_rest : (rest : List (SparseAsked T)) → asked_views columns (more ++ rest) ≡ asked_views columns through ++ asked_view columns x ∷ asked_views columns rest
  view_rest rest = ap (asked_views columns) (append_assoc through (x ∷ []) rest) ∙ map-append (asked_view columns) through (x ∷ rest)

  abbrev IsRight : List (SparseAsked T) → (Question → Bool) → Type 0
  IsRight ys m = (q : Question) → m q ≡ true → (old q ≡ true)
      ⊎ ((rest : List (SparseAsked T)) (vs : List MValue) → length vs ≡ length columns → counts q (asked_views columns (ys ++ rest)) vs ≡ true)

  more_right : IsRight through now → IsRight more now
  more_right r q m = elim (r q m) [
    | inl o ↦ inl o
    | inr f ↦ inr (λ rest vs l. ap (λ ys. counts q (asked_views columns ys) vs) (append_assoc through (x ∷ []) rest) ∙ f (x ∷ rest) vs l)
  ]

  -- from what the kept rows do where a row was gone through
  does_more : (kept : List (SparseAsked T)) → DoFor now (length columns) (asked_views columns through ++ asked_view columns x ∷ []) (asked_views columns kept) →
      DoFor now (length columns) (asked_views columns more) (asked_views columns kept)
  does_more kept d = subst (λ ys. DoFor now (length columns) ys (asked_views columns kept)) (sym view_more) d

  -- a guarded row of which nothing new is wanted
  pub left_guarded : IsListing old now columns through kept false → x.row.guarded ≡ true → IsDone now (asked_view columns x) → IsListing old now columns more kept false
  left_guarded l g d = record {
    grow = l.grow;
    right = more_right l.right;
    does = λ e. does_more kept (listing.leave_guarded now (length columns) (asked_views columns through) (asked_views columns kept) (asked_view columns x) (l.does refl) g d);
    stands = λ e. untrue e;
  }

  -- a row that is kept, and wanted no more where nothing new is wanted of it
  pub kept_more : (w : Bool) → IsWantedAs now columns x w → IsListing old now columns through kept false → IsListing old now columns more (kept ++ as_wanted w x ∷ []) false
  kept_more w h l = record {
    grow = l.grow;
    right = more_right l.right;
    does = λ e. does_more (kept ++ as_wanted w x ∷ []) (subst (DoFor now (length columns) (asked_views columns through ++ asked_view columns x ∷ [])) (sym (map-append (asked_view columns) kept (as_wanted w x ∷ [])))
        (listing.list_row now (length columns) (asked_views columns through) (asked_views columns kept) (asked_view columns x) w (l.does refl) h.0 h.1));
    stands = λ e. untrue e;
  }

  -- a row that is kept and stops all values
  pub kept_last : (w : Bool) → IsWantedAs now columns x w → IsListing old now columns through kept false → has_heads x.row.heads ≡ false → x.row.guarded ≡ false →
      IsListing old now columns more (kept ++ as_wanted w x ∷ []) true
  kept_last w h l b g = record {
    grow = l.grow;
    right = more_right l.right;
    does = λ e. untrue (sym e);
    stands = λ e rest. subst (λ ys. StandFor now (length columns) ys (asked_views columns (kept ++ as_wanted w x ∷ []))) (sym (view_rest rest))
        (listing.close now (length columns) (asked_views columns through) (asked_views columns (kept ++ as_wanted w x ∷ [])) (asked_view columns x) (asked_views columns rest)
        (subst (λ ys. DoFor now (length columns) ys (asked_views columns (kept ++ as_wanted w x ∷ []))) view_more ((kept_more w h l).does refl)) (long_heads columns x) (bare_heads x.row.heads columns b) g);
  }

-- a row without heads before which none is kept: what it answers is marked, where it is wanted
module _ {T : Type 0} (old now then : Question → Bool) (columns : List ℕ) (through : List (SparseAsked T)) (x : SparseAsked T) (l : IsListing old now columns through [] false) (bare : has_heads x.row.heads ≡ false)
    (marked : (q : Question) → then q ≡ (now q || (x.wanted && is_answer x.row.arm x.row.chosen q))) where
  grown : (q : Question) → now q ≡ true → then q ≡ true
  grown q m = marked q ∙ ap (λ b. b || (x.wanted && is_answer x.row.arm x.row.chosen q)) m

  later : DoFor then (length columns) (asked_views columns through) []
  later = listing.listed_later now then (length columns) (asked_views columns through) [] grown (l.does refl)

  noted : x.wanted ≡ true → (q : Question) → (nat_eq q.arm x.row.arm && has_chosen q x.row.chosen) ≡ true → then q ≡ true
  noted w q a = marked q ∙ ap (λ b. now q || (b && is_answer x.row.arm x.row.chosen q)) w ∙ ap (λ b. now q || b) a ∙ last (now q)
    where
      last : (b : Bool) → (b || true) ≡ true
      last true = refl
      last false = refl

  new_right : IsRight old then columns through [] x (more old then columns through [] x) then
  new_right q m = elim (either (now q) (x.wanted && is_answer x.row.arm x.row.chosen q) (sym (marked q) ∙ m)) [
    | inl n ↦ more_right old now columns through [] x l.right q n
    | inr a ↦ inr (λ rest vs k.
        let w = both x.wanted (is_answer x.row.arm x.row.chosen q) a in
        ap (λ ys. counts q ys vs) (view_rest old now columns through [] x rest)
        ∙ listing.noted_counts now (length columns) (asked_views columns through) (asked_view columns x) (asked_views columns rest) (l.does refl) (long_heads columns x) (bare_heads x.row.heads columns bare) w.0 q w.1 vs k)
  ]

  pub noted_guarded : x.row.guarded ≡ true → IsListing old then columns (through ++ x ∷ []) [] false
  noted_guarded g = record {
    grow = λ q m. grown q (l.grow q m);
    right = new_right;
    does = λ e. does_more old then columns through [] x [] (listing.note_guarded then (length columns) (asked_views columns through) [] (asked_view columns x) later (long_heads columns x) (bare_heads x.row.heads columns bare) g noted);
    stands = λ e. untrue e;
  }

  pub noted_last : x.row.guarded ≡ false → IsListing old then columns (through ++ x ∷ []) [] true
  noted_last g = record {
    grow = λ q m. grown q (l.grow q m);
    right = new_right;
    does = λ e. untrue (sym e);
    stands = λ e rest. subst (λ ys. StandFor then (length columns) ys []) (sym (view_rest old then columns through [] x rest))
        (listing.note_last then (length columns) (asked_views columns through) (asked_view columns x) (asked_views columns rest) later (long_heads columns x) (bare_heads x.row.heads columns bare) g noted);
  }

-- none is listed at first
pub listing_begins : {T : Type 0} (is_marked : Question → Bool) (columns : List ℕ) → IsListing {T = T} is_marked is_marked columns [] [] false
listing_begins is_marked columns = record {
  grow = λ q m. m;
  right = λ q m. inl m;
  does = λ e. listing.none_listed is_marked (length columns);
  stands = λ e. untrue e;
}

module _ {T : Type 0} (IsValue : T → Bool → MValue → Type 0) (old now : Question → Bool) (shown : List (ℕ × Open T)) (through kept : List (SparseAsked T)) (some : (vs : List MValue) × AreValues IsValue (places shown) vs) where
  abbrev columns : List ℕ
  columns = numbers shown

  same_long : length (numbers shown) ≡ length (places shown)
  same_long = length-map shown (λ (o : ℕ × Open T). o.0) ∙ sym (length-map shown (λ (o : ℕ × Open T). o.1))

  -- the kept rows stand for all
  all_stand : (closed : Bool) → IsListing old now columns through kept closed → StandFor now (length columns) (asked_views columns through) (asked_views columns kept)
  all_stand true l = subst (λ ys. StandFor now (length columns) (asked_views columns ys) (asked_views columns kept)) (append-nil through) (l.stands refl [])
  all_stand false l = listing.listed_all now (length columns) (asked_views columns through) (asked_views columns kept) (l.does refl)

  unwanted : (xs : List (SparseAsked T)) → list_any (λ (x : WantedRow T). x.wanted) (asked_views columns xs) ≡ list_any (λ (x : SparseAsked T). x.wanted) xs
  unwanted [] = refl
  unwanted (x ∷ xs) = ap (λ b. x.wanted || b) (unwanted xs)

  cut : (closed : Bool) (end : ℕ) → IsListing old now columns through kept closed → list_any (λ (x : SparseAsked T). x.wanted) (drop end kept) ≡ false →
      StandFor now (length (places shown)) (asked_views columns through) (asked_views columns (take end kept))
  cut closed end l u =
      subst (λ n. StandFor now n (asked_views columns through) (asked_views columns (take end kept))) same_long
      (listing.cut_behind now (length columns) (asked_views columns through) (asked_views columns (take end kept)) (asked_views columns (drop end kept))
      (subst (StandFor now (length columns) (asked_views columns through)) (ap (asked_views columns) (sym (take-append-drop end kept)) ∙ map-append (asked_view columns) (take end kept) (drop end kept)) (all_stand closed l))
      (unwanted (drop end kept) ∙ u))

  listed_as : (rows : List (SparseAsked T)) → StandFor now (length (places shown)) (asked_views columns through) (asked_views columns rows) → AreListed now (sub_view shown through ∷ []) (subs_of shown rows)
  listed_as [] s = record {
    each = λ n i. in_cons (sub_view shown through) n [] (λ n. (rows : List (WantedRow T)) × StandFor now (length n.places) n.rows rows × (Contains {X = Submatrix T} [] (record { places = n.places; rows = rows }) ⊎ (rows ≡ [])))
        ([], s, inr refl) (λ z (k, l, e). absurd (omega (arith, l))) i;
    of_left = λ m (k, l, e). absurd (omega (arith, l));
  }
  listed_as (x ∷ rows) s = record {
    each = λ n i. in_cons (sub_view shown through) n [] (λ n. (ys : List (WantedRow T)) × StandFor now (length n.places) n.rows ys × (Contains (sub_view shown (x ∷ rows) ∷ []) (record { places = n.places; rows = ys }) ⊎ (ys ≡ [])))
        (asked_views columns (x ∷ rows), s, inl (here (sub_view shown (x ∷ rows)) [])) (λ z (k, l, e). absurd (omega (arith, l))) i;
    of_left = λ m i. in_cons (sub_view shown (x ∷ rows)) m [] (λ m. (n : Submatrix T) × Contains (sub_view shown through ∷ []) n × (m.places ≡ n.places) × StandFor now (length n.places) n.rows m.rows)
        (sub_view shown through, here (sub_view shown through) [], refl, s) (λ z (k, l, e). absurd (omega (arith, l))) i;
  }

  -- the rows up to the last wanted one stand for all that were gone through
  pub listing_ends : (closed : Bool) (end : ℕ) → IsListing old now columns through kept closed → list_any (λ (x : SparseAsked T). x.wanted) (drop end kept) ≡ false →
      IsListedAs IsValue old now (sub_view shown through) (subs_of shown (take end kept))
  listing_ends closed end l u = record {
    grow = l.grow;
    right = λ q m. elim (l.right q m) [
      | inl o ↦ inl o
      | inr f ↦ inr (some.0, some.1, ap (λ ys. counts q (asked_views columns ys) some.0) (sym (append-nil through)) ∙ f [] some.0 (values_long IsValue (places shown) some.0 some.1 ∙ sym same_long))
    ];
    listed = listed_as (take end kept) (cut closed end l u);
  }

-- the same, as the code does it
pub noted_row : {T : Type 0} (old now then : Question → Bool) (columns : List ℕ) (through kept : List (SparseAsked T)) (x : SparseAsked T) (closed : Bool) → IsListing old now columns through kept closed →
    kept ≡ [] → closed ≡ false → has_heads x.row.heads ≡ false → ((q : Question) → then q ≡ (now q || (x.wanted && is_answer x.row.arm x.row.chosen q))) →
    IsListing old then columns (through ++ x ∷ []) kept (not x.row.guarded)
noted_row {T} old now then columns through kept x closed l e f b m =
    subst (λ ks. IsListing old then columns (through ++ x ∷ []) ks (not x.row.guarded)) (sym e) (go x.row.guarded refl)
  where
    begun : IsListing old now columns through [] false
    begun = subst (λ c. IsListing old now columns through [] c) f (subst (λ ks. IsListing old now columns through ks closed) e l)

    go : (g : Bool) → x.row.guarded ≡ g → IsListing old then columns (through ++ x ∷ []) [] (not g)
    go true h = noted_guarded old now then columns through x begun b m h
    go false h = noted_last old now then columns through x begun b m h

-- a row that is kept, as the code does it
pub kept_row : {T : Type 0} (old now : Question → Bool) (columns : List ℕ) (through kept after : List (SparseAsked T)) (x : SparseAsked T) (w closed : Bool) → IsListing old now columns through kept closed →
    closed ≡ false → IsWantedAs now columns x w → after ≡ kept ++ as_wanted w x ∷ [] → (bare : Bool) → (bare ≡ true → has_heads x.row.heads ≡ false) →
    IsListing old now columns (through ++ x ∷ []) after (bare && not x.row.guarded)
kept_row old now columns through kept after x w closed l f a e bare h =
    subst (λ ks. IsListing old now columns (through ++ x ∷ []) ks (bare && not x.row.guarded)) (sym e) (go bare x.row.guarded refl h)
  where
    begun : IsListing old now columns through kept false
    begun = subst (λ c. IsListing old now columns through kept c) f l

    go : (b g : Bool) → x.row.guarded ≡ g → (b ≡ true → has_heads x.row.heads ≡ false) → IsListing old now columns (through ++ x ∷ []) (kept ++ as_wanted w x ∷ []) (b && not g)
    go true true m h = kept_more old now columns through kept x w a begun
    go true false m h = kept_last old now columns through kept x w a begun (h refl) m
    go false g m h = kept_more old now columns through kept x w a begun
