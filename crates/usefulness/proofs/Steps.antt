-- One row more is listed, as the code does it.
use Rattle.std.proofs.Common.{Result, Ok, Err, zero, suc, ◌<◌, ◌≡◌, ◌==◌, ℕ, ◌+◌, Bool, true, false, not, ◌&&◌, List, [], ◌∷◌, ◌++◌, map, length, drop, refl, ap, sym, subst, ◌∙◌, arith}
use Rattle.std.proofs.lemmas.Bool.{eqb-true, eqb-false}
use Rattle.std.specs.Result.{IfOk, OnOk}
use Rattle.std.proofs.lemmas.List.{length-map, length-append}
use Rattle.std.proofs.lemmas.List.Elements.{All-nil, All-cons, All-append}
use Rattle.std.specs.List.{All, list_any}
use Rattle.match_model.proofs.Basics.{both, untrue}
use Rattle.pattern_matrix.specs.declared.rows.Head.{Head}
use Rattle.pattern_matrix.specs.Views.{plain_head}
use Rattle.pattern_matrix.specs.Counting.{Question}
use Rattle.pattern_matrix.specs.Searching.{IsDone}
use Rattle.usefulness.specs.declared.frames.Listing.{Listing}
use Rattle.usefulness.specs.declared.marks.Marks.{Marks}
use Rattle.usefulness.specs.declared.frames.Reached.{Reached}
use Rattle.usefulness.specs.Scope.{Scope}
use Rattle.usefulness.specs.Frames.{SparseAsked, asked_view, has_heads, starts_listed, IsRowIn}
use Rattle.usefulness.specs.Marking.{is_marked}
use Rattle.usefulness.specs.Listing.{IsWantedAs, IsListing}
use Rattle.usefulness.specs.Done.{is_done}
use Rattle.usefulness.specs.States.{plain_asked, plain_askeds, IsKept, IsListed, is_noted, scope_of}
use Rattle.usefulness.proofs.Listed.{after_closed, left_guarded, listing_begins}
use Rattle.usefulness.proofs.DoneRows.{done_row}
use Rattle.usefulness.proofs.Finishing.{start_more, end_unwanted, end_all}

-- a list without elements has no heads
pub no_heads : {T : Type 0} (heads : List (Head T)) (n : ℕ) → n ≡ length heads → (n == 0) ≡ true → has_heads (map plain_head heads) ≡ false
no_heads [] n e f = refl
no_heads (h ∷ heads) n e f = absurd (let z = eqb-true n 0 f in omega (arith, z, e))

module _ {T : Type 0} (l after : Listing T) where
  -- the same rows are kept
  pub kept_same : after.rows ≡ l.rows → after.end ≡ l.end → IsKept l → IsKept after
  kept_same e f k = record {
    end = rw (e, f) k.end;
    within = rw (e, f) k.within;
    start = rw e k.start;
  }

  module _ (x : SparseAsked T) (rows : plain_askeds after.rows.items ≡ plain_askeds l.rows.items ++ x ∷ []) where
    one_longer : length after.rows.items ≡ length l.rows.items + 1
    one_longer =
        sym (length-map after.rows.items plain_asked) ∙ ap length rows ∙ length-append (plain_askeds l.rows.items) (x ∷ [])
        ∙ ap (λ n. n + 1) (length-map l.rows.items plain_asked)

    start_after : IsKept l → (plain_askeds l.rows.items ≡ [] → has_heads x.row.heads ≡ true) → starts_listed (plain_askeds after.rows.items) ≡ true
    start_after k h = ap starts_listed rows ∙ start_more (plain_askeds l.rows.items) x k.start h

    -- a row is kept that is not wanted, or one that is
    pub kept_unwanted : x.wanted ≡ false → after.end ≡ l.end → IsKept l → (plain_askeds l.rows.items ≡ [] → has_heads x.row.heads ≡ true) → IsKept after
    kept_unwanted w e k h =
        let long = length-map l.rows.items plain_asked in
        let within = k.within in
        record {
          end =
              ap (λ n. list_any (λ (y : SparseAsked T). y.wanted) (drop n (plain_askeds after.rows.items))) e
              ∙ ap (λ ys. list_any (λ (y : SparseAsked T). y.wanted) (drop l.end ys)) rows
              ∙ end_unwanted l.end (plain_askeds l.rows.items) x (omega (arith, long, within)) k.end w;
          within = let longer = one_longer in omega (arith, e, longer, within);
          start = start_after k h;
        }

    pub kept_wanted : after.end ≡ length after.rows.items → IsKept l → (plain_askeds l.rows.items ≡ [] → has_heads x.row.heads ≡ true) → IsKept after
    kept_wanted e k h = record {
      end = end_all after.end (plain_askeds after.rows.items) (e ∙ sym (length-map after.rows.items plain_asked));
      within = omega (arith, e);
      start = start_after k h;
    }

-- nothing is listed at first
pub listed_first : {T : Type 0} (scope : Scope T) (m : Reached T) (columns : List ℕ) (l : Listing T) → scope_of m ≡ scope → plain_askeds l.rows.items ≡ [] → l.closed ≡ false → IsKept l →
    IsListed scope (is_noted m) m columns [] l
listed_first {T} scope m columns l k e f g = record {
  known = k;
  kept = g;
  rows = subst (All (IsRowIn scope columns)) (sym e) (All-nil (IsRowIn {T = T} scope columns));
  listed = subst (λ ks. IsListing {T = T} (is_noted m) (is_noted m) columns [] ks l.closed) (sym e)
      (subst (λ c. IsListing {T = T} (is_noted m) (is_noted m) columns [] [] c) (sym f) (listing_begins (is_noted m) columns));
}

-- no row counts any more
pub listed_closed : {T : Type 0} (scope : Scope T) (old : Question → Bool) (columns : List ℕ) (through ys : List (SparseAsked T)) (m : Reached T) (l : Listing T) → IsListed scope old m columns through l → l.closed ≡ true →
    IsListed scope old m columns (through ++ ys) l
listed_closed scope old columns through ys m l listed e = record {
  known = listed.known;
  kept = listed.kept;
  rows = listed.rows;
  listed = subst (λ c. IsListing old (is_noted m) columns (through ++ ys) (plain_askeds l.rows.items) c) (sym e)
      (after_closed old (is_noted m) columns through (plain_askeds l.rows.items) ys
      (subst (λ c. IsListing old (is_noted m) columns through (plain_askeds l.rows.items) c) e listed.listed));
}

module _ {T : Type 0} (scope : Scope T) (old : Question → Bool) (columns : List ℕ) (through : List (SparseAsked T)) (x : SparseAsked T) (m : Reached T) (l : Listing T) (listed : IsListed scope old m columns through l) where
  -- the row is left out
  pub listed_left : l.closed ≡ false → x.row.guarded ≡ true → IsDone (is_noted m) (asked_view columns x) → IsListed scope old m columns (through ++ x ∷ []) l
  listed_left e g d = record {
    known = listed.known;
    kept = listed.kept;
    rows = listed.rows;
    listed = subst (λ c. IsListing old (is_noted m) columns (through ++ x ∷ []) (plain_askeds l.rows.items) c) (sym e)
        (left_guarded old (is_noted m) columns through (plain_askeds l.rows.items) x
        (subst (λ c. IsListing old (is_noted m) columns through (plain_askeds l.rows.items) c) e listed.listed) g d);
  }

  -- what the row answers is marked
  pub listed_noted : (then : Reached T) (after : Listing T) → after.rows ≡ l.rows → after.end ≡ l.end → scope_of then ≡ scope_of m →
      IsListing old (is_noted then) columns (through ++ x ∷ []) (plain_askeds after.rows.items) after.closed → IsListed scope old then columns (through ++ x ∷ []) after
  listed_noted then after e f k i = record {
    known = k ∙ listed.known;
    kept = kept_same l after e f listed.kept;
    rows = rw e listed.rows;
    listed = i;
  }

  -- the row is kept
  pub listed_kept : (after : Listing T) (y : SparseAsked T) → plain_askeds after.rows.items ≡ plain_askeds l.rows.items ++ y ∷ [] → IsKept after → IsRowIn scope columns y →
      IsListing old (is_noted m) columns (through ++ x ∷ []) (plain_askeds after.rows.items) after.closed → IsListed scope old m columns (through ++ x ∷ []) after
  listed_kept after y e k r i = record {
    known = listed.known;
    kept = k;
    rows = subst (All (IsRowIn scope columns)) (sym e)
        (All-append (IsRowIn scope columns) (plain_askeds l.rows.items) (y ∷ []) listed.rows (All-cons (IsRowIn scope columns) y [] r (All-nil (IsRowIn scope columns))));
    listed = i;
  }

-- what follows of an `Ok` from three things that hold of it
pub on_ok_all : {X E P Q R S : Type 0} (r : Result X E) → OnOk r P → OnOk r Q → OnOk r R → (P → Q → R → S) → OnOk r S
on_ok_all (Ok x) p q r f = f p q r
on_ok_all (Err e) p q r f = p

pub ok_held : {X E Q : Type 0} {P : X → Type 0} (r : Result X E) → IfOk r P → ((x : X) → P x → Q) → OnOk r Q
ok_held (Ok x) p f = f x p
ok_held (Err e) p f = tt

pub on_ok_held : {X E P : Type 0} (r : Result X E) → P → OnOk r P
on_ok_held (Ok x) p = p
on_ok_held (Err e) p = tt

-- what is no empty list
pub some_long : (n len : ℕ) → (len == 0) ≡ false → n ≡ len → 0 < n
some_long zero len e f = absurd (eqb-false len 0 e (omega (arith, f)))
some_long (suc n) len e f = omega arith

-- whether a row is wanted, as the code finds it: unless everything is marked that it may answer
pub wanted_as : {T : Type 0} (m : Marks) (columns : List ℕ) (x : SparseAsked T) (w : Bool) → w ≡ (x.wanted && not (is_done (is_marked m) x.row)) → IsWantedAs (is_marked m) columns x w
wanted_as m columns x w e = ((λ f. (both x.wanted (not (is_done (is_marked m) x.row)) (sym e ∙ f)).0), (λ f. neither x.wanted refl (is_done (is_marked m) x.row) refl (sym e ∙ f)))
  where
    neither : (b : Bool) → x.wanted ≡ b → (d : Bool) → is_done (is_marked m) x.row ≡ d → (b && not d) ≡ false → IsDone (is_marked m) (asked_view columns x)
    neither false i d j k = λ h. untrue (sym i ∙ h)
    neither true i true j k = done_row m x columns j
    neither true i false j k = untrue (sym k)
