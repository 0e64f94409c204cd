-- Entries of the stack of a search, and what they stand for.
use Rattle.std.proofs.Common.{◌≡◌, ◌≤◌, ◌<◌, ℕ, zero, suc, ◌+◌, ◌-◌, ◌*◌, ◌^◌, Bool, true, List, [], ◌∷◌, ◌++◌, map, cond, length, get_or, Option, Some, None, slice_get, refl, ap, sym, subst, ◌∙◌, arith, append-nil, append_assoc}
use Rattle.std.proofs.lemmas.List.{map-append, length-map, length-append}
use Rattle.std.proofs.lemmas.List.Elements.{All-nil, All-cons, All-head, All-tail, All-append}
use Rattle.std.proofs.lemmas.Grind.{flat_map-append}
use Rattle.std.specs.List.{All, Contains, flat_map}
use Rattle.std.specs.Option.{option_to_list, IfSome}
use Rattle.match_model.specs.Values.{MValue}
use Rattle.match_model.specs.Constructors.{MCtor}
use Rattle.match_model.specs.Contexts.{Context}
use Rattle.pat_context.specs.declared.ctor.Ctor.{Ctor}
use Rattle.pat_context.specs.Views.{plain_ctor}
use Rattle.constructor_sets.specs.Columns.{plain_ctors}
use Rattle.constructor_sets.specs.declared.piece.Span.{Span}
use Rattle.pattern_matrix.specs.declared.halving.Part.{Part}
use Rattle.pattern_matrix.specs.declared.halving.PieceLeaves.{PieceLeaves}
use Rattle.pattern_matrix.specs.Halving.{AreLeafSpans}
use Rattle.pattern_matrix.specs.Parts.{plain_spans, pieces_in}
use Rattle.pattern_matrix.specs.Sparse.{columns_from}
use Rattle.pattern_matrix.specs.Counting.{Question}
use Rattle.pattern_matrix.specs.Searching.{Submatrix, weight_of, power, work}
use Rattle.pattern_matrix.proofs.HandingOn.{here, in_cons}
use Rattle.pattern_matrix.proofs.ListedRows.{part_weighs}
use Rattle.pattern_matrix.proofs.SearchSteps.{work_falls, work_less}
use Rattle.usefulness.specs.declared.frames.Apart.{Apart}
use Rattle.usefulness.specs.declared.frames.Frame.{Frame}
use Rattle.usefulness.specs.declared.frames.Opened.{Opened}
use Rattle.usefulness.specs.declared.frames.Pending.{Pending}
use Rattle.usefulness.specs.declared.frames.Todo.{Todo}
use Rattle.usefulness.specs.declared.frames.Todo.TheVariants.{Rows, Pieces}
use Rattle.usefulness.specs.Scope.{Scope}
use Rattle.usefulness.specs.Cutting.{AreEnough, IsCutPart, parts_left, HasNothing, IsCutOff}
use Rattle.usefulness.specs.Listing.{IsListedAs, AreAllListed}
use Rattle.usefulness.specs.Stack.{ctors_at, pending_views, todo_view, todo_views, IsPending, IsTodo, some_parts, more_of, opened_todo, opened_views, IsOpened, AreMadeOf, IsEntered, IsPut, IsTaken}
use Rattle.usefulness.specs.States.{frame_view, child_views, IsGood, IsApart, IsEnterable, apart_leaves, piece_view}
use Rattle.usefulness.proofs.Looking.{stand_later, none_listed, first_listed, single_listed, both_listed}
use Rattle.usefulness.proofs.Cuts.{cut_later}
use Rattle.usefulness.proofs.Left.{nothing_listed}
use Rattle.usefulness.proofs.Pieces.{read_at, piece_leaves}
use Rattle.usefulness.proofs.Reading.{got_at, some_at}
use Rattle.usefulness.proofs.RowFacts.{at_get}

-- ---- pieces by their numbers

pub ctors_append : (ctors : List MCtor) (xs ys : List ℕ) → ctors_at ctors (xs ++ ys) ≡ ctors_at ctors xs ++ ctors_at ctors ys
ctors_append ctors xs ys = flat_map-append (λ k. option_to_list (slice_get ctors k)) xs ys

pub ctors_one : (ctors : List MCtor) (k : ℕ) (ks : List ℕ) (c : MCtor) → slice_get ctors k ≡ Some c → ctors_at ctors (k ∷ ks) ≡ c ∷ ctors_at ctors ks
ctors_one ctors k ks c e = ap (λ o. option_to_list o ++ ctors_at ctors ks) e

all_from : {X : Type 0} (f : ℕ → Option X) (first : ℕ) (xs : List X) → ((i : ℕ) → f (first + i) ≡ slice_get xs i) → flat_map (λ k. option_to_list (f k)) (columns_from first (length xs)) ≡ xs
all_from f first [] h = refl
all_from {X} f first (x ∷ xs) h =
    ap (λ o. option_to_list o ++ flat_map (λ k. option_to_list (f k)) (columns_from (suc first) (length xs))) head
    ∙ ap (λ ys. x ∷ ys) (all_from f (suc first) xs (λ i. ap f (let e : suc first + i ≡ first + suc i = omega arith in e) ∙ h (suc i)))
  where
    head : f first ≡ Some x
    head = ap f (let e : first ≡ first + 0 = omega arith in e) ∙ h 0

pub ctors_all : (ctors : List MCtor) → ctors_at ctors (columns_from 0 (length ctors)) ≡ ctors
ctors_all ctors = all_from (slice_get ctors) 0 ctors (λ i. ap (slice_get ctors) (let e : 0 + i ≡ i = omega arith in e))

pub ctors_few : (ctors : List MCtor) (ks : List ℕ) → length (ctors_at ctors ks) ≤ length ks
ctors_few ctors [] = omega arith
ctors_few ctors (k ∷ ks) = go (slice_get ctors k) (ctors_few ctors ks)
  where
    go : (o : Option MCtor) → length (ctors_at ctors ks) ≤ length ks → length (option_to_list o ++ ctors_at ctors ks) ≤ suc (length ks)
    go None l = omega (arith, l)
    go (Some c) l = omega (arith, l)

pub numbers_long : (first n : ℕ) → length (columns_from first n) ≡ n
numbers_long first zero = refl
numbers_long first (suc n) = ap suc (numbers_long (suc first) n)

pub numbers_within : (first n bound : ℕ) → first + n ≤ bound → All (λ k. k < bound) (columns_from first n)
numbers_within first zero bound h = All-nil (λ (k : ℕ). k < bound)
numbers_within first (suc n) bound h = All-cons (λ k. k < bound) first (columns_from (suc first) n) (omega (arith, h)) (numbers_within (suc first) n bound (omega (arith, h)))

front_all : {A : Type 0} (P : A → Type 0) (xs ys : List A) → All P (xs ++ ys) → All P xs
front_all P [] ys all = All-nil P
front_all P (x ∷ xs) ys all = All-cons P x xs (All-head P x (xs ++ ys) all) (front_all P xs ys (All-tail P x (xs ++ ys) all))

back_all : {A : Type 0} (P : A → Type 0) (xs ys : List A) → All P (xs ++ ys) → All P ys
back_all P [] ys all = all
back_all P (x ∷ xs) ys all = back_all P xs ys (All-tail P x (xs ++ ys) all)

-- a column as an entry, where nothing is left of it and where something is
pub more_none : {T : Type 0} (p : Pending T) → p.parts.items ≡ [] → more_of p ≡ []
more_none p e = ap (λ ps. cond (some_parts ps) (Pieces p ∷ []) []) e

pub more_some : {T : Type 0} (p : Pending T) → 0 < length p.parts.items → more_of p ≡ Pieces p ∷ []
more_some p l = go p.parts.items refl l
  where
    go : (ps : List Part) → p.parts.items ≡ ps → 0 < length ps → more_of p ≡ Pieces p ∷ []
    go [] e l = absurd (omega (arith, l))
    go (q ∷ qs) e l = ap (λ ps. cond (some_parts ps) (Pieces p ∷ []) []) e

-- a piece that was found is one of those that were left
pub found_below : {T : Type 0} (m : Question → Bool) (missing : Bool) (a : Apart T) (spans : List Span) (before after : List ℕ) (found : PieceLeaves) (bound : ℕ) → IsCutOff m missing a spans before after (Some found) → All (λ k. k < bound) before →
    found.piece < bound
found_below m missing a spans before after found bound off within =
    All-head (λ k. k < bound) found.piece off.passed (back_all (λ k. k < bound) after (found.piece ∷ off.passed) (subst (All (λ k. k < bound)) off.split within))

-- those that are left still were
pub still_within : {T : Type 0} (m : Question → Bool) (missing : Bool) (a : Apart T) (spans : List Span) (before after : List ℕ) (found : Option PieceLeaves) (bound : ℕ) → IsCutOff m missing a spans before after found → All (λ k. k < bound) before →
    All (λ k. k < bound) after
still_within m missing a spans before after found bound off within =
    front_all (λ k. k < bound) after (map (λ (p : PieceLeaves). p.piece) (option_to_list found) ++ off.passed) (subst (All (λ k. k < bound)) off.split within)

pub still_few : {T : Type 0} (m : Question → Bool) (missing : Bool) (a : Apart T) (spans : List Span) (before after : List ℕ) (found : Option PieceLeaves) → IsCutOff m missing a spans before after found → length after ≤ length before
still_few m missing a spans before after found off =
    let long = ap length off.split ∙ length-append after (map (λ (p : PieceLeaves). p.piece) (option_to_list found) ++ off.passed) in
    omega (arith, long)

-- parts have pieces
pub parts_some : {T : Type 0} (m : Question → Bool) (missing : Bool) (a : Apart T) (spans : List Span) (parts : List Part) → All (IsCutPart m missing a spans) parts → 0 < length parts → 0 < length (parts_left parts)
parts_some m missing a spans [] all l = absurd (omega (arith, l))
parts_some m missing a spans (p ∷ parts) all l =
    let some = (All-head (IsCutPart m missing a spans) p parts all).some in
    let both = length-append (pieces_in p) (parts_left parts) in
    let long = numbers_long p.first (p.end - p.first) in
    omega (arith, some, both, long)

-- ---- how much is to be done

pub work_both : {T : Type 0} (b : ℕ) (xs ys : List (Submatrix T)) → work b (xs ++ ys) ≡ work b xs + work b ys
work_both b [] ys = omega arith
work_both b (x ∷ xs) ys = let e = work_both b xs ys in omega (arith, e)

pub gone_less : {T : Type 0} (b : ℕ) (others new : List (Submatrix T)) (s : Submatrix T) (rest : List (Submatrix T)) → length others < b → AreMadeOf others new →
    ((m : Submatrix T) → Contains new m → weight_of m ≤ weight_of s) → work b others < work b (s ∷ rest)
gone_less b others [] s rest l made w =
    let none = ap (work b) (made.0 refl) in
    let less = work_less b [] s (omega (arith, l)) in
    omega (arith, none, less)
gone_less b others (m ∷ new) s rest l made w =
    let weigh = w m (here m new) in
    let less = work_falls b [] others s l (λ n i. let k = made.1 m n (here m new) i in omega (arith, k, weigh)) in
    omega (arith, less)

times_more : (a b c : ℕ) → b ≤ c → a * b ≤ a * c
times_more zero b c h = omega arith
times_more (suc a) b c h = let k : a * b ≤ a * c = times_more a b c h in omega (arith, k, h)

power_some : (b n : ℕ) → 0 < b → 1 ≤ power b n
power_some b zero h = omega arith
power_some b (suc n) h = let k = power_some b n h in let m = times_more b 1 (power b n) k in omega (arith, m, h)

power_more : (b n m : ℕ) → 0 < b → n ≤ m → power b n ≤ power b m
power_more b zero m h l = power_some b m h
power_more b (suc n) zero h l = absurd (omega (arith, l))
power_more b (suc n) (suc m) h l = times_more b (power b n) (power b m) (power_more b n m h (omega (arith, l)))

-- rows that stand for a submatrix are no more to do than that and others
child_kept : {T : Type 0} (b : ℕ) (o : Option (Frame T)) (s : Submatrix T) (rest : List (Submatrix T)) → 0 < b → ((m : Submatrix T) → Contains (child_views o) m → weight_of m ≤ weight_of s) → work b (child_views o) ≤ work b (s ∷ rest)
child_kept b None s rest l w = omega arith
child_kept b (Some f) s rest l w =
    let more = power_more b (weight_of (frame_view f)) (weight_of s) l (w (frame_view f) (here (frame_view f) [])) in
    omega (arith, more)

pub listed_weighs : {T : Type 0} (IsValue : T → Bool → MValue → Type 0) (old now : Question → Bool) (s : Submatrix T) (new : List (Submatrix T)) → IsListedAs IsValue old now s new → (m : Submatrix T) → Contains new m → weight_of m ≤ weight_of s
listed_weighs IsValue old now s new l m i =
    let (n, j, e, d) = l.listed.of_left m i in
    in_cons s n [] (λ n. weight_of m ≤ weight_of n → weight_of m ≤ weight_of s) (λ w. w) (λ z (k, h, e). absurd (omega (arith, h))) j (part_weighs m.rows n.rows d.part)

-- ---- a column some of whose pieces are left

module _ {T : Type 0} (IsType : T → Type 0) (IsValue : T → Bool → MValue → Type 0) (cx : Context T) (scope : Scope T) where
  pub pending_later : (old now : Question → Bool) (p : Pending T) → ((q : Question) → old q ≡ true → now q ≡ true) → IsPending IsType IsValue cx scope old p → IsPending IsType IsValue cx scope now p
  pending_later old now p grow h = record {
    apart = h.apart;
    ty = h.ty;
    pieces = h.pieces;
    spans = h.spans;
    parts = cut_later p.missing p.apart p.spans.items old now p.parts.items grow h.parts;
    within = h.within;
    few = h.few;
  }

  pub todo_later : (old now : Question → Bool) (e : Todo T) → ((q : Question) → old q ≡ true → now q ≡ true) → IsTodo IsType IsValue cx scope old e → IsTodo IsType IsValue cx scope now e
  todo_later old now (Rows f) grow h = h
  todo_later old now (Pieces p) grow h = (h.0, pending_later old now p grow h.1)

  pub all_later : (old now : Question → Bool) (todo : List (Todo T)) → ((q : Question) → old q ≡ true → now q ≡ true) → All (IsTodo IsType IsValue cx scope old) todo → All (IsTodo IsType IsValue cx scope now) todo
  all_later old now todo grow all = λ k d l. todo_later old now (get_or todo k d) grow (all k d l)

  module _ (a : Apart T) (ctors : List Ctor) (missing : Bool) (spans : List Span) (apart : IsApart scope a) (pieces : All (IsEnterable IsValue cx a) (plain_ctors ctors)) (are : AreLeafSpans (plain_ctors ctors) (apart_leaves a) (plain_spans spans)) where
    abbrev views : List ℕ → List (Submatrix T)
    views ks = map (piece_view cx a missing) (ctors_at (plain_ctors ctors) ks)

    views_append : (xs ys : List ℕ) → views (xs ++ ys) ≡ views xs ++ views ys
    views_append xs ys = ap (map (piece_view cx a missing)) (ctors_append (plain_ctors ctors) xs ys) ∙ map-append (piece_view cx a missing) (ctors_at (plain_ctors ctors) xs) (ctors_at (plain_ctors ctors) ys)

    -- the piece with the number
    one_view : (k : ℕ) (ks : List ℕ) (c : Ctor) → k < length ctors → c ≡ get_or ctors k c → views (k ∷ ks) ≡ piece_view cx a missing (plain_ctor c) ∷ views ks
    one_view k ks c l e = ap (map (piece_view cx a missing)) (ctors_one (plain_ctors ctors) k ks (plain_ctor c) (got_at plain_ctor ctors k c l e))

    -- pieces of which nothing new comes were listed
    nothing_new : (m : Question → Bool) (ks : List ℕ) → All (HasNothing m missing a spans) ks → All (λ k. k < length ctors) ks → AreAllListed IsValue m m (views ks) []
    nothing_new m [] none within = none_listed IsValue m
    nothing_new m (k ∷ ks) none within =
        let l = All-head (λ k. k < length ctors) k ks within in
        let (c, e) = some_at ctors k l in
        let long = length-map ctors plain_ctor in
        let read = read_at plain_ctor ctors k c l e in
        let enter = at_get (IsEnterable IsValue cx a) (plain_ctors ctors) k (plain_ctor c) pieces (got_at plain_ctor ctors k c l e) in
        subst (λ ss. AreAllListed IsValue m m ss []) (sym (one_view k ks c l e))
        (first_listed IsValue m m m (piece_view cx a missing (plain_ctor c)) (views ks) [] []
        (nothing_listed IsValue scope a apart m cx (plain_ctor c) missing enter
        (subst (λ ls. AreEnough m missing a ls []) (piece_leaves (plain_ctors ctors) k (plain_ctor c) (omega (arith, l, long)) (apart_leaves a) (plain_spans spans) are read)
        (All-head (HasNothing m missing a spans) k ks none)))
        (nothing_new m ks (All-tail (HasNothing m missing a spans) k ks none) (All-tail (λ k. k < length ctors) k ks within)))

    nothing_later : (old now : Question → Bool) (ks : List ℕ) → ((q : Question) → old q ≡ true → now q ≡ true) → All (HasNothing old missing a spans) ks → All (HasNothing now missing a spans) ks
    nothing_later old now [] grow none = All-nil (HasNothing now missing a spans)
    nothing_later old now (k ∷ ks) grow none =
        All-cons (HasNothing now missing a spans) k ks
        (λ count. stand_later old now _ _ _ grow (All-head (HasNothing old missing a spans) k ks none count))
        (nothing_later old now ks grow (All-tail (HasNothing old missing a spans) k ks none))

    -- the piece that was found was listed, and is gone with those that were passed over
    pub some_entered : (old now : Question → Bool) (before after : List ℕ) (found : PieceLeaves) (c : Ctor) (o : Option (Frame T)) → IsCutOff old missing a spans before after (Some found) → All (λ k. k < length ctors) before →
        c ≡ get_or ctors found.piece c → IsListedAs IsValue old now (piece_view cx a missing (plain_ctor c)) (child_views o) → IsEntered IsValue old now (views before) (views after) (child_views o)
    some_entered old now before after found c o off within e l =
        let piece = found.piece in
        let gone_within = back_all (λ k. k < length ctors) after (piece ∷ off.passed) (subst (All (λ k. k < length ctors)) off.split within) in
        let below = All-head (λ k. k < length ctors) piece off.passed gone_within in
        let view = piece_view cx a missing (plain_ctor c) in
        let weighs = listed_weighs IsValue old now view (child_views o) l in
        record {
          gone = view ∷ views off.passed;
          before_is = ap views off.split ∙ views_append after (piece ∷ off.passed) ∙ ap (λ ys. views after ++ ys) (one_view piece off.passed c below e);
          listed = first_listed IsValue old now now view (views off.passed) (child_views o) [] l
              (nothing_new now off.passed (nothing_later old now off.passed l.grow off.nothing) (All-tail (λ k. k < length ctors) piece off.passed gone_within));
          kept = λ b some. child_kept b o view (views off.passed) some weighs;
          less = λ b others long made. gone_less b others (child_views o) view (views off.passed) long made weighs;
        }

    -- none was found
    pub none_entered : (m : Question → Bool) (before after : List ℕ) → IsCutOff m missing a spans before after None → All (λ k. k < length ctors) before → 0 < length before → after ≡ [] → IsEntered IsValue m m (views before) (views after) []
    none_entered m before after off within some none =
        let passed : before ≡ off.passed = off.split ∙ ap (λ ys. ys ++ off.passed) none in
        go off.passed (subst (All (HasNothing m missing a spans)) refl off.nothing) (subst (All (λ k. k < length ctors)) passed within) (subst (λ ks. 0 < length ks) passed some) passed
      where
        go : (ks : List ℕ) → All (HasNothing m missing a spans) ks → All (λ k. k < length ctors) ks → 0 < length ks → before ≡ ks → IsEntered IsValue m m (views before) (views after) []
        go [] nothing within some e = absurd (omega (arith, some))
        go (k ∷ ks) nothing within some e =
            let below = All-head (λ k. k < length ctors) k ks within in
            let (c, d) = some_at ctors k below in
            let view = piece_view cx a missing (plain_ctor c) in
            record {
              gone = views (k ∷ ks);
              before_is = ap views e ∙ sym (ap (λ ys. views ys ++ views (k ∷ ks)) none);
              listed = nothing_new m (k ∷ ks) nothing within;
              kept = λ b some. omega arith;
              less = λ b others long made.
                  subst (λ ys. work b others < work b ys) (sym (one_view k ks c below d)) (gone_less b others [] view (views ks) long made (λ m (j, h, e). absurd (omega (arith, h))));
            }

  -- what is left of a column is an entry
  pub more_views : (p : Pending T) → todo_views cx (more_of p) ≡ pending_views cx p
  more_views p = go p.parts.items refl
    where
      go : (ps : List Part) → p.parts.items ≡ ps → todo_views cx (more_of p) ≡ pending_views cx p
      go [] e =
          ap (λ ps. todo_views cx (cond (some_parts ps) (Pieces p ∷ []) [])) e
          ∙ sym (ap (λ ps. map (piece_view cx p.apart p.missing) (ctors_at (plain_ctors p.pieces.items) (parts_left ps))) e)
      go (q ∷ qs) e = ap (λ ps. todo_views cx (cond (some_parts ps) (Pieces p ∷ []) [])) e ∙ append-nil (pending_views cx p)

  pub more_good : (m : Question → Bool) (p : Pending T) → IsPending IsType IsValue cx scope m p → All (IsTodo IsType IsValue cx scope m) (more_of p)
  more_good m p h = go p.parts.items refl
    where
      go : (ps : List Part) → p.parts.items ≡ ps → All (IsTodo IsType IsValue cx scope m) (more_of p)
      go [] e = subst (λ ps. All (IsTodo IsType IsValue cx scope m) (cond (some_parts ps) (Pieces p ∷ []) [])) (sym e) (All-nil (IsTodo IsType IsValue cx scope m))
      go (q ∷ qs) e =
          subst (λ ps. All (IsTodo IsType IsValue cx scope m) (cond (some_parts ps) (Pieces p ∷ []) [])) (sym e)
          (All-cons (IsTodo IsType IsValue cx scope m) (Pieces p) [] ((let long = ap length e in omega (arith, long)), h) (All-nil (IsTodo IsType IsValue cx scope m)))

  -- rows that were listed once more
  pub rows_taken : (old now : Question → Bool) (f : Frame T) (before after : List (Todo T)) (new : List (Submatrix T)) → IsListedAs IsValue old now (frame_view f) new → after ≡ before →
      IsTaken IsType IsValue cx scope old now (Rows f) before after new
  rows_taken old now f before after new l e = record {
    back = [];
    are = e ∙ sym (append-nil before);
    good = All-nil (IsTodo IsType IsValue cx scope now);
    next = record {
      stay = [];
      gone = frame_view f ∷ [];
      back = [];
      before_is = refl;
      after_is = refl;
      listed = single_listed IsValue old now (frame_view f) new l;
      less = λ b others long made. gone_less b others new (frame_view f) [] long made (listed_weighs IsValue old now (frame_view f) new l);
    };
  }

  -- rows alone
  pub rows_views : (w : Option (Frame T)) → todo_views cx (map Rows (option_to_list w)) ≡ child_views w
  rows_views None = refl
  rows_views (Some f) = refl

  pub rows_good : (m : Question → Bool) (w : Option (Frame T)) → IfSome w (λ f. IsGood scope f) → All (IsTodo IsType IsValue cx scope m) (map Rows (option_to_list w))
  rows_good m None h = All-nil (IsTodo IsType IsValue cx scope m)
  rows_good m (Some f) h = All-cons (IsTodo IsType IsValue cx scope m) (Rows f) [] h (All-nil (IsTodo IsType IsValue cx scope m))

  -- what is left of a column was put back as it was
  pub column_put : (m : Question → Bool) (p : Pending T) (before after : List (Todo T)) → IsPending IsType IsValue cx scope m p → after ≡ before ++ more_of p → IsPut IsType IsValue cx scope m m (pending_views cx p) before after
  column_put m p before after h e = record {
    back = more_of p;
    are = e;
    good = more_good m p h;
    stay = pending_views cx p;
    gone = [];
    new = [];
    left_is = sym (append-nil (pending_views cx p));
    back_is = more_views p ∙ sym (append-nil (pending_views cx p));
    listed = none_listed IsValue m;
    kept = λ b some. omega arith;
  }

  -- and so were rows of one of its pieces, which was entered
  pub rows_put : (old now : Question → Bool) (p q : Pending T) (o : Option (Frame T)) (before between after : List (Todo T)) → IsEntered IsValue old now (pending_views cx p) (pending_views cx q) (child_views o) →
      IsPending IsType IsValue cx scope now q → IfSome o (λ f. IsGood scope f) → between ≡ before ++ more_of q → after ≡ between ++ map Rows (option_to_list o) → IsPut IsType IsValue cx scope old now (pending_views cx p) before after
  rows_put old now p q o before between after n h good d e = record {
    back = more_of q ++ map Rows (option_to_list o);
    are = e ∙ ap (λ ys. ys ++ map Rows (option_to_list o)) d ∙ append_assoc before (more_of q) (map Rows (option_to_list o));
    good = All-append (IsTodo IsType IsValue cx scope now) (more_of q) (map Rows (option_to_list o)) (more_good now q h) (rows_good now o good);
    stay = pending_views cx q;
    gone = n.gone;
    new = child_views o;
    left_is = n.before_is;
    back_is = flat_map-append (todo_view cx) (more_of q) (map Rows (option_to_list o)) ∙ ap (λ ys. ys ++ todo_views cx (map Rows (option_to_list o))) (more_views q) ∙ ap (λ ys. pending_views cx q ++ ys) (rows_views o);
    listed = n.listed;
    kept = n.kept;
  }

  -- a column of which a piece was entered, and what else is left of it was put back
  pub pieces_taken : (old mid now : Question → Bool) (p q : Pending T) (before after : List (Todo T)) (new : List (Submatrix T)) → IsEntered IsValue old mid (pending_views cx p) (pending_views cx q) new →
      IsPut IsType IsValue cx scope mid now (pending_views cx q) before after → IsTaken IsType IsValue cx scope old now (Pieces p) before after new
  pieces_taken old mid now p q before after new n h = record {
    back = h.back;
    are = h.are;
    good = h.good;
    next = record {
      stay = h.stay;
      gone = h.gone ++ n.gone;
      back = h.new;
      before_is = n.before_is ∙ ap (λ ys. ys ++ n.gone) h.left_is ∙ append_assoc h.stay h.gone n.gone;
      after_is = h.back_is;
      listed = both_listed IsValue old mid now n.gone new h.gone h.new n.listed h.listed;
      less = λ b others long made.
          let less = n.less b others long made in
          let kept = h.kept b (omega (arith, long)) in
          let more = work_both b h.new others in
          let all = work_both b h.gone n.gone in
          omega (arith, less, kept, more, all);
    };
  }

  -- what is left of rows, as entries
  pub opened_are : (o : Opened T) → todo_views cx (opened_todo o) ≡ opened_views cx o
  opened_are o = flat_map-append (todo_view cx) (flat_map more_of (option_to_list o.pieces)) (map Rows (option_to_list o.wild)) ∙ go o.pieces o.wild
    where
      pieces_are : (p : Option (Pending T)) → todo_views cx (flat_map more_of (option_to_list p)) ≡ flat_map (pending_views cx) (option_to_list p)
      pieces_are None = refl
      pieces_are (Some p) = ap (todo_views cx) (append-nil (more_of p)) ∙ more_views p ∙ sym (append-nil (pending_views cx p))

      go : (p : Option (Pending T)) (w : Option (Frame T)) → todo_views cx (flat_map more_of (option_to_list p)) ++ todo_views cx (map Rows (option_to_list w)) ≡ flat_map (pending_views cx) (option_to_list p) ++ child_views w
      go p w = ap (λ ys. ys ++ todo_views cx (map Rows (option_to_list w))) (pieces_are p) ∙ ap (λ ys. flat_map (pending_views cx) (option_to_list p) ++ ys) (rows_views w)

  pub opened_good : (m : Question → Bool) (o : Opened T) → IsOpened IsType IsValue cx scope m o → All (IsTodo IsType IsValue cx scope m) (opened_todo o)
  opened_good m o h = All-append (IsTodo IsType IsValue cx scope m) (flat_map more_of (option_to_list o.pieces)) (map Rows (option_to_list o.wild)) (pieces_good o.pieces h.pieces) (rows_good m o.wild h.wild)
    where
      pieces_good : (p : Option (Pending T)) → IfSome p (λ p. IsPending IsType IsValue cx scope m p) → All (IsTodo IsType IsValue cx scope m) (flat_map more_of (option_to_list p))
      pieces_good None h = All-nil (IsTodo IsType IsValue cx scope m)
      pieces_good (Some p) h = subst (All (IsTodo IsType IsValue cx scope m)) (sym (append-nil (more_of p))) (more_good m p h)

  -- there are few
  pub opened_few : (m : Question → Bool) (o : Opened T) → IsOpened IsType IsValue cx scope m o → length (opened_views cx o) < 2 ^ 65
  opened_few m o h =
      let both = length-append (flat_map (pending_views cx) (option_to_list o.pieces)) (child_views o.wild) in
      let pieces = pieces_few o.pieces h.pieces in
      let wild = wild_few o.wild in
      omega (arith, both, pieces, wild)
    where
      pieces_few : (p : Option (Pending T)) → IfSome p (λ p. IsPending IsType IsValue cx scope m p) → length (flat_map (pending_views cx) (option_to_list p)) < 2 ^ 64
      pieces_few None h = omega arith
      pieces_few (Some p) h =
          let all = ap length (append-nil (pending_views cx p)) in
          let same = length-map (ctors_at (plain_ctors p.pieces.items) (parts_left p.parts.items)) (piece_view cx p.apart p.missing) in
          let less = ctors_few (plain_ctors p.pieces.items) (parts_left p.parts.items) in
          let few = h.few in
          let long = p.pieces.ok in
          omega (arith, all, same, less, few, long)

      wild_few : (w : Option (Frame T)) → length (child_views w) ≤ 1
      wild_few None = omega arith
      wild_few (Some f) = omega arith
