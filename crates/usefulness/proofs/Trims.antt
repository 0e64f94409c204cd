-- Leaves that bring nothing new are left out behind the others, and halves where nothing is left.
use Rattle.std.proofs.Common.{◌≡◌, ◌==◌, inl, inr, ◌≤◌, ◌<◌, ℕ, zero, suc, ◌+◌, ◌-◌, ◌*◌, Bool, true, false, not, ◌&&◌, List, [], ◌∷◌, ◌++◌, map, cond, length, take, drop, Option, Some, None, refl, sym, ap, subst, ◌∙◌, arith, slice_get, append-nil, append_assoc}
use Rattle.std.proofs.lemmas.Bool.{eqb-true}
use Rattle.std.proofs.lemmas.List.Elements.{All-nil, All-cons, All-head, All-tail, All-append}
use Rattle.std.proofs.lemmas.Grind.{flat_map-append}
use Rattle.std.specs.List.{All, list_all}
use Rattle.std.specs.Option.{option_to_list}
use Rattle.match_model.specs.ArenaPatterns.{MDePat, de_pat, MDePats, no_de_pats, more_de_pats, de_pats_list, uid_of}
use Rattle.match_model.specs.Constructors.{MCtor, RowCtor, LongerShape, WildCtor}
use Rattle.match_model.specs.Numbering.{is_choice}
use Rattle.match_model.specs.Rows.{Head, is_wild, wildcards, heads_of}
use Rattle.match_model.proofs.Basics.{untrue, both, either}
use Rattle.constructor_sets.specs.declared.piece.Span.{Span}
use Rattle.pattern_matrix.specs.Sparse.{SparseLeaf, columns_from, leaves_listed, leaf_parts, listed, without}
use Rattle.pattern_matrix.specs.Halving.{span_has, span_meets, having, leaves_with}
use Rattle.pattern_matrix.specs.Parts.{plain_spans, pieces_in}
use Rattle.pattern_matrix.specs.declared.halving.Part.{Part}
use Rattle.pattern_matrix.specs.declared.halving.PieceLeaves.{PieceLeaves}
use Rattle.pattern_matrix.specs.Counting.{Question, to_arm, through_alternative}
use Rattle.pattern_matrix.specs.Searching.{IsDone, StandFor}
use Rattle.pattern_matrix.proofs.Halves.{split_pieces}
use Rattle.usefulness.specs.declared.frames.Apart.{Apart}
use Rattle.usefulness.specs.declared.marks.Marks.{Marks}
use Rattle.usefulness.specs.Frames.{SparseAsked, asked_view, asked_views}
use Rattle.usefulness.specs.Marking.{is_marked}
use Rattle.usefulness.specs.Done.{choices_within, choices_among, are_marked, is_done}
use Rattle.usefulness.specs.States.{apart_rows, apart_leaves, other_numbers}
use Rattle.usefulness.specs.Cutting.{is_wanted_at, is_marked_at, is_settled_head, is_over_at, entered_rows, AreEnough, IsCutPart, IsCutSoFar, IsOver, IsTrimmed, IsCutWhole, IsHalved, parts_left, cut_work, HasNothing, IsCutOff}
use Rattle.usefulness.proofs.DoneRows.{done_row}
use Rattle.usefulness.proofs.Settled.{all_both}
use Rattle.usefulness.proofs.Enough.{stand_both, done_behind}
use Rattle.usefulness.proofs.Cuts.{marked_append, one, columns, at, at_append, cut_enough, cut_half}

-- ---- heads of which all alternatives are marked

all_two : {A : Type 0} (f : A → Bool) (xs ys : List A) → list_all f xs ≡ true → list_all f ys ≡ true → list_all f (xs ++ ys) ≡ true
all_two f xs ys e g = all_both f xs ys ∙ ap (λ b. b && list_all f ys) e ∙ g

two_all : {A : Type 0} (f : A → Bool) (xs ys : List A) → list_all f (xs ++ ys) ≡ true → (list_all f xs ≡ true) × (list_all f ys ≡ true)
two_all f xs ys e = both (list_all f xs) (list_all f ys) (sym (all_both f xs ys) ∙ e)

wild_ok : (T : Type 0) (m : Question → Bool) (arm n : ℕ) → list_all (λ (h : Head T). is_settled_head m arm h) (wildcards n) ≡ true
wild_ok T m arm zero = refl
wild_ok T m arm (suc n) = wild_ok T m arm n

module _ {T : Type 0} (m : Question → Bool) (arm : ℕ) where
  abbrev ok : Head T → Bool
  ok h = is_settled_head m arm h

  abbrev settled : ℕ × MDePat T → Bool
  settled h = are_marked m arm (choices_within h.1)

  take_ok : (n : ℕ) (hs : List (Head T)) → list_all ok hs ≡ true → list_all ok (take n hs) ≡ true
  take_ok zero hs e = refl
  take_ok (suc n) [] e = refl
  take_ok (suc n) (h ∷ hs) e = let k = both (ok h) (list_all ok hs) e in ap (λ b. b && list_all ok (take n hs)) k.0 ∙ take_ok n hs k.1

  drop_ok : (n : ℕ) (hs : List (Head T)) → list_all ok hs ≡ true → list_all ok (drop n hs) ≡ true
  drop_ok zero hs e = e
  drop_ok (suc n) [] e = refl
  drop_ok (suc n) (h ∷ hs) e = drop_ok n hs (both (ok h) (list_all ok hs) e).1

  heads_ok : (c : MCtor) (hs : List (Head T)) (n : ℕ) → list_all ok hs ≡ true → list_all ok (heads_of c hs n) ≡ true
  heads_ok (RowCtor (LongerShape f b)) hs n e =
      all_two ok (take f hs) (wildcards (n - (f + b)) ++ drop f hs) (take_ok f hs e)
      (all_two ok (wildcards (n - (f + b))) (drop f hs) (wild_ok T m arm (n - (f + b))) (drop_ok f hs e))
  heads_ok WildCtor hs n e = wild_ok T m arm n
  heads_ok _ hs n e = e

  subs_ok : (choice : Bool) (ps : MDePats T) → are_marked m arm (choices_among choice ps) ≡ true → list_all ok (map Some (de_pats_list ps)) ≡ true
  subs_ok choice no_de_pats e = refl
  subs_ok choice (more_de_pats p ps) e =
      let f : ℕ → Bool = λ id. m (through_alternative arm id) in
      let k = two_all f (cond choice (uid_of p ∷ []) []) (choices_within p ++ choices_among choice ps) e in
      let j = two_all f (choices_within p) (choices_among choice ps) k.1 in
      ap (λ b. b && list_all ok (map Some (de_pats_list ps))) j.0 ∙ subs_ok choice ps j.1

  parts_ok : (h : Head T) (count : ℕ) → ok h ≡ true → list_all ok (leaf_parts count h) ≡ true
  parts_ok None count e = wild_ok T m arm count
  parts_ok (Some (de_pat c t uid at subs binds)) count e = heads_ok c (map Some (de_pats_list subs)) count (subs_ok (is_choice c subs) subs e)

  listed_ok : (first : ℕ) (hs : List (Head T)) → list_all ok hs ≡ true → list_all settled (listed first hs) ≡ true
  listed_ok first [] e = refl
  listed_ok first (None ∷ hs) e = listed_ok (suc first) hs e
  listed_ok first (Some p ∷ hs) e =
      let k = both (ok (Some p)) (list_all ok hs) e in
      go (is_wild (Some p)) k.0 (listed_ok (suc first) hs k.1)
    where
      go : (w : Bool) → are_marked m arm (choices_within p) ≡ true → list_all settled (listed (suc first) hs) ≡ true → list_all settled (cond w [] ((first, p) ∷ []) ++ listed (suc first) hs) ≡ true
      go true a b = b
      go false a b = ap (λ c. c && list_all settled (listed (suc first) hs)) a ∙ b

-- a leaf that brings nothing new has a row of which everything is marked
module _ {T : Type 0} (missing : Bool) (a : Apart T) (count : ℕ) (l : SparseLeaf T) (x : SparseAsked T) (marks : Marks) where
  abbrev f : ℕ × MDePat T → Bool
  f h = are_marked (is_marked marks) x.row.arm (choices_within h.1)

  pub over_done : is_over_at (is_marked marks) missing a.taken.number x l ≡ true → IsDone (is_marked marks) (asked_view (columns missing a count l x) (one missing a count l x))
  over_done e = elim (either (not (is_wanted_at missing x l)) (is_marked_at (is_marked marks) x.row l && (is_settled_head (is_marked marks) x.row.arm l.head && list_all f (without a.taken.number x.row.heads))) e) [
    | inl n ↦ (λ w. untrue (off (one missing a count l x).wanted n w))
    | inr k ↦ done_row marks (one missing a count l x) (columns missing a count l x) (all_done k)
  ]
    where
      off : (w : Bool) → not w ≡ true → w ≡ true → false ≡ true
      off true n w = n
      off false n w = w

      all_done : (is_marked_at (is_marked marks) x.row l && (is_settled_head (is_marked marks) x.row.arm l.head && list_all f (without a.taken.number x.row.heads))) ≡ true → is_done (is_marked marks) (one missing a count l x).row ≡ true
      all_done k =
          let two = both (is_marked_at (is_marked marks) x.row l) (is_settled_head (is_marked marks) x.row.arm l.head && list_all f (without a.taken.number x.row.heads)) k in
          let heads = both (is_settled_head (is_marked marks) x.row.arm l.head) (list_all f (without a.taken.number x.row.heads)) two.1 in
          let arm = both (is_marked marks (to_arm x.row.arm)) (are_marked (is_marked marks) x.row.arm x.row.chosen && are_marked (is_marked marks) x.row.arm l.chosen) two.0 in
          let rest = both (are_marked (is_marked marks) x.row.arm x.row.chosen) (are_marked (is_marked marks) x.row.arm l.chosen) arm.1 in
          let chosen = marked_append (is_marked marks) x.row.arm x.row.chosen l.chosen rest.0 rest.1 in
          let parts = listed_ok (is_marked marks) x.row.arm a.next (leaf_parts count l.head) (parts_ok (is_marked marks) x.row.arm l.head count heads.0) in
          ap (λ c. c && (are_marked (is_marked marks) x.row.arm (x.row.chosen ++ l.chosen) && list_all f (one missing a count l x).row.heads)) arm.0
          ∙ ap (λ c. c && list_all f (one missing a count l x).row.heads) chosen
          ∙ all_two f (listed a.next (leaf_parts count l.head)) (without a.taken.number x.row.heads) parts heads.1

-- ---- leaves that are left out

module _ {T : Type 0} (missing : Bool) (a : Apart T) (spans : List Span) where
  rows_over : (marks : Marks) (k : ℕ) → IsOver (is_marked marks) missing a k → (i count : ℕ) → All (IsDone (is_marked marks)) (at missing a spans i count (k ∷ []))
  rows_over marks k over i count = by_span (span_has i (slice_get (plain_spans spans) k))
    where
      cols : List ℕ
      cols = columns_from a.next count ++ other_numbers a

      by_row : (l : SparseLeaf T) → slice_get (apart_leaves a) k ≡ Some l → (o : Option (SparseAsked T)) → slice_get (apart_rows a) l.row ≡ o →
          All (IsDone (is_marked marks)) (asked_views (columns_from a.next count ++ other_numbers a) (map (λ x. one missing a count l x) (option_to_list o) ++ []))
      by_row l e None f = All-nil (IsDone (is_marked marks))
      by_row l e (Some x) f = All-cons (IsDone (is_marked marks)) (asked_view (columns_from a.next count ++ other_numbers a) (one missing a count l x)) [] (over_done missing a count l x marks (over l x e f)) (All-nil (IsDone (is_marked marks)))

      by_leaf : (o : Option (SparseLeaf T)) → slice_get (apart_leaves a) k ≡ o → All (IsDone (is_marked marks)) (entered_rows missing a count (option_to_list o ++ []))
      by_leaf None e = All-nil (IsDone (is_marked marks))
      by_leaf (Some l) e = by_row l e (slice_get (apart_rows a) l.row) refl

      by_span : (b : Bool) → All (IsDone (is_marked marks)) (entered_rows missing a count (leaves_listed (apart_leaves a) (cond b (k ∷ []) [])))
      by_span true = by_leaf (slice_get (apart_leaves a) k) refl
      by_span false = All-nil (IsDone (is_marked marks))

  all_over : (marks : Marks) (ks : List ℕ) → All (IsOver (is_marked marks) missing a) ks → (i count : ℕ) → All (IsDone (is_marked marks)) (at missing a spans i count ks)
  all_over marks [] over i count = All-nil (IsDone (is_marked marks))
  all_over marks (k ∷ ks) over i count =
      subst (All (IsDone (is_marked marks))) (sym (at_append missing a spans i count (k ∷ []) ks))
      (All-append (IsDone (is_marked marks)) (at missing a spans i count (k ∷ [])) (at missing a spans i count ks)
      (rows_over marks k (All-head (IsOver (is_marked marks) missing a) k ks over) i count) (all_over marks ks (All-tail (IsOver (is_marked marks) missing a) k ks over) i count))

  all_front : {A : Type 0} (P : A → Type 0) (xs ys : List A) → All P (xs ++ ys) → All P xs
  all_front P [] ys all = All-nil P
  all_front P (x ∷ xs) ys all = All-cons P x xs (All-head P x (xs ++ ys) all) (all_front P xs ys (All-tail P x (xs ++ ys) all))

  pub whole_kept : (marks : Marks) (p : Part) (before kept : List ℕ) → IsCutPart (is_marked marks) missing a spans p → IsCutSoFar (is_marked marks) missing a spans p.first p.end p.leaves.items before →
      IsTrimmed (is_marked marks) missing a before kept → IsCutWhole (is_marked marks) missing a spans p.first p.end kept
  whole_kept marks p before kept part so_far trimmed =
      let within = subst (All (λ k. k < length spans)) trimmed.split so_far.within in
      let met = subst (All (λ k. span_meets p.first p.end (slice_get (plain_spans spans) k) ≡ true)) trimmed.split so_far.met in
      record {
        within = all_front (λ k. k < length spans) kept trimmed.behind within;
        met = all_front (λ k. span_meets p.first p.end (slice_get (plain_spans spans) k) ≡ true) kept trimmed.behind met;
        enough = λ i low high count.
            let n = length (columns_from a.next count ++ other_numbers a) in
            stand_both (is_marked marks) n (entered_rows missing a count (leaves_listed (apart_leaves a) (leaves_with (plain_spans spans) i))) (at missing a spans i count before) (at missing a spans i count kept)
            (cut_enough missing a spans (is_marked marks) p before part so_far i low high count)
            (subst (λ ys. StandFor (is_marked marks) n ys (at missing a spans i count kept)) (sym (ap (at missing a spans i count) trimmed.split ∙ at_append missing a spans i count kept trimmed.behind))
            (done_behind (is_marked marks) n (at missing a spans i count kept) (at missing a spans i count trimmed.behind) (all_over marks trimmed.behind trimmed.over i count)));
      }

  -- nothing was left out at first, and one number more
  pub none_trimmed : (m : Question → Bool) (kept : List ℕ) → IsTrimmed m missing a kept kept
  none_trimmed m kept = record { behind = []; split = sym (append-nil kept); over = All-nil (IsOver m missing a) }

  pub more_trimmed : (m : Question → Bool) (before kept less : List ℕ) (k : ℕ) → IsTrimmed m missing a before kept → kept ≡ less ++ k ∷ [] → IsOver m missing a k → IsTrimmed m missing a before less
  more_trimmed m before kept less k t e o = record {
    behind = k ∷ t.behind;
    split = t.split ∙ ap (λ ys. ys ++ t.behind) e ∙ append_assoc less (k ∷ []) t.behind;
    over = All-cons (IsOver m missing a) k t.behind o t.over;
  }

  -- what was left out is put back
  pub same_trimmed : (m : Question → Bool) (before kept less again : List ℕ) (k : ℕ) → IsTrimmed m missing a before kept → kept ≡ less ++ k ∷ [] → again ≡ less ++ k ∷ [] → IsTrimmed m missing a before again
  same_trimmed m before kept less again k t e f = subst (IsTrimmed m missing a before) (e ∙ sym f) t

  -- where no leaf is kept nothing comes of any piece
  pub part_empty : (m : Question → Bool) (p : Part) (kept : List ℕ) (left : List ℕ) → IsCutWhole m missing a spans p.first p.end kept → kept ≡ [] → p.first < p.end → IsCutOff m missing a spans (left ++ pieces_in p) left None
  part_empty m p kept left w e some = record {
    passed = pieces_in p;
    split = refl;
    nothing = none_of p.first (p.end - p.first) (omega arith) (omega (arith, some));
  }
    where
      none_of : (first n : ℕ) → p.first ≤ first → first + n ≤ p.end → All (HasNothing m missing a spans) (columns_from first n)
      none_of first zero low high = All-nil (HasNothing m missing a spans)
      none_of first (suc n) low high =
          All-cons (HasNothing m missing a spans) first (columns_from (suc first) n)
          (subst (λ ks. AreEnough m missing a (leaves_listed (apart_leaves a) (leaves_with (plain_spans spans) first)) (leaves_listed (apart_leaves a) (having (plain_spans spans) first ks))) e (w.enough first low (omega (arith, high))))
          (none_of (suc first) n (omega (arith, low)) (omega (arith, high)))

  -- both halves are parts
  pub halves_cut : (m : Question → Bool) (p : Part) (kept : List ℕ) (before after : List Part) → IsCutWhole m missing a spans p.first p.end kept → IsHalved p.first p.end kept before after →
      All (IsCutPart m missing a spans) before → All (IsCutPart m missing a spans) after
  halves_cut m p kept before after w h all =
      let first = h.first in
      let middle = h.middle in
      let last = h.last in
      let low_some = h.some_low in
      let high_some = h.some_high in
      subst (All (IsCutPart m missing a spans)) (sym h.are)
      (All-append (IsCutPart m missing a spans) (before ++ h.low ∷ []) (h.high ∷ [])
      (All-append (IsCutPart m missing a spans) before (h.low ∷ []) all (All-cons (IsCutPart m missing a spans) h.low []
      (cut_half missing a spans m p h.low (omega (arith, first)) low_some (omega (arith, middle, high_some, last)) (subst (All (λ k. k < length spans)) (sym h.low_leaves) w.within)
      (λ i low high. subst (λ ks. AreEnough m missing a (leaves_listed (apart_leaves a) (leaves_with (plain_spans spans) i)) (leaves_listed (apart_leaves a) (having (plain_spans spans) i ks))) (sym h.low_leaves) (w.enough i low high)))
      (All-nil (IsCutPart m missing a spans))))
      (All-cons (IsCutPart m missing a spans) h.high []
      (cut_half missing a spans m p h.high (omega (arith, first, middle, low_some)) high_some (omega (arith, last)) (subst (All (λ k. k < length spans)) (sym h.high_leaves) w.within)
      (λ i low high. subst (λ ks. AreEnough m missing a (leaves_listed (apart_leaves a) (leaves_with (plain_spans spans) i)) (leaves_listed (apart_leaves a) (having (plain_spans spans) i ks))) (sym h.high_leaves) (w.enough i low high)))
      (All-nil (IsCutPart m missing a spans))))

  -- and have its pieces
  pub halves_left : (m : Question → Bool) (p : Part) (kept : List ℕ) (before after : List Part) → IsHalved p.first p.end kept before after → IsCutOff m missing a spans (parts_left before ++ pieces_in p) (parts_left after) None
  halves_left m p kept before after h = record {
    passed = [];
    split =
        (let first = h.first in
        let middle = h.middle in
        let last = h.last in
        let low_some = h.some_low in
        let high_some = h.some_high in
        let ends : pieces_in p ≡ columns_from h.low.first (h.high.end - h.low.first) = ap (λ n. columns_from n (p.end - n)) (sym first) ∙ ap (λ n. columns_from h.low.first (n - h.low.first)) (sym last) in
        let cut : columns_from h.low.first (h.high.end - h.low.first) ≡ pieces_in h.low ++ columns_from h.low.end (h.high.end - h.low.end) = split_pieces h.low.first h.low.end h.high.end (omega (arith, low_some)) (omega (arith, middle, high_some)) in
        let high_is : columns_from h.low.end (h.high.end - h.low.end) ≡ pieces_in h.high = ap (λ n. columns_from n (h.high.end - n)) middle in
        ap (λ ys. parts_left before ++ ys) (ends ∙ cut ∙ ap (λ ys. pieces_in h.low ++ ys) high_is)
        ∙ sym (ap parts_left h.are ∙ flat_map-append pieces_in (before ++ h.low ∷ []) (h.high ∷ []) ∙ ap (λ ys. ys ++ parts_left (h.high ∷ [])) (flat_map-append pieces_in before (h.low ∷ []))
        ∙ append_assoc (parts_left before) (parts_left (h.low ∷ [])) (parts_left (h.high ∷ []))
        ∙ ap (λ ys. parts_left before ++ ys) (ap (λ ys. ys ++ parts_left (h.high ∷ [])) (append-nil (pieces_in h.low)) ∙ ap (λ ys. pieces_in h.low ++ ys) (append-nil (pieces_in h.high))))
        ∙ sym (append-nil (parts_left after)));
    nothing = All-nil (HasNothing m missing a spans);
  }

  -- pieces that are passed over one after the other
  pub both_off : (m : Question → Bool) (before mid after : List ℕ) (found : Option PieceLeaves) → IsCutOff m missing a spans before mid None → IsCutOff m missing a spans mid after found → IsCutOff m missing a spans before after found
  both_off m before mid after found x y = record {
    passed = y.passed ++ x.passed;
    split =
        x.split ∙ ap (λ ys. ys ++ x.passed) y.split
        ∙ append_assoc after (map (λ (p : PieceLeaves). p.piece) (option_to_list found) ++ y.passed) x.passed
        ∙ ap (λ ys. after ++ ys) (append_assoc (map (λ (p : PieceLeaves). p.piece) (option_to_list found)) y.passed x.passed);
    nothing = All-append (HasNothing m missing a spans) y.passed x.passed y.nothing x.nothing;
  }

  pub none_off : (m : Question → Bool) (left : List ℕ) → IsCutOff m missing a spans left left None
  none_off m left = record { passed = []; split = sym (append-nil left); nothing = All-nil (HasNothing m missing a spans) }

-- ---- how much is to be done

pub work_more : (parts : List Part) (p : Part) → cut_work (parts ++ p ∷ []) ≡ cut_work parts + (2 * (p.end - p.first) - 1)
work_more [] p = omega arith
work_more (q ∷ parts) p = let e = work_more parts p in omega (arith, e)

-- a part that is left out, or halved
pub less_out : (parts : List Part) (p : Part) → p.first < p.end → cut_work parts < cut_work (parts ++ p ∷ [])
less_out parts p some = let e = work_more parts p in omega (arith, e, some)

pub less_halved : (parts after : List Part) (p : Part) (kept : List ℕ) → IsHalved p.first p.end kept parts after → cut_work after < cut_work (parts ++ p ∷ [])
less_halved parts after p kept h =
    let first = h.first in
    let middle = h.middle in
    let last = h.last in
    let low = h.some_low in
    let high = h.some_high in
    let e = work_more parts p in
    let f = work_more parts h.low in
    let g = work_more (parts ++ h.low ∷ []) h.high in
    let are = ap cut_work h.are in
    omega (arith, e, f, g, are, first, middle, last, low, high)

-- the parts with one behind them
pub left_behind : (parts : List Part) (p : Part) → parts_left (parts ++ p ∷ []) ≡ parts_left parts ++ pieces_in p
left_behind parts p = flat_map-append pieces_in parts (p ∷ []) ∙ ap (λ ys. parts_left parts ++ ys) (append-nil (pieces_in p))

-- what is got is one thing
pub got_same : {X : Type 0} (x y : X) → Some x ≡ Some y → x ≡ y
got_same x y e = cc

-- a list without elements
pub none_left : {X : Type 0} (xs : List X) (len : ℕ) → length xs ≡ len → (len == 0) ≡ true → xs ≡ []
none_left [] len e f = refl
none_left (x ∷ xs) len e f = absurd (let z = eqb-true len 0 f in omega (arith, z, e))
