-- Pieces that are cut at the ends of a column's ranges, with true flags, are a split.
use Rattle.std.proofs.Common.{◌≡◌, ℕ, zero, suc, ℤ, pos, ◌<◌, ◌+ℤ◌, ◌-ℤ◌, Bool, true, false, cond, ◌&&◌, ◌||◌, List, [], ◌∷◌, map, length, get_or, refl, arith, sym, ◌∙◌, ap, subst, add-one}
use Rattle.std.specs.Prelude.{IsTrue, int_le}
use Rattle.std.specs.Ordering.{int_eq}
use Rattle.std.specs.List.{All, list_any}
use Rattle.std.proofs.lemmas.Int.{ints}
use Rattle.std.proofs.lemmas.Bool.Decides.{Decides-int_eq}
use Rattle.std.proofs.lemmas.List.{get_or-map, length-map}
use Rattle.std.proofs.lemmas.List.Elements.{All-nil, All-cons, All-head, All-tail}
use Rattle.std.proofs.lemmas.List.Folds.{list_any_at, Any-from_list_any}
use Rattle.match_model.specs.Numbers.{MEnd, Free, At, MRange, in_range, is_from, is_up_to}
use Rattle.match_model.specs.Constructors.{low_within, high_within}
use Rattle.match_model.specs.Pieces.{Follow, last_one, one_more, is_at, IsCut, is_cut_at}
use Rattle.range_split.specs.Ranges.{IsBelow}
use Rattle.range_split.specs.Ends.{ends_ascend}
use Rattle.range_split.specs.Splits.{IsOnOneSide, AreToldApart, IsSplit}
use Rattle.range_split.proofs.Basics.{both_true, and_true, same_bool, reflexive, back, piece_of}
use Rattle.range_split.specs.Walks.{range_of}
use Rattle.range_split.proofs.Following.{Follow-together}
use Rattle.range_split.proofs.Sides.{Follow-pairs, Follow-inside, Follow-within, none_any, one_side}

-- ---- which ranges have a piece

abbrev lesser : ℤ → ℤ → ℤ
lesser a n = cond (int_le a n) (a -ℤ pos 1) n

abbrev greater : ℤ → ℤ → ℤ
greater b n = cond (int_le n b) (b +ℤ pos 1) n

has_low : (low high a : MEnd) (n : ℤ) → IsTrue (in_range (range_of low high) n) → ((m : ℤ) → IsTrue (in_range (range_of low high) m) → IsTrue (is_from a m)) → IsTrue (low_within a low)
has_low low high Free n h all = refl
has_low (At l) high (At a) n h all = all l (first l high n h)
  where
    first : (l : ℤ) (high : MEnd) (n : ℤ) → IsTrue (in_range (range_of (At l) high) n) → IsTrue (in_range (range_of (At l) high) l)
    first l Free n h = and_true _ _ (reflexive l) refl
    first l (At b) n h = and_true _ _ (reflexive l) (through l b n (both_true _ _ h).0 (both_true _ _ h).1)
      where
        through : (l b n : ℤ) → IsTrue (int_le l n) → IsTrue (int_le n b) → IsTrue (int_le l b)
        through l b n p q = grind (arith, ints)
has_low Free high (At a) n h all = absurd (beyond a n (all (lesser a n) (below high a n h)))
  where
    below : (high : MEnd) (a n : ℤ) → IsTrue (in_range (range_of Free high) n) → IsTrue (in_range (range_of Free high) (lesser a n))
    below Free a n h = refl
    below (At b) a n h = numbers a n b h
      where
        numbers : (a n b : ℤ) → IsTrue (int_le n b) → IsTrue (int_le (cond (int_le a n) (a -ℤ pos 1) n) b)
        numbers a n b h = grind (arith, ints)

    beyond : (a n : ℤ) → IsTrue (int_le a (lesser a n)) → ⊥
    beyond a n h = grind (arith, ints)

has_high : (low high b : MEnd) (n : ℤ) → IsTrue (in_range (range_of low high) n) → ((m : ℤ) → IsTrue (in_range (range_of low high) m) → IsTrue (is_up_to b m)) → IsTrue (high_within b high)
has_high low high Free n h all = refl
has_high low (At l) (At b) n h all = all l (last low l n h)
  where
    last : (low : MEnd) (l n : ℤ) → IsTrue (in_range (range_of low (At l)) n) → IsTrue (in_range (range_of low (At l)) l)
    last Free l n h = reflexive l
    last (At a) l n h = and_true _ _ (through a l n (both_true _ _ h).0 (both_true _ _ h).1) (reflexive l)
      where
        through : (a l n : ℤ) → IsTrue (int_le a n) → IsTrue (int_le n l) → IsTrue (int_le a l)
        through a l n p q = grind (arith, ints)
has_high low Free (At b) n h all = absurd (beyond b n (all (greater b n) (above low b n h)))
  where
    above : (low : MEnd) (b n : ℤ) → IsTrue (in_range (range_of low Free) n) → IsTrue (in_range (range_of low Free) (greater b n))
    above Free b n h = refl
    above (At a) b n h = and_true _ _ (numbers a b n (both_true _ _ h).0) refl
      where
        numbers : (a b n : ℤ) → IsTrue (int_le a n) → IsTrue (int_le a (cond (int_le n b) (b +ℤ pos 1) n))
        numbers a b n h = grind (arith, ints)

    beyond : (b n : ℤ) → IsTrue (int_le (greater b n) b) → ⊥
    beyond b n h = grind (arith, ints)

from_low : (a low : MEnd) (n : ℤ) → IsTrue (low_within a low) → IsTrue (is_from low n) → IsTrue (is_from a n)
from_low Free low n p q = refl
from_low (At a) Free n p q = absurd (cc)
from_low (At a) (At l) n p q = grind (arith, ints)

from_high : (b high : MEnd) (n : ℤ) → IsTrue (high_within b high) → IsTrue (is_up_to high n) → IsTrue (is_up_to b n)
from_high Free high n p q = refl
from_high (At b) Free n p q = absurd (cc)
from_high (At b) (At l) n p q = grind (arith, ints)

-- a range that has all of a piece or nothing has a number of the piece exactly where it has the piece
pub has_number : (p r : MRange) → IsOnOneSide p r → (n : ℤ) → IsTrue (in_range p n) → in_range r n ≡ (low_within r.low p.low && high_within r.high p.high)
has_number p r side n h =
    same_bool (in_range r n) (low_within r.low p.low && high_within r.high p.high)
    (λ t. and_true _ _
    (has_low p.low p.high r.low n h (λ m i. (both_true _ _ (side m n i h ∙ t)).0))
    (has_high p.low p.high r.high n h (λ m i. (both_true _ _ (side m n i h ∙ t)).1)))
    (λ t. let s = both_true _ _ t in
    and_true _ _ (from_low r.low p.low n s.0 (both_true _ _ h).0) (from_high r.high p.high n s.1 (both_true _ _ h).1))

pub list_any-agree : {A : Type 0} (f g : A → Bool) (xs : List A) → All (λ x. f x ≡ g x) xs → list_any f xs ≡ list_any g xs
list_any-agree f g [] h = refl
list_any-agree f g (x ∷ xs) h =
    ap (λ b. b || list_any f xs) (All-head (λ x. f x ≡ g x) x xs h) ∙ ap (λ b. g x || b) (list_any-agree f g xs (All-tail (λ x. f x ≡ g x) x xs h))

-- what holds of the images holds of the elements
pub All-unmap : {A B : Type 0} (P : B → Type 0) (f : A → B) (xs : List A) → All P (map f xs) → All (λ x. P (f x)) xs
All-unmap P f xs h = λ k d l.
    let m : k < length (map f xs) = omega (arith, length-map xs f) in
    subst P (get_or-map f xs k d (f d) l) (h k (f d) m)

pub list_any-map : {A B : Type 0} (p : B → Bool) (f : A → B) (xs : List A) → list_any p (map f xs) ≡ list_any (λ x. p (f x)) xs
list_any-map p f [] = refl
list_any-map p f (x ∷ xs) = ap (λ b. p (f x) || b) (list_any-map p f xs)

-- ---- pieces one after the other

-- each piece has a number
pub Follow-number : {low high : MEnd} {ps : List MRange} → Follow low high ps → All (λ p. (n : ℤ) × IsTrue (in_range p n)) ps
Follow-number (last_one low high n h) = All-cons (λ p. (n : ℤ) × IsTrue (in_range p n)) (range_of low high) [] (n, h) (All-nil (λ p. (n : ℤ) × IsTrue (in_range p n)))
Follow-number (one_more low high n rest h f) = All-cons (λ p. (n : ℤ) × IsTrue (in_range p n)) (range_of low (At n)) rest (n, h) (Follow-number f)

-- one piece ends at a number that it has, and the other begins right behind with a number that it has
pub record Touch (p q : MRange) : Type 0 where
  pub at : ℤ
  pub in_first : IsTrue (in_range p at)
  pub begins : q.low ≡ At (at +ℤ pos 1)
  pub in_second : IsTrue (in_range q (at +ℤ pos 1))

Follow-first : {low high : MEnd} {ps : List MRange} → Follow low high ps → (l : ℤ) (d : MRange) → low ≡ At l → ((get_or ps 0 d).low ≡ At l) × IsTrue (in_range (get_or ps 0 d) l)
Follow-first (last_one low high n h) l d e = (e, first low high n l e h)
  where
    first : (low high : MEnd) (n l : ℤ) → low ≡ At l → IsTrue (in_range (range_of low high) n) → IsTrue (in_range (range_of low high) l)
    first Free high n l e h = absurd (cc)
    first (At a) Free n l e h = let s : a ≡ l = cc in and_true _ _ (subst (λ x. IsTrue (int_le x l)) (sym s) (reflexive l)) refl
    first (At a) (At b) n l e h = let s : a ≡ l = cc in
        and_true _ _ (subst (λ x. IsTrue (int_le x l)) (sym s) (reflexive l))
        (through l n b (subst (λ x. IsTrue (int_le x n)) s (both_true _ _ h).0) (both_true _ _ h).1)
      where
        through : (l n b : ℤ) → IsTrue (int_le l n) → IsTrue (int_le n b) → IsTrue (int_le l b)
        through l n b p q = grind (arith, ints)
Follow-first (one_more low high n rest h f) l d e = (e, first low n l e h)
  where
    first : (low : MEnd) (n l : ℤ) → low ≡ At l → IsTrue (in_range (range_of low (At n)) n) → IsTrue (in_range (range_of low (At n)) l)
    first Free n l e h = absurd (cc)
    first (At a) n l e h = let s : a ≡ l = cc in
        and_true _ _ (subst (λ x. IsTrue (int_le x l)) (sym s) (reflexive l)) (subst (λ x. IsTrue (int_le x n)) s (both_true _ _ h).0)

Follow-touch : {low high : MEnd} {ps : List MRange} → Follow low high ps → (k : ℕ) (d : MRange) → suc k < length ps → Touch (get_or ps k d) (get_or ps (suc k) d)
Follow-touch (last_one low high n h) k d l = absurd (omega arith)
Follow-touch (one_more low high n rest h f) zero d l =
    let s = Follow-first f (n +ℤ pos 1) d refl in
    record { at = n; in_first = h; begins = s.0; in_second = s.1 }
Follow-touch (one_more low high n rest h f) (suc k) d l = Follow-touch f k d (omega arith)

-- ---- the split

-- one range has a number and not its neighbour
apart_at : (r : MRange) (m : ℤ) → IsTrue (ends_ascend r.low r.high) → (is_at (m +ℤ pos 1) r.low || is_at (m +ℤ pos 1 -ℤ pos 1) r.high) ≡ true → in_range r m ≡ in_range r (m +ℤ pos 1) → ⊥
apart_at r m up h = sides r.low r.high m up h
  where
    begins : (a m : ℤ) (high : MEnd) → m +ℤ pos 1 ≡ a → IsTrue (ends_ascend (At a) high) → in_range (range_of (At a) high) m ≡ in_range (range_of (At a) high) (m +ℤ pos 1) → ⊥
    begins a m Free e up s = numbers a m e s
      where
        numbers : (a m : ℤ) → m +ℤ pos 1 ≡ a → (int_le a m && true) ≡ (int_le a (m +ℤ pos 1) && true) → ⊥
        numbers a m e s = grind (arith, ints)
    begins a m (At b) e up s = numbers a b m e up s
      where
        numbers : (a b m : ℤ) → m +ℤ pos 1 ≡ a → IsTrue (int_le a b) → (int_le a m && int_le m b) ≡ (int_le a (m +ℤ pos 1) && int_le (m +ℤ pos 1) b) → ⊥
        numbers a b m e up s = grind (arith, ints)

    ends : (low : MEnd) (b m : ℤ) → m +ℤ pos 1 -ℤ pos 1 ≡ b → IsTrue (ends_ascend low (At b)) → in_range (range_of low (At b)) m ≡ in_range (range_of low (At b)) (m +ℤ pos 1) → ⊥
    ends Free b m e up s = numbers b m e s
      where
        numbers : (b m : ℤ) → m +ℤ pos 1 -ℤ pos 1 ≡ b → int_le m b ≡ int_le (m +ℤ pos 1) b → ⊥
        numbers b m e s = grind (arith, ints)
    ends (At a) b m e up s = numbers a b m e up s
      where
        numbers : (a b m : ℤ) → m +ℤ pos 1 -ℤ pos 1 ≡ b → IsTrue (int_le a b) → (int_le a m && int_le m b) ≡ (int_le a (m +ℤ pos 1) && int_le (m +ℤ pos 1) b) → ⊥
        numbers a b m e up s = grind (arith, ints)

    sides : (low high : MEnd) (m : ℤ) → IsTrue (ends_ascend low high) → (is_at (m +ℤ pos 1) low || is_at (m +ℤ pos 1 -ℤ pos 1) high) ≡ true →
        in_range (range_of low high) m ≡ in_range (range_of low high) (m +ℤ pos 1) → ⊥
    sides Free Free m up h s = absurd (cc)
    sides Free (At b) m up h s = ends Free b m ((Decides-int_eq (m +ℤ pos 1 -ℤ pos 1) b).0 h) up s
    sides (At a) Free m up h s = begins a m Free ((Decides-int_eq (m +ℤ pos 1) a).0 (or_none _ h)) up s
      where
        or_none : (b : Bool) → (b || false) ≡ true → b ≡ true
        or_none true h = refl
        or_none false h = h
    sides (At a) (At b) m up h s =
        elim (int_eq (m +ℤ pos 1) a) as (λ t. int_eq (m +ℤ pos 1) a ≡ t → ⊥) [
          | true ↦ λ t. begins a m (At b) ((Decides-int_eq (m +ℤ pos 1) a).0 t) up s
          | false ↦ λ t. ends (At a) b m ((Decides-int_eq (m +ℤ pos 1 -ℤ pos 1) b).0 (sym (ap (λ x. x || int_eq (m +ℤ pos 1 -ℤ pos 1) b) t) ∙ h)) up s
        ] refl

differ : (b : Bool) → b ≡ true → b ≡ false → ⊥
differ b s t = let u : true ≡ false = sym s ∙ t in absurd (cc)

module _ (whole : MRange) (columns ps : List MRange) (up : All (λ r. IsTrue (ends_ascend r.low r.high)) columns) (c : IsCut whole columns ps) where
  pub sides_of : All (λ p. All (IsOnOneSide p) columns) ps
  sides_of = λ i d l j e m.
      let p = get_or ps i d in
      one_side p (get_or columns j e)
      (λ k before at.
      none_any (λ r. is_at k r.low || is_at (k -ℤ pos 1) r.high) columns
      (not_cut k (Follow-within c.together i d l (k -ℤ pos 1) before) (Follow-within c.together i d l k at) (Follow-inside c.together i d l k before at)) j e m)
    where
      not_cut : (k : ℤ) → IsTrue (in_range whole (k -ℤ pos 1)) → IsTrue (in_range whole k) → list_any (λ q. is_at k q.low) ps ≡ false → is_cut_at columns k ≡ false
      not_cut k before at none =
          elim (is_cut_at columns k) as (λ t. is_cut_at columns k ≡ t → is_cut_at columns k ≡ false) [
            | true ↦ λ t. let s = (c.cut k before at).1 t in absurd (differ (list_any (λ q. is_at k q.low) ps) s none)
            | false ↦ λ t. t
          ] refl

  pub told_of : (k : ℕ) (d : MRange) → suc k < length ps → AreToldApart columns (get_or ps k d) (get_or ps (suc k) d)
  told_of k d l =
      let t = Follow-touch c.together k d l in
      let p = get_or ps k d in
      let q = get_or ps (suc k) d in
      let next = t.at +ℤ pos 1 in
      let start : list_any (λ (x : MRange). is_at next x.low) ps ≡ true =
      list_any_at (λ (x : MRange). is_at next x.low) ps (suc k) d l (ap (is_at next) t.begins ∙ (Decides-int_eq next next).1 refl) in
      let before : IsTrue (in_range whole (next -ℤ pos 1)) =
      ap (in_range whole) (back t.at) ∙ Follow-within c.together k d (omega arith) t.at t.in_first in
      let within = Follow-within c.together (suc k) d l next t.in_second in
      let found = Any-from_list_any (λ (r : MRange). is_at next r.low || is_at (next -ℤ pos 1) r.high) columns ((c.cut next before within).0 start) in
      let r = found.1 in
      let up_r : IsTrue (ends_ascend r.low r.high) = subst (λ (x : MRange). IsTrue (ends_ascend x.low x.high)) found.3 (up found.0 r found.2) in
      let side_p : IsOnOneSide p r = subst (IsOnOneSide p) found.3 (sides_of k d (omega arith) found.0 r found.2) in
      let side_q : IsOnOneSide q r = subst (IsOnOneSide q) found.3 (sides_of (suc k) d l found.0 r found.2) in
      (r, (found.0, found.2, found.3), λ m n h i e. apart_at r t.at up_r found.4 (side_p t.at m t.in_first h ∙ e ∙ side_q n next i t.in_second))

-- pieces cut at the ends of the column's ranges, with flags that are true of each of their numbers, are a split
pub makes_split : (whole : MRange) (columns : List MRange) (pieces : List (MRange × Bool)) → All (λ r. IsTrue (ends_ascend r.low r.high)) columns →
    IsCut whole columns (map (λ p. p.0) pieces) →
    All (λ p. (n : ℤ) → IsTrue (in_range p.0 n) → p.1 ≡ list_any (λ r. in_range r n) columns) pieces → IsSplit whole columns pieces
makes_split whole columns pieces up c flags =
    let ps : List MRange = map piece_of pieces in
    let sides = sides_of whole columns ps up c in
    record {
      cut = c;
      flagged = λ k d l.
          let p = get_or pieces k d in
          let found : (n : ℤ) × IsTrue (in_range p.0 n) = subst (λ (x : MRange). (n : ℤ) × IsTrue (in_range x n)) (at k d l) (Follow-number c.together k d.0 (inside k l)) in
          let side : All (IsOnOneSide p.0) columns = subst (λ (x : MRange). All (IsOnOneSide x) columns) (at k d l) (sides k d.0 (inside k l)) in
          flags k d l found.0 found.1
          ∙ list_any-agree (λ r. in_range r found.0) (λ r. low_within r.low p.0.low && high_within r.high p.0.high) columns
          (λ j e m. has_number p.0 (get_or columns j e) (side j e m) found.0 found.1);
      together = λ n. sym (list_any-map (λ p. in_range p n) piece_of pieces) ∙ Follow-together c.together n;
      ascending = λ i j d l m.
          subst (λ (x : MRange). IsBelow (get_or pieces i d).0 x) (at j d m)
          (subst (λ (x : MRange). IsBelow x (get_or ps j d.0)) (at i d (less i j l m)) (Follow-pairs c.together i j d.0 l (inside j m)));
      on_one_side = λ k d l. subst (λ (x : MRange). All (IsOnOneSide x) columns) (at k d l) (sides k d.0 (inside k l));
      told_apart = λ k d l.
          let l' : suc k < length pieces = subst (λ j. j < length pieces) (add-one k) l in
          subst (λ j. AreToldApart columns (get_or pieces k d).0 (get_or pieces j d).0) (sym (add-one k))
          (subst (λ (x : MRange). AreToldApart columns (get_or pieces k d).0 x) (at (suc k) d l')
          (subst (λ (x : MRange). AreToldApart columns x (get_or ps (suc k) d.0)) (at k d (omega arith)) (told_of whole columns ps up c k d.0 (inside (suc k) l'))));
    }
  where
    at : (k : ℕ) (d : MRange × Bool) → k < length pieces → get_or (map piece_of pieces) k d.0 ≡ (get_or pieces k d).0
    at k d l = get_or-map piece_of pieces k d d.0 l

    inside : (k : ℕ) → k < length pieces → k < length (map piece_of pieces)
    inside k l = omega (arith, length-map pieces piece_of)

    less : (i j : ℕ) → i < j → j < length pieces → i < length pieces
    less i j l m = omega arith
