-- One cut more of the walk over ascending cuts.
use Rattle.std.proofs.Common.{◌≡◌, ℕ, ℤ, pos, ◌+◌, ◌-ℤ◌, ◌≤◌, ◌<◌, ◌^◌, Bool, true, false, not, cond, List, [], ◌∷◌, ◌++◌, length, get_or, drop, Option, Some, None, arith, sym, ◌∙◌, ap, subst}
use Rattle.std.specs.Prelude.{IsTrue, nat_eq}
use Rattle.std.specs.Option.{option_to_list}
use Rattle.std.proofs.lemmas.List.{append_assoc, append-nil, map-append, drop_more}
use Rattle.std.specs.List.{All}
use Rattle.match_model.specs.Numbers.{MEnd, At, MRange, is_up_to}
use Rattle.match_model.specs.Pieces.{is_at}
use Rattle.range_split.specs.declared.cut.Cut.{Cut}
use Rattle.range_split.specs.declared.num.Num.{Num}
use Rattle.range_split.specs.declared.end.End.TheVariants as ends
use Rattle.range_split.specs.declared.range.Range.{Range}
use Rattle.range_split.specs.declared.walk.Walk.{Walk}
use Rattle.range_split.specs.Numbers.{num_value}
use Rattle.range_split.specs.Ends.{plain_end, ends_ascend}
use Rattle.range_split.specs.Ranges.{plain_range}
use Rattle.range_split.specs.Splits.{plain_pieces}
use Rattle.range_split.specs.Cuts.{cut_number, plain_cut, plain_cuts, Rise}
use Rattle.range_split.specs.Walks.{bit, range_of, pieces_from, Passes}
use Rattle.range_split.proofs.Walks.{same_place, new_place, at_is, ascend_to, by_place}

-- the piece before a cut, and the pieces from there on
pub passed : (low high : MEnd) (b e : ℕ) (c : ℤ × Bool) (rest : List (ℤ × Bool)) (before : List (MRange × Bool)) →
    before ≡ cond (is_at c.0 low) [] ((range_of low (At (c.0 -ℤ pos 1)), not (nat_eq b e)) ∷ []) →
    before ++ pieces_from (At c.0) high (b + bit c.1) (e + bit (not c.1)) rest ≡ pieces_from low high b e (c ∷ rest)
passed low high b e c rest before is =
    let R : MEnd → List (MRange × Bool) = λ x. pieces_from x high (b + bit c.1) (e + bit (not c.1)) rest in
    by_place (is_at c.0 low) (before ++ R (At c.0) ≡ pieces_from low high b e (c ∷ rest))
    (λ t. ap (λ ps. ps ++ R (At c.0)) (is ∙ ap (λ x. cond x [] ((range_of low (At (c.0 -ℤ pos 1)), not (nat_eq b e)) ∷ [])) t)
    ∙ ap R (at_is c.0 low t) ∙ sym (same_place low high b e c rest t))
    (λ t. ap (λ ps. ps ++ R (At c.0)) (is ∙ ap (λ x. cond x [] ((range_of low (At (c.0 -ℤ pos 1)), not (nat_eq b e)) ∷ [])) t)
    ∙ sym (new_place low high b e c rest t))

-- the walk has made these pieces, has passed so many cuts, and goes on to all the pieces
pub record Walked (high : MEnd) (all done : List (MRange × Bool)) (walk : Walk) (cuts : List Cut) (passed : ℕ) : Type 0 where
  pub goes_on : done ++ pieces_from (plain_end walk.low) high walk.begun walk.ended (plain_cuts cuts) ≡ all
  pub rises : Rise (plain_end walk.low) (plain_cuts cuts)
  pub ascends : IsTrue (ends_ascend (plain_end walk.low) high)
  pub begun_few : walk.begun ≤ 2 ^ 64 + passed
  pub ended_few : walk.ended ≤ passed

at_most_one : (t : Bool) → bit t ≤ 1
at_most_one true = omega arith
at_most_one false = omega arith

more : (b m i : ℕ) (t : Bool) (b' : ℕ) → b' ≡ b + bit t → b ≤ m + i → b' ≤ m + (i + 1)
more b m i t b' e h = let k = at_most_one t in omega arith

more_ended : (e i : ℕ) (t : Bool) (e' : ℕ) → e' ≡ e + bit t → e ≤ i → e' ≤ i + 1
more_ended e i t e' f h = let k = at_most_one t in omega arith

-- no cut is passed yet
pub not_walked : (high low : MEnd) (begun : ℕ) (walk : Walk) (cuts : List Cut) (done : List (MRange × Bool)) → done ≡ [] → plain_end walk.low ≡ low → walk.begun ≡ begun → walk.ended ≡ 0 →
    Rise low (plain_cuts cuts) → IsTrue (ends_ascend low high) → begun ≤ 2 ^ 64 →
    Walked high (pieces_from low high begun 0 (plain_cuts cuts)) done walk cuts 0
not_walked high low begun walk cuts done d l b e rise up few =
    record {
      goes_on = ap (λ ps. ps ++ pieces_from (plain_end walk.low) high walk.begun walk.ended (plain_cuts cuts)) d
          ∙ ap (λ (x : MEnd). pieces_from x high walk.begun walk.ended (plain_cuts cuts)) l
          ∙ ap (λ x. pieces_from low high x walk.ended (plain_cuts cuts)) b
          ∙ ap (λ x. pieces_from low high begun x (plain_cuts cuts)) e;
      rises = subst (λ (x : MEnd). Rise x (plain_cuts cuts)) (sym l) rise;
      ascends = subst (λ (x : MEnd). IsTrue (ends_ascend x high)) (sym l) up;
      begun_few = omega (arith, b, few);
      ended_few = omega (arith, e);
    }

-- one cut more
pub walked_past : (high : MEnd) (all done done' : List (MRange × Bool)) (old new : Walk) (cut : Cut) (cuts : List Cut) (i : ℕ) (piece : Option (Range × Bool)) →
    Walked high all done old (cut ∷ cuts) i → Passes cut old new piece → IsTrue (is_up_to high (cut_number cut)) → done' ≡ done ++ plain_pieces (option_to_list piece) →
    Walked high all done' new cuts (i + 1)
walked_past high all done done' old new cut cuts i piece w p inside e =
    let R = pieces_from (plain_end new.low) high new.begun new.ended (plain_cuts cuts) in
    record {
      goes_on = ap (λ ps. ps ++ R) e ∙ append_assoc done (plain_pieces (option_to_list piece)) R ∙ ap (λ ps. done ++ ps) (p.goes_on high (plain_cuts cuts)) ∙ w.goes_on;
      rises = subst (λ (x : MEnd). Rise x (plain_cuts cuts)) (sym p.low) w.rises.1;
      ascends = subst (λ (x : MEnd). IsTrue (ends_ascend x high)) (sym p.low) (ascend_to high (cut_number cut) inside);
      begun_few = more old.begun (2 ^ 64) i cut.begins new.begun p.begun w.begun_few;
      ended_few = more_ended old.ended i (not cut.begins) new.ended p.ended w.ended_few;
    }

-- behind the last cut the last piece is left
pub walked_out : (high : MEnd) (all done done' : List (MRange × Bool)) (walk : Walk) (cuts : List Cut) (i : ℕ) (last : Range × Bool) → Walked high all done walk cuts i → cuts ≡ [] →
    plain_pieces (last ∷ []) ≡ (range_of (plain_end walk.low) high, not (nat_eq walk.begun walk.ended)) ∷ [] → done' ≡ done ++ plain_pieces (last ∷ []) → done' ≡ all
walked_out high all done done' walk cuts i last w none is e =
    e ∙ ap (λ ps. done ++ ps) is
    ∙ ap (λ (cs : List Cut). done ++ pieces_from (plain_end walk.low) high walk.begun walk.ended (plain_cuts cs)) (sym none)
    ∙ w.goes_on

-- the counts and the place behind a cut, and the piece before it
pub passes_cut : (cut : Cut) (old new : Walk) (piece : Option (Range × Bool)) (first : Num) (t : Bool) → cut.begins ≡ t → num_value first ≡ cut_number cut → new.low ≡ ends.At first →
    new.begun ≡ old.begun + bit t → new.ended ≡ old.ended + bit (not t) →
    plain_pieces (option_to_list piece) ≡ cond (is_at (num_value first) (plain_end old.low)) [] ((range_of (plain_end old.low) (At (num_value first -ℤ pos 1)), not (nat_eq old.begun old.ended)) ∷ []) →
    Passes cut old new piece
passes_cut cut old new piece first t begins is low b e before =
    let low_is : plain_end new.low ≡ At (cut_number cut) = ap plain_end low ∙ ap At is in
    let b_is : new.begun ≡ old.begun + bit cut.begins = b ∙ sym (ap (λ x. old.begun + bit x) begins) in
    let e_is : new.ended ≡ old.ended + bit (not cut.begins) = e ∙ sym (ap (λ x. old.ended + bit (not x)) begins) in
    record {
      low = low_is;
      begun = b_is;
      ended = e_is;
      goes_on = λ high rest.
          ap (λ x. plain_pieces (option_to_list piece) ++ pieces_from x high new.begun new.ended rest) low_is
          ∙ ap (λ x. plain_pieces (option_to_list piece) ++ pieces_from (At (cut_number cut)) high x new.ended rest) b_is
          ∙ ap (λ x. plain_pieces (option_to_list piece) ++ pieces_from (At (cut_number cut)) high (old.begun + bit cut.begins) x rest) e_is
          ∙ passed (plain_end old.low) high old.begun old.ended (plain_cut cut) rest (plain_pieces (option_to_list piece))
          (before ∙ ap (λ n. cond (is_at n (plain_end old.low)) [] ((range_of (plain_end old.low) (At (n -ℤ pos 1)), not (nat_eq old.begun old.ended)) ∷ [])) is);
    }

-- the piece that is handed on, if there is one
pub one_handed : (old new : List (Range × Bool)) (o : Option (Range × Bool)) (p : Range × Bool) → o ≡ Some p → new ≡ old ++ p ∷ [] → plain_pieces new ≡ plain_pieces old ++ plain_pieces (option_to_list o)
one_handed old new o p e n =
    ap plain_pieces n ∙ map-append (λ (p : Range × Bool). (plain_range p.0, p.1)) old (p ∷ [])
    ∙ ap (λ (x : Option (Range × Bool)). plain_pieces old ++ plain_pieces (option_to_list x)) (sym e)

pub none_handed : (old new : List (Range × Bool)) (o : Option (Range × Bool)) → o ≡ None → new ≡ old → plain_pieces new ≡ plain_pieces old ++ plain_pieces (option_to_list o)
none_handed old new o e n =
    ap plain_pieces n ∙ sym (append-nil (plain_pieces old)) ∙ ap (λ (x : Option (Range × Bool)). plain_pieces old ++ plain_pieces (option_to_list x)) (sym e)

-- what is left of a list that a loop reads, and what it reads
pub front_of : {A : Type 0} (items shown : List A) (i : ℕ) (x : A) → shown ≡ items → i < length shown → x ≡ get_or shown i x → drop i items ≡ x ∷ drop (i + 1) items
front_of {A} items shown i x e l is = subst (λ (xs : List A). drop i xs ≡ x ∷ drop (i + 1) xs) e (drop_more shown i x l ∙ ap (λ (y : A). y ∷ drop (i + 1) shown) (sym is))

pub at_front : {A : Type 0} (P : A → Type 0) (items shown : List A) (i : ℕ) (x : A) → shown ≡ items → i < length shown → x ≡ get_or shown i x → All P items → P x
at_front {A} P items shown i x e l is all = subst P (sym is) (subst (λ (xs : List A). All P xs) (sym e) all i x l)
