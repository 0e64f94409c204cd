-- What is found of a column of numbers, from cut to cut.
use Rattle.std.proofs.Common.{◌≡◌, ℕ, ◌+◌, ◌<◌, ℤ, Bool, true, false, not, ◌||◌, List, [], ◌∷◌, ◌++◌, map, filter_map, length, get_or, drop, Option, Some, None, nat_eq, refl, sym, ap, subst, ◌∙◌, add-zero, IsTrue}
use Rattle.std.specs.List.{All, list_any}
use Rattle.std.specs.Option.{option_to_list}
use Rattle.std.proofs.lemmas.List.{append_assoc, append-nil, map-append}
use Rattle.std.proofs.lemmas.List.Elements.{All-map, All-nil, All-cons, filter_map-append}
use Rattle.std.proofs.lemmas.List.Folds.{list_any-append}
use Rattle.match_model.specs.Values.{MValue}
use Rattle.match_model.specs.Numbers.{MEnd, MRange, is_up_to}
use Rattle.match_model.specs.Constructors.{MCtor, NumbersCtor, MSet, NumberSet, has_piece}
use Rattle.match_model.specs.Contexts.{Context, Open}
use Rattle.match_model.specs.ContextLaws.{ValuesLaw, PartsLaw, UnsureLaw, RangesAscend}
use Rattle.match_model.specs.Pieces.{range_of}
use Rattle.range_split.specs.declared.cut.Cut.{Cut}
use Rattle.range_split.specs.declared.cuts.Cuts.{Cuts}
use Rattle.range_split.specs.declared.range.Range.{Range}
use Rattle.range_split.specs.declared.walk.Walk.{Walk}
use Rattle.range_split.specs.Ends.{plain_end, ends_ascend}
use Rattle.range_split.specs.Ranges.{plain_range}
use Rattle.range_split.specs.Splits.{plain_pieces, IsSplit}
use Rattle.range_split.specs.Cuts.{cut_number, plain_cuts}
use Rattle.range_split.specs.Walks as walks
use Rattle.range_split.specs.Walks.{Passes}
use Rattle.range_split.proofs.Basics.{or_false}
use Rattle.range_split.proofs.Splits.{All-unmap}
use Rattle.range_split.proofs.Steps.{Walked, walked_past, walked_out, front_of}
use Rattle.range_split.proofs.Between.{cuts_split}
use Rattle.range_split.proofs.Gathering.{Gathered, more_gathered, none_more}
use Rattle.pat_context.specs.Views.{plain_ctor, plain_set, plain_second}
use Rattle.pat_context.specs.declared.ctor.Ctor.{Ctor}
use Rattle.pat_context.specs.declared.ctor.Ctor.TheVariants as c
use Rattle.pat_context.specs.declared.ctor.CtorSet.{CtorSet}
use Rattle.pat_context.specs.declared.ctor.CtorSet.TheVariants as sets
use Rattle.constructor_sets.specs.declared.column.Found.{Found}
use Rattle.constructor_sets.specs.declared.piece.Piece.{Piece}
use Rattle.constructor_sets.specs.Columns.{is_head, plain_ctors, plain_piece, plain_flagged, IsSetSplit}
use Rattle.constructor_sets.specs.Serving.{IsServing, IsFoundState}
use Rattle.constructor_sets.specs.Present.{present_piece, is_missing, gap_of, AreFound}
use Rattle.constructor_sets.specs.Cut.{HasRoom, head_cuts, head_begun, AddsHead, state_of, number_piece, AddsPieces, AddsAll, AddsSplit}
use Rattle.constructor_sets.proofs.Finding.{all_serve, all_flagged, all_found}
use Rattle.constructor_sets.proofs.Rooms.{first_room, second_room, second_up}
use Rattle.constructor_sets.proofs.SetSplits.{one_range, two_ranges}
use Rattle.constructor_sets.proofs.Sharp.{AreSharp, sharp_heads}
use Rattle.constructor_sets.proofs.Valued.{default_answer}

-- the cuts of one head more

pub one_head_more : (whole : MRange) (columns : List MRange) (old new : Cuts) (heads : List Ctor) (i : ℕ) (x : Ctor) → i < length heads → x ≡ get_or heads i x → AddsHead whole (plain_ctor x) old new →
    Gathered whole columns old.begun (plain_cuts old.places.items) (filter_map range_of (plain_ctors (drop i heads))) i →
    Gathered whole columns new.begun (plain_cuts new.places.items) (filter_map range_of (plain_ctors (drop (i + 1) heads))) (i + 1)
one_head_more whole columns old new heads i x l e a g =
    go (plain_ctor x) a.places a.begun
    (subst (λ (hs : List MCtor). Gathered whole columns old.begun (plain_cuts old.places.items) (filter_map range_of hs) i) (ap plain_ctors (front_of heads heads i x refl l e)) g)
  where
    rest : List MCtor
    rest = plain_ctors (drop (i + 1) heads)

    before : List (ℤ × Bool)
    before = plain_cuts old.places.items

    after : List (ℤ × Bool)
    after = plain_cuts new.places.items

    none : (hs : List MRange) → hs ≡ filter_map range_of rest → after ≡ before ++ [] → new.begun ≡ old.begun + 0 → Gathered whole columns old.begun before hs i →
        Gathered whole columns new.begun after (filter_map range_of rest) (i + 1)
    none hs same p b g =
        subst (λ (cs : List (ℤ × Bool)). Gathered whole columns new.begun cs (filter_map range_of rest) (i + 1)) (sym (p ∙ append-nil before))
        (subst (λ n. Gathered whole columns n before (filter_map range_of rest) (i + 1)) (sym (b ∙ add-zero old.begun))
        (none_more whole columns old.begun before hs (filter_map range_of rest) i same g))

    go : (h : MCtor) → after ≡ before ++ head_cuts whole h → new.begun ≡ old.begun + head_begun whole h → Gathered whole columns old.begun before (filter_map range_of (h ∷ rest)) i →
        Gathered whole columns new.begun after (filter_map range_of rest) (i + 1)
    go (NumbersCtor r) p b g = more_gathered whole columns old.begun new.begun before after r (filter_map range_of (NumbersCtor r ∷ rest)) (filter_map range_of rest) i refl p b g
    go _ p b g = none (filter_map range_of rest) refl p b g

-- what is added

or_assoc : (a b c : Bool) → ((a || b) || c) ≡ (a || (b || c))
or_assoc true b c = refl
or_assoc false b c = refl

pub adds_none : (f : Found) → AddsPieces [] f f
adds_none f = record {
  present = sym (append-nil (plain_ctors f.ctors.items));
  some_missing = sym (or_false f.missing);
  missing_parts = sym (append-nil (plain_ctors f.gaps.items));
}

pub adds_more : (ps qs : List (Range × Bool)) (f g h : Found) → AddsPieces ps f g → AddsPieces qs g h → AddsPieces (ps ++ qs) f h
adds_more ps qs f g h a b =
    let grown = map-append number_piece ps qs in
    record {
      present = b.present ∙ ap (λ xs. xs ++ filter_map present_piece (map number_piece qs)) a.present
          ∙ append_assoc (plain_ctors f.ctors.items) (filter_map present_piece (map number_piece ps)) (filter_map present_piece (map number_piece qs))
          ∙ sym (ap (λ xs. plain_ctors f.ctors.items ++ xs) (ap (filter_map present_piece) grown ∙ filter_map-append present_piece (map number_piece ps) (map number_piece qs)));
      some_missing = b.some_missing ∙ ap (λ t. t || list_any is_missing (map number_piece qs)) a.some_missing
          ∙ or_assoc f.missing (list_any is_missing (map number_piece ps)) (list_any is_missing (map number_piece qs))
          ∙ sym (ap (λ t. f.missing || t) (ap (list_any is_missing) grown ∙ list_any-append is_missing (map number_piece ps) (map number_piece qs)));
      missing_parts = b.missing_parts ∙ ap (λ xs. xs ++ filter_map gap_of (map number_piece qs)) a.missing_parts
          ∙ append_assoc (plain_ctors f.gaps.items) (filter_map gap_of (map number_piece ps)) (filter_map gap_of (map number_piece qs))
          ∙ sym (ap (λ xs. plain_ctors f.gaps.items ++ xs) (ap (filter_map gap_of) grown ∙ filter_map-append gap_of (map number_piece ps) (map number_piece qs)));
    }

-- from cut to cut

-- the walk has passed so many cuts, and what is found of the pieces before them is added
pub record Handed (high : MEnd) (all : List (MRange × Bool)) (walk : Walk) (cuts : List Cut) (passed : ℕ) (old new : Found) : Type 0 where
  pub done : List (Range × Bool)
  pub walked : Walked high all (plain_pieces done) walk cuts passed
  pub adds : AddsPieces done old new

abbrev plain_one : Range × Bool → MRange × Bool
plain_one p = (plain_range p.0, p.1)

pub handed_more : (high : MEnd) (all : List (MRange × Bool)) (old new : Walk) (cut : Cut) (cuts : List Cut) (i : ℕ) (piece : Option (Range × Bool)) (f g h : Found) →
    Handed high all old (cut ∷ cuts) i f g → Passes cut old new piece → IsTrue (is_up_to high (cut_number cut)) → AddsPieces (option_to_list piece) g h → Handed high all new cuts (i + 1) f h
handed_more high all old new cut cuts i piece f g h d p inside a = record {
  done = d.done ++ option_to_list piece;
  walked = walked_past high all (plain_pieces d.done) (plain_pieces (d.done ++ option_to_list piece)) old new cut cuts i piece d.walked p inside (map-append plain_one d.done (option_to_list piece));
  adds = adds_more d.done (option_to_list piece) f g h d.adds a;
}

pub handed_out : (high : MEnd) (all : List (MRange × Bool)) (walk : Walk) (cuts : List Cut) (i : ℕ) (last : Range × Bool) (f g h : Found) → Handed high all walk cuts i f g → cuts ≡ [] →
    plain_range last.0 ≡ walks.range_of (plain_end walk.low) high → last.1 ≡ not (nat_eq walk.begun walk.ended) → AddsPieces (last ∷ []) g h → AddsAll all f h
handed_out high all walk cuts i last f g h d none r b a = record {
  pieces = d.done ++ last ∷ [];
  same = walked_out high all (plain_pieces d.done) (plain_pieces (d.done ++ last ∷ [])) walk cuts i last d.walked none
      (ap (λ (x : MRange). (x, last.1) ∷ []) r ∙ ap (λ x. (walks.range_of (plain_end walk.low) high, x) ∷ []) b) (map-append plain_one d.done (last ∷ []));
  adds = adds_more d.done (last ∷ []) f g h d.adds a;
}

-- the ranges of the heads have numbers
ranges_up : (heads : List Ctor) → All (λ r. IsTrue (ends_ascend r.low r.high)) (filter_map range_of (plain_ctors heads))
ranges_up [] = All-nil (λ (r : MRange). IsTrue (ends_ascend r.low r.high))
ranges_up (c.Numbers r ∷ hs) = All-cons (λ (r : MRange). IsTrue (ends_ascend r.low r.high)) (plain_range r) (filter_map range_of (plain_ctors hs)) r.ascending (ranges_up hs)
ranges_up (_ ∷ hs) = ranges_up hs

-- what is found between the cuts of the heads is found of their split, whatever room is made before
pub adds_split : (whole : Range) (heads : List Ctor) (begun : ℕ) (cuts : List (ℤ × Bool)) (f g h : Found) → walks.AreCuts (plain_range whole) (filter_map range_of (plain_ctors heads)) begun cuts →
    g.ctors.items ≡ f.ctors.items → g.missing ≡ f.missing → g.gaps.items ≡ f.gaps.items → AddsAll (walks.pieces_from (plain_range whole).low (plain_range whole).high begun 0 cuts) g h →
    AddsSplit (plain_range whole) (filter_map range_of (plain_ctors heads)) f h
adds_split whole heads begun cuts f g h are x y z a = record {
  pieces = a.pieces;
  split = subst (IsSplit (plain_range whole) (filter_map range_of (plain_ctors heads))) (sym a.same)
      (cuts_split (plain_range whole) (filter_map range_of (plain_ctors heads)) begun cuts whole.ascending (ranges_up heads) are);
  adds = record {
    present = a.adds.present ∙ ap (λ (xs : List Ctor). plain_ctors xs ++ filter_map present_piece (map number_piece a.pieces)) x;
    some_missing = a.adds.some_missing ∙ ap (λ b. b || list_any is_missing (map number_piece a.pieces)) y;
    missing_parts = a.adds.missing_parts ∙ ap (λ (xs : List Ctor). plain_ctors xs ++ filter_map gap_of (map number_piece a.pieces)) z;
  };
}

-- the pieces of a set

abbrev pub flagged : Range × Bool → Ctor × Bool
flagged p = (c.Numbers p.0, p.1)

abbrev with_state : Range × Bool → Piece
with_state p = record { ctor = c.Numbers p.0; state = state_of p.1 }

abbrev pair_range : MRange × Bool → MCtor × Bool
pair_range p = (NumbersCtor p.0, p.1)

same_flagged : (ps : List (Range × Bool)) → plain_flagged (map flagged ps) ≡ map pair_range (plain_pieces ps)
same_flagged [] = refl
same_flagged (p ∷ ps) = ap (λ xs. (NumbersCtor (plain_range p.0), p.1) ∷ xs) (same_flagged ps)

same_ctors : (ps : List (Range × Bool)) → map (λ (p : Piece). plain_ctor p.ctor) (map with_state ps) ≡ map (λ (p : Ctor × Bool). plain_ctor p.0) (map flagged ps)
same_ctors [] = refl
same_ctors (p ∷ ps) = ap (λ xs. NumbersCtor (plain_range p.0) ∷ xs) (same_ctors ps)

same_pieces : (ps : List (Range × Bool)) → map plain_piece (map with_state ps) ≡ map number_piece ps
same_pieces [] = refl
same_pieces (p ∷ ps) = ap (λ xs. number_piece p ∷ xs) (same_pieces ps)

split_first : (first : MRange) (heads : List MCtor) (ps : List (Range × Bool)) → IsSplit first (filter_map range_of heads) (plain_pieces ps) →
    IsSetSplit (NumberSet first None) heads (plain_flagged (map flagged ps))
split_first first heads ps s = one_range first heads (plain_flagged (map flagged ps)) (plain_pieces ps, s, same_flagged ps)

split_both : (first second : MRange) (heads : List MCtor) (ps qs : List (Range × Bool)) → IsSplit first (filter_map range_of heads) (plain_pieces ps) →
    IsSplit second (filter_map range_of heads) (plain_pieces qs) → IsSetSplit (NumberSet first (Some second)) heads (plain_flagged (map flagged (ps ++ qs)))
split_both first second heads ps qs s t =
    two_ranges first second heads (plain_flagged (map flagged ps)) (plain_flagged (map flagged (ps ++ qs))) (plain_pieces ps, s, same_flagged ps) (plain_pieces qs, t, joined)
  where
    plain_flag : Ctor × Bool → MCtor × Bool
    plain_flag p = (plain_ctor p.0, p.1)

    joined : plain_flagged (map flagged (ps ++ qs)) ≡ plain_flagged (map flagged ps) ++ map pair_range (plain_pieces qs)
    joined =
        ap plain_flagged (map-append flagged ps qs) ∙ map-append plain_flag (map flagged ps) (map flagged qs)
        ∙ ap (λ xs. plain_flagged (map flagged ps) ++ xs) (same_flagged qs)

module _ {T : Type 0} (IsType : T → Type 0) (IsValue : T → Bool → MValue → Type 0) (cx : Context T) (law : ValuesLaw IsType IsValue cx) (t : T) (first : Range) (second : Option Range) (heads : List Ctor)
    (d : IsType t) (e : cx.set_of t ≡ NumberSet (plain_range first) (plain_second second)) (all : AreSharp (cx.set_of t) (plain_ctors heads)) where
  ascend : RangesAscend (NumberSet (plain_range first) (plain_second second))
  ascend = subst RangesAscend e (law.ascend t d)

  each : All (λ h. IsTrue (is_head (NumberSet (plain_range first) (plain_second second)) (plain_ctor h))) heads
  each =
      All-unmap (λ (h : MCtor). IsTrue (is_head (NumberSet (plain_range first) (plain_second second)) h)) plain_ctor heads
      (subst (λ (x : MSet). All (λ h. IsTrue (is_head x h)) (plain_ctors heads)) e (sharp_heads (cx.set_of t) (plain_ctors heads) all))

  pub rooms_of_first : All (λ h. HasRoom (plain_range first) (plain_ctor h)) heads
  rooms_of_first = λ k x l. first_room (plain_range first) (plain_second second) (plain_ctor (get_or heads k x)) (each k x l) (second_up second) ascend

  pub rooms_of_second : (s : Range) → second ≡ Some s → All (λ h. HasRoom (plain_range s) (plain_ctor h)) heads
  rooms_of_second s f = λ k x l.
      second_room (plain_range first) (plain_range s) (plain_ctor (get_or heads k x))
      (subst (λ (o : Option Range). is_head (NumberSet (plain_range first) (plain_second o)) (plain_ctor (get_or heads k x)) ≡ true) f (each k x l)) first.ascending
      (subst (λ (o : Option Range). RangesAscend (NumberSet (plain_range first) (plain_second o))) f ascend)

  module _ (parts : PartsLaw IsType IsValue cx) (unsure : UnsureLaw IsType IsValue) (sure : Bool) where
    state_is : (p : Range × Bool) → IsServing (NumberSet (plain_range first) (plain_second second)) (NumbersCtor (plain_range p.0)) →
        p.1 ≡ list_any (λ h. has_piece h (NumbersCtor (plain_range p.0))) (plain_ctors heads) →
        IsFoundState IsValue (record { type = t; sure = sure }) (NumbersCtor (plain_range p.0)) (list_any (λ h. has_piece h (NumbersCtor (plain_range p.0))) (plain_ctors heads)) (state_of p.1)
    state_is p serving f = go p.1 f
      where
        go : (b : Bool) → b ≡ list_any (λ h. has_piece h (NumbersCtor (plain_range p.0))) (plain_ctors heads) →
            IsFoundState IsValue (record { type = t; sure = sure }) (NumbersCtor (plain_range p.0)) (list_any (λ h. has_piece h (NumbersCtor (plain_range p.0))) (plain_ctors heads)) (state_of b)
        go true f =
            (default_answer IsType IsValue cx parts unsure t sure (NumberSet (plain_range first) (plain_second second)) (c.Numbers p.0) d (sym e) serving (λ x. cc) (λ k x. cc) (λ s x. cc), sym f)
        go false f =
            (default_answer IsType IsValue cx parts unsure t sure (NumberSet (plain_range first) (plain_second second)) (c.Numbers p.0) d (sym e) serving (λ x. cc) (λ k x. cc) (λ s x. cc), sym f)

    found_split : (ps : List (Range × Bool)) (f g : Found) → f.ctors.items ≡ [] → f.missing ≡ false → f.gaps.items ≡ [] → AddsPieces ps f g →
        IsSetSplit (NumberSet (plain_range first) (plain_second second)) (plain_ctors heads) (plain_flagged (map flagged ps)) →
        AreFound IsValue cx (record { type = t; sure = sure }) (plain_ctors heads) (plain_ctors g.ctors.items) g.missing (plain_ctors g.gaps.items)
    found_split ps f g x y z a s =
        let set : CtorSet = sets.Numbers first second in
        let o : Open T = record { type = t; sure = sure } in
        let serves : All (λ (p : Range × Bool). IsServing (plain_set set) (plain_ctor (c.Numbers p.0))) ps =
        All-unmap (λ (p : Ctor × Bool). IsServing (plain_set set) (plain_ctor p.0)) flagged ps (all_serve IsType IsValue cx law t set heads (map flagged ps) d (sym e) all s) in
        let flags : All (λ (p : Range × Bool). p.1 ≡ list_any (λ h. has_piece h (plain_ctor (c.Numbers p.0))) (plain_ctors heads)) ps =
        All-unmap (λ (p : Ctor × Bool). p.1 ≡ list_any (λ h. has_piece h (plain_ctor p.0)) (plain_ctors heads)) flagged ps (all_flagged IsType IsValue cx law t set heads (map flagged ps) d (sym e) all s) in
        all_found IsType IsValue cx law t set heads (map flagged ps) d (sym e) all s sure (plain_ctors g.ctors.items) g.missing (plain_ctors g.gaps.items)
        (record {
          pieces = map with_state ps;
          same = same_ctors ps;
          states = All-map (λ (p : Piece). IsFoundState IsValue o (plain_ctor p.ctor) (list_any (λ h. has_piece h (plain_ctor p.ctor)) (plain_ctors heads)) p.state) with_state ps
              (λ k q l. state_is (get_or ps k q) (serves k q l) (flags k q l));
          present = a.present ∙ ap (λ (xs : List Ctor). plain_ctors xs ++ filter_map present_piece (map number_piece ps)) x ∙ ap (filter_map present_piece) (sym (same_pieces ps));
          some_missing = a.some_missing ∙ ap (λ b. b || list_any is_missing (map number_piece ps)) y ∙ ap (list_any is_missing) (sym (same_pieces ps));
          missing_parts = a.missing_parts ∙ ap (λ (xs : List Ctor). plain_ctors xs ++ filter_map gap_of (map number_piece ps)) z ∙ ap (filter_map gap_of) (sym (same_pieces ps));
        })

    -- one range
    pub one_found : (f g : Found) → second ≡ None → f.ctors.items ≡ [] → f.missing ≡ false → f.gaps.items ≡ [] → AddsSplit (plain_range first) (filter_map range_of (plain_ctors heads)) f g →
        AreFound IsValue cx (record { type = t; sure = sure }) (plain_ctors heads) (plain_ctors g.ctors.items) g.missing (plain_ctors g.gaps.items)
    one_found f g n x y z a =
        found_split a.pieces f g x y z a.adds
        (subst (λ (o : Option Range). IsSetSplit (NumberSet (plain_range first) (plain_second o)) (plain_ctors heads) (plain_flagged (map flagged a.pieces))) (sym n)
        (split_first (plain_range first) (plain_ctors heads) a.pieces a.split))

    -- two ranges
    pub both_found : (f g h : Found) (s : Range) → second ≡ Some s → f.ctors.items ≡ [] → f.missing ≡ false → f.gaps.items ≡ [] →
        AddsSplit (plain_range first) (filter_map range_of (plain_ctors heads)) f g → AddsSplit (plain_range s) (filter_map range_of (plain_ctors heads)) g h →
        AreFound IsValue cx (record { type = t; sure = sure }) (plain_ctors heads) (plain_ctors h.ctors.items) h.missing (plain_ctors h.gaps.items)
    both_found f g h s n x y z a b =
        found_split (a.pieces ++ b.pieces) f h x y z (adds_more a.pieces b.pieces f g h a.adds b.adds)
        (subst (λ (o : Option Range). IsSetSplit (NumberSet (plain_range first) (plain_second o)) (plain_ctors heads) (plain_flagged (map flagged (a.pieces ++ b.pieces)))) (sym n)
        (split_both (plain_range first) (plain_range s) (plain_ctors heads) a.pieces b.pieces a.split b.split))
