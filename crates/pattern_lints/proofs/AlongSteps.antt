-- One step of two paths: the two patterns have an elementary constructor in common, stand at one of its parts, and meet there.
use Rattle.std.proofs.Common.{◌≡◌, ◌≢◌, ◌<◌, ◌⊎◌, inl, inr, ℕ, ℤ, Bool, true, false, not, ◌&&◌, List, [], ◌∷◌, length, slice_get, nat_eq, Option, Some, None, IsTrue, refl, sym, ap, ◌∙◌, subst, arith}
use Rattle.std.specs.Ordering.{int_eq}
use Rattle.std.proofs.lemmas.List.{nil_from_length}
use Rattle.std.proofs.lemmas.Option.{slice_get_within}
use Rattle.match_model.specs.Values.{MValue, Num, parts_of, part_at_position}
use Rattle.match_model.specs.Numbers.{MEnd, At, MRange}
use Rattle.match_model.specs.Constructors.{MCtor, SingleCtor, PointCtor, LaterCtor, OtherTextCtor, WildCtor, OrCtor, VariantCtor, FlagCtor, NumbersCtor, TextCtor, RowCtor, builds, parts_met, MSet, NumberSet, Elementary, OneSingle, OnePoint, OneLater, OneVariant, OneFlag, OneNumber, OneText, OneLength, elementary_ctor, builds_one, is_of_set, is_free, last_range, in_either, end_belongs, greatest_held, least_held, belongs, has_piece, sure_inside}
use Rattle.match_model.specs.Contexts.{Context}
use Rattle.match_model.specs.ContextLaws.{ValuesLaw, PartsLaw, parts_count}
use Rattle.match_model.specs.Made.{IsForward}
use Rattle.match_model.specs.ArenaPatterns.{MDePat, ctor_of, subs_of}
use Rattle.match_model.specs.ArenaWays.{numbered_from}
use Rattle.match_model.specs.WellTyped.{IsTyped}
use Rattle.match_model.proofs.Basics.{both, untrue, nat_equal, nat_itself}
use Rattle.pat_context.proofs.Consequences.{can_be_built}
use Rattle.pat_context.proofs.RangeEnds.{low_in, high_in}
use Rattle.pattern_lints.specs.Along.{RangeMet, AlternativeAlong, PartAlong, MeetsAlong, EndsAt, Touching, MeetTogether}
use Rattle.pattern_lints.specs.Meeting.{head_matches, IsSharp, Common, head_by, part_head, place_of, PiecesMeet}
use Rattle.pattern_lints.proofs.Matched.{built_where, parts_where}
use Rattle.pattern_lints.proofs.AlongWays.{no_parts}
use Rattle.pattern_lints.proofs.HeadParts.{some_same, got, numbered_length, met_length, taken, matched_by_places, part_met, meets_part, place_apart, place_below}
use Rattle.pattern_lints.proofs.PieceHeads.{piece_built, typed_sharp, ctor_fits, sub_piece}
use Rattle.pattern_lints.proofs.PartsCommon.{sharp_not_or, built_once, has_parts, chosen_with, settled}

head_same : (m n : ℕ) (ms ns : List ℕ) → m ∷ ms ≡ n ∷ ns → m ≡ n
head_same m n ms ns e = cc

rest_same : (m n : ℕ) (ms ns : List ℕ) → m ∷ ms ≡ n ∷ ns → ms ≡ ns
rest_same m n ms ns e = cc

-- the part at a position inside a part
at_part : (v : MValue) (k : ℕ) (inner : List ℕ) (u : MValue) → slice_get (parts_of v) k ≡ Some u →
    part_at_position (k ∷ inner) v ≡ part_at_position inner u
at_part v k inner u h = ap (λ (o : Option MValue). elim o [ None ↦ None | Some w ↦ part_at_position inner w ]) h

only_part : {T : Type 0} (p : MDePat T) (i : ℕ) (rest : List ℕ) (v : MValue) (position : List ℕ) (offset : ℕ) (r : MRange) → IsSharp (ctor_of p) →
    MeetsAlong p (i ∷ rest) v position offset r → PartAlong p i v position (λ q u inner. MeetsAlong q rest u inner offset r)
only_part p i rest v position offset r s (inl x) = absurd (sharp_not_or (ctor_of p) s x.is_or)
only_part p i rest v position offset r s (inr x) = x

only_alternative : {T : Type 0} (p : MDePat T) (i : ℕ) (rest : List ℕ) (v : MValue) (position : List ℕ) (offset : ℕ) (r : MRange) → ctor_of p ≡ OrCtor →
    MeetsAlong p (i ∷ rest) v position offset r → AlternativeAlong p i (λ q. MeetsAlong q rest v position offset r)
only_alternative p i rest v position offset r e (inl x) = x
only_alternative p i rest v position offset r e (inr x) =
    let b = built_where (ctor_of p) v x.parts x.built in
    let f : false ≡ true = subst (λ c. builds [] c v ≡ true) e b.build in untrue f

inside_same : (c : MCtor) (e : Elementary) (sure : Bool) → IsSharp c → has_piece c (elementary_ctor e) ≡ true → sure_inside c sure ≡ sure_inside (elementary_ctor e) sure
inside_same SingleCtor OneSingle sure s h = refl
inside_same SingleCtor _ sure s h = untrue h
inside_same PointCtor OnePoint sure s h = refl
inside_same PointCtor _ sure s h = untrue h
inside_same LaterCtor OneLater sure s h = refl
inside_same LaterCtor _ sure s h = untrue h
inside_same OtherTextCtor OneSingle sure s h = refl
inside_same OtherTextCtor _ sure s h = untrue h
inside_same (VariantCtor k) (OneVariant j) sure s h = refl
inside_same (VariantCtor k) _ sure s h = untrue h
inside_same (FlagCtor b) (OneFlag c) sure s h = refl
inside_same (FlagCtor b) _ sure s h = untrue h
inside_same (NumbersCtor r) (OneNumber n) sure s h = refl
inside_same (NumbersCtor r) _ sure s h = untrue h
inside_same (TextCtor t) (OneText u) sure s h = refl
inside_same (TextCtor t) _ sure s h = untrue h
inside_same (RowCtor r) (OneLength n) sure s h = refl
inside_same (RowCtor r) _ sure s h = untrue h
inside_same WildCtor e sure s h = absurd s
inside_same OrCtor e sure s h = absurd s

-- the number at which two ranges meet is one of the type's
number_of_set : (set : MSet) (r : MRange) (x : ℤ) → belongs set (NumbersCtor r) ≡ true → (r.high ≡ At x) ⊎ (r.low ≡ At x) → is_of_set set (OneNumber x) ≡ true
number_of_set (NumberSet first second) r x b h =
    let e = both (end_belongs (is_free first.low) least_held (in_either first second) r.low) (end_belongs (is_free (last_range first second).high) greatest_held (in_either first second) r.high) b in
    elim h [
      | inl z ↦ (
          let a = subst (λ (y : MEnd). end_belongs (is_free (last_range first second).high) greatest_held (in_either first second) y ≡ true) z e.1 in
          (both (in_either first second x) (not (is_free (last_range first second).high && int_eq x greatest_held)) a).0)
      | inr z ↦ (
          let a = subst (λ (y : MEnd). end_belongs (is_free first.low) least_held (in_either first second) y ≡ true) z e.0 in
          (both (in_either first second x) (not (is_free first.low && int_eq x least_held)) a).0)
    ]
number_of_set _ r x b h = untrue b

module _ {T : Type 0} (IsType : T → Type 0) (IsValue : T → Bool → MValue → Type 0) (cx : Context T) (values : ValuesLaw IsType IsValue cx) (parts : PartsLaw IsType IsValue cx) where
  -- what it says of a value, which the elementary constructor builds, that it meets a range along a path
  record IsStep (t : T) (p : MDePat T) (e : Elementary) (v : MValue) (i : ℕ) (position : List ℕ) (Below : MDePat T → MValue → List ℕ → Type 0) : Type 0 where
    has : has_piece (ctor_of p) (elementary_ctor e) ≡ true
    sub : MDePat T
    sub_there : slice_get (subs_of p) i ≡ Some sub
    part : MValue
    there : slice_get (parts_of v) (place_of (ctor_of p) (parts_count cx t e) i) ≡ Some part
    inner : List ℕ
    position_is : position ≡ place_of (ctor_of p) (parts_count cx t e) i ∷ inner
    below : Below sub part inner
    others : (k : ℕ) (u : MValue) → k ≢ place_of (ctor_of p) (parts_count cx t e) i → slice_get (parts_of v) k ≡ Some u →
        head_matches (head_by (ctor_of p) (subs_of p) (parts_count cx t e) k) u ≡ true

  step_forth : (t : T) (sure : Bool) (p : MDePat T) (e : Elementary) (v : MValue) (i : ℕ) (position : List ℕ) (Below : MDePat T → MValue → List ℕ → Type 0) →
      IsType t → IsTyped cx t p → IsSharp (ctor_of p) → IsTrue (is_of_set (cx.set_of t) e) → IsTrue (builds_one e v) → IsValue t sure v →
      PartAlong p i v position Below → IsStep t p e v i position Below
  step_forth t sure p e v i position Below d h s o b is a =
      let n = parts_count cx t e in
      let y = typed_sharp cx t p h s in
      let w = built_where (ctor_of p) v a.parts a.built in
      let has = sym (piece_built (cx.set_of t) (ctor_of p) e v y.belongs y.written o b) ∙ w.build in
      let l = (has_parts IsType IsValue cx values parts t sure e v d o b is).count in
      let fits = ctor_fits IsType IsValue cx parts t (ctor_of p) e (length (subs_of p)) d y.belongs y.written s has y.count in
      let within = slice_get_within (subs_of p) i a.sub a.sub_there in
      let m = part_met (ctor_of p) (parts_of v) (length (subs_of p)) n i a.part l fits s within (subst (λ us. slice_get us i ≡ Some a.part) w.are a.part_there) in
      record {
        has = has;
        sub = a.sub;
        sub_there = a.sub_there;
        part = a.part.part;
        there = m.there;
        inner = a.inner;
        position_is = a.position_is ∙ ap (λ (x : ℕ). x ∷ a.inner) m.number;
        below = a.below;
        others = taken (ctor_of p) (subs_of p) (parts_of v) n (λ k. k ≡ place_of (ctor_of p) n i) l fits s
            (λ j q x free f g. a.others j q x (λ (z : j ≡ i). free (ap (place_of (ctor_of p) n) z)) f (subst (λ us. slice_get us j ≡ Some x) (sym w.are) g));
      }

  step_back : (t : T) (sure : Bool) (p : MDePat T) (e : Elementary) (v : MValue) (i k : ℕ) (q : MDePat T) (u : MValue) (inner : List ℕ) (Below : MDePat T → MValue → List ℕ → Type 0) →
      IsType t → IsTyped cx t p → IsSharp (ctor_of p) → IsTrue (is_of_set (cx.set_of t) e) → IsTrue (builds_one e v) → IsValue t sure v →
      has_piece (ctor_of p) (elementary_ctor e) ≡ true → slice_get (subs_of p) i ≡ Some q → place_of (ctor_of p) (parts_count cx t e) i ≡ k →
      slice_get (parts_of v) k ≡ Some u → Below q u inner →
      ((m : ℕ) (x : MValue) → m ≢ k → slice_get (parts_of v) m ≡ Some x → head_matches (head_by (ctor_of p) (subs_of p) (parts_count cx t e) m) x ≡ true) →
      PartAlong p i v (k ∷ inner) Below
  step_back t sure p e v i k q u inner Below d h s o b is has sub place there below others =
      let n = parts_count cx t e in
      let c = ctor_of p in
      let y = typed_sharp cx t p h s in
      let l = (has_parts IsType IsValue cx values parts t sure e v d o b is).count in
      let fits = ctor_fits IsType IsValue cx parts t c e (length (subs_of p)) d y.belongs y.written s has y.count in
      let within = slice_get_within (subs_of p) i q sub in
      let each = matched_by_places c (subs_of p) (parts_of v) n (λ x. x ≡ k) l fits s others in
      record {
        parts = parts_met c (numbered_from 0 (parts_of v));
        built = parts_where c v (piece_built (cx.set_of t) c e v y.belongs y.written o b ∙ has);
        count = met_length c (numbered_from 0 (parts_of v)) (length (subs_of p)) n (numbered_length 0 (parts_of v) ∙ l) fits s;
        sub = q;
        sub_there = sub;
        part = record { number = place_of c n i; part = u };
        part_there = meets_part c (parts_of v) (length (subs_of p)) n i u l fits s within (ap (slice_get (parts_of v)) place ∙ there);
        inner = inner;
        position_is = ap (λ (x : ℕ). x ∷ inner) (sym place);
        below = below;
        others = λ j r m apart f g. each j r m (λ (z : place_of c n j ≡ k). apart (place_apart c (length (subs_of p)) n j i fits (slice_get_within (subs_of p) j r f) within (z ∙ sym place))) f g;
      }

  -- from two paths to the two patterns' parts

  pub record StepsMeet (t : T) (sure : Bool) (p : MDePat T) (i : ℕ) (rest : List ℕ) (q : MDePat T) (j : ℕ) (behind : List ℕ) (a b : MDePat T) : Type 0 where
    pub pieces : PiecesMeet IsValue cx t sure (Some p) (Some q) (Some (i, j))
    pub below : MeetTogether IsValue (cx.sub (ctor_of p) t i) (sure_inside (ctor_of p) sure) a rest b behind

  pub steps_forth : (t : T) (sure : Bool) (p : MDePat T) (i : ℕ) (rest : List ℕ) (q : MDePat T) (j : ℕ) (behind : List ℕ) (a b : MDePat T) →
      IsType t → IsTyped cx t p → IsTyped cx t q → IsSharp (ctor_of p) → IsSharp (ctor_of q) →
      slice_get (subs_of p) i ≡ Some a → slice_get (subs_of q) j ≡ Some b →
      MeetTogether IsValue t sure p (i ∷ rest) q (j ∷ behind) → StepsMeet t sure p i rest q j behind a b
  steps_forth t sure p i rest q j behind a b d pt qt ps qs ia jb m =
      let v = m.value in
      let x = typed_sharp cx t p pt ps in
      let e = built_once (cx.set_of t) (ctor_of p) sure v x.belongs (values.each t sure v d m.is) in
      let n = parts_count cx t e.by in
      let f = step_forth t sure p e.by v i m.position (λ q u inner. MeetsAlong q rest u inner m.first_at m.first_range) d pt ps e.of_set e.build m.is
      (only_part p i rest v m.position m.first_at m.first_range ps m.first) in
      let g = step_forth t sure q e.by v j m.position (λ q u inner. MeetsAlong q behind u inner m.second_at m.second_range) d qt qs e.of_set e.build m.is
      (only_part q j behind v m.position m.second_at m.second_range qs m.second) in
      let same = sym f.position_is ∙ g.position_is in
      let stand = head_same (place_of (ctor_of p) n i) (place_of (ctor_of q) n j) f.inner g.inner same in
      let inner = rest_same (place_of (ctor_of p) n i) (place_of (ctor_of q) n j) f.inner g.inner same in
      let part = some_same f.part g.part (sym f.there ∙ ap (slice_get (parts_of v)) stand ∙ g.there) in
      let l = has_parts IsType IsValue cx values parts t sure e.by v d e.of_set e.build m.is in
      let below : place_of (ctor_of p) n i < length (parts_of v) = slice_get_within (parts_of v) (place_of (ctor_of p) n i) f.part f.there in
      record {
        pieces = record {
          piece = elementary_ctor e.by;
          count = n;
          had = record { by = e.by; is = refl; of_set = e.of_set; count = refl; first = f.has; second = g.has };
          stand = stand;
          all = λ k less free. let u = got (parts_of v) k (omega (arith, less, l.count)) in
              record {
                value = u.0;
                is = l.each k u.0 u.1;
                first = f.others k u.0 free u.1;
                second = g.others k u.0 (λ (z : k ≡ place_of (ctor_of q) n j). free (z ∙ sym stand)) u.1;
              };
        };
        below = record {
          value = f.part;
          is = subst (λ (z : Bool). IsValue (cx.sub (ctor_of p) t i) z f.part) (sym (inside_same (ctor_of p) e.by sure ps f.has))
              (subst (λ u. IsValue u (sure_inside (elementary_ctor e.by) sure) f.part)
              (sym (sub_piece IsType IsValue cx parts t (ctor_of p) e.by i (place_of (ctor_of p) n i) d x.belongs x.written ps e.of_set f.has (omega (arith, below, l.count)) refl))
              (l.each (place_of (ctor_of p) n i) f.part f.there));
          position = f.inner;
          first_at = m.first_at;
          second_at = m.second_at;
          first_range = m.first_range;
          second_range = m.second_range;
          number = m.number;
          first = subst (λ z. MeetsAlong z rest f.part f.inner m.first_at m.first_range) (some_same f.sub a (sym f.sub_there ∙ ia)) f.below;
          second = subst (λ z. MeetsAlong z behind f.part f.inner m.second_at m.second_range) (some_same g.sub b (sym g.sub_there ∙ jb))
              (subst (λ (z : List ℕ). MeetsAlong g.sub behind f.part z m.second_at m.second_range) (sym inner)
              (subst (λ (z : MValue). MeetsAlong g.sub behind z g.inner m.second_at m.second_range) (sym part) g.below));
          is_number = sym (at_part v (place_of (ctor_of p) n i) f.inner f.part f.there) ∙ ap (λ (z : List ℕ). part_at_position z v) (sym f.position_is) ∙ m.is_number;
          meet = m.meet;
        };
      }

  -- and back

  -- at the part where the two stand it is the value that they meet in, elsewhere one that both match
  abbrev Wanted : T → Bool → MDePat T → MDePat T → Elementary → ℕ → MValue → ℕ → MValue → Type 0
  Wanted t sure p q e k w l u =
      (l ≢ k → (head_matches (part_head (Some p) (parts_count cx t e) l) u ≡ true) × (head_matches (part_head (Some q) (parts_count cx t e) l) u ≡ true))
      × (l ≡ k → u ≡ w)

  one : (t : T) (sure : Bool) (p q : MDePat T) (e : Elementary) (k : ℕ) (w : MValue) →
      ((l : ℕ) → l < parts_count cx t e → ¬ (l ≡ k) →
      Common IsValue (cx.sub (elementary_ctor e) t l) (sure_inside (elementary_ctor e) sure) (part_head (Some p) (parts_count cx t e) l) (part_head (Some q) (parts_count cx t e) l)) →
      IsValue (cx.sub (elementary_ctor e) t k) (sure_inside (elementary_ctor e) sure) w → (l : ℕ) → l < parts_count cx t e →
      (u : MValue) × IsValue (cx.sub (elementary_ctor e) t l) (sure_inside (elementary_ctor e) sure) u × Wanted t sure p q e k w l u
  one t sure p q e k w all here l less = go (nat_eq l k) refl
    where
      differ : nat_eq l k ≡ false → l ≡ k → ⊥
      differ h e = let f : false ≡ true = sym h ∙ subst (λ (x : ℕ). nat_eq l x ≡ true) e (nat_itself l) in untrue f

      go : (b : Bool) → nat_eq l k ≡ b → (u : MValue) × IsValue (cx.sub (elementary_ctor e) t l) (sure_inside (elementary_ctor e) sure) u × Wanted t sure p q e k w l u
      go true h =
          let same : l ≡ k = nat_equal l k h in
          (w, subst (λ (x : ℕ). IsValue (cx.sub (elementary_ctor e) t x) (sure_inside (elementary_ctor e) sure) w) (sym same) here, ((λ apart. absurd (apart same)), (λ z. refl)))
      go false h =
          let m = all l less (differ h) in
          (m.value, m.is, ((λ apart. (m.first, m.second)), (λ z. absurd (differ h z))))

  pub steps_back : (t : T) (sure : Bool) (p : MDePat T) (i : ℕ) (rest : List ℕ) (q : MDePat T) (j : ℕ) (behind : List ℕ) (a b : MDePat T) →
      IsType t → IsTyped cx t p → IsTyped cx t q → IsSharp (ctor_of p) → IsSharp (ctor_of q) →
      slice_get (subs_of p) i ≡ Some a → slice_get (subs_of q) j ≡ Some b → StepsMeet t sure p i rest q j behind a b →
      MeetTogether IsValue t sure p (i ∷ rest) q (j ∷ behind)
  steps_back t sure p i rest q j behind a b d pt qt ps qs ia jb both =
      let m = settled IsType IsValue cx values parts t sure (Some p) (Some q) (Some (i, j)) both.pieces in
      let w = both.below in
      let e = m.by in
      let n = parts_count cx t e in
      let k = place_of (ctor_of p) n i in
      let x = typed_sharp cx t p pt ps in
      let fits = ctor_fits IsType IsValue cx parts t (ctor_of p) e (length (subs_of p)) d x.belongs x.written ps m.first x.count in
      let within : k < n = place_below (ctor_of p) (length (subs_of p)) n i fits ps (slice_get_within (subs_of p) i a ia) in
      let here : IsValue (cx.sub (elementary_ctor e) t k) (sure_inside (elementary_ctor e) sure) w.value =
      subst (λ (z : Bool). IsValue (cx.sub (elementary_ctor e) t k) z w.value) (inside_same (ctor_of p) e sure ps m.first)
      (subst (λ u. IsValue u (sure_inside (ctor_of p) sure) w.value)
      (sub_piece IsType IsValue cx parts t (ctor_of p) e i k d x.belongs x.written ps m.of_set m.first within refl) w.is) in
      let c = chosen_with IsValue (cx.sub (elementary_ctor e) t) (sure_inside (elementary_ctor e) sure) (Wanted t sure p q e k w.value) n 0
      (λ l z y. one t sure p q e k w.value (λ l less free. m.all l less free) here l (omega (arith, y))) in
      let v = can_be_built IsType IsValue cx parts t e sure c.us d m.of_set (record { count = c.count; each = c.are }) in
      let us = v.parts_are in
      let at = got c.us k (omega (arith, within, c.count)) in
      let is_here = ((c.each k k at.0 (omega arith) at.1).1) refl in
      let there : slice_get (parts_of v.value) k ≡ Some w.value = subst (λ us. slice_get us k ≡ Some w.value) (sym v.parts_are) (at.1 ∙ ap Some is_here) in
      record {
        value = v.value;
        is = v.is;
        position = k ∷ w.position;
        first_at = w.first_at;
        second_at = w.second_at;
        first_range = w.first_range;
        second_range = w.second_range;
        number = w.number;
        first = inr (step_back t sure p e v.value i k a w.value w.position (λ q u inner. MeetsAlong q rest u inner w.first_at w.first_range)
            d pt ps m.of_set v.build v.is m.first ia refl there w.first
            (λ l u apart z. ((c.each l l u (omega arith) (subst (λ us. slice_get us l ≡ Some u) v.parts_are z)).0 apart).0));
        second = inr (step_back t sure q e v.value j k b w.value w.position (λ q u inner. MeetsAlong q behind u inner w.second_at w.second_range)
            d qt qs m.of_set v.build v.is m.second jb (sym m.stand) there w.second
            (λ l u apart z. ((c.each l l u (omega arith) (subst (λ us. slice_get us l ≡ Some u) v.parts_are z)).0 apart).1));
        is_number = at_part v.value k w.position w.value there ∙ w.is_number;
        meet = w.meet;
      }

  -- where both paths end

  pub end_meets : (t : T) (sure : Bool) (p q : MDePat T) → IsType t → IsTyped cx t p → IsTyped cx t q → IsForward (ctor_of p) → IsForward (ctor_of q) →
      Touching p [] q [] → MeetTogether IsValue t sure p [] q []
  end_meets t sure p q d pt qt pf qf x = record {
    value = Num x.number;
    is = (parts.parts t (OneNumber x.number) sure (Num x.number) d of_set (grind arith) (λ z. cc)).1 (refl, tt);
    position = [];
    first_at = x.first_at;
    second_at = x.second_at;
    first_range = x.first_range;
    second_range = x.second_range;
    number = x.number;
    first = met p x.first_at x.first_range pt pf x.first ends.0;
    second = met q x.second_at x.second_range qt qf x.second ends.1;
    is_number = refl;
    meet = x.meet;
  }
    where
      ends : ((x.first_range.high ≡ At x.number) ⊎ (x.first_range.low ≡ At x.number)) × ((x.second_range.high ≡ At x.number) ⊎ (x.second_range.low ≡ At x.number))
      ends = elim x.meet [ inl z ↦ (inl z.0, inr z.1) | inr z ↦ (inr z.1, inl z.0) ]

      sharp : (p : MDePat T) (r : MRange) → ctor_of p ≡ NumbersCtor r → IsSharp (ctor_of p)
      sharp p r e = subst IsSharp (sym e) tt

      number_belongs : (p : MDePat T) (r : MRange) → IsTyped cx t p → ctor_of p ≡ NumbersCtor r → belongs (cx.set_of t) (NumbersCtor r) ≡ true
      number_belongs p r h e = subst (λ c. belongs (cx.set_of t) c ≡ true) e (typed_sharp cx t p h (sharp p r e)).belongs

      of_set : IsTrue (is_of_set (cx.set_of t) (OneNumber x.number))
      of_set = number_of_set (cx.set_of t) x.first_range x.number (number_belongs p x.first_range pt x.first.0) ends.0

      met : (p : MDePat T) (o : ℕ) (r : MRange) → IsTyped cx t p → IsForward (ctor_of p) → EndsAt p [] o r → (r.high ≡ At x.number) ⊎ (r.low ≡ At x.number) →
          RangeMet p (Num x.number) [] o r
      met p o r h f end at =
          let up = subst IsForward end.0 f in
          record {
            several = end.1;
            ctor = end.0;
            bare = nil_from_length (subs_of p) ((typed_sharp cx t p h (sharp p r end.0)).count ∙ ap (λ c. cx.arity c t) end.0 ∙ parts.arity t (NumbersCtor r) d (number_belongs p r h end.0));
            build = elim at [ inl z ↦ high_in r x.number z up | inr z ↦ low_in r x.number z up ];
            position_is = refl;
            at_is = end.2;
          }

  -- where one path goes on behind the other's end, nothing meets

  one_ends : (t : T) (sure : Bool) (p : MDePat T) (i : ℕ) (v : MValue) (position : List ℕ) (Below : MDePat T → MValue → List ℕ → Type 0) (r : MRange) →
      IsType t → IsTyped cx t p → IsSharp (ctor_of p) → IsValue t sure v → PartAlong p i v position Below → builds [] (NumbersCtor r) v ≡ true → ⊥
  one_ends t sure p i v position Below r d pt ps is a b =
      let x = typed_sharp cx t p pt ps in
      let e = built_once (cx.set_of t) (ctor_of p) sure v x.belongs (values.each t sure v d is) in
      let f = step_forth t sure p e.by v i position Below d pt ps e.of_set e.build is a in
      let l = slice_get_within (parts_of v) (place_of (ctor_of p) (parts_count cx t e.by) i) f.part f.there in
      let z : length (parts_of v) ≡ 0 = ap length (no_parts r v b) in
      omega (arith, l, z)

  pub first_goes_on : (t : T) (sure : Bool) (p : MDePat T) (i : ℕ) (rest : List ℕ) (q : MDePat T) → IsType t → IsTyped cx t p → IsSharp (ctor_of p) →
      MeetTogether IsValue t sure p (i ∷ rest) q [] → ⊥
  first_goes_on t sure p i rest q d pt ps m =
      one_ends t sure p i m.value m.position (λ q u inner. MeetsAlong q rest u inner m.first_at m.first_range) m.second_range d pt ps m.is
      (only_part p i rest m.value m.position m.first_at m.first_range ps m.first) m.second.build

  pub second_goes_on : (t : T) (sure : Bool) (p q : MDePat T) (j : ℕ) (behind : List ℕ) → IsType t → IsTyped cx t q → IsSharp (ctor_of q) →
      MeetTogether IsValue t sure p [] q (j ∷ behind) → ⊥
  second_goes_on t sure p q j behind d qt qs m =
      one_ends t sure q j m.value m.position (λ q u inner. MeetsAlong q behind u inner m.second_at m.second_range) m.first_range d qt qs m.is
      (only_part q j behind m.value m.position m.second_at m.second_range qs m.second) m.first.build

-- ---- through an or-pattern

pub first_or_forth : {T : Type 0} (IsValue : T → Bool → MValue → Type 0) (t : T) (sure : Bool) (p : MDePat T) (i : ℕ) (rest : List ℕ) (q : MDePat T) (other : List ℕ) (a : MDePat T) →
    ctor_of p ≡ OrCtor → slice_get (subs_of p) i ≡ Some a → MeetTogether IsValue t sure p (i ∷ rest) q other → MeetTogether IsValue t sure a rest q other
first_or_forth IsValue t sure p i rest q other a or ia m =
    let x = only_alternative p i rest m.value m.position m.first_at m.first_range or m.first in
    record {
      value = m.value;
      is = m.is;
      position = m.position;
      first_at = m.first_at;
      second_at = m.second_at;
      first_range = m.first_range;
      second_range = m.second_range;
      number = m.number;
      first = subst (λ z. MeetsAlong z rest m.value m.position m.first_at m.first_range) (some_same x.sub a (sym x.sub_there ∙ ia)) x.below;
      second = m.second;
      is_number = m.is_number;
      meet = m.meet;
    }

pub first_or_back : {T : Type 0} (IsValue : T → Bool → MValue → Type 0) (t : T) (sure : Bool) (p : MDePat T) (i : ℕ) (rest : List ℕ) (q : MDePat T) (other : List ℕ) (a : MDePat T) →
    ctor_of p ≡ OrCtor → slice_get (subs_of p) i ≡ Some a → MeetTogether IsValue t sure a rest q other → MeetTogether IsValue t sure p (i ∷ rest) q other
first_or_back IsValue t sure p i rest q other a or ia m = record {
  value = m.value;
  is = m.is;
  position = m.position;
  first_at = m.first_at;
  second_at = m.second_at;
  first_range = m.first_range;
  second_range = m.second_range;
  number = m.number;
  first = inl (record { is_or = or; sub = a; sub_there = ia; below = m.first });
  second = m.second;
  is_number = m.is_number;
  meet = m.meet;
}

pub second_or_forth : {T : Type 0} (IsValue : T → Bool → MValue → Type 0) (t : T) (sure : Bool) (p : MDePat T) (path : List ℕ) (q : MDePat T) (j : ℕ) (behind : List ℕ) (b : MDePat T) →
    ctor_of q ≡ OrCtor → slice_get (subs_of q) j ≡ Some b → MeetTogether IsValue t sure p path q (j ∷ behind) → MeetTogether IsValue t sure p path b behind
second_or_forth IsValue t sure p path q j behind b or jb m =
    let x = only_alternative q j behind m.value m.position m.second_at m.second_range or m.second in
    record {
      value = m.value;
      is = m.is;
      position = m.position;
      first_at = m.first_at;
      second_at = m.second_at;
      first_range = m.first_range;
      second_range = m.second_range;
      number = m.number;
      first = m.first;
      second = subst (λ z. MeetsAlong z behind m.value m.position m.second_at m.second_range) (some_same x.sub b (sym x.sub_there ∙ jb)) x.below;
      is_number = m.is_number;
      meet = m.meet;
    }

pub second_or_back : {T : Type 0} (IsValue : T → Bool → MValue → Type 0) (t : T) (sure : Bool) (p : MDePat T) (path : List ℕ) (q : MDePat T) (j : ℕ) (behind : List ℕ) (b : MDePat T) →
    ctor_of q ≡ OrCtor → slice_get (subs_of q) j ≡ Some b → MeetTogether IsValue t sure p path b behind → MeetTogether IsValue t sure p path q (j ∷ behind)
second_or_back IsValue t sure p path q j behind b or jb m = record {
  value = m.value;
  is = m.is;
  position = m.position;
  first_at = m.first_at;
  second_at = m.second_at;
  first_range = m.first_range;
  second_range = m.second_range;
  number = m.number;
  first = m.first;
  second = inl (record { is_or = or; sub = b; sub_there = jb; below = m.second });
  is_number = m.is_number;
  meet = m.meet;
}
