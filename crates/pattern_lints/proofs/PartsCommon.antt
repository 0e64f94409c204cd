-- Two patterns have a common value exactly where, for some elementary constructor that both have, the patterns for each part
-- have one.
use Rattle.std.proofs.Common.{◌≡◌, ◌≢◌, ◌<◌, ◌≤◌, ◌⊎◌, inl, inr, ◌↔◌, ℕ, zero, suc, ◌+◌, Bool, true, false, List, [], ◌∷◌, length, slice_get, Some, None, IsTrue, refl, sym, ap, ◌∙◌, subst, arith}
use Rattle.match_model.specs.Values.{MValue, parts_of}
use Rattle.match_model.specs.Constructors.{MCtor, SingleCtor, PointCtor, LaterCtor, OtherTextCtor, WildCtor, OrCtor, VariantCtor, FlagCtor, NumbersCtor, TextCtor, RowCtor, MSet, SingleSet, PointSet, FlagSet, TextSet, OpaqueSet, NothingSet, VariantSet, NumberSet, RowSet, Elementary, elementary_ctor, builds_one, is_of_set, belongs, has_piece, sure_inside}
use Rattle.match_model.specs.Contexts.{Context}
use Rattle.match_model.specs.ContextLaws.{BuiltOnce, ValueIs, ValuesLaw, PartsLaw, PartsAre, parts_count}
use Rattle.match_model.specs.ArenaPatterns.{MDePat, ctor_of, subs_of}
use Rattle.match_model.specs.ArenaWays.{numbered_from}
use Rattle.match_model.specs.WellTyped.{IsTyped, IsHeadTyped}
use Rattle.match_model.specs.Rows.{Head}
use Rattle.match_model.proofs.Basics.{untrue}
use Rattle.pat_context.proofs.Consequences.{are_values, can_be_built}
use Rattle.pattern_lints.specs.Meeting.{head_matches, head_ctor, IsSharp, Common, head_by, part_head, AllMeet, Skipped, Spot, Stands, spot_part, PiecesMeet}
use Rattle.pattern_lints.proofs.Matched.{sharp_forth, sharp_back, or_forth, or_back, wild_matches}
use Rattle.pattern_lints.proofs.HeadParts.{some_same, got, numbered_length, met_length, taken, matched_by_places}
use Rattle.pattern_lints.proofs.PieceHeads.{piece_built, typed_sharp, typed_wild, ctor_fits}

-- a constructor is a wildcard, an or-pattern or any other
pub kind : (c : MCtor) → (c ≡ WildCtor) ⊎ ((c ≡ OrCtor) ⊎ IsSharp c)
kind WildCtor = inl refl
kind OrCtor = inr (inl refl)
kind SingleCtor = inr (inr tt)
kind PointCtor = inr (inr tt)
kind LaterCtor = inr (inr tt)
kind OtherTextCtor = inr (inr tt)
kind (VariantCtor j) = inr (inr tt)
kind (FlagCtor b) = inr (inr tt)
kind (NumbersCtor r) = inr (inr tt)
kind (TextCtor u) = inr (inr tt)
kind (RowCtor r) = inr (inr tt)

pub or_has_none : (c d : MCtor) → c ≡ OrCtor → has_piece c d ≡ true → ⊥
or_has_none c d or h = let f : false ≡ true = subst (λ x. has_piece x d ≡ true) or h in cc

pub sharp_not_or : (c : MCtor) → IsSharp c → c ≢ OrCtor
sharp_not_or c s e = absurd (subst IsSharp e s)

-- a value that some constructor of the set builds is built by an elementary one
pub built_once : (set : MSet) (c : MCtor) (sure : Bool) (v : MValue) → belongs set c ≡ true → ValueIs set sure v → BuiltOnce set v
built_once SingleSet c sure v b h = h
built_once PointSet c sure v b h = h
built_once FlagSet c sure v b h = h
built_once TextSet c sure v b h = h
built_once (VariantSet n l) c sure v b h = h
built_once (NumberSet x y) c sure v b h = h
built_once (RowSet len) c sure v b h = h
built_once OpaqueSet c sure v b h = untrue b
built_once NothingSet c sure v b h = untrue b

-- values for all parts, each as it is wanted
pub record ChosenWith {T : Type 0} (IsValue : T → Bool → MValue → Type 0) (f : ℕ → T) (sure : Bool) (Q : ℕ → MValue → Type 0) (n i : ℕ) : Type 0 where
  pub us : List MValue
  pub count : length us ≡ n
  pub are : PartsAre IsValue sure f i us
  pub each : (k m : ℕ) (u : MValue) → m ≡ i + k → slice_get us k ≡ Some u → Q m u

pub chosen_with : {T : Type 0} (IsValue : T → Bool → MValue → Type 0) (f : ℕ → T) (sure : Bool) (Q : ℕ → MValue → Type 0) (n i : ℕ) →
    ((k : ℕ) → i ≤ k → k < i + n → (u : MValue) × IsValue (f k) sure u × Q k u) → ChosenWith IsValue f sure Q n i
chosen_with IsValue f sure Q zero i h = record { us = []; count = refl; are = tt; each = λ k m u e z. cc }
chosen_with {T} IsValue f sure Q (suc n) i h =
    let first = h i (omega arith) (omega arith) in
    let r = chosen_with IsValue f sure Q n (suc i) (λ k a b. h k (omega (arith, a)) (omega (arith, b))) in
    record { us = first.0 ∷ r.us; count = ap suc r.count; are = (first.1, r.are); each = each first.0 first.2 r.us r.each }
  where
    each : (x : MValue) → Q i x → (us : List MValue) → ((k m : ℕ) (u : MValue) → m ≡ suc i + k → slice_get us k ≡ Some u → Q m u) →
        (k m : ℕ) (u : MValue) → m ≡ i + k → slice_get (x ∷ us) k ≡ Some u → Q m u
    each x q us rest zero m u e z =
        subst (λ (y : ℕ). Q y u) (let g : i ≡ m = omega (arith, e) in g) (subst (λ (y : MValue). Q i y) (some_same x u z) q)
    each x q us rest (suc k) m u e z = rest k m u (omega (arith, e)) z

module _ {T : Type 0} (IsType : T → Type 0) (IsValue : T → Bool → MValue → Type 0) (cx : Context T) (values : ValuesLaw IsType IsValue cx) (parts : PartsLaw IsType IsValue cx) where
  -- the parts of a value are values
  part_value : (f : ℕ → T) (sure : Bool) (i : ℕ) (us : List MValue) (k n : ℕ) (u : MValue) → n ≡ i + k → PartsAre IsValue sure f i us →
      slice_get us k ≡ Some u → IsValue (f n) sure u
  part_value f sure i [] k n u e h z = cc
  part_value f sure i (x ∷ us) zero n u e h z =
      subst (λ (y : MValue). IsValue (f n) sure y) (some_same x u z) (subst (λ (y : ℕ). IsValue (f y) sure x) (let g : i ≡ n = omega (arith, e) in g) h.0)
  part_value f sure i (x ∷ us) (suc k) n u e h z = part_value f sure (suc i) us k n u (omega (arith, e)) h.1 z

  pub record HasParts (t : T) (sure : Bool) (e : Elementary) (us : List MValue) : Type 0 where
    pub count : length us ≡ parts_count cx t e
    pub each : (k : ℕ) (u : MValue) → slice_get us k ≡ Some u → IsValue (cx.sub (elementary_ctor e) t k) (sure_inside (elementary_ctor e) sure) u

  pub has_parts : (t : T) (sure : Bool) (e : Elementary) (v : MValue) → IsType t → IsTrue (is_of_set (cx.set_of t) e) → IsTrue (builds_one e v) →
      IsValue t sure v → HasParts t sure e (parts_of v)
  has_parts t sure e v d o b i =
      let a = are_values IsType IsValue cx parts t e sure v d o b i in
      record { count = a.count; each = λ k u z. part_value (cx.sub (elementary_ctor e) t) (sure_inside (elementary_ctor e) sure) 0 (parts_of v) k k u (omega arith) a.each z }

  -- a value that the elementary constructor builds is matched by the head
  pub record IsTaken (t : T) (h : Head T) (e : Elementary) (us : List MValue) : Type 0 where
    pub has : has_piece (head_ctor h) (elementary_ctor e) ≡ true
    pub each : (k : ℕ) (u : MValue) → slice_get us k ≡ Some u → head_matches (part_head h (parts_count cx t e) k) u ≡ true

  wild_part : (t : T) (p : MDePat T) (n k : ℕ) → IsTyped cx t p → ctor_of p ≡ WildCtor → head_by (ctor_of p) (subs_of p) n k ≡ None
  wild_part t p n k h w = rw (w, typed_wild cx t p h w) refl

  pub head_taken : (t : T) (sure : Bool) (h : Head T) (e : Elementary) (v : MValue) → IsType t → IsHeadTyped cx t h → IsTrue (is_of_set (cx.set_of t) e) →
      IsTrue (builds_one e v) → IsValue t sure v → head_ctor h ≢ OrCtor → head_matches h v ≡ true → IsTaken t h e (parts_of v)
  head_taken t sure None e v d h o b i nor m = record { has = refl; each = λ k u z. refl }
  head_taken t sure (Some p) e v d h o b i nor m = elim (kind (ctor_of p)) [
    | inl w ↦ record {
      has = subst (λ c. has_piece c (elementary_ctor e) ≡ true) (sym w) refl;
      each = λ k u z. subst (λ (x : Head T). head_matches x u ≡ true) (sym (wild_part t p (parts_count cx t e) k h w)) refl;
    }
    | inr (inl or) ↦ absurd (nor or)
    | inr (inr s) ↦ (
        let y = typed_sharp cx t p h s in
        let x = sharp_forth p v s m in
        let has = sym (piece_built (cx.set_of t) (ctor_of p) e v y.belongs y.written o b) ∙ x.build in
        let f = taken (ctor_of p) (subs_of p) (parts_of v) (parts_count cx t e) (λ k. ⊥) (has_parts t sure e v d o b i).count
        (ctor_fits IsType IsValue cx parts t (ctor_of p) e (length (subs_of p)) d y.belongs y.written s has y.count) s
        (λ j q n free a c. x.all.each j q n a c) in
        record { has = has; each = λ k u z. f k u (λ z. z) z })
  ]

  pub head_from_parts : (t : T) (sure : Bool) (h : Head T) (e : Elementary) (v : MValue) → IsType t → IsHeadTyped cx t h → IsTrue (is_of_set (cx.set_of t) e) →
      IsTrue (builds_one e v) → IsValue t sure v → IsTaken t h e (parts_of v) → head_matches h v ≡ true
  head_from_parts t sure None e v d h o b i m = refl
  head_from_parts t sure (Some p) e v d h o b i m = elim (kind (ctor_of p)) [
    | inl w ↦ wild_matches p v w
    | inr (inl or) ↦ absurd (or_has_none (ctor_of p) (elementary_ctor e) or m.has)
    | inr (inr s) ↦ (
        let y = typed_sharp cx t p h s in
        let l = (has_parts t sure e v d o b i).count in
        let fits = ctor_fits IsType IsValue cx parts t (ctor_of p) e (length (subs_of p)) d y.belongs y.written s m.has y.count in
        let f = matched_by_places (ctor_of p) (subs_of p) (parts_of v) (parts_count cx t e) (λ k. ⊥) l fits s (λ k u free z. m.each k u z) in
        sharp_back p v s (record {
          build = piece_built (cx.set_of t) (ctor_of p) e v y.belongs y.written o b ∙ m.has;
          all = record {
            count = met_length (ctor_of p) (numbered_from 0 (parts_of v)) (length (subs_of p)) (parts_count cx t e) (numbered_length 0 (parts_of v) ∙ l) fits s;
            each = λ j q n a c. f j q n (λ z. z) a c;
          };
        }))
  ]

  -- from a common value to its parts

  pub from_value : (t : T) (sure : Bool) (h g : Head T) (e : Elementary) (v : MValue) → IsType t → IsHeadTyped cx t h → IsHeadTyped cx t g →
      head_ctor h ≢ OrCtor → head_ctor g ≢ OrCtor → IsTrue (is_of_set (cx.set_of t) e) → IsTrue (builds_one e v) → IsValue t sure v →
      head_matches h v ≡ true → head_matches g v ≡ true → PiecesMeet IsValue cx t sure h g None
  from_value t sure h g e v d ht gt hn gn o b i hm gm =
      let x = head_taken t sure h e v d ht o b i hn hm in
      let y = head_taken t sure g e v d gt o b i gn gm in
      let l = has_parts t sure e v d o b i in
      record {
        piece = elementary_ctor e;
        count = parts_count cx t e;
        had = record { by = e; is = refl; of_set = o; count = refl; first = x.has; second = y.has };
        stand = tt;
        all = λ k below free. let u = got (parts_of v) k (omega (arith, below, l.count)) in
            record { value = u.0; is = l.each k u.0 u.1; first = x.each k u.0 u.1; second = y.each k u.0 u.1 };
      }

  pub common_forth : (t : T) (sure : Bool) (p : MDePat T) (g : Head T) → IsType t → IsTyped cx t p → IsHeadTyped cx t g →
      IsSharp (ctor_of p) → head_ctor g ≢ OrCtor → Common IsValue t sure (Some p) g → PiecesMeet IsValue cx t sure (Some p) g None
  common_forth t sure p g d pt gt s gn m =
      let y = typed_sharp cx t p pt s in
      let b = built_once (cx.set_of t) (ctor_of p) sure m.value y.belongs (values.each t sure m.value d m.is) in
      from_value t sure (Some p) g b.by m.value d pt gt (sharp_not_or (ctor_of p) s) gn b.of_set b.build m.is m.first m.second

  -- the same at the elementary constructor itself
  pub record Settled (t : T) (sure : Bool) (h g : Head T) (spot : Spot) : Type 0 where
    pub by : Elementary
    pub of_set : IsTrue (is_of_set (cx.set_of t) by)
    pub first : has_piece (head_ctor h) (elementary_ctor by) ≡ true
    pub second : has_piece (head_ctor g) (elementary_ctor by) ≡ true
    pub stand : Stands (head_ctor h) (head_ctor g) (parts_count cx t by) spot
    pub all : AllMeet IsValue cx t sure (elementary_ctor by) (parts_count cx t by) (Skipped (spot_part (head_ctor h) (parts_count cx t by) spot)) h g

  pub settled : (t : T) (sure : Bool) (h g : Head T) (spot : Spot) → PiecesMeet IsValue cx t sure h g spot → Settled t sure h g spot
  settled t sure h g spot m = record {
    by = m.had.by;
    of_set = m.had.of_set;
    first = subst (λ c. has_piece (head_ctor h) c ≡ true) m.had.is m.had.first;
    second = subst (λ c. has_piece (head_ctor g) c ≡ true) m.had.is m.had.second;
    stand = subst (λ (n : ℕ). Stands (head_ctor h) (head_ctor g) n spot) m.had.count m.stand;
    all = subst (λ (n : ℕ). AllMeet IsValue cx t sure (elementary_ctor m.had.by) n (Skipped (spot_part (head_ctor h) n spot)) h g) m.had.count
        (subst (λ c. AllMeet IsValue cx t sure c m.count (Skipped (spot_part (head_ctor h) m.count spot)) h g) m.had.is m.all);
  }

  pub unsettled : (t : T) (sure : Bool) (h g : Head T) (spot : Spot) → Settled t sure h g spot → PiecesMeet IsValue cx t sure h g spot
  unsettled t sure h g spot m = record {
    piece = elementary_ctor m.by;
    count = parts_count cx t m.by;
    had = record { by = m.by; is = refl; of_set = m.of_set; count = refl; first = m.first; second = m.second };
    stand = m.stand;
    all = m.all;
  }

  -- and back

  pub common_back : (t : T) (sure : Bool) (h g : Head T) → IsType t → IsHeadTyped cx t h → IsHeadTyped cx t g →
      PiecesMeet IsValue cx t sure h g None → Common IsValue t sure h g
  common_back t sure h g d ht gt pm =
      let m = settled t sure h g None pm in
      let e = m.by in
      let n = parts_count cx t e in
      let c = chosen_with IsValue (cx.sub (elementary_ctor e) t) (sure_inside (elementary_ctor e) sure)
      (λ k u. (head_matches (part_head h n k) u ≡ true) × (head_matches (part_head g n k) u ≡ true)) n 0
      (λ k a l. let x = m.all k (omega (arith, l)) (λ z. z) in (x.value, x.is, (x.first, x.second))) in
      let b = can_be_built IsType IsValue cx parts t e sure c.us d m.of_set (record { count = c.count; each = c.are }) in
      record {
        value = b.value;
        is = b.is;
        first = head_from_parts t sure h e b.value d ht m.of_set b.build b.is
            (record { has = m.first; each = λ k u z. (c.each k k u (omega arith) (subst (λ us. slice_get us k ≡ Some u) b.parts_are z)).0 });
        second = head_from_parts t sure g e b.value d gt m.of_set b.build b.is
            (record { has = m.second; each = λ k u z. (c.each k k u (omega arith) (subst (λ us. slice_get us k ≡ Some u) b.parts_are z)).1 });
      }

-- ---- or-patterns, wildcards, and the other order

pub flipped : {T : Type 0} (IsValue : T → Bool → MValue → Type 0) (t : T) (sure : Bool) (h g : Head T) → Common IsValue t sure h g → Common IsValue t sure g h
flipped IsValue t sure h g m = record { value = m.value; is = m.is; first = m.second; second = m.first }

pub or_common : {T : Type 0} (IsValue : T → Bool → MValue → Type 0) (t : T) (sure : Bool) (p : MDePat T) (g : Head T) → ctor_of p ≡ OrCtor →
    Common IsValue t sure (Some p) g → (j : ℕ) × (q : MDePat T) × (slice_get (subs_of p) j ≡ Some q) × Common IsValue t sure (Some q) g
or_common IsValue t sure p g or m =
    let a = or_forth p m.value or m.first in
    (a.0, a.1, a.2, record { value = m.value; is = m.is; first = a.3; second = m.second })

pub common_or : {T : Type 0} (IsValue : T → Bool → MValue → Type 0) (t : T) (sure : Bool) (p q : MDePat T) (j : ℕ) (g : Head T) → ctor_of p ≡ OrCtor →
    slice_get (subs_of p) j ≡ Some q → Common IsValue t sure (Some q) g → Common IsValue t sure (Some p) g
common_or IsValue t sure p q j g or e m = record { value = m.value; is = m.is; first = or_back p m.value j q or e m.first; second = m.second }

-- a wildcard is as good as no pattern
pub wild_first : {T : Type 0} (IsValue : T → Bool → MValue → Type 0) (t : T) (sure : Bool) (p : MDePat T) (g : Head T) → ctor_of p ≡ WildCtor →
    Common IsValue t sure (Some p) g ↔ Common IsValue t sure None g
wild_first IsValue t sure p g w = (
  (λ m. record { value = m.value; is = m.is; first = refl; second = m.second }),
  (λ m. record { value = m.value; is = m.is; first = wild_matches p m.value w; second = m.second }),
)
