-- Well-typed patterns and the elementary constructors of their type.
use Rattle.std.proofs.Common.{◌≡◌, ◌<◌, ℕ, zero, suc, ℤ, ◌+◌, Bool, true, false, ◌&&◌, List, [], length, slice_get, nat_eq, int_le, Some, None, IsTrue, refl, sym, ap, ◌∙◌, subst, arith}
use Rattle.std.proofs.lemmas.Bool.Decides.{nat_tests}
use Rattle.std.proofs.lemmas.Int.{ints}
use mathlib.Core.Bool.{beq}
use Rattle.match_model.specs.Values.{MValue, Flag, Num, Text, Node, Point, Row, Later, values_list}
use Rattle.match_model.specs.Numbers.{MEnd, Free, At, MRange, in_range, is_from, is_up_to, closed}
use Rattle.match_model.specs.Texts.{text_eq}
use Rattle.match_model.specs.Constructors.{FixedShape, LongerShape, covers, MCtor, SingleCtor, PointCtor, LaterCtor, OtherTextCtor, WildCtor, OrCtor, VariantCtor, FlagCtor, NumbersCtor, TextCtor, RowCtor, builds, MSet, SingleSet, PointSet, FlagSet, TextSet, OpaqueSet, NothingSet, VariantSet, NumberSet, RowSet, Elementary, OneSingle, OnePoint, OneLater, OneVariant, OneFlag, OneNumber, OneText, OneLength, elementary_ctor, builds_one, is_of_set, belongs, has_piece, low_within, high_within}
use Rattle.match_model.specs.Contexts.{Context}
use Rattle.match_model.specs.ContextLaws.{PartsLaw, parts_count}
use Rattle.match_model.specs.ArenaPatterns.{MDePat, de_pat, MDePats, no_de_pats, more_de_pats, de_pats_list, ctor_of, subs_of}
use Rattle.match_model.specs.WellTyped.{is_written, HasNone, ByCtor, IsTyped, AreAllTyped, ArePartsTyped, IsHeadTyped}
use Rattle.match_model.specs.Rows.{Head}
use Rattle.match_model.proofs.Basics.{flag_equal, text_equal, nat_equal, nat_itself, both, untrue}
use Rattle.pattern_lints.specs.Meeting.{IsSharp, Fits, head_by, part_head, place_of, head_ctor, IsAlike}
use Rattle.pattern_lints.proofs.HeadParts.{some_same, le_true, head_place}

-- ---- what a constructor builds of a value that an elementary one builds

swapped : (i j k : ℕ) → nat_eq i k ≡ true → nat_eq i j ≡ nat_eq j k
swapped i j k h = let e : i ≡ k = nat_equal i k h in subst (λ x. nat_eq i j ≡ nat_eq j x) e (flipped i j)
  where
    flipped : (i j : ℕ) → nat_eq i j ≡ nat_eq j i
    flipped i j = grind (arith, nat_tests)

in_one : (r : MRange) (n : ℤ) → (low_within r.low (At n) && high_within r.high (At n)) ≡ in_range r n
in_one r n = go r.low r.high
  where
    go : (l h : MEnd) → (low_within l (At n) && high_within h (At n)) ≡ (is_from l n && is_up_to h n)
    go Free Free = refl
    go Free (At b) = refl
    go (At a) Free = refl
    go (At a) (At b) = refl

only_number : (n k : ℤ) → in_range (closed n n) k ≡ true → n ≡ k
only_number n k b = le_antisym n k (both (int_le n k) (int_le k n) b).0 (both (int_le n k) (int_le k n) b).1
  where
    le_antisym : (n k : ℤ) → int_le n k ≡ true → int_le k n ≡ true → n ≡ k
    le_antisym n k h g = grind (arith, ints)

-- where both are of one set, the constructor builds the value exactly where it has the elementary one
pub piece_built : (set : MSet) (c : MCtor) (e : Elementary) (v : MValue) → belongs set c ≡ true → is_written c ≡ true → is_of_set set e ≡ true →
    builds_one e v ≡ true → builds [] c v ≡ has_piece c (elementary_ctor e)
piece_built SingleSet SingleCtor OneSingle (Node k parts) b w s h = h
piece_built SingleSet SingleCtor OneSingle _ b w s h = untrue h
piece_built SingleSet SingleCtor _ v b w s h = untrue s
piece_built SingleSet _ e v b w s h = untrue b
piece_built PointSet PointCtor OnePoint (Point m u) b w s h = refl
piece_built PointSet PointCtor OnePoint _ b w s h = untrue h
piece_built PointSet PointCtor _ v b w s h = untrue s
piece_built PointSet _ e v b w s h = untrue b
piece_built (VariantSet n l) (VariantCtor j) (OneVariant k) (Node i parts) b w s h = swapped i j k h
piece_built (VariantSet n l) (VariantCtor j) (OneVariant k) _ b w s h = untrue h
piece_built (VariantSet n l) (VariantCtor j) OneLater Later b w s h = refl
piece_built (VariantSet n l) (VariantCtor j) OneLater _ b w s h = untrue h
piece_built (VariantSet n l) (VariantCtor j) _ v b w s h = untrue s
piece_built (VariantSet n l) LaterCtor e v b w s h = untrue w
piece_built (VariantSet n l) _ e v b w s h = untrue b
piece_built FlagSet (FlagCtor f) (OneFlag c) (Flag x) b w s h = subst (λ y. beq f y ≡ beq f c) (flag_equal c x h) refl
piece_built FlagSet (FlagCtor f) (OneFlag c) _ b w s h = untrue h
piece_built FlagSet (FlagCtor f) _ v b w s h = untrue s
piece_built FlagSet _ e v b w s h = untrue b
piece_built (NumberSet x y) (NumbersCtor r) (OneNumber n) (Num m) b w s h =
    subst (λ z. in_range r z ≡ (low_within r.low (At n) && high_within r.high (At n))) (only_number n m h) (sym (in_one r n))
piece_built (NumberSet x y) (NumbersCtor r) (OneNumber n) _ b w s h = untrue h
piece_built (NumberSet x y) (NumbersCtor r) _ v b w s h = untrue s
piece_built (NumberSet x y) _ e v b w s h = untrue b
piece_built TextSet (TextCtor t) (OneText u) (Text x) b w s h = subst (λ y. text_eq t y ≡ text_eq t u) (text_equal u x h) refl
piece_built TextSet (TextCtor t) (OneText u) _ b w s h = untrue h
piece_built TextSet (TextCtor t) _ v b w s h = untrue s
piece_built TextSet OtherTextCtor e v b w s h = untrue w
piece_built TextSet _ e v b w s h = untrue b
piece_built (RowSet len) (RowCtor r) (OneLength n) (Row items) b w s h =
    subst (λ y. covers r y ≡ covers r n) (nat_equal n (length (values_list items)) h) refl
piece_built (RowSet len) (RowCtor r) (OneLength n) _ b w s h = untrue h
piece_built (RowSet len) (RowCtor r) _ v b w s h = untrue s
piece_built (RowSet len) _ e v b w s h = untrue b
piece_built OpaqueSet c e v b w s h = untrue s
piece_built NothingSet c e v b w s h = untrue s

-- ---- constructors that share an elementary one

same_number : (i j k : ℕ) → nat_eq i k ≡ true → nat_eq j k ≡ true → nat_eq i j ≡ true
same_number i j k h g = grind (arith, nat_tests)

same_flag : (a b c : Bool) → beq a c ≡ true → beq b c ≡ true → beq a b ≡ true
same_flag a b c h g = subst (λ x. beq a x ≡ true) (sym (flag_equal b c g)) h

same_text : (a b c : List ℕ) → text_eq a c ≡ true → text_eq b c ≡ true → text_eq a b ≡ true
same_text a b c h g = subst (λ x. text_eq a x ≡ true) (sym (text_equal b c g)) h

pub alike_of : (c d : MCtor) (e : Elementary) → IsSharp c → IsSharp d → has_piece c (elementary_ctor e) ≡ true → has_piece d (elementary_ctor e) ≡ true → IsAlike c d
alike_of WildCtor d e s r h g = absurd s
alike_of OrCtor d e s r h g = absurd s
alike_of SingleCtor SingleCtor e s r h g = refl
alike_of SingleCtor WildCtor e s r h g = absurd r
alike_of SingleCtor OrCtor e s r h g = absurd r
alike_of SingleCtor d OneSingle s r h g = untrue g
alike_of SingleCtor d _ s r h g = untrue h
alike_of PointCtor PointCtor e s r h g = refl
alike_of PointCtor WildCtor e s r h g = absurd r
alike_of PointCtor OrCtor e s r h g = absurd r
alike_of PointCtor d OnePoint s r h g = untrue g
alike_of PointCtor d _ s r h g = untrue h
alike_of LaterCtor LaterCtor e s r h g = refl
alike_of LaterCtor WildCtor e s r h g = absurd r
alike_of LaterCtor OrCtor e s r h g = absurd r
alike_of LaterCtor d OneLater s r h g = untrue g
alike_of LaterCtor d _ s r h g = untrue h
alike_of OtherTextCtor d OneSingle s r h g = untrue h
alike_of OtherTextCtor d _ s r h g = untrue h
alike_of (VariantCtor i) (VariantCtor j) (OneVariant k) s r h g = same_number i j k h g
alike_of (VariantCtor i) WildCtor e s r h g = absurd r
alike_of (VariantCtor i) OrCtor e s r h g = absurd r
alike_of (VariantCtor i) d (OneVariant k) s r h g = untrue g
alike_of (VariantCtor i) d _ s r h g = untrue h
alike_of (FlagCtor a) (FlagCtor b) (OneFlag c) s r h g = same_flag a b c h g
alike_of (FlagCtor a) WildCtor e s r h g = absurd r
alike_of (FlagCtor a) OrCtor e s r h g = absurd r
alike_of (FlagCtor a) d (OneFlag c) s r h g = untrue g
alike_of (FlagCtor a) d _ s r h g = untrue h
alike_of (TextCtor a) (TextCtor b) (OneText c) s r h g = same_text a b c h g
alike_of (TextCtor a) WildCtor e s r h g = absurd r
alike_of (TextCtor a) OrCtor e s r h g = absurd r
alike_of (TextCtor a) d (OneText c) s r h g = untrue g
alike_of (TextCtor a) d _ s r h g = untrue h
alike_of (NumbersCtor x) (NumbersCtor y) (OneNumber n) s r h g = (n, sym (in_one x n) ∙ h, sym (in_one y n) ∙ g)
alike_of (NumbersCtor x) WildCtor e s r h g = absurd r
alike_of (NumbersCtor x) OrCtor e s r h g = absurd r
alike_of (NumbersCtor x) d (OneNumber n) s r h g = untrue g
alike_of (NumbersCtor x) d _ s r h g = untrue h
alike_of (RowCtor x) (RowCtor y) e s r h g = tt
alike_of (RowCtor x) WildCtor e s r h g = absurd r
alike_of (RowCtor x) OrCtor e s r h g = absurd r
alike_of (RowCtor x) d (OneLength n) s r h g = untrue g
alike_of (RowCtor x) d _ s r h g = untrue h

-- ---- well-typed patterns

by_parts : (c : MCtor) (W O P : Type 0) → IsSharp c → ByCtor c W O P → P
by_parts WildCtor W O P s h = absurd s
by_parts OrCtor W O P s h = absurd s
by_parts _ W O P s h = h

part_typed : {T : Type 0} (cx : Context T) (f : ℕ → T) (i : ℕ) (ps : MDePats T) (j n : ℕ) (q : MDePat T) → n ≡ i + j → ArePartsTyped cx f i ps →
    slice_get (de_pats_list ps) j ≡ Some q → IsTyped cx (f n) q
part_typed cx f i no_de_pats j n q e h g = cc
part_typed cx f i (more_de_pats p ps) zero n q e h g =
    subst (λ x. IsTyped cx (f n) x) (some_same p q g) (subst (λ (x : ℕ). IsTyped cx (f x) p) (let z : i ≡ n = omega (arith, e) in z) h.0)
part_typed cx f i (more_de_pats p ps) (suc j) n q e h g = part_typed cx f (suc i) ps j n q (omega (arith, e)) h.1 g

all_typed : {T : Type 0} (cx : Context T) (t : T) (ps : MDePats T) (j : ℕ) (q : MDePat T) → AreAllTyped cx t ps →
    slice_get (de_pats_list ps) j ≡ Some q → IsTyped cx t q
all_typed cx t no_de_pats j q h g = cc
all_typed cx t (more_de_pats p ps) zero q h g = subst (λ x. IsTyped cx t x) (some_same p q g) h.0
all_typed cx t (more_de_pats p ps) (suc j) q h g = all_typed cx t ps j q h.1 g

-- what a pattern that is no wildcard and no or-pattern asks
pub record SharpTyped {T : Type 0} (cx : Context T) (t : T) (p : MDePat T) : Type 0 where
  pub belongs : IsTrue (belongs (cx.set_of t) (ctor_of p))
  pub written : is_written (ctor_of p) ≡ true
  pub count : length (subs_of p) ≡ cx.arity (ctor_of p) t
  pub subs : (j : ℕ) (q : MDePat T) → slice_get (subs_of p) j ≡ Some q → IsTyped cx (cx.sub (ctor_of p) t j) q

pub typed_sharp : {T : Type 0} (cx : Context T) (t : T) (p : MDePat T) → IsTyped cx t p → IsSharp (ctor_of p) → SharpTyped cx t p
typed_sharp {T} cx t (de_pat c u uid at subs binds) h s =
    let x = by_parts c (HasNone subs) (AreAllTyped cx t subs)
    (IsTrue (belongs (cx.set_of t) c && is_written c) × (length (de_pats_list subs) ≡ cx.arity c t) × ArePartsTyped cx (cx.sub c t) 0 subs) s h.2 in
    let b = both (belongs (cx.set_of t) c) (is_written c) x.0 in
    record { belongs = b.0; written = b.1; count = x.1; subs = λ j q g. part_typed cx (cx.sub c t) 0 subs j j q (omega arith) x.2 g }

pub typed_or : {T : Type 0} (cx : Context T) (t : T) (p : MDePat T) → IsTyped cx t p → ctor_of p ≡ OrCtor → (j : ℕ) (q : MDePat T) →
    slice_get (subs_of p) j ≡ Some q → IsTyped cx t q
typed_or cx t (de_pat c u uid at subs binds) h or j q g =
    let x = subst (λ d. ByCtor d (HasNone subs) (AreAllTyped cx t subs)
    (IsTrue (belongs (cx.set_of t) c && is_written c) × (length (de_pats_list subs) ≡ cx.arity c t) × ArePartsTyped cx (cx.sub c t) 0 subs)) or h.2 in
    all_typed cx t subs j q x g

pub typed_wild : {T : Type 0} (cx : Context T) (t : T) (p : MDePat T) → IsTyped cx t p → ctor_of p ≡ WildCtor → subs_of p ≡ []
typed_wild cx t (de_pat c u uid at subs binds) h wild =
    none subs (subst (λ d. ByCtor d (HasNone subs) (AreAllTyped cx t subs)
    (IsTrue (belongs (cx.set_of t) c && is_written c) × (length (de_pats_list subs) ≡ cx.arity c t) × ArePartsTyped cx (cx.sub c t) 0 subs)) wild h.2)
  where
    none : {T : Type 0} (ps : MDePats T) → HasNone ps → de_pats_list ps ≡ []
    none no_de_pats h = refl
    none (more_de_pats p ps) h = absurd h

-- ---- patterns and the parts of an elementary constructor

pub length_belongs : (set : MSet) (n : ℕ) → is_of_set set (OneLength n) ≡ true → belongs set (RowCtor (FixedShape n)) ≡ true
length_belongs (RowSet None) n h = refl
length_belongs (RowSet (Some m)) n h = let e : m ≡ n = nat_equal m n h in subst (λ x. nat_eq x m ≡ true) e (nat_itself m)
length_belongs _ n h = untrue h

module _ {T : Type 0} (IsType : T → Type 0) (IsValue : T → Bool → MValue → Type 0) (cx : Context T) (parts : PartsLaw IsType IsValue cx) where
  -- there are as many patterns as the elementary constructor asks
  pub ctor_fits : (t : T) (c : MCtor) (e : Elementary) (count : ℕ) → IsType t → IsTrue (belongs (cx.set_of t) c) → is_written c ≡ true → IsSharp c →
      has_piece c (elementary_ctor e) ≡ true → count ≡ cx.arity c t → Fits c count (parts_count cx t e)
  ctor_fits t SingleCtor OneSingle count d b w s h g = g
  ctor_fits t SingleCtor _ count d b w s h g = untrue h
  ctor_fits t PointCtor OnePoint count d b w s h g = g ∙ parts.arity t PointCtor d b
  ctor_fits t PointCtor _ count d b w s h g = untrue h
  ctor_fits t (VariantCtor j) (OneVariant k) count d b w s h g = g ∙ ap (λ x. cx.arity (VariantCtor x) t) (nat_equal j k h)
  ctor_fits t (VariantCtor j) _ count d b w s h g = untrue h
  ctor_fits t (FlagCtor x) (OneFlag y) count d b w s h g = g ∙ parts.arity t (FlagCtor x) d b
  ctor_fits t (FlagCtor x) _ count d b w s h g = untrue h
  ctor_fits t (NumbersCtor x) (OneNumber y) count d b w s h g = g ∙ parts.arity t (NumbersCtor x) d b
  ctor_fits t (NumbersCtor x) _ count d b w s h g = untrue h
  ctor_fits t (TextCtor x) (OneText y) count d b w s h g = g ∙ parts.arity t (TextCtor x) d b
  ctor_fits t (TextCtor x) _ count d b w s h g = untrue h
  ctor_fits t (RowCtor (FixedShape m)) (OneLength n) count d b w s h g = g ∙ parts.arity t (RowCtor (FixedShape m)) d b ∙ nat_equal m n h
  ctor_fits t (RowCtor (LongerShape x y)) (OneLength n) count d b w s h g = (g ∙ parts.arity t (RowCtor (LongerShape x y)) d b, le_true (x + y) n h)
  ctor_fits t (RowCtor r) _ count d b w s h g = untrue h
  ctor_fits t LaterCtor e count d b w s h g = untrue w
  ctor_fits t OtherTextCtor e count d b w s h g = untrue w
  ctor_fits t WildCtor e count d b w s h g = absurd s
  ctor_fits t OrCtor e count d b w s h g = absurd s

  -- the part where a pattern stands has the pattern's type
  pub sub_piece : (t : T) (c : MCtor) (e : Elementary) (i k : ℕ) → IsType t → IsTrue (belongs (cx.set_of t) c) → is_written c ≡ true → IsSharp c →
      IsTrue (is_of_set (cx.set_of t) e) → has_piece c (elementary_ctor e) ≡ true → k < parts_count cx t e →
      place_of c (parts_count cx t e) i ≡ k → cx.sub c t i ≡ cx.sub (elementary_ctor e) t k
  sub_piece t SingleCtor OneSingle i k d b w s o h l g = ap (cx.sub SingleCtor t) g
  sub_piece t SingleCtor _ i k d b w s o h l g = untrue h
  sub_piece t PointCtor OnePoint i k d b w s o h l g = ap (cx.sub PointCtor t) g
  sub_piece t PointCtor _ i k d b w s o h l g = untrue h
  sub_piece t (VariantCtor j) (OneVariant m) i k d b w s o h l g = ap (cx.sub (VariantCtor j) t) g ∙ ap (λ x. cx.sub (VariantCtor x) t k) (nat_equal j m h)
  sub_piece t (VariantCtor j) _ i k d b w s o h l g = untrue h
  sub_piece t (RowCtor r) (OneLength n) i k d b w s o h l g = parts.items t r (FixedShape n) i k d b (length_belongs (cx.set_of t) n o)
  sub_piece t (RowCtor r) _ i k d b w s o h l g = untrue h
  sub_piece t (FlagCtor x) (OneFlag y) i k d b w s o h l g = absurd (omega (arith, l))
  sub_piece t (FlagCtor x) _ i k d b w s o h l g = untrue h
  sub_piece t (NumbersCtor x) (OneNumber y) i k d b w s o h l g = absurd (omega (arith, l))
  sub_piece t (NumbersCtor x) _ i k d b w s o h l g = untrue h
  sub_piece t (TextCtor x) (OneText y) i k d b w s o h l g = absurd (omega (arith, l))
  sub_piece t (TextCtor x) _ i k d b w s o h l g = untrue h
  sub_piece t LaterCtor e i k d b w s o h l g = untrue w
  sub_piece t OtherTextCtor e i k d b w s o h l g = untrue w
  sub_piece t WildCtor e i k d b w s o h l g = absurd s
  sub_piece t OrCtor e i k d b w s o h l g = absurd s

  -- the pattern for a part has the part's type
  pub sharp_part_typed : (t : T) (p : MDePat T) (e : Elementary) (k : ℕ) → IsType t → IsTyped cx t p → IsSharp (ctor_of p) →
      IsTrue (is_of_set (cx.set_of t) e) → has_piece (ctor_of p) (elementary_ctor e) ≡ true → k < parts_count cx t e →
      IsHeadTyped cx (cx.sub (elementary_ctor e) t k) (head_by (ctor_of p) (subs_of p) (parts_count cx t e) k)
  sharp_part_typed t p e k d h s o has l = go (head_by (ctor_of p) (subs_of p) (parts_count cx t e) k) refl
    where
      go : (g : Head T) → head_by (ctor_of p) (subs_of p) (parts_count cx t e) k ≡ g → IsHeadTyped cx (cx.sub (elementary_ctor e) t k) g
      go None z = tt
      go (Some q) z =
          let y = typed_sharp cx t p h s in
          let at = head_place (ctor_of p) (subs_of p) (parts_count cx t e) k q (ctor_fits t (ctor_of p) e (length (subs_of p)) d y.belongs y.written s has y.count) l z in
          subst (λ u. IsTyped cx u q) (sub_piece t (ctor_of p) e at.number k d y.belongs y.written s o has l at.place) (y.subs at.number q at.there)

  pub head_part_typed : (t : T) (h : Head T) (e : Elementary) (k : ℕ) → IsType t → IsHeadTyped cx t h →
      IsTrue (is_of_set (cx.set_of t) e) → has_piece (head_ctor h) (elementary_ctor e) ≡ true → k < parts_count cx t e →
      IsHeadTyped cx (cx.sub (elementary_ctor e) t k) (part_head h (parts_count cx t e) k)
  head_part_typed t None e k d h o has l = tt
  head_part_typed t (Some p) e k d h o has l = go (ctor_of p) refl
    where
      wild : subs_of p ≡ [] → ctor_of p ≡ WildCtor → IsHeadTyped cx (cx.sub (elementary_ctor e) t k) (head_by (ctor_of p) (subs_of p) (parts_count cx t e) k)
      wild n c = rw (c, n) tt

      sharp : IsSharp (ctor_of p) → IsHeadTyped cx (cx.sub (elementary_ctor e) t k) (head_by (ctor_of p) (subs_of p) (parts_count cx t e) k)
      sharp s = sharp_part_typed t p e k d h s o has l

      go : (c : MCtor) → ctor_of p ≡ c → IsHeadTyped cx (cx.sub (elementary_ctor e) t k) (head_by (ctor_of p) (subs_of p) (parts_count cx t e) k)
      go WildCtor z = wild (typed_wild cx t p h z) z
      go OrCtor z = let f : false ≡ true = subst (λ c. has_piece c (elementary_ctor e) ≡ true) z has in cc
      go SingleCtor z = sharp (subst IsSharp (sym z) tt)
      go PointCtor z = sharp (subst IsSharp (sym z) tt)
      go LaterCtor z = sharp (subst IsSharp (sym z) tt)
      go OtherTextCtor z = sharp (subst IsSharp (sym z) tt)
      go (VariantCtor j) z = sharp (subst IsSharp (sym z) tt)
      go (FlagCtor b) z = sharp (subst IsSharp (sym z) tt)
      go (NumbersCtor r) z = sharp (subst IsSharp (sym z) tt)
      go (TextCtor u) z = sharp (subst IsSharp (sym z) tt)
      go (RowCtor r) z = sharp (subst IsSharp (sym z) tt)
