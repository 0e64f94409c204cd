-- The pieces of a column are distinct, since each builds a value that only one of them builds.
use Rattle.std.proofs.Common.{◌≡◌, ◌≢◌, inl, inr, ℕ, zero, suc, ◌+◌, ℤ, int_le, Bool, true, false, List, [], ◌∷◌, length, nat_eq, refl, sym, ap, ◌∙◌, arith, subst, IsTrue}
use Rattle.std.specs.List.{All}
use Rattle.std.proofs.lemmas.Int.{ints}
use Rattle.match_model.specs.Values.{MValue, Flag, Num, Text, Node, Point, Row, Thing, Later, MValues, no_values, more_values, values_list}
use Rattle.match_model.specs.Numbers.{in_range, closed}
use Rattle.match_model.specs.Constructors.{MCtor, MSet, SingleSet, PointSet, FlagSet, TextSet, OpaqueSet, NothingSet, VariantSet, NumberSet, RowSet, Elementary, OneSingle, OnePoint, OneLater, OneVariant, OneFlag, OneNumber, OneText, OneLength, builds, builds_one, is_of_set}
use Rattle.match_model.specs.ContextLaws.{ValueIs, BuiltOnce, RangesAscend}
use Rattle.match_model.specs.Pieces.{ArePieces}
use Rattle.match_model.specs.PieceStates.{named_in}
use Rattle.match_model.proofs.Basics.{untrue, nat_equal, nat_itself, flag_equal, flag_itself, text_equal, text_itself, both, and_true}
use Rattle.match_model.specs.Lists.{Ordered, Among}
use Rattle.keyed_rows.proofs.RowOrder.{every-among}
use Rattle.constructor_sets.specs.Columns.{is_head, one, hits}
use Rattle.constructor_sets.specs.Serving.{Serves}
use Rattle.constructor_sets.proofs.Once.{once_of}
use Rattle.constructor_sets.proofs.Reaching.{serves_of}
use Rattle.tree_laws.proofs.InColumn.{all-among}
use Rattle.tree_laws.proofs.PiecesCut.{hit-some, seen}

-- a value of an elementary constructor
things : ℕ → MValues
things zero = no_values
things (suc n) = more_values Thing (things n)

things-length : (n : ℕ) → length (values_list (things n)) ≡ n
unfolding things
things-length zero = refl
things-length (suc n) = ap suc (things-length n)

value_by : Elementary → MValue
value_by OneSingle = Node 0 no_values
value_by OnePoint = Point false Thing
value_by OneLater = Later
value_by (OneVariant k) = Node k no_values
value_by (OneFlag b) = Flag b
value_by (OneNumber n) = Num n
value_by (OneText t) = Text t
value_by (OneLength n) = Row (things n)

between : (a n : ℤ) → in_range (closed a a) n ≡ true → a ≡ n
between a n h = let s = both (int_le a n) (int_le n a) h in go s.0 s.1
  where
    go : int_le a n ≡ true → int_le n a ≡ true → a ≡ n
    go p q = grind (arith, ints)

itself : (n : ℤ) → in_range (closed n n) n ≡ true
itself n = and_true (int_le n n) (int_le n n) go go
  where
    go : int_le n n ≡ true
    go = grind (arith, ints)

by-built : (e : Elementary) → builds_one e (value_by e) ≡ true
unfolding value_by
by-built OneSingle = refl
by-built OnePoint = refl
by-built OneLater = refl
by-built (OneVariant k) = nat_itself k
by-built (OneFlag b) = flag_itself b
by-built (OneNumber n) = itself n
by-built (OneText t) = text_itself t
by-built (OneLength n) = subst (λ k. nat_eq n k ≡ true) (sym (things-length n)) (nat_itself n)

-- no set has a lone constructor and variants
clash : {A : Type 0} (set : MSet) (k : ℕ) → is_of_set set OneSingle ≡ true → is_of_set set (OneVariant k) ≡ true → A
clash SingleSet k a b = untrue b
clash _ k a b = untrue a

by-only : (set : MSet) (e f : Elementary) → is_of_set set e ≡ true → is_of_set set f ≡ true →
    builds_one f (value_by e) ≡ true → f ≡ e
unfolding value_by
by-only set OneSingle OneSingle a b h = refl
by-only set OneSingle (OneVariant k) a b h = clash set k a b
by-only set OneSingle _ a b h = untrue h
by-only set OnePoint OnePoint a b h = refl
by-only set OnePoint _ a b h = untrue h
by-only set OneLater OneLater a b h = refl
by-only set OneLater _ a b h = untrue h
by-only set (OneVariant k) OneSingle a b h = clash set k b a
by-only set (OneVariant k) (OneVariant j) a b h = ap OneVariant (sym (nat_equal k j h))
by-only set (OneVariant k) _ a b h = untrue h
by-only set (OneFlag x) (OneFlag y) a b h = ap OneFlag (flag_equal y x h)
by-only set (OneFlag x) _ a b h = untrue h
by-only set (OneNumber x) (OneNumber y) a b h = ap OneNumber (between y x h)
by-only set (OneNumber x) _ a b h = untrue h
by-only set (OneText x) (OneText y) a b h = ap OneText (text_equal y x h)
by-only set (OneText x) _ a b h = untrue h
by-only set (OneLength x) (OneLength y) a b h =
    ap OneLength (nat_equal y (length (values_list (things x))) h ∙ things-length x)
by-only set (OneLength x) _ a b h = untrue h

by-once : (set : MSet) (e : Elementary) → is_of_set set e ≡ true → BuiltOnce set (value_by e)
by-once set e h = record { by = e; of_set = h; build = by-built e; only = λ f a b. by-only set e f h a b }

value-is : (set : MSet) (sure : Bool) (e : Elementary) → is_of_set set e ≡ true → ValueIs set sure (value_by e)
value-is OpaqueSet sure e h = untrue h
value-is NothingSet sure e h = untrue h
value-is SingleSet sure e h = by-once SingleSet e h
value-is PointSet sure e h = by-once PointSet e h
value-is FlagSet sure e h = by-once FlagSet e h
value-is TextSet sure e h = by-once TextSet e h
value-is (VariantSet count later) sure e h = by-once (VariantSet count later) e h
value-is (NumberSet first second) sure e h = by-once (NumberSet first second) e h
value-is (RowSet len) sure e h = by-once (RowSet len) e h

-- a piece's own value
record IsOwn (named : List (List ℕ)) (pieces : List MCtor) (p : MCtor) : Type 0 where
  pub value : MValue
  pub built : builds named p value ≡ true
  pub once : hits named pieces value ≡ 1

distinct-by : (named : List (List ℕ)) (pieces : List MCtor) → ((p : MCtor) → Among p pieces → IsOwn named pieces p) →
    Ordered (λ (p q : MCtor). p ≢ q) pieces
distinct-by named [] own = tt
distinct-by named (p ∷ pieces) own = (
  every-among (λ q. p ≢ q) pieces (λ q a e. first q a e (own p (inl refl))),
  distinct-by named pieces (λ q a. later q a (own q (inr a))),
)
  where
    first : (q : MCtor) → Among q pieces → p ≡ q → IsOwn named (p ∷ pieces) p → ⊥
    first q a e o =
        let k : one (builds named p o.value) ≡ 1 = ap one o.built in
        let h : one (builds named p o.value) + hits named pieces o.value ≡ 1 = o.once in
        hit-some named pieces o.value q a (subst (λ x. builds named x o.value ≡ true) e o.built) (omega (arith, h, k))

    later : (q : MCtor) → Among q pieces → IsOwn named (p ∷ pieces) q → IsOwn named pieces q
    later q a o = record { value = o.value; built = o.built; once = go (hits named pieces o.value) refl o.once }
      where
        go : (n : ℕ) → hits named pieces o.value ≡ n → one (builds named p o.value) + hits named pieces o.value ≡ 1 →
            hits named pieces o.value ≡ 1
        go zero e h = absurd (hit-some named pieces o.value q a o.built e)
        go (suc n) e h = omega (arith, e, h)

-- the pieces of a column are distinct
pub pieces-distinct : (set : MSet) (heads pieces : List MCtor) → RangesAscend set →
    All (λ h. IsTrue (is_head set h)) heads → ArePieces set heads pieces → Ordered (λ (p q : MCtor). p ≢ q) pieces
pieces-distinct set heads pieces asc all are =
    distinct-by (named_in pieces) pieces (λ p a. own p
    (all-among (Serves set (named_in pieces)) pieces p (serves_of set heads pieces (named_in pieces) all are) a))
  where
    own : (p : MCtor) → Serves set (named_in pieces) p → IsOwn (named_in pieces) pieces p
    own p s =
        let e : Elementary = s.0 in
        record {
          value = value_by e;
          built = s.1.builds_it (value_by e) (by-built e);
          once =
              once_of set true heads pieces asc are (value_by e) (value-is set true e s.1.of_set)
              (λ q. seen e (value_by e) (by-built e) (inl q)) (λ q. seen e (value_by e) (by-built e) (inr q));
        }
