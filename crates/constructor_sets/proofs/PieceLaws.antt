-- The laws of the pieces of a column.
use Rattle.std.proofs.Common.{ℕ, zero, suc, ◌-◌, Bool, true, false, List, [], ◌∷◌, ◌++◌, map, Option, Some, None, sym, subst, arith, IsTrue}
use Rattle.std.specs.List.{All, Contains}
use Rattle.std.proofs.lemmas.List.{map-append}
use Rattle.match_model.specs.Values.{MValue}
use Rattle.match_model.specs.Numbers.{MEnd, At, MRange}
use Rattle.match_model.specs.Constructors.{FixedShape, LongerShape, MCtor, LaterCtor, OtherTextCtor, VariantCtor, NumbersCtor, TextCtor, RowCtor, MSet, SingleSet, PointSet, FlagSet, TextSet, OpaqueSet, NothingSet, VariantSet, NumberSet, RowSet, belongs}
use Rattle.match_model.specs.Contexts.{Context}
use Rattle.match_model.specs.ContextLaws.{ValuesLaw, PartsLaw, EmptyLaw, UnsureLaw}
use Rattle.match_model.specs.Made.{IsForward}
use Rattle.match_model.specs.Pieces.{Follow, last_one, one_more, IsCutToo, ArePieces, each_below, lengths_end, longest_back}
use Rattle.match_model.specs.PieceStates.{named_in}
use Rattle.range_split.proofs.Following.{Follow-ascends}
use Rattle.pat_context.proofs.Decided.{ctor_values_told}
use Rattle.constructor_sets.specs.Laws.{EachByOnePiece, PiecesFitColumns, PiecesStandInOrder, PieceValuesAreTold}
use Rattle.constructor_sets.proofs.InOrder.{in_order_of}
use Rattle.constructor_sets.proofs.Once.{once_by}
use Rattle.constructor_sets.proofs.Reaching.{array_covers}
use Rattle.constructor_sets.proofs.Whole.{made_pieces}

pub each_by_one : EachByOnePiece
each_by_one set heads pieces e v asc a h b = once_by set heads pieces asc a v e h b

pub fit_columns : PiecesFitColumns
fit_columns set heads pieces c a = made_pieces set heads pieces c.ranges c.ascend c.allowed c.made a

pub stand_in_order : PiecesStandInOrder
stand_in_order set heads pieces asc m a = in_order_of set heads pieces m asc a

-- no piece runs backward

abbrev AreForward : List MCtor → Type 0
AreForward [] = Unit {0}
AreForward (c ∷ cs) = IsForward c × AreForward cs

forward-append : (xs ys : List MCtor) → AreForward xs → AreForward ys → AreForward (xs ++ ys)
forward-append [] ys h k = k
forward-append (x ∷ xs) ys h k = (h.0, forward-append xs ys h.1 k)

forward_below : (f : ℕ → MCtor) (n : ℕ) → ((k : ℕ) → IsForward (f k)) → AreForward (each_below f n)
forward_below f zero h = tt
forward_below f (suc n) h = forward-append (each_below f n) (f n ∷ []) (forward_below f n h) (h n, tt)

forward_texts : (ts : List (List ℕ)) → AreForward (map TextCtor ts)
forward_texts [] = tt
forward_texts (t ∷ ts) = (tt, forward_texts ts)

forward_ranges : {low high : MEnd} {ps : List MRange} → Follow low high ps → AreForward (map NumbersCtor ps)
forward_ranges (last_one low high n h) = (Follow-ascends (last_one low high n h), tt)
forward_ranges (one_more low high n rest h f) = (Follow-ascends (last_one low (At n) n h), forward_ranges f)

forward_second : (second : Option MRange) (heads qs : List MRange) → IsCutToo second heads qs →
    AreForward (map NumbersCtor qs)
forward_second None heads qs e = subst (λ (x : List MRange). AreForward (map NumbersCtor x)) (sym e) tt
forward_second (Some s) heads qs c = forward_ranges c.together

pieces_forward : (set : MSet) (heads pieces : List MCtor) → ArePieces set heads pieces → AreForward pieces
pieces_forward SingleSet heads pieces a = subst AreForward (sym a) (tt, tt)
pieces_forward PointSet heads pieces a = subst AreForward (sym a) (tt, tt)
pieces_forward FlagSet heads pieces a = subst AreForward (sym a) (tt, (tt, tt))
pieces_forward (VariantSet count true) heads pieces a =
    subst AreForward (sym a) (forward-append (each_below VariantCtor count) (LaterCtor ∷ []) (forward_below VariantCtor count (λ k. tt)) (tt, tt))
pieces_forward (VariantSet count false) heads pieces a =
    subst AreForward (sym a) (forward_below VariantCtor count (λ k. tt))
pieces_forward (NumberSet first second) heads pieces (ps, qs, c, d, e) =
    subst AreForward (sym e)
    (subst AreForward (sym (map-append NumbersCtor ps qs)) (forward-append (map NumbersCtor ps) (map NumbersCtor qs) (forward_ranges c.together) (forward_second second _ qs d)))
pieces_forward TextSet heads pieces (ts, c, e) =
    subst AreForward (sym e) (forward-append (map TextCtor ts) (OtherTextCtor ∷ []) (forward_texts ts) (tt, tt))
pieces_forward (RowSet None) heads pieces a =
    subst AreForward (sym a)
    (forward-append (each_below (λ n. RowCtor (FixedShape n)) (lengths_end heads)) (RowCtor (LongerShape (lengths_end heads - longest_back heads) (longest_back heads)) ∷ [])
    (forward_below (λ n. RowCtor (FixedShape n)) (lengths_end heads) (λ k. tt)) (tt, tt))
pieces_forward (RowSet (Some n)) heads pieces a =
    subst AreForward (sym a) (subst (λ c. AreForward (c ∷ [])) (sym (array_covers n heads).1) (tt, tt))
pieces_forward OpaqueSet heads pieces a = subst AreForward (sym a) tt
pieces_forward NothingSet heads pieces a = subst AreForward (sym a) tt

forward_at : (pieces : List MCtor) → AreForward pieces → (p : MCtor) → Contains pieces p → IsForward p
forward_at [] h p (k, l, e) = absurd (omega (arith, l))
forward_at (q ∷ pieces) h p (zero, l, e) = subst IsForward e h.0
forward_at (q ∷ pieces) h p (suc k, l, e) = forward_at pieces h.1 p (k, omega (arith, l), e)

all_at : (P : MCtor → Type 0) (pieces : List MCtor) → All P pieces → (p : MCtor) → Contains pieces p → P p
all_at P pieces h p (k, l, e) = subst P e (h k p l)

pub values_told : {T : Type 0} (IsType : T → Type 0) (IsValue : T → Bool → MValue → Type 0) (cx : Context T) →
    ValuesLaw IsType IsValue cx → PartsLaw IsType IsValue cx →
    (is_empty : T → Bool) (variant_empty : T → ℕ → Bool) → EmptyLaw IsType IsValue cx is_empty variant_empty → UnsureLaw IsType IsValue → PieceValuesAreTold IsType IsValue cx is_empty variant_empty
values_told IsType IsValue cx values parts is_empty variant_empty empty unsure o heads pieces p d c a i =
    let are = made_pieces (cx.set_of o.type) heads pieces c.ranges c.ascend c.allowed c.made a in
    ctor_values_told IsType IsValue cx values parts is_empty variant_empty empty unsure o (named_in pieces) p d
    (all_at (λ x. IsTrue (belongs (cx.set_of o.type) x)) pieces are.belong p i) (forward_at pieces (pieces_forward (cx.set_of o.type) heads pieces a) p i)
