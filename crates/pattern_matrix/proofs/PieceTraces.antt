-- The traces of the heads of a piece's parts, and of wildcards.
use Rattle.std.proofs.Common.{◌≡◌, ◌≤◌, ℕ, zero, suc, ◌+◌, ◌-◌, Bool, true, false, ◌||◌, List, [], ◌∷◌, ◌++◌, map, take, drop, length, cond, Some, None, refl, sym, ap, ◌∙◌, arith, length-append, length-take-le, length-drop}
use Rattle.std.specs.List.{list_all}
use Rattle.std.proofs.lemmas.List.{take-append-drop}
use Rattle.match_model.specs.Values.{MValue, Row, values_list, parts_of}
use Rattle.match_model.specs.Constructors.{FixedShape, LongerShape, MCtor, SingleCtor, PointCtor, LaterCtor, OtherTextCtor, VariantCtor, FlagCtor, NumbersCtor, TextCtor, RowCtor, WildCtor, OrCtor, builds, has_piece, parts_met}
use Rattle.match_model.specs.ArenaPatterns.{de_pat, MDePats, de_pats_list}
use Rattle.match_model.specs.Rows.{is_or_ctor, Head, is_wild_ctor, is_wild, wildcards, heads_of}
use Rattle.match_model.specs.Witness.{parts_under}
use Rattle.match_model.proofs.Basics.{untrue, nat_equal, both}
use Rattle.constructor_sets.specs.Columns.{HasRoomFor}
use Rattle.pattern_matrix.proofs.Specials.{drop-drop, ends_met, wilds_length, at_least}
use Rattle.pattern_matrix.proofs.Traces.{joined, head_traces, row_traces, joined-assoc, joined_one, traced_by, other_traces, pat_traces}

pub traces-append : {T : Type 0} (hs gs : List (Head T)) (xs ys : List MValue) → length hs ≡ length xs → row_traces (hs ++ gs) (xs ++ ys) ≡ joined (row_traces hs xs) (row_traces gs ys)
traces-append [] gs [] ys e = sym (joined_one (row_traces gs ys))
traces-append [] gs (x ∷ xs) ys e = absurd (omega (arith, e))
traces-append (h ∷ hs) gs [] ys e = absurd (omega (arith, e))
traces-append (h ∷ hs) gs (x ∷ xs) ys e =
    ap (joined (head_traces h x)) (traces-append hs gs xs ys (omega (arith, e))) ∙ sym (joined-assoc (head_traces h x) (row_traces hs xs) (row_traces gs ys))

pub wilds_trace : (T : Type 0) (n : ℕ) (xs : List MValue) → length xs ≡ n → row_traces (wildcards {T = T} n) xs ≡ [] ∷ []
wilds_trace T zero [] e = refl
wilds_trace T zero (x ∷ xs) e = absurd (omega (arith, e))
wilds_trace T (suc n) [] e = absurd (omega (arith, e))
wilds_trace T (suc n) (x ∷ xs) e = joined_one (row_traces (wildcards {T = T} n) xs) ∙ wilds_trace T n xs (omega (arith, e))

-- heads at both ends, with wildcards between
ends_trace : {T : Type 0} (f b n : ℕ) (hs : List (Head T)) (xs : List MValue) → length hs ≡ f + b → length xs ≡ n → f + b ≤ n →
    row_traces (take f hs ++ (wildcards (n - (f + b)) ++ drop f hs)) xs ≡ row_traces hs (take f xs ++ drop (n - b) xs)
ends_trace {T} f b n hs xs lh lx l =
    let m = n - (f + b) in
    let front = take f xs in
    let middle = take m (drop f xs) in
    let last = drop m (drop f xs) in
    let lf : length front ≡ f = length-take-le f xs (omega (arith, lx, l)) in
    let ld : length (drop f xs) ≡ n - f = length-drop f xs ∙ ap (λ k. k - f) lx in
    let lm : length middle ≡ m = length-take-le m (drop f xs) (omega (arith, ld, l)) in
    let lhf : length (take f hs) ≡ f = length-take-le f hs (omega (arith, lh)) in
    let whole : xs ≡ front ++ (middle ++ last) = sym (take-append-drop f xs) ∙ ap (λ ys. front ++ ys) (sym (take-append-drop m (drop f xs))) in
    let k : f + m ≡ n - b = omega (arith, l) in
    let tail : last ≡ drop (n - b) xs = drop-drop f m xs ∙ ap (λ i. drop i xs) k in
    ap (row_traces (take f hs ++ (wildcards m ++ drop f hs))) whole
    ∙ traces-append (take f hs) (wildcards m ++ drop f hs) front (middle ++ last) (lhf ∙ sym lf)
    ∙ ap (joined (row_traces (take f hs) front))
    (traces-append (wildcards m) (drop f hs) middle last (wilds_length T m ∙ sym lm) ∙ ap (λ c. joined c (row_traces (drop f hs) last)) (wilds_trace T m middle lm) ∙ joined_one (row_traces (drop f hs) last))
    ∙ ap (λ ys. joined (row_traces (take f hs) front) (row_traces (drop f hs) ys)) tail
    ∙ sym (traces-append (take f hs) (drop f hs) front (drop (n - b) xs) (lhf ∙ sym lf))
    ∙ ap (λ gs. row_traces gs (front ++ drop (n - b) xs)) (take-append-drop f hs)

if_built : {A : Type 0} (x : Bool) (ts : List A) → x ≡ true → ts ≡ cond x ts []
if_built x ts e = ap (λ b. cond b ts []) (sym e)

-- the heads of a pattern's parts have the traces of the pattern
pub heads_trace : {T : Type 0} (c piece : MCtor) (subs : MDePats T) (n : ℕ) (v : MValue) (named : List (List ℕ)) (other : List (List ℕ)) → is_or_ctor c ≡ false → has_piece c piece ≡ true → HasRoomFor piece c →
    builds named piece v ≡ true → (is_wild_ctor c || builds [] c v) ≡ true → length (parts_under piece v) ≡ n → ((f b : ℕ) → c ≡ RowCtor (LongerShape f b) → length (map Some (de_pats_list subs)) ≡ f + b) →
    row_traces (heads_of c (map Some (de_pats_list subs)) n) (parts_under piece v) ≡ traced_by c subs v other
heads_trace {T} WildCtor piece subs n v named other o h r b k l g = wilds_trace T n (parts_under piece v) l
heads_trace OrCtor piece subs n v named other o h r b k l g = untrue (sym o)
heads_trace SingleCtor SingleCtor subs n v named other o h r b k l g = if_built (builds [] SingleCtor v) (row_traces (map Some (de_pats_list subs)) (parts_of v)) k
heads_trace SingleCtor _ subs n v named other o h r b k l g = untrue h
heads_trace PointCtor PointCtor subs n v named other o h r b k l g = if_built (builds [] PointCtor v) (row_traces (map Some (de_pats_list subs)) (parts_of v)) k
heads_trace PointCtor _ subs n v named other o h r b k l g = untrue h
heads_trace LaterCtor LaterCtor subs n v named other o h r b k l g = if_built (builds [] LaterCtor v) (row_traces (map Some (de_pats_list subs)) (parts_of v)) k
heads_trace LaterCtor _ subs n v named other o h r b k l g = untrue h
heads_trace OtherTextCtor OtherTextCtor subs n v named other o h r b k l g = if_built (builds [] OtherTextCtor v) (row_traces (map Some (de_pats_list subs)) (parts_of v)) k
heads_trace OtherTextCtor _ subs n v named other o h r b k l g = untrue h
heads_trace (VariantCtor i) (VariantCtor j) subs n v named other o h r b k l g = if_built (builds [] (VariantCtor i) v) (row_traces (map Some (de_pats_list subs)) (parts_of v)) k
heads_trace (VariantCtor i) _ subs n v named other o h r b k l g = untrue h
heads_trace (FlagCtor i) (FlagCtor j) subs n v named other o h r b k l g = if_built (builds [] (FlagCtor i) v) (row_traces (map Some (de_pats_list subs)) (parts_of v)) k
heads_trace (FlagCtor i) _ subs n v named other o h r b k l g = untrue h
heads_trace (NumbersCtor i) (NumbersCtor j) subs n v named other o h r b k l g = if_built (builds [] (NumbersCtor i) v) (row_traces (map Some (de_pats_list subs)) (parts_of v)) k
heads_trace (NumbersCtor i) _ subs n v named other o h r b k l g = untrue h
heads_trace (TextCtor i) (TextCtor j) subs n v named other o h r b k l g = if_built (builds [] (TextCtor i) v) (row_traces (map Some (de_pats_list subs)) (parts_of v)) k
heads_trace (TextCtor i) _ subs n v named other o h r b k l g = untrue h
heads_trace (RowCtor (FixedShape i)) (RowCtor (FixedShape j)) subs n v named other o h r b k l g = if_built (builds [] (RowCtor (FixedShape i)) v) (row_traces (map Some (de_pats_list subs)) (parts_of v)) k
heads_trace (RowCtor (LongerShape f e)) (RowCtor (FixedShape j)) subs n v named other o h r b k l g =
    let hs = map Some (de_pats_list subs) in
    let rows : (v : MValue) → builds named (RowCtor (FixedShape j)) v ≡ true → length (parts_of v) ≡ j = long in
    let same : length (parts_of v) ≡ j = rows v b in
    ends_trace f e n hs (parts_of v) (g f e refl) l (omega (arith, at_least (f + e) j h, same, l))
    ∙ ap (λ i. row_traces hs (take f (parts_of v) ++ drop (i - e) (parts_of v))) (sym l)
    ∙ if_built (builds [] (RowCtor (LongerShape f e)) v) (row_traces hs (take f (parts_of v) ++ drop (length (parts_of v) - e) (parts_of v))) k
  where
    long : (v : MValue) → builds named (RowCtor (FixedShape j)) v ≡ true → length (parts_of v) ≡ j
    long (Row items) b = sym (nat_equal j (length (values_list items)) b)
    long _ b = untrue b
heads_trace (RowCtor (LongerShape f e)) (RowCtor (LongerShape front back)) subs n v named other o h r b k l g =
    let hs = map Some (de_pats_list subs) in
    let xs = parts_of v in
    let enough : front + back ≤ length xs = long v b in
    let lt : length (take front xs) ≡ front = length-take-le front xs (omega (arith, enough)) in
    let ld = length-drop (length xs - back) xs in
    let la = length-append (take front xs) (drop (length xs - back) xs) in
    let count : n ≡ front + back = omega (arith, l, la, lt, ld, enough) in
    ends_trace f e n hs (parts_under (RowCtor (LongerShape front back)) v) (g f e refl) l (omega (arith, count, r.0, r.1))
    ∙ ap (λ i. row_traces hs (take f (parts_under (RowCtor (LongerShape front back)) v) ++ drop (i - e) (parts_under (RowCtor (LongerShape front back)) v))) count
    ∙ ap (row_traces hs) (ends_met f e front back xs r.0 r.1 enough)
    ∙ if_built (builds [] (RowCtor (LongerShape f e)) v) (row_traces hs (take f xs ++ drop (length xs - e) xs)) k
  where
    long : (v : MValue) → builds named (RowCtor (LongerShape front back)) v ≡ true → front + back ≤ length (parts_of v)
    long (Row items) b = at_least (front + back) (length (values_list items)) b
    long _ b = untrue b
heads_trace (RowCtor (FixedShape i)) (RowCtor (LongerShape front back)) subs n v named other o h r b k l g = untrue h
heads_trace (RowCtor (FixedShape i)) _ subs n v named other o h r b k l g = untrue h
heads_trace (RowCtor (LongerShape f e)) _ subs n v named other o h r b k l g = untrue h

-- a pattern whose constructor does not build the value has no way
pub none_trace : {T : Type 0} (c : MCtor) (subs : MDePats T) (v : MValue) (other : List (List ℕ)) → is_or_ctor c ≡ false → (is_wild_ctor c || builds [] c v) ≡ false → traced_by c subs v other ≡ []
none_trace WildCtor subs v other o k = untrue (sym k)
none_trace OrCtor subs v other o k = untrue (sym o)
none_trace SingleCtor subs v other o k = ap (λ b. cond b (row_traces (map Some (de_pats_list subs)) (parts_of v)) []) k
none_trace PointCtor subs v other o k = ap (λ b. cond b (row_traces (map Some (de_pats_list subs)) (parts_of v)) []) k
none_trace LaterCtor subs v other o k = ap (λ b. cond b (row_traces (map Some (de_pats_list subs)) (parts_of v)) []) k
none_trace OtherTextCtor subs v other o k = ap (λ b. cond b (row_traces (map Some (de_pats_list subs)) (parts_of v)) []) k
none_trace (VariantCtor i) subs v other o k = ap (λ b. cond b (row_traces (map Some (de_pats_list subs)) (parts_of v)) []) k
none_trace (FlagCtor i) subs v other o k = ap (λ b. cond b (row_traces (map Some (de_pats_list subs)) (parts_of v)) []) k
none_trace (NumbersCtor i) subs v other o k = ap (λ b. cond b (row_traces (map Some (de_pats_list subs)) (parts_of v)) []) k
none_trace (TextCtor i) subs v other o k = ap (λ b. cond b (row_traces (map Some (de_pats_list subs)) (parts_of v)) []) k
none_trace (RowCtor s) subs v other o k = ap (λ b. cond b (row_traces (map Some (de_pats_list subs)) (parts_met (RowCtor s) (parts_of v))) []) k

-- wildcards

pub wild_trace : {T : Type 0} (h : Head T) (v : MValue) → is_wild h ≡ true → head_traces h v ≡ [] ∷ []
wild_trace None v e = refl
wild_trace (Some (de_pat d t uid at subs binds)) v e = pat_traces d t uid at subs binds v ∙ go d e
  where
    go : (d : MCtor) → is_wild_ctor d ≡ true → traced_by d subs v (other_traces subs v) ≡ [] ∷ []
    go WildCtor e = refl
    go _ e = untrue e

-- a row of wildcards has one way
pub wilds_way : {T : Type 0} (hs : List (Head T)) (vs : List MValue) → length hs ≡ length vs → list_all is_wild hs ≡ true → row_traces hs vs ≡ [] ∷ []
wilds_way [] [] l e = refl
wilds_way [] (v ∷ vs) l e = absurd (omega (arith, l))
wilds_way (h ∷ hs) [] l e = absurd (omega (arith, l))
wilds_way (h ∷ hs) (v ∷ vs) l e =
    let s = both (is_wild h) (list_all is_wild hs) e in
    ap (λ ts. joined ts (row_traces hs vs)) (wild_trace h v s.0) ∙ joined_one (row_traces hs vs) ∙ wilds_way hs vs (omega (arith, l)) s.1
