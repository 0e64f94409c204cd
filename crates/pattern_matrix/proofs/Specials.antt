-- What the rows of a piece take.
use Rattle.std.proofs.Common.{◌≡◌, ◌≤◌, ℕ, zero, suc, ◌+◌, ◌-◌, Bool, true, false, ◌&&◌, ◌||◌, nat_le, List, [], ◌∷◌, ◌++◌, map, take, drop, length, cond, Some, None, refl, sym, ap, ◌∙◌, arith, length-append, length-take-le, length-drop}
use Rattle.std.specs.List.{flat_map}
use Rattle.std.proofs.lemmas.Bool.Decides.{nat_tests}
use Rattle.std.proofs.lemmas.List.{take-append-drop, take-append-le}
use Rattle.std.proofs.Math.Seq.{drop-append-add}
use Rattle.match_model.specs.Values.{MValue, Row, values_list, parts_of}
use Rattle.match_model.specs.Constructors.{FixedShape, LongerShape, MCtor, SingleCtor, PointCtor, LaterCtor, OtherTextCtor, VariantCtor, FlagCtor, NumbersCtor, TextCtor, RowCtor, WildCtor, OrCtor, builds, has_piece, parts_met}
use Rattle.match_model.specs.ArenaPatterns.{de_pat, MDePats, de_pats_list}
use Rattle.match_model.specs.ArenaWays.{chosen_of, arena_alternatives_ways}
use Rattle.match_model.specs.Witness.{parts_under}
use Rattle.match_model.specs.Rows.{is_or_ctor, Head, is_wild_ctor, wildcards, heads_of, specialised_heads}
use Rattle.match_model.proofs.Basics.{untrue, nat_equal}
use Rattle.constructor_sets.specs.Columns.{HasRoomFor}
use Rattle.pattern_matrix.specs.Covering.{is_some_there, head_takes, row_takes, some_takes}
use Rattle.pattern_matrix.proofs.Takes.{pat_takes, taken_by, any-append}

-- lists

pub drop-drop : {A : Type 0} (n m : ℕ) (xs : List A) → drop m (drop n xs) ≡ drop (n + m) xs
drop-drop zero m xs = let e : m ≡ 0 + m = omega arith in ap (λ i. drop i xs) e
drop-drop (suc n) zero [] = let e : suc n ≡ suc n + 0 = omega arith in ap (λ i. drop i []) e
drop-drop (suc n) (suc m) [] = let e : suc (n + suc m) ≡ suc n + suc m = omega arith in ap (λ i. drop i []) e
drop-drop (suc n) m (x ∷ xs) = let e : suc (n + m) ≡ suc n + m = omega arith in drop-drop n m xs ∙ ap (λ i. drop i (x ∷ xs)) e

pub take-take : {A : Type 0} (n m : ℕ) (xs : List A) → n ≤ m → take n (take m xs) ≡ take n xs
take-take zero m xs l = refl
take-take (suc n) zero xs l = absurd (omega (arith, l))
take-take (suc n) (suc m) [] l = refl
take-take (suc n) (suc m) (x ∷ xs) l = ap (λ ys. x ∷ ys) (take-take n m xs (omega (arith, l)))

and-assoc : (a b c : Bool) → ((a && b) && c) ≡ (a && (b && c))
and-assoc true b c = refl
and-assoc false b c = refl

pub row-append : {T : Type 0} (hs gs : List (Head T)) (xs ys : List MValue) → length hs ≡ length xs →
    row_takes (hs ++ gs) (xs ++ ys) ≡ (row_takes hs xs && row_takes gs ys)
row-append [] gs [] ys e = refl
row-append [] gs (x ∷ xs) ys e = absurd (omega (arith, e))
row-append (h ∷ hs) gs [] ys e = absurd (omega (arith, e))
row-append (h ∷ hs) gs (x ∷ xs) ys e =
    ap (λ b. head_takes h x && b) (row-append hs gs xs ys (omega (arith, e)))
    ∙ sym (and-assoc (head_takes h x) (row_takes hs xs) (row_takes gs ys))

wilds_take : (T : Type 0) (n : ℕ) (xs : List MValue) → length xs ≡ n → row_takes (wildcards {T = T} n) xs ≡ true
wilds_take T zero [] e = refl
wilds_take T zero (x ∷ xs) e = absurd (omega (arith, e))
wilds_take T (suc n) [] e = absurd (omega (arith, e))
wilds_take T (suc n) (x ∷ xs) e = wilds_take T n xs (omega (arith, e))

pub wilds_length : (T : Type 0) (n : ℕ) → length {A = Head T} (wildcards n) ≡ n
wilds_length T zero = refl
wilds_length T (suc n) = let e = wilds_length T n in omega (arith, e)

-- heads at both ends, with wildcards between
ends_take : {T : Type 0} (f b n : ℕ) (hs : List (Head T)) (xs : List MValue) → length hs ≡ f + b → length xs ≡ n →
    f + b ≤ n →
    row_takes (take f hs ++ (wildcards (n - (f + b)) ++ drop f hs)) xs ≡ row_takes hs (take f xs ++ drop (n - b) xs)
ends_take {T} f b n hs xs lh lx l =
    let m = n - (f + b) in
    let front = take f xs in
    let middle = take m (drop f xs) in
    let last = drop m (drop f xs) in
    let lf : length front ≡ f = length-take-le f xs (omega (arith, lx, l)) in
    let ld : length (drop f xs) ≡ n - f = length-drop f xs ∙ ap (λ k. k - f) lx in
    let lm : length middle ≡ m = length-take-le m (drop f xs) (omega (arith, ld, l)) in
    let lhf : length (take f hs) ≡ f = length-take-le f hs (omega (arith, lh)) in
    let whole : xs ≡ front ++ (middle ++ last) = sym (take-append-drop f xs) ∙ ap (λ ys. front ++ ys) (sym (take-append-drop m (drop f xs))) in
    let k : f + m ≡ n - b = omega (arith, l) in
    let tail : last ≡ drop (n - b) xs = drop-drop f m xs ∙ ap (λ i. drop i xs) k in
    ap (row_takes (take f hs ++ (wildcards m ++ drop f hs))) whole
    ∙ row-append (take f hs) (wildcards m ++ drop f hs) front (middle ++ last) (lhf ∙ sym lf)
    ∙ ap (λ c. row_takes (take f hs) front && c) (row-append (wildcards m) (drop f hs) middle last (wilds_length T m ∙ sym lm) ∙ ap (λ c. c && row_takes (drop f hs) last) (wilds_take T m middle lm))
    ∙ ap (λ ys. row_takes (take f hs) front && row_takes (drop f hs) ys) tail
    ∙ sym (row-append (take f hs) (drop f hs) front (drop (n - b) xs) (lhf ∙ sym lf))
    ∙ ap (λ gs. row_takes gs (front ++ drop (n - b) xs)) (take-append-drop f hs)

-- the ends within wider ends
pub ends_met : (f b front back : ℕ) (xs : List MValue) → f ≤ front → b ≤ back → front + back ≤ length xs →
    take f (take front xs ++ drop (length xs - back) xs) ++ drop (front + back - b) (take front xs ++ drop (length xs - back) xs) ≡ take f xs ++ drop (length xs - b) xs
ends_met f b front back xs lf lb l =
    let lt : length (take front xs) ≡ front = length-take-le front xs (omega (arith, l)) in
    let e : front + back - b ≡ length (take front xs) + (back - b) = omega (arith, lt, lb) in
    let k : length xs - back + (back - b) ≡ length xs - b = omega (arith, l, lb) in
    ap (λ ys. ys ++ drop (front + back - b) (take front xs ++ drop (length xs - back) xs)) (take-append-le f (take front xs) (drop (length xs - back) xs) (omega (arith, lt, lf)) ∙ take-take f front xs lf)
    ∙ ap (λ ys. take f xs ++ ys) (ap (λ i. drop i (take front xs ++ drop (length xs - back) xs)) e ∙ drop-append-add (take front xs) (drop (length xs - back) xs) (back - b)
    ∙ drop-drop (length xs - back) (back - b) xs ∙ ap (λ i. drop i xs) k)

pub at_least : (a b : ℕ) → nat_le a b ≡ true → a ≤ b
at_least a b h = grind (arith, nat_tests)

-- the heads of a pattern's parts take the parts of the piece where the pattern takes the value
heads_take : {T : Type 0} (c piece : MCtor) (subs : MDePats T) (n : ℕ) (v : MValue) (named : List (List ℕ)) (other : Bool) →
    is_or_ctor c ≡ false → has_piece c piece ≡ true → HasRoomFor piece c →
    builds named piece v ≡ true → (is_wild_ctor c || builds [] c v) ≡ true → length (parts_under piece v) ≡ n → ((f b : ℕ) → c ≡ RowCtor (LongerShape f b) → length (map Some (de_pats_list subs)) ≡ f + b) →
    row_takes (heads_of c (map Some (de_pats_list subs)) n) (parts_under piece v) ≡ taken_by c subs v other
heads_take {T} WildCtor piece subs n v named other o h r b k l g = wilds_take T n (parts_under piece v) l
heads_take OrCtor piece subs n v named other o h r b k l g = untrue (sym o)
heads_take SingleCtor SingleCtor subs n v named other o h r b k l g =
    ap (λ x. x && row_takes (map Some (de_pats_list subs)) (parts_of v)) (sym k)
heads_take SingleCtor _ subs n v named other o h r b k l g = untrue h
heads_take PointCtor PointCtor subs n v named other o h r b k l g =
    ap (λ x. x && row_takes (map Some (de_pats_list subs)) (parts_of v)) (sym k)
heads_take PointCtor _ subs n v named other o h r b k l g = untrue h
heads_take LaterCtor LaterCtor subs n v named other o h r b k l g =
    ap (λ x. x && row_takes (map Some (de_pats_list subs)) (parts_of v)) (sym k)
heads_take LaterCtor _ subs n v named other o h r b k l g = untrue h
heads_take OtherTextCtor OtherTextCtor subs n v named other o h r b k l g =
    ap (λ x. x && row_takes (map Some (de_pats_list subs)) (parts_of v)) (sym k)
heads_take OtherTextCtor _ subs n v named other o h r b k l g = untrue h
heads_take (VariantCtor i) (VariantCtor j) subs n v named other o h r b k l g =
    ap (λ x. x && row_takes (map Some (de_pats_list subs)) (parts_of v)) (sym k)
heads_take (VariantCtor i) _ subs n v named other o h r b k l g = untrue h
heads_take (FlagCtor i) (FlagCtor j) subs n v named other o h r b k l g =
    ap (λ x. x && row_takes (map Some (de_pats_list subs)) (parts_of v)) (sym k)
heads_take (FlagCtor i) _ subs n v named other o h r b k l g = untrue h
heads_take (NumbersCtor i) (NumbersCtor j) subs n v named other o h r b k l g =
    ap (λ x. x && row_takes (map Some (de_pats_list subs)) (parts_of v)) (sym k)
heads_take (NumbersCtor i) _ subs n v named other o h r b k l g = untrue h
heads_take (TextCtor i) (TextCtor j) subs n v named other o h r b k l g =
    ap (λ x. x && row_takes (map Some (de_pats_list subs)) (parts_of v)) (sym k)
heads_take (TextCtor i) _ subs n v named other o h r b k l g = untrue h
heads_take (RowCtor (FixedShape i)) (RowCtor (FixedShape j)) subs n v named other o h r b k l g =
    ap (λ x. x && row_takes (map Some (de_pats_list subs)) (parts_of v)) (sym k)
heads_take (RowCtor (LongerShape f e)) (RowCtor (FixedShape j)) subs n v named other o h r b k l g =
    let hs = map Some (de_pats_list subs) in
    let rows : (v : MValue) → builds named (RowCtor (FixedShape j)) v ≡ true → length (parts_of v) ≡ j = long in
    let same : length (parts_of v) ≡ j = rows v b in
    ends_take f e n hs (parts_of v) (g f e refl) l (omega (arith, at_least (f + e) j h, same, l))
    ∙ ap (λ i. row_takes hs (take f (parts_of v) ++ drop (i - e) (parts_of v))) (sym l)
    ∙ ap (λ x. x && row_takes hs (take f (parts_of v) ++ drop (length (parts_of v) - e) (parts_of v))) (sym k)
  where
    long : (v : MValue) → builds named (RowCtor (FixedShape j)) v ≡ true → length (parts_of v) ≡ j
    long (Row items) b = sym (nat_equal j (length (values_list items)) b)
    long _ b = untrue b
heads_take (RowCtor (LongerShape f e)) (RowCtor (LongerShape front back)) subs n v named other o h r b k l g =
    let hs = map Some (de_pats_list subs) in
    let xs = parts_of v in
    let enough : front + back ≤ length xs = long v b in
    let lt : length (take front xs) ≡ front = length-take-le front xs (omega (arith, enough)) in
    let ld = length-drop (length xs - back) xs in
    let la = length-append (take front xs) (drop (length xs - back) xs) in
    let count : n ≡ front + back = omega (arith, l, la, lt, ld, enough) in
    ends_take f e n hs (parts_under (RowCtor (LongerShape front back)) v) (g f e refl) l (omega (arith, count, r.0, r.1))
    ∙ ap (λ i. row_takes hs (take f (parts_under (RowCtor (LongerShape front back)) v) ++ drop (i - e) (parts_under (RowCtor (LongerShape front back)) v))) count
    ∙ ap (row_takes hs) (ends_met f e front back xs r.0 r.1 enough)
    ∙ ap (λ x. x && row_takes hs (take f xs ++ drop (length xs - e) xs)) (sym k)
  where
    long : (v : MValue) → builds named (RowCtor (LongerShape front back)) v ≡ true → front + back ≤ length (parts_of v)
    long (Row items) b = at_least (front + back) (length (values_list items)) b
    long _ b = untrue b
heads_take (RowCtor (FixedShape i)) (RowCtor (LongerShape front back)) subs n v named other o h r b k l g = untrue h
heads_take (RowCtor (FixedShape i)) _ subs n v named other o h r b k l g = untrue h
heads_take (RowCtor (LongerShape f e)) _ subs n v named other o h r b k l g = untrue h

-- a pattern whose constructor does not build the value takes it not
none_take : {T : Type 0} (c : MCtor) (subs : MDePats T) (v : MValue) (other : Bool) → is_or_ctor c ≡ false →
    (is_wild_ctor c || builds [] c v) ≡ false → taken_by c subs v other ≡ false
none_take WildCtor subs v other o k = untrue (sym k)
none_take OrCtor subs v other o k = untrue (sym o)
none_take SingleCtor subs v other o k = ap (λ b. b && row_takes (map Some (de_pats_list subs)) (parts_of v)) k
none_take PointCtor subs v other o k = ap (λ b. b && row_takes (map Some (de_pats_list subs)) (parts_of v)) k
none_take LaterCtor subs v other o k = ap (λ b. b && row_takes (map Some (de_pats_list subs)) (parts_of v)) k
none_take OtherTextCtor subs v other o k = ap (λ b. b && row_takes (map Some (de_pats_list subs)) (parts_of v)) k
none_take (VariantCtor i) subs v other o k = ap (λ b. b && row_takes (map Some (de_pats_list subs)) (parts_of v)) k
none_take (FlagCtor i) subs v other o k = ap (λ b. b && row_takes (map Some (de_pats_list subs)) (parts_of v)) k
none_take (NumbersCtor i) subs v other o k = ap (λ b. b && row_takes (map Some (de_pats_list subs)) (parts_of v)) k
none_take (TextCtor i) subs v other o k = ap (λ b. b && row_takes (map Some (de_pats_list subs)) (parts_of v)) k
none_take (RowCtor s) subs v other o k =
    ap (λ b. b && row_takes (map Some (de_pats_list subs)) (parts_met (RowCtor s) (parts_of v))) k

-- what the first head of a row is for a piece of so many parts: no or-pattern, with all of the piece or nothing, and with
-- as many heads for its parts
pub record IsSided {T : Type 0} (named : List (List ℕ)) (piece : MCtor) (n : ℕ) (c : MCtor) (subs : MDePats T) : Type 0 where
  pub plain : is_or_ctor c ≡ false
  pub sided : (v : MValue) → builds named piece v ≡ true → (is_wild_ctor c || builds [] c v) ≡ has_piece c piece
  pub room : has_piece c piece ≡ true → HasRoomFor piece c
  pub ends : (f b : ℕ) → c ≡ RowCtor (LongerShape f b) → length (map Some (de_pats_list subs)) ≡ f + b
  pub count : has_piece c piece ≡ true → length (heads_of c (map Some (de_pats_list subs)) n) ≡ n

abbrev pub IsSidedRow : {T : Type 0} → (named : List (List ℕ)) → (piece : MCtor) → ℕ → List (Head T) → Type 0
IsSidedRow named piece n [] = Unit {0}
IsSidedRow named piece n (None ∷ rest) = Unit {0}
IsSidedRow named piece n (Some (de_pat c t uid at subs binds) ∷ rest) = IsSided named piece n c subs

or_false : (b : Bool) → (b || false) ≡ b
or_false true = refl
or_false false = refl

special_one : {T : Type 0} (named : List (List ℕ)) (piece : MCtor) (n : ℕ) (v : MValue) (vs : List MValue) →
    builds named piece v ≡ true → length (parts_under piece v) ≡ n → (row : List (Head T)) →
    IsSidedRow named piece n row →
    some_takes (specialised_heads piece n row) (parts_under piece v ++ vs) ≡ row_takes row (v ∷ vs)
special_one named piece n v vs b l [] s = refl
special_one {T} named piece n v vs b l (None ∷ rest) s =
    or_false (row_takes (wildcards n ++ rest) (parts_under piece v ++ vs))
    ∙ row-append (wildcards n) rest (parts_under piece v) vs (wilds_length T n ∙ sym l)
    ∙ ap (λ c. c && row_takes rest vs) (wilds_take T n (parts_under piece v) l)
special_one {T} named piece n v vs b l (Some (de_pat c t uid at subs binds) ∷ rest) s = go (has_piece c piece) refl
  where
    go : (has : Bool) → has_piece c piece ≡ has →
        some_takes (cond has ((heads_of c (map Some (de_pats_list subs)) n ++ rest) ∷ []) []) (parts_under piece v ++ vs) ≡ (head_takes (Some (de_pat c t uid at subs binds)) v && row_takes rest vs)
    go true e =
        or_false (row_takes (heads_of c (map Some (de_pats_list subs)) n ++ rest) (parts_under piece v ++ vs))
        ∙ row-append (heads_of c (map Some (de_pats_list subs)) n) rest (parts_under piece v) vs (s.count e ∙ sym l)
        ∙ ap (λ x. x && row_takes rest vs)
        (heads_take c piece subs n v named (is_some_there (arena_alternatives_ways (chosen_of subs) subs v)) s.plain e (s.room e) b (s.sided v b ∙ e) l s.ends ∙ sym (pat_takes c t uid at subs binds v))
    go false e =
        ap (λ x. x && row_takes rest vs)
        (sym (pat_takes c t uid at subs binds v ∙ none_take c subs v (is_some_there (arena_alternatives_ways (chosen_of subs) subs v)) s.plain (s.sided v b ∙ e)))

abbrev pub AreSidedRows : {T : Type 0} → (named : List (List ℕ)) → (piece : MCtor) → ℕ → List (List (Head T)) → Type 0
AreSidedRows named piece n [] = Unit {0}
AreSidedRows named piece n (row ∷ rows) = IsSidedRow named piece n row × AreSidedRows named piece n rows

-- the rows of a piece take the parts of a value that it builds where the rows take the value
pub special_takes : {T : Type 0} (named : List (List ℕ)) (piece : MCtor) (n : ℕ) (v : MValue) (vs : List MValue) →
    builds named piece v ≡ true → length (parts_under piece v) ≡ n → (rows : List (List (Head T))) →
    AreSidedRows named piece n rows →
    some_takes (flat_map (specialised_heads piece n) rows) (parts_under piece v ++ vs) ≡ some_takes rows (v ∷ vs)
special_takes named piece n v vs b l [] s = refl
special_takes named piece n v vs b l (row ∷ rows) s =
    any-append (λ r. row_takes r (parts_under piece v ++ vs)) (specialised_heads piece n row) (flat_map (specialised_heads piece n) rows)
    ∙ ap (λ x. x || some_takes (flat_map (specialised_heads piece n) rows) (parts_under piece v ++ vs)) (special_one named piece n v vs b l row s.0)
    ∙ ap (λ x. row_takes row (v ∷ vs) || x) (special_takes named piece n v vs b l rows s.1)
