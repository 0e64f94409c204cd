-- What stands in the room of a witness once it is filled, and the stack that is left.
use Rattle.std.proofs.Common.{◌≡◌, ◌⊎◌, inl, inr, ℕ, zero, suc, ◌+◌, ◌-◌, ◌<◌, ◌≤◌, min, length, arith, List, [], ◌∷◌, ◌++◌, map, take, drop, replicate, refl, true, false, Bool, ap, sym, ◌∙◌, length-drop, length-append}
use Rattle.std.specs.List.{insert}
use Rattle.std.proofs.lemmas.List.{length-replicate, take-append-le, take-append-drop, drop-drop, drop-take, take_all, drop_all, length-map}
use Rattle.std.proofs.Math.Seq.{drop-append_seam}
use Rattle.match_model.specs.Constructors.{FixedShape, LongerShape, MCtor, SingleCtor, PointCtor, LaterCtor, OtherTextCtor, WildCtor, OrCtor, VariantCtor, FlagCtor, NumbersCtor, TextCtor, RowCtor}
use Rattle.match_model.specs.Witness.{MWitness, AnyOf, LaterOf, FlagOf, SpanOf, TextOf, ElseOf, NodeOf, PointOf, RowOf, witnesses_list, witnesses_of}
use Rattle.match_model.specs.WitnessList.{first_witness, witness_of, wrapped}
use Rattle.witnesses.specs.Views.{plain_witness, tops}
use Rattle.witnesses.specs.Rooms.{places, room_for, parts_of_witness, filled}
use Rattle.witnesses.specs.declared.witness.Witness.{Witness}
use Rattle.witnesses.proofs.Tops.{tops-append, length-tops, tops-take}

-- places

as_list : (ws : List MWitness) → witnesses_list (witnesses_of ws) ≡ ws
as_list [] = refl
as_list (w ∷ ws) = ap (λ us. w ∷ us) (as_list ws)

length-places : (n : ℕ) → length (witnesses_list (places n)) ≡ n
length-places n = ap length (as_list (replicate n AnyOf)) ∙ length-replicate n AnyOf

below : (a b : ℕ) → (a ≤ b) ⊎ (b < a)
below a b = grind arith

-- no more is taken than there is room for
pub room_parts : (c : MCtor) (named : List (List ℕ)) (n : ℕ) → 0 < n → parts_of_witness (room_for c named n) ≤ n
room_parts SingleCtor named n l = let e = length-places n in omega (arith, e)
room_parts (VariantCtor k) named n l = let e = length-places n in omega (arith, e)
room_parts PointCtor named n l = l
room_parts LaterCtor named n l = omega arith
room_parts (FlagCtor b) named n l = omega arith
room_parts (NumbersCtor r) named n l = omega arith
room_parts (TextCtor t) named n l = omega arith
room_parts OtherTextCtor named n l = omega arith
room_parts (RowCtor (FixedShape m)) named n l = let e = length-places n in omega (arith, e)
room_parts (RowCtor (LongerShape f b)) named n l = let e = length-places (min n f) in let d = length-places (n - min n f) in omega (arith, e, d)
room_parts WildCtor named n l = omega arith
room_parts OrCtor named n l = omega arith

none_taken : (k : ℕ) → take {A = MWitness} k [] ≡ []
none_taken zero = refl
none_taken (suc k) = refl

none_left : (k : ℕ) → drop {A = MWitness} k [] ≡ []
none_left zero = refl
none_left (suc k) = refl

-- room without a place is the witness without parts
pub room_bare : (c : MCtor) (named : List (List ℕ)) → room_for c named 0 ≡ witness_of c named []
room_bare SingleCtor named = refl
room_bare (VariantCtor k) named = refl
room_bare PointCtor named = refl
room_bare LaterCtor named = refl
room_bare (FlagCtor b) named = refl
room_bare (NumbersCtor r) named = refl
room_bare (TextCtor t) named = refl
room_bare OtherTextCtor named = refl
room_bare (RowCtor (FixedShape m)) named = refl
room_bare (RowCtor (LongerShape f b)) named =
    let e : min 0 f ≡ 0 = omega arith in
    ap (λ k. RowOf (places k) true (places (0 - k))) e ∙ sym (ap (λ us. RowOf (witnesses_of us) true (witnesses_of (drop f []))) (none_taken f) ∙ ap (λ us. RowOf (witnesses_of []) true (witnesses_of us)) (none_left f))
room_bare WildCtor named = refl
room_bare OrCtor named = refl

-- the parts of a row, in front and at the back
min-suc : (n f : ℕ) → min (suc n) (suc f) ≡ suc (min n f)
min-suc n f = omega arith

front_part : (f n : ℕ) (ws : List MWitness) → take (min n f) ws ≡ take f (take n ws)
front_part zero n ws = let e : min n 0 ≡ 0 = omega arith in ap (λ k. take k ws) e
front_part (suc f) zero ws = let e : min 0 (suc f) ≡ 0 = omega arith in ap (λ k. take k ws) e
front_part (suc f) (suc n) [] = none_taken (min (suc n) (suc f))
front_part (suc f) (suc n) (w ∷ ws) = ap (λ k. take k (w ∷ ws)) (min-suc n f) ∙ ap (λ us. w ∷ us) (front_part f n ws)

back_part : (f n : ℕ) (ws : List MWitness) → take (n - min n f) (drop (min n f) ws) ≡ drop f (take n ws)
back_part zero n ws = let e : min n 0 ≡ 0 = omega arith in let d : n - 0 ≡ n = omega arith in ap (λ k. take (n - k) (drop k ws)) e ∙ ap (λ k. take k ws) d
back_part (suc f) zero ws = let e : 0 - min 0 (suc f) ≡ 0 = omega arith in ap (λ k. take k (drop (min 0 (suc f)) ws)) e
back_part (suc f) (suc n) [] = ap (take (suc n - min (suc n) (suc f))) (none_left (min (suc n) (suc f))) ∙ none_taken (suc n - min (suc n) (suc f))
back_part (suc f) (suc n) (w ∷ ws) =
    let d : suc n - min (suc n) (suc f) ≡ n - min n f = omega arith in
    ap (λ k. take k (drop (min (suc n) (suc f)) (w ∷ ws))) d ∙ ap (λ k. take (n - min n f) (drop k (w ∷ ws))) (min-suc n f) ∙ back_part f n ws

first_taken : (n : ℕ) (ws : List MWitness) → 0 < n → first_witness ws ≡ first_witness (take n ws)
first_taken zero ws l = absurd (omega arith)
first_taken (suc n) [] l = refl
first_taken (suc n) (w ∷ ws) l = refl

-- room that is filled is the witness of the constructor
pub room_filled : (c : MCtor) (named : List (List ℕ)) (n : ℕ) (ws : List MWitness) → 0 < n → filled (room_for c named n) ws ≡ witness_of c named (take n ws)
room_filled SingleCtor named n ws l = ap (λ k. NodeOf 0 (witnesses_of (take k ws))) (length-places n)
room_filled (VariantCtor j) named n ws l = ap (λ k. NodeOf j (witnesses_of (take k ws))) (length-places n)
room_filled PointCtor named n ws l = ap PointOf (first_taken n ws l)
room_filled LaterCtor named n ws l = refl
room_filled (FlagCtor b) named n ws l = refl
room_filled (NumbersCtor r) named n ws l = refl
room_filled (TextCtor t) named n ws l = refl
room_filled OtherTextCtor named n ws l = refl
room_filled (RowCtor (FixedShape m)) named n ws l = ap (λ k. RowOf (witnesses_of (take k ws)) false (witnesses_of (take 0 (drop k ws)))) (length-places n)
room_filled (RowCtor (LongerShape f b)) named n ws l =
    ap (λ k. RowOf (witnesses_of (take k ws)) true (witnesses_of (take (length (witnesses_list (places (n - min n f)))) (drop k ws)))) (length-places (min n f))
    ∙ ap (λ k. RowOf (witnesses_of (take (min n f) ws)) true (witnesses_of (take k (drop (min n f) ws)))) (length-places (n - min n f))
    ∙ ap (λ us. RowOf (witnesses_of us) true (witnesses_of (take (n - min n f) (drop (min n f) ws)))) (front_part f n ws)
    ∙ ap (λ us. RowOf (witnesses_of (take f (take n ws))) true (witnesses_of us)) (back_part f n ws)
room_filled WildCtor named n ws l = refl
room_filled OrCtor named n ws l = refl

-- a node or a row, filled

long_list : (ws : List MWitness) → length (witnesses_list (witnesses_of ws)) ≡ length ws
long_list ws = ap length (as_list ws)

pub node_parts : (room : MWitness) (k : ℕ) (parts : List Witness) → room ≡ NodeOf k (witnesses_of (map plain_witness parts)) → parts_of_witness room ≡ length parts
node_parts room k parts e = ap parts_of_witness e ∙ long_list (map plain_witness parts) ∙ length-map parts plain_witness

pub row_parts : (room : MWitness) (front : List Witness) (longer : Bool) (back : List Witness) → room ≡ RowOf (witnesses_of (map plain_witness front)) longer (witnesses_of (map plain_witness back)) →
    parts_of_witness room ≡ length front + length back
row_parts room front longer back e =
    ap parts_of_witness e ∙ ap (λ n. n + length (witnesses_list (witnesses_of (map plain_witness back)))) (long_list (map plain_witness front) ∙ length-map front plain_witness)
    ∙ ap (λ n. length front + n) (long_list (map plain_witness back) ∙ length-map back plain_witness)

pub node_filled : (room new : MWitness) (k : ℕ) (parts news : List Witness) (us : List MWitness) → room ≡ NodeOf k (witnesses_of (map plain_witness parts)) → new ≡ NodeOf k (witnesses_of (map plain_witness news)) →
    map plain_witness news ≡ take (length parts) us → new ≡ filled room us
node_filled room new k parts news us e f t =
    f ∙ ap (λ ws. NodeOf k (witnesses_of ws)) (t ∙ ap (λ n. take n us) (sym (long_list (map plain_witness parts) ∙ length-map parts plain_witness))) ∙ ap (λ x. filled x us) (sym e)

pub row_filled : (room new : MWitness) (front : List Witness) (longer : Bool) (back newf newb : List Witness) (us : List MWitness) →
    room ≡ RowOf (witnesses_of (map plain_witness front)) longer (witnesses_of (map plain_witness back)) → new ≡ RowOf (witnesses_of (map plain_witness newf)) longer (witnesses_of (map plain_witness newb)) →
    map plain_witness newf ≡ take (length front) us → map plain_witness newb ≡ take (length back) (drop (length front) us) → new ≡ filled room us
row_filled room new front longer back newf newb us e g s t =
    let f : length front ≡ length (witnesses_list (witnesses_of (map plain_witness front))) = sym (long_list (map plain_witness front) ∙ length-map front plain_witness) in
    let b : length back ≡ length (witnesses_list (witnesses_of (map plain_witness back))) = sym (long_list (map plain_witness back) ∙ length-map back plain_witness) in
    g ∙ ap (λ ws. RowOf (witnesses_of ws) longer (witnesses_of (map plain_witness newb))) (s ∙ ap (λ n. take n us) f)
    ∙ ap (λ ws. RowOf (witnesses_of (take (length (witnesses_list (witnesses_of (map plain_witness front)))) us)) longer (witnesses_of ws))
    (t ∙ ap (λ n. take n (drop (length front) us)) b ∙ ap (λ n. take (length (witnesses_list (witnesses_of (map plain_witness back)))) (drop n us)) f)
    ∙ ap (λ x. filled x us) (sym e)

pub left_long : (items all : List Witness) (n m : ℕ) → tops items ≡ drop n (tops all) → n + m ≤ length all → m ≤ length items
left_long items all n m e l =
    let a = length-tops items in
    let b = length-tops all in
    let d = ap length e ∙ length-drop n (tops all) in
    omega (arith, a, b, d)

-- only the first witnesses matter

take_less : (k n : ℕ) (ws : List MWitness) → k ≤ n → take k ws ≡ take k (take n ws)
take_less k n ws l = let e : min n k ≡ k = omega arith in ap (λ i. take i ws) (sym e) ∙ front_part k n ws

drop_less : (f b n : ℕ) (ws : List MWitness) → f + b ≤ n → take b (drop f ws) ≡ take b (drop f (take n ws))
drop_less f b n ws l =
    let e : f + (n - f) ≡ n = omega arith in
    take_less b (n - f) (drop f ws) (omega arith) ∙ ap (take b) (sym (drop-take f (n - f) ws) ∙ ap (λ k. drop f (take k ws)) e)

pub filled_taken : (w : MWitness) (n : ℕ) (ws : List MWitness) → parts_of_witness w ≤ n → filled w ws ≡ filled w (take n ws)
filled_taken (NodeOf k us) n ws l = ap (λ xs. NodeOf k (witnesses_of xs)) (take_less (length (witnesses_list us)) n ws l)
filled_taken (PointOf w) n ws l = ap PointOf (first_taken n ws l)
filled_taken (RowOf front longer back) n ws l =
    ap (λ xs. RowOf (witnesses_of xs) longer (witnesses_of (take (length (witnesses_list back)) (drop (length (witnesses_list front)) ws)))) (take_less (length (witnesses_list front)) n ws (omega arith))
    ∙ ap (λ xs. RowOf (witnesses_of (take (length (witnesses_list front)) (take n ws))) longer (witnesses_of xs)) (drop_less (length (witnesses_list front)) (length (witnesses_list back)) n ws l)
filled_taken AnyOf n ws l = refl
filled_taken LaterOf n ws l = refl
filled_taken (FlagOf b) n ws l = refl
filled_taken (SpanOf r) n ws l = refl
filled_taken (TextOf t) n ws l = refl
filled_taken (ElseOf ts) n ws l = refl

-- a witness put below the top ones

pub record BelowTops (count : ℕ) (old new : List MWitness) : Type 0 where
  pub top : take count new ≡ take count old
  pub rest : drop (count + 1) new ≡ drop count old
  pub long : length new ≡ length old + 1

pub put_below : (xs : List Witness) (count base : ℕ) (a : Witness) → base + count ≡ length xs → BelowTops count (tops xs) (tops (insert xs base a))
put_below xs count base a e =
    let low = take base xs in
    let high = drop base xs in
    let n : length (tops high) ≡ count = length-tops high ∙ length-drop base xs ∙ omega arith in
    let old : tops xs ≡ tops high ++ tops low = ap tops (sym (take-append-drop base xs)) ∙ tops-append low high in
    let new : tops (insert xs base a) ≡ (tops high ++ plain_witness a ∷ []) ++ tops low =
    tops-append low (a ∷ high) ∙ ap (λ ws. ws ++ tops low) (tops-append (a ∷ []) high) in
    let m : length (tops high ++ plain_witness a ∷ []) ≡ count + 1 = length-append (tops high) (plain_witness a ∷ []) ∙ omega (arith, n) in
    record {
      top =
          ap (take count) new
          ∙ take-append-le count (tops high ++ plain_witness a ∷ []) (tops low) (omega arith) ∙ take-append-le count (tops high) (plain_witness a ∷ []) (omega arith)
          ∙ sym (take-append-le count (tops high) (tops low) (omega arith)) ∙ ap (take count) (sym old);
      rest =
          ap (drop (count + 1)) new
          ∙ ap (λ k. drop k ((tops high ++ plain_witness a ∷ []) ++ tops low)) (sym m) ∙ drop-append_seam (tops high ++ plain_witness a ∷ []) (tops low)
          ∙ sym (drop-append_seam (tops high) (tops low)) ∙ ap (λ k. drop k (tops high ++ tops low)) n ∙ ap (drop count) (sym old);
      long =
          ap length new ∙ length-append (tops high ++ plain_witness a ∷ []) (tops low) ∙ ap (λ k. k + length (tops low)) m
          ∙ lengths count (length (tops low)) (length (tops high)) n ∙ ap (λ k. k + 1) (sym (length-append (tops high) (tops low)) ∙ ap length (sym old));
    }
  where
    lengths : (c l h : ℕ) → h ≡ c → (c + 1) + l ≡ (h + l) + 1
    lengths c l h e = omega (arith, e)

-- what is left below once the parts are taken
pub left_below : (items : List Witness) (count base parts : ℕ) (old new : List MWitness) → BelowTops count old new → parts ≤ count → base + count ≡ length old → tops items ≡ drop parts new →
    (base < length items) × (tops (take base items) ≡ drop count old)
left_below items count base parts old new b l e t =
    let n : length items ≡ (base + count + 1) - parts = sym (length-tops items) ∙ ap length t ∙ length-drop parts new ∙ ap (λ k. k - parts) (b.long ∙ ap (λ k. k + 1) (sym e)) in
    let d : parts + (length items - base) ≡ count + 1 = omega arith in (
      omega arith,
      tops-take base items (omega arith) ∙ ap (drop (length items - base)) t ∙ drop-drop (length items - base) parts new ∙ ap (λ k. drop k new) d ∙ b.rest,
    )

pub wrapped_is : (c : MCtor) (named : List (List ℕ)) (n arity : ℕ) (ws new : List MWitness) → 0 < n → n ≡ min arity (length ws) → new ≡ filled (room_for c named n) ws ∷ drop n ws → new ≡ wrapped c named arity ws
wrapped_is c named n arity ws new l e f = f ∙ ap (λ w. w ∷ drop n ws) (room_filled c named n ws l) ∙ go (below (length ws) arity)
  where
    go : (length ws ≤ arity) ⊎ (arity < length ws) → witness_of c named (take n ws) ∷ drop n ws ≡ witness_of c named (take arity ws) ∷ drop arity ws
    go (inr m) = let s : n ≡ arity = omega (arith, e) in ap (λ k. witness_of c named (take k ws) ∷ drop k ws) s
    go (inl m) =
        let s : n ≡ length ws = omega (arith, e) in
        ap (λ us. witness_of c named us ∷ drop n ws) (take_all n ws (omega (arith, s)) ∙ sym (take_all arity ws m))
        ∙ ap (λ us. witness_of c named (take arity ws) ∷ us) (drop_all n ws (omega (arith, s)) ∙ sym (drop_all arity ws m))

pub wrapped_bare : (c : MCtor) (named : List (List ℕ)) (n arity : ℕ) (ws new : List MWitness) → n ≡ 0 → n ≡ min arity (length ws) → new ≡ room_for c named n ∷ ws → new ≡ wrapped c named arity ws
wrapped_bare c named n arity ws new z e f = f ∙ ap (λ k. room_for c named k ∷ ws) z ∙ ap (λ w. w ∷ ws) (room_bare c named) ∙ go ws arity (omega (arith, z, e))
  where
    go : (ws : List MWitness) (arity : ℕ) → min arity (length ws) ≡ 0 → witness_of c named [] ∷ ws ≡ witness_of c named (take arity ws) ∷ drop arity ws
    go [] arity m = sym (ap (λ us. witness_of c named us ∷ drop arity []) (none_taken arity) ∙ ap (λ us. witness_of c named [] ∷ us) (none_left arity))
    go (w ∷ ws) zero m = refl
    go (w ∷ ws) (suc k) m = absurd (omega (arith, m))
