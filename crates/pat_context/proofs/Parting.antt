-- The parts of a value that a piece builds are values of their places.
use Rattle.std.proofs.Common.{◌≡◌, ◌≤◌, ℕ, zero, suc, ◌+◌, ◌-◌, Bool, true, nat_eq, nat_le, List, [], ◌∷◌, ◌++◌, take, drop, length, Option, Some, None, refl, sym, ap, subst, ◌∙◌, arith, length-append, length-take-le, length-drop, IsTrue}
use Rattle.std.proofs.lemmas.Bool.Decides.{nat_tests}
use Rattle.std.proofs.lemmas.List.{take-append-drop}
use Rattle.std.proofs.Math.Seq.{take-append_seam, drop-append-add}
use Rattle.match_model.specs.Values.{MValue, Flag, Num, Text, Node, Point, Row, Thing, Later, Unseen, values_list, values_of, parts_of}
use Rattle.match_model.specs.Constructors.{MShape, FixedShape, LongerShape, MCtor, SingleCtor, PointCtor, LaterCtor, OtherTextCtor, VariantCtor, FlagCtor, NumbersCtor, TextCtor, RowCtor, WildCtor, OrCtor, MSet, SingleSet, PointSet, VariantSet, FlagSet, NumberSet, TextSet, RowSet, Elementary, OneSingle, OnePoint, OneLater, OneVariant, OneFlag, OneNumber, OneText, OneLength, elementary_ctor, is_of_set, builds_one, allows_length, builds, covers, belongs, sure_inside, least_length, parts_met}
use Rattle.match_model.specs.Witness.{parts_under}
use Rattle.match_model.specs.Contexts.{Context, Open}
use Rattle.match_model.specs.ContextLaws.{PartsLaw, ValuesLaw, PartsAre, parts_count, ValueIs, BuiltOnce}
use Rattle.match_model.specs.Rows.{part_open, parts_open}
use Rattle.match_model.proofs.Basics.{untrue, nat_equal}
use Rattle.pat_context.specs.Parts.{AreValues, MetPartsAreValues, IsRefilled, ValuesCanBeRefilled}
use Rattle.pat_context.proofs.EachFrom.{each_from, below_from}

at_least : (a b : ℕ) → nat_le a b ≡ true → a ≤ b
at_least a b h = grind (arith, nat_tests)

same_nat : (m : ℕ) → nat_eq m m ≡ true
same_nat m = grind (arith, nat_tests)

module _ {T : Type 0} (IsType : T → Type 0) (IsValue : T → Bool → MValue → Type 0) (cx : Context T) (values : ValuesLaw IsType IsValue cx) (law : PartsLaw IsType IsValue cx) where
  abbrev Parted : Open T → MCtor → List MValue → Type 0
  Parted o piece vs = (length vs ≡ cx.arity piece o.type) × AreValues IsValue (parts_open cx o piece) vs

  from_parts : (f : ℕ → Open T) (sure : Bool) (sub : ℕ → T) →
      ((i : ℕ) → f i ≡ record { type = sub i; sure = sure }) → (n i : ℕ) (vs : List MValue) → length vs ≡ n →
      PartsAre IsValue sure sub i vs → AreValues IsValue (each_from f i n) vs
  unfolding each_from
  from_parts f sure sub e zero i [] l p = tt
  from_parts f sure sub e zero i (v ∷ vs) l p = absurd (omega (arith, l))
  from_parts f sure sub e (suc n) i [] l p = absurd (omega (arith, l))
  from_parts f sure sub e (suc n) i (v ∷ vs) l p =
      (subst (λ (o : Open T). IsValue o.type o.sure v) (sym (e i)) p.0, from_parts f sure sub e n (suc i) vs (omega (arith, l)) p.1)

  parted : (o : Open T) (piece : MCtor) (vs : List MValue) → length vs ≡ cx.arity piece o.type →
      PartsAre IsValue (sure_inside piece o.sure) (cx.sub piece o.type) 0 vs → Parted o piece vs
  parted o piece vs l p = (
    l,
    subst (λ places. AreValues IsValue places vs) (sym (below_from (part_open cx o piece) (cx.arity piece o.type)))
        (from_parts (part_open cx o piece) (sure_inside piece o.sure) (cx.sub piece o.type) (λ i. refl) (cx.arity piece o.type) 0 vs l p),
  )

  bare : (o : Open T) (piece : MCtor) (vs : List MValue) → vs ≡ [] → cx.arity piece o.type ≡ 0 → Parted o piece vs
  bare o piece vs e a = subst (Parted o piece) (sym e) (parted o piece [] (sym a) tt)

  -- values of one type

  abbrev AllValues : T → Bool → List MValue → Type 0
  AllValues t sure [] = Unit {0}
  AllValues t sure (v ∷ vs) = IsValue t sure v × AllValues t sure vs

  all_parts : (t : T) (sure : Bool) (sub : ℕ → T) → ((j : ℕ) → sub j ≡ t) → (i : ℕ) (vs : List MValue) →
      PartsAre IsValue sure sub i vs → AllValues t sure vs
  all_parts t sure sub e i [] p = tt
  all_parts t sure sub e i (v ∷ vs) p = (subst (λ u. IsValue u sure v) (e i) p.0, all_parts t sure sub e (suc i) vs p.1)

  parts_all : (t : T) (sure : Bool) (sub : ℕ → T) → ((j : ℕ) → sub j ≡ t) → (i : ℕ) (vs : List MValue) →
      AllValues t sure vs → PartsAre IsValue sure sub i vs
  parts_all t sure sub e i [] p = tt
  parts_all t sure sub e i (v ∷ vs) p =
      (subst (λ u. IsValue u sure v) (sym (e i)) p.0, parts_all t sure sub e (suc i) vs p.1)

  all-append : (t : T) (sure : Bool) (xs ys : List MValue) → AllValues t sure xs → AllValues t sure ys →
      AllValues t sure (xs ++ ys)
  all-append t sure [] ys h k = k
  all-append t sure (x ∷ xs) ys h k = (h.0, all-append t sure xs ys h.1 k)

  all-take : (t : T) (sure : Bool) (n : ℕ) (xs : List MValue) → AllValues t sure xs → AllValues t sure (take n xs)
  all-take t sure zero xs h = tt
  all-take t sure (suc n) [] h = tt
  all-take t sure (suc n) (x ∷ xs) h = (h.0, all-take t sure n xs h.1)

  all-drop : (t : T) (sure : Bool) (n : ℕ) (xs : List MValue) → AllValues t sure xs → AllValues t sure (drop n xs)
  all-drop t sure zero xs h = h
  all-drop t sure (suc n) [] h = tt
  all-drop t sure (suc n) (x ∷ xs) h = all-drop t sure n xs h.1

  -- the length of a row is one that its type has
  length_is : (len : Option ℕ) (sure : Bool) (items : Rattle.match_model.specs.Values.MValues) →
      BuiltOnce (RowSet len) (Row items) → IsTrue (allows_length len (length (values_list items)))
  length_is len sure items b = go b.by b.of_set b.build
    where
      go : (e : Elementary) → IsTrue (is_of_set (RowSet len) e) → IsTrue (builds_one e (Row items)) →
          IsTrue (allows_length len (length (values_list items)))
      go (OneLength m) s k = subst (λ n. IsTrue (allows_length len n)) (nat_equal m (length (values_list items)) k) s
      go OneSingle s k = untrue s
      go OnePoint s k = untrue s
      go OneLater s k = untrue s
      go (OneVariant i) s k = untrue s
      go (OneFlag i) s k = untrue s
      go (OneNumber i) s k = untrue s
      go (OneText i) s k = untrue s

  one_length : (len : Option ℕ) (n : ℕ) → IsTrue (allows_length len n) →
      IsTrue (belongs (RowSet len) (RowCtor (FixedShape n)))
  one_length None n h = refl
  one_length (Some m) n h = ap (λ k. nat_eq k m) (sym (nat_equal m n h)) ∙ same m
    where
      same : (m : ℕ) → nat_eq m m ≡ true
      same m = grind (arith, nat_tests)

  row_parts : (o : Open T) (s : MShape) (len : Option ℕ) (items : Rattle.match_model.specs.Values.MValues) →
      IsType o.type → cx.set_of o.type ≡ RowSet len → IsTrue (belongs (cx.set_of o.type) (RowCtor s)) →
      IsValue o.type o.sure (Row items) → covers s (length (values_list items)) ≡ true → Parted o (RowCtor s) (parts_met (RowCtor s) (values_list items))
  row_parts o s len items d e k v c =
      let n = length (values_list items) in
      let allowed : IsTrue (allows_length len n) = length_is len o.sure items (subst (λ x. ValueIs x o.sure (Row items)) e (values.each o.type o.sure (Row items) d v)) in
      let of_set : IsTrue (is_of_set (cx.set_of o.type) (OneLength n)) = subst (λ x. IsTrue (is_of_set x (OneLength n))) (sym e) allowed in
      let one : IsTrue (belongs (cx.set_of o.type) (RowCtor (FixedShape n))) = subst (λ x. IsTrue (belongs x (RowCtor (FixedShape n)))) (sym e) (one_length len n allowed) in
      let t = cx.sub (RowCtor (FixedShape n)) o.type 0 in
      let p = (law.parts o.type (OneLength n) o.sure (Row items) d of_set (same n) (λ q. cc)).0 v in
      let all : AllValues t o.sure (values_list items) = all_parts t o.sure (cx.sub (RowCtor (FixedShape n)) o.type) (λ j. law.items o.type (FixedShape n) (FixedShape n) j 0 d one one) 0 (values_list items) p.1 in
      let subs : (j : ℕ) → cx.sub (RowCtor s) o.type j ≡ t = λ j. law.items o.type s (FixedShape n) j 0 d k one in
      let arity : cx.arity (RowCtor s) o.type ≡ least_length s = law.arity o.type (RowCtor s) d k in
      go s c all subs arity
    where
      same : (m : ℕ) → nat_eq m m ≡ true
      same m = grind (arith, nat_tests)

      go : (s : MShape) → covers s (length (values_list items)) ≡ true →
          AllValues (cx.sub (RowCtor (FixedShape (length (values_list items)))) o.type 0) o.sure (values_list items) →
          ((j : ℕ) → cx.sub (RowCtor s) o.type j ≡ cx.sub (RowCtor (FixedShape (length (values_list items)))) o.type 0) → cx.arity (RowCtor s) o.type ≡ least_length s → Parted o (RowCtor s) (parts_met (RowCtor s) (values_list items))
      go (FixedShape m) c all subs arity =
          parted o (RowCtor (FixedShape m)) (values_list items) (sym (nat_equal m (length (values_list items)) c) ∙ sym arity)
          (parts_all (cx.sub (RowCtor (FixedShape (length (values_list items)))) o.type 0) o.sure (cx.sub (RowCtor (FixedShape m)) o.type) subs 0 (values_list items) all)
      go (LongerShape f b) c all subs arity =
          let t = cx.sub (RowCtor (FixedShape (length (values_list items)))) o.type 0 in
          let xs = values_list items in
          let enough : f + b ≤ length xs = at_least (f + b) (length xs) c in
          let lt : length (take f xs) ≡ f = length-take-le f xs (omega (arith, enough)) in
          let ld = length-drop (length xs - b) xs in
          let la = length-append (take f xs) (drop (length xs - b) xs) in
          parted o (RowCtor (LongerShape f b)) (take f xs ++ drop (length xs - b) xs) (omega (arith, la, lt, ld, enough, arity))
          (parts_all t o.sure (cx.sub (RowCtor (LongerShape f b)) o.type) subs 0 (take f xs ++ drop (length xs - b) xs)
          (all-append t o.sure (take f xs) (drop (length xs - b) xs) (all-take t o.sure f xs all) (all-drop t o.sure (length xs - b) xs all)))

  belongs_too : (o : Open T) (piece : MCtor) (set : MSet) → cx.set_of o.type ≡ set → belongs set piece ≡ true →
      IsTrue (belongs (cx.set_of o.type) piece)
  belongs_too o piece set e k = subst (λ x. IsTrue (belongs x piece)) (sym e) k

  -- the parts that a piece has of a value that it builds are as many as the piece has parts, each a value of its place
  pub parts_values : (o : Open T) (piece : MCtor) (named : List (List ℕ)) (v : MValue) (set : MSet) → IsType o.type →
      cx.set_of o.type ≡ set → belongs set piece ≡ true → IsValue o.type o.sure v → builds named piece v ≡ true →
      Parted o piece (parts_under piece v)
  parts_values o SingleCtor named (Node j parts) SingleSet d e k w b =
      let p = (law.parts o.type OneSingle o.sure (Node j parts) d (subst (λ x. IsTrue (is_of_set x OneSingle)) (sym e) refl) b (λ q. cc)).0 w in
      parted o SingleCtor (values_list parts) p.0 p.1
  parts_values o (VariantCtor i) named (Node j parts) (VariantSet count later) d e k w b =
      let p = (law.parts o.type (OneVariant i) o.sure (Node j parts) d (subst (λ x. IsTrue (is_of_set x (OneVariant i))) (sym e) k) b (λ q. cc)).0 w in
      parted o (VariantCtor i) (values_list parts) p.0 p.1
  parts_values o PointCtor named (Point m u) PointSet d e k w b =
      let p = ((law.point o.type d e).1 o.sure m u).0 w in
      parted o PointCtor (u ∷ []) (sym (law.arity o.type PointCtor d (belongs_too o PointCtor PointSet e k))) (p.1, tt)
  parts_values o LaterCtor named Later (VariantSet count later) d e k w b =
      bare o LaterCtor [] refl (law.arity o.type LaterCtor d (belongs_too o LaterCtor (VariantSet count later) e k))
  parts_values o (FlagCtor x) named (Flag c) FlagSet d e k w b =
      bare o (FlagCtor x) [] refl (law.arity o.type (FlagCtor x) d (belongs_too o (FlagCtor x) FlagSet e k))
  parts_values o (NumbersCtor r) named (Num c) (NumberSet first second) d e k w b =
      bare o (NumbersCtor r) [] refl (law.arity o.type (NumbersCtor r) d (belongs_too o (NumbersCtor r) (NumberSet first second) e k))
  parts_values o (TextCtor t) named (Text c) TextSet d e k w b =
      bare o (TextCtor t) [] refl (law.arity o.type (TextCtor t) d (belongs_too o (TextCtor t) TextSet e k))
  parts_values o OtherTextCtor named (Text c) TextSet d e k w b =
      bare o OtherTextCtor [] refl (law.arity o.type OtherTextCtor d (belongs_too o OtherTextCtor TextSet e k))
  parts_values o (RowCtor s) named (Row items) (RowSet len) d e k w b =
      row_parts o s len items d e (belongs_too o (RowCtor s) (RowSet len) e k) w b
  parts_values o SingleCtor named v SingleSet d e k w b = untrue b
  parts_values o (VariantCtor i) named v (VariantSet count later) d e k w b = untrue b
  parts_values o PointCtor named v PointSet d e k w b = untrue b
  parts_values o LaterCtor named v (VariantSet count later) d e k w b = untrue b
  parts_values o (FlagCtor x) named v FlagSet d e k w b = untrue b
  parts_values o (NumbersCtor r) named v (NumberSet first second) d e k w b = untrue b
  parts_values o (TextCtor t) named v TextSet d e k w b = untrue b
  parts_values o OtherTextCtor named v TextSet d e k w b = untrue b
  parts_values o (RowCtor s) named v (RowSet len) d e k w b = untrue b
  parts_values o WildCtor named v set d e k w b = untrue b
  parts_values o OrCtor named v set d e k w b = untrue b
  parts_values o piece named v set d e k w b = untrue k

  -- another value of the piece, with other parts

  listed : (vs : List MValue) → values_list (values_of vs) ≡ vs
  listed [] = refl
  listed (v ∷ vs) = ap (λ xs. v ∷ xs) (listed vs)

  to_parts : (f : ℕ → Open T) (sure : Bool) (sub : ℕ → T) → ((i : ℕ) → f i ≡ record { type = sub i; sure = sure }) →
      (n i : ℕ) (vs : List MValue) → AreValues IsValue (each_from f i n) vs →
      (length vs ≡ n) × PartsAre IsValue sure sub i vs
  unfolding each_from
  to_parts f sure sub e zero i [] a = (refl, tt)
  to_parts f sure sub e zero i (v ∷ vs) a = absurd a
  to_parts f sure sub e (suc n) i [] a = absurd a
  to_parts f sure sub e (suc n) i (v ∷ vs) a =
      let r = to_parts f sure sub e n (suc i) vs a.1 in
      (ap suc r.0, (subst (λ (o : Open T). IsValue o.type o.sure v) (e i) a.0, r.1))

  unparted : (o : Open T) (piece : MCtor) (vs : List MValue) → AreValues IsValue (parts_open cx o piece) vs →
      (length vs ≡ cx.arity piece o.type) × PartsAre IsValue (sure_inside piece o.sure) (cx.sub piece o.type) 0 vs
  unparted o piece vs a =
      to_parts (part_open cx o piece) (sure_inside piece o.sure) (cx.sub piece o.type) (λ i. refl) (cx.arity piece o.type) 0 vs
      (subst (λ places. AreValues IsValue places vs) (below_from (part_open cx o piece) (cx.arity piece o.type)) a)

  nothing : (xs : List MValue) → length xs ≡ 0 → [] ≡ xs
  nothing [] e = refl
  nothing (x ∷ xs) e = absurd (omega (arith, e))

  kept : (o : Open T) (named : List (List ℕ)) (piece : MCtor) (x : MValue) (ys : List MValue) →
      IsValue o.type o.sure x → builds named piece x ≡ true → parts_under piece x ≡ [] → cx.arity piece o.type ≡ 0 →
      AreValues IsValue (parts_open cx o piece) ys → IsRefilled IsValue o named piece ys
  kept o named piece x ys w b e z a = record { value = x; is = w; build = b; parts = e ∙ nothing ys ((unparted o piece ys a).0 ∙ z) }

  node_filled : (o : Open T) (named : List (List ℕ)) (e : Elementary) (k : ℕ) (ys : List MValue) → IsType o.type →
      IsTrue (is_of_set (cx.set_of o.type) e) → IsTrue (builds_one e (Node k (values_of ys))) → (e ≡ OnePoint → ⊥) →
      length ys ≡ parts_count cx o.type e → PartsAre IsValue o.sure (cx.sub (elementary_ctor e) o.type) 0 ys → IsValue o.type o.sure (Node k (values_of ys))
  node_filled o named e k ys d s b n l p =
      (law.parts o.type e o.sure (Node k (values_of ys)) d s b n).1
      (subst (λ zs. (length zs ≡ parts_count cx o.type e) × PartsAre IsValue o.sure (cx.sub (elementary_ctor e) o.type) 0 zs) (sym (listed ys)) (l, p))

  -- a row of as many items of the one type
  row_filled : (o : Open T) (len : Option ℕ) (items : Rattle.match_model.specs.Values.MValues) (zs : List MValue) →
      IsType o.type → cx.set_of o.type ≡ RowSet len → IsValue o.type o.sure (Row items) →
      length zs ≡ length (values_list items) → AllValues (cx.sub (RowCtor (FixedShape (length (values_list items)))) o.type 0) o.sure zs → IsValue o.type o.sure (Row (values_of zs))
  row_filled o len items zs d e v l all =
      let n = length (values_list items) in
      let allowed : IsTrue (allows_length len n) = length_is len o.sure items (subst (λ x. ValueIs x o.sure (Row items)) e (values.each o.type o.sure (Row items) d v)) in
      let of_set : IsTrue (is_of_set (cx.set_of o.type) (OneLength n)) = subst (λ x. IsTrue (is_of_set x (OneLength n))) (sym e) allowed in
      let one : IsTrue (belongs (cx.set_of o.type) (RowCtor (FixedShape n))) = subst (λ x. IsTrue (belongs x (RowCtor (FixedShape n)))) (sym e) (one_length len n allowed) in
      let t = cx.sub (RowCtor (FixedShape n)) o.type 0 in
      let long : n ≡ length (values_list (values_of zs)) = sym l ∙ ap length (sym (listed zs)) in
      (law.parts o.type (OneLength n) o.sure (Row (values_of zs)) d of_set (ap (nat_eq n) (sym long) ∙ same_nat n) (λ q. cc)).1 (
        sym long,
        subst (PartsAre IsValue o.sure (cx.sub (RowCtor (FixedShape n)) o.type) 0) (sym (listed zs))
            (parts_all t o.sure (cx.sub (RowCtor (FixedShape n)) o.type) (λ j. law.items o.type (FixedShape n) (FixedShape n) j 0 d one one) 0 zs all),
      )

  row_refilled : (o : Open T) (s : MShape) (named : List (List ℕ)) (len : Option ℕ)
      (items : Rattle.match_model.specs.Values.MValues) →
      IsType o.type → cx.set_of o.type ≡ RowSet len → IsTrue (belongs (cx.set_of o.type) (RowCtor s)) →
      IsValue o.type o.sure (Row items) → covers s (length (values_list items)) ≡ true → (ys : List MValue) → AreValues IsValue (parts_open cx o (RowCtor s)) ys → IsRefilled IsValue o named (RowCtor s) ys
  row_refilled o s named len items d e k w c ys a =
      let n = length (values_list items) in
      let allowed : IsTrue (allows_length len n) = length_is len o.sure items (subst (λ x. ValueIs x o.sure (Row items)) e (values.each o.type o.sure (Row items) d w)) in
      let of_set : IsTrue (is_of_set (cx.set_of o.type) (OneLength n)) = subst (λ x. IsTrue (is_of_set x (OneLength n))) (sym e) allowed in
      let one : IsTrue (belongs (cx.set_of o.type) (RowCtor (FixedShape n))) = subst (λ x. IsTrue (belongs x (RowCtor (FixedShape n)))) (sym e) (one_length len n allowed) in
      let t = cx.sub (RowCtor (FixedShape n)) o.type 0 in
      let p = (law.parts o.type (OneLength n) o.sure (Row items) d of_set (same_nat n) (λ q. cc)).0 w in
      let all : AllValues t o.sure (values_list items) = all_parts t o.sure (cx.sub (RowCtor (FixedShape n)) o.type) (λ j. law.items o.type (FixedShape n) (FixedShape n) j 0 d one one) 0 (values_list items) p.1 in
      let u = unparted o (RowCtor s) ys a in
      let mine : AllValues t o.sure ys = all_parts t o.sure (cx.sub (RowCtor s) o.type) (λ j. law.items o.type s (FixedShape n) j 0 d k one) 0 ys u.1 in
      go s c (u.0 ∙ law.arity o.type (RowCtor s) d k) all mine
    where
      go : (s : MShape) → covers s (length (values_list items)) ≡ true → length ys ≡ least_length s →
          AllValues (cx.sub (RowCtor (FixedShape (length (values_list items)))) o.type 0) o.sure (values_list items) →
          AllValues (cx.sub (RowCtor (FixedShape (length (values_list items)))) o.type 0) o.sure ys → IsRefilled IsValue o named (RowCtor s) ys
      go (FixedShape m) c l all mine =
          let same : m ≡ length (values_list items) = nat_equal m (length (values_list items)) c in
          record {
            value = Row (values_of ys);
            is = row_filled o len items ys d e w (l ∙ same) mine;
            build = ap (λ xs. nat_eq m (length xs)) (listed ys) ∙ ap (nat_eq m) l ∙ same_nat m;
            parts = listed ys;
          }
      go (LongerShape f b) c l all mine =
          let t = cx.sub (RowCtor (FixedShape (length (values_list items)))) o.type 0 in
          let xs = values_list items in
          let enough : f + b ≤ length xs = at_least (f + b) (length xs) c in
          let m = length xs - (f + b) in
          let front = take f ys in
          let middle = take m (drop f xs) in
          let back = drop f ys in
          let lf : length front ≡ f = length-take-le f ys (omega (arith, l)) in
          let ld = length-drop f xs in
          let lm : length middle ≡ m = length-take-le m (drop f xs) (omega (arith, ld, enough)) in
          let lb : length back ≡ b = length-drop f ys ∙ omega (arith, l) in
          let zs = front ++ (middle ++ back) in
          let la = length-append front (middle ++ back) in
          let lc = length-append middle back in
          let lz : length zs ≡ length xs = omega (arith, la, lc, lf, lm, lb, enough) in
          let head : take f zs ≡ front = ap (λ i. take i zs) (sym lf) ∙ take-append_seam front (middle ++ back) in
          let at : length zs - b ≡ length front + (length middle + 0) = omega (arith, lz, lf, lm, enough) in
          let tail : drop (length zs - b) zs ≡ back = ap (λ i. drop i zs) at ∙ drop-append-add front (middle ++ back) (length middle + 0) ∙ drop-append-add middle back 0 in
          record {
            value = Row (values_of zs);
            is = row_filled o len items zs d e w lz (all-append t o.sure front (middle ++ back) (all-take t o.sure f ys mine) (all-append t o.sure middle back (all-take t o.sure m (drop f xs) (all-drop t o.sure f xs all)) (all-drop t o.sure f ys mine)));
            build = ap (λ ws. nat_le (f + b) (length ws)) (listed zs) ∙ ap (nat_le (f + b)) lz ∙ c;
            parts = ap (parts_met (RowCtor (LongerShape f b))) (listed zs) ∙ ap (λ ws. ws ++ drop (length zs - b) zs) head ∙ ap (λ ws. front ++ ws) tail ∙ take-append-drop f ys;
          }

  pub refill : (o : Open T) (piece : MCtor) (named : List (List ℕ)) (x : MValue) (set : MSet) → IsType o.type →
      cx.set_of o.type ≡ set → belongs set piece ≡ true → IsValue o.type o.sure x → builds named piece x ≡ true →
      (ys : List MValue) → AreValues IsValue (parts_open cx o piece) ys → IsRefilled IsValue o named piece ys
  refill o SingleCtor named (Node j parts) SingleSet d e k w b ys a =
      let p = unparted o SingleCtor ys a in
      record { value = Node 0 (values_of ys); is = node_filled o named OneSingle 0 ys d (subst (λ x. IsTrue (is_of_set x OneSingle)) (sym e) refl) refl (λ q. cc) p.0 p.1; build = refl; parts = listed ys }
  refill o (VariantCtor i) named (Node j parts) (VariantSet count later) d e k w b ys a =
      let p = unparted o (VariantCtor i) ys a in
      record { value = Node i (values_of ys); is = node_filled o named (OneVariant i) i ys d (subst (λ x. IsTrue (is_of_set x (OneVariant i))) (sym e) k) (same_nat i) (λ q. cc) p.0 p.1; build = same_nat i; parts = listed ys }
  refill o PointCtor named (Point m u) PointSet d e k w b [] a = let p = unparted o PointCtor [] a in absurd (omega (arith, p.0, law.arity o.type PointCtor d (belongs_too o PointCtor PointSet e k)))
  refill o PointCtor named (Point m u) PointSet d e k w b (y ∷ z ∷ ys) a = let p = unparted o PointCtor (y ∷ z ∷ ys) a in absurd (omega (arith, p.0, law.arity o.type PointCtor d (belongs_too o PointCtor PointSet e k)))
  refill o PointCtor named (Point m u) PointSet d e k w b (y ∷ []) a =
      let p = unparted o PointCtor (y ∷ []) a in
      let r = law.point o.type d e in
      record { value = Point r.0 y; is = (r.1 o.sure r.0 y).1 (refl, p.1.0); build = refl; parts = refl }
  refill o LaterCtor named Later (VariantSet count later) d e k w b ys a =
      kept o named LaterCtor Later ys w b refl (law.arity o.type LaterCtor d (belongs_too o LaterCtor (VariantSet count later) e k)) a
  refill o (FlagCtor x) named (Flag c) FlagSet d e k w b ys a =
      kept o named (FlagCtor x) (Flag c) ys w b refl (law.arity o.type (FlagCtor x) d (belongs_too o (FlagCtor x) FlagSet e k)) a
  refill o (NumbersCtor r) named (Num c) (NumberSet first second) d e k w b ys a =
      kept o named (NumbersCtor r) (Num c) ys w b refl (law.arity o.type (NumbersCtor r) d (belongs_too o (NumbersCtor r) (NumberSet first second) e k)) a
  refill o (TextCtor t) named (Text c) TextSet d e k w b ys a =
      kept o named (TextCtor t) (Text c) ys w b refl (law.arity o.type (TextCtor t) d (belongs_too o (TextCtor t) TextSet e k)) a
  refill o OtherTextCtor named (Text c) TextSet d e k w b ys a =
      kept o named OtherTextCtor (Text c) ys w b refl (law.arity o.type OtherTextCtor d (belongs_too o OtherTextCtor TextSet e k)) a
  refill o (RowCtor s) named (Row items) (RowSet len) d e k w b ys a =
      row_refilled o s named len items d e (belongs_too o (RowCtor s) (RowSet len) e k) w b ys a
  refill o SingleCtor named x SingleSet d e k w b ys a = untrue b
  refill o (VariantCtor i) named x (VariantSet count later) d e k w b ys a = untrue b
  refill o PointCtor named x PointSet d e k w b ys a = untrue b
  refill o LaterCtor named x (VariantSet count later) d e k w b ys a = untrue b
  refill o (FlagCtor y) named x FlagSet d e k w b ys a = untrue b
  refill o (NumbersCtor r) named x (NumberSet first second) d e k w b ys a = untrue b
  refill o (TextCtor t) named x TextSet d e k w b ys a = untrue b
  refill o OtherTextCtor named x TextSet d e k w b ys a = untrue b
  refill o (RowCtor s) named x (RowSet len) d e k w b ys a = untrue b
  refill o WildCtor named x set d e k w b ys a = untrue b
  refill o OrCtor named x set d e k w b ys a = untrue b
  refill o piece named x set d e k w b ys a = untrue k

  -- the same, as laws

  pub met_parts_are_values : MetPartsAreValues IsType IsValue cx
  met_parts_are_values o c named v d h i b = parts_values o c named v (cx.set_of o.type) d refl h i b

  pub values_refilled : ValuesCanBeRefilled IsType IsValue cx
  values_refilled o c named v parts d h i b a = refill o c named v (cx.set_of o.type) d refl h i b parts a
