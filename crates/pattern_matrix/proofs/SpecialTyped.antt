-- Specialising keeps a matrix well typed.
use Rattle.std.proofs.Common.{◌≡◌, ◌≤◌, ◌<◌, ℕ, zero, suc, ◌+◌, ◌-◌, Bool, true, false, nat_le, List, [], ◌∷◌, ◌++◌, map, take, drop, length, cond, Some, None, refl, sym, ap, subst, ◌∙◌, arith, length-append, length-take-le, length-drop, IsTrue}
use Rattle.std.proofs.lemmas.Bool.Decides.{nat_tests}
use Rattle.std.proofs.lemmas.List.{length-map}
use Rattle.match_model.specs.Values.{MValue}
use Rattle.match_model.specs.Constructors.{MShape, FixedShape, LongerShape, MCtor, SingleCtor, PointCtor, LaterCtor, OtherTextCtor, VariantCtor, FlagCtor, NumbersCtor, TextCtor, RowCtor, WildCtor, OrCtor, has_piece, belongs, shape_has, least_length}
use Rattle.match_model.specs.Contexts.{Context}
use Rattle.match_model.specs.ContextLaws.{PartsLaw}
use Rattle.match_model.specs.ArenaPatterns.{MBound, de_pat, MDePats, no_de_pats, more_de_pats, de_pats_list}
use Rattle.match_model.specs.Pieces.{each_below}
use Rattle.match_model.specs.Rows.{Head, wildcards, heads_of, specialised_heads, part_open}
use Rattle.match_model.specs.Matrices.{MColumn, MRow, row_with, specialised_rows, first_binds, part_columns, column_at, part_step, open_of}
use Rattle.match_model.specs.WellTyped.{IsTyped, ArePartsTyped, IsHeadTyped, AreHeadsTyped}
use Rattle.match_model.proofs.Basics.{untrue, both, nat_equal, flag_equal, text_equal}
use Rattle.pattern_matrix.specs.HeadRows.{AreTypes, AreRowsTyped}
use Rattle.pattern_matrix.proofs.Typed.{rows-append}
use Rattle.pat_context.proofs.EachFrom.{each_from, below_from}
use Rattle.pat_context.proofs.Consequences.{part_is_type}
pub use Rattle.pattern_matrix.specs.HeadRows.{AllTyped}

module _ {T : Type 0} (cx : Context T) where
  abbrev EachHead : (ℕ → T) → ℕ → List (Head T) → Type 0
  EachHead type_of i [] = Unit {0}
  EachHead type_of i (h ∷ hs) = IsHeadTyped cx (type_of i) h × EachHead type_of (suc i) hs

  typed_from : (f : ℕ → MColumn T) (n i : ℕ) (hs : List (Head T)) → length hs ≡ n → EachHead (λ j. (f j).type) i hs →
      AreHeadsTyped cx (each_from f i n) hs
  unfolding each_from
  typed_from f zero i [] e h = tt
  typed_from f zero i (x ∷ hs) e h = absurd (omega (arith, e))
  typed_from f (suc n) i [] e h = absurd (omega (arith, e))
  typed_from f (suc n) i (x ∷ hs) e h = (h.0, typed_from f n (suc i) hs (omega (arith, e)) h.1)

  typed_below : (f : ℕ → MColumn T) (n : ℕ) (hs : List (Head T)) → length hs ≡ n → EachHead (λ j. (f j).type) 0 hs →
      AreHeadsTyped cx (each_below f n) hs
  typed_below f n hs e h = subst (λ cs. AreHeadsTyped cx cs hs) (sym (below_from f n)) (typed_from f n 0 hs e h)

  typed-append : (cs ds : List (MColumn T)) (hs gs : List (Head T)) → AreHeadsTyped cx cs hs →
      AreHeadsTyped cx ds gs → AreHeadsTyped cx (cs ++ ds) (hs ++ gs)
  typed-append [] ds [] gs h k = k
  typed-append [] ds (x ∷ hs) gs h k = absurd h
  typed-append (c ∷ cs) ds [] gs h k = absurd h
  typed-append (c ∷ cs) ds (x ∷ hs) gs h k = (h.0, typed-append cs ds hs gs h.1 k)

  -- heads of a pattern

  wilds_each : (type_of : ℕ → T) (n i : ℕ) → EachHead type_of i (wildcards n)
  wilds_each type_of zero i = tt
  wilds_each type_of (suc n) i = (tt, wilds_each type_of n (suc i))

  wilds_length : (n : ℕ) → length {A = Head T} (wildcards n) ≡ n
  wilds_length zero = refl
  wilds_length (suc n) = let e = wilds_length n in omega (arith, e)

  subs_each : (type_of : ℕ → T) (ps : MDePats T) (i : ℕ) → ArePartsTyped cx type_of i ps →
      EachHead type_of i (map Some (de_pats_list ps))
  subs_each type_of no_de_pats i h = tt
  subs_each type_of (more_de_pats p ps) i h = (h.0, subs_each type_of ps (suc i) h.1)

  no_subs : (type_of : ℕ → T) (ps : MDePats T) → length (de_pats_list ps) ≡ 0 →
      EachHead type_of 0 (map Some (de_pats_list ps))
  no_subs type_of no_de_pats e = tt
  no_subs type_of (more_de_pats p ps) e = absurd (omega (arith, e))

  -- all of one type

  abbrev AllOf : T → List (Head T) → Type 0
  AllOf t [] = Unit {0}
  AllOf t (h ∷ hs) = IsHeadTyped cx t h × AllOf t hs

  all_each : (t : T) (type_of : ℕ → T) → ((j : ℕ) → type_of j ≡ t) → (hs : List (Head T)) (i : ℕ) → AllOf t hs →
      EachHead type_of i hs
  all_each t type_of e [] i h = tt
  all_each t type_of e (x ∷ hs) i h =
      (subst (λ u. IsHeadTyped cx u x) (sym (e i)) h.0, all_each t type_of e hs (suc i) h.1)

  each_all : (t : T) (type_of : ℕ → T) → ((j : ℕ) → type_of j ≡ t) → (ps : MDePats T) (i : ℕ) →
      ArePartsTyped cx type_of i ps → AllOf t (map Some (de_pats_list ps))
  each_all t type_of e no_de_pats i h = tt
  each_all t type_of e (more_de_pats p ps) i h =
      (subst (λ u. IsTyped cx u p) (e i) h.0, each_all t type_of e ps (suc i) h.1)

  all-append : (t : T) (hs gs : List (Head T)) → AllOf t hs → AllOf t gs → AllOf t (hs ++ gs)
  all-append t [] gs h k = k
  all-append t (x ∷ hs) gs h k = (h.0, all-append t hs gs h.1 k)

  all-take : (t : T) (n : ℕ) (hs : List (Head T)) → AllOf t hs → AllOf t (take n hs)
  all-take t zero hs h = tt
  all-take t (suc n) [] h = tt
  all-take t (suc n) (x ∷ hs) h = (h.0, all-take t n hs h.1)

  all-drop : (t : T) (n : ℕ) (hs : List (Head T)) → AllOf t hs → AllOf t (drop n hs)
  all-drop t zero hs h = h
  all-drop t (suc n) [] h = tt
  all-drop t (suc n) (x ∷ hs) h = all-drop t n hs h.1

  all-wilds : (t : T) (n : ℕ) → AllOf t (wildcards n)
  all-wilds t zero = tt
  all-wilds t (suc n) = (tt, all-wilds t n)

module _ {T : Type 0} (IsType : T → Type 0) (IsValue : T → Bool → MValue → Type 0) (cx : Context T) (law : PartsLaw IsType IsValue cx) where
  abbrev pub Fitted : T → MCtor → List (Head T) → Type 0
  Fitted t piece hs = (length hs ≡ cx.arity piece t) × EachHead cx (cx.sub piece t) 0 hs

  same_fitted : (t : T) (d piece : MCtor) (subs : MDePats T) → d ≡ piece →
      length (de_pats_list subs) ≡ cx.arity d t → ArePartsTyped cx (cx.sub d t) 0 subs →
      Fitted t piece (map Some (de_pats_list subs))
  same_fitted t d piece subs e l h =
      subst (λ p. Fitted t p (map Some (de_pats_list subs))) e (length-map (de_pats_list subs) Some ∙ l, subs_each cx (cx.sub d t) subs 0 h)

  bare_fitted : (t : T) (d piece : MCtor) (subs : MDePats T) → length (de_pats_list subs) ≡ cx.arity d t →
      cx.arity d t ≡ 0 → cx.arity piece t ≡ 0 → Fitted t piece (map Some (de_pats_list subs))
  bare_fitted t d piece subs l e f =
      (length-map (de_pats_list subs) Some ∙ l ∙ e ∙ sym f, no_subs cx (cx.sub piece t) subs (l ∙ e))

  row_fitted : (t : T) (s r : MShape) (subs : MDePats T) → IsType t → IsTrue (belongs (cx.set_of t) (RowCtor s)) →
      IsTrue (belongs (cx.set_of t) (RowCtor r)) → shape_has s r ≡ true →
      length (de_pats_list subs) ≡ cx.arity (RowCtor s) t → ArePartsTyped cx (cx.sub (RowCtor s) t) 0 subs → Fitted t (RowCtor r) (heads_of (RowCtor s) (map Some (de_pats_list subs)) (cx.arity (RowCtor r) t))
  row_fitted t s r subs d b k h l p = go s r b k h l p
    where
      go : (s r : MShape) → IsTrue (belongs (cx.set_of t) (RowCtor s)) → IsTrue (belongs (cx.set_of t) (RowCtor r)) →
          shape_has s r ≡ true →
          length (de_pats_list subs) ≡ cx.arity (RowCtor s) t → ArePartsTyped cx (cx.sub (RowCtor s) t) 0 subs → Fitted t (RowCtor r) (heads_of (RowCtor s) (map Some (de_pats_list subs)) (cx.arity (RowCtor r) t))
      go (FixedShape m) (FixedShape n) b k h l p =
          same_fitted t (RowCtor (FixedShape m)) (RowCtor (FixedShape n)) subs (ap (λ x. RowCtor (FixedShape x)) (nat_equal m n h)) l p
      go (FixedShape m) (LongerShape g c) b k h l p = untrue h
      go (LongerShape f e) r b k h l p =
          let hs = map Some (de_pats_list subs) in
          let n = cx.arity (RowCtor r) t in
          let arity_s = law.arity t (RowCtor (LongerShape f e)) d b in
          let arity_r = law.arity t (RowCtor r) d k in
          let long : length hs ≡ f + e = length-map (de_pats_list subs) Some ∙ l ∙ arity_s in
          let fits : f + e ≤ n = omega (arith, arity_r, room r h) in
          let x = cx.sub (RowCtor (LongerShape f e)) t 0 in
          let all = each_all cx x (cx.sub (RowCtor (LongerShape f e)) t) (λ j. law.items t (LongerShape f e) (LongerShape f e) j 0 d b b) subs 0 p in (
            lengths hs n long fits,
            all_each cx x (cx.sub (RowCtor r) t) (λ j. law.items t r (LongerShape f e) j 0 d k b) (take f hs ++ (wildcards (n - (f + e)) ++ drop f hs)) 0
                (all-append cx x (take f hs) (wildcards (n - (f + e)) ++ drop f hs) (all-take cx x f hs all)
                (all-append cx x (wildcards (n - (f + e))) (drop f hs) (all-wilds cx x (n - (f + e))) (all-drop cx x f hs all))),
          )
        where
          room : (r : MShape) → shape_has (LongerShape f e) r ≡ true → f + e ≤ least_length r
          room (FixedShape n) h = at_most (f + e) n h
            where
              at_most : (a b : ℕ) → nat_le a b ≡ true → a ≤ b
              at_most a b h = grind (arith, nat_tests)
          room (LongerShape g c) h = at_most (f + e) (g + c) h
            where
              at_most : (a b : ℕ) → nat_le a b ≡ true → a ≤ b
              at_most a b h = grind (arith, nat_tests)

          lengths : (hs : List (Head T)) (n : ℕ) → length hs ≡ f + e → f + e ≤ n →
              length (take f hs ++ (wildcards (n - (f + e)) ++ drop f hs)) ≡ n
          lengths hs n long fits =
              let a = length-append (take f hs) (wildcards (n - (f + e)) ++ drop f hs) in
              let b = length-append (wildcards {T = T} (n - (f + e))) (drop f hs) in
              let c = wilds_length cx (n - (f + e)) in
              let i = length-take-le f hs (omega (arith, long)) in
              let j = length-drop f hs in
              omega (arith, a, b, c, i, j, long)

  pub head_fitted : (t : T) (d piece : MCtor) (u : T) (uid at : ℕ) (subs : MDePats T) (binds : List MBound) →
      IsType t → IsTrue (belongs (cx.set_of t) piece) → IsTyped cx t (de_pat d u uid at subs binds) →
      has_piece d piece ≡ true → Fitted t piece (heads_of d (map Some (de_pats_list subs)) (cx.arity piece t))
  head_fitted t WildCtor piece u uid at subs binds d b h p =
      (wilds_length cx (cx.arity piece t), wilds_each cx (cx.sub piece t) (cx.arity piece t) 0)
  head_fitted t OrCtor piece u uid at subs binds d b h p = untrue p
  head_fitted t SingleCtor SingleCtor u uid at subs binds d b h p =
      same_fitted t SingleCtor SingleCtor subs refl h.2.1 h.2.2
  head_fitted t SingleCtor _ u uid at subs binds d b h p = untrue p
  head_fitted t PointCtor PointCtor u uid at subs binds d b h p =
      same_fitted t PointCtor PointCtor subs refl h.2.1 h.2.2
  head_fitted t PointCtor _ u uid at subs binds d b h p = untrue p
  head_fitted t LaterCtor LaterCtor u uid at subs binds d b h p =
      same_fitted t LaterCtor LaterCtor subs refl h.2.1 h.2.2
  head_fitted t LaterCtor _ u uid at subs binds d b h p = untrue p
  head_fitted t OtherTextCtor OtherTextCtor u uid at subs binds d b h p =
      same_fitted t OtherTextCtor OtherTextCtor subs refl h.2.1 h.2.2
  head_fitted t OtherTextCtor _ u uid at subs binds d b h p = untrue p
  head_fitted t (VariantCtor j) (VariantCtor k) u uid at subs binds d b h p =
      same_fitted t (VariantCtor j) (VariantCtor k) subs (ap VariantCtor (nat_equal j k p)) h.2.1 h.2.2
  head_fitted t (VariantCtor j) _ u uid at subs binds d b h p = untrue p
  head_fitted t (FlagCtor x) (FlagCtor y) u uid at subs binds d b h p =
      same_fitted t (FlagCtor x) (FlagCtor y) subs (ap FlagCtor (flag_equal x y p)) h.2.1 h.2.2
  head_fitted t (FlagCtor x) _ u uid at subs binds d b h p = untrue p
  head_fitted t (TextCtor x) (TextCtor y) u uid at subs binds d b h p =
      same_fitted t (TextCtor x) (TextCtor y) subs (ap TextCtor (text_equal x y p)) h.2.1 h.2.2
  head_fitted t (TextCtor x) _ u uid at subs binds d b h p = untrue p
  head_fitted t (NumbersCtor r) (NumbersCtor s) u uid at subs binds d b h p =
      bare_fitted t (NumbersCtor r) (NumbersCtor s) subs h.2.1 (law.arity t (NumbersCtor r) d (both _ _ h.2.0).0) (law.arity t (NumbersCtor s) d b)
  head_fitted t (NumbersCtor r) _ u uid at subs binds d b h p = untrue p
  head_fitted t (RowCtor s) (RowCtor r) u uid at subs binds d b h p =
      row_fitted t s r subs d (both _ _ h.2.0).0 b p h.2.1 h.2.2
  head_fitted t (RowCtor s) _ u uid at subs binds d b h p = untrue p

  pub special_good : (c : MColumn T) (columns : List (MColumn T)) (piece : MCtor) (rows : List (MRow T)) →
      IsType c.type → IsTrue (belongs (cx.set_of c.type) piece) → AreRowsTyped cx (c ∷ columns) rows →
      AreRowsTyped cx (part_columns cx c piece ++ columns) (specialised_rows c.place piece (cx.arity piece c.type) rows)
  special_good c columns piece [] d b h = tt
  special_good c columns piece (r ∷ rows) d b h =
      rows-append cx (part_columns cx c piece ++ columns) (map (λ hs. row_with r hs [] (first_binds c.place r.heads)) (specialised_heads piece (cx.arity piece c.type) r.heads)) _
      (each (specialised_heads piece (cx.arity piece c.type) r.heads) (one r.heads h.0)) (special_good c columns piece rows d b h.1)
    where
      each : (hss : List (List (Head T))) → AllTyped cx (part_columns cx c piece ++ columns) hss →
          AreRowsTyped cx (part_columns cx c piece ++ columns) (map (λ hs. row_with r hs [] (first_binds c.place r.heads)) hss)
      each [] k = tt
      each (hs ∷ hss) k = (k.0, each hss k.1)

      parts : (hs rest : List (Head T)) → Fitted c.type piece hs → AreHeadsTyped cx columns rest →
          AreHeadsTyped cx (part_columns cx c piece ++ columns) (hs ++ rest)
      parts hs rest f k =
          typed-append cx (part_columns cx c piece) columns hs rest
          (typed_below cx (λ i. column_at (c.place ++ part_step piece i ∷ []) (part_open cx (open_of c) piece i)) (cx.arity piece c.type) hs f.0 f.1) k

      one : (hs : List (Head T)) → AreHeadsTyped cx (c ∷ columns) hs →
          AllTyped cx (part_columns cx c piece ++ columns) (specialised_heads piece (cx.arity piece c.type) hs)
      one [] k = absurd k
      one (None ∷ rest) k =
          (parts (wildcards (cx.arity piece c.type)) rest (wilds_length cx (cx.arity piece c.type), wilds_each cx (cx.sub piece c.type) (cx.arity piece c.type) 0) k.1, tt)
      one (Some (de_pat e t uid at subs binds) ∷ rest) k = go (has_piece e piece) refl
        where
          go : (x : Bool) → has_piece e piece ≡ x →
              AllTyped cx (part_columns cx c piece ++ columns)
              (cond x ((heads_of e (map Some (de_pats_list subs)) (cx.arity piece c.type) ++ rest) ∷ []) [])
          go false f = tt
          go true f =
              (parts (heads_of e (map Some (de_pats_list subs)) (cx.arity piece c.type)) rest (head_fitted c.type e piece t uid at subs binds d b k.0 f) k.1, tt)

  -- types of the parts

  types-append : (cs ds : List (MColumn T)) → AreTypes IsType cs → AreTypes IsType ds → AreTypes IsType (cs ++ ds)
  types-append [] ds h k = k
  types-append (c ∷ cs) ds h k = (h.0, types-append cs ds h.1 k)

  types_below : (f : ℕ → MColumn T) (n : ℕ) → ((i : ℕ) → i < n → IsType (f i).type) → AreTypes IsType (each_below f n)
  types_below f zero h = tt
  types_below f (suc n) h =
      types-append (each_below f n) (f n ∷ []) (types_below f n (λ i l. h i (omega arith))) (h n (omega arith), tt)

  pub special_types : (c : MColumn T) (columns : List (MColumn T)) (piece : MCtor) →
      IsTrue (belongs (cx.set_of c.type) piece) → AreTypes IsType (c ∷ columns) →
      AreTypes IsType (part_columns cx c piece ++ columns)
  special_types c columns piece b h =
      types-append (part_columns cx c piece) columns
      (types_below (λ i. column_at (c.place ++ part_step piece i ∷ []) (part_open cx (open_of c) piece i)) (cx.arity piece c.type) (λ i l. part_is_type IsType IsValue cx law c.type piece i h.0 b l)) h.1
