-- Rows of heads over open places.
use Rattle.std.proofs.Common.{◌≡◌, ℕ, zero, suc, Bool, true, false, ◌&&◌, ◌||◌, List, [], ◌∷◌, ◌++◌, map, length, Some, None, refl, sym, ap, subst, ◌∙◌, arith, length-append, IsTrue}
use Rattle.std.specs.List.{list_all, list_any, flat_map, All}
use Rattle.match_model.specs.Values.{MValue}
use Rattle.match_model.specs.Constructors.{MCtor, SingleCtor, PointCtor, LaterCtor, OtherTextCtor, VariantCtor, FlagCtor, NumbersCtor, TextCtor, RowCtor, WildCtor, OrCtor, belongs}
use Rattle.match_model.specs.Contexts.{Context, Open}
use Rattle.match_model.specs.ContextLaws.{PartsLaw}
use Rattle.match_model.specs.ArenaPatterns.{de_pat}
use Rattle.match_model.specs.ArenaWays.{chosen_of, arena_alternatives_ways}
use Rattle.match_model.specs.Pieces.{each_below}
use Rattle.match_model.specs.Rows.{Head, is_wild_ctor, is_wild, expand_row, starts_wild, row_rest, column_of, all_specialised, parts_open, starts_or}
use Rattle.match_model.specs.Matrices.{MColumn, MRow, open_of, column_at, expand_rows, specialised_rows, part_columns}
use Rattle.match_model.specs.WellTyped.{is_written, IsTyped, AreHeadsTyped}
use Rattle.match_model.specs.WitnessList.{are_wild}
use Rattle.match_model.proofs.Basics.{untrue, both}
use Rattle.constructor_sets.specs.Columns.{is_head}
use Rattle.pat_context.specs.Parts.{AreValues}
use Rattle.pattern_matrix.specs.Covering.{is_some_there, head_takes, row_takes, some_takes}
use Rattle.pattern_matrix.specs.HeadRows.{AreTypes, AreRowsTyped, AreNoneOr, opens, all_heads}
use Rattle.pattern_matrix.proofs.Takes.{pat_takes, taken_by}
use Rattle.pattern_matrix.proofs.Typed.{expand_good, column_good}
use Rattle.pattern_matrix.proofs.SpecialTyped.{AllTyped, special_good, special_types}
use Rattle.pattern_matrix.proofs.MatrixHeads.{expand_all, special_all, opens_parts}
pub use Rattle.pattern_matrix.specs.HeadRows.{cols}

-- columns of places, and rows of heads

abbrev bare : {T : Type 0} → List (List (Head T)) → List (MRow T)
bare hss = map (λ hs. record { heads = hs; arm = 0; guarded = false; chosen = []; caught = [] }) hss

opens-cols : {T : Type 0} (places : List (Open T)) → opens (cols places) ≡ places
opens-cols [] = refl
opens-cols (o ∷ places) = ap (λ ps. o ∷ ps) (opens-cols places)

heads-bare : {T : Type 0} (hss : List (List (Head T))) → all_heads (bare hss) ≡ hss
heads-bare [] = refl
heads-bare (hs ∷ hss) = ap (λ xs. hs ∷ xs) (heads-bare hss)

pub length-below : {A : Type 0} (f : ℕ → A) (n : ℕ) → length (each_below f n) ≡ n
length-below f zero = refl
length-below f (suc n) = let a = length-append (each_below f n) (f n ∷ []) in let e = length-below f n in omega (arith, a, e)

pub values-append : {T : Type 0} (IsValue : T → Bool → MValue → Type 0) (ps qs : List (Open T)) (xs ys : List MValue) →
    AreValues IsValue ps xs → AreValues IsValue qs ys → AreValues IsValue (ps ++ qs) (xs ++ ys)
values-append IsValue [] qs [] ys h k = k
values-append IsValue [] qs (x ∷ xs) ys h k = absurd h
values-append IsValue (p ∷ ps) qs [] ys h k = absurd h
values-append IsValue (p ∷ ps) qs (x ∷ xs) ys h k = (h.0, values-append IsValue ps qs xs ys h.1 k)

-- a row of wildcards takes all values of the places

wild_head_takes : {T : Type 0} (x : Head T) (v : MValue) → is_wild x ≡ true → head_takes x v ≡ true
wild_head_takes None v e = refl
wild_head_takes (Some (de_pat d t uid at subs binds)) v e = pat_takes d t uid at subs binds v ∙ go d e
  where
    go : (d : MCtor) → is_wild_ctor d ≡ true →
        taken_by d subs v (is_some_there (arena_alternatives_ways (chosen_of subs) subs v)) ≡ true
    go WildCtor e = refl
    go _ e = untrue e

wild_heads_take : {T : Type 0} (IsValue : T → Bool → MValue → Type 0) (places : List (Open T)) (row : List (Head T)) →
    are_wild places row ≡ true → (vs : List MValue) → AreValues IsValue places vs → row_takes row vs ≡ true
wild_heads_take IsValue [] [] e [] a = refl
wild_heads_take IsValue [] [] e (v ∷ vs) a = absurd a
wild_heads_take IsValue [] (h ∷ row) e vs a = untrue e
wild_heads_take IsValue (o ∷ places) [] e vs a = untrue e
wild_heads_take IsValue (o ∷ places) (h ∷ row) e [] a = absurd a
wild_heads_take IsValue (o ∷ places) (h ∷ row) e (v ∷ vs) a =
    let b = both (is_wild h) (are_wild places row) e in
    ap (λ x. x && row_takes row vs) (wild_head_takes h v b.0) ∙ wild_heads_take IsValue places row b.1 vs a.1

pub wild_row_takes : {T : Type 0} (IsValue : T → Bool → MValue → Type 0) (places : List (Open T)) (rows : List (List (Head T))) →
    list_any (are_wild places) rows ≡ true → (vs : List MValue) → AreValues IsValue places vs →
    some_takes rows vs ≡ true
wild_row_takes IsValue places [] e vs a = untrue e
wild_row_takes IsValue places (row ∷ rows) e vs a =
    go (are_wild places row) refl e (λ k. wild_row_takes IsValue places rows k vs a)
  where
    or_true : (b : Bool) → (b || true) ≡ true
    or_true true = refl
    or_true false = refl

    go : (w : Bool) → are_wild places row ≡ w → (w || list_any (are_wild places) rows) ≡ true →
        (list_any (are_wild places) rows ≡ true → some_takes rows vs ≡ true) →
        (row_takes row vs || some_takes rows vs) ≡ true
    go true f k r = ap (λ b. b || some_takes rows vs) (wild_heads_take IsValue places row f vs a)
    go false f k r = ap (λ b. row_takes row vs || b) (r k) ∙ or_true (row_takes row vs)

module _ {T : Type 0} (cx : Context T) where
  typed_bare : (columns : List (MColumn T)) (hss : List (List (Head T))) → AllTyped cx columns hss →
      AreRowsTyped cx columns (bare hss)
  typed_bare columns [] h = tt
  typed_bare columns (hs ∷ hss) h = (h.0, typed_bare columns hss h.1)

  typed_heads : (columns : List (MColumn T)) (rows : List (MRow T)) → AreRowsTyped cx columns rows →
      AllTyped cx columns (all_heads rows)
  typed_heads columns [] h = tt
  typed_heads columns (r ∷ rows) h = (h.0, typed_heads columns rows h.1)

  -- only the types of the columns count
  retype_row : (cs ds : List (MColumn T)) (hs : List (Head T)) → opens cs ≡ opens ds → AreHeadsTyped cx cs hs →
      AreHeadsTyped cx ds hs
  retype_row [] [] hs e h = h
  retype_row [] (d ∷ ds) hs e h = absurd (cc)
  retype_row (c ∷ cs) [] hs e h = absurd (cc)
  retype_row (c ∷ cs) (d ∷ ds) [] e h = absurd h
  retype_row (c ∷ cs) (d ∷ ds) (x ∷ hs) e h =
      let first : open_of c ≡ open_of d = cc in
      let rest : opens cs ≡ opens ds = cc in
      (subst (λ (o : Open T). Rattle.match_model.specs.WellTyped.IsHeadTyped cx o.type x) first h.0, retype_row cs ds hs rest h.1)

  retype : (cs ds : List (MColumn T)) (hss : List (List (Head T))) → opens cs ≡ opens ds → AllTyped cx cs hss →
      AllTyped cx ds hss
  retype cs ds [] e h = tt
  retype cs ds (hs ∷ hss) e h = (retype_row cs ds hs e h.0, retype cs ds hss e h.1)

  retypes : (IsType : T → Type 0) (cs ds : List (MColumn T)) → opens cs ≡ opens ds → AreTypes IsType cs →
      AreTypes IsType ds
  retypes IsType [] [] e h = h
  retypes IsType [] (d ∷ ds) e h = absurd (cc)
  retypes IsType (c ∷ cs) [] e h = absurd (cc)
  retypes IsType (c ∷ cs) (d ∷ ds) e h =
      let first : open_of c ≡ open_of d = cc in
      let rest : opens cs ≡ opens ds = cc in
      (subst (λ (o : Open T). IsType o.type) first h.0, retypes IsType cs ds rest h.1)

  pub rests_typed : (c : MColumn T) (columns : List (MColumn T)) (hss : List (List (Head T))) →
      AllTyped cx (c ∷ columns) hss → AllTyped cx columns (map row_rest hss)
  rests_typed c columns [] h = tt
  rests_typed c columns ([] ∷ hss) h = absurd h.0
  rests_typed c columns ((x ∷ hs) ∷ hss) h = (h.0.1, rests_typed c columns hss h.1)

  expand_same : (hss : List (List (Head T))) → all_heads (expand_rows [] (bare hss)) ≡ flat_map expand_row hss
  expand_same hss = expand_all [] (bare hss) ∙ ap (flat_map expand_row) (heads-bare hss)

  pub expanded_typed : (c : MColumn T) (columns : List (MColumn T)) (hss : List (List (Head T))) →
      AllTyped cx (c ∷ columns) hss → AllTyped cx (c ∷ columns) (flat_map expand_row hss)
  expanded_typed c columns hss h =
      subst (AllTyped cx (c ∷ columns)) (expand_same hss) (typed_heads (c ∷ columns) (expand_rows [] (bare hss)) (expand_good cx c columns [] (bare hss) (typed_bare (c ∷ columns) hss h)).0)

  abbrev pub NoneOr : List (List (Head T)) → Type 0
  NoneOr [] = Unit {0}
  NoneOr (hs ∷ hss) = (starts_or hs ≡ false) × NoneOr hss

  none_heads : (rows : List (MRow T)) → AreNoneOr rows → NoneOr (all_heads rows)
  none_heads [] h = tt
  none_heads (r ∷ rows) h = (h.0, none_heads rows h.1)

  none_bare : (hss : List (List (Head T))) → NoneOr hss → AreNoneOr (bare hss)
  none_bare [] h = tt
  none_bare (hs ∷ hss) h = (h.0, none_bare hss h.1)

  pub expanded_none : (c : MColumn T) (columns : List (MColumn T)) (hss : List (List (Head T))) →
      AllTyped cx (c ∷ columns) hss → NoneOr (flat_map expand_row hss)
  expanded_none c columns hss h =
      subst NoneOr (expand_same hss) (none_heads (expand_rows [] (bare hss)) (expand_good cx c columns [] (bare hss) (typed_bare (c ∷ columns) hss h)).1)

  pub heads_good : (c : MColumn T) (columns : List (MColumn T)) (hss : List (List (Head T))) →
      AllTyped cx (c ∷ columns) hss → NoneOr hss → All (λ h. IsTrue (is_head (cx.set_of c.type) h)) (column_of hss)
  heads_good c columns hss h k =
      subst (λ xs. All (λ d. IsTrue (is_head (cx.set_of c.type) d)) (column_of xs)) (heads-bare hss) (column_good cx c columns (bare hss) (typed_bare (c ∷ columns) hss h) (none_bare hss k))

  -- wildcards take everything
  pub wild_takes : (c : MColumn T) (columns : List (MColumn T)) (hss : List (List (Head T))) (v : MValue) (vs : List MValue) →
      AllTyped cx (c ∷ columns) hss → list_all starts_wild hss ≡ true →
      some_takes hss (v ∷ vs) ≡ some_takes (map row_rest hss) vs
  wild_takes c columns [] v vs h k = refl
  wild_takes c columns ([] ∷ hss) v vs h k = absurd h.0
  wild_takes c columns ((x ∷ hs) ∷ hss) v vs h k =
      let s = both (starts_wild (x ∷ hs)) (list_all starts_wild hss) k in
      ap (λ b. (b && row_takes hs vs) || some_takes hss (v ∷ vs)) (wild_head_takes x v s.0)
      ∙ ap (λ b. row_takes hs vs || b) (wild_takes c columns hss v vs h.1 s.1)

  -- over a type without constructors all heads are wildcards
  pub all_wild : (c : MColumn T) (columns : List (MColumn T)) (hss : List (List (Head T))) →
      ((d : MCtor) → belongs (cx.set_of c.type) d ≡ false) → AllTyped cx (c ∷ columns) hss → NoneOr hss →
      list_all starts_wild hss ≡ true
  all_wild c columns [] f h k = refl
  all_wild c columns ([] ∷ hss) f h k = absurd h.0
  all_wild c columns ((None ∷ hs) ∷ hss) f h k = all_wild c columns hss f h.1 k.1
  all_wild c columns ((Some (de_pat d t uid at subs binds) ∷ hs) ∷ hss) f h k =
      ap (λ b. b && list_all starts_wild hss) (go d k.0 h.0.0) ∙ all_wild c columns hss f h.1 k.1
    where
      no : (d : MCtor) → IsTrue (belongs (cx.set_of c.type) d && is_written d) → is_wild_ctor d ≡ true
      no d b = untrue (sym (ap (λ x. x && is_written d) (f d)) ∙ b)

      go : (d : MCtor) → starts_or (Some (de_pat d t uid at subs binds) ∷ hs) ≡ false →
          IsTyped cx c.type (de_pat d t uid at subs binds) → is_wild_ctor d ≡ true
      go WildCtor e p = refl
      go OrCtor e p = untrue (sym e)
      go SingleCtor e p = no SingleCtor p.2.0
      go PointCtor e p = no PointCtor p.2.0
      go LaterCtor e p = no LaterCtor p.2.0
      go OtherTextCtor e p = no OtherTextCtor p.2.0
      go (VariantCtor i) e p = no (VariantCtor i) p.2.0
      go (FlagCtor i) e p = no (FlagCtor i) p.2.0
      go (NumbersCtor i) e p = no (NumbersCtor i) p.2.0
      go (TextCtor i) e p = no (TextCtor i) p.2.0
      go (RowCtor i) e p = no (RowCtor i) p.2.0

module _ {T : Type 0} (IsType : T → Type 0) (IsValue : T → Bool → MValue → Type 0) (cx : Context T) (law : PartsLaw IsType IsValue cx) where
  parts_same : (o : Open T) (places : List (Open T)) (piece : MCtor) →
      opens (part_columns cx (column_at [] o) piece ++ cols places) ≡ opens (cols (parts_open cx o piece ++ places))
  parts_same o places piece =
      opens_parts cx (column_at [] o) (cols places) piece
      ∙ ap (λ ps. parts_open cx o piece ++ ps) (opens-cols places)
      ∙ sym (opens-cols (parts_open cx o piece ++ places))

  pub specials_typed : (o : Open T) (places : List (Open T)) (piece : MCtor) (hss : List (List (Head T))) →
      IsType o.type → IsTrue (belongs (cx.set_of o.type) piece) → AllTyped cx (cols (o ∷ places)) hss →
      AllTyped cx (cols (parts_open cx o piece ++ places)) (all_specialised piece (cx.arity piece o.type) hss)
  specials_typed o places piece hss d b h =
      retype cx (part_columns cx (column_at [] o) piece ++ cols places) (cols (parts_open cx o piece ++ places)) (all_specialised piece (cx.arity piece o.type) hss) (parts_same o places piece)
      (subst (AllTyped cx (part_columns cx (column_at [] o) piece ++ cols places)) (special_all [] piece (cx.arity piece o.type) (bare hss) ∙ ap (all_specialised piece (cx.arity piece o.type)) (heads-bare hss))
      (typed_heads cx (part_columns cx (column_at [] o) piece ++ cols places) (specialised_rows [] piece (cx.arity piece o.type) (bare hss))
      (special_good IsType IsValue cx law (column_at [] o) (cols places) piece (bare hss) d b (typed_bare cx (cols (o ∷ places)) hss h))))

  pub specials_types : (o : Open T) (places : List (Open T)) (piece : MCtor) →
      IsTrue (belongs (cx.set_of o.type) piece) → AreTypes IsType (cols (o ∷ places)) →
      AreTypes IsType (cols (parts_open cx o piece ++ places))
  specials_types o places piece b h =
      retypes cx IsType (part_columns cx (column_at [] o) piece ++ cols places) (cols (parts_open cx o piece ++ places)) (parts_same o places piece)
      (special_types IsType IsValue cx law (column_at [] o) (cols places) piece b h)
